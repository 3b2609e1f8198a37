use Rattle.std.proofs.Common.{◌≡◌, true, false, arith, slice_index_or}
use Rattle.ctc_parts.specs.Parts.{marked_in}
use Rattle.ctc_parts.proofs.Marking.{marked-flag}
use Rattle.ctc_parts.proofs.Testing.{tested-none, tested-more}
use Rattle.ctc_parts.proofs.sweep.is_each_marked_held.Goals as goal

pub loop-i-init : goal.loop-i-init
loop-i-init g c = tested-none (g.P.Parts.part c.args.parts.now c.args.store.now.shape) c.args.marks.now c.args.within.start c.args.within.end c.args.store.now.box

pub loop-i-preserved : goal.loop-i-preserved
loop-i-preserved g c =
    let s = c.args.store.now in
    let marks = c.args.marks.now in
    let first = c.args.within.start in
    let end = c.args.within.end in
    let i = c.loop-i.i in
    let held : c.is_held_if_flagged.result ≡ true = grind arith in
    tested-more (g.P.Parts.part c.args.parts.now s.shape) (marked_in marks first end) s.box i (slice_index_or marks i false) c.is_held_if_flagged.result held (λ m. marked-flag marks first end i m) c.loop-i.invariant c.is_held_if_flagged.ensures
