use Rattle.std.proofs.Common.{◌+◌, ◌<◌, ◌≤◌, inl, false, arith, refl, slice_index_or}
use Rattle.ctc_parts.specs.Parts.{marked_in}
use Rattle.ctc_parts.proofs.Visiting.{swept-none, swept-out, swept-skip, sweep-turn, none-before, marked-stands}
use Rattle.ctc_parts.proofs.sweep.sweep_up.Goals as goal

pub loop-i-init : goal.loop-i-init
loop-i-init g c =
    let P = g.P.Parts in
    let me = c.args.parts.now in
    let a = c.args.store.now in
    let first = c.args.within.start in
    let end = c.args.within.end in
    record {
      swept = swept-none (P.parts me a.shape) (P.part me a.shape) (marked_in c.args.marks.now first end) first a c.start.result (λ i l m. none-before c.args.marks.now first end i l m) c.start.ensures.none;
      later = λ j l m. m;
      end = omega arith;
    }

pub loop-i-preserved : goal.loop-i-preserved
loop-i-preserved g c =
    let P = g.P.Parts in
    let me = c.args.parts.now in
    let a = c.args.store.now in
    let i = c.loop-i.i in
    let first = c.args.within.start in
    let end = c.args.within.end in
    let held = c.loop-i.invariant in
    let visit = c.visit_flagged-sweep in
    let inside : i < P.parts me a.shape = omega (arith, c.loop-i-test.true, c.count-i-end.ensures) in
    record {
      swept = sweep-turn (P.parts me) (P.part me) (P.fits me) (g.met.P.Parts.monotone me) (marked_in c.args.marks.now first end) (slice_index_or c.loop-i.marks i false) i a c.loop-i.store visit.new.store c.loop-i.sweep.answer visit.result.answer inside c.requires
          (λ off. marked-stands c.args.marks.now c.loop-i.marks first end i held.later (marked_in c.args.marks.now first end i) refl off) held.swept visit.ensures.turn;
      later = λ j l m. visit.ensures.later j (omega (arith, l)) (held.later j (omega (arith, l)) m);
      end = omega (arith, held.end, visit.ensures.end);
    }

pub returns-in-Empty : goal.returns-in-Empty
returns-in-Empty g c =
    let P = g.P.Parts in
    let me = c.args.parts.now in
    let a = c.args.store.now in
    let i = c.loop-i.i in
    let first = c.args.within.start in
    let end = c.args.within.end in
    let held = c.loop-i.invariant in
    let visit = c.visit_flagged-sweep in
    let inside : i < P.parts me a.shape = omega (arith, c.loop-i-test.true, c.count-i-end.ensures) in
    swept-out (P.parts me a.shape) (P.part me a.shape) (marked_in c.args.marks.now first end) (i + 1) (P.parts me a.shape) a visit.new.store visit.result.answer c.in-Empty.is
    (sweep-turn (P.parts me) (P.part me) (P.fits me) (g.met.P.Parts.monotone me) (marked_in c.args.marks.now first end) (slice_index_or c.loop-i.marks i false) i a c.loop-i.store visit.new.store c.loop-i.sweep.answer visit.result.answer inside c.requires
    (λ off. marked-stands c.args.marks.now c.loop-i.marks first end i held.later (marked_in c.args.marks.now first end i) refl off) held.swept visit.ensures.turn)

pub returns : goal.returns
returns g c =
    let P = g.P.Parts in
    let me = c.args.parts.now in
    let a = c.args.store.now in
    let i = c.loop-i.i in
    let n = P.parts me a.shape in
    let past : n ≤ i = omega (arith, c.loop-i-test.false, c.count-i-end.ensures) in
    swept-skip n (P.part me a.shape) (marked_in c.args.marks.now c.args.within.start c.args.within.end) i n a c.loop-i.store c.loop-i.sweep.answer (λ j l. inl (omega (arith, l, past))) c.loop-i.invariant.swept
