use Rattle.std.proofs.Common.{rules, IsSome, not, refl}
use Rattle.ctc_core.proofs.Checked.{still-yes, still-no}
use Rattle.ctc_parts.specs.Parts.{each_below, marked_in}
use Rattle.ctc_parts.proofs.Testing.{marked-checks}
use Rattle.ctc_parts.proofs.sweep.still_by_parts.Goals as goal

pub returns-clause-yes : goal.returns-clause-yes
returns-clause-yes g c =
    let P = g.P.Parts in
    let me = c.args.parts.now in
    let s = c.args.store.now in
    let held = c.is_each_marked_held.result in
    let some : IsSome s.box = search rules in
    still-yes (each_below (P.part me s.shape) (P.parts me s.shape)) s held (not held) some refl (marked-checks (P.parts me s.shape) (P.part me s.shape) (marked_in c.args.marks.now c.args.within.start c.args.within.end) s.box held c.requires.clean c.is_each_marked_held.ensures)

pub returns-clause-no : goal.returns-clause-no
returns-clause-no g c =
    let P = g.P.Parts in
    let me = c.args.parts.now in
    let s = c.args.store.now in
    let held = c.is_each_marked_held.result in
    still-no (each_below (P.part me s.shape) (P.parts me s.shape)) s held (not held) c.known.ensures refl (marked-checks (P.parts me s.shape) (P.part me s.shape) (marked_in c.args.marks.now c.args.within.start c.args.within.end) s.box held c.requires.clean c.is_each_marked_held.ensures)
