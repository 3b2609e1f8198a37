use Rattle.std.proofs.Common.{◌≡◌, ◌<◌, ◌⊎◌, inl, inr, ◌↔◌, ℕ, Some, true, List, Bool, IfSome, ap, ◌∙◌, slice_get, set}
use Rattle.cell_readers.proofs.Counts.{mark-here, mark-other}
use Rattle.part_marks.specs.Marks.{marked_at}
use Rattle.part_marks.specs.Nets.{marks_at}
use Rattle.ctc_network.specs.Nets.{of_place}
use Rattle.ctc_network.specs.Resetting.{Uses}
use Rattle.ctc_network.proofs.Waking.{inside-there}
use Rattle.ctc_network.proofs.Resets.{at-place, beside-place, keeps-written, marked-place, unused-place}
use Rattle.ctc_network.proofs.rousing.rouse_at.Goals as goal

pub mark_all-requires-clause-len : goal.mark_all-requires-clause-len
mark_all-requires-clause-len g c =
    let cs = c.args.contractors.now in
    let k = c.args.number in
    let there = inside-there cs k c.index-contractors-place-then-uses_at.result c.requires.among c.index-contractors-place-then-uses_at.is in
    beside-place g.C.Parted.parts c.args.store.now.shape cs c.args.marks.now k c.index-contractors-place-then-uses_at.result c.index-marks-place.result c.requires.beside there c.requires.marks

pub returns-then-uses_at-clause-others : goal.returns-then-uses_at-clause-others
returns-then-uses_at-clause-others g c k n = ap (λ (ws : List Bool). slice_get ws k) c.wake.ensures ∙ mark-other c.args.waiting.now c.args.number k true n

pub returns-then-uses_at-clause-roused : goal.returns-then-uses_at-clause-roused
returns-then-uses_at-clause-roused g c =
    let K = g.C.Contractor in
    let cs = c.args.contractors.now in
    let k = c.args.number in
    let s = c.args.store.now.shape in
    at-place (λ d. (slice_get c.wake.new.self k ≡ Some true) ↔ ((slice_get c.args.waiting.now k ≡ Some true) ⊎ Uses c.args.cells.now (of_place K.scope d s) (of_place K.projections d s))) cs k c.index-contractors-place.result
    (inside-there cs k c.index-contractors-place.result c.requires.among c.index-contractors-place.is)
    (λ w. inr (c.uses_at.ensures.0 c.if-uses_at.true), λ h. ap (λ (ws : List Bool). slice_get ws k) c.wake.ensures ∙ mark-here c.args.waiting.now k true c.requires.waiting)

pub returns-then-uses_at-clause-kept : goal.returns-then-uses_at-clause-kept
returns-then-uses_at-clause-kept g c = keeps-written c.args.marks.now c.args.number c.index-marks-place.result c.mark_all.new.marks c.requires.marks c.mark_all.ensures.len c.mark_all.ensures.kept

pub returns-then-uses_at-clause-marked : goal.returns-then-uses_at-clause-marked
returns-then-uses_at-clause-marked g c =
    let K = g.C.Contractor in
    let P = g.C.Parted in
    let cs = c.args.contractors.now in
    let k = c.args.number in
    let s = c.args.store.now.shape in
    at-place (λ o. IfSome o (λ d. Uses c.args.cells.now (K.scope d s) (K.projections d s) → (i : ℕ) → i < P.parts d s → marked_at (marks_at (set c.args.marks.now k c.mark_all.new.marks) k) i ≡ true)) cs k c.index-contractors-place-then-uses_at.result
    (inside-there cs k c.index-contractors-place-then-uses_at.result c.requires.among c.index-contractors-place-then-uses_at.is)
    (marked-place K.projections K.scope P.parts s c.args.cells.now c.index-contractors-place-then-uses_at.result c.args.marks.now k c.mark_all.new.marks c.requires.marks c.mark_all.ensures.marked)

pub returns-else-uses_at-clause-roused : goal.returns-else-uses_at-clause-roused
returns-else-uses_at-clause-roused g c =
    let K = g.C.Contractor in
    let cs = c.args.contractors.now in
    let k = c.args.number in
    let s = c.args.store.now.shape in
    at-place (λ d. (slice_get c.args.waiting.now k ≡ Some true) ↔ ((slice_get c.args.waiting.now k ≡ Some true) ⊎ Uses c.args.cells.now (of_place K.scope d s) (of_place K.projections d s))) cs k c.index-contractors-place.result
    (inside-there cs k c.index-contractors-place.result c.requires.among c.index-contractors-place.is)
    (λ w. inl w, λ h. elim h [ inl w ↦ w | inr used ↦ let yes = c.uses_at.ensures.1 used in absurd (cc (yes, c.if-uses_at.false)) ])

pub returns-else-uses_at-clause-marked : goal.returns-else-uses_at-clause-marked
returns-else-uses_at-clause-marked g c =
    let K = g.C.Contractor in
    let P = g.C.Parted in
    let cs = c.args.contractors.now in
    let k = c.args.number in
    let s = c.args.store.now.shape in
    at-place (λ o. IfSome o (λ d. Uses c.args.cells.now (K.scope d s) (K.projections d s) → (i : ℕ) → i < P.parts d s → marked_at (marks_at c.args.marks.now k) i ≡ true)) cs k c.index-contractors-place.result
    (inside-there cs k c.index-contractors-place.result c.requires.among c.index-contractors-place.is)
    (unused-place K.projections K.scope P.parts s c.args.cells.now c.index-contractors-place.result (λ d. (i : ℕ) → i < P.parts d s → marked_at (marks_at c.args.marks.now k) i ≡ true) (λ used. let yes = c.uses_at.ensures.1 used in absurd (cc (yes, c.if-uses_at.false))))
