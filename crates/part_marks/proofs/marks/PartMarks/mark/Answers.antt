use Rattle.std.proofs.Common.{◌≡◌, ◌<◌, ◌≤◌, ℕ, Bool, List, true, false, length, get_or, sym, ap, subst, ◌∙◌}
use Rattle.ctc_parts.specs.Parts.{marked_in}
use Rattle.part_marks.specs.Marks.{Marked, marked_at, lent}
use Rattle.part_marks.proofs.Ranges.{mark-kept, mark-set, back-written}
use Rattle.part_marks.proofs.marks.PartMarks.mark.Goals as goal

pub returns-clause-kept : goal.returns-clause-kept
returns-clause-kept c i m =
    let old = c.self.inside.flags.items in
    let new = c.set_flags.new.flags in
    let range = c.self.inside.within in
    let hull = c.hull-self-inside.result in
    let back = back-written old c.deref_mut.result.now new c.self.inside.flags.len c.deref_mut.ensures.value c.deref_mut.ensures.len c.set_flags.ensures.len in
    subst (λ (flags : List Bool). marked_in (lent flags) hull.start hull.end i ≡ true) (sym back)
    (mark-kept old new range.start range.end hull.start hull.end (c.set_flags.ensures.len ∙ ap (length {A = Bool}) c.deref_mut.ensures.value)
    (subst (λ (flags : List Bool). (j : ℕ) → get_or flags j false ≡ true → get_or new j false ≡ true) c.deref_mut.ensures.value c.set_flags.ensures.kept)
    c.hull-self-inside.ensures.first i (subst (λ (v : Marked). marked_at v i ≡ true) (sym c.self.view_is) m))

pub returns-clause-marked : goal.returns-clause-marked
returns-clause-marked c i low high l =
    let old = c.self.inside.flags.items in
    let new = c.set_flags.new.flags in
    let range = c.args.parts in
    let hull = c.hull-self-inside.result in
    let back = back-written old c.deref_mut.result.now new c.self.inside.flags.len c.deref_mut.ensures.value c.deref_mut.ensures.len c.set_flags.ensures.len in
    subst (λ (flags : List Bool). marked_in (lent flags) hull.start hull.end i ≡ true) (sym back)
    (mark-set old new range.start range.end hull.start hull.end (c.set_flags.ensures.len ∙ ap (length {A = Bool}) c.deref_mut.ensures.value)
    (subst (λ (flags : List Bool). (j : ℕ) → range.start ≤ j → j < range.end → j < length flags → get_or new j false ≡ true) c.deref_mut.ensures.value c.set_flags.ensures.marked)
    c.hull-self-inside.ensures.second i low high (subst (λ (v : Marked). i < length v.flags) (sym c.self.view_is) l))
