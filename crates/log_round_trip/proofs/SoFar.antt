-- What the first records of an accepted mission make.
use Rattle.std.proofs.Common.{◌≡◌, ℕ, Bool, true, false, ◌&&◌, ◌||◌, cond, List, [], ◌∷◌, ◌++◌, inl, inr, ◌⊎◌, refl, sym, ap, ◌∙◌, append_assoc}
use Rattle.std.specs.Prelude.{fold}
use Rattle.std.specs.List.{list_all}
use Rattle.std.proofs.lemmas.Bool.{cases_Bool}
use Rattle.std.proofs.lemmas.List.Folds.{list_any-append}
use Rattle.std.proofs.lemmas.List.Sums.{fold-append}
use Rattle.slice_gates.specs.Cuts.{uniform_cuts}
use Rattle.mission_items.specs.Cuts.{boundaries, with_cut}
use Rattle.mission_items.specs.Made.{has_head, is_head}
use Rattle.mission_items.specs.Valid.{AreRight, AreRightFrom, IsRight, may_precede_cut}
use Rattle.mission_items.specs.declared.item.Item.{Item}
use Rattle.mission_items.specs.declared.item.Item.TheVariants as item
use Rattle.mission_items.specs.declared.mission.Mission.{Mission}
use Rattle.log_draft.specs.Kept.{is_note_item}
use Rattle.log_draft.proofs.Records.{all-last}

-- the mission so far, once there is a mission record
abbrev pub begun : Mission → List Item → Mission
begun m before = record { version = m.version; ticks = m.ticks; width = m.width; cuts = boundaries m.ticks m.width before; items = before }

-- and before that
abbrev pub headless : List Item → Mission
headless before = record { version = 0; ticks = 0; width = 0; cuts = []; items = before }

abbrev pub so_far : Mission → List Item → Mission
so_far m before = cond (has_head before) (begun m before) (headless before)

-- ---- notes before the mission record

any_here : (xs ys : List Item) → has_head xs ≡ true → has_head (xs ++ ys) ≡ true
any_here xs ys h = list_any-append is_head xs ys ∙ ap (λ (b : Bool). b || has_head ys) h

no_head : (xs ys : List Item) → has_head (xs ++ ys) ≡ false → has_head xs ≡ true → false ≡ true
no_head xs ys none some = sym none ∙ any_here xs ys some

notes-from : (version end : ℕ) (before items : List Item) → AreRightFrom version end before items → has_head (before ++ items) ≡ false → list_all is_note_item items ≡ true
notes-from version end before [] right none = refl
notes-from version end before (item.Head ∷ items) right none =
    let no : false ≡ true = sym none ∙ (list_any-append is_head before (item.Head ∷ items) ∙ or_true (has_head before)) in cc no
  where
    or_true : (b : Bool) → (b || true) ≡ true
    or_true true = refl
    or_true false = refl
notes-from version end before (item.Note ∷ items) right none =
    notes-from version end (before ++ item.Note ∷ []) items right.2 (ap has_head (append_assoc before (item.Note ∷ []) items) ∙ none)
notes-from version end before (i ∷ items) right none = let no : false ≡ true = no_head before (i ∷ items) none right.0 in cc no

pub only_notes : (version end : ℕ) (before : List Item) → AreRight version end before → has_head before ≡ false → list_all is_note_item before ≡ true
only_notes version end before right none = notes-from version end [] before right none

-- ---- no cuts after other records

and_false : (b : Bool) → (false && b) ≡ false
and_false b = refl

cuts-rest : (version end : ℕ) (before rest : List Item) (cuts : List ℕ) → AreRightFrom version end before rest → list_all may_precede_cut before ≡ false → fold with_cut cuts rest ≡ cuts
cuts-rest version end before [] cuts right closed = refl
cuts-rest version end before (item.Cut tick ∷ rest) cuts right closed = let no : false ≡ true = sym closed ∙ right.1.2 in cc no
cuts-rest version end before (i ∷ rest) cuts right closed =
    cuts-rest version end (before ++ i ∷ []) rest cuts right.2 (all-last may_precede_cut before i ∙ ap (λ (b : Bool). b && may_precede_cut i) closed)

cut-here : (version end : ℕ) (before : List Item) (i : Item) (cuts : List ℕ) → IsRight version end before i → list_all may_precede_cut (before ++ i ∷ []) ≡ false → with_cut cuts i ≡ cuts
cut-here version end before (item.Cut tick) cuts right closed =
    let no : false ≡ true = sym closed ∙ (all-last may_precede_cut before (item.Cut tick) ∙ ap (λ (b : Bool). b && true) right.2) in cc no
cut-here version end before i cuts right closed = refl

-- the boundaries after the first records are those of the mission, or all of these may stand before a cut
pub boundaries-known : (ticks width version end : ℕ) (before rest : List Item) (i : Item) → AreRightFrom version end before (i ∷ rest)
    → (boundaries ticks width before ≡ boundaries ticks width (before ++ i ∷ rest)) ⊎ (list_all may_precede_cut (before ++ i ∷ []) ≡ true)
boundaries-known ticks width version end before rest i right = elim (cases_Bool (list_all may_precede_cut (before ++ i ∷ []))) [
  | inl open_ ↦ inr open_
  | inr closed ↦
      let cuts = boundaries ticks width before in
      inl (sym (fold-append with_cut (uniform_cuts ticks width) before (i ∷ rest)
      ∙ (cuts-rest version end (before ++ i ∷ []) rest (with_cut cuts i) right.2 closed ∙ cut-here version end before i cuts right.1 closed)))
]
