-- The marks of the contractors of a network, which stand in a list, each under its number or none where it was taken out.
use Rattle.std.specs.Prelude.{◌≡◌, ℕ, ◌<◌, ◌≤◌, Option, Some, List, [], true, length, Contains, slice_get, slice_index_or}
use Rattle.tube_spec.specs.Span.{Span}
use Rattle.tube_spec.specs.Shape.{Shape}
use Rattle.tube_spec.specs.Projection.{Projection}
use Rattle.ctc_parts.specs.Parts.{AreClean}
use Rattle.part_marks.specs.Marks.{Marked, marked_at}

-- the marks under a number
abbrev pub marks_at : List Marked → ℕ → Marked
marks_at marks k = slice_index_or marks k (record { flags = []; first = 0; end = 0 })

-- a fact about each contractor and its number
abbrev pub Each : {C : Type 0} → List (Option C) → (ℕ → C → Type 0) → Type 0
Each {C} cs P = (k : ℕ) (c : C) → slice_get cs k ≡ Some (Some c) → P k c

-- each contractor has a mark for each of its parts
abbrev pub AreBeside : {C : Type 0} → (C → Shape → ℕ) → Shape → List (Option C) → List Marked → Type 0
AreBeside parts s cs marks = Each cs (λ k c. parts c s ≤ length (marks_at marks k).flags)

-- where the box is not empty, it is stable under each part of a contractor that is not marked
abbrev pub AreMarked : {C : Type 0} → (C → Shape → ℕ) → (C → Shape → ℕ → List Projection) → Shape → Option (List Span) → List (Option C) → List Marked → Type 0
AreMarked parts part s box cs marks = Each cs (λ k c. AreClean (parts c s) (part c s) (marked_at (marks_at marks k)) box)

-- no mark was cleared
pub record KeepsMarks (old new : List Marked) : Type 0 where
  pub len : length new ≡ length old
  pub room : (k : ℕ) → length (marks_at new k).flags ≡ length (marks_at old k).flags
  pub kept : (k i : ℕ) → marked_at (marks_at old k) i ≡ true → marked_at (marks_at new k) i ≡ true

-- of the contractor with a number the parts are marked that read a cell
abbrev pub IsReached : {C : Type 0} → (C → Shape → ℕ) → (C → Shape → ℕ → List ℕ) → Shape → List (Option C) → List Marked → ℕ → ℕ → Type 0
IsReached {C} parts part_scope s cs marks cell k =
    (c : C) (i : ℕ) → slice_get cs k ≡ Some (Some c) → i < parts c s → Contains (part_scope c s i) cell → marked_at (marks_at marks k) i ≡ true
