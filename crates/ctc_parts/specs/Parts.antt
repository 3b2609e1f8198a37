-- Projections in parts, some of which are marked.
use Rattle.std.specs.Prelude.{◌≡◌, ℕ, zero, suc, ◌+◌, ◌<◌, ◌≤◌, leb, ◌&&◌, Option, List, [], ◌++◌, Bool, true, false, IsTrue, IfSome, All, Contains, slice_index_or}
use Rattle.tube_spec.specs.Span.{Span}
use Rattle.tube_spec.specs.Projection.{Projection, IsStable}

-- the lists f 0, f 1 and so on below n, one after another
abbrev pub each_below : {X : Type 0} → (ℕ → List X) → ℕ → List X
each_below f zero = []
each_below f (suc n) = each_below f n ++ f n

-- a part is marked: its number lies from the first to below the end, and its flag is set
abbrev pub marked_in : List Bool → ℕ → ℕ → ℕ → Bool
marked_in marks first end i = leb first i && (leb (i + 1) end && slice_index_or marks i false)

-- where the box is not empty, it is stable under each part that is not marked
abbrev pub AreClean : ℕ → (ℕ → List Projection) → (ℕ → Bool) → Option (List Span) → Type 0
AreClean n part marked box = IfSome box (λ xs. (i : ℕ) → i < n → marked i ≡ false → All (IsStable xs) (part i))

-- the parts that may read a cell have their numbers from the first to below the end
abbrev pub IsReach : ℕ → (ℕ → List ℕ) → ℕ → ℕ → ℕ → Type 0
IsReach n part_scope cell first end = (i : ℕ) → i < n → Contains (part_scope i) cell → (first ≤ i) × (i < end)

-- Where the box is not empty, the answer is true only if it is stable under each marked part, and false only if not under all parts.
abbrev pub ChecksMarked : ℕ → (ℕ → List Projection) → (ℕ → Bool) → Option (List Span) → Bool → Type 0
ChecksMarked n part marked box held = IfSome box (λ xs. (IsTrue held → (i : ℕ) → i < n → marked i ≡ true → All (IsStable xs) (part i)) × (((i : ℕ) → i < n → All (IsStable xs) (part i)) → IsTrue held))

-- the same of one part, by its flag
abbrev pub ChecksFlagged : List Projection → Bool → Option (List Span) → Bool → Type 0
ChecksFlagged part flag box held = IfSome box (λ xs. (IsTrue held → flag ≡ true → All (IsStable xs) part) × (All (IsStable xs) part → IsTrue held))
