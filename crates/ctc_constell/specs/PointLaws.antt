-- Where the cells of marks lie, that additions leave them there, and what boxes give points.
use Rattle.std.proofs.Common.{◌≡◌, ℕ, zero, suc, ◌<◌, List, [], ◌∷◌, arith, refl, ap₂, length, slice_index_or, map, All, Contains}
use Rattle.std.specs.List.{concat}
use Rattle.std.proofs.lemmas.List.Elements.{All-map, All-append, All-nil, Contains-append_left, Contains-append_right}
use Rattle.tube_spec.specs.Span.{Span, IsWithin, point}
use Rattle.tube_spec.specs.Shape.{Shape, IsShape, Extends}
use Rattle.tube_spec.specs.Box.{cell_at, IsBelow}
use Rattle.tube_spec.specs.Assignment.{Assignment, IsHull}
use Rattle.tube_spec.proofs.Spans.{IsWithin-refl}
use Rattle.interval_box.specs.Parts.{part_of}
use Rattle.ctc_constell.specs.Points.{box_of, place_in}
use Rattle.tube_names.specs.Points.{cells_of}
use Rattle.tube_names.proofs.PointCells.{cells-in, cells-same}
use Rattle.ctc_constell.specs.Constellations.{mark_at}

-- what holds of the elements of each list holds of those of all
pub All-tail : {X : Type 0} (P : X → Type 0) (x : X) (xs : List X) → All P (x ∷ xs) → All P xs
All-tail P x xs h = λ i d l. h (suc i) d (omega (arith, l))

pub All-concat : (P : ℕ → Type 0) (lists : List (List ℕ)) → All (All P) lists → All P (concat lists)
All-concat P [] h = All-nil P
All-concat P (l ∷ ls) h = All-append P l (concat ls) (h 0 [] (omega arith)) (All-concat P ls (All-tail (All P) l ls h))

-- a cell of a mark is one of those of all marks
pub contains-concat : (marks : List (List ℕ)) (k c : ℕ) → k < length marks → Contains (mark_at marks k) c → Contains (concat marks) c
contains-concat [] k c l h = absurd (omega (arith, l))
contains-concat (m ∷ ms) zero c l h = Contains-append_left m (concat ms) c h
contains-concat (m ∷ ms) (suc k) c l h = Contains-append_right m (concat ms) c (contains-concat ms k c (omega (arith, l)) h)

module _ (s : Shape) (shape : IsShape s) where
  pub marks-in : (marks : List (List ℕ)) → All (λ mark. All (λ v. v < length s.vars) mark) marks → All (λ k. k < s.cells) (concat (map (cells_of s) marks))
  marks-in marks named = All-concat (λ k. k < s.cells) (map (cells_of s) marks) (All-map (All (λ k. k < s.cells)) (cells_of s) marks (λ i d l. cells-in s shape (slice_index_or marks i d) (named i d l)))

module _ (s t : Shape) (grows : Extends s t) where
  pub marks-same : (marks : List (List ℕ)) → All (λ mark. All (λ v. v < length s.vars) mark) marks → map (cells_of t) marks ≡ map (cells_of s) marks
  marks-same [] named = refl
  marks-same (m ∷ ms) named = ap₂ ◌∷◌ (cells-same s t grows m (named 0 [] (omega arith))) (marks-same ms (All-tail (λ mark. All (λ v. v < length s.vars) mark) m ms named))

-- a lesser box gives a point a lesser box
pub part-mono : (xs ys : List Span) → IsBelow xs ys → (cells : List ℕ) (i : ℕ) → IsWithin (part_of (box_of xs cells) i) (part_of (box_of ys cells) i)
part-mono xs ys low [] i = IsWithin-refl _
part-mono xs ys low (c ∷ cells) zero = low.each c
part-mono xs ys low (c ∷ cells) (suc i) = part-mono xs ys low cells i

-- boxes that agree on the cells of a point give it the same box
pub box-same : (xs ys : List Span) (cells : List ℕ) → ((k : ℕ) → Contains cells k → cell_at xs k ≡ cell_at ys k) → box_of xs cells ≡ box_of ys cells
box-same xs ys [] same = refl
box-same xs ys (c ∷ cells) same = ap₂ ◌∷◌ (same c (0, omega arith, refl)) (box-same xs ys cells (λ k h. same k (suc h.0, omega (arith, h.1), h.2)))

-- the hull of an assignment gives a point the box of its place
pub hull-place : (s : Shape) (a : Assignment) (xs : List Span) → IsHull s a xs → (vars : List ℕ) → All (λ v. v < length s.vars) vars → box_of xs (cells_of s vars) ≡ map point (place_in a vars)
hull-place s a xs hull [] named = refl
hull-place s a xs hull (v ∷ vars) named = ap₂ ◌∷◌ (hull.vars v (named 0 v (omega arith))) (hull-place s a xs hull vars (All-tail (λ v. v < length s.vars) v vars named))
