-- Where the cells of points lie, and that additions leave them there.
use Rattle.std.proofs.Common.{◌≡◌, ℕ, suc, ◌<◌, List, [], ◌∷◌, arith, refl, sym, ap, ap₂, subst, ◌∙◌, length, slice_index, slice_index_or, map, All, length-append}
use Rattle.std.specs.List.{range_with_len}
use Rattle.std.proofs.Math.ListN.{get_or-append}
use Rattle.std.proofs.lemmas.List.Elements.{All-map}
use Rattle.std.proofs.lemmas.List.FromFn.{length-map-range_with_len, get_or-map-range_with_len}
use Rattle.tube_spec.specs.Shape.{Shape, IsShape, Extends}
use Rattle.tube_names.specs.Points.{cells_of}

-- what holds of f 0, f 1 and so on below n holds of each in their list
pub All-each : {X : Type 0} (P : X → Type 0) (f : ℕ → X) (n : ℕ) → ((i : ℕ) → i < n → P (f i)) → All P (map f (range_with_len 0 n))
All-each P f n h = λ i d l.
    let m : i < n = omega (arith, l, length-map-range_with_len f 0 n) in
    subst P (sym (get_or-map-range_with_len f 0 n i i d m (omega arith))) (h i m)

pub cells-in : (s : Shape) → IsShape s → (vars : List ℕ) → All (λ v. v < length s.vars) vars → All (λ k. k < s.cells) (cells_of s vars)
cells-in s shape vars named = All-map (λ (k : ℕ). k < s.cells) (slice_index s.vars) vars (λ i d l. shape.vars (slice_index_or vars i d) 0 (named i d l))

module _ (s t : Shape) (grows : Extends s t) where
  pub vars-more : (vars : List ℕ) → All (λ v. v < length s.vars) vars → All (λ v. v < length t.vars) vars
  vars-more vars named = λ i d l. omega (arith, named i d l, ap length grows.vars.1, length-append s.vars grows.vars.0)

  -- a variable of the old shape has its cell where it was
  pub cells-same : (vars : List ℕ) → All (λ v. v < length s.vars) vars → cells_of t vars ≡ cells_of s vars
  cells-same [] named = refl
  cells-same (v ∷ vars) named =
      ap₂ ◌∷◌ (ap (λ (l : List ℕ). slice_index l v) grows.vars.1 ∙ get_or-append s.vars grows.vars.0 0 v (named 0 v (omega arith)))
      (cells-same vars (λ i d l. named (suc i) d (omega (arith, l))))
