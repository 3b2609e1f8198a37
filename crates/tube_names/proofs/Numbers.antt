-- The numbers and the cells of variables, one by one.
use Rattle.std.proofs.Common.{◌≡◌, ℕ, ◌<◌, List, arith, ap, subst, ◌∙◌, length, slice_index, slice_index_or, All}
use Rattle.std.proofs.lemmas.List.{get_or-map, length-map}
use Rattle.tube_spec.specs.Shape.{Shape}
use Rattle.tube_store.specs.declared.VarId.{VarId}
use Rattle.tube_names.specs.Points.{numbers, cells_of}

pub numbers-length : (vars : List VarId) → length (numbers vars) ≡ length vars
numbers-length vars = length-map vars (λ (v : VarId). v.0)

pub numbers-at : (vars : List VarId) (i : ℕ) (d : VarId) → i < length vars → slice_index (numbers vars) i ≡ (slice_index_or vars i d).0
numbers-at vars i d l = get_or-map (λ (v : VarId). v.0) vars i d 0 l

pub named-at : (n : ℕ) (vars : List VarId) → All (λ v. v < n) (numbers vars) → (i : ℕ) (d : VarId) → i < length vars → (slice_index_or vars i d).0 < n
named-at n vars named i d l = subst (λ (v : ℕ). v < n) (numbers-at vars i d l) (named i 0 (omega (arith, l, numbers-length vars)))

pub cells-length : (s : Shape) (vars : List VarId) → length (cells_of s (numbers vars)) ≡ length vars
cells-length s vars = length-map (numbers vars) (slice_index s.vars) ∙ numbers-length vars

pub cell-at : (s : Shape) (vars : List VarId) (i : ℕ) (d : VarId) → i < length vars → slice_index (cells_of s (numbers vars)) i ≡ slice_index s.vars (slice_index_or vars i d).0
cell-at s vars i d l =
    get_or-map (slice_index s.vars) (numbers vars) i 0 0 (omega (arith, l, numbers-length vars)) ∙ ap (slice_index s.vars) (numbers-at vars i d l)
