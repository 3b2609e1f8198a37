-- A constraint and the written constraints that it is made of.
use Rattle.std.proofs.Common.{◌≡◌, ℕ, zero, suc, ◌+◌, ◌*◌, ◌-◌, ◌<◌, ◌≤◌, ◌⊎◌, inl, inr, List, [], ◌∷◌, ◌++◌, refl, sym, ap₂, subst, ◌∙◌, arith, Contains, flat_map, length, length-append, append-nil, slice_index}
use Rattle.std.proofs.lemmas.List.Concat.{flat_map-append}
use Rattle.std.proofs.lemmas.List.Elements.{Contains-append_cases, Contains-append_left, Contains-push, Contains-push_cases}
use Rattle.std.proofs.lemmas.List.Sums.{sum_by-cons, sum_by_push}
use Rattle.tube_spec.specs.Shape.{Shape}
use Rattle.ctc_deriv.specs.Bounds.{each_below}
use Rattle.ctc_deriv.specs.Slices.{slice_scope}
use Rattle.ctc_deriv.specs.Derivs.{deriv_scope}
use Rattle.ctc_parts.specs.Parts as parts
use Rattle.ctc_sweeps.specs.SliceSweeps.{slice_sweep_scope}
use Rattle.ctc_sweeps.specs.DerivSweeps.{deriv_sweep_scope}
use Rattle.any_ctc.specs.Constraints.{Constraint, SliceOf, SlicesOf, DerivOf, DerivsOf, constraint_projections, constraint_scope, reads_of, reads_in, written_of}

-- ---- rows of constraints

pub each-reads : (grid : List ℕ) (f : ℕ → Constraint) (m : ℕ) → ((i : ℕ) → reads_of grid (f i) ≡ m) → (n : ℕ) → reads_in grid (each_below (λ i. f i ∷ []) n) ≡ m * n
each-reads grid f m h zero = omega arith
each-reads grid f m h (suc n) = sum_by_push (reads_of grid) (each_below (λ i. f i ∷ []) n) (f n) ∙ omega (arith, each-reads grid f m h n, h n)

pub each-length : {X : Type 0} (f : ℕ → X) (n : ℕ) → length (each_below (λ i. f i ∷ []) n) ≡ n
each-length f zero = refl
each-length f (suc n) = length-append (each_below (λ i. f i ∷ []) n) (f n ∷ []) ∙ omega (arith, each-length f n)

each-flat : (s : Shape) (f : ℕ → Constraint) (n : ℕ) → flat_map (constraint_projections s) (each_below (λ i. f i ∷ []) n) ≡ parts.each_below (λ i. constraint_projections s (f i)) n
each-flat s f zero = refl
each-flat s f (suc n) =
    flat_map-append (constraint_projections s) (each_below (λ i. f i ∷ []) n) (f n ∷ [])
    ∙ ap₂ (λ xs ys. xs ++ ys) (each-flat s f n) (append-nil (constraint_projections s (f n)))

below-suc : (i n : ℕ) → i < suc n → (i < n) ⊎ (i ≡ n)
below-suc i n l = grind (arith, l)

each-contains : (f : ℕ → Constraint) (n i : ℕ) → i < n → Contains (each_below (λ j. f j ∷ []) n) (f i)
each-contains f zero i l = absurd (omega (arith, l))
each-contains f (suc n) i l = elim (below-suc i n l) [
  | inl h ↦ Contains-append_left (each_below (λ j. f j ∷ []) n) (f n ∷ []) (f i) (each-contains f n i h)
  | inr same ↦ subst (λ (j : ℕ). Contains (each_below (λ m. f m ∷ []) n ++ f n ∷ []) (f j)) (sym same) (Contains-push (each_below (λ m. f m ∷ []) n) (f n))
]

-- ---- what a constraint is made of

-- its projections are theirs
pub written-projections : (s : Shape) (c : Constraint) → flat_map (constraint_projections s) (written_of s.grid c) ≡ constraint_projections s c
written-projections s (SlicesOf x) = each-flat s (λ i. SliceOf x i) (length s.grid - 1)
written-projections s (DerivsOf x rate) = each-flat s (λ i. DerivOf x rate i) (length s.grid - 1)
written-projections s c = append-nil (constraint_projections s c)

-- it reads no more cells than they do
pub written-reads : (grid : List ℕ) (c : Constraint) → 1 ≤ length grid - 1 → reads_of grid c ≤ reads_in grid (written_of grid c)
written-reads grid (SlicesOf x) some = omega (arith, some, each-reads grid (λ i. SliceOf x i) 3 (λ i. refl) (length grid - 1))
written-reads grid (DerivsOf x rate) some = omega (arith, some, each-reads grid (λ i. DerivOf x rate i) 4 (λ i. refl) (length grid - 1))
written-reads grid c some = omega (arith, sum_by-cons (reads_of grid) c [])

-- there is one at least
pub written-some : (grid : List ℕ) (c : Constraint) → 1 ≤ length grid - 1 → 1 ≤ length (written_of grid c)
written-some grid (SlicesOf x) some = omega (arith, some, each-length (λ i. SliceOf x i) (length grid - 1))
written-some grid (DerivsOf x rate) some = omega (arith, some, each-length (λ i. DerivOf x rate i) (length grid - 1))
written-some grid c some = omega arith

-- ---- each cell that it reads is read by one of them

single-from : (f : ℕ → ℕ) (n c : ℕ) → Contains (parts.each_below (λ k. f k ∷ []) n) c → (k : ℕ) × (k < n) × (f k ≡ c)
single-from f zero c m = absurd (omega (arith, m.1))
single-from f (suc n) c m = elim (Contains-push_cases (parts.each_below (λ k. f k ∷ []) n) (f n) c m) [
  | inl h ↦ let r = single-from f n c h in (r.0, omega (arith, r.1), r.2)
  | inr e ↦ (n, omega arith, e)
]

halve : (k : ℕ) → (i : ℕ) × ((k ≡ 2 * i) ⊎ (k ≡ 2 * i + 1))
halve zero = (0, inl refl)
halve (suc k) = let h = halve k in elim h.1 [ inl e ↦ (h.0, inr (omega (arith, e))) | inr e ↦ (h.0 + 1, inl (omega (arith, e))) ]

less-or_not : (i n : ℕ) → (i < n) ⊎ (n ≤ i)
less-or_not i n = grind arith

slice-reader : (s : Shape) (x cell : ℕ) → 1 ≤ length s.grid - 1 → Contains (slice_sweep_scope s x) cell → (i : ℕ) × (i < length s.grid - 1) × Contains (slice_scope s x i) cell
slice-reader s x cell some m =
    let r = single-from (λ k. slice_index s.signals x + k) (2 * length s.grid - 1) cell m in
    at r.0 (halve r.0) (omega (arith, some, r.1)) r.2
  where
    edge : (k i : ℕ) → k ≡ 2 * i → k < 2 * (length s.grid - 1) + 1 → slice_index s.signals x + k ≡ cell → (i < length s.grid - 1) ⊎ (length s.grid - 1 ≤ i) → (j : ℕ) × (j < length s.grid - 1) × Contains (slice_scope s x j) cell
    edge k i e l f (inl h) = (i, h, (0, omega arith, omega (arith, e, f)))
    edge k i e l f (inr h) = (i - 1, omega (arith, e, l, h, some), (2, omega arith, omega (arith, e, f, h, some)))

    at : (k : ℕ) → (i : ℕ) × ((k ≡ 2 * i) ⊎ (k ≡ 2 * i + 1)) → k < 2 * (length s.grid - 1) + 1 → slice_index s.signals x + k ≡ cell → (j : ℕ) × (j < length s.grid - 1) × Contains (slice_scope s x j) cell
    at k (i, inl e) l f = edge k i e l f (less-or_not i (length s.grid - 1))
    at k (i, inr e) l f = (i, omega (arith, e, l), (1, omega arith, omega (arith, e, f)))

deriv-reader : (s : Shape) (x rate cell : ℕ) → 1 ≤ length s.grid - 1 → Contains (deriv_sweep_scope s x rate) cell → (i : ℕ) × (i < length s.grid - 1) × Contains (deriv_scope s x rate i) cell
deriv-reader s x rate cell some m =
    elim (Contains-append_cases (parts.each_below (λ k. (slice_index s.signals x + 2 * k) ∷ []) (length s.grid)) (parts.each_below (λ k. (slice_index s.signals rate + 1 + k) ∷ []) (2 * (length s.grid - 1))) cell m) [
      | inl h ↦ let r = single-from (λ k. slice_index s.signals x + 2 * k) (length s.grid) cell h in own r.0 r.1 r.2 (less-or_not r.0 (length s.grid - 1))
      | inr h ↦ let r = single-from (λ k. slice_index s.signals rate + 1 + k) (2 * (length s.grid - 1)) cell h in rates r.0 (halve r.0) r.1 r.2
    ]
  where
    own : (k : ℕ) → k < length s.grid → slice_index s.signals x + 2 * k ≡ cell → (k < length s.grid - 1) ⊎ (length s.grid - 1 ≤ k) → (j : ℕ) × (j < length s.grid - 1) × Contains (deriv_scope s x rate j) cell
    own k l f (inl h) = (k, h, (0, omega arith, f))
    own k l f (inr h) = (k - 1, omega (arith, l, h, some), (1, omega arith, omega (arith, f, h, some)))

    rates : (k : ℕ) → (i : ℕ) × ((k ≡ 2 * i) ⊎ (k ≡ 2 * i + 1)) → k < 2 * (length s.grid - 1) → slice_index s.signals rate + 1 + k ≡ cell → (j : ℕ) × (j < length s.grid - 1) × Contains (deriv_scope s x rate j) cell
    rates k (i, inl e) l f = (i, omega (arith, e, l), (2, omega arith, omega (arith, e, f)))
    rates k (i, inr e) l f = (i, omega (arith, e, l), (3, omega arith, omega (arith, e, f)))

pub written-covers : (s : Shape) (c : Constraint) (cell : ℕ) → 1 ≤ length s.grid - 1 → Contains (constraint_scope s c) cell → (d : Constraint) × Contains (written_of s.grid c) d × Contains (constraint_scope s d) cell
written-covers s (SlicesOf x) cell some m = let r = slice-reader s x cell some m in (SliceOf x r.0, each-contains (λ i. SliceOf x i) (length s.grid - 1) r.0 r.1, r.2)
written-covers s (DerivsOf x rate) cell some m = let r = deriv-reader s x rate cell some m in (DerivOf x rate r.0, each-contains (λ i. DerivOf x rate i) (length s.grid - 1) r.0 r.1, r.2)
written-covers s c cell some m = (c, (0, omega arith, refl), m)
