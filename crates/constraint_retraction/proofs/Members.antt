-- The members of lists of contractors and of cells.
use Rattle.std.proofs.Common.{◌≡◌, ℕ, zero, suc, ◌<◌, ◌⊎◌, inl, inr, Bool, true, false, IsTrue, IsFalse, List, [], ◌∷◌, length, arith, refl, subst, Any, Contains, flat_map}
use Rattle.std.specs.List.{slice_index_or}
use Rattle.std.proofs.lemmas.List.Elements.{All-append, All-nil}
use Rattle.tube_spec.specs.Span.{Span}
use Rattle.tube_spec.specs.Box.{IsBox}
use Rattle.tube_spec.specs.Projection.{Projection, IsStable}
use Rattle.tube_spec.specs.Fixpoint.{IsFixpoint}
use Rattle.ctc_core.proofs.Composing.{fixpoint-left, fixpoint-right}

-- a common fixpoint is one of each
pub member-fixpoint : {C : Type 0} (f : C → List Projection) (cs : List C) (c : C) (q : List Span) → Contains cs c → IsFixpoint (flat_map f cs) q → IsFixpoint (f c) q
member-fixpoint f cs c q m fix = at cs m.0 m.1 m.2 fix
  where
    at : (cs : List _) (k : ℕ) → k < length cs → slice_index_or cs k c ≡ c → IsFixpoint (flat_map f cs) q → IsFixpoint (f c) q
    at [] k l e fix = absurd (omega (arith, l))
    at (d ∷ cs) zero l e fix = subst (λ x. IsFixpoint (f x) q) e (fixpoint-left (f d) (flat_map f cs) q fix)
    at (d ∷ cs) (suc k) l e fix = at cs k (omega (arith, l)) e (fixpoint-right (f d) (flat_map f cs) q fix)

-- and a box that is one of each is a common one
pub fixpoint-members : {C : Type 0} (f : C → List Projection) (cs : List C) (q : List Span) → IsBox q → ((c : C) → Contains cs c → IsFixpoint (f c) q) → IsFixpoint (flat_map f cs) q
fixpoint-members f [] q box h = record { box = box; stable = All-nil (IsStable q) }
fixpoint-members f (c ∷ cs) q box h = record {
  box = box;
  stable = All-append (IsStable q) (f c) (flat_map f cs) (h c (0, omega arith, refl)).stable (fixpoint-members f cs q box (λ d m. h d (suc m.0, omega (arith, m.1), m.2))).stable;
}

-- some number is marked, or none is
pub any-or-none : (marks : ℕ → Bool) (ks : List ℕ) → Any (λ k. IsTrue (marks k)) ks ⊎ ((k : ℕ) → Contains ks k → IsFalse (marks k))
any-or-none marks [] = inr (λ k m. absurd (omega (arith, m.1)))
any-or-none marks (j ∷ ks) = at (marks j) refl (any-or-none marks ks)
  where
    rest : ((k : ℕ) → Contains ks k → IsFalse (marks k)) → marks j ≡ false → (k : ℕ) (i : ℕ) → i < suc (length ks) → slice_index_or (j ∷ ks) i k ≡ k → IsFalse (marks k)
    rest none e k zero l s = subst (λ (n : ℕ). IsFalse (marks n)) s e
    rest none e k (suc i) l s = none k (i, omega (arith, l), s)

    at : (b : Bool) → marks j ≡ b → Any (λ k. IsTrue (marks k)) ks ⊎ ((k : ℕ) → Contains ks k → IsFalse (marks k)) → Any (λ k. IsTrue (marks k)) (j ∷ ks) ⊎ ((k : ℕ) → Contains (j ∷ ks) k → IsFalse (marks k))
    at true e later = inl (0, j, omega arith, refl, e)
    at false e (inl a) = inl (suc a.0, a.1, omega (arith, a.2), a.3, a.4)
    at false e (inr none) = inr (λ k m. rest none e k m.0 m.1 m.2)
