-- Pairs that are joined one after another.
use Rattle.std.proofs.Common.{◌≡◌, ℕ, ◌<◌, ◌⊎◌, inl, inr, List, length, arith, refl, sym, subst, ◌∙◌, slice_index}
use Rattle.disjoint_sets.specs.Ways.{Joined, Maps}
use Rattle.disjoint_sets.specs.Trees.{IsParent, GoDown, JoinsTrees}
use Rattle.disjoint_sets.proofs.Ways.{joined-self, joined-step, joined-map}
use Rattle.linked_cells.specs.Classes.{IsParentOrBy, JoinsBy}

-- one pair
abbrev pub IsPair : ℕ → ℕ → ℕ → ℕ → Type 0
IsPair i j x y = (x ≡ i) × (y ≡ j)

-- what the one relation has, the other has
abbrev pub Within : (ℕ → ℕ → Type 0) → (ℕ → ℕ → Type 0) → Type 0
Within S T = (x y : ℕ) → S x y → T x y

-- nothing is joined
pub joins-none : (T : ℕ → ℕ → Type 0) (a : List ℕ) → GoDown a → ((x y : ℕ) → T x y → ⊥) → JoinsBy T a a
joins-none T a down none = record {
  len = refl;
  down = down;
  joined = λ x y t. absurd (none x y t);
  there = λ x y e. joined-step (IsParent a) x y e;
  back = λ x y e. joined-step (IsParentOrBy a T) x y (inl e);
}

pub joins-pair : (a b : List ℕ) (i j : ℕ) → JoinsTrees a b i j → JoinsBy (IsPair i j) a b
joins-pair a b i j h = record {
  len = h.len;
  down = h.down;
  joined = λ x y t. subst (λ (z : ℕ). Joined (IsParent b) z y) (sym t.0) (subst (Joined (IsParent b) i) (sym t.1) h.joined);
  there = h.there;
  back = h.back;
}

-- the pairs of one relation, and then those of another
pub joins-then : (S T U : ℕ → ℕ → Type 0) (a b c : List ℕ) → JoinsBy S a b → JoinsBy T b c → Within S U → Within T U → ((x y : ℕ) → U x y → S x y ⊎ T x y) → JoinsBy U a c
joins-then S T U a b c p q su tu us = record {
  len = q.len ∙ p.len;
  down = q.down;
  joined = λ x y u. elim (us x y u) [ inl s ↦ joined-map (IsParent b) (IsParent c) q.there x y (p.joined x y s) | inr t ↦ q.joined x y t ];
  there = λ x y e. joined-map (IsParent b) (IsParent c) q.there x y (p.there x y e);
  back = λ x y e. joined-map (IsParentOrBy b T) (IsParentOrBy a U) down x y (q.back x y e);
}
  where
    low : Maps (IsParentOrBy a S) (IsParentOrBy a U)
    low x y (inl e) = joined-step (IsParentOrBy a U) x y (inl e)
    low x y (inr s) = joined-step (IsParentOrBy a U) x y (inr (su x y s))

    down : Maps (IsParentOrBy b T) (IsParentOrBy a U)
    down x y (inl e) = joined-map (IsParentOrBy a S) (IsParentOrBy a U) low x y (p.back x y e)
    down x y (inr t) = joined-step (IsParentOrBy a U) x y (inr (tu x y t))

-- another relation that joins the same
pub joins-as : (S T : ℕ → ℕ → Type 0) (a b : List ℕ) → JoinsBy S a b → Maps S T → Maps T S → JoinsBy T a b
joins-as S T a b p st ts = record {
  len = p.len;
  down = p.down;
  joined = λ x y t. joined-map S (IsParent b) p.joined x y (ts x y t);
  there = p.there;
  back = λ x y e. joined-map (IsParentOrBy a S) (IsParentOrBy a T) over x y (p.back x y e);
}
  where
    more : Maps T (IsParentOrBy a T)
    more x y t = joined-step (IsParentOrBy a T) x y (inr t)

    over : Maps (IsParentOrBy a S) (IsParentOrBy a T)
    over x y (inl e) = joined-step (IsParentOrBy a T) x y (inl e)
    over x y (inr s) = joined-map T (IsParentOrBy a T) more x y (st x y s)

pub joins-same : (S T : ℕ → ℕ → Type 0) (a b : List ℕ) → JoinsBy S a b → Within S T → Within T S → JoinsBy T a b
joins-same S T a b p st ts = joins-as S T a b p (λ x y s. joined-step T x y (st x y s)) (λ x y t. joined-step S x y (ts x y t))

-- one pair more
pub joins-more : (S U : ℕ → ℕ → Type 0) (a b c : List ℕ) (i j : ℕ) → JoinsBy S a b → JoinsTrees b c i j → Within S U → U i j → ((x y : ℕ) → U x y → S x y ⊎ IsPair i j x y) → JoinsBy U a c
joins-more S U a b c i j p q su u us = joins-then S (IsPair i j) U a b c p (joins-pair b c i j q) su (λ x y t. subst (λ (z : ℕ). U z y) (sym t.0) (subst (U i) (sym t.1) u)) us

-- from numbers that stand alone, the trees are the classes of the relation
pub joins-alone : (T : ℕ → ℕ → Type 0) (a b : List ℕ) → ((k : ℕ) → k < length a → slice_index a k ≡ k) → JoinsBy T a b → Maps (IsParent b) T
joins-alone T a b own p x y e = joined-map (IsParentOrBy a T) T down x y (p.back x y e)
  where
    down : Maps (IsParentOrBy a T) T
    down x y (inl f) = joined-self T x y (sym (own x f.0) ∙ f.1)
    down x y (inr t) = joined-step T x y t

pub alone-down : (a : List ℕ) → ((k : ℕ) → k < length a → slice_index a k ≡ k) → GoDown a
alone-down a own i l = omega (arith, own i l)
