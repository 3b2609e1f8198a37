-- The touched cells and the marks beside them.
use Rattle.std.proofs.Common.{◌≡◌, ℕ, ◌+◌, ◌<◌, ◌⊎◌, inl, inr, Bool, true, false, not, cond, nat_eq, ◌||◌, List, [], ◌∷◌, ◌++◌, arith, refl, sym, ap, subst, ◌∙◌, length, length-append, get_or, set, count_by, All}
use Rattle.std.specs.Cmp.{nat_eq_equiv}
use Rattle.std.specs.List.{IsDistinct, AllByRecursion}
use Rattle.std.proofs.lemmas.Bool.{cases_lt, cases_eq, ne_eqb}
use Rattle.std.proofs.lemmas.List.{get_or-set_same, get_or-set_other, get_or_past, get_or_at}
use Rattle.std.proofs.lemmas.List.Folds.{list_any_at, list_any-append}
use Rattle.std.proofs.lemmas.List.Sums.{sum_by-set}
use Rattle.std.proofs.lemmas.Map.Keys.{IsDistinct-push, IsDistinct-head, IsDistinct-tail}
use Rattle.tube_store.specs.Touched.{stands_in, AreTouched}

same-or-not : (j k : ℕ) → ((j ≡ k) × (nat_eq j k ≡ true)) ⊎ ((j ≡ k → ⊥) × (nat_eq j k ≡ false))
same-or-not j k = elim (cases_eq j k) [
  | inl e ↦ inl (e, subst (λ (i : ℕ). nat_eq j i ≡ true) e (nat_eq_equiv.refl j))
  | inr n ↦ inr (n, ne_eqb j k n)
]

false-or-true : (b : Bool) → (b ≡ false) ⊎ (b ≡ true)
false-or-true true = inr refl
false-or-true false = inl refl

-- no cell is touched, and none has a mark
pub no-ring : (capacity : ℕ) → AreTouched [] [] capacity
unfolding IsDistinct
no-ring capacity = record { agrees = λ k. refl; distinct = tt; room = omega arith }

-- a marked cell is among the cells
pub marked-among : (marks : List Bool) (k : ℕ) → get_or marks k false ≡ true → k < length marks
marked-among marks k h = elim (cases_lt k (length marks)) [
  | inl l ↦ l
  | inr l ↦ absurd (cc (get_or_past marks k false l))
]

-- each touched cell is among the cells
pub ring-among : (marks : List Bool) (cells : List ℕ) (capacity : ℕ) → AreTouched marks cells capacity → All (λ k. k < length marks) cells
ring-among marks cells capacity ring k d l =
    marked-among marks (get_or cells k d) (ring.agrees (get_or cells k d) ∙ list_any_at (nat_eq (get_or cells k d)) cells k d l (nat_eq_equiv.refl (get_or cells k d)))

-- one mark more and one free cell less, or the other way round
marks-set : (marks : List Bool) (c : ℕ) (b : Bool) → c < length marks → get_or marks c false ≡ not b → count_by not (set marks c b) + cond b 1 0 ≡ count_by not marks + cond b 0 1
marks-set marks c true l e = omega (arith, sum_by-set (λ (x : Bool). cond (not x) 1 0) marks c true false l, ap {B = ℕ} (λ (x : Bool). cond (not x) 1 0) e)
marks-set marks c false l e = omega (arith, sum_by-set (λ (x : Bool). cond (not x) 1 0) marks c false false l, ap {B = ℕ} (λ (x : Bool). cond (not x) 1 0) e)

-- a cell that is not touched goes to the end
pub ring-push : (marks : List Bool) (cells : List ℕ) (capacity c : ℕ) → AreTouched marks cells capacity → c < length marks → get_or marks c false ≡ false → AreTouched (set marks c true) (cells ++ c ∷ []) capacity
ring-push marks cells capacity c ring l e = record {
  agrees = λ k. agree k (same-or-not k c);
  distinct = IsDistinct-push nat_eq_equiv cells c ring.distinct (sym (ring.agrees c) ∙ e);
  room = omega (arith, ring.room, length-append cells (c ∷ []), marks-set marks c true l e);
}
  where
    or-false : (b : Bool) → (b || (false || false)) ≡ b
    or-false true = refl
    or-false false = refl

    agree : (k : ℕ) → ((k ≡ c) × (nat_eq k c ≡ true)) ⊎ ((k ≡ c → ⊥) × (nat_eq k c ≡ false)) → get_or (set marks c true) k false ≡ stands_in (cells ++ c ∷ []) k
    agree k (inl h) =
        subst (λ (j : ℕ). get_or (set marks c true) j false ≡ true) (sym h.0) (get_or-set_same marks c true false l)
        ∙ sym (list_any_at (nat_eq k) (cells ++ c ∷ []) (length cells) c (omega (arith, length-append cells (c ∷ []))) (subst (λ (x : ℕ). nat_eq k x ≡ true) (sym (get_or_at cells c [] c (length cells) refl)) h.1))
    agree k (inr h) =
        get_or-set_other marks c k true false h.0 ∙ ring.agrees k
        ∙ sym (list_any-append (nat_eq k) cells (c ∷ []) ∙ ap (λ (b : Bool). stands_in cells k || (b || false)) h.1 ∙ or-false (stands_in cells k))

-- the first touched cell is taken, and its mark with it
pub ring-pop : (marks : List Bool) (cells : List ℕ) (capacity c : ℕ) → AreTouched marks (c ∷ cells) capacity → AreTouched (set marks c false) cells capacity
ring-pop marks cells capacity c ring =
    let marked : get_or marks c false ≡ true = ring.agrees c ∙ ap (λ (b : Bool). b || stands_in cells c) (nat_eq_equiv.refl c) in
    let l : c < length marks = marked-among marks c marked in
    record {
      agrees = λ k. agree k l (same-or-not k c);
      distinct = IsDistinct-tail nat_eq c cells ring.distinct;
      room = omega (arith, ring.room, marks-set marks c false l marked);
    }
  where
    alone : (xs : List ℕ) → AllByRecursion (λ y. nat_eq c y ≡ false) xs → stands_in xs c ≡ false
    alone [] h = refl
    alone (x ∷ xs) h = ap (λ (b : Bool). b || stands_in xs c) h.0 ∙ alone xs h.1

    agree : (k : ℕ) → c < length marks → ((k ≡ c) × (nat_eq k c ≡ true)) ⊎ ((k ≡ c → ⊥) × (nat_eq k c ≡ false)) → get_or (set marks c false) k false ≡ stands_in cells k
    agree k l (inl h) = subst (λ (j : ℕ). get_or (set marks c false) j false ≡ stands_in cells j) (sym h.0) (get_or-set_same marks c false false l ∙ sym (alone cells (IsDistinct-head nat_eq c cells ring.distinct)))
    agree k l (inr h) = get_or-set_other marks c k false false h.0 ∙ ring.agrees k ∙ ap (λ (b : Bool). b || stands_in cells k) h.1

-- the first touched cell is among the cells
pub ring-first : (marks : List Bool) (all : List ℕ) (capacity c : ℕ) (rest : List ℕ) → AreTouched marks all capacity → all ≡ c ∷ rest → c < length marks
ring-first marks all capacity c rest ring e = ring-among marks (c ∷ rest) capacity (subst (λ (l : List ℕ). AreTouched marks l capacity) e ring) 0 0 (omega arith)
