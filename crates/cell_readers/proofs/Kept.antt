-- What was stable stays so where no cell that is read became narrower.
use Rattle.std.proofs.Common.{◌≡◌, ◌≢◌, ℕ, zero, suc, ◌<◌, ◌≤◌, inl, inr, ◌||◌, Bool, true, false, Some, List, [], ◌∷◌, ℤ, pos, negsuc, ◌-ℤ◌, ◌≤ℤ◌, arith, refl, sym, ap, subst, ◌∙◌, All, Contains, slice_get, get_or}
use Rattle.std.proofs.lemmas.Int.{ints}
use Rattle.std.proofs.lemmas.Bool.{cases_lt}
use Rattle.std.specs.List.{list_any}
use Rattle.tube_spec.specs.Span.{Span, IsProper, IsWithin, natural, width_of}
use Rattle.tube_spec.specs.Narrowing.{IsUnder}
use Rattle.tube_spec.specs.Box.{cell_at, IsBox, IsBelow}
use Rattle.tube_spec.specs.Projection.{Projection, IsStable, ReadsOnly}
use Rattle.tube_spec.specs.Fixpoint.{IsFixpoint}
use Rattle.tube_spec.proofs.Spans.{same_span, IsUnder-within}
use Rattle.ctc_core.specs.Revising.{IsNarrower}
use Rattle.cell_readers.specs.Waking.{AreWoken, AreAtRest, IsDraining}

natural_is : (x : ℤ) → pos 0 ≤ℤ x → pos (natural x) ≡ x
natural_is (pos n) h = refl
natural_is (negsuc n) h = absurd (omega (arith, ints, h))

-- a proper span within another that is not wider is the other
pub same-width : (a b : Span) → IsProper a → IsWithin a b → (width_of a < width_of b → ⊥) → a ≡ b
same-width a b good inside strict =
    let na = natural_is (a.hi -ℤ a.lo) (omega (arith, ints, good)) in
    let nb = natural_is (b.hi -ℤ b.lo) (omega (arith, ints, good, inside)) in
    let l : width_of b ≤ width_of a = elim (cases_lt (width_of a) (width_of b)) [ inl h ↦ absurd (strict h) | inr h ↦ h ] in
    same_span a b (omega (arith, ints, inside, l, na, nb)) (omega (arith, ints, inside, l, na, nb))

-- stable in a box, and in a box below whose cells are no narrower where they are read
pub fixpoint-kept : (Fits : List Span → Type 0) (scope : List ℕ) (ps : List Projection) (xs ys : List Span) → All (ReadsOnly Fits scope) ps → Fits xs → Fits ys → IsBox ys → IsBelow ys xs
    → ((k : ℕ) → Contains scope k → IsNarrower xs ys k → ⊥) → IsFixpoint ps xs → IsFixpoint ps ys
fixpoint-kept Fits scope ps xs ys reads fx fy box low quiet fix = record {
  box = box;
  stable = λ i d l. at (get_or ps i d) (reads i d l) (fix.stable i d l);
}
  where
    same : (k : ℕ) → Contains scope k → cell_at ys k ≡ cell_at xs k
    same k m = same-width (cell_at ys k) (cell_at xs k) (box k) (low.each k) (quiet k m)

    at : (p : Projection) → ReadsOnly Fits scope p → IsStable xs p → IsStable ys p
    at p only stable = subst (IsUnder (cell_at ys p.target)) (sym (only ys xs fy fx same)) (IsUnder-within (cell_at ys p.target) (cell_at xs p.target) (p.formula xs) (low.each p.target) stable)

-- nothing is read among cells of which none is read
pub none-read : (q : ℕ → Bool) (cells : List ℕ) (k : ℕ) → list_any q cells ≡ false → Contains cells k → q k ≡ true → ⊥
none-read q [] k e m r = absurd (omega (arith, m.1))
none-read q (x ∷ cells) k e (zero, l, s) r = let u : x ≡ k = s in first (q x) (list_any q cells) e (ap q u ∙ r)
  where
    first : (a b : Bool) → (a || b) ≡ false → a ≡ true → ⊥
    first true b e h = absurd (cc)
    first false b e h = absurd (cc)
none-read q (x ∷ cells) k e (suc i, l, s) r = none-read q cells k (later (q x) (list_any q cells) e) (i, omega (arith, l), s) r
  where
    later : (a b : Bool) → (a || b) ≡ false → b ≡ false
    later true b e = absurd (cc)
    later false b e = e

module _ {C : Type 0} (projections : C → List Projection) (reads : C → ℕ → Bool) (cs : List C) (xs ys : List Span) where
  -- before the first cell: all narrower cells are to come
  pub drain-start : (waiting : List Bool) (cells : List ℕ) → AreAtRest projections cs waiting (Some xs) → ((k : ℕ) → IsNarrower xs ys k → Contains cells k) → IsDraining projections reads cs xs ys waiting cells
  drain-start waiting cells rest all = record {
    rest = λ j c there quiet. rest j c there quiet;
    ahead = λ j c cell there quiet r n. all cell n;
  }

  -- one cell more, whose readers wait from now on
  pub drain-step : (before after : List Bool) (cell : ℕ) (cells : List ℕ) → IsDraining projections reads cs xs ys before (cell ∷ cells)
      → ((j : ℕ) (c : C) → slice_get cs j ≡ Some c → slice_get after j ≡ Some false → (slice_get before j ≡ Some false) × (reads c cell ≡ false))
      → IsDraining projections reads cs xs ys after cells
  drain-step before after cell cells d woken = record {
    rest = λ j c there quiet. d.rest j c there (woken j c there quiet).0;
    ahead = λ j c k there quiet r n. later j c k there quiet r (d.ahead j c k there (woken j c there quiet).0 r n);
  }
    where
      later : (j : ℕ) (c : C) (k : ℕ) → slice_get cs j ≡ Some c → slice_get after j ≡ Some false → reads c k ≡ true → Contains (cell ∷ cells) k → Contains cells k
      later j c k there quiet r (zero, l, s) = let u : cell ≡ k = s in let no = (woken j c there quiet).1 in let yes = ap (reads c) u ∙ r in absurd (cc)
      later j c k there quiet r (suc i, l, s) = (i, omega (arith, l), s)

  -- when no cell is to come, who rests leaves the box below
  pub drain-end : (Fits : C → List Span → Type 0) (scope : C → List ℕ) (waiting : List Bool) → IsDraining projections reads cs xs ys waiting []
      → ((c : C) (k : ℕ) → Contains (scope c) k → reads c k ≡ true) → ((c : C) → All (ReadsOnly (Fits c) (scope c)) (projections c))
      → ((j : ℕ) (c : C) → slice_get cs j ≡ Some c → Fits c xs × Fits c ys) → IsBox ys → IsBelow ys xs → AreAtRest projections cs waiting (Some ys)
  drain-end Fits scope waiting d agrees only fit box low j c there quiet =
      fixpoint-kept (Fits c) (scope c) (projections c) xs ys (only c) (fit j c there).0 (fit j c there).1 box low
      (λ k m n. let none = d.ahead j c k there quiet (agrees c k m) n in absurd (omega (arith, none.1))) (d.rest j c there quiet)

  -- the whole drain at once
  pub drained : (Fits : C → List Span → Type 0) (scope : C → List ℕ) (cells : List ℕ) (k : ℕ) (before after : List Bool) → ((j : ℕ) (c : C) → j ≢ k → slice_get cs j ≡ Some c → slice_get before j ≡ Some false → IsFixpoint (projections c) xs)
      → ((j : ℕ) → IsNarrower xs ys j → Contains cells j) → AreWoken reads cs cells k before after
      → ((c : C) (j : ℕ) → Contains (scope c) j → reads c j ≡ true) → ((c : C) → All (ReadsOnly (Fits c) (scope c)) (projections c))
      → ((j : ℕ) (c : C) → slice_get cs j ≡ Some c → Fits c xs × Fits c ys) → IsBox ys → IsBelow ys xs → AreAtRest projections cs after (Some ys)
  drained Fits scope cells k before after rest all woken agrees only fit box low j c there quiet =
      let w = woken.all j c there quiet in
      fixpoint-kept (Fits c) (scope c) (projections c) xs ys (only c) (fit j c there).0 (fit j c there).1 box low
      (λ i m n. none-read (reads c) cells i w.2 (all i n) (agrees c i m)) (rest j c w.1 there w.0)

pub get-all : {X : Type 0} (P : X → Type 0) (xs : List X) (k : ℕ) (x : X) → slice_get xs k ≡ Some x → All P xs → P x
get-all P [] k x e h = absurd (cc)
get-all P (y ∷ xs) zero x e h = let same : y ≡ x = cc in subst P same (h 0 y (omega arith))
get-all P (y ∷ xs) (suc k) x e h = get-all P xs k x e (λ j d l. h (suc j) d (omega (arith, l)))
