-- A box with the cells of a set as in another box, cell by cell.
use Rattle.std.proofs.Common.{◌≡◌, ℕ, zero, suc, Bool, true, false, cond, IsTrue, IsFalse, Option, Some, None, List, [], ◌∷◌, length, pos, arith, refl, sym, ap, subst, ◌∙◌}
use Rattle.tube_spec.specs.Span.{Span, IsProper, IsWithin, point}
use Rattle.tube_spec.specs.Box.{cell_at, IsBox, IsBelow, IsBelowBox}
use Rattle.tube_spec.proofs.Spans.{IsWithin-refl}
use Rattle.tube_spec.proofs.Boxes.{IsBelow-refl}
use Rattle.constraint_retraction.specs.Resetting.{with_cells, reset_box}

cond-same : {X : Type 0} (b : Bool) (x : X) → x ≡ cond b x x
cond-same true x = refl
cond-same false x = refl

pub with-length : (within : ℕ → Bool) (xs ys : List Span) → length xs ≡ length ys → length (with_cells within xs ys) ≡ length xs
with-length within [] ys e = refl
with-length within (x ∷ xs) [] e = absurd (omega (arith, e))
with-length within (x ∷ xs) (y ∷ ys) e = ap suc (with-length (λ k. within (suc k)) xs ys (omega (arith, e)))

pub with-cell : (within : ℕ → Bool) (xs ys : List Span) (k : ℕ) → length xs ≡ length ys → cell_at (with_cells within xs ys) k ≡ cond (within k) (cell_at xs k) (cell_at ys k)
with-cell within [] [] k e = cond-same (within k) (point (pos 0))
with-cell within [] (y ∷ ys) k e = absurd (omega (arith, e))
with-cell within (x ∷ xs) [] k e = absurd (omega (arith, e))
with-cell within (x ∷ xs) (y ∷ ys) zero e = refl
with-cell within (x ∷ xs) (y ∷ ys) (suc k) e = with-cell (λ j. within (suc j)) xs ys k (omega (arith, e))

pub with-inside : (within : ℕ → Bool) (xs ys : List Span) (k : ℕ) → length xs ≡ length ys → IsTrue (within k) → cell_at (with_cells within xs ys) k ≡ cell_at xs k
with-inside within xs ys k e h = with-cell within xs ys k e ∙ ap (λ (b : Bool). cond b (cell_at xs k) (cell_at ys k)) h

pub with-outside : (within : ℕ → Bool) (xs ys : List Span) (k : ℕ) → length xs ≡ length ys → IsFalse (within k) → cell_at (with_cells within xs ys) k ≡ cell_at ys k
with-outside within xs ys k e h = with-cell within xs ys k e ∙ ap (λ (b : Bool). cond b (cell_at xs k) (cell_at ys k)) h

-- what holds of each cell of both boxes holds of each cell of the box of both
pub with-each : (P : ℕ → Span → Type 0) (within : ℕ → Bool) (xs ys : List Span) → length xs ≡ length ys → ((k : ℕ) → IsTrue (within k) → P k (cell_at xs k)) → ((k : ℕ) → IsFalse (within k) → P k (cell_at ys k)) → (k : ℕ) → P k (cell_at (with_cells within xs ys) k)
with-each P within xs ys e p q k = subst (P k) (sym (with-cell within xs ys k e)) (at (within k) (p k) (q k))
  where
    at : (b : Bool) → (b ≡ true → P k (cell_at xs k)) → (b ≡ false → P k (cell_at ys k)) → P k (cond b (cell_at xs k) (cell_at ys k))
    at true p q = p refl
    at false p q = q refl

pub with-box : (within : ℕ → Bool) (xs ys : List Span) → length xs ≡ length ys → IsBox xs → IsBox ys → IsBox (with_cells within xs ys)
with-box within xs ys e p q = with-each (λ k s. IsProper s) within xs ys e (λ k h. p k) (λ k h. q k)

pub with-below : (within : ℕ → Bool) (xs ys zs : List Span) → IsBelow xs zs → IsBelow ys zs → IsBelow (with_cells within xs ys) zs
with-below within xs ys zs p q =
    let e = p.len ∙ sym q.len in record {
      len = with-length within xs ys e ∙ p.len;
      each = with-each (λ k s. IsWithin s (cell_at zs k)) within xs ys e (λ k h. p.each k) (λ k h. q.each k);
    }

-- a box that lies below the first on the set, and below the second off it, lies below the box of both
pub below-with : (within : ℕ → Bool) (qs xs ys : List Span) → length xs ≡ length ys → length qs ≡ length xs → ((k : ℕ) → IsTrue (within k) → IsWithin (cell_at qs k) (cell_at xs k)) → ((k : ℕ) → IsFalse (within k) → IsWithin (cell_at qs k) (cell_at ys k))
    → IsBelow qs (with_cells within xs ys)
below-with within qs xs ys e l p q = record {
  len = l ∙ sym (with-length within xs ys e);
  each = with-each (λ k s. IsWithin (cell_at qs k) s) within xs ys e p q;
}

pub reset-linked : (linked : ℕ → Bool) (start : List Span) (old : Option (List Span)) → IsBelowBox old (Some start) → (k : ℕ) → IsTrue (linked k) → cell_at (reset_box linked start old) k ≡ cell_at start k
reset-linked linked start None low k h = refl
reset-linked linked start (Some xs) low k h = with-inside linked start xs k (sym low.len) h

pub reset-others : (linked : ℕ → Bool) (start xs : List Span) → IsBelow xs start → (k : ℕ) → IsFalse (linked k) → cell_at (reset_box linked start (Some xs)) k ≡ cell_at xs k
reset-others linked start xs low k h = with-outside linked start xs k (sym low.len) h

pub reset-below : (linked : ℕ → Bool) (start : List Span) (old : Option (List Span)) → IsBelowBox old (Some start) → IsBelow (reset_box linked start old) start
reset-below linked start None low = IsBelow-refl start
reset-below linked start (Some xs) low = with-below linked start xs start (IsBelow-refl start) low

pub below-reset : (linked : ℕ → Bool) (start : List Span) (old : Option (List Span)) → IsBelowBox old (Some start) → IsBelowBox old (Some (reset_box linked start old))
below-reset linked start None low = tt
below-reset linked start (Some xs) low = below-with linked xs start xs (sym low.len) low.len (λ k h. low.each k) (λ k h. IsWithin-refl (cell_at xs k))
