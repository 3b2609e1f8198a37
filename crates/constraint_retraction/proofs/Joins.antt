-- The join of two boxes, cell by cell.
use Rattle.std.proofs.Common.{◌≡◌, ℕ, zero, suc, List, [], ◌∷◌, length, arith, refl, sym, ap, subst, ◌∙◌}
use Rattle.std.proofs.lemmas.Int.{ints, clamps}
use Rattle.tube_spec.specs.Span.{Span, IsProper, IsWithin, join_of}
use Rattle.tube_spec.specs.Narrowing.{Narrowing, Whole, Nothing, Within, IsUnder}
use Rattle.tube_spec.specs.Box.{cell_at, IsBox, IsBelow}
use Rattle.tube_spec.proofs.Spans.{join-left, join-right, join-least}
use Rattle.constraint_retraction.specs.Joining.{join_box}

pub join-length : (xs ys : List Span) → length xs ≡ length ys → length (join_box xs ys) ≡ length xs
join-length [] ys e = refl
join-length (x ∷ xs) [] e = absurd (omega (arith, e))
join-length (x ∷ xs) (y ∷ ys) e = ap suc (join-length xs ys (omega (arith, e)))

pub join-cell : (xs ys : List Span) (k : ℕ) → length xs ≡ length ys → cell_at (join_box xs ys) k ≡ join_of (cell_at xs k) (cell_at ys k)
join-cell [] [] k e = refl
join-cell [] (y ∷ ys) k e = absurd (omega (arith, e))
join-cell (x ∷ xs) [] k e = absurd (omega (arith, e))
join-cell (x ∷ xs) (y ∷ ys) zero e = refl
join-cell (x ∷ xs) (y ∷ ys) (suc k) e = join-cell xs ys k (omega (arith, e))

pub join-above-left : (xs ys : List Span) → length xs ≡ length ys → IsBelow xs (join_box xs ys)
join-above-left xs ys e = record {
  len = sym (join-length xs ys e);
  each = λ k. subst (IsWithin (cell_at xs k)) (sym (join-cell xs ys k e)) (join-left (cell_at xs k) (cell_at ys k));
}

pub join-above-right : (xs ys : List Span) → length xs ≡ length ys → IsBelow ys (join_box xs ys)
join-above-right xs ys e = record {
  len = sym (join-length xs ys e ∙ e);
  each = λ k. subst (IsWithin (cell_at ys k)) (sym (join-cell xs ys k e)) (join-right (cell_at xs k) (cell_at ys k));
}

pub join-below : (xs ys zs : List Span) → IsBelow xs zs → IsBelow ys zs → IsBelow (join_box xs ys) zs
join-below xs ys zs p q =
    let e = p.len ∙ sym q.len in record {
      len = join-length xs ys e ∙ p.len;
      each = λ k. subst (λ (t : Span). IsWithin t (cell_at zs k)) (sym (join-cell xs ys k e)) (join-least (cell_at xs k) (cell_at ys k) (cell_at zs k) (p.each k) (q.each k));
    }

join-proper : (a b : Span) → IsProper a → IsProper b → IsProper (join_of a b)
join-proper a b p q = omega (arith, ints, clamps, p, q)

pub join-box : (xs ys : List Span) → length xs ≡ length ys → IsBox xs → IsBox ys → IsBox (join_box xs ys)
join-box xs ys e p q k = subst IsProper (sym (join-cell xs ys k e)) (join-proper (cell_at xs k) (cell_at ys k) (p k) (q k))

-- what two spans lie within, their join lies within
pub join-under : (a b : Span) (n : Narrowing) → IsUnder a n → IsUnder b n → IsUnder (join_of a b) n
join-under a b Whole p q = tt
join-under a b Nothing p q = absurd p
join-under a b (Within s) p q = join-least a b s p q
