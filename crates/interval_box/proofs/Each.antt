-- Lists made coordinate by coordinate.
use Rattle.std.proofs.Common.{◌≡◌, ◌≢◌, ◌⊎◌, inl, inr, ℕ, zero, suc, ◌+◌, ◌<◌, List, [], ◌∷◌, length, arith, refl, sym, ap₂, ◌∙◌, subst, pos, set, slice_index_or, get_or-set_same, get_or-set_other, length-set}
use Rattle.tube_spec.specs.Span.{Span, IsProper, point, meet_of}
use Rattle.interval_box.specs.Parts.{part_of, each_of}

module _ (f : Span → Span → Span) where
  pub length-each : (xs ys : List Span) → length xs ≡ length ys → length (each_of f xs ys) ≡ length xs
  length-each [] ys e = refl
  length-each (x ∷ xs) [] e = absurd (omega (arith, e))
  length-each (x ∷ xs) (y ∷ ys) e = omega (arith, length-each xs ys (omega (arith, e)))

  -- the span of each coordinate
  pub part-each : (xs ys : List Span) (i : ℕ) → length xs ≡ length ys → i < length xs → part_of (each_of f xs ys) i ≡ f (part_of xs i) (part_of ys i)
  part-each [] ys i e h = absurd (omega (arith, h))
  part-each (x ∷ xs) [] i e h = absurd (omega (arith, e))
  part-each (x ∷ xs) (y ∷ ys) zero e h = refl
  part-each (x ∷ xs) (y ∷ ys) (suc i) e h = part-each xs ys i (omega (arith, e)) (omega (arith, h))

  -- a list with the right span at each coordinate is the list
  pub each-is : (xs ys rs : List Span) → length rs ≡ length xs → length xs ≡ length ys → ((i : ℕ) → i < length xs → part_of rs i ≡ f (part_of xs i) (part_of ys i)) → rs ≡ each_of f xs ys
  each-is [] ys [] l e h = refl
  each-is [] ys (r ∷ rs) l e h = absurd (omega (arith, l))
  each-is (x ∷ xs) [] rs l e h = absurd (omega (arith, e))
  each-is (x ∷ xs) (y ∷ ys) [] l e h = absurd (omega (arith, l))
  each-is (x ∷ xs) (y ∷ ys) (r ∷ rs) l e h = ap₂ ◌∷◌ (h 0 (omega arith)) (each-is xs ys rs (omega (arith, l)) (omega (arith, e)) (λ i k. h (suc i) (omega (arith, k))))

-- the same coordinate, whatever stands for those past the last
pub same-default : (xs : List Span) (i : ℕ) (d e : Span) → i < length xs → slice_index_or xs i d ≡ slice_index_or xs i e
same-default [] i d e h = absurd (omega (arith, h))
same-default (x ∷ xs) zero d e h = refl
same-default (x ∷ xs) (suc i) d e h = same-default xs i d e (omega (arith, h))

-- below n the parts are f of both
pub record IsEachBelow (f : Span → Span → Span) (xs ys rs : List Span) (n : ℕ) : Type 0 where
  pub len : length rs ≡ length xs
  pub made : (k : ℕ) → k < n → part_of rs k ≡ f (part_of xs k) (part_of ys k)

split : (k n : ℕ) → k < n + 1 → (k < n) ⊎ (k ≡ n)
split k n h = grind arith

pub each-step : (f : Span → Span → Span) (xs ys rs : List Span) (n : ℕ) (s : Span) → n < length xs → IsEachBelow f xs ys rs n → s ≡ f (part_of xs n) (part_of ys n) → IsEachBelow f xs ys (set rs n s) (n + 1)
each-step f xs ys rs n s h below e = record {
  len = simp length-set below.len;
  made = λ k l. elim (split k n l) [
    | inl less ↦ let other : k ≢ n = omega arith in get_or-set_other rs n k s (point (pos 0)) other ∙ below.made k less
    | inr same ↦ subst (λ (k : ℕ). part_of (set rs n s) k ≡ f (part_of xs k) (part_of ys k)) (sym same) (get_or-set_same rs n s (point (pos 0)) (omega (arith, h, below.len)) ∙ e)
  ];
}

-- the coordinates below n share a number
abbrev pub SharesBelow : List Span → List Span → ℕ → Type 0
SharesBelow xs ys n = (k : ℕ) → k < n → IsProper (meet_of (part_of xs k) (part_of ys k))

pub shares-step : (xs ys : List Span) (n : ℕ) → SharesBelow xs ys n → IsProper (meet_of (part_of xs n) (part_of ys n)) → SharesBelow xs ys (n + 1)
shares-step xs ys n below good k h = elim (split k n h) [
  | inl l ↦ below k l
  | inr same ↦ subst (λ (k : ℕ). IsProper (meet_of (part_of xs k) (part_of ys k))) (sym same) good
]
