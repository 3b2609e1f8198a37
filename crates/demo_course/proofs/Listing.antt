-- Lists of values, tick by tick.
use Rattle.std.proofs.Common.{◌≡◌, ℕ, suc, ◌+◌, ◌-◌, ◌<◌, ◌≤◌, List, [], ◌∷◌, ◌++◌, length, ℤ, pos, refl, arith, append_assoc, slice_index_or, ap, ◌∙◌, sym, add-one}
use Rattle.std.proofs.lemmas.List.FromFn.{length-map-range_with_len, get_or-map-range_with_len, map-range_with_len_more}
use Rattle.rand_core.specs.Steps.{first_words}
use Rattle.demo_course.specs.Course.{values_until}

pub length-values : (f : ℕ → ℤ) (n : ℕ) → length (values_until f n) ≡ n
unfolding values_until
length-values f n = length-map-range_with_len f 0 n

pub value-at : (f : ℕ → ℤ) (n k : ℕ) (d : ℤ) → k < n → slice_index_or (values_until f n) k d ≡ f k
unfolding values_until
value-at f n k d l = get_or-map-range_with_len f 0 n k k d l (omega arith)

pub values-none : (f : ℕ → ℤ) → values_until f 0 ≡ []
unfolding values_until
values-none f = refl

pub values-more : (f : ℕ → ℤ) (n : ℕ) → values_until f (n + 1) ≡ values_until f n ++ f n ∷ []
unfolding values_until
values-more f n = map-range_with_len_more f 0 n n (omega arith)

-- one more word of a generator
pub words-more : {S : Type 0} (step : S → ℕ × S) (front : List ℕ) (word k m : ℕ) (s t : S) → (word, t) ≡ step s → k ≡ m + 1
    → (front ++ word ∷ []) ++ first_words step m t ≡ front ++ first_words step k s
unfolding first_words
words-more {S} step front word k m s t now more =
    ap (λ (p : ℕ × S). (front ++ p.0 ∷ []) ++ first_words step m p.1) now
    ∙ append_assoc front ((step s).0 ∷ []) (first_words step m (step s).1)
    ∙ ap (λ (n : ℕ). front ++ first_words step n s) (sym (more ∙ add-one m))

pub words-none : {S : Type 0} (step : S → ℕ × S) (k : ℕ) (s : S) → k ≡ 0 → first_words step k s ≡ []
unfolding first_words
words-none step k s none = rw none refl
