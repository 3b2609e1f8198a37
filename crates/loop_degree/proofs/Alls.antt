-- What holds of each element of a list.
use Rattle.std.proofs.Common.{◌≡◌, ℕ, true, List, [], ◌∷◌, ◌++◌}
use Rattle.std.specs.List.{AllByRecursion, flat_map}
use Rattle.std.proofs.lemmas.Bool.{or_left, or_right}
use Rattle.loop_degree.specs.Pairs.{has}
use Rattle.loop_degree.proofs.Sharing.{is_same-self}

pub all-append : {A : Type 0} (P : A → Type 0) (xs ys : List A) → AllByRecursion P xs → AllByRecursion P ys → AllByRecursion P (xs ++ ys)
all-append P [] ys h k = k
all-append P (x ∷ xs) ys h k = (h.0, all-append P xs ys h.1 k)

pub all-flat_map : {A B : Type 0} (P : B → Type 0) (g : A → List B) (xs : List A) → AllByRecursion (λ x. AllByRecursion P (g x)) xs → AllByRecursion P (flat_map g xs)
all-flat_map P g [] h = tt
all-flat_map P g (x ∷ xs) h = all-append P (g x) (flat_map g xs) h.0 (all-flat_map P g xs h.1)

pub all-both : {A : Type 0} (P Q R : A → Type 0) (xs : List A) → ((x : A) → P x → Q x → R x) → AllByRecursion P xs → AllByRecursion Q xs → AllByRecursion R xs
all-both P Q R [] f h k = tt
all-both P Q R (x ∷ xs) f h k = (f x h.0 k.0, all-both P Q R xs f h.1 k.1)

pub all-weaker : {A : Type 0} (P Q : A → Type 0) (xs : List A) → ((x : A) → P x → Q x) → AllByRecursion P xs → AllByRecursion Q xs
all-weaker P Q [] f h = tt
all-weaker P Q (x ∷ xs) f h = (f x h.0, all-weaker P Q xs f h.1)

-- what holds of each pair that a list has
pub all-has : (Q : ℕ × ℕ → Type 0) (ps : List (ℕ × ℕ)) → ((p : ℕ × ℕ) → has ps p ≡ true → Q p) → AllByRecursion Q ps
all-has Q [] h = tt
all-has Q (p ∷ ps) h = (h p (or_left _ _ (is_same-self p)), all-has Q ps (λ q k. h q (or_right _ _ k)))
