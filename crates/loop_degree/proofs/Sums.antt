-- Sums of whole numbers.
use Rattle.std.proofs.Common.{◌≡◌, List, [], ◌∷◌, ◌++◌, map, ℤ, pos, ◌+ℤ◌, arith, refl, ap, ◌∙◌}
use Rattle.std.proofs.lemmas.Int.{ints}
use Rattle.std.specs.List.{flat_map}

abbrev pub signed_sum : {A : Type 0} → (A → ℤ) → List A → ℤ
signed_sum f [] = pos 0
signed_sum f (x ∷ xs) = f x +ℤ signed_sum f xs

pub signed_sum-append : {A : Type 0} (f : A → ℤ) (xs ys : List A) → signed_sum f (xs ++ ys) ≡ signed_sum f xs +ℤ signed_sum f ys
signed_sum-append f [] ys = omega (arith, ints)
signed_sum-append f (x ∷ xs) ys = omega (arith, ints, signed_sum-append f xs ys)

pub signed_sum-flat_map : {A B : Type 0} (f : B → ℤ) (g : A → List B) (xs : List A) → signed_sum f (flat_map g xs) ≡ signed_sum (λ x. signed_sum f (g x)) xs
signed_sum-flat_map f g [] = refl
signed_sum-flat_map f g (x ∷ xs) = signed_sum-append f (g x) (flat_map g xs) ∙ ap (λ (s : ℤ). signed_sum f (g x) +ℤ s) (signed_sum-flat_map f g xs)

pub signed_sum-map : {A B : Type 0} (f : B → ℤ) (g : A → B) (xs : List A) → signed_sum f (map g xs) ≡ signed_sum (λ x. f (g x)) xs
signed_sum-map f g [] = refl
signed_sum-map f g (x ∷ xs) = ap (λ (s : ℤ). f (g x) +ℤ s) (signed_sum-map f g xs)

pub signed_sum-same : {A : Type 0} (f g : A → ℤ) (xs : List A) → ((x : A) → f x ≡ g x) → signed_sum f xs ≡ signed_sum g xs
signed_sum-same f g [] h = refl
signed_sum-same f g (x ∷ xs) h = omega (arith, ints, h x, signed_sum-same f g xs h)

pub signed_sum-plus : {A : Type 0} (f g : A → ℤ) (xs : List A) → signed_sum (λ x. f x +ℤ g x) xs ≡ signed_sum f xs +ℤ signed_sum g xs
signed_sum-plus f g [] = refl
signed_sum-plus f g (x ∷ xs) = omega (arith, ints, signed_sum-plus f g xs)

pub signed_sum-zero : {A : Type 0} (xs : List A) → signed_sum (λ (x : A). pos 0) xs ≡ pos 0
signed_sum-zero [] = refl
signed_sum-zero (x ∷ xs) = omega (arith, ints, signed_sum-zero xs)

pub signed_sum-opposite : {A : Type 0} (f g : A → ℤ) (xs : List A) → ((x : A) → f x +ℤ g x ≡ pos 0) → signed_sum f xs +ℤ signed_sum g xs ≡ pos 0
signed_sum-opposite f g [] h = refl
signed_sum-opposite f g (x ∷ xs) h = omega (arith, ints, h x, signed_sum-opposite f g xs h)
