-- The first place at which a test passes.
use Rattle.std.proofs.Common.{◌≡◌, ℕ, zero, suc, ◌+◌, ◌<◌, Bool, true, false, cond, List, [], ◌∷◌, Option, Some, None, length, map, take, get_or, refl, sym, ap, ap₂, ◌∙◌, arith}
use Rattle.std.specs.Prelude.{is_none, not, nat_lt}
use Rattle.std.specs.List.{position, position_or_len, prefix_len}
use Rattle.std.proofs.lemmas.Bool.{le-ltb, lt-ltb}
use Rattle.std.proofs.lemmas.List.{get_or-take, length-map, length-take-le}
use Rattle.std.proofs.lemmas.List.Sums.{position_or_len_is}

-- ---- the place of a test on images

prefix_len-map : {A B : Type 0} (f : A → B) (q : B → Bool) (xs : List A) → prefix_len q (map f xs) ≡ prefix_len (λ x. q (f x)) xs
prefix_len-map f q [] = refl
prefix_len-map f q (x ∷ xs) = ap (λ (n : ℕ). cond (q (f x)) (1 + n) 0) (prefix_len-map f q xs)

pub position-map : {A B : Type 0} (f : A → B) (p : B → Bool) (xs : List A) → position p (map f xs) ≡ position (λ x. p (f x)) xs
position-map f p xs = ap₂ (λ (a b : ℕ). cond (nat_lt a b) (Some a) None) (prefix_len-map f (λ x. not (p x)) xs) (length-map xs f)

-- ---- what is known of the place

pub position-here : {A : Type 0} (p : A → Bool) (xs : List A) (i : ℕ) (d : A) → i < length xs → ((k : ℕ) → k < i → p (get_or xs k d) ≡ false) → p (get_or xs i d) ≡ true → position p xs ≡ Some i
position-here p xs i d within before here =
    let e : position_or_len p xs ≡ i = position_or_len_is p xs i d (omega arith) before (λ _. here) in
    ap (λ (n : ℕ). cond (nat_lt n (length xs)) (Some n) None) e ∙ ap (λ (b : Bool). cond b (Some i) None) (lt-ltb i (length xs) within)

pub position-nowhere : {A : Type 0} (p : A → Bool) (xs : List A) (d : A) → ((k : ℕ) → k < length xs → p (get_or xs k d) ≡ false) → position p xs ≡ None
position-nowhere p xs d before =
    let e : position_or_len p xs ≡ length xs = position_or_len_is p xs (length xs) d (omega arith) before (λ h. absurd (omega arith)) in
    ap (λ (n : ℕ). cond (nat_lt n (length xs)) (Some n) None) e ∙ ap (λ (b : Bool). cond b (Some (length xs)) None) (le-ltb (length xs) (length xs) (omega arith))

-- ---- what all of a list say

-- each of them says something
pub each-said : {A B : Type 0} (f : A → Option B) (xs : List A) (ys : List B) (k : ℕ) (d : A) → map f xs ≡ map Some ys → k < length xs → is_none (f (get_or xs k d)) ≡ false
each-said f [] ys k d e h = absurd (omega arith)
each-said f (x ∷ xs) [] k d e h = absurd (cc)
each-said f (x ∷ xs) (y ∷ ys) zero d e h = let said : f x ≡ Some y = cc in ap is_none said
each-said f (x ∷ xs) (y ∷ ys) (suc k) d e h = let others : map f xs ≡ map Some ys = cc in each-said f xs ys k d others (omega arith)

-- all say something
pub all-said : {A B : Type 0} (f : A → Option B) (xs : List A) (ys : List B) → map f xs ≡ map Some ys → position (λ x. is_none (f x)) xs ≡ None
all-said f [] ys e = refl
all-said f (x ∷ xs) ys e = position-nowhere (λ x. is_none (f x)) (x ∷ xs) x (λ k h. each-said f (x ∷ xs) ys k x e h)

-- the first that says nothing
pub first-unsaid : {A B : Type 0} (f : A → Option B) (xs : List A) (ys : List B) (i : ℕ) (d : A) → i < length xs → map f (take i xs) ≡ map Some ys → f (get_or xs i d) ≡ None → position (λ x. is_none (f x)) xs ≡ Some i
first-unsaid f xs ys i d within e none =
    position-here (λ x. is_none (f x)) xs i d within
    (λ k h. ap (λ (x : _). is_none (f x)) (sym (get_or-take i xs k d h)) ∙ each-said f (take i xs) ys k d e (omega (arith, length-take-le i xs (omega arith)))) (ap is_none none)
