-- A text is cut at the first place of a byte in one way.
use Rattle.std.proofs.Common.{◌≡◌, ℕ, suc, zero, ◌+◌, ◌<◌, ◌≤◌, ◌==◌, false, List, [], ◌∷◌, ◌++◌, length, take, drop, get_or, refl, ap, ◌∙◌, arith, Some, None}
use Rattle.std.specs.List.{All, position, position_or_len, before_first, after_first}
use Rattle.std.proofs.lemmas.Bool.{or_parts, or_from, eqb-false, eqb-true, ne_eqb}
use Rattle.std.proofs.lemmas.Bool.Decides.{nat_tests}
use Rattle.std.proofs.lemmas.Grind.{common_steps}
use Rattle.std.proofs.lemmas.List.Folds.{list_any-append, list_any_none}
use Rattle.std.proofs.lemmas.List.Sums.{split_at_first, fails_before_first, passes_at_first}
use Rattle.pair_form.specs.Lines.{IsCut}
use Rattle.pair_form.specs.Words.{Lacks}

-- ---- a byte that is nowhere

pub lacks_parts : (c x : ℕ) (xs : List ℕ) → Lacks c (x ∷ xs) → (x ≡ c → ⊥) × Lacks c xs
lacks_parts c x xs h = let p = or_parts (x == c) _ h in (eqb-false x c p.0, p.1)

pub lacks_cons : (c x : ℕ) (xs : List ℕ) → (x ≡ c → ⊥) → Lacks c xs → Lacks c (x ∷ xs)
lacks_cons c x xs h p = or_from (x == c) _ (ne_eqb x c h) p

pub lacks_append : (c : ℕ) (xs ys : List ℕ) → Lacks c xs → Lacks c ys → Lacks c (xs ++ ys)
lacks_append c xs ys h p = list_any-append (λ b. b == c) xs ys ∙ or_from _ _ h p

pub lacks_all : (c : ℕ) (xs : List ℕ) → Lacks c xs → All (λ b. (b == c) ≡ false) xs
lacks_all c [] h = λ k d e. absurd (omega arith)
lacks_all c (x ∷ xs) h = λ k d e.
    let p = or_parts (x == c) _ h in
    let rest = lacks_all c xs p.1 in
    of k d e p.0 rest
  where
    of : (k d : ℕ) → k < length (x ∷ xs) → (x == c) ≡ false → All (λ b. (b == c) ≡ false) xs → (get_or (x ∷ xs) k d == c) ≡ false
    of zero d e p rest = p
    of (suc k) d e p rest = rest k d (omega arith)

-- it is somewhere
pub not_lacking : (c : ℕ) (front rest : List ℕ) → Lacks c (front ++ c ∷ rest) → ⊥
not_lacking c [] rest h = (lacks_parts c c rest h).0 refl
not_lacking c (x ∷ front) rest h = not_lacking c front rest (lacks_parts c x (front ++ c ∷ rest) h).1

pub cut_same : (c : ℕ) (a b x y : List ℕ) → Lacks c a → Lacks c b → a ++ c ∷ x ≡ b ++ c ∷ y → (a ≡ b) × (x ≡ y)
cut_same c [] [] x y h k e = (refl, cc)
cut_same c [] (d ∷ b) x y h k e = let same : d ≡ c = cc in absurd ((lacks_parts c d b k).0 same)
cut_same c (d ∷ a) [] x y h k e = let same : d ≡ c = cc in absurd ((lacks_parts c d a h).0 same)
cut_same c (d ∷ a) (f ∷ b) x y h k e =
    let tails : a ++ c ∷ x ≡ b ++ c ∷ y = cc in
    let p = cut_same c a b x y (lacks_parts c d a h).1 (lacks_parts c f b k).1 tails in
    let heads : d ≡ f = cc in
    let fronts : a ≡ b = p.0 in
    (cc, p.1)

-- ---- the first place of a byte

before_lacks : (c : ℕ) (xs : List ℕ) → Lacks c (before_first (λ b. b == c) xs)
before_lacks c xs = list_any_none (λ b. b == c) _ (λ k d e. let here = fails_before_first (λ b. b == c) xs k d (grind (arith, common_steps)) in grind (arith, common_steps))

pub lacks_without : (c : ℕ) (xs : List ℕ) → None ≡ position (λ b. b == c) xs → Lacks c xs
lacks_without c xs e =
    let past : length xs ≤ position_or_len (λ b. b == c) xs = grind (arith, nat_tests) in
    list_any_none (λ b. b == c) xs (λ k d h. fails_before_first (λ b. b == c) xs k d (omega arith))

pub cut_at : (c : ℕ) (xs : List ℕ) (at : ℕ) → Some at ≡ position (λ b. b == c) xs → IsCut c xs (take at xs) (drop (at + 1) xs)
cut_at c xs at e =
    let within : position_or_len (λ b. b == c) xs < length xs = grind (arith, nat_tests) in
    let here : at ≡ position_or_len (λ b. b == c) xs = grind (arith, nat_tests) in
    let passes = eqb-true _ c (passes_at_first (λ b. b == c) xs 0 within) in
    rw here (record {
      whole = split_at_first (λ b. b == c) xs 0 within ∙ ap (λ (b : ℕ). before_first (λ x. x == c) xs ++ b ∷ after_first (λ x. x == c) xs) passes;
      first = before_lacks c xs;
    })
