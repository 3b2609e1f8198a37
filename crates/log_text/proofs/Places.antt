-- The coordinates of points, one by one.
use Rattle.std.proofs.Common.{◌≡◌, ℕ, List, [], ◌∷◌, ◌++◌, length, map, get_or, arith}
use Rattle.std.proofs.lemmas.List.{map-append}
use Rattle.tube_store.specs.declared.VarId.{VarId}
use Rattle.log_text.specs.NameTexts.{NameTexts, variable_name}

abbrev pub none : VarId
none = record { 0 = 0 }

abbrev pub place : NameTexts → List VarId → ℕ → List ℕ
place names vs i = variable_name names (get_or vs i none)

pub two_places : (names : NameTexts) (p : List VarId) (a b : List ℕ) → length p ≡ 2 → a ≡ place names p 0 → b ≡ place names p 1 → (a ∷ b ∷ []) ≡ map (variable_name names) p
two_places names [] a b h e f = absurd (omega (arith, h))
two_places names (x ∷ []) a b h e f = absurd (omega (arith, h))
two_places names (x ∷ y ∷ []) a b h e f = cc (e, f)
two_places names (x ∷ y ∷ z ∷ p) a b h e f = absurd (omega (arith, h))

three_places : (names : NameTexts) (p : List VarId) (a b c : List ℕ) → length p ≡ 3 → a ≡ place names p 0 → b ≡ place names p 1 → c ≡ place names p 2 → (a ∷ b ∷ c ∷ []) ≡ map (variable_name names) p
three_places names [] a b c h e f g = absurd (omega (arith, h))
three_places names (x ∷ []) a b c h e f g = absurd (omega (arith, h))
three_places names (x ∷ y ∷ []) a b c h e f g = absurd (omega (arith, h))
three_places names (x ∷ y ∷ z ∷ []) a b c h e f g = cc (e, f, g)
three_places names (x ∷ y ∷ z ∷ w ∷ p) a b c h e f g = absurd (omega (arith, h))

both : (names : NameTexts) (p q : List VarId) (xs ys : List (List ℕ)) → xs ≡ map (variable_name names) p → ys ≡ map (variable_name names) q → (xs ++ ys) ≡ map (variable_name names) (p ++ q)
both names p q xs ys e f = cc (e, f, map-append (variable_name names) p q)

pub four_places : (names : NameTexts) (p q : List VarId) (a b c d : List ℕ) → length p ≡ 2 → length q ≡ 2 → a ≡ place names p 0 → b ≡ place names p 1 → c ≡ place names q 0 → d ≡ place names q 1
    → (a ∷ b ∷ c ∷ d ∷ []) ≡ map (variable_name names) (p ++ q)
four_places names p q a b c d h k e f g i = both names p q (a ∷ b ∷ []) (c ∷ d ∷ []) (two_places names p a b h e f) (two_places names q c d k g i)

pub six_places : (names : NameTexts) (p q : List VarId) (a b c d e f : List ℕ) → length p ≡ 3 → length q ≡ 3 → a ≡ place names p 0 → b ≡ place names p 1 → c ≡ place names p 2 → d ≡ place names q 0 → e ≡ place names q 1 → f ≡ place names q 2
    → (a ∷ b ∷ c ∷ d ∷ e ∷ f ∷ []) ≡ map (variable_name names) (p ++ q)
six_places names p q a b c d e f h k i j l m n o = both names p q (a ∷ b ∷ c ∷ []) (d ∷ e ∷ f ∷ []) (three_places names p a b c h i j l) (three_places names q d e f k m n o)
