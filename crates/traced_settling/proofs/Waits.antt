-- Who waits, counted and sought.
use Rattle.std.proofs.Common.{◌≡◌, ℕ, ◌+◌, ◌-◌, ◌*◌, ◌<◌, ◌≤◌, Bool, true, false, cond, Some, List, IsFalse, All, arith, refl, sym, ap, ◌∙◌, length, get_or, slice_get, set, take, count_by}
use Rattle.std.proofs.lemmas.Option.{slice_get-get_or}
use Rattle.std.proofs.lemmas.List.Sums.{sum_by-set, count_by-le-length, count_by_more_no, count_by_more_yes}
use Rattle.std.proofs.Math.Nat.{mul-le-mul_right}

-- where no number waits, all rest
pub all-rest : (ws : List Bool) → ((k : ℕ) → k < length ws → slice_get ws k ≡ Some false) → All IsFalse ws
all-rest ws none k d l = some-same (get_or ws k d) false (sym (slice_get-get_or ws k d l) ∙ none k l)
  where
    some-same : (a b : Bool) → Some a ≡ Some b → a ≡ b
    some-same a b e = cc

-- one that waited rests, and one less waits
pub count-rests : (ws : List Bool) (k : ℕ) → slice_get ws k ≡ Some true → k < length ws → count_by (λ w. w) (set ws k false) + 1 ≡ count_by (λ w. w) ws
count-rests ws k waits l =
    let there : get_or ws k true ≡ true = some-true (get_or ws k true) (sym (slice_get-get_or ws k true l) ∙ waits) in
    omega (arith, sum_by-set (λ (x : Bool). cond x 1 0) ws k false true l, ap {B = ℕ} (λ (x : Bool). cond x 1 0) there)
  where
    some-true : (a : Bool) → Some a ≡ Some true → a ≡ true
    some-true a e = cc

-- How much may still come: for each unit of the measure all numbers, and those that wait.
abbrev pub left_over : ℕ → List Bool → ℕ
left_over measure ws = measure * (length ws + 1) + count_by (λ w. w) ws

spread : (m l : ℕ) → (m + 1) * (l + 1) ≡ m * (l + 1) + (l + 1)
spread m l = omega arith

add-up : (ml l b k a more nl mk : ℕ) → more ≡ ml + (l + 1) → more ≤ nl → mk ≡ ml → k ≡ l → a ≤ k → mk + a < nl + b
add-up ml l b k a more nl mk p q r s t = omega arith

-- a firing that lowers the measure leaves less, whoever waits then
pub left-narrowed : (m n : ℕ) (before after : List Bool) → m < n → length after ≡ length before → left_over m after < left_over n before
left-narrowed m n before after h e =
    at (length before) (count_by (λ w. w) before) (length after) (count_by (λ w. w) after) e (count_by-le-length (λ w. w) after)
  where
    at : (l b k a : ℕ) → k ≡ l → a ≤ k → m * (k + 1) + a < n * (l + 1) + b
    at l b k a same few =
        let less : (m + 1) * (l + 1) ≤ n * (l + 1) = mul-le-mul_right (l + 1) (omega (arith, h)) in
        let whole : m * (k + 1) ≡ m * (l + 1) = ap (λ (x : ℕ). m * (x + 1)) same in
        add-up (m * (l + 1)) l b k a ((m + 1) * (l + 1)) (n * (l + 1)) (m * (k + 1)) (spread m l) less whole same few

-- and so does one that lets a waiting number rest, at the same measure
pub left-rested : (m n k : ℕ) (before after : List Bool) → m ≡ n → after ≡ set before k false → slice_get before k ≡ Some true → k < length before → length after ≡ length before → left_over m after < left_over n before
left-rested m n k before after same e waits l len =
    let fewer = count-rests before k waits l in
    let now : count_by (λ w. w) after ≡ count_by (λ w. w) (set before k false) = ap (count_by (λ w. w)) e in
    let whole : m * (length after + 1) ≡ n * (length before + 1) = ap (λ (x : ℕ). x * (length after + 1)) same ∙ ap (λ (x : ℕ). n * (x + 1)) len in
    sums (m * (length after + 1)) (n * (length before + 1)) (count_by (λ w. w) after) (count_by (λ w. w) (set before k false)) (count_by (λ w. w) before) whole now fewer
  where
    sums : (a b c d e : ℕ) → a ≡ b → c ≡ d → d + 1 ≡ e → a + c < b + e
    sums a b c d e p q r = omega arith

-- One more was asked whether it still narrows: that takes a step at most, and none where it doesn't wait.
pub count-asked : (ws : List Bool) (k start before now : ℕ) → k < length ws → before ≤ start + count_by (λ w. w) (take k ws) → now ≤ before + 1 → (slice_get ws k ≡ Some false → now ≡ before)
    → now ≤ start + count_by (λ w. w) (take (k + 1) ws)
count-asked ws k start before now l so one quiet = at (get_or ws k false) refl
  where
    at : (b : Bool) → get_or ws k false ≡ b → now ≤ start + count_by (λ w. w) (take (k + 1) ws)
    at true e = omega (arith, count_by_more_yes (λ (w : Bool). w) ws k false l e, so, one)
    at false e = omega (arith, count_by_more_no (λ (w : Bool). w) ws k false l e, so, quiet (slice_get-get_or ws k false l ∙ ap Some e))

apart : (n a b : ℕ) → b ≤ a → a * (n + 1) ≡ (a - b) * (n + 1) + b * (n + 1)
apart n a b h = ap (λ (x : ℕ). x * (n + 1)) whole ∙ split (a - b)
  where
    whole : a ≡ (a - b) + b
    whole = omega (arith, h)

    split : (d : ℕ) → (d + b) * (n + 1) ≡ d * (n + 1) + b * (n + 1)
    split d = omega arith

-- The steps of a run whose steps and what may still come never rose together, with some more that are covered by who waits at its end.
pub run-bound : (n start now end m b : ℕ) (before after : List Bool) → length before ≡ n → length after ≡ n → b ≤ m
    → now + left_over b after ≤ start + left_over m before → end ≤ now + count_by (λ w. w) after
    → end ≤ start + count_by (λ w. w) before + (m - b) * (n + 1)
run-bound n start now end m b before after p q low h more =
    sums (m * (n + 1)) (b * (n + 1)) ((m - b) * (n + 1)) (m * (length before + 1)) (b * (length after + 1)) (count_by (λ w. w) before) (count_by (λ w. w) after) (apart n m b low)
    (ap (λ (x : ℕ). m * (x + 1)) p) (ap (λ (x : ℕ). b * (x + 1)) q) h more
  where
    sums : (x y d xb yb co cn : ℕ) → x ≡ d + y → xb ≡ x → yb ≡ y → now + (yb + cn) ≤ start + (xb + co) → end ≤ now + cn → end ≤ start + co + d
    sums x y d xb yb co cn e f g k t = omega arith

-- the same of a run whose last firing emptied the box: the one that was fired waits still
pub emptied-bound : (n start now end m b e k : ℕ) (before ws : List Bool) → length before ≡ n → length ws ≡ n → b ≤ m → e ≤ b
    → now + left_over b ws ≤ start + left_over m before → end ≡ now + 1 → slice_get ws k ≡ Some true → k < length ws
    → end ≤ start + count_by (λ w. w) before + (m - e) * (n + 1)
emptied-bound n start now end m b e k before ws p q low less h one waits l =
    run-bound n start now end m e before ws p q (omega (arith, low, less)) (fewer (e * (length ws + 1)) (b * (length ws + 1)) (start + left_over m before) (mul-le-mul_right (length ws + 1) less) h) (omega (arith, one, count-rests ws k waits l))
  where
    fewer : (x y z : ℕ) → x ≤ y → now + (y + count_by (λ w. w) ws) ≤ z → now + (x + count_by (λ w. w) ws) ≤ z
    fewer x y z t u = omega (arith, t, u)

-- steps and what may still come, one firing further
pub fewer-left : (s t a b z : ℕ) → s + a ≤ z → t ≡ s + 1 → b < a → t + b ≤ z
fewer-left s t a b z h e l = omega arith
