-- Hulls over blocks of ticks, and how a level is made of the one below.
use Rattle.std.proofs.Common.{◌≡◌, ℕ, zero, suc, ◌+◌, ◌-◌, ◌*◌, ◌/◌, ◌^◌, ◌<◌, ◌≤◌, ◌≢◌, ◌⊎◌, inl, inr, refl, List, [], ◌∷◌, ◌++◌, Vec, Global, vec_items, min, length, get_or, pos, arith, sym, ap, subst, ◌∙◌}
use Rattle.std.proofs.Math.Nat.{pow-suc}
use Rattle.std.proofs.Math.Pow.{pow_mono}
use Rattle.std.proofs.Math.Seq.{get_or-append_seam}
use Rattle.std.proofs.lemmas.Int.{ints, clamps}
use Rattle.std.proofs.lemmas.List.{get_or-map, get_or_default, length-map, length-append, map-append}
use Rattle.std.proofs.lemmas.Nat.{pow_pos}
use Rattle.std.proofs.Math.ListN.{get_or-append}
use Rattle.tube_spec.specs.Span.{Span, point}
use Rattle.tube_spec.specs.Box.{cell_at}
use Rattle.hull_tree.specs.declared.hulls.Bounds.{Bounds}
use Rattle.hull_tree.specs.Judging.{bounds_of, both, bounds_over}
use Rattle.hull_tree.specs.Levels.{bounds_before, IsLevel, AreLevels, IsHalved, levels_of, level_at}
use Rattle.hull_tree.proofs.Gaps.{same_bounds}

both-assoc : (p q r : Bounds) → both p (both q r) ≡ both (both p q) r
both-assoc p q r = same_bounds (both p (both q r)) (both (both p q) r) (omega (arith, ints, clamps)) (omega (arith, ints, clamps)) (omega (arith, ints, clamps)) (omega (arith, ints, clamps))

-- two ranges of which the second begins right after the first
pub bounds-join : (xs : List Span) (a n m : ℕ) → both (bounds_over xs a n) (bounds_over xs (a + suc n) m) ≡ bounds_over xs a (suc n + m)
bounds-join xs a n zero = let e : suc n + 0 ≡ suc n = omega arith in rw e
bounds-join xs a n (suc m) =
    let e : suc n + suc m ≡ suc (suc n + m) = omega arith in
    let f : a + suc n + suc m ≡ a + suc (suc n + m) = omega arith in
    let last : Bounds = bounds_of (cell_at xs (a + suc (suc n + m))) in
    rw (e, f) (both-assoc (bounds_over xs a n) (bounds_over xs (a + suc n) m) last ∙ ap (λ (p : Bounds). both p last) (bounds-join xs a n m))

-- a range that is cut before its tick m
pub over-join : (xs : List Span) (a m last : ℕ) → a < m → m ≤ last → both (bounds_over xs a (m - 1 - a)) (bounds_over xs m (last - m)) ≡ bounds_over xs a (last - a)
over-join xs a m last h k =
    let e : a + suc (m - 1 - a) ≡ m = omega arith in
    let f : suc (m - 1 - a) + (last - m) ≡ last - a = omega arith in
    let j : both (bounds_over xs a (m - 1 - a)) (bounds_over xs m (last - m)) ≡ bounds_over xs a (suc (m - 1 - a) + (last - m)) =
    subst (λ (x : ℕ). both (bounds_over xs a (m - 1 - a)) (bounds_over xs x (last - m)) ≡ bounds_over xs a (suc (m - 1 - a) + (last - m))) e (bounds-join xs a (m - 1 - a) (last - m)) in
    j ∙ ap (bounds_over xs a) f

before-join : (xs : List Span) (a m end : ℕ) → a < m → m < end → both (bounds_before xs a m) (bounds_before xs m end) ≡ bounds_before xs a end
before-join xs a m end h k = over-join xs a m (end - 1) h (omega arith)

-- a tick more
pub over-more : (xs : List Span) (first i : ℕ) (x : Span) (hull more : Bounds) → first < i → i < length xs → x ≡ get_or xs i x → hull ≡ bounds_over xs first (i - 1 - first) → more ≡ both hull (bounds_of x)
    → more ≡ bounds_over xs first (i + 1 - 1 - first)
over-more xs first i x hull more h l at e m =
    let n : i + 1 - 1 - first ≡ suc (i - 1 - first) = omega (arith, h) in
    let k : first + suc (i - 1 - first) ≡ i = omega (arith, h) in
    let read : x ≡ cell_at xs i = at ∙ get_or_default xs i x (point (pos 0)) l in
    rw (n, k) (m ∙ ap (both hull) (ap bounds_of read) ∙ ap (λ (p : Bounds). both p (bounds_of (cell_at xs i))) e)

-- the hulls of each four ticks make a level
pub level-fours : (xs : List Span) (row : List Bounds) (n : ℕ) → n ≡ (length xs + 3) / 4 → length row ≡ n
    → ((i : ℕ) (d : Bounds) → i < n → get_or row i d ≡ bounds_before xs (i * 4) (min (i * 4 + 4) (length xs))) → IsLevel xs 4 row
level-fours xs row n e len each = record {
  few = λ i h. omega (arith, h, len, e);
  all = λ i h. omega (arith, h, len, e);
  hulls = λ i d h. each i d (omega (arith, h, e));
}

same-before : (xs : List Span) (a b c d : ℕ) → a ≡ c → b ≡ d → bounds_before xs a b ≡ bounds_before xs c d
same-before xs a b c d e f = cc

split : (x y : ℕ) → x < y → (x + 1 < y) ⊎ (x + 1 ≡ y)
split x y h = grind arith

-- two neighbours make a block of twice the side
pub level-halved : (xs : List Span) (side : ℕ) (row above : List Bounds) → 1 ≤ side → IsLevel xs side row → IsHalved row above → IsLevel xs (2 * side) above
level-halved xs side row above some level half = record {
  few = λ i h. let low : (2 * i) * side < length xs = level.few (2 * i) (omega (arith, h, half.len)) in omega (arith, low);
  all = λ i h. let low : 2 * i < length row = level.all (2 * i) (omega (arith, h)) in omega (arith, low, half.len);
  hulls = λ i d h. at i d h (split (2 * i) (length row) (level.all (2 * i) (omega (arith, h))));
}
  where
    at : (i : ℕ) (d : Bounds) → i * (2 * side) < length xs → (2 * i + 1 < length row) ⊎ (2 * i + 1 ≡ length row)
        → get_or above i d ≡ bounds_before xs (i * (2 * side)) (min (i * (2 * side) + 2 * side) (length xs))
    at i d h (inl more) =
        let two : (2 * i + 1) * side < length xs = level.few (2 * i + 1) more in
        let start : (2 * i) * side ≡ i * (2 * side) = omega arith in
        let middle : min ((2 * i) * side + side) (length xs) ≡ (2 * i + 1) * side = omega (arith, two) in
        let end : min ((2 * i + 1) * side + side) (length xs) ≡ min (i * (2 * side) + 2 * side) (length xs) = omega arith in
        let left : get_or row (2 * i) d ≡ bounds_before xs (i * (2 * side)) ((2 * i + 1) * side) = level.hulls (2 * i) d (omega (arith, h)) ∙ same-before xs ((2 * i) * side) (min ((2 * i) * side + side) (length xs)) (i * (2 * side)) ((2 * i + 1) * side) start middle in
        let right : get_or row (2 * i + 1) d ≡ bounds_before xs ((2 * i + 1) * side) (min (i * (2 * side) + 2 * side) (length xs)) = level.hulls (2 * i + 1) d two ∙ ap (bounds_before xs ((2 * i + 1) * side)) end in
        half.joined i d more ∙ ap (λ (p : Bounds). both p (get_or row (2 * i + 1) d)) left ∙ ap (both (bounds_before xs (i * (2 * side)) ((2 * i + 1) * side))) right
        ∙ before-join xs (i * (2 * side)) ((2 * i + 1) * side) (min (i * (2 * side) + 2 * side) (length xs)) (omega (arith, some)) (omega (arith, two, some))
    at i d h (inr same) =
        let start : (2 * i) * side ≡ i * (2 * side) = omega arith in
        let past : length xs ≤ (2 * i + 1) * side = beyond (2 * i + 1) (omega (arith, same)) in
        let end : min ((2 * i) * side + side) (length xs) ≡ min (i * (2 * side) + 2 * side) (length xs) = omega (arith, past) in
        half.alone i d same ∙ level.hulls (2 * i) d (omega (arith, h)) ∙ same-before xs ((2 * i) * side) (min ((2 * i) * side + side) (length xs)) (i * (2 * side)) (min (i * (2 * side) + 2 * side) (length xs)) start end
      where
        beyond : (j : ℕ) → length row ≤ j → length xs ≤ j * side
        beyond j k = decide (length xs) (j * side) (λ l. omega (arith, level.all j l))
          where
            decide : (x y : ℕ) → (y < x → ⊥) → x ≤ y
            decide x y none = elim (either x y) [ inl l ↦ l | inr l ↦ absurd (none l) ]
              where
                either : (x y : ℕ) → (x ≤ y) ⊎ (y < x)
                either x y = grind arith

levels-push : (levels : List (Vec Bounds Global)) (above : Vec Bounds Global) → levels_of (levels ++ above ∷ []) ≡ levels_of levels ++ above.items ∷ []
levels-push levels above = map-append vec_items levels (above ∷ [])

pub levels-length : (levels : List (Vec Bounds Global)) → length (levels_of levels) ≡ length levels
levels-length levels = length-map levels vec_items

-- a level more
pub levels-more : (xs : List Span) (levels : List (Vec Bounds Global)) (above below : Vec Bounds Global) → AreLevels xs (levels_of levels)
    → below ≡ get_or levels (length levels - 1) below → IsHalved below.items above.items → AreLevels xs (levels_of (levels ++ above ∷ []))
levels-more xs levels above below has is half = rw (levels-push levels above) (record {
  some = omega (arith, len, has.some);
  each = λ k deep h. at k deep (which k h);
})
  where
    rows : List (List Bounds)
    rows = levels_of levels

    len : length (rows ++ above.items ∷ []) ≡ length rows + 1
    len = length-append rows (above.items ∷ [])

    which : (k : ℕ) → k < length (rows ++ above.items ∷ []) → (k < length rows) ⊎ (k ≡ length rows)
    which k h = pick k (length rows) (omega (arith, h, len))
      where
        pick : (k n : ℕ) → k < n + 1 → (k < n) ⊎ (k ≡ n)
        pick k n h = grind arith

    last : level_at rows (length rows - 1) ≡ below.items
    last =
        let e : length rows ≡ length levels = levels-length levels in
        ap (λ (n : ℕ). level_at rows (n - 1)) e ∙ get_or-map vec_items levels (length levels - 1) below [] (omega (arith, has.some, e)) ∙ ap vec_items (sym is)

    made : IsLevel xs (2 ^ length rows) above.items
    made =
        let k : ℕ = length rows - 1 in
        let s : length rows ≡ suc k = omega (arith, has.some) in
        let low : IsLevel xs (2 ^ k) below.items = subst (IsLevel xs (2 ^ k)) last (has.each k (omega (arith, has.some)) (omega (arith, has.some))) in
        let up : IsLevel xs (2 * 2 ^ k) above.items = level-halved xs (2 ^ k) below.items above.items (pow_pos k) low half in
        subst (λ (x : ℕ). IsLevel xs x above.items) (let e : 2 * 2 ^ k ≡ 2 ^ suc k = omega (arith, pow-suc 2 k) in e ∙ ap (λ (n : ℕ). 2 ^ n) (sym s)) up

    at : (k : ℕ) → 2 ≤ k → (k < length rows) ⊎ (k ≡ length rows) → IsLevel xs (2 ^ k) (level_at (rows ++ above.items ∷ []) k)
    at k deep (inl h) = subst (IsLevel xs (2 ^ k)) (sym (get_or-append rows (above.items ∷ []) [] k h)) (has.each k deep h)
    at k deep (inr e) =
        subst (λ (n : ℕ). IsLevel xs (2 ^ n) (level_at (rows ++ above.items ∷ []) n)) (sym e)
        (subst (IsLevel xs (2 ^ length rows)) (sym (get_or-append_seam rows above.items [] [])) made)

-- half a side, and the two halves of a block
pub half-pow : (side level : ℕ) → side ≡ 2 ^ level → level ≢ 0 → (side / 2 ≡ 2 ^ (level - 1)) × (side / 2 + side / 2 ≡ side)
half-pow side zero s d = absurd (d refl)
half-pow side (suc m) s d =
    let k : suc m - 1 ≡ m = omega arith in
    let q : side / 2 ≡ 2 ^ m = omega (arith, pow-suc 2 m) in
    (rw k q, omega (arith, pow-suc 2 m))

pub halves : (block side half : ℕ) → half + half ≡ side → ((2 * block) * half ≡ block * side) × ((2 * block + 1) * half ≡ block * side + half)
halves block side half e = (rw (← e) (omega arith), rw (← e) (omega arith))

-- a block of four ticks or more stands above the levels that are left out
pub above-lowest : (side level : ℕ) → side ≡ 2 ^ level → 4 ≤ side → 2 ≤ level
above-lowest side zero s h = absurd (omega (arith, s, h))
above-lowest side (suc zero) s h = absurd (omega (arith, s, h))
above-lowest side (suc (suc level)) s h = omega arith

-- the lowest level that is kept, above two that are left out
pub levels-first : (xs ticks : List Span) (levels : List (Vec Bounds Global)) (one two row : Vec Bounds Global) → levels ≡ one ∷ two ∷ row ∷ [] → IsLevel ticks 4 row.items → ticks ≡ xs → AreLevels xs (levels_of levels)
levels-first xs ticks levels one two row e f g = rw e (record {
  some = omega arith;
  each = λ k deep h. at k deep h;
})
  where
    made : IsLevel xs 4 row.items
    made = subst (λ (ys : List Span). IsLevel ys 4 row.items) g f

    at : (k : ℕ) → 2 ≤ k → k < 3 → IsLevel xs (2 ^ k) (level_at (one.items ∷ two.items ∷ row.items ∷ []) k)
    at zero deep h = absurd (omega (arith, deep))
    at (suc zero) deep h = absurd (omega (arith, deep))
    at (suc (suc zero)) deep h = made
    at (suc (suc (suc k))) deep h = absurd (omega (arith, h))

-- three that were put at the end of none
pub three-pushed : {X : Type 0} (none one two three : List X) (a b c : X) → none ≡ [] → one ≡ none ++ a ∷ [] → two ≡ one ++ b ∷ [] → three ≡ two ++ c ∷ [] → three ≡ a ∷ b ∷ c ∷ []
three-pushed none one two three a b c z e f g = rw (g, f, e, z) refl

-- a level that is kept, by its place
pub level-of : (xs : List Span) (levels : List (Vec Bounds Global)) (level side : ℕ) (row : Vec Bounds Global) → AreLevels xs (levels_of levels) → 2 ≤ level → level < length levels → side ≡ 2 ^ level → row ≡ get_or levels level row
    → IsLevel xs side row.items
level-of xs levels level side row has deep l s is =
    let there : level_at (levels_of levels) level ≡ row.items = get_or-map vec_items levels level row [] l ∙ ap vec_items (sym is) in
    let kept : IsLevel xs (2 ^ level) row.items = subst (IsLevel xs (2 ^ level)) there (has.each level deep (omega (arith, l, levels-length levels))) in
    subst (λ (n : ℕ). IsLevel xs n row.items) (sym s) kept

-- a block that is a whole range
pub whole-block : (xs : List Span) (side block first last : ℕ) (row : List Bounds) (hull : Bounds) → IsLevel xs side row → block * side < length xs → first ≡ block * side → last + 1 ≡ min (block * side + side) (length xs)
    → hull ≡ get_or row block hull → hull ≡ bounds_over xs first (last - first)
whole-block xs side block first last row hull level h f l is =
    let n : min (block * side + side) (length xs) - 1 - block * side ≡ last - first = omega (arith, f, l) in
    is ∙ level.hulls block hull h ∙ ap (bounds_over xs (block * side)) n ∙ ap (λ (a : ℕ). bounds_over xs a (last - first)) (sym f)

-- what holds of each tick and of one more
pub each-more : (P : Span → Type 0) (xs : List Span) (x : Span) → ((k : ℕ) → P (cell_at xs k)) → P x → P (point (pos 0)) → (k : ℕ) → P (cell_at (xs ++ x ∷ []) k)
each-more P [] x h p z zero = p
each-more P [] x h p z (suc k) = z
each-more P (y ∷ ys) x h p z zero = h 0
each-more P (y ∷ ys) x h p z (suc k) = each-more P ys x (λ j. h (suc j)) p z k

pub length-more : (levels more : List (Vec Bounds Global)) (row : Vec Bounds Global) → more ≡ levels ++ row ∷ [] → length more ≡ length levels + 1
length-more levels more row e = ap (length {A = Vec Bounds Global}) e ∙ length-append levels (row ∷ [])

pub side-more : (side k n : ℕ) → side ≡ 2 ^ (k - 1) → 1 ≤ k → n ≡ k + 1 → side * 2 ≡ 2 ^ (n - 1)
side-more side zero n s some e = absurd (omega (arith, some))
side-more side (suc k) n s some e =
    let f : n - 1 ≡ suc k = omega (arith, e) in
    let g : suc k - 1 ≡ k = omega arith in
    let h : side ≡ 2 ^ k = s ∙ ap (λ (x : ℕ). 2 ^ x) g in
    let p : 2 ^ suc k ≡ side * 2 = omega (arith, pow-suc 2 k, h) in
    sym p ∙ ap (λ (x : ℕ). 2 ^ x) (sym f)

-- the block of twice the side that holds a tick
pub block-above : (block side tick : ℕ) → block * side ≤ tick → tick < block * side + side → ((block / 2) * (side * 2) ≤ tick) × (tick < (block / 2) * (side * 2) + side * 2)
block-above block side tick h k =
    let half : ℕ = block / 2 in
    elim (parts block) [
      | inl e ↦ let p : block * side ≡ (half * 2) * side = ap (λ (n : ℕ). n * side) e in (omega (arith, h, k, p), omega (arith, h, k, p))
      | inr e ↦ let p : block * side ≡ (half * 2 + 1) * side = ap (λ (n : ℕ). n * side) e in (omega (arith, h, k, p), omega (arith, h, k, p))
    ]
  where
    parts : (n : ℕ) → (n ≡ n / 2 * 2) ⊎ (n ≡ n / 2 * 2 + 1)
    parts n = grind arith

-- of two blocks that are not the same the later one begins at its side or after it
pub apart : (low high side last : ℕ) → low ≤ high → low ≢ high → high * side ≤ last → side ≤ last
apart low zero side last h d k = absurd (d (omega (arith, h)))
apart low (suc high) side last h d k = omega (arith, k)

-- a block whose side is not above twice its last tick stands in one of the levels
pub level-below : (level levels side last n : ℕ) → side ≡ 2 ^ level → side ≤ 2 * last + 1 → last < n → n ≤ 2 ^ (levels - 1) → 1 ≤ levels → level < levels
level-below level levels side last n s h k l m = elim (either level levels) [
  | inl less ↦ less
  | inr more ↦
      let e : levels ≡ suc (levels - 1) = omega (arith, m) in
      let p : 2 ^ levels ≡ 2 ^ (levels - 1) * 2 = ap (λ (x : ℕ). 2 ^ x) e ∙ pow-suc 2 (levels - 1) in
      let q : 2 ^ levels ≤ 2 ^ level = pow_mono more in
      absurd (omega (arith, s, h, k, l, p, q))
]
  where
    either : (x y : ℕ) → (x < y) ⊎ (y ≤ x)
    either x y = grind arith
