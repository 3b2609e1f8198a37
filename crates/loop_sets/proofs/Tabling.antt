-- Tables of the greatest numbers.
use Rattle.std.proofs.Common.{◌≡◌, ℕ, zero, suc, ◌+◌, ◌-◌, ◌*◌, ◌/◌, ◌<◌, ◌≤◌, ◌⊎◌, inl, inr, List, [], ◌∷◌, ◌++◌, Vec, length, get_or, map, take, All, ℤ, pos, ◌≤ℤ◌, arith, sym, ap, subst, ◌∙◌, refl, min, w64, to_z, of_z, Option, Some, None, IfSome}
use Rattle.std.specs.declared.alloc.Global.{Global}
use Rattle.std.specs.Int.{int_max}
use Rattle.std.proofs.lemmas.Int.{ints, clamps, to_z-of_z}
use Rattle.std.proofs.lemmas.List.{get_or_default, get_or_past, take_more, map-append}
use Rattle.tube_spec.specs.Span.{Span, IsBounded, IsProper, point}
use Rattle.tube_spec.specs.Box.{AreBounded}
use Rattle.hull_tree.proofs.Gaps.{small_fits}
use Rattle.loop_sets.specs.declared.table.Level.{Level}
use Rattle.loop_sets.specs.Tables.{number_at, IsSmallNumber, AreSmall, IsTop, IsLevel, AreBlockTops, IsInBlock, block_side}
use Rattle.loop_sets.proofs.Lists.{split, below-or-same}

-- two blocks of a level reach from one end to the other
pub level-top : (values : List ℤ) (level : Level) (first last place : ℕ) (l r top : ℤ) → IsLevel values level → first < length level.tops.items → place < length level.tops.items
    → place + level.side ≡ last + 1 → place ≤ first + level.side → l ≡ number_at level.tops.items first → r ≡ number_at level.tops.items place → top ≡ int_max l r → IsTop values first last top
level-top values level first last place l r top is f p whole reach el er e = record {
  over = λ k low high. at k low high (split k (first + level.side));
  small = (omega (arith, ints, clamps, el, er, e, is.small first, is.small place), omega (arith, ints, clamps, el, er, e, is.small first, is.small place));
}
  where
    at : (k : ℕ) → first ≤ k → k ≤ last → (k < first + level.side) ⊎ (first + level.side ≤ k) → number_at values k ≤ℤ top
    at k low high (inl m) = omega (arith, ints, clamps, el, e, is.over first k f low m)
    at k low high (inr m) = omega (arith, ints, clamps, er, e, is.over place k p (omega (arith, reach, m)) (omega (arith, whole, high)))

-- the greater of two neighbours that are a side apart
pub next-level : (values : List ℤ) (level : Level) (tops : Vec ℤ Global) → IsLevel values level → length tops.items + level.side ≡ length level.tops.items
    → ((k : ℕ) → k < length tops.items → number_at tops.items k ≡ int_max (number_at level.tops.items k) (number_at level.tops.items (k + level.side))) → IsLevel values (record { side = 2 * level.side; tops = tops })
next-level values level tops is len each = record {
  over = λ i k l low high. at i k l low high (split k (i + level.side));
  small = λ k. small-at k (split k (length tops.items));
}
  where
    at : (i k : ℕ) → i < length tops.items → i ≤ k → k < i + 2 * level.side → (k < i + level.side) ⊎ (i + level.side ≤ k) → number_at values k ≤ℤ number_at tops.items i
    at i k l low high (inl m) = omega (arith, ints, clamps, each i l, is.over i k (omega (arith, len, l)) low m)
    at i k l low high (inr m) = omega (arith, ints, clamps, each i l, is.over (i + level.side) k (omega (arith, len, l)) m (omega (arith, high)))

    small-at : (k : ℕ) → (k < length tops.items) ⊎ (length tops.items ≤ k) → IsSmallNumber (number_at tops.items k)
    small-at k (inl l) = (omega (arith, ints, clamps, each k l, is.small k, is.small (k + level.side)), omega (arith, ints, clamps, each k l, is.small k, is.small (k + level.side)))
    small-at k (inr l) = let e : number_at tops.items k ≡ pos 0 = get_or_past tops.items k (pos 0) l in (omega (arith, ints, e), omega (arith, ints, e))

-- a number that is read
pub read-at : (values : List ℤ) (i : ℕ) (x : ℤ) → i < length values → x ≡ get_or values i x → x ≡ number_at values i
read-at values i x l h = h ∙ get_or_default values i x (pos 0) l

-- one number more
pub small-more : (values : List ℤ) (x : ℤ) → AreSmall values → IsSmallNumber x → AreSmall (values ++ x ∷ [])
small-more [] x h small zero = small
small-more [] x h small (suc k) = (omega (arith, ints), omega (arith, ints))
small-more (y ∷ ys) x h small zero = h 0
small-more (y ∷ ys) x h small (suc k) = small-more ys x (λ j. h (suc j)) small k

pub bounds-more : (f : Span → ℤ) (ticks : List Span) (i : ℕ) (tick : Span) (items more : List ℤ) (x : ℤ) → i < length ticks → tick ≡ get_or ticks i tick → items ≡ map f (take i ticks) → more ≡ items ++ x ∷ [] → x ≡ f tick → more ≡ map f (take (i + 1) ticks)
bounds-more f ticks i tick items more x l at h m e =
    m ∙ ap (λ (zs : List ℤ). zs ++ x ∷ []) h ∙ ap (λ (z : ℤ). map f (take i ticks) ++ z ∷ []) (e ∙ ap f at) ∙ sym (map-append f (take i ticks) (get_or ticks i tick ∷ [])) ∙ ap (map f) (sym (take_more ticks i tick l))

pub bounded-tick : (ticks : List Span) (i : ℕ) (tick : Span) → AreBounded ticks → i < length ticks → tick ≡ get_or ticks i tick → IsBounded 500000000 tick
bounded-tick ticks i tick h l e = subst (IsBounded 500000000) (sym (e ∙ get_or_default ticks i tick (point (pos 0)) l)) (h i)

pub small-lo : (s : Span) (x : ℤ) → IsBounded 500000000 s → IsProper s → x ≡ s.lo → IsSmallNumber x
small-lo s x h p e = (omega (arith, ints, h.low, h.high, p, e), omega (arith, ints, h.low, h.high, p, e))

pub small-hi : (s : Span) (x : ℤ) → IsBounded 500000000 s → IsProper s → x ≡ s.hi → IsSmallNumber x
small-hi s x h p e = (omega (arith, ints, h.low, h.high, p, e), omega (arith, ints, h.low, h.high, p, e))

pub read-small : (x : ℤ) → IsSmallNumber x → to_z w64 (of_z w64 x) ≡ x
read-small x h = to_z-of_z w64 x (small_fits x h.0 h.1)

-- what a level of a table says
pub level-some : (levels : List Level) (i first last : ℕ) (level : Level) (o : Option ℤ) → i < length levels → level ≡ get_or levels i level
    → IfSome o (λ top. (zs : List ℤ) → IsLevel zs level → IsTop zs first last top) → IfSome o (λ top. (zs : List ℤ) → All (IsLevel zs) levels → IsTop zs first last top)
level-some levels i first last level None l e h = tt
level-some levels i first last level (Some top) l e h = λ zs all. h zs (subst (IsLevel zs) (sym e) (all i level l))

pub table-some : (values : List ℤ) (levels lent : List Level) (first last : ℕ) (o : Option ℤ) → lent ≡ levels → All (IsLevel values) levels → IfSome o (λ top. (zs : List ℤ) → All (IsLevel zs) lent → IsTop zs first last top) → IfSome o (IsTop values first last)
table-some values levels lent first last None e all h = tt
table-some values levels lent first last (Some top) e all h = h values (subst (All (IsLevel values)) (sym e) all)

-- a number of a list that is one longer
pub number-before : (xs : List ℤ) (x : ℤ) (j : ℕ) → j < length xs → number_at (xs ++ x ∷ []) j ≡ number_at xs j
number-before [] x j l = absurd (omega (arith, l))
number-before (y ∷ ys) x zero l = refl
number-before (y ∷ ys) x (suc j) l = number-before ys x j (omega (arith, l))

pub number-last : (xs : List ℤ) (x : ℤ) → number_at (xs ++ x ∷ []) (length xs) ≡ x
number-last [] x = refl
number-last (y ∷ ys) x = number-last ys x

-- the top of one block more
pub block-more : (values tops more : List ℤ) (i end : ℕ) (x : ℤ) → length tops ≡ i → ((j k : ℕ) → j < i → k < length values → IsInBlock j k → number_at values k ≤ℤ number_at tops j)
    → IsTop values (block_side * i) (end - 1) x → end ≡ min (block_side * i + block_side) (length values) → more ≡ tops ++ x ∷ [] → (j k : ℕ) → j < i + 1 → k < length values → IsInBlock j k → number_at values k ≤ℤ number_at more j
block-more values tops more i end x n over top e m j k l w b = subst (λ (zs : List ℤ). number_at values k ≤ℤ number_at zs j) (sym m) (at (below-or-same j i l))
  where
    at : (j < i) ⊎ (j ≡ i) → number_at values k ≤ℤ number_at (tops ++ x ∷ []) j
    at (inl h) = omega (arith, ints, number-before tops x j (omega (arith, n, h)), over j k h w b)
    at (inr h) =
        let same : number_at (tops ++ x ∷ []) j ≡ x = ap (λ (q : ℕ). number_at (tops ++ x ∷ []) q) (h ∙ sym n) ∙ number-last tops x in
        omega (arith, ints, same, top.over k (omega (arith, b.0, h)) (omega (arith, b.1, h, e, w)))

-- the ends of a range, and the blocks between
pub top-between : (values tops : List ℤ) (first last low high : ℕ) (a b m top : ℤ) → AreBlockTops values tops → last < length values → last < 32 * high + 32 → low + 2 ≤ high
    → IsTop values first (32 * low + 32 - 1) a → IsTop values (32 * high) last b → IsTop tops (low + 1) (high - 1) m → a ≤ℤ top → b ≤ℤ top → m ≤ℤ top → IsSmallNumber top → IsTop values first last top
top-between values tops first last low high a b m top are within end far is-a is-b is-m le-a le-b le-m small = record {
  over = λ k l h. at k l h (split k (32 * low + 32)) (split k (32 * high));
  small = small;
}
  where
    at : (k : ℕ) → first ≤ k → k ≤ last → (k < 32 * low + 32) ⊎ (32 * low + 32 ≤ k) → (k < 32 * high) ⊎ (32 * high ≤ k) → number_at values k ≤ℤ top
    at k l h (inl before) s = omega (arith, ints, is-a.over k l (omega (arith, before)), le-a)
    at k l h (inr past) (inr after) = omega (arith, ints, is-b.over k after h, le-b)
    at k l h (inr past) (inl inner) =
        omega (arith, ints, are.over (k / 32) k (omega (arith, h, within)) (omega arith, omega arith), is-m.over (k / 32) (omega (arith, past)) (omega (arith, inner)), le-m)
