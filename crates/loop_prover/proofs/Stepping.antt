-- Steps and step bounds, one rate and one cell more.
use Rattle.std.proofs.Common.{◌≡◌, ℕ, ◌+◌, ◌<◌, ◌≤◌, Bool, true, false, cond, Option, Some, None, List, [], ◌∷◌, map, take, length, get_or, ℤ, pos, ◌+ℤ◌, neg_ℤ, ◌≤ℤ◌, int_le, arith, refl, sym, ap, ◌∙◌, IfSome, SFits, w64, negsuc}
use Rattle.std.specs.Int.{int_max, int_min}
use Rattle.std.specs.List.{fold}
use Rattle.std.proofs.lemmas.Int.{ints, clamps}
use Rattle.std.proofs.lemmas.List.Sums.{fold_more}
use Rattle.std.proofs.lemmas.List.{take_all}
use Rattle.tube_spec.specs.Span.{Span, IsProper, IsBounded, meet_of, sub_of}
use Rattle.tube_spec.specs.Hull.{proper}
use Rattle.tube_store.specs.declared.SignalId.{SignalId}
use Rattle.loop_degree.specs.Steps.{greatest_in, greatest_sum}
use Rattle.loop_prover.specs.Steps.{meet_option, greatest_option}

-- what is improper stays so
improper : (s t : Span) → int_le s.lo s.hi ≡ false → int_le (int_max s.lo t.lo) (int_min s.hi t.hi) ≡ false
improper s t h = grind (arith, ints, clamps)

-- a span that shares nothing with one rate shares nothing with all
proper-meet : (s t : Span) → meet_option (proper s) t ≡ proper (meet_of s t)
proper-meet s t = at (int_le s.lo s.hi) refl
  where
    at : (b : Bool) → int_le s.lo s.hi ≡ b → meet_option (cond b (Some s) None) t ≡ proper (meet_of s t)
    at true h = refl
    at false h = rw (improper s t h) refl

pub greatest-proper : (s : Span) → greatest_option (proper s) ≡ greatest_in s
greatest-proper s = at (int_le s.lo s.hi)
  where
    at : (b : Bool) → greatest_option (cond b (Some s) None) ≡ cond b (int_max (neg_ℤ s.lo) s.hi) (pos 0)
    at true = refl
    at false = refl

fold-map : {A X Y : Type 0} (f : A → Y → A) (g : X → Y) (a : A) (xs : List X) → fold f a (map g xs) ≡ fold (λ s x. f s (g x)) a xs
fold-map f g a [] = refl
fold-map f g a (x ∷ xs) = fold-map f g (f a (g x)) xs

fold-map_more : {A X Y : Type 0} (f : A → Y → A) (g : X → Y) (a : A) (xs : List X) (i : ℕ) (d : X) → i < length xs → fold f a (map g (take (i + 1) xs)) ≡ f (fold f a (map g (take i xs))) (g (get_or xs i d))
fold-map_more f g a xs i d l =
    fold-map f g a (take (i + 1) xs) ∙ fold_more (λ s x. f s (g x)) a xs i d l
    ∙ ap (λ s. f s (g (get_or xs i d))) (sym (fold-map f g a (take i xs)))

-- the numbers of signals
abbrev pub numbers_of : List SignalId → List ℕ
numbers_of rates = map (λ r. r.0) rates

-- one rate more
pub step-more : (box : Option (List Span)) (first : List Span → Span) (tube : List Span → ℕ → Span) (rates : List SignalId) (i : ℕ) (d : SignalId) (step next : Option Span) (v : Span) → i < length rates
    → IfSome box (λ xs. step ≡ proper (fold (λ s r. meet_of s (tube xs r)) (first xs) (numbers_of (take i rates))))
    → IfSome box (λ xs. v ≡ tube xs (get_or rates i d).0) → next ≡ meet_option step v
    → IfSome box (λ xs. next ≡ proper (fold (λ s r. meet_of s (tube xs r)) (first xs) (numbers_of (take (i + 1) rates))))
step-more None first tube rates i d step next v l h k e = tt
step-more (Some xs) first tube rates i d step next v l h k e =
    let f = λ (s : Span) (r : ℕ). meet_of s (tube xs r) in
    let before = fold f (first xs) (numbers_of (take i rates)) in
    let more = fold-map_more f (λ (r : SignalId). r.0) (first xs) rates i d l in
    e ∙ ap (λ (o : Option Span). meet_option o v) h ∙ proper-meet before v ∙ ap (λ (t : Span). proper (meet_of before t)) k ∙ ap proper (sym more)

-- one cell more
pub bound-more : (box : Option (List Span)) (step : List Span → ℕ → ℤ) (cells : List (ℕ × ℕ)) (i : ℕ) (d : ℕ × ℕ) (top at_a at_b next : ℤ) → i < length cells
    → IfSome box (λ xs. top ≡ greatest_sum (step xs) (take i cells))
    → IfSome box (λ xs. at_a ≡ step xs (get_or cells i d).0) → IfSome box (λ xs. at_b ≡ step xs (get_or cells i d).1) → next ≡ int_max top (at_a +ℤ at_b)
    → IfSome box (λ xs. next ≡ greatest_sum (step xs) (take (i + 1) cells))
bound-more None step cells i d top at_a at_b next l h a b e = tt
bound-more (Some xs) step cells i d top at_a at_b next l h a b e =
    let more = fold_more (λ (t : ℤ) (c : ℕ × ℕ). int_max t (step xs c.0 +ℤ step xs c.1)) (pos 1) cells i d l in cc

-- a change, before any rate
pub step-start : (box : Option (List Span)) (s : Span) → IsProper s → IfSome box (λ xs. Some s ≡ proper s)
step-start None s h = tt
step-start (Some xs) s h = let l : int_le s.lo s.hi ≡ true = grind (arith, ints) in rw l refl

-- the change is a difference of two intervals
pub step-left : (box : Option (List Span)) (later now : List Span → Span) (tube : List Span → ℕ → Span) (rates : List ℕ) (a b change : Span) (r : ℤ) → IfSome box (λ xs. a ≡ later xs) → IfSome box (λ xs. b ≡ now xs) → change ≡ sub_of a b
    → IfSome box (λ xs. r ≡ greatest_in (fold (λ s v. meet_of s (tube xs v)) change rates)) → IfSome box (λ xs. r ≡ greatest_in (fold (λ s v. meet_of s (tube xs v)) (sub_of (later xs) (now xs)) rates))
step-left None later now tube rates a b change r h k e f = tt
step-left (Some xs) later now tube rates a b change r h k e f =
    let g = λ (t : Span). greatest_in (fold (λ (s : Span) (v : ℕ). meet_of s (tube xs v)) t rates) in
    f ∙ ap g (e ∙ ap (λ (t : Span). sub_of t b) h ∙ ap (λ (t : Span). sub_of (later xs) t) k)

-- all rates
pub step-end : (box : Option (List Span)) (first : List Span → Span) (tube : List Span → ℕ → Span) (rates : List SignalId) (i : ℕ) (step : Option Span) (r : ℤ) → length rates ≤ i
    → IfSome box (λ xs. step ≡ proper (fold (λ s r. meet_of s (tube xs r)) (first xs) (numbers_of (take i rates)))) → r ≡ greatest_option step
    → IfSome box (λ xs. r ≡ greatest_in (fold (λ s r. meet_of s (tube xs r)) (first xs) (numbers_of rates)))
step-end None first tube rates i step r l h e = tt
step-end (Some xs) first tube rates i step r l h e =
    let whole : take i rates ≡ rates = take_all i rates l in
    e ∙ ap greatest_option h ∙ ap (λ (rs : List SignalId). greatest_option (proper (fold (λ s r. meet_of s (tube xs r)) (first xs) (numbers_of rs)))) whole
    ∙ greatest-proper (fold (λ s r. meet_of s (tube xs r)) (first xs) (numbers_of rates))

-- a difference of positions lies within twice their bound
pub sub-bounded : (a b s : Span) → IsBounded 500000000 a → IsBounded 500000000 b → s ≡ sub_of a b → IsBounded 1000000000 s
sub-bounded a b s h k e =
    let low = ap (λ (t : Span). t.lo) e in
    let high = ap (λ (t : Span). t.hi) e in
    record { low = omega (arith, ints, h.low, k.high, low); high = omega (arith, ints, h.high, k.low, high) }

-- what is small fits 64 bits
pub fits : (z : ℤ) → pos 0 ≤ℤ z → z ≤ℤ pos 4000000000 → SFits w64 z
fits (pos n) h k = record { sfits = omega (arith, ints, k) }
fits (negsuc n) h k = absurd (omega (arith, ints, h))
