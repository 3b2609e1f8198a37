-- What the code finds of two boxes: whether they meet, and what that leaves.
use Rattle.std.proofs.Common.{◌≡◌, ◌&&◌, ◌⊎◌, inl, inr, ℕ, zero, suc, ◌<◌, Bool, true, false, cond, Some, None, List, [], ◌∷◌, arith, refl, sym, ap, ap₂, subst, ◌∙◌, length, slice_index, slice_get, pos, ◌+◌, ◌≢◌, set, get_or-set_same, get_or-set_other}
use Rattle.std.proofs.lemmas.Int.{ints}
use Rattle.tube_spec.specs.Span.{Span, IsProper, point, meet_of}
use Rattle.tube_spec.specs.Box.{cell_at}
use Rattle.int_interval.specs.Inverse.{meets}
use Rattle.interval_box.specs.Parts.{part_of, each_of, EachShares}
use Rattle.interval_box.proofs.Each.{part-each}
use Rattle.ctc_constell.specs.Points.{box_of}
use Rattle.ctc_constell.specs.Constellations.{boxes_meet, left_by}

both-left : (a b : Bool) → (a && b) ≡ true → a ≡ true
both-left true b h = refl
both-left false b h = absurd (cc)

both-right : (a b : Bool) → (a && b) ≡ true → b ≡ true
both-right true b h = h
both-right false b h = absurd (cc)

both : (a b : Bool) → a ≡ true → b ≡ true → (a && b) ≡ true
both true b h k = k
both false b h k = absurd (cc)

meets-proper : (a b : Span) → meets a b ≡ true → IsProper (meet_of a b)
meets-proper a b h = grind (arith, ints, h)

proper-meets : (a b : Span) → IsProper (meet_of a b) → meets a b ≡ true
proper-meets a b h = grind (arith, ints, h)

shares-each : (x y : Span) (xs ys : List Span) → IsProper (meet_of x y) → EachShares xs ys → EachShares (x ∷ xs) (y ∷ ys)
shares-each x y xs ys here rest zero l = here
shares-each x y xs ys here rest (suc i) l = rest i (omega (arith, l))

meet-shares : (xs ys : List Span) → length xs ≡ length ys → boxes_meet xs ys ≡ true → EachShares xs ys
meet-shares [] ys e h = λ i l. absurd (omega (arith, l))
meet-shares (x ∷ xs) [] e h = λ i l. absurd (omega (arith, e))
meet-shares (x ∷ xs) (y ∷ ys) e h = λ i l. shares-each x y xs ys (meets-proper x y (both-left (meets x y) (boxes_meet xs ys) h)) (meet-shares xs ys (omega (arith, e)) (both-right (meets x y) (boxes_meet xs ys) h)) i l

shares-meet : (xs ys : List Span) → length xs ≡ length ys → EachShares xs ys → boxes_meet xs ys ≡ true
shares-meet [] ys e h = refl
shares-meet (x ∷ xs) [] e h = refl
shares-meet (x ∷ xs) (y ∷ ys) e h =
    both (meets x y) (boxes_meet xs ys) (proper-meets x y (h 0 (omega arith))) (shares-meet xs ys (omega (arith, e)) (λ i l. h (suc i) (omega (arith, l))))

get-part : (xs : List Span) (i : ℕ) (r : Span) → slice_get xs i ≡ Some r → part_of xs i ≡ r
get-part [] i r h = absurd (cc)
get-part (x ∷ xs) zero r h = (cc)
get-part (x ∷ xs) (suc i) r h = get-part xs i r h

pub left-some : (xs ys shared : List Span) (i : ℕ) (r : Span) → length xs ≡ length ys → i < length xs → EachShares xs ys → shared ≡ each_of meet_of xs ys → slice_get shared i ≡ Some r → Some r ≡ left_by xs ys i
left-some xs ys shared i r e l h is got =
    let part : meet_of (part_of xs i) (part_of ys i) ≡ r = sym (part-each meet_of xs ys i e l) ∙ ap (λ (zs : List Span). part_of zs i) (sym is) ∙ get-part shared i r got in
    ap Some (sym part) ∙ ap (λ (t : Bool). cond t (Some (meet_of (part_of xs i) (part_of ys i))) None) (sym (shares-meet xs ys e h))

pub left-none : (xs ys : List Span) (i : ℕ) → length xs ≡ length ys → (EachShares xs ys → ⊥) → None ≡ left_by xs ys i
left-none xs ys i e h = at (boxes_meet xs ys) refl
  where
    at : (t : Bool) → boxes_meet xs ys ≡ t → None ≡ cond t (Some (meet_of (part_of xs i) (part_of ys i))) None
    at true m = absurd (h (meet-shares xs ys e m))
    at false m = refl

-- the spans at the cells below n
abbrev pub IsReadBelow : List Span → List ℕ → List Span → ℕ → Type 0
IsReadBelow xs cells parts n = (k : ℕ) → k < n → part_of parts k ≡ cell_at xs (slice_index cells k)

pub all-read : (xs : List Span) (cells : List ℕ) (parts : List Span) → length parts ≡ length cells → IsReadBelow xs cells parts (length cells) → parts ≡ box_of xs cells
all-read xs [] [] e h = refl
all-read xs [] (s ∷ parts) e h = absurd (omega (arith, e))
all-read xs (c ∷ cells) [] e h = absurd (omega (arith, e))
all-read xs (c ∷ cells) (s ∷ parts) e h = ap₂ ◌∷◌ (h 0 (omega arith)) (all-read xs cells parts (omega (arith, e)) (λ k l. h (suc k) (omega (arith, l))))

split : (k n : ℕ) → k < n + 1 → (k < n) ⊎ (k ≡ n)
split k n h = grind arith

pub read-more : (xs : List Span) (cells : List ℕ) (parts : List Span) (n : ℕ) (s : Span) → n < length parts → IsReadBelow xs cells parts n → s ≡ cell_at xs (slice_index cells n) → IsReadBelow xs cells (set parts n s) (n + 1)
read-more xs cells parts n s l below e = λ k m. elim (split k n m) [
  | inl less ↦ let other : k ≢ n = omega arith in get_or-set_other parts n k s (point (pos 0)) other ∙ below k less
  | inr same ↦ subst (λ (k : ℕ). part_of (set parts n s) k ≡ cell_at xs (slice_index cells k)) (sym same) (get_or-set_same parts n s (point (pos 0)) l ∙ e)
]
