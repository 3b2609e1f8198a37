-- The turns along edges added up, and what that says of a labelled boundary.
use Rattle.std.proofs.Common.{◌≡◌, ℕ, ◌+◌, ◌<◌, ◌≤◌, ◌&&◌, cond, Option, Some, None, List, [], ◌∷◌, ◌++◌, map, ℤ, pos, ◌+ℤ◌, ◌-ℤ◌, arith, refl, sym, ap, ◌∙◌, subst, IsSome, IfSome, ◌↔◌, take, length, get_or}
use Rattle.std.specs.List.{AllByRecursion, flat_map, count_by}
use Rattle.std.specs.Option.{MatchOption}
use Rattle.std.proofs.lemmas.Int.{ints}
use Rattle.std.proofs.lemmas.List.{take_more, append-nil}
use Rattle.std.proofs.lemmas.List.Concat.{flat_map-append}
use Rattle.std.proofs.lemmas.List.Sums.{sum_by-cons}
use Rattle.std.proofs.lemmas.List.Elements.{All-from_recursion, recursion_from_All}
use Rattle.loop_degree.specs.declared.labels.Label.{Label}
use Rattle.loop_degree.specs.declared.labels.Label.TheVariants.{East, West, North, South}
use Rattle.loop_degree.specs.Pairs.{IsRising}
use Rattle.loop_degree.specs.Cells.{Edge, boundary}
use Rattle.loop_degree.specs.Labels.{label_at, is_north, is_west, degree_of}
use Rattle.loop_degree.specs.Boundary.{corner_of, HasLabels, IsLabelledBoundary, turn, turn_option, add_option, turns_of, IsSmall}
use Rattle.loop_degree.proofs.Sums.{signed_sum}

-- the turn of an edge, 0 where an end has no label
abbrev pub turn_at : Option Label → Option Label → ℤ
turn_at (Some l) (Some m) = turn l m
turn_at (Some l) None = pos 0
turn_at None m = pos 0

turn-counts : (l m : Option Label) → turn_at l m +ℤ pos (cond (is_west l && is_north m) 1 0) ≡ pos (cond (is_north l && is_west m) 1 0)
turn-counts None m = refl
turn-counts (Some East) None = refl
turn-counts (Some West) None = refl
turn-counts (Some North) None = refl
turn-counts (Some South) None = refl
turn-counts (Some East) (Some m) = refl
turn-counts (Some South) (Some m) = refl
turn-counts (Some West) (Some East) = refl
turn-counts (Some West) (Some West) = refl
turn-counts (Some West) (Some North) = refl
turn-counts (Some West) (Some South) = refl
turn-counts (Some North) (Some East) = refl
turn-counts (Some North) (Some West) = refl
turn-counts (Some North) (Some North) = refl
turn-counts (Some North) (Some South) = refl

-- The turns added up are the edges from North to West less those from West to North.
pub turns-count : (label : ℕ × ℕ → Option Label) (es : List Edge)
    → signed_sum (λ e. turn_at (label e.from) (label e.to)) es ≡ pos (count_by (λ e. is_north (label e.from) && is_west (label e.to)) es) -ℤ pos (count_by (λ e. is_west (label e.from) && is_north (label e.to)) es)
turns-count label [] = refl
turns-count label (e ∷ es) =
    let here = turn-counts (label e.from) (label e.to) in
    let back = sum_by-cons (λ (e : Edge). cond (is_west (label e.from) && is_north (label e.to)) 1 0) e es in
    let forth = sum_by-cons (λ (e : Edge). cond (is_north (label e.from) && is_west (label e.to)) 1 0) e es in
    omega (arith, ints, here, back, forth, turns-count label es)

add_option-first : (r : Option ℤ) → add_option (Some (pos 0)) r ≡ r
add_option-first None = refl
add_option-first (Some a) = ap (λ (z : ℤ). Some z) (omega (arith, ints))

add_option-assoc : (r s t : Option ℤ) → add_option (add_option r s) t ≡ add_option r (add_option s t)
add_option-assoc None s t = refl
add_option-assoc (Some a) None t = refl
add_option-assoc (Some a) (Some b) None = refl
add_option-assoc (Some a) (Some b) (Some c) = ap (λ (z : ℤ). Some z) (omega (arith, ints))

pub add_option-small : (m n : ℕ) (r s : Option ℤ) → IfSome r (IsSmall m) → IfSome s (IsSmall n) → IfSome (add_option r s) (IsSmall (m + n))
add_option-small m n None s h k = tt
add_option-small m n (Some a) None h k = tt
add_option-small m n (Some a) (Some b) h k = (omega (arith, ints, h.0, k.0), omega (arith, ints, h.1, k.1))

pub small-more : (m n : ℕ) (r : Option ℤ) → m ≤ n → IfSome r (IsSmall m) → IfSome r (IsSmall n)
small-more m n None l h = tt
small-more m n (Some a) l h = (omega (arith, ints, h.0, l), omega (arith, ints, h.1, l))

module _ (ls : List (ℕ × ℕ × Label)) where
  pub turns_of-append : (xs ys : List Edge) → turns_of ls (xs ++ ys) ≡ add_option (turns_of ls xs) (turns_of ls ys)
  turns_of-append [] ys = sym (add_option-first (turns_of ls ys))
  turns_of-append (x ∷ xs) ys =
      ap (add_option (turn_option (label_at ls x.from) (label_at ls x.to))) (turns_of-append xs ys)
      ∙ sym (add_option-assoc (turn_option (label_at ls x.from) (label_at ls x.to)) (turns_of ls xs) (turns_of ls ys))

  -- one cell more
  pub turns_of-more : (g : ℕ × ℕ → List Edge) (cs : List (ℕ × ℕ)) (i : ℕ) (d : ℕ × ℕ) → i < length cs → turns_of ls (flat_map g (take (i + 1) cs)) ≡ add_option (turns_of ls (flat_map g (take i cs))) (turns_of ls (g (get_or cs i d)))
  turns_of-more g cs i d l =
      ap (λ (xs : List (ℕ × ℕ)). turns_of ls (flat_map g xs)) (take_more cs i d l)
      ∙ ap (turns_of ls) (flat_map-append g (take i cs) (get_or cs i d ∷ []) ∙ ap (λ (es : List Edge). flat_map g (take i cs) ++ es) (append-nil (g (get_or cs i d))))
      ∙ turns_of-append (flat_map g (take i cs)) (g (get_or cs i d))

  -- the four sides of a cell, one after another
  pub turns_of-four : (s e n w : List Edge) → turns_of ls (s ++ (e ++ (n ++ w))) ≡ add_option (turns_of ls s) (add_option (turns_of ls e) (add_option (turns_of ls n) (turns_of ls w)))
  turns_of-four s e n w =
      turns_of-append s (e ++ (n ++ w))
      ∙ ap (add_option (turns_of ls s)) (turns_of-append e (n ++ w) ∙ ap (add_option (turns_of ls e)) (turns_of-append n w))

  -- The sum is there exactly where each end has a label.
  abbrev IsSumOf : List Edge → Option ℤ → Type 0
  IsSumOf es r = MatchOption r (AllByRecursion (HasLabels ls) es → ⊥) (λ d. AllByRecursion (HasLabels ls) es × (d ≡ signed_sum (λ e. turn_at (label_at ls e.from) (label_at ls e.to)) es))

  sum-step : (l m : Option Label) (es : List Edge) (r : Option ℤ) → IsSumOf es r
      → MatchOption (add_option (turn_option l m) r) (((IsSome l × IsSome m) × AllByRecursion (HasLabels ls) es) → ⊥) (λ d. ((IsSome l × IsSome m) × AllByRecursion (HasLabels ls) es) × (d ≡ turn_at l m +ℤ signed_sum (λ e. turn_at (label_at ls e.from) (label_at ls e.to)) es))
  sum-step None m es r h = λ k. absurd (let bad = k.0.0 in cc)
  sum-step (Some l) None es r h = λ k. absurd (let bad = k.0.1 in cc)
  sum-step (Some l) (Some m) es None h = λ k. h k.1
  sum-step (Some l) (Some m) es (Some d) h = (((refl, refl), h.0), ap (λ (z : ℤ). turn l m +ℤ z) h.1)

  sum-is : (es : List Edge) → IsSumOf es (turns_of ls es)
  sum-is [] = (tt, refl)
  sum-is (e ∷ es) = sum-step (label_at ls e.from) (label_at ls e.to) es (turns_of ls es) (sum-is es)

  -- the answer of the check, once its lists rise
  pub checked : (cells : List (ℕ × ℕ)) → IsRising cells → IsRising (map corner_of ls) → (r : Option ℤ) → r ≡ turns_of ls (boundary cells) → IsSome r ↔ IsLabelledBoundary cells ls
  checked cells h k r e = at r (subst (IsSumOf (boundary cells)) (sym e) (sum-is (boundary cells)))
    where
      at : (r : Option ℤ) → IsSumOf (boundary cells) r → IsSome r ↔ IsLabelledBoundary cells ls
      at None f = (λ n. absurd (cc), λ t. absurd (f (recursion_from_All (HasLabels ls) (boundary cells) t.labelled)))
      at (Some d) f = (λ _. record { rising = h; corners = k; labelled = All-from_recursion (HasLabels ls) (boundary cells) f.0 }, λ _. refl)

  pub checked-degree : (cells : List (ℕ × ℕ)) (r : Option ℤ) → r ≡ turns_of ls (boundary cells) → IfSome r (λ d. d ≡ degree_of cells (label_at ls))
  checked-degree cells r e = at r (subst (IsSumOf (boundary cells)) (sym e) (sum-is (boundary cells)))
    where
      at : (r : Option ℤ) → IsSumOf (boundary cells) r → IfSome r (λ d. d ≡ degree_of cells (label_at ls))
      at None f = tt
      at (Some d) f = f.1 ∙ turns-count (label_at ls) (boundary cells)

-- three sums, of which each is known
pub joined : (s e n w s' e' n' w' two three r : Option ℤ) → s ≡ s' → e ≡ e' → n ≡ n' → w ≡ w' → two ≡ add_option n w → three ≡ add_option e two → r ≡ add_option s three → r ≡ add_option s' (add_option e' (add_option n' w'))
joined s e n w s' e' n' w' two three r a b c d p q t = cc

pub joined-small : (s e n w two three r : Option ℤ) → two ≡ add_option n w → three ≡ add_option e two → r ≡ add_option s three → IfSome s (IsSmall 1) → IfSome e (IsSmall 1) → IfSome n (IsSmall 1) → IfSome w (IsSmall 1) → IfSome r (IsSmall 4)
joined-small s e n w two three r p q t hs he hn hw =
    let whole : r ≡ add_option s (add_option e (add_option n w)) = joined s e n w s e n w two three r refl refl refl refl p q t in
    subst (λ (t : Option ℤ). IfSome t (IsSmall 4)) (sym whole)
    (add_option-small 1 3 s (add_option e (add_option n w)) hs (add_option-small 1 2 e (add_option n w) he (add_option-small 1 1 n w hn hw)))
