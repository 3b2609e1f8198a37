-- What the words of a line spell.
use Rattle.std.proofs.Common.{◌≡◌, ℕ, ℤ, ◌<◌, ◌≤◌, ◌==◌, ◌++◌, Bool, true, false, List, [], ◌∷◌, length, refl, sym, ap, ap₂, ◌∙◌, subst, arith, Option, Some, None}
use Rattle.std.specs.Prelude.{codes, pos, neg_ℤ, option_map, if◌then◌else◌}
use Rattle.std.specs.List.{AllByRecursion, list_all}
use Rattle.std.proofs.lemmas.Bool.{and_parts, eqb-true}
use Rattle.std.proofs.lemmas.Bool.Decides.{nat_tests}
use Rattle.log_spelling.specs.Numbers.{are_digits, digits_value, is_digit, magnitude_of, number_of}
use Rattle.pair_form.specs.Forms.{HasNumbers, IsLink, LinkForm}
use Rattle.pair_form.specs.Lines.{BeginsWithLine, line}
use Rattle.pair_form.specs.Words.{IsWord, Lacks}
use Rattle.pair_form.proofs.Cuts.{lacks_cons}

-- ---- numbers are words

digit_above : (d : ℕ) → is_digit d ≡ true → 48 ≤ d
digit_above d h = grind (arith, nat_tests)

digits_lack : (c : ℕ) (ds : List ℕ) → c < 48 → list_all is_digit ds ≡ true → Lacks c ds
digits_lack c [] low h = refl
digits_lack c (d ∷ ds) low h =
    let p = and_parts (is_digit d) _ h in
    let above : 48 ≤ d = digit_above d p.0 in
    lacks_cons c d ds (λ e. absurd (omega arith)) (digits_lack c ds low p.1)

test_held : (b : Bool) (m n : ℕ) → (if b then Some m else None) ≡ Some n → b ≡ true
test_held true m n e = refl
test_held false m n e = cc

magnitude_digits : (ds : List ℕ) (n : ℕ) → magnitude_of ds ≡ Some n → list_all is_digit ds ≡ true
magnitude_digits ds n e = (and_parts _ (list_all is_digit ds) (and_parts _ _ (test_held (are_digits ds) (digits_value 0 ds) n e)).1).1

mapped : (f : ℕ → ℤ) (o : Option ℕ) (z : ℤ) → option_map f o ≡ Some z → (n : ℕ) × (o ≡ Some n)
mapped f None z e = cc
mapped f (Some n) z e = (n, refl)

digits_word : (c : ℕ) (cs : List ℕ) → 11 ≤ c → (c ≡ 32 → ⊥) → list_all is_digit cs ≡ true → IsWord (c ∷ cs)
digits_word c cs past other h = record {
  some = refl;
  no_space = lacks_cons 32 c cs other (digits_lack 32 cs (omega arith) h);
  no_end = lacks_cons 10 c cs (λ e. absurd (omega arith)) (digits_lack 10 cs (omega arith) h);
}

signed_word : (f : ℕ → ℤ) (c : ℕ) (cs : List ℕ) (z : ℤ) → 11 ≤ c → (c ≡ 32 → ⊥) → option_map f (magnitude_of cs) ≡ Some z → IsWord (c ∷ cs)
signed_word f c cs z past other e = let m = mapped f (magnitude_of cs) z e in digits_word c cs past other (magnitude_digits cs m.0 m.1)

bare_word : (c : ℕ) (cs : List ℕ) (z : ℤ) → option_map pos (magnitude_of (c ∷ cs)) ≡ Some z → IsWord (c ∷ cs)
bare_word c cs z e =
    let m = mapped pos (magnitude_of (c ∷ cs)) z e in
    let p = and_parts (is_digit c) _ (magnitude_digits (c ∷ cs) m.0 m.1) in
    let above : 48 ≤ c = digit_above c p.0 in
    digits_word c cs (omega arith) (λ e. absurd (omega arith)) p.1

by_sign : (minus plus : Bool) (c : ℕ) (cs : List ℕ) (z : ℤ) → (c == 45) ≡ minus → (c == 43) ≡ plus
    → (if minus then option_map (λ n. neg_ℤ (pos n)) (magnitude_of cs) else if plus then option_map pos (magnitude_of cs) else option_map pos (magnitude_of (c ∷ cs))) ≡ Some z → IsWord (c ∷ cs)
by_sign true plus c cs z h k e = let is : c ≡ 45 = eqb-true c 45 h in signed_word (λ n. neg_ℤ (pos n)) c cs z (omega arith) (λ e. absurd (omega arith)) e
by_sign false true c cs z h k e = let is : c ≡ 43 = eqb-true c 43 k in signed_word pos c cs z (omega arith) (λ e. absurd (omega arith)) e
by_sign false false c cs z h k e = bare_word c cs z e

pub number_is_word : (word : List ℕ) (z : ℤ) → number_of word ≡ Some z → IsWord word
number_is_word [] z e = cc
number_is_word (c ∷ cs) z e = by_sign (c == 45) (c == 43) c cs z refl refl e

-- ---- a word and two numbers

numbers_words : (kind : List ℕ) (words : List (List ℕ)) (numbers : ℤ × ℤ) → IsWord kind → HasNumbers kind words numbers → AllByRecursion IsWord words
numbers_words kind words numbers k h = subst (AllByRecursion IsWord) (sym h.spelled) (k, (number_is_word h.low numbers.0 h.low_is, (number_is_word h.high numbers.1 h.high_is, tt)))

pub numbers_begin : (kind bytes : List ℕ) (words : List (List ℕ)) (numbers : ℤ × ℤ) (rest : List ℕ) → IsWord kind → HasNumbers kind words numbers → bytes ≡ line words ++ rest → BeginsWithLine bytes words rest
numbers_begin kind bytes words numbers rest k h e = record {
  some = omega (arith, ap length h.spelled);
  few = omega (arith, ap length h.spelled);
  words_are = numbers_words kind words numbers k h;
  whole = e;
}

pub numbers_one : (kind : List ℕ) (words : List (List ℕ)) (a b : ℤ × ℤ) → HasNumbers kind words a → HasNumbers kind words b → a ≡ b
numbers_one kind words a b h k =
    let spelled : kind ∷ h.low ∷ h.high ∷ [] ≡ kind ∷ k.low ∷ k.high ∷ [] = sym h.spelled ∙ k.spelled in
    let low : h.low ≡ k.low = cc in
    let high : h.high ≡ k.high = cc in
    let low_is : Some a.0 ≡ Some b.0 = sym h.low_is ∙ (ap number_of low ∙ k.low_is) in
    let high_is : Some a.1 ≡ Some b.1 = sym h.high_is ∙ (ap number_of high ∙ k.high_is) in
    let least : a.0 ≡ b.0 = cc in
    let greatest : a.1 ≡ b.1 = cc in
    ap₂ (λ (x y : ℤ). let p : ℤ × ℤ = (x, y) in p) least greatest

-- ---- a link

link_words : (words : List (List ℕ)) (link : LinkForm) → IsLink words link → AllByRecursion IsWord words
link_words words link h =
    let kind : IsWord (codes "link") = record { some = refl; no_space = refl; no_end = refl } in
    subst (AllByRecursion IsWord) (sym h.spelled) (kind, (number_is_word h.tick link.tick h.tick_is, (number_is_word h.near link.radii.0 h.near_is, (number_is_word h.far link.radii.1 h.far_is, h.names))))

pub link_begins : (bytes : List ℕ) (words : List (List ℕ)) (link : LinkForm) (rest : List ℕ) → IsLink words link → bytes ≡ line words ++ rest → BeginsWithLine bytes words rest
link_begins bytes words link rest h e = record {
  some = omega (arith, ap length h.spelled);
  few = omega (arith, ap length h.spelled);
  words_are = link_words words link h;
  whole = e;
}

same_pair : {A B : Type 0} (a b : A × B) → a.0 ≡ b.0 → a.1 ≡ b.1 → a ≡ b
same_pair {A} {B} a b e k = ap₂ (λ (x : A) (y : B). let p : A × B = (x, y) in p) e k

same_link : (a b : LinkForm) → a.tick ≡ b.tick → a.radii.0 ≡ b.radii.0 → a.radii.1 ≡ b.radii.1 → a.first.0 ≡ b.first.0 → a.first.1 ≡ b.first.1 → a.second.0 ≡ b.second.0 → a.second.1 ≡ b.second.1 → a ≡ b
same_link a b tick near far x1 y1 x2 y2 =
    let radii : a.radii ≡ b.radii = same_pair a.radii b.radii near far in
    let first : a.first ≡ b.first = same_pair a.first b.first x1 y1 in
    let second : a.second ≡ b.second = same_pair a.second b.second x2 y2 in
    ap₂ (λ (t : ℤ) (r : ℤ × ℤ). let l : LinkForm = record { tick = t; radii = r; first = a.first; second = a.second } in l) tick radii
    ∙ ap₂ (λ (f s : List ℕ × List ℕ). let l : LinkForm = record { tick = b.tick; radii = b.radii; first = f; second = s } in l) first second

pub link_one : (words : List (List ℕ)) (a b : LinkForm) → IsLink words a → IsLink words b → a ≡ b
link_one words a b h k =
    let spelled : codes "link" ∷ h.tick ∷ h.near ∷ h.far ∷ a.first.0 ∷ a.first.1 ∷ a.second.0 ∷ a.second.1 ∷ [] ≡ codes "link" ∷ k.tick ∷ k.near ∷ k.far ∷ b.first.0 ∷ b.first.1 ∷ b.second.0 ∷ b.second.1 ∷ [] = sym h.spelled ∙ k.spelled in
    let tick_word : h.tick ≡ k.tick = cc in
    let near_word : h.near ≡ k.near = cc in
    let far_word : h.far ≡ k.far = cc in
    let tick_is : Some a.tick ≡ Some b.tick = sym h.tick_is ∙ (ap number_of tick_word ∙ k.tick_is) in
    let near_is : Some a.radii.0 ≡ Some b.radii.0 = sym h.near_is ∙ (ap number_of near_word ∙ k.near_is) in
    let far_is : Some a.radii.1 ≡ Some b.radii.1 = sym h.far_is ∙ (ap number_of far_word ∙ k.far_is) in
    let tick : a.tick ≡ b.tick = cc in
    let near : a.radii.0 ≡ b.radii.0 = cc in
    let far : a.radii.1 ≡ b.radii.1 = cc in
    let x1 : a.first.0 ≡ b.first.0 = cc in
    let y1 : a.first.1 ≡ b.first.1 = cc in
    let x2 : a.second.0 ≡ b.second.0 = cc in
    let y2 : a.second.1 ≡ b.second.1 = cc in
    same_link a b tick near far x1 y1 x2 y2
