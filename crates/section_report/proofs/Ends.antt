-- Where sections end, and what one section more adds to a list of them.
use Rattle.std.proofs.Common.{All, suc, ◌≡◌, ℕ, ◌+◌, ◌<◌, Bool, true, false, cond, List, [], ◌∷◌, ◌++◌, arith, refl, sym, ap, ◌∙◌, length, take, drop, add-zero, append-nil, append_assoc, length-take-le, take-append-drop}
use Rattle.std.specs.Prelude.{Option}
use Rattle.std.proofs.lemmas.List.Elements.{All-get_or}
use Rattle.tube_spec.specs.Span.{Span}
use Rattle.mission_items.specs.declared.item.Item.{Item}
use Rattle.mission_items.specs.declared.mission.Mission.{Mission}
use Rattle.section_report.specs.Sections.{is_settle, settles_from, section_ends, Section, GoesOn, GoOn, cost_of, costs_from}
use Rattle.section_report.specs.Texts.{text_of, texts_from}

-- ---- the places of the records that end sections

-- the place of one record, if it ends a section
abbrev pub place_of : ℕ → Item → List ℕ
place_of n r = cond (is_settle r) (n ∷ []) []

pub settles-append : (xs ys : List Item) (n : ℕ) → settles_from n (xs ++ ys) ≡ settles_from n xs ++ settles_from (n + length xs) ys
settles-append [] ys n = ap (λ (k : ℕ). settles_from k ys) (sym (add-zero n))
settles-append (x ∷ xs) ys n =
    let count : (n + 1) + length xs ≡ n + length (x ∷ xs) = omega arith in
    ap (λ (l : List ℕ). place_of n x ++ l) (settles-append xs ys (n + 1) ∙ ap (λ (k : ℕ). settles_from (n + 1) xs ++ settles_from k ys) count)
    ∙ sym (append_assoc (place_of n x) (settles_from (n + 1) xs) (settles_from (n + length (x ∷ xs)) ys))

module _ (items : List Item) (i : ℕ) (x : Item) (inside : i < length items) (longer : take (i + 1) items ≡ take i items ++ x ∷ []) where
  place-more : settles_from 0 (take (i + 1) items) ≡ settles_from 0 (take i items) ++ place_of i x
  place-more =
      let count : 0 + length (take i items) ≡ i = omega (arith, length-take-le i items (omega (arith, inside))) in
      ap (settles_from 0) longer ∙ settles-append (take i items) (x ∷ []) 0
      ∙ ap (λ (l : List ℕ). settles_from 0 (take i items) ++ l) (append-nil (place_of (0 + length (take i items)) x) ∙ ap (λ (k : ℕ). place_of k x) count)

  pub settle-here : is_settle x ≡ true → settles_from 0 (take (i + 1) items) ≡ settles_from 0 (take i items) ++ i ∷ []
  settle-here e = place-more ∙ ap (λ (b : Bool). settles_from 0 (take i items) ++ cond b (i ∷ []) []) e

  pub settle-not : is_settle x ≡ false → settles_from 0 (take (i + 1) items) ≡ settles_from 0 (take i items)
  settle-not e = place-more ∙ ap (λ (b : Bool). settles_from 0 (take i items) ++ cond b (i ∷ []) []) e ∙ append-nil (settles_from 0 (take i items))

-- the ends of the sections after the first ones
abbrev pub later_ends : ℕ → List Item → List ℕ
later_ends n items = settles_from (0 + length (take n items)) (drop n items) ++ length items ∷ []

pub ends-rest : (items : List Item) (n : ℕ) → settles_from 0 (take n items) ++ later_ends n items ≡ section_ends items
ends-rest items n =
    sym (append_assoc (settles_from 0 (take n items)) (settles_from (0 + length (take n items)) (drop n items)) (length items ∷ []))
    ∙ ap (λ (l : List ℕ). l ++ length items ∷ []) (sym (settles-append (take n items) (drop n items) 0) ∙ ap (settles_from 0) (take-append-drop n items))

-- ---- sections that go on from each other

-- how many records the last of some sections took, and its box
abbrev pub upto_after : ℕ → List Section → ℕ
upto_after first [] = first
upto_after first (d ∷ ds) = upto_after d.upto ds

abbrev pub box_after : Option (List Span) → List Section → Option (List Span)
box_after box [] = box
box_after box (d ∷ ds) = box_after d.box ds

pub upto-more : (first : ℕ) (ds : List Section) (d : Section) → upto_after first (ds ++ d ∷ []) ≡ d.upto
upto-more first [] d = refl
upto-more first (e ∷ ds) d = upto-more e.upto ds d

pub box-more : (box : Option (List Span)) (ds : List Section) (d : Section) → box_after box (ds ++ d ∷ []) ≡ d.box
box-more box [] d = refl
box-more box (e ∷ ds) d = box-more e.box ds d

pub go_on-more : (m : Mission) (first : ℕ) (box : Option (List Span)) (ds : List Section) (d : Section) → GoOn m first box ds → GoesOn m (upto_after first ds) (box_after box ds) d → GoOn m first box (ds ++ d ∷ [])
go_on-more m first box [] d h one = (one, tt)
go_on-more m first box (e ∷ ds) d h one = (h.0, go_on-more m e.upto e.box ds d h.1 one)

pub costs-more : (m : Mission) (first : ℕ) (box : Option (List Span)) (ds : List Section) (d : Section)
    → costs_from m first box (ds ++ d ∷ []) ≡ costs_from m first box ds + cost_of m (upto_after first ds) (box_after box ds) d
costs-more m first box [] d = omega arith
costs-more m first box (e ∷ ds) d = omega (arith, costs-more m e.upto e.box ds d)

pub texts-more : (m : Mission) (brief : Bool) (n : ℕ) (ds : List Section) (d : Section) → texts_from m brief n (ds ++ d ∷ []) ≡ texts_from m brief n ds ++ text_of m brief (n + length ds) d
texts-more m brief n [] d = append-nil (text_of m brief n d) ∙ ap (λ (k : ℕ). text_of m brief k d) (sym (add-zero n))
texts-more m brief n (e ∷ ds) d =
    let count : (n + 1) + length ds ≡ n + length (e ∷ ds) = omega arith in
    ap (λ (l : List ℕ). text_of m brief n e ++ l) (texts-more m brief (n + 1) ds d ∙ ap (λ (k : ℕ). texts_from m brief (n + 1) ds ++ text_of m brief k d) count)
    ∙ sym (append_assoc (text_of m brief n e) (texts_from m brief (n + 1) ds) (text_of m brief (n + length (e ∷ ds)) d))

-- what holds of each section holds of the last
pub at-last : {X : Type 0} (P : X → Type 0) (xs : List X) (x : X) → All P (xs ++ x ∷ []) → P x
at-last P [] x h = All-get_or P (x ∷ []) 0 x (omega arith) h
at-last P (y ∷ ys) x h = at-last P ys x (λ k d l. h (suc k) d (omega (arith, l)))
