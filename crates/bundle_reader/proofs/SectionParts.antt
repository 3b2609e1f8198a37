-- The piece in which a section stands, and the parts of a traced section's text.
use Rattle.std.proofs.Common.{◌≡◌, ℕ, ◌-◌, List, [], ◌∷◌, ◌++◌, length, length-append, take, drop, refl, sym, ap, ap₂, ◌∙◌, subst, append_assoc, arith, codes, flat_map, map}
use Rattle.std.specs.List.{AllByRecursion}
use Rattle.std.proofs.Math.Seq.{take-append_seam}
use Rattle.std.proofs.lemmas.Bool.{eqb-false}
use Rattle.std.proofs.lemmas.List.{append_cancel_left, append_cancel_right, take-append-drop}
use Rattle.tube_report.specs.Lines.{first_line, last_line}
use Rattle.report_reader.specs.Sections.{IsLine, IsSection, line_text, text_of}
use Rattle.report_reader.specs.Words.{IsCut, Lacks}
use Rattle.report_reader.specs.declared.section.Line.{Line}
use Rattle.report_reader.specs.declared.section.Line.TheVariants as line
use Rattle.report_reader.specs.declared.section.Section.{Section}
use Rattle.report_reader.proofs.Cuts.{cut_same, not_lacking}
use Rattle.report_reader.proofs.LineWords.{first_ended, head_inner, head_lacks, inner, inner_lacks, last_ended, last_inner, last_lacks, line_ended}
use Rattle.bundle_text.specs.Bundles.{IsNumber, IsPair, IsTracedSection, fire_text, section_text}
use Rattle.bundle_text.specs.Lines.{fire_line, fires_line}
use Rattle.bundle_text.specs.declared.bundle.TracedSection.{TracedSection}
use Rattle.bundle_text.proofs.Splitting.{byte_of}
use Rattle.bundle_reader.specs.Fronts.{Anything, IsInFront, NoneInFront}
use Rattle.bundle_reader.specs.Parts.{ticks_text}
use Rattle.bundle_reader.specs.Pieces.{IsPiece}
use Rattle.bundle_reader.proofs.Fronts.{Parts, behind, joined}
use Rattle.bundle_reader.proofs.SetParts.{other_front}

-- ---- the lines of a section but its last

abbrev ended : List ℕ → List ℕ
ended text = text ++ 10 ∷ []

-- a line without its end, which does not begin as the last one
abbrev IsBefore : List ℕ → Type 0
IsBefore text = Lacks 10 text × (byte_of text ≡ 101 → ⊥)

inner_before : (l : Line) → IsLine l → IsBefore (inner l)
inner_before l h = (inner_lacks l h, other l)
  where
    other : (m : Line) → byte_of (inner m) ≡ 101 → ⊥
    other (line.Signal name) e = eqb-false 115 101 refl e
    other (line.Gate tick range) e = eqb-false 103 101 refl e
    other (line.Slice from to range) e = eqb-false 115 101 refl e
    other (line.Var name range) e = eqb-false 118 101 refl e

all_before : (ls : List Line) → AllByRecursion IsLine ls → AllByRecursion IsBefore (map inner ls)
all_before [] h = tt
all_before (l ∷ ls) h = (inner_before l h.0, all_before ls h.1)

lines_ended : (ls : List Line) → flat_map line_text ls ≡ flat_map ended (map inner ls)
lines_ended [] = refl
lines_ended (l ∷ ls) = ap₂ (λ x y. x ++ y) (line_ended l) (lines_ended ls)

-- all lines of a section but its last, without their ends
abbrev before_last : Section → List (List ℕ)
before_last a = head_inner a.number a.verdict ∷ map inner a.lines

are_before : (a : Section) → IsSection a → AllByRecursion IsBefore (before_last a)
are_before a h = ((head_lacks a.number a.verdict h.to_million, λ e. eqb-false 115 101 refl e), all_before a.lines h.lines)

section_ended : (a : Section) (s : List ℕ) → text_of a ++ s ≡ flat_map ended (before_last a) ++ (last_line a.number ++ s)
section_ended a s =
    let lines : text_of a ≡ flat_map ended (before_last a) ++ last_line a.number =
    ap₂ (λ x y. x ++ (y ++ last_line a.number)) (first_ended a.number a.verdict) (lines_ended a.lines)
    ∙ sym (append_assoc (ended (head_inner a.number a.verdict)) (flat_map ended (map inner a.lines)) (last_line a.number)) in
    ap (λ (t : List ℕ). t ++ s) lines ∙ append_assoc (flat_map ended (before_last a)) (last_line a.number) s

last_cut : (n : ℕ) (s : List ℕ) → last_line n ++ s ≡ last_inner n ++ 10 ∷ s
last_cut n s = ap (λ (t : List ℕ). t ++ s) (last_ended n) ∙ append_assoc (last_inner n) (10 ∷ []) s

next_cut : (t : List ℕ) (ts : List (List ℕ)) (u : List ℕ) → flat_map ended (t ∷ ts) ++ u ≡ t ++ 10 ∷ (flat_map ended ts ++ u)
next_cut t ts u = append_assoc (ended t) (flat_map ended ts) u ∙ append_assoc t (10 ∷ []) (flat_map ended ts ++ u)

-- ---- a loop over these lines

-- what is left of a section that stands in front: some of its lines, the last one, and what follows it
pub record IsLeft (a : Section) (others rest : List ℕ) : Type 0 where
  pub lines : List (List ℕ)
  pub before : AllByRecursion IsBefore lines
  pub whole : flat_map ended lines ++ (last_line a.number ++ others) ≡ rest

pub record IsPassed (bytes rest : List ℕ) : Type 0 where
  pub gone : List ℕ
  pub whole : gone ++ rest ≡ bytes
  pub left : (a : Section) (others : List ℕ) → IsSection a → text_of a ++ others ≡ bytes → IsLeft a others rest

pub none_passed : (bytes : List ℕ) → IsPassed bytes bytes
none_passed bytes = record { gone = []; whole = refl; left = λ a others h e. record { lines = before_last a; before = are_before a h; whole = sym (section_ended a others) ∙ e } }

module _ (bytes rest : List ℕ) (h : IsPassed bytes rest) where
  pub none_here : Lacks 10 rest → NoneInFront text_of IsSection Anything bytes
  none_here lacks a others q k e = let l = h.left a others q e in of l.lines l.whole
    where
      of : (lines : List (List ℕ)) → flat_map ended lines ++ (last_line a.number ++ others) ≡ rest → ⊥
      of [] d = not_lacking 10 (last_inner a.number) others (subst (λ (t : List ℕ). Lacks 10 t) (sym d ∙ last_cut a.number others) lacks)
      of (t ∷ ts) d =
          let u = last_line a.number ++ others in
          not_lacking 10 t (flat_map ended ts ++ u) (subst (λ (x : List ℕ). Lacks 10 x) (sym d ∙ next_cut t ts u) lacks)

  module _ (here more : List ℕ) (c : IsCut 10 rest here more) where
    whole_gone : (h.gone ++ ended here) ++ more ≡ bytes
    whole_gone = append_assoc h.gone (ended here) more ∙ (ap (λ (t : List ℕ). h.gone ++ t) (append_assoc here (10 ∷ []) more ∙ sym c.whole) ∙ h.whole)

    pub one_passed : (byte_of here ≡ 101 → ⊥) → IsPassed bytes more
    one_passed other = record { gone = h.gone ++ ended here; whole = whole_gone; left = λ a others q e. let l = h.left a others q e in step a others q l.lines l.before l.whole }
      where
        step : (a : Section) (others : List ℕ) → IsSection a → (lines : List (List ℕ)) → AllByRecursion IsBefore lines → flat_map ended lines ++ (last_line a.number ++ others) ≡ rest → IsLeft a others more
        step a others q [] before d =
            let p = cut_same 10 (last_inner a.number) here others more (last_lacks a.number q.to_million) c.first (sym (last_cut a.number others) ∙ (d ∙ c.whole)) in
            absurd (other (sym (ap byte_of p.0)))
        step a others q (t ∷ ts) before d =
            let u = last_line a.number ++ others in
            let p = cut_same 10 t here (flat_map ended ts ++ u) more before.0.0 c.first (sym (next_cut t ts u) ∙ (d ∙ c.whole)) in
            record { lines = ts; before = before.1; whole = p.1 }

    pub piece_here : byte_of here ≡ 101 → (front behind : List ℕ) → front ≡ take (length bytes - length more) bytes → behind ≡ drop (length bytes - length more) bytes → IsPiece bytes front behind
    piece_here last front behind f b = record {
      whole = ap₂ (λ x y. x ++ y) f b ∙ take-append-drop (length bytes - length more) bytes;
      only = λ a others q e. let l = h.left a others q e in let p = found a others q l.lines l.before l.whole in (same_front a others e p, p ∙ sym same_rest);
    }
      where
        count : length bytes - length more ≡ length (h.gone ++ ended here)
        count = omega (arith, ap length whole_gone, length-append (h.gone ++ ended here) more)

        front_is : front ≡ h.gone ++ ended here
        front_is = f ∙ (ap₂ take count (sym whole_gone) ∙ take-append_seam (h.gone ++ ended here) more)

        same_rest : behind ≡ more
        same_rest =
            append_cancel_left (h.gone ++ ended here) behind more
            (ap₂ (λ x y. x ++ y) (sym front_is ∙ f) b ∙ (take-append-drop (length bytes - length more) bytes ∙ sym whole_gone))

        found : (a : Section) (others : List ℕ) → IsSection a → (lines : List (List ℕ)) → AllByRecursion IsBefore lines → flat_map ended lines ++ (last_line a.number ++ others) ≡ rest → others ≡ more
        found a others q [] before d = (cut_same 10 (last_inner a.number) here others more (last_lacks a.number q.to_million) c.first (sym (last_cut a.number others) ∙ (d ∙ c.whole))).1
        found a others q (t ∷ ts) before d =
            let u = last_line a.number ++ others in
            let p = cut_same 10 t here (flat_map ended ts ++ u) more before.0.0 c.first (sym (next_cut t ts u) ∙ (d ∙ c.whole)) in
            absurd (before.0.1 (ap byte_of p.0 ∙ last))

        same_front : (a : Section) (others : List ℕ) → text_of a ++ others ≡ bytes → others ≡ more → text_of a ≡ front
        same_front a others e p = append_cancel_right (text_of a) (h.gone ++ ended here) more (sym (ap (λ (t : List ℕ). text_of a ++ t) p) ∙ (e ∙ sym whole_gone)) ∙ sym front_is

-- ---- a traced section

abbrev behind_fires : TracedSection → List ℕ
behind_fires a = flat_map fire_text a.fired ++ text_of a.section

pub fires_parts : Parts (ticks_text (codes "fires ") 10) IsPair Anything section_text IsTracedSection Anything (λ a. (a.section.number, length a.fired)) behind_fires
unfolding fires_line
fires_parts = record {
  parted = λ a s. append_assoc (ticks_text (codes "fires ") 10 (a.section.number, length a.fired)) (behind_fires a) s;
  right = λ a h. (omega (arith, h.section.to_million), h.few);
  before = λ a s h k. tt;
}

fire_byte : (n : ℕ) (u : List ℕ) → byte_of (fire_text n ++ u) ≡ 102
unfolding fire_line
fire_byte n u = refl

section_byte : (a : Section) (s : List ℕ) → byte_of (text_of a ++ s) ≡ 115
unfolding first_line
section_byte a s = refl

pub fired_parts : Parts (flat_map fire_text) (AllByRecursion IsNumber) (NoneInFront fire_text IsNumber Anything) behind_fires IsTracedSection Anything (λ a. a.fired) (λ a. text_of a.section)
fired_parts = record {
  parted = λ a s. append_assoc (flat_map fire_text a.fired) (text_of a.section) s;
  right = λ a h. h.fired;
  before = λ a s h k. other_front fire_text IsNumber 102 fire_byte (text_of a.section ++ s) (λ e. eqb-false 115 102 refl (sym (section_byte a.section s) ∙ e));
}

module _ (bytes : List ℕ) (number count : ℕ) (from_fired : List ℕ) (h : IsInFront (ticks_text (codes "fires ") 10) IsPair Anything bytes (number, count) from_fired)
    (fired : List ℕ) (from_section : List ℕ) (i : IsInFront (flat_map fire_text) (AllByRecursion IsNumber) (NoneInFront fire_text IsNumber Anything) from_fired fired from_section) where
  two_parts : (w : TracedSection) (s : List ℕ) → IsTracedSection w → section_text w ++ s ≡ bytes → (w.section.number ≡ number) × (length w.fired ≡ count) × (w.fired ≡ fired) × (text_of w.section ++ s ≡ from_section)
  two_parts w s q e =
      let first = behind fires_parts bytes (number, count) from_fired h w s q tt e in
      let second = behind fired_parts from_fired fired from_section i w s q tt first.1 in
      (ap (λ (p : ℕ × ℕ). p.0) first.0, ap (λ (p : ℕ × ℕ). p.1) first.0, second.0, second.1)

  pub other_count : (length fired ≡ count → ⊥) → NoneInFront section_text IsTracedSection Anything bytes
  other_count none w s q k e = let p = two_parts w s q e in none (sym (ap length p.2) ∙ p.1)

  pub no_section : NoneInFront text_of IsSection Anything from_section → NoneInFront section_text IsTracedSection Anything bytes
  no_section none w s q k e = none w.section s q.section tt (two_parts w s q e).3

  module _ (section : Section) (rest : List ℕ) (j : IsInFront text_of IsSection Anything from_section section rest) where
    pub other_number : (section.number ≡ number → ⊥) → NoneInFront section_text IsTracedSection Anything bytes
    other_number none w s q k e =
        let p = two_parts w s q e in
        none (sym (ap (λ (a : Section). a.number) (j.only w.section s q.section tt p.3).0) ∙ p.0)

    abbrev traced : TracedSection
    traced = record { fired = fired; section = section }

    pub traced_here : length fired ≡ count → section.number ≡ number → IsInFront section_text IsTracedSection Anything bytes traced rest
    traced_here counted numbered = record {
      right = let r : IsTracedSection traced = record { few = subst IsNumber (sym counted) h.right.1; fired = i.right; section = j.right } in r;
      whole = joined fires_parts bytes (number, count) from_fired h traced rest (ap₂ (λ m n. let p : ℕ × ℕ = (m, n) in p) numbered counted) (joined fired_parts from_fired fired from_section i traced rest refl j.whole);
      only = λ w s q k e.
          let p = two_parts w s q e in
          let last = j.only w.section s q.section tt p.3 in
          (ap₂ (λ ids a. let x : TracedSection = record { fired = ids; section = a } in x) p.2 last.0, last.1);
    }
