-- The texts of traced sections show what they say.
use Rattle.std.proofs.Common.{◌≡◌, ℕ, ◌≤◌, List, [], ◌∷◌, ◌++◌, length, refl, sym, ap, ap₂, ◌∙◌, arith, append_assoc, flat_map}
use Rattle.tube_report.specs.Lines.{first_line, last_line}
use Rattle.tube_report.specs.declared.section.Verdict.TheVariants as verdict
use Rattle.report_reader.specs.Sections.{IsLine, IsSection, line_text, text_of}
use Rattle.report_reader.specs.declared.section.Line.{Line}
use Rattle.report_reader.specs.declared.section.Section.{Section}
use Rattle.report_reader.proofs.Cuts.{cut_same}
use Rattle.report_reader.proofs.LineWords.{first_ended, head_inner, head_lacks, inner, inner_lacks, last_ended, last_inner, last_lacks, line_ended, not_last}
use Rattle.report_reader.proofs.SameTexts.{texts_are_one}
use Rattle.bundle_text.specs.Bundles.{IsTracedSection, IsNumber, fire_text, section_text}
use Rattle.bundle_text.specs.Lines.{fires_line}
use Rattle.bundle_text.specs.declared.bundle.TracedSection.{TracedSection}
use Rattle.bundle_text.proofs.LineTexts.{fire_splits, fires_splits}
use Rattle.bundle_text.proofs.Splitting.{Splits, Stops, as_many, byte_of, many}

-- ---- a line of a section before other bytes

-- the section with this line alone
abbrev one_of : Line → Section
one_of l = record { number = 1; verdict = verdict.Settled; lines = l ∷ [] }

one_is : (l : Line) → IsLine l → IsSection (one_of l)
one_is l h = record { from_one = omega arith; to_million = omega arith; lines = (h, tt) }

same_line : (l m : Line) → IsLine l → IsLine m → line_text l ≡ line_text m → l ≡ m
same_line l m h k e =
    let same = texts_are_one (one_of l) (one_of m) (one_is l h) (one_is m k) (ap (λ (t : List ℕ). first_line 1 verdict.Settled ++ ((t ++ []) ++ last_line 1)) e) in
    let lines : l ∷ [] ≡ m ∷ [] = ap (λ (s : Section). s.lines) same in
    cc

line_cut : (l : Line) (s : List ℕ) → line_text l ++ s ≡ inner l ++ 10 ∷ s
line_cut l s = ap (λ (t : List ℕ). t ++ s) (line_ended l) ∙ append_assoc (inner l) (10 ∷ []) s

last_cut : (n : ℕ) (s : List ℕ) → last_line n ++ s ≡ last_inner n ++ 10 ∷ s
last_cut n s = ap (λ (t : List ℕ). t ++ s) (last_ended n) ∙ append_assoc (last_inner n) (10 ∷ []) s

line_splits : Splits line_text IsLine
line_splits l m h k s t e =
    let p = cut_same 10 (inner l) (inner m) s t (inner_lacks l h) (inner_lacks m k) (sym (line_cut l s) ∙ (e ∙ line_cut m t)) in
    (same_line l m h k (line_ended l ∙ (ap (λ (x : List ℕ). x ++ 10 ∷ []) p.0 ∙ sym (line_ended m))), p.1)

lines_stop : (n : ℕ) → n ≤ 1000000 → (s : List ℕ) → Stops line_text IsLine (last_line n ++ s)
lines_stop n h s l right u e =
    let p = cut_same 10 (inner l) (last_inner n) u s (inner_lacks l right) (last_lacks n h) (sym (line_cut l u) ∙ (e ∙ last_cut n s)) in
    not_last l n (line_ended l ∙ (ap (λ (x : List ℕ). x ++ 10 ∷ []) p.0 ∙ sym (last_ended n)))

-- ---- a section's text before other bytes

abbrev lines_and : Section → List ℕ → List ℕ
lines_and a s = flat_map line_text a.lines ++ (last_line a.number ++ s)

text_cut : (a : Section) (s : List ℕ) → text_of a ++ s ≡ head_inner a.number a.verdict ++ 10 ∷ lines_and a s
text_cut a s =
    append_assoc (first_line a.number a.verdict) (flat_map line_text a.lines ++ last_line a.number) s
    ∙ (ap (λ (t : List ℕ). first_line a.number a.verdict ++ t) (append_assoc (flat_map line_text a.lines) (last_line a.number) s)
    ∙ (ap (λ (t : List ℕ). t ++ lines_and a s) (first_ended a.number a.verdict) ∙ append_assoc (head_inner a.number a.verdict) (10 ∷ []) (lines_and a s)))

text_splits : Splits text_of IsSection
text_splits a b h k s t e =
    let head = cut_same 10 (head_inner a.number a.verdict) (head_inner b.number b.verdict) (lines_and a s) (lines_and b t) (head_lacks a.number a.verdict h.to_million) (head_lacks b.number b.verdict k.to_million)
    (sym (text_cut a s) ∙ (e ∙ text_cut b t)) in
    let lines = many line_text IsLine line_splits a.lines b.lines h.lines k.lines (last_line a.number ++ s) (last_line b.number ++ t) (lines_stop a.number h.to_million s) (lines_stop b.number k.to_million t) head.1 in
    let last = cut_same 10 (last_inner a.number) (last_inner b.number) s t (last_lacks a.number h.to_million) (last_lacks b.number k.to_million) (sym (last_cut a.number s) ∙ (lines.1 ∙ last_cut b.number t)) in
    let ended = λ (x : List ℕ). x ++ 10 ∷ [] in
    let first_lines : first_line a.number a.verdict ≡ first_line b.number b.verdict = first_ended a.number a.verdict ∙ (ap ended head.0 ∙ sym (first_ended b.number b.verdict)) in
    let last_lines : last_line a.number ≡ last_line b.number = last_ended a.number ∙ (ap ended last.0 ∙ sym (last_ended b.number)) in
    let texts : text_of a ≡ text_of b = ap₂ (λ x y. x ++ y) first_lines (ap₂ (λ x y. x ++ y) (ap (flat_map line_text) lines.0) last_lines) in
    (texts_are_one a b h k texts, last.1)

-- ---- with the firings that are listed of it

abbrev fired_and : TracedSection → List ℕ → List ℕ
fired_and a s = flat_map fire_text a.fired ++ (text_of a.section ++ s)

section_cut : (a : TracedSection) (s : List ℕ) → section_text a ++ s ≡ fires_line a.section.number (length a.fired) ++ fired_and a s
section_cut a s =
    append_assoc (fires_line a.section.number (length a.fired)) (flat_map fire_text a.fired ++ text_of a.section) s
    ∙ ap (λ (t : List ℕ). fires_line a.section.number (length a.fired) ++ t) (append_assoc (flat_map fire_text a.fired) (text_of a.section) s)

pub section_splits : Splits section_text IsTracedSection
section_splits a b h k s t e =
    let counts = fires_splits a.section.number b.section.number (length a.fired) (length b.fired) (omega (arith, h.section.to_million)) (omega (arith, k.section.to_million)) h.few k.few (fired_and a s) (fired_and b t)
    (sym (section_cut a s) ∙ (e ∙ section_cut b t)) in
    let fired = as_many fire_text IsNumber fire_splits a.fired b.fired counts.1 h.fired k.fired (text_of a.section ++ s) (text_of b.section ++ t) counts.2 in
    let text = text_splits a.section b.section h.section k.section s t fired.1 in
    (ap₂ (λ ids c. let x : TracedSection = record { fired = ids; section = c } in x) fired.0 text.0, text.1)

pub section_byte : (a : TracedSection) (u : List ℕ) → byte_of (section_text a ++ u) ≡ 102
unfolding fires_line
section_byte a u = refl
