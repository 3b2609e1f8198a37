-- A text is that of one section at most.
use Rattle.std.proofs.Common.{◌≡◌, ℕ, ◌-◌, ◌<◌, ◌≤◌, inl, inr, List, [], ◌∷◌, ◌++◌, length, get_or, take, drop, refl, sym, ap, ap₂, ◌∙◌, arith, append_assoc, map, Result, Ok, Err, MatchResult, IfErr, IfOk}
use Rattle.std.specs.Prelude.{decimal}
use Rattle.std.specs.Fmt.{signed_decimal}
use Rattle.std.specs.List.{AllByRecursion}
use Rattle.std.proofs.lemmas.Bool.{cases_order, eqb-false}
use Rattle.std.proofs.lemmas.List.{append-nil, take-append-drop, take-take}
use Rattle.tube_spec.specs.Span.{Span}
use Rattle.tube_report.specs.Lines.{first_line, last_line, verdict_word}
use Rattle.tube_report.specs.declared.section.Verdict.{Verdict}
use Rattle.tube_report.specs.declared.section.Verdict.TheVariants as verdict
use Rattle.report_reader.specs.Breaks.{BeginsSection, BreaksFirst, IsFault, whole_lines}
use Rattle.report_reader.specs.Laws.{FirstIsOne, TextsAreOne}
use Rattle.report_reader.specs.Sections.{IsLine, IsSection, line_text, lines_of, text_of}
use Rattle.report_reader.specs.Words.{IsInterval, IsTicked, range_text, ticked_text}
use Rattle.report_reader.specs.declared.lines.Ticked.{Ticked}
use Rattle.report_reader.specs.declared.section.Line.{Line}
use Rattle.report_reader.specs.declared.section.Line.TheVariants as line
use Rattle.report_reader.specs.declared.section.Section.{Section}
use Rattle.report_reader.specs.declared.section.SectionFault.{SectionFault}
use Rattle.report_reader.specs.declared.section.SectionFault.TheVariants as fault
use Rattle.report_reader.proofs.Cuts.{cut_same, decimal_lacks, signed_lacks}
use Rattle.report_reader.proofs.Faults.{same_number}
use Rattle.report_reader.proofs.LineWords.{kind_is, kind_lacks, kind_word, line_parts, line_rest, not_last, only_gate, only_signal, only_slice, only_var, reference_lacks}
use Rattle.report_reader.proofs.Numerals.{same_count}
use Rattle.report_reader.proofs.Ranges.{high_small, low_small, same_bound}
use Rattle.report_reader.proofs.WholeLines.{whole_section}

-- ---- lines with one text are one

same_range : (a b : Span) → IsInterval a → IsInterval b → range_text a ≡ range_text b → a ≡ b
same_range a b h k e =
    let sa = low_small a h in
    let sb = low_small b k in
    let parts = cut_same 32 (signed_decimal a.lo) (signed_decimal b.lo) (signed_decimal a.hi) (signed_decimal b.hi) (signed_lacks 32 a.lo (omega arith) (omega arith)) (signed_lacks 32 b.lo (omega arith) (omega arith)) e in
    ap₂ (λ x y. let s : Span = record { lo = x; hi = y } in s) (same_bound a.lo b.lo sa sb parts.0) (same_bound a.hi b.hi (high_small a h) (high_small b k) parts.1)

same_ticked : (a b : Ticked) → IsTicked a → IsTicked b → ticked_text a ≡ ticked_text b → (a.tick ≡ b.tick) × (a.range ≡ b.range)
same_ticked a b h k e =
    let parts = cut_same 32 (decimal a.tick) (decimal b.tick) (range_text a.range) (range_text b.range) (decimal_lacks 32 a.tick (omega arith) (omega (arith, h.0))) (decimal_lacks 32 b.tick (omega arith) (omega (arith, k.0))) e in
    (same_count a.tick b.tick (omega (arith, h.0)) (omega (arith, k.0)) parts.0, same_range a.range b.range h.1 k.1 parts.1)

same_rest : (l m : Line) → kind_word l ≡ kind_word m → IsLine l → IsLine m → line_rest l ≡ line_rest m → l ≡ m
same_rest l (line.Signal name) e h k d = only_signal l e (λ (x : Line). IsLine x → line_rest x ≡ name → x ≡ line.Signal name) (λ n g q. ap line.Signal q) h d
same_rest l (line.Gate tick range) e h k d =
    only_gate l e (λ (x : Line). IsLine x → line_rest x ≡ ticked_text (record { tick = tick; range = range }) → x ≡ line.Gate tick range)
    (λ t r g q. let p = same_ticked (record { tick = t; range = r }) (record { tick = tick; range = range }) g k q in ap₂ line.Gate p.0 p.1) h d
same_rest l (line.Slice from to range) e h k d =
    only_slice l e (λ (x : Line). IsLine x → line_rest x ≡ decimal from ++ 32 ∷ ticked_text (record { tick = to; range = range }) → x ≡ line.Slice from to range)
    (λ f t r g q.
    let parts = cut_same 32 (decimal f) (decimal from) (ticked_text (record { tick = t; range = r })) (ticked_text (record { tick = to; range = range })) (decimal_lacks 32 f (omega arith) (omega (arith, g.0))) (decimal_lacks 32 from (omega arith) (omega (arith, k.0))) q in
    let start : f ≡ from = same_count f from (omega (arith, g.0)) (omega (arith, k.0)) parts.0 in
    let p = same_ticked (record { tick = t; range = r }) (record { tick = to; range = range }) (g.1, g.2) (k.1, k.2) parts.1 in
    ap (λ (n : ℕ). line.Slice n t r) start ∙ ap₂ (line.Slice from) p.0 p.1) h d
same_rest l (line.Var name range) e h k d =
    only_var l e (λ (x : Line). IsLine x → line_rest x ≡ name ++ 32 ∷ range_text range → x ≡ line.Var name range)
    (λ n r g q.
    let parts = cut_same 32 n name (range_text r) (range_text range) (reference_lacks 32 n (omega arith) g.0) (reference_lacks 32 name (omega arith) k.0) q in
    ap₂ line.Var parts.0 (same_range r range g.1 k.1 parts.1)) h d

same_line : (l m : Line) → IsLine l → IsLine m → line_text l ≡ line_text m → l ≡ m
same_line l m h k e = let p = kind_is l (kind_word m) (line_rest m) (kind_lacks m).0 (e ∙ line_parts m) in same_rest l m p.0 h k p.1

same_lines : (m n : ℕ) (xs ys : List Line) → AllByRecursion IsLine xs → AllByRecursion IsLine ys → map line_text xs ++ last_line m ∷ [] ≡ map line_text ys ++ last_line n ∷ [] → xs ≡ ys
same_lines m n [] [] h k e = refl
same_lines m n [] (y ∷ ys) h k e = let head : line_text y ≡ last_line m = cc in absurd (not_last y m head)
same_lines m n (x ∷ xs) [] h k e = let head : line_text x ≡ last_line n = cc in absurd (not_last x n head)
same_lines m n (x ∷ xs) (y ∷ ys) h k e =
    let heads : line_text x ≡ line_text y = cc in
    let tails : map line_text xs ++ last_line m ∷ [] ≡ map line_text ys ++ last_line n ∷ [] = cc in
    ap₂ (λ l ls. l ∷ ls) (same_line x y h.0 k.0 heads) (same_lines m n xs ys h.1 k.1 tails)

-- ---- and so are sections

same_verdict : (v w : Verdict) → verdict_word v ≡ verdict_word w → v ≡ w
same_verdict verdict.Settled verdict.Settled e = refl
same_verdict verdict.Settled verdict.Empty e = absurd (eqb-false 7 5 refl (ap length e))
same_verdict verdict.Settled verdict.Spent e = absurd (eqb-false 7 5 refl (ap length e))
same_verdict verdict.Empty verdict.Settled e = absurd (eqb-false 5 7 refl (ap length e))
same_verdict verdict.Empty verdict.Empty e = refl
same_verdict verdict.Empty verdict.Spent e = absurd (eqb-false 101 115 refl (ap (λ (t : List ℕ). get_or t 0 0) e))
same_verdict verdict.Spent verdict.Settled e = absurd (eqb-false 5 7 refl (ap length e))
same_verdict verdict.Spent verdict.Empty e = absurd (eqb-false 115 101 refl (ap (λ (t : List ℕ). get_or t 0 0) e))
same_verdict verdict.Spent verdict.Spent e = refl

pub texts_are_one : TextsAreOne
texts_are_one a b h k e =
    let all : lines_of a ++ [] ≡ lines_of b ++ [] = sym (whole_section a [] h) ∙ (ap (λ (t : List ℕ). whole_lines (t ++ [])) e ∙ whole_section b [] k) in
    let same : lines_of a ≡ lines_of b = sym (append-nil (lines_of a)) ∙ (all ∙ append-nil (lines_of b)) in
    let firsts : first_line a.number a.verdict ≡ first_line b.number b.verdict = cc in
    let others : map line_text a.lines ++ last_line a.number ∷ [] ≡ map line_text b.lines ++ last_line b.number ∷ [] = cc in
    let heads = same_number a.number b.number a.verdict b.verdict h.to_million k.to_million firsts in
    let lines : a.lines ≡ b.lines = same_lines a.number b.number a.lines b.lines h.lines k.lines others in
    ap (λ (n : ℕ). let s : Section = record { number = n; verdict = a.verdict; lines = a.lines } in s) heads.0
    ∙ ap₂ (λ v ls. let s : Section = record { number = b.number; verdict = v; lines = ls } in s) (same_verdict a.verdict b.verdict heads.1) lines

-- what is a section's text is read as that section
pub only_section : (bytes : List ℕ) (r : Result Section SectionFault) → IfOk r (λ section. IsSection section × (text_of section ≡ bytes)) → IfErr r (IsFault bytes)
    → (s : Section) → IsSection s → text_of s ≡ bytes → MatchResult r (λ section. section ≡ s) (λ e. e ≡ fault.NoMemory)
only_section bytes (Ok section) ok bad s h e = texts_are_one section s ok.0 h (ok.1 ∙ sym e)
only_section bytes (Err (fault.BadSection n)) ok bad s h e = absurd (bad.0 (s, h, e))
only_section bytes (Err fault.NoMemory) ok bad s h e = refl

-- ---- one first line breaks

-- fewer lines begin the same section
fewer : (m n : ℕ) (ls : List (List ℕ)) → m ≤ n → BeginsSection (take n ls) → BeginsSection (take m ls)
fewer m n ls h (s, right, rest, e) =
    let cut : take n ls ≡ take m (take n ls) ++ drop m (take n ls) = sym (take-append-drop m (take n ls)) in
    let front : take m (take n ls) ≡ take m ls = take-take m n ls h in
    (s, right, drop m (take n ls) ++ rest, e ∙ (ap (λ (t : List (List ℕ)). t ++ rest) cut ∙ (append_assoc (take m (take n ls)) (drop m (take n ls)) rest ∙ ap (λ (t : List (List ℕ)). t ++ (drop m (take n ls) ++ rest)) front)))

not_before : (bytes : List ℕ) (m n : ℕ) → BreaksFirst bytes m → BreaksFirst bytes n → m < n → ⊥
not_before bytes m n p q h = p.here (omega (arith, q.near)) (fewer m (n - 1) (whole_lines bytes) (omega arith) q.before)

pub first_is_one : FirstIsOne
first_is_one bytes m n p q = elim (cases_order m n) [
  | inl e ↦ e
  | inr h ↦ elim h [ inl k ↦ absurd (not_before bytes m n p q k) | inr k ↦ absurd (not_before bytes n m q p k) ]
]
