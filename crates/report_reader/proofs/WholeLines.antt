-- The whole lines of a section's text are the section's lines.
use Rattle.std.proofs.Common.{◌≡◌, ℕ, ◌==◌, List, [], ◌∷◌, ◌++◌, refl, sym, ap, ◌∙◌, append_assoc, flat_map, map}
use Rattle.std.specs.List.{AllByRecursion}
use Rattle.std.proofs.lemmas.Bool.{or_parts}
use Rattle.std.proofs.lemmas.List.{append-nil}
use Rattle.tube_report.specs.Lines.{first_line, last_line}
use Rattle.report_reader.specs.Breaks.{whole_lines}
use Rattle.report_reader.specs.Sections.{IsLine, IsSection, line_text, lines_of, text_of}
use Rattle.report_reader.specs.Words.{Lacks}
use Rattle.report_reader.specs.declared.section.Line.{Line}
use Rattle.report_reader.specs.declared.section.Section.{Section}
use Rattle.report_reader.proofs.LineWords.{first_ended, head_inner, head_lacks, inner, inner_lacks, last_ended, last_inner, last_lacks, line_ended}

-- a line that ends, and what follows
pub one_line : (text rest : List ℕ) → Lacks 10 text → whole_lines (text ++ 10 ∷ rest) ≡ (text ++ 10 ∷ []) ∷ whole_lines rest
one_line [] rest h = refl
one_line (c ∷ text) rest h =
    let p = or_parts (c == 10) _ h in
    rw (p.0, one_line text rest p.1) refl

-- bytes that end no line
pub no_whole_line : (text : List ℕ) → Lacks 10 text → whole_lines text ≡ []
no_whole_line [] h = refl
no_whole_line (c ∷ text) h =
    let p = or_parts (c == 10) _ h in
    rw (p.0, no_whole_line text p.1) refl

-- a line with its end, and what follows
pub whole_line : (line text rest : List ℕ) → line ≡ text ++ 10 ∷ [] → Lacks 10 text → whole_lines (line ++ rest) ≡ line ∷ whole_lines rest
whole_line line text rest e h =
    let apart : line ++ rest ≡ text ++ 10 ∷ rest = ap (λ (t : List ℕ). t ++ rest) e ∙ append_assoc text (10 ∷ []) rest in
    ap whole_lines apart ∙ (one_line text rest h ∙ ap (λ (t : List ℕ). t ∷ whole_lines rest) (sym e))

pub whole_body : (ls : List Line) (rest : List ℕ) → AllByRecursion IsLine ls → whole_lines (flat_map line_text ls ++ rest) ≡ map line_text ls ++ whole_lines rest
whole_body [] rest h = refl
whole_body (l ∷ ls) rest h =
    ap whole_lines (append_assoc (line_text l) (flat_map line_text ls) rest)
    ∙ (whole_line (line_text l) (inner l) (flat_map line_text ls ++ rest) (line_ended l) (inner_lacks l h.0)
    ∙ ap (λ (t : List (List ℕ)). line_text l ∷ t) (whole_body ls rest h.1))

pub whole_section : (s : Section) (rest : List ℕ) → IsSection s → whole_lines (text_of s ++ rest) ≡ lines_of s ++ whole_lines rest
whole_section s rest h =
    let first = first_line s.number s.verdict in
    let body = flat_map line_text s.lines in
    let last = last_line s.number in
    let apart : text_of s ++ rest ≡ first ++ (body ++ (last ++ rest)) = append_assoc first (body ++ last) rest ∙ ap (λ (t : List ℕ). first ++ t) (append_assoc body last rest) in
    let end : whole_lines (last ++ rest) ≡ last ∷ whole_lines rest = whole_line last (last_inner s.number) rest (last_ended s.number) (last_lacks s.number h.to_million) in
    ap whole_lines apart
    ∙ (whole_line first (head_inner s.number s.verdict) (body ++ (last ++ rest)) (first_ended s.number s.verdict) (head_lacks s.number s.verdict h.to_million)
    ∙ (ap (λ (t : List (List ℕ)). first ∷ t) (whole_body s.lines (last ++ rest) h.lines ∙ ap (λ (t : List (List ℕ)). map line_text s.lines ++ t) end)
    ∙ ap (λ (t : List (List ℕ)). first ∷ t) (sym (append_assoc (map line_text s.lines) (last ∷ []) (whole_lines rest)))))

-- the lines joined are the text
joined : (ls : List Line) (last : List ℕ) → flat_map (λ (t : List ℕ). t) (map line_text ls ++ last ∷ []) ≡ flat_map line_text ls ++ last
joined [] last = simp append-nil
joined (l ∷ ls) last = ap (λ (t : List ℕ). line_text l ++ t) (joined ls last) ∙ sym (append_assoc (line_text l) (flat_map line_text ls) last)

pub lines_joined : (s : Section) → flat_map (λ (t : List ℕ). t) (lines_of s) ≡ text_of s
lines_joined s = ap (λ (t : List ℕ). first_line s.number s.verdict ++ t) (joined s.lines (last_line s.number))

-- sections with the same lines have the same text
pub same_text : (s t : Section) → lines_of s ≡ lines_of t → text_of s ≡ text_of t
same_text s t e = sym (lines_joined s) ∙ (ap (λ (ls : List (List ℕ)). flat_map (λ (x : List ℕ). x) ls) e ∙ lines_joined t)
