-- Where a text that is no section's breaks.
use Rattle.std.proofs.Common.{◌≡◌, ℕ, ◌+◌, ◌-◌, ◌≤◌, List, [], ◌∷◌, ◌++◌, length, take, refl, sym, ap, ◌∙◌, subst, arith, append_assoc, flat_map, map, length-append}
use Rattle.std.specs.Prelude.{decimal, codes}
use Rattle.std.specs.List.{AllByRecursion}
use Rattle.std.proofs.Math.Seq.{take-append_seam}
use Rattle.std.proofs.lemmas.List.{append-nil, append_cancel_left, append_cancel_right, length-map}
use Rattle.tube_report.specs.Lines.{first_line, last_line, verdict_word}
use Rattle.tube_report.specs.declared.section.Verdict.{Verdict}
use Rattle.tube_report.specs.declared.section.Verdict.TheVariants as verdict
use Rattle.report_reader.specs.Breaks.{BeginsSection, IsFault, whole_lines}
use Rattle.report_reader.specs.Sections.{IsHead, IsLine, IsSection, IsSectionText, head_text, line_text, lines_of, text_of}
use Rattle.report_reader.specs.Words.{IsCut, Lacks}
use Rattle.report_reader.specs.declared.lines.Head.{Head}
use Rattle.report_reader.specs.declared.section.Line.{Line}
use Rattle.report_reader.specs.declared.section.Section.{Section}
use Rattle.report_reader.specs.declared.section.SectionFault.TheVariants as fault
use Rattle.report_reader.proofs.Cuts.{cut_same, decimal_lacks}
use Rattle.report_reader.proofs.LineWords.{first_ended, head_inner, head_lacks, not_last}
use Rattle.report_reader.proofs.Numerals.{same_count}
use Rattle.report_reader.proofs.WholeLines.{no_whole_line, one_line, same_text, whole_body, whole_line, whole_section}

-- ---- what the lines of two sections have in common

-- first lines that are one have one number
pub same_number : (m n : ℕ) (v w : Verdict) → m ≤ 1000000 → n ≤ 1000000 → first_line m v ≡ first_line n w → (m ≡ n) × (verdict_word v ≡ verdict_word w)
same_number m n v w h k e =
    let inners : head_inner m v ≡ head_inner n w = append_cancel_right (head_inner m v) (head_inner n w) (10 ∷ []) (sym (first_ended m v) ∙ (e ∙ first_ended n w)) in
    let rests = cut_same 32 (codes "section") (codes "section") (decimal m ++ 32 ∷ verdict_word v) (decimal n ++ 32 ∷ verdict_word w) refl refl inners in
    let parts = cut_same 32 (decimal m) (decimal n) (verdict_word v) (verdict_word w) (decimal_lacks 32 m (omega arith) (omega arith)) (decimal_lacks 32 n (omega arith) (omega arith)) rests.1 in
    (same_count m n (omega arith) (omega arith) parts.0, parts.1)

-- after the same lines comes a line of a section, or its last one
next_line : (n : ℕ) (xs ys : List Line) (bad : List ℕ) (rest : List (List ℕ)) → AllByRecursion IsLine xs → (last_line n ≡ bad → ⊥) → ((l : Line) → IsLine l → line_text l ≡ bad → ⊥) → map line_text xs ++ last_line n ∷ [] ≡ map line_text ys ++ bad ∷ rest → ⊥
next_line n [] [] bad rest h last line e = let head : last_line n ≡ bad = cc in last head
next_line n [] (b ∷ ys) bad rest h last line e = let head : line_text b ≡ last_line n = cc in not_last b n head
next_line n (a ∷ xs) [] bad rest h last line e = let head : line_text a ≡ bad = cc in line a h.0 head
next_line n (a ∷ xs) (b ∷ ys) bad rest h last line e = let tails : map line_text xs ++ last_line n ∷ [] ≡ map line_text ys ++ bad ∷ rest = cc in next_line n xs ys bad rest h.1 last line tails

-- nothing comes after the last line
after_last : (n : ℕ) (xs ys : List Line) (bad : List ℕ) (rest : List (List ℕ)) → map line_text xs ++ last_line n ∷ [] ≡ map line_text ys ++ last_line n ∷ bad ∷ rest → ⊥
after_last n [] [] bad rest e = cc
after_last n [] (b ∷ ys) bad rest e = let head : line_text b ≡ last_line n = cc in not_last b n head
after_last n (a ∷ xs) [] bad rest e = let head : line_text a ≡ last_line n = cc in not_last a n head
after_last n (a ∷ xs) (b ∷ ys) bad rest e = let tails : map line_text xs ++ last_line n ∷ [] ≡ map line_text ys ++ last_line n ∷ bad ∷ rest = cc in after_last n xs ys bad rest tails

-- the last line is not left out
no_last : (n : ℕ) (xs ys : List Line) → map line_text xs ++ last_line n ∷ [] ≡ map line_text ys → ⊥
no_last n [] [] e = cc
no_last n [] (b ∷ ys) e = let head : line_text b ≡ last_line n = cc in not_last b n head
no_last n (a ∷ xs) [] e = cc
no_last n (a ∷ xs) (b ∷ ys) e = let tails : map line_text xs ++ last_line n ∷ [] ≡ map line_text ys = cc in no_last n xs ys tails

-- ---- the fault

take_front : (front rest : List (List ℕ)) (n : ℕ) → n ≡ length front → take n (front ++ rest) ≡ front
take_front front rest n e = ap (λ (k : ℕ). take k (front ++ rest)) e ∙ take-append_seam front rest

-- Some section begins with these lines and none with the next one too; and where there is no next one, the bytes are no section's.
breaks : (bytes : List ℕ) (front rest : List (List ℕ)) (n : ℕ) → whole_lines bytes ≡ front ++ rest → n ≡ length front + 1 → BeginsSection front
    → ((bad : List ℕ) (more : List (List ℕ)) → rest ≡ bad ∷ more → BeginsSection (front ++ bad ∷ []) → ⊥) → (rest ≡ [] → IsSectionText bytes → ⊥) → IsFault bytes (fault.BadSection n)
breaks bytes front rest n e count begins next none = (no_text rest refl, record { from_one = omega arith; near = near; before = before; here = here rest refl })
  where
    total : length (whole_lines bytes) ≡ length front + length rest
    total = ap length e ∙ length-append front rest

    near : n - 1 ≤ length (whole_lines bytes)
    near = omega (arith, total)

    before : BeginsSection (take (n - 1) (whole_lines bytes))
    before = subst BeginsSection (sym (ap (take (n - 1)) e ∙ take_front front rest (n - 1) (omega arith))) begins

    no_text : (r : List (List ℕ)) → rest ≡ r → IsSectionText bytes → ⊥
    no_text [] k t = none k t
    no_text (bad ∷ more) k (s, h, t) =
        let lines : lines_of s ++ [] ≡ front ++ rest = sym (whole_section s [] h) ∙ (ap whole_lines (append-nil (text_of s) ∙ t) ∙ e) in
        let all : lines_of s ≡ (front ++ bad ∷ []) ++ more = sym (append-nil (lines_of s)) ∙ (lines ∙ (ap (λ (x : List (List ℕ)). front ++ x) k ∙ sym (append_assoc front (bad ∷ []) more))) in
        next bad more k (s, h, more, all)

    here : (r : List (List ℕ)) → rest ≡ r → n ≤ length (whole_lines bytes) → BeginsSection (take n (whole_lines bytes)) → ⊥
    here [] k h b = let empty : length rest ≡ 0 = ap length k in omega (arith, total)
    here (bad ∷ more) k h b =
        let all : whole_lines bytes ≡ (front ++ bad ∷ []) ++ more = e ∙ (ap (λ (x : List (List ℕ)). front ++ x) k ∙ sym (append_assoc front (bad ∷ []) more)) in
        let size : n ≡ length (front ++ bad ∷ []) = count ∙ sym (length-append front (bad ∷ [])) in
        next bad more k (subst BeginsSection (ap (take n) all ∙ take_front (front ++ bad ∷ []) more n size) b)

-- ---- at the first line

some_section : BeginsSection []
some_section = (record { number = 1; verdict = verdict.Settled; lines = [] }, record { from_one = omega arith; to_million = omega arith; lines = tt }, _, refl)

pub no_first_line : (bytes : List ℕ) → Lacks 10 bytes → IsFault bytes (fault.BadSection 1)
no_first_line bytes h = breaks bytes [] [] 1 (no_whole_line bytes h) refl some_section (λ bad more e b. cc) none
  where
    none : ◌≡◌ {A = List (List ℕ)} [] [] → IsSectionText bytes → ⊥
    none e (s, k, t) =
        let lines : lines_of s ++ [] ≡ [] = sym (whole_section s [] k) ∙ (ap whole_lines (append-nil (text_of s) ∙ t) ∙ no_whole_line bytes h) in
        cc

pub bad_first_line : (bytes text rest : List ℕ) → IsCut 10 bytes text rest → ((v : Head) → IsHead v → head_text v ≡ text ++ 10 ∷ [] → ⊥) → IsFault bytes (fault.BadSection 1)
bad_first_line bytes text rest p none = breaks bytes [] ((text ++ 10 ∷ []) ∷ whole_lines rest) 1 (ap whole_lines p.whole ∙ one_line text rest p.first) refl some_section next (λ e t. cc)
  where
    next : (bad : List ℕ) (more : List (List ℕ)) → (text ++ 10 ∷ []) ∷ whole_lines rest ≡ bad ∷ more → BeginsSection (bad ∷ []) → ⊥
    next bad more e (s, h, after, k) =
        let first : first_line s.number s.verdict ≡ bad = cc in
        let same : text ++ 10 ∷ [] ≡ bad = cc in
        none (record { number = s.number; verdict = s.verdict }) (h.from_one, h.to_million) (first ∙ sym same)

-- ---- at a later line

module _ (head : Head) (right : IsHead head) (bytes : List ℕ) (ls : List Line) (lines : AllByRecursion IsLine ls) (rest : List ℕ) (split : flat_map line_text ls ++ rest ≡ bytes) where
  -- the lines so far
  abbrev so_far : List (List ℕ)
  so_far = head_text head ∷ map line_text ls

  all_lines : whole_lines (head_text head ++ bytes) ≡ so_far ++ whole_lines rest
  all_lines =
      whole_line (head_text head) (head_inner head.number head.verdict) bytes (first_ended head.number head.verdict) (head_lacks head.number head.verdict right.1)
      ∙ ap (λ (t : List (List ℕ)). head_text head ∷ t) (ap whole_lines (sym split) ∙ whole_body ls rest lines)

  begun : BeginsSection so_far
  begun = (record { number = head.number; verdict = head.verdict; lines = ls }, record { from_one = right.0; to_million = right.1; lines = lines }, last_line head.number ∷ [], refl)

  -- a section whose first lines these are
  body : (s : Section) → IsSection s → (more : List (List ℕ)) → lines_of s ≡ head_text head ∷ more → map line_text s.lines ++ last_line head.number ∷ [] ≡ more
  body s h more e =
      let firsts : first_line s.number s.verdict ≡ first_line head.number head.verdict = cc in
      let number = (same_number s.number head.number s.verdict head.verdict h.to_million right.1 firsts).0 in
      let others : map line_text s.lines ++ last_line s.number ∷ [] ≡ more = cc in
      subst (λ (n : ℕ). map line_text s.lines ++ last_line n ∷ [] ≡ more) number others

  pub missing_line : Lacks 10 rest → IsFault (head_text head ++ bytes) (fault.BadSection (length ls + 2))
  missing_line h = breaks (head_text head ++ bytes) so_far [] (length ls + 2) (all_lines ∙ ap (λ (t : List (List ℕ)). so_far ++ t) (no_whole_line rest h)) count begun (λ bad more e b. cc) none
    where
      count : length ls + 2 ≡ length so_far + 1
      count = omega (arith, length-map ls line_text)

      none : ◌≡◌ {A = List (List ℕ)} [] [] → IsSectionText (head_text head ++ bytes) → ⊥
      none e (s, k, t) =
          let all : lines_of s ++ [] ≡ so_far ++ [] = sym (whole_section s [] k) ∙ (ap whole_lines (append-nil (text_of s) ∙ t) ∙ (all_lines ∙ ap (λ (x : List (List ℕ)). so_far ++ x) (no_whole_line rest h))) in
          let same : lines_of s ≡ so_far = sym (append-nil (lines_of s)) ∙ (all ∙ append-nil so_far) in
          no_last head.number s.lines ls (body s k (map line_text ls) same)

  module _ (text others : List ℕ) (p : IsCut 10 rest text others) where
    next_lines : whole_lines rest ≡ (text ++ 10 ∷ []) ∷ whole_lines others
    next_lines = ap whole_lines p.whole ∙ one_line text others p.first

    count : length ls + 2 ≡ length so_far + 1
    count = omega (arith, length-map ls line_text)

    pub bad_line : (last_line head.number ≡ text ++ 10 ∷ [] → ⊥) → ((l : Line) → IsLine l → line_text l ≡ text ++ 10 ∷ [] → ⊥) → IsFault (head_text head ++ bytes) (fault.BadSection (length ls + 2))
    bad_line last line =
        breaks (head_text head ++ bytes) so_far ((text ++ 10 ∷ []) ∷ whole_lines others) (length ls + 2) (all_lines ∙ ap (λ (t : List (List ℕ)). so_far ++ t) next_lines) count begun next (λ e t. cc)
      where
        next : (bad : List ℕ) (more : List (List ℕ)) → (text ++ 10 ∷ []) ∷ whole_lines others ≡ bad ∷ more → BeginsSection (so_far ++ bad ∷ []) → ⊥
        next bad more e (s, h, after, k) =
            let same : text ++ 10 ∷ [] ≡ bad = cc in
            let tail = body s h (map line_text ls ++ bad ∷ after) (k ∙ append_assoc so_far (bad ∷ []) after) in
            next_line head.number s.lines ls bad after h.lines (λ q. last (q ∙ sym same)) (λ l m q. line l m (q ∙ sym same)) tail

    pub last_found : last_line head.number ≡ text ++ 10 ∷ [] → others ≡ [] → flat_map line_text ls ++ last_line head.number ≡ bytes
    last_found last e = ap (λ (t : List ℕ). flat_map line_text ls ++ t) (last ∙ (ap (λ (t : List ℕ). text ++ 10 ∷ t) (sym e) ∙ sym p.whole)) ∙ split

    -- the lines so far and the last one
    abbrev ended : List (List ℕ)
    ended = head_text head ∷ (map line_text ls ++ last_line head.number ∷ [])

    abbrev whole : Section
    whole = record { number = head.number; verdict = head.verdict; lines = ls }

    is_whole : IsSection whole
    is_whole = record { from_one = right.0; to_million = right.1; lines = lines }

    pub bytes_after : last_line head.number ≡ text ++ 10 ∷ [] → (others ≡ [] → ⊥) → IsFault (head_text head ++ bytes) (fault.BadSection (length ls + 2 + 1))
    bytes_after last some = breaks (head_text head ++ bytes) ended (whole_lines others) (length ls + 2 + 1) all size (whole, is_whole, [], sym (append-nil ended)) next none
      where
        joined : head_text head ++ bytes ≡ text_of whole ++ others
        joined =
            let tail : rest ≡ last_line head.number ++ others = p.whole ∙ (sym (append_assoc text (10 ∷ []) others) ∙ ap (λ (t : List ℕ). t ++ others) (sym last)) in
            let back : bytes ≡ (flat_map line_text ls ++ last_line head.number) ++ others = sym split ∙ (ap (λ (t : List ℕ). flat_map line_text ls ++ t) tail ∙ sym (append_assoc (flat_map line_text ls) (last_line head.number) others)) in
            ap (λ (t : List ℕ). head_text head ++ t) back ∙ sym (append_assoc (head_text head) (flat_map line_text ls ++ last_line head.number) others)

        all : whole_lines (head_text head ++ bytes) ≡ ended ++ whole_lines others
        all = ap whole_lines joined ∙ whole_section whole others is_whole

        size : length ls + 2 + 1 ≡ length ended + 1
        size = omega (arith, length-map ls line_text, length-append (map line_text ls) (last_line head.number ∷ []))

        next : (bad : List ℕ) (more : List (List ℕ)) → whole_lines others ≡ bad ∷ more → BeginsSection (ended ++ bad ∷ []) → ⊥
        next bad more e (s, h, after, k) =
            let tail = body s h (map line_text ls ++ last_line head.number ∷ bad ∷ after)
            (k ∙ (append_assoc ended (bad ∷ []) after ∙ ap (λ (t : List (List ℕ)). head_text head ∷ t) (append_assoc (map line_text ls) (last_line head.number ∷ []) (bad ∷ after)))) in
            after_last head.number s.lines ls bad after tail

        none : whole_lines others ≡ [] → IsSectionText (head_text head ++ bytes) → ⊥
        none e (s, k, t) =
            let same : lines_of s ++ [] ≡ ended ++ [] = sym (whole_section s [] k) ∙ (ap whole_lines (append-nil (text_of s) ∙ t) ∙ (all ∙ ap (λ (x : List (List ℕ)). ended ++ x) e)) in
            let texts : text_of s ≡ text_of whole = same_text s whole (sym (append-nil (lines_of s)) ∙ (same ∙ append-nil ended)) in
            let ends : text_of whole ++ [] ≡ text_of whole ++ others = append-nil (text_of whole) ∙ (sym texts ∙ (t ∙ joined)) in
            some (sym (append_cancel_left (text_of whole) [] others ends))
