-- What is read of the lines of a section.
use Rattle.std.proofs.Common.{◌≡◌, ℕ, ◌≤◌, true, List, [], ◌∷◌, ◌++◌, refl, sym, ap, ◌∙◌, subst, arith, append_assoc, Option}
use Rattle.std.specs.Prelude.{codes, decimal, ⊤}
use Rattle.std.proofs.lemmas.List.{append_cancel_right}
use Rattle.tube_spec.specs.Span.{Span}
use Rattle.log_spelling.specs.Names.{is_name}
use Rattle.tube_report.specs.Lines.{first_line, last_line, verdict_word}
use Rattle.tube_report.specs.declared.section.Verdict.{Verdict}
use Rattle.report_reader.specs.Words.{IsCut, IsInterval, IsReference, IsTicked, Lacks, Reads, range_text, ticked_text}
use Rattle.report_reader.specs.Sections.{IsHead, IsLine, head_text, line_text}
use Rattle.report_reader.specs.declared.lines.Head.{Head}
use Rattle.report_reader.specs.declared.lines.Ticked.{Ticked}
use Rattle.report_reader.specs.declared.section.Line.{Line}
use Rattle.report_reader.specs.declared.section.Line.TheVariants as line
use Rattle.report_reader.proofs.Cuts.{cut_is, decimal_lacks, no_cut}
use Rattle.report_reader.proofs.LineWords.{first_ended, head_inner, inner, kind_is, kind_word, last_ended, last_inner, line_ended, line_parts, line_rest, only_gate, only_signal, only_slice, only_var, reference_lacks}
use Rattle.report_reader.proofs.Numerals.{same_count}

-- two parts that stand for themselves are the text
pub parts_whole : (text front rest a b : List ℕ) → IsCut 32 text front rest → a ≡ front → b ≡ rest → a ++ 32 ∷ b ≡ text
parts_whole text front rest a b p e k = ap (λ (t : List ℕ). t ++ 32 ∷ b) e ∙ (ap (λ (t : List ℕ). front ++ 32 ∷ t) k ∙ sym p.whole)

-- ---- a tick and a range

ticked_cut : (text front rest : List ℕ) → IsCut 32 text front rest → (v : Ticked) → IsTicked v → ticked_text v ≡ text → (decimal v.tick ≡ front) × (range_text v.range ≡ rest)
ticked_cut text front rest p v h e = cut_is 32 text front rest (decimal v.tick) (range_text v.range) p (decimal_lacks 32 v.tick (omega arith) (omega (arith, h.0))) e

pub no_tick : (text front rest : List ℕ) → IsCut 32 text front rest → ((n : ℕ) → n ≤ 100000 → decimal n ≡ front → ⊥) → (v : Ticked) → IsTicked v → ticked_text v ≡ text → ⊥
no_tick text front rest p none v h e = none v.tick h.0 (ticked_cut text front rest p v h e).0

pub no_range : (text front rest : List ℕ) → IsCut 32 text front rest → ((r : Span) → IsInterval r → range_text r ≡ rest → ⊥) → (v : Ticked) → IsTicked v → ticked_text v ≡ text → ⊥
no_range text front rest p none v h e = none v.range h.1 (ticked_cut text front rest p v h e).1

-- ---- the first and the last line

head_is : (v : Head) (text : List ℕ) → head_text v ≡ text ++ 10 ∷ [] → head_inner v.number v.verdict ≡ text
head_is v text e = append_cancel_right (head_inner v.number v.verdict) text (10 ∷ []) (sym (first_ended v.number v.verdict) ∙ e)

pub head_uncut : (text : List ℕ) → Lacks 32 text → (v : Head) → IsHead v → head_text v ≡ text ++ 10 ∷ [] → ⊥
head_uncut text none v h e = no_cut 32 text (codes "section") (decimal v.number ++ 32 ∷ verdict_word v.verdict) none (head_is v text e)

pub head_cut : (text kind rest : List ℕ) → IsCut 32 text kind rest → (v : Head) → head_text v ≡ text ++ 10 ∷ [] → (codes "section" ≡ kind) × (decimal v.number ++ 32 ∷ verdict_word v.verdict ≡ rest)
head_cut text kind rest p v e = cut_is 32 text kind rest (codes "section") (decimal v.number ++ 32 ∷ verdict_word v.verdict) p refl (head_is v text e)

pub no_head : (text kind rest : List ℕ) → IsCut 32 text kind rest → (kind ≡ codes "section" → ⊥) → (v : Head) → IsHead v → head_text v ≡ text ++ 10 ∷ [] → ⊥
no_head text kind rest p none v h e = none (sym (head_cut text kind rest p v e).0)

module _ (text kind rest : List ℕ) (p : IsCut 32 text kind rest) where
  pub rest_uncut : Lacks 32 rest → (v : Head) → IsHead v → head_text v ≡ text ++ 10 ∷ [] → ⊥
  rest_uncut none v h e = no_cut 32 rest (decimal v.number) (verdict_word v.verdict) none (head_cut text kind rest p v e).1

  module _ (number verdict : List ℕ) (q : IsCut 32 rest number verdict) where
    rest_cut : (v : Head) → IsHead v → head_text v ≡ text ++ 10 ∷ [] → (decimal v.number ≡ number) × (verdict_word v.verdict ≡ verdict)
    rest_cut v h e = cut_is 32 rest number verdict (decimal v.number) (verdict_word v.verdict) q (decimal_lacks 32 v.number (omega arith) (omega (arith, h.1))) (head_cut text kind rest p v e).1

    pub no_number : ((n : ℕ) → n ≤ 1000000 → decimal n ≡ number → ⊥) → (v : Head) → IsHead v → head_text v ≡ text ++ 10 ∷ [] → ⊥
    no_number none v h e = none v.number h.1 (rest_cut v h e).0

    pub no_zero : (n : ℕ) → n ≡ 0 → decimal n ≡ number → (v : Head) → IsHead v → head_text v ≡ text ++ 10 ∷ [] → ⊥
    no_zero n z d v h e =
        let same : v.number ≡ n = same_count v.number n (omega (arith, h.1)) (omega arith) ((rest_cut v h e).0 ∙ sym d) in
        omega (arith, h.0)

    pub no_verdict : ((w : Verdict) → ⊤ → verdict_word w ≡ verdict → ⊥) → (v : Head) → IsHead v → head_text v ≡ text ++ 10 ∷ [] → ⊥
    no_verdict none v h e = none v.verdict tt (rest_cut v h e).1

    pub head_whole : (n : ℕ) (w : Verdict) → kind ≡ codes "section" → decimal n ≡ number → verdict_word w ≡ verdict → first_line n w ≡ text ++ 10 ∷ []
    head_whole n w k d e =
        let back : decimal n ++ 32 ∷ verdict_word w ≡ rest = parts_whole rest number verdict (decimal n) (verdict_word w) q d e in
        let all : head_inner n w ≡ text = parts_whole text kind rest (codes "section") (decimal n ++ 32 ∷ verdict_word w) p (sym k) back in
        first_ended n w ∙ ap (λ (t : List ℕ). t ++ 10 ∷ []) all

last_is : (number : ℕ) (text : List ℕ) → last_line number ≡ text ++ 10 ∷ [] → last_inner number ≡ text
last_is number text e = append_cancel_right (last_inner number) text (10 ∷ []) (sym (last_ended number) ∙ e)

pub last_uncut : (text : List ℕ) (number : ℕ) → Lacks 32 text → last_line number ≡ text ++ 10 ∷ [] → ⊥
last_uncut text number none e = no_cut 32 text (codes "end") (decimal number) none (last_is number text e)

pub last_cut : (text kind rest : List ℕ) (number : ℕ) → IsCut 32 text kind rest → last_line number ≡ text ++ 10 ∷ [] → (codes "end" ≡ kind) × (decimal number ≡ rest)
last_cut text kind rest number p e = cut_is 32 text kind rest (codes "end") (decimal number) p refl (last_is number text e)

pub last_whole : (text kind rest : List ℕ) (number : ℕ) → IsCut 32 text kind rest → kind ≡ codes "end" → decimal number ≡ rest → last_line number ≡ text ++ 10 ∷ []
last_whole text kind rest number p k d = last_ended number ∙ ap (λ (t : List ℕ). t ++ 10 ∷ []) (parts_whole text kind rest (codes "end") (decimal number) p (sym k) d)

-- ---- the lines between

-- a line of a kind is what follows its word
pub of_kind : (l : Line) (rest : List ℕ) → line_rest l ≡ rest → line_text l ≡ kind_word l ++ 32 ∷ (rest ++ 10 ∷ [])
of_kind l rest e = line_parts l ∙ ap (λ (t : List ℕ). kind_word l ++ 32 ∷ (t ++ 10 ∷ [])) e

pub no_signal : (rest : List ℕ) → (is_name rest ≡ true → ⊥) → (l : Line) → IsLine l → line_text l ≡ codes "signal" ++ 32 ∷ (rest ++ 10 ∷ []) → ⊥
no_signal rest none l h e =
    let p = kind_is l (codes "signal") rest refl e in
    only_signal l p.0 (λ (m : Line). IsLine m → line_rest m ≡ rest → ⊥) (λ name k d. none (ap is_name (sym d) ∙ k)) h p.1

pub no_gate : (rest : List ℕ) → ((v : Ticked) → IsTicked v → ticked_text v ≡ rest → ⊥) → (l : Line) → IsLine l → line_text l ≡ codes "gate" ++ 32 ∷ (rest ++ 10 ∷ []) → ⊥
no_gate rest none l h e =
    let p = kind_is l (codes "gate") rest refl e in
    only_gate l p.0 (λ (m : Line). IsLine m → line_rest m ≡ rest → ⊥) (λ tick range k d. none (record { tick = tick; range = range }) k d) h p.1

slice_is : (rest : List ℕ) (l : Line) → IsLine l → line_text l ≡ codes "slice" ++ 32 ∷ (rest ++ 10 ∷ []) → (from : ℕ) × (end : Ticked) × (from ≤ 100000) × IsTicked end × (decimal from ++ 32 ∷ ticked_text end ≡ rest)
slice_is rest l h e =
    let p = kind_is l (codes "slice") rest refl e in
    only_slice l p.0 (λ (m : Line). IsLine m → line_rest m ≡ rest → (from : ℕ) × (end : Ticked) × (from ≤ 100000) × IsTicked end × (decimal from ++ 32 ∷ ticked_text end ≡ rest)) (λ from to range k d. (from, record { tick = to; range = range }, k.0, (k.1, k.2), d)) h p.1

pub slice_uncut : (rest : List ℕ) → Lacks 32 rest → (l : Line) → IsLine l → line_text l ≡ codes "slice" ++ 32 ∷ (rest ++ 10 ∷ []) → ⊥
slice_uncut rest none l h e = let s = slice_is rest l h e in no_cut 32 rest (decimal s.0) (ticked_text s.1) none s.4

module _ (rest from back : List ℕ) (p : IsCut 32 rest from back) where
  slice_cut : (l : Line) → IsLine l → line_text l ≡ codes "slice" ++ 32 ∷ (rest ++ 10 ∷ []) → (n : ℕ) × (end : Ticked) × (n ≤ 100000) × IsTicked end × (decimal n ≡ from) × (ticked_text end ≡ back)
  slice_cut l h e =
      let s = slice_is rest l h e in
      let parts = cut_is 32 rest from back (decimal s.0) (ticked_text s.1) p (decimal_lacks 32 s.0 (omega arith) (omega (arith, s.2))) s.4 in
      (s.0, s.1, s.2, s.3, parts.0, parts.1)

  pub no_from : ((n : ℕ) → n ≤ 100000 → decimal n ≡ from → ⊥) → (l : Line) → IsLine l → line_text l ≡ codes "slice" ++ 32 ∷ (rest ++ 10 ∷ []) → ⊥
  no_from none l h e = let s = slice_cut l h e in none s.0 s.2 s.4

  pub no_end : ((v : Ticked) → IsTicked v → ticked_text v ≡ back → ⊥) → (l : Line) → IsLine l → line_text l ≡ codes "slice" ++ 32 ∷ (rest ++ 10 ∷ []) → ⊥
  no_end none l h e = let s = slice_cut l h e in none s.1 s.3 s.5

var_is : (rest : List ℕ) (l : Line) → IsLine l → line_text l ≡ codes "var" ++ 32 ∷ (rest ++ 10 ∷ []) → (name : List ℕ) × (range : Span) × IsReference name × IsInterval range × (name ++ 32 ∷ range_text range ≡ rest)
var_is rest l h e =
    let p = kind_is l (codes "var") rest refl e in
    only_var l p.0 (λ (m : Line). IsLine m → line_rest m ≡ rest → (name : List ℕ) × (range : Span) × IsReference name × IsInterval range × (name ++ 32 ∷ range_text range ≡ rest)) (λ name range k d. (name, range, k.0, k.1, d)) h p.1

pub var_uncut : (rest : List ℕ) → Lacks 32 rest → (l : Line) → IsLine l → line_text l ≡ codes "var" ++ 32 ∷ (rest ++ 10 ∷ []) → ⊥
var_uncut rest none l h e = let s = var_is rest l h e in no_cut 32 rest s.0 (range_text s.1) none s.4

module _ (rest name back : List ℕ) (p : IsCut 32 rest name back) where
  var_cut : (l : Line) → IsLine l → line_text l ≡ codes "var" ++ 32 ∷ (rest ++ 10 ∷ []) → IsReference name × (range : Span) × IsInterval range × (range_text range ≡ back)
  var_cut l h e =
      let s = var_is rest l h e in
      let parts = cut_is 32 rest name back s.0 (range_text s.1) p (reference_lacks 32 s.0 (omega arith) s.2) s.4 in
      (subst IsReference parts.0 s.2, s.1, s.3, parts.1)

  pub no_name : (IsReference name → ⊥) → (l : Line) → IsLine l → line_text l ≡ codes "var" ++ 32 ∷ (rest ++ 10 ∷ []) → ⊥
  no_name none l h e = none (var_cut l h e).0

  pub no_var_range : ((r : Span) → IsInterval r → range_text r ≡ back → ⊥) → (l : Line) → IsLine l → line_text l ≡ codes "var" ++ 32 ∷ (rest ++ 10 ∷ []) → ⊥
  no_var_range none l h e = let s = var_cut l h e in none s.1 s.2 s.3

-- a text of another kind is no line
pub no_line_uncut : (text : List ℕ) → Lacks 32 text → (l : Line) → IsLine l → line_text l ≡ text ++ 10 ∷ [] → ⊥
no_line_uncut text none l h e =
    let same = append_cancel_right (inner l) text (10 ∷ []) (sym (line_ended l) ∙ e) in
    no_cut 32 text (kind_word l) (line_rest l) none same

pub line_at : (text kind rest : List ℕ) → IsCut 32 text kind rest → text ++ 10 ∷ [] ≡ kind ++ 32 ∷ (rest ++ 10 ∷ [])
line_at text kind rest p = ap (λ (t : List ℕ). t ++ 10 ∷ []) p.whole ∙ append_assoc kind (32 ∷ rest) (10 ∷ [])

pub reads_at : (text kind rest : List ℕ) (word : List ℕ) (r : Option Line) → IsCut 32 text kind rest → kind ≡ word → Reads line_text IsLine (word ++ 32 ∷ (rest ++ 10 ∷ [])) r → Reads line_text IsLine (text ++ 10 ∷ []) r
reads_at text kind rest word r p k h =
    let same : text ++ 10 ∷ [] ≡ word ++ 32 ∷ (rest ++ 10 ∷ []) = line_at text kind rest p ∙ ap (λ (t : List ℕ). t ++ 32 ∷ (rest ++ 10 ∷ [])) k in
    subst (λ (t : List ℕ). Reads line_text IsLine t r) (sym same) h

pub no_line : (text kind rest : List ℕ) → IsCut 32 text kind rest → (kind ≡ codes "signal" → ⊥) → (kind ≡ codes "gate" → ⊥) → (kind ≡ codes "slice" → ⊥) → (kind ≡ codes "var" → ⊥) → (l : Line) → IsLine l → line_text l ≡ text ++ 10 ∷ [] → ⊥
no_line text kind rest p signal gate slice var l h e = of l (kind_is l kind rest p.first (e ∙ line_at text kind rest p)).0
  where
    of : (m : Line) → kind_word m ≡ kind → ⊥
    of (line.Signal name) k = signal (sym k)
    of (line.Gate tick range) k = gate (sym k)
    of (line.Slice from to range) k = slice (sym k)
    of (line.Var name range) k = var (sym k)
