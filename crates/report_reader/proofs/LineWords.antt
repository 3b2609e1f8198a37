-- The word that a line begins with, and what follows it.
use Rattle.std.proofs.Common.{◌≡◌, ℕ, ◌<◌, ◌≤◌, List, [], ◌∷◌, ◌++◌, length, get_or, refl, sym, ap, ◌∙◌, subst, arith, append_assoc, inl, inr}
use Rattle.std.specs.Prelude.{codes, decimal}
use Rattle.std.specs.Fmt.{signed_decimal}
use Rattle.std.proofs.lemmas.List.{append_cancel_right}
use Rattle.std.proofs.lemmas.Bool.{eqb-false}
use Rattle.tube_spec.specs.Span.{Span}
use Rattle.tube_report.specs.Lines.{first_line, last_line, signal_line, gate_line, slice_line, var_line, verdict_word}
use Rattle.tube_report.specs.declared.section.Verdict.{Verdict}
use Rattle.tube_report.specs.declared.section.Verdict.TheVariants as verdict
use Rattle.report_reader.specs.Words.{IsAxis, IsInterval, IsReference, Lacks, range_text, ticked_text}
use Rattle.report_reader.specs.Sections.{IsLine, line_text}
use Rattle.report_reader.specs.declared.section.Line.{Line}
use Rattle.report_reader.specs.declared.section.Line.TheVariants as line
use Rattle.report_reader.proofs.Cuts.{cut_same, decimal_lacks, lacks_append, lacks_cons, name_lacks, signed_lacks}
use Rattle.report_reader.proofs.Ranges.{low_small, high_small}

-- ---- lines between the first and the last one

abbrev pub kind_word : Line → List ℕ
kind_word (line.Signal name) = codes "signal"
kind_word (line.Gate tick range) = codes "gate"
kind_word (line.Slice from to range) = codes "slice"
kind_word (line.Var name range) = codes "var"

abbrev pub line_rest : Line → List ℕ
line_rest (line.Signal name) = name
line_rest (line.Gate tick range) = ticked_text (record { tick = tick; range = range })
line_rest (line.Slice from to range) = decimal from ++ 32 ∷ ticked_text (record { tick = to; range = range })
line_rest (line.Var name range) = name ++ 32 ∷ range_text range

pub line_parts : (l : Line) → line_text l ≡ kind_word l ++ 32 ∷ (line_rest l ++ 10 ∷ [])
unfolding signal_line gate_line slice_line var_line
line_parts (line.Signal name) = refl
line_parts (line.Gate tick range) = simp append_assoc
line_parts (line.Slice from to range) = simp append_assoc
line_parts (line.Var name range) = simp append_assoc

pub kind_lacks : (l : Line) → (Lacks 32 (kind_word l)) × (Lacks 10 (kind_word l))
kind_lacks (line.Signal name) = (refl, refl)
kind_lacks (line.Gate tick range) = (refl, refl)
kind_lacks (line.Slice from to range) = (refl, refl)
kind_lacks (line.Var name range) = (refl, refl)

-- a line that is a word and something more begins with that word
pub kind_is : (l : Line) (kind rest : List ℕ) → Lacks 32 kind → line_text l ≡ kind ++ 32 ∷ (rest ++ 10 ∷ []) → (kind_word l ≡ kind) × (line_rest l ≡ rest)
kind_is l kind rest h e =
    let p = cut_same 32 (kind_word l) kind (line_rest l ++ 10 ∷ []) (rest ++ 10 ∷ []) (kind_lacks l).0 h (sym (line_parts l) ∙ e) in
    (p.0, append_cancel_right (line_rest l) rest (10 ∷ []) p.1)

-- which kind it is
pub only_signal : (l : Line) → kind_word l ≡ codes "signal" → (P : Line → Type 0) → ((name : List ℕ) → P (line.Signal name)) → P l
only_signal (line.Signal name) e P f = f name
only_signal (line.Gate tick range) e P f = absurd (eqb-false 4 6 refl (ap length e))
only_signal (line.Slice from to range) e P f = absurd (eqb-false 5 6 refl (ap length e))
only_signal (line.Var name range) e P f = absurd (eqb-false 3 6 refl (ap length e))

pub only_gate : (l : Line) → kind_word l ≡ codes "gate" → (P : Line → Type 0) → ((tick : ℕ) (range : Span) → P (line.Gate tick range)) → P l
only_gate (line.Signal name) e P f = absurd (eqb-false 6 4 refl (ap length e))
only_gate (line.Gate tick range) e P f = f tick range
only_gate (line.Slice from to range) e P f = absurd (eqb-false 5 4 refl (ap length e))
only_gate (line.Var name range) e P f = absurd (eqb-false 3 4 refl (ap length e))

pub only_slice : (l : Line) → kind_word l ≡ codes "slice" → (P : Line → Type 0) → ((from to : ℕ) (range : Span) → P (line.Slice from to range)) → P l
only_slice (line.Signal name) e P f = absurd (eqb-false 6 5 refl (ap length e))
only_slice (line.Gate tick range) e P f = absurd (eqb-false 4 5 refl (ap length e))
only_slice (line.Slice from to range) e P f = f from to range
only_slice (line.Var name range) e P f = absurd (eqb-false 3 5 refl (ap length e))

pub only_var : (l : Line) → kind_word l ≡ codes "var" → (P : Line → Type 0) → ((name : List ℕ) (range : Span) → P (line.Var name range)) → P l
only_var (line.Signal name) e P f = absurd (eqb-false 6 3 refl (ap length e))
only_var (line.Gate tick range) e P f = absurd (eqb-false 4 3 refl (ap length e))
only_var (line.Slice from to range) e P f = absurd (eqb-false 5 3 refl (ap length e))
only_var (line.Var name range) e P f = f name range

-- ---- a line has no byte 10 but its last one

range_lacks : (range : Span) → IsInterval range → Lacks 10 (range_text range)
range_lacks range h =
    let low = low_small range h in
    let high = high_small range h in
    lacks_append 10 (signed_decimal range.lo) (32 ∷ signed_decimal range.hi) (signed_lacks 10 range.lo (omega arith) (omega arith)) (lacks_cons 10 32 (signed_decimal range.hi) (λ e. absurd (omega arith)) (signed_lacks 10 range.hi (omega arith) (omega arith)))

ticked_lacks : (tick : ℕ) (range : Span) → tick ≤ 100000 → IsInterval range → Lacks 10 (ticked_text (record { tick = tick; range = range }))
ticked_lacks tick range small h = lacks_append 10 (decimal tick) (32 ∷ range_text range) (decimal_lacks 10 tick (omega arith) (omega arith)) (lacks_cons 10 32 (range_text range) (λ e. absurd (omega arith)) (range_lacks range h))

pub reference_lacks : (c : ℕ) (word : List ℕ) → c < 46 → IsReference word → Lacks c word
reference_lacks c word low (inl e) = name_lacks c word (omega arith) e
reference_lacks c word low (inr h) = subst (λ (t : List ℕ). Lacks c t) h.4 (lacks_append c h.0 h.1 (name_lacks c h.0 (omega arith) h.2) (axis h.1 h.3))
  where
    axis : (a : List ℕ) → IsAxis a → Lacks c a
    axis a (inl e) = subst (λ (t : List ℕ). Lacks c t) (sym e) (lacks_cons c 46 (120 ∷ []) (λ k. absurd (omega arith)) (lacks_cons c 120 [] (λ k. absurd (omega arith)) refl))
    axis a (inr e) = subst (λ (t : List ℕ). Lacks c t) (sym e) (lacks_cons c 46 (121 ∷ []) (λ k. absurd (omega arith)) (lacks_cons c 121 [] (λ k. absurd (omega arith)) refl))

rest_lacks : (l : Line) → IsLine l → Lacks 10 (line_rest l)
rest_lacks (line.Signal name) h = name_lacks 10 name (omega arith) h
rest_lacks (line.Gate tick range) h = ticked_lacks tick range h.0 h.1
rest_lacks (line.Slice from to range) h = lacks_append 10 (decimal from) (32 ∷ ticked_text (record { tick = to; range = range })) (decimal_lacks 10 from (omega arith) (omega (arith, h.0))) (lacks_cons 10 32 (ticked_text (record { tick = to; range = range })) (λ e. absurd (omega arith)) (ticked_lacks to range h.1 h.2))
rest_lacks (line.Var name range) h = lacks_append 10 name (32 ∷ range_text range) (reference_lacks 10 name (omega arith) h.0) (lacks_cons 10 32 (range_text range) (λ e. absurd (omega arith)) (range_lacks range h.1))

-- a line without its end
abbrev pub inner : Line → List ℕ
inner l = kind_word l ++ 32 ∷ line_rest l

pub inner_lacks : (l : Line) → IsLine l → Lacks 10 (inner l)
inner_lacks l h = lacks_append 10 (kind_word l) (32 ∷ line_rest l) (kind_lacks l).1 (lacks_cons 10 32 (line_rest l) (λ e. absurd (omega arith)) (rest_lacks l h))

pub line_ended : (l : Line) → line_text l ≡ inner l ++ 10 ∷ []
line_ended l = line_parts l ∙ sym (append_assoc (kind_word l) (32 ∷ line_rest l) (10 ∷ []))

-- ---- the first and the last line

abbrev pub head_inner : ℕ → Verdict → List ℕ
head_inner number v = codes "section" ++ 32 ∷ (decimal number ++ 32 ∷ verdict_word v)

abbrev pub last_inner : ℕ → List ℕ
last_inner number = codes "end" ++ 32 ∷ decimal number

pub first_ended : (number : ℕ) (v : Verdict) → first_line number v ≡ head_inner number v ++ 10 ∷ []
unfolding first_line
first_ended number v = simp append_assoc

pub last_ended : (number : ℕ) → last_line number ≡ last_inner number ++ 10 ∷ []
unfolding last_line
last_ended number = simp append_assoc

verdict_lacks : (v : Verdict) → Lacks 10 (verdict_word v)
verdict_lacks verdict.Settled = refl
verdict_lacks verdict.Empty = refl
verdict_lacks verdict.Spent = refl

pub head_lacks : (number : ℕ) (v : Verdict) → number ≤ 1000000 → Lacks 10 (head_inner number v)
head_lacks number v h =
    lacks_append 10 (codes "section") (32 ∷ (decimal number ++ 32 ∷ verdict_word v)) refl
    (lacks_cons 10 32 (decimal number ++ 32 ∷ verdict_word v) (λ e. absurd (omega arith))
    (lacks_append 10 (decimal number) (32 ∷ verdict_word v) (decimal_lacks 10 number (omega arith) (omega arith)) (lacks_cons 10 32 (verdict_word v) (λ e. absurd (omega arith)) (verdict_lacks v))))

pub last_lacks : (number : ℕ) → number ≤ 1000000 → Lacks 10 (last_inner number)
last_lacks number h = lacks_append 10 (codes "end") (32 ∷ decimal number) refl (lacks_cons 10 32 (decimal number) (λ e. absurd (omega arith)) (decimal_lacks 10 number (omega arith) (omega arith)))

-- no other line is a last one
pub not_last : (l : Line) (number : ℕ) → line_text l ≡ last_line number → ⊥
not_last l number e =
    let texts : inner l ++ 10 ∷ [] ≡ last_inner number ++ 10 ∷ [] = sym (line_ended l) ∙ (e ∙ last_ended number) in
    let same = append_cancel_right (inner l) (last_inner number) (10 ∷ []) texts in
    let kinds = cut_same 32 (kind_word l) (codes "end") (line_rest l) (decimal number) (kind_lacks l).0 refl same in
    other l kinds.0
  where
    other : (m : Line) → kind_word m ≡ codes "end" → ⊥
    other (line.Signal name) k = eqb-false 6 3 refl (ap length k)
    other (line.Gate tick range) k = eqb-false 4 3 refl (ap length k)
    other (line.Slice from to range) k = eqb-false 5 3 refl (ap length k)
    other (line.Var name range) k = eqb-false 118 101 refl (ap (λ (t : List ℕ). get_or t 0 0) k)
