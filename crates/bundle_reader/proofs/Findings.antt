-- What is read of a finding, and of the line of a set.
use Rattle.std.proofs.Common.{◌≡◌, ℕ, ℤ, ◌^◌, ◌<◌, List, ◌++◌, get_or, refl, sym, ap, ◌∙◌, append_assoc, codes}
use Rattle.std.proofs.lemmas.Bool.{eqb-false}
use Rattle.std.proofs.lemmas.List.{append_cancel_left}
use Rattle.bundle_text.specs.Bundles.{FindingFits, IsNumber, IsPair}
use Rattle.loop_report.specs.Loops.{front_text}
use Rattle.loop_sets.specs.declared.finding.Finding.{Finding}
use Rattle.loop_sets.specs.declared.finding.Finding.TheVariants as finding
use Rattle.bundle_reader.specs.Fronts.{Anything, IsInFront, NoneInFront}
use Rattle.bundle_reader.specs.Parts.{IsDegree, count_text, degree_text, ticks_text}
use Rattle.bundle_reader.specs.Sets.{IsSetLine, finding_line, set_line, spans_text}
use Rattle.bundle_reader.specs.declared.sets.SetLine.{SetLine}
use Rattle.bundle_reader.proofs.Fronts.{Parts}

-- ---- a finding

abbrev byte_at : ℕ → List ℕ → ℕ
byte_at i t = get_or t i 0

abbrev Is : List ℕ → Finding → List ℕ → Type 0
Is bytes f rest = IsInFront finding_line FindingFits Anything bytes f rest

pub unproved_here : (bytes rest : List ℕ) → bytes ≡ codes "possible\n" ++ rest → Is bytes finding.Unproved rest
unproved_here bytes rest e = record { right = tt; whole = sym e; only = λ f s h k d. same f s (d ∙ e) }
  where
    same : (f : Finding) (s : List ℕ) → finding_line f ++ s ≡ codes "possible\n" ++ rest → (f ≡ finding.Unproved) × (s ≡ rest)
    same (finding.Sure a b) s d = absurd (eqb-false 114 111 refl (ap (byte_at 1) d))
    same (finding.Degree z) s d = absurd (eqb-false 114 111 refl (ap (byte_at 1) d))
    same finding.Unproved s d = (refl, append_cancel_left (codes "possible\n") s rest d)

pub sure_here : (bytes : List ℕ) (a b : ℕ) (rest : List ℕ) → IsInFront (ticks_text (codes "proved sure ") 10) IsPair Anything bytes (a, b) rest → Is bytes (finding.Sure a b) rest
sure_here bytes a b rest h = record { right = h.right; whole = h.whole; only = λ f s q k d. same f s q d }
  where
    same : (f : Finding) (s : List ℕ) → FindingFits f → finding_line f ++ s ≡ bytes → (f ≡ finding.Sure a b) × (s ≡ rest)
    same (finding.Sure c d) s q e = let both = h.only (c, d) s q tt e in (ap (λ (p : ℕ × ℕ). finding.Sure p.0 p.1) both.0, both.1)
    same (finding.Degree z) s q e = absurd (eqb-false 100 115 refl (ap (byte_at 7) (e ∙ sym h.whole)))
    same finding.Unproved s q e = absurd (eqb-false 111 114 refl (ap (byte_at 1) (e ∙ sym h.whole)))

pub degree_here : (bytes : List ℕ) (z : ℤ) (rest : List ℕ) → IsInFront (degree_text (codes "proved degree ") 10) IsDegree Anything bytes z rest → Is bytes (finding.Degree z) rest
degree_here bytes z rest h = record { right = h.right; whole = h.whole; only = λ f s q k d. same f s q d }
  where
    same : (f : Finding) (s : List ℕ) → FindingFits f → finding_line f ++ s ≡ bytes → (f ≡ finding.Degree z) × (s ≡ rest)
    same (finding.Sure c d) s q e = absurd (eqb-false 115 100 refl (ap (byte_at 7) (e ∙ sym h.whole)))
    same (finding.Degree y) s q e = let both = h.only y s q tt e in (ap finding.Degree both.0, both.1)
    same finding.Unproved s q e = absurd (eqb-false 111 114 refl (ap (byte_at 1) (e ∙ sym h.whole)))

pub no_finding : (bytes : List ℕ) → ((rest : List ℕ) → bytes ≡ codes "possible\n" ++ rest → ⊥) → NoneInFront (ticks_text (codes "proved sure ") 10) IsPair Anything bytes → NoneInFront (degree_text (codes "proved degree ") 10) IsDegree Anything bytes
    → NoneInFront finding_line FindingFits Anything bytes
no_finding bytes unproved sure degree (finding.Sure a b) s h k e = sure (a, b) s h tt e
no_finding bytes unproved sure degree (finding.Degree z) s h k e = degree z s h tt e
no_finding bytes unproved sure degree finding.Unproved s h k e = unproved s (sym e)

-- ---- the line of a set

abbrev behind_number : SetLine → List ℕ
behind_number s = count_text (codes "pairs ") 32 s.pairs ++ (spans_text (s.a, s.b) ++ finding_line s.finding)

abbrev behind_pairs : SetLine → List ℕ
behind_pairs s = spans_text (s.a, s.b) ++ finding_line s.finding

pub number_parts : (n : ℕ) → IsNumber n → Parts (count_text (codes "set ") 32) IsNumber Anything (set_line n) IsSetLine Anything (λ s. n) behind_number
unfolding front_text
number_parts n small = record { parted = λ s t. simp append_assoc; right = λ s h. small; before = λ s t h k. tt }

pub pairs_parts : Parts (count_text (codes "pairs ") 32) (λ n. n < 2 ^ 64) Anything behind_number IsSetLine Anything (λ s. s.pairs) behind_pairs
pairs_parts = record { parted = λ s t. append_assoc (count_text (codes "pairs ") 32 s.pairs) (behind_pairs s) t; right = λ s h. h.pairs; before = λ s t h k. tt }

pub spans_parts : Parts spans_text (λ s. IsPair s.0 × IsPair s.1) Anything behind_pairs IsSetLine Anything (λ s. (s.a, s.b)) (λ s. finding_line s.finding)
spans_parts = record { parted = λ s t. append_assoc (spans_text (s.a, s.b)) (finding_line s.finding) t; right = λ s h. (h.a, h.b); before = λ s t h k. tt }
