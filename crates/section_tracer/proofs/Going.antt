-- One traced section more.
use Rattle.std.proofs.Common.{◌≡◌, ℕ, ◌+◌, List, [], ◌∷◌, ◌++◌, arith, refl, sym, ap, ◌∙◌, length, map, add-zero, append-nil, append_assoc}
use Rattle.std.specs.Prelude.{Option}
use Rattle.std.proofs.lemmas.List.{length-map, map-append}
use Rattle.tube_spec.specs.Span.{Span}
use Rattle.mission_items.specs.declared.mission.Mission.{Mission}
use Rattle.section_report.specs.Sections.{Section}
use Rattle.section_report.proofs.Ends.{upto_after, box_after}
use Rattle.section_tracer.specs.Firings.{TracedPart, AreFirings, FiringsGoOn, sections_in}
use Rattle.section_tracer.specs.Texts.{traced_text, traced_from}

pub sections-more : (ts : List TracedPart) (t : TracedPart) → sections_in (ts ++ t ∷ []) ≡ sections_in ts ++ t.section ∷ []
sections-more ts t = map-append (λ (u : TracedPart). u.section) ts (t ∷ [])

pub sections-many : (ts : List TracedPart) → length (sections_in ts) ≡ length ts
sections-many ts = length-map ts (λ (u : TracedPart). u.section)

pub firings-more : (m : Mission) (first : ℕ) (box : Option (List Span)) (ts : List TracedPart) (t : TracedPart) → FiringsGoOn m first box ts
    → AreFirings m (upto_after first (sections_in ts)) (box_after box (sections_in ts)) t → FiringsGoOn m first box (ts ++ t ∷ [])
firings-more m first box [] t h one = (one, tt)
firings-more m first box (u ∷ ts) t h one = (h.0, firings-more m u.section.upto u.section.box ts t h.1 one)

pub texts-more : (m : Mission) (n : ℕ) (ts : List TracedPart) (t : TracedPart) → traced_from m n (ts ++ t ∷ []) ≡ traced_from m n ts ++ traced_text m (n + length ts) t
texts-more m n [] t = append-nil (traced_text m n t) ∙ ap (λ (k : ℕ). traced_text m k t) (sym (add-zero n))
texts-more m n (u ∷ ts) t =
    let count : (n + 1) + length ts ≡ n + length (u ∷ ts) = omega arith in
    ap (λ (l : List ℕ). traced_text m n u ++ l) (texts-more m (n + 1) ts t ∙ ap (λ (k : ℕ). traced_from m (n + 1) ts ++ traced_text m k t) count)
    ∙ sym (append_assoc (traced_text m n u) (traced_from m (n + 1) ts) (traced_text m (n + length (u ∷ ts)) t))
