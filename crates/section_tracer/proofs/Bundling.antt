-- Traced sections as a bundle has them.
use Rattle.std.proofs.Common.{◌≡◌, false, ℕ, zero, suc, ◌+◌, ◌^◌, ◌<◌, ◌≤◌, List, [], ◌∷◌, ◌++◌, Option, Some, All, arith, refl, sym, ap, ◌∙◌, subst, length, map, flat_map, slice_get, append_assoc, get_or}
use Rattle.std.specs.List.{AllByRecursion}
use Rattle.std.proofs.lemmas.List.{length-map}
use Rattle.std.proofs.lemmas.List.Folds.{flat_map-map}
use Rattle.tube_spec.specs.Span.{Span}
use Rattle.ctc_network.specs.declared.answers.CtcId.{CtcId}
use Rattle.mission_items.specs.declared.mission.Mission.{Mission}
use Rattle.mission_items.specs.Valid.{IsMission}
use Rattle.report_reader.specs.Sections.{IsSection, text_of}
use Rattle.report_law.specs.Reading.{SectionsAreRead, section_described}
use Rattle.section_report.specs.Sections.{Section, AreSections}
use Rattle.section_report.specs.Texts as texts
use Rattle.bundle_text.specs.Lines.{line_text}
use Rattle.bundle_text.specs.Bundles.{IsNumber, IsTracedSection, fire_text, section_text}
use Rattle.bundle_text.specs.declared.lines.BundleLine.TheVariants as kind
use Rattle.section_tracer.specs.Firings.{TracedPart, AreFirings, FiringsGoOn, most_firings, sections_in}
use Rattle.section_tracer.specs.Texts.{fires_text, traced_text, traced_from}
use Rattle.section_tracer.specs.Bundled.{SectionsAreBundled, section_traced, traced_sections}

-- the text of one section
one-text : (m : Mission) (number : ℕ) (t : TracedPart) → text_of (section_described m number t.section) ≡ texts.text_of m false number t.section → section_text (section_traced m number t) ≡ traced_text m number t
one-text m number t same =
    let many : length (map (λ (id : CtcId). id.0) t.fired) ≡ length t.fired = length-map t.fired (λ (id : CtcId). id.0) in
    ap (λ (n : ℕ). line_text (kind.Fires number n) ++ (flat_map fire_text (map (λ (id : CtcId). id.0) t.fired) ++ text_of (section_described m number t.section))) many
    ∙ ap (λ (l : List ℕ). line_text (kind.Fires number (length t.fired)) ++ (l ++ text_of (section_described m number t.section))) (flat_map-map fire_text (λ (id : CtcId). id.0) t.fired)
    ∙ ap (λ (l : List ℕ). line_text (kind.Fires number (length t.fired)) ++ (flat_map (λ (id : CtcId). fire_text id.0) t.fired ++ l)) same
    ∙ sym (append_assoc (line_text (kind.Fires number (length t.fired))) (flat_map (λ (id : CtcId). fire_text id.0) t.fired) (texts.text_of m false number t.section))

-- the numbers fit a line
numbers-fit : (ids : List CtcId) → All (λ (id : CtcId). id.0 < 4000000000) ids → AllByRecursion IsNumber (map (λ (id : CtcId). id.0) ids)
numbers-fit [] h = tt
numbers-fit (id ∷ ids) h = (omega (arith, h 0 id (omega arith)), numbers-fit ids (λ k d l. h (suc k) d (omega (arith, l))))

one-traced : (m : Mission) (first number : ℕ) (box : Option (List Span)) (t : TracedPart) → AreFirings m first box t → IsSection (section_described m number t.section) → IsTracedSection (section_traced m number t)
one-traced m first number box t fires is = record {
  few = omega (arith, fires.few, length-map t.fired (λ (id : CtcId). id.0));
  fired = numbers-fit t.fired fires.numbers;
  section = is;
}

-- the sections from a place on
from : SectionsAreRead → (m : Mission) (all ts : List TracedPart) (i first : ℕ) (box : Option (List Span)) → IsMission m → AreSections m most_firings (sections_in all) → FiringsGoOn m first box ts
    → ((k : ℕ) (d : Section) → slice_get (sections_in ts) k ≡ Some d → slice_get (sections_in all) (i + k) ≡ Some d)
    → AllByRecursion IsTracedSection (traced_sections m (i + 1) ts) × (flat_map section_text (traced_sections m (i + 1) ts) ≡ traced_from m (i + 1) ts)
from read m all [] i first box is sections fires stand = (tt, refl)
from read m all (t ∷ ts) i first box is sections fires stand =
    let zero-on : i + 0 ≡ i = omega arith in
    let here : slice_get (sections_in all) i ≡ Some t.section = subst (λ (k : ℕ). slice_get (sections_in all) k ≡ Some t.section) zero-on (stand 0 t.section refl) in
    let one = read m most_firings (sections_in all) i t.section is sections here in
    let rest = from read m all ts (i + 1) t.section.upto t.section.box is sections fires.1
    (λ k d e. let next : i + suc k ≡ i + 1 + k = omega arith in subst (λ (n : ℕ). slice_get (sections_in all) n ≡ Some d) next (stand (suc k) d e)) in (
      (one-traced m first (i + 1) box t fires.0 one.0, rest.0),
      ap (λ (l : List ℕ). l ++ flat_map section_text (traced_sections m (i + 1 + 1) ts)) (one-text m (i + 1) t one.1) ∙ ap (λ (l : List ℕ). traced_text m (i + 1) t ++ l) rest.1,
    )

pub sections-bundled : SectionsAreRead → SectionsAreBundled
sections-bundled read m ts is sections fires = from read m ts ts 0 0 (Some []) is sections fires (λ k d e. let same : 0 + k ≡ k = omega arith in subst (λ (n : ℕ). slice_get (sections_in ts) n ≡ Some d) (sym same) e)
