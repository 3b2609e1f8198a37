-- The ticks of a pair of a set lie in the spans that are printed of the set.
use Rattle.std.proofs.Common.{◌≡◌, ℕ, ◌<◌, List, [], ◌∷◌, Some, None, arith, length}
use Rattle.std.proofs.lemmas.List.{length-map}
use Rattle.tplane_paver.specs.declared.runs.Run.{Run}
use Rattle.tplane_paver.specs.Runs.{InRuns}
use Rattle.tplane_paver.specs.Components.{set_at, AreComponents}
use Rattle.loop_report.specs.declared.found.Found.{Found}
use Rattle.loop_report.proofs.Ends.{printed_ticks_are_ends}
use Rattle.mission_loops.specs.Findings.{IsInSpans, sets_in}
use Rattle.mission_loops.specs.Laws.{SpansLaw}

in-spans : (runs : List Run) (sets : List (List Run)) → AreComponents runs sets → (i a b : ℕ) → i < length sets → InRuns (set_at sets i) a b → IsInSpans (set_at sets i) a b
in-spans runs sets are i a b inside there =
    let ends = printed_ticks_are_ends (set_at sets i) (are.ordered i inside) (are.some i inside) in record {
      least_a = ends.0.low a b there;
      greatest_a = ends.0.high a b there;
      least_b = ends.1.low a b there;
      greatest_b = ends.1.high a b there;
    }

no-set : (sets : List Found) (i : ℕ) → Some sets ≡ Some [] → i < length sets → ⊥
no-set [] i e l = omega (arith, l)
no-set (f ∷ sets) i e l = cc e

pub spans-law : SpansLaw
spans-law grid items box q None told = tt
spans-law grid items None q (Some sets) told = λ w says a b r.
    let h = told.possible w says a b r in
    absurd (no-set sets h.0 told.over h.1)
spans-law grid items (Some xs) q (Some sets) told = λ w says a b r.
    let h = told.possible w says a b r in
    let are = told.over.1 in
    let inside : h.0 < length (sets_in sets) = omega (arith, h.1, length-map sets (λ (f : Found). f.set)) in
    (h.0, h.1, in-spans are.runs (sets_in sets) are.components h.0 a b inside h.2)
