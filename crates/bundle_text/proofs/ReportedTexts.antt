-- What a bundle has of a query is what the report of loops has of it.
use Rattle.std.proofs.Common.{◌≡◌, ℕ, ◌+◌, false, List, [], ◌∷◌, ◌++◌, length, refl, sym, ap, ap₂, ◌∙◌, append_assoc, flat_map, map, Some, None}
use Rattle.std.proofs.lemmas.List.{append-nil, length-map}
use Rattle.loop_report.specs.Loops as report
use Rattle.loop_report.specs.declared.found.Found.{Found}
use Rattle.tube_report.specs.Lines.{line}
use Rattle.bundle_text.specs.Bundles.{cell_text, corner_text, set_text, sets_text}
use Rattle.bundle_text.specs.Laws.{QueriesAreReported, SetsAreReported, told_of}
use Rattle.bundle_text.specs.declared.bundle.TracedSet.{TracedSet}

pub sets_are_reported : SetsAreReported
sets_are_reported n found cells corners =
    let front = report.set_front n found.set in
    let words = line (report.finding_words found.finding) in
    let runs = flat_map report.run_line found.set in
    let proofs = flat_map cell_text cells ++ flat_map corner_text corners in
    append_assoc front words (runs ++ proofs)
    ∙ (ap (λ (t : List ℕ). front ++ t) (sym (append_assoc words runs proofs)) ∙ sym (append_assoc front (words ++ runs) proofs))

-- a set as the report tells of it
abbrev bare : Found → TracedSet
bare found = told_of found [] []

bare_text : (n : ℕ) (found : Found) → set_text n (bare found) ≡ report.set_text false n found
bare_text n found = sets_are_reported n found [] [] ∙ append-nil (report.set_text false n found)

bare_texts : (n : ℕ) (sets : List Found) → sets_text n (map bare sets) ≡ report.sets_text false n sets
bare_texts n [] = refl
bare_texts n (found ∷ sets) = ap₂ (λ a b. a ++ b) (bare_text n found) (bare_texts (n + 1) sets)

pub queries_are_reported : QueriesAreReported
queries_are_reported n None = refl
queries_are_reported n (Some sets) =
    append_assoc (report.sets_line n (length (map bare sets))) (sets_text 1 (map bare sets)) (report.done_line n)
    ∙ ap₂ (λ a b. a ++ (b ++ report.done_line n)) (ap (report.sets_line n) (length-map sets bare)) (bare_texts 1 sets)
