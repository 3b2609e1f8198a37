-- A text is that of one bundle at most.
use Rattle.std.proofs.Common.{◌≡◌, ℕ, List, [], ◌∷◌, ◌++◌, length, refl, sym, ap, ap₂, ◌∙◌, flat_map}
use Rattle.std.proofs.lemmas.Bool.{eqb-false}
use Rattle.std.proofs.lemmas.List.{append-nil}
use Rattle.bundle_text.specs.Bundles.{IsTracedQuery, IsTracedSection, query_text, section_text}
use Rattle.bundle_text.specs.Laws.{BundlesAreOne}
use Rattle.bundle_text.specs.declared.bundle.Bundle.{Bundle}
use Rattle.bundle_text.specs.declared.bundle.TracedQuery.{TracedQuery}
use Rattle.bundle_text.specs.declared.bundle.TracedSection.{TracedSection}
use Rattle.bundle_text.proofs.LineTexts.{bundle_splits}
use Rattle.bundle_text.proofs.SectionTexts.{section_byte, section_splits}
use Rattle.bundle_text.proofs.SetTexts.{query_byte, query_splits}
use Rattle.bundle_text.proofs.Splitting.{Stops, byte_of, fronts_same, many, other_byte}

-- no section begins where the queries stand
no_section : (qs : List TracedQuery) → byte_of (flat_map query_text qs) ≡ 102 → ⊥
no_section [] e = eqb-false 0 102 refl e
no_section (q ∷ qs) e = eqb-false 108 102 refl (sym (query_byte q (flat_map query_text qs)) ∙ e)

sections_stop : (qs : List TracedQuery) → Stops section_text IsTracedSection (flat_map query_text qs)
sections_stop qs = other_byte section_text IsTracedSection 102 section_byte (flat_map query_text qs) (no_section qs)

-- and no query at the end
queries_stop : Stops query_text IsTracedQuery []
queries_stop = other_byte query_text IsTracedQuery 108 query_byte [] (λ e. eqb-false 0 108 refl e)

abbrev behind : Bundle → List ℕ
behind a = flat_map section_text a.sections ++ flat_map query_text a.queries

pub bundles_are_one : BundlesAreOne
bundles_are_one a b h k e =
    let size = bundle_splits (length a.log) (length b.log) h.size k.size (a.log ++ 10 ∷ behind a) (b.log ++ 10 ∷ behind b) e in
    let log = fronts_same a.log b.log (10 ∷ behind a) (10 ∷ behind b) size.0 size.1 in
    let rests : behind a ≡ behind b = cc in
    let sections = many section_text IsTracedSection section_splits a.sections b.sections h.sections k.sections (flat_map query_text a.queries) (flat_map query_text b.queries) (sections_stop a.queries) (sections_stop b.queries) rests in
    let queries = many query_text IsTracedQuery query_splits a.queries b.queries h.queries k.queries [] [] queries_stop queries_stop
    (append-nil (flat_map query_text a.queries) ∙ (sections.1 ∙ sym (append-nil (flat_map query_text b.queries)))) in
    let bundle_of = λ (l : List ℕ) (ss : List TracedSection) (qs : List TracedQuery). let x : Bundle = record { log = l; sections = ss; queries = qs } in x in
    ap (λ (l : List ℕ). bundle_of l a.sections a.queries) log.0 ∙ ap₂ (bundle_of b.log) sections.0 queries.0
