-- The parts of a bundle's text.
use Rattle.std.proofs.Common.{arith, ◌≡◌, ◌≢◌, ℕ, ◌==◌, true, false, List, [], ◌∷◌, ◌++◌, length, refl, sym, ap, ap₂, ◌∙◌, subst, codes, flat_map}
use Rattle.std.specs.List.{AllByRecursion}
use Rattle.std.proofs.lemmas.Bool.{eqb-false, eqb-true}
use Rattle.std.proofs.lemmas.List.{append-nil}
use Rattle.bundle_text.specs.Bundles.{IsBundle, IsNumber, IsTracedQuery, IsTracedSection, bundle_text, query_text, section_text}
use Rattle.bundle_text.specs.Lines.{bundle_line}
use Rattle.bundle_text.specs.declared.bundle.Bundle.{Bundle}
use Rattle.bundle_text.specs.declared.bundle.TracedQuery.{TracedQuery}
use Rattle.bundle_text.specs.declared.bundle.TracedSection.{TracedSection}
use Rattle.bundle_text.proofs.SectionTexts.{section_byte}
use Rattle.bundle_text.proofs.SetTexts.{query_byte}
use Rattle.bundle_text.proofs.Splitting.{byte_of, fronts_same}
use Rattle.bundle_reader.specs.Fronts.{Anything, IsInFront, NoneInFront}
use Rattle.bundle_reader.specs.Parts.{count_text}
use Rattle.bundle_reader.proofs.SetParts.{other_front}

-- what follows the log
abbrev behind_log : Bundle → List ℕ
behind_log b = flat_map section_text b.sections ++ flat_map query_text b.queries

-- no section begins where the queries stand, and no query at the end
no_section : (qs : List TracedQuery) → NoneInFront section_text IsTracedSection Anything (flat_map query_text qs)
no_section qs = other_front section_text IsTracedSection 102 section_byte (flat_map query_text qs) (of qs)
  where
    of : (ps : List TracedQuery) → byte_of (flat_map query_text ps) ≡ 102 → ⊥
    of [] e = eqb-false 0 102 refl e
    of (p ∷ ps) e = eqb-false 108 102 refl (sym (query_byte p (flat_map query_text ps)) ∙ e)

no_query : NoneInFront query_text IsTracedQuery Anything []
no_query = other_front query_text IsTracedQuery 108 query_byte [] (λ e. eqb-false 0 108 refl e)

abbrev NoBundle : List ℕ → Type 0
NoBundle bytes = (b : Bundle) → IsBundle b → bundle_text b ≢ bytes

size_there : (bytes : List ℕ) (b : Bundle) → bundle_text b ≡ bytes → count_text (codes "bundle ") 10 (length b.log) ++ (b.log ++ 10 ∷ behind_log b) ≡ bytes
unfolding bundle_line
size_there bytes b e = e

pub no_size : (bytes : List ℕ) → NoneInFront (count_text (codes "bundle ") 10) IsNumber Anything bytes → NoBundle bytes
no_size bytes none b h e = none (length b.log) (b.log ++ 10 ∷ behind_log b) h.size tt (size_there bytes b e)

module _ (bytes : List ℕ) (size : ℕ) (from_log : List ℕ) (h : IsInFront (count_text (codes "bundle ") 10) IsNumber Anything bytes size from_log) where
  log_there : (b : Bundle) → IsBundle b → bundle_text b ≡ bytes → (length b.log ≡ size) × (b.log ++ 10 ∷ behind_log b ≡ from_log)
  log_there b q e = h.only (length b.log) (b.log ++ 10 ∷ behind_log b) q.size tt (size_there bytes b e)

  pub no_log : ((log rest : List ℕ) → length log ≡ size → log ++ 10 ∷ rest ≢ from_log) → NoBundle bytes
  no_log none b q e = let p = log_there b q e in none b.log (behind_log b) p.0 p.1

  module _ (log from_sections : List ℕ) (counted : length log ≡ size) (i : log ++ 10 ∷ from_sections ≡ from_log)
      (sections : List TracedSection) (from_queries : List ℕ) (j : IsInFront (flat_map section_text) (AllByRecursion IsTracedSection) (NoneInFront section_text IsTracedSection Anything) from_sections sections from_queries)
      (queries : List TracedQuery) (rest : List ℕ) (k : IsInFront (flat_map query_text) (AllByRecursion IsTracedQuery) (NoneInFront query_text IsTracedQuery Anything) from_queries queries rest) where
    abbrev bundle : Bundle
    bundle = record { log = log; sections = sections; queries = queries }

    same : (b : Bundle) → IsBundle b → bundle_text b ≡ bytes → (b ≡ bundle) × ([] ≡ rest)
    same b q e =
        let p = log_there b q e in
        let logs = fronts_same b.log log (10 ∷ behind_log b) (10 ∷ from_sections) (p.0 ∙ sym counted) (p.1 ∙ sym i) in
        let tails : behind_log b ≡ from_sections = cc in
        let first = j.only b.sections (flat_map query_text b.queries) q.sections (no_section b.queries) tails in
        let last = k.only b.queries [] q.queries no_query (append-nil (flat_map query_text b.queries) ∙ first.1) in
        let of = λ (l : List ℕ) (ss : List TracedSection) (qs : List TracedQuery). let x : Bundle = record { log = l; sections = ss; queries = qs } in x in
        (ap (λ (l : List ℕ). of l b.sections b.queries) logs.0 ∙ ap₂ (of log) first.0 last.0, last.1)

    pub bytes_left : (length rest == 0) ≡ false → NoBundle bytes
    bytes_left some b q e = eqb-false (length rest) 0 some (ap length (sym (same b q e).1))

    bundle_there : [] ≡ rest → bundle_text bundle ≡ bytes
    unfolding bundle_line
    bundle_there e =
        let tail : flat_map query_text queries ≡ from_queries = sym (append-nil (flat_map query_text queries)) ∙ (ap (λ (t : List ℕ). flat_map query_text queries ++ t) e ∙ k.whole) in
        ap₂ (λ (n : ℕ) (t : List ℕ). count_text (codes "bundle ") 10 n ++ (log ++ 10 ∷ (flat_map section_text sections ++ t))) counted tail
        ∙ (ap (λ (t : List ℕ). count_text (codes "bundle ") 10 size ++ (log ++ 10 ∷ t)) j.whole ∙ (ap (λ (t : List ℕ). count_text (codes "bundle ") 10 size ++ t) i ∙ h.whole))

    nothing_left : (r : List ℕ) → (length r == 0) ≡ true → [] ≡ r
    nothing_left [] e = refl
    nothing_left (c ∷ cs) e = let none : length (c ∷ cs) ≡ 0 = eqb-true (length (c ∷ cs)) 0 e in absurd (omega arith)

    pub bundle_here : (length rest == 0) ≡ true → IsBundle bundle × (bundle_text bundle ≡ bytes)
    bundle_here e =
        let right : IsBundle bundle = record { size = subst IsNumber (sym counted) h.right; sections = j.right; queries = k.right } in
        (right, bundle_there (nothing_left rest e))
