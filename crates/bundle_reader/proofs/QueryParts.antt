-- The parts of a query's text.
use Rattle.std.proofs.Common.{◌≡◌, ℕ, List, ◌++◌, refl, sym, ap, ap₂, ◌∙◌, append_assoc, codes, Option, Some, None, IfSome}
use Rattle.std.proofs.lemmas.Bool.{eqb-false}
use Rattle.bundle_text.specs.Bundles.{AreTracedSets, IsNumber, IsTracedQuery, query_text, told_text}
use Rattle.bundle_text.specs.declared.bundle.TracedQuery.{TracedQuery}
use Rattle.bundle_text.specs.declared.bundle.TracedSet.{TracedSet}
use Rattle.loop_report.specs.Loops.{crowded_line, done_line, sets_line}
use Rattle.bundle_reader.specs.Fronts.{Anything, IsInFront, NoneInFront}
use Rattle.bundle_reader.specs.Parts.{count_text}
use Rattle.bundle_reader.specs.Sets.{AfterSet, told_sets}
use Rattle.bundle_reader.proofs.Fronts.{Parts, behind, joined}

abbrev AreTold : Option (List TracedSet) → Type 0
AreTold sets = IfSome sets AreTracedSets

-- ---- a query

abbrev behind_number : TracedQuery → List ℕ
behind_number q = told_sets q.sets ++ done_line q.number

told_parted : (number : ℕ) (sets : Option (List TracedSet)) → told_text number sets ≡ count_text (codes "loops ") 32 number ++ told_sets sets
unfolding crowded_line sets_line
told_parted number None = simp append_assoc
told_parted number (Some sets) = simp append_assoc

pub number_parts : Parts (count_text (codes "loops ") 32) IsNumber Anything query_text IsTracedQuery Anything (λ q. q.number) behind_number
number_parts = record {
  parted = λ q s.
      let whole : query_text q ≡ count_text (codes "loops ") 32 q.number ++ behind_number q =
      ap (λ (t : List ℕ). t ++ done_line q.number) (told_parted q.number q.sets) ∙ append_assoc (count_text (codes "loops ") 32 q.number) (told_sets q.sets) (done_line q.number) in
      ap (λ (t : List ℕ). t ++ s) whole ∙ append_assoc (count_text (codes "loops ") 32 q.number) (behind_number q) s;
  right = λ q h. h.number;
  before = λ q s h k. tt;
}

done_after : (n : ℕ) (s : List ℕ) → AfterSet (done_line n ++ s)
unfolding done_line
done_after n s = (λ e. eqb-false 100 114 refl e, λ e. eqb-false 100 99 refl e)

pub sets_parts : Parts told_sets AreTold AfterSet behind_number IsTracedQuery Anything (λ q. q.sets) (λ q. done_line q.number)
sets_parts = record { parted = λ q s. append_assoc (told_sets q.sets) (done_line q.number) s; right = λ q h. h.sets; before = λ q s h k. done_after q.number s }

module _ (bytes : List ℕ) (number : ℕ) (from_sets : List ℕ) (h : IsInFront (count_text (codes "loops ") 32) IsNumber Anything bytes number from_sets)
    (sets : Option (List TracedSet)) (from_done : List ℕ) (i : IsInFront told_sets AreTold AfterSet from_sets sets from_done) where
  two_parts : (w : TracedQuery) (s : List ℕ) → IsTracedQuery w → query_text w ++ s ≡ bytes → (w.number ≡ number) × (w.sets ≡ sets) × (count_text (codes "done ") 10 w.number ++ s ≡ from_done)
  unfolding done_line
  two_parts w s q e =
      let first = behind number_parts bytes number from_sets h w s q tt e in
      let second = behind sets_parts from_sets sets from_done i w s q tt first.1 in
      (first.0, second.0, second.1)

  pub no_done : NoneInFront (count_text (codes "done ") 10) IsNumber Anything from_done → NoneInFront query_text IsTracedQuery Anything bytes
  no_done none w s q k e = none w.number s q.number tt (two_parts w s q e).2

  module _ (done : ℕ) (rest : List ℕ) (j : IsInFront (count_text (codes "done ") 10) IsNumber Anything from_done done rest) where
    pub other_done : (done ≡ number → ⊥) → NoneInFront query_text IsTracedQuery Anything bytes
    other_done none w s q k e = let p = two_parts w s q e in none (sym (j.only w.number s q.number tt p.2).0 ∙ p.0)

    abbrev query : TracedQuery
    query = record { number = number; sets = sets }

    done_there : done ≡ number → done_line number ++ rest ≡ from_done
    unfolding done_line
    done_there e = sym (ap (λ (n : ℕ). count_text (codes "done ") 10 n ++ rest) e) ∙ j.whole

    pub query_here : done ≡ number → IsInFront query_text IsTracedQuery Anything bytes query rest
    query_here e = record {
      right = let r : IsTracedQuery query = record { number = h.right; sets = i.right } in r;
      whole = joined number_parts bytes number from_sets h query rest refl (joined sets_parts from_sets sets from_done i query rest refl (done_there e));
      only = λ w s q k d.
          let p = two_parts w s q d in
          (ap₂ (λ n o. let x : TracedQuery = record { number = n; sets = o } in x) p.0 p.1, (j.only w.number s q.number tt p.2).1);
    }
