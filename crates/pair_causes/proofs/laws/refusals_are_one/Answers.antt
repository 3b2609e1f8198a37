use Rattle.std.proofs.Common.{◌≡◌, ℕ, Option, None, Some, sym, ap, ◌∙◌, ⊎_elim}
use Rattle.std.proofs.lemmas.Bool.{cases_order}
use Rattle.mission_items.specs.declared.mission.Mission.{Mission}
use Rattle.pair_form.specs.Forms.{SourceForm}
use Rattle.pair_causes.specs.Causes.{cause_number}
use Rattle.pair_causes.specs.Judged.{IsRefusedBy}
use Rattle.pair_causes.specs.Sentences.{place_of}
use Rattle.pair_causes.specs.declared.cause.PairCause.{PairCause}
use Rattle.pair_causes.proofs.Lowest.{numbers-apart}
use Rattle.pair_causes.proofs.laws.refusals_are_one.Goals as goal

some-none : (o : Option ℕ) (n : ℕ) → o ≡ Some n → o ≡ None → ⊥
some-none o n e f = cc

one-cause : (first second : Mission) (form : SourceForm) (a b : ℕ) (c d : PairCause) → IsRefusedBy first second form a c → IsRefusedBy first second form b d → c ≡ d
one-cause first second form a b c d r s =
    ⊎_elim (λ same. numbers-apart c d same)
    (⊎_elim (λ below. absurd (some-none (place_of first second form c) a r.holds (s.lowest c below))) (λ above. absurd (some-none (place_of first second form d) b s.holds (r.lowest d above))))
    (cases_order (cause_number c) (cause_number d))

pub returns : goal.returns
returns c = λ first second form at cause r. record {
  same_cause = λ other d s. one-cause first second form at other cause d r s;
  same_place = λ other d s.
      let here : Some at ≡ Some other = sym r.holds ∙ (ap (place_of first second form) (one-cause first second form at other cause d r s) ∙ s.holds) in cc;
  not_accepted = λ free. some-none (place_of first second form cause) at r.holds (free cause);
}
