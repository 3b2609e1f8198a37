-- The cause that a refused log tells is the lowest of the first record that has one.
use Rattle.std.proofs.Common.{◌≡◌, ℕ, suc, List, Option, Some, None, Err, sym, ◌∙◌}
use Rattle.csv_rows.specs.Records.{Record, records_of}
use Rattle.log_fields.specs.declared.fault.Cause.{Cause}
use Rattle.mission_log.specs.Laws.{IsFirstCause}
use Rattle.mission_log.specs.Log.{log_of}
use Rattle.mission_log.proofs.Told.{first_is_told}
use Rattle.log_causes.specs.Laws.{IsLowest, judged}
use Rattle.log_causes.specs.Sentences.{lowest_cause_after, taken}
use Rattle.log_causes.proofs.Judging.{records_judged}

judged_cause : {A : Type 0} (o : Option Cause) (x : A) (c : Cause) → judged o x ≡ Err c → o ≡ Some c
judged_cause None x c h = cc h
judged_cause (Some d) x c h = cc h

lowest_of : (rs : List Record) (number : ℕ) (cause : Cause) → IsFirstCause rs number cause → IsLowest rs number cause
lowest_of rs number cause f = record {
  before = f.before;
  makes = f.taken;
  refused = f.refused;
  others = f.others;
  stands = f.stands;
  lowest = judged_cause (lowest_cause_after f.before f.refused) (taken f.before f.refused) cause (sym (records_judged f.before f.refused) ∙ f.finds);
}

pub lowest_told : (log : List ℕ) (number : ℕ) (cause : Cause) → log_of log ≡ Err (suc number, cause) → IsLowest (records_of log) number cause
lowest_told log number cause h = lowest_of (records_of log) number cause (first_is_told log number cause h)
