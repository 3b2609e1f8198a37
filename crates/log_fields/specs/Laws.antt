-- What is true of the fields of every record.
use Rattle.std.specs.Prelude.{◌≡◌}
use Rattle.csv_rows.specs.Records.{Record}
use Rattle.log_spelling.specs.declared.kind.Kind.TheVariants as kind
use Rattle.log_fields.specs.Kinds.{at_fields, beacon_fields, bound_fields, constell_fields, cut_fields, declared_fields, delay_fields, deriv_fields, eval_fields, mission_fields, ping_fields, range3_fields, range_fields, revisit_fields, settle_fields, text_fields}
use Rattle.log_fields.specs.Sentences.{cause_in, lowest_cause}

-- of the causes that a record has by itself the lowest is told, and none where it has none
pub record LowestIsTold (r : Record) : Type 0 where
  pub mission : cause_in (mission_fields r) ≡ lowest_cause kind.Mission r
  pub cut : cause_in (cut_fields r) ≡ lowest_cause kind.Cut r
  pub signal : cause_in (declared_fields r) ≡ lowest_cause kind.Signal r
  pub variable : cause_in (declared_fields r) ≡ lowest_cause kind.Variable r
  pub beacon : cause_in (beacon_fields r) ≡ lowest_cause kind.Beacon r
  pub deriv : cause_in (deriv_fields r) ≡ lowest_cause kind.Deriv r
  pub bound : cause_in (bound_fields r) ≡ lowest_cause kind.Bound r
  pub at : cause_in (at_fields r) ≡ lowest_cause kind.At r
  pub eval : cause_in (eval_fields r) ≡ lowest_cause kind.Eval r
  pub delay : cause_in (delay_fields r) ≡ lowest_cause kind.Delay r
  pub range : cause_in (range_fields r) ≡ lowest_cause kind.Range r
  pub range3 : cause_in (range3_fields r) ≡ lowest_cause kind.Range3 r
  pub constell : cause_in (constell_fields r) ≡ lowest_cause kind.Constell r
  pub ping : cause_in (ping_fields r) ≡ lowest_cause kind.Ping r
  pub expr : cause_in (text_fields r) ≡ lowest_cause kind.Expr r
  pub exprv : cause_in (text_fields r) ≡ lowest_cause kind.Exprv r
  pub revisit : cause_in (revisit_fields r) ≡ lowest_cause kind.Revisit r
  pub settle : cause_in (settle_fields r) ≡ lowest_cause kind.Settle r

abbrev pub LowestCausesAreTold : Type 0
LowestCausesAreTold = (r : Record) → LowestIsTold r
