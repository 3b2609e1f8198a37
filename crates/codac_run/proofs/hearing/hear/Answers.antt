use Rattle.std.proofs.Common.{Some, sym, ap, ◌∙◌}
use Rattle.mission_log.specs.Log.{log_of}
use Rattle.codac_run.specs.Hearing.{judged}
use Rattle.codac_run.proofs.hearing.hear.Goals as goal

pub returns-in-Ok-read_log-clause-gives : goal.returns-in-Ok-read_log-clause-gives
returns-in-Ok-read_log-clause-gives g c = (
  (c.in-Ok.ensures.whole, c.in-Ok.ensures.taken.2),
  c.lowest_is_told.ensures.first c.in-Ok.bytes.items,
  ap judged (sym (ap log_of c.as_slice.ensures.value) ∙ c.in-Ok-read_log.ensures.log),
)

pub returns-in-Err-Bad-clause-gives : goal.returns-in-Err-Bad-clause-gives
returns-in-Err-Bad-clause-gives g c =
    let log = rw c.in-Err-Bad.field-0-is at c.in-Err-Bad.ensures.log in (
      Some c.in-Ok.bytes.items,
      (c.in-Ok.ensures.whole, c.in-Ok.ensures.taken.2),
      c.lowest_is_told.ensures.first c.in-Ok.bytes.items,
      ap judged (sym (ap log_of c.as_slice.ensures.value) ∙ log),
    )
