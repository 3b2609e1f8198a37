use Rattle.std.proofs.Common.{◌≡◌, Ok, Err, arith, subst}
use Rattle.std.proofs.lemmas.Result.{err_from_is_err_and}
use Rattle.mission_log.specs.Log.{log_of}
use Rattle.pair_form.specs.Forms.{SourceForm}
use Rattle.pair_causes.specs.Reading.{HasMissions, IsLogRead}
use Rattle.pair_causes.specs.declared.cause.PairCause.TheVariants as cause
use Rattle.pair_causes.proofs.Reading.{judged-refused, links-few, second-refused}
use Rattle.pair_causes.proofs.read.read_both.Goals as goal

pub returns-in_err-second-clause-read : goal.returns-in_err-second-clause-read
returns-in_err-second-clause-read c =
    let first_is = subst (λ (f : SourceForm). log_of f.first ≡ Ok c.in_ok-first.first) c.form.view_is c.in_ok-first.ensures.log in
    let refused = subst (λ (f : SourceForm). IsLogRead f.second cause.SecondLog (Err c.in_err-second.field-0.0)) c.form.view_is c.in_err-second.ensures.log in
    let p = err_from_is_err_and c.from_residual-in_err-second.result c.from_residual-in_err-second.ensures.1 in
    rw (p.1, p.2) (second-refused c.args.bytes.now c.in_ok-form.form c.in_ok-first.first c.in_err-second.field-0.0 c.in_ok-form.ensures first_is refused)

pub judge-requires-clause-few_links : goal.judge-requires-clause-few_links
judge-requires-clause-few_links c = omega (arith, links-few c.args.bytes.now c.in_ok-form.form c.in_ok-form.ensures)

pub returns-in_err-links-clause-read : goal.returns-in_err-links-clause-read
returns-in_err-links-clause-read c =
    let missions : HasMissions c.args.bytes.now c.in_ok-form.form c.in_ok-first.first c.in_ok-second.second =
    record {
      says = c.in_ok-form.ensures;
      first_is = subst (λ (f : SourceForm). log_of f.first ≡ Ok c.in_ok-first.first) c.form.view_is c.in_ok-first.ensures.log;
      second_is = subst (λ (f : SourceForm). log_of f.second ≡ Ok c.in_ok-second.second) c.form.view_is c.in_ok-second.ensures.log;
    }
    in
    let p = err_from_is_err_and c.from_residual-in_err-links.result c.from_residual-in_err-links.ensures.1 in
    rw (p.1, p.2) (judged-refused c.args.bytes.now c.in_ok-form.form c.in_ok-first.first c.in_ok-second.second c.in_err-links.field-0.0 missions c.in_err-links.ensures)
