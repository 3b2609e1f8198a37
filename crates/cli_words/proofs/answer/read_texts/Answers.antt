use Rattle.std.proofs.Common.{◌∙◌, ap, sym, map, subst}
use Rattle.clap.specs.Faults.{fault_of, is_simple_and_free}
use Rattle.clap.specs.Kinds.{HasKind}
use Rattle.clap.specs.Matches.{found_of}
use Rattle.clap.specs.Simple.{App, is_simple, matches_of}
use Rattle.clap.specs.Walk.{rows_of}
use Rattle.cli_words.proofs.Refusals.{asked_refused, asked_taken, is_free, is_plain}
use Rattle.cli_words.proofs.answer.read_texts.Goals as goal

pub returns-in-Ok-clause-asked : goal.returns-in-Ok-clause-asked
returns-in-Ok-clause-asked g c =
    let words = map g.S.AsStr.text c.args.texts.now in
    let app = c.in_ok-command.ensures in
    let none = sym (ap (λ (a : App). fault_of a words) app) ∙ c.in-Ok.ensures.kinds (ap is_simple_and_free app ∙ is_free) in
    let rows = (c.in-Ok.ensures.matches (ap is_simple app ∙ is_plain)).0 ∙ ap (λ (a : App). matches_of a words) app in
    c.asked_by.ensures.asked ∙ asked_taken words (rows_of (found_of c.in-Ok.matches)) none rows

pub returns-clause-asked : goal.returns-clause-asked
returns-clause-asked g c =
    let words = map g.S.AsStr.text c.args.texts.now in
    let app = c.in_ok-command.ensures in
    let has = subst (λ (a : App). HasKind (fault_of a words) c.in-Err.error) app (c.in-Err.ensures.kinds (ap is_simple_and_free app ∙ is_free)) in
    asked_refused words c.in-Err.error (λ e. c.in_default.not-OutOfMemory (c.kind-kind.ensures ∙ e)) has
