use Rattle.std.proofs.Common.{◌+◌, ◌<◌, ◌≤◌, Option, IfSome, length, sym, subst, ◌∙◌}
use Rattle.slice_gates.specs.declared.near.Near.{Near}
use Rattle.ctc_eval.specs.Clock.{cells_of}
use Rattle.ctc_eval.specs.Evals.{variable_at}
use Rattle.ctc_eval.proofs.Covering.{covers}
use Rattle.ctc_eval.proofs.eval.EvalCtc.stretch.Goals as goal

pub returns-clause-covers : goal.returns-clause-covers
returns-clause-covers c =
    let s = c.args.store.now in
    let me = c.args.self.now in
    let is = c.requires.found in
    let there = c.in_ok-near.was in
    covers s.shape.grid c.known.ensures.shape.grid me.declared (variable_at s.shape (cells_of s.box) me.t.0) c.in_ok-near.near c.in_ok-ticks.ticks (sym there ∙ is.value) (sym c.in_ok-ticks.ensures.value)
    (subst (λ (o : Option Near). IfSome o (λ n. n.first ≤ n.last)) there is.order) (subst (λ (o : Option Near). IfSome o (λ n. n.last + 1 < length s.shape.grid)) there is.among)
