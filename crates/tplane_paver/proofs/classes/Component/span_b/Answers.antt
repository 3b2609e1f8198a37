use Rattle.std.proofs.Common.{List, subst}
use Rattle.tplane_paver.specs.Components.{SpansB}
use Rattle.tplane_paver.specs.declared.runs.Run.{Run}
use Rattle.tplane_paver.proofs.Spans.{spans-lent}
use Rattle.tplane_paver.proofs.classes.Component.span_b.Goals as goal

pub returns : goal.returns
returns c =
    subst (λ (runs : List Run). SpansB runs c.least_first.result c.greatest_last.result) c.self.view_is
    (spans-lent c.self.inside.runs.items c.deref.result.now c.deref-2.result.now c.least_first.result c.greatest_last.result c.self.invariant.0 c.deref.ensures.value c.deref-2.ensures.value
    c.least_first.ensures.low c.least_first.ensures.there c.greatest_last.ensures.high c.greatest_last.ensures.there)
