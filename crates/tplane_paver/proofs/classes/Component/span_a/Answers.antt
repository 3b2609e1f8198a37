use Rattle.std.proofs.Common.{◌≡◌, List, length, rules, subst}
use Rattle.tplane_paver.specs.Components.{SpansA}
use Rattle.tplane_paver.specs.declared.runs.Run.{Run}
use Rattle.tplane_paver.proofs.Spans.{spans-ends}
use Rattle.tplane_paver.proofs.classes.Component.span_a.Goals as goal

pub returns : goal.returns
returns c =
    let len : c.len.result ≡ length c.self.inside.runs.items = search rules in
    subst (λ (runs : List Run). SpansA runs c.index.result.now.a c.index-2.result.now.a) c.self.view_is
    (spans-ends c.self.inside.runs.items c.index.result.now c.index-2.result.now c.len.result c.self.invariant.0 c.self.invariant.1 len c.index.ensures c.index-2.ensures)
