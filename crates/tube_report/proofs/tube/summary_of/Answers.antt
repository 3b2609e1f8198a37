use Rattle.std.proofs.Common.{◌≡◌, ◌+◌, ◌*◌, [], arith, ap, ◌∙◌, unwrap_or}
use Rattle.tube_spec.specs.Box.{cell_at}
use Rattle.tube_spec.specs.Span.{Span, join_of}
use Rattle.tube_report.specs.Sections.{tube_cell}
use Rattle.tube_report.proofs.Summaries.{range_more, sum_more, width-small}
use Rattle.tube_report.proofs.tube.summary_of.Goals as goal

pub overflow_add-sum : goal.overflow_add-sum
overflow_add-sum c = omega (arith, width-small c.held-envelope.result c.held-envelope.ensures.bounded, width-small c.held-gate.result c.held-gate.ensures.bounded)

pub overflow_add-sum-in-loop-i : goal.overflow_add-sum-in-loop-i
overflow_add-sum-in-loop-i c = omega (arith, width-small c.held-envelope.result c.held-envelope.ensures.bounded, width-small c.held-gate.result c.held-gate.ensures.bounded)

pub loop-i-preserved : goal.loop-i-preserved
loop-i-preserved c =
    let cells = tube_cell c.args.store.now.shape (unwrap_or c.args.store.now.box []) c.args.signal.0 in
    let envelope : c.held-envelope.result ≡ cells (2 * c.loop-i.i + 1) =
    c.held-envelope.ensures.value ∙ ap (cell_at (unwrap_or c.args.store.now.box [])) (omega arith) in
    let gate : c.held-gate.result ≡ cells (2 * c.loop-i.i + 2) =
    c.held-gate.ensures.value ∙ ap (cell_at (unwrap_or c.args.store.now.box [])) (omega arith) in
    record {
      range = c.hull-range.ensures.value ∙ (ap (λ (s : Span). join_of s c.held-gate.result) c.hull.ensures.value
          ∙ range_more cells c.loop-i.i c.loop-i.range c.held-envelope.result c.held-gate.result c.loop-i.invariant.range envelope gate);
      sum = omega (arith, sum_more cells c.loop-i.i c.loop-i.sum c.held-envelope.result c.held-gate.result c.loop-i.invariant.sum envelope gate);
      small = omega (arith, width-small c.held-envelope.result c.held-envelope.ensures.bounded, width-small c.held-gate.result c.held-gate.ensures.bounded);
    }
