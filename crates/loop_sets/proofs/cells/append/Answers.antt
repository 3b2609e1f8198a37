use Rattle.std.proofs.Common.{◌≡◌, length, rules, List, subst, IsTrue, ◌↔◌}
use Rattle.tplane_paver.specs.declared.runs.Run.{Run}
use Rattle.loop_sets.specs.CellRuns.{JoinsLast}
use Rattle.loop_sets.proofs.Merging.{wide-at, clear-of, pushed-order}
use Rattle.loop_sets.proofs.cells.append.Goals as goal

pub returns-then-joined-clause-pairs : goal.returns-then-joined-clause-pairs
returns-then-joined-clause-pairs c =
    let tells = subst (λ (runs : List Run). IsTrue c.joins_last-joined.result ↔ JoinsLast runs c.args.run) c.deref.ensures.value c.joins_last-joined.ensures in
    let len : c.len-n.result ≡ length c.args.runs.now.items = search rules in
    wide-at c.args.runs.now.items c.args.run c.len-n.result c.index_mut.result.now c.index.result.now c.max-last.result c.requires.some c.requires.order c.requires.later len
    (tells.0 c.if-joined.true) c.index_mut.ensures.value c.index.ensures c.max-last.ensures

pub returns-clause-order : goal.returns-clause-order
returns-clause-order c =
    let tells = subst (λ (runs : List Run). IsTrue c.joins_last-joined.result ↔ JoinsLast runs c.args.run) c.deref.ensures.value c.joins_last-joined.ensures in
    rw c.in_ok-push.ensures.items (pushed-order c.args.runs.now.items c.args.run c.requires.some c.requires.order c.requires.later (clear-of c.args.runs.now.items c.args.run c.joins_last-joined.result tells c.if-joined.false))
