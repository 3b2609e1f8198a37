use Rattle.std.proofs.Common.{◌+◌, ◌<◌, ◌⊎◌, inl, inr, arith, rules}
use Rattle.tube_spec.specs.Grid.{last_tick}
use Rattle.hull_tree.proofs.OnePair.{not-possible, not-sure, is-possible, is-sure}
use Rattle.hull_tree.proofs.pair.pair_of.Goals as goal
use Rattle.hull_tree.proofs.pair.pair_of.Goals.{then-b-ticks-via-then-b-ticks, then-b-ticks-via-else-b-ticks+then-from}

pub returns-then-b-ticks-clause-possible : goal.returns-then-b-ticks-clause-possible
returns-then-b-ticks-clause-possible c =
    not-possible c.args.store.now.box c.args.store.now.shape c.args.q.now c.args.a c.args.b
    (elim c.then-b-ticks.branch [ then-b-ticks-via-then-b-ticks w ↦ inl (search rules) | then-b-ticks-via-else-b-ticks+then-from w ↦ inr (search rules) ])

pub returns-then-b-ticks-clause-sure : goal.returns-then-b-ticks-clause-sure
returns-then-b-ticks-clause-sure c =
    not-sure c.args.store.now.box c.args.store.now.shape c.args.q.now c.args.a c.args.b
    (elim c.then-b-ticks.branch [ then-b-ticks-via-then-b-ticks w ↦ inl (search rules) | then-b-ticks-via-else-b-ticks+then-from w ↦ inr (search rules) ])

pub returns-clause-possible : goal.returns-clause-possible
returns-clause-possible c =
    is-possible c.args.store.now.box c.args.store.now.shape c.args.q.now c.args.a c.args.b c.change-dx.result c.change-dy.result c.least_abs.result c.least_abs-2.result c.is_close-possible.result
    (search rules) (search rules) c.change-dx.ensures.value c.change-dy.ensures.value c.least_abs.ensures.value c.least_abs-2.ensures.value c.is_close-possible.ensures

pub returns-clause-sure : goal.returns-clause-sure
returns-clause-sure c =
    is-sure c.args.store.now.box c.args.store.now.shape c.args.q.now c.args.a c.args.b c.change-dx.result c.change-dy.result c.greatest_abs.result c.greatest_abs-2.result c.is_close-sure.result
    (search rules) (search rules) c.change-dx.ensures.value c.change-dy.ensures.value c.greatest_abs.ensures.value c.greatest_abs-2.ensures.value c.is_close-sure.ensures
