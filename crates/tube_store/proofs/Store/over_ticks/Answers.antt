use Rattle.std.proofs.Common.{◌+◌, ◌-◌, ℕ, sym, subst}
use Rattle.tube_spec.specs.Span.{IsBounded}
use Rattle.tube_spec.specs.Box.{AreBounded}
use Rattle.tube_spec.specs.Tick.{tick_place}
use Rattle.tube_store.proofs.OverTicks.{join_over-bounded}
use Rattle.tube_store.proofs.Store.over_ticks.Goals as goal

pub returns-clause-bounded : goal.returns-clause-bounded
returns-clause-bounded c =
    subst (IsBounded 500000000) (sym c.hull_between-hull.ensures)
    (join_over-bounded c.deref.result.now (λ (k : ℕ). c.index-base.result.now + tick_place c.self.inside.grid k) c.args.first (c.args.last - c.args.first) (subst AreBounded (sym c.deref.ensures.value) c.self.invariant.bounded))
