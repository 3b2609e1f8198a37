-- What findings are asked of, and what is kept for all sets of a query.
use Rattle.std.specs.Prelude.{◌≡◌, ℕ, ◌+◌, ◌≤◌, IsSome, IfSome, List, length, map, ℤ}
use Rattle.std.specs.List.{range_with_len}
use Rattle.tube_spec.specs.Limits.{most_ticks}
use Rattle.tube_spec.specs.Span.{Span}
use Rattle.tube_spec.specs.Grid.{last_tick}
use Rattle.tube_spec.specs.Box.{AreBounded}
use Rattle.tube_spec.specs.Tick.{at_tick}
use Rattle.tube_store.specs.State.{State}
use Rattle.tube_names.specs.declared.queries.Query.{Query}
use Rattle.hull_tree.specs.Asked.{IsAsked}
use Rattle.hull_tree.specs.Plane.{tube_of}
use Rattle.loop_degree.specs.Steps.{step_of, greatest_in}
use Rattle.loop_sets.specs.Bounds.{AreSteps}

-- a store, a query of its signals, and the rates of both
pub record Asking : Type 0 where
  pub store : State
  pub query : Query
  pub rates_x : List ℕ
  pub rates_y : List ℕ

-- these are the greatest steps of a signal with these rates from each tick to the next
pub record AreStepsOf (store : State) (x : ℕ) (rates : List ℕ) (steps : List ℤ) : Type 0 where
  pub made : IfSome store.box (λ xs. steps ≡ map (λ k. greatest_in (step_of (at_tick store.shape xs) x rates k)) (range_with_len 0 (last_tick store.shape.grid)))
  pub len : length steps ≡ last_tick store.shape.grid
  pub small : AreSteps steps

-- this is what a store gives a signal at each tick
pub record IsTubeOf (store : State) (x : ℕ) (ticks : List Span) : Type 0 where
  pub tube : IfSome store.box (λ xs. ticks ≡ tube_of store.shape xs x)
  pub len : length ticks ≡ last_tick store.shape.grid + 1
  pub bounded : AreBounded ticks

-- Of a store that is not empty, the tubes of both signals of a query, and their greatest steps.
pub record IsReady (p : Asking) (x y : List Span) (us vs : List ℤ) : Type 0 where
  pub filled : IsSome p.store.box
  pub asked : IsAsked (length p.store.shape.signals) p.query
  pub short : last_tick p.store.shape.grid ≤ most_ticks
  pub tube_x : IsTubeOf p.store p.query.x.0 x
  pub tube_y : IsTubeOf p.store p.query.y.0 y
  pub steps_x : AreStepsOf p.store p.query.x.0 p.rates_x us
  pub steps_y : AreStepsOf p.store p.query.y.0 p.rates_y vs
