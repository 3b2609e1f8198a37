-- The labels of corners in a store.
use Rattle.std.specs.Prelude.{ℕ, cond, Option, Some, None, IsSome, List, length, ℤ, pos, ◌-ℤ◌, ◌≤ℤ◌}
use Rattle.std.specs.Ordering.{int_eq}
use Rattle.tube_spec.specs.Limits.{greatest_radius}
use Rattle.tube_spec.specs.Span.{Span, natural}
use Rattle.tube_names.specs.Nearness.{is_near}
use Rattle.hull_tree.specs.Asked.{HasSignals}
use Rattle.tube_spec.specs.Shape.{Shape}
use Rattle.tube_spec.specs.Tick.{at_tick}
use Rattle.tube_names.specs.declared.queries.Query.{Query}
use Rattle.loop_degree.specs.declared.labels.Label.{Label}
use Rattle.loop_prover.specs.First.{label_of}
use Rattle.loop_sets.specs.declared.turns.View.{View}

-- the labels in a box, and none in the empty one
abbrev pub label_in : Shape → Option (List Span) → Query → ℤ → ℤ → ℕ × ℕ → Option Label
label_in s None q d e p = None
label_in s (Some xs) q d e p = label_of (at_tick s xs) q d e p

abbrev pub label_by : View → ℕ × ℕ → Option Label
label_by view = label_in view.store.now.shape view.store.now.box view.query.now view.d1 view.d2

-- a store that is not empty, a query of its signals, and step bounds
pub record IsView (view : View) : Type 0 where
  pub filled : IsSome view.store.now.box
  pub signals : HasSignals (length view.store.now.shape.signals) view.query.now
  pub d1_least : pos 1 ≤ℤ view.d1
  pub d1_most : view.d1 ≤ℤ pos greatest_radius
  pub d2_least : pos 1 ≤ℤ view.d2
  pub d2_most : view.d2 ≤ℤ pos greatest_radius

-- the degree where it is not 0 and the step bounds are reached
abbrev pub tested : Query → ℤ → ℤ → Option ℤ → Option ℤ
tested q d e None = None
tested q d e (Some degree) =
    cond (int_eq degree (pos 0)) None
    (cond (is_near q.norm (natural q.radius) (natural (d -ℤ pos 1)) (natural (e -ℤ pos 1))) (Some degree) None)
