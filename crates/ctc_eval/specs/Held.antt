-- What each projection of an evaluation holds, by its number in the code.
use Rattle.std.specs.Prelude.{◌≡◌, ℕ, ◌+◌, ◌<◌, ◌≤◌, List, Option, IfSome, length}
use Rattle.std.specs.Option.{option_map}
use Rattle.tube_spec.specs.Limits.{most_ticks}
use Rattle.tube_spec.specs.Span.{Span}
use Rattle.tube_spec.specs.Shape.{Shape}
use Rattle.tube_spec.specs.Projection.{Projection}
use Rattle.tube_store.specs.declared.SignalId.{SignalId}
use Rattle.ctc_eval.specs.declared.eval.Held.{Held}
use Rattle.ctc_eval.specs.declared.eval.Held.TheVariants.{Value, Time, Gate, Reached}
use Rattle.ctc_eval.specs.declared.eval.Placed.{Placed}
use Rattle.slice_gates.specs.Near.{near_of}
use Rattle.slice_gates.specs.declared.near.Near.{Near}
use Rattle.ctc_eval.specs.Evals.{EvalFits, eval_projections, value_projection, time_projection, gate_projection, reached_projection}

-- the number of a rate's signal
abbrev pub rate_of : Option SignalId → Option ℕ
rate_of rate = option_map (λ signal. signal.0) rate

-- the projection of what is held
abbrev pub projection_of : Shape → ℕ → ℕ → ℕ → Span → Held → Projection
projection_of s x t z declared Value = value_projection s x t z declared
projection_of s x t z declared Time = time_projection s x t z declared
projection_of s x t z declared (Gate gate) = gate_projection s x t z declared gate
projection_of s x t z declared (Reached rate gate) = reached_projection s x rate.0 t z declared gate

-- it names a gate, and a rate, of the shape, and a gate that it holds by the rate is one of these slices
abbrev pub IsOfShape : Shape → Option Near → Held → Type 0
IsOfShape s near Value = Unit {0}
IsOfShape s near Time = Unit {0}
IsOfShape s near (Gate gate) = gate < length s.grid
IsOfShape s near (Reached rate gate) = (gate < length s.grid) × IfSome near (λ n. (n.first ≤ gate) × (gate + 1 ≤ n.last + 2)) × (rate.0 < length s.signals)

-- these are the slices that share a tick with the range, in order and of a grid
pub record IsFound (grid : List ℕ) (range : Span) (near : Option Near) : Type 0 where
  pub value : near ≡ near_of grid range
  pub order : IfSome near (λ n. n.first ≤ n.last)
  pub few : IfSome near (λ n. n.last ≤ most_ticks)
  pub among : IfSome near (λ n. n.last + 1 < length grid)

-- the projections of an evaluation whose slices are found
abbrev pub placed_projections : Shape → Placed → List Projection
placed_projections s p = eval_projections s p.ctc.x.0 (rate_of p.ctc.rate) p.ctc.t.0 p.ctc.z.0 p.ctc.declared

-- it fits the shape, and its slices are those of the shape's grid
pub record PlacedFits (s : Shape) (p : Placed) : Type 0 where
  pub fits : EvalFits s p.ctc.x.0 (rate_of p.ctc.rate) p.ctc.t.0 p.ctc.z.0
  pub found : IsFound s.grid p.ctc.declared p.near
