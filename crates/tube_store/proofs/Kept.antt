-- What a store's invariant says of its view.
use Rattle.std.proofs.Common.{◌≡◌, ℕ, ◌<◌, Bool, true, false, cond, Some, None, List, [], refl, sym, length, arith, All, ◌+◌, slice_index}
use Rattle.std.proofs.lemmas.Int.{ints}
use Rattle.tube_spec.specs.Span.{Span}
use Rattle.tube_spec.specs.Grid.{IsGrid}
use Rattle.tube_spec.specs.Shape.{Shape, IsShape, no_shape}
use Rattle.tube_spec.specs.Tick.{tick_place, tick_cell}
use Rattle.slice_gates.proofs.Places.{tick_place-lt}
use Rattle.tube_store.specs.State.{IsStore}
use Rattle.tube_store.specs.Kept.{IsKept}
use Rattle.tube_store.proofs.Ring.{ring-among, no-ring}

pub IsStore-kept : (shape : Shape) (cells : List Span) (marks : List Bool) (touched : List ℕ) (capacity total : ℕ) (emptied : Bool) → shape.cells ≡ length cells → IsKept shape cells marks touched capacity total
    → IsStore (record { shape = shape; box = cond emptied None (Some cells); touched = touched })
IsStore-kept shape cells marks touched capacity total emptied e kept = at emptied
  where
    among : All (λ (k : ℕ). k < shape.cells) touched
    among = λ k d l. omega (arith, ring-among marks touched capacity kept.ring k d l, kept.beside, e)

    at : (b : Bool) → IsStore (record { shape = shape; box = cond b None (Some cells); touched = touched })
    at true = record { shape = kept.layout; box = tt; bounded = tt; among = among; distinct = kept.ring.distinct }
    at false = record { shape = kept.layout; box = (kept.proper, sym e); bounded = kept.bounded; among = among; distinct = kept.ring.distinct }

-- a store with no cells
pub no-cells-kept : (grid : List ℕ) (capacity : ℕ) → IsGrid grid → IsKept (no_shape grid) [] [] [] capacity 0
no-cells-kept grid capacity is = record {
  layout = record { grid = is; few = omega arith; names = omega arith; signals = λ k d l. absurd (omega (arith, l)); vars = λ k d l. absurd (omega (arith, l)) };
  proper = λ k. omega (arith, ints);
  bounded = λ k. record { low = omega (arith, ints); high = omega (arith, ints) };
  beside = refl;
  ring = no-ring capacity;
  widths = refl;
}

-- the cell of a tick is among the cells
pub tick-among : (s : Shape) → IsShape s → (signal k : ℕ) → signal < length s.signals → tick_cell s signal k < s.cells
tick-among s is signal k l = omega (arith, is.signals signal 0 l, tick_place-lt s.grid k (omega (arith, is.grid.slices)))

-- the same of its parts, as they were read
pub parts-among : (s : Shape) (signal k first place : ℕ) → IsShape s → signal < length s.signals → first ≡ slice_index s.signals signal → place ≡ tick_place s.grid k → first + place < s.cells
parts-among s signal k first place is l e p = omega (arith, tick-among s is signal k l, e, p)
