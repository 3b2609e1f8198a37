-- The definitions tried on numbers.
use Rattle.std.proofs.Common.{◌≡◌, ℕ, [], ◌∷◌, pos, refl}
use Rattle.tube_spec.specs.Span.{point}
use Rattle.hull_tree.specs.Plane.{Plane, is_possible}
use Rattle.hull_tree.specs.Judging.{judged}
use Rattle.tube_names.specs.declared.queries.Norm.TheVariants.{Maximum}
use Rattle.tplane_paver.specs.Rows.{runs_count}
use Rattle.tplane_paver.specs.Quartering.{mixed_below}
use Rattle.tplane_paver.specs.Runs.{pair_count}

-- five ticks, of which the last two go the way of the first two back
abbrev there_and_back : ℕ → Plane
there_and_back gap = record {
  xs = point (pos 0) ∷ point (pos 1) ∷ point (pos 2) ∷ point (pos 1) ∷ point (pos 0) ∷ [];
  ys = point (pos 0) ∷ point (pos 0) ∷ point (pos 0) ∷ point (pos 0) ∷ point (pos 0) ∷ [];
  radius = 0;
  gap = gap;
  norm = Maximum;
}

-- each possible pair is a run of its own
one-run : runs_count (is_possible (there_and_back 4)) 5 ≡ 1
one-run = refl

two-runs : runs_count (is_possible (there_and_back 2)) 5 ≡ 2
two-runs = refl

no-run : runs_count (is_possible (there_and_back 5)) 5 ≡ 0
no-run = refl

-- the root is Out where the gap is too long
none-mixed : mixed_below (judged (there_and_back 5)) 5 3 0 0 ≡ 0
none-mixed = refl

-- a run from 18 to 22
five-pairs : pair_count (record { a = 2; first = 18; last = 22 } ∷ []) ≡ 5
five-pairs = refl
