-- The first records of a demo mission, and its clock.
use Rattle.std.proofs.Common.{◌≡◌, ◌≢◌, ℕ, ◌+◌, ◌*◌, ◌<◌, ◌≤◌, true, List, [], ◌∷◌, ◌++◌, refl, sym, ap, subst, ◌∙◌, arith, length, lit≤, pos}
use Rattle.std.proofs.lemmas.Int.{ints}
use Rattle.tube_spec.specs.Span.{Span, point}
use Rattle.tube_spec.specs.Grid.{IsGrid, last_tick}
use Rattle.slice_gates.specs.Cuts.{uniform_cuts}
use Rattle.slice_gates.proofs.Uniform.{IsGrid-uniform}
use Rattle.mission_items.specs.Room.{feet_of, touching}
use Rattle.mission_items.specs.Valid.{AreRight, IsRange}
use Rattle.demo_course.specs.Laws.{within}
use Rattle.demo_spec.specs.Mission.{demo_cuts, opening}
use Rattle.demo_spec.proofs.Telling.{evaluation-few, IsTold, touching-few}

-- ---- the clock

pub length-cuts : length demo_cuts ≡ 201
unfolding demo_cuts
length-cuts = refl

pub cuts-end : last_tick demo_cuts ≡ 2000
unfolding demo_cuts
cuts-end = refl

pub cuts-grid : IsGrid demo_cuts
unfolding demo_cuts
cuts-grid = IsGrid-uniform 2000 10 (omega arith) (omega arith) (omega arith)

-- ---- the records

pub within-range : (n : ℕ) → n ≤ 500000000 → IsRange (within n)
within-range n small = (omega (arith, ints), record { low = omega (arith, ints, small); high = omega (arith, ints, small) })

pub zero-range : IsRange (point (pos 0))
zero-range = (omega (arith, ints), record { low = omega (arith, ints); high = omega (arith, ints) })

opening-right : AreRight 1 2000 opening
unfolding opening
opening-right = (
  refl,
  tt,
  (
    refl,
    ((refl, refl), within-range 50000 (lit≤ tt)),
    (
      refl,
      ((refl, refl), within-range 50000 (lit≤ tt)),
      (
        refl,
        ((refl, refl), within-range 25 (lit≤ tt)),
        (
          refl,
          ((refl, refl), within-range 25 (lit≤ tt)),
          (
            refl,
            (omega arith, omega arith, λ e. cc e),
            (
              refl,
              (omega arith, omega arith, λ e. cc e),
              (refl, (omega arith, omega arith, zero-range), (refl, (omega arith, omega arith, zero-range), tt)),
            ),
          ),
        ),
      ),
    ),
  ),
)

opening-feet : (cuts : List ℕ) → length cuts ≡ 201 → feet_of cuts opening ≤ 18000
unfolding opening
opening-feet cuts size =
    let few = evaluation-few true (touching cuts (point (pos 0))) (touching-few cuts (point (pos 0)) size) in
    omega (arith, size, few)

abbrev pub signal_names : List (List ℕ)
signal_names = (120 ∷ []) ∷ (121 ∷ []) ∷ (117 ∷ []) ∷ (118 ∷ []) ∷ []

opening-size : length opening ≡ 9
unfolding opening
opening-size = refl

pub opening-told : IsTold opening 4 0 signal_names
unfolding opening
opening-told = record {
  right = opening-right;
  headed = refl;
  signals_are = refl;
  variables_are = refl;
  beacons_are = refl;
  names_are = refl;
  revisits_are = refl;
  feet = omega (arith, opening-feet demo_cuts length-cuts, opening-size);
}
