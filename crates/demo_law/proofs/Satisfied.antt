-- The true assignment satisfies the records of a demo mission.
use Rattle.std.proofs.Common.{◌≡◌, ℕ, suc, ◌+◌, ◌*◌, ◌<◌, ◌≤◌, List, [], ◌∷◌, ◌++◌, refl, sym, ap, subst, ◌∙◌, arith, pos, append_assoc, append-nil}
use Rattle.tube_spec.specs.Grid.{last_tick}
use Rattle.tube_spec.specs.Span.{Holds, Span, point}
use Rattle.tube_spec.specs.Assignment.{Assignment, number_of}
use Rattle.mission_items.specs.Made.{ranges_made, signal_made, signal_ranges, variables_in, variables_made}
use Rattle.mission_items.specs.declared.item.Item.{Item}
use Rattle.mission_items.proofs.Making.{signal_ranges-last, variables-last}
use Rattle.mission_net.specs.Records.{mark_of, marks_in, point_at, SatisfiesAll, SatisfiesFrom, Says}
use Rattle.mission_net.proofs.Beacons.{marks_in-last}
use Rattle.demo_course.specs.Laws.{within}
use Rattle.demo_course.specs.declared.Axis.TheVariants.{X, Y}
use Rattle.demo_spec.specs.Mission.{beacon_of, bound_of, bounds_of, demo_cuts, demo_items, each_until, opening, ping_of, question}
use Rattle.demo_spec.proofs.Lists.{each-none, each-step, each-suc}
use Rattle.demo_spec.proofs.Opening.{cuts-end}
use Rattle.demo_law.specs.Truth.{course_signals, IsCourseOfMission, truth}
use Rattle.demo_law.proofs.Lookups.{first-number}
use Rattle.demo_law.proofs.Saying.{beacon-says, begins-at, bound-says, holds-same, holds-point, IsBeforePing, ping-says, points, position-moves, position-near, rate-near}

-- ---- one record more

satisfies_from-last : (end : ℕ) (a : Assignment) (before items : List Item) (i : Item) → SatisfiesFrom end a before items → Says end a (before ++ items) i → SatisfiesFrom end a before (items ++ i ∷ [])
satisfies_from-last end a before [] i h s = (subst (λ (b : List Item). Says end a b i) (append-nil before) s, tt)
satisfies_from-last end a before (x ∷ items) i h s = (
  h.0,
  satisfies_from-last end a (before ++ x ∷ []) items i h.1 (subst (λ (b : List Item). Says end a b i) (sym (append_assoc before (x ∷ []) items)) s),
)

module _ (words : List ℕ) where
  abbrev four_ranges : List Span
  four_ranges = within 50000 ∷ within 50000 ∷ within 25 ∷ within 25 ∷ []

  -- records that the true assignment satisfies, with so many variables, and the points of so many beacons
  pub record IsTrue (items : List Item) (variables beacons : ℕ) : Type 0 where
    pub satisfied : SatisfiesFrom 2000 (truth words) [] items
    pub variables_are : variables_in items ≡ variables
    pub ranges_are : signal_ranges items ≡ four_ranges
    pub marks_are : marks_in items ≡ points beacons

  true-last : (items : List Item) (i : Item) (variables beacons more_variables more_beacons : ℕ) → IsTrue items variables beacons → Says 2000 (truth words) items i
      → signal_made i ≡ [] → variables + variables_made i ≡ more_variables → points beacons ++ mark_of items i ≡ points more_beacons → IsTrue (items ++ i ∷ []) more_variables more_beacons
  true-last items i variables beacons more_variables more_beacons true_ says none v m = record {
    satisfied = satisfies_from-last 2000 (truth words) [] items i true_.satisfied says;
    variables_are = omega (arith, variables-last items i, true_.variables_are, v);
    ranges_are = signal_ranges-last items i ∙ ap (λ (l : List Span). signal_ranges items ++ l) none ∙ append-nil (signal_ranges items) ∙ true_.ranges_are;
    marks_are = marks_in-last items i ∙ ap (λ (l : List (List ℕ)). l ++ mark_of items i) true_.marks_are ∙ m;
  }

  -- ---- piece by piece

  opening-satisfied : SatisfiesFrom 2000 (truth words) [] opening
  unfolding opening
  opening-satisfied =
      let zeros = first-number words in (
        record { made = tt; means = tt },
        (
          record { made = tt; means = position-near words X },
          (
            record { made = tt; means = position-near words Y },
            (
              record { made = tt; means = rate-near words X },
              (
                record { made = tt; means = rate-near words Y },
                (
                  record { made = tt; means = position-moves words X },
                  (
                    record { made = tt; means = position-moves words Y },
                    (
                      record {
                        made = (holds-same (point (pos 0)) _ _ zeros.0 (holds-point (pos 0)), (holds-same (point (pos 0)) _ _ zeros.1 (holds-point (pos 0)), tt));
                        means = record { tick = 0; time = zeros.0; on_clock = omega arith; value = zeros.1 ∙ sym (begins-at words X) };
                      },
                      (
                        record {
                          made = (holds-same (point (pos 0)) _ _ zeros.2 (holds-point (pos 0)), (holds-same (point (pos 0)) _ _ zeros.3 (holds-point (pos 0)), tt));
                          means = record { tick = 0; time = zeros.2; on_clock = omega arith; value = zeros.3 ∙ sym (begins-at words Y) };
                        },
                        tt,
                      ),
                    ),
                  ),
                ),
              ),
            ),
          ),
        ),
      )

  opening-true : IsTrue opening 4 0
  unfolding opening
  opening-true = record { satisfied = opening-satisfied; variables_are = refl; ranges_are = refl; marks_are = sym (each-none (λ i. point_at (4 + 2 * i) ∷ [])) }

  bound-true : (items : List Item) (j : ℕ) → j < 20 → IsTrue items 4 0 → IsTrue (items ++ bounds_of words j) 4 0
  bound-true items j few so_far =
      subst (λ (l : List Item). IsTrue l 4 0) (append_assoc items (bound_of words j X ∷ []) (bound_of words j Y ∷ []))
      (true-last (items ++ bound_of words j X ∷ []) (bound_of words j Y) 4 0 4 0
      (true-last items (bound_of words j X) 4 0 4 0 so_far (bound-says words items j X few) refl refl (append-nil (points 0)))
      (bound-says words (items ++ bound_of words j X ∷ []) j Y few) refl refl (append-nil (points 0)))

  beacon-true : (k : ℕ) (items : List Item) → k < 5 → IsTrue items (4 + 2 * k) k → IsTrue (items ++ beacon_of words k ∷ []) (4 + 2 * suc k) (suc k)
  beacon-true k items few so_far =
      true-last items (beacon_of words k) (4 + 2 * k) k (4 + 2 * suc k) (suc k) so_far (beacon-says words items k few so_far.variables_are) refl (omega arith)
      (ap (λ (v : ℕ). points k ++ point_at v ∷ []) so_far.variables_are ∙ sym (each-suc (λ i. point_at (4 + 2 * i) ∷ []) k))

  ping-true : (i : ℕ) (items : List Item) → i < 40 → IsTrue items (14 + 3 * i) 5 → IsTrue (items ++ ping_of words i ∷ []) (14 + 3 * suc i) 5
  ping-true i items few so_far =
      true-last items (ping_of words i) (14 + 3 * i) 5 (14 + 3 * suc i) 5 so_far
      (ping-says words items i (record { number = few; variables_are = so_far.variables_are; ranges_are = so_far.ranges_are; marks_are = so_far.marks_are })) refl (omega arith) (append-nil (points 5))

  -- ---- all of them

  reports-true : IsTrue (opening ++ each_until (bounds_of words) 20 ++ each_until (λ i. beacon_of words i ∷ []) 5 ++ each_until (λ i. ping_of words i ∷ []) 40) 134 5
  reports-true =
      let bounds = each-step (bounds_of words) (λ j items. IsTrue items 4 0) opening 20 opening-true (λ j items. bound-true items j) in
      let beacons = each-step (λ i. beacon_of words i ∷ []) (λ k items. IsTrue items (4 + 2 * k) k) (opening ++ each_until (bounds_of words) 20) 5 bounds beacon-true in
      each-step (λ i. ping_of words i ∷ []) (λ i items. IsTrue items (14 + 3 * i) 5) (opening ++ each_until (bounds_of words) 20 ++ each_until (λ i. beacon_of words i ∷ []) 5) 40 beacons ping-true

  all-satisfied : SatisfiesFrom 2000 (truth words) [] (demo_items words)
  unfolding demo_items
  all-satisfied = satisfies_from-last 2000 (truth words) [] _ question reports-true.satisfied (record { made = tt; means = tt })

  signals-are : (truth words).signals ≡ course_signals words
  unfolding truth
  signals-are = refl

  pub is-course : IsCourseOfMission words
  is-course = record {
    assignment = truth words;
    signals = signals-are;
    satisfies = subst (λ (end : ℕ). SatisfiesFrom end (truth words) [] (demo_items words)) (sym cuts-end) all-satisfied;
  }
