-- The true course of a demo is where a run over its mission says.
use Rattle.std.proofs.Common.{◌≡◌, ℕ, zero, suc, ◌<◌, List, [], ◌∷◌, ◌++◌, Option, Some, None, IsSomeAnd, refl, sym, ap, subst, length, take, ℤ, pos}
use Rattle.std.specs.Prelude.{slice_index_or}
use Rattle.tube_spec.specs.Span.{Span, Holds}
use Rattle.tube_spec.specs.Grid.{last_tick}
use Rattle.tube_spec.specs.Shape.{Shape}
use Rattle.tube_spec.specs.Assignment.{Assignment, value_at}
use Rattle.hull_tree.specs.Revisits.{IsRevisit}
use Rattle.tube_names.specs.declared.queries.Query.{Query}
use Rattle.tplane_paver.specs.Runs.{InRuns}
use Rattle.tplane_paver.specs.Components.{set_at}
use Rattle.loop_report.specs.declared.found.Found.{Found}
use Rattle.mission_items.specs.declared.item.Item.{Item}
use Rattle.mission_items.specs.declared.mission.Mission.{Mission}
use Rattle.mission_items.specs.Valid.{IsMission}
use Rattle.mission_net.specs.Records.{shape_by, SatisfiesAll, SatisfiesFrom}
use Rattle.section_report.specs.Sections.{Section, IsSectionOf}
use Rattle.section_report.specs.Printed.{LiesIn, PrintedEncloses}
use Rattle.mission_loops.specs.Findings.{HoldRevisits, IsTold, sets_in}
use Rattle.demo_law.specs.Promise.{coordinate, IsTruthOf, LieInTube}

-- what satisfies records satisfies the first of them
satisfies-first : (end : ℕ) (a : Assignment) (before items : List Item) (n : ℕ) → SatisfiesFrom end a before items → SatisfiesFrom end a before (take n items)
satisfies-first end a before items zero h = tt
satisfies-first end a before [] (suc n) h = tt
satisfies-first end a before (x ∷ items) (suc n) h = (h.0, satisfies-first end a (before ++ x ∷ []) items n h.1)

module _ (a : Assignment) (signal : ℕ) (places : List ℤ) (same : (k : ℕ) → value_at a signal k ≡ coordinate places k) where
  pub tube-in : (s : Shape) (xs : List Span) → LiesIn s xs a → LieInTube s xs signal places
  tube-in s xs lies = record {
    gates = λ i named inside. subst (Holds _) (same _) (lies.gates signal i named inside);
    slices = λ i k named inside low high. subst (Holds _) (same k) (lies.slices signal i k named inside low high);
  }

both-in : (box : Option (List Span)) (s : Shape) (a : Assignment) (xs ys : List ℤ) → ((k : ℕ) → value_at a 0 k ≡ coordinate xs k) → ((k : ℕ) → value_at a 1 k ≡ coordinate ys k)
    → IsSomeAnd box (λ cells. LiesIn s cells a) → IsSomeAnd box (λ cells. LieInTube s cells 0 xs × LieInTube s cells 1 ys)
both-in None s a xs ys x y lies = lies
both-in (Some cells) s a xs ys x y lies = (tube-in a 0 xs x s cells lies, tube-in a 1 ys y s cells lies)

-- an assignment with these coordinates as its first two signals, which satisfies the records
pub is-truth-of : (m : Mission) (a : Assignment) (xs ys us vs : List ℤ) → IsMission m → PrintedEncloses → a.signals ≡ xs ∷ ys ∷ us ∷ vs ∷ [] → SatisfiesAll m.cuts a m.items → IsTruthOf m xs ys
is-truth-of m a xs ys us vs is encloses signals says = record {
  tubes = λ budget d section. both-in d.box (shape_by m.cuts (take d.upto m.items)) a xs ys x-same y-same (encloses m budget d is section a (first d.upto));
  sets = λ d q sets told x y i j revisit. in-set d.upto q sets told.possible x y i j revisit;
}
  where
    first : (n : ℕ) → SatisfiesAll m.cuts a (take n m.items)
    first n = satisfies-first (last_tick m.cuts) a [] m.items n says

    x-same : (k : ℕ) → value_at a 0 k ≡ coordinate xs k
    x-same k = ap (λ (l : List (List ℤ)). slice_index_or (slice_index_or l 0 (pos 0 ∷ [])) k (pos 0)) signals

    y-same : (k : ℕ) → value_at a 1 k ≡ coordinate ys k
    y-same k = ap (λ (l : List (List ℤ)). slice_index_or (slice_index_or l 1 (pos 0 ∷ [])) k (pos 0)) signals

    as-values : (q : Query) (i j : ℕ) → q.x.0 ≡ 0 → q.y.0 ≡ 1 → IsRevisit q (last_tick m.cuts) (coordinate xs) (coordinate ys) i j → IsRevisit q (last_tick m.cuts) (value_at a q.x.0) (value_at a q.y.0) i j
    as-values q i j x y r =
        subst (λ (n : ℕ). IsRevisit q (last_tick m.cuts) (value_at a n) (value_at a q.y.0) i j) (sym x)
        (subst (λ (n : ℕ). IsRevisit q (last_tick m.cuts) (value_at a 0) (value_at a n) i j) (sym y) (record {
          apart = r.apart;
          within = r.within;
          near = rw (x-same i, x-same j, y-same i, y-same j) r.near;
        }))

    in-set : (n : ℕ) (q : Query) (sets : List Found) → HoldRevisits m.cuts (take n m.items) q sets → q.x.0 ≡ 0 → q.y.0 ≡ 1 → (i j : ℕ) → IsRevisit q (last_tick m.cuts) (coordinate xs) (coordinate ys) i j
        → (k : ℕ) × (k < length sets) × InRuns (set_at (sets_in sets) k) i j
    in-set n q sets hold x y i j r = hold a (first n) i j (as-values q i j x y r)
