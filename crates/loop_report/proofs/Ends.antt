-- The least and the greatest ticks of a set's pairs.
use Rattle.std.proofs.Common.{◌≡◌, ℕ, zero, suc, ◌<◌, ◌≤◌, List, [], ◌∷◌, length, inl, inr, refl, sym, subst, arith}
use Rattle.std.proofs.lemmas.Bool.{cases_lt}
use Rattle.tplane_paver.specs.Components.{SpansA, SpansB}
use Rattle.tplane_paver.specs.Runs.{AreInOrder, InRuns, run_at}
use Rattle.tplane_paver.specs.declared.runs.Run.{Run}
use Rattle.loop_report.specs.Laws.{PrintedTicksAreEnds}
use Rattle.loop_report.specs.Loops.{greatest_by, least_by}

least_below : (f : Run → ℕ) (runs : List Run) (i : ℕ) → i < length runs → least_by f runs ≤ f (run_at runs i)
least_below f [] i h = absurd (omega arith)
least_below f (r ∷ []) zero h = omega arith
least_below f (r ∷ []) (suc i) h = absurd (omega arith)
least_below f (r ∷ s ∷ runs) zero h = omega arith
least_below f (r ∷ s ∷ runs) (suc i) h = let rest = least_below f (s ∷ runs) i (omega arith) in omega arith

least_there : (f : Run → ℕ) (runs : List Run) → 1 ≤ length runs → (i : ℕ) × (i < length runs) × (least_by f runs ≡ f (run_at runs i))
least_there f [] h = absurd (omega arith)
least_there f (r ∷ []) h = (0, omega arith, refl)
least_there f (r ∷ s ∷ runs) h = elim (cases_lt (least_by f (s ∷ runs)) (f r)) [
  | inl k ↦ let rest = least_there f (s ∷ runs) (omega arith) in (suc rest.0, omega (arith, rest.1), omega (arith, rest.2))
  | inr k ↦ (0, omega arith, omega arith)
]

greatest_above : (f : Run → ℕ) (runs : List Run) (i : ℕ) → i < length runs → f (run_at runs i) ≤ greatest_by f runs
greatest_above f [] i h = absurd (omega arith)
greatest_above f (r ∷ runs) zero h = omega arith
greatest_above f (r ∷ runs) (suc i) h = let rest = greatest_above f runs i (omega arith) in omega arith

greatest_there : (f : Run → ℕ) (runs : List Run) → 1 ≤ length runs → (i : ℕ) × (i < length runs) × (greatest_by f runs ≡ f (run_at runs i))
greatest_there f [] h = absurd (omega arith)
greatest_there f (r ∷ []) h = (0, omega arith, omega arith)
greatest_there f (r ∷ s ∷ runs) h = elim (cases_lt (f r) (greatest_by f (s ∷ runs))) [
  | inl k ↦ let rest = greatest_there f (s ∷ runs) (omega arith) in (suc rest.0, omega (arith, rest.1), omega (arith, rest.2))
  | inr k ↦ (0, omega arith, omega arith)
]

-- a run has its first and its last pair
first_in : (runs : List Run) (i : ℕ) → AreInOrder runs → i < length runs → InRuns runs (run_at runs i).a (run_at runs i).first
first_in runs i o h = let some = o.some i h in (i, h, record { row = refl; first = omega arith; last = some })

last_in : (runs : List Run) (i : ℕ) → AreInOrder runs → i < length runs → InRuns runs (run_at runs i).a (run_at runs i).last
last_in runs i o h = let some = o.some i h in (i, h, record { row = refl; first = some; last = omega arith })

pub printed_ticks_are_ends : PrintedTicksAreEnds
printed_ticks_are_ends runs o h =
    let la = least_there (λ r. r.a) runs h in
    let ga = greatest_there (λ r. r.a) runs h in
    let lb = least_there (λ r. r.first) runs h in
    let gb = greatest_there (λ r. r.last) runs h in (
      record {
        low = λ a b k. omega (arith, least_below (λ r. r.a) runs k.0 k.1, k.2.row);
        high = λ a b k. omega (arith, greatest_above (λ r. r.a) runs k.0 k.1, k.2.row);
        at_least = ((run_at runs la.0).first, subst (λ (a : ℕ). InRuns runs a (run_at runs la.0).first) (sym la.2) (first_in runs la.0 o la.1));
        at_greatest = ((run_at runs ga.0).first, subst (λ (a : ℕ). InRuns runs a (run_at runs ga.0).first) (sym ga.2) (first_in runs ga.0 o ga.1));
      },
      record {
        low = λ a b k. omega (arith, least_below (λ r. r.first) runs k.0 k.1, k.2.first);
        high = λ a b k. omega (arith, greatest_above (λ r. r.last) runs k.0 k.1, k.2.last);
        at_least = ((run_at runs lb.0).a, subst (λ (b : ℕ). InRuns runs (run_at runs lb.0).a b) (sym lb.2) (first_in runs lb.0 o lb.1));
        at_greatest = ((run_at runs gb.0).a, subst (λ (b : ℕ). InRuns runs (run_at runs gb.0).a b) (sym gb.2) (last_in runs gb.0 o gb.1));
      },
    )

-- ends are the least and the greatest, so there is one of each
pub ends_a : (runs : List Run) (least greatest : ℕ) → AreInOrder runs → 1 ≤ length runs → SpansA runs least greatest → (least ≡ least_by (λ r. r.a) runs) × (greatest ≡ greatest_by (λ r. r.a) runs)
ends_a runs least greatest o h s =
    let p = (printed_ticks_are_ends runs o h).0 in (
      omega (arith, s.low _ _ p.at_least.1, p.low _ _ s.at_least.1),
      omega (arith, s.high _ _ p.at_greatest.1, p.high _ _ s.at_greatest.1),
    )

pub ends_b : (runs : List Run) (least greatest : ℕ) → AreInOrder runs → 1 ≤ length runs → SpansB runs least greatest → (least ≡ least_by (λ r. r.first) runs) × (greatest ≡ greatest_by (λ r. r.last) runs)
ends_b runs least greatest o h s =
    let p = (printed_ticks_are_ends runs o h).1 in (
      omega (arith, s.low _ _ p.at_least.1, p.low _ _ s.at_least.1),
      omega (arith, s.high _ _ p.at_greatest.1, p.high _ _ s.at_greatest.1),
    )
