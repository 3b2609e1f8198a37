use Rattle.std.proofs.Common.{◌≡◌, ℕ, ◌+◌, ◌-◌, ◌*◌, ◌/◌, ◌≤◌, min, arith, length}
use Rattle.slice_gates.proofs.Slices.{place-mono, place-among}
use Rattle.slice_gates.proofs.near.near_in.Goals as goal

in-order : (p q n u s m : ℕ) → u ≡ p - 1 → s + 1 ≡ n → m ≡ min (q / 2) (s - 1) → p ≤ q → q ≤ 2 * (n - 1) → 2 ≤ n → u / 2 ≤ m
in-order p q n u s m a b c d e f = grind arith

pub returns-clause-order : goal.returns-clause-order
returns-clause-order c =
    let grid = c.args.grid.now in
    let ticks = c.in_ok-ticks.ticks in
    let later = place-mono grid ticks.first ticks.last c.in_ok-ticks.ensures.order in
    let last = place-among grid ticks.last in
    in-order c.place_of-first.result c.place_of-last.result (length grid) c.saturating_sub.result c.slices.result c.min.result
    c.saturating_sub.ensures c.slices.ensures c.min.ensures
    (omega (arith, later, c.place_of-first.ensures.place, c.place_of-last.ensures.place)) (omega (arith, last, c.place_of-last.ensures.place)) c.known.ensures.slices
