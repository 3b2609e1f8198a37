use Rattle.std.proofs.Common.{◌<◌, ℕ, map, get_or, Contains}
use Rattle.tube_store.specs.Resets.{cell_in}
use Rattle.ctc_network.proofs.using.writes_one.Given as goal

-- the first targets are not named
abbrev pub invariant-loop-i : goal.invariant-loop-i
invariant-loop-i g l = (j : ℕ) → j < l.i → Contains (map cell_in l.cells) (get_or (map (λ p. p.target) (g.C.Contractor.projections l.c l.store.shape)) j 0) → ⊥
