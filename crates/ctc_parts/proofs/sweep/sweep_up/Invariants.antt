use Rattle.std.proofs.Common.{◌≡◌, ℕ, ◌≤◌, true, false, slice_index_or}
use Rattle.ctc_parts.specs.Parts.{marked_in}
use Rattle.ctc_parts.specs.Sweeping.{Sweeps}
use Rattle.ctc_parts.proofs.sweep.sweep_up.Given as goal

-- The marked parts so far were each fired, and the flags of those to come still stand.
abbrev pub invariant-loop-i : goal.invariant-loop-i
invariant-loop-i g l = record {
  swept : Sweeps (g.P.Parts.parts l.parts l.fn.store.shape) (g.P.Parts.part l.parts l.fn.store.shape) (marked_in l.fn.marks l.fn.within.start l.fn.within.end) l.i l.fn.store l.store l.sweep.answer;
  later : (j : ℕ) → l.i ≤ j → slice_index_or l.fn.marks j false ≡ true → slice_index_or l.marks j false ≡ true;
  end : l.fn.within.end ≤ l.sweep.end;
}
