use Rattle.std.proofs.Common.{◌≡◌, ◌+◌, ◌-◌, ◌≤◌, ℕ, ◌∷◌, cond, length, take, slice_index, vec_len, vec_capacity}
use Rattle.cell_readers.specs.Entries.{AreChained, chain, readers_at, reads_cell}
use Rattle.cell_readers.proofs.readers.Readers.add.Given as goal

-- the lists of the first cells of the scope
abbrev pub invariant-loop-i : goal.invariant-loop-i
invariant-loop-i g l =
    let r = l.self-inside in
    let scope = g.C.Contractor.scope l.fn.c l.fn.store.shape in
    record {
      chained : AreChained r.entries.items r.heads.items (l.number + 1);
      number : l.number ≡ l.fn.self.contractors;
      cells : length r.heads.items ≡ length l.fn.self.readers;
      lists : (k : ℕ) → chain r.entries.items (slice_index r.heads.items k) ≡ cond (reads_cell (take l.i scope) k) (l.number ∷ readers_at l.fn.self.readers k) (readers_at l.fn.self.readers k);
      room : vec_len r.entries + (length scope - l.i) ≤ vec_capacity r.entries;
      entries : length r.entries.items ≤ l.fn.self.entries + l.i;
    }
