use Rattle.std.proofs.Common.{◌≡◌, length, take, slice_index, vec_capacity}
use Rattle.cell_readers.specs.Entries.{AreChained, chain, readers_at}
use Rattle.cell_readers.proofs.Dropped.{AreUnlisted}
use Rattle.cell_readers.proofs.readers.Readers.remove.Given as goal

-- the lists of the first cells of the scope have lost the number
abbrev pub invariant-loop-i : goal.invariant-loop-i
invariant-loop-i g l =
    let r = l.self-inside in
    record {
      chained : AreChained r.entries.items r.heads.items r.contractors;
      contractors : r.contractors ≡ l.fn.self.contractors;
      lists : AreUnlisted l.number (take l.i (g.C.Contractor.scope l.c l.store.shape)) (readers_at l.fn.self.readers) (λ k. chain r.entries.items (slice_index r.heads.items k));
      entries : length r.entries.items ≡ l.fn.self.entries;
      room : vec_capacity r.entries ≡ l.fn.self.room;
    }
