use Rattle.std.proofs.Common.{◌<◌, ◌≤◌, ℕ, All, arith, ◌∙◌, subst, take, map, slice_index, length}
use Rattle.std.proofs.lemmas.List.{take_all}
use Rattle.cell_readers.specs.Entries.{Table, AddsReader, chain, readers_at}
use Rattle.cell_readers.proofs.Noted.{lists-more, adds-all, begins-fresh, numbers-below, readers-more}
use Rattle.cell_readers.proofs.readers.Readers.add.Goals as goal

pub loop-i-preserved : goal.loop-i-preserved
loop-i-preserved g c =
    let before = c.loop-i in
    let scope = g.C.Contractor.scope c.args.c.now c.args.store.now.shape in
    let n = c.self.inside.contractors in
    let old = c.args.self.now.readers in
    let inside : before.i < length scope = omega (arith, c.loop-i-test.true, c.reads-reads.ensures) in
    let all = subst (λ (t : Table). (cell : ℕ) → All (λ m. m < n) (readers_at t.readers cell)) c.self.view_is (numbers-below c.self.inside.entries.items c.self.inside.heads.items n c.self.invariant) in
    record {
      chained = c.note.ensures.chained;
      number = before.invariant.number;
      cells = c.note.ensures.cells ∙ before.invariant.cells;
      lists = lists-more scope before.i c.read-cell.result.0 n (readers_at old) (λ k. chain before.self-inside.entries.items (slice_index before.self-inside.heads.items k)) (λ k. chain c.note.new.entries.items (slice_index c.note.new.heads.items k)) inside c.read-cell.ensures (λ k. begins-fresh n (readers_at old k) (all k)) before.invariant.lists c.note.ensures.noted;
      room = omega (arith, before.invariant.room, c.note.ensures.capacity, c.note.ensures.more, inside);
      entries = omega (arith, before.invariant.entries, c.note.ensures.more);
    }

pub returns-clause-adds : goal.returns-clause-adds
returns-clause-adds g c =
    let after = c.loop-i.self-inside in
    let scope = g.C.Contractor.scope c.args.c.now c.args.store.now.shape in
    let done : length scope ≤ c.loop-i.i = omega (arith, c.loop-i-test.false, c.reads-reads.ensures) in
    subst (λ (n : ℕ). AddsReader c.args.self.now.readers n scope (map (chain after.entries.items) after.heads.items)) c.loop-i.invariant.number
    (adds-all after.entries.items after.heads.items c.self.inside.contractors scope (take c.loop-i.i scope) c.args.self.now.readers c.loop-i.invariant.cells (take_all c.loop-i.i scope done) c.loop-i.invariant.lists)

pub returns-clause-exact : goal.returns-clause-exact
returns-clause-exact g c scopes e were =
    let after = c.loop-i.self-inside in
    let scope = g.C.Contractor.scope c.args.c.now c.args.store.now.shape in
    let n = c.self.inside.contractors in
    let done : length scope ≤ c.loop-i.i = omega (arith, c.loop-i-test.false, c.reads-reads.ensures) in
    readers-more scopes n scope c.args.self.now.readers (map (chain after.entries.items) after.heads.items)
    (adds-all after.entries.items after.heads.items n scope (take c.loop-i.i scope) c.args.self.now.readers c.loop-i.invariant.cells (take_all c.loop-i.i scope done) c.loop-i.invariant.lists)
    (subst (λ (t : Table). (cell : ℕ) → All (λ m. m < n) (readers_at t.readers cell)) c.self.view_is (numbers-below c.self.inside.entries.items c.self.inside.heads.items n c.self.invariant))
    (c.loop-i.invariant.number ∙ e) were
