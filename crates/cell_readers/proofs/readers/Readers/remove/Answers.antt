use Rattle.std.proofs.Common.{◌<◌, ◌≤◌, ℕ, List, map, sym, ap, subst, ◌∙◌, length, slice_index, take, arith}
use Rattle.std.proofs.lemmas.List.{take_all}
use Rattle.cell_readers.specs.Entries.{Table, Drops, chain, readers_at}
use Rattle.cell_readers.proofs.Dropped.{AreUnlisted, drops-same, unlisted-more, unlisted-all, readers-less}
use Rattle.cell_readers.proofs.Noted.{readers-view}
use Rattle.cell_readers.proofs.readers.Readers.remove.Goals as goal

pub loop-i-init : goal.loop-i-init
loop-i-init g c =
    let r = c.self.inside in
    record {
      chained = c.self.invariant;
      contractors = ap (λ (t : Table). t.contractors) c.self.view_is;
      lists = subst (λ (t : Table). AreUnlisted c.args.number (take 0 (g.C.Contractor.scope c.args.c.now c.args.store.now.shape)) (readers_at t.readers) (λ k. chain r.entries.items (slice_index r.heads.items k))) c.self.view_is record {
        drops = λ k. subst (λ (ms : List ℕ). Drops c.args.number ms (chain r.entries.items (slice_index r.heads.items k))) (sym (readers-view r.entries.items r.heads.items k)) (drops-same c.args.number (chain r.entries.items (slice_index r.heads.items k)));
        gone = λ k e. absurd (cc);
      };
      entries = ap (λ (t : Table). t.entries) c.self.view_is;
      room = ap (λ (t : Table). t.room) c.self.view_is;
    }

pub invariant_of-self : goal.invariant_of-self
invariant_of-self g c = c.loop-i.invariant.chained

pub unlist-requires : goal.unlist-requires
unlist-requires g c = record { falls = c.loop-i.invariant.chained.falls; within = c.loop-i.invariant.chained.within c.read-cell.result.0 }

pub loop-i-preserved : goal.loop-i-preserved
loop-i-preserved g c =
    let before = c.loop-i in
    let scope = g.C.Contractor.scope c.args.c.now c.args.store.now.shape in
    let inside : before.i < length scope = omega (arith, c.loop-i-test.true, c.reads-reads.ensures) in
    record {
      chained = c.unlist.ensures.chained before.self-inside.contractors before.invariant.chained;
      contractors = before.invariant.contractors;
      lists = unlisted-more c.args.number before.i c.read-cell.result.0 scope (readers_at c.args.self.now.readers) (λ k. chain before.self-inside.entries.items (slice_index before.self-inside.heads.items k))
          (λ k. chain c.unlist.new.entries.items (slice_index c.unlist.new.heads.items k)) before.invariant.lists inside c.read-cell.ensures c.unlist.ensures.drops c.unlist.ensures.gone;
      entries = c.unlist.ensures.len ∙ before.invariant.entries;
      room = c.unlist.ensures.capacity ∙ before.invariant.room;
    }

pub returns-clause-lists : goal.returns-clause-lists
returns-clause-lists g c cell =
    let after = c.loop-i.self-inside in
    let scope = g.C.Contractor.scope c.args.c.now c.args.store.now.shape in
    let done : length scope ≤ c.loop-i.i = omega (arith, c.loop-i-test.false, c.reads-reads.ensures) in
    readers-view after.entries.items after.heads.items cell
    ∙ unlisted-all c.args.number (take c.loop-i.i scope) scope (readers_at c.args.self.now.readers) (λ k. chain after.entries.items (slice_index after.heads.items k)) (take_all c.loop-i.i scope done) c.requires.listed c.loop-i.invariant.lists cell

pub returns-clause-exact : goal.returns-clause-exact
returns-clause-exact g c scopes inside were =
    let after = c.loop-i.self-inside in
    readers-less scopes c.args.number c.args.self.now.readers (map (chain after.entries.items) after.heads.items) inside (returns-clause-lists g c) were

pub returns-clause-contractors : goal.returns-clause-contractors
returns-clause-contractors g c = c.loop-i.invariant.contractors
