use Rattle.std.proofs.Common.{◌≡◌, ◌-◌, ℕ, List, false, refl, sym, subst, arith}
use Rattle.cell_readers.specs.declared.chain.Entry.{Entry}
use Rattle.cell_readers.specs.Entries.{Drops, IsPlace, begins, chain}
use Rattle.cell_readers.proofs.Leading.{dropping-first, dropping-more, dropping-last, dropping-place}
use Rattle.cell_readers.proofs.readers.drop_behind.Goals as goal

pub loop-at-init : goal.loop-at-init
loop-at-init c = record { dropping = dropping-first c.args.entries.now.items c.args.number c.args.place c.requires.place c.requires.other; capacity = refl }

pub index-requires : goal.index-requires
index-requires c = omega (arith, c.loop-at-test.true, c.loop-at.invariant.dropping.within)

pub past-next-requires : goal.past-next-requires
past-next-requires c =
    subst (λ (es : List Entry). IsPlace es c.index.result.now.before) (sym c.deref.ensures.value)
    (dropping-place c.args.entries.now.items c.loop-at.entries.items c.args.number c.args.place c.loop-at.at c.index.result.now c.loop-at.invariant.dropping c.loop-at-test.true c.index.ensures).0

pub index_mut-requires : goal.index_mut-requires
index_mut-requires c = omega (arith, c.loop-at-test.true, c.loop-at.invariant.dropping.within)

pub loop-at-preserved : goal.loop-at-preserved
loop-at-preserved c =
    let now = c.loop-at.entries.items in
    let n = c.args.number in
    let next = c.past-next.result in
    let h = c.loop-at.invariant.dropping in
    let at = dropping-place c.args.entries.now.items now n c.args.place c.loop-at.at c.index.result.now h c.loop-at-test.true c.index.ensures in
    record {
      dropping = dropping-more c.args.entries.now.items now n c.args.place c.loop-at.at next c.index_mut.result.now h c.loop-at-test.true c.index_mut.ensures.value (omega (arith, c.past-next.ensures.before, at.1))
          (subst (λ (es : List Entry). begins n (chain es next) ≡ false) c.deref.ensures.value c.past-next.ensures.other)
          (subst (λ (p : ℕ). Drops n (chain now p) (chain now next)) at.1 (subst (λ (es : List Entry). Drops n (chain es c.index.result.now.before) (chain es next)) c.deref.ensures.value c.past-next.ensures.drops));
      capacity = c.loop-at.invariant.capacity;
    }

pub loop-at-smaller : goal.loop-at-smaller
loop-at-smaller c =
    let h = c.loop-at.invariant.dropping in
    let at = dropping-place c.args.entries.now.items c.loop-at.entries.items c.args.number c.args.place c.loop-at.at c.index.result.now h c.loop-at-test.true c.index.ensures in
    omega (arith, c.past-next.ensures.before, at.1, h.falls (c.loop-at.at - 1), c.loop-at-test.true)

pub returns-clause-place : goal.returns-clause-place
returns-clause-place c = record { falls = c.loop-at.invariant.dropping.falls; within = omega (arith, c.requires.place.within, c.loop-at.invariant.dropping.len) }

pub returns-clause-gone : goal.returns-clause-gone
returns-clause-gone c = dropping-last c.args.entries.now.items c.loop-at.entries.items c.args.number c.args.place c.loop-at.at c.loop-at.invariant.dropping (omega (arith, c.loop-at-test.false))

pub returns-clause-drops : goal.returns-clause-drops
returns-clause-drops c = c.loop-at.invariant.dropping.drops

pub returns-clause-numbers : goal.returns-clause-numbers
returns-clause-numbers c = c.loop-at.invariant.dropping.numbers
