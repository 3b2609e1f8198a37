use Rattle.std.proofs.Common.{arith, ◌/◌, ◌≡◌, w64, to_z, of_z}
use Rattle.std.proofs.lemmas.Int.{ints, clamps}
use Rattle.loop_sets.specs.Tables.{IsSmallNumber}
use Rattle.loop_sets.proofs.Tabling.{top-between, read-small}
use Rattle.loop_sets.proofs.blocks.top_over.Goals as goal

pub returns : goal.returns
returns c =
    let a = c.greatest-before.result in
    let b = c.greatest-after.result in
    let m = c.in_ok-between.between in
    let is-a = c.greatest-before.ensures in
    let is-b = c.greatest-after.ensures in
    let is-m = c.in_ok-between.ensures in
    let read-a = read-small a is-a.small in
    let read-b = read-small b is-b.small in
    let read-m = read-small m is-m.small in
    let one = c.max.ensures.value in
    let two = c.max-2.ensures.value in
    let small : IsSmallNumber c.max-2.result = (omega (arith, ints, clamps, one, two, read-a, read-b, read-m, is-a.small, is-b.small, is-m.small), omega (arith, ints, clamps, one, two, read-a, read-b, read-m, is-a.small, is-b.small, is-m.small)) in
    rw (read-small c.max-2.result small) (top-between c.args.values.now c.args.tops.now c.args.first c.args.last (c.args.first / 32) (c.args.last / 32) a b m c.max-2.result
    c.requires.blocks c.requires.within (omega arith) (omega arith) is-a is-b is-m
    (omega (arith, ints, clamps, one, two, read-a, read-b, read-m)) (omega (arith, ints, clamps, one, two, read-a, read-b, read-m)) (omega (arith, ints, clamps, one, two, read-a, read-b, read-m)) small)
