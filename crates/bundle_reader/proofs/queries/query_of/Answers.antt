use Rattle.bundle_reader.proofs.Fronts.{no_part, no_rest}
use Rattle.bundle_reader.proofs.QueryParts.{no_done, number_parts, other_done, query_here, sets_parts}
use Rattle.bundle_reader.proofs.queries.query_of.Goals as goal

pub returns-in_default : goal.returns-in_default
returns-in_default c = no_part number_parts c.args.bytes.now c.in_default.ensures

pub returns-in_default-2 : goal.returns-in_default-2
returns-in_default-2 c =
    no_rest number_parts c.args.bytes.now c.in-Some.number c.in-Some.rest.now c.in-Some.ensures (no_part sets_parts c.in-Some.rest.now (rw c.in_default-2.is at c.in_ok-sets.ensures))

pub returns-in_default-number_after : goal.returns-in_default-number_after
returns-in_default-number_after c =
    let here = rw c.in-Some-2.is at c.in_ok-sets.ensures in
    no_done c.args.bytes.now c.in-Some.number c.in-Some.rest.now c.in-Some.ensures c.in-Some-2.sets c.in-Some-2.rest.now here c.in_default-number_after.ensures

pub returns-then-done-number : goal.returns-then-done-number
returns-then-done-number c =
    let here = rw c.in-Some-2.is at c.in_ok-sets.ensures in
    other_done c.args.bytes.now c.in-Some.number c.in-Some.rest.now c.in-Some.ensures c.in-Some-2.sets c.in-Some-2.rest.now here c.in-Some-number_after.done c.in-Some-number_after.rest.now c.in-Some-number_after.ensures
    c.if-done-number.true

pub returns : goal.returns
returns c =
    let here = rw c.in-Some-2.is at c.in_ok-sets.ensures in
    query_here c.args.bytes.now c.in-Some.number c.in-Some.rest.now c.in-Some.ensures c.in-Some-2.sets c.in-Some-2.rest.now here c.in-Some-number_after.done c.in-Some-number_after.rest.now c.in-Some-number_after.ensures
    c.if-done-number.false
