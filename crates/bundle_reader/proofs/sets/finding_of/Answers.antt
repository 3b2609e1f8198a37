use Rattle.std.proofs.Common.{w64}
use Rattle.std.proofs.lemmas.Int.{to_z-of_z}
use Rattle.bundle_reader.proofs.Findings.{degree_here, no_finding, sure_here, unproved_here}
use Rattle.bundle_reader.proofs.Numbers.{degree_fits}
use Rattle.bundle_reader.proofs.sets.finding_of.Goals as goal

pub returns-in_err-degree : goal.returns-in_err-degree
returns-in_err-degree c = rw (c.from_residual.ensures) (no_finding c.args.bytes.now c.in_default.ensures c.in_default-ticks_after.ensures c.in_err-degree.ensures)

pub returns-in-Some : goal.returns-in-Some
returns-in-Some c = unproved_here c.args.bytes.now c.in-Some.rest.now c.in-Some.ensures

pub returns-in-Some-ticks_after : goal.returns-in-Some-ticks_after
returns-in-Some-ticks_after c = sure_here c.args.bytes.now c.in-Some-ticks_after.a c.in-Some-ticks_after.b c.in-Some-ticks_after.rest.now c.in-Some-ticks_after.ensures

pub returns : goal.returns
returns c =
    rw (to_z-of_z w64 c.in_ok-degree.degree (degree_fits c.in_ok-degree.degree c.in_ok-degree.ensures.right)) (degree_here c.args.bytes.now c.in_ok-degree.degree c.in_ok-degree.rest.now c.in_ok-degree.ensures)
