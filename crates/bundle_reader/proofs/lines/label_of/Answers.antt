use Rattle.loop_degree.specs.declared.labels.Label.TheVariants.{East, West, North, South}
use Rattle.bundle_reader.proofs.Rows.{label_here, no_label}
use Rattle.bundle_reader.proofs.lines.label_of.Goals as goal

pub returns-in_err-rest : goal.returns-in_err-rest
returns-in_err-rest c = rw (c.from_residual.ensures) (no_label c.args.bytes.now c.in_default.ensures c.in_default-after.ensures c.in_default-after-2.ensures c.in_err-rest.ensures)

pub returns-in-Some : goal.returns-in-Some
returns-in-Some c = label_here East c.args.bytes.now c.in-Some.rest.now c.in-Some.ensures

pub returns-in-Some-after : goal.returns-in-Some-after
returns-in-Some-after c = label_here West c.args.bytes.now c.in-Some-after.rest.now c.in-Some-after.ensures

pub returns-in-Some-after-2 : goal.returns-in-Some-after-2
returns-in-Some-after-2 c = label_here North c.args.bytes.now c.in-Some-after-2.rest.now c.in-Some-after-2.ensures

pub returns : goal.returns
returns c = label_here South c.args.bytes.now c.in_ok-rest.rest.now c.in_ok-rest.ensures
