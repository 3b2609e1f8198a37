use Rattle.std.proofs.Common.{sym, ◌∙◌}
use Rattle.bundle_reader.proofs.BundleParts.{bundle_here, bytes_left, no_log, no_size}
use Rattle.bundle_reader.proofs.read.bundle_of.Goals as goal

pub returns-in_default : goal.returns-in_default
returns-in_default c = no_size c.args.bytes.now c.in_default.ensures

pub returns-in_default-log_of : goal.returns-in_default-log_of
returns-in_default-log_of c = no_log c.args.bytes.now c.in-Some.size c.in-Some.rest.now c.in-Some.ensures c.in_default-log_of.ensures

pub returns-then-not-is_empty : goal.returns-then-not-is_empty
returns-then-not-is_empty c =
    bytes_left c.args.bytes.now c.in-Some.size c.in-Some.rest.now c.in-Some.ensures c.in-Some-log_of.log.now c.in-Some-log_of.rest.now c.in-Some-log_of.ensures.0 c.in-Some-log_of.ensures.1
    c.in_ok-sections.sections c.in_ok-sections.rest.now c.in_ok-sections.ensures c.in_ok-queries.queries c.in_ok-queries.rest.now c.in_ok-queries.ensures (sym c.is_empty.ensures ∙ c.if-not-is_empty.true)

pub returns : goal.returns
returns c =
    rw (c.new.ensures ∙ c.in_ok-log.ensures.items)
    (bundle_here c.args.bytes.now c.in-Some.size c.in-Some.rest.now c.in-Some.ensures c.in-Some-log_of.log.now c.in-Some-log_of.rest.now c.in-Some-log_of.ensures.0 c.in-Some-log_of.ensures.1
    c.in_ok-sections.sections c.in_ok-sections.rest.now c.in_ok-sections.ensures c.in_ok-queries.queries c.in_ok-queries.rest.now c.in_ok-queries.ensures (sym c.is_empty.ensures ∙ c.if-not-is_empty.false))
