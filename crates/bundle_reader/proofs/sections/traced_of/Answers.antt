use Rattle.std.proofs.Common.{ap, sym, ◌∙◌, length}
use Rattle.bundle_reader.proofs.Fronts.{no_part}
use Rattle.bundle_reader.proofs.SectionParts.{fires_parts, no_section, other_count, other_number, traced_here}
use Rattle.bundle_reader.proofs.sections.traced_of.Goals as goal

pub returns-in_default : goal.returns-in_default
returns-in_default c = no_part fires_parts c.args.bytes.now c.in_default.ensures

pub returns-then-as_slice-count : goal.returns-then-as_slice-count
returns-then-as_slice-count c =
    other_count c.args.bytes.now c.in-Some.number c.in-Some.count c.in-Some.rest.now c.in-Some.ensures c.in_ok-fired.fired c.in_ok-fired.rest.now c.in_ok-fired.ensures
    (λ e. c.if-as_slice-count.true (ap length c.as_slice.ensures ∙ e))

pub returns-in_default-2 : goal.returns-in_default-2
returns-in_default-2 c =
    no_section c.args.bytes.now c.in-Some.number c.in-Some.count c.in-Some.rest.now c.in-Some.ensures c.in_ok-fired.fired c.in_ok-fired.rest.now c.in_ok-fired.ensures (rw c.in_default-2.is at c.in_ok-section.ensures)

pub returns-then-section-number : goal.returns-then-section-number
returns-then-section-number c =
    let here = rw c.in-Some-2.is at c.in_ok-section.ensures in
    other_number c.args.bytes.now c.in-Some.number c.in-Some.count c.in-Some.rest.now c.in-Some.ensures c.in_ok-fired.fired c.in_ok-fired.rest.now c.in_ok-fired.ensures c.in-Some-2.section c.in-Some-2.rest.now here
    c.if-section-number.true

pub returns : goal.returns
returns c =
    let here = rw c.in-Some-2.is at c.in_ok-section.ensures in
    traced_here c.args.bytes.now c.in-Some.number c.in-Some.count c.in-Some.rest.now c.in-Some.ensures c.in_ok-fired.fired c.in_ok-fired.rest.now c.in_ok-fired.ensures c.in-Some-2.section c.in-Some-2.rest.now here
    (sym (ap length c.as_slice.ensures) ∙ c.if-as_slice-count.false)
    c.if-section-number.false
