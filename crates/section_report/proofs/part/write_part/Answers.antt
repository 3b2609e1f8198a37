use Rattle.std.proofs.Common.{ap, ◌∙◌, length, take}
use Rattle.tube_spec.specs.Shape.{Shape}
use Rattle.tube_store.specs.State.{State}
use Rattle.mission_net.proofs.Counts.{signals-count, variables-count}
use Rattle.section_report.proofs.part.write_part.Goals as goal

pub write_section-written-requires-clause-signals : goal.write_section-written-requires-clause-signals
write_section-written-requires-clause-signals g c =
    let m = c.args.mission.now in
    let items = take c.args.part.upto m.items in
    ap (λ (s : State). length s.shape.signals) c.store.ensures ∙ ap (λ (s : Shape). length s.signals) c.in_ok-end.ensures.holds.shape ∙ signals-count m.cuts items

pub write_section-written-requires-clause-variables : goal.write_section-written-requires-clause-variables
write_section-written-requires-clause-variables g c =
    let m = c.args.mission.now in
    let items = take c.args.part.upto m.items in
    ap (λ (s : State). length s.shape.vars) c.store.ensures ∙ ap (λ (s : Shape). length s.vars) c.in_ok-end.ensures.holds.shape ∙ variables-count m.cuts items
