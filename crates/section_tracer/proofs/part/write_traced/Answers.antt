use Rattle.std.proofs.Common.{ap, ◌∙◌, length, take}
use Rattle.tube_spec.specs.Shape.{Shape}
use Rattle.tube_io.proofs.Sent.{sends_then}
use Rattle.mission_net.proofs.Counts.{signals-count, variables-count}
use Rattle.section_tracer.proofs.part.write_traced.Goals as goal

pub write_section-requires-clause-signals : goal.write_section-requires-clause-signals
write_section-requires-clause-signals g c =
    let m = c.args.mission.now in
    ap (λ (s : Shape). length s.signals) c.requires.shape ∙ signals-count m.cuts (take c.args.part.upto m.items)

pub write_section-requires-clause-variables : goal.write_section-requires-clause-variables
write_section-requires-clause-variables g c =
    let m = c.args.mission.now in
    ap (λ (s : Shape). length s.vars) c.requires.shape ∙ variables-count m.cuts (take c.args.part.upto m.items)

pub returns : goal.returns
returns g c = sends_then _ _ _ _ _ _ _ _ _ c.in_ok-write_fires.ensures c.write_section.ensures
