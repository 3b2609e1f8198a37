use Rattle.std.proofs.Common.{inl, inr, map, Contains}
use Rattle.tube_spec.specs.Projection.{Projection}
use Rattle.tube_store.specs.Resets.{cell_in}
use Rattle.ctc_network.proofs.Naming.{any-second, any-cases}
use Rattle.ctc_network.proofs.using.uses.Goals as goal

pub returns-else-reads_one : goal.returns-else-reads_one
returns-else-reads_one g c =
    let scope = g.C.Contractor.scope c.args.c.now c.args.store.now.shape in
    let targets = map (λ (p : Projection). p.target) (g.C.Contractor.projections c.args.c.now c.args.store.now.shape) in (
      λ yes. any-second (Contains (map cell_in c.args.cells.now)) scope targets (c.writes_one.ensures.0 yes),
      λ used. elim (any-cases (Contains (map cell_in c.args.cells.now)) scope targets used) [
        | inl h ↦ let yes = c.reads_one.ensures.1 h in absurd (cc (yes, c.if-reads_one.false))
        | inr h ↦ c.writes_one.ensures.1 h
      ],
    )
