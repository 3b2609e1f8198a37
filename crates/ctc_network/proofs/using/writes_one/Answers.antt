use Rattle.std.proofs.Common.{◌<◌, ◌∙◌, length, map, refl, sym, arith}
use Rattle.std.proofs.lemmas.List.{length-map}
use Rattle.tube_spec.specs.Projection.{Projection}
use Rattle.tube_store.specs.Resets.{cell_in}
use Rattle.ctc_network.proofs.Naming.{named-one, none-more, none-all, target-at}
use Rattle.ctc_network.proofs.using.writes_one.Goals as goal

pub loop-i-init : goal.loop-i-init
loop-i-init g c = λ j l n. absurd (omega (arith, l))

pub loop-i-preserved : goal.loop-i-preserved
loop-i-preserved g c =
    let ps = g.C.Contractor.projections c.args.c.now c.args.store.now.shape in
    let l : c.loop-i.i < length ps = omega (arith, c.loop-i-test.true, c.writes-i-end.ensures) in
    none-more (map (λ (p : Projection). p.target) ps) (map cell_in c.args.cells.now) c.loop-i.i c.written.result.0 (c.written.ensures ∙ sym (target-at ps c.loop-i.i l)) (λ n. let yes = c.is_among.ensures.1 n in absurd (cc (yes, c.if-is_among.false))) c.loop-i.invariant

pub returns-then-is_among : goal.returns-then-is_among
returns-then-is_among g c =
    let ps = g.C.Contractor.projections c.args.c.now c.args.store.now.shape in
    let l : c.loop-i.i < length ps = omega (arith, c.loop-i-test.true, c.writes-i-end.ensures) in (
      λ yes.
          named-one (map (λ (p : Projection). p.target) ps) (map cell_in c.args.cells.now) c.loop-i.i c.written.result.0 (omega (arith, l, length-map ps (λ (p : Projection). p.target))) (c.written.ensures ∙ sym (target-at ps c.loop-i.i l))
          (c.is_among.ensures.0 c.if-is_among.true),
      λ there. refl,
    )

pub returns : goal.returns
returns g c =
    let ps = g.C.Contractor.projections c.args.c.now c.args.store.now.shape in (
      λ yes. absurd (cc),
      λ there.
          absurd (none-all (map (λ (p : Projection). p.target) ps) (map cell_in c.args.cells.now) c.loop-i.i (omega (arith, c.loop-i-test.false, c.writes-i-end.ensures, length-map ps (λ (p : Projection). p.target))) c.loop-i.invariant there),
    )
