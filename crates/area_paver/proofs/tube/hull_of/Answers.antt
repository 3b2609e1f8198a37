use Rattle.tube_spec.specs.Span.{Span, join_of}
use Rattle.std.proofs.Common.{◌≡◌, ◌↔◌, ◌⊎◌, inl, inr, ℕ, ◌+◌, ◌*◌, ◌<◌, ◌≤◌, ℤ, pos, ◌+ℤ◌, ◌-ℤ◌, ◌*ℤ◌, ◌≤ℤ◌, List, arith, refl, sym, subst, ap, rules, ◌∙◌}
use Rattle.std.proofs.lemmas.Int.{ints, clamps}
use Rattle.area_paver.proofs.Tables.{hull-more, bounded-join}
use Rattle.area_paver.proofs.tube.hull_of.Goals as goal

pub loop-i-preserved : goal.loop-i-preserved
loop-i-preserved c =
    record {
      range = hull-more c.args.store.now.box c.args.store.now.shape c.args.signal.0 c.loop-i.i _ _ c.loop-i.hull c.get-envelope.result c.get-gate.result _ c.loop-i.invariant.range c.get-envelope.ensures.value c.envelope.ensures.cell c.get-gate.ensures.value c.gate-in-loop-i.ensures.cell (c.hull-hull.ensures.value ∙ ap (λ (s : Span). join_of s c.get-gate.result) c.hull.ensures.value);
      bounded = bounded-join _ _ _ c.hull-hull.ensures.value (bounded-join _ _ _ c.hull.ensures.value c.loop-i.invariant.bounded c.get-envelope.ensures.bounded) c.get-gate.ensures.bounded;
    }
