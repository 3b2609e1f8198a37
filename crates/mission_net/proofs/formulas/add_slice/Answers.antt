use Rattle.std.proofs.Common.{[], ◌∷◌}
use Rattle.expr_hc4.specs.Programs.{bound_comparison}
use Rattle.expr_hc4.specs.declared.places.Place.TheVariants.{Gate, Envelope}
use Rattle.any_ctc.specs.Constraints.{ExprOf}
use Rattle.mission_net.proofs.Additions.{can-rest}
use Rattle.mission_net.proofs.formulas.add_slice.Goals as goal

pub add_at-requires-2 : goal.add_at-requires-2
add_at-requires-2 c =
    let flat = c.args.flat.now.value in
    can-rest (ExprOf (Gate c.args.slice) flat.leaves (bound_comparison flat) ∷ []) (ExprOf (Envelope c.args.slice) flat.leaves (bound_comparison flat) ∷ []) c.args.net.now c.add_at.new.net c.requires c.in_ok-add_at.ensures
