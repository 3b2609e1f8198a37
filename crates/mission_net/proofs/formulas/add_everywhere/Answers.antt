use Rattle.std.proofs.Common.{◌≡◌, ℕ, ◌-◌, [], ◌∷◌, arith, subst, length}
use Rattle.expr_hc4.specs.Programs.{bound_comparison}
use Rattle.expr_hc4.specs.declared.places.Place.TheVariants.{Gate}
use Rattle.ctc_deriv.specs.Bounds.{each_below}
use Rattle.any_ctc.specs.Constraints.{ExprOf}
use Rattle.mission_net.specs.Records.{formula_at}
use Rattle.mission_net.specs.Building.{CanAdd, IsAdded}
use Rattle.mission_net.proofs.Additions.{can-rest, can-row, row-more}
use Rattle.mission_net.proofs.formulas.add_everywhere.Goals as goal

pub add_slice-requires : goal.add_slice-requires
add_slice-requires c =
    let flat = c.args.flat.now.value in
    let l = c.loop-slice in
    let n = length c.args.net.now.store.shape.grid - 1 in
    can-row (formula_at flat.leaves (bound_comparison flat)) (ExprOf (Gate n) flat.leaves (bound_comparison flat) ∷ []) n l.slice c.args.net.now l.net (omega (arith, c.loop-slice-test.true, c.requires.slices)) c.requires.room l.invariant

pub loop-slice-preserved : goal.loop-slice-preserved
loop-slice-preserved c =
    let flat = c.args.flat.now.value in
    let l = c.loop-slice in
    row-more (formula_at flat.leaves (bound_comparison flat)) l.slice c.args.net.now l.net c.add_slice.new.net l.invariant c.in_ok-add_slice.ensures

pub add_at-requires : goal.add_at-requires
add_at-requires c =
    let flat = c.args.flat.now.value in
    let l = c.loop-slice in
    let n = length c.args.net.now.store.shape.grid - 1 in
    let whole : l.slice ≡ n = omega (arith, c.loop-slice-test.false, l.auto.slice-end, c.requires.slices) in
    let last : n ≡ c.args.slices = omega (arith, c.requires.slices) in
    let all = subst (λ (i : ℕ). IsAdded [] (each_below (formula_at flat.leaves (bound_comparison flat)) i) c.args.net.now l.net) whole l.invariant in
    subst (λ (i : ℕ). CanAdd (ExprOf (Gate i) flat.leaves (bound_comparison flat) ∷ []) l.net) last
    (can-rest (each_below (formula_at flat.leaves (bound_comparison flat)) n) (ExprOf (Gate n) flat.leaves (bound_comparison flat) ∷ []) c.args.net.now l.net c.requires.room all)
