use Rattle.std.proofs.Common.{[], ◌∷◌, List}
use Rattle.any_ctc.specs.Constraints.{Constraint, DelayToOf, DelayFromOf, DelayShiftOf}
use Rattle.mission_net.specs.Building.{IsAdded}
use Rattle.mission_net.proofs.Additions.{can-first, can-rest}
use Rattle.mission_net.proofs.motion.add_delay.Goals as goal

pub add_contractor-requires-2 : goal.add_contractor-requires-2
add_contractor-requires-2 c =
    let x = c.args.x.0 in
    let y = c.args.y.0 in
    let tau = c.args.tau.0 in
    let to : List Constraint = DelayToOf x y tau ∷ [] in
    let from : List Constraint = DelayFromOf x y tau ∷ [] in
    let shift : List Constraint = DelayShiftOf x y tau ∷ [] in
    let added : IsAdded [] to c.args.net.now c.add_contractor.new.net = rw c.new.ensures at c.in_ok-add_contractor.ensures.added in
    rw c.new-2.ensures (can-first from shift c.add_contractor.new.net (can-rest to (DelayFromOf x y tau ∷ DelayShiftOf x y tau ∷ []) c.args.net.now c.add_contractor.new.net c.requires added))

pub add_contractor-requires-3 : goal.add_contractor-requires-3
add_contractor-requires-3 c =
    let x = c.args.x.0 in
    let y = c.args.y.0 in
    let tau = c.args.tau.0 in
    let to : List Constraint = DelayToOf x y tau ∷ [] in
    let from : List Constraint = DelayFromOf x y tau ∷ [] in
    let shift : List Constraint = DelayShiftOf x y tau ∷ [] in
    let added : IsAdded [] to c.args.net.now c.add_contractor.new.net = rw c.new.ensures at c.in_ok-add_contractor.ensures.added in
    let next : IsAdded [] from c.add_contractor.new.net c.add_contractor-2.new.net = rw c.new-2.ensures at c.in_ok-add_contractor-2.ensures.added in
    rw c.new-3.ensures (can-rest from shift c.add_contractor.new.net c.add_contractor-2.new.net (can-rest to (DelayFromOf x y tau ∷ DelayShiftOf x y tau ∷ []) c.args.net.now c.add_contractor.new.net c.requires added) next)
