use Rattle.std.proofs.Common.{◌+◌, [], ◌∷◌}
use Rattle.mission_net.specs.Tables.{evaluation_by}
use Rattle.mission_net.proofs.Additions.{can-rest}
use Rattle.mission_net.proofs.points.add_place.Goals as goal

pub add_evaluation-requires-2-clause-room : goal.add_evaluation-requires-2-clause-room
add_evaluation-requires-2-clause-room c =
    let t = c.args.made.now in
    let first = c.args.first in
    can-rest (evaluation_by t c.args.x.0 first (first + 1) ∷ []) (evaluation_by t c.args.y.0 first (first + 2) ∷ []) c.args.net.now c.add_evaluation.new.net c.requires.room c.in_ok-add_evaluation.ensures
