use Rattle.std.proofs.Common.{arith}
use Rattle.std.proofs.lemmas.Int.{ints}
use Rattle.demo_mission.proofs.Pieces.{span-is}
use Rattle.std.proofs.Common.{◌∙◌}
use Rattle.demo_mission.proofs.record.around.Goals as goal

pub returns : goal.returns
returns c =
    let made = rw c.unwrap.ensures at c.new.ensures.value in
    made ∙ span-is _ _ _ _ (omega (arith, ints)) (omega (arith, ints))
