use Rattle.std.proofs.Common.{List, [], ◌∷◌, ◌++◌, ap, ◌∙◌}
use Rattle.mission_items.specs.declared.item.Item.{Item}
use Rattle.demo_spec.specs.Mission.{beacon_of, bounds_of, demo_items, each_until, ping_of}
use Rattle.demo_mission.proofs.Pieces.{single}
use Rattle.demo_mission.proofs.log.records.Goals as goal

pub returns : goal.returns
unfolding demo_items
returns c =
    let words : List Rattle.std.proofs.Common.ℕ = c.args.course.now in
    single _ _ _ _ c.in_ok-push.ensures.items c.question.ensures
    ∙ ap (λ (l : List Item). l ++ _) (c.in_ok-push_pings.ensures
    ∙ ap (λ (l : List Item). l ++ each_until (λ i. ping_of words i ∷ []) 40) (c.in_ok-push_beacons.ensures
    ∙ ap (λ (l : List Item). l ++ each_until (λ i. beacon_of words i ∷ []) 5) (c.in_ok-push_bounds.ensures
    ∙ ap (λ (l : List Item). l ++ each_until (bounds_of words) 20) c.in_ok-items.ensures)))
