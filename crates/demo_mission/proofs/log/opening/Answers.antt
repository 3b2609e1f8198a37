use Rattle.std.proofs.Common.{List, [], ◌∷◌, ◌++◌, ap, ◌∙◌}
use Rattle.mission_items.specs.declared.item.Item.{Item}
use Rattle.mission_items.specs.declared.item.Item.TheVariants as item
use Rattle.demo_spec.specs.Mission.{motions, opening, signals}
use Rattle.demo_mission.proofs.log.opening.Goals as goal

pub returns : goal.returns
unfolding opening
returns c =
    c.in_ok-push_motions.ensures
    ∙ ap (λ (l : List Item). l ++ motions) (c.in_ok-push_signals.ensures
    ∙ ap (λ (l : List Item). l ++ signals) (c.in_ok-push.ensures.items ∙ ap (λ (l : List Item). l ++ item.Head ∷ []) c.new-items.ensures.items))
