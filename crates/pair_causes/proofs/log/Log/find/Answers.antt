use Rattle.std.proofs.Common.{List, ℕ, Bor, map, ap, ◌∙◌}
use Rattle.mission_items.specs.declared.mission.Mission.{Mission}
use Rattle.pair_causes.specs.Links.{signal_names}
use Rattle.pair_causes.proofs.Names.{called-at}
use Rattle.pair_causes.proofs.log.Log.find.Goals as goal

pub returns-in-Some : goal.returns-in-Some
returns-in-Some c =
    called-at c.as_slice.result.now (signal_names c.args.self.now.items) c.args.word.now _ c.in-Some.ensures.value
    (ap (map (λ (n : Bor (List ℕ)). n.now)) c.as_slice.ensures.value ∙ (c.self.invariant.0 ∙ ap (λ (m : Mission). signal_names m.items) c.self.view_is))

pub returns-in-None : goal.returns-in-None
returns-in-None c =
    called-at c.as_slice.result.now (signal_names c.args.self.now.items) c.args.word.now _ c.in-None.ensures.value
    (ap (map (λ (n : Bor (List ℕ)). n.now)) c.as_slice.ensures.value ∙ (c.self.invariant.0 ∙ ap (λ (m : Mission). signal_names m.items) c.self.view_is))
