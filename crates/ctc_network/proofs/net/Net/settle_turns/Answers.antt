use Rattle.std.proofs.Common.{◌∙◌, ◌*◌}
use Rattle.ctc_network.specs.Nets.{of_place}
use Rattle.ctc_network.proofs.Resettling.{settles-below, empty-or-spent, next-turn, next-bound}
use Rattle.ctc_network.proofs.net.Net.settle_turns.Goals as goal

pub loop-turn-preserved : goal.loop-turn-preserved
loop-turn-preserved g c =
    let K = g.C.Contractor in
    let h = c.loop-turn.invariant in
    let e = c.settle-answer-in-Spent.ensures in
    let first = c.args.self.now in
    let mid = c.loop-turn.self in
    let new = c.settle-answer-in-Spent.new.self in
    record {
      contractors = e.contractors ∙ h.contractors;
      shape = e.shape ∙ h.shape;
      settled = next-turn (of_place K.projections) first mid new c.loop-turn._turn c.args.budget c.in-Spent.field-0 c.loop-turn.answer c.settle-answer-in-Spent.result h.contractors h.shape c.in-Spent.is h.settled e.settled;
      resting = e.resting;
      emptied = λ none. absurd (empty-or-spent c.loop-turn.answer c.in-Spent.field-0 (h.emptied none).0 c.in-Spent.is);
      bound = next-bound (of_place K.scope) first mid new c.loop-turn._turn c.args.steps.now c.loop-turn.steps c.settle-answer-in-Spent.new.steps h.contractors h.shape c.known-in-Spent.ensures.places.beside
          (settles-below (λ k. of_place K.projections k first.store.shape) first.contractors (c.loop-turn._turn * c.args.budget) first.store mid.store c.loop-turn.answer h.settled)
          (settles-below (λ k. of_place K.projections k mid.store.shape) mid.contractors c.args.budget mid.store new.store c.settle-answer-in-Spent.result e.settled)
          h.bound e.bound;
    }
