use Rattle.round_firing.proofs.Rounds.{IsRound}
use Rattle.round_firing.proofs.fire_round.Given as goal

-- those before were asked
abbrev pub invariant-loop-number : goal.invariant-loop-number
invariant-loop-number g l = IsRound g.C.Contractor.projections l.fn.net l.net l.number l.answer
