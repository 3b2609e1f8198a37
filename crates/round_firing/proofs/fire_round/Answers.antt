use Rattle.std.proofs.Common.{◌+◌, ◌≤◌, arith, ap, length, rules, subst, sym}
use Rattle.ctc_core.specs.declared.Revised.{Revised}
use Rattle.ctc_network.specs.Nets.{of_place}
use Rattle.ctc_network.proofs.Replaying.{run-then}
use Rattle.round_firing.proofs.Rounds.{IsRound, asked-narrowed, asked-same, round-says}
use Rattle.round_firing.proofs.fire_round.Goals as goal
use Rattle.round_firing.proofs.fire_round.Goals.{in-Same, in-Narrowed}

pub returns-in-Empty-clause-narrowed : goal.returns-in-Empty-clause-narrowed
returns-in-Empty-clause-narrowed g c =
    let before = c.loop-number.invariant in
    run-then (of_place g.C.Contractor.projections) c.args.net.now.contractors c.loop-number.net.contractors c.args.net.now.store c.loop-number.net.store c.fire_waiting.new.net.store before.contractors before.narrowed c.fire_waiting.ensures.narrowed

pub loop-number-preserved : goal.loop-number-preserved
loop-number-preserved g c =
    let K = g.C.Contractor in
    elim c.match-fire_waiting.branch [
      | in-Same w ↦
          subst (IsRound K.projections c.args.net.now c.fire_waiting.new.net (c.loop-number.number + 1)) (sym w.answer-is)
          (asked-same K.projections c.args.net.now c.loop-number.net c.fire_waiting.new.net c.loop-number.number c.loop-number.answer c.fire_waiting.result w.in-Same.is c.loop-number.invariant c.fire_waiting.ensures.contractors c.fire_waiting.ensures.narrowed c.fire_waiting.ensures.says)
      | in-Narrowed w ↦
          subst (IsRound K.projections c.args.net.now c.fire_waiting.new.net (c.loop-number.number + 1)) (sym w.answer-is)
          (asked-narrowed K.projections c.args.net.now c.loop-number.net c.fire_waiting.new.net c.loop-number.number c.loop-number.answer c.fire_waiting.result w.in-Narrowed.is c.loop-number.invariant c.fire_waiting.ensures.contractors c.fire_waiting.ensures.narrowed c.fire_waiting.ensures.says)
    ]

pub returns-clause-says : goal.returns-clause-says
returns-clause-says g c =
    let K = g.C.Contractor in
    let all : length c.loop-number.net.contractors ≤ c.loop-number.number = omega (arith, c.loop-number-test.false, c.numbers-number-end.ensures, ap length c.loop-number.invariant.contractors) in
    round-says K.projections K.scope K.fits c.args.net.now c.loop-number.net c.loop-number.number c.loop-number.answer c.loop-number.invariant c.known.ensures all
