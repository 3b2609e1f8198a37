use Rattle.std.proofs.Common.{w64, SFits, ℤ, arith, ◌≡◌, ◌++◌, ◌∷◌, [], map, subst, sym, ap, ◌∙◌}
use Rattle.std.proofs.lemmas.Int.{ints, to_z-of_z}
use Rattle.loop_prover.proofs.Stepping.{fits}
use Rattle.tube_spec.specs.Grid.{last_tick}
use Rattle.tube_spec.specs.Tick.{at_tick}
use Rattle.loop_degree.specs.Steps.{step_of, greatest_in}
use Rattle.loop_sets.specs.Bounds.{AreSteps}
use Rattle.loop_sets.proofs.Stepping.{made-all, made-more, step-told, steps-more, length-step}
use Rattle.loop_sets.proofs.bounds.all_steps.Goals as goal

pub loop-tick-preserved : goal.loop-tick-preserved
loop-tick-preserved c =
    let r = c.greatest_left.result in
    let small : SFits w64 r = fits r c.greatest_left.ensures.least (omega (arith, ints, c.greatest_left.ensures.most)) in
    let read = to_z-of_z w64 r small in
    let all : c.push.new.self.items ≡ c.loop-tick.steps.items ++ c.greatest_left.result ∷ [] = c.in_ok-push.ensures.items ∙ ap (λ (x : ℤ). c.loop-tick.steps.items ++ x ∷ []) read in
    record {
      len = length-step c.loop-tick.steps.items c.push.new.self.items c.greatest_left.result c.loop-tick.tick c.loop-tick.invariant.len all;
      made = made-more c.args.store.now.box (λ xs k. greatest_in (step_of (at_tick c.args.store.now.shape xs) c.args.x.0 (map (λ r. r.0) c.args.rates.now) k)) c.loop-tick.tick c.loop-tick.steps.items c.push.new.self.items c.greatest_left.result
          c.loop-tick.invariant.made (step-told c.args.store.now.box c.args.store.now.shape c.args.x.0 c.loop-tick.tick (map (λ r. r.0) c.args.rates.now) c.args.tube.now c.change_between-change.result c.greatest_left.result
          (let e = ap last_tick c.grid.ensures in omega (arith, e)) c.requires.tube c.change_between-change.ensures.value c.greatest_left.ensures.value) all;
      small = subst AreSteps (sym all) (steps-more c.loop-tick.steps.items c.greatest_left.result c.loop-tick.invariant.small c.greatest_left.ensures.least c.greatest_left.ensures.most);
    }

pub returns-clause-made : goal.returns-clause-made
returns-clause-made c =
    made-all c.args.store.now.box (λ xs k. greatest_in (step_of (at_tick c.args.store.now.shape xs) c.args.x.0 (map (λ r. r.0) c.args.rates.now) k)) c.loop-tick.tick (last_tick c.args.store.now.shape.grid) c.loop-tick.steps.items (let e = ap last_tick c.grid.ensures in omega (arith, e)) c.loop-tick.invariant.made
