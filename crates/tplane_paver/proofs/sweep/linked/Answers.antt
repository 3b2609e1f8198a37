use Rattle.std.proofs.Common.{◌≡◌, ◌+◌, arith, sym, subst, List, ℕ, length}
use Rattle.tplane_paver.specs.Runs.{run_at}
use Rattle.tplane_paver.specs.Forests.{IsSwept}
use Rattle.tplane_paver.proofs.Sweeps.{written-back, clear-later, swept-start}
use Rattle.tplane_paver.proofs.sweep.linked.Goals as goal

pub loop-j-init : goal.loop-j-init
loop-j-init c = record { swept = swept-start c.args.runs.now c.in_ok-parents.parents.items c.in_ok-parents.ensures.len c.in_ok-parents.ensures.own; low = omega arith; clear = λ k h l. absurd (omega (arith, h)) }

pub loop-j-preserved : goal.loop-j-preserved
loop-j-preserved c =
    let len : c.loop-j.parents.len ≡ length c.link_back.new.parents = omega (arith, c.link_back.ensures.len, c.loop-j.invariant.swept.len, c.loop-j.parents.ok) in
    record {
      swept = subst (λ (l : List ℕ). IsSwept c.args.runs.now l (c.loop-j.j + 1)) (sym (written-back c.loop-j.parents.len c.link_back.new.parents c.loop-j.parents.items len)) c.link_back.ensures;
      low = omega (arith, c.first_near-low.ensures.range);
      clear = λ k h l. clear-later (run_at c.args.runs.now k) (run_at c.args.runs.now c.loop-j.j) (run_at c.args.runs.now (c.loop-j.j + 1)) (c.requires.order.some c.loop-j.j c.loop-j-test.true) (c.requires.order.order c.loop-j.j (c.loop-j.j + 1) (omega arith) l) (c.first_near-low.ensures.clear k h);
    }
