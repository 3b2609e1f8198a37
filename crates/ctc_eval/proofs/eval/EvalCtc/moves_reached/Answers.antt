use Rattle.std.proofs.Common.{◌≡◌, ℕ, ◌+◌, ◌≤◌, false, true, List, length, map, arith, sym, ap, subst, ◌∙◌}
use Rattle.std.specs.List.{range_with_len}
use Rattle.tube_spec.specs.Projection.{Projection}
use Rattle.slice_gates.specs.Near.{gates_of}
use Rattle.ctc_eval.specs.Evals.{reached_projection}
use Rattle.ctc_eval.specs.Blocks.{IsMoved}
use Rattle.ctc_eval.proofs.Places.{gates-near}
use Rattle.ctc_eval.proofs.Blocks.{gates-range, gates-inside}
use Rattle.ctc_eval.proofs.Moving.{moved-among, moved-more}
use Rattle.ctc_eval.proofs.eval.EvalCtc.moves_reached.Goals as goal

pub moves_block-requires-clause-gates : goal.moves_block-requires-clause-gates
moves_block-requires-clause-gates c =
    gates-near c.args.near c.first-from.result c.loop-done.done c.min-here.result c.first-from.ensures c.requires.found.order (omega (arith, c.gates-count.ensures.value, c.loop-done-test.true))

pub moves_block-requires-clause-named : goal.moves_block-requires-clause-named
moves_block-requires-clause-named c =
    let inside = gates-inside c.args.store.now.shape.grid c.args.self.now.declared c.args.near c.requires.found in
    omega (arith, inside, c.first-from.ensures, c.gates-count.ensures.value, c.loop-done-test.true)

pub returns-then-moves_block : goal.returns-then-moves_block
returns-then-moves_block c =
    let s = c.args.store.now in
    let me = c.args.self.now in
    let p : ℕ → Projection = reached_projection s.shape me.x.0 c.args.rate.0 me.t.0 me.z.0 me.declared in
    let from = c.first-from.result in
    let count = length (gates_of c.args.near) in
    let inside : c.loop-done.done + c.min-here.result ≤ count = omega (arith, c.gates-count.ensures.value, c.loop-done-test.true) in
    subst (λ (gs : List ℕ). IsMoved (map p gs) s.box true) (ap (λ (a : ℕ). range_with_len a count) c.first-from.ensures ∙ sym (gates-range c.args.near))
    (moved-among p s.box from c.loop-done.done c.min-here.result count inside c.if-moves_block.ensures)

pub loop-done-preserved : goal.loop-done-preserved
loop-done-preserved c =
    let s = c.args.store.now in
    let me = c.args.self.now in
    let p : ℕ → Projection = reached_projection s.shape me.x.0 c.args.rate.0 me.t.0 me.z.0 me.declared in
    record {
      still = moved-more p s.box c.first-from.result c.loop-done.done c.min-here.result c.loop-done.invariant.still c.if-moves_block.ensures;
      low = omega (arith, c.loop-done-test.true);
    }

pub returns : goal.returns
returns c =
    let s = c.args.store.now in
    let me = c.args.self.now in
    let p : ℕ → Projection = reached_projection s.shape me.x.0 c.args.rate.0 me.t.0 me.z.0 me.declared in
    let last : c.loop-done.done ≡ length (gates_of c.args.near) = omega (arith, c.loop-done-test.false, c.loop-done.invariant.low, c.gates-count.ensures.value) in
    subst (λ (gs : List ℕ). IsMoved (map p gs) s.box false)
    (ap (λ (n : ℕ). range_with_len c.first-from.result n) last ∙ ap (λ (a : ℕ). range_with_len a (length (gates_of c.args.near))) c.first-from.ensures ∙ sym (gates-range c.args.near)) c.loop-done.invariant.still
