use Rattle.std.proofs.Common.{◌≡◌, ℕ, ◌+◌, ◌<◌, ◌≤◌, List, map, length, arith, sym, ap, subst, ◌∙◌}
use Rattle.std.specs.List.{range_with_len}
use Rattle.std.proofs.lemmas.List.Elements.{All-map}
use Rattle.tube_spec.specs.Span.{Span}
use Rattle.tube_spec.specs.Shape.{Shape}
use Rattle.tube_spec.specs.Projection.{Projection, IsMonotone}
use Rattle.ctc_core.specs.declared.Revised.{Revised}
use Rattle.ctc_core.specs.Answers.{Revises, then_of}
use Rattle.ctc_core.proofs.Firing.{Revises-then}
use Rattle.slice_gates.specs.Near.{gates_of}
use Rattle.ctc_eval.specs.Held.{rate_of, IsFound}
use Rattle.ctc_eval.specs.Evals.{EvalFits, reached_projection}
use Rattle.ctc_eval.specs.EvalLaws.{reached-monotone}
use Rattle.ctc_core.proofs.Fixing.{if-each}
use Rattle.ctc_eval.proofs.Places.{gates-near}
use Rattle.ctc_eval.proofs.Blocks.{gates-range, gates-inside, map-range-append}
use Rattle.ctc_eval.proofs.eval.EvalCtc.revise_reached.Goals as goal

pub loop-done-init : goal.loop-done-init
loop-done-init c = record { fired = c.start-answer.ensures.none; low = omega arith }

pub revise_block-next-requires-clause-fits : goal.revise_block-next-requires-clause-fits
revise_block-next-requires-clause-fits c =
    let me = c.args.self.now in
    subst (λ (s : Shape). EvalFits s me.x.0 (rate_of me.rate) me.t.0 me.z.0) (sym c.loop-done.invariant.fired.revised.shape) c.requires.fits

pub revise_block-next-requires-clause-rate : goal.revise_block-next-requires-clause-rate
revise_block-next-requires-clause-rate c = subst (λ (s : Shape). c.args.rate.0 < length s.signals) (sym c.loop-done.invariant.fired.revised.shape) c.requires.rate

pub revise_block-next-requires-clause-found : goal.revise_block-next-requires-clause-found
revise_block-next-requires-clause-found c = subst (λ (s : Shape). IsFound s.grid c.args.self.now.declared c.args.near) (sym c.loop-done.invariant.fired.revised.shape) c.requires.found

pub revise_block-next-requires-clause-gates : goal.revise_block-next-requires-clause-gates
revise_block-next-requires-clause-gates c =
    gates-near c.args.near c.first-from.result c.loop-done.done c.min-here.result c.first-from.ensures c.requires.found.order (omega (arith, c.gates-count.ensures.value, c.loop-done-test.true))

pub revise_block-next-requires-clause-named : goal.revise_block-next-requires-clause-named
revise_block-next-requires-clause-named c =
    let inside = gates-inside c.args.store.now.shape.grid c.args.self.now.declared c.args.near c.requires.found in
    subst (λ (s : Shape). c.first-from.result + c.loop-done.done + c.min-here.result ≤ length s.grid) (sym c.loop-done.invariant.fired.revised.shape)
    (omega (arith, inside, c.first-from.ensures, c.gates-count.ensures.value, c.loop-done-test.true))

pub loop-done-preserved : goal.loop-done-preserved
loop-done-preserved c =
    let old = c.args.store.now in
    let me = c.args.self.now in
    let p : ℕ → Projection = reached_projection old.shape me.x.0 c.args.rate.0 me.t.0 me.z.0 me.declared in
    let anywhere : List Span → Type 0 = λ xs. Unit {0} in
    let from = c.first-from.result in
    let done = c.loop-done.done in
    let here = c.min-here.result in
    let next = subst (λ (s : Shape). Revises (map (reached_projection s me.x.0 c.args.rate.0 me.t.0 me.z.0 me.declared) (range_with_len (from + done) here)) c.loop-done.store c.revise_block-next.new.store c.revise_block-next.result)
    c.loop-done.invariant.fired.revised.shape c.revise_block-next.ensures in
    let both = Revises-then anywhere (map p (range_with_len from done)) (map p (range_with_len (from + done) here)) old c.loop-done.store c.revise_block-next.new.store c.loop-done.answer c.revise_block-next.result
    (if-each old.box anywhere (λ xs. tt)) (All-map (IsMonotone anywhere) p (range_with_len (from + done) here) (λ k d l. reached-monotone anywhere old.shape me.x.0 c.args.rate.0 me.t.0 me.z.0 me.declared _)) c.loop-done.invariant.fired next in
    record {
      fired = subst (λ (a : Revised). Revises (map p (range_with_len from (done + here))) old c.revise_block-next.new.store a) (sym c.then-answer.ensures)
          (subst (λ (ps : List Projection). Revises ps old c.revise_block-next.new.store (then_of c.loop-done.answer c.revise_block-next.result)) (sym (map-range-append p from done here)) both);
      low = omega (arith, c.loop-done-test.true);
    }

pub returns : goal.returns
returns c =
    let old = c.args.store.now in
    let me = c.args.self.now in
    let p : ℕ → Projection = reached_projection old.shape me.x.0 c.args.rate.0 me.t.0 me.z.0 me.declared in
    let last : c.loop-done.done ≡ length (gates_of c.args.near) = omega (arith, c.loop-done-test.false, c.loop-done.invariant.low, c.gates-count.ensures.value) in
    subst (λ (gs : List ℕ). Revises (map p gs) old c.loop-done.store c.loop-done.answer)
    (ap (λ (n : ℕ). range_with_len c.first-from.result n) last ∙ ap (λ (a : ℕ). range_with_len a (length (gates_of c.args.near))) c.first-from.ensures ∙ sym (gates-range c.args.near)) c.loop-done.invariant.fired
