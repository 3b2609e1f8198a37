use Rattle.std.proofs.Common.{◌≡◌, ℕ, ◌+◌, ◌<◌, ◌≤◌, List, map, arith, sym, subst, slice_index}
use Rattle.std.specs.List.{range_with_len}
use Rattle.std.proofs.lemmas.List.Elements.{All-map}
use Rattle.tube_spec.specs.Span.{Span}
use Rattle.tube_spec.specs.Shape.{Shape}
use Rattle.tube_spec.specs.Projection.{Projection, IsMonotone}
use Rattle.ctc_core.specs.declared.Revised.{Revised}
use Rattle.ctc_core.specs.Answers.{Revises, then_of}
use Rattle.ctc_core.proofs.Firing.{Revises-then}
use Rattle.ctc_core.proofs.Fixing.{if-each}
use Rattle.ctc_delay.specs.Places.{place_count}
use Rattle.ctc_delay.specs.Delays.{delay_to_at, DelayFits}
use Rattle.ctc_delay.specs.DelayLaws.{to-mono}
use Rattle.ctc_delay.proofs.OverWindows.{map-range-more}
use Rattle.ctc_delay.proofs.to.DelayTo.fire.Goals as goal

pub loop-done-init : goal.loop-done-init
loop-done-init c = record { fired = c.start-answer.ensures.none; among = omega arith }

pub fire_some-next-requires-clause-fits : goal.fire_some-next-requires-clause-fits
fire_some-next-requires-clause-fits c =
    let me = c.args.self.now in
    subst (λ (s : Shape). DelayFits s me.x.0 me.y.0 me.tau.0) (sym c.loop-done.invariant.fired.revised.shape) c.requires

pub fire_some-next-requires-clause-first : goal.fire_some-next-requires-clause-first
fire_some-next-requires-clause-first c =
    subst (λ (s : Shape). c.loop-done.done < place_count s.grid) (sym c.loop-done.invariant.fired.revised.shape) (omega (arith, c.loop-done-test.true, c.place_count-count.ensures.count))

pub loop-done-preserved : goal.loop-done-preserved
loop-done-preserved c =
    let old = c.args.store.now in
    let me = c.args.self.now in
    let at : Shape → ℕ → Projection = λ s. delay_to_at s.grid (slice_index s.signals me.x.0) (slice_index s.signals me.y.0) (slice_index s.vars me.tau.0) in
    let p : ℕ → Projection = at old.shape in
    let anywhere : List Span → Type 0 = λ xs. Unit {0} in
    let done = c.loop-done.done in
    let next = c.fire_some-next.result.0 in
    let here = c.fire_some-next.result.1 in
    let shape = c.loop-done.invariant.fired.revised.shape in
    let fired = subst (λ (s : Shape). Revises (map (at s) (range_with_len done here)) c.loop-done.store c.fire_some-next.new.store next) shape c.fire_some-next.ensures.fired in
    let both = Revises-then anywhere (map p (range_with_len 0 done)) (map p (range_with_len done here)) old c.loop-done.store c.fire_some-next.new.store c.loop-done.answer next
    (if-each old.box anywhere (λ xs. tt)) (All-map (IsMonotone anywhere) p (range_with_len done here) (λ k d l. to-mono anywhere old.shape.grid (slice_index old.shape.signals me.x.0) (slice_index old.shape.signals me.y.0) (slice_index old.shape.vars me.tau.0) _))
    c.loop-done.invariant.fired fired in
    record {
      fired = subst (λ (a : Revised). Revises (map p (range_with_len 0 (done + here))) old c.fire_some-next.new.store a) (sym c.then-answer.ensures)
          (subst (λ (ps : List Projection). Revises ps old c.fire_some-next.new.store (then_of c.loop-done.answer next)) (sym (map-range-more p done here)) both);
      among = subst (λ (s : Shape). done + here ≤ place_count s.grid) shape c.fire_some-next.ensures.among;
    }

pub returns : goal.returns
returns c =
    let old = c.args.store.now in
    let me = c.args.self.now in
    let p : ℕ → Projection = delay_to_at old.shape.grid (slice_index old.shape.signals me.x.0) (slice_index old.shape.signals me.y.0) (slice_index old.shape.vars me.tau.0) in
    let all : c.loop-done.done ≡ place_count old.shape.grid = omega (arith, c.loop-done-test.false, c.loop-done.invariant.among, c.place_count-count.ensures.count) in
    subst (λ (n : ℕ). Revises (map p (range_with_len 0 n)) old c.loop-done.store c.loop-done.answer) all c.loop-done.invariant.fired
