use Rattle.std.proofs.Common.{◌≡◌, ◌≢◌, ℕ, ◌+◌, ◌-◌, ◌<◌, inl, inr, None, length, slice_index, slice_index_or, arith, sym, ap, subst, ◌∙◌, set, length-set, get_or-set_same, get_or-set_other}
use Rattle.std.proofs.lemmas.List.{get_or_default}
use Rattle.tube_spec.proofs.Ticks.{last-greatest}
use Rattle.ctc_eval.specs.Clock.{cells_of}
use Rattle.ctc_eval.specs.Walks.{IsFromOn}
use Rattle.ctc_eval.proofs.Blocks.{only-there, same-or-other}
use Rattle.ctc_eval.proofs.block.hulls_back.Goals as goal

pub loop-j-init : goal.loop-j-init
loop-j-init c =
    let s = c.args.store.now in
    let grid = s.shape.grid in
    let covers = c.requires.covers in
    let end = slice_index grid (c.args.stretch.near.last + 1) in
    let here = only-there s.shape c.args.sweep.now.x.0 c.args.rate.0 c.args.sweep.now.z.0 (cells_of s.box) c.args.stretch.ticks end c.shared_in.result (last-greatest grid c.known.ensures.shape.grid.rising (c.args.stretch.near.last + 1) covers.among) covers.ends c.shared_in.ensures in
    let before = c.args.hulls.now in
    record {
      back = subst (IsFromOn s.shape c.args.sweep.now.x.0 c.args.rate.0 c.args.sweep.now.z.0 (cells_of s.box) c.args.stretch.ticks end) (sym (get_or-set_same before c.args.count c.shared_in.result None (omega (arith, c.requires.room, c.requires.few)))) here;
      order = λ some. omega (arith, c.requires.gates, c.requires.some);
      named = covers.among;
      room = length-set before c.args.count c.shared_in.result ∙ c.requires.room;
      kept = λ k p q. absurd (omega (arith, p, q));
    }

pub carried_back-requires-clause-order : goal.carried_back-requires-clause-order
carried_back-requires-clause-order c = c.loop-j.invariant.order c.loop-j-test.true

pub carried_back-requires-clause-gate : goal.carried_back-requires-clause-gate
carried_back-requires-clause-gate c = c.loop-j.invariant.named

pub carried_back-requires-clause-after : goal.carried_back-requires-clause-after
carried_back-requires-clause-after c =
    let s = c.args.store.now in
    let xs = cells_of s.box in
    let same : c.loop-j.j ≡ c.loop-j.j - 1 + 1 = omega (arith, c.loop-j-test.true) in
    let inside : c.loop-j.j - 1 + 1 < length c.loop-j.hulls = omega (arith, c.loop-j-test.true, c.loop-j.auto.j, c.requires.few, c.loop-j.invariant.room) in
    subst (IsFromOn s.shape c.args.sweep.now.x.0 c.args.rate.0 c.args.sweep.now.z.0 xs c.args.stretch.ticks (slice_index s.shape.grid c.loop-j.at))
    (ap (λ (n : ℕ). slice_index_or c.loop-j.hulls n None) same ∙ get_or_default c.loop-j.hulls (c.loop-j.j - 1 + 1) None c.index-hulls-j.result inside ∙ sym c.index-hulls-j.is) c.loop-j.invariant.back

pub loop-j-preserved : goal.loop-j-preserved
loop-j-preserved c =
    let s = c.args.store.now in
    let x = c.args.sweep.now.x.0 in
    let z = c.args.sweep.now.z.0 in
    let v = c.args.rate.0 in
    let xs = cells_of s.box in
    let grid = s.shape.grid in
    let ticks = c.args.stretch.ticks in
    let j : ℕ = c.loop-j.j - 1 in
    let hulls = c.loop-j.hulls in
    let new = c.carried_back.result in
    let inside : j < length hulls = omega (arith, c.loop-j-test.true, c.loop-j.auto.j, c.requires.few, c.loop-j.invariant.room) in
    let at : ℕ = c.args.first + j in
    let put = subst (IsFromOn s.shape x v z xs ticks (slice_index grid at)) (sym (get_or-set_same hulls j new None inside)) c.carried_back.ensures in
    record {
      back = put;
      order = λ some. omega (arith, some);
      named = omega (arith, c.loop-j-test.true, c.loop-j.auto.j, c.requires.gates, c.requires.covers.among);
      room = length-set hulls j new ∙ c.loop-j.invariant.room;
      kept = λ k p q. elim (same-or-other j k p) [
        | inl e ↦ subst (λ (n : ℕ). IsFromOn s.shape x v z xs ticks (slice_index grid (c.args.first + n)) (slice_index_or (set hulls j new) n None)) e put
        | inr l ↦ let ne : k ≢ j = omega (arith, l) in
            subst (IsFromOn s.shape x v z xs ticks (slice_index grid (c.args.first + k))) (sym (get_or-set_other hulls j k new None ne)) (c.loop-j.invariant.kept k (omega (arith, l)) q)
      ];
    }
