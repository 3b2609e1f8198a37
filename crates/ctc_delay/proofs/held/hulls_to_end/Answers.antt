use Rattle.std.proofs.Common.{◌≡◌, ◌≢◌, ℕ, ◌+◌, ◌-◌, ◌<◌, ◌≤◌, inl, inr, List, pos, length, slice_index, slice_index_or, arith, refl, sym, ap, subst, ◌∙◌, set, length-set, get_or-set_same, get_or-set_other}
use Rattle.std.proofs.lemmas.List.{get_or_default, length-replicate}
use Rattle.tube_spec.specs.Span.{Span, point}
use Rattle.tube_spec.specs.Grid.{last_tick}
use Rattle.tube_spec.specs.Tick.{tick_place}
use Rattle.tube_spec.specs.Box.{cell_at}
use Rattle.ctc_delay.specs.Places.{place_count}
use Rattle.ctc_delay.specs.Windows.{window_first, window_last, cells_of, signal_at, IsOver, IsOverWindow}
use Rattle.ctc_delay.proofs.OverWindows.{first-rises, over-join, same-or-other}
use Rattle.ctc_delay.proofs.held.hulls_to_end.Goals as goal

pub loop-j-init : goal.loop-j-init
loop-j-init c =
    let s = c.args.store.now in
    let f : ℕ → Span = signal_at s.shape s.box c.args.window.signal.0 in
    record {
      room = c.hulls_between-between.ensures.room;
      kept = λ k p q.
          let last : c.args.count - 1 ≡ k = omega (arith, p, q) in
          subst (λ (n : ℕ). IsOver f (window_first s.shape.grid c.args.window (c.args.first + n)) c.args.end (slice_index_or c.hulls_between-between.result.0 n (point (pos 0)))) last c.hulls_between-between.ensures.last;
      todo = λ k l. c.hulls_between-between.ensures.between k (omega (arith, l));
    }

pub loop-j-preserved : goal.loop-j-preserved
loop-j-preserved c =
    let s = c.args.store.now in
    let grid = s.shape.grid in
    let w = c.args.window in
    let f : ℕ → Span = signal_at s.shape s.box w.signal.0 in
    let begin : ℕ → ℕ = λ k. window_first grid w (c.args.first + k) in
    let j : ℕ = c.loop-j.j - 1 in
    let hulls = c.loop-j.hulls in
    let held = c.loop-j.invariant in
    let new = c.hull.result in
    let z = point (pos 0) in
    let end = c.args.end in
    let inside : j + 1 < length hulls = omega (arith, c.loop-j-test.true, c.loop-j.auto.j, c.requires.few, held.room) in
    let few : j + 1 < c.args.count = omega (arith, c.loop-j-test.true, c.loop-j.auto.j) in
    let up : begin j ≤ begin (j + 1) = omega (arith, first-rises grid c.known.ensures.shape.grid (c.args.first + j) (c.args.first + (j + 1)) (omega arith) (omega (arith, few, c.requires.places))) in
    let one = subst (IsOver f (begin j) (begin (j + 1))) (get_or_default hulls j z _ (omega (arith, inside))) (held.todo j (omega (arith, c.loop-j-test.true))) in
    let two = subst (IsOver f (begin (j + 1)) end) (get_or_default hulls (j + 1) z _ inside) (held.kept (j + 1) (omega (arith, c.loop-j-test.true)) few) in
    let put : IsOver f (begin j) end new = subst (IsOver f (begin j) end) (sym c.hull.ensures.value) (over-join f (begin j) (begin (j + 1)) end _ _ up (c.requires.share (j + 1) few) one two) in
    record {
      room = length-set hulls j new ∙ held.room;
      kept = λ k p q. elim (same-or-other j k p) [
        | inl e ↦ subst (λ (n : ℕ). IsOver f (begin n) end (slice_index_or (set hulls j new) n z)) e (subst (IsOver f (begin j) end) (sym (get_or-set_same hulls j new z (omega (arith, inside)))) put)
        | inr l ↦ let ne : k ≢ j = omega (arith, l) in
            subst (IsOver f (begin k) end) (sym (get_or-set_other hulls j k new z ne)) (held.kept k (omega (arith, l)) q)
      ];
      todo = λ k l.
          let ne : k ≢ j = omega (arith, l) in
          subst (IsOver f (begin k) (begin (k + 1))) (sym (get_or-set_other hulls j k new z ne)) (held.todo k (omega (arith, l)));
    }
