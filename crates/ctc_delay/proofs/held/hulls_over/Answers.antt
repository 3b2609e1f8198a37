use Rattle.std.proofs.Common.{◌≡◌, ◌≢◌, ℕ, ◌+◌, ◌-◌, ◌<◌, ◌≤◌, inl, inr, List, pos, length, slice_index, slice_index_or, arith, refl, sym, ap, subst, ◌∙◌, set, length-set, get_or-set_same, get_or-set_other}
use Rattle.std.proofs.lemmas.List.{get_or_default, length-replicate}
use Rattle.tube_spec.specs.Span.{Span, point}
use Rattle.tube_spec.specs.Grid.{last_tick}
use Rattle.tube_spec.specs.Tick.{tick_place}
use Rattle.tube_spec.specs.Box.{cell_at}
use Rattle.ctc_delay.specs.Places.{place_count}
use Rattle.ctc_delay.specs.Windows.{window_first, window_last, cells_of, signal_at, IsOver, IsOverWindow}
use Rattle.ctc_delay.proofs.OverWindows.{last-rises, of-cells, over-one, over-join, below-or-same}
use Rattle.ctc_delay.proofs.held.hulls_over.Goals as goal

pub hulls_to_end-to_end-requires-clause-share : goal.hulls_to_end-to_end-requires-clause-share
hulls_to_end-to_end-requires-clause-share c = λ k l. (c.requires.share k l).0

pub loop-j-init : goal.loop-j-init
loop-j-init c =
    let s = c.args.store.now in
    let w = c.args.window in
    let grid = s.shape.grid in
    record {
      over = over-one (signal_at s.shape s.box w.signal.0) c.args.end c.interval_at-hull.result
          (of-cells s.box (λ xs. c.interval_at-hull.result ≡ cell_at xs (slice_index s.shape.signals w.signal.0 + c.hulls_to_end-to_end.result.1)) c.requires.filled c.interval_at-hull.ensures
          ∙ ap (λ (p : ℕ). cell_at (cells_of s.box) (slice_index s.shape.signals w.signal.0 + p)) c.hulls_to_end-to_end.ensures.there);
      there = c.hulls_to_end-to_end.ensures.there;
      among = c.hulls_to_end-to_end.ensures.among;
      low = omega arith;
      order = λ k p q. omega (arith, c.requires.end, last-rises grid c.known.ensures.shape.grid c.args.first (c.args.first + k) (omega arith) (omega (arith, q, c.requires.places)));
      room = c.hulls_to_end-to_end.ensures.room;
      todo = λ k p q. c.hulls_to_end-to_end.ensures.hulls k q;
      done = λ k l. absurd (omega (arith, l));
    }

pub carried_on-grown-requires-clause-order : goal.carried_on-grown-requires-clause-order
carried_on-grown-requires-clause-order c = omega (arith, c.end-last.ensures.last, c.loop-j.invariant.order c.loop-j.j (omega arith) (omega (arith, c.loop-j-test.true)))

pub carried_on-grown-requires-clause-within : goal.carried_on-grown-requires-clause-within
carried_on-grown-requires-clause-within c = omega (arith, c.end-last.ensures.last, (c.requires.share c.loop-j.j (omega (arith, c.loop-j-test.true))).1)

pub loop-j-preserved : goal.loop-j-preserved
loop-j-preserved c =
    let s = c.args.store.now in
    let grid = s.shape.grid in
    let w = c.args.window in
    let f : ℕ → Span = signal_at s.shape s.box w.signal.0 in
    let j = c.loop-j.j in
    let hulls = c.loop-j.hulls in
    let grown = c.carried_on-grown.result.0 in
    let new = c.hull.result in
    let z = point (pos 0) in
    let end = c.args.end in
    let last = c.end-last.result in
    let test : j < c.args.count = omega (arith, c.loop-j-test.true) in
    let inside : j < length hulls = omega (arith, test, c.requires.few, c.loop-j.invariant.room) in
    let here : last ≡ window_last grid w (c.args.first + j) = c.end-last.ensures.last in
    let up = c.loop-j.invariant.order j (omega arith) test in
    let put : IsOver f end last grown = c.carried_on-grown.ensures.hull end c.loop-j.invariant.low c.loop-j.invariant.over in
    let held = subst (IsOver f (window_first grid w (c.args.first + j)) end) (get_or_default hulls j z _ inside) (c.loop-j.invariant.todo j (omega arith) test) in
    let both = over-join f (window_first grid w (c.args.first + j)) end last _ grown (c.requires.share j test).0 (omega (arith, here, up, c.loop-j.invariant.low)) held put in
    let whole : IsOverWindow s.shape s.box w (c.args.first + j) new =
    subst (λ (t : ℕ). IsOver f (window_first grid w (c.args.first + j)) t new) here (subst (IsOver f (window_first grid w (c.args.first + j)) last) (sym c.hull.ensures.value) both) in
    record {
      over = put;
      there = c.carried_on-grown.ensures.there;
      among = c.carried_on-grown.ensures.among;
      low = omega (arith, here, up, c.loop-j.invariant.low);
      order = λ k p q. omega (arith, here, last-rises grid c.known.ensures.shape.grid (c.args.first + j) (c.args.first + k) (omega (arith, p)) (omega (arith, q, c.requires.places)));
      room = length-set hulls j new ∙ c.loop-j.invariant.room;
      todo = λ k p q.
          let ne : k ≢ j = omega (arith, p) in
          subst (IsOver f (window_first grid w (c.args.first + k)) end) (sym (get_or-set_other hulls j k new z ne)) (c.loop-j.invariant.todo k (omega (arith, p)) q);
      done = λ k l. elim (below-or-same k j l) [
        | inl lt ↦ let ne : k ≢ j = omega (arith, lt) in
            subst (IsOverWindow s.shape s.box w (c.args.first + k)) (sym (get_or-set_other hulls j k new z ne)) (c.loop-j.invariant.done k lt)
        | inr e ↦ subst (λ (n : ℕ). IsOverWindow s.shape s.box w (c.args.first + n) (slice_index_or (set hulls j new) n z)) e
            (subst (IsOverWindow s.shape s.box w (c.args.first + j)) (sym (get_or-set_same hulls j new z inside)) whole)
      ];
    }
