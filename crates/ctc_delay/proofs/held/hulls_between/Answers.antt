use Rattle.std.proofs.Common.{◌≡◌, ◌≢◌, ℕ, ◌+◌, ◌-◌, ◌<◌, ◌≤◌, inl, inr, List, pos, length, slice_index, slice_index_or, arith, refl, sym, ap, subst, ◌∙◌, set, length-set, get_or-set_same, get_or-set_other}
use Rattle.std.proofs.lemmas.List.{get_or_default, length-replicate}
use Rattle.tube_spec.specs.Span.{Span, point}
use Rattle.tube_spec.specs.Grid.{last_tick}
use Rattle.tube_spec.specs.Tick.{tick_place}
use Rattle.tube_spec.specs.Box.{cell_at}
use Rattle.ctc_delay.specs.Places.{place_count}
use Rattle.ctc_delay.specs.Windows.{window_first, window_last, cells_of, signal_at, IsOver, IsOverWindow}
use Rattle.ctc_delay.proofs.OverWindows.{first-rises, of-cells, over-one, below-or-same}
use Rattle.ctc_delay.proofs.held.hulls_between.Goals as goal

pub place_of-place-requires : goal.place_of-place-requires
place_of-place-requires c =
    let same : c.args.first ≡ c.args.first + 0 = omega arith in
    omega (arith, c.begin-at.ensures.first, c.requires.share 0 c.requires.some, c.requires.within, ap (window_first c.args.store.now.shape.grid c.args.window) same, ap last_tick c.grid.ensures)

pub interval_at-start-requires-clause-place : goal.interval_at-start-requires-clause-place
interval_at-start-requires-clause-place c = omega (arith, c.place_of-place.ensures.among, ap length c.grid.ensures)

pub loop-j-init : goal.loop-j-init
loop-j-init c =
    let grid = c.args.store.now.shape.grid in
    let same : c.args.first ≡ c.args.first + 0 = omega arith in
    record {
      begun = c.begin-at.ensures.first ∙ ap (window_first grid c.args.window) same;
      there = c.place_of-place.ensures.place ∙ ap (λ (g : List ℕ). tick_place g c.begin-at.result) c.grid.ensures;
      among = omega (arith, c.place_of-place.ensures.among, ap length c.grid.ensures);
      room = length-replicate 256 c.interval_at-start.result;
      between = λ k l. absurd (omega (arith, l));
    }

pub carried_on-hull-requires-clause-order : goal.carried_on-hull-requires-clause-order
carried_on-hull-requires-clause-order c =
    let grid = c.args.store.now.shape.grid in
    omega (
      arith,
      c.loop-j.invariant.begun,
      c.begin-begin.ensures.first,
      first-rises grid c.known.ensures.shape.grid (c.args.first + c.loop-j.j) (c.args.first + (c.loop-j.j + 1)) (omega arith) (omega (arith, c.loop-j-test.true, c.requires.places)),
    )

pub carried_on-hull-requires-clause-within : goal.carried_on-hull-requires-clause-within
carried_on-hull-requires-clause-within c = omega (arith, c.begin-begin.ensures.first, c.requires.share (c.loop-j.j + 1) (omega (arith, c.loop-j-test.true)), c.requires.within)

pub loop-j-preserved : goal.loop-j-preserved
loop-j-preserved c =
    let s = c.args.store.now in
    let grid = s.shape.grid in
    let w = c.args.window in
    let f : ℕ → Span = signal_at s.shape s.box w.signal.0 in
    let cell : ℕ → Span = λ p. cell_at (cells_of s.box) (slice_index s.shape.signals w.signal.0 + p) in
    let j = c.loop-j.j in
    let hulls = c.loop-j.hulls in
    let held = c.loop-j.invariant in
    let new = c.carried_on-hull.result.0 in
    let z = point (pos 0) in
    let inside : j < length hulls = omega (arith, c.loop-j-test.true, c.requires.few, held.room) in
    let read : c.interval_at-here.result ≡ f c.loop-j.at =
    of-cells s.box (λ xs. c.interval_at-here.result ≡ cell_at xs (slice_index s.shape.signals w.signal.0 + c.loop-j.place)) c.requires.filled c.interval_at-here.ensures ∙ ap cell held.there in
    let put = c.carried_on-hull.ensures.hull c.loop-j.at (omega arith) (over-one f c.loop-j.at c.interval_at-here.result read) in
    let here : IsOver f (window_first grid w (c.args.first + j)) (window_first grid w (c.args.first + (j + 1))) new =
    subst (λ (t : ℕ). IsOver f t (window_first grid w (c.args.first + (j + 1))) new) held.begun (subst (λ (t : ℕ). IsOver f c.loop-j.at t new) c.begin-begin.ensures.first put) in
    record {
      begun = c.begin-begin.ensures.first;
      there = c.carried_on-hull.ensures.there;
      among = c.carried_on-hull.ensures.among;
      room = length-set hulls j new ∙ held.room;
      between = λ k l. elim (below-or-same k j l) [
        | inl lt ↦ let ne : k ≢ j = omega (arith, lt) in
            subst (IsOver f (window_first grid w (c.args.first + k)) (window_first grid w (c.args.first + (k + 1)))) (sym (get_or-set_other hulls j k new z ne)) (held.between k lt)
        | inr e ↦ subst (λ (n : ℕ). IsOver f (window_first grid w (c.args.first + n)) (window_first grid w (c.args.first + (n + 1))) (slice_index_or (set hulls j new) n z)) e
            (subst (IsOver f (window_first grid w (c.args.first + j)) (window_first grid w (c.args.first + (j + 1)))) (sym (get_or-set_same hulls j new z inside)) here)
      ];
    }

pub carried_on-whole-requires-clause-order : goal.carried_on-whole-requires-clause-order
carried_on-whole-requires-clause-order c = omega (arith, c.loop-j.invariant.begun, c.requires.share c.loop-j.j (omega (arith, c.loop-j.auto, c.requires.some)))

pub returns-clause-room : goal.returns-clause-room
returns-clause-room c = length-set c.loop-j.hulls (c.args.count - 1) c.carried_on-whole.result.0 ∙ c.loop-j.invariant.room

pub returns-clause-between : goal.returns-clause-between
returns-clause-between c = λ k l.
    let s = c.args.store.now in
    let grid = s.shape.grid in
    let f : ℕ → Span = signal_at s.shape s.box c.args.window.signal.0 in
    let ne : k ≢ c.args.count - 1 = omega (arith, l) in
    subst (IsOver f (window_first grid c.args.window (c.args.first + k)) (window_first grid c.args.window (c.args.first + (k + 1)))) (sym (get_or-set_other c.loop-j.hulls (c.args.count - 1) k c.carried_on-whole.result.0 (point (pos 0)) ne))
    (c.loop-j.invariant.between k (omega (arith, l, c.loop-j-test.false)))

pub returns-clause-last : goal.returns-clause-last
returns-clause-last c =
    let s = c.args.store.now in
    let grid = s.shape.grid in
    let w = c.args.window in
    let f : ℕ → Span = signal_at s.shape s.box w.signal.0 in
    let cell : ℕ → Span = λ p. cell_at (cells_of s.box) (slice_index s.shape.signals w.signal.0 + p) in
    let held = c.loop-j.invariant in
    let all : c.loop-j.j ≡ c.args.count - 1 = omega (arith, c.loop-j-test.false, c.loop-j.auto) in
    let new = c.carried_on-whole.result.0 in
    let inside : c.args.count - 1 < length c.loop-j.hulls = omega (arith, c.requires.some, c.requires.few, held.room) in
    let read : c.interval_at-there.result ≡ f c.loop-j.at =
    of-cells s.box (λ xs. c.interval_at-there.result ≡ cell_at xs (slice_index s.shape.signals w.signal.0 + c.loop-j.place)) c.requires.filled c.interval_at-there.ensures ∙ ap cell held.there in
    let put = c.carried_on-whole.ensures.hull c.loop-j.at (omega arith) (over-one f c.loop-j.at c.interval_at-there.result read) in
    subst (IsOver f (window_first grid w (c.args.first + (c.args.count - 1))) c.args.end) (sym (get_or-set_same c.loop-j.hulls (c.args.count - 1) new (point (pos 0)) inside))
    (subst (λ (t : ℕ). IsOver f t c.args.end new) (held.begun ∙ ap (λ (n : ℕ). window_first grid w (c.args.first + n)) all) put)
