use Rattle.std.proofs.Common.{◌≡◌, ℕ, ◌≤◌, None, Some, arith, ap, subst, ◌∙◌, slice_index}
use Rattle.std.proofs.lemmas.Int.{ints}
use Rattle.tube_spec.specs.Grid.{last_tick}
use Rattle.tube_spec.proofs.Monotone.{IfSome-map, IfSome-map2, IfSome-any}
use Rattle.ctc_delay.specs.Delays.{is_possible}
use Rattle.ctc_delay.specs.Ranges.{AreDelays, AreNoDelays, IsLeastOf, IsGreatestOf}
use Rattle.ctc_delay.proofs.PossibleDelays.{none-in_no_delays, none-in_delays, made-of_both}
use Rattle.ctc_delay.proofs.possible.possible_hull.Goals as goal

pub returns-in_err-delays : goal.returns-in_err-delays
returns-in_err-delays c =
    let s = c.args.store.now in
    let last : c.ticks.result ≡ last_tick s.shape.grid = c.ticks.ensures ∙ ap last_tick c.grid.ensures in
    let none : AreNoDelays c.args.tau (last_tick s.shape.grid) = subst (AreNoDelays c.args.tau) last c.in_err-delays.ensures in
    IfSome-any _ s.box (λ xs.
    c.from_residual.ensures ∙ none-in_no_delays c.args.tau (last_tick s.shape.grid) (is_possible s.shape.grid xs (slice_index s.shape.signals c.args.x.0) (slice_index s.shape.signals c.args.y.0)) none)

pub returns-in_err-least : goal.returns-in_err-least
returns-in_err-least c =
    let s = c.args.store.now in
    let lo = c.in_ok-delays.delays.least in
    let hi = c.in_ok-delays.delays.greatest in
    let last : c.ticks.result ≡ last_tick s.shape.grid = c.ticks.ensures ∙ ap last_tick c.grid.ensures in
    let are : AreDelays c.args.tau (last_tick s.shape.grid) lo hi = subst (λ (t : ℕ). AreDelays c.args.tau t lo hi) last c.in_ok-delays.ensures in
    let was : c.least_possible.result ≡ None = c.in_err-least.was in
    IfSome-map _ _ s.box (λ xs first.
    let p = is_possible s.shape.grid xs (slice_index s.shape.signals c.args.x.0) (slice_index s.shape.signals c.args.y.0) in
    c.from_residual-in_err-least.ensures ∙ none-in_delays c.args.tau (last_tick s.shape.grid) p lo hi are (subst (IsLeastOf p lo hi) was first)) c.least_possible.ensures

pub returns : goal.returns
returns c =
    let s = c.args.store.now in
    let lo = c.in_ok-delays.delays.least in
    let hi = c.in_ok-delays.delays.greatest in
    let last : c.ticks.result ≡ last_tick s.shape.grid = c.ticks.ensures ∙ ap last_tick c.grid.ensures in
    let are : AreDelays c.args.tau (last_tick s.shape.grid) lo hi = subst (λ (t : ℕ). AreDelays c.args.tau t lo hi) last c.in_ok-delays.ensures in
    let least : c.least_possible.result ≡ Some c.in_ok-least.least = c.in_ok-least.was in
    let greatest : c.greatest_possible.result ≡ Some c.in_ok-greatest.greatest = c.in_ok-greatest.was in
    let few : last_tick s.shape.grid ≤ 100000 = c.known.ensures.shape.grid.ends in
    IfSome-map2 _ _ _ s.box (λ xs first end.
    let p = is_possible s.shape.grid xs (slice_index s.shape.signals c.args.x.0) (slice_index s.shape.signals c.args.y.0) in
    let first_is : IsLeastOf p lo hi (Some c.in_ok-least.least) = subst (IsLeastOf p lo hi) least first in
    let end_is : IsGreatestOf p lo hi (Some c.in_ok-greatest.greatest) = subst (IsGreatestOf p lo hi) greatest end in
    made-of_both c.args.tau (last_tick s.shape.grid) p lo hi are few c.in_ok-least.least c.in_ok-greatest.greatest first_is end_is c.new.result _ _
    (omega (arith, ints, first_is.1, are.few, few)) (omega (arith, ints, end_is.1, are.few, few)) c.new.ensures.value c.new.ensures.exists.1) c.least_possible.ensures c.greatest_possible.ensures
