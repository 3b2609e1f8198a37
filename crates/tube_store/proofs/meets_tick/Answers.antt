use Rattle.std.proofs.Common.{rules, arith, ◌+◌, ◌-◌, ◌/◌, ◌≤◌, ◌<◌, slice_index}
use Rattle.std.proofs.lemmas.Bool.{ltb-true, ltb-false}
use Rattle.tube_store.proofs.OverTicks.{meets-gate, meets-envelope, meets-none}
use Rattle.tube_store.proofs.meets_tick.Goals as goal

pub returns-then-place-eq0-clause-yes : goal.returns-then-place-eq0-clause-yes
returns-then-place-eq0-clause-yes c h = meets-gate c.args.grid.now c.args.place c.known.ensures c.requires (search rules)

pub returns-else-place-eq0-clause-yes : goal.returns-else-place-eq0-clause-yes
returns-else-place-eq0-clause-yes c h =
    let wide : 1 < slice_index c.args.grid.now (c.args.place / 2 + 1) - slice_index c.args.grid.now (c.args.place / 2) = omega (arith, ltb-true _ _ h) in
    meets-envelope c.args.grid.now c.args.place c.known.ensures c.requires c.if-place-eq0.false wide

pub returns-else-place-eq0-clause-no : goal.returns-else-place-eq0-clause-no
returns-else-place-eq0-clause-no c h k l e =
    let thin : slice_index c.args.grid.now (c.args.place / 2 + 1) - slice_index c.args.grid.now (c.args.place / 2) ≤ 1 = omega (arith, ltb-false _ _ h) in
    meets-none c.args.grid.now c.args.place c.known.ensures c.if-place-eq0.false thin k l e
