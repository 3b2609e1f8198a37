use Rattle.std.proofs.Common.{◌+◌, ◌/◌, ◌≤◌, ◌<◌, length, arith, inl, inr, ◌⊎◌}
use Rattle.std.proofs.lemmas.Result.{on_ok_weaker}
use Rattle.hull_tree.specs.Plane.{is_possible}
use Rattle.tplane_paver.proofs.Advancing.{stand-beyond}
use Rattle.tplane_paver.proofs.Squares.{cut-below, cut-of, advance-empty, advance-out, advance-within, says-within, one-pair, mixed-step, half-pow, one-side, advance-four}
use Rattle.tplane_paver.specs.Paving.{rows_of}
use Rattle.tplane_paver.proofs.paving.+quarter.Goals as goal

pub returns-then-a-ticks-clause-rows : goal.returns-then-a-ticks-clause-rows
returns-then-a-ticks-clause-rows g t c = advance-empty c.args.tree.now (rows_of c.args.work.now.rows.items) c.args.a c.args.b c.args.side (beyond c.then-a-ticks.either) c.requires.stand
  where
    beyond : ((c.tick_count-ticks.result ≤ c.args.a) ⊎ ((c.args.a < c.tick_count-ticks.result) × (c.tick_count-ticks.result ≤ c.args.b))) → (length c.args.tree.now.xs ≤ c.args.a) ⊎ (length c.args.tree.now.xs ≤ c.args.b)
    beyond (inl h) = inl (omega (arith, h, c.tick_count-ticks.ensures.ticks))
    beyond (inr h) = inr (omega (arith, h, c.tick_count-ticks.ensures.ticks))

pub fill-requires-clause-possible : goal.fill-requires-clause-possible
fill-requires-clause-possible g t c =
    let ca = cut-of (length c.args.tree.now.xs) c.tick_count-ticks.result c.args.a c.args.side c.args.depth c.last_of-a_last.result c.tick_count-ticks.ensures.ticks c.if-a-ticks.false c.last_of-a_last.ensures c.requires.side in
    let cb = cut-of (length c.args.tree.now.xs) c.tick_count-ticks.result c.args.b c.args.side c.args.depth c.last_of-b_last.result c.tick_count-ticks.ensures.ticks c.if-b-ticks.false c.last_of-b_last.ensures c.requires.side in
    says-within c.args.tree.now (record { first_a = c.args.a; last_a = c.last_of-a_last.result; first_b = c.args.b; last_b = c.last_of-b_last.result }) (cut-below _ _ _ _ cb).1 c.in-Within.ensures.judged

pub returns-then-depth-eq0-clause-rows : goal.returns-then-depth-eq0-clause-rows
returns-then-depth-eq0-clause-rows g t c =
    let ca = cut-of (length c.args.tree.now.xs) c.tick_count-ticks.result c.args.a c.args.side c.args.depth c.last_of-a_last.result c.tick_count-ticks.ensures.ticks c.if-a-ticks.false c.last_of-a_last.ensures c.requires.side in
    let cb = cut-of (length c.args.tree.now.xs) c.tick_count-ticks.result c.args.b c.args.side c.args.depth c.last_of-b_last.result c.tick_count-ticks.ensures.ticks c.if-b-ticks.false c.last_of-b_last.ensures c.requires.side in
    absurd (one-pair c.args.tree.now c.args.a c.args.b c.args.side c.last_of-a_last.result c.last_of-b_last.result ca cb (one-side c.args.side c.args.depth c.requires.side c.if-depth-eq0.true) c.in-Mixed.ensures.judged)

pub returns-in-Out-clause-rows : goal.returns-in-Out-clause-rows
returns-in-Out-clause-rows g t c =
    let ca = cut-of (length c.args.tree.now.xs) c.tick_count-ticks.result c.args.a c.args.side c.args.depth c.last_of-a_last.result c.tick_count-ticks.ensures.ticks c.if-a-ticks.false c.last_of-a_last.ensures c.requires.side in
    let cb = cut-of (length c.args.tree.now.xs) c.tick_count-ticks.result c.args.b c.args.side c.args.depth c.last_of-b_last.result c.tick_count-ticks.ensures.ticks c.if-b-ticks.false c.last_of-b_last.ensures c.requires.side in
    advance-out c.args.tree.now (rows_of c.args.work.now.rows.items) c.args.a c.args.b c.args.side c.last_of-a_last.result c.last_of-b_last.result ca cb c.requires.stand c.in-Out.ensures.judged

pub returns-in-Within-clause-rows : goal.returns-in-Within-clause-rows
returns-in-Within-clause-rows g t c =
    let ca = cut-of (length c.args.tree.now.xs) c.tick_count-ticks.result c.args.a c.args.side c.args.depth c.last_of-a_last.result c.tick_count-ticks.ensures.ticks c.if-a-ticks.false c.last_of-a_last.ensures c.requires.side in
    let cb = cut-of (length c.args.tree.now.xs) c.tick_count-ticks.result c.args.b c.args.side c.args.depth c.last_of-b_last.result c.tick_count-ticks.ensures.ticks c.if-b-ticks.false c.last_of-b_last.ensures c.requires.side in
    on_ok_weaker c.fill.result (advance-within c.args.tree.now (rows_of c.args.work.now.rows.items) (rows_of c.fill.new.work.rows.items) c.args.a c.args.b c.args.side c.last_of-a_last.result c.last_of-b_last.result ca cb) c.fill.ensures.rows

pub quarter-requires : goal.quarter-requires
quarter-requires g t c =
    let h = half-pow c.args.side c.args.depth c.requires.side c.if-depth-eq0.false in
    λ κs l. (omega (arith, c.if-depth-eq0.false), (l, (h.0, (omega (arith, h.1), (omega (arith, h.1), (c.requires.work, λ i u v w. c.requires.stand i u (omega (arith, h.1)) w))))))

pub quarter-requires-in-Mixed : goal.quarter-requires-in-Mixed
quarter-requires-in-Mixed g t c =
    let h = half-pow c.args.side c.args.depth c.requires.side c.if-depth-eq0.false in
    λ κs l. (omega (arith, c.if-depth-eq0.false), (l, (h.0, (omega (arith, h.1), (omega (arith, h.1), (c.in_ok-quarter-in-Mixed.ensures.work, c.in_ok-quarter-in-Mixed.ensures.rows.inside))))))

pub quarter-requires-in-Mixed-2 : goal.quarter-requires-in-Mixed-2
quarter-requires-in-Mixed-2 g t c =
    let h = half-pow c.args.side c.args.depth c.requires.side c.if-depth-eq0.false in
    λ κs l. (omega (arith, c.if-depth-eq0.false), (l, (h.0, (omega (arith, h.1), (omega (arith, h.1), (c.in_ok-quarter-in-Mixed-2.ensures.work, stand-beyond (is_possible c.args.tree.now) (length c.args.tree.now.xs) (rows_of c.quarter.new.work.rows.items) (rows_of c.quarter-in-Mixed.new.work.rows.items) c.args.a (c.args.a + c.args.side / 2) (c.args.a + c.args.side / 2 + c.args.side / 2) c.args.b (c.args.b + c.args.side / 2 + c.args.side / 2) c.in_ok-quarter-in-Mixed-2.ensures.rows (stand-beyond (is_possible c.args.tree.now) (length c.args.tree.now.xs) (rows_of c.args.work.now.rows.items) (rows_of c.quarter.new.work.rows.items) c.args.a (c.args.a + c.args.side / 2) (c.args.a + c.args.side / 2 + c.args.side / 2) c.args.b (c.args.b + c.args.side / 2) c.in_ok-quarter-in-Mixed.ensures.rows (λ i u v w. c.requires.stand i (omega arith) (omega (arith, h.1)) w))))))))

pub quarter-requires-in-Mixed-3 : goal.quarter-requires-in-Mixed-3
quarter-requires-in-Mixed-3 g t c =
    let h = half-pow c.args.side c.args.depth c.requires.side c.if-depth-eq0.false in
    λ κs l. (omega (arith, c.if-depth-eq0.false), (l, (h.0, (omega (arith, h.1), (omega (arith, h.1), (c.in_ok-quarter-in-Mixed-3.ensures.work, c.in_ok-quarter-in-Mixed-3.ensures.rows.inside))))))

pub returns-in_err-quarter-in-Mixed-clause-steps : goal.returns-in_err-quarter-in-Mixed-clause-steps
returns-in_err-quarter-in-Mixed-clause-steps g t c =
    let ca = cut-of (length c.args.tree.now.xs) c.tick_count-ticks.result c.args.a c.args.side c.args.depth c.last_of-a_last.result c.tick_count-ticks.ensures.ticks c.if-a-ticks.false c.last_of-a_last.ensures c.requires.side in
    let cb = cut-of (length c.args.tree.now.xs) c.tick_count-ticks.result c.args.b c.args.side c.args.depth c.last_of-b_last.result c.tick_count-ticks.ensures.ticks c.if-b-ticks.false c.last_of-b_last.ensures c.requires.side in
    let m = mixed-step c.args.tree.now c.args.a c.args.b c.args.side c.args.depth c.last_of-a_last.result c.last_of-b_last.result ca cb c.requires.side c.if-depth-eq0.false c.in-Mixed.ensures.judged in
    omega (arith, m, c.judge.ensures.step, c.quarter.ensures.steps)

pub returns-in_err-quarter-in-Mixed-2-clause-steps : goal.returns-in_err-quarter-in-Mixed-2-clause-steps
returns-in_err-quarter-in-Mixed-2-clause-steps g t c =
    let ca = cut-of (length c.args.tree.now.xs) c.tick_count-ticks.result c.args.a c.args.side c.args.depth c.last_of-a_last.result c.tick_count-ticks.ensures.ticks c.if-a-ticks.false c.last_of-a_last.ensures c.requires.side in
    let cb = cut-of (length c.args.tree.now.xs) c.tick_count-ticks.result c.args.b c.args.side c.args.depth c.last_of-b_last.result c.tick_count-ticks.ensures.ticks c.if-b-ticks.false c.last_of-b_last.ensures c.requires.side in
    let m = mixed-step c.args.tree.now c.args.a c.args.b c.args.side c.args.depth c.last_of-a_last.result c.last_of-b_last.result ca cb c.requires.side c.if-depth-eq0.false c.in-Mixed.ensures.judged in
    omega (arith, m, c.judge.ensures.step, c.quarter.ensures.steps, c.quarter-in-Mixed.ensures.steps)

pub returns-in_err-quarter-in-Mixed-3-clause-steps : goal.returns-in_err-quarter-in-Mixed-3-clause-steps
returns-in_err-quarter-in-Mixed-3-clause-steps g t c =
    let ca = cut-of (length c.args.tree.now.xs) c.tick_count-ticks.result c.args.a c.args.side c.args.depth c.last_of-a_last.result c.tick_count-ticks.ensures.ticks c.if-a-ticks.false c.last_of-a_last.ensures c.requires.side in
    let cb = cut-of (length c.args.tree.now.xs) c.tick_count-ticks.result c.args.b c.args.side c.args.depth c.last_of-b_last.result c.tick_count-ticks.ensures.ticks c.if-b-ticks.false c.last_of-b_last.ensures c.requires.side in
    let m = mixed-step c.args.tree.now c.args.a c.args.b c.args.side c.args.depth c.last_of-a_last.result c.last_of-b_last.result ca cb c.requires.side c.if-depth-eq0.false c.in-Mixed.ensures.judged in
    omega (arith, m, c.judge.ensures.step, c.quarter.ensures.steps, c.quarter-in-Mixed.ensures.steps, c.quarter-in-Mixed-2.ensures.steps)

pub returns-in_ok-quarter-in-Mixed-3-clause-steps : goal.returns-in_ok-quarter-in-Mixed-3-clause-steps
returns-in_ok-quarter-in-Mixed-3-clause-steps g t c =
    let ca = cut-of (length c.args.tree.now.xs) c.tick_count-ticks.result c.args.a c.args.side c.args.depth c.last_of-a_last.result c.tick_count-ticks.ensures.ticks c.if-a-ticks.false c.last_of-a_last.ensures c.requires.side in
    let cb = cut-of (length c.args.tree.now.xs) c.tick_count-ticks.result c.args.b c.args.side c.args.depth c.last_of-b_last.result c.tick_count-ticks.ensures.ticks c.if-b-ticks.false c.last_of-b_last.ensures c.requires.side in
    let m = mixed-step c.args.tree.now c.args.a c.args.b c.args.side c.args.depth c.last_of-a_last.result c.last_of-b_last.result ca cb c.requires.side c.if-depth-eq0.false c.in-Mixed.ensures.judged in
    omega (arith, m, c.judge.ensures.step, c.quarter.ensures.steps, c.quarter-in-Mixed.ensures.steps, c.quarter-in-Mixed-2.ensures.steps, c.quarter-in-Mixed-3.ensures.steps)

pub returns-in_ok-quarter-in-Mixed-3-clause-rows : goal.returns-in_ok-quarter-in-Mixed-3-clause-rows
returns-in_ok-quarter-in-Mixed-3-clause-rows g t c =
    let h = half-pow c.args.side c.args.depth c.requires.side c.if-depth-eq0.false in
    on_ok_weaker c.quarter-in-Mixed-3.result (advance-four (is_possible c.args.tree.now) (length c.args.tree.now.xs) (rows_of c.args.work.now.rows.items) (rows_of c.quarter.new.work.rows.items) (rows_of c.quarter-in-Mixed.new.work.rows.items) (rows_of c.quarter-in-Mixed-2.new.work.rows.items) (rows_of c.quarter-in-Mixed-3.new.work.rows.items) c.args.a c.args.b (c.args.side / 2) c.args.side h.1 c.in_ok-quarter-in-Mixed.ensures.rows c.in_ok-quarter-in-Mixed-2.ensures.rows c.in_ok-quarter-in-Mixed-3.ensures.rows) c.quarter-in-Mixed-3.ensures.rows
