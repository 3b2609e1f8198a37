use Rattle.std.proofs.Common.{◌+◌, ◌*◌, ◌/◌, ◌<◌, ◌≢◌, ◌≤◌, length, arith, ◌∙◌}
use Rattle.hull_tree.proofs.Blocks.{half-pow, halves, above-lowest, level-of, whole-block, over-join}
use Rattle.hull_tree.proofs.ranges.+over.Goals as goal

pub over-requires : goal.over-requires
over-requires t c =
    let low : 2 ≤ c.args.level = above-lowest c.args.side c.args.level c.requires.side (omega arith) in
    let deep : c.args.level ≢ 0 = λ e. omega (arith, low, e) in
    let h = half-pow c.args.side c.args.level c.requires.side deep in
    let b = halves c.args.block c.args.side (c.args.side / 2) h.1 in
    (omega (arith, deep), (c.requires.levels, (omega (arith, c.requires.level), (h.0, (omega (arith, h.1), (c.requires.short, (omega (arith, b.0), (c.requires.order, (omega (arith, b.0), c.requires.within)))))))))

pub over-requires-then-first-middle : goal.over-requires-then-first-middle
over-requires-then-first-middle t c =
    let low : 2 ≤ c.args.level = above-lowest c.args.side c.args.level c.requires.side (omega arith) in
    let deep : c.args.level ≢ 0 = λ e. omega (arith, low, e) in
    let h = half-pow c.args.side c.args.level c.requires.side deep in
    let b = halves c.args.block c.args.side (c.args.side / 2) h.1 in
    (omega (arith, deep), (c.requires.levels, (omega (arith, c.requires.level), (h.0, (omega (arith, h.1), (c.requires.short, (omega (arith, b.1), (c.requires.order, (omega (arith, b.1, h.1), c.requires.within)))))))))

pub over-lower-requires : goal.over-lower-requires
over-lower-requires t c =
    let low : 2 ≤ c.args.level = above-lowest c.args.side c.args.level c.requires.side (omega arith) in
    let deep : c.args.level ≢ 0 = λ e. omega (arith, low, e) in
    let h = half-pow c.args.side c.args.level c.requires.side deep in
    let b = halves c.args.block c.args.side (c.args.side / 2) h.1 in
    (omega (arith, deep), (c.requires.levels, (omega (arith, c.requires.level), (h.0, (omega (arith, h.1), (c.requires.short, (omega (arith, b.0), (omega arith, (omega (arith, b.0), omega arith)))))))))

pub over-upper-requires : goal.over-upper-requires
over-upper-requires t c =
    let low : 2 ≤ c.args.level = above-lowest c.args.side c.args.level c.requires.side (omega arith) in
    let deep : c.args.level ≢ 0 = λ e. omega (arith, low, e) in
    let h = half-pow c.args.side c.args.level c.requires.side deep in
    let b = halves c.args.block c.args.side (c.args.side / 2) h.1 in
    (omega (arith, deep), (c.requires.levels, (omega (arith, c.requires.level), (h.0, (omega (arith, h.1), (c.requires.short, (omega (arith, b.1), (omega arith, (omega (arith, b.1, h.1), c.requires.within)))))))))

pub returns : goal.returns
returns t c =
    let cut = over-join c.args.ticks.now c.args.first (c.args.block * c.args.side + c.args.side / 2) c.args.last (omega arith) (omega arith) in
    cc (c.over-lower.ensures, c.over-upper.ensures, c.join.ensures, cut)

pub index-requires : goal.index-requires
index-requires t c =
    let deep : 2 ≤ c.args.level = above-lowest c.args.side c.args.level c.requires.side c.if-side-lt4.false in
    let row = c.index-levels-level.result in
    let level = level-of c.args.ticks.now c.args.levels.now c.args.level c.args.side row c.requires.levels deep c.requires.level c.requires.side c.index-levels-level.is in
    let there : c.args.block < length row.items = level.all c.args.block (omega (arith, c.requires.begins, c.requires.order, c.requires.within)) in
    omega (arith, there, row.ok)

pub returns-then-last-end : goal.returns-then-last-end
returns-then-last-end t c =
    let deep : 2 ≤ c.args.level = above-lowest c.args.side c.args.level c.requires.side c.if-side-lt4.false in
    let row = c.index-levels-level.result in
    let level = level-of c.args.ticks.now c.args.levels.now c.args.level c.args.side row c.requires.levels deep c.requires.level c.requires.side c.index-levels-level.is in
    whole-block c.args.ticks.now c.args.side c.args.block c.args.first c.args.last row.items c.index.result.now level (omega (arith, c.requires.begins, c.requires.order, c.requires.within)) c.if-first-start.true (c.if-last-end.true ∙ c.min-end.ensures) c.index.ensures
