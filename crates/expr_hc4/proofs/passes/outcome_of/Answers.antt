use Rattle.std.proofs.Common.{◌≡◌, ◌*◌, ◌-◌, ◌<◌, ◌≤◌, ◌∙◌, length, refl, sym, arith}
use Rattle.tube_spec.specs.Box.{cell_at}
use Rattle.expr_hc4.specs.Programs.{program_comparison, node_at}
use Rattle.expr_hc4.proofs.Answering.{are-values, all_values, whole-outcome, nothing-compared, something-compared, nothing-narrowed, something-narrowed, nothing-changed, get-same, places-below, ordered-more, length-nodes}
use Rattle.expr_hc4.proofs.passes.outcome_of.Goals as goal

pub returns-then-not-evaluate : goal.returns-then-not-evaluate
returns-then-not-evaluate g c = λ j l.
    let d = program_comparison c.args.op c.args.nodes.now c.args.left in
    let xs = c.args.entries.now in
    let no = c.if-not-evaluate.ensures.no (all_values xs d c.args.nodes.now c.args.left c.args.places.now c.requires.program) (are-values xs d c.args.nodes.now c.args.left c.args.places.now c.requires.program) refl in
    whole-outcome xs d c.args.nodes.now c.args.left c.args.places.now c.requires.program no.0 no.1 no.2 j

pub returns-then-not-compare_sides : goal.returns-then-not-compare_sides
returns-then-not-compare_sides g c = λ j l.
    let d = program_comparison c.args.op c.args.nodes.now c.args.left in
    let xs = c.args.entries.now in
    let yes = c.if-not-evaluate.ensures.yes (all_values xs d c.args.nodes.now c.args.left c.args.places.now c.requires.program) (are-values xs d c.args.nodes.now c.args.left c.args.places.now c.requires.program) refl in
    nothing-compared xs d c.args.nodes.now c.args.left c.args.places.now c.requires.program c.evaluate.new.values (omega (arith, c.requires.program.few)) yes c.if-not-compare_sides.ensures j

pub narrow-requires-clause-ordered : goal.narrow-requires-clause-ordered
narrow-requires-clause-ordered g c = λ i l. ordered-more _ _ i (node_at c.args.nodes.now i) (omega arith) (c.requires.ordered i l)

pub returns-then-not-narrow : goal.returns-then-not-narrow
returns-then-not-narrow g c = λ j l.
    let d = program_comparison c.args.op c.args.nodes.now c.args.left in
    let xs = c.args.entries.now in
    let yes = c.if-not-evaluate.ensures.yes (all_values xs d c.args.nodes.now c.args.left c.args.places.now c.requires.program) (are-values xs d c.args.nodes.now c.args.left c.args.places.now c.requires.program) refl in
    let b = something-compared xs d c.args.nodes.now c.args.left c.args.places.now c.requires.program c.evaluate.new.values (omega (arith, c.requires.program.few)) yes c.compare_sides.new.values c.if-not-compare_sides.ensures in
    nothing-narrowed xs d c.args.nodes.now c.args.left c.args.places.now c.requires.program c.evaluate.new.values (omega (arith, c.requires.program.few)) yes c.compare_sides.new.values c.narrow.new.values b
    (c.if-not-narrow.ensures xs d b.x b.y _ c.requires.program.code b.state) j

pub compare_sides-requires-clause-left : goal.compare_sides-requires-clause-left
compare_sides-requires-clause-left g c =
    let e = program_comparison c.args.op c.args.nodes.now c.args.left in
    omega (arith, length-nodes c.args.entries.now e c.args.nodes.now c.args.left c.args.places.now c.requires.program, c.requires.program.left_root, c.requires.nodes)

pub listed : goal.listed
listed g c =
    let e = program_comparison c.args.op c.args.nodes.now c.args.left in
    omega (arith, length-nodes c.args.entries.now e c.args.nodes.now c.args.left c.args.places.now c.requires.program, c.requires.program.left_root, c.requires.nodes)

pub bounds-values-left : goal.bounds-values-left
bounds-values-left g c =
    let e = program_comparison c.args.op c.args.nodes.now c.args.left in
    omega (arith, length-nodes c.args.entries.now e c.args.nodes.now c.args.left c.args.places.now c.requires.program, c.requires.program.left_root, c.requires.nodes)

pub listed-3 : goal.listed-3
listed-3 g c =
    let e = program_comparison c.args.op c.args.nodes.now c.args.left in
    omega (arith, length-nodes c.args.entries.now e c.args.nodes.now c.args.left c.args.places.now c.requires.program, c.requires.program.left_root, c.requires.nodes)

pub bounds-values-left-2 : goal.bounds-values-left-2
bounds-values-left-2 g c =
    let e = program_comparison c.args.op c.args.nodes.now c.args.left in
    omega (arith, length-nodes c.args.entries.now e c.args.nodes.now c.args.left c.args.places.now c.requires.program, c.requires.program.left_root, c.requires.nodes)

pub offset_bounds-values-left-2 : goal.offset_bounds-values-left-2
offset_bounds-values-left-2 g c =
    let e = program_comparison c.args.op c.args.nodes.now c.args.left in
    omega (arith, length-nodes c.args.entries.now e c.args.nodes.now c.args.left c.args.places.now c.requires.program, c.requires.program.left_root, c.requires.program.few)

pub gather-requires-clause-among : goal.gather-requires-clause-among
gather-requires-clause-among g c = λ k d l.
    let e = program_comparison c.args.op c.args.nodes.now c.args.left in
    omega (arith, places-below c.args.entries.now e c.args.nodes.now c.args.left c.args.places.now c.requires.program k d l, c.requires.nodes)

pub gather-requires-2-clause-among : goal.gather-requires-2-clause-among
gather-requires-2-clause-among g c = λ k d l.
    let e = program_comparison c.args.op c.args.nodes.now c.args.left in
    omega (arith, places-below c.args.entries.now e c.args.nodes.now c.args.left c.args.places.now c.requires.program k d l, c.requires.nodes)

pub returns-then-is_same-2 : goal.returns-then-is_same-2
returns-then-is_same-2 g c = λ j l.
    let d = program_comparison c.args.op c.args.nodes.now c.args.left in
    let xs = c.args.entries.now in
    let yes = c.if-not-evaluate.ensures.yes (all_values xs d c.args.nodes.now c.args.left c.args.places.now c.requires.program) (are-values xs d c.args.nodes.now c.args.left c.args.places.now c.requires.program) refl in
    let room : length c.args.nodes.now ≤ length c.evaluate.new.values = omega (arith, c.requires.program.few) in
    let b = something-compared xs d c.args.nodes.now c.args.left c.args.places.now c.requires.program c.evaluate.new.values room yes c.compare_sides.new.values c.if-not-compare_sides.ensures in
    let vs = c.evaluate.new.values in
    let us = c.compare_sides.new.values in
    let k = c.args.left in
    let last = length c.args.nodes.now - 1 in
    let nodes = length-nodes xs d c.args.nodes.now c.args.left c.args.places.now c.requires.program in
    let low : k < length vs = omega (arith, nodes, c.requires.program.left_root, c.requires.nodes) in
    let lower : k < length us = omega (arith, nodes, c.requires.program.left_root, c.requires.nodes) in
    let high : last < length vs = omega (arith, nodes, c.requires.nodes) in
    let higher : last < length us = omega (arith, nodes, c.requires.nodes) in
    let p : cell_at us k ≡ cell_at vs k = get-same us k c.index-values-left-2.result lower ∙ c.if-is_same.ensures refl ∙ sym (get-same vs k c.index-values-left.result low) in
    let q : cell_at us last ≡ cell_at vs last =
    get-same us last c.index-values-right-then-is_same.result higher ∙ c.if-is_same-2.ensures refl ∙ sym (get-same vs last c.index-values-right.result high) in
    let same = nothing-changed xs d c.args.nodes.now c.args.left c.args.places.now c.requires.program vs room yes c.requires.proper us b p q in
    something-narrowed xs d c.args.nodes.now c.args.left c.args.places.now c.requires.program vs room yes us us c.gather.new.targets same.0 same.1 c.gather.ensures j l

pub returns : goal.returns
returns g c = λ j l.
    let d = program_comparison c.args.op c.args.nodes.now c.args.left in
    let xs = c.args.entries.now in
    let yes = c.if-not-evaluate.ensures.yes (all_values xs d c.args.nodes.now c.args.left c.args.places.now c.requires.program) (are-values xs d c.args.nodes.now c.args.left c.args.places.now c.requires.program) refl in
    let b = something-compared xs d c.args.nodes.now c.args.left c.args.places.now c.requires.program c.evaluate.new.values (omega (arith, c.requires.program.few)) yes c.compare_sides.new.values c.if-not-compare_sides.ensures in
    something-narrowed xs d c.args.nodes.now c.args.left c.args.places.now c.requires.program c.evaluate.new.values (omega (arith, c.requires.program.few)) yes c.compare_sides.new.values c.narrow.new.values c.gather-2.new.targets b
    (c.if-not-narrow.ensures xs d b.x b.y _ c.requires.program.code b.state) c.gather-2.ensures j l
