use Rattle.std.proofs.Common.{arith, ◌∙◌}
use Rattle.linked_cells.specs.Chosen.{place_cells}
use Rattle.linked_cells.proofs.Joins.{alone-down}
use Rattle.linked_cells.proofs.Inside.{under-inside, none-there}
use Rattle.linked_cells.proofs.Linking.{classes-made}
use Rattle.linked_cells.proofs.classes.join_all.Goals as goal

pub join_each-requires-clause-room : goal.join_each-requires-clause-room
join_each-requires-clause-room g c = omega (arith, c.requires.top, c.requires.room)

pub join_each-requires-clause-down : goal.join_each-requires-clause-down
join_each-requires-clause-down g c = alone-down c.args.parents.now c.requires.alone

pub join_withdrawn-requires-clause-to : goal.join_withdrawn-requires-clause-to
join_withdrawn-requires-clause-to g c = omega (arith, c.requires.room, c.join_each.ensures.len)

pub join_withdrawn-requires-clause-room : goal.join_withdrawn-requires-clause-room
join_withdrawn-requires-clause-room g c = omega (arith, c.requires.top, c.requires.room, c.join_each.ensures.len)

pub join_withdrawn-requires-clause-down : goal.join_withdrawn-requires-clause-down
join_withdrawn-requires-clause-down g c = c.join_each.ensures.down

pub returns-clause-len : goal.returns-clause-len
returns-clause-len g c = c.join_withdrawn.ensures.len ∙ c.join_each.ensures.len

pub returns-clause-classes : goal.returns-clause-classes
returns-clause-classes g c long =
    let K = g.C.Contractor in
    let T = g.row.C.Denot in
    let m = g.met.C.Contractor in
    let n = c.args.net.now in
    classes-made (place_cells K.projections K.scope n.store.shape) (none-there T K.projections K.scope K.fits m.in_store n.store.shape) n.contractors c.args.withdrawn.now c.args.top
    (λ k x h. omega (arith, under-inside T K.projections K.scope K.fits m.in_store n.store.shape n.store.box n.contractors c.known.ensures.places.store.shape c.known.ensures.places.fit k x h, c.requires.top))
    c.args.parents.now c.join_each.new.parents c.join_withdrawn.new.parents long c.requires.alone c.join_each.ensures c.join_withdrawn.ensures
