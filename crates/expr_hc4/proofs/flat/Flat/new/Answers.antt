use Rattle.std.proofs.Common.{◌≡◌}
use Rattle.expr_tree.specs.Trees.{tree_of, relation_of}
use Rattle.expr_hc4.proofs.Decoding.{first-nodes, first-places, first-root, comparison-is, flat-is}
use Rattle.expr_hc4.proofs.flat.Flat.new.Goals as goal

pub invariant_of-result : goal.invariant_of-result
invariant_of-result c =
    let t = tree_of c.args.rel.now.left in
    flat-is (relation_of c.args.rel.now) c.add.new.self.nodes.items c.add-2.new.self.nodes.items c.add.new.self.places.items c.add-2.new.self.places.items c.in_ok-left.left
    (first-nodes t c.new.result.items c.new-2.result.items c.new.ensures.items c.new-2.ensures.items c.add.new.self.nodes.items c.in_ok-left.ensures.nodes)
    (first-places t c.new.result.items c.new-2.result.items c.new.ensures.items c.new-2.ensures.items c.add.new.self.places.items c.in_ok-left.ensures.places)
    (first-root t c.new.result.items c.new-2.result.items c.new.ensures.items c.new-2.ensures.items c.in_ok-left.left c.in_ok-left.ensures.root)
    c.in_ok-add.ensures.nodes c.in_ok-add.ensures.places c.in_ok-from_slice.field-0.items c.in_ok-names.names.items c.requires.few
    (let e = c.in_ok-from_slice.ensures.items in let f = c.requires.leaves in cc) (let e = c.in_ok-from_slice.ensures.items in let f = c.in_ok-names.ensures in cc)

pub returns-clause-comparison : goal.returns-clause-comparison
returns-clause-comparison c =
    let t = tree_of c.args.rel.now.left in
    comparison-is (relation_of c.args.rel.now) c.add.new.self.nodes.items c.add-2.new.self.nodes.items c.add.new.self.places.items c.add-2.new.self.places.items c.in_ok-left.left
    (first-nodes t c.new.result.items c.new-2.result.items c.new.ensures.items c.new-2.ensures.items c.add.new.self.nodes.items c.in_ok-left.ensures.nodes)
    (first-places t c.new.result.items c.new-2.result.items c.new.ensures.items c.new-2.ensures.items c.add.new.self.places.items c.in_ok-left.ensures.places)
    (first-root t c.new.result.items c.new-2.result.items c.new.ensures.items c.new-2.ensures.items c.in_ok-left.left c.in_ok-left.ensures.root)
    c.in_ok-add.ensures.nodes c.in_ok-add.ensures.places
