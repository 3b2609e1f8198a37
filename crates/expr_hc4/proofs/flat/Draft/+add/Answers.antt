use Rattle.std.proofs.Common.{◌≡◌, ℕ, length}
use Rattle.std.proofs.lemmas.Result.{IfOk-weaker}
use Rattle.expr_tree.specs.Trees.{tree_of}
use Rattle.expr_values.specs.Expressions.{numbered}
use Rattle.expr_hc4.proofs.Decoding.{one-root, two-nodes, two-places, two-roots}
use Rattle.expr_hc4.proofs.flat.Draft.+add.Goals as goal

pub add_one-returns-clause-root : goal.add_one-returns-clause-root
add_one-returns-clause-root t c =
    IfOk-weaker _ _ _ (λ root h. one-root c.args.op (numbered (tree_of c.args.a.now) (length c.args.self.now.places.items)) c.args.self.now.nodes.items c.add.new.self.nodes.items root c.in_ok-a.ensures.nodes h) c.add_node.ensures.root

pub add_two-returns-clause-nodes : goal.add_two-returns-clause-nodes
add_two-returns-clause-nodes t c =
    IfOk-weaker _ _ _ (λ root h.
    two-nodes (tree_of c.args.a.now) (tree_of c.args.b.now) c.args.self.now.nodes.items c.add.new.self.nodes.items c.args.self.now.places.items c.add.new.self.places.items c.in_ok-a.ensures.nodes c.in_ok-a.ensures.places
    c.args.op c.add-2.new.self.nodes.items c.add_node.new.self.nodes.items c.in_ok-a.a c.in_ok-b.b c.in_ok-b.ensures.nodes c.in_ok-a.ensures.root c.in_ok-b.ensures.root h) c.add_node.ensures.nodes

pub add_two-returns-clause-places : goal.add_two-returns-clause-places
add_two-returns-clause-places t c =
    let kept = c.add_node.ensures.places in
    IfOk-weaker _ _ _ (λ root h.
    two-places (tree_of c.args.a.now) (tree_of c.args.b.now) c.args.self.now.nodes.items c.add.new.self.nodes.items c.args.self.now.places.items c.add.new.self.places.items c.in_ok-a.ensures.nodes c.in_ok-a.ensures.places
    c.args.op c.add_node.new.self.places.items (cc (kept, c.in_ok-b.ensures.places))) c.add_node.ensures.root

pub add_two-returns-clause-root : goal.add_two-returns-clause-root
add_two-returns-clause-root t c =
    IfOk-weaker _ _ _ (λ root h.
    two-roots (tree_of c.args.a.now) (tree_of c.args.b.now) c.args.self.now.nodes.items c.add.new.self.nodes.items c.args.self.now.places.items c.add.new.self.places.items c.in_ok-a.ensures.nodes c.in_ok-a.ensures.places
    c.args.op c.add-2.new.self.nodes.items root c.in_ok-b.ensures.nodes h) c.add_node.ensures.root
