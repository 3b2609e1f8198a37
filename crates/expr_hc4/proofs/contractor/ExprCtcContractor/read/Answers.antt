use Rattle.std.proofs.Common.{◌≡◌, ◌<◌, List, length, sym, ap, subst, ◌∙◌, arith}
use Rattle.std.proofs.lemmas.List.{length-map}
use Rattle.tube_names.specs.declared.leaves.Leaf.{Leaf}
use Rattle.expr_hc4.specs.Places.{leaf_cell, LeafFits}
use Rattle.tube_names.specs.Leaves.{first_uses}
use Rattle.expr_hc4.specs.Programs.{Program}
use Rattle.tube_names.proofs.Uses.{uses-all}
use Rattle.expr_hc4.proofs.Counts.{leaf_at}
use Rattle.expr_hc4.proofs.contractor.ExprCtcContractor.read.Goals as goal

pub cell_of-requires : goal.cell_of-requires
cell_of-requires c =
    let p = c.args.self.now.flat.value in
    let e : c.names.result.now ≡ first_uses p.leaves = c.names.ensures.value ∙ ap (λ (q : Program). first_uses q.leaves) c.deref.ensures in
    subst (λ (ls : List Leaf). LeafFits c.args.store.now.shape c.args.self.now.place (leaf_at ls c.args.i)) (sym e)
    (uses-all (LeafFits c.args.store.now.shape c.args.self.now.place) p.leaves c.requires.fits c.args.i _ (omega (arith, c.requires.below, length-map (first_uses p.leaves) (leaf_cell c.args.store.now.shape c.args.self.now.place))))
