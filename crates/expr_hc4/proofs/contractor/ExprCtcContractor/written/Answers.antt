use Rattle.std.proofs.Common.{◌≡◌, ◌<◌, List, length, sym, ap, subst, ◌∙◌}
use Rattle.expr_values.specs.Targets.{entry_narrowing}
use Rattle.tube_names.specs.declared.leaves.Leaf.{Leaf}
use Rattle.expr_hc4.specs.Places.{leaf_cell, leaf_cells, LeafFits}
use Rattle.expr_hc4.specs.Projections.{entries_at}
use Rattle.expr_hc4.specs.Programs.{bound_comparison, Program}
use Rattle.expr_hc4.proofs.Counts.{leaf_at, among-leaves, target-at}
use Rattle.expr_hc4.proofs.contractor.ExprCtcContractor.written.Goals as goal

pub bounds-leaves-i : goal.bounds-leaves-i
bounds-leaves-i c =
    let p = c.args.self.now.flat.value in
    let e : c.leaves.result.now ≡ p.leaves = c.leaves.ensures.value ∙ ap (λ (q : Program). q.leaves) c.deref.ensures in
    subst (λ (ls : List Leaf). c.args.i < length ls) (sym e) (among-leaves c.args.store.now.shape c.args.self.now.place p.leaves (λ j xs. entry_narrowing (entries_at (leaf_cells c.args.store.now.shape c.args.self.now.place p.leaves) xs) (bound_comparison p) j) c.args.i c.requires.below)

pub cell_of-requires : goal.cell_of-requires
cell_of-requires c =
    let p = c.args.self.now.flat.value in
    let e : c.leaves.result.now ≡ p.leaves = c.leaves.ensures.value ∙ ap (λ (q : Program). q.leaves) c.deref.ensures in
    subst (λ (ls : List Leaf). LeafFits c.args.store.now.shape c.args.self.now.place (leaf_at ls c.args.i)) (sym e)
    (c.requires.fits c.args.i _ (among-leaves c.args.store.now.shape c.args.self.now.place p.leaves (λ j xs. entry_narrowing (entries_at (leaf_cells c.args.store.now.shape c.args.self.now.place p.leaves) xs) (bound_comparison p) j) c.args.i c.requires.below))

pub returns : goal.returns
returns c =
    let p = c.args.self.now.flat.value in
    let e : c.leaves.result.now ≡ p.leaves = c.leaves.ensures.value ∙ ap (λ (q : Program). q.leaves) c.deref.ensures in
    c.cell_of.ensures.cell ∙ ap (λ (ls : List Leaf). leaf_cell c.args.store.now.shape c.args.self.now.place (leaf_at ls c.args.i)) e
    ∙ target-at c.args.store.now.shape c.args.self.now.place p.leaves (λ j xs. entry_narrowing (entries_at (leaf_cells c.args.store.now.shape c.args.self.now.place p.leaves) xs) (bound_comparison p) j) c.args.i c.requires.below
