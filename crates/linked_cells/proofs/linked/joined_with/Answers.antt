use Rattle.std.proofs.Common.{rules, ◌≡◌, ℕ, ◌+◌, List, refl, sym, subst, arith}
use Rattle.disjoint_sets.specs.Ways.{Joined}
use Rattle.disjoint_sets.specs.Trees.{IsParent}
use Rattle.disjoint_sets.proofs.Ways.{joined-map}
use Rattle.disjoint_sets.proofs.Trees.{keeps-self, keeps-trans}
use Rattle.tube_store.specs.declared.CellId.{CellId}
use Rattle.linked_cells.specs.Chosen.{AreExactly}
use Rattle.linked_cells.proofs.Gathered.{exactly-none, exactly-skip, exactly-more}
use Rattle.linked_cells.proofs.linked.joined_with.Goals as goal
use Rattle.linked_cells.proofs.linked.joined_with.Goals.{then-are_joined+in_ok-push, else-are_joined}

pub loop-k-init : goal.loop-k-init
loop-k-init c = record { keeps = keeps-self c.args.parents.now c.requires.down; cells = exactly-none (λ k. Joined (IsParent c.args.parents.now) k c.args.top) c.new-cells.result.items c.new-cells.ensures.items }

pub loop-k-preserved : goal.loop-k-preserved
loop-k-preserved c =
    let keeps = keeps-trans c.args.parents.now c.loop-k.parents c.are_joined.new.parents c.loop-k.invariant.keeps c.are_joined.ensures.keeps in record {
      keeps = keeps;
      cells = elim c.if-are_joined.branch [
        | then-are_joined+in_ok-push w ↦
            exactly-more (λ k. Joined (IsParent c.args.parents.now) k c.args.top) c.loop-k.k c.loop-k.cells.items c.if-are_joined.cells.items (record { 0 = c.loop-k.k }) refl (search rules) c.loop-k.invariant.cells
            (joined-map (IsParent c.are_joined.new.parents) (IsParent c.args.parents.now) keeps.back c.loop-k.k c.args.top (c.are_joined.ensures.joined.0 w.if-are_joined.true))
        | else-are_joined w ↦
            subst (λ (l : List CellId). AreExactly (λ k. Joined (IsParent c.args.parents.now) k c.args.top) (c.loop-k.k + 1) l) (sym (search rules))
            (exactly-skip (λ k. Joined (IsParent c.args.parents.now) k c.args.top) c.loop-k.k c.loop-k.cells.items c.loop-k.invariant.cells
            (λ way. let yes = c.are_joined.ensures.joined.1 (joined-map (IsParent c.args.parents.now) (IsParent c.are_joined.new.parents) keeps.there c.loop-k.k c.args.top way) in absurd (cc (yes, w.if-are_joined.false))))
      ];
    }

pub returns : goal.returns
returns c =
    let e : c.loop-k.k ≡ c.args.top = omega (arith, c.loop-k-test.false, c.loop-k.auto.k-end) in
    subst (λ (n : ℕ). AreExactly (λ k. Joined (IsParent c.args.parents.now) k c.args.top) n c.loop-k.cells.items) e c.loop-k.invariant.cells
