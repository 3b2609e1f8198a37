use Rattle.std.proofs.Common.{◌≡◌, IsNone, IsTrue, ap, sym, subst, ◌∙◌}
use Rattle.std.proofs.lemmas.Result.{IfOk-weaker}
use Rattle.disjoint_sets.specs.Ways.{Joined}
use Rattle.disjoint_sets.specs.Trees.{IsParent}
use Rattle.tube_store.specs.State.{State}
use Rattle.linked_cells.specs.Chosen.{AreExactly, IsLinkedIn}
use Rattle.linked_cells.proofs.Choosing.{all-linked, some-linked}
use Rattle.linked_cells.proofs.linked.linked_cells.Goals as goal

pub returns-then-is_empty : goal.returns-then-is_empty
returns-then-is_empty g c =
    let K = g.C.Contractor in
    let n = c.args.net.now in
    let count : c.cells-count.result ≡ n.store.shape.cells = c.cells-count.ensures ∙ ap (λ (s : State). s.shape.cells) c.store.ensures in
    let none : IsNone n.store.box = subst (λ (s : State). IsNone s.box) c.store-2.ensures (c.is_empty.ensures.0 c.if-is_empty.true) in
    IfOk-weaker c.all_cells.result (λ v. AreExactly (λ k. Unit {0}) c.cells-count.result v.items) (λ v. AreExactly (IsLinkedIn K.projections K.scope n c.args.withdrawn.now) n.store.shape.cells v.items)
    (λ v h. all-linked K.projections K.scope n c.args.withdrawn.now c.cells-count.result v.items count none h) c.all_cells.ensures

pub returns : goal.returns
returns g c =
    let K = g.C.Contractor in
    let n = c.args.net.now in
    let count : c.cells-count.result ≡ n.store.shape.cells = c.cells-count.ensures ∙ ap (λ (s : State). s.shape.cells) c.store.ensures in
    let some : IsNone n.store.box → ⊥ = λ none. let yes : IsTrue c.is_empty.result = c.is_empty.ensures.1 (subst (λ (s : State). IsNone s.box) (sym c.store-2.ensures) none) in absurd (cc (yes, c.if-is_empty.false)) in
    IfOk-weaker c.joined_with.result (λ v. AreExactly (λ k. Joined (IsParent c.deref_mut.result.now) k c.cells-count.result) c.cells-count.result v.items) (λ v. AreExactly (IsLinkedIn K.projections K.scope n c.args.withdrawn.now) n.store.shape.cells v.items)
    (λ v h. some-linked K.projections K.scope n c.args.withdrawn.now c.cells-count.result v.items c.deref_mut.result.now c.in_ok-parents.parents.items count some c.in_ok-parents.ensures c.deref_mut.ensures.value h) c.joined_with.ensures
