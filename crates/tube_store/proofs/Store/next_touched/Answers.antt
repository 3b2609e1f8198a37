use Rattle.std.proofs.Common.{arith, ◌<◌, ◌∙◌, subst, List, ℕ, false, length-set}
use Rattle.std.specs.VecDeque.{deque_capacity}
use Rattle.tube_store.specs.State.{State}
use Rattle.tube_store.specs.Touched.{AreTouched}
use Rattle.tube_store.proofs.Ring.{ring-pop, ring-first}
use Rattle.tube_store.proofs.Store.next_touched.Goals as goal

pub index_mut-requires : goal.index_mut-requires
index_mut-requires c = omega (arith, ring-first c.self.inside.marks.items _ (deque_capacity c.self.inside.ring) c.in_ok-cell.cell c.pop_front.new.self.items c.self.invariant.ring c.in_ok-cell.ensures.items)

pub invariant_of-self-2 : goal.invariant_of-self-2
invariant_of-self-2 c =
    let s = c.self.inside in
    let kept = c.self.invariant in
    record {
      layout = kept.layout;
      proper = kept.proper;
      bounded = kept.bounded;
      beside = length-set s.marks.items c.in_ok-cell.cell false ∙ kept.beside;
      ring = rw (c.pop_front.ensures.capacity)
          (ring-pop s.marks.items c.pop_front.new.self.items (deque_capacity s.ring) c.in_ok-cell.cell (subst (λ (l : List ℕ). AreTouched s.marks.items l (deque_capacity s.ring)) c.in_ok-cell.ensures.items kept.ring));
      widths = kept.widths;
    }

pub returns-clause-named : goal.returns-clause-named
returns-clause-named c =
    subst (λ (st : State). c.in_ok-cell.cell < st.shape.cells) c.self.view_is
    (omega (arith, c.self.invariant.beside, ring-first c.self.inside.marks.items _ (deque_capacity c.self.inside.ring) c.in_ok-cell.cell c.pop_front.new.self.items c.self.invariant.ring c.in_ok-cell.ensures.items))
