use Rattle.std.proofs.Common.{◌≡◌, ℕ, ◌+◌, ◌-◌, ◌*◌, ◌≤◌, List, [], ◌∷◌, ◌++◌, arith, sym, ap, subst, ◌∙◌, length, replicate, false}
use Rattle.std.specs.VecDeque.{deque_capacity}
use Rattle.tube_spec.specs.Span.{width_of}
use Rattle.tube_spec.specs.Shape.{Shape, IsShape}
use Rattle.tube_spec.proofs.Prefixes.{IsShape-var}
use Rattle.tube_store.proofs.Adding.{kept-longer, length-more, widths-room}
use Rattle.tube_store.proofs.Store.add_var.Goals as goal

pub invariant_of-self-2 : goal.invariant_of-self-2
invariant_of-self-2 c =
    let s = c.self.inside in
    let layout = c.self.invariant.layout in
    let n : ℕ = 1 in
    let old : Shape = record { grid = s.grid; signals = s.firsts.items; vars = s.places.items; cells = length s.cells.items } in
    let count : (c.len-place.result + 1) - length s.cells.items ≡ n = omega (arith, c.len-place.ensures, c.if-place-ge-MOST_CELLS.false) in
    let cells : c.add_cells.new.cells.items ≡ s.cells.items ++ replicate n c.args.range = c.in_ok-add_cells.ensures.ok.0 ∙ ap (λ (k : ℕ). s.cells.items ++ replicate k c.args.range) count in
    let marks : c.add_cells.new.marks.items ≡ s.marks.items ++ replicate n false = c.in_ok-add_cells.ensures.ok.1 ∙ ap (λ (k : ℕ). s.marks.items ++ replicate k false) count in
    let few : length s.cells.items + n ≤ 2000000 = omega (arith, c.len-place.ensures, c.if-place-ge-MOST_CELLS.false) in
    let place : c.len-place.result ≡ length s.cells.items = omega (arith, c.len-place.ensures) in
    let widths : s.total + c.width.result ≡ s.total + n * width_of c.args.range = omega (arith, c.width.ensures) in
    let added : c.push_reserved.new.self.items ≡ s.places.items ++ length s.cells.items ∷ [] =
    c.push_reserved.ensures.items ∙ ap (λ (l : List ℕ). l ++ c.len-place.result ∷ []) c.reserve-2.ensures.items ∙ ap (λ (k : ℕ). s.places.items ++ k ∷ []) place in
    let shape = subst (λ (l : List ℕ). IsShape (record { grid = s.grid; signals = s.firsts.items; vars = l; cells = length s.cells.items + n })) (sym added) (IsShape-var old layout few) in
    let all = subst (λ (k : ℕ). IsShape (record { grid = s.grid; signals = s.firsts.items; vars = c.push_reserved.new.self.items; cells = k })) (sym (length-more s.cells.items c.add_cells.new.cells.items n c.args.range cells)) shape in
    rw (c.reserve.ensures.items)
    (kept-longer old _ s.cells.items c.add_cells.new.cells.items s.marks.items c.add_cells.new.marks.items s.ring.items (deque_capacity s.ring) (deque_capacity c.reserve.new.self) s.total _ n c.args.range c.self.invariant all
    c.known-proper.ensures.proper c.requires.range cells marks (omega (arith, c.in_ok-reserve.ensures.ok, c.len-place.ensures, c.if-place-ge-MOST_CELLS.false, ap length c.reserve.ensures.items)) widths)

pub overflow_add-self : goal.overflow_add-self
overflow_add-self c =
    let s = c.self.inside in
    let few : length s.cells.items + 1 ≤ 2000000 = omega (arith, c.len-place.ensures, c.if-place-ge-MOST_CELLS.false) in
    let room = widths-room s.cells.items s.total 1 c.args.range c.self.invariant.widths c.self.invariant.bounded c.requires.range few in
    record { fits = omega (arith, room, c.width.ensures) }
