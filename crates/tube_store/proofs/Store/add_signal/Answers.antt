use Rattle.std.proofs.Common.{◌≡◌, ℕ, ◌+◌, ◌-◌, ◌*◌, ◌≤◌, List, [], ◌∷◌, ◌++◌, arith, sym, ap, ap₂, subst, ◌∙◌, length, replicate, false}
use Rattle.std.specs.VecDeque.{deque_capacity}
use Rattle.tube_spec.specs.Span.{width_of}
use Rattle.tube_spec.specs.Shape.{Shape, IsShape}
use Rattle.tube_spec.proofs.Prefixes.{IsShape-signal}
use Rattle.tube_store.proofs.Adding.{kept-longer, length-more, widths-room}
use Rattle.tube_store.proofs.Store.add_signal.Goals as goal

pub invariant_of-self-2 : goal.invariant_of-self-2
invariant_of-self-2 c =
    let s = c.self.inside in
    let layout = c.self.invariant.layout in
    let n : ℕ = 2 * length s.grid - 1 in
    let old : Shape = record { grid = s.grid; signals = s.firsts.items; vars = s.places.items; cells = length s.cells.items } in
    let count : (c.len-first.result + (2 * c.slices.result + 1)) - length s.cells.items ≡ n = omega (arith, c.len-first.ensures, c.slices.ensures, layout.grid.slices, c.if-last-gt-MOST_CELLS.false) in
    let cells : c.add_cells.new.cells.items ≡ s.cells.items ++ replicate n c.args.range = c.in_ok-add_cells.ensures.ok.0 ∙ ap (λ (k : ℕ). s.cells.items ++ replicate k c.args.range) count in
    let marks : c.add_cells.new.marks.items ≡ s.marks.items ++ replicate n false = c.in_ok-add_cells.ensures.ok.1 ∙ ap (λ (k : ℕ). s.marks.items ++ replicate k false) count in
    let few : length s.cells.items + n ≤ 2000000 = omega (arith, c.len-first.ensures, c.slices.ensures, layout.grid.slices, c.if-last-gt-MOST_CELLS.false) in
    let place : c.len-first.result ≡ length s.cells.items = omega (arith, c.len-first.ensures) in
    let widths : s.total + ((c.len-first.result + (2 * c.slices.result + 1)) - c.len-first.result) * c.width.result ≡ s.total + n * width_of c.args.range = ap₂ (λ (k w : ℕ). s.total + k * w) (omega (arith, c.slices.ensures, layout.grid.slices)) c.width.ensures in
    let added : c.push_reserved.new.self.items ≡ s.firsts.items ++ length s.cells.items ∷ [] =
    c.push_reserved.ensures.items ∙ ap (λ (l : List ℕ). l ++ c.len-first.result ∷ []) c.reserve-2.ensures.items ∙ ap (λ (k : ℕ). s.firsts.items ++ k ∷ []) place in
    let shape = subst (λ (l : List ℕ). IsShape (record { grid = s.grid; signals = l; vars = s.places.items; cells = length s.cells.items + n })) (sym added) (IsShape-signal old layout few) in
    let all = subst (λ (k : ℕ). IsShape (record { grid = s.grid; signals = c.push_reserved.new.self.items; vars = s.places.items; cells = k })) (sym (length-more s.cells.items c.add_cells.new.cells.items n c.args.range cells)) shape in
    rw (c.reserve.ensures.items)
    (kept-longer old _ s.cells.items c.add_cells.new.cells.items s.marks.items c.add_cells.new.marks.items s.ring.items (deque_capacity s.ring) (deque_capacity c.reserve.new.self) s.total _ n c.args.range c.self.invariant all
    c.known-proper.ensures.proper c.requires.range cells marks (omega (arith, c.in_ok-reserve.ensures.ok, c.len-first.ensures, c.slices.ensures, layout.grid.slices, c.if-last-gt-MOST_CELLS.false, ap length c.reserve.ensures.items)) widths)

pub overflow_add-self : goal.overflow_add-self
overflow_add-self c =
    let s = c.self.inside in
    let n : ℕ = (c.len-first.result + (2 * c.slices.result + 1)) - c.len-first.result in
    let few : length s.cells.items + n ≤ 2000000 = omega (arith, c.len-first.ensures, c.if-last-gt-MOST_CELLS.false) in
    let room = widths-room s.cells.items s.total n c.args.range c.self.invariant.widths c.self.invariant.bounded c.requires.range few in
    record { fits = omega (arith, room, ap (λ (w : ℕ). n * w) c.width.ensures) }
