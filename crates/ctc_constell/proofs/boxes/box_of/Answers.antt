use Rattle.std.proofs.Common.{arith, sym, ap, ◌∙◌, length, length-set}
use Rattle.tube_spec.specs.Box.{cell_at}
use Rattle.tube_spec.proofs.Monotone.{IfSome-map, IfSome-map2}
use Rattle.tube_names.specs.Points.{numbers, cells_of}
use Rattle.tube_names.proofs.Numbers.{named-at, cells-length, cell-at}
use Rattle.ctc_constell.proofs.Meeting.{all-read, read-more}
use Rattle.ctc_constell.proofs.boxes.box_of.Goals as goal

pub value-requires-clause-named : goal.value-requires-clause-named
value-requires-clause-named g c = named-at (length c.args.store.now.shape.vars) c.args.point.now c.requires.named c.loop-i.i _ (omega arith)

pub loop-i-preserved : goal.loop-i-preserved
loop-i-preserved g c =
    let s = c.args.store.now.shape in
    let cells = cells_of s (numbers c.args.point.now) in
    let cell = cell-at s c.args.point.now c.loop-i.i (record { 0 = 0 }) (omega arith) in
    record {
      size = simp length-set c.loop-i.invariant.size;
      read = IfSome-map2 _ _ _ c.args.store.now.box (λ xs below e. read-more xs cells c.loop-i.parts c.loop-i.i c.value.result (omega arith) below (e ∙ ap (cell_at xs) (sym cell))) c.loop-i.invariant.read c.value.ensures;
    }

pub returns-clause-value : goal.returns-clause-value
returns-clause-value g c =
    let s = c.args.store.now.shape in
    let cells = cells_of s (numbers c.args.point.now) in
    let size = cells-length s c.args.point.now in
    IfSome-map _ _ c.args.store.now.box (λ xs read. c.new.ensures ∙ all-read xs cells c.loop-i.parts (omega (arith, size, c.loop-i.invariant.size)) (λ k l. read k (omega (arith, l, size)))) c.loop-i.invariant.read
