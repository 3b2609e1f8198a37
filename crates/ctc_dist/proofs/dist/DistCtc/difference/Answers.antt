use Rattle.std.proofs.Common.{arith, sym, ap, ap₂, ◌∙◌, length}
use Rattle.tube_spec.specs.Span.{sub_of}
use Rattle.tube_spec.specs.Box.{cell_at}
use Rattle.tube_spec.proofs.Monotone.{IfSome-map2}
use Rattle.tube_names.proofs.Numbers.{named-at, cell-at}
use Rattle.ctc_dist.proofs.dist.DistCtc.difference.Goals as goal

pub value-requires-clause-named : goal.value-requires-clause-named
value-requires-clause-named g c = named-at (length c.args.store.now.shape.vars) c.args.self.now.p c.requires.fits.one c.args.i _ (omega arith)

pub value-requires-2-clause-named : goal.value-requires-2-clause-named
value-requires-2-clause-named g c = named-at (length c.args.store.now.shape.vars) c.args.self.now.b c.requires.fits.other c.args.i _ (omega arith)

pub returns-clause-value : goal.returns-clause-value
returns-clause-value g c =
    let s = c.args.store.now.shape in
    let p = cell-at s c.args.self.now.p c.args.i (record { 0 = 0 }) (omega arith) in
    let b = cell-at s c.args.self.now.b c.args.i (record { 0 = 0 }) (omega arith) in
    IfSome-map2 _ _ _ c.args.store.now.box (λ xs x y. c.sub.ensures.value ∙ ap₂ sub_of (x ∙ ap (cell_at xs) (sym p)) (y ∙ ap (cell_at xs) (sym b))) c.value.ensures.value c.value-2.ensures.value
