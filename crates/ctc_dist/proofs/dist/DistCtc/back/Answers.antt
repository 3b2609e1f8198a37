use Rattle.std.proofs.Common.{arith, Option, option_map, sym, ap, ap₂, ◌∙◌, length}
use Rattle.tube_spec.specs.Span.{Span, sub_of}
use Rattle.tube_spec.specs.Narrowing.{narrowing_of}
use Rattle.tube_spec.specs.Box.{cell_at}
use Rattle.tube_spec.proofs.Monotone.{IfSome-map2}
use Rattle.tube_names.proofs.Numbers.{named-at, cell-at}
use Rattle.ctc_dist.proofs.dist.DistCtc.back.Goals as goal

pub value-requires-clause-named : goal.value-requires-clause-named
value-requires-clause-named g c = named-at (length c.args.store.now.shape.vars) c.args.self.now.p c.requires.fits.one c.args.i _ (omega arith)

pub returns : goal.returns
returns g c =
    let s = c.args.store.now.shape in
    let p = cell-at s c.args.self.now.p c.args.i (record { 0 = 0 }) (omega arith) in
    IfSome-map2 _ _ _ c.args.store.now.box
    (λ xs v o. c.given_of.ensures ∙ ap narrowing_of (c.less_by.ensures ∙ ap₂ (λ (x : Span) (y : Option Span). option_map (sub_of x) y) (v ∙ ap (cell_at xs) (sym p)) o))
    c.value.ensures.value c.offset.ensures.value
