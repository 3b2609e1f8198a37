use Rattle.std.proofs.Common.{◌∙◌, sym, ap, subst, ℤ}
use Rattle.tube_spec.specs.Span.{IsBounded, scale_of}
use Rattle.ctc_eval.proofs.Products.{scale-times, times-bounded, wider, read-ticks}
use Rattle.ctc_eval.proofs.clock.times.Goals as goal

pub scale-requires : goal.scale-requires
scale-requires c =
    let same = ap (λ (k : ℤ). scale_of k c.args.rate) (read-ticks c.args.ticks c.requires.ticks) ∙ scale-times c.args.ticks c.args.rate c.known.ensures.proper in
    subst (IsBounded 4000000000000000000) (sym same) (wider _ (times-bounded c.args.ticks c.args.rate c.requires.ticks c.requires.rate))

pub returns-clause-value : goal.returns-clause-value
returns-clause-value c =
    c.scale.ensures.value ∙ ap (λ (k : ℤ). scale_of k c.args.rate) (read-ticks c.args.ticks c.requires.ticks) ∙ scale-times c.args.ticks c.args.rate c.known.ensures.proper

pub returns-clause-bounded : goal.returns-clause-bounded
returns-clause-bounded c =
    let same = c.scale.ensures.value ∙ ap (λ (k : ℤ). scale_of k c.args.rate) (read-ticks c.args.ticks c.requires.ticks) ∙ scale-times c.args.ticks c.args.rate c.known.ensures.proper in
    subst (IsBounded 50000000000000) (sym same) (times-bounded c.args.ticks c.args.rate c.requires.ticks c.requires.rate)
