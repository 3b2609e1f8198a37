use Rattle.std.proofs.Common.{false}
use Rattle.ctc_parts.specs.Parts.{marked_in}
use Rattle.ctc_parts.proofs.Visiting.{sweep-both}
use Rattle.ctc_parts.proofs.sweep.sweep_by_parts.Goals as goal

pub returns : goal.returns
returns g c =
    let P = g.P.Parts in
    let me = c.args.parts.now in
    sweep-both (P.parts me) (P.part me) (P.fits me) (g.met.P.Parts.monotone me) (marked_in c.args.marks.now c.args.within.start c.args.within.end) (λ i. false) c.args.store.now c.sweep_up-up.new.store c.sweep_down-down.new.store c.sweep_up-up.result.answer c.sweep_down-down.result c.then.result c.requires.fits c.then.ensures c.requires.clean c.sweep_up-up.ensures c.sweep_down-down.ensures
