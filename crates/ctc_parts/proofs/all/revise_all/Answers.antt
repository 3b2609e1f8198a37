use Rattle.std.proofs.Common.{true, false}
use Rattle.ctc_parts.proofs.Visiting.{sweep-both, all-clean}
use Rattle.ctc_parts.proofs.all.revise_all.Goals as goal

pub returns : goal.returns
returns g c =
    let P = g.P.Parts in
    let me = c.args.parts.now in
    let a = c.args.store.now in
    sweep-both (P.parts me) (P.part me) (P.fits me) (g.met.P.Parts.monotone me) (λ i. true) (λ i. false) a c.visit_up-up.new.store c.visit_down-down.new.store c.visit_up-up.result c.visit_down-down.result c.then.result c.requires c.then.ensures (all-clean (P.parts me a.shape) (P.part me a.shape) a.box) c.visit_up-up.ensures c.visit_down-down.ensures
