use Rattle.std.proofs.Common.{◌∙◌, ap}
use Rattle.ctc_network.specs.Nets.{NetState, of_place, readers_of}
use Rattle.ctc_network.proofs.Waking.{count-scopes}
use Rattle.ctc_network.proofs.net.Net.readers.Goals as goal

pub returns : goal.returns
returns g c =
    let K = g.C.Contractor in
    let n = c.self.inside in
    c.count.ensures ∙ c.self.invariant.net.kept.table_of.readers.count c.args.c.0 ∙ count-scopes (λ x. of_place K.scope x n.store.shape) n.contractors.items c.args.c.0
    ∙ ap (λ (v : NetState g.row.C.Denot). readers_of (of_place K.scope) v.store.shape v.contractors c.args.c.0) c.self.view_is
