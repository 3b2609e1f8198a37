use Rattle.std.proofs.Common.{◌≤◌, sym, subst, ap, ◌∙◌}
use Rattle.ctc_network.specs.Nets.{NetState, of_place, entries_of}
use Rattle.ctc_network.proofs.Waking.{sum-scopes}
use Rattle.ctc_network.proofs.net.Net.entries.Goals as goal

pub returns-clause-sum : goal.returns-clause-sum
returns-clause-sum g c =
    let K = g.C.Contractor in
    let n = c.self.inside in
    c.self.invariant.net.kept.table_of.sum ∙ sum-scopes (λ x. of_place K.scope x n.store.shape) n.contractors.items ∙ ap (λ (v : NetState g.row.C.Denot). entries_of (of_place K.scope) v.store.shape v.contractors) c.self.view_is

pub returns-clause-few : goal.returns-clause-few
returns-clause-few g c =
    let K = g.C.Contractor in
    let n = c.self.inside in
    subst (λ m. m ≤ 20000000) (sym (c.self.invariant.net.kept.table_of.sum ∙ sum-scopes (λ x. of_place K.scope x n.store.shape) n.contractors.items)) c.self.invariant.net.kept.state.net.entries
