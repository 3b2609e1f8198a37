use Rattle.std.proofs.Common.{◌≡◌, ℕ, List, Option, Some, None, refl, sym, ap, ◌∙◌, map}
use Rattle.std.specs.Prelude.{slice_set}
use Rattle.tube_store.specs.declared.SignalId.{SignalId}
use Rattle.ctc_eval.specs.Held.{rate_of}
use Rattle.mission_net.specs.Tables.{rate_at, rates_with, Table}
use Rattle.mission_net.proofs.Tabling.{rates-set}
use Rattle.mission_net.proofs.made.Made.add_rate.Goals as goal

-- the table with a rate that the signal had not
with_rate : (v t : Table) (rates : List (Option SignalId)) (x : ℕ) (rate : SignalId) → v ≡ t → v.rates ≡ map rate_of rates → rate_at t x ≡ None
    → record v { rates = map rate_of (slice_set rates x (Some rate)) } ≡ record t { rates = rates_with t.rates x rate.0 (rate_at t x) }
with_rate v t rates x rate same seen none =
    ap (λ (rs : List (Option ℕ)). record v { rates = rs }) (rates-set rates x rate.0 ∙ ap (λ (rs : List (Option ℕ)). slice_set rs x (Some rate.0)) (sym seen))
    ∙ ap (λ (u : Table). record u { rates = slice_set u.rates x (Some rate.0) }) same
    ∙ ap (λ (o : Option ℕ). record t { rates = rates_with t.rates x rate.0 o }) (sym none)

pub returns-in-None : goal.returns-in-None
returns-in-None c =
    let inside = c.self.inside in
    with_rate _ c.args.self.now inside.rates c.args.x.0 c.args.rate c.self.view_is refl (sym c.rate.ensures ∙ ap rate_of c.in-None.is)
