use Rattle.std.proofs.Common.{length, map}
use Rattle.tube_store.specs.declared.SignalId.{SignalId}
use Rattle.mission_loops.specs.Queries.{rates_of}
use Rattle.mission_loops.proofs.Telling.{components-over, rates-named, told-sets}
use Rattle.mission_loops.proofs.finding.sets_over.Goals as goal

pub proved-requires-clause-rates_x : goal.proved-requires-clause-rates_x
proved-requires-clause-rates_x g c =
    rates-named (length c.args.store.now.shape.signals) c.in_ok-rates_x.rates_x.items c.deref.result.now (rates_of c.args.items.now c.args.q.now.x.0) c.deref.ensures.value c.in_ok-rates_x.ensures (c.requires.rates c.args.q.now.x.0)

pub proved-requires-clause-rates_y : goal.proved-requires-clause-rates_y
proved-requires-clause-rates_y g c =
    rates-named (length c.args.store.now.shape.signals) c.in_ok-rates_y.rates_y.items c.deref-2.result.now (rates_of c.args.items.now c.args.q.now.y.0) c.deref-2.ensures.value c.in_ok-rates_y.ensures (c.requires.rates c.args.q.now.y.0)

pub proved-requires-clause-components : goal.proved-requires-clause-components
proved-requires-clause-components g c =
    components-over c.args.items.now c.args.store.now.shape c.args.q.now c.args.store.now.box c.in_ok-runs.field-0 c.in-Some.runs c.in-Some.is c.in_ok-runs.ensures.paved c.in_ok-sets.sets.items c.in_ok-sets.ensures

pub returns-clause-told : goal.returns-clause-told
returns-clause-told g c =
    told-sets c.args.items.now c.args.store.now.shape c.args.q.now c.args.store.now.box c.in_ok-runs.field-0 c.in-Some.runs c.in-Some.is c.in_ok-runs.ensures.paved c.in_ok-sets.sets.items c.in_ok-sets.ensures
    (map (λ (r : SignalId). r.0) c.deref.result.now) (map (λ (r : SignalId). r.0) c.deref-2.result.now) c.in_ok-found.found.items c.new.result c.requires.filled
    (rw c.deref.ensures.value c.in_ok-rates_x.ensures) (rw c.deref-2.ensures.value c.in_ok-rates_y.ensures) c.in_ok-found.ensures.sets c.in_ok-found.ensures.found c.new.ensures
