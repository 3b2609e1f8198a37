use Rattle.std.proofs.Common.{List, Result, Ok, Err, IfOk, take}
use Rattle.std.specs.Prelude.{Option}
use Rattle.loop_report.specs.declared.found.Found.{Found}
use Rattle.mission_loops.specs.Findings.{IsTold, IsToldOver}
use Rattle.mission_loops.proofs.Asking.{asked-in, rates-in}
use Rattle.mission_loops.proofs.Law.{told-of}
use Rattle.mission_loops.proofs.finding.find_loops.Goals as goal

pub sets_over-requires-clause-asked : goal.sets_over-requires-clause-asked
sets_over-requires-clause-asked g c = asked-in c.args.mission.now c.requires.mission c.args.upto c.args.store.now.shape c.requires.shape c.args.q.now c.requires.asked

pub sets_over-requires-clause-rates : goal.sets_over-requires-clause-rates
sets_over-requires-clause-rates g c = rates-in c.args.mission.now c.requires.mission c.args.upto c.args.store.now.shape c.requires.shape c.first_items.result.now c.first_items.ensures

if-ok-then : {S E : Type 0} (r : Result S E) (A B : S → Type 0) → ((s : S) → A s → B s) → IfOk r A → IfOk r B
if-ok-then (Ok s) A B f a = f s a
if-ok-then (Err e) A B f a = tt

pub returns-clause-told : goal.returns-clause-told
returns-clause-told g c =
    let m = c.args.mission.now in
    let box = c.args.store.now.box in
    if-ok-then c.sets_over.result (λ (told : Option (List Found)). IsToldOver c.first_items.result.now c.args.store.now.shape box c.args.q.now told)
    (λ (told : Option (List Found)). IsTold m.cuts (take c.args.upto m.items) box c.args.q.now told)
    (λ told over. told-of m c.args.upto box c.args.q.now told c.requires.mission c.requires.asked c.requires.encloses c.args.store.now.shape c.requires.shape c.first_items.result.now c.first_items.ensures over)
    c.sets_over.ensures.told
