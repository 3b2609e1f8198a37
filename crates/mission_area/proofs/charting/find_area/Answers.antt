use Rattle.std.proofs.Common.{Result, Ok, Err, IfOk, take, w64}
use Rattle.std.proofs.lemmas.Int.{to_z-of_z}
use Rattle.area_report.specs.declared.coverage.Coverage.{Coverage}
use Rattle.mission_area.specs.Coverages.{IsCoverage, IsCoveredOver}
use Rattle.mission_area.proofs.Law.{coverage-of}
use Rattle.mission_loops.proofs.Asking.{asked-in}
use Rattle.mission_area.proofs.charting.find_area.Goals as goal

if-ok-then : {S E : Type 0} (r : Result S E) (A B : S → Type 0) → ((s : S) → A s → B s) → IfOk r A → IfOk r B
if-ok-then (Ok s) A B f a = f s a
if-ok-then (Err e) A B f a = tt

pub charted-requires-clause-asked : goal.charted-requires-clause-asked
charted-requires-clause-asked c = asked-in c.args.mission.now c.requires.mission c.args.upto c.args.store.now.shape c.requires.shape c.args.q.now c.requires.asked

pub returns : goal.returns
returns c =
    let m = c.args.mission.now in
    let box = c.args.store.now.box in
    if-ok-then c.charted.result (λ (told : Coverage). IsCoveredOver c.args.store.now.shape box c.args.q.now c.args.step told)
    (λ (told : Coverage). IsCoverage m.cuts (take c.args.upto m.items) box c.args.step c.args.q.now told)
    (λ told over. coverage-of m c.args.upto box c.args.step c.args.q.now told c.requires.mission c.requires.asked c.requires.encloses c.args.store.now.shape c.requires.shape over)
    (rw (to_z-of_z w64 c.args.step c.ranges.step) at c.charted.ensures)
