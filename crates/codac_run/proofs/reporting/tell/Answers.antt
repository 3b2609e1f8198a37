use Rattle.std.proofs.Common.{◌≡◌, ℕ, Result, Ok, Err, IfOk, OnErr, arith, pos, sym, subst, to_z, w64, ◌∙◌}
use Rattle.std.proofs.lemmas.Int.{to_z_pos}
use Rattle.codac_run.specs.declared.plan.Tail.{Tail}
use Rattle.codac_run.specs.declared.plan.Tail.TheVariants as tail
use Rattle.codac_run.specs.Tails.{CanTell}
use Rattle.mission_loops.specs.declared.writing.Findings.{Findings}
use Rattle.codac_run.specs.Telling.{AreToldAfter}
use Rattle.codac_run.proofs.Telling.{cut-areas, cut-sets, told-areas, told-nothing, told-sets, told-unwritten}
use Rattle.codac_run.proofs.reporting.tell.Goals as goal

if-ok-then : {S E : Type 0} (r : Result S E) (P Q : S → Type 0) → ((s : S) → P s → Q s) → IfOk r P → IfOk r Q
if-ok-then (Ok s) P Q f p = f s p
if-ok-then (Err e) P Q f p = tt

on-err : {S E : Type 0} (r : Result S E) (Q : Type 0) → Q → OnErr r Q
on-err (Ok s) Q q = tt
on-err (Err e) Q q = q

on-err-then : {S E : Type 0} (r : Result S E) (P Q : Type 0) → (P → Q) → OnErr r P → OnErr r Q
on-err-then (Ok s) P Q f p = tt
on-err-then (Err e) P Q f p = f p

-- a step that a tail can tell of is read as it is
step-read : (t : Tail) (step : ℕ) → CanTell t → t ≡ tail.Areas step → to_z w64 step ≡ pos step
step-read t step can is = let small = subst CanTell is can in to_z_pos w64 step (omega (arith, small.1))

pub returns-then-is_err-clause-told : goal.returns-then-is_err-clause-told
returns-then-is_err-clause-told g c =
    let a = c.args in
    subst (λ (f : Findings). AreToldAfter g.K.Sink.written g.K.Sink.flushed g.K.Sink.faults a.mission.now a.plan.now a.section.now a.store.now.box a.sink.now a.sink.now f) (sym c.without_sets.ensures)
    (told-unwritten g.K.Sink.written g.K.Sink.flushed g.K.Sink.faults a.mission.now a.plan.now a.section.now a.store.now.box a.sink.now (sym c.is_err.ensures.value ∙ c.if-is_err.true))

pub returns-in-Nothing-clause-told : goal.returns-in-Nothing-clause-told
returns-in-Nothing-clause-told g c =
    let a = c.args in
    subst (λ (f : Findings). AreToldAfter g.K.Sink.written g.K.Sink.flushed g.K.Sink.faults a.mission.now a.plan.now a.section.now a.store.now.box a.sink.now a.sink.now f) (sym c.without_sets-in-Nothing.ensures)
    (told-nothing g.K.Sink.written g.K.Sink.flushed g.K.Sink.faults a.mission.now a.plan.now a.section.now a.store.now.box a.sink.now (sym c.is_err.ensures.value ∙ c.if-is_err.false) c.in-Nothing.is)

pub returns-in-Findings-clause-told : goal.returns-in-Findings-clause-told
returns-in-Findings-clause-told g c =
    let a = c.args in
    if-ok-then c.write_findings.result _ _
    (λ findings are. told-sets g.K.Sink.written g.K.Sink.flushed g.K.Sink.faults a.mission.now a.plan.now a.section.now a.store.now.box a.sink.now (sym c.is_err.ensures.value ∙ c.if-is_err.false)
    c.write_findings.new.sink c.in-Findings.is findings are)
    c.write_findings.ensures.written

pub returns-in-Findings-clause-cut_short : goal.returns-in-Findings-clause-cut_short
returns-in-Findings-clause-cut_short g c =
    let a = c.args in
    on-err-then c.write_findings.result _ _
    (λ short. cut-sets g.K.Sink.written g.K.Sink.flushed g.K.Sink.faults a.mission.now a.plan.now a.section.now a.store.now.box a.sink.now (sym c.is_err.ensures.value ∙ c.if-is_err.false)
    c.write_findings.new.sink c.in-Findings.is short)
    c.write_findings.ensures.cut_short

pub returns-in_ok-written-in-Areas-clause-told : goal.returns-in_ok-written-in-Areas-clause-told
returns-in_ok-written-in-Areas-clause-told g c =
    let a = c.args in
    subst (λ (f : Findings). AreToldAfter g.K.Sink.written g.K.Sink.flushed g.K.Sink.faults a.mission.now a.plan.now a.section.now a.store.now.box a.sink.now c.write_areas.new.sink f) (sym c.without_sets-in-Areas.ensures)
    (told-areas g.K.Sink.written g.K.Sink.flushed g.K.Sink.faults a.mission.now a.plan.now a.section.now a.store.now.box a.sink.now (sym c.is_err.ensures.value ∙ c.if-is_err.false)
    c.write_areas.new.sink c.in-Areas.step c.in-Areas.is c.in_ok-written-in-Areas.written
    (rw (step-read a.plan.now.tail c.in-Areas.step c.requires.tail c.in-Areas.is) at c.in_ok-written-in-Areas.ensures.written))

pub returns-in_err-written-in-Areas-clause-cut_short : goal.returns-in_err-written-in-Areas-clause-cut_short
returns-in_err-written-in-Areas-clause-cut_short g c =
    let a = c.args in
    on-err c.from_residual.result _
    (cut-areas g.K.Sink.written g.K.Sink.flushed g.K.Sink.faults a.mission.now a.plan.now a.section.now a.store.now.box a.sink.now (sym c.is_err.ensures.value ∙ c.if-is_err.false)
    c.write_areas.new.sink c.in-Areas.step c.in-Areas.is
    (rw (step-read a.plan.now.tail c.in-Areas.step c.requires.tail c.in-Areas.is) at c.in_err-written-in-Areas.ensures.cut_short))
