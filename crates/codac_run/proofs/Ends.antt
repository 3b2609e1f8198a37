-- How a run over a log that was heard or made ends, and with which statuses.
use Rattle.std.proofs.Common.{◌≡◌, ℕ, ◌<◌, ◌⊎◌, inl, inr, Bool, true, nat_lt, List, [], ◌∷◌, ◌++◌, Option, Some, None, Result, Ok, Err, IfSome, arith, refl, sym, ap, subst, ◌∙◌, length, take, length-take-le}
use Rattle.std.specs.Prelude.{if◌then◌else◌}
use Rattle.std.proofs.lemmas.Bool.Decides.{nat_tests}
use Rattle.csv_rows.specs.Records.{records_of}
use Rattle.mission_log.specs.Log.{log_by, log_of}
use Rattle.log_fields.specs.declared.fault.Cause.{Cause}
use Rattle.mission_items.specs.declared.mission.Mission.{Mission}
use Rattle.mission_net.specs.Building.{IsSpentAs}
use Rattle.ctc_network.specs.declared.answers.Settled.{Settled}
use Rattle.ctc_network.specs.declared.answers.Settled.TheVariants as answer
use Rattle.log_fields.specs.declared.fault.Cause.TheVariants as cause
use Rattle.tube_io.specs.Causes.{Rose}
use Rattle.tube_io.specs.Sends.{AppendsPrefix}
use Rattle.section_report.specs.Sections.{Section, IsSectionOf, StartsBelow}
use Rattle.section_report.specs.Texts.{verdict_of}
use Rattle.section_report.proofs.Ends.{at-last}
use Rattle.codac_run.specs.declared.plan.Origin.{Origin}
use Rattle.codac_run.specs.declared.plan.Origin.TheVariants as origin
use Rattle.codac_run.specs.declared.plan.Plan.{Plan}
use Rattle.codac_run.specs.declared.ended.Ended.{Ended}
use Rattle.codac_run.specs.declared.ended.Status.{Status}
use Rattle.codac_run.specs.declared.ended.Status.TheVariants as status
use Rattle.codac_run.specs.Hearing.{Hears, TellsLowest, judged, log_heard}
use Rattle.codac_run.specs.Reports.{log_from, log_planned, status_of, run_text, Stops, IsShorter, EndsBy, EndsFrom, Ends}
use Rattle.codac_run.specs.Statuses.{Wrong, Accepted, Refused, Untold, Standing, standing_by, standing_of, IsReported, CanEnd, IsWholeOrNoMemory}

-- over a log that was heard
pub over-heard : (plan : Plan) (left rest old new : Option (List ℕ)) (flushed : Option ℕ) (e : Ended) (used : ℕ) (told : Option (List ℕ)) (log : Result Mission (List ℕ)) → Hears 67108864 left rest told → TellsLowest told → log_heard told ≡ log
    → EndsBy log plan old new flushed e used → EndsFrom origin.Source plan left rest old new flushed e used
over-heard plan left rest old new flushed e used told log hears lowest is ends =
    inr (inr (told, hears, lowest, subst (λ (l : Result Mission (List ℕ)). EndsBy l plan old new flushed e used) (sym is) ends))

pub over-accepted : (plan : Plan) (left rest old new : Option (List ℕ)) (flushed : Option ℕ) (e : Ended) (used : ℕ) (told : Option (List ℕ)) (m : Mission) → Hears 67108864 left rest told → TellsLowest told → log_heard told ≡ Ok m
    → Stops status.NoMemory old new e used ⊎ EndsBy (Ok m) plan old new flushed e used → EndsFrom origin.Source plan left rest old new flushed e used
over-accepted plan left rest old new flushed e used told m hears lowest is (inl stops) = inl stops
over-accepted plan left rest old new flushed e used told m hears lowest is (inr ends) = over-heard plan left rest old new flushed e used told (Ok m) hears lowest is ends

-- ---- the table of statuses

no-memory : (st : Standing) (s : Status) → s ≡ status.NoMemory → CanEnd st s
no-memory Wrong s e = inr (inr e)
no-memory Accepted s e = inr (inr (inr e))
no-memory Refused s e = inr (inr (inr e))
no-memory Untold s e = inr (inr (inr (inr e)))

no-read : (log : Option (Result Mission (List ℕ))) (s : Status) → s ≡ status.ReadFault → CanEnd (standing_by log) s
no-read None s e = inr (inr (inl e))
no-read (Some (Ok m)) s e = inr (inl e)
no-read (Some (Err line)) s e = inr (inl e)

by-verdict : (a : Settled) (s : Status) → s ≡ status_of (verdict_of a) → IsReported s
by-verdict answer.Fixpoint s e = inl e
by-verdict answer.Empty s e = inr (inl e)
by-verdict (answer.Spent id) s e = inr (inr e)

module _ (plan : Plan) (old new : Option (List ℕ)) (flushed : Option ℕ) (e : Ended) (used : ℕ) where
  can-report : (m : Mission) → EndsBy (Ok m) plan old new flushed e used → CanEnd Accepted e.status
  can-report m (inl out) = inr (inr (inr out.ended))
  can-report m (inr (inl out)) = inr (inr (inr out.ended))
  can-report m (inr (inr r)) = elim r.writes [ inl w ↦ inl (by-verdict r.last.answer e.status w.0) | inr w ↦ inr (inr (inl w.0)) ]

  pub can-by : (log : Result Mission (List ℕ)) → EndsBy log plan old new flushed e used → CanEnd (standing_by (Some log)) e.status
  can-by (Ok m) ends = can-report m ends
  can-by (Err line) (inl w, bare, none) = inl w.0
  can-by (Err line) (inr w, bare, none) = inr (inr (inl w.0))

  pub untold : (log : Result Mission (List ℕ)) → CanEnd (standing_by (Some log)) e.status → CanEnd Untold e.status
  untold (Ok m) (inl r) = inl r
  untold (Ok m) (inr s) = inr (inr s)
  untold (Err line) (inl r) = inr (inl r)
  untold (Err line) (inr s) = inr (inr s)

-- a log that is too long is refused as such
abbrev log_if : Bool → List ℕ → Result Mission (ℕ × Cause)
log_if long bytes = if long then Err (0, cause.LogTooLong) else log_by (records_of bytes)

is-long : (n : ℕ) → 67108864 < n → nat_lt 67108864 n ≡ true
is-long n h = grind (arith, nat_tests)

too-long : (bytes : List ℕ) → 67108864 < length bytes → log_of bytes ≡ Err (0, cause.LogTooLong)
too-long bytes long = ap (λ (b : Bool). log_if b bytes) (is-long (length bytes) long)

heard-is : (bytes : List ℕ) (rest told : Option (List ℕ)) → Hears 67108864 (Some bytes) rest told → log_heard told ≡ judged (log_of bytes)
heard-is bytes rest (Some xs) hears = ap (λ (l : List ℕ). judged (log_of l)) hears.0
heard-is bytes rest None hears = sym (ap judged (too-long bytes hears))

module _ (plan : Plan) (rest old new : Option (List ℕ)) (flushed : Option ℕ) (e : Ended) (used : ℕ) where
  pub can-from : (o : Origin) (left : Option (List ℕ)) → EndsFrom o plan left rest old new flushed e used → CanEnd (standing_by (log_from o left)) e.status
  can-from (origin.Demo seed) left (inl stops) = no-memory Accepted e.status stops.0
  can-from (origin.Demo seed) left (inr ends) = can-by plan old new flushed e used (Ok _) ends
  can-from origin.Source left (inl stops) = no-memory (standing_by (log_from origin.Source left)) e.status stops.0
  can-from origin.Source left (inr (inl stops)) = no-read (log_from origin.Source left) e.status stops.0
  can-from origin.Source None (inr (inr h)) = untold plan old new flushed e used (log_heard h.0) (can-by plan old new flushed e used (log_heard h.0) h.3)
  can-from origin.Source (Some bytes) (inr (inr h)) =
      subst (λ (log : Result Mission (List ℕ)). CanEnd (standing_by (Some log)) e.status) (heard-is bytes rest h.0 h.1) (can-by plan old new flushed e used (log_heard h.0) h.3)

-- which statuses can come
pub ends-can : (p : Option Plan) (left rest old new : Option (List ℕ)) (flushed : Option ℕ) (e : Ended) (used : ℕ) → Ends p left rest old new flushed e used → CanEnd (standing_of p left) e.status
ends-can None left rest old new flushed e used (inl stops) = no-memory Wrong e.status stops.0
ends-can None left rest old new flushed e used (inr (inl w, bare, none)) = inl w.0
ends-can None left rest old new flushed e used (inr (inr w, bare, none)) = inr (inl w.0)
ends-can (Some plan) left rest old new flushed e used ends = can-from plan rest old new flushed e used plan.origin left ends

-- ---- over an accepted log

-- where the source told a log that is accepted, the run stopped before or ended by this log
pub ends-accepted : (plan : Plan) (rest old new : Option (List ℕ)) (flushed : Option ℕ) (e : Ended) (used : ℕ) (o : Origin) (left : Option (List ℕ)) (m : Mission) → log_from o left ≡ Some (Ok m) → EndsFrom o plan left rest old new flushed e used
    → (e.status ≡ status.NoMemory) ⊎ (e.status ≡ status.ReadFault) ⊎ EndsBy (Ok m) plan old new flushed e used
ends-accepted plan rest old new flushed e used (origin.Demo seed) left m is (inl stops) = inl stops.0
ends-accepted plan rest old new flushed e used (origin.Demo seed) left m is (inr ends) =
    inr (inr (subst (λ (l : Option (Result Mission (List ℕ))). IfSome l (λ log. EndsBy log plan old new flushed e used)) is ends))
ends-accepted plan rest old new flushed e used origin.Source left m is (inl stops) = inl stops.0
ends-accepted plan rest old new flushed e used origin.Source left m is (inr (inl stops)) = inr (inl stops.0)
ends-accepted plan rest old new flushed e used origin.Source None m is (inr (inr h)) = absurd (cc is)
ends-accepted plan rest old new flushed e used origin.Source (Some bytes) m is (inr (inr h)) =
    inr (inr (subst (λ (l : Option (Result Mission (List ℕ))). IfSome l (λ log. EndsBy log plan old new flushed e used)) is
    (subst (λ (log : Result Mission (List ℕ)). EndsBy log plan old new flushed e used) (heard-is bytes rest h.0 h.1) h.3)))

no-fault : (a : Settled) → status_of (verdict_of a) ≡ status.WriteFault → ⊥
no-fault answer.Fixpoint e = cc e
no-fault answer.Empty e = cc e
no-fault (answer.Spent id) e = cc e

module _ (m : Mission) (plan : Plan) (old new : Option (List ℕ)) (flushed : Option ℕ) (e : Ended) (used : ℕ) where
  -- a section that starts below the budget is not spent
  unspent : (last : Section) → IsSpentAs m.cuts (take last.upto m.items) last.box last.began plan.sections.budget last.answer → last.began < plan.sections.budget → (a : Settled) → a ≡ last.answer
      → e.status ≡ status_of (verdict_of a) → IsWholeOrNoMemory e.status
  unspent last cause below answer.Fixpoint same w = inl w
  unspent last cause below answer.Empty same w = inr (inl w)
  unspent last cause below (answer.Spent id) same w =
      let c = subst (IsSpentAs m.cuts (take last.upto m.items) last.box last.began plan.sections.budget) (sym same) cause in absurd (omega (arith, c.0, below))

  pub whole-by : EndsBy (Ok m) plan old new flushed e used → StartsBelow m plan.sections.budget → (e.status ≡ status.WriteFault → ⊥) → IsWholeOrNoMemory e.status
  whole-by (inl out) below fine = inr (inr out.ended)
  whole-by (inr (inl out)) below fine = inr (inr out.ended)
  whole-by (inr (inr r)) below fine = elim r.writes [
    | inl w ↦
        unspent r.last (at-last (IsSectionOf m plan.sections.budget) r.earlier r.last r.sections.sections.each).cause (below r.earlier r.last r.sections) r.last.answer refl w.0
    | inr w ↦ absurd (fine w.0)
  ]

  -- the bytes of a report are no more than a text that it begins with
  pub few-bytes : (bytes : List ℕ) (n : ℕ) → old ≡ Some [] → new ≡ Some bytes → EndsBy (Ok m) plan old new flushed e used → IsShorter m plan n → e.status ≡ status.WriteFault → length bytes < n
  few-bytes bytes n none some (inl out) short fault = absurd (let bad : status.WriteFault ≡ status.NoMemory = sym fault ∙ out.ended in cc bad)
  few-bytes bytes n none some (inr (inl out)) short fault = absurd (let bad : status.WriteFault ≡ status.NoMemory = sym fault ∙ out.ended in cc bad)
  few-bytes bytes n none some (inr (inr r)) short fault = elim r.writes [
    | inl w ↦ absurd (no-fault r.last.answer (sym w.0 ∙ fault))
    | inr w ↦
        let text = run_text m plan (r.earlier ++ r.last ∷ []) r.told in
        let sent : AppendsPrefix (Some []) (Some bytes) text = subst (λ (o : Option (List ℕ)). AppendsPrefix (Some []) o text) some (subst (λ (o : Option (List ℕ)). AppendsPrefix o new text) none w.1) in
        let few = short text (record { earlier = r.earlier; last = r.last; sections = r.sections; told = r.told; findings = r.findings; told_last = r.told_last; is = refl }) in
        omega (arith, ap length sent.2, length-take-le sent.0 text sent.1, few)
  ]

-- where the words are right, the log is accepted, nothing failed and each section starts below the budget, the report is whole, or memory ran out
pub ends-whole : (p : Option Plan) (left rest old new : Option (List ℕ)) (flushed : Option ℕ) (e : Ended) (used : ℕ) → Ends p left rest old new flushed e used → (plan : Plan) (m : Mission) → p ≡ Some plan → log_planned plan left ≡ Some (Ok m)
    → (e.status ≡ status.ReadFault → ⊥) → (e.status ≡ status.WriteFault → ⊥) → StartsBelow m plan.sections.budget → IsWholeOrNoMemory e.status
ends-whole p left rest old new flushed e used ends plan m right accepted read write below =
    elim (ends-accepted plan rest old new flushed e used plan.origin left m accepted (subst (λ (q : Option Plan). Ends q left rest old new flushed e used) right ends)) [
      | inl out ↦ inr (inr out)
      | inr more ↦ elim more [ inl fault ↦ absurd (read fault) | inr by ↦ whole-by m plan old new flushed e used by below write ]
    ]

-- ---- in memory

-- a count that rose is not 0
pub rose-some : (before now : ℕ) → Rose before now → 0 < now
rose-some before now (inl more) = omega (arith, more)
rose-some before now (inr last) = omega (arith, last)

-- no count rose from 0 to 0
pub no-rose : Rose 0 0 → ⊥
no-rose (inl more) = omega (arith, more)
no-rose (inr last) = omega (arith, last)

-- in a sink that fails only where it has so many bytes, no write fails where no text that the report begins with has so many
pub no-write-fault : (p : Option Plan) (log bytes : List ℕ) (rest : Option (List ℕ)) (flushed : Option ℕ) (e : Ended) (used : ℕ) → Ends p (Some log) rest (Some []) (Some bytes) flushed e used → (plan : Plan) (m : Mission) → p ≡ Some plan
    → log_planned plan (Some log) ≡ Some (Ok m) → (n : ℕ) → IsShorter m plan n → (e.status ≡ status.WriteFault → length bytes ≡ n) → e.status ≡ status.WriteFault → ⊥
no-write-fault p log bytes rest flushed e used ends plan m right accepted n short full fault =
    elim (ends-accepted plan rest (Some []) (Some bytes) flushed e used plan.origin (Some log) m accepted (subst (λ (q : Option Plan). Ends q (Some log) rest (Some []) (Some bytes) flushed e used) right ends)) [
      | inl out ↦ let bad : status.WriteFault ≡ status.NoMemory = sym fault ∙ out in cc bad
      | inr more ↦ elim more [
        | inl read ↦ let bad : status.WriteFault ≡ status.ReadFault = sym fault ∙ read in cc bad
        | inr by ↦ omega (arith, full fault, few-bytes m plan (Some []) (Some bytes) flushed e used bytes n refl refl by short fault)
      ]
    ]
