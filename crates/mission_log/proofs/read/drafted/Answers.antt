use Rattle.std.proofs.Common.{◌≡◌, ℕ, ◌+◌, Bool, true, ◌&&◌, cond, Result, Err, ap, ap₂, sym, ◌∙◌, subst, arith}
use Rattle.std.specs.Prelude.{not}
use Rattle.std.specs.List.{list_all}
use Rattle.std.proofs.lemmas.Grind.{common_steps}
use Rattle.csv.specs.Records.{fields_of}
use Rattle.csv_rows.specs.Records.{records_of}
use Rattle.log_spelling.specs.Blanks.{is_note}
use Rattle.mission_log.specs.Log.{IsLog, is_note_record}
use Rattle.mission_items.specs.Made.{has_head}
use Rattle.log_fields.specs.declared.fault.Cause.{Cause}
use Rattle.log_fields.specs.declared.fault.Cause.TheVariants as cause
use Rattle.mission_items.specs.declared.mission.Mission.{Mission}
use Rattle.mission_log.proofs.Reading.{reading_ends, reading_goes_on, reading_stops}
use Rattle.mission_log.proofs.read.drafted.Goals as goal

pub loop-row-preserved : goal.loop-row-preserved
loop-row-preserved c =
    let split = rw c.if-branch.true at c.in_ok-next.ensures.next in
    reading_goes_on (records_of c.args.bytes.now) c.loop-row.rows c.next.new.self c.loop-row.draft c.take.new.draft (fields_of c.next.new.row) c.loop-row.invariant split c.in-Ok.ensures

pub returns-in-Err-Because-clause-log : goal.returns-in-Err-Because-clause-log
returns-in-Err-Because-clause-log c =
    let d = c.loop-row.draft in
    let r = fields_of c.next.new.row in
    let rest = c.next.new.self in
    let split = rw c.if-branch.true at c.in_ok-next.ensures.next in
    let found = rw c.in-Err-Because.field-0-is at c.in-Err-Because.ensures in
    let flags : (not c.has_head.result && c.is_note.result) ≡ (not (has_head d.items) && is_note_record r) =
    ap₂ (λ (a b : Bool). not a && b) c.has_head.ensures (c.is_note.ensures ∙ ap is_note c.field.ensures) in
    let number = ap (λ (n : ℕ). n + 1) c.len.ensures.value in
    let heard : IsLog (Err c.refused.result) (cond ((not c.has_head.result && c.is_note.result) && list_all is_note_record rest) (Err (0, cause.NoMission)) (Err (c.len.result + 1, c.in-Err-Because.cause))) =
    rw c.in-Err-Because.field-0-is at c.refused.ensures in
    subst (λ (log : Result Mission (ℕ × Cause)). IsLog (Err c.refused.result) log)
    (ap₂ (λ (f : Bool) (n : ℕ). cond (f && list_all is_note_record rest) (Err (0, cause.NoMission)) (Err (n, c.in-Err-Because.cause))) flags number
    ∙ sym (reading_stops (records_of c.args.bytes.now) c.loop-row.rows rest d r c.in-Err-Because.cause c.loop-row.invariant split found))
    heard

pub returns-clause-log : goal.returns-clause-log
returns-clause-log c =
    let none = rw c.if-branch.false at c.in_ok-next.ensures.next in
    let head : has_head c.loop-row.draft.items ≡ true = grind (arith, common_steps, c.has_head-2.ensures, c.if-not-has_head.false) in
    reading_ends (records_of c.args.bytes.now) c.loop-row.rows c.loop-row.draft c.loop-row.invariant none head
