-- A record of a kind goes to the step of its kind.
use Rattle.std.proofs.Common.{◌≡◌, ℕ, Bool, true, false, cond, List, Some, Result, Err, refl, ap, ◌∙◌}
use Rattle.csv_rows.specs.Records.{Record}
use Rattle.log_spelling.specs.Blanks.{is_note}
use Rattle.log_spelling.specs.Kinds.{kind_of, word_of}
use Rattle.log_spelling.specs.declared.kind.Kind.{Kind}
use Rattle.log_spelling.specs.declared.kind.Kind.TheVariants as kind
use Rattle.log_spelling.proofs.KindWords.{kind_read}
use Rattle.log_fields.specs.Fields.{field}
use Rattle.log_fields.specs.declared.fault.Cause.{Cause}
use Rattle.log_fields.specs.declared.fault.Cause.TheVariants as cause
use Rattle.mission_items.specs.Made.{has_head}
use Rattle.mission_items.specs.declared.item.Item.TheVariants as item
use Rattle.mission_items.specs.declared.mission.Mission.{Mission}
use Rattle.mission_log.specs.Log.{added, in_mission, kind_step, record_step, step}

-- no word for a kind begins a note
no_note : (k : Kind) → is_note (word_of k) ≡ false
no_note kind.Mission = refl
no_note kind.Cut = refl
no_note kind.Signal = refl
no_note kind.Variable = refl
no_note kind.Beacon = refl
no_note kind.Deriv = refl
no_note kind.Bound = refl
no_note kind.At = refl
no_note kind.Eval = refl
no_note kind.Delay = refl
no_note kind.Range = refl
no_note kind.Range3 = refl
no_note kind.Constell = refl
no_note kind.Ping = refl
no_note kind.Expr = refl
no_note kind.Exprv = refl
no_note kind.Revisit = refl
no_note kind.Settle = refl

pub step_of_kind : (d : Mission) (r : Record) (k : Kind) → field r 0 ≡ word_of k → step d r ≡ record_step d r (Some k)
unfolding step
step_of_kind d r k word =
    ap (λ (f : List ℕ). cond (is_note f) (added d item.Note) (record_step d r (kind_of f))) word
    ∙ (ap (λ (b : Bool). cond b (added d item.Note) (record_step d r (kind_of (word_of k)))) (no_note k)
    ∙ ap (record_step d r) (kind_read k))

-- a kind that only comes in a mission
pub step_inside : (d : Mission) (r : Record) (k : Kind) (e : Result Mission Cause) → field r 0 ≡ word_of k → record_step d r (Some k) ≡ in_mission d (kind_step d r (Some k)) → has_head d.items ≡ true → kind_step d r (Some k) ≡ e
    → step d r ≡ e
step_inside d r k e word other head h =
    step_of_kind d r k word ∙ (other ∙ (ap (λ (b : Bool). cond b (kind_step d r (Some k)) (Err cause.NoMission)) head ∙ h))
