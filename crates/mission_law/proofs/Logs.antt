-- A log that is accepted says a mission.
use Rattle.std.proofs.Common.{◌≡◌, ℕ, Bool, true, false, ◌||◌, ◌&&◌, cond, List, [], ◌∷◌, Result, Ok, Err, length, refl, ap, ◌∙◌, subst, nat_lt}
use Rattle.std.specs.Prelude.{IfOk, not}
use Rattle.std.specs.List.{list_all}
use Rattle.csv_rows.specs.Records.{Record, records_of}
use Rattle.expr_tree.specs.Trees.{Relation}
use Rattle.expr_text.specs.Spellable.{IsPrintable}
use Rattle.formula_text.specs.Readings.{reading_of}
use Rattle.log_fields.specs.declared.fault.Cause.{Cause}
use Rattle.log_fields.specs.declared.fault.Cause.TheVariants as cause
use Rattle.mission_items.specs.Made.{has_head}
use Rattle.mission_items.specs.Valid.{IsMission}
use Rattle.mission_items.specs.declared.mission.Mission.{Mission}
use Rattle.mission_log.specs.Log.{after, is_note_record, log_by, log_from, log_of, nothing_yet, step}
use Rattle.mission_log.proofs.Heads.{TellsHead, step_head}
use Rattle.mission_law.proofs.Keeping.{IsSound, sound_nothing}
use Rattle.mission_law.proofs.Steps.{Keeps, step_keeps}

-- what all records of a log leave: a sound mission, with a mission record where one stood before or a record is no note
abbrev Ends : Mission → List Record → Result Mission (ℕ × Cause) → Type 0
Ends d rs log = IfOk log (λ m. IsSound m × (has_head m.items ≡ (has_head d.items || not (list_all is_note_record rs))))

moved : (h n a : Bool) → ((h || not n) || not a) ≡ (h || not (n && a))
moved true n a = refl
moved false true a = refl
moved false false a = refl

or_none : (h : Bool) → h ≡ (h || not true)
or_none true = refl
or_none false = refl

module _ (printable : (text : List ℕ) (f : Relation) → reading_of text ≡ Ok f → IsPrintable f) where
  ends_next : (d e : Mission) (r : Record) (rs : List Record) (log : Result Mission (ℕ × Cause)) → has_head e.items ≡ (has_head d.items || not (is_note_record r)) → Ends e rs log → Ends d (r ∷ rs) log
  ends_next d e r rs (Ok m) tells k =
      (k.0, k.1 ∙ (ap (λ (b : Bool). b || not (list_all is_note_record rs)) tells ∙ moved (has_head d.items) (is_note_record r) (list_all is_note_record rs)))
  ends_next d e r rs (Err c) tells k = tt

  ends_after : (d : Mission) (r : Record) (rs : List Record) (s : Result Mission Cause) → Keeps s → TellsHead d (is_note_record r) s → ((e : Mission) → IsSound e → Ends e rs (log_from e rs))
      → Ends d (r ∷ rs) (after d s (λ e. log_from e rs))
  ends_after d r rs (Ok e) keeps tells more = ends_next d e r rs (log_from e rs) tells (more e keeps)
  ends_after d r rs (Err c) keeps tells more = tt

  ends_from : (rs : List Record) (d : Mission) → IsSound d → Ends d rs (log_from d rs)
  unfolding log_from
  ends_from [] d k = (k, or_none (has_head d.items))
  ends_from (r ∷ rs) d k = ends_after d r rs (step d r) (step_keeps printable d k r) (step_head d r) (λ e sound. ends_from rs e sound)

  mission_of : (m : Mission) → IsSound m → has_head m.items ≡ true → IsMission m
  mission_of m k head = record { head = head; clock = k.clock head; few = k.few; right = k.right }

  -- the records of a log, of which one is no note
  by_records : (notes : Bool) (rs : List Record) (m : Mission) → list_all is_note_record rs ≡ notes → cond notes (Err (0, cause.NoMission)) (log_from nothing_yet rs) ≡ Ok m → IsMission m
  by_records true rs m all h = cc h
  by_records false rs m all h =
      let k = subst (Ends nothing_yet rs) h (ends_from rs nothing_yet sound_nothing) in
      mission_of m k.0 (k.1 ∙ ap not all)

  by_length : (long : Bool) (rs : List Record) (m : Mission) → cond long (Err (0, cause.LogTooLong)) (log_by rs) ≡ Ok m → IsMission m
  by_length true rs m h = cc h
  by_length false rs m h = by_records (list_all is_note_record rs) rs m refl h

  pub accepted_mission : (log : List ℕ) (m : Mission) → log_of log ≡ Ok m → IsMission m
  accepted_mission log m h = by_length (nat_lt 67108864 (length log)) (records_of log) m h
