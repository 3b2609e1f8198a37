-- The records are read one at a time.
use Rattle.std.proofs.Common.{◌≡◌, ◌+◌, Bool, true, false, ◌||◌, ◌&&◌, cond, List, [], ◌∷◌, Result, Ok, Err, length, refl, sym, ap, ◌∙◌, subst}
use Rattle.std.specs.Prelude.{not}
use Rattle.std.specs.List.{list_all}
use Rattle.csv_rows.specs.Records.{Record}
use Rattle.mission_log.specs.Log.{after, is_note_record, log_by, log_from, nothing_yet, step}
use Rattle.mission_items.specs.Made.{has_head}
use Rattle.log_fields.specs.declared.fault.Cause.{Cause}
use Rattle.log_fields.specs.declared.fault.Cause.TheVariants as cause
use Rattle.mission_items.specs.declared.mission.Mission.{Mission}
use Rattle.mission_log.proofs.Heads.{TellsHead, step_head}

-- what is known of all records, where a draft was made of the first ones and the others are left
pub record IsReading (all rows : List Record) (d : Mission) : Type 0 where
  pub log : log_from d rows ≡ log_from nothing_yet all
  pub notes : list_all is_note_record all ≡ (not (has_head d.items) && list_all is_note_record rows)

pub reading_starts : (all : List Record) → IsReading all all nothing_yet
reading_starts all = record { log = refl; notes = refl }

moved : (h n a : Bool) → (not h && (n && a)) ≡ (not (h || not n) && a)
moved true n a = refl
moved false true a = refl
moved false false a = refl

grouped : (h n a : Bool) → (not h && (n && a)) ≡ ((not h && n) && a)
grouped true n a = refl
grouped false n a = refl

log_next : (d e : Mission) (rows rest : List Record) (r : Record) → rows ≡ r ∷ rest → step d r ≡ Ok e → log_from d rows ≡ log_from e rest
unfolding log_from
log_next d e rows rest r split taken = rw split (ap (λ (s : Result Mission Cause). after d s (λ m. log_from m rest)) taken)

-- a record that is taken
pub reading_goes_on : (all rows rest : List Record) (d e : Mission) (r : Record) → IsReading all rows d → rows ≡ r ∷ rest → step d r ≡ Ok e → IsReading all rest e
reading_goes_on all rows rest d e r k split taken =
    let tells : has_head e.items ≡ (has_head d.items || not (is_note_record r)) = subst (TellsHead d (is_note_record r)) taken (step_head d r) in
    record {
      log = sym (log_next d e rows rest r split taken) ∙ k.log;
      notes = k.notes
          ∙ (ap (λ (xs : List Record). not (has_head d.items) && list_all is_note_record xs) split
          ∙ (moved (has_head d.items) (is_note_record r) (list_all is_note_record rest)
          ∙ ap (λ (b : Bool). not b && list_all is_note_record rest) (sym tells)));
    }

-- all records were taken, and there is a mission record
pub reading_ends : (all rows : List Record) (d : Mission) → IsReading all rows d → rows ≡ [] → has_head d.items ≡ true → log_by all ≡ Ok d
unfolding log_from
reading_ends all rows d k none head =
    let known : list_all is_note_record all ≡ false = k.notes ∙ ap (λ (b : Bool). not b && list_all is_note_record rows) head in
    rw known (sym k.log ∙ rw none refl)

-- all records were taken, and there is none
pub reading_finds_nothing : (all rows : List Record) (d : Mission) → IsReading all rows d → rows ≡ [] → has_head d.items ≡ false → log_by all ≡ Err (0, cause.NoMission)
reading_finds_nothing all rows d k none head =
    let known : list_all is_note_record all ≡ true = k.notes ∙ rw (head, none) refl in
    rw known refl

log_refused : (d : Mission) (rows rest : List Record) (r : Record) (c : Cause) → rows ≡ r ∷ rest → step d r ≡ Err c → log_from d rows ≡ Err (length d.items + 1, c)
unfolding log_from
log_refused d rows rest r c split found = rw split (ap (λ (s : Result Mission Cause). after d s (λ m. log_from m rest)) found)

-- a record has a cause
pub reading_stops : (all rows rest : List Record) (d : Mission) (r : Record) (c : Cause) → IsReading all rows d → rows ≡ r ∷ rest → step d r ≡ Err c
    → log_by all ≡ cond ((not (has_head d.items) && is_note_record r) && list_all is_note_record rest) (Err (0, cause.NoMission)) (Err (length d.items + 1, c))
reading_stops all rows rest d r c k split found =
    let known : list_all is_note_record all ≡ ((not (has_head d.items) && is_note_record r) && list_all is_note_record rest) =
    k.notes
    ∙ (ap (λ (xs : List Record). not (has_head d.items) && list_all is_note_record xs) split
    ∙ grouped (has_head d.items) (is_note_record r) (list_all is_note_record rest)) in
    rw (known, sym k.log, log_refused d rows rest r c split found) refl
