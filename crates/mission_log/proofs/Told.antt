-- A log is refused at the first record that has a cause.
use Rattle.std.proofs.Common.{◌≡◌, ℕ, suc, ◌+◌, Bool, true, false, cond, List, [], ◌∷◌, Result, Ok, Err, length, take, drop, refl, ap, ◌∙◌, subst, arith, nat_lt}
use Rattle.std.specs.List.{list_all}
use Rattle.csv_rows.specs.Records.{Record, records_of}
use Rattle.log_fields.specs.declared.fault.Cause.{Cause}
use Rattle.log_fields.specs.declared.fault.Cause.TheVariants as cause
use Rattle.mission_items.specs.declared.mission.Mission.{Mission}
use Rattle.mission_log.specs.Laws.{IsFirstCause}
use Rattle.mission_log.specs.Log.{after, is_note_record, log_by, log_from, log_of, nothing_yet, step}
use Rattle.mission_log.proofs.Adding.{Adds, one_longer, step_adds}

-- the number and the cause that are told
number_told : Result Mission (ℕ × Cause) → ℕ
number_told (Ok mission) = 0
number_told (Err fault) = fault.0

cause_told : Result Mission (ℕ × Cause) → Cause
cause_told (Ok mission) = cause.Kind
cause_told (Err fault) = fault.1

pub same_number : (n m : ℕ) (c d : Cause) → ◌≡◌ {A = Result Mission (ℕ × Cause)} (Err (n, c)) (Err (m, d)) → n ≡ m
unfolding number_told
same_number n m c d e = ap number_told e

same_cause : (n m : ℕ) (c d : Cause) → ◌≡◌ {A = Result Mission (ℕ × Cause)} (Err (n, c)) (Err (m, d)) → c ≡ d
unfolding cause_told
same_cause n m c d e = ap cause_told e

-- the records after a mission so far, of which the one with a number is refused
pub record IsFirstAfter (d : Mission) (rs : List Record) (number : ℕ) (cause : Cause) : Type 0 where
  pub skipped : ℕ
  pub sum : length d.items + skipped ≡ number
  pub before : Mission
  pub taken : log_from d (take skipped rs) ≡ Ok before
  pub refused : Record
  pub others : List Record
  pub stands : drop skipped rs ≡ refused ∷ others
  pub finds : step before refused ≡ Err cause

one_more : (d e : Mission) (r : Record) (rs : List Record) (number : ℕ) (cause : Cause) → step d r ≡ Ok e → length e.items ≡ length d.items + 1 → IsFirstAfter e rs number cause → IsFirstAfter d (r ∷ rs) number cause
unfolding log_from
one_more d e r rs number cause goes size f = record {
  skipped = suc f.skipped;
  sum = omega (arith, f.sum, size);
  before = f.before;
  taken = ap (λ (s : Result Mission Cause). after d s (λ m. log_from m (take f.skipped rs))) goes ∙ f.taken;
  refused = f.refused;
  others = f.others;
  stands = f.stands;
  finds = f.finds;
}

told_after : (d : Mission) (r : Record) (rs : List Record) (number : ℕ) (cause : Cause) (s : Result Mission Cause) → step d r ≡ s → Adds d s
    → ((e : Mission) → log_from e rs ≡ Err (suc number, cause) → IsFirstAfter e rs number cause) → after d s (λ e. log_from e rs) ≡ Err (suc number, cause) → IsFirstAfter d (r ∷ rs) number cause
unfolding log_from
told_after d r rs number cause (Ok e) goes one more h = one_more d e r rs number cause goes (one_longer d e one) (more e h)
told_after d r rs number cause (Err c) goes one more h =
    let count = same_number (length d.items + 1) (suc number) c cause h in record {
      skipped = 0;
      sum = omega (arith, count);
      before = d;
      taken = refl;
      refused = r;
      others = rs;
      stands = refl;
      finds = goes ∙ ap (λ (x : Cause). Err x) (same_cause (length d.items + 1) (suc number) c cause h);
    }

told_from : (d : Mission) (rs : List Record) (number : ℕ) (cause : Cause) → log_from d rs ≡ Err (suc number, cause) → IsFirstAfter d rs number cause
unfolding log_from
told_from d [] number cause h = cc h
told_from d (r ∷ rs) number cause h = told_after d r rs number cause (step d r) refl (step_adds d r) (λ e. told_from e rs number cause) h

by_notes : (all : Bool) (log : Result Mission (ℕ × Cause)) (n : ℕ) (c : Cause) → cond all (Err (0, cause.NoMission)) log ≡ Err (suc n, c) → log ≡ Err (suc n, c)
by_notes true log n c h = absurd (let none : 0 ≡ suc n = same_number 0 (suc n) cause.NoMission c h in omega arith)
by_notes false log n c h = h

pub by_length : (too_long : Bool) (log : Result Mission (ℕ × Cause)) (n : ℕ) (c : Cause) → cond too_long (Err (0, cause.LogTooLong)) log ≡ Err (suc n, c) → log ≡ Err (suc n, c)
by_length true log n c h = absurd (let none : 0 ≡ suc n = same_number 0 (suc n) cause.LogTooLong c h in omega arith)
by_length false log n c h = h

first_of : (rs : List Record) (number : ℕ) (cause : Cause) → IsFirstAfter nothing_yet rs number cause → IsFirstCause rs number cause
first_of rs number cause f =
    let all : f.skipped ≡ number = omega (arith, f.sum) in record {
      before = f.before;
      taken = subst (λ (k : ℕ). log_from nothing_yet (take k rs) ≡ Ok f.before) all f.taken;
      refused = f.refused;
      others = f.others;
      stands = subst (λ (k : ℕ). drop k rs ≡ f.refused ∷ f.others) all f.stands;
      finds = f.finds;
    }

pub first_is_told : (log : List ℕ) (number : ℕ) (cause : Cause) → log_of log ≡ Err (suc number, cause) → IsFirstCause (records_of log) number cause
first_is_told log number cause h =
    first_of (records_of log) number cause (told_from nothing_yet (records_of log) number cause
    (by_notes (list_all is_note_record (records_of log)) (log_from nothing_yet (records_of log)) number cause
    (by_length (nat_lt 67108864 (length log)) (log_by (records_of log)) number cause h)))
