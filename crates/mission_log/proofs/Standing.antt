-- A log that is refused at a record is refused the same whatever records follow.
use Rattle.std.proofs.Common.{◌≡◌, ℕ, suc, ◌≤◌, Bool, true, false, ◌&&◌, cond, List, [], ◌∷◌, ◌++◌, Result, Ok, Err, length, refl, ap, ◌∙◌, arith, nat_lt}
use Rattle.std.specs.List.{list_all}
use Rattle.std.proofs.lemmas.Bool.Decides.{nat_tests}
use Rattle.std.proofs.lemmas.List.Folds.{list_all-append}
use Rattle.csv_rows.specs.Records.{Record, records_of}
use Rattle.mission_log.specs.Log.{after, is_note_record, log_by, log_from, log_of, nothing_yet, step}
use Rattle.mission_log.proofs.Told.{by_length, same_number}
use Rattle.log_fields.specs.declared.fault.Cause.{Cause}
use Rattle.log_fields.specs.declared.fault.Cause.TheVariants as cause
use Rattle.mission_items.specs.declared.mission.Mission.{Mission}

-- a record that is refused ends the reading
stands_after : (d : Mission) (s : Result Mission Cause) (f g : Mission → Result Mission (ℕ × Cause)) (fault : ℕ × Cause)
    → ((e : Mission) → f e ≡ Err fault → g e ≡ Err fault) → after d s f ≡ Err fault → after d s g ≡ Err fault
stands_after d (Ok e) f g fault h k = h e k
stands_after d (Err c) f g fault h k = k

stands_from : (d : Mission) (rs more : List Record) (fault : ℕ × Cause) → log_from d rs ≡ Err fault → log_from d (rs ++ more) ≡ Err fault
unfolding log_from
stands_from d [] more fault h = cc h
stands_from d (r ∷ rs) more fault h = stands_after d (step d r) (λ e. log_from e rs) (λ e. log_from e (rs ++ more)) fault (λ e k. stands_from e rs more fault k) h

-- a refusal at a record is no refusal of notes alone
stands_by : (all all2 : Bool) (d : Mission) (rs more : List Record) (n : ℕ) (c : Cause) → (all ≡ false → all2 ≡ false)
    → cond all (Err (0, cause.NoMission)) (log_from d rs) ≡ Err (suc n, c) → cond all2 (Err (0, cause.NoMission)) (log_from d (rs ++ more)) ≡ Err (suc n, c)
stands_by true all2 d rs more n c w h = absurd (let none : 0 ≡ suc n = same_number 0 (suc n) cause.NoMission c h in omega arith)
stands_by false all2 d rs more n c w h = rw (w refl) (stands_from d rs more (suc n, c) h)

and_false : (a b : Bool) → a ≡ false → (a && b) ≡ false
and_false true b h = cc h
and_false false b h = refl

by_stands : (rs more : List Record) (n : ℕ) (c : Cause) → log_by rs ≡ Err (suc n, c) → log_by (rs ++ more) ≡ Err (suc n, c)
by_stands rs more n c h =
    stands_by (list_all is_note_record rs) (list_all is_note_record (rs ++ more)) nothing_yet rs more n c
    (λ e. list_all-append is_note_record rs more ∙ and_false (list_all is_note_record rs) (list_all is_note_record more) e) h

pub refusal_stands : (log longer : List ℕ) (more : List Record) (n : ℕ) (c : Cause) → length longer ≤ 67108864 → records_of longer ≡ records_of log ++ more
    → log_of log ≡ Err (suc n, c) → log_of longer ≡ Err (suc n, c)
refusal_stands log longer more n c short same h =
    let fits : nat_lt 67108864 (length longer) ≡ false = grind (arith, nat_tests) in
    let refused = by_stands (records_of log) more n c (by_length (nat_lt 67108864 (length log)) (log_by (records_of log)) n c h) in
    rw fits (ap log_by same ∙ refused)
