-- A record that was read ends between two records, and the bytes after it are fewer.
use Rattle.std.proofs.Common.{◌≡◌, ℕ, zero, suc, ◌<◌, ◌≤◌, ◌==◌, ◌&&◌, Bool, true, false, cond, List, [], ◌∷◌, ◌++◌, Option, Some, None, length, refl, sym, ap, ◌∙◌, inl, inr, ◌⊎◌, arith, add-one}
use Rattle.csv.specs.Machine.{Read, after_end, ends_at_end, ends_with, field_after, fields_after, in_field, is_byte, is_end, next_record, start_field, start_record, step}
use Rattle.csv.specs.Reading.{default_config, records, records_from, records_next}
use Rattle.csv.specs.declared.parser.Action.{Action}
use Rattle.csv.specs.declared.parser.Action.TheVariants as act
use Rattle.csv.specs.declared.parser.Config.{Config}
use Rattle.csv.specs.declared.parser.State.{State}
use Rattle.csv.specs.declared.parser.State.TheVariants as st
use Rattle.csv.specs.declared.parser.Terminator.{Terminator}
use Rattle.csv.specs.declared.parser.Terminator.TheVariants as term
use Rattle.csv_rows.specs.Records.{Record}
use Rattle.csv_rows.specs.Left.{records_left}

-- which way a test went
chosen : {A : Type 0} (b : Bool) (x y z : A) → cond b x y ≡ z → ((b ≡ true) × (x ≡ z)) ⊎ ((b ≡ false) × (y ≡ z))
chosen true x y z e = inl (refl, e)
chosen false x y z e = inr (refl, e)

-- a step that ends a record leads between two records
abbrev Settles : State × Action → Type 0
Settles z = is_end z.1 ≡ true → ends_at_end z.0 ≡ false

either : (b : Bool) (x y : State × Action) → Settles x → Settles y → Settles (cond b x y)
either true x y p q = p
either false x y p q = q

ends_between : (t : Terminator) (c : ℕ) → ends_at_end (after_end t c) ≡ false
ends_between term.CRLF c = elim (c == 13) as (λ b. ends_at_end (cond b st.AfterCr st.StartRecord) ≡ false) [ true ↦ refl | false ↦ refl ]
ends_between (term.Any t) c = refl

goes_on : (s : State) (a : Action) → is_end a ≡ false → Settles (s, a)
goes_on s a e h = cc

in_field_settles : (cfg : Config) (c : ℕ) → Settles (in_field cfg c)
in_field_settles cfg c =
    either (c == cfg.delimiter) _ _ (goes_on st.StartField act.EndField refl)
    (either (ends_with cfg.terminator c) _ _ (λ _. ends_between cfg.terminator c) (goes_on st.InField act.Copy refl))

start_field_settles : (cfg : Config) (c : ℕ) → Settles (start_field cfg c)
start_field_settles cfg c = either (cfg.quoting && (c == cfg.quote)) _ _ (goes_on st.InQuoted act.Skip refl) (in_field_settles cfg c)

start_record_settles : (cfg : Config) (c : ℕ) → Settles (start_record cfg c)
start_record_settles cfg c =
    either (ends_with cfg.terminator c) _ _ (goes_on st.StartRecord act.Skip refl)
    (either (is_byte cfg.comment c) _ _ (goes_on st.InComment act.Skip refl) (start_field_settles cfg c))

step_settles : (cfg : Config) (s : State) (c : ℕ) → Settles (step cfg s c)
step_settles cfg st.StartRecord c = start_record_settles cfg c
step_settles cfg st.StartField c = start_field_settles cfg c
step_settles cfg st.InField c = in_field_settles cfg c
step_settles cfg st.InQuoted c = either (cfg.quoting && (c == cfg.quote)) _ _ (goes_on st.AfterQuote act.Skip refl) (either (cfg.quoting && is_byte cfg.escape c) _ _ (goes_on st.InEscape act.Skip refl) (goes_on st.InQuoted act.Copy refl))
step_settles cfg st.InEscape c = goes_on st.InQuoted act.Copy refl
step_settles cfg st.AfterQuote c = either (cfg.quoting && cfg.double_quote && (c == cfg.quote)) _ _ (goes_on st.InQuoted act.Copy refl) (in_field_settles cfg c)
step_settles cfg st.InComment c = either (c == 10) _ _ (goes_on st.StartRecord act.Skip refl) (goes_on st.InComment act.Skip refl)
step_settles cfg st.AfterCr c = either (c == 10) _ _ (goes_on st.StartRecord act.Skip refl) (start_record_settles cfg c)

-- the state after a record is between two records
pub next_settles : (cfg : Config) (s : State) (f : List (List ℕ)) (p xs : List ℕ) (r : Read) → next_record cfg s f p xs ≡ Some r → ends_at_end r.1 ≡ false
unfolding next_record
next_settles cfg s f p [] r e =
    elim (chosen (ends_at_end s) (Some (f ++ (p ∷ []), st.StartRecord, [])) None (Some r) e) [
      | inl h ↦ let same : ◌≡◌ {A = Read} (f ++ (p ∷ []), st.StartRecord, []) r = cc h.1 in ap (λ (q : Read). ends_at_end q.1) (sym same)
      | inr h ↦ cc h.1
    ]
next_settles cfg s f p (c ∷ rest) r e =
    elim (chosen (is_end (step cfg s c).1) (Some (fields_after (step cfg s c).1 f p, (step cfg s c).0, rest)) (next_record cfg (step cfg s c).0 (fields_after (step cfg s c).1 f p) (field_after (step cfg s c).1 c p) rest) (Some r) e) [
      | inl h ↦ let same : ◌≡◌ {A = Read} (fields_after (step cfg s c).1 f p, (step cfg s c).0, rest) r = cc h.1 in
          ap (λ (q : Read). ends_at_end q.1) (sym same) ∙ step_settles cfg s c h.0
      | inr h ↦ next_settles cfg (step cfg s c).0 _ _ rest r h.1
    ]

-- the bytes after a record are no more than the bytes before it
next_no_longer : (cfg : Config) (s : State) (f : List (List ℕ)) (p xs : List ℕ) (r : Read) → next_record cfg s f p xs ≡ Some r → length r.2 ≤ length xs
unfolding next_record
next_no_longer cfg s f p [] r e =
    elim (chosen (ends_at_end s) (Some (f ++ (p ∷ []), st.StartRecord, [])) None (Some r) e) [
      | inl h ↦ let same : ◌≡◌ {A = Read} (f ++ (p ∷ []), st.StartRecord, []) r = cc h.1 in
          let size : 0 ≡ length r.2 = ap (λ (q : Read). length q.2) same in omega arith
      | inr h ↦ cc h.1
    ]
next_no_longer cfg s f p (c ∷ rest) r e =
    elim (chosen (is_end (step cfg s c).1) (Some (fields_after (step cfg s c).1 f p, (step cfg s c).0, rest)) (next_record cfg (step cfg s c).0 (fields_after (step cfg s c).1 f p) (field_after (step cfg s c).1 c p) rest) (Some r) e) [
      | inl h ↦ let same : ◌≡◌ {A = Read} (fields_after (step cfg s c).1 f p, (step cfg s c).0, rest) r = cc h.1 in
          let size : length rest ≡ length r.2 = ap (λ (q : Read). length q.2) same in omega arith
      | inr h ↦ let size : length r.2 ≤ length rest = next_no_longer cfg (step cfg s c).0 _ _ rest r h.1 in omega arith
    ]

-- between two records they are fewer
pub next_shorter : (cfg : Config) (s : State) (f : List (List ℕ)) (p xs : List ℕ) (r : Read) → ends_at_end s ≡ false → next_record cfg s f p xs ≡ Some r → length r.2 < length xs
unfolding next_record
next_shorter cfg s f p [] r n e =
    elim (chosen (ends_at_end s) (Some (f ++ (p ∷ []), st.StartRecord, [])) None (Some r) e) [
      | inl h ↦ cc (n, h.0)
      | inr h ↦ cc h.1
    ]
next_shorter cfg s f p (c ∷ rest) r n e =
    elim (chosen (is_end (step cfg s c).1) (Some (fields_after (step cfg s c).1 f p, (step cfg s c).0, rest)) (next_record cfg (step cfg s c).0 (fields_after (step cfg s c).1 f p) (field_after (step cfg s c).1 c p) rest) (Some r) e) [
      | inl h ↦ let same : ◌≡◌ {A = Read} (fields_after (step cfg s c).1 f p, (step cfg s c).0, rest) r = cc h.1 in
          let size : length rest ≡ length r.2 = ap (λ (q : Read). length q.2) same in omega arith
      | inr h ↦ let size : length r.2 ≤ length rest = next_no_longer cfg (step cfg s c).0 _ _ rest r h.1 in omega arith
    ]

same_next : (o : Option Read) (f g : State → List ℕ → List Record) → ((p : Read) → o ≡ Some p → f p.1 p.2 ≡ g p.1 p.2) → records_next f o ≡ records_next g o
same_next None f g h = refl
same_next (Some p) f g h = ap (λ (rs : List Record). p.0 ∷ rs) (h p refl)

-- more turns than bytes find the same records
pub records_enough : (cfg : Config) (n m : ℕ) (s : State) (xs : List ℕ) → ends_at_end s ≡ false → length xs < n → length xs < m → records_from cfg n s xs ≡ records_from cfg m s xs
unfolding records_from
records_enough cfg zero m s xs e p q = absurd (omega arith)
records_enough cfg (suc n) zero s xs e p q = absurd (omega arith)
records_enough cfg (suc n) (suc m) s xs e p q =
    same_next (next_record cfg s [] [] xs) (records_from cfg n) (records_from cfg m) (λ r h.
    let fewer : length r.2 < length xs = next_shorter cfg s [] [] xs r e h in
    records_enough cfg n m r.1 r.2 (next_settles cfg s [] [] xs r h) (omega arith) (omega arith))

-- the records that are left, where there is a next one
pub left_more : (s : State) (xs : List ℕ) (r : Read) → ends_at_end s ≡ false → next_record default_config s [] [] xs ≡ Some r → records_left s xs ≡ r.0 ∷ records_left r.1 r.2
unfolding records_left records_from
left_more s xs r e h =
    let fewer : length r.2 < length xs = next_shorter default_config s [] [] xs r e h in
    rw h (ap (λ (rs : List Record). r.0 ∷ rs) (records_enough default_config (length xs) (suc (length r.2)) r.1 r.2 (next_settles default_config s [] [] xs r h) fewer (omega arith)))

-- and where there is none
pub left_none : (s : State) (xs : List ℕ) → next_record default_config s [] [] xs ≡ None → records_left s xs ≡ []
unfolding records_left records_from
left_none s xs h = rw h refl

-- a new reader has all records left
pub left_all : (xs : List ℕ) → records_left st.StartRecord xs ≡ records default_config xs
unfolding records_left
left_all xs = ap (λ (n : ℕ). records_from default_config n st.StartRecord xs) (sym (add-one (length xs)))
