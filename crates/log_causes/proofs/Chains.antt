-- Steps that may find a cause, one after the other, and the first test that fails.
use Rattle.std.proofs.Common.{◌≡◌, ℕ, ◌&&◌, not, Bool, true, false, Option, Some, None, Result, Ok, Err, refl, ap, ◌∙◌, subst, if◌then◌else◌, ℤ, pos, negsuc, nat_le}
use Rattle.std.specs.Prelude.{IfOk}
use Rattle.std.specs.Option.{option_or}
use Rattle.log_fields.specs.Fields.{tick_of}
use Rattle.log_fields.specs.Sentences.{cause_in}
use Rattle.log_fields.specs.Steps.{◌>>=◌, unless}
use Rattle.log_fields.specs.declared.fault.Cause.{Cause}
use Rattle.log_fields.specs.declared.fault.Cause.TheVariants as cause
use Rattle.mission_items.specs.declared.item.Item.{Item}
use Rattle.mission_items.specs.declared.mission.Mission.{Mission}
use Rattle.log_draft.specs.Room.{room_for}
use Rattle.log_causes.specs.Items.{natural}
use Rattle.log_causes.specs.Sentences.{are_cells_few, are_feet_few, are_in_order, are_records_few, is_tick}
use Rattle.log_causes.specs.Laws.{judged}

-- the cause, where the test fails, and else what comes later
abbrev pub failing : Bool → Cause → Option Cause → Option Cause
failing b c later = if not b then Some c else later

-- ---- one step

pub test_then : {A : Type 0} (b : Bool) (c : Cause) (f : Unit {0} → Result A Cause) (o : Option Cause) (e : A) → f tt ≡ judged o e → (unless b c >>= f) ≡ judged (failing b c o) e
test_then true c f o e h = h
test_then false c f o e h = refl

-- a test of several that have one cause
pub and_then : {A : Type 0} (a q : Bool) (c : Cause) (s : Result A Cause) (o : Option Cause) (e : A) → s ≡ judged (failing q c o) e → (if a then s else Err c) ≡ judged (failing (a && q) c o) e
and_then true q c s o e h = h
and_then false q c s o e h = refl

-- steps in brackets are steps one after the other
pub in_line : {A B C : Type 0} (m : Result A Cause) (g : A → Result B Cause) (f : B → Result C Cause) → ((m >>= g) >>= f) ≡ (m >>= (λ x. g x >>= f))
in_line (Ok x) g f = refl
in_line (Err e) g f = refl

-- the same steps behind another
pub same_then : {A B : Type 0} (m : Result A Cause) (f g : A → Result B Cause) → ((x : A) → f x ≡ g x) → (m >>= f) ≡ (m >>= g)
same_then (Ok x) f g h = h x
same_then (Err e) f g h = refl

-- what was judged, and what is judged behind it
pub judged_then : {A B : Type 0} (m : Result A Cause) (f : A → Result B Cause) (o p : Option Cause) (x : A) (e : B) → m ≡ judged o x → f x ≡ judged p e → (m >>= f) ≡ judged (option_or o p) e
judged_then m f None p x e h k = ap (λ s. s >>= f) h ∙ k
judged_then m f (Some c) p x e h k = ap (λ s. s >>= f) h

-- ---- the fields of a record, and what comes behind them

pub fields_then : {A B : Type 0} (m : Result A Cause) (f : A → Result B Cause) (own later : Option Cause) (x : A) (e : B)
    → cause_in m ≡ own → IfOk m (λ y. y ≡ x) → f x ≡ judged later e → (m >>= f) ≡ judged (option_or own later) e
unfolding cause_in
fields_then (Ok y) f own later x e c is h =
    let start : f y ≡ judged (option_or None later) e = ap f is ∙ h in
    subst (λ (o : Option Cause). f y ≡ judged (option_or o later) e) c start
fields_then (Err z) f own later x e c is h = subst (λ (o : Option Cause). Err z ≡ judged (option_or o later) e) c refl

-- the causes of the fields in their order
abbrev pub own_cause : Bool → Bool → Bool → Bool → Option Cause
own_cause n names numbers limits = failing n cause.Fields (failing names cause.Name (failing numbers cause.Number (failing limits cause.Range None)))

abbrev pub own_then : Bool → Bool → Bool → Bool → Option Cause → Option Cause
own_then n names numbers limits later = failing n cause.Fields (failing names cause.Name (failing numbers cause.Number (failing limits cause.Range later)))

-- a kind that stands behind a mission record
pub kind_judged : {A : Type 0} (head n names numbers limits : Bool) (later : Option Cause) (s : Result A Cause) (e : A)
    → s ≡ judged (option_or (own_cause n names numbers limits) later) e
    → (if head then s else Err cause.NoMission) ≡ judged (failing head cause.NoMission (own_then n names numbers limits later)) e
kind_judged false n names numbers limits later s e h = refl
kind_judged true false names numbers limits later s e h = h
kind_judged true true false numbers limits later s e h = h
kind_judged true true true false limits later s e h = h
kind_judged true true true true false later s e h = h
kind_judged true true true true true later s e h = h

-- a kind of one version
pub version_judged : {A : Type 0} (head v n names numbers limits : Bool) (later : Option Cause) (f : Unit {0} → Result A Cause) (e : A)
    → f tt ≡ judged (option_or (own_cause n names numbers limits) later) e
    → (if head then (unless v cause.Kind >>= f) else Err cause.NoMission) ≡ judged (failing head cause.NoMission (failing v cause.Kind (own_then n names numbers limits later))) e
version_judged false v n names numbers limits later f e h = refl
version_judged true false n names numbers limits later f e h = refl
version_judged true true false names numbers limits later f e h = h
version_judged true true true false numbers limits later f e h = h
version_judged true true true true false limits later f e h = h
version_judged true true true true true false later f e h = h
version_judged true true true true true true later f e h = h

-- the mission record, which has a version
pub mission_judged : {A : Type 0} (v n names numbers limits : Bool) (later : Option Cause) (s : Result A Cause) (e : A)
    → s ≡ judged (option_or (failing v cause.Version (own_cause n names numbers limits)) later) e
    → s ≡ judged (failing v cause.Version (own_then n names numbers limits later)) e
mission_judged false n names numbers limits later s e h = h
mission_judged true false names numbers limits later s e h = h
mission_judged true true false numbers limits later s e h = h
mission_judged true true true false limits later s e h = h
mission_judged true true true true false later s e h = h
mission_judged true true true true true later s e h = h

-- ---- ticks

pub tick_then : {A : Type 0} (last : ℕ) (z : ℤ) (f : ℕ → Result A Cause) (q : Bool) (o : Option Cause) (e : A)
    → f (natural z) ≡ judged (failing q cause.Tick o) e → (tick_of last z >>= f) ≡ judged (failing (is_tick last z && q) cause.Tick o) e
tick_then last (pos n) f q o e h = by (nat_le n last)
  where
    by : (b : Bool) → ((if b then Ok n else Err cause.Tick) >>= f) ≡ judged (failing (b && q) cause.Tick o) e
    by true = h
    by false = refl
tick_then last (negsuc n) f q o e h = refl

one_tick : {A : Type 0} (b : Bool) (o : Option Cause) (e : A) (s : Result A Cause) → s ≡ judged (failing (b && true) cause.Tick o) e → s ≡ judged (failing b cause.Tick o) e
one_tick true o e s h = h
one_tick false o e s h = h

pub tick_judged : {A : Type 0} (last : ℕ) (z : ℤ) (f : ℕ → Result A Cause) (o : Option Cause) (e : A) → f (natural z) ≡ judged o e → (tick_of last z >>= f) ≡ judged (failing (is_tick last z) cause.Tick o) e
tick_judged last z f o e h = one_tick (is_tick last z) o e _ (tick_then last z f true o e h)

pub ticks_judged : {A : Type 0} (last : ℕ) (y z : ℤ) (f : ℕ → ℕ → Result A Cause) (o : Option Cause) (e : A) → f (natural y) (natural z) ≡ judged o e
    → (tick_of last y >>= (λ a. tick_of last z >>= (λ b. unless (nat_le a b) cause.Tick >>= (λ order. f a b)))) ≡ judged (failing (are_in_order last y z) cause.Tick o) e
ticks_judged last y z f o e h =
    tick_then last y _ (is_tick last z && nat_le (natural y) (natural z)) o e
    (tick_then last z _ (nat_le (natural y) (natural z)) o e
    (test_then (nat_le (natural y) (natural z)) cause.Tick (λ order. f (natural y) (natural z)) o e h))

-- ---- room

abbrev pub room_left : Mission → Item → Option Cause → Option Cause
room_left d i later = failing (are_cells_few d i) cause.Cells (failing (are_feet_few d i) cause.Foot (failing (are_records_few d) cause.Records later))

pub room_then : {A : Type 0} (d : Mission) (i : Item) (f : Unit {0} → Result A Cause) (o : Option Cause) (e : A) → f tt ≡ judged o e → (room_for d i >>= f) ≡ judged (room_left d i o) e
unfolding room_for
room_then d i f o e h = by (are_cells_few d i) (are_feet_few d i) (are_records_few d)
  where
    by : (a b c : Bool) → ((unless a cause.Cells >>= (λ cells. unless b cause.Foot >>= (λ feet. unless c cause.Records))) >>= f) ≡ judged (failing a cause.Cells (failing b cause.Foot (failing c cause.Records o))) e
    by false b c = refl
    by true false c = refl
    by true true false = refl
    by true true true = h
