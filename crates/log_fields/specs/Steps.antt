-- Steps that may find a cause, and what a function of the code says of them.
use Rattle.std.specs.Prelude.{◌≡◌, Bool, true, false, Option, Some, None, Result, Ok, Err}
use Rattle.log_fields.specs.declared.fault.Cause.{Cause}
use Rattle.log_fields.specs.declared.fault.Stop.{Stop}
use Rattle.log_fields.specs.declared.fault.Stop.TheVariants as stop

-- the first cause that is found ends the steps
infixl 10 ◌>>=◌
abbrev pub ◌>>=◌ : {A B : Type 0} → Result A Cause → (A → Result B Cause) → Result B Cause
(Ok x) >>= f = f x
(Err e) >>= f = Err e

-- the cause, where the test fails
abbrev pub unless : Bool → Cause → Result (Unit {0}) Cause
unless true cause = Ok tt
unless false cause = Err cause

-- the value, or the cause where there is none
abbrev pub found_or : {A : Type 0} → Option A → Cause → Result A Cause
found_or None cause = Err cause
found_or (Some x) cause = Ok x

-- what a function answered is what the step finds, unless memory was refused
abbrev pub Stops : {Y : Type 0} → Stop → Result Y Cause → Type 0
Stops stop.Memory step = Unit {0}
Stops (stop.Because cause) step = step ≡ Err cause

abbrev pub Gives : {X Y : Type 0} → (X → Y) → Result X Stop → Result Y Cause → Type 0
Gives view (Ok x) step = step ≡ Ok (view x)
Gives view (Err e) step = Stops e step
