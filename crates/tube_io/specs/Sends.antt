-- What a call that writes a whole text does to a sink.
use Rattle.std.specs.Prelude.{◌≡◌, ℕ, ◌≤◌, List, length, take, Option, Result, OnOk, OnErr}
use Rattle.std.specs.Io.KnownBytes.{Appends}
use Rattle.tube_io.specs.Causes.{Rose}

-- the first bytes of a text were appended
abbrev pub AppendsPrefix : Option (List ℕ) → Option (List ℕ) → List ℕ → Type 0
AppendsPrefix old new text = (n : ℕ) × (n ≤ length text) × Appends old new (take n text)

-- Ok appends the text, and no fault is counted. An error comes only where the count of faults rose, and a prefix of the text was
-- appended. Nothing is flushed, and the count never falls.
pub record Sends {K T E : Type 0} (written : K → Option (List ℕ)) (flushed : K → Option ℕ) (faults : K → ℕ) (text : List ℕ) (old new : K) (result : Result T E) : Type 0 where
  pub ok : OnOk result (Appends (written old) (written new) text)
  pub steady : OnOk result (faults new ≡ faults old)
  pub prefix : OnErr result (AppendsPrefix (written old) (written new) text)
  pub failed : OnErr result (Rose (faults old) (faults new))
  pub later : faults old ≤ faults new
  pub stays : flushed new ≡ flushed old
