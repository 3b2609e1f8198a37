-- What reading a whole source does to it.
use Rattle.std.specs.Prelude.{◌≡◌, ℕ, ◌+◌, ◌≤◌, List, length, Option, Result, Ok, Err}
use Rattle.std.specs.Io.KnownBytes.{Consumes, IsAtEnd}
use Rattle.std.specs.Global.{Vec}
use Rattle.tube_io.specs.Causes.{Rose}
use Rattle.tube_io.specs.declared.whole.ReadEnd.{ReadEnd}
use Rattle.tube_io.specs.declared.whole.ReadEnd.TheVariants as end

-- the source gave bytes, at least so many and at most so many
abbrev pub GaveBetween : ℕ → ℕ → Option (List ℕ) → Option (List ℕ) → Type 0
GaveBetween low high old new = (given : List ℕ) × (low ≤ length given) × (length given ≤ high) × Consumes old new given

-- all that was left, of at most `limit` bytes, and the end; or `limit + 1` bytes; or, where a read failed, at most `limit`; or, where
-- memory was refused, at least one and at most `limit + 1`
abbrev pub TakesWhole : ℕ → Option (List ℕ) → Option (List ℕ) → Result (Vec ℕ) ReadEnd → Type 0
TakesWhole limit old new (Ok bytes) = (length bytes.items ≤ limit) × Consumes old new bytes.items × IsAtEnd new
TakesWhole limit old new (Err end.TooLong) = GaveBetween (limit + 1) (limit + 1) old new
TakesWhole limit old new (Err end.Failed) = GaveBetween 0 limit old new
TakesWhole limit old new (Err end.NoMemory) = GaveBetween 1 (limit + 1) old new

-- the count of faults rises where a read failed, and otherwise stays
abbrev pub WholeCause : ℕ → ℕ → Result (Vec ℕ) ReadEnd → Type 0
WholeCause before now (Ok bytes) = now ≡ before
WholeCause before now (Err end.TooLong) = now ≡ before
WholeCause before now (Err end.Failed) = (before ≤ now) × Rose before now
WholeCause before now (Err end.NoMemory) = now ≡ before
