-- What one call of a source or a sink does to the bytes that are told of, and to its count of faults.
use Rattle.std.specs.Prelude.{◌≡◌, ℕ, ◌≤◌, List, length, take, Option, IfSome}
use Rattle.std.specs.Io.KnownBytes.{Appends, Consumes, IsAtEnd}
use Rattle.tube_io.specs.Causes.{Rose}
use Rattle.tube_io.specs.declared.source.Got.{Got}
use Rattle.tube_io.specs.declared.source.Got.TheVariants as got
use Rattle.tube_io.specs.declared.sink.Put.{Put}
use Rattle.tube_io.specs.declared.sink.Put.TheVariants as put
use Rattle.tube_io.specs.declared.sink.Flushed.{Flushed}
use Rattle.tube_io.specs.declared.sink.Flushed.TheVariants as flushed

-- a read took the bytes that it gave from the front, at least one; nothing was left at the end; a failed read took nothing
abbrev pub Reads : Option (List ℕ) → Option (List ℕ) → Got → List ℕ → Type 0
Reads old new (got.Bytes n) into = (1 ≤ n) × (n ≤ length into) × Consumes old new (take n into)
Reads old new got.End into = IsAtEnd old × (new ≡ old)
Reads old new got.Failed into = new ≡ old

-- a read that fails raises the count of faults, and no other does
abbrev pub ReadCause : ℕ → ℕ → Got → Type 0
ReadCause before now (got.Bytes n) = now ≡ before
ReadCause before now got.End = now ≡ before
ReadCause before now got.Failed = (before ≤ now) × Rose before now

-- a write appends the bytes that it took, at least one; a failed write appends nothing
abbrev pub Writes : Option (List ℕ) → Option (List ℕ) → Put → List ℕ → Type 0
Writes old new (put.Took n) piece = (1 ≤ n) × (n ≤ length piece) × Appends old new (take n piece)
Writes old new put.Failed piece = new ≡ old

-- a write that fails raises the count of faults, and no other does
abbrev pub WriteCause : ℕ → ℕ → Put → Type 0
WriteCause before now (put.Took n) = now ≡ before
WriteCause before now put.Failed = (before ≤ now) × Rose before now

-- the number of bytes that were flushed is that of all that were written, where both are told
abbrev pub AllFlushed : Option ℕ → Option (List ℕ) → Type 0
AllFlushed count written = IfSome count (λ n. IfSome written (λ bytes. n ≡ length bytes))

-- a flush flushes all; a failed one leaves the number as it was
abbrev pub Flushes : Option ℕ → Option ℕ → Option (List ℕ) → Flushed → Type 0
Flushes before now written flushed.Done = AllFlushed now written
Flushes before now written flushed.Failed = now ≡ before

-- a flush that fails raises the count of faults, and no other does
abbrev pub FlushCause : ℕ → ℕ → Flushed → Type 0
FlushCause before now flushed.Done = now ≡ before
FlushCause before now flushed.Failed = (before ≤ now) × Rose before now
