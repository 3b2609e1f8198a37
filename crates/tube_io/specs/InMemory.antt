-- What contracts see of the sources and sinks in memory, and what a call makes of them.
use Rattle.std.specs.Prelude.{◌≡◌, ℕ, ◌-◌, ◌^◌, ◌<◌, List, ◌++◌, Contains, drop, length, take}
use Rattle.tube_io.specs.Causes.{counted_up}
use Rattle.tube_io.specs.declared.source.Got.{Got}
use Rattle.tube_io.specs.declared.source.Got.TheVariants as got
use Rattle.tube_io.specs.declared.sink.Put.{Put}
use Rattle.tube_io.specs.declared.sink.Put.TheVariants as put
use Rattle.tube_io.specs.declared.sink.Flushed.{Flushed}
use Rattle.tube_io.specs.declared.sink.Flushed.TheVariants as flushed

-- the call with this number is one of those that are to fail; past the last value of a `u64` a call has no number
abbrev pub IsListed : List ℕ → ℕ → Type 0
IsListed fails call = (call < 2 ^ 64 - 1) × Contains fails call

-- a read that gives bytes gives so many
abbrev pub GivesExactly : ℕ → Got → Type 0
GivesExactly count (got.Bytes n) = n ≡ count
GivesExactly count got.End = Unit {0}
GivesExactly count got.Failed = Unit {0}

-- a write that takes bytes takes so many
abbrev pub TakesExactly : ℕ → Put → Type 0
TakesExactly count (put.Took n) = n ≡ count
TakesExactly count put.Failed = Unit {0}

-- ---- sources

-- the bytes still to come, how many of them a read gives at most, the numbers of the reads that fail, how many reads were made, and
-- how many of them failed
pub record ListedSource : Type 0 where
  pub rest : List ℕ
  pub most : ℕ
  pub fails : List ℕ
  pub calls : ℕ
  pub faults : ℕ

-- the source after a read that gave this
abbrev pub source_after : ListedSource → Got → ListedSource
source_after s (got.Bytes n) = record s { rest = drop n s.rest; calls = counted_up s.calls }
source_after s got.End = record s { calls = counted_up s.calls }
source_after s got.Failed = record s { calls = counted_up s.calls; faults = counted_up s.faults }

-- the bytes still to come, and how many of them a read gives at most
pub record PlainSource : Type 0 where
  pub rest : List ℕ
  pub most : ℕ

abbrev pub plain_source_after : PlainSource → Got → PlainSource
plain_source_after s (got.Bytes n) = record s { rest = drop n s.rest }
plain_source_after s got.End = s
plain_source_after s got.Failed = s

-- ---- sinks

-- the bytes taken, how many of them were flushed, how many a write takes at most, the numbers of the calls that fail, how many calls
-- were made, and how many of them failed
pub record ListedSink : Type 0 where
  pub bytes : List ℕ
  pub flushed : ℕ
  pub most : ℕ
  pub fails : List ℕ
  pub calls : ℕ
  pub faults : ℕ

-- the sink after a write of this piece that answered this
abbrev pub sink_after_write : ListedSink → List ℕ → Put → ListedSink
sink_after_write s piece (put.Took n) = record s { bytes = s.bytes ++ take n piece; calls = counted_up s.calls }
sink_after_write s piece put.Failed = record s { calls = counted_up s.calls; faults = counted_up s.faults }

-- the sink after a flush that answered this
abbrev pub sink_after_flush : ListedSink → Flushed → ListedSink
sink_after_flush s flushed.Done = record s { flushed = length s.bytes; calls = counted_up s.calls }
sink_after_flush s flushed.Failed = record s { calls = counted_up s.calls; faults = counted_up s.faults }

-- the bytes taken, how many of them were flushed, and how many writes failed
pub record PlainSink : Type 0 where
  pub bytes : List ℕ
  pub flushed : ℕ
  pub faults : ℕ

abbrev pub plain_sink_after_write : PlainSink → List ℕ → Put → PlainSink
plain_sink_after_write s piece (put.Took n) = record s { bytes = s.bytes ++ take n piece }
plain_sink_after_write s piece put.Failed = record s { faults = counted_up s.faults }
