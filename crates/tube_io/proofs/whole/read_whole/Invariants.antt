use Rattle.std.proofs.Common.{◌≡◌, ◌≤◌, ◌+◌, ◌-◌, vec_len}
use Rattle.std.specs.Io.KnownBytes.{Consumes}
use Rattle.tube_io.proofs.whole.read_whole.Given as goal

-- what was read so far is the front of what was left
abbrev pub invariant-loop-chunk : goal.invariant-loop-chunk
invariant-loop-chunk g l = record {
  taken : Consumes (g.S.Source.left l.fn.source) (g.S.Source.left l.source) l.bytes.items;
  short : vec_len l.bytes ≤ l.limit + 1;
  steady : g.S.Source.faults l.source ≡ g.S.Source.faults l.fn.source;
  turns : g.S.Source.reads l.source ≤ g.S.Source.reads l.fn.source + vec_len l.bytes;
}

abbrev pub decreases-loop-chunk : goal.decreases-loop-chunk
decreases-loop-chunk g l = (l.limit + 1) - vec_len l.bytes
