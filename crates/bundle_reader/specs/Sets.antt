-- The parts of a set's text.
use Rattle.std.specs.Prelude.{Option, Some, None, ◌≡◌, ◌≢◌, ℕ, ◌^◌, ◌<◌, List, ◌++◌, length, codes, slice_index}
use Rattle.std.specs.List.{AllByRecursion}
use Rattle.loop_report.specs.Loops.{finding_words, front_text}
use Rattle.loop_sets.specs.declared.finding.Finding.{Finding}
use Rattle.tube_report.specs.Lines.{line}
use Rattle.bundle_text.specs.Bundles.{FindingFits, IsPair, IsTracedSet, sets_text}
use Rattle.bundle_text.specs.declared.bundle.TracedSet.{TracedSet}
use Rattle.bundle_reader.specs.Parts.{count_text, ticks_text}
use Rattle.bundle_reader.specs.declared.sets.SetLine.{SetLine}

-- what is found of a set, at the end of its line
abbrev pub finding_line : Finding → List ℕ
finding_line finding = line (finding_words finding)

-- the least and the greatest ticks of both signals
abbrev pub spans_text : (ℕ × ℕ) × (ℕ × ℕ) → List ℕ
spans_text spans = ticks_text (codes "a ") 32 spans.0 ++ ticks_text (codes "b ") 32 spans.1

-- the line of the set with this number
abbrev pub set_line : ℕ → SetLine → List ℕ
set_line number s = front_text number s.pairs s.a.0 s.a.1 s.b.0 s.b.1 ++ finding_line s.finding

pub record IsSetLine (s : SetLine) : Type 0 where
  pub pairs : s.pairs < 2 ^ 64
  pub a : IsPair s.a
  pub b : IsPair s.b
  pub finding : FindingFits s.finding

-- sets, so many
abbrev pub AreCounted : ℕ → List TracedSet → Type 0
AreCounted count sets = AllByRecursion IsTracedSet sets × (length sets ≡ count)

-- neither a run nor a cell nor a corner begins there: the first byte is neither `r` nor `c`
abbrev pub AfterSet : List ℕ → Type 0
AfterSet rest = (slice_index rest 0 ≢ 114) × (slice_index rest 0 ≢ 99)

-- how many sets a query has and each of them, or that it is crowded, behind its number
abbrev pub told_sets : Option (List TracedSet) → List ℕ
told_sets None = codes "crowded\n"
told_sets (Some sets) = count_text (codes "sets ") 10 (length sets) ++ sets_text 1 sets
