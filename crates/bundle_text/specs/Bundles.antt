-- The text of a bundle, from what it says.
use Rattle.std.specs.Prelude.{◌≡◌, ℕ, ◌+◌, ◌^◌, ◌<◌, ◌≤◌, Option, Some, None, IfSome, List, [], ◌∷◌, ◌++◌, length, flat_map, pos, neg_ℤ, ◌≤ℤ◌, ◌<ℤ◌}
use Rattle.std.specs.List.{AllByRecursion}
use Rattle.loop_degree.specs.declared.labels.Label.{Label}
use Rattle.loop_report.specs.Loops.{finding_words, front_text, run_line}
use Rattle.loop_sets.specs.declared.finding.Finding.{Finding}
use Rattle.loop_sets.specs.declared.finding.Finding.TheVariants as finding
use Rattle.report_reader.specs.Sections.{IsSection, text_of}
use Rattle.tplane_paver.specs.declared.runs.Run.{Run}
use Rattle.tube_report.specs.Lines.{line}
use Rattle.bundle_text.specs.Lines.{line_text}
use Rattle.bundle_text.specs.declared.bundle.Bundle.{Bundle}
use Rattle.bundle_text.specs.declared.bundle.TracedQuery.{TracedQuery}
use Rattle.bundle_text.specs.declared.bundle.TracedSection.{TracedSection}
use Rattle.bundle_text.specs.declared.bundle.TracedSet.{TracedSet}
use Rattle.bundle_text.specs.declared.lines.BundleLine.TheVariants as kind

-- ---- the text

-- a section: how many firings are listed of it, each of them, and the section's text with the same number
abbrev pub fire_text : ℕ → List ℕ
fire_text id = line_text (kind.Fire id)

abbrev pub section_text : TracedSection → List ℕ
section_text s = line_text (kind.Fires s.section.number (length s.fired)) ++ (flat_map fire_text s.fired ++ text_of s.section)

-- a set with its number: its line and its runs as the report has them, its cells, and its corners
abbrev pub cell_text : ℕ × ℕ → List ℕ
cell_text c = line_text (kind.Cell c.0 c.1)

abbrev pub corner_text : ℕ × ℕ × Label → List ℕ
corner_text c = line_text (kind.Corner c.0 c.1 c.2)

abbrev pub front_of : ℕ → TracedSet → List ℕ
front_of number s = front_text number s.pairs s.a.0 s.a.1 s.b.0 s.b.1 ++ line (finding_words s.finding)

abbrev pub set_text : ℕ → TracedSet → List ℕ
set_text number s = front_of number s ++ (flat_map run_line s.runs ++ (flat_map cell_text s.cells ++ flat_map corner_text s.corners))

-- sets with their numbers, from n on
abbrev pub sets_text : ℕ → List TracedSet → List ℕ
sets_text n [] = []
sets_text n (s ∷ sets) = set_text n s ++ sets_text (n + 1) sets

-- a query: how many sets it has, and each of them, or that it is crowded; and that it is done
abbrev pub told_text : ℕ → Option (List TracedSet) → List ℕ
told_text number None = line_text (kind.Crowded number)
told_text number (Some sets) = line_text (kind.Sets number (length sets)) ++ sets_text 1 sets

abbrev pub query_text : TracedQuery → List ℕ
query_text q = told_text q.number q.sets ++ line_text (kind.Done q.number)

-- a bundle: how many bytes the log has, these bytes and the byte 10, its sections, and its queries
abbrev pub bundle_text : Bundle → List ℕ
bundle_text b = line_text (kind.Bundle (length b.log)) ++ (b.log ++ 10 ∷ (flat_map section_text b.sections ++ flat_map query_text b.queries))

-- ---- what a bundle may say; orders and values that are not named here may be any

-- a number that fits a line: a tick, a count, or the number of a contractor or a query
abbrev pub IsNumber : ℕ → Type 0
IsNumber n = n < 2 ^ 32

-- the section is one that a report may have
pub record IsTracedSection (s : TracedSection) : Type 0 where
  pub few : IsNumber (length s.fired)
  pub fired : AllByRecursion IsNumber s.fired
  pub section : IsSection s.section

-- the numbers of a finding fit it
abbrev pub FindingFits : Finding → Type 0
FindingFits (finding.Sure a b) = IsNumber a × IsNumber b
FindingFits (finding.Degree degree) = (neg_ℤ (pos (2 ^ 63)) ≤ℤ degree) × (degree <ℤ pos (2 ^ 63))
FindingFits finding.Unproved = Unit {0}

-- a run has a pair
pub record IsRun (r : Run) : Type 0 where
  pub a : IsNumber r.a
  pub some : r.first ≤ r.last
  pub last : IsNumber r.last

-- two ticks: a unit cell, or the least and the greatest of a set's
abbrev pub IsPair : ℕ × ℕ → Type 0
IsPair c = IsNumber c.0 × IsNumber c.1

abbrev pub IsCorner : ℕ × ℕ × Label → Type 0
IsCorner c = IsNumber c.0 × IsNumber c.1

-- cells and corners are told of a set that is proved by its degree, and of no other
abbrev pub ToldOfDegree : Finding → List (ℕ × ℕ) → List (ℕ × ℕ × Label) → Type 0
ToldOfDegree (finding.Degree degree) cells corners = Unit {0}
ToldOfDegree (finding.Sure a b) cells corners = (cells ≡ []) × (corners ≡ [])
ToldOfDegree finding.Unproved cells corners = (cells ≡ []) × (corners ≡ [])

-- a set has a run
pub record IsTracedSet (s : TracedSet) : Type 0 where
  pub pairs : s.pairs < 2 ^ 64
  pub a : IsPair s.a
  pub b : IsPair s.b
  pub finding : FindingFits s.finding
  pub some : 1 ≤ length s.runs
  pub runs : AllByRecursion IsRun s.runs
  pub cells : AllByRecursion IsPair s.cells
  pub corners : AllByRecursion IsCorner s.corners
  pub degree : ToldOfDegree s.finding s.cells s.corners

abbrev pub AreTracedSets : List TracedSet → Type 0
AreTracedSets sets = IsNumber (length sets) × AllByRecursion IsTracedSet sets

pub record IsTracedQuery (q : TracedQuery) : Type 0 where
  pub number : IsNumber q.number
  pub sets : IfSome q.sets AreTracedSets

-- Any log, any number of sections, and any number of queries. That the counts and numbers of lines are right is in the text.
pub record IsBundle (b : Bundle) : Type 0 where
  pub size : IsNumber (length b.log)
  pub sections : AllByRecursion IsTracedSection b.sections
  pub queries : AllByRecursion IsTracedQuery b.queries
