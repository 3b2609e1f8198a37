-- The text of what is found of a query about loops.
use Rattle.std.specs.Prelude.{ℕ, ◌+◌, Bool, Option, Some, None, List, [], ◌∷◌, ◌++◌, length, min, max, codes, decimal, flat_map, if◌then◌else◌}
use Rattle.std.specs.Fmt.{signed_decimal}
use Rattle.tplane_paver.specs.Runs.{pair_count}
use Rattle.tplane_paver.specs.declared.runs.Run.{Run}
use Rattle.tube_report.specs.Lines.{line}
use Rattle.loop_sets.specs.declared.finding.Finding.{Finding}
use Rattle.loop_sets.specs.declared.finding.Finding.TheVariants as finding
use Rattle.loop_report.specs.declared.found.Found.{Found}

-- the least and the greatest of a number that each run has
abbrev pub least_by : (Run → ℕ) → List Run → ℕ
least_by f [] = 0
least_by f (r ∷ []) = f r
least_by f (r ∷ s ∷ runs) = min (f r) (least_by f (s ∷ runs))

abbrev pub greatest_by : (Run → ℕ) → List Run → ℕ
greatest_by f [] = 0
greatest_by f (r ∷ runs) = max (f r) (greatest_by f runs)

-- ---- a set

-- words with a space behind each
abbrev pub spaced : List (List ℕ) → List ℕ
spaced [] = []
spaced (word ∷ words) = word ++ 32 ∷ spaced words

-- proved sure A B, or proved degree D, or possible
abbrev pub finding_words : Finding → List (List ℕ)
finding_words (finding.Sure a b) = codes "proved" ∷ codes "sure" ∷ decimal a ∷ decimal b ∷ []
finding_words (finding.Degree degree) = codes "proved" ∷ codes "degree" ∷ signed_decimal degree ∷ []
finding_words finding.Unproved = codes "possible" ∷ []

-- set NUMBER pairs COUNT a LEAST GREATEST b LEAST GREATEST, with a space behind
unfoldable pub front_text : ℕ → ℕ → ℕ → ℕ → ℕ → ℕ → List ℕ
front_text number pairs least_a greatest_a least_b greatest_b =
    spaced (codes "set" ∷ decimal number ∷ codes "pairs" ∷ decimal pairs ∷ codes "a" ∷ decimal least_a ∷ decimal greatest_a ∷ codes "b" ∷ decimal least_b ∷ decimal greatest_b ∷ [])

-- the same of a set: how many pairs it has, and their least and greatest ticks
abbrev pub set_front : ℕ → List Run → List ℕ
set_front number runs = front_text number (pair_count runs) (least_by (λ r. r.a) runs) (greatest_by (λ r. r.a) runs) (least_by (λ r. r.first) runs) (greatest_by (λ r. r.last) runs)

-- run A FIRST LAST
unfoldable pub run_line : Run → List ℕ
run_line run = line (codes "run" ∷ decimal run.a ∷ decimal run.first ∷ decimal run.last ∷ [])

-- the runs of a set, none in brief
abbrev pub runs_text : Bool → List Run → List ℕ
runs_text brief runs = if brief then [] else flat_map run_line runs

-- its line, which ends with what is found, and its runs
abbrev pub set_text : Bool → ℕ → Found → List ℕ
set_text brief number found = set_front number found.set ++ (line (finding_words found.finding) ++ runs_text brief found.set)

-- ---- a query

-- loops NUMBER crowded
unfoldable pub crowded_line : ℕ → List ℕ
crowded_line number = line (codes "loops" ∷ decimal number ∷ codes "crowded" ∷ [])

-- loops NUMBER sets COUNT
unfoldable pub sets_line : ℕ → ℕ → List ℕ
sets_line number count = line (codes "loops" ∷ decimal number ∷ codes "sets" ∷ decimal count ∷ [])

-- done NUMBER
unfoldable pub done_line : ℕ → List ℕ
done_line number = line (codes "done" ∷ decimal number ∷ [])

-- sets with their numbers, from n on
abbrev pub sets_text : Bool → ℕ → List Found → List ℕ
sets_text brief n [] = []
sets_text brief n (found ∷ sets) = set_text brief n found ++ sets_text brief (n + 1) sets

-- the sets in order, or that the query is crowded
abbrev pub loops_text : ℕ → Option (List Found) → Bool → List ℕ
loops_text number None brief = crowded_line number ++ done_line number
loops_text number (Some sets) brief = sets_line number (length sets) ++ (sets_text brief 1 sets ++ done_line number)
