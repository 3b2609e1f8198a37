-- What is true of every bundle's text, and the texts of two small bundles.
use Rattle.std.specs.Prelude.{◌≡◌, ℕ, Option, Some, None, option_map, List, [], ◌∷◌, ◌++◌, codes, false, flat_map, map, pos, negsuc}
use Rattle.loop_degree.specs.declared.labels.Label.{Label}
use Rattle.loop_degree.specs.declared.labels.Label.TheVariants.{East, South}
use Rattle.loop_report.specs.Loops as report
use Rattle.loop_report.specs.declared.found.Found.{Found}
use Rattle.loop_sets.specs.declared.finding.Finding.TheVariants as finding
use Rattle.report_reader.specs.declared.section.Line.TheVariants as line
use Rattle.tplane_paver.specs.Runs.{pair_count}
use Rattle.tube_report.specs.declared.section.Verdict.TheVariants as verdict
use Rattle.bundle_text.specs.Bundles.{IsBundle, bundle_text, cell_text, corner_text, query_text, set_text}
use Rattle.bundle_text.specs.declared.bundle.Bundle.{Bundle}
use Rattle.bundle_text.specs.declared.bundle.TracedSet.{TracedSet}

-- a text is that of one bundle at most
abbrev pub BundlesAreOne : Type 0
BundlesAreOne = (a b : Bundle) → IsBundle a → IsBundle b → bundle_text a ≡ bundle_text b → a ≡ b

-- ---- what is found of a query, in a bundle

-- a set as the report tells of it, with cells and corners
abbrev pub told_of : Found → List (ℕ × ℕ) → List (ℕ × ℕ × Label) → TracedSet
told_of found cells corners = record {
  pairs = pair_count found.set;
  a = (report.least_by (λ r. r.a) found.set, report.greatest_by (λ r. r.a) found.set);
  b = (report.least_by (λ r. r.first) found.set, report.greatest_by (λ r. r.last) found.set);
  finding = found.finding;
  runs = found.set;
  cells = cells;
  corners = corners;
}

-- a set's text is the one that the report has of it, and then its cells and its corners
abbrev pub SetsAreReported : Type 0
SetsAreReported =
    (number : ℕ) (found : Found) (cells : List (ℕ × ℕ)) (corners : List (ℕ × ℕ × Label))
    → set_text number (told_of found cells corners) ≡ report.set_text false number found ++ (flat_map cell_text cells ++ flat_map corner_text corners)

-- a query's text without cells and corners is the one that the report has of it
abbrev pub QueriesAreReported : Type 0
QueriesAreReported =
    (number : ℕ) (sets : Option (List Found))
    → query_text (record { number = number; sets = option_map (map (λ found. told_of found [] [])) sets }) ≡ report.loops_text number sets false

-- ---- a log of one signal, whose section has no firing

abbrev pub small_bundle : Bundle
small_bundle = record {
  log = codes "mission,1,1,1\nsignal,x,0,10\nat,x,0,3,3\nat,x,1,7,7\n";
  sections =
      record {
        fired = [];
        section = record {
          number = 1;
          verdict = verdict.Settled;
          lines =
              line.Signal (codes "x")
              ∷ line.Gate 0 (record { lo = pos 3; hi = pos 3 })
              ∷ line.Slice 0 1 (record { lo = pos 3; hi = pos 7 })
              ∷ line.Gate 1 (record { lo = pos 7; hi = pos 7 })
              ∷ [];
        };
      }
      ∷ [];
  queries = [];
}

abbrev pub SmallText : Type 0
SmallText = bundle_text small_bundle
    ≡ codes "bundle 50\nmission,1,1,1\nsignal,x,0,10\nat,x,0,3,3\nat,x,1,7,7\n\nfires 1 0\nsection 1 settled\nsignal x\ngate 0 3 3\nslice 0 1 3 7\ngate 1 7 7\nend 1\n"

-- ---- no log, an empty section after two firings, a crowded query, and one with a set for each finding

abbrev pub told_bundle : Bundle
told_bundle = record {
  log = [];
  sections = record { fired = 3 ∷ 0 ∷ []; section = record { number = 2; verdict = verdict.Empty; lines = [] } } ∷ [];
  queries =
      record { number = 1; sets = None }
      ∷ record {
        number = 2;
        sets = Some (
            record {
              pairs = 3;
              a = (4, 4);
              b = (9, 11);
              finding = finding.Degree (negsuc 0);
              runs = record { a = 4; first = 9; last = 11 } ∷ [];
              cells = (3, 9) ∷ (4, 9) ∷ [];
              corners = (3, 9, East) ∷ (3, 10, South) ∷ [];
            }
            ∷ record { pairs = 1; a = (5, 5); b = (8, 8); finding = finding.Sure 5 8; runs = record { a = 5; first = 8; last = 8 } ∷ []; cells = []; corners = [] }
            ∷ record { pairs = 2; a = (0, 1); b = (6, 7); finding = finding.Unproved; runs = record { a = 0; first = 6; last = 6 } ∷ record { a = 1; first = 7; last = 7 } ∷ []; cells = []; corners = [] }
            ∷ []
            );
      }
      ∷ [];
}

abbrev pub ToldText : Type 0
ToldText = bundle_text told_bundle
    ≡ codes "bundle 0\n\nfires 2 2\nfire 3\nfire 0\nsection 2 empty\nend 2\nloops 1 crowded\ndone 1\nloops 2 sets 3\nset 1 pairs 3 a 4 4 b 9 11 proved degree -1\nrun 4 9 11\ncell 3 9\ncell 4 9\ncorner 3 9 east\ncorner 3 10 south\nset 2 pairs 1 a 5 5 b 8 8 proved sure 5 8\nrun 5 8 8\nset 3 pairs 2 a 0 1 b 6 7 possible\nrun 0 6 6\nrun 1 7 7\ndone 2\n"
