-- The assignment that tells the true course of a demo mission.
use Rattle.std.specs.Prelude.{◌≡◌, ℕ, List, [], ◌∷◌, ◌++◌, ℤ, pos}
use Rattle.tube_spec.specs.Assignment.{Assignment}
use Rattle.demo_course.specs.Course.{position_at, positions, rates}
use Rattle.demo_course.specs.Draws.{place_of}
use Rattle.demo_course.specs.declared.Axis.TheVariants.{X, Y}
use Rattle.mission_net.specs.Records.{SatisfiesAll}
use Rattle.demo_spec.specs.Mission.{demo_cuts, demo_items, each_until, heard_at}

-- the positions and the rates, as the mission declares its signals
abbrev pub course_signals : List ℕ → List (List ℤ)
course_signals words = positions words X ∷ positions words Y ∷ rates words X ∷ rates words Y ∷ []

-- where a beacon stands
abbrev pub stands_at : List ℕ → ℕ → List ℤ
stands_at words i = place_of words X i ∷ place_of words Y i ∷ []

-- when a ping was heard, and where
abbrev pub heard : List ℕ → ℕ → List ℤ
heard words i = pos (heard_at i) ∷ position_at words X (heard_at i) ∷ position_at words Y (heard_at i) ∷ []

-- The variables are the time and the value of both beginnings, the places of the beacons, and each ping's time and point.
unfoldable pub truth : List ℕ → Assignment
truth words = record {
  signals = course_signals words;
  vars = (pos 0 ∷ pos 0 ∷ pos 0 ∷ pos 0 ∷ []) ++ each_until (stands_at words) 5 ++ each_until (heard words) 40;
}

-- an assignment with the positions and the rates of the course satisfies every record of the mission
pub record IsCourseOfMission (words : List ℕ) : Type 0 where
  pub assignment : Assignment
  pub signals : assignment.signals ≡ course_signals words
  pub satisfies : SatisfiesAll demo_cuts assignment (demo_items words)
