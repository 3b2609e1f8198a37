-- Ranges of delays: those that a span leaves, and of these the least and the greatest that passes a test.
use Rattle.std.specs.Prelude.{◌≡◌, ℕ, ◌<◌, ◌≤◌, Bool, true, false, Option, Some, None}
use Rattle.tube_spec.specs.Span.{Span}
use Rattle.ctc_delay.specs.Delays.{lies_in}

-- the delays, those whole numbers that lie both in tau and in 0..last, are the numbers from the least to the greatest
pub record AreDelays (tau : Span) (last least greatest : ℕ) : Type 0 where
  pub order : least ≤ greatest
  pub few : greatest ≤ last
  pub inside : (d : ℕ) → least ≤ d → d ≤ greatest → lies_in tau d ≡ true
  pub outside : (d : ℕ) → d ≤ last → lies_in tau d ≡ true → (least ≤ d) × (d ≤ greatest)

-- there are none
abbrev pub AreNoDelays : Span → ℕ → Type 0
AreNoDelays tau last = (d : ℕ) → d ≤ last → lies_in tau d ≡ false

-- the least and the greatest of the numbers from one to another that pass a test, or none of them passes it
abbrev pub IsLeastOf : (ℕ → Bool) → ℕ → ℕ → Option ℕ → Type 0
IsLeastOf test lo hi None = (d : ℕ) → lo ≤ d → d ≤ hi → test d ≡ false
IsLeastOf test lo hi (Some least) = (lo ≤ least) × (least ≤ hi) × (test least ≡ true) × ((d : ℕ) → lo ≤ d → d < least → test d ≡ false)

abbrev pub IsGreatestOf : (ℕ → Bool) → ℕ → ℕ → Option ℕ → Type 0
IsGreatestOf test lo hi None = (d : ℕ) → lo ≤ d → d ≤ hi → test d ≡ false
IsGreatestOf test lo hi (Some greatest) = (lo ≤ greatest) × (greatest ≤ hi) × (test greatest ≡ true) × ((d : ℕ) → greatest < d → d ≤ hi → test d ≡ false)
