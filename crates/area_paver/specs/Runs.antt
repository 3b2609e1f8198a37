-- Runs of points along a line, each kept as its end at the point where it begins.
use Rattle.std.specs.Prelude.{◌≡◌, ◌↔◌, ℕ, ◌<◌, ◌≤◌, Bool, true, List, cond, nat_lt, slice_index}
use Rattle.area_paver.specs.declared.chart.Mark.{Mark}
use Rattle.area_paver.specs.declared.chart.Mark.TheVariants.{Never, Seen, Open}

-- a point lies in one of the runs: one that begins at it or before it ends behind it
pub record IsCovered (runs : List ℕ) (c : ℕ) : Type 0 where
  pub start : ℕ
  pub begins : start ≤ c
  pub ends : c < slice_index runs start

-- the mark of a point by the runs of those that are surely seen and of those that may be
abbrev pub IsMarkBy : List ℕ → List ℕ → ℕ → Mark → Type 0
IsMarkBy sure possible c Seen = IsCovered sure c
IsMarkBy sure possible c Never = (IsCovered sure c → ⊥) × (IsCovered possible c → ⊥)
IsMarkBy sure possible c Open = (IsCovered sure c → ⊥) × IsCovered possible c

-- the same by where the furthest run ends that has begun at the point or before it
abbrev pub mark_at : ℕ → ℕ → ℕ → Mark
mark_at c sure_end possible_end = cond (nat_lt c sure_end) Seen (cond (nat_lt c possible_end) Open Never)

-- the runs cover exactly those of the first points that a test takes at one of the first ticks
abbrev pub Covers : List ℕ → ℕ → ℕ → (ℕ → ℕ → Bool) → Type 0
Covers ends count ticks test = (c : ℕ) → c < count → IsCovered ends c ↔ ((k : ℕ) × (k < ticks) × (test k c ≡ true))
