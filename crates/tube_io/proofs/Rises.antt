-- When a count of faults rose.
use Rattle.std.proofs.Common.{ℕ, ◌-◌, ◌^◌, ◌<◌, ◌≤◌, arith, inl, inr}
use Rattle.tube_io.specs.Causes.{Rose}

-- a count that rose in a later call rose over both calls
pub rose_later : (i j k : ℕ) → i ≤ j → Rose j k → Rose i k
rose_later i j k h r = elim r [ inl above ↦ inl (omega arith) | inr last ↦ inr last ]

-- a count that stayed did not rise, below the last value of a `u64`
pub not_rose : (n : ℕ) → n < 2 ^ 64 - 1 → Rose n n → ⊥
not_rose n h r = elim r [ inl above ↦ omega arith | inr last ↦ omega arith ]
