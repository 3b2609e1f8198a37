-- What a reader answers.
use Rattle.std.specs.Prelude.{ℕ, List, Result, Ok, Err}
use Rattle.std.specs.Borrow.{Bor}
use Rattle.pair_form.specs.declared.form.PairFormFault.{PairFormFault}
use Rattle.pair_form.specs.declared.form.PairFormFault.TheVariants as fault

-- `Form` comes where nothing was said
abbrev pub Refuses : {W : Type 0} → (W → Type 0) → PairFormFault → Type 0
Refuses {W} IsSaid fault.Form = (w : W) → IsSaid w → ⊥
Refuses {W} IsSaid fault.NoMemory = Unit {0}

-- the value that was said, or why there is none
abbrev pub Reads : {V W : Type 0} → (V → W) → (W → Type 0) → Result V PairFormFault → Type 0
Reads {V} {W} value_of IsSaid (Ok v) = IsSaid (value_of v)
Reads {V} {W} value_of IsSaid (Err e) = Refuses IsSaid e

-- the same of a reader that takes the front of its bytes and gives back the rest
abbrev pub ReadsFront : {V W : Type 0} → (V → W) → (W → List ℕ → Type 0) → Result (V × Bor (List ℕ)) PairFormFault → Type 0
ReadsFront {V} {W} value_of IsSaid (Ok p) = IsSaid (value_of p.0) p.1.now
ReadsFront {V} {W} value_of IsSaid (Err e) = Refuses (λ (p : W × List ℕ). IsSaid p.0 p.1) e
