-- What a reader answers that takes the front of its bytes and gives back what follows.
use Rattle.std.specs.Prelude.{◌≡◌, ◌≢◌, ℕ, List, ◌++◌, Option, Some, None}
use Rattle.std.specs.Borrow.{Bor}

-- any bytes may follow
abbrev pub Anything : List ℕ → Type 0
Anything rest = Unit {0}

-- no value's text stands in front, before bytes that may follow
abbrev pub NoneInFront : {V : Type 0} → (V → List ℕ) → (V → Type 0) → (List ℕ → Type 0) → List ℕ → Type 0
NoneInFront {V} text_of IsOne Follows bytes = (v : V) (rest : List ℕ) → IsOne v → Follows rest → text_of v ++ rest ≢ bytes

-- the text of a value stands in front, and no other way to part the bytes so
pub record IsInFront {V : Type 0} (text_of : V → List ℕ) (IsOne : V → Type 0) (Follows : List ℕ → Type 0) (bytes : List ℕ) (v : V) (rest : List ℕ) : Type 0 where
  pub right : IsOne v
  pub whole : text_of v ++ rest ≡ bytes
  pub only : (w : V) (others : List ℕ) → IsOne w → Follows others → text_of w ++ others ≡ bytes → (w ≡ v) × (others ≡ rest)

abbrev pub ReadsFront : {V : Type 0} → (V → List ℕ) → (V → Type 0) → (List ℕ → Type 0) → List ℕ → Option (V × Bor (List ℕ)) → Type 0
ReadsFront {V} text_of IsOne Follows bytes None = NoneInFront text_of IsOne Follows bytes
ReadsFront {V} text_of IsOne Follows bytes (Some p) = IsInFront text_of IsOne Follows bytes p.0 p.1.now
