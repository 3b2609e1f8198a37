-- Colours of corners, and the cells that have all three.
use Rattle.std.proofs.Common.{◌≡◌, ℕ, Bool, true, false, cond, ◌⊎◌, inl, inr, Option, Some, None, ℤ, pos, negsuc, ◌+ℤ◌, neg_ℤ, ◌≤ℤ◌, int_le, arith, refl}
use Rattle.std.proofs.lemmas.Int.{ints}
use Rattle.tube_spec.specs.Span.{point}
use Rattle.loop_degree.specs.Cells.{IsCornerOf, next_a, next_both, next_b}
use Rattle.loop_degree.specs.declared.labels.Label.{Label}
use Rattle.loop_degree.specs.declared.labels.Label.TheVariants.{East, West, North, South}
use Rattle.std.specs.Option.{IsSomeAnd}
use Rattle.loop_degree.specs.Labels.{LabelHolds}
use Rattle.loop_degree.specs.Boundary.{turn}
use Rattle.loop_degree.proofs.Turns.{turn_at}
use Rattle.loop_degree.proofs.Cancelling.{ring}

-- what a label says of two numbers
abbrev pub SaysOf : ℤ → ℤ → Label → ℤ → ℤ → Type 0
SaysOf d e l x y = LabelHolds d e l (point x) (point y)

-- two numbers differ by a bound at most
pub record IsNear (d x y : ℤ) : Type 0 where
  pub up : y ≤ℤ (x +ℤ d)
  pub down : x ≤ℤ (y +ℤ d)

-- Zero where both differences are 0 or more, One where that of x is negative, and else Two
pub data Colour : Type 0 where
  Zero : Colour
  One : Colour
  Two : Colour

abbrev pub step : Colour → Colour → ℤ
step Zero One = pos 1
step One Zero = negsuc 0
step a b = pos 0

abbrev pub by_sign : ℤ → ℤ → Colour
by_sign (negsuc x) y = One
by_sign (pos x) (negsuc y) = Two
by_sign (pos x) (pos y) = Zero

abbrev pub by_label : Label → Colour
by_label East = Zero
by_label North = Zero
by_label West = One
by_label South = Two

abbrev pub is_said : ℤ → ℤ → Label → ℤ → ℤ → Bool
is_said d e East x y = int_le d x
is_said d e West x y = int_le x (neg_ℤ d)
is_said d e North x y = int_le e y
is_said d e South x y = int_le y (neg_ℤ e)

-- the colour by a label that holds, and else by the signs
abbrev pub colour_of : ℤ → ℤ → Option Label → ℤ → ℤ → Colour
colour_of d e None x y = by_sign x y
colour_of d e (Some l) x y = cond (is_said d e l x y) (by_label l) (by_sign x y)

pub step_turns : (a b : Colour) → step a b +ℤ step b a ≡ pos 0
step_turns Zero Zero = refl
step_turns Zero One = refl
step_turns Zero Two = refl
step_turns One Zero = refl
step_turns One One = refl
step_turns One Two = refl
step_turns Two Zero = refl
step_turns Two One = refl
step_turns Two Two = refl

is_said-true : (d e : ℤ) (l : Label) (x y : ℤ) → SaysOf d e l x y → is_said d e l x y ≡ true
is_said-true d e East x y h = grind (arith, ints)
is_said-true d e West x y h = grind (arith, ints)
is_said-true d e North x y h = grind (arith, ints)
is_said-true d e South x y h = grind (arith, ints)

SaysOf-from_true : (d e : ℤ) (l : Label) (x y : ℤ) → is_said d e l x y ≡ true → SaysOf d e l x y
SaysOf-from_true d e East x y h = grind (arith, ints)
SaysOf-from_true d e West x y h = grind (arith, ints)
SaysOf-from_true d e North x y h = grind (arith, ints)
SaysOf-from_true d e South x y h = grind (arith, ints)

-- what a colour means where the differences are below the bounds
abbrev pub IsMeant : ℤ → ℤ → Colour → ℤ → ℤ → Type 0
IsMeant d e Zero x y = (x +ℤ pos 1) ≤ℤ d → (y +ℤ pos 1) ≤ℤ e → (pos 0 ≤ℤ x) × (pos 0 ≤ℤ y)
IsMeant d e One x y = (x +ℤ pos 1) ≤ℤ pos 0
IsMeant d e Two x y = (y +ℤ pos 1) ≤ℤ pos 0

sign-meant : (d e x y : ℤ) → IsMeant d e (by_sign x y) x y
sign-meant d e (negsuc x) y = omega (arith, ints)
sign-meant d e (pos x) (negsuc y) = omega (arith, ints)
sign-meant d e (pos x) (pos y) = λ _ _. (omega (arith, ints), omega (arith, ints))

label-meant : (d e : ℤ) (l : Label) (x y : ℤ) → pos 1 ≤ℤ d → pos 1 ≤ℤ e → SaysOf d e l x y → IsMeant d e (by_label l) x y
label-meant d e East x y p q h = λ a b. absurd (omega (arith, ints))
label-meant d e North x y p q h = λ a b. absurd (omega (arith, ints))
label-meant d e West x y p q h = omega (arith, ints)
label-meant d e South x y p q h = omega (arith, ints)

pub colour-meant : (d e : ℤ) (l : Option Label) (x y : ℤ) → pos 1 ≤ℤ d → pos 1 ≤ℤ e → IsMeant d e (colour_of d e l x y) x y
colour-meant d e None x y p q = sign-meant d e x y
colour-meant d e (Some l) x y p q = at (is_said d e l x y) refl
  where
    at : (b : Bool) → is_said d e l x y ≡ b → IsMeant d e (cond b (by_label l) (by_sign x y)) x y
    at true h = label-meant d e l x y p q (SaysOf-from_true d e l x y h)
    at false h = sign-meant d e x y

-- East and West never meet
turn_is : (d e : ℤ) (l m : Label) (x y z w : ℤ) → pos 1 ≤ℤ d → SaysOf d e l x y → SaysOf d e m z w → IsNear d x z → turn l m ≡ step (by_label l) (by_label m)
turn_is d e East West x y z w p h k n = absurd (omega (arith, ints))
turn_is d e West East x y z w p h k n = absurd (omega (arith, ints))
turn_is d e East East x y z w p h k n = refl
turn_is d e East North x y z w p h k n = refl
turn_is d e East South x y z w p h k n = refl
turn_is d e West West x y z w p h k n = refl
turn_is d e West North x y z w p h k n = refl
turn_is d e West South x y z w p h k n = refl
turn_is d e North East x y z w p h k n = refl
turn_is d e North West x y z w p h k n = refl
turn_is d e North North x y z w p h k n = refl
turn_is d e North South x y z w p h k n = refl
turn_is d e South East x y z w p h k n = refl
turn_is d e South West x y z w p h k n = refl
turn_is d e South North x y z w p h k n = refl
turn_is d e South South x y z w p h k n = refl

-- on a labelled edge the step of the colours is the turn of the labels
pub turn_colours : (d e : ℤ) (l m : Option Label) (x y z w : ℤ) → pos 1 ≤ℤ d → IsSomeAnd l (λ t. SaysOf d e t x y) → IsSomeAnd m (λ t. SaysOf d e t z w) → IsNear d x z → turn_at l m ≡ step (colour_of d e l x y) (colour_of d e m z w)
turn_colours d e None m x y z w p h k n = absurd h
turn_colours d e (Some l) None x y z w p h k n = absurd k
turn_colours d e (Some l) (Some m) x y z w p h k n =
    rw (is_said-true d e l x y h, is_said-true d e m z w k) (turn_is d e l m x y z w p h k n)

-- a cell without one of the colours has no step left
no_zero : (a b : Colour) → (a ≡ Zero → ⊥) → (b ≡ Zero → ⊥) → step a b ≡ pos 0
no_zero Zero b h k = absurd (h refl)
no_zero One Zero h k = absurd (k refl)
no_zero One One h k = refl
no_zero One Two h k = refl
no_zero Two Zero h k = absurd (k refl)
no_zero Two One h k = refl
no_zero Two Two h k = refl

no_one : (a b : Colour) → (a ≡ One → ⊥) → (b ≡ One → ⊥) → step a b ≡ pos 0
no_one One b h k = absurd (h refl)
no_one Zero One h k = absurd (k refl)
no_one Zero Zero h k = refl
no_one Zero Two h k = refl
no_one Two One h k = absurd (k refl)
no_one Two Zero h k = refl
no_one Two Two h k = refl

abbrev weight : Colour → ℤ
weight Zero = pos 1
weight One = pos 0
weight Two = pos 0

no_two : (a b : Colour) → (a ≡ Two → ⊥) → (b ≡ Two → ⊥) → step a b +ℤ weight b ≡ weight a
no_two Two b h k = absurd (h refl)
no_two Zero Two h k = absurd (k refl)
no_two Zero Zero h k = refl
no_two Zero One h k = refl
no_two One Two h k = absurd (k refl)
no_two One Zero h k = refl
no_two One One h k = refl

look : (a k : Colour) → (a ≡ k) ⊎ (a ≡ k → ⊥)
look Zero Zero = inl refl
look One One = inl refl
look Two Two = inl refl
look Zero One = inr (λ e. cc)
look Zero Two = inr (λ e. cc)
look One Zero = inr (λ e. cc)
look One Two = inr (λ e. cc)
look Two Zero = inr (λ e. cc)
look Two One = inr (λ e. cc)

module _ (colour : ℕ × ℕ → Colour) (c : ℕ × ℕ) where
  -- a corner of the cell of a colour, or none
  abbrev Among : Colour → Type 0
  Among k = (p : ℕ × ℕ) × IsCornerOf c p × (colour p ≡ k)

  pub record Lacks (k : Colour) : Type 0 where
    at_0 : colour c ≡ k → ⊥
    at_1 : colour (next_a c) ≡ k → ⊥
    at_2 : colour (next_both c) ≡ k → ⊥
    at_3 : colour (next_b c) ≡ k → ⊥

  find : (k : Colour) → Among k ⊎ Lacks k
  find k =
      elim (look (colour c) k) [
        | inl e ↦ inl (c, record { left = omega arith; right = omega arith; low = omega arith; high = omega arith }, e)
        | inr a ↦ elim (look (colour (next_a c)) k) [
          | inl e ↦ inl (next_a c, record { left = omega arith; right = omega arith; low = omega arith; high = omega arith }, e)
          | inr b ↦ elim (look (colour (next_both c)) k) [
            | inl e ↦ inl (next_both c, record { left = omega arith; right = omega arith; low = omega arith; high = omega arith }, e)
            | inr d ↦ elim (look (colour (next_b c)) k) [
              | inl e ↦ inl (next_b c, record { left = omega arith; right = omega arith; low = omega arith; high = omega arith }, e)
              | inr f ↦ inr (record { at_0 = a; at_1 = b; at_2 = d; at_3 = f })
            ]
          ]
        ]
      ]

  pub all_three : (ring (λ p q. step (colour p) (colour q)) c ≡ pos 0) ⊎ (Among Zero × Among One × Among Two)
  all_three =
      elim (find Zero) [
        | inr n ↦ inl (omega (arith, ints, no_zero _ _ n.at_0 n.at_1, no_zero _ _ n.at_1 n.at_2, no_zero _ _ n.at_2 n.at_3, no_zero _ _ n.at_3 n.at_0))
        | inl z ↦ elim (find One) [
          | inr n ↦ inl (omega (arith, ints, no_one _ _ n.at_0 n.at_1, no_one _ _ n.at_1 n.at_2, no_one _ _ n.at_2 n.at_3, no_one _ _ n.at_3 n.at_0))
          | inl o ↦ elim (find Two) [
            | inr n ↦ inl (omega (arith, ints, no_two _ _ n.at_0 n.at_1, no_two _ _ n.at_1 n.at_2, no_two _ _ n.at_2 n.at_3, no_two _ _ n.at_3 n.at_0))
            | inl t ↦ inr (z, o, t)
          ]
        ]
      ]
