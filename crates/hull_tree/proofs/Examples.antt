-- The definitions tried on numbers.
use Rattle.std.proofs.Common.{◌≡◌, ℕ, true, false, [], ◌∷◌, pos, negsuc, ℤ, refl}
use Rattle.tube_spec.specs.Span.{Span, point}
use Rattle.hull_tree.specs.Plane.{Plane, is_possible, is_sure, least_abs, greatest_abs, change}
use Rattle.tube_names.specs.Nearness.{is_near}
use Rattle.hull_tree.specs.Judging.{judged}
use Rattle.tube_names.specs.declared.queries.Norm.TheVariants.{Maximum, Disc}
use Rattle.hull_tree.specs.declared.tree.Judged.TheVariants.{Out, Within, Mixed}

-- five ticks, of which the last two go the way of the first two back
abbrev there_and_back : ℕ → Plane
there_and_back gap = record {
  xs = point (pos 0) ∷ point (pos 1) ∷ point (pos 2) ∷ point (pos 1) ∷ point (pos 0) ∷ [];
  ys = point (pos 0) ∷ point (pos 0) ∷ point (pos 0) ∷ point (pos 0) ∷ point (pos 0) ∷ [];
  radius = 0;
  gap = gap;
  norm = Maximum;
}

ends-meet : is_sure (there_and_back 4) 0 4 ≡ true
ends-meet = refl

too-early : is_possible (there_and_back 4) 1 3 ≡ false
too-early = refl

inner-meet : is_possible (there_and_back 2) 1 3 ≡ true
inner-meet = refl

elsewhere : is_possible (there_and_back 2) 0 3 ≡ false
elsewhere = refl

past-the-end : is_possible (there_and_back 5) 0 5 ≡ false
past-the-end = refl

all-five : judged (there_and_back 2) (record { first_a = 0; last_a = 4; first_b = 0; last_b = 4 }) ≡ Mixed
all-five = refl

late-five : judged (there_and_back 5) (record { first_a = 0; last_a = 4; first_b = 0; last_b = 4 }) ≡ Out
late-five = refl

one-pair : judged (there_and_back 4) (record { first_a = 0; last_a = 0; first_b = 4; last_b = 4 }) ≡ Within
one-pair = refl

-- Two places that are each known to 6 either way, and whose middles are the same.
abbrev around : ℤ → ℤ → Span
around lo hi = record { lo = lo; hi = hi }

least-change : least_abs (change (around (negsuc 5) (pos 6) ∷ around (pos 9) (pos 21) ∷ []) 0 1) ≡ 3
least-change = refl

greatest-change : greatest_abs (change (around (negsuc 5) (pos 6) ∷ around (negsuc 5) (pos 6) ∷ []) 0 1) ≡ 12
greatest-change = refl

-- by the Euclidean distance, 9 and 9 are within 13 and not within 12, and 12 and 12 are within 17
thirteen : is_near Disc 13 9 9 ≡ true
thirteen = refl

twelve : is_near Disc 12 9 9 ≡ false
twelve = refl

seventeen : is_near Disc 17 12 12 ≡ true
seventeen = refl
