-- The sides that two cells share cancel.
use Rattle.std.proofs.Common.{◌≡◌, ◌+◌, add-one, ℕ, zero, suc, Bool, true, false, cond, List, [], ◌∷◌, ◌++◌, map, ℤ, pos, ◌+ℤ◌, arith, refl, sym, ap, ◌∙◌}
use Rattle.std.proofs.lemmas.Int.{ints}
use Rattle.std.proofs.lemmas.Bool.{and_right, ne_eqb}
use Rattle.std.proofs.lemmas.Bool.Decides.{nat_tests}
use Rattle.loop_degree.specs.Pairs.{has}
use Rattle.loop_degree.specs.Cells.{Edge, has_before_a, has_before_b, next_a, next_both, next_b, side_unless, outer_sides, boundary}
use Rattle.loop_degree.proofs.Sums.{signed_sum, signed_sum-same, signed_sum-plus, signed_sum-map, signed_sum-append, signed_sum-flat_map, signed_sum-opposite}
use Rattle.loop_degree.proofs.Sharing.{IsApart, signed_sum-shared}
use Rattle.std.proofs.Math.Dec.{eqb}

next_same : (m n : ℕ) → eqb (m + 1) (suc n) ≡ eqb m n
next_same m n = grind (arith, nat_tests)

next_zero : (m : ℕ) → eqb (m + 1) 0 ≡ false
next_zero m = ne_eqb (m + 1) 0 (λ e. omega (arith, e))

before_b-map : (cs : List (ℕ × ℕ)) (a b : ℕ) → has (map next_b cs) (a, b) ≡ has_before_b cs a b
before_b-map [] a zero = refl
before_b-map [] a (suc b) = refl
before_b-map (c ∷ cs) a zero = rw (and_right (eqb c.0 a) (eqb (c.1 + 1) 0) (next_zero c.1)) (before_b-map cs a zero)
before_b-map (c ∷ cs) a (suc b) = rw (next_same c.1 b, before_b-map cs a (suc b)) refl

before_a-map : (cs : List (ℕ × ℕ)) (a b : ℕ) → has (map next_a cs) (a, b) ≡ has_before_a cs a b
before_a-map [] zero b = refl
before_a-map [] (suc a) b = refl
before_a-map (c ∷ cs) zero b = rw (next_zero c.0) (before_a-map cs zero b)
before_a-map (c ∷ cs) (suc a) b = rw (next_same c.0 a, before_a-map cs (suc a) b) refl

apart-next_b : (cs : List (ℕ × ℕ)) → IsApart cs → IsApart (map next_b cs)
apart-next_b [] h = tt
apart-next_b (c ∷ cs) h = (ap (λ (b : ℕ). has (map next_b cs) (c.0, b)) (add-one c.1) ∙ before_b-map cs c.0 (suc c.1) ∙ h.0, apart-next_b cs h.1)

apart-next_a : (cs : List (ℕ × ℕ)) → IsApart cs → IsApart (map next_a cs)
apart-next_a [] h = tt
apart-next_a (c ∷ cs) h = (ap (λ (a : ℕ). has (map next_a cs) (a, c.1)) (add-one c.0) ∙ before_a-map cs (suc c.0) c.1 ∙ h.0, apart-next_a cs h.1)

-- the cells above another are the cells below one, and so for left and right
sum-next_b : (g : ℕ × ℕ → ℤ) (cs : List (ℕ × ℕ)) → IsApart cs → signed_sum (λ c. cond (has cs (next_b c)) (g (next_b c)) (pos 0)) cs ≡ signed_sum (λ c. cond (has_before_b cs c.0 c.1) (g c) (pos 0)) cs
sum-next_b g cs h =
    sym (signed_sum-map (λ x. cond (has cs x) (g x) (pos 0)) next_b cs)
    ∙ signed_sum-shared g (map next_b cs) cs (apart-next_b cs h) h
    ∙ signed_sum-same (λ c. cond (has (map next_b cs) c) (g c) (pos 0)) (λ c. cond (has_before_b cs c.0 c.1) (g c) (pos 0)) cs (λ c. ap (λ (b : Bool). cond b (g c) (pos 0)) (before_b-map cs c.0 c.1))

sum-next_a : (g : ℕ × ℕ → ℤ) (cs : List (ℕ × ℕ)) → IsApart cs → signed_sum (λ c. cond (has cs (next_a c)) (g (next_a c)) (pos 0)) cs ≡ signed_sum (λ c. cond (has_before_a cs c.0 c.1) (g c) (pos 0)) cs
sum-next_a g cs h =
    sym (signed_sum-map (λ x. cond (has cs x) (g x) (pos 0)) next_a cs)
    ∙ signed_sum-shared g (map next_a cs) cs (apart-next_a cs h) h
    ∙ signed_sum-same (λ c. cond (has (map next_a cs) c) (g c) (pos 0)) (λ c. cond (has_before_a cs c.0 c.1) (g c) (pos 0)) cs (λ c. ap (λ (b : Bool). cond b (g c) (pos 0)) (before_a-map cs c.0 c.1))

-- the sum round a cell
abbrev pub ring : (ℕ × ℕ → ℕ × ℕ → ℤ) → ℕ × ℕ → ℤ
ring f c = f c (next_a c) +ℤ (f (next_a c) (next_both c) +ℤ (f (next_both c) (next_b c) +ℤ f (next_b c) c))

-- a part that is counted, and the part that is not
cond_parts : (b : Bool) (x : ℤ) → x ≡ cond b (pos 0) x +ℤ cond b x (pos 0)
cond_parts true x = omega (arith, ints)
cond_parts false x = omega (arith, ints)

cond_opposite : (b : Bool) (x y : ℤ) → x +ℤ y ≡ pos 0 → cond b x (pos 0) +ℤ cond b y (pos 0) ≡ pos 0
cond_opposite true x y h = h
cond_opposite false x y h = refl

-- the sum of a side that is not shared
sum-side : (f : ℕ × ℕ → ℕ × ℕ → ℤ) (b : Bool) (p q : ℕ × ℕ) → signed_sum (λ e. f e.from e.to) (side_unless b p q) ≡ cond b (pos 0) (f p q)
sum-side f true p q = refl
sum-side f false p q = omega (arith, ints)

module _ (f : ℕ × ℕ → ℕ × ℕ → ℤ) (turns : (p q : ℕ × ℕ) → f p q +ℤ f q p ≡ pos 0) (cs : List (ℕ × ℕ)) where
  abbrev south : ℕ × ℕ → ℤ
  south c = cond (has_before_b cs c.0 c.1) (f c (next_a c)) (pos 0)

  abbrev east : ℕ × ℕ → ℤ
  east c = cond (has cs (next_a c)) (f (next_a c) (next_both c)) (pos 0)

  abbrev north : ℕ × ℕ → ℤ
  north c = cond (has cs (next_b c)) (f (next_both c) (next_b c)) (pos 0)

  abbrev west : ℕ × ℕ → ℤ
  west c = cond (has_before_a cs c.0 c.1) (f (next_b c) c) (pos 0)

  abbrev outer : ℕ × ℕ → ℤ
  outer c =
      cond (has_before_b cs c.0 c.1) (pos 0) (f c (next_a c)) +ℤ (cond (has cs (next_a c)) (pos 0) (f (next_a c) (next_both c))
      +ℤ (cond (has cs (next_b c)) (pos 0) (f (next_both c) (next_b c)) +ℤ cond (has_before_a cs c.0 c.1) (pos 0) (f (next_b c) c)))

  south-north : IsApart cs → signed_sum south cs +ℤ signed_sum north cs ≡ pos 0
  south-north h =
      let up = sum-next_b (λ p. f p (next_a p)) cs h in
      let gone = signed_sum-opposite north (λ c. cond (has cs (next_b c)) (f (next_b c) (next_both c)) (pos 0)) cs (λ c. cond_opposite (has cs (next_b c)) (f (next_both c) (next_b c)) (f (next_b c) (next_both c)) (turns (next_both c) (next_b c))) in
      omega (arith, ints, up, gone)

  west-east : IsApart cs → signed_sum west cs +ℤ signed_sum east cs ≡ pos 0
  west-east h =
      let right = sum-next_a (λ p. f (next_b p) p) cs h in
      let gone = signed_sum-opposite east (λ c. cond (has cs (next_a c)) (f (next_both c) (next_a c)) (pos 0)) cs (λ c. cond_opposite (has cs (next_a c)) (f (next_a c) (next_both c)) (f (next_both c) (next_a c)) (turns (next_a c) (next_both c))) in
      omega (arith, ints, right, gone)

  ring_parts : (c : ℕ × ℕ) → ring f c ≡ outer c +ℤ (south c +ℤ (east c +ℤ (north c +ℤ west c)))
  ring_parts c =
      omega (
        arith,
        ints,
        cond_parts (has_before_b cs c.0 c.1) (f c (next_a c)),
        cond_parts (has cs (next_a c)) (f (next_a c) (next_both c)),
        cond_parts (has cs (next_b c)) (f (next_both c) (next_b c)),
        cond_parts (has_before_a cs c.0 c.1) (f (next_b c) c),
      )

  signed_sum-parts : signed_sum (ring f) cs ≡ signed_sum outer cs +ℤ (signed_sum south cs +ℤ (signed_sum east cs +ℤ (signed_sum north cs +ℤ signed_sum west cs)))
  signed_sum-parts =
      let a = signed_sum-same (ring f) (λ c. outer c +ℤ (south c +ℤ (east c +ℤ (north c +ℤ west c)))) cs ring_parts in
      let b = signed_sum-plus outer (λ c. south c +ℤ (east c +ℤ (north c +ℤ west c))) cs in
      let d = signed_sum-plus south (λ c. east c +ℤ (north c +ℤ west c)) cs in
      let e = signed_sum-plus east (λ c. north c +ℤ west c) cs in
      let g = signed_sum-plus north west cs in
      omega (arith, ints, a, b, d, e, g)

  outer_is : (c : ℕ × ℕ) → signed_sum (λ e. f e.from e.to) (outer_sides cs c) ≡ outer c
  outer_is c =
      let F = λ (e : Edge). f e.from e.to in
      let s = side_unless (has_before_b cs c.0 c.1) c (next_a c) in
      let e = side_unless (has cs (next_a c)) (next_a c) (next_both c) in
      let n = side_unless (has cs (next_b c)) (next_both c) (next_b c) in
      let w = side_unless (has_before_a cs c.0 c.1) (next_b c) c in
      let one = signed_sum-append F s (e ++ (n ++ w)) in
      let two = signed_sum-append F e (n ++ w) in
      let three = signed_sum-append F n w in
      omega (
        arith,
        ints,
        one,
        two,
        three,
        sum-side f (has_before_b cs c.0 c.1) c (next_a c),
        sum-side f (has cs (next_a c)) (next_a c) (next_both c),
        sum-side f (has cs (next_b c)) (next_both c) (next_b c),
        sum-side f (has_before_a cs c.0 c.1) (next_b c) c,
      )

  -- the sum along the boundary is the sum round all cells
  pub boundary_is : IsApart cs → signed_sum (λ e. f e.from e.to) (boundary cs) ≡ signed_sum (ring f) cs
  boundary_is h =
      let flat = signed_sum-flat_map (λ (e : Edge). f e.from e.to) (outer_sides cs) cs in
      let outside = signed_sum-same (λ c. signed_sum (λ e. f e.from e.to) (outer_sides cs c)) outer cs outer_is in
      omega (arith, ints, flat, outside, signed_sum-parts, south-north h, west-east h)
