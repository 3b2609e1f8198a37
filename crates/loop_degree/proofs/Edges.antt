-- The ends of boundary edges are corners of cells.
use Rattle.std.proofs.Common.{◌≡◌, ℕ, Bool, true, false, List, ◌++◌, arith}
use Rattle.std.specs.List.{AllByRecursion}
use Rattle.loop_degree.specs.Pairs.{has}
use Rattle.loop_degree.specs.Cells.{Edge, IsCornerOf, next_a, next_b, next_both, has_before_a, has_before_b, side_unless, outer_sides, boundary}
use Rattle.loop_degree.proofs.Alls.{all-append, all-flat_map, all-has}

all-side : (P : Edge → Type 0) (b : Bool) (p q : ℕ × ℕ) → P (record { from = p; to = q }) → AllByRecursion P (side_unless b p q)
all-side P true p q h = tt
all-side P false p q h = (h, tt)

all-four : (P : Edge → Type 0) (s e n w : List Edge) → AllByRecursion P s → AllByRecursion P e → AllByRecursion P n → AllByRecursion P w → AllByRecursion P (s ++ (e ++ (n ++ w)))
all-four P s e n w hs he hn hw = all-append P s (e ++ (n ++ w)) hs (all-append P e (n ++ w) he (all-append P n w hn hw))

-- a side of a cell of the list
pub record IsSide (cs : List (ℕ × ℕ)) (s : Edge) : Type 0 where
  pub cell : ℕ × ℕ
  pub in_cells : has cs cell ≡ true
  pub from : IsCornerOf cell s.from
  pub to : IsCornerOf cell s.to

outer-sides : (cs : List (ℕ × ℕ)) (c : ℕ × ℕ) → has cs c ≡ true → AllByRecursion (IsSide cs) (outer_sides cs c)
outer-sides cs c h =
    let k0 : IsCornerOf c c = record { left = omega arith; right = omega arith; low = omega arith; high = omega arith } in
    let k1 : IsCornerOf c (next_a c) = record { left = omega arith; right = omega arith; low = omega arith; high = omega arith } in
    let k2 : IsCornerOf c (next_both c) = record { left = omega arith; right = omega arith; low = omega arith; high = omega arith } in
    let k3 : IsCornerOf c (next_b c) = record { left = omega arith; right = omega arith; low = omega arith; high = omega arith } in
    all-four (IsSide cs)
    (side_unless (has_before_b cs c.0 c.1) c (next_a c)) (side_unless (has cs (next_a c)) (next_a c) (next_both c))
    (side_unless (has cs (next_b c)) (next_both c) (next_b c)) (side_unless (has_before_a cs c.0 c.1) (next_b c) c)
    (all-side (IsSide cs) (has_before_b cs c.0 c.1) c (next_a c) (record { cell = c; in_cells = h; from = k0; to = k1 }))
    (all-side (IsSide cs) (has cs (next_a c)) (next_a c) (next_both c) (record { cell = c; in_cells = h; from = k1; to = k2 }))
    (all-side (IsSide cs) (has cs (next_b c)) (next_both c) (next_b c) (record { cell = c; in_cells = h; from = k2; to = k3 }))
    (all-side (IsSide cs) (has_before_a cs c.0 c.1) (next_b c) c (record { cell = c; in_cells = h; from = k3; to = k0 }))

pub boundary-sides : (cs : List (ℕ × ℕ)) → AllByRecursion (IsSide cs) (boundary cs)
boundary-sides cs = all-flat_map (IsSide cs) (outer_sides cs) cs (all-has (λ c. AllByRecursion (IsSide cs) (outer_sides cs c)) cs (outer-sides cs))
