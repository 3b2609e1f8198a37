-- Turns that are added up, nothing where one of them is nothing.
use Rattle.std.proofs.Common.{◌≡◌, ℕ, zero, suc, ◌+◌, ◌<◌, ◌≤◌, Bool, true, false, Option, Some, None, List, [], ◌∷◌, ◌++◌, ℤ, pos, arith, refl, sym, ap, ◌∙◌, add-one}
use Rattle.std.specs.List.{flat_map}
use Rattle.std.proofs.lemmas.Int.{ints}
use Rattle.loop_degree.specs.declared.labels.Label.{Label}
use Rattle.loop_degree.specs.Cells.{Edge, side_unless}
use Rattle.loop_degree.specs.Boundary.{add_option}
use Rattle.loop_sets.specs.Cells.{column}
use Rattle.loop_sets.specs.Turns.{turn_of, turns_along, sum_along, sum_cells, turn_unless}

pub add-zero_left : (r : Option ℤ) → add_option (Some (pos 0)) r ≡ r
add-zero_left None = refl
add-zero_left (Some a) = ap (λ (z : ℤ). Some z) (omega (arith, ints))

pub add-zero_right : (r : Option ℤ) → add_option r (Some (pos 0)) ≡ r
add-zero_right None = refl
add-zero_right (Some a) = ap (λ (z : ℤ). Some z) (omega (arith, ints))

pub add-assoc : (r s t : Option ℤ) → add_option (add_option r s) t ≡ add_option r (add_option s t)
add-assoc None s t = refl
add-assoc (Some a) None t = refl
add-assoc (Some a) (Some b) None = refl
add-assoc (Some a) (Some b) (Some c) = ap (λ (z : ℤ). Some z) (omega (arith, ints))

add-swap : (r s t u : Option ℤ) → add_option (add_option r s) (add_option t u) ≡ add_option (add_option r t) (add_option s u)
add-swap None s t u = refl
add-swap (Some a) None None u = refl
add-swap (Some a) None (Some c) u = refl
add-swap (Some a) (Some b) None u = refl
add-swap (Some a) (Some b) (Some c) None = refl
add-swap (Some a) (Some b) (Some c) (Some d) = ap (λ (z : ℤ). Some z) (omega (arith, ints))

module _ (label : ℕ × ℕ → Option Label) where
  along-append : (xs ys : List Edge) → turns_along label (xs ++ ys) ≡ add_option (turns_along label xs) (turns_along label ys)
  along-append [] ys = sym (add-zero_left (turns_along label ys))
  along-append (x ∷ xs) ys = ap (add_option (turn_of label x.from x.to)) (along-append xs ys) ∙ sym (add-assoc (turn_of label x.from x.to) (turns_along label xs) (turns_along label ys))

  pub along-flat_map : (h : ℕ × ℕ → List Edge) (cs : List (ℕ × ℕ)) → turns_along label (flat_map h cs) ≡ sum_cells (λ c. turns_along label (h c)) cs
  along-flat_map h [] = refl
  along-flat_map h (c ∷ cs) = along-append (h c) (flat_map h cs) ∙ ap (add_option (turns_along label (h c))) (along-flat_map h cs)

  along-side : (b : Bool) (p q : ℕ × ℕ) → turns_along label (side_unless b p q) ≡ turn_unless b (turn_of label p q)
  along-side true p q = refl
  along-side false p q = add-zero_right (turn_of label p q)

  pub along-four : (b c d e : Bool) (p q r s : ℕ × ℕ) → turns_along label (side_unless b p q ++ (side_unless c q r ++ (side_unless d r s ++ side_unless e s p)))
      ≡ add_option (turn_unless b (turn_of label p q)) (add_option (turn_unless c (turn_of label q r)) (add_option (turn_unless d (turn_of label r s)) (turn_unless e (turn_of label s p))))
  along-four b c d e p q r s =
      along-append (side_unless b p q) (side_unless c q r ++ (side_unless d r s ++ side_unless e s p))
      ∙ parts _ _ _ _ (along-side b p q)
      (along-append (side_unless c q r) (side_unless d r s ++ side_unless e s p)
      ∙ parts _ _ _ _ (along-side c q r) (along-append (side_unless d r s) (side_unless e s p) ∙ parts _ _ _ _ (along-side d r s) (along-side e s p)))
    where
      parts : (w x y z : Option ℤ) → w ≡ x → y ≡ z → add_option w y ≡ add_option x z
      parts w x y z f g = cc

pub sum_cells-append : (g : ℕ × ℕ → Option ℤ) (xs ys : List (ℕ × ℕ)) → sum_cells g (xs ++ ys) ≡ add_option (sum_cells g xs) (sum_cells g ys)
sum_cells-append g [] ys = sym (add-zero_left (sum_cells g ys))
sum_cells-append g (x ∷ xs) ys = ap (add_option (g x)) (sum_cells-append g xs ys) ∙ sym (add-assoc (g x) (sum_cells g xs) (sum_cells g ys))

pub sum_cells-column : (g : ℕ × ℕ → Option ℤ) (a b n : ℕ) → sum_cells g (column a b n) ≡ sum_along (λ k. g (a, k)) b n
sum_cells-column g a b zero = refl
sum_cells-column g a b (suc n) = ap (add_option (g (a, b))) (sum_cells-column g a (b + 1) n)

pub sum_along-same : (f g : ℕ → Option ℤ) (b n : ℕ) → ((k : ℕ) → f k ≡ g k) → sum_along f b n ≡ sum_along g b n
sum_along-same f g b zero h = refl
sum_along-same f g b (suc n) h = parts _ _ _ _ (h b) (sum_along-same f g (b + 1) n h)
  where
    parts : (w x y z : Option ℤ) → w ≡ x → y ≡ z → add_option w y ≡ add_option x z
    parts w x y z f g = cc

sum_along-plus : (f g : ℕ → Option ℤ) (b n : ℕ) → sum_along (λ k. add_option (f k) (g k)) b n ≡ add_option (sum_along f b n) (sum_along g b n)
sum_along-plus f g b zero = refl
sum_along-plus f g b (suc n) = ap (add_option (add_option (f b) (g b))) (sum_along-plus f g (b + 1) n) ∙ add-swap (f b) (g b) (sum_along f (b + 1) n) (sum_along g (b + 1) n)

pub sum_along-four : (f g h i : ℕ → Option ℤ) (b n : ℕ) → sum_along (λ k. add_option (f k) (add_option (g k) (add_option (h k) (i k)))) b n
    ≡ add_option (sum_along f b n) (add_option (sum_along g b n) (add_option (sum_along h b n) (sum_along i b n)))
sum_along-four f g h i b n =
    sum_along-plus f (λ k. add_option (g k) (add_option (h k) (i k))) b n
    ∙ ap (add_option (sum_along f b n)) (sum_along-plus g (λ k. add_option (h k) (i k)) b n ∙ ap (add_option (sum_along g b n)) (sum_along-plus h i b n))

pub sum_along-none : (f : ℕ → Option ℤ) (b n : ℕ) → ((k : ℕ) → b ≤ k → k < b + n → f k ≡ Some (pos 0)) → sum_along f b n ≡ Some (pos 0)
sum_along-none f b zero h = refl
sum_along-none f b (suc n) h =
    let here : f b ≡ Some (pos 0) = h b (omega arith) (omega arith) in
    let rest : sum_along f (b + 1) n ≡ Some (pos 0) = sum_along-none f (b + 1) n (λ k l m. h k (omega (arith, l)) (omega (arith, m))) in
    rw (here, rest) refl

-- where only the first counts, or only the last
pub sum_along-first : (f : ℕ → Option ℤ) (b n : ℕ) → 0 < n → ((k : ℕ) → b < k → k < b + n → f k ≡ Some (pos 0)) → sum_along f b n ≡ f b
sum_along-first f b zero l h = absurd (omega (arith, l))
sum_along-first f b (suc n) l h = ap (add_option (f b)) (sum_along-none f (b + 1) n (λ k l m. h k (omega (arith, l)) (omega (arith, m)))) ∙ add-zero_right (f b)

pub sum_along-last : (f : ℕ → Option ℤ) (b n : ℕ) → ((k : ℕ) → b ≤ k → k < b + n → f k ≡ Some (pos 0)) → sum_along f b (suc n) ≡ f (b + n)
sum_along-last f b zero h = let e : b + 0 ≡ b = omega arith in rw e (add-zero_right (f b))
sum_along-last f b (suc n) h =
    let here : f b ≡ Some (pos 0) = h b (omega arith) (omega arith) in
    let e : b + 1 + n ≡ b + suc n = omega arith in
    ap (λ (r : Option ℤ). add_option r (sum_along f (b + 1) (suc n))) here ∙ add-zero_left (sum_along f (b + 1) (suc n))
    ∙ sum_along-last f (b + 1) n (λ k l m. h k (omega (arith, l)) (omega (arith, m))) ∙ ap f e

-- one more, and more that add nothing
pub sum_along-more : (f : ℕ → Option ℤ) (b n : ℕ) → sum_along f b (n + 1) ≡ add_option (sum_along f b n) (f (b + n))
sum_along-more f b n = ap (sum_along f b) (add-one n) ∙ at b n
  where
    at : (b n : ℕ) → sum_along f b (suc n) ≡ add_option (sum_along f b n) (f (b + n))
    at b zero = let e : b + 0 ≡ b = omega arith in add-zero_right (f b) ∙ ap f (sym e) ∙ sym (add-zero_left (f (b + 0)))
    at b (suc n) =
        let e : b + 1 + n ≡ b + suc n = omega arith in
        ap (add_option (f b)) (at (b + 1) n ∙ ap (λ (k : ℕ). add_option (sum_along f (b + 1) n) (f k)) e) ∙ sym (add-assoc (f b) (sum_along f (b + 1) n) (f (b + suc n)))

pub sum_along-skip : (f : ℕ → Option ℤ) (b n m : ℕ) → ((k : ℕ) → b + n ≤ k → k < b + n + m → f k ≡ Some (pos 0)) → sum_along f b (n + m) ≡ sum_along f b n
sum_along-skip f b n zero h = let e : n + 0 ≡ n = omega arith in ap (sum_along f b) e
sum_along-skip f b n (suc m) h =
    let e : n + suc m ≡ n + m + 1 = omega arith in
    let last : f (b + (n + m)) ≡ Some (pos 0) = h (b + (n + m)) (omega arith) (omega arith) in
    ap (sum_along f b) e ∙ sum_along-more f b (n + m) ∙ ap (add_option (sum_along f b (n + m))) last ∙ add-zero_right (sum_along f b (n + m))
    ∙ sum_along-skip f b n m (λ k l j. h k l (omega (arith, j)))
