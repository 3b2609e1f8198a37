-- A grid with one boundary more.
use Rattle.std.proofs.Common.{◌≡◌, ℕ, zero, suc, ◌+◌, ◌-◌, ◌<◌, ◌≤◌, ◌==◌, Bool, true, false, cond, List, [], ◌∷◌, length, refl, sym, ap, ◌∙◌, subst, arith, nat_lt, slice_index}
use Rattle.std.proofs.lemmas.Bool.Decides.{nat_tests}
use Rattle.tube_spec.specs.Grid.{IsGrid, last_tick}
use Rattle.slice_gates.proofs.Boundaries.{IsGrid-from_cuts}
use Rattle.mission_items.specs.Cuts.{with_tick}

-- ticks that rise from a first one
abbrev Rises : ℕ → List ℕ → Type 0
Rises b [] = Unit {0}
Rises b (c ∷ cs) = (b < c) × Rises c cs

-- the last of them
abbrev end_of : ℕ → List ℕ → ℕ
end_of b [] = b
end_of b (c ∷ cs) = end_of c cs

-- ---- a tick put among them

rises-by : (u v : Bool) (b c t : ℕ) (cs : List ℕ) → nat_lt t c ≡ u → (t == c) ≡ v → b < t → Rises b (c ∷ cs) → (c < t → Rises c (with_tick cs t))
    → Rises b (cond u (t ∷ c ∷ cs) (cond v (c ∷ cs) (c ∷ with_tick cs t)))
rises-by true v b c t cs low same above r more = (above, (below, r.1))
  where
    below : t < c
    below = grind (arith, nat_tests, low)
rises-by false true b c t cs low same above r more = r
rises-by false false b c t cs low same above r more = (r.0, more past)
  where
    past : c < t
    past = grind (arith, nat_tests, low, same)

rises-with : (b t : ℕ) (cs : List ℕ) → b < t → Rises b cs → Rises b (with_tick cs t)
rises-with b t [] above r = (above, tt)
rises-with b t (c ∷ cs) above r = rises-by (nat_lt t c) (t == c) b c t cs refl refl above r (λ past. rises-with c t cs past r.1)

ends-by : (u v : Bool) (b c t : ℕ) (cs : List ℕ) → nat_lt t c ≡ u → (t == c) ≡ v → (c < t → end_of c (with_tick cs t) ≡ end_of c cs)
    → end_of b (cond u (t ∷ c ∷ cs) (cond v (c ∷ cs) (c ∷ with_tick cs t))) ≡ end_of c cs
ends-by true v b c t cs low same more = refl
ends-by false true b c t cs low same more = refl
ends-by false false b c t cs low same more = more past
  where
    past : c < t
    past = grind (arith, nat_tests, low, same)

ends-with : (b t : ℕ) (cs : List ℕ) → b < t → t ≤ end_of b cs → end_of b (with_tick cs t) ≡ end_of b cs
ends-with b t [] above within = absurd (omega (arith, above, within))
ends-with b t (c ∷ cs) above within = ends-by (nat_lt t c) (t == c) b c t cs refl refl (λ past. ends-with c t cs past within)

-- ---- grids as such lists

next : (i : ℕ) → suc i + 1 ≡ suc (i + 1)
next i = omega arith

rises-from : (b : ℕ) (cs : List ℕ) → ((i : ℕ) → i + 1 < length (b ∷ cs) → slice_index (b ∷ cs) i < slice_index (b ∷ cs) (i + 1)) → Rises b cs
rises-from b [] h = tt
rises-from b (c ∷ cs) h =
    (h 0 (omega arith), rises-from c cs (λ i k. subst (λ (n : ℕ). slice_index (b ∷ c ∷ cs) (suc i) < slice_index (b ∷ c ∷ cs) n) (next i) (h (suc i) (omega (arith, k)))))

rising-of : (b : ℕ) (cs : List ℕ) → Rises b cs → (i : ℕ) → i + 1 < length (b ∷ cs) → slice_index (b ∷ cs) i < slice_index (b ∷ cs) (i + 1)
rising-of b [] r i k = absurd (omega (arith, k))
rising-of b (c ∷ cs) r zero k = r.0
rising-of b (c ∷ cs) r (suc i) k = subst (λ (n : ℕ). slice_index (b ∷ c ∷ cs) (suc i) < slice_index (b ∷ c ∷ cs) n) (sym (next i)) (rising-of c cs r.1 i (omega (arith, k)))

last-of : (b : ℕ) (cs : List ℕ) → last_tick (b ∷ cs) ≡ end_of b cs
last-of b [] = refl
last-of b (c ∷ cs) = let e : suc (suc (length cs)) - 1 ≡ suc (suc (length cs) - 1) = omega arith in ap (slice_index (b ∷ c ∷ cs)) e ∙ last-of c cs

-- ---- a grid with a tick more, which is not past its last one

pub record IsCutGrid (cuts more : List ℕ) : Type 0 where
  pub grid : IsGrid more
  pub ends : last_tick more ≡ last_tick cuts

cut-behind : (b t : ℕ) (cs : List ℕ) → IsGrid (b ∷ cs) → t ≤ last_tick (b ∷ cs) → b < t → IsCutGrid (b ∷ cs) (b ∷ with_tick cs t)
cut-behind b t cs g within above =
    let rises = rises-with b t cs above (rises-from b cs g.rising) in
    let end : last_tick (b ∷ with_tick cs t) ≡ last_tick (b ∷ cs) =
    last-of b (with_tick cs t) ∙ (ends-with b t cs above (subst (λ (n : ℕ). t ≤ n) (last-of b cs) within) ∙ sym (last-of b cs)) in
    record {
      grid = IsGrid-from_cuts (b ∷ with_tick cs t) (some (with_tick cs t) filled) g.starts (omega (arith, end, g.ends)) (rising-of b (with_tick cs t) rises);
      ends = end;
    }
  where
    some : (xs : List ℕ) → 1 ≤ length xs → 2 ≤ length (b ∷ xs)
    some xs h = omega (arith, h)

    filled-by : (u v : Bool) (c : ℕ) (ds : List ℕ) → 1 ≤ length (cond u (t ∷ c ∷ ds) (cond v (c ∷ ds) (c ∷ with_tick ds t)))
    filled-by true v c ds = omega arith
    filled-by false true c ds = omega arith
    filled-by false false c ds = omega arith

    filled-at : (xs : List ℕ) → 1 ≤ length (with_tick xs t)
    filled-at [] = omega arith
    filled-at (c ∷ ds) = filled-by (nat_lt t c) (t == c) c ds

    filled : 1 ≤ length (with_tick cs t)
    filled = filled-at cs

cut-by : (u v : Bool) (b t : ℕ) (cs : List ℕ) → nat_lt t b ≡ u → (t == b) ≡ v → IsGrid (b ∷ cs) → t ≤ last_tick (b ∷ cs)
    → IsCutGrid (b ∷ cs) (cond u (t ∷ b ∷ cs) (cond v (b ∷ cs) (b ∷ with_tick cs t)))
cut-by true v b t cs low same g within = absurd (below g.starts)
  where
    below : b ≡ 0 → ⊥
    below e = grind (arith, nat_tests, low, e)
cut-by false true b t cs low same g within = record { grid = g; ends = refl }
cut-by false false b t cs low same g within = cut-behind b t cs g within past
  where
    past : b < t
    past = grind (arith, nat_tests, low, same)

pub cut-grid : (cuts : List ℕ) (t : ℕ) → IsGrid cuts → t ≤ last_tick cuts → IsCutGrid cuts (with_tick cuts t)
cut-grid [] t g within = absurd (omega (arith, g.slices))
cut-grid (b ∷ cs) t g within = cut-by (nat_lt t b) (t == b) b t cs refl refl g within
