-- Forests whose parents change.
use Rattle.std.proofs.Common.{◌≡◌, ◌≢◌, ℕ, ◌<◌, ◌≤◌, ◌⊎◌, inl, inr, List, length, set, min, max, slice_index, arith, refl, sym, ap, subst, ◌∙◌, length-set}
use Rattle.std.proofs.lemmas.List.{get_or-set_other, get_or-set_same}
use Rattle.disjoint_sets.specs.Ways.{Joined, Maps}
use Rattle.disjoint_sets.specs.Trees.{IsParent, IsParentOr, GoDown, KeepsTrees, JoinsTrees}
use Rattle.disjoint_sets.proofs.Ways.{joined-then, joined-back, joined-self, joined-step, joined-map}

pub same-or : (i j : ℕ) → (i ≡ j) ⊎ (i ≢ j)
same-or i j = at (three i j)
  where
    three : (i j : ℕ) → (i ≡ j) ⊎ ((i < j) ⊎ (j < i))
    three i j = grind arith

    at : (i ≡ j) ⊎ ((i < j) ⊎ (j < i)) → (i ≡ j) ⊎ (i ≢ j)
    at (inl e) = inl e
    at (inr (inl h)) = inr (λ e. omega (arith, h, e))
    at (inr (inr h)) = inr (λ e. omega (arith, h, e))

-- One parent is written.
pub record IsWritten (old new : List ℕ) (at value : ℕ) : Type 0 where
  pub len : length new ≡ length old
  pub here : slice_index new at ≡ value
  pub others : (i : ℕ) → i ≢ at → slice_index new i ≡ slice_index old i

pub written-set : (old new : List ℕ) (at value : ℕ) → at < length old → new ≡ set old at value → IsWritten old new at value
written-set old new at value h e = record {
  len = ap (length {A = ℕ}) e ∙ length-set old at value;
  here = ap (λ (l : List ℕ). slice_index l at) e ∙ get_or-set_same old at value 0 h;
  others = λ i ne. ap (λ (l : List ℕ). slice_index l i) e ∙ get_or-set_other old at i value 0 ne;
}

pub keeps-self : (a : List ℕ) → GoDown a → KeepsTrees a a
keeps-self a down = record { len = refl; down = down; roots = λ i e. e; there = λ i j e. joined-step (IsParent a) i j e; back = λ i j e. joined-step (IsParent a) i j e }

pub keeps-trans : (a b c : List ℕ) → KeepsTrees a b → KeepsTrees b c → KeepsTrees a c
keeps-trans a b c p q = record {
  len = q.len ∙ p.len;
  down = q.down;
  roots = λ i e. q.roots i (p.roots i e);
  there = λ i j e. joined-map (IsParent b) (IsParent c) q.there i j (p.there i j e);
  back = λ i j e. joined-map (IsParent b) (IsParent a) p.back i j (q.back i j e);
}

-- a number that is no root gets its parent's parent
pub keeps-halved : (old new : List ℕ) (at parent up : ℕ) → at < length old → GoDown old → slice_index old at ≢ at → parent ≡ slice_index old at → up ≡ slice_index old parent
    → IsWritten old new at up → KeepsTrees old new × (up < at)
keeps-halved old new at parent up h down ne ep eu w = (
  record {
    len = w.len;
    down = λ i l. lower i l (same-or i at);
    roots = λ i e. elim (same-or i at) [ inl s ↦ absurd (ne (subst (λ (x : ℕ). slice_index old x ≡ x) s e)) | inr s ↦ w.others i s ∙ e ];
    there = λ i j e. forth i j e (same-or i at);
    back = λ i j e. back i j e (same-or i at);
  },
  omega (arith, below, under),
)
  where
    below : parent < at
    below = omega (arith, down at h, ep, λ (e : parent ≡ at). ne (sym ep ∙ e))

    under : up ≤ parent
    under = omega (arith, down parent (omega (arith, below, h)), eu)

    lower : (i : ℕ) → i < length new → (i ≡ at) ⊎ (i ≢ at) → slice_index new i ≤ i
    lower i l (inl s) = subst (λ (x : ℕ). slice_index new x ≤ x) (sym s) (omega (arith, w.here, below, under))
    lower i l (inr s) = omega (arith, w.others i s, down i (omega (arith, l, w.len)))

    -- the new edges of the number and of its parent
    from-at : IsParent new at up
    from-at = (omega (arith, h, w.len), w.here)

    from-parent : IsParent new parent up
    from-parent = (omega (arith, below, h, w.len), w.others parent (λ e. omega (arith, below, e)) ∙ sym eu)

    forth : (i j : ℕ) → IsParent old i j → (i ≡ at) ⊎ (i ≢ at) → Joined (IsParent new) i j
    forth i j e (inl s) =
        let j-is : parent ≡ j = ep ∙ subst (λ (x : ℕ). slice_index old x ≡ j) s e.1 in
        subst (λ (x : ℕ). Joined (IsParent new) x j) (sym s) (subst (Joined (IsParent new) at) j-is
        (joined-then (IsParent new) at up parent (joined-step (IsParent new) at up from-at) (joined-back (IsParent new) parent up (joined-step (IsParent new) parent up from-parent))))
    forth i j e (inr s) = joined-step (IsParent new) i j (omega (arith, e.0, w.len), w.others i s ∙ e.1)

    back : (i j : ℕ) → IsParent new i j → (i ≡ at) ⊎ (i ≢ at) → Joined (IsParent old) i j
    back i j e (inl s) =
        let j-is : up ≡ j = sym w.here ∙ subst (λ (x : ℕ). slice_index new x ≡ j) s e.1 in
        subst (λ (x : ℕ). Joined (IsParent old) x j) (sym s) (subst (Joined (IsParent old) at) j-is
        (joined-then (IsParent old) at parent up (joined-step (IsParent old) at parent (h, sym ep)) (joined-step (IsParent old) parent up (omega (arith, below, h), sym eu))))
    back i j e (inr s) = joined-step (IsParent old) i j (omega (arith, e.0, w.len), sym (w.others i s) ∙ e.1)

-- a way on, by one edge more
pub joined-on : (old new : List ℕ) (i at up : ℕ) → KeepsTrees old new → at < length old → slice_index new at ≡ up → Joined (IsParent old) i at → Joined (IsParent new) i up
joined-on old new i at up k h e p =
    joined-then (IsParent new) i at up (joined-map (IsParent old) (IsParent new) k.there i at p) (joined-step (IsParent new) at up (omega (arith, h, k.len), e))

-- the greater root gets the lesser one as its parent
hung : (old new : List ℕ) (i j high low : ℕ) → high < length old → low ≤ high → GoDown old → slice_index old high ≡ high → Joined (IsParentOr old i j) high low → IsWritten old new high low
    → GoDown new × Maps (IsParent old) (IsParent new) × Maps (IsParent new) (IsParentOr old i j) × Joined (IsParent new) high low
hung old new i j high low h l down root way w = (
  λ x b. lower x b (same-or x high),
  λ x y e. forth x y e (same-or x high),
  λ x y e. back x y e (same-or x high),
  joined-step (IsParent new) high low (omega (arith, h, w.len), w.here),
)
  where
    lower : (x : ℕ) → x < length new → (x ≡ high) ⊎ (x ≢ high) → slice_index new x ≤ x
    lower x b (inl s) = subst (λ (z : ℕ). slice_index new z ≤ z) (sym s) (omega (arith, w.here, l))
    lower x b (inr s) = omega (arith, w.others x s, down x (omega (arith, b, w.len)))

    forth : (x y : ℕ) → IsParent old x y → (x ≡ high) ⊎ (x ≢ high) → Joined (IsParent new) x y
    forth x y e (inl s) = joined-self (IsParent new) x y (s ∙ sym root ∙ subst (λ (z : ℕ). slice_index old z ≡ y) s e.1)
    forth x y e (inr s) = joined-step (IsParent new) x y (omega (arith, e.0, w.len), w.others x s ∙ e.1)

    back : (x y : ℕ) → IsParent new x y → (x ≡ high) ⊎ (x ≢ high) → Joined (IsParentOr old i j) x y
    back x y e (inl s) =
        let y-is : low ≡ y = sym w.here ∙ subst (λ (z : ℕ). slice_index new z ≡ y) s e.1 in
        subst (λ (z : ℕ). Joined (IsParentOr old i j) z y) (sym s) (subst (Joined (IsParentOr old i j) high) y-is way)
    back x y e (inr s) = joined-step (IsParentOr old i j) x y (inl (omega (arith, e.0, w.len), sym (w.others x s) ∙ e.1))

-- ways over the parents are ways over the parents and one edge more
more-edges : (old : List ℕ) (i j x y : ℕ) → Joined (IsParent old) x y → Joined (IsParentOr old i j) x y
more-edges old i j x y p = joined-map (IsParent old) (IsParentOr old i j) (λ x y e. joined-step (IsParentOr old i j) x y (inl e)) x y p

hung-joins : (old new : List ℕ) (i j a b : ℕ) → a < length old → b < length old → GoDown old → slice_index old a ≡ a → slice_index old b ≡ b → Joined (IsParent old) i a → Joined (IsParent old) j b
    → IsWritten old new (max a b) (min a b) → JoinsTrees old new i j
hung-joins old new i j a b ha hb down ra rb ia jb w = at (order a b)
  where
    order : (a b : ℕ) → ((max a b ≡ a) × (min a b ≡ b) × (b ≤ a)) ⊎ ((max a b ≡ b) × (min a b ≡ a) × (a ≤ b))
    order a b = pick (split a b)
      where
        split : (a b : ℕ) → (b ≤ a) ⊎ (a ≤ b)
        split a b = grind arith

        pick : (b ≤ a) ⊎ (a ≤ b) → ((max a b ≡ a) × (min a b ≡ b) × (b ≤ a)) ⊎ ((max a b ≡ b) × (min a b ≡ a) × (a ≤ b))
        pick (inl h) = inl (omega (arith, h), omega (arith, h), h)
        pick (inr h) = inr (omega (arith, h), omega (arith, h), h)

    over : Joined (IsParentOr old i j) a b
    over = joined-then (IsParentOr old i j) a i b (joined-back (IsParentOr old i j) i a (more-edges old i j i a ia))
        (joined-then (IsParentOr old i j) i j b (joined-step (IsParentOr old i j) i j (inr (refl, refl))) (more-edges old i j j b jb))

    made : (GoDown new) → Maps (IsParent old) (IsParent new) → Maps (IsParent new) (IsParentOr old i j) → Joined (IsParent new) a b → JoinsTrees old new i j
    made d f g e = record {
      len = w.len;
      down = d;
      joined = joined-then (IsParent new) i a j (joined-map (IsParent old) (IsParent new) f i a ia)
          (joined-then (IsParent new) a b j e (joined-back (IsParent new) j b (joined-map (IsParent old) (IsParent new) f j b jb)));
      there = f;
      back = g;
    }

    at : ((max a b ≡ a) × (min a b ≡ b) × (b ≤ a)) ⊎ ((max a b ≡ b) × (min a b ≡ a) × (a ≤ b)) → JoinsTrees old new i j
    at (inl h) =
        let w2 : IsWritten old new a b = subst (λ (x : ℕ). IsWritten old new a x) h.1 (subst (λ (x : ℕ). IsWritten old new x (min a b)) h.0 w) in
        let r = hung old new i j a b ha h.2 down ra over w2 in
        made r.0 r.1 r.2 r.3
    at (inr h) =
        let w2 : IsWritten old new b a = subst (λ (x : ℕ). IsWritten old new b x) h.1 (subst (λ (x : ℕ). IsWritten old new x (min a b)) h.0 w) in
        let r = hung old new i j b a hb h.2 down rb (joined-back (IsParentOr old i j) a b over) w2 in
        made r.0 r.1 r.2 (joined-back (IsParent new) b a r.3)

-- two roots are found, and joined
pub joins-found : (old one two new : List ℕ) (i j a b : ℕ) → KeepsTrees old one → a < length one → slice_index one a ≡ a → Joined (IsParent one) i a
    → KeepsTrees one two → b < length two → slice_index two b ≡ b → Joined (IsParent two) j b → IsWritten two new (max a b) (min a b) → JoinsTrees old new i j
joins-found old one two new i j a b k ha ra ia m hb rb jb w = record {
  len = r.len ∙ m.len ∙ k.len;
  down = r.down;
  joined = r.joined;
  there = λ x y e. joined-map (IsParent two) (IsParent new) r.there x y (joined-map (IsParent one) (IsParent two) m.there x y (k.there x y e));
  back = λ x y e. joined-map (IsParentOr two i j) (IsParentOr old i j) down-two x y (r.back x y e);
}
  where
    r : JoinsTrees two new i j
    r = hung-joins two new i j a b (omega (arith, ha, m.len)) hb m.down (m.roots a ra) rb (joined-map (IsParent one) (IsParent two) m.there i a ia) jb w

    down-two : Maps (IsParentOr two i j) (IsParentOr old i j)
    down-two x y (inl e) = more-edges old i j x y (joined-map (IsParent one) (IsParent old) k.back x y (m.back x y e))
    down-two x y (inr e) = joined-step (IsParentOr old i j) x y (inr e)

pub max-below : (a b n : ℕ) → a < n → b < n → max a b < n
max-below a b n h k = omega (arith, h, k)
