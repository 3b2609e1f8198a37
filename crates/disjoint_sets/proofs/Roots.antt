-- Two numbers are in one tree exactly where they have one root.
use Rattle.std.proofs.Common.{◌≡◌, ℕ, zero, suc, ◌⊎◌, inl, inr, List, slice_index, refl, sym, ap, ◌∙◌}
use Rattle.disjoint_sets.specs.Ways.{Way, Joined}
use Rattle.disjoint_sets.specs.Trees.{IsParent, KeepsTrees}
use Rattle.disjoint_sets.proofs.Ways.{joined-then, joined-back, joined-self, joined-map}

-- so many parents up
abbrev up : List ℕ → ℕ → ℕ → ℕ
up p zero i = i
up p (suc n) i = up p n (slice_index p i)

-- from where a way leads to a root, that root is so many parents up
way-up : (p : List ℕ) (n i j : ℕ) → slice_index p j ≡ j → Way (IsParent p) n i j → (m : ℕ) × (up p m i ≡ j)
way-up p zero i j root w = (0, w)
way-up p (suc n) i j root w = at w.1 (way-up p n w.0 j root w.2)
  where
    back : (m : ℕ) → slice_index p w.0 ≡ i → up p m w.0 ≡ j → (m : ℕ) × (up p m i ≡ j)
    back zero e h = (0, sym e ∙ ap (slice_index p) h ∙ root)
    back (suc m) e h = (m, ap (up p m) (sym e) ∙ h)

    at : IsParent p i w.0 ⊎ IsParent p w.0 i → (m : ℕ) × (up p m w.0 ≡ j) → (m : ℕ) × (up p m i ≡ j)
    at (inl e) r = (suc r.0, ap (up p r.0) e.1 ∙ r.1)
    at (inr e) r = back r.0 e.1 r.1

-- from a root it is the root itself
root-up : (p : List ℕ) (m i : ℕ) → slice_index p i ≡ i → up p m i ≡ i
root-up p zero i root = refl
root-up p (suc m) i root = ap (up p m) root ∙ root-up p m i root

-- a tree has one root
pub one-root : (p : List ℕ) (i j : ℕ) → slice_index p i ≡ i → slice_index p j ≡ j → Joined (IsParent p) i j → i ≡ j
one-root p i j ri rj w = let r = way-up p w.0 i j rj w.1 in sym (root-up p r.0 i ri) ∙ r.1

-- who has one root is in one tree
pub same-root : (p : List ℕ) (i j a b : ℕ) → Joined (IsParent p) i a → Joined (IsParent p) j b → a ≡ b → Joined (IsParent p) i j
same-root p i j a b ia jb e = joined-then (IsParent p) i a j ia (joined-then (IsParent p) a b j (joined-self (IsParent p) a b e) (joined-back (IsParent p) j b jb))

-- who is in one tree has one root
pub root-same : (p : List ℕ) (i j a b : ℕ) → slice_index p a ≡ a → slice_index p b ≡ b → Joined (IsParent p) i a → Joined (IsParent p) j b → Joined (IsParent p) i j → a ≡ b
root-same p i j a b ra rb ia jb ij = one-root p a b ra rb (joined-then (IsParent p) a i b (joined-back (IsParent p) i a ia) (joined-then (IsParent p) i j b ij jb))

-- Two roots that were found one after the other are one exactly where the numbers are in one tree.
pub found-joined : (old one two : List ℕ) (i j a b : ℕ) → KeepsTrees old one → slice_index one a ≡ a → Joined (IsParent one) i a
    → KeepsTrees one two → slice_index two b ≡ b → Joined (IsParent two) j b → (a ≡ b → Joined (IsParent two) i j) × (Joined (IsParent two) i j → a ≡ b)
found-joined old one two i j a b k ra ia m rb jb = (
  λ e. same-root two i j a b later jb e,
  λ w. root-same two i j a b (m.roots a ra) rb later jb w,
)
  where
    later : Joined (IsParent two) i a
    later = joined-map (IsParent one) (IsParent two) m.there i a ia
