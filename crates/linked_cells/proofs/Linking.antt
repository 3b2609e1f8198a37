-- The cells that hang together with those withdrawn are the linked ones.
use Rattle.std.proofs.Common.{◌≡◌, ℕ, zero, suc, ◌+◌, ◌<◌, ◌⊎◌, inl, inr, Option, Some, None, List, length, slice_get, slice_index, arith, refl, sym, subst, ◌∙◌, Contains}
use Rattle.std.proofs.lemmas.List.{get_or_default, length-map}
use Rattle.std.proofs.lemmas.Option.{slice_get_within}
use Rattle.disjoint_sets.specs.Ways.{Way, Joined}
use Rattle.disjoint_sets.specs.Trees.{IsParent}
use Rattle.disjoint_sets.proofs.Ways.{joined-then, joined-back, joined-step, joined-map}
use Rattle.constraint_retraction.specs.Linked.{IsLinked, Own, Along}
use Rattle.ctc_network.specs.declared.answers.CtcId.{CtcId}
use Rattle.ctc_network.specs.Settling.{contractors_at}
use Rattle.linked_cells.specs.Places.{without, cells_in, cells_under}
use Rattle.linked_cells.specs.Classes.{ShareOne, IsFromOne, JoinsBy, AreClasses}
use Rattle.linked_cells.proofs.Joins.{joins-then, joins-alone}
use Rattle.linked_cells.proofs.Members.{numbers, member-at, at-member, without-there, without-or, listed-member, member-listed}

module _ {C : Type 0} (cells : Option C → List ℕ) (none : (k : ℕ) → Contains (cells None) k → ⊥) (cs : List (Option C)) (ids : List CtcId) (top : ℕ)
    (below : (k x : ℕ) → Contains (cells_under cells cs k) x → x < top) where
  abbrev IsEdge : ℕ → ℕ → Type 0
  IsEdge x y = ShareOne cells cs (length cs) x y ⊎ IsFromOne top cells cs ids (length ids) x y

  abbrev Linked : ℕ → Type 0
  Linked = IsLinked cells (without cs ids) (contractors_at cs ids)

  -- a cell under a number is one of a contractor that stands there
  under : (k x : ℕ) → Contains (cells_under cells cs k) x → (c : C) × (slice_get cs k ≡ Some (Some c)) × Contains (cells (Some c)) x
  under k x m = at (slice_get cs k) refl m
    where
      at : (p : Option (Option C)) → slice_get cs k ≡ p → Contains (cells_in cells p) x → (c : C) × (slice_get cs k ≡ Some (Some c)) × Contains (cells (Some c)) x
      at None e h = absurd (omega (arith, h.1))
      at (Some None) e h = absurd (none x h)
      at (Some (Some c)) e h = (c, e, h)

  onto : (k x : ℕ) (c : C) → slice_get cs k ≡ Some (Some c) → Contains (cells (Some c)) x → Contains (cells_under cells cs k) x
  onto k x c e h = subst (λ (p : Option (Option C)). Contains (cells_in cells p) x) (sym e) h

  -- two cells of one contractor are linked together
  linked-share : (k x y : ℕ) → Contains (cells_under cells cs k) x → Contains (cells_under cells cs k) y → Linked y → Linked x
  linked-share k x y mx my h = at (under k x mx)
    where
      at : (c : C) × (slice_get cs k ≡ Some (Some c)) × Contains (cells (Some c)) x → Linked x
      at (c, e, here) = elim (without-or ids cs k c e) [
        | inl l ↦ Own (Some c) x (listed-member cs ids k (Some c) l e) here
        | inr l ↦ Along (Some c) y x (at-member (without cs ids) k (Some c) l) (subst (λ (p : Option (Option C)). Contains (cells_in cells p) y) e my) here h
      ]

  -- a cell of one that is listed is linked
  linked-own : (i y : ℕ) → i < length ids → Contains (cells_under cells cs (slice_index (numbers ids) i)) y → Linked y
  linked-own i y l m = at (under (slice_index (numbers ids) i) y m)
    where
      inside : i < length (numbers ids)
      inside = omega (arith, l, length-map ids (λ (id : CtcId). id.0))

      at : (c : C) × (slice_get cs (slice_index (numbers ids) i) ≡ Some (Some c)) × Contains (cells (Some c)) y → Linked y
      at (c, e, here) = Own (Some c) y (listed-member cs ids (slice_index (numbers ids) i) (Some c) (i, inside, get_or_default (numbers ids) i (slice_index (numbers ids) i) 0 inside) e) here

  way-linked : (n x : ℕ) → Way IsEdge n x top → (x ≡ top) ⊎ Linked x
  way-linked zero x w = inl w
  way-linked (suc n) x w = at w.1 (way-linked n w.0 w.2)
    where
      at : IsEdge x w.0 ⊎ IsEdge w.0 x → (w.0 ≡ top) ⊎ Linked w.0 → (x ≡ top) ⊎ Linked x
      at (inl (inl (k, l, (mx, my)))) (inl e) = absurd (omega (arith, e, below k w.0 my))
      at (inl (inl (k, l, (mx, my)))) (inr h) = inr (linked-share k x w.0 mx my h)
      at (inl (inr (e, (i, l, m)))) h = inl e
      at (inr (inl (k, l, (my, mx)))) (inl e) = absurd (omega (arith, e, below k w.0 my))
      at (inr (inl (k, l, (my, mx)))) (inr h) = inr (linked-share k x w.0 mx my h)
      at (inr (inr (e, (i, l, m)))) h = inr (linked-own i x l m)

  linked-way : (k : ℕ) → Linked k → Joined IsEdge k top
  linked-way k (Own None j m n) = absurd (none k n)
  linked-way k (Own (Some c) j m n) = at (member-listed cs ids (Some c) m)
    where
      at : (i : ℕ) × Contains (numbers ids) i × (slice_get cs i ≡ Some (Some c)) → Joined IsEdge k top
      at (i, l, e) =
          let same : slice_index (numbers ids) l.0 ≡ i = get_or_default (numbers ids) l.0 0 i l.1 ∙ l.2 in
          let here = subst (λ (j : ℕ). Contains (cells_under cells cs j) k) (sym same) (onto i k c e n) in
          joined-back IsEdge top k (joined-step IsEdge top k (inr (refl, (l.0, omega (arith, l.1, length-map ids (λ (id : CtcId). id.0)), here))))
  linked-way k (Along None i j m n o h) = absurd (none k o)
  linked-way k (Along (Some c) i j m n o h) = at (member-at (without cs ids) (Some c) m) (linked-way i h)
    where
      at : (p : ℕ) × (slice_get (without cs ids) p ≡ Some (Some c)) → Joined IsEdge i top → Joined IsEdge k top
      at (p, e) way =
          let there = without-there ids cs p c e in
          joined-then IsEdge k i top (joined-step IsEdge k i (inl (p, slice_get_within cs p (Some c) there, (onto p k c there o, onto p i c there n)))) way

  pub classes-made : (a b c : List ℕ) → length a ≡ top + 1 → ((k : ℕ) → k < length a → slice_index a k ≡ k) → JoinsBy (ShareOne cells cs (length cs)) a b → JoinsBy (IsFromOne top cells cs ids (length ids)) b c
      → AreClasses Linked top c
  classes-made a b c len own p q = record {
    len = all.len ∙ len;
    down = all.down;
    linked = λ k l. (
      λ w. let way = joined-map (IsParent c) IsEdge (joins-alone IsEdge a c own all) k top w in elim (way-linked way.0 k way.1) [ inl e ↦ absurd (omega (arith, e, l)) | inr h ↦ h ],
      λ h. joined-map IsEdge (IsParent c) all.joined k top (linked-way k h),
    );
  }
    where
      all : JoinsBy IsEdge a c
      all = joins-then (ShareOne cells cs (length cs)) (IsFromOne top cells cs ids (length ids)) IsEdge a b c p q (λ x y t. inl t) (λ x y t. inr t) (λ x y t. t)
