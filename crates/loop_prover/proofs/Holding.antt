-- The labels of all corners of a boundary hold there.
use Rattle.std.proofs.Common.{◌≡◌, ℕ, Bool, true, false, cond, ◌||◌, Option, Some, None, List, [], ◌∷◌, map, ℤ, neg_ℤ, int_le, arith, refl, sym, ◌∙◌, subst, All, IsSome}
use Rattle.std.specs.Option.{IsSomeAnd}
use Rattle.std.specs.List.{AllByRecursion}
use Rattle.std.proofs.lemmas.List.Elements.{recursion_from_All, All-from_recursion}
use Rattle.std.proofs.lemmas.Int.{ints}
use Rattle.std.proofs.lemmas.Bool.{or_left, or_right}
use Rattle.tube_spec.specs.Span.{Span}
use Rattle.tube_names.specs.declared.queries.Query.{Query}
use Rattle.loop_degree.specs.declared.labels.Label.{Label}
use Rattle.loop_degree.specs.declared.labels.Label.TheVariants.{East, West, North, South}
use Rattle.loop_degree.specs.Pairs.{IsRising, has, is_same}
use Rattle.loop_degree.specs.Cells.{Edge, boundary, ends_of}
use Rattle.loop_degree.specs.Labels.{LabelHolds, label_at}
use Rattle.loop_degree.specs.Boundary.{corner_of, HasLabels, IsLabelledBoundary}
use Rattle.loop_degree.specs.Steps.{Tubes}
use Rattle.loop_degree.specs.Degree.{change_in, HasLabel}
use Rattle.loop_degree.proofs.Sharing.{same_pair, is_same-self}
use Rattle.loop_degree.proofs.Alls.{all-weaker}
use Rattle.loop_prover.specs.First.{first_label, label_of, AreLabels}

-- the first label that holds does hold
pub first-holds : (d e : ℤ) (dx dy : Span) (l : Label) → first_label d e dx dy ≡ Some l → LabelHolds d e l dx dy
first-holds d e dx dy l h = at (int_le d dx.lo) (int_le dx.hi (neg_ℤ d)) (int_le e dy.lo) (int_le dy.hi (neg_ℤ e)) refl refl refl refl (sym h)
  where
    holds : (m : Label) → ◌≡◌ {A = Option Label} (Some l) (Some m) → LabelHolds d e m dx dy → LabelHolds d e l dx dy
    holds m q t = let s : m ≡ l = cc in subst (λ (n : Label). LabelHolds d e n dx dy) s t

    at : (a b f g : Bool) → int_le d dx.lo ≡ a → int_le dx.hi (neg_ℤ d) ≡ b → int_le e dy.lo ≡ f → int_le dy.hi (neg_ℤ e) ≡ g → Some l ≡ cond a (Some East) (cond b (Some West) (cond f (Some North) (cond g (Some South) None))) → LabelHolds d e l dx dy
    at true b f g p q r s k = holds East k (grind (arith, ints))
    at false true f g p q r s k = holds West k (grind (arith, ints))
    at false false true g p q r s k = holds North k (grind (arith, ints))
    at false false false true p q r s k = holds South k (grind (arith, ints))
    at false false false false p q r s k = absurd (cc)

or-rest : (a b : Bool) → a ≡ false → (a || b) ≡ true → b ≡ true
or-rest false b e h = h
or-rest true b e h = absurd (cc)

-- a corner of the list has a label of which P holds
label-has : (P : ℕ × ℕ → Label → Type 0) (ls : List (ℕ × ℕ × Label)) (p : ℕ × ℕ) → AllByRecursion (λ l. P (corner_of l) l.2) ls → has (map corner_of ls) p ≡ true → IsSomeAnd (label_at ls p) (P p)
label-has P [] p h k = absurd (cc)
label-has P (l ∷ ls) p h k = at (is_same (corner_of l) p) refl (λ e. label-has P ls p h.1 (or-rest _ _ e k))
  where
    at : (b : Bool) → is_same (corner_of l) p ≡ b → (is_same (corner_of l) p ≡ false → IsSomeAnd (label_at ls p) (P p)) → IsSomeAnd (cond b (Some l.2) (label_at ls p)) (P p)
    at true e next = subst (λ (q : ℕ × ℕ). P q l.2) (same_pair (corner_of l) p e) h.0
    at false e next = next e

-- both ends of each edge are among the ends
abbrev BothEnds : List Edge → Edge → Type 0
BothEnds es s = (has (ends_of es) s.from ≡ true) × (has (ends_of es) s.to ≡ true)

ends-has : (es : List Edge) → AllByRecursion (BothEnds es) es
ends-has [] = tt
ends-has (e ∷ es) = (
  (or_left _ _ (is_same-self e.from), or_right _ _ (or_left _ _ (is_same-self e.to))),
  all-weaker (BothEnds es) (BothEnds (e ∷ es)) es (λ s h. (or_right _ _ (or_right _ _ h.0), or_right _ _ (or_right _ _ h.1))) (ends-has es),
)

module _ (tubes : Tubes) (q : Query) (d e : ℤ) (cells : List (ℕ × ℕ)) (ls : List (ℕ × ℕ × Label)) (are : AreLabels (label_of tubes q d e) cells ls) where
  has-label : (p : ℕ × ℕ) → has (ends_of (boundary cells)) p ≡ true → HasLabel tubes q d e (label_at ls) p
  has-label p h =
      label-has (λ r l. LabelHolds d e l (change_in tubes q.x.0 r) (change_in tubes q.y.0 r)) ls p
      (all-weaker (λ l. label_of tubes q d e (corner_of l) ≡ Some l.2) (λ l. LabelHolds d e l.2 (change_in tubes q.x.0 (corner_of l)) (change_in tubes q.y.0 (corner_of l))) ls
      (λ l k. first-holds d e (change_in tubes q.x.0 (corner_of l)) (change_in tubes q.y.0 (corner_of l)) l.2 k)
      (recursion_from_All (λ l. label_of tubes q d e (corner_of l) ≡ Some l.2) ls are.own))
      (are.corners p ∙ h)

  pub labels-hold : All (λ edge. HasLabel tubes q d e (label_at ls) edge.from × HasLabel tubes q d e (label_at ls) edge.to) (boundary cells)
  labels-hold =
      All-from_recursion (λ edge. HasLabel tubes q d e (label_at ls) edge.from × HasLabel tubes q d e (label_at ls) edge.to) (boundary cells)
      (all-weaker (BothEnds (boundary cells)) (λ edge. HasLabel tubes q d e (label_at ls) edge.from × HasLabel tubes q d e (label_at ls) edge.to) (boundary cells)
      (λ edge h. (has-label edge.from h.0, has-label edge.to h.1)) (ends-has (boundary cells)))

  some-of : (P : Label → Type 0) (o : Option Label) → IsSomeAnd o P → IsSome o
  some-of P None h = absurd h
  some-of P (Some l) h = refl

  pub labelled : IsRising cells → IsLabelledBoundary cells ls
  labelled rising = record {
    rising = rising;
    corners = are.rising;
    labelled = All-from_recursion (HasLabels ls) (boundary cells)
        (all-weaker (BothEnds (boundary cells)) (HasLabels ls) (boundary cells)
        (λ edge h. (some-of _ (label_at ls edge.from) (has-label edge.from h.0), some-of _ (label_at ls edge.to) (has-label edge.to h.1))) (ends-has (boundary cells)));
  }
