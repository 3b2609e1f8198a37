-- The law of withdrawal, for any projections, scope and fit that keep the laws.
use Rattle.std.proofs.Common.{◌≡◌, ◌↔◌, ℕ, ◌<◌, ◌⊎◌, inl, inr, Bool, IsTrue, IsFalse, Option, Some, None, List, map, length, get_or, arith, sym, subst, ◌∙◌, All, Any, Contains}
use Rattle.std.proofs.lemmas.Int.{ints}
use Rattle.std.proofs.lemmas.List.{get_or-map}
use Rattle.std.proofs.Math.ListN.{length-map}
use Rattle.std.proofs.lemmas.List.Elements.{All-contains, Contains-append_left, Contains-append_right, Contains-get_or}
use Rattle.tube_spec.specs.Span.{Span, IsWithin}
use Rattle.tube_spec.specs.Narrowing.{Narrowing, IsUnder}
use Rattle.tube_spec.specs.Shape.{Shape}
use Rattle.tube_spec.specs.Box.{cell_at, IsBox, IsBelow, IsBelowBox}
use Rattle.tube_spec.specs.Projection.{Projection, IsMonotone, ReadsOnly}
use Rattle.tube_spec.specs.Fixpoint.{IsFixpoint, IsGreatest, KeepsFixpoints}
use Rattle.tube_spec.proofs.Spans.{IsWithin-trans, same_span}
use Rattle.tube_spec.proofs.Boxes.{under-formula, IsBelow-trans}
use Rattle.constraint_retraction.specs.Joining.{join_box}
use Rattle.constraint_retraction.specs.Linked.{cells_of, HasLinked}
use Rattle.constraint_retraction.specs.Resetting.{with_cells, reset_box}
use Rattle.constraint_retraction.specs.Withdrawal.{all_of, IsWithdrawal}
use Rattle.constraint_retraction.proofs.Joins.{join-cell, join-box, join-below, join-above-left, join-above-right, join-under}
use Rattle.constraint_retraction.proofs.Resets.{with-box, with-below, with-inside, with-outside, below-with, reset-below, reset-others}
use Rattle.constraint_retraction.proofs.Members.{member-fixpoint, fixpoint-members, any-or-none}

-- spans within each other are one
within-both : (a b : Span) → IsWithin a b → IsWithin b a → a ≡ b
within-both a b p q = same_span a b (omega (arith, ints, p.low, q.low)) (omega (arith, ints, p.high, q.high))

-- The greatest common fixpoint below a start is the one below a lesser box that keeps all.
greatest-between : (ps : List Projection) (start lesser : List Span) (new : Option (List Span)) → IsBelow lesser start → KeepsFixpoints ps (Some start) (Some lesser) → IsGreatest ps (Some start) new ↔ IsGreatest ps (Some lesser) new
greatest-between ps start lesser None low keeps = (λ g q fix b. g q fix (IsBelow-trans q lesser start b low), λ g q fix b. g q fix (keeps q fix b))
greatest-between ps start lesser (Some r) low keeps = (
  λ g. (g.0, keeps r g.0 g.1, λ q fix b. g.2 q fix (IsBelow-trans q lesser start b low)),
  λ g. (g.0, IsBelow-trans r lesser start g.1 low, λ q fix b. g.2 q fix (keeps q fix b)),
)

module _ (C : Type 0) (projections : C → Shape → List Projection) (scope : C → Shape → List ℕ) (fits : C → Shape → Option (List Span) → Type 0)
    (monotone : (c : C) (s : Shape) → All (IsMonotone (λ xs. fits c s (Some xs))) (projections c s))
    (reads_only : (c : C) (s : Shape) → All (ReadsOnly (λ xs. fits c s (Some xs)) (scope c s)) (projections c s))
    (fits_below : (c : C) (s : Shape) (a b : Option (List Span)) → IsBelowBox a b → fits c s b → fits c s a) where
  -- the join of two fixpoints of a contractor is one
  join-one : (c : C) (s : Shape) (start xs ys : List Span) → fits c s (Some start) → IsBelow xs start → IsBelow ys start → IsFixpoint (projections c s) xs → IsFixpoint (projections c s) ys → IsFixpoint (projections c s) (join_box xs ys)
  join-one c s start xs ys fit lowx lowy fx fy =
      let e = lowx.len ∙ sym lowy.len in
      let box = join-box xs ys e fx.box fy.box in
      let small = fits_below c s (Some (join_box xs ys)) (Some start) (join-below xs ys start lowx lowy) fit in
      let Fits : List Span → Type 0 = λ zs. fits c s (Some zs) in record {
        box = box;
        stable = λ k d l.
            let p = get_or (projections c s) k d in
            subst (λ (t : Span). IsUnder t (p.formula (join_box xs ys))) (sym (join-cell xs ys p.target e))
            (join-under (cell_at xs p.target) (cell_at ys p.target) (p.formula (join_box xs ys))
            (under-formula Fits p xs (join_box xs ys) (monotone c s k d l) fx.box box small (join-above-left xs ys e) (fx.stable k d l))
            (under-formula Fits p ys (join_box xs ys) (monotone c s k d l) fy.box box small (join-above-right xs ys e) (fy.stable k d l)));
      }

  -- and so is the join of two common ones
  pub join-fixpoint : (s : Shape) (cs : List C) (start xs ys : List Span) → All (λ c. fits c s (Some start)) cs → IsBelow xs start → IsBelow ys start
      → IsFixpoint (all_of projections s cs) xs → IsFixpoint (all_of projections s cs) ys → IsFixpoint (all_of projections s cs) (join_box xs ys)
  join-fixpoint s cs start xs ys fit lowx lowy fx fy =
      fixpoint-members (λ c. projections c s) cs (join_box xs ys) (join-box xs ys (lowx.len ∙ sym lowy.len) fx.box fy.box)
      (λ c m. join-one c s start xs ys (All-contains (λ d. fits d s (Some start)) cs c fit m) lowx lowy (member-fixpoint (λ d. projections d s) cs c xs m fx) (member-fixpoint (λ d. projections d s) cs c ys m fy))

  scope-among : (c : C) (s : Shape) (k : ℕ) → Contains (scope c s) k → Contains (cells_of projections scope s c) k
  scope-among c s k m = Contains-append_left (scope c s) (map (λ (p : Projection). p.target) (projections c s)) k m

  target-among : (c : C) (s : Shape) (k : ℕ) (d : Projection) → k < length (projections c s) → Contains (cells_of projections scope s c) (get_or (projections c s) k d).target
  target-among c s k d l =
      Contains-append_right (scope c s) (map (λ (p : Projection). p.target) (projections c s)) _
      (k, rw length-map l, get_or-map (λ (p : Projection). p.target) (projections c s) k d (get_or (projections c s) k d).target l)

  -- a fixpoint of a contractor stays one where the cells that it reads or writes stay
  same-fixpoint : (c : C) (s : Shape) (start xs ys : List Span) → fits c s (Some start) → IsBelow xs start → IsBelow ys start → IsBox ys → ((k : ℕ) → Contains (cells_of projections scope s c) k → cell_at ys k ≡ cell_at xs k) → IsFixpoint (projections c s) xs → IsFixpoint (projections c s) ys
  same-fixpoint c s start xs ys fit lowx lowy box same fix = record {
    box = box;
    stable = λ k d l.
        let p = get_or (projections c s) k d in
        let target : cell_at ys p.target ≡ cell_at xs p.target = same p.target (target-among c s k d l) in
        let formula : p.formula ys ≡ p.formula xs =
        reads_only c s k d l ys xs (fits_below c s (Some ys) (Some start) lowy fit) (fits_below c s (Some xs) (Some start) lowx fit) (λ j m. same j (scope-among c s j m)) in
        subst (λ (h : Narrowing). IsUnder (cell_at ys p.target) h) (sym formula) (subst (λ (v : Span). IsUnder v (p.formula xs)) (sym target) (fix.stable k d l));
  }

  -- who has no cell of the set leaves the box after the reset
  pub rests : (s : Shape) (c : C) (start xs : List Span) (linked : ℕ → Bool) → fits c s (Some start) → IsBox start → IsBelow xs start
      → (HasLinked (cells_of projections scope s) (λ k. IsTrue (linked k)) c → ⊥) → IsFixpoint (projections c s) xs → IsFixpoint (projections c s) (reset_box linked start (Some xs))
  rests s c start xs linked fit box low apart fix = at (any-or-none linked (cells_of projections scope s c))
    where
      at : Any (λ k. IsTrue (linked k)) (cells_of projections scope s c) ⊎ ((k : ℕ) → Contains (cells_of projections scope s c) k → IsFalse (linked k)) → IsFixpoint (projections c s) (reset_box linked start (Some xs))
      at (inl some) = absurd (apart some)
      at (inr none) =
          same-fixpoint c s start xs (reset_box linked start (Some xs)) fit low (reset-below linked start (Some xs) low) (with-box linked start xs (sym low.len) box fix.box)
          (λ k m. reset-others linked start xs low k (none k m)) fix

  pub fits-reset : (s : Shape) (c : C) (start : List Span) (old : Option (List Span)) (linked : ℕ → Bool) → fits c s (Some start) → IsBelowBox old (Some start) → fits c s (Some (reset_box linked start old))
  fits-reset s c start old linked fit low = fits_below c s (Some (reset_box linked start old)) (Some start) (reset-below linked start old low) fit

  module _ (s : Shape) (cs left withdrawn : List C) (start : List Span) (linked : ℕ → Bool) (w : IsWithdrawal projections scope fits s cs left withdrawn start linked) where
    abbrev cells : C → List ℕ
    cells c = cells_of projections scope s c

    left-among : (c : C) → Contains left c → Contains cs c
    left-among c m = (w.parts c).1 (inl m)

    fits-member : (c : C) → Contains cs c → fits c s (Some start)
    fits-member c m = All-contains (λ d. fits d s (Some start)) cs c w.fit m

    -- a common fixpoint of all, and one of those left
    module _ (g j : List Span) (lowg : IsBelow g start) (lowj : IsBelow j start) (fg : IsFixpoint (all_of projections s cs) g) (fj : IsFixpoint (all_of projections s left) j) where
      even : length g ≡ length j
      even = lowg.len ∙ sym lowj.len

      mixed-box : IsBox (with_cells linked g j)
      mixed-box = with-box linked g j even fg.box fj.box

      mixed-below : IsBelow (with_cells linked g j) start
      mixed-below = with-below linked g j start lowg lowj

      -- the box of both is a fixpoint of a contractor whose cells are all of the set, and of one of those left that has none of them
      inner : (c : C) → Contains cs c → All (λ k. IsTrue (linked k)) (cells c) → IsFixpoint (projections c s) (with_cells linked g j)
      inner c m all =
          same-fixpoint c s start g (with_cells linked g j) (fits-member c m) lowg mixed-below mixed-box
          (λ k n. with-inside linked g j k even (All-contains (λ i. IsTrue (linked i)) (cells c) k all n)) (member-fixpoint (λ d. projections d s) cs c g m fg)

      outer : (c : C) → Contains left c → ((k : ℕ) → Contains (cells c) k → IsFalse (linked k)) → IsFixpoint (projections c s) (with_cells linked g j)
      outer c m none =
          same-fixpoint c s start j (with_cells linked g j) (fits-member c (left-among c m)) lowj mixed-below mixed-box
          (λ k n. with-outside linked g j k even (none k n)) (member-fixpoint (λ d. projections d s) left c j m fj)

      mixed-one : (c : C) → Contains cs c → IsFixpoint (projections c s) (with_cells linked g j)
      mixed-one c m = elim ((w.parts c).0 m) [
        | inl l ↦ elim (any-or-none linked (cells c)) [
          | inl some ↦ inner c m (All-contains (λ d. Any (λ k. IsTrue (linked k)) (cells d) → All (λ k. IsTrue (linked k)) (cells d)) left c w.closed.along l some)
          | inr none ↦ outer c l none
        ]
        | inr o ↦ inner c m (All-contains (λ d. All (λ k. IsTrue (linked k)) (cells d)) withdrawn c w.closed.own o)
      ]

      pub mixed-fixpoint : IsFixpoint (all_of projections s cs) (with_cells linked g j)
      mixed-fixpoint = fixpoint-members (λ c. projections c s) cs (with_cells linked g j) mixed-box mixed-one

    fit-left : All (λ c. fits c s (Some start)) left
    fit-left k d l = fits-member _ (left-among _ (Contains-get_or left k d l))

    left-fixpoint : (q : List Span) → IsFixpoint (all_of projections s cs) q → IsFixpoint (all_of projections s left) q
    left-fixpoint q fix = fixpoint-members (λ c. projections c s) left q fix.box (λ c m. member-fixpoint (λ d. projections d s) cs c q (left-among c m) fix)

    -- off the set a common fixpoint of those left lies within the greatest one of all
    pub off-linked : (old q : List Span) → IsGreatest (all_of projections s cs) (Some start) (Some old) → IsFixpoint (all_of projections s left) q → IsBelow q start → (k : ℕ) → IsFalse (linked k) → IsWithin (cell_at q k) (cell_at old k)
    off-linked old q great fix low k h =
        let lowj = join-below q old start low great.1 in
        let fj = join-fixpoint s left start q old fit-left low great.1 fix (left-fixpoint old great.0) in
        let mixed = great.2 (with_cells linked old (join_box q old)) (mixed-fixpoint old (join_box q old) great.1 lowj great.0 fj) (with-below linked old (join_box q old) start great.1 lowj) in
        IsWithin-trans (cell_at q k) (cell_at (join_box q old) k) (cell_at old k)
        ((join-above-left q old (low.len ∙ sym great.1.len)).each k)
        (subst (λ (t : Span). IsWithin t (cell_at old k)) (with-outside linked old (join_box q old) k (great.1.len ∙ sym lowj.len) h) (mixed.each k))

    greatest-below : (old : Option (List Span)) → IsGreatest (all_of projections s cs) (Some start) old → IsBelowBox old (Some start)
    greatest-below None great = tt
    greatest-below (Some xs) great = great.1

    -- so it lies below the box after the reset
    pub reset-keeps : (old : Option (List Span)) → IsGreatest (all_of projections s cs) (Some start) old → KeepsFixpoints (all_of projections s left) (Some start) (Some (reset_box linked start old))
    reset-keeps None great q fix low = low
    reset-keeps (Some old) great q fix low = below-with linked q start old (sym great.1.len) low.len (λ k h. low.each k) (off-linked old q great fix low)

    pub greatest-after : (old new : Option (List Span)) → IsGreatest (all_of projections s cs) (Some start) old → IsGreatest (all_of projections s left) (Some start) new ↔ IsGreatest (all_of projections s left) (Some (reset_box linked start old)) new
    greatest-after old new great = greatest-between (all_of projections s left) start (reset_box linked start old) new (reset-below linked start old (greatest-below old great)) (reset-keeps old great)

    -- and the greatest one of those left is off the set what it was
    pub stays : (old new : List Span) → IsGreatest (all_of projections s cs) (Some start) (Some old) → IsGreatest (all_of projections s left) (Some start) (Some new) → (k : ℕ) → IsFalse (linked k) → cell_at new k ≡ cell_at old k
    stays old new great later k h = within-both (cell_at new k) (cell_at old k) (off-linked old new great later.0 later.1 k h) ((later.2 old (left-fixpoint old great.0) great.1).each k)
