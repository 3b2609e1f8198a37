-- The definitions and the law of withdrawal tried on a net of three contractors: a bound on x, that y lies within x, and a bound on z.
use Rattle.std.proofs.Common.{◌≡◌, ℕ, zero, suc, ◌<◌, ◌⊎◌, inl, inr, Bool, true, false, IsTrue, Option, Some, List, [], ◌∷◌, length, pos, arith, refl, sym, subst, All, Any, Contains}
use Rattle.std.specs.List.{slice_index_or}
use Rattle.std.proofs.lemmas.Int.{ints}
use Rattle.std.proofs.lemmas.List.Elements.{All-from_recursion}
use Rattle.tube_spec.specs.Span.{Span, IsWithin}
use Rattle.tube_spec.specs.Box.{cell_at, IsBelow}
use Rattle.tube_spec.specs.Projection.{Projection, IsStable, IsMonotone, ReadsOnly, holds_by}
use Rattle.tube_spec.specs.Shape.{Shape, no_shape}
use Rattle.tube_spec.specs.Fixpoint.{IsFixpoint, IsGreatest}
use Rattle.tube_spec.proofs.Spans.{IsWithin-refl}
use Rattle.tube_spec.proofs.Boxes.{IsBelow-refl, IsBelow-cons, IsBox-nil, IsBox-cons}
use Rattle.tube_spec.proofs.Hulls.{IsBelow-from}
use Rattle.tube_spec.proofs.Monotone.{holds_by-mono, holds_by-reads}
use Rattle.constraint_retraction.specs.Linked.{cells_of, IsClosed, IsLinked, Own, Along}
use Rattle.constraint_retraction.specs.Resetting.{reset_box}
use Rattle.constraint_retraction.specs.Withdrawal.{all_of, IsWithdrawal, ArePartsOf}
use Rattle.constraint_retraction.proofs.LinkedCells.{linked-least}
use Rattle.constraint_retraction.proofs.Withdrawals.{greatest-after}

data Kind : Type 0 where
  BoundX : Kind
  YWithinX : Kind
  BoundZ : Kind

abbrev upto : ℕ → Span
upto n = record { lo = pos 0; hi = pos n }

abbrev projections : Kind → Shape → List Projection
projections BoundX s = holds_by 0 (λ xs. upto 5) ∷ []
projections YWithinX s = holds_by 1 (λ xs. cell_at xs 0) ∷ []
projections BoundZ s = holds_by 2 (λ xs. upto 7) ∷ []

abbrev scope : Kind → Shape → List ℕ
scope BoundX s = []
scope YWithinX s = 0 ∷ []
scope BoundZ s = []

abbrev fits : Kind → Shape → Option (List Span) → Type 0
fits c s b = Unit {0}

abbrev shape : Shape
shape = no_shape []

abbrev cells : Kind → List ℕ
cells c = cells_of projections scope shape c

abbrev kinds : List Kind
kinds = BoundX ∷ YWithinX ∷ BoundZ ∷ []

abbrev left : List Kind
left = YWithinX ∷ BoundZ ∷ []

abbrev withdrawn : List Kind
withdrawn = BoundX ∷ []

abbrev start : List Span
start = upto 10 ∷ upto 10 ∷ upto 10 ∷ []

abbrev before : List Span
before = upto 5 ∷ upto 5 ∷ upto 7 ∷ []

abbrev after : List Span
after = upto 10 ∷ upto 10 ∷ upto 7 ∷ []

-- the marks of x and y, of x alone and of y alone
abbrev both : ℕ → Bool
both zero = true
both (suc zero) = true
both (suc (suc k)) = false

abbrev first : ℕ → Bool
first zero = true
first (suc k) = false

abbrev second : ℕ → Bool
second zero = false
second (suc zero) = true
second (suc (suc k)) = false

cells-is : cells YWithinX ≡ 0 ∷ 1 ∷ []
cells-is = refl

-- Without the bound on x, x and y are linked and z is not.
x-linked : IsLinked cells left withdrawn 0
x-linked = Own BoundX 0 (0, omega arith, refl) (0, omega arith, refl)

y-linked : IsLinked cells left withdrawn 1
y-linked = Along YWithinX 0 1 (0, omega arith, refl) (0, omega arith, refl) (1, omega arith, refl) x-linked

z-alone : Any (λ k. IsTrue (both k)) (cells BoundZ) → All (λ k. IsTrue (both k)) (cells BoundZ)
z-alone some = absurd (at some.0 some.1 some.2 some.3 some.4)
  where
    at : (k x : ℕ) → k < 1 → slice_index_or (2 ∷ []) k x ≡ x → both x ≡ true → ⊥
    at zero x l e t = let no : false ≡ true = subst (λ (n : ℕ). both n ≡ true) (sym e) t in absurd (cc)
    at (suc k) x l e t = omega (arith, l)

closed : IsClosed cells left withdrawn (λ k. IsTrue (both k))
closed = record {
  own = All-from_recursion (λ c. All (λ k. IsTrue (both k)) (cells c)) withdrawn (All-from_recursion (λ k. IsTrue (both k)) (0 ∷ []) (refl, tt), tt);
  along = All-from_recursion (λ c. Any (λ k. IsTrue (both k)) (cells c) → All (λ k. IsTrue (both k)) (cells c)) left
      (λ some. All-from_recursion (λ k. IsTrue (both k)) (0 ∷ 1 ∷ []) (refl, (refl, tt)), (z-alone, tt));
}

z-not-linked : IsLinked cells left withdrawn 2 → ⊥
z-not-linked h = let no : false ≡ true = linked-least cells left withdrawn (λ k. IsTrue (both k)) closed 2 h in absurd (cc)

reset-is : reset_box both start (Some before) ≡ after
reset-is = refl

parts : ArePartsOf kinds left withdrawn
parts c = (there c, back c)
  where
    there : (c : Kind) → Contains kinds c → Contains left c ⊎ Contains withdrawn c
    there BoundX m = inr (0, omega arith, refl)
    there YWithinX m = inl (0, omega arith, refl)
    there BoundZ m = inl (1, omega arith, refl)

    back : (c : Kind) → Contains left c ⊎ Contains withdrawn c → Contains kinds c
    back BoundX m = (0, omega arith, refl)
    back YWithinX m = (1, omega arith, refl)
    back BoundZ m = (2, omega arith, refl)

withdrawal : IsWithdrawal projections scope fits shape kinds left withdrawn start both
withdrawal = record { fit = λ k d l. tt; parts = parts; closed = closed }

monotone : (c : Kind) (s : Shape) → All (IsMonotone (λ xs. fits c s (Some xs))) (projections c s)
monotone BoundX s = All-from_recursion (IsMonotone (λ xs. Unit {0})) (projections BoundX s) (holds_by-mono (λ xs. Unit {0}) 0 (λ xs. upto 5) (λ xs ys low. IsWithin-refl (upto 5)), tt)
monotone YWithinX s = All-from_recursion (IsMonotone (λ xs. Unit {0})) (projections YWithinX s) (holds_by-mono (λ xs. Unit {0}) 1 (λ xs. cell_at xs 0) (λ xs ys low. low.each 0), tt)
monotone BoundZ s = All-from_recursion (IsMonotone (λ xs. Unit {0})) (projections BoundZ s) (holds_by-mono (λ xs. Unit {0}) 2 (λ xs. upto 7) (λ xs ys low. IsWithin-refl (upto 7)), tt)

reads_only : (c : Kind) (s : Shape) → All (ReadsOnly (λ xs. fits c s (Some xs)) (scope c s)) (projections c s)
reads_only BoundX s = All-from_recursion (ReadsOnly (λ xs. Unit {0}) []) (projections BoundX s) (holds_by-reads (λ xs. Unit {0}) [] 0 (λ xs. upto 5) (λ xs ys same. refl), tt)
reads_only YWithinX s = All-from_recursion (ReadsOnly (λ xs. Unit {0}) (0 ∷ [])) (projections YWithinX s) (holds_by-reads (λ xs. Unit {0}) (0 ∷ []) 1 (λ xs. cell_at xs 0) (λ xs ys same. same 0 (0, omega arith, refl)), tt)
reads_only BoundZ s = All-from_recursion (ReadsOnly (λ xs. Unit {0}) []) (projections BoundZ s) (holds_by-reads (λ xs. Unit {0}) [] 2 (λ xs. upto 7) (λ xs ys same. refl), tt)

-- With the bound on x, the greatest common fixpoint is 0..5, 0..5, 0..7.
before-greatest : IsGreatest (all_of projections shape kinds) (Some start) (Some before)
before-greatest = (fixpoint, below, greatest)
  where
    fixpoint : IsFixpoint (all_of projections shape kinds) before
    fixpoint = record {
      box = IsBox-cons (upto 5) (upto 5 ∷ upto 7 ∷ []) (omega (arith, ints)) (IsBox-cons (upto 5) (upto 7 ∷ []) (omega (arith, ints)) (IsBox-cons (upto 7) [] (omega (arith, ints)) IsBox-nil));
      stable = All-from_recursion (IsStable before) (all_of projections shape kinds) (IsWithin-refl (upto 5), (IsWithin-refl (upto 5), (IsWithin-refl (upto 7), tt)));
    }

    below : IsBelow before start
    below =
        IsBelow-cons (upto 5) (upto 10) (upto 5 ∷ upto 7 ∷ []) (upto 10 ∷ upto 10 ∷ []) (record { low = omega (arith, ints); high = omega (arith, ints) })
        (IsBelow-cons (upto 5) (upto 10) (upto 7 ∷ []) (upto 10 ∷ []) (record { low = omega (arith, ints); high = omega (arith, ints) })
        (IsBelow-cons (upto 7) (upto 10) [] [] (record { low = omega (arith, ints); high = omega (arith, ints) }) (IsBelow-refl [])))

    at : (q : List Span) → length q ≡ 3 → IsWithin (cell_at q 0) (upto 5) → IsWithin (cell_at q 1) (cell_at q 0) → IsWithin (cell_at q 2) (upto 7) → (k : ℕ) → k < length q → IsWithin (cell_at q k) (cell_at before k)
    at q three x y z zero l = x
    at q three x y z (suc zero) l = record { low = omega (arith, ints, x.low, y.low); high = omega (arith, ints, x.high, y.high) }
    at q three x y z (suc (suc zero)) l = z
    at q three x y z (suc (suc (suc k))) l = absurd (omega (arith, l, three))

    greatest : (q : List Span) → IsFixpoint (all_of projections shape kinds) q → IsBelow q start → IsBelow q before
    greatest q fix low =
        let x : IsWithin (cell_at q 0) (upto 5) = fix.stable 0 (holds_by 0 (λ xs. upto 5)) (omega arith) in
        let y : IsWithin (cell_at q 1) (cell_at q 0) = fix.stable 1 (holds_by 0 (λ xs. upto 5)) (omega arith) in
        let z : IsWithin (cell_at q 2) (upto 7) = fix.stable 2 (holds_by 0 (λ xs. upto 5)) (omega arith) in
        IsBelow-from q before low.len (at q low.len x y z)

after-fixpoint : IsFixpoint (all_of projections shape left) after
after-fixpoint = record {
  box = IsBox-cons (upto 10) (upto 10 ∷ upto 7 ∷ []) (omega (arith, ints)) (IsBox-cons (upto 10) (upto 7 ∷ []) (omega (arith, ints)) (IsBox-cons (upto 7) [] (omega (arith, ints)) IsBox-nil));
  stable = All-from_recursion (IsStable after) (all_of projections shape left) (IsWithin-refl (upto 10), (IsWithin-refl (upto 7), tt));
}

-- Without it that is 0..10, 0..10, 0..7: by the law, since the box after the reset is a common fixpoint of those left.
after-greatest : IsGreatest (all_of projections shape left) (Some start) (Some after)
after-greatest =
    (greatest-after Kind projections scope fits monotone reads_only (λ c s a b low fit. tt) shape kinds left withdrawn start both withdrawal (Some before) (Some after) before-greatest).1
    (after-fixpoint, IsBelow-refl after, λ q fix low. low)

-- Where no cell is reset, or x alone, that box is lost.
none-reset : IsBelow after (reset_box (λ k. false) start (Some before)) → ⊥
none-reset low = let x : IsWithin (upto 10) (upto 5) = low.each 0 in omega (arith, ints, x.high)

x-reset : IsBelow after (reset_box first start (Some before)) → ⊥
x-reset low = let y : IsWithin (upto 10) (upto 5) = low.each 1 in omega (arith, ints, y.high)

-- Where y alone is reset, who holds y within x does not rest: one linked cell is enough to be linked.
y-reset : IsFixpoint (projections YWithinX shape) (reset_box second start (Some before)) → ⊥
y-reset fix = let y : IsWithin (upto 10) (upto 5) = fix.stable 0 (holds_by 0 (λ xs. upto 5)) (omega arith) in omega (arith, ints, y.high)
