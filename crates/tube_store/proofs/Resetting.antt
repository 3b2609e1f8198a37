-- Cells are given intervals of their own, one after the other.
use Rattle.std.proofs.Common.{◌≡◌, ◌≢◌, ℕ, ◌+◌, ◌-◌, ◌<◌, ◌≤◌, ◌⊎◌, inl, inr, Option, Some, None, IsSome, IfSome, Bool, true, false, cond, List, [], arith, refl, sym, ap, subst, ◌∙◌, length, set, get_or, get_or-set_same, length-set, map, sum_by, pos, All}
use Rattle.std.specs.List.Sorted.{IsStrictlyIncreasing}
use Rattle.std.proofs.lemmas.List.{get_or-map, length-map, get_or_default}
use Rattle.slice_gates.proofs.Boundaries.{rising-lt}
use Rattle.tube_spec.specs.Span.{Span, IsBounded, width_of, point}
use Rattle.tube_spec.specs.Shape.{Shape}
use Rattle.tube_spec.specs.Box.{cell_at, AreBounded}
use Rattle.tube_spec.proofs.Boxes.{cell-set}
use Rattle.tube_spec.proofs.Widths.{widths-set, widths-small, width-small}
use Rattle.tube_store.specs.declared.CellId.{CellId}
use Rattle.tube_store.specs.State.{State}
use Rattle.tube_store.specs.Resets.{cell_in, box_with}

-- The first n of a list of cells have their intervals, and all others are as they were.
pub record AreGiven (old new : State) (cells : List (CellId × Span)) (n : ℕ) : Type 0 where
  pub shape : new.shape ≡ old.shape
  pub touched : new.touched ≡ []
  pub filled : IsSome new.box
  pub len : IfSome new.box (λ ys. length ys ≡ old.shape.cells)
  pub given : IfSome new.box (λ ys. (j : ℕ) (d : CellId × Span) → j < n → cell_at ys (cell_in (get_or cells j d)) ≡ (get_or cells j d).1)
  pub others : IfSome old.box (λ xs. IfSome new.box (λ ys. (k : ℕ) → ((j : ℕ) (d : CellId × Span) → j < n → cell_in (get_or cells j d) ≢ k) → cell_at ys k ≡ cell_at xs k))

-- cells that rise are named once
pub named-once : (cells : List (CellId × Span)) (i j : ℕ) (d : CellId × Span) → IsStrictlyIncreasing (map cell_in cells) → i < j → j < length cells → cell_in (get_or cells i d) < cell_in (get_or cells j d)
named-once cells i j d rise h l =
    let len : length (map cell_in cells) ≡ length cells = length-map cells cell_in in
    omega (arith, rising-lt (map cell_in cells) rise i j h (omega (arith, len, l)), get_or-map cell_in cells i d 0 (omega (arith, h, l)), get_or-map cell_in cells j d 0 l)

-- at the start none has, and an empty box has the cells that it had last
pub given-start : (shape : Shape) (xs : List Span) (touched : List ℕ) (emptied : Bool) (new : State) (cells : List (CellId × Span)) → shape.cells ≡ length xs → new ≡ record { shape = shape; box = Some xs; touched = [] }
    → AreGiven (record { shape = shape; box = cond emptied None (Some xs); touched = touched }) new cells 0
given-start shape xs touched emptied new cells len same =
    subst (λ (s : State). AreGiven (record { shape = shape; box = cond emptied None (Some xs); touched = touched }) s cells 0) (sym same)
    (record { shape = refl; touched = refl; filled = refl; len = sym len; given = λ j d h. absurd (omega (arith, h)); others = at emptied })
  where
    at : (b : Bool) → IfSome (cond b None (Some xs)) (λ zs. (k : ℕ) → ((j : ℕ) (d : CellId × Span) → j < 0 → cell_in (get_or cells j d) ≢ k) → cell_at xs k ≡ cell_at zs k)
    at true = tt
    at false = λ k h. refl

-- what holds of each cell of a list holds of the one that stands next
pub named-next : (cells : List (CellId × Span)) (n bound : ℕ) (r : CellId × Span) → All (λ x. cell_in x < bound) cells → n < length cells → r ≡ get_or cells n r → cell_in r < bound
named-next cells n bound r all l e = subst (λ (x : CellId × Span). cell_in x < bound) (sym e) (all n r l)

split : (j n : ℕ) → j < n + 1 → (j < n) ⊎ (j ≡ n)
split j n h = grind arith

-- the next cell of the list gets its interval
pub given-step : (old new newer : State) (cells : List (CellId × Span)) (n : ℕ) (r : CellId × Span) → AreGiven old new cells n → IsStrictlyIncreasing (map cell_in cells) → n < length cells → r ≡ get_or cells n r → cell_in r < old.shape.cells
    → newer ≡ record new { box = box_with new.box (cell_in r) r.1 } → AreGiven old newer cells (n + 1)
given-step old new newer cells n r is rise l e named same =
    subst (λ (s : State). AreGiven old s cells (n + 1)) (sym same)
    (record {
      shape = is.shape;
      touched = is.touched;
      filled = filled new.box is.filled;
      len = len new.box is.len;
      given = given new.box is.len is.given;
      others = others old.box new.box is.len is.others;
    })
  where
    filled : (b : Option (List Span)) → IsSome b → IsSome (box_with b (cell_in r) r.1)
    filled None h = h
    filled (Some ys) h = h

    len : (b : Option (List Span)) → IfSome b (λ ys. length ys ≡ old.shape.cells) → IfSome (box_with b (cell_in r) r.1) (λ ys. length ys ≡ old.shape.cells)
    len None h = h
    len (Some ys) h = length-set ys (cell_in r) r.1 ∙ h

    last : (d : CellId × Span) → r ≡ get_or cells n d
    last d = e ∙ get_or_default cells n r d l

    given : (b : Option (List Span)) → IfSome b (λ ys. length ys ≡ old.shape.cells) → IfSome b (λ ys. (j : ℕ) (d : CellId × Span) → j < n → cell_at ys (cell_in (get_or cells j d)) ≡ (get_or cells j d).1)
        → IfSome (box_with b (cell_in r) r.1) (λ ys. (j : ℕ) (d : CellId × Span) → j < n + 1 → cell_at ys (cell_in (get_or cells j d)) ≡ (get_or cells j d).1)
    given None m h = tt
    given (Some ys) m h = λ j d before. elim (split j n before) [
      | inl b ↦ elim (cell-set ys (cell_in r) (cell_in (get_or cells j d)) r.1 (omega (arith, m, named))) [
        | inl q ↦ absurd (omega (arith, q.0, named-once cells j n d rise b l, ap cell_in (last d)))
        | inr q ↦ q.1 ∙ h j d b
      ]
      | inr at ↦
          subst (λ (x : CellId × Span). cell_at (set ys (cell_in r) r.1) (cell_in x) ≡ x.1) (last d ∙ ap (λ (i : ℕ). get_or cells i d) (sym at))
          (get_or-set_same ys (cell_in r) r.1 (point (pos 0)) (omega (arith, m, named)))
    ]

    others : (a b : Option (List Span)) → IfSome b (λ ys. length ys ≡ old.shape.cells)
        → IfSome a (λ xs. IfSome b (λ ys. (k : ℕ) → ((j : ℕ) (d : CellId × Span) → j < n → cell_in (get_or cells j d) ≢ k) → cell_at ys k ≡ cell_at xs k))
        → IfSome a (λ xs. IfSome (box_with b (cell_in r) r.1) (λ ys. (k : ℕ) → ((j : ℕ) (d : CellId × Span) → j < n + 1 → cell_in (get_or cells j d) ≢ k) → cell_at ys k ≡ cell_at xs k))
    others None b m h = tt
    others (Some xs) None m h = tt
    others (Some xs) (Some ys) m h = λ k apart. elim (cell-set ys (cell_in r) k r.1 (omega (arith, m, named))) [
      | inl q ↦ absurd (apart n r (omega arith) (sym (ap cell_in e) ∙ sym q.0))
      | inr q ↦ q.1 ∙ h k (λ j d b. apart j d (omega (arith, b)))
    ]

-- What stands of the widths where a cell gets another interval: no more goes than there is, and there is room for what comes.
pub record IsOther (cells : List Span) (k : ℕ) (held to : Span) (total : ℕ) : Type 0 where
  pub among : width_of held ≤ total
  pub room : total + width_of to ≤ 2001000000000000
  pub widths : total - width_of held + width_of to ≡ sum_by width_of (set cells k to)

pub other-widths : (xs : List Span) (k : ℕ) (held to : Span) (total : ℕ) → k < length xs → length xs ≤ 2000000 → AreBounded xs → IsBounded 500000000 to → held ≡ get_or xs k held → total ≡ sum_by width_of xs → IsOther xs k held to total
other-widths xs k held to total h few all inside is sum =
    let cell : width_of held ≡ width_of (cell_at xs k) = ap width_of (is ∙ get_or_default xs k held (point (pos 0)) h) in
    let none : width_of (point (pos 0)) ≡ 0 = refl in
    let gone = widths-set xs k (point (pos 0)) h in
    let among : width_of held ≤ total = omega (arith, gone, cell, sum, none) in
    record { among = among; room = omega (arith, sum, widths-small xs all, few, width-small to inside); widths = omega (arith, among, widths-set xs k to h, cell, sum) }

pub bounded-other : (xs : List Span) (k : ℕ) (to : Span) → k < length xs → AreBounded xs → IsBounded 500000000 to → AreBounded (set xs k to)
bounded-other xs k to h all inside j = elim (cell-set xs k j to h) [
  | inl e ↦ subst (IsBounded 500000000) (sym e.1) inside
  | inr e ↦ subst (IsBounded 500000000) (sym e.1) (all j)
]

-- all of them have
pub all-given : (cells : List (CellId × Span)) (n : ℕ) (b : Option (List Span)) → length cells ≤ n → IfSome b (λ ys. (j : ℕ) (d : CellId × Span) → j < n → cell_at ys (cell_in (get_or cells j d)) ≡ (get_or cells j d).1)
    → IfSome b (λ ys. All (λ r. cell_at ys (cell_in r) ≡ r.1) cells)
all-given cells n None h g = tt
all-given cells n (Some ys) h g = λ j d l. g j d (omega (arith, l, h))

pub all-others : (cells : List (CellId × Span)) (n : ℕ) (a b : Option (List Span)) → n ≤ length cells → IfSome a (λ xs. IfSome b (λ ys. (k : ℕ) → ((j : ℕ) (d : CellId × Span) → j < n → cell_in (get_or cells j d) ≢ k) → cell_at ys k ≡ cell_at xs k))
    → IfSome a (λ xs. IfSome b (λ ys. (k : ℕ) → All (λ r. cell_in r ≢ k) cells → cell_at ys k ≡ cell_at xs k))
all-others cells n None b h o = tt
all-others cells n (Some xs) None h o = tt
all-others cells n (Some xs) (Some ys) h o = λ k apart. o k (λ j d l. apart j d (omega (arith, l, h)))
