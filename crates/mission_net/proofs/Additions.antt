-- Additions to a net, one after another, and the room that they leave.
use Rattle.std.proofs.Common.{◌≡◌, ℕ, zero, suc, ◌+◌, ◌<◌, ◌≤◌, Option, Some, None, List, [], ◌∷◌, ◌++◌, Bool, true, All, get_or, drop, drop-cons, arith, refl, sym, ap, ap₂, subst, ◌∙◌, length, map, take, length-append, append-nil, append_assoc, replicate}
use borrow.Author.Count.{below_more}
use Rattle.std.proofs.Math.ListN.{get_or-append}
use Rattle.std.proofs.lemmas.List.{take-append-drop, take_more, get_or-append-add, map-append, replicate-append-replicate}
use Rattle.std.proofs.lemmas.List.Sums.{sum_by-append}
use Rattle.std.proofs.lemmas.List.Concat.{flat_map-append}
use Rattle.tube_spec.specs.Span.{Span}
use Rattle.tube_spec.specs.Shape.{Shape}
use Rattle.tube_spec.specs.Box.{IsBelowBox, box_more}
use Rattle.tube_spec.specs.Owner.{Owner, with_owners, start_of, declared_cells}
use Rattle.tube_spec.proofs.Prefixes.{IsBelow-append}
use Rattle.tube_spec.proofs.Hulls.{with_owners-append, owners-extend}
use Rattle.tube_store.specs.State.{state_with}
use Rattle.ctc_network.specs.Nets.{NetState}
use Rattle.ctc_deriv.specs.Bounds.{each_below}
use Rattle.any_ctc.specs.Constraints.{Constraint, reads_of, reads_in, IsOf}
use Rattle.any_ctc.specs.declared.AnyCtc.{AnyCtc}
use Rattle.any_ctc.specs.Contractors.{constraint_of}
use Rattle.mission_net.specs.Building.{CanAdd, IsAdded, stands_for, constraints_in, each_alone}
use Rattle.mission_net.proofs.Numbers.{added-in, added-count}

-- ---- boxes with further cells

pub more-low : (b : Option (List Span)) (declared more : List Span) → IsBelowBox b (Some declared) → IsBelowBox (box_more b more) (Some (declared ++ more))
more-low None declared more h = tt
more-low (Some xs) declared more h = IsBelow-append xs declared more h

pub box_more-none : (b : Option (List Span)) → box_more b [] ≡ b
box_more-none None = refl
box_more-none (Some xs) = ap Some (append-nil xs)

pub box_more-append : (b : Option (List Span)) (xs ys : List Span) → box_more (box_more b xs) ys ≡ box_more b (xs ++ ys)
box_more-append None xs ys = refl
box_more-append (Some b) xs ys = ap Some (append_assoc b xs ys)

-- ---- additions, one after another

pub added-none : (a : NetState AnyCtc) → IsAdded [] [] a a
added-none a = record { shape = refl; box = sym (box_more-none a.store.box); contractors = sym (append-nil (map stands_for a.contractors)); waiting = sym (append-nil a.waiting) }

pub added-then : (os ps : List Owner) (cs ds : List Constraint) (a b c : NetState AnyCtc) → IsAdded os cs a b → IsAdded ps ds b c → IsAdded (os ++ ps) (cs ++ ds) a c
added-then os ps cs ds a b c p q =
    let grid : b.store.shape.grid ≡ a.store.shape.grid = ap (λ (s : Shape). s.grid) p.shape ∙ (owners-extend os a.store.shape).grid in record {
      shape = q.shape ∙ ap (λ (s : Shape). with_owners s ps) p.shape ∙ sym (with_owners-append os ps a.store.shape);
      box = q.box ∙ ap₂ (λ (x : Option (List Span)) (g : List ℕ). box_more x (start_of g ps)) p.box grid
          ∙ box_more-append a.store.box (start_of a.store.shape.grid os) (start_of a.store.shape.grid ps)
          ∙ ap (box_more a.store.box) (sym (flat_map-append (declared_cells a.store.shape.grid) os ps));
      contractors = q.contractors ∙ ap (λ (xs : List (List Constraint)). xs ++ each_alone ds) p.contractors ∙ append_assoc (map stands_for a.contractors) (each_alone cs) (each_alone ds)
          ∙ ap (λ (xs : List (List Constraint)). map stands_for a.contractors ++ xs) (sym (map-append (λ (c : Constraint). c ∷ []) cs ds));
      waiting = q.waiting ∙ ap (λ (xs : List Bool). xs ++ replicate (length ds) true) p.waiting ∙ append_assoc a.waiting (replicate (length cs) true) (replicate (length ds) true)
          ∙ ap (λ (xs : List Bool). a.waiting ++ xs) (replicate-append-replicate (length cs) (length ds) true ∙ ap (λ (n : ℕ). replicate n true) (sym (length-append cs ds)));
    }

-- additions leave the grid as it was
pub added-grid : (os : List Owner) (cs : List Constraint) (a b : NetState AnyCtc) → IsAdded os cs a b → b.store.shape.grid ≡ a.store.shape.grid
added-grid os cs a b p = ap (λ (s : Shape). s.grid) p.shape ∙ (owners-extend os a.store.shape).grid

-- further cells, as the net adds them
pub added-owner : (o : Owner) (old new : NetState AnyCtc) → new ≡ record old { store = state_with old.store o } → IsAdded (o ∷ []) [] old new
added-owner o old new e = record {
  shape = ap (λ (n : NetState AnyCtc). n.store.shape) e;
  box = ap (λ (n : NetState AnyCtc). n.store.box) e ∙ ap (box_more old.store.box) (sym (append-nil (declared_cells old.store.shape.grid o)));
  contractors = ap (λ (n : NetState AnyCtc). map stands_for n.contractors) e ∙ sym (append-nil (map stands_for old.contractors));
  waiting = ap (λ (n : NetState AnyCtc). n.waiting) e ∙ sym (append-nil old.waiting);
}

-- a further contractor, as the net adds it
pub added-contractor : (c : AnyCtc) (old new : NetState AnyCtc) → new ≡ record old { contractors = old.contractors ++ Some c ∷ []; waiting = old.waiting ++ true ∷ [] } → IsAdded [] (constraint_of c ∷ []) old new
added-contractor c old new e = record {
  shape = ap (λ (n : NetState AnyCtc). n.store.shape) e;
  box = ap (λ (n : NetState AnyCtc). n.store.box) e ∙ sym (box_more-none old.store.box);
  contractors = ap (λ (n : NetState AnyCtc). map stands_for n.contractors) e ∙ map-append stands_for old.contractors (Some c ∷ []);
  waiting = ap (λ (n : NetState AnyCtc). n.waiting) e;
}

-- cells alone leave the contractors as they were
pub none-few : (os : List Owner) (a b : NetState AnyCtc) → IsAdded os [] a b → length b.contractors ≡ length a.contractors
none-few os a b p = omega (arith, added-count os [] a b p)

pub none-reads : (os : List Owner) (a b : NetState AnyCtc) → IsAdded os [] a b → reads_in b.store.shape.grid (constraints_in b) ≡ reads_in a.store.shape.grid (constraints_in a)
none-reads os a b p = ap₂ reads_in (added-grid os [] a b p) (added-in os [] a b p ∙ append-nil (constraints_in a))

-- ---- the room for further contractors

pub All-first : {X : Type 0} (P : X → Type 0) (xs ys : List X) → All P (xs ++ ys) → All P xs
All-first P xs ys all k d l = subst P (get_or-append xs ys d k l) (all k d (omega (arith, l, length-append xs ys)))

pub All-rest : {X : Type 0} (P : X → Type 0) (xs ys : List X) → All P (xs ++ ys) → All P ys
All-rest P xs ys all k d l = subst P (get_or-append-add xs ys k d) (all (length xs + k) d (omega (arith, l, length-append xs ys)))

-- the first of several
pub can-first : (cs ds : List Constraint) (a : NetState AnyCtc) → CanAdd (cs ++ ds) a → CanAdd cs a
can-first cs ds a can = record {
  of = All-first (IsOf a.store.shape) cs ds can.of;
  few = omega (arith, can.few, length-append cs ds);
  reads = omega (arith, can.reads, sum_by-append (reads_of a.store.shape.grid) cs ds);
}

-- the others, once as many as the first that read as much are added
pub can-after : (cs es ds : List Constraint) (a b : NetState AnyCtc) → CanAdd (cs ++ ds) a → IsAdded [] es a b → length cs ≡ length es → ((g : List ℕ) → reads_in g cs ≡ reads_in g es) → CanAdd ds b
can-after cs es ds a b can added size same_reads =
    let grid = a.store.shape.grid in
    let read : reads_in b.store.shape.grid (constraints_in b) ≡ reads_in grid (constraints_in a) + reads_in grid es =
    ap₂ reads_in (added-grid [] es a b added) (added-in [] es a b added) ∙ sum_by-append (reads_of grid) (constraints_in a) es in
    let same : reads_in b.store.shape.grid ds ≡ reads_in grid ds = ap (λ (g : List ℕ). reads_in g ds) (added-grid [] es a b added) in record {
      of = subst (λ (s : Shape). All (IsOf s) ds) (sym added.shape) (All-rest (IsOf a.store.shape) cs ds can.of);
      few = omega (arith, can.few, added-count [] es a b added, size, length-append cs ds);
      reads = omega (arith, can.reads, read, same, same_reads grid, sum_by-append (reads_of grid) cs ds);
    }

-- and the others, once the first are added
pub can-rest : (cs ds : List Constraint) (a b : NetState AnyCtc) → CanAdd (cs ++ ds) a → IsAdded [] cs a b → CanAdd ds b
can-rest cs ds a b can added = can-after cs cs ds a b can added refl (λ g. refl)

-- one more of a row
pub row-more : (f : ℕ → List Constraint) (i : ℕ) (a b c : NetState AnyCtc) → IsAdded [] (each_below f i) a b → IsAdded [] (f i) b c → IsAdded [] (each_below f (i + 1)) a c
row-more f i a b c p q =
    let next : suc i ≡ i + 1 = omega arith in
    subst (λ (n : ℕ). IsAdded [] (each_below f n) a c) next (added-then [] [] (each_below f i) (f i) a b c p q)

-- a part of a row, and what comes after it
record IsPart (f : ℕ → List Constraint) (k i : ℕ) : Type 0 where
  rest : List Constraint
  parts : each_below f k ≡ each_below f i ++ (f i ++ rest)

row-part : (f : ℕ → List Constraint) (k i : ℕ) → i < k → IsPart f k i
row-part f zero i l = absurd (omega (arith, l))
row-part f (suc k) i l =
    below_more (IsPart f (suc k)) k
    (λ j m.
    let p = row-part f k j m in record {
      rest = p.rest ++ f k;
      parts = ap (λ (l : List Constraint). l ++ f k) p.parts ∙ append_assoc (each_below f j) (f j ++ p.rest) (f k) ∙ ap (λ (l : List Constraint). each_below f j ++ l) (append_assoc (f j) p.rest (f k));
    })
    (record { rest = []; parts = ap (λ (l : List Constraint). each_below f k ++ l) (sym (append-nil (f k))) })
    i (omega (arith, l))

-- the next of a row
pub can-row : (f : ℕ → List Constraint) (more : List Constraint) (k i : ℕ) (a b : NetState AnyCtc) → i < k → CanAdd (each_below f k ++ more) a → IsAdded [] (each_below f i) a b → CanAdd (f i) b
can-row f more k i a b l can added =
    let p = row-part f k i l in
    let all : CanAdd (each_below f i ++ (f i ++ p.rest)) a = subst (λ (cs : List Constraint). CanAdd cs a) p.parts (can-first (each_below f k) more a can) in
    can-first (f i) p.rest b (can-rest (each_below f i) (f i ++ p.rest) a b all added)

pub can-all : (cs : List Constraint) (a : NetState AnyCtc) → CanAdd cs a → CanAdd (cs ++ []) a
can-all cs a can = subst (λ (l : List Constraint). CanAdd l a) (sym (append-nil cs)) can

-- ---- the cells of several signals or variables

-- a part takes no more cells than all
pub part-cells : (f : Span → Owner) (xs : List Span) (x : Span) (ys all : List Span) (a b : NetState AnyCtc) → all ≡ xs ++ x ∷ ys → (with_owners a.store.shape (map f all)).cells ≤ 2000000 → IsAdded (map f xs) [] a b → (with_owners b.store.shape (f x ∷ [])).cells ≤ 2000000
part-cells f xs x ys all a b e room added =
    let whole : map f all ≡ (map f xs ++ f x ∷ []) ++ map f ys = ap (map f) e ∙ map-append f xs (x ∷ ys) ∙ sym (append_assoc (map f xs) (f x ∷ []) (map f ys)) in
    let split = ap (λ (os : List Owner). (with_owners a.store.shape os).cells) whole ∙ ap (λ (s : Shape). s.cells) (with_owners-append (map f xs ++ f x ∷ []) (map f ys) a.store.shape) in
    let more = (owners-extend (map f ys) (with_owners a.store.shape (map f xs ++ f x ∷ []))).cells in
    let here : with_owners b.store.shape (f x ∷ []) ≡ with_owners a.store.shape (map f xs ++ f x ∷ []) = ap (λ (s : Shape). with_owners s (f x ∷ [])) added.shape ∙ sym (with_owners-append (map f xs) (f x ∷ []) a.store.shape) in
    omega (arith, room, split, more, ap (λ (s : Shape). s.cells) here)

-- one more of several signals or variables
pub cells-more : (f : Span → Owner) (ranges : List Span) (i : ℕ) (x : Span) (a b c : NetState AnyCtc) → i < length ranges → x ≡ get_or ranges i x → IsAdded (map f (take i ranges)) [] a b → IsAdded (f x ∷ []) [] b c → IsAdded (map f (take (i + 1) ranges)) [] a c
cells-more f ranges i x a b c l e p q =
    let longer : take (i + 1) ranges ≡ take i ranges ++ x ∷ [] = take_more ranges i x l ∙ ap (λ (y : Span). take i ranges ++ y ∷ []) (sym e) in
    subst (λ (os : List Owner). IsAdded os [] a c) (sym (ap (map f) longer ∙ map-append f (take i ranges) (x ∷ []))) (added-then (map f (take i ranges)) (f x ∷ []) [] [] a b c p q)

pub cells-room : (f : Span → Owner) (ranges : List Span) (i : ℕ) (x : Span) (a b : NetState AnyCtc) → i < length ranges → x ≡ get_or ranges i x → (with_owners a.store.shape (map f ranges)).cells ≤ 2000000 → IsAdded (map f (take i ranges)) [] a b
    → (with_owners b.store.shape (f x ∷ [])).cells ≤ 2000000
cells-room f ranges i x a b l e room p =
    let whole : ranges ≡ take i ranges ++ x ∷ drop (suc i) ranges = sym (take-append-drop i ranges) ∙ ap (λ (ys : List Span). take i ranges ++ ys) (drop-cons ranges i x l ∙ ap (λ (y : Span). y ∷ drop (suc i) ranges) (sym e)) in
    part-cells f (take i ranges) x (drop (suc i) ranges) ranges a b whole room p
