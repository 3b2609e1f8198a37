-- The ends of a run.
use Rattle.std.proofs.Common.{◌≡◌, ℕ, ◌+◌, ◌<◌, ◌≤◌, Option, List, Bool, IsSome, IsNone, arith, sym, subst, count_by}
use Rattle.tube_spec.specs.Span.{Span}
use Rattle.tube_spec.specs.Shape.{Shape}
use Rattle.tube_spec.specs.Box.{IsBelowBox}
use Rattle.tube_store.specs.State.{State}
use Rattle.ctc_core.specs.Answers.{MatchRevised}
use Rattle.ctc_core.specs.declared.Revised.{Revised}
use Rattle.cell_readers.specs.Costs.{weighted_box, potential, lost_cost}
use Rattle.cell_readers.proofs.Weights.{lost-left_box}
use Rattle.ctc_network.specs.Nets.{Places, readers_of}

-- Steps and potential together never rose, and after that each further step let one rest.
pub run-ends : (r : ℕ → ℕ) (start now last : ℕ) (before after : List Bool) (old new : Option (List Span)) → IsBelowBox new old
    → now + potential r after new ≤ start + potential r before old → last ≤ now + count_by (λ w. w) after → last ≤ start + count_by (λ w. w) before + lost_cost r old new
run-ends r start now last before after old new low h l =
    sums start now last (count_by (λ w. w) before) (count_by (λ w. w) after) (weighted_box r old) (weighted_box r new) (lost_cost r old new) h l (lost-left_box r new old low)
  where
    sums : (s n t b a x y l : ℕ) → n + (a + y) ≤ s + (b + x) → t ≤ n + a → y + l ≡ x → t ≤ s + b + l
    sums s n t b a x y l p q e = omega arith

-- the same, where the last store is the one before
pub seek-ends : (r : ℕ → ℕ) (start now last : ℕ) (before after : List Bool) (old m d : State) → m ≡ d → IsBelowBox d.box old.box
    → now + potential r after d.box ≤ start + potential r before old.box → last ≤ now + count_by (λ w. w) after → last ≤ start + count_by (λ w. w) before + lost_cost r old.box m.box
seek-ends r start now last before after old m d e low h l =
    subst (λ (s : State). last ≤ start + count_by (λ w. w) before + lost_cost r old.box s.box) (sym e) (run-ends r start now last before after old.box d.box low h l)

-- one step more, of a net that has the contractors and the shape of the first
pub run-more : {C : Type 0} (scope : C → Shape → List ℕ) (first n m : Places C) (start now last : ℕ) → n.contractors ≡ first.contractors → n.store.shape ≡ first.store.shape
    → potential (readers_of scope n.store.shape n.contractors) m.waiting m.store.box + 1 ≤ potential (readers_of scope n.store.shape n.contractors) n.waiting n.store.box
    → now + potential (readers_of scope first.store.shape first.contractors) n.waiting n.store.box ≤ start + potential (readers_of scope first.store.shape first.contractors) first.waiting first.store.box
    → last ≡ now + 1
    → last + potential (readers_of scope first.store.shape first.contractors) m.waiting m.store.box ≤ start + potential (readers_of scope first.store.shape first.contractors) first.waiting first.store.box
run-more {C} scope first n m start now last same shape falls h e =
    sums (potential (readers_of scope first.store.shape first.contractors) m.waiting m.store.box) (potential (readers_of scope first.store.shape first.contractors) n.waiting n.store.box)
    (potential (readers_of scope first.store.shape first.contractors) first.waiting first.store.box) start now last there h e
  where
    there : potential (readers_of scope first.store.shape first.contractors) m.waiting m.store.box + 1 ≤ potential (readers_of scope first.store.shape first.contractors) n.waiting n.store.box
    there = subst (λ (s : Shape). potential (readers_of scope s first.contractors) m.waiting m.store.box + 1 ≤ potential (readers_of scope s first.contractors) n.waiting n.store.box) shape
        (subst (λ (cs : List C). potential (readers_of scope n.store.shape cs) m.waiting m.store.box + 1 ≤ potential (readers_of scope n.store.shape cs) n.waiting n.store.box) same falls)

    sums : (p q f s n t : ℕ) → p + 1 ≤ q → n + q ≤ s + f → t ≡ n + 1 → t + p ≤ s + f
    sums p q f s n t a b e = omega arith

-- the potential of a net that has the contractors and the shape of the first has fallen
pub run-falls : {C : Type 0} (scope : C → Shape → List ℕ) (first n m : Places C) → n.contractors ≡ first.contractors → n.store.shape ≡ first.store.shape
    → potential (readers_of scope n.store.shape n.contractors) m.waiting m.store.box + 1 ≤ potential (readers_of scope n.store.shape n.contractors) n.waiting n.store.box
    → potential (readers_of scope first.store.shape first.contractors) m.waiting m.store.box < potential (readers_of scope first.store.shape first.contractors) n.waiting n.store.box
run-falls {C} scope first n m same shape falls =
    subst (λ (s : Shape). potential (readers_of scope s first.contractors) m.waiting m.store.box < potential (readers_of scope s first.contractors) n.waiting n.store.box) shape
    (subst (λ (cs : List C). potential (readers_of scope n.store.shape cs) m.waiting m.store.box < potential (readers_of scope n.store.shape cs) n.waiting n.store.box) same
    (less (potential (readers_of scope n.store.shape n.contractors) m.waiting m.store.box) (potential (readers_of scope n.store.shape n.contractors) n.waiting n.store.box) falls))
  where
    less : (p q : ℕ) → p + 1 ≤ q → p < q
    less p q h = omega (arith, h)

-- what an answer says of the box, once it is known
pub says-at : (b : Option (List Span)) (x y : Revised) → x ≡ y → MatchRevised x (IsSome b) (IsSome b) (IsNone b) → MatchRevised y (IsSome b) (IsSome b) (IsNone b)
says-at b x y e h = subst (λ (z : Revised). MatchRevised z (IsSome b) (IsSome b) (IsNone b)) e h
