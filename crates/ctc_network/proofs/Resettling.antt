-- Turns: settling again after a budget was spent.
use Rattle.std.proofs.Common.{◌≡◌, ℕ, ◌+◌, ◌*◌, ◌≤◌, Option, Some, None, List, IsSome, IsNone, length, flat_map, arith, ap, ◌∙◌, subst, count_by}
use Rattle.std.proofs.Math.Nat.{add-mul}
use Rattle.std.proofs.lemmas.List.Sums.{count_by-le-length}
use Rattle.tube_spec.specs.Span.{Span}
use Rattle.tube_spec.specs.Shape.{Shape}
use Rattle.tube_spec.specs.Box.{IsBelowBox}
use Rattle.tube_spec.specs.Projection.{Projection}
use Rattle.tube_spec.specs.Fixpoint.{IsGreatest, KeepsFixpoints}
use Rattle.tube_spec.proofs.Boxes.{IsBelowBox-trans}
use Rattle.tube_store.specs.State.{State}
use Rattle.cell_readers.specs.Costs.{lost_cost}
use Rattle.cell_readers.proofs.Weights.{lost-left_box}
use Rattle.ctc_network.specs.Nets.{Places, readers_of}
use Rattle.ctc_network.specs.Settling.{SettlesAs}
use Rattle.ctc_network.specs.declared.answers.CtcId.{CtcId}
use Rattle.ctc_network.specs.declared.answers.Settled.{Settled}
use Rattle.ctc_network.specs.declared.answers.Settled.TheVariants.{Fixpoint, Empty, Spent}
use Rattle.ctc_network.proofs.Runs.{narrowed-trans}

-- The greatest fixpoint below a box that lost none is the greatest below the box before.
greatest-later : (ps : List Projection) (old mid new : Option (List Span)) → IsBelowBox mid old → KeepsFixpoints ps old mid → IsGreatest ps mid new → IsGreatest ps old new
greatest-later ps old mid None low keeps g = λ q fix b. g q fix (keeps q fix b)
greatest-later ps old mid (Some r) low keeps g = (g.0, IsBelowBox-trans (Some r) mid old g.1 low, λ q fix b. g.2 q fix (keeps q fix b))

-- settling goes on after a turn that was spent
pub then-turn : {C : Type 0} (f : C → List Projection) (cs : List C) (sum budget : ℕ) (old mid new : State) (id : CtcId) (x : Settled)
    → SettlesAs f cs sum old mid (Spent id) → SettlesAs f cs budget mid new x → SettlesAs f cs (sum + budget) old new x
then-turn f cs sum budget old mid new id Fixpoint h g = (g.0, greatest-later (flat_map f cs) old.box mid.box new.box h.0.below h.0.keeps g.1)
then-turn f cs sum budget old mid new id Empty h g = (g.0, greatest-later (flat_map f cs) old.box mid.box new.box h.0.below h.0.keeps g.1)
then-turn f cs sum budget old mid new id (Spent k) h g = (narrowed-trans (flat_map f cs) old mid new h.0 g.0, omega (arith, h.1, g.1), g.2)

-- an answer that is not spent asks for no budget
pub fixpoint-of : {C : Type 0} (f : C → List Projection) (cs : List C) (b d : ℕ) (old new : State) (x : Settled) → x ≡ Fixpoint → SettlesAs f cs b old new x → SettlesAs f cs d old new Fixpoint
fixpoint-of f cs b d old new Fixpoint e h = h
fixpoint-of f cs b d old new Empty e h = absurd (cc)
fixpoint-of f cs b d old new (Spent id) e h = absurd (cc)

pub empty-of : {C : Type 0} (f : C → List Projection) (cs : List C) (b d : ℕ) (old new : State) (x : Settled) → x ≡ Empty → SettlesAs f cs b old new x → SettlesAs f cs d old new Empty
empty-of f cs b d old new Fixpoint e h = absurd (cc)
empty-of f cs b d old new Empty e h = h
empty-of f cs b d old new (Spent id) e h = absurd (cc)

-- whatever the answer is, the box lies below the box before
pub settles-below : {C : Type 0} (f : C → List Projection) (cs : List C) (b : ℕ) (old new : State) (x : Settled) → SettlesAs f cs b old new x → IsBelowBox new.box old.box
settles-below f cs b old new Fixpoint h = some-below (flat_map f cs) old.box new.box h.0 h.1
  where
    some-below : (ps : List Projection) (a r : Option (List Span)) → IsSome r → IsGreatest ps a r → IsBelowBox r a
    some-below ps a None some g = absurd (cc)
    some-below ps a (Some xs) some g = g.1
settles-below f cs b old new Empty h = none-below old.box new.box h.0
  where
    none-below : (a r : Option (List Span)) → IsNone r → IsBelowBox r a
    none-below a None none = cc
    none-below a (Some xs) none = absurd (cc)
settles-below f cs b old new (Spent id) h = h.0.below

-- what two turns lost is what both lost together
pub lost-then : (r : ℕ → ℕ) (old mid new : Option (List Span)) → IsBelowBox mid old → IsBelowBox new mid → lost_cost r old mid + lost_cost r mid new ≡ lost_cost r old new
lost-then r old mid new low lower =
    omega (arith, lost-left_box r mid old low, lost-left_box r new mid lower, lost-left_box r new old (IsBelowBox-trans new mid old lower low))

-- no answer is both empty and spent
pub empty-or-spent : (x : Settled) (id : CtcId) → x ≡ Empty → x ≡ Spent id → ⊥
empty-or-spent Fixpoint id e s = absurd (cc)
empty-or-spent Empty id e s = absurd (cc)
empty-or-spent (Spent k) id e s = absurd (cc)

-- one turn more, of a net that has the contractors and the shape of the first
pub next-turn : {C : Type 0} (projections : C → Shape → List Projection) (old mid new : Places C) (turn budget : ℕ) (id : CtcId) (a x : Settled)
    → mid.contractors ≡ old.contractors → mid.store.shape ≡ old.store.shape → a ≡ Spent id
    → SettlesAs (λ c. projections c old.store.shape) old.contractors (turn * budget) old.store mid.store a
    → SettlesAs (λ c. projections c mid.store.shape) mid.contractors budget mid.store new.store x
    → SettlesAs (λ c. projections c old.store.shape) old.contractors ((turn + 1) * budget) old.store new.store x
next-turn {C} projections old mid new turn budget id a x same shape e h g =
    subst (λ (n : ℕ). SettlesAs (λ c. projections c old.store.shape) old.contractors n old.store new.store x) sum
    (then-turn (λ c. projections c old.store.shape) old.contractors (turn * budget) budget old.store mid.store new.store id x
    (subst (λ (y : Settled). SettlesAs (λ c. projections c old.store.shape) old.contractors (turn * budget) old.store mid.store y) e h)
    (subst (λ (s : Shape). SettlesAs (λ c. projections c s) old.contractors budget mid.store new.store x) shape
    (subst (λ (cs : List C). SettlesAs (λ c. projections c mid.store.shape) cs budget mid.store new.store x) same g)))
  where
    sum : turn * budget + budget ≡ (turn + 1) * budget
    sum = omega (arith, add-mul turn 1 budget)

-- the steps of one turn more
pub next-bound : {C : Type 0} (scope : C → Shape → List ℕ) (old mid new : Places C) (turn start now last : ℕ)
    → mid.contractors ≡ old.contractors → mid.store.shape ≡ old.store.shape → length mid.waiting ≡ length mid.contractors
    → IsBelowBox mid.store.box old.store.box → IsBelowBox new.store.box mid.store.box
    → now ≤ start + turn * length old.contractors + lost_cost (readers_of scope old.store.shape old.contractors) old.store.box mid.store.box
    → last ≤ now + count_by (λ w. w) mid.waiting + lost_cost (readers_of scope mid.store.shape mid.contractors) mid.store.box new.store.box
    → last ≤ start + (turn + 1) * length old.contractors + lost_cost (readers_of scope old.store.shape old.contractors) old.store.box new.store.box
next-bound {C} scope old mid new turn start now last same shape beside low lower h g =
    sums start now last turn (length old.contractors) (count_by (λ w. w) mid.waiting) (length mid.waiting)
    (lost_cost (readers_of scope old.store.shape old.contractors) old.store.box mid.store.box) (lost_cost (readers_of scope old.store.shape old.contractors) mid.store.box new.store.box)
    (lost_cost (readers_of scope old.store.shape old.contractors) old.store.box new.store.box) h there (count_by-le-length (λ w. w) mid.waiting) (beside ∙ ap length same)
    (lost-then (readers_of scope old.store.shape old.contractors) old.store.box mid.store.box new.store.box low lower)
  where
    there : last ≤ now + count_by (λ w. w) mid.waiting + lost_cost (readers_of scope old.store.shape old.contractors) mid.store.box new.store.box
    there = subst (λ (s : Shape). last ≤ now + count_by (λ w. w) mid.waiting + lost_cost (readers_of scope s old.contractors) mid.store.box new.store.box) shape
        (subst (λ (cs : List C). last ≤ now + count_by (λ w. w) mid.waiting + lost_cost (readers_of scope mid.store.shape cs) mid.store.box new.store.box) same g)

    plain : (s n t m o c w v a b l : ℕ) → n ≤ s + m + a → t ≤ n + w + b → w ≤ v → v ≡ c → a + b ≡ l → o ≡ m + c → t ≤ s + o + l
    plain s n t m o c w v a b l p q r e f g = omega arith

    sums : (s n t k c w v a b l : ℕ) → n ≤ s + k * c + a → t ≤ n + w + b → w ≤ v → v ≡ c → a + b ≡ l → t ≤ s + (k + 1) * c + l
    sums s n t k c w v a b l p q r e f = plain s n t (k * c) ((k + 1) * c) c w v a b l p q r e f (omega (arith, add-mul k 1 c))
