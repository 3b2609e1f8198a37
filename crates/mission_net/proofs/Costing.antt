-- The bound of settling, in the words of the records.
use Rattle.std.proofs.Common.{◌≡◌, ℕ, zero, suc, ◌+◌, ◌*◌, ◌-◌, ◌≤◌, Bool, true, false, cond, Option, Some, None, List, [], ◌∷◌, ◌++◌, All, IsSome, arith, refl, sym, ap, ap₂, ◌∙◌, flat_map, length, take, drop, replicate, count_by, zero-add}
use Rattle.std.specs.Prelude.{IsFalse}
use Rattle.std.proofs.Math.Nat.{mul-le-mul_left}
use Rattle.std.proofs.lemmas.List.Elements.{All-head, All-tail}
use Rattle.std.proofs.lemmas.List.Sums.{sum_by-cons, sum_by-append}
use Rattle.tube_spec.specs.Span.{Span, width_of}
use Rattle.tube_spec.specs.Shape.{Shape}
use Rattle.tube_spec.specs.Box.{box_more}
use Rattle.cell_readers.specs.Costs.{weighted, lost_widths, lost_cost}
use Rattle.ctc_network.specs.Nets.{NetState, of_place, reads_by, readers_of}
use Rattle.any_ctc.specs.Constraints.{Constraint, constraint_scope}
use Rattle.any_ctc.specs.declared.AnyCtc.{AnyCtc}
use Rattle.any_ctc.specs.Contractors.{constraint_of, any_scope}
use Rattle.mission_items.specs.declared.item.Item.{Item}
use Rattle.mission_net.specs.Records.{constraints_from, contracts_from}
use Rattle.mission_net.specs.Building.{stands_for, IsNetOf}
use Rattle.mission_net.specs.Costs.{readers_in, section_cost}
use Rattle.mission_net.proofs.Numbers.{net-contracts}
use Rattle.mission_net.proofs.Contracts.{contract-count, contract-readers}

-- nobody of these waits
none-wait : (ws : List Bool) → All IsFalse ws → count_by (λ (w : Bool). w) ws ≡ 0
none-wait [] h = refl
none-wait (false ∷ ws) h = omega (arith, sum_by-cons (λ (b : Bool). cond b 1 0) false ws, none-wait ws (All-tail IsFalse false ws h))
none-wait (true ∷ ws) h = let e = All-head IsFalse true ws h in absurd (cc e)

-- all of these wait
all-wait : (n : ℕ) → count_by (λ (w : Bool). w) (replicate n true) ≡ n
all-wait zero = refl
all-wait (suc n) = omega (arith, sum_by-cons (λ (b : Bool). cond b 1 0) true (replicate n true), all-wait n)

-- those wait that were added
pub added-wait : (ws : List Bool) (n : ℕ) → All IsFalse ws → count_by (λ (w : Bool). w) (ws ++ replicate n true) ≡ n
added-wait ws n h = omega (arith, sum_by-append (λ (b : Bool). cond b 1 0) ws (replicate n true), none-wait ws h, all-wait n)

-- the contractors that read a cell are the constraints that do
readers-by : (s : Shape) (cs : List (Option AnyCtc)) (cell : ℕ) → readers_of (of_place any_scope) s cs cell ≡ readers_of (λ (d : Constraint) (t : Shape). constraint_scope t d) s (flat_map stands_for cs) cell
readers-by s [] cell = refl
readers-by s (None ∷ cs) cell = sum_by-cons (λ (d : Option AnyCtc). cond (reads_by (of_place any_scope) s d cell) 1 0) None cs ∙ (zero-add (readers_of (of_place any_scope) s cs cell) ∙ readers-by s cs cell)
readers-by s (Some c ∷ cs) cell =
    sum_by-cons (λ (d : Option AnyCtc). cond (reads_by (of_place any_scope) s d cell) 1 0) (Some c) cs ∙ ap (λ (n : ℕ). cond (reads_by any_scope s c cell) 1 0 + n) (readers-by s cs cell)
    ∙ sym (sum_by-cons (λ (d : Constraint). cond (reads_by (λ (e : Constraint) (t : Shape). constraint_scope t e) s d cell) 1 0) (constraint_of c) (flat_map stands_for cs))

pub net-readers : (grid : List ℕ) (items : List Item) (net : NetState AnyCtc) → 1 ≤ length grid - 1 → IsNetOf grid items net → (cell : ℕ) → readers_of (of_place any_scope) net.store.shape net.contractors cell ≤ readers_in grid items cell
net-readers grid items net some holds cell =
    let all = readers-by net.store.shape net.contractors cell
    ∙ ap₂ (λ (s : Shape) (cs : List Constraint). readers_of (λ (d : Constraint) (t : Shape). constraint_scope t d) s cs cell) holds.shape (net-contracts grid items net holds) in
    omega (arith, all, contract-readers grid items cell some)

sum-less : (w a b m n : ℕ) → a ≤ b → m ≤ n → w * (1 + a) + m ≤ w * (1 + b) + n
sum-less w a b m n h k = let p : w * (1 + a) ≤ w * (1 + b) = mul-le-mul_left w (omega (arith, h)) in omega (arith, p, k)

-- fewer readers give no more cost
weighted-less : (r t : ℕ → ℕ) → ((k : ℕ) → r k ≤ t k) → (xs : List Span) → weighted r xs ≤ weighted t xs
weighted-less r t e [] = omega arith
weighted-less r t e (x ∷ xs) = sum-less (width_of x) (r 0) (t 0) (weighted (λ k. r (suc k)) xs) (weighted (λ k. t (suc k)) xs) (e 0) (weighted-less (λ k. r (suc k)) (λ k. t (suc k)) (λ k. e (suc k)) xs)

lost-less : (r t : ℕ → ℕ) → ((k : ℕ) → r k ≤ t k) → (xs ys : List Span) → lost_widths r xs ys ≤ lost_widths t xs ys
lost-less r t e [] ys = omega arith
lost-less r t e (x ∷ xs) [] = omega arith
lost-less r t e (x ∷ xs) (y ∷ ys) =
    sum-less (width_of x - width_of y) (r 0) (t 0) (lost_widths (λ k. r (suc k)) xs ys) (lost_widths (λ k. t (suc k)) xs ys) (e 0) (lost-less (λ k. r (suc k)) (λ k. t (suc k)) (λ k. e (suc k)) xs ys)

cost-less : (r t : ℕ → ℕ) → ((k : ℕ) → r k ≤ t k) → (old new : Option (List Span)) → lost_cost r old new ≤ lost_cost t old new
cost-less r t e None new = omega arith
cost-less r t e (Some xs) None = weighted-less r t e xs
cost-less r t e (Some xs) (Some ys) = lost-less r t e xs ys

-- the cost of a section whose start is not empty
pub started-cost : (grid : List ℕ) (items : List Item) (first upto : ℕ) (start box : Option (List Span)) → IsSome start
    → section_cost grid items first upto start box ≡ length (constraints_from grid (take first items) (drop first (take upto items))) + lost_cost (readers_in grid (take upto items)) start box
started-cost grid items first upto None box h = absurd (cc h)
started-cost grid items first upto (Some xs) box h = refl

more-some : (b : Option (List Span)) (more : List Span) → IsSome b → IsSome (box_more b more)
more-some None more h = absurd (cc h)
more-some (Some xs) more h = refl

-- what settling the built net takes is at most the cost of the section
pub section-bound : (grid : List ℕ) (items : List Item) (first upto : ℕ) (box : Option (List Span)) (more : List Span) (built : NetState AnyCtc) (new : Option (List Span)) (ws : List Bool) (before now : ℕ)
    → 1 ≤ length grid - 1 → IsNetOf grid (take upto items) built → built.store.box ≡ box_more box more
    → built.waiting ≡ ws ++ replicate (length (contracts_from grid (take first items) (drop first (take upto items)))) true → (IsSome box → All IsFalse ws)
    → ((box ≡ None) → now ≡ before) → now ≤ before + count_by (λ (w : Bool). w) built.waiting + lost_cost (readers_of (of_place any_scope) built.store.shape built.contractors) built.store.box new
    → now ≤ before + section_cost grid items first upto (box_more box more) new
section-bound grid items first upto None more built new ws before now some holds at waiting rest still bound = omega (arith, still refl)
section-bound grid items first upto (Some xs) more built new ws before now some holds at waiting rest still bound =
    let added = length (contracts_from grid (take first items) (drop first (take upto items))) in
    let start = box_more (Some xs) more in
    let wait : count_by (λ (w : Bool). w) built.waiting ≡ added = ap (λ (l : List Bool). count_by (λ (w : Bool). w) l) waiting ∙ added-wait ws added (rest refl) in
    let few = contract-count grid (drop first (take upto items)) (take first items) some in
    let lost : lost_cost (readers_of (of_place any_scope) built.store.shape built.contractors) built.store.box new ≤ lost_cost (readers_in grid (take upto items)) built.store.box new =
    cost-less (readers_of (of_place any_scope) built.store.shape built.contractors) (readers_in grid (take upto items)) (net-readers grid (take upto items) built some holds) built.store.box new in
    let there = ap (λ (b : Option (List Span)). lost_cost (readers_in grid (take upto items)) b new) at in
    let cost = started-cost grid items first upto start new (more-some (Some xs) more refl) in
    omega (arith, bound, wait, few, lost, there, cost)
