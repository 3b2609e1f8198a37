-- A block of gates: what is kept of each, and that its firing is theirs.
use Rattle.slice_gates.specs.Near.{first_of, gates_of, near_of}
use Rattle.ctc_eval.specs.Held.{IsFound}
use Rattle.slice_gates.specs.declared.near.Near.{Near}
use Rattle.tube_spec.specs.Grid.{last_tick}
use Rattle.ctc_eval.specs.Clock.{cells_of, only_in}
use Rattle.std.specs.List.{range_with_len}
use Rattle.std.proofs.Common.{replicate, ◌≡◌, ℕ, zero, suc, refl, ◌+◌, ◌<◌, ◌≤◌, ◌⊎◌, inl, inr, Option, Some, None, IfSome, List, arith, sym, subst, length, slice_index_or, map, ap, ◌∙◌, ◌∷◌, ◌++◌, ◌-◌}
use Rattle.tube_spec.specs.Span.{Span}
use Rattle.tube_spec.specs.Narrowing.{narrowing_of}
use Rattle.tube_spec.specs.Shape.{Shape, gate_cell}
use Rattle.tube_spec.specs.Hull.{IsWithinOption}
use Rattle.tube_spec.specs.Projection.{Projection}
use Rattle.ctc_core.specs.Given.{projection_at, no_projection}
use Rattle.ctc_core.proofs.Fixing.{Fixes}
use Rattle.std.proofs.lemmas.List.{map-append, append-nil}
use Rattle.std.proofs.lemmas.List.FromFn.{length-map-range_with_len, get_or-map-range_with_len, length-range_with_len}
use Rattle.slice_gates.specs.declared.clock.Ticks.{Ticks}
use Rattle.ctc_eval.specs.declared.block.Block.{Block}
use Rattle.ctc_eval.specs.Blocks.{kept_projection, block_projections}
use Rattle.ctc_eval.specs.Evals.{shared_at, reached_from, value_projection, time_projection, gate_projection, reached_projection, eval_projections}
use Rattle.ctc_eval.specs.Walks.{IsFromBefore, IsFromOn}
use Rattle.ctc_eval.proofs.Hulls.{hull-first, only-outside}
use Rattle.ctc_eval.proofs.Stretches.{shared-here}

-- ---- no tick of the time lies after a tick, or before it

nothing-at : (o t : Option Span) → o ≡ None → IsWithinOption o t
nothing-at o t e = subst (λ (p : Option Span). IsWithinOption p t) (sym e) tt

pub only-there : (s : Shape) (x v z : ℕ) (xs : List Span) (ticks : Ticks) (tick : ℕ) (here : Option Span) → tick ≤ last_tick s.grid → ticks.last ≤ tick → here ≡ only_in ticks (shared_at s x z xs) tick → IsFromOn s x v z xs ticks tick here
only-there s x v z xs ticks tick here l h e =
    subst (IsFromOn s x v z xs ticks tick) (sym (e ∙ shared-here s x v z xs ticks tick))
    (hull-first (only_in ticks (reached_from s x v z tick xs)) tick (last_tick s.grid + 1) None (omega (arith, l)) (record {
      holds = λ k p q. nothing-at _ None (only-outside ticks (reached_from s x v z tick xs) k (inr (omega (arith, p, h))));
      least = λ t all. tt;
    }))

pub nothing-before : (s : Shape) (x v z : ℕ) (xs : List Span) (ticks : Ticks) (tick : ℕ) → tick ≤ ticks.first → IsFromBefore s x v z xs ticks tick None
nothing-before s x v z xs ticks tick h = record {
  holds = λ k p q. nothing-at _ None (only-outside ticks (reached_from s x v z tick xs) k (inl (omega (arith, q, h))));
  least = λ t all. tt;
}

-- ---- the projections of a block, by number

pub kept-below : (s : Shape) (b : Block) (i : ℕ) → i < length (block_projections s b) → i < b.count
kept-below s b i l = omega (arith, l, length-map-range_with_len (kept_projection s b) 0 b.count)

pub kept-at : (s : Shape) (b : Block) (i : ℕ) → i < length (block_projections s b) → projection_at (block_projections s b) i ≡ kept_projection s b i
kept-at s b i l = get_or-map-range_with_len (kept_projection s b) 0 b.count i i no_projection (kept-below s b i l) (omega arith)

-- nothing everywhere
abbrev pub nothing : Option Span
nothing = None

pub none-each : (n k : ℕ) → slice_index_or (replicate n nothing) k None ≡ None
none-each zero k = refl
none-each (suc n) zero = refl
none-each (suc n) (suc k) = none-each n k

pub same-or-other : (j k : ℕ) → j ≤ k → (j ≡ k) ⊎ (j < k)
same-or-other j k h = grind arith

pub below-or-same : (k j : ℕ) → k < j + 1 → (k < j) ⊎ (j ≡ k)
below-or-same k j h = grind arith

-- what is kept of a block gives, whatever the box, what the formulas give of this one
pub block-fixes : (s : Shape) (b : Block) (p : ℕ → Projection) (box : Option (List Span)) → ((j : ℕ) → (p (b.first + j)).target ≡ gate_cell s b.x.0 (b.first + j))
    → ((j : ℕ) → j < b.count → narrowing_of (slice_index_or b.hulls j None) ≡ (p (b.first + j)).formula (cells_of box)) → IfSome box (λ xs. Fixes xs (map p (range_with_len b.first b.count)) (block_projections s b))
block-fixes s b p None targets formulas = tt
block-fixes s b p (Some xs) targets formulas =
    let size = length-map-range_with_len p b.first b.count in
    let at = λ (k : ℕ) (d : Projection) (l : k < length (map p (range_with_len b.first b.count))). get_or-map-range_with_len p b.first b.count k (b.first + k) d (omega (arith, l, size)) refl in
    let kept = λ (k : ℕ) (d : Projection) (l : k < length (map p (range_with_len b.first b.count))). get_or-map-range_with_len (kept_projection s b) 0 b.count k k d (omega (arith, l, size)) (omega arith) in
    record {
      len = size ∙ sym (length-map-range_with_len (kept_projection s b) 0 b.count);
      target = λ k d l. ap (λ (q : Projection). q.target) (at k d l) ∙ targets k ∙ sym (ap (λ (q : Projection). q.target) (kept k d l));
      formula = λ k d ys l. ap (λ (q : Projection). q.formula ys) (kept k d l) ∙ formulas k (omega (arith, l, size)) ∙ sym (ap (λ (q : Projection). q.formula xs) (at k d l));
    }

-- ---- the gates of the slices, one after another

pub gates-range : (near : Option Near) → gates_of near ≡ range_with_len (first_of near) (length (gates_of near))
gates-range None = refl
gates-range (Some n) = sym (ap (range_with_len n.first) (length-range_with_len n.first (n.last + 2 - n.first)))

pub gates-inside : (grid : List ℕ) (range : Span) (near : Option Near) → IsFound grid range near → first_of near + length (gates_of near) ≤ length grid
gates-inside grid range None is = omega arith
gates-inside grid range (Some n) is = omega (arith, length-range_with_len n.first (n.last + 2 - n.first), is.order, is.among)

range-append : (a m n : ℕ) → range_with_len a (m + n) ≡ range_with_len a m ++ range_with_len (a + m) n
range-append a zero n =
    let e : 0 + n ≡ n = omega arith in
    let d : a ≡ a + 0 = omega arith in
    ap (range_with_len a) e ∙ ap (λ (b : ℕ). range_with_len b n) d
range-append a (suc m) n =
    let e : suc m + n ≡ suc (m + n) = omega arith in
    let d : a + 1 + m ≡ a + suc m = omega arith in
    ap (range_with_len a) e ∙ ap (λ (l : List ℕ). a ∷ l) (range-append (a + 1) m n ∙ ap (λ (b : ℕ). range_with_len (a + 1) m ++ range_with_len b n) d)

pub map-range-append : (p : ℕ → Projection) (a m n : ℕ) → map p (range_with_len a (m + n)) ≡ map p (range_with_len a m) ++ map p (range_with_len (a + m) n)
map-range-append p a m n = ap (map p) (range-append a m n) ∙ map-append p (range_with_len a m) (range_with_len (a + m) n)

-- the projections with a rate are those without it and then those of the gates by the rate
pub alone-then : (s : Shape) (x v t z : ℕ) (declared : Span) → eval_projections s x None t z declared ++ map (reached_projection s x v t z declared) (gates_of (near_of s.grid declared)) ≡ eval_projections s x (Some v) t z declared
alone-then s x v t z declared =
    let gates : List Projection = map (gate_projection s x t z declared) (gates_of (near_of s.grid declared)) in
    let more : List Projection = map (reached_projection s x v t z declared) (gates_of (near_of s.grid declared)) in
    ap (λ (l : List Projection). value_projection s x t z declared ∷ time_projection s x t z declared ∷ (l ++ more)) (append-nil gates)
