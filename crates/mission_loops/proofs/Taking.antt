-- The steps of queries, one after the other.
use Rattle.std.proofs.Common.{◌≡◌, ℕ, ◌+◌, ◌*◌, ◌≤◌, List, [], ◌∷◌, ◌++◌, Some, None, arith, sym, ap, subst, ◌∙◌, length, take, drop, append-nil}
use Rattle.std.specs.Prelude.{Option, IsSome, IfSome}
use Rattle.std.specs.List.{range_with_len}
use Rattle.std.proofs.lemmas.List.{length-map}
use Rattle.std.proofs.lemmas.List.FromFn.{length-range_with_len}
use Rattle.std.proofs.Math.Seq.{take-length}
use Rattle.tube_spec.specs.Span.{Span}
use Rattle.tube_spec.specs.Grid.{last_tick}
use Rattle.tube_spec.specs.Shape.{Shape}
use Rattle.tube_spec.specs.Tick.{at_tick}
use Rattle.hull_tree.specs.Plane.{Plane, plane_of}
use Rattle.hull_tree.specs.Judging.{judged}
use Rattle.tube_names.specs.declared.queries.Query.{Query}
use Rattle.tplane_paver.specs.Quartering.{mixed_below, IsRoot}
use Rattle.mission_items.specs.declared.item.Item.{Item}
use Rattle.mission_loops.specs.Queries.{query_of, queries}
use Rattle.mission_loops.proofs.Steps.{queries-more, queries-split}
use Rattle.mission_loops.specs.Cost.{paving_cost, queries_cost, TakesAtMost}

plane-length : (s : Shape) (xs : List Span) (q : Query) → length (plane_of s xs q).xs ≡ last_tick s.grid + 1
plane-length s xs q = length-map (range_with_len 0 (last_tick s.grid + 1)) (at_tick s xs q.x.0) ∙ length-range_with_len 0 (last_tick s.grid + 1)

-- the steps of the paver are those of its query
pub pave-takes : (s : Shape) (box : Option (List Span)) (q : Query) (tree : Plane) (before now : ℕ) → IsSome box → IfSome box (λ xs. tree ≡ plane_of s xs q)
    → ((d : ℕ) → IsRoot (length tree.xs) d → now ≤ before + (1 + 4 * mixed_below (judged tree) (length tree.xs) d 0 0)) → TakesAtMost s box (q ∷ []) before now
pave-takes s None q tree before now some is steps d root = absurd (cc some)
pave-takes s (Some xs) q tree before now some is steps d root =
    let len : length tree.xs ≡ last_tick s.grid + 1 = ap (λ (t : Plane). length t.xs) is ∙ plane-length s xs q in
    let bound = steps d (subst (λ (n : ℕ). IsRoot n d) (sym len) root) in
    let cost : paving_cost d tree ≡ paving_cost d (plane_of s xs q) = ap (paving_cost d) is in
    omega (arith, bound, cost)

-- none are taken
pub takes-none : (s : Shape) (box : Option (List Span)) (qs : List Query) (before now : ℕ) → now ≡ before → TakesAtMost s box qs before now
takes-none s box qs before now same d root = omega (arith, same)

cost-append : (d : ℕ) (s : Shape) (box : Option (List Span)) (ps rs : List Query) → queries_cost d s box (ps ++ rs) ≡ queries_cost d s box ps + queries_cost d s box rs
cost-append d s box [] rs = omega arith
cost-append d s box (q ∷ ps) rs = omega (arith, cost-append d s box ps rs)

-- those of some queries and then of others
pub takes-more : (s : Shape) (box : Option (List Span)) (ps rs : List Query) (before mid now : ℕ) → TakesAtMost s box ps before mid → TakesAtMost s box rs mid now → TakesAtMost s box (ps ++ rs) before now
takes-more s box ps rs before mid now first next d root = omega (arith, first d root, next d root, cost-append d s box ps rs)

-- those of some queries are no more than those of further ones
pub takes-within : (s : Shape) (box : Option (List Span)) (ps rs qs : List Query) (before now : ℕ) → qs ≡ ps ++ rs → TakesAtMost s box ps before now → TakesAtMost s box qs before now
takes-within s box ps rs qs before now split takes d root =
    omega (arith, takes d root, ap (queries_cost d s box) split, cost-append d s box ps rs)

-- ---- the records, one after the other

module _ (s : Shape) (box : Option (List Span)) (items : List Item) (i : ℕ) (before mid : ℕ) (cost : TakesAtMost s box (queries (take i items)) before mid) where
  -- all records
  pub cost-all : i ≡ length items → TakesAtMost s box (queries items) before mid
  cost-all end = subst (λ (l : List Item). TakesAtMost s box (queries l) before mid) (ap (λ (k : ℕ). take k items) end ∙ take-length items) cost

  module _ (x : Item) (longer : take (i + 1) items ≡ take i items ++ x ∷ []) where
    -- a record that is no query
    pub cost-past : query_of x ≡ [] → TakesAtMost s box (queries (take (i + 1) items)) before mid
    cost-past none =
        subst (λ (qs : List Query). TakesAtMost s box qs before mid)
        (sym (queries-more items i x longer ∙ (ap (λ (l : List Query). queries (take i items) ++ l) none ∙ append-nil (queries (take i items))))) cost

    module _ (q : Query) (asks : query_of x ≡ q ∷ []) (now : ℕ) (next : TakesAtMost s box (q ∷ []) mid now) where
      -- a query
      pub cost-next : TakesAtMost s box (queries (take (i + 1) items)) before now
      cost-next =
          subst (λ (qs : List Query). TakesAtMost s box qs before now) (sym (queries-more items i x longer ∙ ap (λ (l : List Query). queries (take i items) ++ l) asks))
          (takes-more s box (queries (take i items)) (q ∷ []) before mid now cost next)

      -- a query after which none is told
      pub cost-early : TakesAtMost s box (queries items) before now
      cost-early =
          takes-within s box (queries (take (i + 1) items)) (queries (drop (i + 1) items)) (queries items) before now
          (queries-split items i x longer ∙ ap (λ (l : List Query). l ++ queries (drop (i + 1) items)) (sym (queries-more items i x longer))) cost-next
