use Rattle.std.proofs.Common.{◌≡◌, ℕ, ◌-◌, ◌^◌, ◌≤◌, rules, List, [], ◌∷◌, ◌++◌, Vec, Global, get_or, length, arith, ap, subst, sym, ◌∙◌}
use Rattle.hull_tree.specs.declared.hulls.Bounds.{Bounds}
use Rattle.hull_tree.specs.Levels.{AreLevels, IsHalved, levels_of}
use Rattle.hull_tree.proofs.Blocks.{levels-first, three-pushed, levels-length, levels-more, side-more, length-more}
use Rattle.hull_tree.proofs.ranges.RangeTree.new.Goals as goal

pub loop-side-init : goal.loop-side-init
loop-side-init c =
    let all : c.push-3.new.self.items ≡ c.new.result ∷ c.new-2.result ∷ c.in_ok-fours.field-0 ∷ [] =
    three-pushed c.new-levels.result.items c.push.new.self.items c.push-2.new.self.items c.push-3.new.self.items c.new.result c.new-2.result c.in_ok-fours.field-0 c.new-levels.ensures.items c.in_ok-push.ensures.items c.in_ok-push-2.ensures.items c.in_ok-push-3.ensures.items in
    record {
      levels = levels-first c.args.ticks.items c.deref.result.now c.push-3.new.self.items c.new.result c.new-2.result c.in_ok-fours.field-0 all c.in_ok-fours.ensures c.deref.ensures.value;
      side = ap (λ (k : ℕ). 2 ^ (k - 1)) (sym (ap length all));
      low = omega (arith, c.requires.some);
    }

pub loop-side-preserved : goal.loop-side-preserved
loop-side-preserved c =
    let all : c.push-in-loop-side.new.self.items ≡ c.loop-side.levels.items ++ c.in_ok-above.above ∷ [] = c.in_ok-push-4.ensures.items in
    let len : c.len-in-loop-side.result ≡ length c.loop-side.levels.items = search rules in
    let some : 1 ≤ length c.loop-side.levels.items = omega (arith, c.loop-side.invariant.levels.some, levels-length c.loop-side.levels.items) in
    record {
      levels = subst (λ (l : List (Vec Bounds Global)). AreLevels c.args.ticks.items (levels_of l)) (sym all)
          (levels-more c.args.ticks.items c.loop-side.levels.items c.in_ok-above.above c.index.result.now c.loop-side.invariant.levels
          (c.index.ensures ∙ ap (λ (n : ℕ). get_or c.loop-side.levels.items (n - 1) c.index.result.now) len)
          (subst (λ (row : List Bounds). IsHalved row c.in_ok-above.above.items) c.deref-in-loop-side.ensures.value c.in_ok-above.ensures));
      side = side-more c.loop-side.side (length c.loop-side.levels.items) (length c.push-in-loop-side.new.self.items) c.loop-side.invariant.side some (length-more c.loop-side.levels.items c.push-in-loop-side.new.self.items c.in_ok-above.above all);
      low = omega (arith, c.loop-side-test.true);
    }
