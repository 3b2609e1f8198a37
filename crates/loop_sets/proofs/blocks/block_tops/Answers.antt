use Rattle.std.proofs.Common.{◌≡◌, ◌++◌, ◌∷◌, [], ◌∙◌, ap, subst, sym, ℤ, arith, length, length-append}
use Rattle.loop_sets.specs.Tables.{AreSmall}
use Rattle.loop_sets.proofs.Tabling.{block-more, small-more, read-small}
use Rattle.loop_sets.proofs.Stepping.{length-step}
use Rattle.loop_sets.proofs.blocks.block_tops.Goals as goal

pub loop-i-preserved : goal.loop-i-preserved
loop-i-preserved c =
    let top = c.greatest.ensures in
    let was = c.loop-i.invariant in
    let all : c.push.new.self.items ≡ c.loop-i.tops.items ++ c.greatest.result ∷ [] = c.in_ok-push.ensures.items ∙ ap (λ (x : ℤ). c.loop-i.tops.items ++ x ∷ []) (read-small c.greatest.result top.small) in
    record {
      len = length-step c.loop-i.tops.items c.push.new.self.items c.greatest.result c.loop-i.i was.len all;
      over = block-more c.args.values.now c.loop-i.tops.items c.push.new.self.items c.loop-i.i _ c.greatest.result was.len was.over top c.min-end.ensures all;
      small = subst AreSmall (sym all) (small-more c.loop-i.tops.items c.greatest.result was.small top.small);
    }
