use Rattle.std.proofs.Common.{◌≡◌, ◌↔◌, ◌⊎◌, inl, inr, ℕ, ◌+◌, ◌*◌, ◌<◌, ◌≤◌, ℤ, pos, ◌+ℤ◌, ◌-ℤ◌, ◌*ℤ◌, ◌≤ℤ◌, List, arith, refl, sym, subst, ap, rules, ◌∙◌}
use Rattle.area_paver.specs.Runs.{IsMarkBy}
use Rattle.area_paver.proofs.Covering.{furthest-more, mark-is}
use Rattle.area_paver.proofs.Tables.{length-more, marks-more}
use Rattle.area_paver.proofs.runs.marks_of.Goals as goal

pub loop-c-preserved : goal.loop-c-preserved
loop-c-preserved c =
    let sure = furthest-more c.args.sure.now c.loop-c.c c.loop-c.sure_end c.furthest-sure_end.result c.loop-c.invariant.sure c.furthest-sure_end.ensures in
    let possible = furthest-more c.args.possible.now c.loop-c.c c.loop-c.possible_end c.furthest-possible_end.result c.loop-c.invariant.possible c.furthest-possible_end.ensures in
    record {
      len = length-more c.loop-c.marks.items _ c.mark-found.result c.loop-c.c c.loop-c.invariant.len c.in_ok-push.ensures.items;
      sure = sure;
      possible = possible;
      marks = marks-more (IsMarkBy c.args.sure.now c.args.possible.now) c.loop-c.marks.items _ c.mark-found.result c.loop-c.c c.loop-c.invariant.len c.in_ok-push.ensures.items c.loop-c.invariant.marks
          (subst (IsMarkBy c.args.sure.now c.args.possible.now c.loop-c.c) (sym c.mark-found.ensures) (mark-is c.args.sure.now c.args.possible.now c.loop-c.c c.furthest-sure_end.result c.furthest-possible_end.result sure possible));
    }
