use Rattle.std.proofs.Common.{◌≡◌, ◌↔◌, ◌⊎◌, inl, inr, ℕ, ◌+◌, ◌*◌, ◌<◌, ◌≤◌, ℤ, pos, ◌+ℤ◌, ◌-ℤ◌, ◌*ℤ◌, ◌≤ℤ◌, List, Bool, true, length, arith, refl, sym, subst, ap, rules, w64, SFits, to_z, of_z, ◌∙◌}
use Rattle.std.proofs.lemmas.Int.{ints, clamps, to_z-of_z}
use Rattle.area_paver.proofs.Tables.{lines-more}
use Rattle.area_paver.proofs.Marking.{lines-mark}
use Rattle.area_paver.proofs.line.lines.Goals as goal

pub loop-i-preserved : goal.loop-i-preserved
loop-i-preserved c =
    let small : SFits w64 c.at.result = search rules in
    record {
      len = lines-more c.loop-i.lines.items _ c.in_ok-made.made c.loop-i.i c.args.axis.count c.loop-i.invariant.len c.in_ok-push.ensures.items c.in_ok-made.ensures.len;
      marks = lines-mark (record { xs = c.args.xs.now; ys = c.args.ys.now; radius = c.args.sensor.radius; norm = c.args.sensor.norm }) c.args.axis c.args.other c.loop-i.lines.items _ c.in_ok-made.made c.loop-i.i (to_z w64 (of_z w64 c.at.result))
          c.loop-i.invariant.len.count c.in_ok-push.ensures.items c.loop-i.invariant.marks (to_z-of_z w64 c.at.result small ∙ c.at.ensures.value) c.in_ok-made.ensures.marks;
    }
