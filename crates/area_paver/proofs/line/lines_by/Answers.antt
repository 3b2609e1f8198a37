use Rattle.std.proofs.Common.{◌≡◌, ◌↔◌, ◌⊎◌, inl, inr, ℕ, ◌+◌, ◌*◌, ◌<◌, ◌≤◌, ℤ, pos, ◌+ℤ◌, ◌-ℤ◌, ◌*ℤ◌, ◌≤ℤ◌, List, Bool, true, length, arith, refl, sym, subst, ap, rules, w64, SFits, to_z, of_z, ◌∙◌}
use Rattle.area_paver.specs.Charts.{marks_of}
use Rattle.area_paver.proofs.Marking.{by-turned}
use Rattle.area_paver.proofs.line.lines_by.Goals as goal

pub returns-then-turned-clause-marks : goal.returns-then-turned-clause-marks
returns-then-turned-clause-marks c =
    by-turned (record { xs = c.args.xs.now; ys = c.args.ys.now; radius = c.args.sensor.radius; norm = c.args.sensor.norm }) c.args.columns c.args.rows c.args.turned (marks_of c.in_ok-made.made.items) c.if-turned.true c.requires.ticks c.in_ok-made.ensures.marks
