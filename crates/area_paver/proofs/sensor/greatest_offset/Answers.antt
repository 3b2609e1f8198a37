use Rattle.std.proofs.Common.{◌≡◌, ◌↔◌, ◌⊎◌, inl, inr, ℕ, ◌+◌, ◌*◌, ◌<◌, ◌≤◌, ℤ, pos, ◌+ℤ◌, ◌-ℤ◌, ◌*ℤ◌, ◌≤ℤ◌, List, Bool, true, length, arith, refl, sym, subst, ap, rules, w64, SFits, to_z, of_z, ◌∙◌}
use Rattle.std.proofs.lemmas.Int.{ints, clamps, to_z-of_z}
use Rattle.area_paver.proofs.Sight.{greatest-offset}
use Rattle.area_paver.proofs.sensor.greatest_offset.Goals as goal

pub returns : goal.returns
returns c = greatest-offset c.args.x c.args.p _ (omega (arith, ints, clamps))
