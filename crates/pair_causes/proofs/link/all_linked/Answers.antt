use Rattle.std.proofs.Common.{ℕ, ◌+◌, refl, sym, ap, ◌∙◌}
use Rattle.std.specs.Prelude.{option_map}
use Rattle.pair_causes.specs.Links.{link_said}
use Rattle.pair_causes.proofs.Places.{first-unsaid}
use Rattle.pair_causes.proofs.link.all_linked.Goals as goal

pub returns-in_default : goal.returns-in_default
returns-in_default c =
    let said = link_said c.args.first.now c.args.second.now c.args.offset in (
      refl,
      ap (option_map (λ (n : ℕ). n + 1))
          (first-unsaid said c.args.links.now c.loop-i.all.items c.loop-i.i c.index-links-i.result c.loop-i-test.true c.loop-i.invariant (ap said (sym c.index-links-i.is) ∙ (sym c.said.ensures ∙ c.in_default.is))),
    )
