use Rattle.std.proofs.Common.{◌≡◌, ◌∷◌, ◌++◌, [], ◌≤◌, sym, subst, arith, Ok, true}
use Rattle.std.specs.List.{list_all}
use Rattle.std.proofs.lemmas.Grind.{common_steps}
use Rattle.mission_items.specs.Made.{has_head}
use Rattle.mission_items.specs.Valid.{may_precede_cut}
use Rattle.mission_items.specs.declared.item.Item.TheVariants as item
use Rattle.mission_items.specs.declared.mission.Mission.{Mission}
use Rattle.log_draft.specs.Room.{room_for}
use Rattle.log_draft.proofs.Keeping.{kept_cut}
use Rattle.log_draft.proofs.draft.Draft.push_cut.Goals as goal

pub invariant_of-self-2 : goal.invariant_of-self-2
invariant_of-self-2 c =
    let old = c.self.inside.items.items in
    let tick = c.args.tick in
    let back = sym c.self.view_is in
    let m : Mission = record {
      version = c.self.inside.version;
      ticks = c.self.inside.ticks;
      width = c.self.inside.width;
      cuts = c.self.inside.clock;
      items = old;
    } in
    let stored = rw c.unwrap.ensures at c.push.ensures.items in
    let items : c.push.new.self.items ≡ old ++ item.Cut tick ∷ [] = grind (arith, common_steps, stored, c.in_ok-reserve.ensures.items) in
    rw items (kept_cut c.self.inside.names c.self.inside.has_head c.self.inside.is_open c.self.inside.rated c.self.inside.counts m tick c.cut.new.self
    c.self.invariant
    (subst (λ (d : Mission). d.version ≡ 2) back c.requires.version)
    (subst (λ (d : Mission). has_head d.items ≡ true) back c.requires.headed)
    (subst (λ (d : Mission). tick ≤ d.ticks) back c.requires.within)
    (subst (λ (d : Mission). list_all may_precede_cut d.items ≡ true) back c.requires.early)
    (subst (λ (d : Mission). room_for d (item.Cut tick) ≡ Ok tt) back c.requires.room)
    c.cut.ensures.value c.cut.ensures.grid c.cut.ensures.ends)
