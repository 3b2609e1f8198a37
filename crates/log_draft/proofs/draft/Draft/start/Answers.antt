use Rattle.std.proofs.Common.{◌≡◌, ◌∙◌, ap, false, sym, subst, true}
use Rattle.std.specs.List.{list_all}
use Rattle.tube_spec.specs.Grid.{IsGrid, last_tick}
use Rattle.mission_items.specs.Made.{has_head}
use Rattle.mission_items.specs.declared.mission.Mission.{Mission}
use Rattle.log_draft.specs.Kept.{is_note_item}
use Rattle.log_draft.proofs.Keeping.{clock_started, kept_started}
use Rattle.log_draft.proofs.draft.Draft.start.Goals as goal

pub invariant_of-self : goal.invariant_of-self
invariant_of-self c =
    let m : Mission = record {
      version = c.self.inside.version;
      ticks = c.self.inside.ticks;
      width = c.self.inside.width;
      cuts = c.self.inside.clock;
      items = c.self.inside.items.items;
    } in
    kept_started c.self.inside.names c.self.inside.has_head c.self.inside.is_open c.self.inside.rated c.self.inside.counts m c.args.version c.args.ticks c.args.width c.in_ok-clock.clock
    c.self.invariant (c.self.invariant.headed ∙ (ap (λ (d : Mission). has_head d.items) c.self.view_is ∙ c.requires.headless))

pub returns-clause-clock : goal.returns-clause-clock
returns-clause-clock c =
    let off : c.self.inside.has_head ≡ false = c.self.invariant.headed ∙ (ap (λ (d : Mission). has_head d.items) c.self.view_is ∙ c.requires.headless) in
    let notes = subst (λ (d : Mission). list_all is_note_item d.items ≡ true) c.self.view_is (c.self.invariant.notes off) in
    clock_started c.args.version c.args.ticks c.args.width c.args.self.now.items notes c.requires.first_version c.requires.last_version c.requires.some_tick c.requires.few_ticks c.requires.some_width c.requires.small_width
    (subst IsGrid c.in_ok-clock.ensures.value c.in_ok-clock.ensures.grid) (ap last_tick (sym c.in_ok-clock.ensures.value) ∙ c.in_ok-clock.ensures.ends)
