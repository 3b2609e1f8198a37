use Rattle.std.proofs.Common.{◌+◌, ◌∙◌, ap, ap₂, sym, ℕ, arith}
use Rattle.mission_items.specs.Made.{beacons_in, signals_in, variables_in}
use Rattle.mission_items.specs.Room.{feet_of}
use Rattle.mission_items.specs.Valid.{revisits_in}
use Rattle.mission_items.specs.declared.mission.Mission.{Mission}
use Rattle.mission_items.proofs.Making.{beacons-last, feet-last, signals-last, variables-last}
use Rattle.log_draft.proofs.Records.{beacons-few, beacons-most, revisits-last}
use Rattle.log_draft.proofs.draft.Draft.room_for.Goals as goal

pub overflow_add-result : goal.overflow_add-result
overflow_add-result c =
    omega (arith, c.self.invariant.counts.beacon_count, beacons-few c.self.inside.items.items, c.self.invariant.few.variables, c.beacons_made.ensures, beacons-most c.args.item.now)

pub returns-clause-counts : goal.returns-clause-counts
returns-clause-counts c =
    let d = c.args.self.now in
    let i = c.args.item.now in
    let signals = c.self.invariant.counts.signal_count ∙ ap (λ (m : Mission). signals_in m.items) c.self.view_is in
    let variables = c.self.invariant.counts.variable_count ∙ ap (λ (m : Mission). variables_in m.items) c.self.view_is in
    let beacons = c.self.invariant.counts.beacon_count ∙ ap (λ (m : Mission). beacons_in m.items) c.self.view_is in
    let revisits = c.self.invariant.counts.revisit_count ∙ ap (λ (m : Mission). revisits_in m.items) c.self.view_is in
    let feet = c.self.invariant.counts.foot_count ∙ ap (λ (m : Mission). feet_of m.cuts m.items) c.self.view_is in
    record {
      signal_count = ap₂ (λ (a b : ℕ). a + b) signals c.signals_made.ensures ∙ sym (signals-last d.items i);
      variable_count = ap₂ (λ (a b : ℕ). a + b) variables c.variables_made.ensures ∙ sym (variables-last d.items i);
      beacon_count = ap₂ (λ (a b : ℕ). a + b) beacons c.beacons_made.ensures ∙ sym (beacons-last d.items i);
      revisit_count = ap₂ (λ (a b : ℕ). a + b) revisits c.revisits_made.ensures ∙ sym (revisits-last d.items i);
      foot_count = ap₂ (λ (a b : ℕ). a + b) feet c.requires.foot ∙ sym (feet-last d.cuts d.items i);
    }
