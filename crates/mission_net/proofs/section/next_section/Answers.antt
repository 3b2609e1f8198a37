use Rattle.std.proofs.Common.{ℕ, IsNone, arith, refl, ap, subst, sym, ◌∙◌, take, drop}
use Rattle.tube_spec.specs.Box.{measure_of}
use Rattle.tube_spec.specs.Owner.{start_of}
use Rattle.tube_store.specs.State.{State}
use Rattle.mission_net.specs.Records.{owners_from, contracts_from, IsEnclosure}
use Rattle.mission_net.specs.Building.{IsSpentAs}
use Rattle.mission_net.proofs.Sections.{section-holds, built-box, still-empty, measure-small, store-proper}
use Rattle.mission_net.proofs.Costing.{section-bound}
use Rattle.mission_net.proofs.section.next_section.Goals as goal

pub returns-clause-section : goal.returns-clause-section
returns-clause-section g c =
    let m = c.args.mission.now in
    let more = drop c.args.first (take c.args.last m.items) in
    let box = built-box m.cuts m.items c.args.first more (contracts_from m.cuts (take c.args.first m.items) more) c.args.net.now c.build_on.new.net c.requires.holds c.in_ok-build_on.ensures.added in
    (c.settled_section_law.ensures.settled m.cuts (take c.args.last m.items) c.args.budget c.build_on.new.net c.settle-answer.new.self.store c.settle-answer.result c.in_ok-build_on.ensures.holds
    (subst (IsEnclosure m.cuts (take c.args.last m.items)) (sym box) (c.settled_section_law.ensures.starts m c.args.first c.args.last c.args.net.now.store.box c.requires.mission c.requires.order c.requires.before))
    c.settle-answer.ensures.settled).0

pub returns-clause-spent : goal.returns-clause-spent
returns-clause-spent g c =
    let m = c.args.mission.now in
    let more = drop c.args.first (take c.args.last m.items) in
    let box = built-box m.cuts m.items c.args.first more (contracts_from m.cuts (take c.args.first m.items) more) c.args.net.now c.build_on.new.net c.requires.holds c.in_ok-build_on.ensures.added in
    let began = c.measure-began.ensures ∙ ap (λ (t : State). measure_of t.box) c.store-store.ensures in
    subst (λ (n : ℕ). IsSpentAs m.cuts (take c.args.last m.items) c.settle-answer.new.self.store.box n c.args.budget c.settle-answer.result) (sym began)
    (c.settled_section_law.ensures.settled m.cuts (take c.args.last m.items) c.args.budget c.build_on.new.net c.settle-answer.new.self.store c.settle-answer.result c.in_ok-build_on.ensures.holds
    (subst (IsEnclosure m.cuts (take c.args.last m.items)) (sym box) (c.settled_section_law.ensures.starts m c.args.first c.args.last c.args.net.now.store.box c.requires.mission c.requires.order c.requires.before))
    c.settle-answer.ensures.settled).1

pub returns-clause-holds : goal.returns-clause-holds
returns-clause-holds g c =
    section-holds c.args.mission.now.cuts (take c.args.last c.args.mission.now.items) c.build_on.new.net c.settle-answer.new.self c.settle-answer.result c.in_ok-build_on.ensures.holds c.settle-answer.ensures.contractors c.settle-answer.ensures.shape
    (returns-clause-section g c)

pub returns-clause-encloses : goal.returns-clause-encloses
returns-clause-encloses g c = c.settled_section_law.ensures.encloses c.args.mission.now c.args.last c.settle-answer.new.self.store.box c.settle-answer.result c.requires.mission (returns-clause-section g c)

pub returns-clause-began : goal.returns-clause-began
returns-clause-began g c =
    let m = c.args.mission.now in
    let more = drop c.args.first (take c.args.last m.items) in
    let box = built-box m.cuts m.items c.args.first more (contracts_from m.cuts (take c.args.first m.items) more) c.args.net.now c.build_on.new.net c.requires.holds c.in_ok-build_on.ensures.added in
    c.measure-began.ensures ∙ ap (λ (t : State). measure_of t.box) c.store-store.ensures ∙ ap measure_of box

pub returns-clause-emptied : goal.returns-clause-emptied
returns-clause-emptied g c none = (c.settle-answer.ensures.emptied (still-empty c.args.mission.now c.args.first (drop c.args.first (take c.args.last c.args.mission.now.items)) (contracts_from c.args.mission.now.cuts (take c.args.first c.args.mission.now.items) (drop c.args.first (take c.args.last c.args.mission.now.items))) c.args.net.now c.build_on.new.net c.requires.holds c.in_ok-build_on.ensures.added none)).0

pub returns-clause-unfired : goal.returns-clause-unfired
returns-clause-unfired g c none = (c.settle-answer.ensures.emptied (still-empty c.args.mission.now c.args.first (drop c.args.first (take c.args.last c.args.mission.now.items)) (contracts_from c.args.mission.now.cuts (take c.args.first c.args.mission.now.items) (drop c.args.first (take c.args.last c.args.mission.now.items))) c.args.net.now c.build_on.new.net c.requires.holds c.in_ok-build_on.ensures.added none)).2

pub returns-clause-small : goal.returns-clause-small
returns-clause-small g c = omega (arith, c.measure-began.ensures, measure-small c.store-store.result.now c.known.ensures)

pub returns-clause-cost : goal.returns-clause-cost
returns-clause-cost g c rest =
    let m = c.args.mission.now in
    let more = drop c.args.first (take c.args.last m.items) in
    let cells = start_of m.cuts (owners_from (take c.args.first m.items) more) in
    let box = built-box m.cuts m.items c.args.first more (contracts_from m.cuts (take c.args.first m.items) more) c.args.net.now c.build_on.new.net c.requires.holds c.in_ok-build_on.ensures.added in
    section-bound m.cuts m.items c.args.first c.args.last c.args.net.now.store.box cells c.build_on.new.net c.settle-answer.new.self.store.box c.args.net.now.waiting c.args.steps.now c.settle-answer.new.steps
    (omega (arith, c.requires.mission.clock.grid.slices)) c.in_ok-build_on.ensures.holds box c.in_ok-build_on.ensures.added.waiting rest (λ e. returns-clause-unfired g c (subst IsNone (sym e) refl)) c.settle-answer.ensures.bound

pub returns-clause-proper : goal.returns-clause-proper
returns-clause-proper g c = store-proper c.settle-answer.new.self.store c.store-settled.result.now c.store-settled.ensures c.known-2.ensures
