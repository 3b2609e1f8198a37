use Rattle.std.proofs.Common.{◌≡◌, ℕ, IsNone, arith, refl, ap, subst, sym, ◌∙◌, length, take, drop}
use Rattle.tube_spec.specs.Box.{measure_of}
use Rattle.tube_spec.specs.Owner.{start_of}
use Rattle.tube_store.specs.State.{State}
use Rattle.mission_net.specs.Records.{owners_from, contracts_from, IsEnclosure}
use Rattle.mission_net.specs.Building.{IsSpentAs}
use Rattle.mission_net.proofs.Sections.{section-holds, built-box, still-empty, measure-small, store-proper}
use Rattle.ctc_network.proofs.Holes.{there-within}
use Rattle.section_tracer.specs.Firings.{most_firings}
use Rattle.section_tracer.proofs.Firing.{fired-enough, fired-there, is-full}
use Rattle.section_tracer.proofs.part.settle_part.Goals as goal

pub returns-clause-section : goal.returns-clause-section
returns-clause-section g c =
    let m = c.args.mission.now in
    let part = c.args.part in
    let more = drop part.first (take part.upto m.items) in
    let built = c.build_on.new.net in
    let new = c.settle_traced.new.net in
    let t = c.in_ok-traced.traced in
    let box = built-box m.cuts m.items part.first more (contracts_from m.cuts (take part.first m.items) more) c.args.net.now built c.requires.holds c.in_ok-build_on.ensures.added in
    let began = c.measure-began.ensures ∙ ap (λ (s : State). measure_of s.box) c.store-store.ensures in
    let is = c.settled_section_law.ensures.settled m.cuts (take part.upto m.items) most_firings built new.store t.settled c.in_ok-build_on.ensures.holds
    (subst (IsEnclosure m.cuts (take part.upto m.items)) (sym box) (c.settled_section_law.ensures.starts m part.first part.upto c.args.net.now.store.box c.requires.mission c.requires.order c.requires.before))
    c.in_ok-traced.ensures.settled in
    record {
      greatest = is.0;
      encloses = c.settled_section_law.ensures.encloses m part.upto new.store.box t.settled c.requires.mission is.0;
      cause = subst (λ (n : ℕ). IsSpentAs m.cuts (take part.upto m.items) new.store.box n most_firings t.settled) (sym began) is.1;
      small = omega (arith, c.measure-began.ensures, measure-small c.store-store.result.now c.known.ensures);
      proper = store-proper new.store c.store-settled.result.now c.store-settled.ensures c.known-3.ensures;
    }

pub returns-clause-holds : goal.returns-clause-holds
returns-clause-holds g c =
    section-holds c.args.mission.now.cuts (take c.args.part.upto c.args.mission.now.items) c.build_on.new.net c.settle_traced.new.net c.in_ok-traced.traced.settled c.in_ok-build_on.ensures.holds c.settle_traced.ensures.contractors c.settle_traced.ensures.narrowed.shape
    (returns-clause-section g c).greatest

pub returns-clause-goes_on : goal.returns-clause-goes_on
returns-clause-goes_on g c =
    let m = c.args.mission.now in
    let part = c.args.part in
    let more = drop part.first (take part.upto m.items) in
    let built = c.build_on.new.net in
    let box = built-box m.cuts m.items part.first more (contracts_from m.cuts (take part.first m.items) more) c.args.net.now built c.requires.holds c.in_ok-build_on.ensures.added in
    record {
      starts = c.measure-began.ensures ∙ ap (λ (s : State). measure_of s.box) c.store-store.ensures ∙ ap measure_of box;
      emptied = λ none. (c.in_ok-traced.ensures.emptied (still-empty m part.first more (contracts_from m.cuts (take part.first m.items) more) c.args.net.now built c.requires.holds c.in_ok-build_on.ensures.added none)).0.0;
    }

pub returns-clause-firings : goal.returns-clause-firings
returns-clause-firings g c =
    let m = c.args.mission.now in
    let part = c.args.part in
    let items = take part.upto m.items in
    let more = drop part.first items in
    let built = c.build_on.new.net in
    let new = c.settle_traced.new.net in
    let t = c.in_ok-traced.traced in
    let e = c.in_ok-traced.ensures in
    let box = built-box m.cuts m.items part.first more (contracts_from m.cuts (take part.first m.items) more) c.args.net.now built c.requires.holds c.in_ok-build_on.ensures.added in
    let began = c.measure-began.ensures ∙ ap (λ (s : State). measure_of s.box) c.store-store.ensures in
    record {
      there = fired-there m.cuts items built t.fired.items c.in_ok-build_on.ensures.holds e.there;
      numbers = λ k d l. omega (arith, there-within built.contractors _ (e.there k d l), c.known-2.ensures.places.few, ap length c.settle_traced.ensures.contractors);
      few = e.few;
      measured = λ some. omega (arith, e.measured some, began);
      spent = λ told. is-full t.settled (length t.fired.items) most_firings told e.spent;
      emptied = λ none. (c.in_ok-traced.ensures.emptied (still-empty m part.first more (contracts_from m.cuts (take part.first m.items) more) c.args.net.now built c.requires.holds c.in_ok-build_on.ensures.added none)).0.1;
      enough = fired-enough m.cuts items built new.store t.fired.items _ c.in_ok-build_on.ensures.holds box e.enough;
    }
