use Rattle.std.proofs.Common.{◌+◌, All, List, arith, refl, sym, ap, subst, ◌∙◌, rules, length, length-set, false, flat_map}
use Rattle.tube_spec.specs.Box.{measure_of}
use Rattle.ctc_network.specs.Nets.{IsThere, of_place, fits_place}
use Rattle.ctc_network.specs.Settling.{IsNarrowedBy, contractors_at}
use Rattle.ctc_network.proofs.Holes.{there-within}
use Rattle.ctc_network.proofs.Replaying.{run-then}
use Rattle.ctc_network.proofs.Runs.{measure-below, net-fixpoint, settled-empty}
use Rattle.ctc_network.specs.declared.answers.CtcId.{CtcId}
use Rattle.traced_settling.proofs.Tracing.{IsTracing, tracing-same, fired-same, fired-narrowed, fired-empty, tracing-more, traced-more, settled-sought}
use Rattle.traced_settling.proofs.Waits.{emptied-bound, fewer-left, left-narrowed, left-rested, left_over, run-bound}
use Rattle.traced_settling.proofs.settle_traced.Goals as goal
use Rattle.traced_settling.proofs.settle_traced.Goals.{in-Same, in-Narrowed+in_ok-push-in-Narrowed}

pub returns-then-len-most-clause-settled : goal.returns-then-len-most-clause-settled
returns-then-len-most-clause-settled g c =
    settled-sought g.C.Contractor.projections c.args.most c.args.net.now c.loop-id.net c.loop-id.fired.items c.loop-id.from c.sought-settled.result c.loop-id.invariant.tracing (search rules) c.known-in-Some.ensures.places.store c.sought-settled.ensures.spent c.sought-settled.ensures.rests c.sought-settled.ensures.never

pub returns-in_err-push-in-Narrowed-clause-narrowed :
    goal.returns-in_err-push-in-Narrowed-clause-narrowed
returns-in_err-push-in-Narrowed-clause-narrowed g c =
    let before = c.loop-id.invariant.tracing.traced in
    run-then (of_place g.C.Contractor.projections) c.args.net.now.contractors c.loop-id.net.contractors c.args.net.now.store c.loop-id.net.store c.fire.new.self.store before.contractors before.narrowed c.fire.ensures.narrowed

pub returns-in_err-push-in-Empty-clause-narrowed :
    goal.returns-in_err-push-in-Empty-clause-narrowed
returns-in_err-push-in-Empty-clause-narrowed g c =
    let before = c.loop-id.invariant.tracing.traced in
    run-then (of_place g.C.Contractor.projections) c.args.net.now.contractors c.loop-id.net.contractors c.args.net.now.store c.loop-id.net.store c.fire.new.self.store before.contractors before.narrowed c.fire.ensures.narrowed

pub returns-in-Empty-clause-narrowed : goal.returns-in-Empty-clause-narrowed
returns-in-Empty-clause-narrowed g c =
    let before = c.loop-id.invariant.tracing.traced in
    run-then (of_place g.C.Contractor.projections) c.args.net.now.contractors c.loop-id.net.contractors c.args.net.now.store c.loop-id.net.store c.fire.new.self.store before.contractors before.narrowed c.fire.ensures.narrowed

pub returns-in-Empty-clause-settled : goal.returns-in-Empty-clause-settled
returns-in-Empty-clause-settled g c =
    let before = c.loop-id.invariant.tracing.traced in
    settled-empty (λ k. of_place g.C.Contractor.projections k c.args.net.now.store.shape) c.args.net.now.contractors c.args.most c.args.net.now.store c.fire.new.self.store
    (run-then (of_place g.C.Contractor.projections) c.args.net.now.contractors c.loop-id.net.contractors c.args.net.now.store c.loop-id.net.store c.fire.new.self.store before.contractors before.narrowed c.fire.ensures.narrowed)
    (fired-empty g.C.Contractor.projections c.loop-id.net c.fire.new.self c.in-Some.id.0 c.fire.result c.in-Empty.is (c.known-in-Some.ensures.there c.in-Some.id.0 c.in-Some.ensures.some) c.fire.ensures.fired)

pub returns-in-Empty-clause-enough : goal.returns-in-Empty-clause-enough
returns-in-Empty-clause-enough g c =
    subst (λ (ids : List CtcId). IsNarrowedBy (flat_map (λ k. of_place g.C.Contractor.projections k c.args.net.now.store.shape) (contractors_at c.args.net.now.contractors ids)) c.args.net.now.store c.fire.new.self.store) (sym c.in_ok-push-in-Empty.ensures.items)
    (traced-more g.C.Contractor.projections c.args.net.now c.loop-id.net c.fire.new.self c.loop-id.fired.items c.in-Some.id c.fire.result c.loop-id.invariant.tracing.traced (c.known-in-Some.ensures.there c.in-Some.id.0 c.in-Some.ensures.some) c.fire.ensures.contractors c.fire.ensures.fired c.fire.ensures.narrowed).enough

pub overflow_add-from : goal.overflow_add-from
overflow_add-from g c = omega (arith, there-within c.loop-id.net.contractors c.in-Some.id.0 (c.known-in-Some.ensures.there c.in-Some.id.0 c.in-Some.ensures.some), c.known-in-Some.ensures.places.few)

pub loop-id-smaller : goal.loop-id-smaller
loop-id-smaller g c =
    let K = g.C.Contractor in
    let mid = c.loop-id.net in
    let new = c.fire.new.self in
    let there = c.known-in-Some.ensures.there c.in-Some.id.0 c.in-Some.ensures.some in
    elim c.match-fire.branch [
      | in-Same w ↦
          left-rested (measure_of new.store.box) (measure_of mid.store.box) c.in-Some.id.0 mid.waiting new.waiting (fired-same K.projections mid new c.in-Some.id.0 c.fire.result w.in-Same.is there c.fire.ensures.fired)
          w.in-Same.ensures.waiting c.in-Some.ensures.some (omega (arith, there-within mid.contractors c.in-Some.id.0 there, c.known-in-Some.ensures.places.beside)) (ap length w.in-Same.ensures.waiting ∙ length-set mid.waiting c.in-Some.id.0 false)
      | in-Narrowed+in_ok-push-in-Narrowed w ↦
          left-narrowed (measure_of new.store.box) (measure_of mid.store.box) mid.waiting new.waiting (fired-narrowed K.projections mid new c.in-Some.id.0 c.fire.result w.in-Narrowed.is there c.fire.ensures.fired) w.in-Narrowed.ensures.waiting.len
    ]

pub loop-id-preserved : goal.loop-id-preserved
loop-id-preserved g c =
    let K = g.C.Contractor in
    let mid = c.loop-id.net in
    let new = c.fire.new.self in
    let there = c.known-in-Some.ensures.there c.in-Some.id.0 c.in-Some.ensures.some in
    let inside = there-within mid.contractors c.in-Some.id.0 there in
    let most = c.args.most in
    record {
      tracing = elim c.match-fire.branch [
        | in-Same w ↦
            subst (λ (ids : List CtcId). IsTracing K.projections most c.args.net.now new ids (c.in-Some.id.0 + 1)) (sym (search rules))
            (tracing-same K.projections most c.args.net.now mid new c.loop-id.fired.items c.loop-id.from c.in-Some.id.0 c.fire.result w.in-Same.is c.loop-id.invariant.tracing inside there c.fire.ensures.contractors c.fire.ensures.fired)
        | in-Narrowed+in_ok-push-in-Narrowed w ↦
            subst (λ (ids : List CtcId). IsTracing K.projections most c.args.net.now new ids (c.in-Some.id.0 + 1)) (sym (search rules))
            (tracing-more K.projections most c.args.net.now mid new c.loop-id.fired.items c.loop-id.from c.in-Some.id c.fire.result w.in-Narrowed.is c.loop-id.invariant.tracing inside (search rules) there c.fire.ensures.contractors c.fire.ensures.fired c.fire.ensures.narrowed)
      ];
      steps = fewer-left c.loop-id.steps c.fire.new.steps (left_over (measure_of mid.store.box) mid.waiting) (left_over (measure_of new.store.box) new.waiting) (c.args.steps.now + left_over (measure_of c.args.net.now.store.box) c.args.net.now.waiting) c.loop-id.invariant.steps c.fire.ensures.step (loop-id-smaller g c);
    }

pub returns-clause-settled : goal.returns-clause-settled
returns-clause-settled g c =
    let K = g.C.Contractor in
    let before = c.loop-id.invariant.tracing in
    net-fixpoint (of_place K.projections) (of_place K.scope) (fits_place K.fits) c.args.net.now.contractors c.args.most c.args.net.now.store c.loop-id.net before.traced.contractors before.traced.narrowed before.some c.known-2.ensures.places (c.in_default.ensures.none refl)

pub returns-clause-bound : goal.returns-clause-bound
returns-clause-bound g c =
    let before = c.loop-id.invariant.tracing.traced in
    run-bound (length c.args.net.now.contractors) c.args.steps.now c.loop-id.steps c.loop-id.steps (measure_of c.args.net.now.store.box) (measure_of c.loop-id.net.store.box) c.args.net.now.waiting c.loop-id.net.waiting
    c.known.ensures.places.beside (c.known-2.ensures.places.beside ∙ ap length before.contractors) (measure-below c.loop-id.net.store.box c.args.net.now.store.box before.narrowed.below) c.loop-id.invariant.steps (omega arith)

pub returns-then-len-most-clause-bound : goal.returns-then-len-most-clause-bound
returns-then-len-most-clause-bound g c =
    let before = c.loop-id.invariant.tracing.traced in
    run-bound (length c.args.net.now.contractors) c.args.steps.now c.loop-id.steps c.sought-settled.new.steps (measure_of c.args.net.now.store.box) (measure_of c.loop-id.net.store.box) c.args.net.now.waiting c.loop-id.net.waiting
    c.known.ensures.places.beside (c.known-in-Some.ensures.places.beside ∙ ap length before.contractors) (measure-below c.loop-id.net.store.box c.args.net.now.store.box before.narrowed.below) c.loop-id.invariant.steps c.sought-settled.ensures.bound

pub returns-in_err-push-in-Narrowed-clause-bound : goal.returns-in_err-push-in-Narrowed-clause-bound
returns-in_err-push-in-Narrowed-clause-bound g c =
    let before = c.loop-id.invariant.tracing.traced in
    let mid = c.loop-id.net in
    let new = c.fire.new.self in
    let there = c.known-in-Some.ensures.there c.in-Some.id.0 c.in-Some.ensures.some in
    let less = left-narrowed (measure_of new.store.box) (measure_of mid.store.box) mid.waiting new.waiting (fired-narrowed g.C.Contractor.projections mid new c.in-Some.id.0 c.fire.result c.in-Narrowed.is there c.fire.ensures.fired) c.in-Narrowed.ensures.waiting.len in
    run-bound (length c.args.net.now.contractors) c.args.steps.now c.fire.new.steps c.fire.new.steps (measure_of c.args.net.now.store.box) (measure_of new.store.box) c.args.net.now.waiting new.waiting
    c.known.ensures.places.beside (c.in-Narrowed.ensures.waiting.len ∙ c.known-in-Some.ensures.places.beside ∙ ap length before.contractors)
    (measure-below new.store.box c.args.net.now.store.box
    (run-then (of_place g.C.Contractor.projections) c.args.net.now.contractors mid.contractors c.args.net.now.store mid.store new.store before.contractors before.narrowed c.fire.ensures.narrowed).below)
    (fewer-left c.loop-id.steps c.fire.new.steps (left_over (measure_of mid.store.box) mid.waiting) (left_over (measure_of new.store.box) new.waiting) (c.args.steps.now + left_over (measure_of c.args.net.now.store.box) c.args.net.now.waiting) c.loop-id.invariant.steps c.fire.ensures.step less)
    (omega arith)

pub returns-in_err-push-in-Empty-clause-bound : goal.returns-in_err-push-in-Empty-clause-bound
returns-in_err-push-in-Empty-clause-bound g c =
    let before = c.loop-id.invariant.tracing.traced in
    let mid = c.loop-id.net in
    let there = c.known-in-Some.ensures.there c.in-Some.id.0 c.in-Some.ensures.some in
    emptied-bound (length c.args.net.now.contractors) c.args.steps.now c.loop-id.steps c.fire.new.steps (measure_of c.args.net.now.store.box) (measure_of mid.store.box) (measure_of c.fire.new.self.store.box) c.in-Some.id.0 c.args.net.now.waiting mid.waiting
    c.known.ensures.places.beside (c.known-in-Some.ensures.places.beside ∙ ap length before.contractors) (measure-below mid.store.box c.args.net.now.store.box before.narrowed.below) (measure-below c.fire.new.self.store.box mid.store.box c.fire.ensures.narrowed.below)
    c.loop-id.invariant.steps c.fire.ensures.step c.in-Some.ensures.some (omega (arith, there-within mid.contractors c.in-Some.id.0 there, c.known-in-Some.ensures.places.beside))

pub returns-in-Empty-clause-bound : goal.returns-in-Empty-clause-bound
returns-in-Empty-clause-bound g c =
    let before = c.loop-id.invariant.tracing.traced in
    let mid = c.loop-id.net in
    let there = c.known-in-Some.ensures.there c.in-Some.id.0 c.in-Some.ensures.some in
    emptied-bound (length c.args.net.now.contractors) c.args.steps.now c.loop-id.steps c.fire.new.steps (measure_of c.args.net.now.store.box) (measure_of mid.store.box) (measure_of c.fire.new.self.store.box) c.in-Some.id.0 c.args.net.now.waiting mid.waiting
    c.known.ensures.places.beside (c.known-in-Some.ensures.places.beside ∙ ap length before.contractors) (measure-below mid.store.box c.args.net.now.store.box before.narrowed.below) (measure-below c.fire.new.self.store.box mid.store.box c.fire.ensures.narrowed.below)
    c.loop-id.invariant.steps c.fire.ensures.step c.in-Some.ensures.some (omega (arith, there-within mid.contractors c.in-Some.id.0 there, c.known-in-Some.ensures.places.beside))

pub returns-in-Empty-clause-there : goal.returns-in-Empty-clause-there
returns-in-Empty-clause-there g c =
    subst (All (λ (id : CtcId). IsThere c.args.net.now.contractors id.0)) (sym c.in_ok-push-in-Empty.ensures.items)
    (traced-more g.C.Contractor.projections c.args.net.now c.loop-id.net c.fire.new.self c.loop-id.fired.items c.in-Some.id c.fire.result c.loop-id.invariant.tracing.traced (c.known-in-Some.ensures.there c.in-Some.id.0 c.in-Some.ensures.some) c.fire.ensures.contractors c.fire.ensures.fired c.fire.ensures.narrowed).there
