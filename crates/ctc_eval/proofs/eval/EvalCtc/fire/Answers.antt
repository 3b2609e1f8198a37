use Rattle.std.proofs.Common.{◌≡◌, ◌<◌, ℕ, Option, None, IfSome, List, map, length, sym, subst}
use Rattle.std.proofs.lemmas.List.Elements.{All-map}
use Rattle.tube_spec.specs.Span.{Span}
use Rattle.tube_spec.specs.Shape.{Shape}
use Rattle.tube_spec.specs.Projection.{Projection, IsMonotone}
use Rattle.tube_store.specs.declared.SignalId.{SignalId}
use Rattle.ctc_core.specs.declared.Revised.{Revised}
use Rattle.ctc_core.specs.Answers.{Revises, then_of}
use Rattle.ctc_core.proofs.Firing.{Revises-then}
use Rattle.slice_gates.specs.Near.{near_of, gates_of}
use Rattle.slice_gates.specs.declared.near.Near.{Near}
use Rattle.ctc_eval.specs.Held.{rate_of, IsFound}
use Rattle.ctc_eval.specs.Evals.{EvalFits, eval_projections, reached_projection}
use Rattle.ctc_eval.specs.EvalLaws.{reached-monotone}
use Rattle.ctc_core.proofs.Fixing.{if-each}
use Rattle.ctc_eval.proofs.Blocks.{alone-then}
use Rattle.ctc_eval.proofs.eval.EvalCtc.fire.Goals as goal

pub returns-in-None : goal.returns-in-None
returns-in-None c =
    let old = c.args.store.now in
    let me = c.args.self.now in
    subst (λ (r : Option SignalId). Revises (eval_projections old.shape me.x.0 (rate_of r) me.t.0 me.z.0 me.declared) old c.fire_alone-one.new.store c.fire_alone-one.result) (sym c.in-None.is) c.fire_alone-one.ensures

pub revise_reached-two-requires-clause-fits : goal.revise_reached-two-requires-clause-fits
revise_reached-two-requires-clause-fits c =
    let me = c.args.self.now in
    subst (λ (s : Shape). EvalFits s me.x.0 (rate_of me.rate) me.t.0 me.z.0) (sym c.fire_alone-one.ensures.revised.shape) c.requires

pub revise_reached-two-requires-clause-found : goal.revise_reached-two-requires-clause-found
revise_reached-two-requires-clause-found c = subst (λ (s : Shape). IsFound s.grid c.args.self.now.declared c.near-near.result) (sym c.fire_alone-one.ensures.revised.shape) c.near-near.ensures.found

pub revise_reached-two-requires-clause-rate : goal.revise_reached-two-requires-clause-rate
revise_reached-two-requires-clause-rate c =
    let rates = subst (λ (r : Option SignalId). IfSome (rate_of r) (λ k. k < length c.args.store.now.shape.signals)) c.in-Some.is c.requires.rates in
    subst (λ (s : Shape). c.in-Some.rate.0 < length s.signals) (sym c.fire_alone-one.ensures.revised.shape) rates

pub returns-in-Some : goal.returns-in-Some
returns-in-Some c =
    let old = c.args.store.now in
    let me = c.args.self.now in
    let v = c.in-Some.rate.0 in
    let mid = c.fire_alone-one.new.store in
    let new = c.revise_reached-two.new.store in
    let shape = c.fire_alone-one.ensures.revised.shape in
    let p : ℕ → Projection = reached_projection old.shape me.x.0 v me.t.0 me.z.0 me.declared in
    let gs : List ℕ = gates_of (near_of old.shape.grid me.declared) in
    let anywhere : List Span → Type 0 = λ xs. Unit {0} in
    let near : c.near-near.result ≡ near_of old.shape.grid me.declared = c.near-near.ensures.value in
    let by_shape = subst (λ (s : Shape). Revises (map (reached_projection s me.x.0 v me.t.0 me.z.0 me.declared) (gates_of c.near-near.result)) mid new c.revise_reached-two.result) shape c.revise_reached-two.ensures in
    let two = subst (λ (o : Option Near). Revises (map p (gates_of o)) mid new c.revise_reached-two.result) near by_shape in
    let alone : List Projection = eval_projections old.shape me.x.0 None me.t.0 me.z.0 me.declared in
    let both = Revises-then anywhere alone (map p gs) old mid new c.fire_alone-one.result c.revise_reached-two.result (if-each old.box anywhere (λ xs. tt))
    (All-map (IsMonotone anywhere) p gs (λ k d l. reached-monotone anywhere old.shape me.x.0 v me.t.0 me.z.0 me.declared _)) c.fire_alone-one.ensures two in
    subst (λ (a : Revised). Revises (eval_projections old.shape me.x.0 (rate_of me.rate) me.t.0 me.z.0 me.declared) old new a) (sym c.then.ensures)
    (subst (λ (r : Option SignalId). Revises (eval_projections old.shape me.x.0 (rate_of r) me.t.0 me.z.0 me.declared) old new (then_of c.fire_alone-one.result c.revise_reached-two.result)) (sym c.in-Some.is)
    (subst (λ (ps : List Projection). Revises ps old new (then_of c.fire_alone-one.result c.revise_reached-two.result)) (alone-then old.shape me.x.0 v me.t.0 me.z.0 me.declared) both))
