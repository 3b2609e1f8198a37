use Rattle.std.proofs.Common.{ℕ, Option, None, List, map, sym, subst}
use Rattle.tube_spec.specs.Projection.{Projection}
use Rattle.tube_store.specs.declared.SignalId.{SignalId}
use Rattle.slice_gates.specs.Near.{near_of, gates_of}
use Rattle.slice_gates.specs.declared.near.Near.{Near}
use Rattle.ctc_eval.specs.Held.{rate_of}
use Rattle.ctc_eval.specs.Evals.{eval_projections, reached_projection}
use Rattle.ctc_eval.specs.Blocks.{IsMoved}
use Rattle.ctc_eval.proofs.Blocks.{alone-then}
use Rattle.ctc_eval.proofs.Moving.{moved-by, moved-rated}
use Rattle.ctc_eval.proofs.eval.EvalCtc.moves.Goals as goal

pub returns-then-moves_alone : goal.returns-then-moves_alone
returns-then-moves_alone c =
    let s = c.args.store.now in
    let me = c.args.self.now in
    moved-rated s.shape me.x.0 (rate_of me.rate) me.t.0 me.z.0 me.declared s.box c.if-moves_alone.ensures

pub returns-in-Some : goal.returns-in-Some
returns-in-Some c =
    let s = c.args.store.now in
    let me = c.args.self.now in
    let v = c.in-Some.rate.0 in
    let p : ℕ → Projection = reached_projection s.shape me.x.0 v me.t.0 me.z.0 me.declared in
    let alone : List Projection = eval_projections s.shape me.x.0 None me.t.0 me.z.0 me.declared in
    let reached = subst (λ (o : Option Near). IsMoved (map p (gates_of o)) s.box c.moves_reached.result) c.near-near.ensures.value c.moves_reached.ensures in
    subst (λ (r : Option SignalId). IsMoved (eval_projections s.shape me.x.0 (rate_of r) me.t.0 me.z.0 me.declared) s.box c.moves_reached.result) (sym c.in-Some.is)
    (subst (λ (ps : List Projection). IsMoved ps s.box c.moves_reached.result) (alone-then s.shape me.x.0 v me.t.0 me.z.0 me.declared)
    (moved-by alone (map p (gates_of (near_of s.shape.grid me.declared))) s.box c.moves_reached.result c.if-moves_alone.ensures reached))
