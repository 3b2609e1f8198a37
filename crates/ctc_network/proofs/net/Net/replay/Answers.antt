use Rattle.std.proofs.Common.{◌≡◌, ◌<◌, Option, Some, List, length, get_or, ap, subst, ◌∙◌, flat_map, slice_get, take_all, arith}
use Rattle.ctc_network.specs.Nets.{NetState, ArePlaces, of_place, fits_place}
use Rattle.ctc_network.specs.declared.answers.CtcId.{CtcId}
use Rattle.ctc_network.specs.Settling.{Fires, contractors_at}
use Rattle.ctc_network.proofs.Holes.{monotone, there-within}
use Rattle.ctc_network.proofs.Replaying.{replay-more, if-some, run-then}
use Rattle.ctc_network.proofs.Runs.{get-all, get-there}
use Rattle.ctc_network.proofs.net.Net.replay.Goals as goal

pub loop-id-preserved : goal.loop-id-preserved
loop-id-preserved g c =
    let K = g.C.Contractor in
    let T = g.row.C.Denot in
    let cs = c.args.self.now.contractors in
    let n : CtcId = record { 0 = 0 } in
    let id = get_or c.args.ids.now c.loop-id.id-index n in
    let named : id.0 < length cs = there-within cs id.0 (c.requires c.loop-id.id-index n c.loop-id-test.true) in
    let net : ArePlaces (of_place K.projections) (of_place K.scope) (fits_place K.fits) c.args.self.now = subst (λ (v : NetState T). ArePlaces (of_place K.projections) (of_place K.scope) (fits_place K.fits) v) c.self.view_is c.self.invariant.net.kept.state.net in
    let there = get-there cs id.0 named in
    let same = c.loop-id.invariant.contractors in
    let at : slice_get c.loop-id.self.contractors id.0 ≡ Some there.0 = ap (λ (ks : List (Option T)). slice_get ks id.0) same ∙ there.1 in
    let fired = if-some (λ (k : Option T). Fires (of_place K.projections k c.loop-id.self.store.shape) c.loop-id.self.store c.fire-next.new.self.store c.fire-next.result) (slice_get c.loop-id.self.contractors id.0) there.0 at c.fire-next.ensures.fired in
    record {
      fired = replay-more (Option T) (of_place K.projections) (fits_place K.fits) (monotone T K.projections K.scope K.fits g.met.C.Contractor.monotone) cs c.args.ids.now c.loop-id.id-index n there.0 c.args.self.now.store c.loop-id.self.store c.fire-next.new.self.store c.loop-id.answer c.fire-next.result c.then-answer.result
          c.loop-id-test.true there.1 (get-all (λ (k : Option T). fits_place K.fits k c.args.self.now.store.shape c.args.self.now.store.box) cs id.0 there.0 there.1 net.fit) c.settlable.ensures.drained c.loop-id.invariant.fired fired c.then-answer.ensures;
      narrowed = run-then (of_place K.projections) cs c.loop-id.self.contractors c.args.self.now.store c.loop-id.self.store c.fire-next.new.self.store same c.loop-id.invariant.narrowed c.fire-next.ensures.narrowed;
      contractors = c.fire-next.ensures.contractors ∙ same;
      steps = omega (arith, c.fire-next.ensures.step, c.loop-id.invariant.steps);
    }

pub returns-clause-fired : goal.returns-clause-fired
returns-clause-fired g c =
    let f = λ (ids : List CtcId). flat_map (λ k. of_place g.C.Contractor.projections k c.args.self.now.store.shape) (contractors_at c.args.self.now.contractors ids) in
    subst (λ (ids : List CtcId). Fires (f ids) c.args.self.now.store c.loop-id.self.store c.loop-id.answer) (take_all c.loop-id.id-index c.args.ids.now c.loop-id-test.false) c.loop-id.invariant.fired
