use Rattle.std.proofs.Common.{◌≡◌, ◌<◌, Option, List, Bool, true, false, length, sym, ap, subst, ◌∙◌, set, length-set, count_by, arith}
use Rattle.std.proofs.lemmas.Option.{slice_get_within}
use Rattle.cell_readers.proofs.Counts.{count-rest}
use Rattle.ctc_network.specs.Nets.{NetState, IsNetKept, of_place, fits_place}
use Rattle.ctc_network.proofs.Keeping.{kept-rested}
use Rattle.ctc_network.proofs.Holes.{below, there-rested, place-there}
use Rattle.ctc_network.proofs.Waking.{set-back, inside-there}
use Rattle.ctc_network.proofs.Marks.{clean-place, marks-read}
use Rattle.ctc_network.proofs.net.Net.try_next.Goals as goal

pub invariant_of-self-then-still : goal.invariant_of-self-then-still
invariant_of-self-then-still g c =
    let K = g.C.Contractor in
    let n = c.self.inside in
    let t = c.in_ok-number.ensures in
    let e : c.wake.new.self ≡ n.waiting = c.wake.ensures ∙ ap (λ (ws : List Bool). set ws c.in_ok-number.number true) t.1 ∙ set-back n.waiting c.in_ok-number.number t.0 in
    record {
      net = subst (λ (ws : List Bool). IsNetKept K.projections K.scope K.fits (record { store = n.store; contractors = n.contractors.items; waiting = ws }) n.readers n.entries n.count) (sym e) c.self.invariant.net;
      marks = c.self.invariant.marks;
    }

pub returns-then-still-clause-net : goal.returns-then-still-clause-net
returns-then-still-clause-net g c = (invariant_of-self-then-still g c).net.kept.state.net

pub returns-then-still-clause-found : goal.returns-then-still-clause-found
returns-then-still-clause-found g c =
    let n = c.self.inside in
    let l : c.in_ok-number.number < length n.contractors.items = omega (arith, slice_get_within n.waiting c.in_ok-number.number true c.in_ok-number.ensures.0, c.self.invariant.net.kept.state.net.beside) in
    (c.index.result.now, inside-there n.contractors.items c.in_ok-number.number c.index.result.now l c.index.ensures, c.still.ensures.yes c.if-still.true)

pub returns-then-still-clause-some : goal.returns-then-still-clause-some
returns-then-still-clause-some g c =
    let n = c.self.inside in
    let t = c.in_ok-number.ensures in
    let m = ap (λ (v : NetState g.row.C.Denot). count_by (λ w. w) v.waiting) c.self.view_is in
    (omega (arith, count-rest n.waiting c.in_ok-number.number t.0, m), c.still.ensures.step)

pub invariant_of-self-else-still : goal.invariant_of-self-else-still
invariant_of-self-else-still g c =
    let K = g.C.Contractor in
    let T = g.row.C.Denot in
    let n = c.self.inside in
    let t = c.in_ok-number.ensures in
    let l : c.in_ok-number.number < length n.contractors.items = omega (arith, slice_get_within n.waiting c.in_ok-number.number true t.0, c.self.invariant.net.kept.state.net.beside) in
    record {
      net = subst (λ (ws : List Bool). IsNetKept K.projections K.scope K.fits (record { store = n.store; contractors = n.contractors.items; waiting = ws }) n.readers n.entries n.count) (sym t.1) record {
        kept = kept-rested (Option T) (of_place K.projections) (of_place K.scope) (fits_place K.fits) (below T K.projections K.scope K.fits g.met.C.Contractor.fits_below) n.store n.contractors.items n.waiting n.readers n.entries c.in_ok-number.number
            c.index.result.now c.self.invariant.net.kept (inside-there n.contractors.items c.in_ok-number.number c.index.result.now l c.index.ensures) (c.still.ensures.no c.if-still.false);
        there = there-rested n.contractors.items n.waiting c.in_ok-number.number c.self.invariant.net.there;
        count = c.self.invariant.net.count;
      };
      marks = c.self.invariant.marks;
    }

pub returns-clause-net : goal.returns-clause-net
returns-clause-net g c = (invariant_of-self-else-still g c).net.kept.state.net

pub returns-clause-some : goal.returns-clause-some
returns-clause-some g c =
    let n = c.self.inside in
    let t = c.in_ok-number.ensures in
    let m = ap (λ (v : NetState g.row.C.Denot). count_by (λ w. w) v.waiting) c.self.view_is in
    (omega (arith, count-rest n.waiting c.in_ok-number.number t.0, m), c.still.ensures.step)

pub returns-clause-rests : goal.returns-clause-rests
returns-clause-rests g c =
    let n = c.self.inside in
    let t = c.in_ok-number.ensures in
    let m = ap (λ (v : NetState g.row.C.Denot). count_by (λ w. w) v.waiting) c.self.view_is in
    λ e. omega (arith, count-rest n.waiting c.in_ok-number.number t.0, m, ap (λ (ws : List Bool). count_by (λ w. w) ws) t.1)

pub still-requires-clause-there : goal.still-requires-clause-there
still-requires-clause-there g c =
    let n = c.self.inside in
    let k = c.in_ok-number.number in
    let t = c.in_ok-number.ensures in
    let l : k < length n.contractors.items = omega (arith, slice_get_within n.waiting k true t.0, c.self.invariant.net.kept.state.net.beside) in
    place-there n.contractors.items k c.index.result.now (inside-there n.contractors.items k c.index.result.now l c.index.ensures) (c.self.invariant.net.there k t.0)

pub still-requires-clause-clean : goal.still-requires-clause-clean
still-requires-clause-clean g c =
    let n = c.self.inside in
    let k = c.in_ok-number.number in
    let t = c.in_ok-number.ensures in
    let l : k < length n.contractors.items = omega (arith, slice_get_within n.waiting k true t.0, c.self.invariant.net.kept.state.net.beside) in
    let inside : k < length n.marks.items = omega (arith, l, c.self.invariant.marks.len) in
    clean-place g.C.Parted.parts g.C.Parted.part n.store n.contractors.items n.marks.items k c.index.result.now c.index-2.result.now c.self.invariant.marks
    (inside-there n.contractors.items k c.index.result.now l c.index.ensures) (marks-read n.marks.items k c.index-2.result.now inside c.index-2.ensures)

pub wake-requires : goal.wake-requires
wake-requires g c =
    let n = c.self.inside in
    let k = c.in_ok-number.number in
    let t = c.in_ok-number.ensures in
    omega (arith, slice_get_within n.waiting k true t.0, ap length t.1, length-set n.waiting k false)
