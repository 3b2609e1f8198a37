use Rattle.std.proofs.Common.{Option, sym, subst}
use Rattle.tube_spec.specs.Owner.{VariableIn}
use Rattle.tube_store.specs.State.{State, IsStore}
use Rattle.ctc_network.specs.Nets.{IsNetKept, HasMarks, of_place, fits_place}
use Rattle.ctc_network.proofs.Keeping.{kept-grown}
use Rattle.ctc_network.proofs.Holes.{below, reads-only, local, in-store, more, same-list}
use Rattle.ctc_network.proofs.Marks.{each-fits, marks-grown}
use Rattle.ctc_network.proofs.net.Net.add_var.Goals as goal

pub invariant_of-self-2 : goal.invariant_of-self-2
invariant_of-self-2 g c =
    let K = g.C.Contractor in
    let m = g.met.C.Contractor in
    let T = g.row.C.Denot in
    let n = c.self.inside in
    let grown = c.in_ok-id.ensures.ok in
    let P = g.C.Parted in
    let p = g.met.C.Parted in
    record {
      net = subst (λ (s : State). IsNetKept K.projections K.scope K.fits (record { store = s; contractors = n.contractors.items; waiting = n.waiting }) n.readers n.entries n.count) (sym grown) record {
        kept = kept-grown (Option T) (of_place K.projections) (of_place K.scope) (fits_place K.fits) (below T K.projections K.scope K.fits m.fits_below) (reads-only T K.projections K.scope K.fits m.reads_only) (local T K.projections K.scope K.fits m.fits_local)
            (in-store T K.projections K.scope K.fits m.in_store) (more T K.projections K.scope K.fits m.fits_more) (same-list T K.projections K.scope K.fits K.projections m.same_projections) (same-list T K.projections K.scope K.fits K.scope m.same_scope)
            n.store (VariableIn c.args.range) n.contractors.items n.waiting n.readers n.entries c.self.invariant.net.kept (subst IsStore grown c.known.ensures);
        there = c.self.invariant.net.there;
        count = c.self.invariant.net.count;
      };
      marks = subst (λ (s : State). HasMarks P.parts P.part s n.contractors.items n.marks.items) (sym grown)
          (marks-grown T K.projections K.scope K.fits P.parts P.part P.part_scope m.fits_local m.in_store p.whole p.part_reads p.part_in_scope p.same_parts p.same_part n.store (VariableIn c.args.range) n.contractors.items n.marks.items
          c.self.invariant.net.kept.state.net.store (each-fits K.fits n.store.shape n.store.box n.contractors.items c.self.invariant.net.kept.state.net.fit) c.self.invariant.marks);
    }
