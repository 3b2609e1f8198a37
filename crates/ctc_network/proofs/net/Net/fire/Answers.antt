use Rattle.std.proofs.Common.{◌≡◌, ℕ, Contains, ◌<◌, Option, Some, List, length, sym, ap, subst, refl, ◌∙◌, slice_get, set, IfSome, false, flat_map, arith}
use Rattle.ctc_core.specs.Answers.{MatchRevised}
use Rattle.ctc_core.specs.declared.Revised.TheVariants.{Narrowed}
use Rattle.cell_readers.specs.Entries.{readers_at}
use Rattle.part_marks.specs.Marks.{Marked}
use Rattle.part_marks.specs.Nets.{IsReached}
use Rattle.ctc_network.specs.Nets.{NetState, HasMarks, IsThere, of_place, fits_place}
use Rattle.ctc_network.specs.Settling.{Fires, IsNarrowedBy, IsWoken}
use Rattle.ctc_network.proofs.Firing.{noted-net, noted-narrowed, noted-fires, noted-woken, noted-same, kept-table, quiet-itself, at-some}
use Rattle.ctc_network.proofs.Holes.{below, reads-only, there-within, noted-there, place-there}
use Rattle.ctc_network.proofs.Waking.{inside-there}
use Rattle.ctc_network.proofs.Marks.{beside-after, clean-place, fits-after, marks-back, marks-noted, marks-read}
use Rattle.ctc_network.proofs.net.Net.fire.Goals as goal

pub invariant_of-self : goal.invariant_of-self
invariant_of-self g c =
    let K = g.C.Contractor in
    let m = g.met.C.Contractor in
    let T = g.row.C.Denot in
    let n = c.self.inside in
    let k = c.args.id.0 in
    let h : IsThere n.contractors.items k = subst (λ (v : NetState T). IsThere v.contractors k) (sym c.self.view_is) c.requires in
    let l : k < length n.contractors.items = there-within n.contractors.items k h in
    let there : slice_get n.contractors.items k ≡ Some c.index.result.now = inside-there n.contractors.items k c.index.result.now l c.index.ensures in
    let r = c.revise-answer.ensures.revised in
    let P = g.C.Parted in
    let p = g.met.C.Parted in
    let inside : k < length n.marks.items = omega (arith, l, c.self.invariant.marks.len) in
    let written : List Marked = set n.marks.items k c.revise-answer.new.marks in
    let reached = subst (λ (ks : List (Option T)). c.revise-answer.result ≡ Narrowed → (cell j : ℕ) → Contains c.revise-answer.new.store.touched cell → Contains (readers_at n.readers.readers cell) j → IsReached P.parts P.part_scope c.revise-answer.new.store.shape ks c.note.new.marks cell j)
    c.deref.ensures.value c.note.ensures.reached in
    record {
      net = record {
        kept = record {
          state = noted-net (Option T) (of_place K.projections) (of_place K.scope) (fits_place K.fits) (below T K.projections K.scope K.fits m.fits_below) (reads-only T K.projections K.scope K.fits m.reads_only) n.store c.revise-answer.new.store n.contractors.items n.waiting n.waiting k c.index.result.now c.self.invariant.net.kept.state there
              refl (quiet-itself n.waiting k) refl
              n.readers.readers c.self.invariant.net.kept.table_of.readers c.revise-answer.result c.note.new.store c.note.new.waiting r c.note.ensures.notes;
          table_of = kept-table (of_place K.scope) n.contractors.items n.store.shape c.note.new.store.shape n.readers n.entries
              ((noted-same c.revise-answer.result k n.readers.readers c.revise-answer.new.store c.note.new.store n.waiting c.note.new.waiting c.note.ensures.notes).0 ∙ r.revised.shape) c.self.invariant.net.kept.table_of;
        };
        there = noted-there K.scope n.store.shape n.contractors.items n.readers.readers c.self.invariant.net.kept.table_of.readers c.revise-answer.result k c.revise-answer.new.store c.note.new.store n.waiting c.note.new.waiting
            h c.self.invariant.net.there c.note.ensures.notes;
        count = c.self.invariant.net.count;
      };
      marks = subst (λ (ms : List Marked). HasMarks P.parts P.part c.note.new.store n.contractors.items ms) (sym (marks-back written c.deref_mut.result.now c.note.new.marks n.marks.len c.deref_mut.ensures.value c.deref_mut.ensures.len c.note.ensures.kept.len))
          (marks-noted T K.projections K.scope K.fits P.parts P.part P.part_scope m.fits_below p.whole p.part_reads p.part_in_scope n.store c.revise-answer.new.store c.note.new.store n.contractors.items n.readers.readers k c.index.result.now n.marks.items c.deref_mut.result.now
          c.note.new.marks c.revise-answer.new.marks c.revise-answer.result n.waiting c.note.new.waiting (place-there n.contractors.items k c.index.result.now there h) there c.self.invariant.net.kept.state.net.fit c.self.invariant.net.kept.state.drained c.self.invariant.marks inside
          (c.revise-answer.ensures.len ∙ ap (λ (v : Marked). length v.flags) (marks-read n.marks.items k c.index_mut.result.now inside c.index_mut.ensures.value)) c.deref_mut.ensures.value c.note.ensures.kept c.self.invariant.net.kept.table_of.readers r reached
          c.note.ensures.notes);
    }

pub returns-clause-fired : goal.returns-clause-fired
returns-clause-fired g c =
    let K = g.C.Contractor in
    let m = g.met.C.Contractor in
    let T = g.row.C.Denot in
    let n = c.self.inside in
    let k = c.args.id.0 in
    let h : IsThere n.contractors.items k = subst (λ (v : NetState T). IsThere v.contractors k) (sym c.self.view_is) c.requires in
    let l : k < length n.contractors.items = there-within n.contractors.items k h in
    let there : slice_get n.contractors.items k ≡ Some c.index.result.now = inside-there n.contractors.items k c.index.result.now l c.index.ensures in
    subst (λ (v : NetState T). IfSome (slice_get v.contractors k) (λ d. Fires (of_place K.projections d v.store.shape) v.store c.note.new.store c.revise-answer.result)) c.self.view_is
    (at-some (λ d. Fires (of_place K.projections d n.store.shape) n.store c.note.new.store c.revise-answer.result) (slice_get n.contractors.items k) c.index.result.now there
    (noted-fires (Option T) (of_place K.projections) (of_place K.scope) (fits_place K.fits) (below T K.projections K.scope K.fits m.fits_below) (reads-only T K.projections K.scope K.fits m.reads_only) (of_place K.projections c.index.result.now n.store.shape) c.revise-answer.result k n.readers.readers n.store c.revise-answer.new.store c.note.new.store n.waiting c.note.new.waiting
    c.revise-answer.ensures.revised c.note.ensures.notes))

pub returns-clause-narrowed : goal.returns-clause-narrowed
returns-clause-narrowed g c =
    let K = g.C.Contractor in
    let m = g.met.C.Contractor in
    let T = g.row.C.Denot in
    let n = c.self.inside in
    let k = c.args.id.0 in
    let h : IsThere n.contractors.items k = subst (λ (v : NetState T). IsThere v.contractors k) (sym c.self.view_is) c.requires in
    let l : k < length n.contractors.items = there-within n.contractors.items k h in
    let there : slice_get n.contractors.items k ≡ Some c.index.result.now = inside-there n.contractors.items k c.index.result.now l c.index.ensures in
    subst (λ (v : NetState T). IsNarrowedBy (flat_map (λ d. of_place K.projections d v.store.shape) v.contractors) v.store c.note.new.store) c.self.view_is
    (noted-narrowed (Option T) (of_place K.projections) (of_place K.scope) (fits_place K.fits) (below T K.projections K.scope K.fits m.fits_below) (reads-only T K.projections K.scope K.fits m.reads_only) n.contractors.items c.index.result.now c.revise-answer.result k n.readers.readers n.store c.revise-answer.new.store c.note.new.store n.waiting c.note.new.waiting there
    c.revise-answer.ensures.revised c.note.ensures.notes)

pub returns-clause-waiting : goal.returns-clause-waiting
returns-clause-waiting g c =
    let K = g.C.Contractor in
    let m = g.met.C.Contractor in
    let T = g.row.C.Denot in
    let n = c.self.inside in
    let k = c.args.id.0 in
    let h : IsThere n.contractors.items k = subst (λ (v : NetState T). IsThere v.contractors k) (sym c.self.view_is) c.requires in
    let l : k < length n.contractors.items = there-within n.contractors.items k h in
    let there : slice_get n.contractors.items k ≡ Some c.index.result.now = inside-there n.contractors.items k c.index.result.now l c.index.ensures in
    let us = c.note.new.waiting in
    subst (λ (v : NetState T). MatchRevised c.revise-answer.result (us ≡ set v.waiting k false) (IsWoken (of_place K.scope) v.store.shape v.contractors v.store.box c.note.new.store.box k v.waiting us) (us ≡ v.waiting)) c.self.view_is
    (noted-woken (Option T) (of_place K.projections) (of_place K.scope) (fits_place K.fits) (below T K.projections K.scope K.fits m.fits_below) (reads-only T K.projections K.scope K.fits m.reads_only) n.store c.revise-answer.new.store n.contractors.items n.waiting n.waiting k c.index.result.now c.self.invariant.net.kept.state there
    refl (quiet-itself n.waiting k) refl n.readers.readers c.self.invariant.net.kept.table_of.readers c.revise-answer.result c.note.new.store us c.revise-answer.ensures.revised c.note.ensures.notes)

pub revise-answer-requires-clause-there : goal.revise-answer-requires-clause-there
revise-answer-requires-clause-there g c =
    let T = g.row.C.Denot in
    let n = c.self.inside in
    let k = c.args.id.0 in
    let h : IsThere n.contractors.items k = subst (λ (v : NetState T). IsThere v.contractors k) (sym c.self.view_is) c.requires in
    place-there n.contractors.items k c.index.result.now (inside-there n.contractors.items k c.index.result.now (there-within n.contractors.items k h) c.index.ensures) h

pub revise-answer-requires-clause-clean : goal.revise-answer-requires-clause-clean
revise-answer-requires-clause-clean g c =
    let K = g.C.Contractor in
    let T = g.row.C.Denot in
    let n = c.self.inside in
    let k = c.args.id.0 in
    let h : IsThere n.contractors.items k = subst (λ (v : NetState T). IsThere v.contractors k) (sym c.self.view_is) c.requires in
    let l : k < length n.contractors.items = there-within n.contractors.items k h in
    let inside : k < length n.marks.items = omega (arith, l, c.self.invariant.marks.len) in
    clean-place g.C.Parted.parts g.C.Parted.part n.store n.contractors.items n.marks.items k c.index.result.now c.index_mut.result.now c.self.invariant.marks
    (inside-there n.contractors.items k c.index.result.now l c.index.ensures) (marks-read n.marks.items k c.index_mut.result.now inside c.index_mut.ensures.value)

pub note-requires-clause-number : goal.note-requires-clause-number
note-requires-clause-number g c =
    let K = g.C.Contractor in
    let T = g.row.C.Denot in
    let n = c.self.inside in
    let k = c.args.id.0 in
    let h : IsThere n.contractors.items k = subst (λ (v : NetState T). IsThere v.contractors k) (sym c.self.view_is) c.requires in
    let l : k < length n.contractors.items = there-within n.contractors.items k h in
    omega (arith, l, c.self.invariant.net.kept.state.net.beside)

pub note-requires-clause-fits : goal.note-requires-clause-fits
note-requires-clause-fits g c =
    let K = g.C.Contractor in
    let n = c.self.inside in
    let r = c.revise-answer.ensures.revised.revised in
    fits-after K.fits g.met.C.Contractor.fits_below n.store c.revise-answer.new.store n.contractors.items c.deref.result.now c.deref.ensures.value r.shape r.below c.self.invariant.net.kept.state.net.fit

pub note-requires-clause-beside : goal.note-requires-clause-beside
note-requires-clause-beside g c =
    let K = g.C.Contractor in
    let T = g.row.C.Denot in
    let n = c.self.inside in
    let k = c.args.id.0 in
    let h : IsThere n.contractors.items k = subst (λ (v : NetState T). IsThere v.contractors k) (sym c.self.view_is) c.requires in
    let l : k < length n.contractors.items = there-within n.contractors.items k h in
    let inside : k < length n.marks.items = omega (arith, l, c.self.invariant.marks.len) in
    beside-after g.C.Parted.parts g.C.Parted.part n.store c.revise-answer.new.store n.contractors.items c.deref.result.now n.marks.items c.deref_mut.result.now k c.revise-answer.new.marks c.deref.ensures.value c.revise-answer.ensures.revised.revised.shape
    c.deref_mut.ensures.value inside (c.revise-answer.ensures.len ∙ ap (λ (v : Marked). length v.flags) (marks-read n.marks.items k c.index_mut.result.now inside c.index_mut.ensures.value)) c.self.invariant.marks
