use Rattle.std.proofs.Common.{◌≡◌, ◌<◌, ℕ, Option, Some, List, [], ◌++◌, IsNone, true, All, length, take, drop, sym, subst}
use Rattle.tube_spec.specs.Span.{Span}
use Rattle.tube_spec.specs.Shape.{Shape}
use Rattle.tube_store.specs.State.{State, IsStore}
use Rattle.tube_store.specs.Resets.{cell_in}
use Rattle.part_marks.specs.Marks.{Marked, marked_at}
use Rattle.part_marks.specs.Nets.{marks_at, Each, KeepsMarks}
use Rattle.ctc_network.specs.Nets.{NetState, IsNetMarked, of_place, fits_place}
use Rattle.ctc_network.specs.Resetting.{Uses, IsResetTo, IsRoused}
use Rattle.ctc_network.proofs.Marks.{each-fits, marks-back}
use Rattle.ctc_network.proofs.Restoring.{reset-to, state-is, reset-fits, restored}
use Rattle.ctc_network.proofs.net.Net.reset.Goals as goal

pub rouse-requires-clause-fits : goal.rouse-requires-clause-fits
rouse-requires-clause-fits g c =
    let K = g.C.Contractor in
    let T = g.row.C.Denot in
    let n = c.self.inside in
    let cells = c.args.cells.now in
    let cs = n.contractors.items in
    let r = reset-to cells n.store.box c.reset.new.self.box c.reset.ensures.filled c.reset.ensures.given c.reset.ensures.others in
    let is : c.reset.new.self ≡ record { shape = n.store.shape; box = Some r.0; touched = [] } = state-is c.reset.new.self n.store.shape (Some r.0) [] c.reset.ensures.shape r.1 c.reset.ensures.untouched in
    let asked = subst (λ (v : NetState T). (zs : List Span) → length zs ≡ v.store.shape.cells → IsResetTo cells v.store.box zs → All (λ d. fits_place K.fits d v.store.shape (Some zs)) v.contractors) (sym c.self.view_is) c.requires.fits in
    let fit = reset-fits K.fits n.store cs cells r.0 (subst IsStore is c.known.ensures) r.2 asked in
    subst (λ (ds : List (Option T)). Each ds (λ k d. K.fits d c.reset.new.self.shape c.reset.new.self.box)) (sym c.deref.ensures.value)
    (subst (λ (v : State). Each cs (λ k d. K.fits d v.shape v.box)) (sym is) (each-fits K.fits n.store.shape (Some r.0) cs fit))

pub invariant_of-self : goal.invariant_of-self
invariant_of-self g c =
    let K = g.C.Contractor in
    let P = g.C.Parted in
    let m = g.met.C.Contractor in
    let p = g.met.C.Parted in
    let T = g.row.C.Denot in
    let n = c.self.inside in
    let s = n.store.shape in
    let cells = c.args.cells.now in
    let cs = n.contractors.items in
    let r = reset-to cells n.store.box c.reset.new.self.box c.reset.ensures.filled c.reset.ensures.given c.reset.ensures.others in
    let is : c.reset.new.self ≡ record { shape = s; box = Some r.0; touched = [] } = state-is c.reset.new.self s (Some r.0) [] c.reset.ensures.shape r.1 c.reset.ensures.untouched in
    let store : IsStore (record { shape = s; box = Some r.0; touched = [] }) = subst IsStore is c.known.ensures in
    let asked = subst (λ (v : NetState T). (zs : List Span) → length zs ≡ v.store.shape.cells → IsResetTo cells v.store.box zs → All (λ d. fits_place K.fits d v.store.shape (Some zs)) v.contractors) (sym c.self.view_is) c.requires.fits in
    let fit = reset-fits K.fits n.store cs cells r.0 store r.2 asked in
    let roused = subst (λ (ds : List (Option T)). IsRoused (of_place K.projections) (of_place K.scope) c.reset.new.self.shape ds cells n.waiting c.rouse.new.waiting) c.deref.ensures.value c.rouse.ensures.roused in
    let marked = subst (λ (ds : List (Option T)). Each ds (λ k d. Uses cells (K.scope d c.reset.new.self.shape) (K.projections d c.reset.new.self.shape) → (i : ℕ) → i < P.parts d c.reset.new.self.shape → marked_at (marks_at c.rouse.new.marks k) i ≡ true)) c.deref.ensures.value c.rouse.ensures.marked in
    subst (λ (v : State). IsNetMarked K.projections K.scope K.fits P.parts P.part (record { store = v; contractors = cs; waiting = c.rouse.new.waiting }) n.readers n.entries n.count (take n.marks.len (c.rouse.new.marks ++ drop (length c.rouse.new.marks) n.marks.items))) (sym is)
    (subst (λ (ms : List Marked). IsNetMarked K.projections K.scope K.fits P.parts P.part (record { store = record { shape = s; box = Some r.0; touched = [] }; contractors = cs; waiting = c.rouse.new.waiting }) n.readers n.entries n.count ms)
    (sym (marks-back n.marks.items c.deref_mut.result.now c.rouse.new.marks n.marks.len c.deref_mut.ensures.value c.deref_mut.ensures.len c.rouse.ensures.kept.len))
    (restored T K.projections K.scope K.fits m.reads_only m.in_store P.parts P.part P.part_scope p.whole p.part_reads p.part_in_scope s c.self.invariant.net.kept.state.net.store.shape cells c.requires.rising
    (subst (λ (v : NetState T). All (λ q. cell_in q < v.store.shape.cells) cells) (sym c.self.view_is) c.requires.named) r.0 store.box.0 n.store.box n.store.touched cs n.waiting c.rouse.new.waiting fit
    (subst (λ (v : NetState T). IsNone v.store.box → length cells ≡ v.store.shape.cells) (sym c.self.view_is) c.requires.whole) r.2 (subst (λ (t : Shape). IsRoused (of_place K.projections) (of_place K.scope) t cs cells n.waiting c.rouse.new.waiting) c.reset.ensures.shape roused)
    n.readers n.entries n.count n.marks.items c.rouse.new.marks c.self.invariant store (subst (λ (ms : List Marked). KeepsMarks ms c.rouse.new.marks) c.deref_mut.ensures.value c.rouse.ensures.kept)
    (subst (λ (t : Shape). Each cs (λ k d. Uses cells (K.scope d t) (K.projections d t) → (i : ℕ) → i < P.parts d t → marked_at (marks_at c.rouse.new.marks k) i ≡ true)) c.reset.ensures.shape marked)))

pub returns-clause-waiting : goal.returns-clause-waiting
returns-clause-waiting g c =
    let K = g.C.Contractor in
    let T = g.row.C.Denot in
    let n = c.self.inside in
    let cells = c.args.cells.now in
    subst (λ (v : NetState T). IsRoused (of_place K.projections) (of_place K.scope) v.store.shape v.contractors cells v.waiting c.rouse.new.waiting) c.self.view_is
    (subst (λ (t : Shape). IsRoused (of_place K.projections) (of_place K.scope) t n.contractors.items cells n.waiting c.rouse.new.waiting) c.reset.ensures.shape
    (subst (λ (ds : List (Option T)). IsRoused (of_place K.projections) (of_place K.scope) c.reset.new.self.shape ds cells n.waiting c.rouse.new.waiting) c.deref.ensures.value c.rouse.ensures.roused))
