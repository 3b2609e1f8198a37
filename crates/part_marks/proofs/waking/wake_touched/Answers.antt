use Rattle.std.proofs.Common.{◌≡◌, ◌||◌, ℕ, List, [], Bool, false, Contains, rules, sym, ap, subst, ◌∙◌, get_or}
use Rattle.std.specs.List.{list_any}
use Rattle.tube_spec.specs.Shape.{Shape}
use Rattle.tube_store.specs.State.{State}
use Rattle.cell_readers.specs.Entries.{is_reader, readers_at}
use Rattle.part_marks.specs.Nets.{IsReached}
use Rattle.part_marks.proofs.Reaching.{keeps-then, taken-cell, taken-all, or-swap}
use Rattle.part_marks.proofs.waking.wake_touched.Goals as goal

pub loop-cell-preserved : goal.loop-cell-preserved
loop-cell-preserved g c =
    let P = g.C.Parted in
    let before = c.loop-cell in
    let readers = c.args.readers.now.readers in
    let left = c.next_touched.new.self.touched in
    let taken = c.in-Some.ensures.taken in
    let woken = c.wake_readers.ensures.woken in
    let store = taken.1 ∙ ap (λ (s : State). let t : State = record s { touched = left } in t) before.invariant.store in
    record {
      store = store;
      len = woken.length ∙ before.invariant.len;
      each = λ k.
          ap (λ (b : Bool). b || list_any (is_reader readers k) left) (woken.waits k)
          ∙ or-swap (is_reader readers k c.in-Some.cell.0) (get_or before.waiting k false) (list_any (is_reader readers k) left)
          ∙ ap (λ (xs : List ℕ). get_or before.waiting k false || list_any (is_reader readers k) xs) (sym taken.0) ∙ before.invariant.each k;
      kept = keeps-then c.args.marks.now before.marks c.wake_readers.new.marks before.invariant.kept c.wake_readers.ensures.kept;
      reached = taken-cell P.parts P.part_scope c.args.store.now.shape c.args.contractors.now before.marks c.wake_readers.new.marks readers c.args.store.now.touched before.store.touched left c.in-Some.cell.0 c.wake_readers.ensures.kept taken.0 before.invariant.reached
          (subst (λ (s : Shape). (k : ℕ) → Contains (readers_at readers c.in-Some.cell.0) k → IsReached P.parts P.part_scope s c.args.contractors.now c.wake_readers.new.marks c.in-Some.cell.0 k) (ap (λ (s : State). s.shape) store) c.wake_readers.ensures.reached);
    }

pub returns-clause-reached : goal.returns-clause-reached
returns-clause-reached g c =
    let P = g.C.Parted in
    let after = c.loop-cell in
    let none : after.store.touched ≡ [] = search rules in
    taken-all P.parts P.part_scope c.args.store.now.shape c.args.contractors.now after.marks c.args.readers.now.readers c.args.store.now.touched after.store.touched none after.invariant.reached
