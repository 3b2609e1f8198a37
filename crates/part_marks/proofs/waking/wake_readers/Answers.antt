use Rattle.std.proofs.Common.{◌≡◌, ◌<◌, ℕ, List, All, Contains, length, ◌++◌, ◌∷◌, [], rules, sym, ap, subst, ◌∙◌, append_assoc, append-nil, arith}
use Rattle.cell_readers.specs.Entries.{readers_at}
use Rattle.cell_readers.proofs.Noted.{woken-more, met-next}
use Rattle.part_marks.specs.Nets.{IsReached}
use Rattle.part_marks.proofs.Reaching.{keeps-then, reached-more}
use Rattle.part_marks.proofs.waking.wake_readers.Goals as goal

pub wake-requires : goal.wake-requires
wake-requires g c =
    let before = c.loop-number in
    let bound = c.args.readers.now.contractors in
    let numbers = subst (λ (ns : List ℕ). All (λ n. n < bound) ns) c.of-number-items.ensures.list c.of-number-items.ensures.numbers in
    met-next before.yielded before.number-iterator c.next.new.self (readers_at c.args.readers.now.readers c.args.cell.0) c.in-Some.number bound (length before.waiting) before.invariant.all c.in-Some.ensures.steps numbers (omega (arith, c.requires.waiting, before.invariant.woken.length))

pub mark_reader-requires-clause-among : goal.mark_reader-requires-clause-among
mark_reader-requires-clause-among g c =
    let before = c.loop-number in
    let bound = c.args.readers.now.contractors in
    let numbers = subst (λ (ns : List ℕ). All (λ n. n < bound) ns) c.of-number-items.ensures.list c.of-number-items.ensures.numbers in
    met-next before.yielded before.number-iterator c.next.new.self (readers_at c.args.readers.now.readers c.args.cell.0) c.in-Some.number bound (length c.args.contractors.now) before.invariant.all c.in-Some.ensures.steps numbers c.requires.among

pub mark_reader-requires-clause-marks : goal.mark_reader-requires-clause-marks
mark_reader-requires-clause-marks g c =
    let before = c.loop-number in
    let bound = c.args.readers.now.contractors in
    let numbers = subst (λ (ns : List ℕ). All (λ n. n < bound) ns) c.of-number-items.ensures.list c.of-number-items.ensures.numbers in
    met-next before.yielded before.number-iterator c.next.new.self (readers_at c.args.readers.now.readers c.args.cell.0) c.in-Some.number bound (length before.marks) before.invariant.all c.in-Some.ensures.steps numbers (omega (arith, c.requires.marks, before.invariant.kept.len))

pub loop-number-preserved : goal.loop-number-preserved
loop-number-preserved g c =
    let P = g.C.Parted in
    let before = c.loop-number in
    let n = c.in-Some.number in
    let cell = c.args.cell.0 in
    let bound = c.args.readers.now.contractors in
    let numbers = subst (λ (ns : List ℕ). All (λ m. m < bound) ns) c.of-number-items.ensures.list c.of-number-items.ensures.numbers in
    let named = met-next before.yielded before.number-iterator c.next.new.self (readers_at c.args.readers.now.readers cell) n bound (length before.waiting) before.invariant.all c.in-Some.ensures.steps numbers (omega (arith, c.requires.waiting, before.invariant.woken.length)) in
    record {
      woken = woken-more before.yielded n c.args.waiting.now before.waiting c.wake.new.self before.invariant.woken named c.wake.ensures;
      all = append_assoc before.yielded (n ∷ []) c.next.new.self ∙ ap (λ (xs : List ℕ). before.yielded ++ xs) (sym c.in-Some.ensures.steps) ∙ before.invariant.all;
      kept = keeps-then c.args.marks.now before.marks c.mark_reader.new.marks before.invariant.kept c.mark_reader.ensures.kept;
      reached = reached-more P.parts P.part_scope c.args.store.now.shape c.args.contractors.now before.marks c.mark_reader.new.marks cell before.yielded n c.mark_reader.ensures.kept before.invariant.reached c.mark_reader.ensures.reached;
    }

pub returns-clause-reached : goal.returns-clause-reached
returns-clause-reached g c =
    let P = g.C.Parted in
    let after = c.loop-number in
    let readers = readers_at c.args.readers.now.readers c.args.cell.0 in
    let none : after.number-iterator ≡ [] = search rules in
    let all : after.yielded ≡ readers = sym (append-nil after.yielded) ∙ ap (λ (xs : List ℕ). after.yielded ++ xs) (sym none) ∙ after.invariant.all in
    subst (λ (ns : List ℕ). (k : ℕ) → Contains ns k → IsReached P.parts P.part_scope c.args.store.now.shape c.args.contractors.now after.marks c.args.cell.0 k) all after.invariant.reached
