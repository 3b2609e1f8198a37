use Rattle.std.proofs.Common.{◌<◌, ℕ, List, All, length, ◌++◌, ◌∷◌, [], sym, ap, subst, ◌∙◌, append_assoc, arith}
use Rattle.cell_readers.specs.Entries.{readers_at}
use Rattle.cell_readers.proofs.Noted.{woken-more, met-next}
use Rattle.cell_readers.proofs.waking.wake_readers.Goals as goal

pub wake-requires : goal.wake-requires
wake-requires c =
    let before = c.loop-number in
    let bound = c.args.readers.now.contractors in
    let numbers = subst (λ (ns : List ℕ). All (λ n. n < bound) ns) c.of-number-items.ensures.list c.of-number-items.ensures.numbers in
    met-next before.yielded before.number-iterator c.next.new.self (readers_at c.args.readers.now.readers c.args.cell.0) c.in-Some.number bound (length before.waiting) before.invariant.all c.in-Some.ensures.steps numbers (omega (arith, c.requires, before.invariant.woken.length))

pub loop-number-preserved : goal.loop-number-preserved
loop-number-preserved c =
    let before = c.loop-number in
    let n = c.in-Some.number in
    let bound = c.args.readers.now.contractors in
    let numbers = subst (λ (ns : List ℕ). All (λ m. m < bound) ns) c.of-number-items.ensures.list c.of-number-items.ensures.numbers in
    let named = met-next before.yielded before.number-iterator c.next.new.self (readers_at c.args.readers.now.readers c.args.cell.0) n bound (length before.waiting) before.invariant.all c.in-Some.ensures.steps numbers (omega (arith, c.requires, before.invariant.woken.length)) in
    record {
      woken = woken-more before.yielded n c.args.waiting.now before.waiting c.wake.new.self before.invariant.woken named c.wake.ensures;
      all = append_assoc before.yielded (n ∷ []) c.next.new.self ∙ ap (λ (xs : List ℕ). before.yielded ++ xs) (sym c.in-Some.ensures.steps) ∙ before.invariant.all;
    }
