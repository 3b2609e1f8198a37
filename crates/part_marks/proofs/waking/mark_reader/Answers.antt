use Rattle.std.proofs.Common.{◌≡◌, ◌<◌, ◌≤◌, ℕ, List, Some, None, true, Contains, length, length-set, set, sym, ap, subst, ◌∙◌, arith}
use Rattle.std.proofs.lemmas.List.{get_or-set_same}
use Rattle.part_marks.specs.Marks.{Marked, marked_at}
use Rattle.part_marks.proofs.Reaching.{no_marks, same-default, there-is, one-there, none-there, keeps-set, keeps-then}
use Rattle.part_marks.proofs.waking.mark_reader.Goals as goal

pub mark_readers-requires-clause-len : goal.mark_readers-requires-clause-len
mark_readers-requires-clause-len g c =
    let P = g.C.Parted in
    let k = c.args.number in
    let ms = c.args.marks.now in
    let s = c.args.store.now.shape in
    let there = there-is c.args.contractors.now k c.index-contractors-number.result (Some c.in-Some.c) c.requires.among c.index-contractors-number.is c.in-Some.is in
    let before = subst (λ (v : Marked). P.parts c.in-Some.c s ≤ length v.flags) (same-default ms k no_marks c.index-marks-number.result c.requires.marks) (c.requires.beside k c.in-Some.c there) in
    subst (λ (v : Marked). P.parts c.in-Some.c s ≤ length v.flags) (sym (get_or-set_same ms k c.mark_only_one.new.self c.index-marks-number-in-Some.result c.requires.marks))
    (subst (λ (n : ℕ). P.parts c.in-Some.c s ≤ n) (sym c.mark_only_one.ensures.len) before)

pub returns-in-Some-clause-kept : goal.returns-in-Some-clause-kept
returns-in-Some-clause-kept g c =
    let k = c.args.number in
    let ms = c.args.marks.now in
    let one = c.mark_only_one.new.self in
    let two = c.mark_readers.new.self in
    let there : k < length (set ms k one) = omega (arith, length-set ms k one, c.requires.marks) in
    let old = same-default ms k no_marks c.index-marks-number.result c.requires.marks in
    let now = get_or-set_same ms k one no_marks c.requires.marks in
    let now-read = get_or-set_same ms k one c.index-marks-number-in-Some.result c.requires.marks in
    keeps-then ms (set ms k one) (set (set ms k one) k two)
    (keeps-set ms k one c.requires.marks (c.mark_only_one.ensures.len ∙ ap (λ (v : Marked). length v.flags) (sym old)) (λ i h. c.mark_only_one.ensures.kept i (subst (λ (v : Marked). marked_at v i ≡ true) old h)))
    (keeps-set (set ms k one) k two there (c.mark_readers.ensures.len ∙ ap (λ (v : Marked). length v.flags) (now-read ∙ sym now)) (λ i h. c.mark_readers.ensures.kept i (subst (λ (v : Marked). marked_at v i ≡ true) (now ∙ sym now-read) h)))

pub returns-in-Some-clause-reached : goal.returns-in-Some-clause-reached
returns-in-Some-clause-reached g c d i e l reads =
    let P = g.C.Parted in
    let k = c.args.number in
    let s = c.args.store.now.shape in
    let ms = set c.args.marks.now k c.mark_only_one.new.self in
    let among : k < length ms = omega (arith, length-set c.args.marks.now k c.mark_only_one.new.self, c.requires.marks) in
    let cs = c.args.contractors.now in
    let there = there-is cs k c.index-contractors-number.result (Some c.in-Some.c) c.requires.among c.index-contractors-number.is c.in-Some.is in
    let same = one-there cs k d c.in-Some.c e there in
    subst (λ (v : Marked). marked_at v i ≡ true) (sym (get_or-set_same ms k c.mark_readers.new.self no_marks among))
    (c.mark_readers.ensures.marked i (subst (λ x. i < P.parts x s) same l) (subst (λ x. Contains (P.part_scope x s i) c.args.cell.0) same reads))

pub returns-in-None-clause-reached : goal.returns-in-None-clause-reached
returns-in-None-clause-reached g c d i e l reads =
    let k = c.args.number in
    let cs = c.args.contractors.now in
    absurd (none-there cs k d (there-is cs k c.index-contractors-number.result None c.requires.among c.index-contractors-number.is c.in-None.is) e)
