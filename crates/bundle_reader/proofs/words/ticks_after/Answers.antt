use Rattle.std.proofs.Common.{refl, ap₂, ℕ}
use Rattle.bundle_reader.proofs.Fronts.{built, no_part, no_rest}
use Rattle.bundle_reader.proofs.Rows.{ticks_parts}
use Rattle.bundle_reader.proofs.words.ticks_after.Goals as goal

pub returns-in_err-a : goal.returns-in_err-a
returns-in_err-a c = rw (c.from_residual.ensures) (no_part (ticks_parts c.args.word.now c.args.end) c.args.bytes.now c.in_err-a.ensures)

pub returns-in_err-b : goal.returns-in_err-b
returns-in_err-b c =
    rw (c.from_residual-in_err-b.ensures)
    (no_rest (ticks_parts c.args.word.now c.args.end) c.args.bytes.now c.in_ok-a.a c.in_ok-a.rest.now c.in_ok-a.ensures (λ w s q k e. c.in_err-b.ensures w.1 s q.1 tt e))

pub returns : goal.returns
returns c =
    built (ticks_parts c.args.word.now c.args.end) c.args.bytes.now c.in_ok-a.a c.in_ok-a.rest.now c.in_ok-a.ensures (c.in_ok-a.a, c.in_ok-b.b) c.in_ok-b.rest.now
    (c.in_ok-a.ensures.right, c.in_ok-b.ensures.right) refl c.in_ok-b.ensures.whole
    (λ w t q k first tail. let last = c.in_ok-b.ensures.only w.1 t q.1 tt tail in (ap₂ (λ a b. let x : ℕ × ℕ = (a, b) in x) first last.0, last.1))
