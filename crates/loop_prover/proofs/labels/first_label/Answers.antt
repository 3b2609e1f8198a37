use Rattle.std.proofs.Common.{◌≡◌, Some, None, ℤ, ◌≤ℤ◌, ◌<ℤ◌, neg_ℤ, int_le, arith, true, false, refl}
use Rattle.std.proofs.lemmas.Int.{ints}
use Rattle.tube_spec.specs.Span.{Span}
use Rattle.loop_degree.specs.declared.labels.Label.TheVariants.{West, North, South}
use Rattle.loop_prover.specs.First.{first_label}
use Rattle.loop_prover.proofs.labels.first_label.Goals as goal

not-le : (a b : ℤ) → b <ℤ a → int_le a b ≡ false
not-le a b h = grind (arith, ints)

is-le : (a b : ℤ) → a ≤ℤ b → int_le a b ≡ true
is-le a b h = grind (arith, ints)

west-first : (d e : ℤ) (dx dy : Span) → dx.lo <ℤ d → dx.hi ≤ℤ neg_ℤ d → Some West ≡ first_label d e dx dy
west-first d e dx dy p q = rw (not-le d dx.lo p, is-le dx.hi (neg_ℤ d) q) refl

north-first : (d e : ℤ) (dx dy : Span) → dx.lo <ℤ d → neg_ℤ d <ℤ dx.hi → e ≤ℤ dy.lo → Some North ≡ first_label d e dx dy
north-first d e dx dy p q r = rw (not-le d dx.lo p, not-le dx.hi (neg_ℤ d) q, is-le e dy.lo r) refl

south-first : (d e : ℤ) (dx dy : Span) → dx.lo <ℤ d → neg_ℤ d <ℤ dx.hi → dy.lo <ℤ e → dy.hi ≤ℤ neg_ℤ e → Some South ≡ first_label d e dx dy
south-first d e dx dy p q r s = rw (not-le d dx.lo p, not-le dx.hi (neg_ℤ d) q, not-le e dy.lo r, is-le dy.hi (neg_ℤ e) s) refl

none-first : (d e : ℤ) (dx dy : Span) → dx.lo <ℤ d → neg_ℤ d <ℤ dx.hi → dy.lo <ℤ e → neg_ℤ e <ℤ dy.hi → None ≡ first_label d e dx dy
none-first d e dx dy p q r s = rw (not-le d dx.lo p, not-le dx.hi (neg_ℤ d) q, not-le e dy.lo r, not-le dy.hi (neg_ℤ e) s) refl

pub returns-then-hi-d1 : goal.returns-then-hi-d1
returns-then-hi-d1 c = west-first c.args.d1 c.args.d2 c.args.dx c.args.dy (omega (arith, ints)) (omega (arith, ints))

pub returns-then-d2-lo : goal.returns-then-d2-lo
returns-then-d2-lo c = north-first c.args.d1 c.args.d2 c.args.dx c.args.dy (omega (arith, ints)) (omega (arith, ints)) (omega (arith, ints))

pub returns-then-hi-d2 : goal.returns-then-hi-d2
returns-then-hi-d2 c = south-first c.args.d1 c.args.d2 c.args.dx c.args.dy (omega (arith, ints)) (omega (arith, ints)) (omega (arith, ints)) (omega (arith, ints))

pub returns-else-hi-d2 : goal.returns-else-hi-d2
returns-else-hi-d2 c = none-first c.args.d1 c.args.d2 c.args.dx c.args.dy (omega (arith, ints)) (omega (arith, ints)) (omega (arith, ints)) (omega (arith, ints))
