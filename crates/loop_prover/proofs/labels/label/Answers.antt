use Rattle.std.proofs.Common.{◌≡◌, Option, Some, None, List, ℤ, w64, ap, ◌∙◌, IfSome}
use Rattle.std.proofs.lemmas.Int.{to_z-of_z}
use Rattle.tube_spec.specs.Span.{Span, sub_of}
use Rattle.tube_spec.specs.Tick.{at_tick}
use Rattle.loop_degree.specs.declared.labels.Label.{Label}
use Rattle.loop_prover.specs.First.{first_label}
use Rattle.loop_prover.proofs.labels.label.Goals as goal

first-of : (box : Option (List Span)) (X Y : List Span → Span) (dx dy : Span) (d e d' e' : ℤ) (r : Option Label) → d' ≡ d → e' ≡ e → r ≡ first_label d' e' dx dy → IfSome box (λ xs. dx ≡ X xs) → IfSome box (λ xs. dy ≡ Y xs)
    → IfSome box (λ xs. r ≡ first_label d e (X xs) (Y xs))
first-of None X Y dx dy d e d' e' r p q f h k = tt
first-of (Some xs) X Y dx dy d e d' e' r p q f h k =
    f ∙ ap (λ (z : ℤ). first_label z e' dx dy) p ∙ ap (λ (z : ℤ). first_label d z dx dy) q
    ∙ ap (λ (s : Span). first_label d e s dy) h ∙ ap (λ (s : Span). first_label d e (X xs) s) k

pub returns : goal.returns
returns c =
    let s = c.args.store.now.shape in
    let q = c.args.q.now in
    let a = c.args.a in
    let b = c.args.b in
    first-of c.args.store.now.box (λ xs. sub_of (at_tick s xs q.x.0 b) (at_tick s xs q.x.0 a)) (λ xs. sub_of (at_tick s xs q.y.0 b) (at_tick s xs q.y.0 a)) c.change-dx.result c.change-dy.result
    c.args.d1 c.args.d2 _ _ c.first_label.result (to_z-of_z w64 c.args.d1 c.ranges.d1) (to_z-of_z w64 c.args.d2 c.ranges.d2) c.first_label.ensures c.change-dx.ensures.value c.change-dy.ensures.value
