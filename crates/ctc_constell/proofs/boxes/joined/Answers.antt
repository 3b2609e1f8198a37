use Rattle.std.proofs.Common.{◌≡◌, ◌≢◌, ℕ, ◌<◌, inl, inr, None, length, slice_index_or, arith, ap₂, subst, ◌∙◌, set, length-set, get_or-set_same, get_or-set_other}
use Rattle.std.proofs.lemmas.List.{get_or_default}
use Rattle.tube_spec.specs.Hull.{join_option}
use Rattle.ctc_constell.specs.Constellations.{left_by}
use Rattle.ctc_constell.proofs.Passes.{below-or-same}
use Rattle.ctc_constell.proofs.boxes.joined.Goals as goal

pub loop-i-preserved : goal.loop-i-preserved
loop-i-preserved g c =
    let i = c.loop-i.i in
    let more = c.loop-i.more in
    let new = c.join.result in
    let inside : i < length more = omega (arith, c.loop-i.invariant.size, c.loop-i-test.true) in
    let old : i < length c.args.hulls.now = omega arith in
    let here : new ≡ join_option (slice_index_or c.args.hulls.now i None) (left_by c.args.point.now c.args.mark.now i) =
    c.join.ensures ∙ ap₂ join_option (get_or_default c.args.hulls.now i _ None old) c.left_by.ensures in
    record {
      size = length-set more i new ∙ c.loop-i.invariant.size;
      done = λ k l. elim (below-or-same k i l) [
        | inl m ↦ let ne : k ≢ i = omega (arith, m) in get_or-set_other more i k new None ne ∙ c.loop-i.invariant.done k m
        | inr e ↦ subst (λ (n : ℕ). slice_index_or (set more i new) n None ≡ join_option (slice_index_or c.args.hulls.now n None) (left_by c.args.point.now c.args.mark.now n)) e (get_or-set_same more i new None inside ∙ here)
      ];
    }
