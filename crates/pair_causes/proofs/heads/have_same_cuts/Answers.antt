use Rattle.std.proofs.Common.{◌≡◌, ℕ, ◌+◌, ◌<◌, get_or, sym, ◌∙◌, below_more, arith}
use Rattle.std.proofs.lemmas.List.{ext_get_or}
use Rattle.std.proofs.lemmas.Slice.Eq.{bytes_eq-Decides}
use Rattle.pair_causes.proofs.heads.have_same_cuts.Goals as goal

pub returns-else-boundary : goal.returns-else-boundary
returns-else-boundary c =
    let here : get_or c.args.first.now c.loop-i.i 0 ≡ get_or c.args.second.now c.loop-i.i 0 = sym c.boundary.ensures ∙ (c.if-boundary.false ∙ c.boundary-in-loop-i.ensures) in
    let same : (k : ℕ) → k < c.loop-i.i + 1 → get_or c.args.first.now k 0 ≡ get_or c.args.second.now k 0 = below_more _ _ c.loop-i.invariant here in
    sym ((bytes_eq-Decides c.args.first.now c.args.second.now).1 (ext_get_or 0 c.args.first.now c.args.second.now (omega arith) (λ k h. same k (omega arith))))
