use Rattle.std.proofs.Common.{arith, ◌≡◌, List, ℕ, ◌++◌, ◌∷◌, [], sym, ap, subst, ◌∙◌}
use Rattle.tube_spec.specs.Grid.{IsGrid}
use Rattle.slice_gates.specs.Cuts.{multiples, uniform_cuts}
use Rattle.slice_gates.proofs.Uniform.{IsGrid-uniform}
use Rattle.slice_gates.proofs.Grid.uniform.Goals as goal

pub invariant_of-result : goal.invariant_of-result
invariant_of-result c =
    let end : c.loop-i.i ≡ c.div_ceil-count.result = omega arith in
    let all : c.push_reserved-2.new.self.items ≡ uniform_cuts c.args.ticks c.args.width =
    c.push_reserved-2.ensures.items ∙ ap (λ (l : List ℕ). l ++ c.args.ticks ∷ []) (c.loop-i.invariant.made ∙ ap (multiples c.args.width) (end ∙ c.div_ceil-count.ensures)) in
    subst IsGrid (sym all) (IsGrid-uniform c.args.ticks c.args.width c.requires.some_tick c.requires.few_ticks c.requires.some_width)
