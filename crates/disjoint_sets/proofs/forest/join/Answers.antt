use Rattle.std.proofs.Common.{◌<◌, length, arith, ap, slice_set, max, min, ℕ, ◌∙◌}
use Rattle.disjoint_sets.proofs.Trees.{joins-found, written-set, max-below}
use Rattle.disjoint_sets.proofs.forest.join.Goals as goal

pub returns : goal.returns
returns c =
    let a : c.find-a.result < length c.find-b.new.parents = omega (arith, c.find-a.ensures.within, c.find-b.ensures.keeps.len) in
    joins-found c.args.parents.now c.find-a.new.parents c.find-b.new.parents _ c.args.i c.args.j c.find-a.result c.find-b.result
    c.find-a.ensures.keeps c.find-a.ensures.within c.find-a.ensures.root c.find-a.ensures.joined c.find-b.ensures.keeps c.find-b.ensures.within c.find-b.ensures.root c.find-b.ensures.joined
    (written-set c.find-b.new.parents (slice_set c.find-b.new.parents c.max.result c.min.result) (max c.find-a.result c.find-b.result) (min c.find-a.result c.find-b.result) (max-below c.find-a.result c.find-b.result (length c.find-b.new.parents) a c.find-b.ensures.within)
    (ap (λ (k : ℕ). slice_set c.find-b.new.parents k c.min.result) c.max.ensures ∙ ap (λ (k : ℕ). slice_set c.find-b.new.parents (max c.find-a.result c.find-b.result) k) c.min.ensures))
