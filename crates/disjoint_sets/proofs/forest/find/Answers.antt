use Rattle.std.proofs.Common.{arith, refl}
use Rattle.disjoint_sets.specs.Trees.{IsParent}
use Rattle.disjoint_sets.proofs.Ways.{joined-self}
use Rattle.disjoint_sets.proofs.Trees.{keeps-self, keeps-trans, joined-on}
use Rattle.disjoint_sets.proofs.forest.find.Goals as goal

pub loop-parents-init : goal.loop-parents-init
loop-parents-init c = record { keeps = keeps-self c.args.parents.now c.requires.down; within = c.requires.within; joined = joined-self (IsParent c.args.parents.now) c.args.from c.args.from refl }

pub loop-parents-preserved : goal.loop-parents-preserved
loop-parents-preserved c = record {
  keeps = keeps-trans c.args.parents.now c.loop-parents.parents c.halve-at.new.parents c.loop-parents.invariant.keeps c.halve-at.ensures.keeps;
  within = omega (arith, c.halve-at.ensures.less, c.halve-at.ensures.keeps.len, c.loop-parents.invariant.within);
  joined = joined-on c.loop-parents.parents c.halve-at.new.parents c.args.from c.loop-parents.at c.halve-at.result c.halve-at.ensures.keeps c.loop-parents.invariant.within c.halve-at.ensures.up c.loop-parents.invariant.joined;
}
