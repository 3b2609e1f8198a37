use Rattle.std.proofs.Common.{◌≡◌, ℕ, List, rules, length, ap, slice_index, ◌∙◌}
use Rattle.tplane_paver.proofs.Gathering.{gather-start, gather-more, set-before}
use Rattle.tplane_paver.proofs.Reaching.{gathered-components}
use Rattle.tplane_paver.proofs.classes.gather.Goals as goal

pub loop-i-init : goal.loop-i-init
loop-i-init c = gather-start c.args.runs.now c.args.parents.now c.in_ok-labels.labels.items c.new-sets.result.items c.in_ok-labels.ensures.items c.new-sets.ensures.items

pub add-requires-clause-later : goal.add-requires-clause-later
add-requires-clause-later c = set-before c.args.runs.now c.args.parents.now c.loop-i.i c.loop-i.labels.items c.loop-i.sets.items c.label_of-label.result c.requires.order c.loop-i-test.true c.loop-i.invariant

pub loop-i-preserved : goal.loop-i-preserved
loop-i-preserved c =
    let len : c.len.result ≡ length c.loop-i.sets.items = search rules in
    gather-more c.args.runs.now c.args.parents.now c.loop-i.i c.loop-i.labels.items c.push.new.self.items c.loop-i.sets.items c.add.new.sets.items c.label_of-label.result
    c.requires.order c.loop-i-test.true c.requires.swept.len c.requires.swept.down c.requires.swept.sound c.loop-i.invariant
    (record {
      root = λ e. c.label_of-label.ensures.root e ∙ len;
      child = λ ne. c.label_of-label.ensures.child ne ∙ ap (λ (l : List ℕ). slice_index l (slice_index c.args.parents.now c.loop-i.i)) c.deref.ensures.value;
    }) c.in_ok-add.ensures c.in_ok-push.ensures.items

pub returns : goal.returns
returns c = gathered-components c.args.runs.now c.args.parents.now c.loop-i.i c.loop-i.labels.items c.loop-i.sets.items c.requires.order c.loop-i-test.false c.loop-i.auto.i-end c.requires.swept c.loop-i.invariant
