use Rattle.bundle_reader.proofs.Lists.{all_read, one_more, shorter}
use Rattle.bundle_reader.proofs.many.all.Goals as goal

pub loop-items-preserved : goal.loop-items-preserved
loop-items-preserved g c =
    rw (c.in_ok-push.ensures.items)
    (one_more g.T.Told.text g.T.Told.IsTold c.args.bytes.now c.loop-items.rest.now c.loop-items.items.items c.loop-items.invariant c.in-Some.item c.in-Some.others.now (rw c.in-Some.is at c.in_ok-item.ensures))

pub returns : goal.returns
returns g c =
    rw (c.new.ensures) (all_read g.T.Told.text g.T.Told.IsTold c.args.bytes.now c.loop-items.rest.now c.loop-items.items.items c.loop-items.invariant (rw c.in_default.is at c.in_ok-item.ensures))

pub loop-items-smaller : goal.loop-items-smaller
loop-items-smaller g c =
    let here = rw c.in-Some.is at c.in_ok-item.ensures in
    shorter (g.T.Told.text c.in-Some.item) c.in-Some.others.now c.loop-items.rest.now (g.met.T.Told.some c.in-Some.item) here.whole
