use Rattle.ctc_network.proofs.Holes.{none-kept}
use Rattle.ctc_network.proofs.Marks.{marks-none}
use Rattle.ctc_network.proofs.net.Net.new.Goals as goal

pub invariant_of-result : goal.invariant_of-result
invariant_of-result g c =
    let K = g.C.Contractor in
    record {
      net = none-kept g.row.C.Denot K.projections K.scope K.fits c.args.grid c.new-store.result c.new.result.items c.new-2.result c.new-4.result c.new-store.ensures c.known.ensures c.new.ensures.items c.new-2.ensures c.new-4.ensures.readers
          c.new-4.ensures.contractors;
      marks = marks-none g.C.Parted.parts g.C.Parted.part c.new-store.result c.new.result.items c.new-3.result.items c.new.ensures.items c.new-3.ensures.items;
    }
