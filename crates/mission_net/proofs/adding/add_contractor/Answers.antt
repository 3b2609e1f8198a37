use Rattle.std.proofs.Common.{arith, ap, Err, []}
use Rattle.std.proofs.lemmas.List.Sums.{sum_by-cons}
use Rattle.any_ctc.specs.Constraints.{reads_of}
use Rattle.any_ctc.specs.Contractors.{constraint_of}
use Rattle.mission_net.proofs.Reading.{net-reads, scope-length}
use Rattle.mission_net.proofs.adding.add_contractor.Goals as goal

-- what the net's contractors and the new one read is within the limit
pub unreachable-requires : goal.unreachable-requires
unreachable-requires c =
    let s = c.args.net.now.store.shape in
    let full = c.in-Err-FootFull.ensures.full.0 (ap Err c.in-Err-FootFull.field-0-is) in
    omega (arith, full, net-reads s c.args.net.now.contractors, scope-length s (constraint_of c.args.ctc), c.requires.reads, sum_by-cons (reads_of s.grid) (constraint_of c.args.ctc) [])
