use Rattle.std.proofs.Common.{map, subst, IfSome}
use Rattle.tube_store.specs.declared.SignalId.{SignalId}
use Rattle.loop_sets.specs.Finding.{IsFinding}
use Rattle.loop_sets.specs.Provers.{Asking}
use Rattle.loop_report.specs.declared.found.Found.{Found}
use Rattle.mission_loops.proofs.Telling.{found-more, sets-more}
use Rattle.mission_loops.proofs.finding.proved.Goals as goal

pub loop-set-preserved : goal.loop-set-preserved
loop-set-preserved c =
    let f : Found = record { set = c.in-Some.set; finding = c.in_ok-finding.finding } in record {
      sets = sets-more c.loop-set.found.items c.push.new.self.items c.loop-set.yielded f c.in_ok-push.ensures.items c.loop-set.invariant.sets;
      found = found-more c.args.store.now.shape c.args.q.now (map (λ (r : SignalId). r.0) c.args.rates_x.now) (map (λ (r : SignalId). r.0) c.args.rates_y.now) c.args.store.now.box
          c.loop-set.found.items c.push.new.self.items f c.in_ok-push.ensures.items c.loop-set.invariant.found
          (subst (λ (p : Asking). IfSome p.store.box (λ xs. IsFinding p.store.shape xs p.query p.rates_x p.rates_y c.in-Some.set c.in_ok-finding.finding)) c.in_ok-prover.ensures c.in_ok-finding.ensures);
    }
