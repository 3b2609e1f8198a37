use Rattle.std.proofs.Common.{◌≤◌, ◌-◌, arith}
use Rattle.std.proofs.lemmas.Int.{ints}
use Rattle.log_fields.specs.declared.fault.Cause.TheVariants as cause
use Rattle.mission_log.proofs.Right.{at_most, unless_passed}
use Rattle.mission_log.proofs.ping.ping_said.Goals as goal

pub returns-clause-right : goal.returns-clause-right
returns-clause-right c =
    let w = c.in-Ok.ensures.within in
    let order : c.in_ok-start.start ≤ c.in_ok-end.end = at_most c.in_ok-start.start c.in_ok-end.end (unless_passed _ cause.Tick c.in_ok-ensure.field-0 c.in_ok-ensure.ensures) in
    let short : c.in_ok-end.end - c.in_ok-start.start ≤ 2000 = at_most (c.in_ok-end.end - c.in_ok-start.start) 2000 (unless_passed _ cause.Wide c.in_ok-ensure-2.field-0 c.in_ok-ensure-2.ensures) in
    record {
      x = c.in_ok-x.ensures.known;
      y = c.in_ok-y.ensures.known;
      order = order;
      within = c.in_ok-end.ensures.within;
      short = omega (arith, order, short);
      beacon = c.in_ok-beacon.ensures.known;
      radii = record {
        from_zero = omega (arith, ints, w.from_zero, w.in_order, w.bounded);
        in_order = omega (arith, ints, w.from_zero, w.in_order, w.bounded);
        bounded = omega (arith, ints, w.from_zero, w.in_order, w.bounded);
      };
    }
