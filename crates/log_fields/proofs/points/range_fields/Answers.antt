use Rattle.log_fields.proofs.Spelled.{four}
use Rattle.log_fields.proofs.points.range_fields.Goals as goal

pub returns-clause-spelled : goal.returns-clause-spelled
returns-clause-spelled c =
    four c.in_ok-px.px c.in_ok-py.py c.in_ok-bx.bx c.in_ok-by.by c.in_ok-px.ensures.spelled c.in_ok-py.ensures.spelled c.in_ok-bx.ensures.spelled c.in_ok-by.ensures.spelled
