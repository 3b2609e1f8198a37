use Rattle.log_fields.proofs.Spelled.{six}
use Rattle.log_fields.proofs.points.range3_fields.Goals as goal

pub returns-clause-spelled : goal.returns-clause-spelled
returns-clause-spelled c =
    six c.in_ok-px.px c.in_ok-py.py c.in_ok-pz.pz c.in_ok-bx.bx c.in_ok-by.by c.in_ok-bz.bz
    c.in_ok-px.ensures.spelled c.in_ok-py.ensures.spelled c.in_ok-pz.ensures.spelled c.in_ok-bx.ensures.spelled c.in_ok-by.ensures.spelled c.in_ok-bz.ensures.spelled
