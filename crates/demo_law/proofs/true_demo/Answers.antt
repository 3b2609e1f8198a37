use Rattle.std.proofs.Common.{List, Result, Ok, Err, IfOk, arith, ap, sym, ◌∙◌, subst, ℤ}
use Rattle.demo_course.specs.Course.{positions, rates}
use Rattle.demo_course.specs.Draws.{words_of}
use Rattle.demo_course.specs.declared.Axis.TheVariants.{X, Y}
use Rattle.mission_log.specs.Log.{log_of}
use Rattle.demo_spec.specs.Mission.{demo_mission}
use Rattle.demo_law.specs.Promise.{IsTruthOf}
use Rattle.demo_law.proofs.Promise.{is-truth-of}
use Rattle.demo_law.proofs.true_demo.Goals as goal

if-ok-then : {S E : Type 0} (r : Result S E) (A B : S → Type 0) → ((s : S) → A s → B s) → IfOk r A → IfOk r B
if-ok-then (Ok s) A B f a = f s a
if-ok-then (Err e) A B f a = tt

if-ok-both : {S E : Type 0} (r : Result S E) (A B C : S → Type 0) → ((s : S) → A s → B s → C s) → IfOk r A → IfOk r B → IfOk r C
if-ok-both (Ok s) A B C f a b = f s a b
if-ok-both (Err e) A B C f a b = tt

pub returns-clause-read : goal.returns-clause-read
returns-clause-read c =
    if-ok-then c.make_demo.result _ _
    (λ demo is. ap log_of is ∙ c.printed_is_read.ensures (demo_mission c.args.seed) (c.demo_is_a_mission.ensures c.args.seed) (omega (arith, c.demo_log_is_short.ensures c.args.seed)))
    c.make_demo.ensures.log

pub returns-clause-truth : goal.returns-clause-truth
returns-clause-truth c =
    let m = demo_mission c.args.seed in
    let words = words_of c.args.seed 50 in
    let course = c.positions_satisfy_records.ensures words in
    let truth : IsTruthOf m (positions words X) (positions words Y) =
    is-truth-of m course.assignment (positions words X) (positions words Y) (rates words X) (rates words Y) (c.demo_is_a_mission.ensures c.args.seed) c.printed_law.ensures course.signals course.satisfies in
    if-ok-both c.make_demo.result _ _ _
    (λ demo x y. subst (λ (l : List ℤ). IsTruthOf m l demo.y.items) (sym x) (subst (λ (l : List ℤ). IsTruthOf m (positions words X) l) (sym y) truth))
    c.make_demo.ensures.x c.make_demo.ensures.y
