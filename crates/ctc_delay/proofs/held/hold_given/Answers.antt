use Rattle.std.proofs.Common.{ap, ◌∙◌}
use Rattle.tube_spec.proofs.Monotone.{IfSome-map}
use Rattle.ctc_core.specs.Given.{narrowing_given}
use Rattle.ctc_delay.proofs.held.hold_given.Goals as goal

pub returns-in-Whole : goal.returns-in-Whole
returns-in-Whole c = λ p same mono gives. c.start.ensures.whole p (IfSome-map _ _ c.args.store.now.box (λ xs e. e ∙ ap narrowing_given c.in-Whole.is) gives)

pub returns-in-Nothing : goal.returns-in-Nothing
returns-in-Nothing c = λ p same mono gives. c.hold.ensures p same mono (IfSome-map _ _ c.args.store.now.box (λ xs e. e ∙ ap narrowing_given c.in-Nothing.is) gives)

pub returns-in-Within : goal.returns-in-Within
returns-in-Within c = λ p same mono gives. c.hold-in-Within.ensures p same mono (IfSome-map _ _ c.args.store.now.box (λ xs e. e ∙ ap narrowing_given c.in-Within.is) gives)
