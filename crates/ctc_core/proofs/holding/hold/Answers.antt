use Rattle.std.proofs.Common.{◌≡◌, Some, [], ◌∷◌, sym, ap, subst, ◌∙◌}
use Rattle.tube_spec.specs.Narrowing.{narrowing_of}
use Rattle.tube_spec.proofs.Monotone.{IfSome-map}
use Rattle.ctc_core.specs.declared.Revised.{Revised}
use Rattle.ctc_core.specs.Answers.{Revises}
use Rattle.ctc_core.proofs.Firing.{Revises-cut-at, Revises-never, nowhere-empties, IfSome-self}
use Rattle.ctc_core.proofs.holding.hold.Goals as goal

pub returns-in-Some : goal.returns-in-Some
returns-in-Some c = λ p same mono gives.
    let old = c.args.store.now in
    let to = IfSome-map _ _ old.box (λ xs e. e ∙ ap narrowing_of c.in-Some.is) gives in
    subst (λ (r : Revised). Revises (p ∷ []) old c.narrow-cut.new.self r) (sym c.of_cut.ensures)
    (Revises-cut-at (λ xs. old.box ≡ Some xs) p c.args.cell.0 same old c.narrow-cut.new.self c.in-Some.to c.narrow-cut.result c.known.ensures c.known-in-Some.ensures c.requires.filled (IfSome-self old.box) mono c.requires.named to c.narrow-cut.ensures.cut c.narrow-cut.ensures.new)

pub returns-in-None : goal.returns-in-None
returns-in-None c = λ p same mono gives.
    let old = c.args.store.now in
    let emptied = nowhere-empties old c.narrow-cut-in-None.new.self c.args.cell.0 c.nowhere.result c.narrow-cut-in-None.result c.nowhere.ensures c.known.ensures c.requires.filled c.narrow-cut-in-None.ensures.cut c.narrow-cut-in-None.ensures.new in
    Revises-never (λ xs. old.box ≡ Some xs) p old c.narrow-cut-in-None.new.self c.known.ensures c.known-in-None.ensures c.requires.filled (IfSome-self old.box) mono (IfSome-map _ _ old.box (λ xs e. e ∙ ap narrowing_of c.in-None.is) gives) emptied
