use Rattle.std.proofs.Common.{◌+◌, ap, arith, rules}
use Rattle.expr_text.proofs.scan.Scan.take.Goals as goal
use Rattle.expr_text.proofs.scan.Scan.take.Goals.{else-self-le-MAX_NODES-via-then-self-le-MAX_NODES+else-self-le-MAX_OPEN, else-self-le-MAX_NODES-via-else-self-le-MAX_NODES}
use Rattle.expr_text.proofs.Verdicts.{follows_more, not_taken, takes_false, takes_true}

pub returns-then-not-branch-clause-goes : goal.returns-then-not-branch-clause-goes
returns-then-not-branch-clause-goes c = λ tokens h.
    not_taken _ tokens c.args.token h.ran (takes_false _ _ _ c.if-not-branch.true c.in_ok-take.ensures)

pub returns-in_ok-push-clause-goes : goal.returns-in_ok-push-clause-goes
returns-in_ok-push-clause-goes c = λ tokens h.
    follows_more tokens c.args.self.now _ c.args.token h (takes_true _ _ _ c.if-not-branch.false c.in_ok-take.ensures)
    (ap (λ n. c.args.self.now.nodes + n) c.token_nodes.ensures.value) (grind (arith, c.max-self.ensures, c.open_count.ensures)) (λ _ _ _ _. search rules)

pub returns-else-self-le-MAX_NODES-clause-goes : goal.returns-else-self-le-MAX_NODES-clause-goes
returns-else-self-le-MAX_NODES-clause-goes c = λ tokens h.
    follows_more tokens c.args.self.now _ c.args.token h (takes_true _ _ _ c.if-not-branch.false c.in_ok-take.ensures)
    (ap (λ n. c.args.self.now.nodes + n) c.token_nodes.ensures.value) (grind (arith, c.max-self.ensures, c.open_count.ensures))
    (λ _ _ a b. elim c.else-self-le-MAX_NODES.branch [
      | else-self-le-MAX_NODES-via-then-self-le-MAX_NODES+else-self-le-MAX_OPEN w ↦ absurd (omega (arith, b))
      | else-self-le-MAX_NODES-via-else-self-le-MAX_NODES w ↦ absurd (omega (arith, a))
    ])
