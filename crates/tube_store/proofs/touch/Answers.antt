use Rattle.std.proofs.Common.{rules}
use Rattle.tube_store.proofs.Ring.{ring-push}
use Rattle.tube_store.proofs.touch.Goals as goal

pub returns-then-not-index-clause-touched : goal.returns-then-not-index-clause-touched
returns-then-not-index-clause-touched c =
    rw (c.push_back_reserved.ensures.items, c.push_back_reserved.ensures.capacity) (ring-push _ _ _ c.args.c c.requires.touched c.requires.named (search rules))
