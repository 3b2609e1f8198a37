use Rattle.std.proofs.Common.{refl, subst}
use Rattle.tube_store.specs.State.{IsStore}
use Rattle.tube_store.proofs.Kept.{IsStore-kept}
use Rattle.tube_store.proofs.Store.known.Goals as goal

pub returns : goal.returns
returns c = subst IsStore c.self.view_is (IsStore-kept _ _ _ _ _ _ c.self.inside.emptied refl c.self.invariant)
