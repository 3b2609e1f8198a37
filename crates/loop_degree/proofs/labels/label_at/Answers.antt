use Rattle.std.proofs.Common.{rules}
use Rattle.std.proofs.lemmas.List.Sorted.{answers_always}
use Rattle.loop_degree.specs.declared.labels.Label.TheVariants.{East}
use Rattle.loop_degree.specs.Boundary.{corner_of}
use Rattle.loop_degree.proofs.Labelling.{label_at-found, label_at-missed}
use Rattle.loop_degree.proofs.labels.label_at.Goals as goal

pub returns-in-Ok : goal.returns-in-Ok
returns-in-Ok c =
    label_at-found c.args.labels.now c.requires c.args.corner c.in-Ok.place (0, 0, East) c.binary_search_by_key.result c.in-Ok.is c.binary_search_by_key.ensures.bound
    (c.binary_search_by_key.ensures.position corner_of (answers_always _ _ _ (λ f a r g called. search rules)))

pub returns-in-Err : goal.returns-in-Err
returns-in-Err c =
    label_at-missed c.args.labels.now c.requires c.args.corner c.in-Err.field-0 c.binary_search_by_key.result c.in-Err.is
    (c.binary_search_by_key.ensures.position corner_of (answers_always _ _ _ (λ f a r g called. search rules)))
