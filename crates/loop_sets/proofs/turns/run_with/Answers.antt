use Rattle.std.proofs.Common.{ℕ, rules, refl}
use Rattle.std.proofs.lemmas.List.Sorted.{answers_always}
use Rattle.tplane_paver.specs.declared.runs.Run.{Run}
use Rattle.loop_sets.proofs.Beside.{searched-ok, searched-err}
use Rattle.loop_sets.proofs.turns.run_with.Goals as goal

pub returns-in-Ok : goal.returns-in-Ok
returns-in-Ok c =
    searched-ok c.args.cells.now c.args.a c.args.b c.in-Ok.place _ c.binary_search_by_key.result c.requires c.in-Ok.is c.binary_search_by_key.ensures.bound refl
    (c.binary_search_by_key.ensures.position (λ (r : Run). let p : ℕ × ℕ = (r.a, r.last) in p) (answers_always _ _ _ (λ f a r g called. search rules)))

pub run_from-requires-clause-parted : goal.run_from-requires-clause-parted
run_from-requires-clause-parted c =
    searched-err c.args.cells.now c.args.a c.args.b c.in-Err.place c.binary_search_by_key.result c.requires c.in-Err.is
    (c.binary_search_by_key.ensures.position (λ (r : Run). let p : ℕ × ℕ = (r.a, r.last) in p) (answers_always _ _ _ (λ f a r g called. search rules)))
