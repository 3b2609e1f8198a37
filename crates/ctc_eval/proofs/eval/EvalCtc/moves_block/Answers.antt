use Rattle.std.proofs.Common.{ℕ, refl, ap, map}
use Rattle.std.specs.List.{range_with_len}
use Rattle.tube_spec.specs.Narrowing.{narrowing_of}
use Rattle.tube_spec.specs.Projection.{Projection}
use Rattle.ctc_eval.specs.declared.block.Block.{Block}
use Rattle.ctc_eval.specs.Evals.{reached_projection}
use Rattle.ctc_eval.specs.Blocks.{block_projections}
use Rattle.ctc_eval.proofs.Blocks.{block-fixes, none-each}
use Rattle.ctc_eval.proofs.Moving.{moved-fixes}
use Rattle.ctc_eval.proofs.eval.EvalCtc.moves_block.Goals as goal

pub hulls-requires-clause-blank : goal.hulls-requires-clause-blank
hulls-requires-clause-blank c = λ k. none-each 65 k

pub returns : goal.returns
returns c =
    let s = c.args.store.now in
    let me = c.args.self.now in
    let p : ℕ → Projection = reached_projection s.shape me.x.0 c.args.rate.0 me.t.0 me.z.0 me.declared in
    let b : Block = record { x = me.x; first = c.args.first; count = c.args.count; hulls = c.hulls.new.hulls } in
    moved-fixes (map p (range_with_len c.args.first c.args.count)) (block_projections s.shape b) s.box c.still_by_formulas.result (block-fixes s.shape b p s.box (λ j. refl) (λ j l. ap narrowing_of (c.hulls.ensures.value j l)))
    c.still_by_formulas.ensures.yes c.still_by_formulas.ensures.no
