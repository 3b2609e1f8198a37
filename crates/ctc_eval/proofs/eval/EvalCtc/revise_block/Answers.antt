use Rattle.std.proofs.Common.{ℕ, List, refl, ap, map}
use Rattle.std.specs.List.{range_with_len}
use Rattle.std.proofs.lemmas.List.Elements.{All-map}
use Rattle.tube_spec.specs.Span.{Span}
use Rattle.tube_spec.specs.Narrowing.{narrowing_of}
use Rattle.tube_spec.specs.Projection.{Projection, IsMonotone}
use Rattle.ctc_eval.specs.Evals.{reached_projection}
use Rattle.ctc_eval.specs.Blocks.{block_projections}
use Rattle.ctc_eval.specs.EvalLaws.{reached-monotone}
use Rattle.ctc_core.proofs.Firing.{Revises-empty}
use Rattle.ctc_core.proofs.Fixing.{fixes-fires, if-each}
use Rattle.ctc_eval.proofs.Blocks.{block-fixes, none-each}
use Rattle.ctc_eval.specs.declared.block.Block.{Block}
use Rattle.ctc_eval.proofs.eval.EvalCtc.revise_block.Goals as goal

pub returns-then-is_empty : goal.returns-then-is_empty
returns-then-is_empty c = Revises-empty _ c.args.store.now c.known.ensures (c.is_empty.ensures.0 c.if-is_empty.true)

pub hulls-requires-clause-blank : goal.hulls-requires-clause-blank
hulls-requires-clause-blank c = λ k. none-each 65 k

pub returns : goal.returns
returns c =
    let s = c.args.store.now in
    let me = c.args.self.now in
    let p : ℕ → Projection = reached_projection s.shape me.x.0 c.args.rate.0 me.t.0 me.z.0 me.declared in
    let b : Block = record { x = me.x; first = c.args.first; count = c.args.count; hulls = c.hulls.new.hulls } in
    let anywhere : List Span → Type 0 = λ xs. Unit {0} in
    fixes-fires anywhere (map p (range_with_len c.args.first c.args.count)) (block_projections s.shape b) s c.revise_by_formulas.new.store c.revise_by_formulas.result (if-each s.box anywhere (λ xs. tt))
    (All-map (IsMonotone anywhere) p (range_with_len c.args.first c.args.count) (λ k d l. reached-monotone anywhere s.shape me.x.0 c.args.rate.0 me.t.0 me.z.0 me.declared _))
    (block-fixes s.shape b p s.box (λ j. refl) (λ j l. ap narrowing_of (c.hulls.ensures.value j l)))
    c.revise_by_formulas.ensures
