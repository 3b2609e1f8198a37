use Rattle.std.proofs.Common.{◌∙◌, sym}
use Rattle.std.proofs.lemmas.Bool.{false≢true}
use Rattle.bundle_reader.proofs.SectionParts.{none_here, none_passed, one_passed, piece_here}
use Rattle.bundle_reader.proofs.sections.piece_of.Goals as goal

pub loop-line-init : goal.loop-line-init
loop-line-init c = none_passed c.args.bytes.now

pub returns-then-is_last : goal.returns-then-is_last
returns-then-is_last c =
    piece_here c.args.bytes.now c.loop-line.rest.now c.loop-line.invariant c.in-Some.line.now c.in-Some.others.now c.in-Some.ensures (c.is_last.ensures.0 c.if-is_last.true)
    c.split_at.result.0.now c.split_at.result.1.now c.split_at.ensures.front c.split_at.ensures.back

pub loop-line-preserved : goal.loop-line-preserved
loop-line-preserved c =
    one_passed c.args.bytes.now c.loop-line.rest.now c.loop-line.invariant c.in-Some.line.now c.in-Some.others.now c.in-Some.ensures (λ e. false≢true (sym c.if-is_last.false ∙ c.is_last.ensures.1 e))

pub returns : goal.returns
returns c = none_here c.args.bytes.now c.loop-line.rest.now c.loop-line.invariant c.in_default.ensures
