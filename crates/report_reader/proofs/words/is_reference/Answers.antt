use Rattle.std.proofs.Common.{sym, ◌∙◌}
use Rattle.report_reader.proofs.References.{reference_by_axis}
use Rattle.report_reader.proofs.words.is_reference.Goals as goal

pub returns : goal.returns
returns c =
    let p = reference_by_axis c.args.word.now _ _ (sym c.is_name.ensures ∙ c.if-is_name.false) c.split_at.ensures.front c.split_at.ensures.back (c.is_axis.ensures.0 c.if-not-is_axis.false) in
    (λ e. p.0 (sym c.is_name-2.ensures ∙ e), λ h. c.is_name-2.ensures ∙ p.1 h)
