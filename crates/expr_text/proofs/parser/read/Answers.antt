use Rattle.std.proofs.Common.{◌∙◌, sym}
use Rattle.expr_text.proofs.parser.read.Goals as goal
use Rattle.expr_text.proofs.Answering.{phrased, too_large, built, not_none, is_some, within, too_deep}

pub returns-then-not-is_within_limits : goal.returns-then-not-is_within_limits
returns-then-not-is_within_limits c =
    let p = phrased c.args.text.now c.in_ok-scan.scan c.in_ok-scan.ensures in
    (p.phrase, p.spells, too_large c.args.text.now c.in_ok-scan.scan p (c.is_within_limits.ensures.past c.if-not-is_within_limits.true))

pub returns-in_default : goal.returns-in_default
returns-in_default c =
    let p = phrased c.args.text.now c.in_ok-scan.scan c.in_ok-scan.ensures in
    let w = c.is_within_limits.ensures.within c.if-not-is_within_limits.false in
    absurd (not_none c.in_ok-rel.field-0 _ (built c.args.text.now c.in_ok-scan.scan p w c.len.result c.as_slice.result.now c.in_ok-rel.field-0 (c.len.ensures ∙ sym c.as_slice.ensures.len) c.as_slice.ensures.value c.in_ok-rel.ensures) c.in_default.is)

pub returns-then-not-is_within_depth : goal.returns-then-not-is_within_depth
returns-then-not-is_within_depth c =
    let p = phrased c.args.text.now c.in_ok-scan.scan c.in_ok-scan.ensures in
    let w = c.is_within_limits.ensures.within c.if-not-is_within_limits.false in
    let e = is_some c.in_ok-rel.field-0 _ c.in-Some.rel (built c.args.text.now c.in_ok-scan.scan p w c.len.result c.as_slice.result.now c.in_ok-rel.field-0 (c.len.ensures ∙ sym c.as_slice.ensures.len) c.as_slice.ensures.value c.in_ok-rel.ensures) c.in-Some.is in
    (p.phrase, p.spells, too_deep c.args.text.now c.in_ok-scan.scan p c.in-Some.rel e (c.is_within_depth.ensures.past c.if-not-is_within_depth.true))

pub returns : goal.returns
returns c =
    let p = phrased c.args.text.now c.in_ok-scan.scan c.in_ok-scan.ensures in
    let w = c.is_within_limits.ensures.within c.if-not-is_within_limits.false in
    let e = is_some c.in_ok-rel.field-0 _ c.in-Some.rel (built c.args.text.now c.in_ok-scan.scan p w c.len.result c.as_slice.result.now c.in_ok-rel.field-0 (c.len.ensures ∙ sym c.as_slice.ensures.len) c.as_slice.ensures.value c.in_ok-rel.ensures) c.in-Some.is in
    (p.phrase, p.spells, within c.args.text.now c.in_ok-scan.scan p c.in-Some.rel w e (c.is_within_depth.ensures.within c.if-not-is_within_depth.false), e)
