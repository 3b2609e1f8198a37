use Rattle.std.proofs.Common.{List, Err, sym, subst}
use Rattle.std.proofs.lemmas.Result.{err_from_is_err_and}
use Rattle.tube_spec.specs.Span.{Span}
use Rattle.pair_form.specs.Forms.{LinkForm, SourceForm}
use Rattle.pair_causes.specs.Judged.{AreLinksJudged, AreSaid, IsAccepted, IsJudged, IsRefusedBy}
use Rattle.pair_causes.specs.Sentences.{span_of}
use Rattle.pair_causes.specs.declared.cause.PairCause.TheVariants as cause
use Rattle.pair_causes.proofs.Lowest.{all-accepted, free-of, links-refused, long-refused, offset-is}
use Rattle.pair_causes.proofs.judging.judge.Goals as goal

pub returns-in_err-links : goal.returns-in_err-links
returns-in_err-links c =
    let form : SourceForm = record { first = c.form.inside.first.now; second = c.form.inside.second.now; offset = c.form.inside.offset; links = c.form.inside.links.items } in
    let offset = offset-is form.offset c.in-Some-offset_of.offset c.in-Some-offset_of.ensures.value in
    let maps = sym c.in_default-first_of_all.ensures in
    let free = free-of c.args.first.now c.args.second.now form (sym c.if-not-have_one_head.ensures) (sym c.in_default.ensures) c.as_slice.result.now c.as_slice.ensures maps offset.0 in
    let p = err_from_is_err_and c.from_residual.result c.from_residual.ensures.1 in
    let e = c.in_err-links.field-0.0 in
    let near : AreLinksJudged c.args.first.now c.args.second.now (span_of form.offset) c.as_slice-2.result.now (Err e) =
    subst (λ (s : Span). AreLinksJudged c.args.first.now c.args.second.now s c.as_slice-2.result.now (Err e)) offset.1 c.in_err-links.ensures in
    let links = subst (λ (l : List LinkForm). AreLinksJudged c.args.first.now c.args.second.now (span_of form.offset) l (Err e)) c.as_slice-2.ensures.value near in
    rw (p.1, p.2) (subst (λ (f : SourceForm). IsJudged c.args.first.now c.args.second.now f (Err e)) c.form.view_is (links-refused c.args.first.now c.args.second.now form e free links))

pub returns-then-have_long_name : goal.returns-then-have_long_name
returns-then-have_long_name c =
    let form : SourceForm = record { first = c.form.inside.first.now; second = c.form.inside.second.now; offset = c.form.inside.offset; links = c.form.inside.links.items } in
    let offset = offset-is form.offset c.in-Some-offset_of.offset c.in-Some-offset_of.ensures.value in
    let maps = sym c.in_default-first_of_all.ensures in
    let free = free-of c.args.first.now c.args.second.now form (sym c.if-not-have_one_head.ensures) (sym c.in_default.ensures) c.as_slice.result.now c.as_slice.ensures maps offset.0 in
    let links = rw (offset.1, c.as_slice-2.ensures.value) at c.in_ok-links.ensures in
    subst (λ (f : SourceForm). IsRefusedBy c.args.first.now c.args.second.now f 0 cause.LongName) c.form.view_is (long-refused c.args.first.now c.args.second.now form c.in_ok-links.links.items free links (sym c.if-have_long_name.ensures))

pub returns : goal.returns
returns c =
    let form : SourceForm = record { first = c.form.inside.first.now; second = c.form.inside.second.now; offset = c.form.inside.offset; links = c.form.inside.links.items } in
    let offset = offset-is form.offset c.in-Some-offset_of.offset c.in-Some-offset_of.ensures.value in
    let maps = sym c.in_default-first_of_all.ensures in
    let free = free-of c.args.first.now c.args.second.now form (sym c.if-not-have_one_head.ensures) (sym c.in_default.ensures) c.as_slice.result.now c.as_slice.ensures maps offset.0 in
    let links = rw (offset.1, c.as_slice-2.ensures.value) at c.in_ok-links.ensures in
    subst
    (λ (f : SourceForm). IsAccepted c.args.first.now c.args.second.now f × AreSaid c.args.first.now c.args.second.now (span_of f.offset) f.links c.in_ok-links.links.items)
    c.form.view_is
    (all-accepted c.args.first.now c.args.second.now form c.in_ok-links.links.items free links (sym c.if-have_long_name.ensures), links)
