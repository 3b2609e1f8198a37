use Rattle.std.proofs.Common.{ℤ, subst, w64}
use Rattle.std.proofs.lemmas.Int.{to_z-of_z}
use Rattle.std.proofs.lemmas.Result.{err_from_is_err_and}
use Rattle.pair_form.specs.Lines.{BeginsWithLog}
use Rattle.pair_form.proofs.LinkWords.{small_fits}
use Rattle.pair_form.proofs.Sources.{NoLog, form_same, no_first, no_lengths, no_links, no_offset, no_second}
use Rattle.pair_form.proofs.read.read_pair.Goals as goal

pub returns-in_err-lengths-clause-only : goal.returns-in_err-lengths-clause-only
returns-in_err-lengths-clause-only c = λ form h.
    let p = err_from_is_err_and c.from_residual.result c.from_residual.ensures.1 in
    rw (p.1, p.2) (no_lengths c.args.bytes.now form h c.in_err-lengths.field-0.0 c.in_err-lengths.ensures.value)

pub returns-in_err-first-clause-only : goal.returns-in_err-first-clause-only
returns-in_err-first-clause-only c = λ form h.
    let n = to_z-of_z w64 c.in_ok-lengths.lengths.0 (small_fits c.in_ok-lengths.lengths.0 c.in_ok-lengths.ensures.small.0) in
    let none = subst (λ (z : ℤ). NoLog c.in_ok-lengths.rest.now z c.in_err-first.field-0.0) n c.in_err-first.ensures in
    let p = err_from_is_err_and c.from_residual-in_err-first.result c.from_residual-in_err-first.ensures.1 in
    rw (p.1, p.2) (no_first c.args.bytes.now c.in_ok-lengths.lengths c.in_ok-lengths.rest.now form h c.in_ok-lengths.ensures.value c.in_err-first.field-0.0 none)

pub returns-in_err-second-clause-only : goal.returns-in_err-second-clause-only
returns-in_err-second-clause-only c = λ form h.
    let n = to_z-of_z w64 c.in_ok-lengths.lengths.0 (small_fits c.in_ok-lengths.lengths.0 c.in_ok-lengths.ensures.small.0) in
    let m = to_z-of_z w64 c.in_ok-lengths.lengths.1 (small_fits c.in_ok-lengths.lengths.1 c.in_ok-lengths.ensures.small.1) in
    let first = subst (λ (z : ℤ). BeginsWithLog c.in_ok-lengths.rest.now z c.in_ok-first.first.now c.in_ok-first.rest.now) n c.in_ok-first.ensures in
    let none = subst (λ (z : ℤ). NoLog c.in_ok-first.rest.now z c.in_err-second.field-0.0) m c.in_err-second.ensures in
    let p = err_from_is_err_and c.from_residual-in_err-second.result c.from_residual-in_err-second.ensures.1 in
    rw (p.1, p.2) (no_second c.args.bytes.now c.in_ok-lengths.lengths c.in_ok-lengths.rest.now form h c.in_ok-lengths.ensures.value c.in_ok-first.first.now c.in_ok-first.rest.now first
    c.in_err-second.field-0.0 none)

pub returns-in_err-offset-clause-only : goal.returns-in_err-offset-clause-only
returns-in_err-offset-clause-only c = λ form h.
    let n = to_z-of_z w64 c.in_ok-lengths.lengths.0 (small_fits c.in_ok-lengths.lengths.0 c.in_ok-lengths.ensures.small.0) in
    let m = to_z-of_z w64 c.in_ok-lengths.lengths.1 (small_fits c.in_ok-lengths.lengths.1 c.in_ok-lengths.ensures.small.1) in
    let first = subst (λ (z : ℤ). BeginsWithLog c.in_ok-lengths.rest.now z c.in_ok-first.first.now c.in_ok-first.rest.now) n c.in_ok-first.ensures in
    let second = subst (λ (z : ℤ). BeginsWithLog c.in_ok-first.rest.now z c.in_ok-second.second.now c.in_ok-second.rest.now) m c.in_ok-second.ensures in
    let p = err_from_is_err_and c.from_residual-in_err-offset.result c.from_residual-in_err-offset.ensures.1 in
    rw (p.1, p.2) (no_offset c.args.bytes.now c.in_ok-lengths.lengths c.in_ok-lengths.rest.now form h c.in_ok-lengths.ensures.value c.in_ok-first.first.now c.in_ok-first.rest.now first
    c.in_ok-second.second.now c.in_ok-second.rest.now second c.in_err-offset.field-0.0 c.in_err-offset.ensures.value)

pub returns-in_err-links-clause-only : goal.returns-in_err-links-clause-only
returns-in_err-links-clause-only c = λ form h.
    let n = to_z-of_z w64 c.in_ok-lengths.lengths.0 (small_fits c.in_ok-lengths.lengths.0 c.in_ok-lengths.ensures.small.0) in
    let m = to_z-of_z w64 c.in_ok-lengths.lengths.1 (small_fits c.in_ok-lengths.lengths.1 c.in_ok-lengths.ensures.small.1) in
    let first = subst (λ (z : ℤ). BeginsWithLog c.in_ok-lengths.rest.now z c.in_ok-first.first.now c.in_ok-first.rest.now) n c.in_ok-first.ensures in
    let second = subst (λ (z : ℤ). BeginsWithLog c.in_ok-first.rest.now z c.in_ok-second.second.now c.in_ok-second.rest.now) m c.in_ok-second.ensures in
    let p = err_from_is_err_and c.from_residual-in_err-links.result c.from_residual-in_err-links.ensures.1 in
    rw (p.1, p.2) (no_links c.args.bytes.now c.in_ok-lengths.lengths c.in_ok-lengths.rest.now form h c.in_ok-lengths.ensures.value c.in_ok-first.first.now c.in_ok-first.rest.now first
    c.in_ok-second.second.now c.in_ok-second.rest.now second c.in_ok-offset.offset c.in_ok-offset.rest.now c.in_ok-offset.ensures.value c.in_err-links.field-0.0 c.in_err-links.ensures)

pub returns-clause-only : goal.returns-clause-only
returns-clause-only c = λ form h.
    let n = to_z-of_z w64 c.in_ok-lengths.lengths.0 (small_fits c.in_ok-lengths.lengths.0 c.in_ok-lengths.ensures.small.0) in
    let m = to_z-of_z w64 c.in_ok-lengths.lengths.1 (small_fits c.in_ok-lengths.lengths.1 c.in_ok-lengths.ensures.small.1) in
    let first = subst (λ (z : ℤ). BeginsWithLog c.in_ok-lengths.rest.now z c.in_ok-first.first.now c.in_ok-first.rest.now) n c.in_ok-first.ensures in
    let second = subst (λ (z : ℤ). BeginsWithLog c.in_ok-first.rest.now z c.in_ok-second.second.now c.in_ok-second.rest.now) m c.in_ok-second.ensures in
    form_same c.args.bytes.now c.in_ok-lengths.lengths c.in_ok-lengths.rest.now form h c.in_ok-lengths.ensures.value c.in_ok-first.first.now c.in_ok-first.rest.now first
    c.in_ok-second.second.now c.in_ok-second.rest.now second c.in_ok-offset.offset c.in_ok-offset.rest.now c.in_ok-offset.ensures.value c.in_ok-links.links.items c.in_ok-links.ensures
