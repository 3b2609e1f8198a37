use Rattle.std.proofs.Common.{refl, sym, ap, ap₂, ◌∙◌, ℕ}
use Rattle.loop_sets.specs.declared.finding.Finding.{Finding}
use Rattle.bundle_reader.specs.declared.sets.SetLine.{SetLine}
use Rattle.bundle_reader.proofs.Findings.{number_parts, pairs_parts, spans_parts}
use Rattle.bundle_reader.proofs.Fronts.{behind, built, joined, no_part, no_rest}
use Rattle.bundle_reader.proofs.sets.line_of.Goals as goal

pub returns-in_err-found : goal.returns-in_err-found
returns-in_err-found c = rw (c.from_residual.ensures) (no_part (number_parts c.args.number c.ranges.number.fits) c.args.bytes.now c.in_err-found.ensures)

pub returns-then-found-number : goal.returns-then-found-number
returns-then-found-number c = λ w s q k e.
    c.if-found-number.true (sym (behind (number_parts c.args.number c.ranges.number.fits) c.args.bytes.now c.in_ok-found.found c.in_ok-found.rest.now c.in_ok-found.ensures w s q k e).0)

pub returns-in_err-pairs : goal.returns-in_err-pairs
returns-in_err-pairs c =
    rw (c.from_residual-in_err-pairs.ensures)
    (no_rest (number_parts c.args.number c.ranges.number.fits) c.args.bytes.now c.in_ok-found.found c.in_ok-found.rest.now c.in_ok-found.ensures (no_part pairs_parts c.in_ok-found.rest.now c.in_err-pairs.ensures))

pub returns-in_err-a : goal.returns-in_err-a
returns-in_err-a c =
    rw (c.from_residual-in_err-a.ensures)
    (no_rest (number_parts c.args.number c.ranges.number.fits) c.args.bytes.now c.in_ok-found.found c.in_ok-found.rest.now c.in_ok-found.ensures
    (no_rest pairs_parts c.in_ok-found.rest.now c.in_ok-pairs.pairs c.in_ok-pairs.rest.now c.in_ok-pairs.ensures (no_part spans_parts c.in_ok-pairs.rest.now c.in_err-a.ensures)))

pub returns-in_err-finding : goal.returns-in_err-finding
returns-in_err-finding c =
    rw (c.from_residual-in_err-finding.ensures)
    (no_rest (number_parts c.args.number c.ranges.number.fits) c.args.bytes.now c.in_ok-found.found c.in_ok-found.rest.now c.in_ok-found.ensures
    (no_rest pairs_parts c.in_ok-found.rest.now c.in_ok-pairs.pairs c.in_ok-pairs.rest.now c.in_ok-pairs.ensures
    (no_rest spans_parts c.in_ok-pairs.rest.now (c.in_ok-a.a, c.in_ok-a.b) c.in_ok-a.rest.now c.in_ok-a.ensures (λ w s q k e. c.in_err-finding.ensures w.finding s q.finding tt e))))

pub returns : goal.returns
returns c =
    let line : SetLine = record { pairs = c.in_ok-pairs.pairs; a = c.in_ok-a.a; b = c.in_ok-a.b; finding = c.in_ok-finding.finding } in
    let rest = c.in_ok-finding.rest.now in
    built (number_parts c.args.number c.ranges.number.fits) c.args.bytes.now c.in_ok-found.found c.in_ok-found.rest.now c.in_ok-found.ensures line rest
    (record { pairs = c.in_ok-pairs.ensures.right; a = c.in_ok-a.ensures.right.0; b = c.in_ok-a.ensures.right.1; finding = c.in_ok-finding.ensures.right })
    (sym c.if-found-number.false)
    (joined pairs_parts c.in_ok-found.rest.now c.in_ok-pairs.pairs c.in_ok-pairs.rest.now c.in_ok-pairs.ensures line rest refl
    (joined spans_parts c.in_ok-pairs.rest.now (c.in_ok-a.a, c.in_ok-a.b) c.in_ok-a.rest.now c.in_ok-a.ensures line rest refl c.in_ok-finding.ensures.whole))
    (λ w s q k number e.
    let pairs = behind pairs_parts c.in_ok-found.rest.now c.in_ok-pairs.pairs c.in_ok-pairs.rest.now c.in_ok-pairs.ensures w s q k e in
    let spans = behind spans_parts c.in_ok-pairs.rest.now (c.in_ok-a.a, c.in_ok-a.b) c.in_ok-a.rest.now c.in_ok-a.ensures w s q k pairs.1 in
    let last = c.in_ok-finding.ensures.only w.finding s q.finding tt spans.1 in (
      ap₂ (λ (n : ℕ) (p : (ℕ × ℕ) × (ℕ × ℕ)). let x : SetLine = record { pairs = n; a = p.0; b = p.1; finding = w.finding } in x) pairs.0 spans.0
          ∙ ap (λ (f : Finding). let x : SetLine = record { pairs = c.in_ok-pairs.pairs; a = c.in_ok-a.a; b = c.in_ok-a.b; finding = f } in x) last.0,
      last.1,
    ))
