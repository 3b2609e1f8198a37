use Rattle.std.proofs.Common.{ℕ, ◌+◌, ◌++◌, length, sym, ap, ◌∙◌, subst}
use Rattle.std.proofs.lemmas.Bool.{eqb-false, false≢true}
use Rattle.report_reader.specs.Breaks.{IsFault}
use Rattle.report_reader.specs.Sections.{head_text}
use Rattle.report_reader.specs.declared.section.SectionFault.TheVariants as fault
use Rattle.report_reader.proofs.Faults.{bad_line, bytes_after, missing_line}
use Rattle.report_reader.proofs.read.read_lines.Goals as goal

pub returns-then-is_last-clause-fault : goal.returns-then-is_last-clause-fault
returns-then-is_last-clause-fault c =
    let i = c.loop-text.invariant in
    subst (λ (n : ℕ). IsFault (head_text c.args.head ++ c.args.bytes.now) (fault.BadSection n)) (ap (λ (n : ℕ). n + 1) (sym i.at))
    (bytes_after c.args.head c.requires.head c.args.bytes.now c.loop-text.lines.items i.lines c.loop-text.rest.now i.split _ _ c.in-Some.ensures
    (c.is_last.ensures.0 c.if-is_last.true) (λ e. eqb-false _ 0 (sym c.is_empty.ensures ∙ c.if-is_empty.false) (ap length e)))

pub returns-in_default-2-clause-fault : goal.returns-in_default-2-clause-fault
returns-in_default-2-clause-fault c =
    let i = c.loop-text.invariant in
    subst (λ (n : ℕ). IsFault (head_text c.args.head ++ c.args.bytes.now) (fault.BadSection n)) (sym i.at)
    (bad_line c.args.head c.requires.head c.args.bytes.now c.loop-text.lines.items i.lines c.loop-text.rest.now i.split _ _ c.in-Some.ensures
    (λ e. false≢true (sym c.if-is_last.false ∙ c.is_last.ensures.1 e)) (rw c.in_default-2.is at c.in_ok-line.ensures))

pub returns-clause-fault : goal.returns-clause-fault
returns-clause-fault c =
    let i = c.loop-text.invariant in
    subst (λ (n : ℕ). IsFault (head_text c.args.head ++ c.args.bytes.now) (fault.BadSection n)) (sym i.at)
    (missing_line c.args.head c.requires.head c.args.bytes.now c.loop-text.lines.items i.lines c.loop-text.rest.now i.split c.in_default.ensures)
