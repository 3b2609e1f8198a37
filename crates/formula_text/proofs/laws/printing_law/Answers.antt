use Rattle.formula_text.proofs.laws.printing_law.Goals as goal
use Rattle.formula_text.proofs.Printed.{all_names, field_text, printed_read, printed_short, read_printable}

pub returns-clause-printable : goal.returns-clause-printable
returns-clause-printable c = read_printable

pub returns-clause-names : goal.returns-clause-names
returns-clause-names c = all_names

pub returns-clause-again : goal.returns-clause-again
returns-clause-again c = printed_read

pub returns-clause-short : goal.returns-clause-short
returns-clause-short c = printed_short

pub returns-clause-field : goal.returns-clause-field
returns-clause-field c = field_text
