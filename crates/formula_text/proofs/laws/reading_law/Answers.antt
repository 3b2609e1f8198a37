use Rattle.formula_text.proofs.laws.reading_law.Goals as goal
use Rattle.formula_text.proofs.Read.{deep_large, faulty_text, large_deep, means_read, read_means, text_faulty}

pub returns-clause-read : goal.returns-clause-read
returns-clause-read c = λ text r. (read_means text r, means_read text r)

pub returns-clause-deep : goal.returns-clause-deep
returns-clause-deep c = λ text. (deep_large text, large_deep text)

pub returns-clause-faulty : goal.returns-clause-faulty
returns-clause-faulty c = λ text. (text_faulty text, faulty_text text)
