use Rattle.bundle_text.proofs.ReportedTexts.{queries_are_reported, sets_are_reported}
use Rattle.bundle_text.proofs.laws.queries_are_reported.Goals as goal

pub returns-clause-sets : goal.returns-clause-sets
returns-clause-sets c = sets_are_reported

pub returns-clause-queries : goal.returns-clause-queries
returns-clause-queries c = queries_are_reported
