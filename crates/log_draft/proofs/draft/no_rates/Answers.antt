use Rattle.std.proofs.Common.{refl, false}
use Rattle.std.specs.Prelude.{replicate}
use Rattle.log_draft.proofs.Records.{false_at}
use Rattle.log_draft.proofs.draft.no_rates.Goals as goal

pub returns : goal.returns
returns c = λ x small. false_at (replicate 64 false) x refl
