use Rattle.bundle_text.proofs.BundleTexts.{bundles_are_one}
use Rattle.bundle_text.proofs.laws.bundles_are_one.Goals as goal

pub returns : goal.returns
returns c = bundles_are_one
