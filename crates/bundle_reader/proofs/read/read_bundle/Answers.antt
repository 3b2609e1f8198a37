use Rattle.bundle_text.proofs.BundleTexts.{bundles_are_one}
use Rattle.std.proofs.Common.{sym, ◌∙◌}
use Rattle.bundle_reader.proofs.read.read_bundle.Goals as goal

pub returns-in-Some-clause-only : goal.returns-in-Some-clause-only
returns-in-Some-clause-only c = λ b h e.
    let here = rw c.in-Some.is at c.in_ok-bundle.ensures in
    bundles_are_one c.in-Some.bundle b here.0 h (here.1 ∙ sym e)
