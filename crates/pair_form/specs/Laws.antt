-- What is true of every source.
use Rattle.std.specs.Prelude.{◌≡◌, ℕ, List}
use Rattle.pair_form.specs.Forms.{IsPairText, SourceForm}

-- bytes say one thing at most
abbrev pub FormsAreOne : Type 0
FormsAreOne = (bytes : List ℕ) (a b : SourceForm) → IsPairText bytes a → IsPairText bytes b → a ≡ b
