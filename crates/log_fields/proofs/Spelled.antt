-- References that are spelled one by one are spelled all together.
use Rattle.std.proofs.Common.{[], ◌∷◌}
use Rattle.std.specs.Prelude.{All}
use Rattle.std.proofs.lemmas.List.Elements.{All-cons, All-nil}
use Rattle.log_fields.specs.Said.{IsSpelled}
use Rattle.log_fields.specs.declared.fields.Reference.{Reference}

pub two : (a b : Reference) → IsSpelled a → IsSpelled b → All IsSpelled (a ∷ b ∷ [])
two a b p q = All-cons IsSpelled a (b ∷ []) p (All-cons IsSpelled b [] q (All-nil IsSpelled))

pub four : (a b c d : Reference) → IsSpelled a → IsSpelled b → IsSpelled c → IsSpelled d → All IsSpelled (a ∷ b ∷ c ∷ d ∷ [])
four a b c d p q r s = All-cons IsSpelled a (b ∷ c ∷ d ∷ []) p (All-cons IsSpelled b (c ∷ d ∷ []) q (two c d r s))

pub six : (a b c d e f : Reference) → IsSpelled a → IsSpelled b → IsSpelled c → IsSpelled d → IsSpelled e → IsSpelled f → All IsSpelled (a ∷ b ∷ c ∷ d ∷ e ∷ f ∷ [])
six a b c d e f p q r s t u = All-cons IsSpelled a (b ∷ c ∷ d ∷ e ∷ f ∷ []) p (All-cons IsSpelled b (c ∷ d ∷ e ∷ f ∷ []) q (four c d e f r s t u))
