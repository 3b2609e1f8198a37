-- The answer to a text.
use Rattle.std.specs.Prelude.{◌≡◌, ℕ, List, Result, Ok, Err}
use Rattle.expr_tree.specs.declared.Rel.{Rel}
use Rattle.expr_tree.specs.Trees.{relation_of}
use Rattle.expr_text.specs.declared.fault.ExprFault.{ExprFault}
use Rattle.expr_text.specs.declared.fault.ExprFault.TheVariants as fault
use Rattle.expr_text.specs.Grammar.{RelationPhrase, phrase_relation}
use Rattle.expr_text.specs.Reading.{FaultAt, IsWithinLimits, PassesALimit, Spells}

-- The text is the relation that was read, and it is within the limits. The text is none, and its first fault
-- stands there. It is one that passes a limit.
abbrev pub Answers : List ℕ → Result Rel ExprFault → Type 0
Answers text (Ok rel) =
    (phrase : RelationPhrase) × Spells text phrase × IsWithinLimits phrase × (phrase_relation phrase ≡ relation_of rel)
Answers text (Err (fault.Text place)) = FaultAt text place
Answers text (Err fault.Deep) = (phrase : RelationPhrase) × Spells text phrase × PassesALimit phrase
Answers text (Err fault.NoMemory) = Unit {0}

-- memory was refused, or this is the fault
abbrev pub IsFault : ExprFault → ExprFault → Type 0
IsFault fault.NoMemory want = Unit {0}
IsFault e want = e ≡ want

-- memory was refused, or the text was refused for this
abbrev pub Refuses : Result Rel ExprFault → ExprFault → Type 0
Refuses (Ok rel) want = ⊥
Refuses (Err e) want = IsFault e want

-- memory was refused, or this relation was read
abbrev pub ReadsAs : Result Rel ExprFault → RelationPhrase → Type 0
ReadsAs (Ok rel) phrase = relation_of rel ≡ phrase_relation phrase
ReadsAs (Err fault.NoMemory) phrase = Unit {0}
ReadsAs (Err _) phrase = ⊥
