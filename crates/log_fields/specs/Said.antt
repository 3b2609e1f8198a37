-- What the fields that the code gives stand for.
use Rattle.std.specs.Prelude.{◌≡◌, ℕ, true, List}
use Rattle.log_spelling.specs.Names.{is_name}
use Rattle.log_spelling.specs.declared.reference.Part.{Part}
use Rattle.log_fields.specs.declared.fields.Reference.{Reference}

-- a reference as its bare name and its part
abbrev pub said : Reference → List ℕ × Part
said p = (p.name.now, p.part)

-- its bare name is spelled as a name
abbrev pub IsSpelled : Reference → Type 0
IsSpelled p = is_name p.name.now ≡ true
