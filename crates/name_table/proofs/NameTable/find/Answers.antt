use Rattle.std.proofs.Common.{◌∙◌, ap, bytes_eq}
use Rattle.std.specs.Map.{lookup}
use Rattle.name_table.proofs.Entries.{lookup_plain}
use Rattle.name_table.proofs.NameTable.find.Goals as goal

pub returns : goal.returns
returns c =
    c.copied.ensures
    ∙ (c.get.ensures.value
    ∙ (lookup_plain c.self.inside.names.entries c.args.name.now ∙ ap (lookup (bytes_eq c.args.name.now)) c.self.view_is))
