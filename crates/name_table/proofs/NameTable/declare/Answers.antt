use Rattle.std.proofs.Common.{◌≡◌, ◌∙◌, ap, ℕ, List, ◌∷◌, [], ◌++◌, map, bytes_eq, None}
use Rattle.std.specs.Map.{lookup}
use Rattle.mission_items.specs.declared.decl.Decl.{Decl}
use Rattle.name_table.specs.Pairs.{plain}
use Rattle.name_table.proofs.Entries.{insert_new}
use Rattle.name_table.proofs.NameTable.declare.Goals as goal

pub returns-clause-added : goal.returns-clause-added
returns-clause-added c =
    let table = c.self.inside.names.entries in
    let key = c.in_ok-key.key in
    let key_is = c.in_ok-key.ensures.items in
    let absent : lookup (bytes_eq key.items) (map plain table) ≡ None =
    ap (λ (xs : List ℕ). lookup (bytes_eq xs) (map plain table)) key_is
    ∙ (ap (lookup (bytes_eq c.args.name.now)) c.self.view_is ∙ c.requires) in
    ap (map plain) c.in_ok-insert.ensures.entries
    ∙ (insert_new table key c.args.declared absent
    ∙ (ap (λ (ps : List (List ℕ × Decl)). ps ++ (key.items, c.args.declared) ∷ []) c.self.view_is
    ∙ ap (λ (xs : List ℕ). c.args.self.now ++ (xs, c.args.declared) ∷ []) key_is))
