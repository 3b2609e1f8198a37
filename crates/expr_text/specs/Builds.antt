-- What the functions that build a tree return, seen without memory.
use Rattle.std.specs.Prelude.{List, Option, option_map}
use Rattle.std.proofs.Common.{Bor}
use Rattle.expr_tree.specs.declared.Term.{Term}
use Rattle.expr_tree.specs.Trees.{tree_of}
use Rattle.expr_text.specs.declared.token.Token.{Token}
use Rattle.expr_text.specs.Descent.{Read, ReadTwo}

abbrev pub seen : Option (Term × Bor (List Token)) → Read
seen found = option_map (λ f. (tree_of f.0, f.1.now)) found

abbrev pub seen_two : Option (Term × Term × Bor (List Token)) → ReadTwo
seen_two found = option_map (λ f. (tree_of f.0, tree_of f.1, f.2.now)) found
