-- The entries of a map as pairs of plain bytes and what they are declared as.
use Rattle.std.specs.Prelude.{ℕ, List, Vec}
use Rattle.std.specs.declared.alloc.Global.{Global}
use Rattle.mission_items.specs.declared.decl.Decl.{Decl}

abbrev pub plain : Vec ℕ Global × Decl → List ℕ × Decl
plain e = (e.0.items, e.1)
