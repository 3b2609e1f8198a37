-- The entries of a map as plain pairs: look-ups, and a new entry.
use Rattle.std.proofs.Common.{◌≡◌, ℕ, Bool, true, false, cond, List, [], ◌∷◌, ◌++◌, Option, Some, None, map, refl, ap, bytes_eq, inl, inr, ◌⊎◌}
use Rattle.std.specs.Prelude.{Vec}
use Rattle.std.specs.declared.alloc.Global.{Global}
use Rattle.std.specs.Map.{lookup}
use Rattle.indexmap.specs.IndexMap.{insert_entry}
use Rattle.mission_items.specs.declared.decl.Decl.{Decl}
use Rattle.name_table.specs.Pairs.{plain}

-- a look-up in the map is one in the plain pairs
pub lookup_plain : (es : List (Vec ℕ Global × Decl)) (name : List ℕ) → lookup (λ (k : Vec ℕ Global). bytes_eq name k.items) es ≡ lookup (bytes_eq name) (map plain es)
lookup_plain [] name = refl
lookup_plain (e ∷ es) name = ap (cond (bytes_eq name e.0.items) (Some e.1)) (lookup_plain es name)

-- which way a test went
chosen : {A : Type 0} (b : Bool) (x y z : A) → cond b x y ≡ z → ((b ≡ true) × (x ≡ z)) ⊎ ((b ≡ false) × (y ≡ z))
chosen true x y z e = inl (refl, e)
chosen false x y z e = inr (refl, e)

-- a new name goes to the end of the map
pub insert_new : (es : List (Vec ℕ Global × Decl)) (k : Vec ℕ Global) (d : Decl) → lookup (bytes_eq k.items) (map plain es) ≡ None
    → map plain (insert_entry (λ (a b : Vec ℕ Global). bytes_eq a.items b.items) es k d) ≡ map plain es ++ (k.items, d) ∷ []
insert_new [] k d h = refl
insert_new (e ∷ es) k d h = elim (chosen (bytes_eq k.items e.0.items) (Some e.1) (lookup (bytes_eq k.items) (map plain es)) None h) [
  | inl p ↦ cc p.1
  | inr p ↦ rw p.0 (ap (λ (ps : List (List ℕ × Decl)). plain e ∷ ps) (insert_new es k d p.1))
]
