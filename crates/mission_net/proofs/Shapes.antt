-- What records and further records make of a shape.
use Rattle.std.proofs.Common.{◌≡◌, ℕ, List, [], ◌∷◌, ◌++◌, sym, ap, subst, ◌∙◌, append-nil, append_assoc}
use Rattle.tube_spec.specs.Shape.{Extends, no_shape}
use Rattle.tube_spec.specs.Owner.{Owner, with_owners, shape_of}
use Rattle.tube_spec.proofs.Hulls.{with_owners-append, owners-extend}
use Rattle.mission_items.specs.declared.item.Item.{Item}
use Rattle.mission_net.specs.Records.{made, owners, owners_from, shape_by}

pub owners-append : (xs ys before : List Item) → owners_from before (xs ++ ys) ≡ owners_from before xs ++ owners_from (before ++ xs) ys
owners-append [] ys before = ap (λ (l : List Item). owners_from l ys) (sym (append-nil before))
owners-append (r ∷ xs) ys before =
    ap (λ (l : List Owner). made before r ++ l) (owners-append xs ys (before ++ r ∷ []) ∙ ap (λ (l : List Item). owners_from (before ++ r ∷ []) xs ++ owners_from l ys) (append_assoc before (r ∷ []) xs))
    ∙ sym (append_assoc (made before r) (owners_from (before ++ r ∷ []) xs) (owners_from (before ++ r ∷ xs) ys))

pub owners-snoc : (before : List Item) (r : Item) → owners (before ++ r ∷ []) ≡ owners before ++ made before r
owners-snoc before r = owners-append before (r ∷ []) [] ∙ ap (λ (l : List Owner). owners before ++ l) (append-nil (made before r))

pub shape-append : (grid : List ℕ) (before rs : List Item) → shape_by grid (before ++ rs) ≡ with_owners (shape_by grid before) (owners_from before rs)
shape-append grid before rs = ap (shape_of grid) (owners-append before rs []) ∙ with_owners-append (owners before) (owners_from before rs) (no_shape grid)

pub shape-snoc : (grid : List ℕ) (before : List Item) (r : Item) → shape_by grid (before ++ r ∷ []) ≡ with_owners (shape_by grid before) (made before r)
shape-snoc grid before r = shape-append grid before (r ∷ []) ∙ ap (with_owners (shape_by grid before)) (append-nil (made before r))

pub shape-extends : (grid : List ℕ) (before rs : List Item) → Extends (shape_by grid before) (shape_by grid (before ++ rs))
shape-extends grid before rs = subst (Extends (shape_by grid before)) (sym (shape-append grid before rs)) (owners-extend (owners_from before rs) (shape_by grid before))

pub shape-grid : (grid : List ℕ) (items : List Item) → (shape_by grid items).grid ≡ grid
shape-grid grid items = (owners-extend (owners items) (no_shape grid)).grid
