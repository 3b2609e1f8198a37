-- What contracts see of a store.
use Rattle.std.specs.Prelude.{◌≡◌, ℕ, ◌<◌, Option, Some, List, [], ◌∷◌, ◌++◌, length, cond, nat_eq, All, IfSome}
use Rattle.std.specs.List.{IsDistinct}
use Rattle.tube_spec.specs.Span.{Span}
use Rattle.tube_spec.specs.Shape.{Shape, IsShape, no_shape}
use Rattle.tube_spec.specs.Box.{IsBox, AreBounded, box_more}
use Rattle.tube_spec.specs.Owner.{Owner, with_owner, declared_cells}
use Rattle.tube_store.specs.Touched.{stands_in}

-- the shape, the box, and the cells that were narrowed since they were last taken
pub record State : Type 0 where
  pub shape : Shape
  pub box : Option (List Span)
  pub touched : List ℕ

-- what holds of every store: each cell is a proper interval within the bound, and the touched cells are among them, each once
pub record IsStore (s : State) : Type 0 where
  pub shape : IsShape s.shape
  pub box : IfSome s.box (λ xs. IsBox xs × (length xs ≡ s.shape.cells))
  pub bounded : IfSome s.box AreBounded
  pub among : All (λ cell. cell < s.shape.cells) s.touched
  pub distinct : IsDistinct nat_eq s.touched

-- a store with no cells
abbrev pub no_cells : List ℕ → State
no_cells grid = record { shape = no_shape grid; box = Some []; touched = [] }

-- a store with one signal or variable more, its cells at the declared range
abbrev pub state_with : State → Owner → State
state_with s o = record s { shape = with_owner s.shape o; box = box_more s.box (declared_cells s.shape.grid o) }

-- a list of cells with one more at the end, unless it stands there already
abbrev pub touch : List ℕ → ℕ → List ℕ
touch cells c = cond (stands_in cells c) cells (cells ++ c ∷ [])
