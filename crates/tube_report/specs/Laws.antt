-- What the definitions of the report say, in other words and on a small mission.
use Rattle.std.specs.Prelude.{◌≡◌, ℕ, ◌*◌, ◌-◌, ◌≤◌, List, [], ◌∷◌, length, Some, true, false, codes, pos, negsuc}
use Rattle.tube_spec.specs.Span.{Span, IsWithin}
use Rattle.tube_spec.specs.Shape.{Shape}
use Rattle.mission_items.specs.declared.item.Item.{Item}
use Rattle.mission_items.specs.declared.item.Item.TheVariants as item
use Rattle.tube_report.specs.Sections.{section_text, tube_cell, tube_range}
use Rattle.tube_report.specs.declared.section.Verdict.TheVariants as verdict

-- the range of a signal in brief holds each of its cells, and lies within every span that does
abbrev pub RangeIsLeast : Type 0
RangeIsLeast =
    (s : Shape) (xs : List Span) (signal : ℕ)
    → ((k : ℕ) → k ≤ 2 * length s.grid - 2 → IsWithin (tube_cell s xs signal k) (tube_range s xs signal))
    × ((t : Span) → ((k : ℕ) → k ≤ 2 * length s.grid - 2 → IsWithin (tube_cell s xs signal k) t) → IsWithin (tube_range s xs signal) t)

-- ---- one signal over one slice, a variable after the two that a measurement makes, and a beacon

abbrev pub small_items : List Item
small_items =
    item.Head
    ∷ item.Signal (codes "x") (record { lo = negsuc 8; hi = pos 9 })
    ∷ item.At (record { 0 = 0 }) 2 (record { lo = pos 0; hi = pos 0 })
    ∷ item.Variable (codes "a") (record { lo = negsuc 6; hi = pos 0 })
    ∷ item.Beacon (codes "b") (record { lo = pos 0; hi = pos 9 }) (record { lo = pos 0; hi = pos 9 })
    ∷ []

abbrev pub small_shape : Shape
small_shape = record { grid = 0 ∷ 2 ∷ []; signals = 0 ∷ []; vars = 3 ∷ 4 ∷ 5 ∷ 6 ∷ 7 ∷ []; cells = 8 }

abbrev pub small_box : List Span
small_box =
    record { lo = negsuc 0; hi = pos 1 }
    ∷ record { lo = negsuc 2; hi = pos 4 }
    ∷ record { lo = pos 0; hi = pos 0 }
    ∷ record { lo = pos 2; hi = pos 2 }
    ∷ record { lo = pos 0; hi = pos 0 }
    ∷ record { lo = negsuc 6; hi = negsuc 0 }
    ∷ record { lo = pos 8; hi = pos 8 }
    ∷ record { lo = pos 0; hi = pos 7 }
    ∷ []

-- its section in full, and in brief
abbrev pub SmallSection : Type 0
SmallSection = section_text small_items 3 verdict.Settled small_shape (Some small_box) false
    ≡ codes "section 3 settled\nsignal x\ngate 0 -1 1\nslice 0 2 -3 4\ngate 2 0 0\nvar a -7 -1\nvar b.x 8 8\nvar b.y 0 7\nend 3\n"

abbrev pub SmallBrief : Type 0
SmallBrief = section_text small_items 3 verdict.Spent small_shape (Some small_box) true
    ≡ codes "section 3 spent\nbrief x -3 4 9\nvar a -7 -1\nvar b.x 8 8\nvar b.y 0 7\nend 3\n"
