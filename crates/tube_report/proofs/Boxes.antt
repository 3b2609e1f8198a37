-- The text of a box that is not empty.
use Rattle.std.proofs.Common.{ℕ, [], List, None, Some, Result, IsNone, flat_map, refl, unwrap_or, ◌++◌}
use Rattle.std.specs.Prelude.{Bool, Option}
use Rattle.tube_spec.specs.Span.{Span}
use Rattle.tube_spec.specs.Shape.{Shape}
use Rattle.mission_items.specs.Names.{declared}
use Rattle.mission_items.specs.declared.item.Item.{Item}
use Rattle.tube_io.specs.Sends.{Sends}
use Rattle.tube_report.specs.Sections.{box_text, signal_text, variable_text}

pub sends_filled : {K T E : Type 0} (written : K → Option (List ℕ)) (flushed : K → Option ℕ) (faults : K → ℕ) (items : List Item) (shape : Shape) (box : Option (List Span)) (brief : Bool) (s t : K) (result : Result T E) → (IsNone box → ⊥)
    → Sends written flushed faults (flat_map (signal_text shape (unwrap_or box []) brief) (declared items) ++ flat_map (variable_text shape (unwrap_or box [])) (declared items)) s t result
    → Sends written flushed faults (box_text items shape box brief) s t result
sends_filled written flushed faults items shape None brief s t result some p = absurd (some refl)
sends_filled written flushed faults items shape (Some xs) brief s t result some p = p
