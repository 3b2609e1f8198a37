-- What settling makes of a net of records.
use Rattle.std.specs.Prelude.{ℕ, ◌≤◌, List, Option, take, drop}
use Rattle.tube_spec.specs.Span.{Span}
use Rattle.tube_spec.specs.Box.{box_more, measure_of}
use Rattle.tube_spec.specs.Owner.{start_of}
use Rattle.tube_store.specs.State.{State}
use Rattle.ctc_network.specs.Nets.{NetState, of_place}
use Rattle.ctc_network.specs.Settling.{SettlesAs}
use Rattle.ctc_network.specs.declared.answers.Settled.{Settled}
use Rattle.mission_items.specs.declared.item.Item.{Item}
use Rattle.mission_items.specs.declared.mission.Mission.{Mission}
use Rattle.mission_items.specs.Valid.{IsMission}
use Rattle.any_ctc.specs.declared.AnyCtc.{AnyCtc}
use Rattle.any_ctc.specs.Contractors.{any_projections}
use Rattle.mission_net.specs.Records.{owners_from, IsEnclosure, Encloses}
use Rattle.mission_net.specs.Building.{IsNetOf, IsSectionAs, IsSpentAs}

-- A box that lost no common fixpoint of the first records of a mission, with the cells of further ones at their declared ranges, lost none of them all.
abbrev pub StartedLaw : Type 0
StartedLaw =
    (m : Mission) (first upto : ℕ) (box : Option (List Span)) → IsMission m → first ≤ upto → IsEnclosure m.cuts (take first m.items) box
    → IsEnclosure m.cuts (take upto m.items) (box_more box (start_of m.cuts (owners_from (take first m.items) (drop first (take upto m.items)))))

-- Settling the net of some records, from a box that lost no common fixpoint of them, gives their section, or was spent with its cause.
abbrev pub SettledLaw : Type 0
SettledLaw =
    (grid : List ℕ) (items : List Item) (budget : ℕ) (net : NetState AnyCtc) (new : State) (answer : Settled) → IsNetOf grid items net → IsEnclosure grid items net.store.box
    → SettlesAs (λ c. of_place any_projections c net.store.shape) net.contractors budget net.store new answer
    → IsSectionAs grid items new.box answer × IsSpentAs grid items new.box (measure_of net.store.box) budget answer

-- The box of a section of the first records of a mission encloses each assignment that satisfies them, also where it was spent.
abbrev pub EnclosingLaw : Type 0
EnclosingLaw =
    (m : Mission) (upto : ℕ) (box : Option (List Span)) (answer : Settled) → IsMission m → IsSectionAs m.cuts (take upto m.items) box answer → Encloses m.cuts (take upto m.items) box
