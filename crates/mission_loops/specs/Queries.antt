-- The queries among records, and the rates that records give a signal.
use Rattle.std.specs.Prelude.{ℕ, ◌==◌, List, [], ◌∷◌, flat_map, if◌then◌else◌}
use Rattle.tube_names.specs.declared.queries.Query.{Query}
use Rattle.mission_items.specs.declared.item.Item.{Item}
use Rattle.mission_items.specs.declared.item.Item.TheVariants as item

-- what a record asks about loops
abbrev pub query_of : Item → List Query
query_of (item.Revisit q) = q ∷ []
query_of r = []

-- the queries of records, in order
abbrev pub queries : List Item → List Query
queries items = flat_map query_of items

-- the rate that a record gives a signal
abbrev pub rate_of : ℕ → Item → List ℕ
rate_of x (item.Deriv y rate) = if x == y.0 then rate.0 ∷ [] else []
rate_of x r = []

-- all rates that records give a signal, in order
abbrev pub rates_of : List Item → ℕ → List ℕ
rates_of items x = flat_map (rate_of x) items
