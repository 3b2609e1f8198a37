use Rattle.std.proofs.Common.{ℕ, List, Some, subst, sym, take, drop}
use Rattle.tube_spec.specs.Box.{IsBelow, IsBelowBox}
use Rattle.tube_spec.specs.Assignment.{Assignment}
use Rattle.tube_spec.specs.Fixpoint.{IsFixpoint}
use Rattle.tube_spec.specs.Owner.{hull_box}
use Rattle.mission_items.specs.declared.item.Item.{Item}
use Rattle.mission_items.specs.declared.mission.Mission.{Mission}
use Rattle.mission_items.specs.Valid.{IsMission}
use Rattle.mission_net.specs.Records.{contracts_from, owners, projections, start, SatisfiesAll}
use Rattle.mission_net.proofs.Building.{built-encloses, first-part, first-sound}
use Rattle.mission_net.proofs.Enclosing.{hull-fixpoint, hull-below}
use Rattle.mission_net.proofs.Sections.{built-box}
use Rattle.mission_net.proofs.Tabling.{on_ok}
use Rattle.mission_net.proofs.missions.build.Goals as goal

-- the hull of what satisfies the first records is a fixpoint of them, below their declared ranges
first-fixpoint : (m : Mission) → IsMission m → (last : ℕ) (a : Assignment) → SatisfiesAll m.cuts a (take last m.items)
    → IsFixpoint (projections m.cuts (take last m.items)) (hull_box m.cuts (owners (take last m.items)) a) × IsBelow (hull_box m.cuts (owners (take last m.items)) a) (start m.cuts (take last m.items))
first-fixpoint m is last a says = (
  hull-fixpoint m.cuts is.clock.grid (take last m.items) m.version (first-sound m is last) a says,
  hull-below m.cuts is.clock.grid (take last m.items) m.version (first-sound m is last) a says,
)

pub returns-in_err-table-clause-stable : goal.returns-in_err-table-clause-stable
returns-in_err-table-clause-stable c a says = first-fixpoint c.args.mission.now c.requires.mission c.args.last a says

pub returns-clause-stable : goal.returns-clause-stable
returns-clause-stable c a says = first-fixpoint c.args.mission.now c.requires.mission c.args.last a says

pub returns-clause-encloses : goal.returns-clause-encloses
returns-clause-encloses c =
    let m = c.args.mission.now in
    let from = take c.args.first m.items in
    let more = drop c.args.first (take c.args.last m.items) in
    let parts = first-part c.args.first c.args.last m.items c.requires.order c.requires.within in
    on_ok c.build_on.result _ _ (λ added a says low.
    subst (λ (l : List Item). IsBelowBox (Some (hull_box m.cuts (owners l) a)) c.build_on.new.net.store.box) parts
    (built-encloses m.cuts from more a c.args.net.now.store.box c.build_on.new.net.store.box c.requires.mission.clock.grid
    (built-box m.cuts m.items c.args.first more (contracts_from m.cuts from more) c.args.net.now c.build_on.new.net c.requires.holds added)
    (subst (SatisfiesAll m.cuts a) (sym parts) says) low)) c.build_on.ensures.added
