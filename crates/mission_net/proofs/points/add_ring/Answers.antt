use Rattle.std.proofs.Common.{◌≡◌, ℕ, ◌+◌, [], ◌∷◌, List, Option, ap₂, refl, subst, sym}
use Rattle.any_ctc.specs.Constraints.{DistOf, ConstellOf, reads_in}
use Rattle.mission_net.specs.Records.{point_at}
use Rattle.mission_net.specs.Tables.{mark_by, target_by}
use Rattle.mission_net.specs.Building.{CanAdd}
use Rattle.tube_names.specs.Points.{numbers}
use Rattle.mission_net.proofs.Additions.{can-after}
use Rattle.mission_net.proofs.points.add_ring.Goals as goal

pub add_constellation-requires : goal.add_constellation-requires
add_constellation-requires c =
    let t = c.args.made.now in
    let first = c.args.first in
    let near = c.args.near in
    let far = c.args.far in
    let can : CanAdd (DistOf (point_at (first + 1)) (point_at (first + 3)) near far ∷ ConstellOf (point_at (first + 3)) t.marks ∷ []) c.args.net.now =
    subst (λ (o : Option ℕ). CanAdd (DistOf (point_at (first + 1)) (target_by t (first + 3) o) near far ∷ mark_by t (first + 3) o) c.args.net.now) c.in-None.is c.requires.room in
    let place = c.point-place.result in
    let mark = c.point-mark.result in
    let same : (g : List ℕ) → reads_in g (DistOf (point_at (first + 1)) (point_at (first + 3)) near far ∷ []) ≡ reads_in g (DistOf (numbers place) (numbers mark) near far ∷ []) =
    λ (g : List ℕ). ap₂ (λ (p b : List ℕ). reads_in g (DistOf p b near far ∷ [])) (sym c.point-place.ensures) (sym c.point-mark.ensures) in
    rw c.point-mark.ensures
    (can-after (DistOf (point_at (first + 1)) (point_at (first + 3)) near far ∷ []) _ (ConstellOf (point_at (first + 3)) t.marks ∷ []) c.args.net.now c.add_distance-in-None.new.net can c.in_ok-add_distance-in-None.ensures refl same)
