use Rattle.std.proofs.Common.{◌≡◌, ℕ, ◌+◌, ◌<◌, List, [], ◌∷◌, ◌++◌, arith, ap, subst, sym, ap₂, ◌∙◌, refl, pos, ℤ, Option, to_z, of_z, w64}
use Rattle.std.proofs.lemmas.Int.{ints}
use Rattle.tube_spec.specs.Span.{Span, point}
use Rattle.tube_store.specs.declared.SignalId.{SignalId}
use Rattle.tube_store.specs.declared.VarId.{VarId}
use Rattle.ctc_network.specs.Nets.{NetState}
use Rattle.tube_names.specs.Points.{numbers}
use Rattle.mission_items.specs.declared.item.Item.{Item}
use Rattle.mission_items.specs.declared.item.Item.TheVariants as item
use Rattle.mission_items.specs.Made.{ticks_from, variable_range, variables_in}
use Rattle.mission_items.specs.Valid.{IsMark}
use Rattle.any_ctc.specs.Constraints.{Constraint, ConstellOf, DistOf}
use Rattle.mission_net.specs.Records.{contracts_of, evaluation, mark_constraints, point_at, target_of}
use Rattle.mission_net.specs.Tables.{evaluation_by, mark_by, target_by, IsTableOf, Table}
use Rattle.mission_net.specs.Building.{CanAdd, HasBeacon, IsAdded, IsBeside, IsTimed}
use Rattle.any_ctc.specs.declared.AnyCtc.{AnyCtc}
use Rattle.mission_net.proofs.Additions.{added-then, can-first, can-rest}
use Rattle.mission_net.proofs.ByTable.{at-by, beacon-in, constell-by, eval-by, evaluated-below, other-below, ping-by}
use Rattle.mission_net.proofs.Tabling.{on_ok}
use Rattle.mission_net.proofs.records.add_contractors.Goals as goal

-- what a ping's ring is, whose variables begin with a number
abbrev ring : ℕ → ℤ → ℤ → Option ℕ → Table → List Constraint
ring v near far beacon t = DistOf (point_at (v + 1)) (target_by t (v + 3) beacon) near far ∷ mark_by t (v + 3) beacon

-- the record of an arm
module _ (grid : List ℕ) (before : List Item) (r s : Item) (t : Table) (net : NetState AnyCtc) (same : r ≡ s) where
  here-can : CanAdd (contracts_of grid before r) net → CanAdd (contracts_of grid before s) net
  here-can = subst (λ (q : Item). CanAdd (contracts_of grid before q) net) same

  here-table : IsTableOf t (before ++ r ∷ []) → IsTableOf t (before ++ s ∷ [])
  here-table = subst (λ (q : Item). IsTableOf t (before ++ q ∷ [])) same

  -- what is added, in the words of the record
  there : (cs : List Constraint) (a b : NetState AnyCtc) → contracts_of grid before s ≡ cs → IsAdded [] cs a b → IsAdded [] (contracts_of grid before r) a b
  there cs a b e h = subst (λ (l : List Constraint). IsAdded [] l a b) (sym (ap (contracts_of grid before) same ∙ e)) h

  -- an evaluation of an `at` and of an `eval`, a constellation and a ping in the words of the table, whose record makes variables from v on
  module _ (v : ℕ) (first : v ≡ variables_in before) (beside : IsBeside t net) (is : IsTableOf t (before ++ r ∷ [])) (can : CanAdd (contracts_of grid before r) net) where
    at-is : (x : SignalId) (tick : ℕ) (range : Span) → s ≡ item.At x tick range → contracts_of grid before r ≡ evaluation_by t x.0 v (v + 1) ∷ []
    at-is x tick range e =
        let q = item.At x tick range in
        let all : CanAdd (contracts_of grid before q) net = subst (λ (q : Item). CanAdd (contracts_of grid before q) net) (same ∙ e) can in
        let table : IsTableOf t (before ++ q ∷ []) = subst (λ (q : Item). IsTableOf t (before ++ q ∷ [])) (same ∙ e) is in
        let w = variables_in before in
        ap (contracts_of grid before) (same ∙ e) ∙ at-by grid before t x tick range table (evaluated-below before x.0 w (w + 1) (point (pos tick)) [] t net beside all)
        ∙ ap (λ (v : ℕ). evaluation_by t x.0 v (v + 1) ∷ []) (sym first)

    eval-is : (x : SignalId) (u z : VarId) → s ≡ item.Eval x u z → u.0 < variables_in before → contracts_of grid before r ≡ evaluation_by t x.0 u.0 z.0 ∷ []
    eval-is x u z e time =
        let q = item.Eval x u z in
        let all : CanAdd (contracts_of grid before q) net = subst (λ (q : Item). CanAdd (contracts_of grid before q) net) (same ∙ e) can in
        let table : IsTableOf t (before ++ q ∷ []) = subst (λ (q : Item). IsTableOf t (before ++ q ∷ [])) (same ∙ e) is in
        ap (contracts_of grid before) (same ∙ e) ∙ eval-by grid before t x u z table (evaluated-below before x.0 u.0 z.0 (variable_range before u.0) [] t net beside all) time

    constell-is : (p : List VarId) → s ≡ item.Constell p → contracts_of grid before r ≡ ConstellOf (numbers p) t.marks ∷ []
    constell-is p e =
        let table : IsTableOf t (before ++ item.Constell p ∷ []) = subst (λ (q : Item). IsTableOf t (before ++ q ∷ [])) (same ∙ e) is in
        ap (contracts_of grid before) (same ∙ e) ∙ constell-by grid before t p table

    ping-is : (x y : SignalId) (from to : ℕ) (beacon : Option ℕ) (near far : ℤ) → s ≡ item.Ping x y from to beacon near far
        → contracts_of grid before r ≡ (evaluation_by t x.0 v (v + 1) ∷ evaluation_by t y.0 v (v + 2) ∷ []) ++ ring v near far beacon t
    ping-is x y from to beacon near far e =
        let q = item.Ping x y from to beacon near far in
        let all : CanAdd (contracts_of grid before q) net = subst (λ (q : Item). CanAdd (contracts_of grid before q) net) (same ∙ e) can in
        let table : IsTableOf t (before ++ q ∷ []) = subst (λ (q : Item). IsTableOf t (before ++ q ∷ [])) (same ∙ e) is in
        let w = variables_in before in
        let rest : List Constraint = DistOf (point_at (w + 1)) (target_of before beacon) near far ∷ mark_constraints before beacon in
        let one = evaluated-below before x.0 w (w + 1) (ticks_from from to) (evaluation before y.0 w (w + 2) (ticks_from from to) ∷ rest) t net beside all in
        let other = other-below before (evaluation before x.0 w (w + 1) (ticks_from from to)) y.0 w (w + 2) (ticks_from from to) rest t net beside all in
        ap (contracts_of grid before) (same ∙ e) ∙ ping-by grid before t x y from to beacon near far table one other
        ∙ ap (λ (v : ℕ). (evaluation_by t x.0 v (v + 1) ∷ evaluation_by t y.0 v (v + 2) ∷ []) ++ ring v near far beacon t) (sym first)

    -- the radii of a ping are small
    radius-near : (x y : SignalId) (from to : ℕ) (beacon : Option ℕ) (near far : ℤ) → s ≡ item.Ping x y from to beacon near far → to_z w64 (of_z w64 near) ≡ near
    radius-near x y from to beacon near far e =
        let all : CanAdd (contracts_of grid before (item.Ping x y from to beacon near far)) net = subst (λ (q : Item). CanAdd (contracts_of grid before q) net) (same ∙ e) can in
        let fits = all.of 2 (DistOf (point_at (variables_in before + 1)) (target_of before beacon) near far) (omega arith) in
        let zero = fits.from_zero in
        let order = fits.in_order in
        let bound = fits.bounded in omega (arith, ints, zero, order, bound)

    radius-far : (x y : SignalId) (from to : ℕ) (beacon : Option ℕ) (near far : ℤ) → s ≡ item.Ping x y from to beacon near far → to_z w64 (of_z w64 far) ≡ far
    radius-far x y from to beacon near far e =
        let all : CanAdd (contracts_of grid before (item.Ping x y from to beacon near far)) net = subst (λ (q : Item). CanAdd (contracts_of grid before q) net) (same ∙ e) can in
        let fits = all.of 2 (DistOf (point_at (variables_in before + 1)) (target_of before beacon) near far) (omega arith) in
        let zero = fits.from_zero in
        let order = fits.in_order in
        let bound = fits.bounded in omega (arith, ints, zero, order, bound)

by : (cs ds : List Constraint) (net : NetState AnyCtc) → cs ≡ ds → CanAdd cs net → CanAdd ds net
by cs ds net e can = subst (λ (l : List Constraint). CanAdd l net) e can

back : (cs ds : List Constraint) (a b : NetState AnyCtc) → cs ≡ ds → IsAdded [] ds a b → IsAdded [] cs a b
back cs ds a b e h = subst (λ (l : List Constraint). IsAdded [] l a b) (sym e) h

pub add_evaluation-requires-clause-room : goal.add_evaluation-requires-clause-room
add_evaluation-requires-clause-room c =
    let net = c.args.net.now in
    let a = c.in-At in
    by _ _ net (at-is net.store.shape.grid c.args.before.now c.args.item.now _ c.args.table.now net a.is c.args.variables c.requires.variables c.requires.beside c.requires.table c.requires.room a.x a.tick a.range refl) c.requires.room

pub returns-in-At : goal.returns-in-At
returns-in-At c =
    let net = c.args.net.now in
    let a = c.in-At in
    on_ok c.add_evaluation.result _ _ (back _ _ net c.add_evaluation.new.net
    (at-is net.store.shape.grid c.args.before.now c.args.item.now _ c.args.table.now net a.is c.args.variables c.requires.variables c.requires.beside c.requires.table c.requires.room a.x a.tick a.range refl)) c.add_evaluation.ensures

timed : (before : List Item) (r : Item) (x : SignalId) (u z : VarId) → r ≡ item.Eval x u z → IsTimed before r → u.0 < variables_in before
timed before r x u z e h = subst (IsTimed before) e h

pub add_evaluation-requires-in-Eval-clause-room : goal.add_evaluation-requires-in-Eval-clause-room
add_evaluation-requires-in-Eval-clause-room c =
    let net = c.args.net.now in
    let a = c.in-Eval in
    by _ _ net (eval-is net.store.shape.grid c.args.before.now c.args.item.now _ c.args.table.now net a.is c.args.variables c.requires.variables c.requires.beside c.requires.table c.requires.room a.x a.t a.z refl
    (timed c.args.before.now c.args.item.now a.x a.t a.z a.is c.requires.evaluated)) c.requires.room

pub returns-in-Eval : goal.returns-in-Eval
returns-in-Eval c =
    let net = c.args.net.now in
    let a = c.in-Eval in
    on_ok c.add_evaluation-in-Eval.result _ _ (back _ _ net c.add_evaluation-in-Eval.new.net
    (eval-is net.store.shape.grid c.args.before.now c.args.item.now _ c.args.table.now net a.is c.args.variables c.requires.variables c.requires.beside c.requires.table c.requires.room a.x a.t a.z refl
    (timed c.args.before.now c.args.item.now a.x a.t a.z a.is c.requires.evaluated))) c.add_evaluation-in-Eval.ensures

pub add_constellation-requires : goal.add_constellation-requires
add_constellation-requires c =
    let net = c.args.net.now in
    let a = c.in-Constell in
    by _ _ net (constell-is net.store.shape.grid c.args.before.now c.args.item.now _ c.args.table.now net a.is c.args.variables c.requires.variables c.requires.beside c.requires.table c.requires.room a.p refl) c.requires.room

pub returns-in-Constell : goal.returns-in-Constell
returns-in-Constell c =
    let net = c.args.net.now in
    let a = c.in-Constell in
    on_ok c.add_constellation.result _ _ (back _ _ net c.add_constellation.new.net
    (constell-is net.store.shape.grid c.args.before.now c.args.item.now _ c.args.table.now net a.is c.args.variables c.requires.variables c.requires.beside c.requires.table c.requires.room a.p refl)) c.add_constellation.ensures

pub add_place-requires-clause-room : goal.add_place-requires-clause-room
add_place-requires-clause-room c =
    let net = c.args.net.now in
    let t = c.args.table.now in
    let v = c.args.variables in
    let a = c.in-Ping in
    can-first (evaluation_by t a.x.0 v (v + 1) ∷ evaluation_by t a.y.0 v (v + 2) ∷ []) (ring v a.near a.far a.beacon t) net
    (by _ _ net (ping-is net.store.shape.grid c.args.before.now c.args.item.now _ t net a.is v c.requires.variables c.requires.beside c.requires.table c.requires.room a.x a.y a.first a.last a.beacon a.near a.far refl) c.requires.room)

pub add_ring-requires-clause-beacon : goal.add_ring-requires-clause-beacon
add_ring-requires-clause-beacon c =
    let b = c.args.before.now in
    let a = c.in-Ping in
    let q = item.Ping a.x a.y a.first a.last a.beacon a.near a.far in
    let mark : IsMark b a.beacon = subst (HasBeacon b) a.is c.requires.beacon in
    beacon-in c.args.net.now.store.shape.grid b c.args.table.now q a.beacon (here-table c.args.net.now.store.shape.grid b c.args.item.now q c.args.table.now c.args.net.now a.is c.requires.table) refl mark

pub add_ring-requires-clause-room : goal.add_ring-requires-clause-room
add_ring-requires-clause-room c =
    let net = c.args.net.now in
    let t = c.args.table.now in
    let v = c.args.variables in
    let a = c.in-Ping in
    let g = net.store.shape.grid in
    let near = radius-near g c.args.before.now c.args.item.now _ t net a.is v c.requires.variables c.requires.beside c.requires.table c.requires.room a.x a.y a.first a.last a.beacon a.near a.far refl in
    let far = radius-far g c.args.before.now c.args.item.now _ t net a.is v c.requires.variables c.requires.beside c.requires.table c.requires.room a.x a.y a.first a.last a.beacon a.near a.far refl in
    let both : List Constraint = evaluation_by t a.x.0 v (v + 1) ∷ evaluation_by t a.y.0 v (v + 2) ∷ [] in
    by _ _ c.add_place.new.net (ap₂ (λ (n f : ℤ). ring v n f a.beacon t) (sym near) (sym far))
    (can-rest both (ring v a.near a.far a.beacon t) net c.add_place.new.net
    (by _ _ net (ping-is g c.args.before.now c.args.item.now _ t net a.is v c.requires.variables c.requires.beside c.requires.table c.requires.room a.x a.y a.first a.last a.beacon a.near a.far refl) c.requires.room) c.in_ok-add_place-in-Ping.ensures)

pub returns-in_ok-add_place-in-Ping : goal.returns-in_ok-add_place-in-Ping
returns-in_ok-add_place-in-Ping c =
    let net = c.args.net.now in
    let t = c.args.table.now in
    let v = c.args.variables in
    let a = c.in-Ping in
    let g = net.store.shape.grid in
    let near = radius-near g c.args.before.now c.args.item.now _ t net a.is v c.requires.variables c.requires.beside c.requires.table c.requires.room a.x a.y a.first a.last a.beacon a.near a.far refl in
    let far = radius-far g c.args.before.now c.args.item.now _ t net a.is v c.requires.variables c.requires.beside c.requires.table c.requires.room a.x a.y a.first a.last a.beacon a.near a.far refl in
    let both : List Constraint = evaluation_by t a.x.0 v (v + 1) ∷ evaluation_by t a.y.0 v (v + 2) ∷ [] in
    on_ok c.add_ring.result _ _ (λ h.
    back _ _ net c.add_ring.new.net (ping-is g c.args.before.now c.args.item.now _ t net a.is v c.requires.variables c.requires.beside c.requires.table c.requires.room a.x a.y a.first a.last a.beacon a.near a.far refl)
    (added-then [] [] both (ring v a.near a.far a.beacon t) net c.add_place.new.net c.add_ring.new.net c.in_ok-add_place-in-Ping.ensures
    (back (ring v a.near a.far a.beacon t) _ c.add_place.new.net c.add_ring.new.net (ap₂ (λ (n f : ℤ). ring v n f a.beacon t) (sym near) (sym far)) h))) c.add_ring.ensures
