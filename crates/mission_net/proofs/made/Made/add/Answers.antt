use Rattle.std.proofs.Common.{◌<◌, ◌≤◌, ◌++◌, ◌∷◌, [], List, Some, None, arith, refl, sym, ap, subst, ◌∙◌, append_assoc, length, ℕ, ◌≡◌, Option, pos}
use Rattle.std.specs.Prelude.{is_some, option_map, slice_index_or}
use Rattle.mission_items.specs.declared.item.Item.{Item}
use Rattle.mission_items.specs.declared.item.Item.TheVariants as item
use Rattle.mission_items.specs.Made.{beacons_in, mark_x, mark_y}
use Rattle.mission_items.specs.Valid.{IsMark}
use Rattle.tube_spec.specs.Span.{Span, point}
use Rattle.mission_items.proofs.Making.{length-signal_ranges}
use Rattle.mission_net.specs.Tables.{IsTableOf, IsTaken, Table}
use Rattle.mission_net.proofs.Tabling.{hull-some, on_ok, table-beacon, table-mark, table-ping, table-rate, table-rest, table-signal, table-variables}
use Rattle.mission_net.proofs.made.Made.add.Goals as goal

-- the record of an arm, and the table that comes of it
along : (before : List Item) (r s : Item) (t u : Table) → r ≡ s → t ≡ u → IsTableOf u (before ++ s ∷ []) → IsTableOf t (before ++ r ∷ [])
along before r s t u e f h =
    subst (λ (q : Item). IsTableOf t (before ++ q ∷ [])) (sym e) (subst (λ (v : Table). IsTableOf v (before ++ s ∷ [])) (sym f) h)

-- the mark at the hulls
marked : (t p new : Table) (h : Span × Span) (vs : List Span) → p ≡ record t { variables = vs } → t.hull ≡ Some h
    → Some new ≡ option_map (λ (hull : Span × Span). record p { variables = p.variables ++ hull.0 ∷ hull.1 ∷ [] }) p.hull → new ≡ record t { variables = vs ++ h.0 ∷ h.1 ∷ [] }
marked t p new h vs e is made =
    let f : Table → (Span × Span) → Table = λ (p : Table) (hull : Span × Span). record p { variables = p.variables ++ hull.0 ∷ hull.1 ∷ [] } in
    some_is new (f (record t { variables = vs }) h)
    (made ∙ ap (λ (p : Table). option_map (f p) p.hull) e ∙ ap (option_map (f (record t { variables = vs }))) is) where
      some_is : (a b : Table) → ◌≡◌ {A = Option Table} (Some a) (Some b) → a ≡ b
      some_is a b e = cc e

pub returns-in-Signal : goal.returns-in-Signal
returns-in-Signal c =
    let t = c.args.self.now in
    on_ok c.add_signal.result _ _ (λ e. along c.args.before.now c.args.item.now _ c.add_signal.new.self _ c.in-Signal.is e (table-signal t c.args.before.now c.requires.before c.in-Signal.name c.in-Signal.range)) c.add_signal.ensures

pub returns-in_default : goal.returns-in_default
returns-in_default c =
    let n = c.in_default in
    table-rest c.args.self.now c.args.before.now c.requires.before c.args.item.now n.not-Signal n.not-Variable n.not-Beacon n.not-Deriv n.not-At n.not-Ping

pub returns-in-Variable : goal.returns-in-Variable
returns-in-Variable c =
    let t = c.args.self.now in
    let b = c.args.before.now in
    let r = item.Variable c.in-Variable.name c.in-Variable.range in
    on_ok c.add_variable.result _ _ (λ e. along b c.args.item.now r c.add_variable.new.self _ c.in-Variable.is e (table-variables t b c.requires.before r (c.in-Variable.range ∷ []) refl refl refl refl (λ x. refl))) c.add_variable.ensures

pub returns-in-Beacon : goal.returns-in-Beacon
returns-in-Beacon c =
    let t = c.args.self.now in
    let b = c.args.before.now in
    let a = c.in-Beacon in
    on_ok c.add_beacon.result _ _ (λ e. along b c.args.item.now (item.Beacon a.name a.x a.y) c.add_beacon.new.self _ a.is e (table-beacon t b c.requires.before a.name a.x a.y)) c.add_beacon.ensures

pub returns-in-Deriv : goal.returns-in-Deriv
returns-in-Deriv c =
    let t = c.args.self.now in
    let b = c.args.before.now in
    let a = c.in-Deriv in
    let inside : a.x.0 < 64 = subst (IsTaken b) a.is c.requires.taken in
    along b c.args.item.now (item.Deriv a.x a.rate) c.add_rate.new.self _ a.is c.add_rate.ensures (table-rate t b c.requires.before a.x a.rate inside)

pub returns-in_ok-add_variable-in-At : goal.returns-in_ok-add_variable-in-At
returns-in_ok-add_variable-in-At c =
    let t = c.args.self.now in
    let b = c.args.before.now in
    let a = c.in-At in
    let r = item.At a.x a.tick a.range in
    let first = c.in_ok-add_variable-in-At.ensures in
    on_ok c.add_variable-in-At-2.result _ _ (λ e. along b c.args.item.now r c.add_variable-in-At-2.new.self _ a.is
    (e ∙ ap (λ (u : Table). record u { variables = u.variables ++ a.range ∷ [] }) first ∙ ap (λ (vs : List Span). record t { variables = vs }) (append_assoc t.variables (c.ticks.result ∷ []) (a.range ∷ []) ∙ ap (λ (s : Span). t.variables ++ s ∷ a.range ∷ []) c.ticks.ensures))
    (table-variables t b c.requires.before r (point (pos a.tick) ∷ a.range ∷ []) refl refl refl refl (λ x. refl))) c.add_variable-in-At-2.ensures

pub add_point-requires-clause-one : goal.add_point-requires-clause-one
add_point-requires-clause-one c =
    let a = c.in-Ping in
    let taken = subst (IsTaken c.args.before.now) a.is c.requires.taken in
    let inside = taken.0 in
    omega (arith, inside, ap length c.requires.before.signals, length-signal_ranges c.args.before.now)

pub add_point-requires-clause-other : goal.add_point-requires-clause-other
add_point-requires-clause-other c =
    let a = c.in-Ping in
    let taken = subst (IsTaken c.args.before.now) a.is c.requires.taken in
    let inside = taken.1 in
    omega (arith, inside, ap length c.requires.before.signals, length-signal_ranges c.args.before.now)

pub add_mark-requires : goal.add_mark-requires
add_mark-requires c =
    let a = c.in-Ping in
    let b = c.args.before.now in
    let taken = subst (IsTaken b) a.is c.requires.taken in
    let some : 1 ≤ beacons_in b = subst (IsMark b) c.in-None.is taken.3 in
    let e = c.in_ok-add_point-in-Ping.ensures in
    let hull = ap (λ (t : Table). t.hull) e ∙ hull-some c.args.self.now b c.requires.before some in
    ap is_some hull

pub returns-in-Some : goal.returns-in-Some
returns-in-Some c =
    let t = c.args.self.now in
    let b = c.args.before.now in
    let a = c.in-Ping in
    let e = c.in_ok-add_point-in-Ping.ensures in
    let is = a.is ∙ ap (λ (o : Option ℕ). item.Ping a.x a.y a.first a.last o a.near a.far) c.in-Some.is in
    along b c.args.item.now (item.Ping a.x a.y a.first a.last (Some _) a.near a.far) c.add_point.new.self _ is
    (e ∙ ap (λ (s : Span). record t { variables = t.variables ++ s ∷ slice_index_or t.signals a.x.0 (point (pos 0)) ∷ slice_index_or t.signals a.y.0 (point (pos 0)) ∷ [] }) c.ticks-in-Ping.ensures)
    (table-ping t b c.requires.before a.x a.y a.first a.last _ a.near a.far)

pub returns-in-None : goal.returns-in-None
returns-in-None c =
    let t = c.args.self.now in
    let b = c.args.before.now in
    let a = c.in-Ping in
    let e = c.in_ok-add_point-in-Ping.ensures in
    let taken = subst (IsTaken b) a.is c.requires.taken in
    let some : 1 ≤ beacons_in b = subst (IsMark b) c.in-None.is taken.3 in
    let is = a.is ∙ ap (λ (o : Option ℕ). item.Ping a.x a.y a.first a.last o a.near a.far) c.in-None.is in
    let made : Span → List Span = λ (s : Span). t.variables ++ s ∷ slice_index_or t.signals a.x.0 (point (pos 0)) ∷ slice_index_or t.signals a.y.0 (point (pos 0)) ∷ [] in
    let known = hull-some t b c.requires.before some in
    on_ok c.add_mark.result _ _ (λ f. along b c.args.item.now (item.Ping a.x a.y a.first a.last None a.near a.far) c.add_mark.new.self _ is
    (marked t c.add_point.new.self c.add_mark.new.self (mark_x b, mark_y b) (made c.ticks-in-Ping.result) e known f
    ∙ ap (λ (s : Span). record t { variables = made s ++ mark_x b ∷ mark_y b ∷ [] }) c.ticks-in-Ping.ensures)
    (table-mark t b c.requires.before a.x a.y a.first a.last a.near a.far (mark_x b, mark_y b) some known)) c.add_mark.ensures
