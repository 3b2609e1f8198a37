use Rattle.std.proofs.Common.{◌≡◌, ◌+◌, ◌<◌, arith, rules, subst, length, slice_index, ◌∙◌}
use Rattle.std.proofs.lemmas.List.{get_or_default}
use Rattle.tube_store.specs.State.{State}
use Rattle.tube_store.proofs.Kept.{parts-among}
use Rattle.tube_store.proofs.Store.at_tick.Goals as goal

pub overflow_add-first : goal.overflow_add-first
overflow_add-first c =
    let s = c.self.inside in
    let signal : c.args.signal.0 < length s.firsts.items = search rules in
    let first : c.index-first.result.now ≡ slice_index s.firsts.items c.args.signal.0 = c.index-first.ensures ∙ get_or_default s.firsts.items c.args.signal.0 c.index-first.result.now 0 signal in
    let among = parts-among _ c.args.signal.0 c.args.tick c.index-first.result.now c.place_of.result c.self.invariant.layout signal first c.place_of.ensures.place in
    record { fits = omega (arith, among, c.self.invariant.layout.few) }

pub get-requires-clause-named : goal.get-requires-clause-named
get-requires-clause-named c =
    let s = c.self.inside in
    let signal : c.args.signal.0 < length s.firsts.items = search rules in
    let first : c.index-first.result.now ≡ slice_index s.firsts.items c.args.signal.0 = c.index-first.ensures ∙ get_or_default s.firsts.items c.args.signal.0 c.index-first.result.now 0 signal in
    subst (λ (st : State). c.index-first.result.now + c.place_of.result < st.shape.cells) c.self.view_is
    (parts-among _ c.args.signal.0 c.args.tick c.index-first.result.now c.place_of.result c.self.invariant.layout signal first c.place_of.ensures.place)
