use Rattle.std.proofs.Common.{◌≡◌, ◌-◌, ◌<◌, ℕ, Option, Some, None, List, Bool, IsTrue, rules, length, map, set, sym, subst, ◌∙◌, slice_get, arith}
use Rattle.std.proofs.lemmas.List.{length-map}
use Rattle.ctc_network.specs.Nets.{NetState, IsNetMarked, IsThere, of_place}
use Rattle.ctc_network.proofs.Holes.{there-within}
use Rattle.ctc_network.proofs.Waking.{sum-scopes}
use Rattle.ctc_network.proofs.Marks.{each-fits}
use Rattle.ctc_network.proofs.Removing.{taken-there, listed-reads, removed-entries, removed-count, removed-there, removed-kept, removed-marks}
use Rattle.ctc_network.proofs.net.Net.remove.Goals as goal

pub remove-requires-clause-listed : goal.remove-requires-clause-listed
remove-requires-clause-listed g c =
    let T = g.row.C.Denot in
    let n = c.self.inside in
    let k = c.args.id.0 in
    let yes : IsTrue c.has.result = search rules in
    let l : k < length n.contractors.items = there-within n.contractors.items k (subst (λ (v : NetState T). IsThere v.contractors k) (sym c.self.view_is) (c.has.ensures.0 yes)) in
    let there = taken-there n.contractors.items k c.index_mut.result.now c.in_ok-c.c l c.index_mut.ensures.value (sym c.take.ensures.value ∙ c.in_ok-c.was) in
    listed-reads g.C.Contractor.scope n.store.shape n.contractors.items n.readers.readers k c.in_ok-c.c c.self.invariant.net.kept.table_of.readers there

pub reads-requires : goal.reads-requires
reads-requires g c =
    let T = g.row.C.Denot in
    let n = c.self.inside in
    let k = c.args.id.0 in
    let yes : IsTrue c.has.result = search rules in
    let l : k < length n.contractors.items = there-within n.contractors.items k (subst (λ (v : NetState T). IsThere v.contractors k) (sym c.self.view_is) (c.has.ensures.0 yes)) in
    let there = taken-there n.contractors.items k c.index_mut.result.now c.in_ok-c.c l c.index_mut.ensures.value (sym c.take.ensures.value ∙ c.in_ok-c.was) in
    each-fits g.C.Contractor.fits n.store.shape n.store.box n.contractors.items c.self.invariant.net.kept.state.net.fit k c.in_ok-c.c there

pub overflow_sub-self : goal.overflow_sub-self
overflow_sub-self g c =
    let K = g.C.Contractor in
    let T = g.row.C.Denot in
    let n = c.self.inside in
    let k = c.args.id.0 in
    let yes : IsTrue c.has.result = search rules in
    let l : k < length n.contractors.items = there-within n.contractors.items k (subst (λ (v : NetState T). IsThere v.contractors k) (sym c.self.view_is) (c.has.ensures.0 yes)) in
    let there = taken-there n.contractors.items k c.index_mut.result.now c.in_ok-c.c l c.index_mut.ensures.value (sym c.take.ensures.value ∙ c.in_ok-c.was) in
    omega (
      arith,
      c.reads.ensures,
      removed-entries T K.projections K.scope K.fits n.store.shape n.contractors.items k c.in_ok-c.c there,
      c.self.invariant.net.kept.table_of.sum,
      sum-scopes (λ x. of_place K.scope x n.store.shape) n.contractors.items,
    )

pub overflow_sub-self-2 : goal.overflow_sub-self-2
overflow_sub-self-2 g c =
    let T = g.row.C.Denot in
    let n = c.self.inside in
    let k = c.args.id.0 in
    let yes : IsTrue c.has.result = search rules in
    let l : k < length n.contractors.items = there-within n.contractors.items k (subst (λ (v : NetState T). IsThere v.contractors k) (sym c.self.view_is) (c.has.ensures.0 yes)) in
    let there = taken-there n.contractors.items k c.index_mut.result.now c.in_ok-c.c l c.index_mut.ensures.value (sym c.take.ensures.value ∙ c.in_ok-c.was) in
    omega (arith, c.self.invariant.net.count, removed-count n.contractors.items k c.in_ok-c.c there)

pub rest-requires : goal.rest-requires
rest-requires g c =
    let T = g.row.C.Denot in
    let n = c.self.inside in
    let k = c.args.id.0 in
    let yes : IsTrue c.has.result = search rules in
    omega (arith, c.self.invariant.net.kept.state.net.beside, there-within n.contractors.items k (subst (λ (v : NetState T). IsThere v.contractors k) (sym c.self.view_is) (c.has.ensures.0 yes)))

pub invariant_of-self-2 : goal.invariant_of-self-2
invariant_of-self-2 g c =
    let K = g.C.Contractor in
    let T = g.row.C.Denot in
    let n = c.self.inside in
    let k = c.args.id.0 in
    let cs = n.contractors.items in
    let yes : IsTrue c.has.result = search rules in
    let l : k < length cs = there-within cs k (subst (λ (v : NetState T). IsThere v.contractors k) (sym c.self.view_is) (c.has.ensures.0 yes)) in
    let there = taken-there cs k c.index_mut.result.now c.in_ok-c.c l c.index_mut.ensures.value (sym c.take.ensures.value ∙ c.in_ok-c.was) in
    let scopes : List (List ℕ) = map (λ x. of_place K.scope x n.store.shape) cs in
    let less = removed-entries T K.projections K.scope K.fits n.store.shape cs k c.in_ok-c.c there in
    let many = removed-count cs k c.in_ok-c.c there in
    let long : length scopes ≡ length cs = length-map cs (λ x. of_place K.scope x n.store.shape) in
    subst (λ (o : Option T). IsNetMarked K.projections K.scope K.fits g.C.Parted.parts g.C.Parted.part (record { store = n.store; contractors = set cs k o; waiting = c.rest.new.self }) c.remove.new.self (n.entries - c.reads.result) (n.count - 1) n.marks.items) (sym c.take.ensures.after)
    (subst (λ (ws : List Bool). IsNetMarked K.projections K.scope K.fits g.C.Parted.parts g.C.Parted.part (record { store = n.store; contractors = set cs k None; waiting = ws }) c.remove.new.self (n.entries - c.reads.result) (n.count - 1) n.marks.items) (sym c.rest.ensures) record {
      net = record {
        kept = removed-kept T K.projections K.scope K.fits n.store cs n.waiting n.readers c.remove.new.self n.entries (n.entries - c.reads.result) k c.in_ok-c.c c.self.invariant.net.kept there
            (omega (arith, c.reads.ensures, less, c.self.invariant.net.kept.table_of.sum, sum-scopes (λ x. of_place K.scope x n.store.shape) cs))
            (c.remove.ensures.exact scopes (omega (arith, l, long)) c.self.invariant.net.kept.table_of.readers) c.remove.ensures.contractors;
        there = removed-there cs n.waiting k c.self.invariant.net.there;
        count = omega (arith, c.self.invariant.net.count, many);
      };
      marks = removed-marks g.C.Parted.parts g.C.Parted.part n.store cs n.marks.items k c.self.invariant.marks;
    })

pub returns-clause-out : goal.returns-clause-out
returns-clause-out g c =
    let T = g.row.C.Denot in
    let n = c.self.inside in
    let k = c.args.id.0 in
    let yes : IsTrue c.has.result = search rules in
    let l : k < length n.contractors.items = there-within n.contractors.items k (subst (λ (v : NetState T). IsThere v.contractors k) (sym c.self.view_is) (c.has.ensures.0 yes)) in
    subst (λ (v : NetState T). slice_get v.contractors k ≡ Some (Some c.in_ok-c.c)) c.self.view_is
    (taken-there n.contractors.items k c.index_mut.result.now c.in_ok-c.c l c.index_mut.ensures.value (sym c.take.ensures.value ∙ c.in_ok-c.was))
