use Rattle.std.proofs.Common.{◌≡◌, ◌<◌, ◌≤◌, arith, length, ℕ, List, All, sym, ap, subst, ◌∙◌, slice_index}
use Rattle.cell_readers.specs.Entries.{Table}
use Rattle.cell_readers.proofs.Chains.{walk-length}
use Rattle.cell_readers.proofs.Noted.{numbers-below, head-list}
use Rattle.cell_readers.proofs.readers.Readers.of.Goals as goal

pub returns-clause-numbers : goal.returns-clause-numbers
returns-clause-numbers c =
    let r = c.self.inside in
    let place : c.head.result ≡ slice_index r.heads.items c.args.cell.0 = c.head.ensures ∙ ap (λ (hs : List ℕ). slice_index hs c.args.cell.0) c.deref-2.ensures.value in
    let list = head-list r.entries.items c.deref.result.now r.heads.items c.args.cell.0 c.head.result c.from_place.result c.from_place.ensures c.deref.ensures.value place in
    subst (λ (t : Table). All (λ n. n < t.contractors) c.from_place.result) c.self.view_is
    (subst (λ (ns : List ℕ). All (λ n. n < r.contractors) ns) (sym list) (numbers-below r.entries.items r.heads.items r.contractors c.self.invariant c.args.cell.0))

pub returns-clause-few : goal.returns-clause-few
returns-clause-few c =
    let r = c.self.inside in
    let place : c.head.result ≡ slice_index r.heads.items c.args.cell.0 = c.head.ensures ∙ ap (λ (hs : List ℕ). slice_index hs c.args.cell.0) c.deref-2.ensures.value in
    let long : length c.from_place.result ≤ c.head.result = subst (λ (ns : List ℕ). length ns ≤ c.head.result) (sym c.from_place.ensures) (walk-length c.deref.result.now c.head.result c.head.result) in
    omega (arith, long, place, c.self.invariant.within c.args.cell.0, c.self.invariant.few)
