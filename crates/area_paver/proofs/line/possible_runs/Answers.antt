use Rattle.std.proofs.Common.{◌≡◌, ◌↔◌, ◌⊎◌, inl, inr, ℕ, ◌+◌, ◌*◌, ◌<◌, ◌≤◌, ℤ, pos, ◌+ℤ◌, ◌-ℤ◌, ◌*ℤ◌, ◌≤ℤ◌, List, Bool, true, length, arith, refl, sym, subst, ap, rules, w64, SFits, to_z, of_z, ◌∙◌}
use Rattle.std.proofs.lemmas.Int.{ints, clamps, to_z-of_z}
use Rattle.area_paver.specs.Lattice.{coordinate}
use Rattle.area_paver.specs.Survey.{Survey, may_see}
use Rattle.area_paver.specs.Runs.{Covers}
use Rattle.area_paver.proofs.Covering.{covers-more}
use Rattle.area_paver.proofs.Tables.{back-written}
use Rattle.area_paver.proofs.Marking.{tick-may}
use Rattle.area_paver.proofs.line.possible_runs.Goals as goal

pub loop-k-preserved : goal.loop-k-preserved
loop-k-preserved c =
    let v : Survey = record { xs = c.args.xs.now; ys = c.args.ys.now; radius = c.args.sensor.radius; norm = c.args.sensor.norm } in
    let q : ℤ = to_z w64 (of_z w64 c.args.q) in
    let test = λ (k i : ℕ). may_see v k (coordinate c.args.axis i) q in
    let kept = back-written c.loop-k.ends.items c.deref_mut.result.now c.add_possible.new.ends c.loop-k.ends.len c.deref_mut.ensures.value c.deref_mut.ensures.len (omega arith) in
    let lent = subst (λ (ends : List ℕ). Covers ends c.args.axis.count c.loop-k.k test) (sym c.deref_mut.ensures.value) c.loop-k.invariant.runs in
    let more = covers-more c.deref_mut.result.now c.add_possible.new.ends c.args.axis.count c.loop-k.k test lent (tick-may v c.loop-k.k c.args.axis q c.tick-x.result c.tick-y.result c.deref_mut.result.now c.add_possible.new.ends c.tick-x.ensures.value c.tick-y.ensures.value c.add_possible.ensures) in
    record {
      len = ap (length {A = ℕ}) kept ∙ omega (arith, ap (length {A = ℕ}) c.deref_mut.ensures.value, c.loop-k.invariant.len);
      runs = subst (λ (ends : List ℕ). Covers ends c.args.axis.count (c.loop-k.k + 1) test) (sym kept) more;
    }

pub returns-clause-runs : goal.returns-clause-runs
returns-clause-runs c =
    let v : Survey = record { xs = c.args.xs.now; ys = c.args.ys.now; radius = c.args.sensor.radius; norm = c.args.sensor.norm } in
    let e = to_z-of_z w64 c.args.q c.ranges.q in
    let end : c.loop-k.k ≡ length c.args.xs.now = omega arith in
    subst (λ (z : ℤ). Covers c.loop-k.ends.items c.args.axis.count (length c.args.xs.now) (λ k i. may_see v k (coordinate c.args.axis i) z)) e
    (subst (λ (n : ℕ). Covers c.loop-k.ends.items c.args.axis.count n (λ k i. may_see v k (coordinate c.args.axis i) (to_z w64 (of_z w64 c.args.q)))) end c.loop-k.invariant.runs)
