use Rattle.std.proofs.Common.{Some}
use Rattle.cell_readers.proofs.Kept.{fixpoint-kept, drain-start, drain-step, drain-end, get-all}
use Rattle.cell_readers.proofs.laws.kept_law.Goals as goal

pub returns-clause-kept : goal.returns-clause-kept
returns-clause-kept g c k s xs ys fits box low quiet fix =
    let K = g.C.Contractor in
    let m = g.met.C.Contractor in
    fixpoint-kept (λ zs. K.fits k s (Some zs)) (K.scope k s) (K.projections k s) xs ys (m.reads_only k s) fits (m.fits_below k s (Some ys) (Some xs) low fits) box low quiet fix

pub returns-clause-start : goal.returns-clause-start
returns-clause-start g c s reads cs xs ys waiting cells rest all = drain-start (λ k. g.C.Contractor.projections k s) reads cs xs ys waiting cells rest all

pub returns-clause-step : goal.returns-clause-step
returns-clause-step g c s reads cs xs ys before after cell cells d woken = drain-step (λ k. g.C.Contractor.projections k s) reads cs xs ys before after cell cells d woken

pub returns-clause-end : goal.returns-clause-end
returns-clause-end g c s reads cs xs ys waiting d agrees fit box low =
    let K = g.C.Contractor in
    let m = g.met.C.Contractor in
    drain-end (λ k. K.projections k s) reads cs xs ys (λ k zs. K.fits k s (Some zs)) (λ k. K.scope k s) waiting d agrees (λ k. m.reads_only k s)
    (λ j k there. let f = get-all (λ z. K.fits z s (Some xs)) cs j k there fit in (f, m.fits_below k s (Some ys) (Some xs) low f)) box low
