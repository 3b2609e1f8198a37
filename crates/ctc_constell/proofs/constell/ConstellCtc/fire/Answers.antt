use Rattle.std.proofs.Common.{◌≡◌, ◌+◌, ◌<◌, ℕ, [], ◌∷◌, List, Option, None, arith, sym, subst, length, map, slice_index, slice_index_or}
use Rattle.std.specs.List.{range_with_len}
use Rattle.std.proofs.lemmas.List.{get_or_default}
use Rattle.std.proofs.lemmas.List.Elements.{All-nil, All-cons}
use Rattle.std.proofs.lemmas.List.FromFn.{map-range_with_len_more}
use Rattle.tube_spec.specs.Span.{Span}
use Rattle.tube_spec.specs.Projection.{Projection, IsMonotone}
use Rattle.tube_names.specs.Points.{numbers, cells_of}
use Rattle.tube_names.proofs.Numbers.{named-at, cell-at, cells-length}
use Rattle.ctc_core.specs.declared.Revised.{Revised}
use Rattle.ctc_core.specs.Answers.{Revises, then_of}
use Rattle.ctc_core.proofs.Firing.{Revises-empty, Revises-then}
use Rattle.ctc_core.proofs.Fixing.{fixes-fires, if-each}
use Rattle.ctc_constell.specs.Constellations.{constell_projections_at}
use Rattle.ctc_constell.specs.ConstellLaws.{constell-monotone}
use Rattle.ctc_constell.proofs.Passes.{fixed_at, fixed-mono, fixed-fixes, fixed-moved, named-moved}
use Rattle.ctc_constell.proofs.constell.ConstellCtc.fire.Goals as goal

pub returns-then-is_empty : goal.returns-then-is_empty
returns-then-is_empty g c = Revises-empty _ c.args.store.now c.known.ensures (c.is_empty.ensures.0 c.if-is_empty.true)

pub loop-i-init : goal.loop-i-init
loop-i-init g c = c.start-answer.ensures.none

pub hold_by-next-requires : goal.hold_by-next-requires
hold_by-next-requires g c =
    named-moved c.args.store.now.shape c.loop-i.store.shape _ c.loop-i.invariant.revised.shape (named-at (length c.args.store.now.shape.vars) c.args.self.now.p c.requires.point c.loop-i.i _ (omega arith))

pub loop-i-preserved : goal.loop-i-preserved
loop-i-preserved g c =
    let old = c.args.store.now in
    let me = c.args.self.now in
    let p : List ℕ = cells_of old.shape (numbers me.p) in
    let lefts : List (Option Span) = c.lefts-lefts.result in
    let i = c.loop-i.i in
    let anywhere : List Span → Type 0 = λ xs. Unit {0} in
    let new = c.hold_by-next.new.store in
    let cell = cell-at old.shape me.p i (record { 0 = 0 }) (omega arith) in
    let inside : i < length lefts = omega (arith, c.lefts-lefts.ensures.size, c.loop-i-test.true) in
    let next = fixed-moved old.shape c.loop-i.store.shape _ (slice_index p i) _ (slice_index_or lefts i None) c.loop-i.store new c.hold_by-next.result c.loop-i.invariant.revised.shape cell (get_or_default lefts i _ None inside) c.hold_by-next.ensures in
    let both = Revises-then anywhere (map (fixed_at p lefts) (range_with_len 0 i)) (fixed_at p lefts i ∷ []) old c.loop-i.store new c.loop-i.answer c.hold_by-next.result (if-each old.box anywhere (λ xs. tt))
    (All-cons (IsMonotone anywhere) (fixed_at p lefts i) [] (fixed-mono anywhere (slice_index p i) (slice_index_or lefts i None)) (All-nil (IsMonotone anywhere))) c.loop-i.invariant next in
    subst (λ (a : Revised). Revises (map (fixed_at p lefts) (range_with_len 0 (i + 1))) old new a) (sym c.then-answer.ensures)
    (subst (λ (ps : List Projection). Revises ps old new (then_of c.loop-i.answer c.hold_by-next.result)) (sym (map-range_with_len_more (fixed_at p lefts) 0 i i (omega arith))) both)

pub returns : goal.returns
returns g c =
    let old = c.args.store.now in
    let me = c.args.self.now in
    let p : List ℕ = cells_of old.shape (numbers me.p) in
    let marks : List (List ℕ) = map (cells_of old.shape) (map numbers me.marks.items) in
    let lefts : List (Option Span) = c.lefts-lefts.result in
    let anywhere : List Span → Type 0 = λ xs. Unit {0} in
    let all : c.loop-i.i ≡ length p = omega (arith, c.loop-i-test.false, c.loop-i.auto, cells-length old.shape me.p) in
    fixes-fires anywhere (constell_projections_at p marks) (map (fixed_at p lefts) (range_with_len 0 (length p))) old c.loop-i.store c.loop-i.answer (if-each old.box anywhere (λ xs. tt))
    (constell-monotone anywhere old.shape (numbers me.p) (map numbers me.marks.items)) (fixed-fixes p marks lefts old.box (λ k l. c.lefts-lefts.ensures.each k (omega (arith, l, cells-length old.shape me.p))))
    (subst (λ (n : ℕ). Revises (map (fixed_at p lefts) (range_with_len 0 n)) old c.loop-i.store c.loop-i.answer) all c.loop-i.invariant)
