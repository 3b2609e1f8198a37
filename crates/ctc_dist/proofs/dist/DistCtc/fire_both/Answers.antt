use Rattle.std.proofs.Common.{◌≡◌, ◌<◌, ℕ, Option, option_map, [], ◌∷◌, List, arith, refl, sym, ap, ap₂, subst, ◌∙◌, length, slice_index, slice_index_or}
use Rattle.std.proofs.lemmas.List.Elements.{All-nil, All-cons}
use Rattle.tube_spec.specs.Span.{Span, add_of, sub_of}
use Rattle.tube_spec.specs.Narrowing.{narrowing_of}
use Rattle.tube_spec.specs.Shape.{Shape}
use Rattle.tube_spec.specs.Box.{cell_at}
use Rattle.tube_spec.specs.Projection.{Projection, IsMonotone}
use Rattle.tube_spec.proofs.Monotone.{IfSome-map2}
use Rattle.tube_names.specs.Points.{numbers, cells_of}
use Rattle.tube_names.proofs.Numbers.{named-at, cell-at}
use Rattle.ctc_core.specs.declared.Revised.{Revised}
use Rattle.ctc_core.specs.Answers.{Revises}
use Rattle.ctc_core.proofs.Firing.{Revises-empty, Revises-then}
use Rattle.ctc_core.proofs.Fixing.{fixes-fires, if-each}
use Rattle.ctc_dist.specs.Fixed.{fixed}
use Rattle.ctc_dist.specs.Distances.{squares_from}
use Rattle.ctc_dist.proofs.Pairs.{pair, pair-mono, pair-fixed, fixed-mono, fixed-moved, named-moved}
use Rattle.ctc_dist.proofs.dist.DistCtc.fire_both.Goals as goal

pub returns-then-is_empty : goal.returns-then-is_empty
returns-then-is_empty g c = Revises-empty _ c.args.store.now c.known.ensures (c.is_empty.ensures.0 c.if-is_empty.true)

pub value-one-requires-clause-named : goal.value-one-requires-clause-named
value-one-requires-clause-named g c = named-at (length c.args.store.now.shape.vars) c.args.self.now.p c.requires.fits.one c.args.i _ (omega arith)

pub value-other-requires-clause-named : goal.value-other-requires-clause-named
value-other-requires-clause-named g c = named-at (length c.args.store.now.shape.vars) c.args.self.now.b c.requires.fits.other c.args.i _ (omega arith)

pub hold_by-first-requires : goal.hold_by-first-requires
hold_by-first-requires g c = named-at (length c.args.store.now.shape.vars) c.args.self.now.p c.requires.fits.one c.args.i _ (omega arith)

pub hold_by-second-requires : goal.hold_by-second-requires
hold_by-second-requires g c =
    named-moved c.args.store.now.shape c.hold_by-first.new.store.shape _ c.hold_by-first.ensures.revised.shape (named-at (length c.args.store.now.shape.vars) c.args.self.now.b c.requires.fits.other c.args.i _ (omega arith))

pub returns : goal.returns
returns g c =
    let old = c.args.store.now in
    let mid = c.hold_by-first.new.store in
    let new = c.hold_by-second.new.store in
    let me = c.args.self.now in
    let s = old.shape in
    let p : List ℕ = cells_of s (numbers me.p) in
    let b : List ℕ = cells_of s (numbers me.b) in
    let q : Span = squares_from me.near me.far in
    let i = c.args.i in
    let anywhere : List Span → Type 0 = λ xs. Unit {0} in
    let one : Option Span = c.both_by-forth.result.0 in
    let other : Option Span = c.both_by-forth.result.1 in
    let at_p = cell-at s me.p i (record { 0 = 0 }) (omega arith) in
    let at_b = cell-at s me.b i (record { 0 = 0 }) (omega arith) in
    let first = fixed-moved s s _ (slice_index p i) one one old mid c.hold_by-first.result refl at_p refl c.hold_by-first.ensures in
    let second = fixed-moved s mid.shape _ (slice_index b i) other other mid new c.hold_by-second.result c.hold_by-first.ensures.revised.shape at_b refl c.hold_by-second.ensures in
    let both = Revises-then anywhere (fixed (slice_index p i) one ∷ []) (fixed (slice_index b i) other ∷ []) old mid new c.hold_by-first.result c.hold_by-second.result (if-each old.box anywhere (λ xs. tt))
    (All-cons (IsMonotone anywhere) (fixed (slice_index b i) other) [] (fixed-mono anywhere (slice_index b i) other) (All-nil (IsMonotone anywhere))) first second in
    let whole = fixes-fires anywhere (pair p b q i) (fixed (slice_index p i) one ∷ fixed (slice_index b i) other ∷ []) old new _ (if-each old.box anywhere (λ xs. tt)) (pair-mono anywhere p b q i)
    (pair-fixed p b q i old.box one other
    (IfSome-map2 _ _ _ old.box (λ xs v o. ap narrowing_of (c.both_by-forth.ensures.forth ∙ ap₂ (λ (x : Span) (y : Option Span). option_map (add_of x) y) (v ∙ ap (cell_at xs) (sym at_b)) o)) c.value-other.ensures.value c.offset-offset.ensures.value)
    (IfSome-map2 _ _ _ old.box (λ xs v o. ap narrowing_of (c.both_by-forth.ensures.back ∙ ap₂ (λ (x : Span) (y : Option Span). option_map (sub_of x) y) (v ∙ ap (cell_at xs) (sym at_p)) o)) c.value-one.ensures.value c.offset-offset.ensures.value))
    both in
    subst (λ (a : Revised). Revises (pair p b q i) old new a) (sym c.then.ensures) whole
