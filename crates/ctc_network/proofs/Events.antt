-- The calls of a net as events of a schedule.
use Rattle.std.proofs.Common.{◌≡◌, ℕ, ◌<◌, Option, Some, List, [], ◌∷◌, ◌++◌, true, IfSome, refl, sym, ap, subst, ◌∙◌, arith, length, option_map, slice_get}
use Rattle.std.proofs.lemmas.List.{map-append, length-map}
use Rattle.std.proofs.lemmas.Option.{slice_get-map}
use Rattle.tube_spec.specs.Span.{Span, IsProper}
use Rattle.tube_spec.specs.Shape.{Shape, IsShape, with_signal, with_var}
use Rattle.tube_spec.specs.Projection.{Projection}
use Rattle.tube_spec.specs.Owner.{Owner, SignalIn, VariableIn, declared_cells, with_owner}
use Rattle.tube_spec.specs.Box.{box_more}
use Rattle.tube_store.specs.State.{State, IsStore, state_with}
use Rattle.ctc_core.specs.declared.Revised.{Revised}
use Rattle.ctc_core.proofs.Firing.{IsBox-of}
use Rattle.ctc_network.specs.Nets.{NetState, of_place}
use Rattle.ctc_network.specs.Schedule.{Network, AddSignal, AddVar, AddContractor, Fire, IsFiring, IsNetworkOf, IsStep, after, grown}
use Rattle.ctc_network.specs.Settling.{Fires}
use Rattle.ctc_network.proofs.Replaying.{if-some}
use Rattle.ctc_network.proofs.Runs.{get-there}

-- a firing as the laws of a contractor allow it takes the box to one below it and keeps the fixpoints
pub fires-firing : (ps : List Projection) (old new : State) (answer : Revised) → Fires ps old new answer → IsFiring ps old.box new.box
fires-firing ps old new answer (touched, r) = record { boxes = IsBox-of (record new { touched = touched }) r.after; below = r.revised.below; keeps = r.revised.keeps }

module _ (C : Type 0) (projections : C → Shape → List Projection) (fits : C → Shape → Option (List Span) → Type 0) where
  grows : (n : Network C) (old : NetState C) (o : Owner) → IsNetworkOf n old
      → IsNetworkOf (grown n (with_owner n.shape o) (declared_cells n.shape.grid o)) (record old { store = state_with old.store o })
  grows n old o of = record {
    shape = ap (λ (s : Shape). with_owner s o) of.shape;
    box = ap (λ (b : Option (List Span)). box_more b (declared_cells n.shape.grid o)) of.box ∙ ap (λ (s : Shape). box_more old.store.box (declared_cells s.grid o)) of.shape;
    contractors = of.contractors;
  }

  pub signal-step : (n : Network C) (old new : NetState C) (range : Span) → IsNetworkOf n old → IsProper range → IsStore new.store
      → new ≡ record old { store = state_with old.store (SignalIn range) } → IsStep projections fits n (AddSignal range) new
  signal-step n old new range of proper store e = (
    (proper, subst (λ (s : Shape). IsShape (with_signal s)) (sym of.shape) (subst (λ (v : NetState C). IsShape v.store.shape) e store.shape)),
    subst (λ (v : NetState C). IsNetworkOf (after n (AddSignal range)) v) (sym e) (grows n old (SignalIn range) of),
  )

  pub var-step : (n : Network C) (old new : NetState C) (range : Span) → IsNetworkOf n old → IsProper range → IsStore new.store
      → new ≡ record old { store = state_with old.store (VariableIn range) } → IsStep projections fits n (AddVar range) new
  var-step n old new range of proper store e = (
    (proper, subst (λ (s : Shape). IsShape (with_var s)) (sym of.shape) (subst (λ (v : NetState C). IsShape v.store.shape) e store.shape)),
    subst (λ (v : NetState C). IsNetworkOf (after n (AddVar range)) v) (sym e) (grows n old (VariableIn range) of),
  )

  pub add-step : (n : Network C) (old new : NetState C) (c : C) → IsNetworkOf n old → fits c old.store.shape old.store.box
      → new ≡ record old { contractors = old.contractors ++ Some c ∷ []; waiting = old.waiting ++ true ∷ [] } → IsStep projections fits n (AddContractor c) new
  add-step n old new c of fit e = (
    subst (λ (s : Shape). fits c s n.box) (sym of.shape) (subst (λ (b : Option (List Span)). fits c old.store.shape b) (sym of.box) fit),
    subst (λ (v : NetState C). IsNetworkOf (after n (AddContractor c)) v) (sym e) (record { shape = of.shape; box = of.box; contractors = map-append Some n.contractors (c ∷ []) ∙ ap (λ (cs : List (Option C)). cs ++ Some c ∷ []) of.contractors }),
  )

  pub fire-step : (n : Network C) (old new : NetState C) (k : ℕ) (answer : Revised) → IsNetworkOf n old → k < length old.contractors
      → IfSome (slice_get old.contractors k) (λ c. Fires (of_place projections c old.store.shape) old.store new.store answer) → new.contractors ≡ old.contractors → IsStep projections fits n (Fire k new.store.box) new
  fire-step n old new k answer of named fired same =
      let there = get-there n.contractors k (omega (arith, named, length-map n.contractors Some, ap length of.contractors)) in
      let at : slice_get old.contractors k ≡ Some (Some there.0) = ap (λ (cs : List (Option C)). slice_get cs k) (sym of.contractors) ∙ slice_get-map Some n.contractors k ∙ ap (option_map Some) there.1 in
      let fires = if-some (λ (c : Option C). Fires (of_place projections c old.store.shape) old.store new.store answer) (slice_get old.contractors k) (Some there.0) at fired in
      let firing = fires-firing (projections there.0 old.store.shape) old.store new.store answer fires in (
        (
          there.0,
          there.1,
          subst (λ (s : Shape). IsFiring (projections there.0 s) n.box new.store.box) (sym of.shape) (subst (λ (b : Option (List Span)). IsFiring (projections there.0 old.store.shape) b new.store.box) (sym of.box) firing),
        ),
        record { shape = of.shape ∙ sym (fires_shape (projections there.0 old.store.shape) fires); box = refl; contractors = of.contractors ∙ sym same },
      )
    where
      fires_shape : (ps : List Projection) → Fires ps old.store new.store answer → new.store.shape ≡ old.store.shape
      fires_shape ps (touched, r) = r.revised.shape
