use Rattle.std.proofs.Common.{◌≡◌, ℕ, List, Some, None, ℤ, w64, to_z, of_z, take, get_or, refl, subst, ap, ◌∙◌, IfSome}
use Rattle.std.proofs.lemmas.Int.{to_z-of_z}
use Rattle.std.proofs.lemmas.List.{take_all}
use Rattle.tube_spec.specs.Grid.{last_tick}
use Rattle.tube_spec.specs.Tick.{at_tick}
use Rattle.loop_degree.specs.Pairs.{has}
use Rattle.loop_prover.specs.First.{label_of, LacksLabel, AreLabels}
use Rattle.loop_prover.proofs.Labelled.{corner-within, corners-more, own-more, answer-of, lacks, are-labels}
use Rattle.loop_prover.proofs.labels.labels_of.Goals as goal

-- the same with two numbers that are read back
read : (P : ℤ → ℤ → Type 0) (d d' e e' : ℤ) → d ≡ d' → e ≡ e' → P d e → P d' e'
read P d d' e e' f g h = subst (λ (z : ℤ). P d' z) g (subst (λ (z : ℤ). P z e) f h)

pub label-requires-clause-a : goal.label-requires-clause-a
label-requires-clause-a c =
    (corner-within c.args.cells.now c.deref-corner-items.result.now (last_tick c.args.store.now.shape.grid) c.loop-corner.corner-index (0, 0) c.requires.corners
    (λ p. ap (λ (ps : List (ℕ × ℕ)). has ps p) c.deref-corner-items.ensures.value ∙ c.in_ok-corners.ensures.corners p) c.loop-corner-test.true).0

pub label-requires-clause-b : goal.label-requires-clause-b
label-requires-clause-b c =
    (corner-within c.args.cells.now c.deref-corner-items.result.now (last_tick c.args.store.now.shape.grid) c.loop-corner.corner-index (0, 0) c.requires.corners
    (λ p. ap (λ (ps : List (ℕ × ℕ)). has ps p) c.deref-corner-items.ensures.value ∙ c.in_ok-corners.ensures.corners p) c.loop-corner-test.true).1

pub returns-in-None : goal.returns-in-None
returns-in-None c =
    let box = c.args.store.now.box in
    let s = c.args.store.now.shape in
    let q = c.args.q.now in
    let corners = c.deref-corner-items.result.now in
    let d = to_z w64 (of_z w64 c.args.d1) in
    let e = to_z w64 (of_z w64 c.args.d2) in
    let p = get_or corners c.loop-corner.corner-index (0, 0) in
    read (λ z y. IfSome box (λ xs. LacksLabel (label_of (at_tick s xs) q z y) c.args.cells.now)) d c.args.d1 e c.args.d2 (to_z-of_z w64 c.args.d1 c.ranges.d1) (to_z-of_z w64 c.args.d2 c.ranges.d2)
    (lacks box (λ xs. label_of (at_tick s xs) q d e) c.args.cells.now corners c.loop-corner.corner-index (0, 0)
    (λ p. ap (λ (ps : List (ℕ × ℕ)). has ps p) c.deref-corner-items.ensures.value ∙ c.in_ok-corners.ensures.corners p) c.loop-corner-test.true
    (answer-of box (λ xs. label_of (at_tick s xs) q d e p) (λ xs. label_of (at_tick s xs) q d e p) c.label.result None c.in-None.is (λ xs. refl) c.label.ensures))

pub loop-corner-preserved : goal.loop-corner-preserved
loop-corner-preserved c =
    let box = c.args.store.now.box in
    let s = c.args.store.now.shape in
    let q = c.args.q.now in
    let corners = c.deref-corner-items.result.now in
    let d = to_z w64 (of_z w64 c.args.d1) in
    let e = to_z w64 (of_z w64 c.args.d2) in
    let p = get_or corners c.loop-corner.corner-index (0, 0) in
    let pushed = c.in_ok-push-in-Some.ensures.items in
    record {
      corners = rw pushed (corners-more corners c.loop-corner.corner-index (0, 0) c.loop-corner.labels.items c.in-Some.label c.loop-corner-test.true c.loop-corner.invariant.corners);
      own = rw pushed (own-more box (λ xs. label_of (at_tick s xs) q d e) c.loop-corner.labels.items p c.in-Some.label c.loop-corner.invariant.own
          (answer-of box (λ xs. label_of (at_tick s xs) q d e p) (λ xs. label_of (at_tick s xs) q d e p) c.label.result (Some c.in-Some.label) c.in-Some.is (λ xs. refl) c.label.ensures));
    }

pub returns : goal.returns
returns c =
    let box = c.args.store.now.box in
    let s = c.args.store.now.shape in
    let q = c.args.q.now in
    let corners = c.deref-corner-items.result.now in
    let d = to_z w64 (of_z w64 c.args.d1) in
    let e = to_z w64 (of_z w64 c.args.d2) in
    let whole : take c.loop-corner.corner-index corners ≡ corners = take_all c.loop-corner.corner-index corners c.loop-corner-test.false in
    read (λ z y. IfSome box (λ xs. AreLabels (label_of (at_tick s xs) q z y) c.args.cells.now c.loop-corner.labels.items)) d c.args.d1 e c.args.d2 (to_z-of_z w64 c.args.d1 c.ranges.d1) (to_z-of_z w64 c.args.d2 c.ranges.d2)
    (are-labels box (λ xs. label_of (at_tick s xs) q d e) c.args.cells.now corners c.loop-corner.labels.items
    (rw c.deref-corner-items.ensures.value c.in_ok-corners.ensures.rising)
    (λ p. ap (λ (ps : List (ℕ × ℕ)). has ps p) c.deref-corner-items.ensures.value ∙ c.in_ok-corners.ensures.corners p)
    (c.loop-corner.invariant.corners ∙ whole) c.loop-corner.invariant.own)
