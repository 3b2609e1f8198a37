-- Runs that are gathered by label.
use Rattle.std.proofs.Common.{◌≡◌, ◌≢◌, ℕ, ◌+◌, ◌<◌, ◌≤◌, ◌⊎◌, inl, inr, List, [], ◌∷◌, ◌++◌, length, length-append, slice_index, arith, refl, sym, ap, subst, ◌∙◌}
use Rattle.std.proofs.Math.ListN.{get_or-append}
use Rattle.std.proofs.Math.Seq.{get_or-append_seam}
use Rattle.std.proofs.lemmas.List.{get_or_past}
use Rattle.tplane_paver.specs.declared.runs.Run.{Run}
use Rattle.tplane_paver.specs.Runs.{run_at, IsBefore, AreInOrder}
use Rattle.tplane_paver.specs.Components.{set_at, HasRun}
use Rattle.disjoint_sets.specs.Ways.{Joined, Maps}
use Rattle.disjoint_sets.specs.Trees.{IsParent, GoDown}
use Rattle.disjoint_sets.proofs.Ways.{joined-then, joined-back, joined-self}
use Rattle.disjoint_sets.proofs.Trees.{same-or}
use Rattle.tplane_paver.specs.Forests.{Touching, AddsRun, AreGathered}
use Rattle.tplane_paver.proofs.Sweeps.{below-or-same}

-- a list of runs with one more at its end
run-old : (xs : List Run) (r : Run) (m : ℕ) → m < length xs → run_at (xs ++ r ∷ []) m ≡ run_at xs m
run-old xs r m h = get_or-append xs (r ∷ []) (record { a = 0; first = 0; last = 0 }) m h

run-new : (xs : List Run) (r : Run) → run_at (xs ++ r ∷ []) (length xs) ≡ r
run-new xs r = get_or-append_seam xs r [] (record { a = 0; first = 0; last = 0 })

pub length-one : (xs : List Run) (r : Run) → length (xs ++ r ∷ []) ≡ length xs + 1
length-one xs r = length-append xs (r ∷ [])

pub in-order-more : (xs : List Run) (r : Run) → AreInOrder xs → r.first ≤ r.last → ((m : ℕ) → m < length xs → IsBefore (run_at xs m) r) → AreInOrder (xs ++ r ∷ [])
in-order-more xs r order some before = record {
  some = λ i h. keeps i (below-or-same i (length xs) (omega (arith, h, length-one xs r)));
  order = λ i j h k. later i j h (below-or-same j (length xs) (omega (arith, k, length-one xs r)));
}
  where
    keeps : (i : ℕ) → (i < length xs) ⊎ (i ≡ length xs) → (run_at (xs ++ r ∷ []) i).first ≤ (run_at (xs ++ r ∷ []) i).last
    keeps i (inl h) = subst (λ (x : Run). x.first ≤ x.last) (sym (run-old xs r i h)) (order.some i h)
    keeps i (inr e) = subst (λ (x : ℕ). (run_at (xs ++ r ∷ []) x).first ≤ (run_at (xs ++ r ∷ []) x).last) (sym e) (subst (λ (x : Run). x.first ≤ x.last) (sym (run-new xs r)) some)

    later : (i j : ℕ) → i < j → (j < length xs) ⊎ (j ≡ length xs) → IsBefore (run_at (xs ++ r ∷ []) i) (run_at (xs ++ r ∷ []) j)
    later i j h (inl k) =
        subst (λ (x : Run). IsBefore x (run_at (xs ++ r ∷ []) j)) (sym (run-old xs r i (omega (arith, h, k)))) (subst (IsBefore (run_at xs i)) (sym (run-old xs r j k)) (order.order i j h k))
    later i j h (inr e) =
        let k : i < length xs = omega (arith, h, e) in
        subst (λ (x : ℕ). IsBefore (run_at (xs ++ r ∷ []) i) (run_at (xs ++ r ∷ []) x)) (sym e)
        (subst (λ (x : Run). IsBefore x (run_at (xs ++ r ∷ []) (length xs))) (sym (run-old xs r i k)) (subst (IsBefore (run_at xs i)) (sym (run-new xs r)) (before i k)))

set-past : (sets : List (List Run)) (c : ℕ) → length sets ≤ c → set_at sets c ≡ []
set-past sets c h = get_or_past sets c [] h

pub gather-start : (runs : List Run) (parents : List ℕ) (labels : List ℕ) (sets : List (List Run)) → labels ≡ [] → sets ≡ [] → AreGathered runs parents 0 labels sets
gather-start runs parents labels sets e f = record {
  len = ap (length {A = ℕ}) e;
  few = let g : length sets ≡ 0 = ap (length {A = List Run}) f in omega (arith, g);
  bound = λ k h. absurd (omega (arith, h));
  same = λ k h. absurd (omega (arith, h));
  linked = λ k l h. absurd (omega (arith, h));
  member = λ c m h. absurd (let g : length sets ≡ 0 = ap (length {A = List Run}) f in omega (arith, g, h));
  full = λ k h. absurd (omega (arith, h));
  some = λ c h. absurd (let g : length sets ≡ 0 = ap (length {A = List Run}) f in omega (arith, g, h));
  order = λ c d h k. absurd (let g : length sets ≡ 0 = ap (length {A = List Run}) f in omega (arith, g, k));
  room = λ c. let g : length (set_at sets c) ≡ 0 = ap (λ (s : List (List Run)). length (set_at s c)) f in omega (arith, g);
  ordered = λ c h. absurd (let g : length sets ≡ 0 = ap (length {A = List Run}) f in omega (arith, g, h));
}

-- the runs of the set that the next one goes to come before it
pub set-before : (runs : List Run) (parents : List ℕ) (i : ℕ) (labels : List ℕ) (sets : List (List Run)) (label : ℕ) → AreInOrder runs → i < length runs → AreGathered runs parents i labels sets
    → (m : ℕ) → m < length (set_at sets label) → IsBefore (run_at (set_at sets label) m) (run_at runs i)
set-before runs parents i labels sets label order h all m k = at (split label (length sets))
  where
    split : (x y : ℕ) → (x < y) ⊎ (y ≤ x)
    split x y = grind arith

    at : (label < length sets) ⊎ (length sets ≤ label) → IsBefore (run_at (set_at sets label) m) (run_at runs i)
    at (inl l) = let w = all.member label m l k in subst (λ (x : Run). IsBefore x (run_at runs i)) w.3 (order.order w.0 i w.1 h)
    at (inr l) = absurd (let e : length (set_at sets label) ≡ 0 = ap (length {A = Run}) (set-past sets label l) in omega (arith, e, k))

-- what label the next run has
pub record IsLabel (parents labels : List ℕ) (i fresh label : ℕ) : Type 0 where
  pub root : slice_index parents i ≡ i → label ≡ fresh
  pub child : slice_index parents i ≢ i → label ≡ slice_index labels (slice_index parents i)

-- one run more is gathered
pub gather-more : (runs : List Run) (parents : List ℕ) (i : ℕ) (labels more : List ℕ) (sets new : List (List Run)) (label : ℕ) → AreInOrder runs → i < length runs → length parents ≡ length runs → GoDown parents
    → Maps (IsParent parents) (Touching runs) → AreGathered runs parents i labels sets → IsLabel parents labels i (length sets) label → AddsRun sets new label (run_at runs i) → more ≡ labels ++ label ∷ []
    → AreGathered runs parents (i + 1) more new
gather-more runs parents i labels more sets new label order h plen down sound all is add grown = record {
  len = ap (length {A = ℕ}) grown ∙ length-append labels (label ∷ []) ∙ ap (λ (k : ℕ). k + 1) all.len;
  few = omega (arith, add.one, all.few);
  bound = λ k l. bound k (below-or-same k i l);
  same = λ k l. same k (below-or-same k i l);
  linked = λ k l u v e. linked k l (below-or-same k i u) (below-or-same l i v) e;
  member = λ c m u v. member c m u v (same-or c label);
  full = λ k l. full k (below-or-same k i l);
  some = λ c u. some c u (same-or c label);
  order = λ c d u v. heads c d u v (same-or c label) (same-or d label);
  room = λ c. room c (same-or c label);
  ordered = λ c u. ordered c u (same-or c label);
}
  where
    r : Run
    r = run_at runs i

    old-label : (k : ℕ) → k < i → slice_index more k ≡ slice_index labels k
    old-label k l = ap (λ (x : List ℕ). slice_index x k) grown ∙ get_or-append labels (label ∷ []) 0 k (omega (arith, l, all.len))

    new-label : slice_index more i ≡ label
    new-label = ap (λ (x : List ℕ). slice_index x i) grown ∙ ap (λ (k : ℕ). slice_index (labels ++ label ∷ []) k) (sym all.len) ∙ get_or-append_seam labels label [] 0

    grows-length : length (set_at new label) ≡ length (set_at sets label) + 1
    grows-length = ap (length {A = Run}) add.grows ∙ length-one (set_at sets label) r

    bound : (k : ℕ) → (k < i) ⊎ (k ≡ i) → slice_index more k < length new
    bound k (inl l) = omega (arith, old-label k l, all.bound k l, add.more)
    bound k (inr e) = subst (λ (x : ℕ). slice_index more x < length new) (sym e) (omega (arith, new-label, add.has))

    parent-less : slice_index parents i ≢ i → slice_index parents i < i
    parent-less ne = pick (slice_index parents i) (down i (omega (arith, h, plen))) ne
      where
        pick : (p : ℕ) → p ≤ i → p ≢ i → p < i
        pick p l n = grind arith

    same : (k : ℕ) → (k < i) ⊎ (k ≡ i) → slice_index more (slice_index parents k) ≡ slice_index more k
    same k (inl l) = old-label (slice_index parents k) (omega (arith, l, down k (omega (arith, l, h, plen)))) ∙ all.same k l ∙ sym (old-label k l)
    same k (inr e) = subst (λ (x : ℕ). slice_index more (slice_index parents x) ≡ slice_index more x) (sym e) (at (same-or (slice_index parents i) i))
      where
        at : (slice_index parents i ≡ i) ⊎ (slice_index parents i ≢ i) → slice_index more (slice_index parents i) ≡ slice_index more i
        at (inl root) = ap (slice_index more) root
        at (inr ne) = old-label (slice_index parents i) (parent-less ne) ∙ sym (is.child ne) ∙ sym new-label

    -- from the new run to one of its label
    onto : (l : ℕ) → l < i → label ≡ slice_index labels l → Joined (Touching runs) i l
    onto l v e = at (same-or (slice_index parents i) i)
      where
        at : (slice_index parents i ≡ i) ⊎ (slice_index parents i ≢ i) → Joined (Touching runs) i l
        at (inl root) = absurd (omega (arith, is.root root, e, all.bound l v))
        at (inr ne) =
            joined-then (Touching runs) i (slice_index parents i) l (sound i (slice_index parents i) (omega (arith, h, plen), refl))
            (all.linked (slice_index parents i) l (parent-less ne) v (sym (is.child ne) ∙ e))

    linked : (k l : ℕ) → (k < i) ⊎ (k ≡ i) → (l < i) ⊎ (l ≡ i) → slice_index more k ≡ slice_index more l → Joined (Touching runs) k l
    linked k l (inl u) (inl v) e = all.linked k l u v (sym (old-label k u) ∙ e ∙ old-label l v)
    linked k l (inr u) (inr v) e = joined-self (Touching runs) k l (u ∙ sym v)
    linked k l (inr u) (inl v) e =
        let f : label ≡ slice_index labels l = sym new-label ∙ sym (ap (slice_index more) u) ∙ e ∙ old-label l v in
        subst (λ (x : ℕ). Joined (Touching runs) x l) (sym u) (onto l v f)
    linked k l (inl u) (inr v) e =
        let f : label ≡ slice_index labels k = sym new-label ∙ sym (ap (slice_index more) v) ∙ sym e ∙ old-label k u in
        subst (Joined (Touching runs) k) (sym v) (joined-back (Touching runs) i k (onto k u f))

    kept : (c : ℕ) → c < length new → c ≢ label → c < length sets
    kept c u ne = elim (add.only c u) [ inl l ↦ l | inr e ↦ absurd (ne e) ]

    member : (c m : ℕ) → c < length new → m < length (set_at new c) → (c ≡ label) ⊎ (c ≢ label)
        → (k : ℕ) × (k < i + 1) × (slice_index more k ≡ c) × (run_at runs k ≡ run_at (set_at new c) m)
    member c m u v (inr ne) =
        let w = all.member c m (kept c u ne) (subst (λ (s : List Run). m < length s) (add.others c ne) v) in
        (w.0, omega (arith, w.1), old-label w.0 w.1 ∙ w.2, w.3 ∙ ap (λ (s : List Run). run_at s m) (sym (add.others c ne)))
    member c m u v (inl e) = at (below-or-same m (length (set_at sets label)) (let f : length (set_at new c) ≡ length (set_at new label) = ap (λ (x : ℕ). length (set_at new x)) e in omega (arith, v, f, grows-length)))
      where
        here : run_at (set_at new c) m ≡ run_at (set_at sets label ++ r ∷ []) m
        here = ap (λ (x : ℕ). run_at (set_at new x) m) e ∙ ap (λ (s : List Run). run_at s m) add.grows

        at : (m < length (set_at sets label)) ⊎ (m ≡ length (set_at sets label)) → (k : ℕ) × (k < i + 1) × (slice_index more k ≡ c) × (run_at runs k ≡ run_at (set_at new c) m)
        at (inr s) = (i, omega arith, new-label ∙ sym e, sym (here ∙ ap (run_at (set_at sets label ++ r ∷ [])) s ∙ run-new (set_at sets label) r))
        at (inl s) = elim (split label (length sets)) [
          | inl l ↦ let w = all.member label m l s in (w.0, omega (arith, w.1), old-label w.0 w.1 ∙ w.2 ∙ sym e, w.3 ∙ sym (here ∙ run-old (set_at sets label) r m s))
          | inr l ↦ absurd (let f : length (set_at sets label) ≡ 0 = ap (length {A = Run}) (set-past sets label l) in omega (arith, f, s))
        ]
          where
            split : (x y : ℕ) → (x < y) ⊎ (y ≤ x)
            split x y = grind arith

    full : (k : ℕ) → (k < i) ⊎ (k ≡ i) → HasRun (set_at new (slice_index more k)) (run_at runs k)
    full k (inr e) =
        let f : slice_index more k ≡ label = ap (slice_index more) e ∙ new-label in
        subst (λ (x : ℕ). HasRun (set_at new x) (run_at runs k)) (sym f)
        (length (set_at sets label), omega (arith, grows-length), ap (λ (s : List Run). run_at s (length (set_at sets label))) add.grows ∙ run-new (set_at sets label) r ∙ ap (run_at runs) (sym e))
    full k (inl l) = subst (λ (x : ℕ). HasRun (set_at new x) (run_at runs k)) (sym (old-label k l)) (at (same-or (slice_index labels k) label))
      where
        was : HasRun (set_at sets (slice_index labels k)) (run_at runs k)
        was = all.full k l

        at : (slice_index labels k ≡ label) ⊎ (slice_index labels k ≢ label) → HasRun (set_at new (slice_index labels k)) (run_at runs k)
        at (inr ne) = subst (λ (s : List Run). HasRun s (run_at runs k)) (sym (add.others (slice_index labels k) ne)) was
        at (inl e) =
            let there : HasRun (set_at sets label) (run_at runs k) = subst (λ (x : ℕ). HasRun (set_at sets x) (run_at runs k)) e was in
            subst (λ (x : ℕ). HasRun (set_at new x) (run_at runs k)) (sym e)
            (there.0, omega (arith, there.1, grows-length), ap (λ (s : List Run). run_at s there.0) add.grows ∙ run-old (set_at sets label) r there.0 there.1 ∙ there.2)

    some : (c : ℕ) → c < length new → (c ≡ label) ⊎ (c ≢ label) → 1 ≤ length (set_at new c)
    some c u (inl e) = subst (λ (x : ℕ). 1 ≤ length (set_at new x)) (sym e) (omega (arith, grows-length))
    some c u (inr ne) = subst (λ (s : List Run). 1 ≤ length s) (sym (add.others c ne)) (all.some c (kept c u ne))

    room : (c : ℕ) → (c ≡ label) ⊎ (c ≢ label) → length (set_at new c) ≤ i + 1
    room c (inl e) = subst (λ (x : ℕ). length (set_at new x) ≤ i + 1) (sym e) (omega (arith, grows-length, all.room label))
    room c (inr ne) = subst (λ (s : List Run). length s ≤ i + 1) (sym (add.others c ne)) (omega (arith, all.room c))

    ordered : (c : ℕ) → c < length new → (c ≡ label) ⊎ (c ≢ label) → AreInOrder (set_at new c)
    ordered c u (inr ne) = subst AreInOrder (sym (add.others c ne)) (all.ordered c (kept c u ne))
    ordered c u (inl e) = subst (λ (x : ℕ). AreInOrder (set_at new x)) (sym e) (subst AreInOrder (sym add.grows) (in-order-more (set_at sets label) r was (order.some i h) (set-before runs parents i labels sets label order h all)))
      where
        split : (x y : ℕ) → (x < y) ⊎ (y ≤ x)
        split x y = grind arith

        was : AreInOrder (set_at sets label)
        was = elim (split label (length sets)) [
          | inl l ↦ all.ordered label l
          | inr l ↦ subst AreInOrder (sym (set-past sets label l)) (record { some = λ j k. absurd (omega (arith, k)); order = λ j k u v. absurd (omega (arith, v)) })
        ]

    -- the first run of a set that was there
    head : (c : ℕ) → c < length sets → (c ≡ label) ⊎ (c ≢ label) → run_at (set_at new c) 0 ≡ run_at (set_at sets c) 0
    head c u (inr ne) = ap (λ (s : List Run). run_at s 0) (add.others c ne)
    head c u (inl e) =
        ap (λ (x : ℕ). run_at (set_at new x) 0) e ∙ ap (λ (s : List Run). run_at s 0) add.grows
        ∙ run-old (set_at sets label) r 0 (let f : 1 ≤ length (set_at sets label) = subst (λ (x : ℕ). 1 ≤ length (set_at sets x)) e (all.some c u) in omega (arith, f))
        ∙ ap (λ (x : ℕ). run_at (set_at sets x) 0) (sym e)

    heads : (c d : ℕ) → c < d → d < length new → (c ≡ label) ⊎ (c ≢ label) → (d ≡ label) ⊎ (d ≢ label) → IsBefore (run_at (set_at new c) 0) (run_at (set_at new d) 0)
    heads c d u v ce de = at (split d (length sets))
      where
        split : (x y : ℕ) → (x < y) ⊎ (y ≤ x)
        split x y = grind arith

        at : (d < length sets) ⊎ (length sets ≤ d) → IsBefore (run_at (set_at new c) 0) (run_at (set_at new d) 0)
        at (inl l) =
            subst (λ (x : Run). IsBefore x (run_at (set_at new d) 0)) (sym (head c (omega (arith, u, l)) ce)) (subst (IsBefore (run_at (set_at sets c) 0)) (sym (head d l de)) (all.order c d u l))
        at (inr l) =
            let e : d ≡ label = elim (add.only d v) [ inl k ↦ absurd (omega (arith, k, l)) | inr k ↦ k ] in
            let k : c < length sets = omega (arith, u, v, add.one, l) in
            let fresh : run_at (set_at new d) 0 ≡ r =
            ap (λ (x : ℕ). run_at (set_at new x) 0) e ∙ ap (λ (s : List Run). run_at s 0) add.grows ∙ ap (λ (s : List Run). run_at (s ++ r ∷ []) 0) (set-past sets label (omega (arith, l, e))) in
            let w = all.member c 0 k (omega (arith, all.some c k)) in
            subst (λ (x : Run). IsBefore x (run_at (set_at new d) 0)) (sym (head c k ce)) (subst (IsBefore (run_at (set_at sets c) 0)) (sym fresh)
            (subst (λ (x : Run). IsBefore x r) w.3 (order.order w.0 i w.1 h)))
