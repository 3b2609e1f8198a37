-- The pass downward over a program gives the targets of its expression.
use Rattle.std.proofs.Common.{◌≡◌, ℕ, suc, ◌+◌, ◌-◌, ◌<◌, ◌≤◌, pos, take, List, [], ◌∷◌, ◌++◌, Option, Some, None, refl, sym, ap, ap₂, subst, ◌∙◌, length, length-append, append_assoc, map, set, arith, Bool, true, false}
use Rattle.std.proofs.lemmas.List.{map-append, take_more, length-take}
use Rattle.tube_spec.specs.Span.{Span}
use Rattle.tube_spec.specs.Box.{cell_at}
use Rattle.expr_values.specs.Expressions.{Expression, Constant, Entry, Unary, Binary, Comparison}
use Rattle.expr_values.specs.Operators.{unary_target, left_target, right_target}
use Rattle.expr_values.specs.Values.{value_of}
use Rattle.expr_values.specs.Targets.{through, both, targets_of}
use Rattle.expr_hc4.specs.declared.nodes.Node.{Node}
use Rattle.expr_hc4.specs.declared.nodes.Node.TheVariants as nodes
use Rattle.expr_hc4.specs.Programs.{below, size, code_of, places_of, node_at, narrowed, set_one, set_two, values_below, node_values, comparison_code, comparison_places, IsNarrowedTo}
use Rattle.expr_hc4.proofs.Codes.{length-code, length-values, length-node_values, cell-seam, set-seam}

-- one step after another
abbrev pub and_then : Option (List Span) → (List Span → Option (List Span)) → Option (List Span)
and_then None f = None
and_then (Some vs) f = f vs

-- nodes from the last to the first, of which the first has the index i
abbrev pub run_back : ℕ → List Node → List Span → Option (List Span)
run_back i [] vs = Some vs
run_back i (n ∷ ns) vs = and_then (run_back (suc i) ns vs) (λ us. narrowed n i us)

then-then : (o : Option (List Span)) (f g : List Span → Option (List Span)) → and_then (and_then o f) g ≡ and_then o (λ vs. and_then (f vs) g)
then-then None f g = refl
then-then (Some vs) f g = refl

pub run-append : (i j : ℕ) (ms ns : List Node) (vs : List Span) → j ≡ i + length ms → run_back i (ms ++ ns) vs ≡ and_then (run_back j ns vs) (λ us. run_back i ms us)
run-append i j [] ns vs e = let f : i ≡ j = omega (arith, e) in ap (λ (k : ℕ). run_back k ns vs) f ∙ some (run_back j ns vs)
  where
    some : (o : Option (List Span)) → o ≡ and_then o (λ us. Some us)
    some None = refl
    some (Some us) = refl
run-append i j (m ∷ ms) ns vs e =
    ap (λ (o : Option (List Span)). and_then o (λ us. narrowed m i us)) (run-append (suc i) j ms ns vs (omega (arith, e)))
    ∙ then-then (run_back j ns vs) (λ us. run_back (suc i) ms us) (λ us. narrowed m i us)

-- What a run over an expression's program leaves: nothing where there are no targets, and else its nodes' targets in their places, of
-- which those of the entries are known, and all else as it was.
abbrev pub Ran : Option (List Span) → Option (List Span) → List Span → List Span → Expression → Type 0
Ran r None ps qs e = r ≡ None
Ran r (Some cs) ps qs e =
    (ms : List Span) × (r ≡ Some (ps ++ (ms ++ qs))) × (length ms ≡ size e) × ((us ws : List Span) (j : ℕ) → j ≡ length us → map (cell_at (us ++ (ms ++ ws))) (places_of e j) ≡ cs)

-- a run that is another one
ran-same : (r s : Option (List Span)) (cs : Option (List Span)) (ps qs : List Span) (e : Expression) → r ≡ s → Ran s cs ps qs e → Ran r cs ps qs e
ran-same r s cs ps qs e q h = subst (λ (o : Option (List Span)). Ran o cs ps qs e) (sym q) h

module _ (xs : List Span) where
  -- a state in which an expression's target stands at its root, and the values of its other nodes in their places
  abbrev pub state : List Span → Expression → Span → List Span → List Span
  state ps e c qs = ps ++ (values_below xs e ++ c ∷ qs)

  unary-ran : (op : _) (a : Expression) (c : Span) (ps qs : List Span) (i : ℕ) → i ≡ length ps
      → ((d : Span) (rs : List Span) → Ran (run_back i (code_of a i) (state ps a d rs)) (targets_of xs a d) ps rs a)
      → (o : Option Span) → Ran (and_then (set_one (state ps (Unary op a) c qs) (i + below a) o) (λ us. run_back i (code_of a i) us)) (through o (λ d. targets_of xs a d)) ps qs (Unary op a)
  unary-ran op a c ps qs i at rest None = refl
  unary-ran op a c ps qs i at rest (Some d) =
      let vs = state ps (Unary op a) c qs in
      let whole : vs ≡ (ps ++ values_below xs a) ++ value_of xs a ∷ (c ∷ qs) = simp append_assoc in
      let e : set vs (i + below a) d ≡ state ps a d (c ∷ qs) =
      set-seam vs (ps ++ values_below xs a) (value_of xs a) d (c ∷ qs) (i + below a) whole (omega (arith, at, length-values xs a, length-append ps (values_below xs a))) ∙ append_assoc ps (values_below xs a) (d ∷ (c ∷ qs)) in
      ran-same _ (run_back i (code_of a i) (state ps a d (c ∷ qs))) (targets_of xs a d) ps qs (Unary op a) (ap (λ (us : List Span). run_back i (code_of a i) us) e)
      (grown (targets_of xs a d) (run_back i (code_of a i) (state ps a d (c ∷ qs))) (rest d (c ∷ qs)))
    where
      grown : (cs r : Option (List Span)) → Ran r cs ps (c ∷ qs) a → Ran r cs ps qs (Unary op a)
      grown None r h = h
      grown (Some cs) r h =
          let ms = h.0 in
          (ms ++ c ∷ [], h.1 ∙ simp append_assoc, length-append ms (c ∷ []) ∙ omega (arith, h.2), λ us ws j f. ap (λ (vs : List Span). map (cell_at vs) (places_of a j)) (simp append_assoc) ∙ h.3 us (c ∷ ws) j f)

  binary-ran : (op : _) (a b : Expression) (c : Span) (ps qs : List Span) (i : ℕ) → i ≡ length ps
      → ((d : Span) (rs : List Span) → Ran (run_back i (code_of a i) (state ps a d rs)) (targets_of xs a d) ps rs a)
      → ((d : Span) (os rs : List Span) → i + size a ≡ length os → Ran (run_back (i + size a) (code_of b (i + size a)) (state os b d rs)) (targets_of xs b d) os rs b)
      → (o p : Option Span) → Ran (and_then (and_then (set_two (state ps (Binary op a b) c qs) (i + below a) ((i + size a) + below b) o p) (λ us. run_back (i + size a) (code_of b (i + size a)) us)) (λ us. run_back i (code_of a i) us))
      (both (through o (λ d. targets_of xs a d)) (through p (λ d. targets_of xs b d))) ps qs (Binary op a b)
  binary-ran op a b c ps qs i at left right None p = refl
  binary-ran op a b c ps qs i at left right (Some d) None = none (targets_of xs a d)
    where
      none : (cs : Option (List Span)) → Ran None (both cs None) ps qs (Binary op a b)
      none None = refl
      none (Some cs) = refl
  binary-ran op a b c ps qs i at left right (Some d) (Some f) =
      let vs = state ps (Binary op a b) c qs in
      let first : vs ≡ (ps ++ values_below xs a) ++ value_of xs a ∷ (node_values xs b ++ c ∷ qs) = simp append_assoc in
      let na = length-values xs a in
      let nb = length-values xs b in
      let la = length-append ps (values_below xs a) in
      let os = (ps ++ values_below xs a) ++ d ∷ [] in
      let lo = length-append (ps ++ values_below xs a) (d ∷ []) in
      let one : set vs (i + below a) d ≡ (os ++ values_below xs b) ++ value_of xs b ∷ (c ∷ qs) =
      set-seam vs (ps ++ values_below xs a) (value_of xs a) d (node_values xs b ++ c ∷ qs) (i + below a) first (omega (arith, at, na, la)) ∙ simp append_assoc in
      let two : set (set vs (i + below a) d) ((i + size a) + below b) f ≡ state os b f (c ∷ qs) =
      set-seam (set vs (i + below a) d) (os ++ values_below xs b) (value_of xs b) f (c ∷ qs) ((i + size a) + below b) one (omega (arith, at, na, nb, la, lo, length-append os (values_below xs b)))
      ∙ append_assoc os (values_below xs b) (f ∷ (c ∷ qs)) in
      ran-same _ (and_then (run_back (i + size a) (code_of b (i + size a)) (state os b f (c ∷ qs))) (λ us. run_back i (code_of a i) us)) _ ps qs (Binary op a b)
      (ap (λ (us : List Span). and_then (run_back (i + size a) (code_of b (i + size a)) us) (λ ws. run_back i (code_of a i) ws)) two)
      (joined (targets_of xs b f) (run_back (i + size a) (code_of b (i + size a)) (state os b f (c ∷ qs))) (right f os (c ∷ qs) (omega (arith, at, na, la, lo))))
    where
      -- after the right operand comes the left one
      joined : (ds r : Option (List Span)) → Ran r ds ((ps ++ values_below xs a) ++ d ∷ []) (c ∷ qs) b → Ran (and_then r (λ us. run_back i (code_of a i) us)) (both (targets_of xs a d) ds) ps qs (Binary op a b)
      joined None r h = ran-same _ None (both (targets_of xs a d) None) ps qs (Binary op a b) (ap (λ (o : Option (List Span)). and_then o (λ us. run_back i (code_of a i) us)) h) (none (targets_of xs a d))
        where
          none : (cs : Option (List Span)) → Ran None (both cs None) ps qs (Binary op a b)
          none None = refl
          none (Some cs) = refl
      joined (Some ds) r h =
          let ms = h.0 in
          let e : r ≡ Some (state ps a d (ms ++ (c ∷ qs))) = h.1 ∙ ap Some (simp append_assoc) in
          ran-same _ (run_back i (code_of a i) (state ps a d (ms ++ (c ∷ qs)))) (both (targets_of xs a d) (Some ds)) ps qs (Binary op a b) (ap (λ (o : Option (List Span)). and_then o (λ us. run_back i (code_of a i) us)) e)
          (whole (targets_of xs a d) (run_back i (code_of a i) (state ps a d (ms ++ (c ∷ qs)))) (left d (ms ++ (c ∷ qs))))
        where
          whole : (cs s : Option (List Span)) → Ran s cs ps (h.0 ++ (c ∷ qs)) a → Ran s (both cs (Some ds)) ps qs (Binary op a b)
          whole None s k = k
          whole (Some cs) s k =
              let ms = h.0 in
              let ls = k.0 in (
                (ls ++ ms) ++ c ∷ [],
                k.1 ∙ simp append_assoc,
                length-append (ls ++ ms) (c ∷ []) ∙ omega (arith, length-append ls ms, k.2, h.2),
                λ us ws j q.
                    let at_left : us ++ (((ls ++ ms) ++ c ∷ []) ++ ws) ≡ us ++ (ls ++ (ms ++ (c ∷ ws))) = simp append_assoc in
                    let at_right : us ++ (((ls ++ ms) ++ c ∷ []) ++ ws) ≡ (us ++ ls) ++ (ms ++ (c ∷ ws)) = simp append_assoc in
                    map-append (cell_at (us ++ (((ls ++ ms) ++ c ∷ []) ++ ws))) (places_of a j) (places_of b (j + size a))
                    ∙ ap₂ (λ (ks ls : List Span). ks ++ ls)
                    (ap (λ (vs : List Span). map (cell_at vs) (places_of a j)) at_left ∙ k.3 us (ms ++ (c ∷ ws)) j q)
                    (ap (λ (vs : List Span). map (cell_at vs) (places_of b (j + size a))) at_right ∙ h.3 (us ++ ls) (c ∷ ws) (j + size a) (omega (arith, q, k.2, length-append us ls))),
              )

  pub down : (e : Expression) (c : Span) (ps qs : List Span) (i : ℕ) → i ≡ length ps → Ran (run_back i (code_of e i) (state ps e c qs)) (targets_of xs e c) ps qs e
  down (Constant n) c ps qs i at = (c ∷ [], refl, refl, λ us ws j q. refl)
  down (Entry k) c ps qs i at = (c ∷ [], refl, refl, λ us ws j q. ap (λ (s : Span). let l : List Span = s ∷ [] in l) (cell-seam (us ++ c ∷ ws) us c ws j refl q))
  down (Unary op a) c ps qs i at =
      let vs = state ps (Unary op a) c qs in
      let j = i + size a in
      let root = nodes.Unary op (i + below a) in
      let na = length-values xs a in
      let operand : vs ≡ (ps ++ values_below xs a) ++ value_of xs a ∷ (c ∷ qs) = simp append_assoc in
      let target : vs ≡ (ps ++ node_values xs a) ++ c ∷ qs = simp append_assoc in
      let one = cell-seam vs (ps ++ values_below xs a) (value_of xs a) (c ∷ qs) (i + below a) operand (omega (arith, at, na, length-append ps (values_below xs a))) in
      let two = cell-seam vs (ps ++ node_values xs a) c qs j target (omega (arith, at, length-node_values xs a, length-append ps (node_values xs a))) in
      ran-same _ (and_then (set_one vs (i + below a) (unary_target op (value_of xs a) c)) (λ us. run_back i (code_of a i) us)) (targets_of xs (Unary op a) c) ps qs (Unary op a)
      (run-append i j (code_of a i) (root ∷ []) vs (omega (arith, length-code a i))
      ∙ ap₂ (λ (s t : Span). and_then (set_one vs (i + below a) (unary_target op s t)) (λ us. run_back i (code_of a i) us)) one two)
      (unary-ran op a c ps qs i at (λ d rs. down a d ps rs i at) (unary_target op (value_of xs a) c))
  down (Binary op a b) c ps qs i at =
      let vs = state ps (Binary op a b) c qs in
      let j = i + size a in
      let k = j + size b in
      let root = nodes.Binary op (i + below a) (j + below b) in
      let na = length-values xs a in
      let nb = length-values xs b in
      let ma = length-node_values xs a in
      let mb = length-node_values xs b in
      let la = length-append ps (node_values xs a) in
      let left : vs ≡ (ps ++ values_below xs a) ++ value_of xs a ∷ (node_values xs b ++ c ∷ qs) = simp append_assoc in
      let right : vs ≡ ((ps ++ node_values xs a) ++ values_below xs b) ++ value_of xs b ∷ (c ∷ qs) = simp append_assoc in
      let target : vs ≡ ((ps ++ node_values xs a) ++ node_values xs b) ++ c ∷ qs = simp append_assoc in
      let one = cell-seam vs (ps ++ values_below xs a) (value_of xs a) (node_values xs b ++ c ∷ qs) (i + below a) left (omega (arith, at, na, length-append ps (values_below xs a))) in
      let two = cell-seam vs ((ps ++ node_values xs a) ++ values_below xs b) (value_of xs b) (c ∷ qs) (j + below b) right (omega (arith, at, ma, nb, la, length-append (ps ++ node_values xs a) (values_below xs b))) in
      let three = cell-seam vs ((ps ++ node_values xs a) ++ node_values xs b) c qs k target (omega (arith, at, ma, mb, la, length-append (ps ++ node_values xs a) (node_values xs b))) in
      let after : Option (List Span) → Option (List Span) = λ o. and_then (and_then o (λ us. run_back j (code_of b j) us)) (λ us. run_back i (code_of a i) us) in
      ran-same _ (after (set_two vs (i + below a) (j + below b) (left_target op (value_of xs a) (value_of xs b) c) (right_target op (value_of xs a) (value_of xs b) c))) (targets_of xs (Binary op a b) c) ps qs (Binary op a b)
      (run-append i j (code_of a i) (code_of b j ++ root ∷ []) vs (omega (arith, length-code a i))
      ∙ ap (λ (o : Option (List Span)). and_then o (λ us. run_back i (code_of a i) us)) (run-append j k (code_of b j) (root ∷ []) vs (omega (arith, length-code b j)))
      ∙ ap₂ (λ (s t : Span). after (set_two vs (i + below a) (j + below b) (left_target op s t (cell_at vs k)) (right_target op s t (cell_at vs k)))) one two
      ∙ ap (λ (t : Span). after (set_two vs (i + below a) (j + below b) (left_target op (value_of xs a) (value_of xs b) t) (right_target op (value_of xs a) (value_of xs b) t))) three)
      (binary-ran op a b c ps qs i at (λ d rs. down a d ps rs i at) (λ d os rs q. down b d os rs j q) (left_target op (value_of xs a) (value_of xs b) c) (right_target op (value_of xs a) (value_of xs b) c))

-- what a run leaves in the places of the entries
abbrev pub Ends : Option (List Span) → List ℕ → Option (List Span) → Type 0
Ends r places None = r ≡ None
Ends r places (Some cs) = (vs : List Span) × (r ≡ Some vs) × (map (cell_at vs) places ≡ cs)

ends-same : (r s : Option (List Span)) (places : List ℕ) (cs : Option (List Span)) → r ≡ s → Ends s places cs → Ends r places cs
ends-same r s places cs q h = subst (λ (o : Option (List Span)). Ends o places cs) (sym q) h

-- the targets of the two sides
pub down-comparison : (xs : List Span) (c : Comparison) (x y : Span) (qs : List Span) → Ends (run_back 0 (comparison_code c) (values_below xs c.left ++ (x ∷ (values_below xs c.right ++ (y ∷ qs))))) (comparison_places c) (both (targets_of xs c.left x) (targets_of xs c.right y))
down-comparison xs c x y qs =
    let vs = values_below xs c.left ++ (x ∷ (values_below xs c.right ++ (y ∷ qs))) in
    let os = values_below xs c.left ++ x ∷ [] in
    let j = size c.left in
    let second : vs ≡ state xs os c.right y qs = simp append_assoc in
    let at : j ≡ length os = omega (arith, length-append (values_below xs c.left) (x ∷ []), length-values xs c.left) in
    ends-same _ (and_then (run_back j (code_of c.right j) (state xs os c.right y qs)) (λ us. run_back 0 (code_of c.left 0) us)) (comparison_places c) (both (targets_of xs c.left x) (targets_of xs c.right y))
    (run-append 0 j (code_of c.left 0) (code_of c.right j) vs (omega (arith, length-code c.left 0)) ∙ ap (λ (us : List Span). and_then (run_back j (code_of c.right j) us) (λ ws. run_back 0 (code_of c.left 0) ws)) second)
    (joined (targets_of xs c.right y) (run_back j (code_of c.right j) (state xs os c.right y qs)) (down xs c.right y os qs j at))
  where
    none : (cs : Option (List Span)) → Ends None (comparison_places c) (both cs None)
    none None = refl
    none (Some cs) = refl

    joined : (ds r : Option (List Span)) → Ran r ds (values_below xs c.left ++ x ∷ []) qs c.right → Ends (and_then r (λ us. run_back 0 (code_of c.left 0) us)) (comparison_places c) (both (targets_of xs c.left x) ds)
    joined None r h = ends-same _ None (comparison_places c) (both (targets_of xs c.left x) None) (ap (λ (o : Option (List Span)). and_then o (λ us. run_back 0 (code_of c.left 0) us)) h) (none (targets_of xs c.left x))
    joined (Some ds) r h =
        let e : r ≡ Some (state xs [] c.left x (h.0 ++ qs)) = h.1 ∙ ap Some (simp append_assoc) in
        ends-same _ (run_back 0 (code_of c.left 0) (state xs [] c.left x (h.0 ++ qs))) (comparison_places c) (both (targets_of xs c.left x) (Some ds)) (ap (λ (o : Option (List Span)). and_then o (λ us. run_back 0 (code_of c.left 0) us)) e)
        (whole (targets_of xs c.left x) (run_back 0 (code_of c.left 0) (state xs [] c.left x (h.0 ++ qs))) (down xs c.left x [] (h.0 ++ qs) 0 refl))
      where
        whole : (cs s : Option (List Span)) → Ran s cs [] (h.0 ++ qs) c.left → Ends s (comparison_places c) (both cs (Some ds))
        whole None s k = k
        whole (Some cs) s k = (
          k.0 ++ (h.0 ++ qs),
          k.1,
          map-append (cell_at (k.0 ++ (h.0 ++ qs))) (places_of c.left 0) (places_of c.right (size c.left)) ∙ ap₂ (λ (ks ls : List Span). ks ++ ls) (k.3 [] (h.0 ++ qs) 0 refl) (h.3 k.0 qs (size c.left) (sym k.2)),
        )

-- the answer of a pass
pub narrowed-to : (r cs : Option (List Span)) (places : List ℕ) (vs : List Span) → Ends r places cs → (done : Bool) → (done ≡ true → r ≡ Some vs) → (done ≡ false → r ≡ None) → IsNarrowedTo done vs places cs
narrowed-to r None places vs ends true found lost = let e = found refl in absurd (cc)
narrowed-to r None places vs ends false found lost = refl
narrowed-to r (Some cs) places vs ends true found lost =
    let f = found refl in
    let g = ends.1 in
    let e : ends.0 ≡ vs = cc in
    (refl, subst (λ (us : List Span). map (cell_at us) places ≡ cs) e ends.2)
narrowed-to r (Some cs) places vs ends false found lost = let e = lost refl in let f = ends.1 in absurd (cc)

-- one step of a pass
pub run-step : (ns : List Node) (i : ℕ) (vs : List Span) (o : Option (List Span)) → 0 < i → i ≤ length ns → narrowed (node_at ns (i - 1)) (i - 1) vs ≡ o → run_back 0 (take i ns) vs ≡ and_then o (λ us. run_back 0 (take (i - 1) ns) us)
run-step ns i vs o some few step =
    let e : (i - 1) + 1 ≡ i = omega (arith, some) in
    let short : i - 1 ≡ 0 + length (take (i - 1) ns) = omega (arith, length-take (i - 1) ns, few) in
    ap (λ (k : ℕ). run_back 0 (take k ns) vs) (sym e)
    ∙ ap (λ (ms : List Node). run_back 0 ms vs) (take_more ns (i - 1) (nodes.Constant (pos 0)) (omega (arith, some, few)))
    ∙ run-append 0 (i - 1) (take (i - 1) ns) (node_at ns (i - 1) ∷ []) vs short
    ∙ ap (λ (p : Option (List Span)). and_then p (λ us. run_back 0 (take (i - 1) ns) us)) step

pub run-none : (ns : List Node) (i : ℕ) (vs : List Span) → i ≡ 0 → run_back 0 (take i ns) vs ≡ Some vs
run-none ns i vs e = ap (λ (k : ℕ). run_back 0 (take k ns) vs) e

pub ended : (xs : List Span) (c : Comparison) (x y : Span) (more vs us : List Span) (ns : List Node) (r : Option (List Span)) → ns ≡ comparison_code c → vs ≡ values_below xs c.left ++ (x ∷ (values_below xs c.right ++ (y ∷ more))) → run_back 0 ns vs ≡ r
    → (done : Bool) → (done ≡ true → r ≡ Some us) → (done ≡ false → r ≡ None) → IsNarrowedTo done us (comparison_places c) (both (targets_of xs c.left x) (targets_of xs c.right y))
ended xs c x y more vs us ns r e f run done found lost =
    let g : r ≡ run_back 0 (comparison_code c) (values_below xs c.left ++ (x ∷ (values_below xs c.right ++ (y ∷ more)))) = sym run ∙ ap₂ (run_back 0) e f in
    narrowed-to r (both (targets_of xs c.left x) (targets_of xs c.right y)) (comparison_places c) us
    (ends-same r _ (comparison_places c) (both (targets_of xs c.left x) (targets_of xs c.right y)) g (down-comparison xs c x y more)) done found lost
