-- What the two passes answer is what the comparison leaves of its entries.
use Rattle.std.proofs.Common.{◌≡◌, ℕ, zero, suc, ◌+◌, ◌-◌, ◌<◌, ◌≤◌, ◌⊎◌, inl, inr, ◌&&◌, Bool, true, false, cond, List, [], ◌∷◌, ◌++◌, Option, Some, None, pos, refl, sym, ap, ap₂, subst, ◌∙◌, length, length-append, append_assoc, drop, map, set, slice_index, slice_index_or, append-nil, All, arith}
use Rattle.std.proofs.lemmas.List.{get_or-map, map-append}
use Rattle.std.proofs.lemmas.List.Elements.{All-append, All-from_recursion, All-nil}
use Rattle.tube_spec.specs.Span.{Span, point}
use Rattle.tube_spec.specs.Box.{cell_at, IsBox}
use Rattle.tube_spec.specs.Narrowing.{Narrowing, Whole, Nothing, Within}
use Rattle.ctc_core.proofs.Composing.{All-left, All-right}
use Rattle.expr_values.specs.Expressions.{Expression, Constant, Entry, Unary, Binary, Comparison}
use Rattle.expr_values.specs.Operators.{is_bounded}
use Rattle.expr_values.specs.Comparisons.{left_of, right_of}
use Rattle.expr_values.specs.Values.{value_of, stays_bounded}
use Rattle.expr_values.specs.Targets.{through, both, targets_of, comparison_targets, narrowing_at, entry_narrowing}
use Rattle.expr_values.proofs.Bounds.{and-left, and-right, and-both}
use Rattle.expr_hc4.specs.declared.nodes.Node.{Node}
use Rattle.expr_hc4.specs.declared.nodes.Node.TheVariants as nodes
use Rattle.expr_hc4.specs.Programs.{below, size, code_of, places_of, node_at, IsOrdered, AreOrdered, node_value, AreValues, values_below, node_values, comparison_code, comparison_places, set_two, IsProgram, IsNarrowedTo}
use Rattle.expr_hc4.proofs.Codes.{AllFrom, AllFrom-append, AllFrom-at, IsValueOf, values-code, length-code, length-values, length-node_values, cell-seam, set-seam}
use Rattle.expr_hc4.proofs.Unchanged.{entry_values, targets-all, places-all}

-- a list that begins with another one
begins-with : (us vs : List Span) → length us ≤ length vs → ((k : ℕ) → k < length us → cell_at vs k ≡ cell_at us k) → vs ≡ us ++ drop (length us) vs
begins-with [] vs l same = refl
begins-with (u ∷ us) [] l same = absurd (omega (arith, l))
begins-with (u ∷ us) (v ∷ vs) l same = ap₂ (λ (s : Span) (ws : List Span). s ∷ ws) (same 0 (omega arith)) (begins-with us vs (omega (arith, l)) (λ k m. same (suc k) (omega (arith, m))))

-- the places of an expression's entries are among those of its nodes
places-among : (e : Expression) (i : ℕ) → All (λ p. p < i + size e) (places_of e i)
places-among (Constant n) i = All-nil (λ p. p < i + 1)
places-among (Entry k) i = All-from_recursion (λ p. p < i + 1) (i ∷ []) (omega arith, tt)
places-among (Unary op a) i = λ k d l. omega (arith, places-among a i k d l)
places-among (Binary op a b) i =
    All-append (λ p. p < i + size (Binary op a b)) (places_of a i) (places_of b (i + size a)) (λ k d l. omega (arith, places-among a i k d l)) (λ k d l. omega (arith, places-among b (i + size a) k d l))

-- what code reads in a place
pub get-same : (vs : List Span) (k : ℕ) (d : Span) → k < length vs → cell_at vs k ≡ slice_index_or vs k d
get-same [] k d l = absurd (omega (arith, l))
get-same (v ∷ vs) zero d l = refl
get-same (v ∷ vs) (suc k) d l = get-same vs k d (omega (arith, l))

-- the values of all nodes stay within the bound
abbrev IsIn : Span → Type 0
IsIn s = is_bounded s ≡ true

one-in : (s : Span) → IsIn s → All IsIn (s ∷ [])
one-in s h = All-from_recursion IsIn (s ∷ []) (h, tt)

in-one : (s : Span) → All IsIn (s ∷ []) → IsIn s
in-one s h = h 0 s (omega arith)

module _ (xs : List Span) where
  stays-all : (e : Expression) → All IsIn (node_values xs e) → stays_bounded xs e ≡ true
  stays-all (Constant n) h = in-one _ h
  stays-all (Entry k) h = in-one _ h
  stays-all (Unary op a) h =
      let v = value_of xs (Unary op a) in
      and-both (stays_bounded xs a) (is_bounded v) (stays-all a (All-left IsIn (node_values xs a) (v ∷ []) h)) (in-one v (All-right IsIn (node_values xs a) (v ∷ []) h))
  stays-all (Binary op a b) h =
      let v = value_of xs (Binary op a b) in
      let operands = All-left IsIn (node_values xs a ++ node_values xs b) (v ∷ []) h in
      and-both (stays_bounded xs a) (stays_bounded xs b && is_bounded v) (stays-all a (All-left IsIn (node_values xs a) (node_values xs b) operands))
      (and-both (stays_bounded xs b) (is_bounded v) (stays-all b (All-right IsIn (node_values xs a) (node_values xs b) operands)) (in-one v (All-right IsIn (node_values xs a ++ node_values xs b) (v ∷ []) h)))

  all-stays : (e : Expression) → stays_bounded xs e ≡ true → All IsIn (node_values xs e)
  all-stays (Constant n) t = one-in _ t
  all-stays (Entry k) t = one-in _ t
  all-stays (Unary op a) t =
      let v = value_of xs (Unary op a) in
      All-append IsIn (node_values xs a) (v ∷ []) (all-stays a (and-left (stays_bounded xs a) (is_bounded v) t)) (one-in v (and-right (stays_bounded xs a) (is_bounded v) t))
  all-stays (Binary op a b) t =
      let v = value_of xs (Binary op a b) in
      let u = and-right (stays_bounded xs a) (stays_bounded xs b && is_bounded v) t in
      All-append IsIn (node_values xs a ++ node_values xs b) (v ∷ [])
      (All-append IsIn (node_values xs a) (node_values xs b) (all-stays a (and-left (stays_bounded xs a) (stays_bounded xs b && is_bounded v) t)) (all-stays b (and-left (stays_bounded xs b) (is_bounded v) u)))
      (one-in v (and-right (stays_bounded xs b) (is_bounded v) u))

module _ (xs : List Span) (c : Comparison) (ns : List Node) (left : ℕ) (places : List ℕ) (program : IsProgram ns left places c) where
  -- the values of both sides
  abbrev pub all_values : List Span
  all_values = node_values xs c.left ++ node_values xs c.right

  pub length-nodes : length ns ≡ size c.left + size c.right
  length-nodes = ap length program.code ∙ length-append (code_of c.left 0) (code_of c.right (size c.left)) ∙ omega (arith, length-code c.left 0, length-code c.right (size c.left))

  length-all : length all_values ≡ length ns
  length-all = length-append (node_values xs c.left) (node_values xs c.right) ∙ omega (arith, length-node_values xs c.left, length-node_values xs c.right, length-nodes)

  pub left-below : left < length ns
  left-below = omega (arith, program.left_root, length-nodes)

  pub places-below : (k d : ℕ) → k < length places → slice_index_or places k d < length ns
  places-below k d l =
      let among : All (λ p. p < length ns) (comparison_places c) =
      All-append (λ p. p < length ns) (places_of c.left 0) (places_of c.right (size c.left)) (λ j e m. omega (arith, places-among c.left 0 j e m, length-nodes)) (λ j e m. omega (arith, places-among c.right (size c.left) j e m, length-nodes)) in
      subst (λ (ps : List ℕ). All (λ p. p < length ns) ps) (sym program.entries) among k d l

  pub are-values : AreValues xs ns all_values
  are-values i l =
      let whole = values-code xs all_values c.left [] (node_values xs c.right) 0 refl refl in
      let right = values-code xs all_values c.right (node_values xs c.left) [] (size c.left) (sym (length-node_values xs c.left)) (simp append-nil) in
      let z : 0 + length (code_of c.left 0) ≡ size c.left = omega (arith, length-code c.left 0) in
      let all = AllFrom-append (IsValueOf xs all_values) 0 (code_of c.left 0) (code_of c.right (size c.left)) whole (subst (λ (j : ℕ). AllFrom (IsValueOf xs all_values) j (code_of c.right (size c.left))) (sym z) right) in
      let s : 0 + i ≡ i = omega arith in
      subst (λ (ms : List Node). IsValueOf xs all_values i (node_at ms i)) (sym program.code)
      (subst (λ (j : ℕ). IsValueOf xs all_values j (node_at (comparison_code c) i)) s (AllFrom-at (IsValueOf xs all_values) 0 (comparison_code c) all i (subst (λ (ms : List Node). i < length ms) program.code l)))

  -- the test of the bound
  abbrev stays : Bool
  stays = stays_bounded xs c.left && stays_bounded xs c.right

  stays-true : ((k : ℕ) → k < length ns → is_bounded (cell_at all_values k) ≡ true) → stays ≡ true
  stays-true h =
      let all : All IsIn all_values = λ k d l. subst IsIn (get-same all_values k d l) (h k (omega (arith, l, length-all))) in
      and-both (stays_bounded xs c.left) (stays_bounded xs c.right) (stays-all xs c.left (All-left IsIn (node_values xs c.left) (node_values xs c.right) all)) (stays-all xs c.right (All-right IsIn (node_values xs c.left) (node_values xs c.right) all))

  pub whole-outcome : (k : ℕ) → k < length ns → is_bounded (cell_at all_values k) ≡ false → (j : ℕ) → Whole ≡ entry_narrowing xs c j
  whole-outcome k l e j = at stays refl
    where
      at : (b : Bool) → stays ≡ b → Whole ≡ cond b (narrowing_at (comparison_targets xs c) j) Whole
      at false p = refl
      at true p =
          let all = All-append IsIn (node_values xs c.left) (node_values xs c.right) (all-stays xs c.left (and-left (stays_bounded xs c.left) (stays_bounded xs c.right) p)) (all-stays xs c.right (and-right (stays_bounded xs c.left) (stays_bounded xs c.right) p)) in
          let t : is_bounded (cell_at all_values k) ≡ true = all k (point (pos 0)) (omega (arith, l, length-all)) in
          absurd (cc)

  module _ (vs : List Span) (room : length ns ≤ length vs) (up : (k : ℕ) → k < length ns → (cell_at vs k ≡ cell_at all_values k) × (is_bounded (cell_at all_values k) ≡ true)) where
    abbrev more : List Span
    more = drop (length all_values) vs

    split : vs ≡ values_below xs c.left ++ (value_of xs c.left ∷ (values_below xs c.right ++ (value_of xs c.right ∷ more)))
    split = begins-with all_values vs (omega (arith, room, length-all)) (λ k l. (up k (omega (arith, l, length-all))).0) ∙ simp append_assoc

    left-value : cell_at vs left ≡ value_of xs c.left
    left-value = cell-seam vs (values_below xs c.left) (value_of xs c.left) _ left split (program.left_root ∙ sym (length-values xs c.left))

    right-split : vs ≡ (node_values xs c.left ++ values_below xs c.right) ++ value_of xs c.right ∷ more
    right-split = split ∙ simp append_assoc

    right-at : length ns - 1 ≡ length (node_values xs c.left ++ values_below xs c.right)
    right-at = omega (arith, length-nodes, length-append (node_values xs c.left) (values_below xs c.right), length-node_values xs c.left, length-values xs c.right)

    right-value : cell_at vs (length ns - 1) ≡ value_of xs c.right
    right-value = cell-seam vs (node_values xs c.left ++ values_below xs c.right) (value_of xs c.right) more (length ns - 1) right-split right-at

    -- what the comparison makes of the values of its sides
    abbrev pub compared : Option (List Span)
    compared = set_two vs left (length ns - 1) (left_of c.op (cell_at vs left) (cell_at vs (length ns - 1))) (right_of c.op (cell_at vs left) (cell_at vs (length ns - 1)))

    abbrev sides : Option Span → Option Span → Option (List Span)
    sides o p = set_two vs left (length ns - 1) o p

    compared-is : compared ≡ sides (left_of c.op (value_of xs c.left) (value_of xs c.right)) (right_of c.op (value_of xs c.left) (value_of xs c.right))
    compared-is = ap₂ (λ (s t : Span). sides (left_of c.op s t) (right_of c.op s t)) left-value right-value

    abbrev targets : Option Span → Option Span → Option (List Span)
    targets o p = both (through o (λ d. targets_of xs c.left d)) (through p (λ d. targets_of xs c.right d))

    narrowing-is : (T : Option (List Span)) → comparison_targets xs c ≡ T → (j : ℕ) → entry_narrowing xs c j ≡ narrowing_at T j
    narrowing-is T e j = ap (λ (b : Bool). cond b (narrowing_at (comparison_targets xs c) j) Whole) (stays-true (λ k l. (up k l).1)) ∙ ap (λ (o : Option (List Span)). narrowing_at o j) e

    none-left : (o p : Option Span) → sides o p ≡ None → targets o p ≡ None
    none-left None p e = refl
    none-left (Some d) None e = at (targets_of xs c.left d)
      where
        at : (cs : Option (List Span)) → both cs None ≡ None
        at None = refl
        at (Some cs) = refl
    none-left (Some d) (Some f) e = absurd (cc)

    pub nothing-compared : compared ≡ None → (j : ℕ) → Nothing ≡ entry_narrowing xs c j
    nothing-compared e j = sym (narrowing-is None (none-left (left_of c.op (value_of xs c.left) (value_of xs c.right)) (right_of c.op (value_of xs c.left) (value_of xs c.right)) (sym compared-is ∙ e)) j)

    -- both sides have something left, and stand at their roots
    pub record BothLeft (us : List Span) : Type 0 where
      pub x : Span
      pub y : Span
      pub state : us ≡ values_below xs c.left ++ (x ∷ (values_below xs c.right ++ (y ∷ more)))
      pub targets : comparison_targets xs c ≡ both (targets_of xs c.left x) (targets_of xs c.right y)

    pub something-compared : (us : List Span) → compared ≡ Some us → BothLeft us
    something-compared us e = at (left_of c.op (value_of xs c.left) (value_of xs c.right)) (right_of c.op (value_of xs c.left) (value_of xs c.right)) refl refl (sym compared-is ∙ e)
      where
        at : (o p : Option Span) → left_of c.op (value_of xs c.left) (value_of xs c.right) ≡ o → right_of c.op (value_of xs c.left) (value_of xs c.right) ≡ p → sides o p ≡ Some us → BothLeft us
        at None p f g q = absurd (cc)
        at (Some x) None f g q = absurd (cc)
        at (Some x) (Some y) f g q =
            let one : set vs left x ≡ values_below xs c.left ++ (x ∷ (values_below xs c.right ++ (value_of xs c.right ∷ more))) =
            set-seam vs (values_below xs c.left) (value_of xs c.left) x _ left split (program.left_root ∙ sym (length-values xs c.left)) in
            let reshaped : set vs left x ≡ ((values_below xs c.left ++ x ∷ []) ++ values_below xs c.right) ++ value_of xs c.right ∷ more = one ∙ simp append_assoc in
            let at_right : length ns - 1 ≡ length ((values_below xs c.left ++ x ∷ []) ++ values_below xs c.right) =
            omega (arith, length-nodes, length-append (values_below xs c.left ++ x ∷ []) (values_below xs c.right), length-append (values_below xs c.left) (x ∷ []), length-values xs c.left, length-values xs c.right) in
            let two = set-seam (set vs left x) ((values_below xs c.left ++ x ∷ []) ++ values_below xs c.right) (value_of xs c.right) y more (length ns - 1) reshaped at_right in
            let same : set (set vs left x) (length ns - 1) y ≡ us = cc in
            record { x = x; y = y; state = sym same ∙ two ∙ simp append_assoc; targets = ap₂ targets f g }

    -- where the comparison left both sides as they were, each target is the value
    pub nothing-changed : IsBox xs → (us : List Span) → BothLeft us → cell_at us left ≡ cell_at vs left → cell_at us (length ns - 1) ≡ cell_at vs (length ns - 1)
        → (b : BothLeft us) × IsNarrowedTo true us (comparison_places c) (both (targets_of xs c.left b.x) (targets_of xs c.right b.y))
    nothing-changed box us b p q =
        let e : b.x ≡ value_of xs c.left = sym (cell-seam us (values_below xs c.left) b.x _ left b.state (program.left_root ∙ sym (length-values xs c.left))) ∙ p ∙ left-value in
        let at_right : length ns - 1 ≡ length ((values_below xs c.left ++ b.x ∷ []) ++ values_below xs c.right) =
        omega (arith, length-nodes, length-append (values_below xs c.left ++ b.x ∷ []) (values_below xs c.right), length-append (values_below xs c.left) (b.x ∷ []), length-values xs c.left, length-values xs c.right) in
        let f : b.y ≡ value_of xs c.right = sym (cell-seam us ((values_below xs c.left ++ b.x ∷ []) ++ values_below xs c.right) b.y more (length ns - 1) (b.state ∙ simp append_assoc) at_right) ∙ q ∙ right-value in
        let whole : us ≡ values_below xs c.left ++ (value_of xs c.left ∷ (values_below xs c.right ++ (value_of xs c.right ∷ more))) =
        b.state ∙ ap₂ (λ (s t : Span). values_below xs c.left ++ (s ∷ (values_below xs c.right ++ (t ∷ more)))) e f in
        let placed : map (cell_at us) (comparison_places c) ≡ entry_values xs c.left ++ entry_values xs c.right =
        map-append (cell_at us) (places_of c.left 0) (places_of c.right (size c.left))
        ∙ ap₂ (λ (ss ts : List Span). ss ++ ts) (places-all xs us c.left [] (node_values xs c.right ++ more) 0 refl (whole ∙ simp append_assoc))
        (places-all xs us c.right (node_values xs c.left) more (size c.left) (sym (length-node_values xs c.left)) (whole ∙ simp append_assoc)) in
        let targets : both (targets_of xs c.left b.x) (targets_of xs c.right b.y) ≡ Some (entry_values xs c.left ++ entry_values xs c.right) =
        ap₂ (λ (s t : Span). both (targets_of xs c.left s) (targets_of xs c.right t)) e f ∙ ap₂ both (targets-all xs box c.left) (targets-all xs box c.right) in
        (b, subst (λ (T : Option (List Span)). IsNarrowedTo true us (comparison_places c) T) (sym targets) (refl, placed))

    pub nothing-narrowed : (us ws : List Span) (b : BothLeft us) → IsNarrowedTo false ws (comparison_places c) (both (targets_of xs c.left b.x) (targets_of xs c.right b.y)) → (j : ℕ) → Nothing ≡ entry_narrowing xs c j
    nothing-narrowed us ws b h j = at (both (targets_of xs c.left b.x) (targets_of xs c.right b.y)) b.targets h
      where
        at : (T : Option (List Span)) → comparison_targets xs c ≡ T → IsNarrowedTo false ws (comparison_places c) T → Nothing ≡ entry_narrowing xs c j
        at None e k = sym (narrowing-is None e j)
        at (Some cs) e k = let f = k.0 in absurd (cc)

    pub something-narrowed : (us ws ts : List Span) (b : BothLeft us) → IsNarrowedTo true ws (comparison_places c) (both (targets_of xs c.left b.x) (targets_of xs c.right b.y))
        → ((j : ℕ) → j < length places → cell_at ts j ≡ cell_at ws (slice_index places j)) → (j : ℕ) → j < length places → Within (cell_at ts j) ≡ entry_narrowing xs c j
    something-narrowed us ws ts b h gathered j l = at (both (targets_of xs c.left b.x) (targets_of xs c.right b.y)) b.targets h
      where
        at : (T : Option (List Span)) → comparison_targets xs c ≡ T → IsNarrowedTo true ws (comparison_places c) T → Within (cell_at ts j) ≡ entry_narrowing xs c j
        at None e k = absurd (cc)
        at (Some cs) e k =
            let read : cell_at cs j ≡ cell_at ws (slice_index places j) =
            ap (λ (ds : List Span). cell_at ds j) (sym k.1 ∙ ap (map (cell_at ws)) (sym program.entries)) ∙ get_or-map (cell_at ws) places j 0 (point (pos 0)) l in
            ap Within (gathered j l ∙ sym read) ∙ sym (narrowing-is (Some cs) e j)

pub ordered-more : (m n i : ℕ) (node : Node) → m ≤ n → IsOrdered m i node → IsOrdered n i node
ordered-more m n i (nodes.Constant k) l h = tt
ordered-more m n i (nodes.Entry k) l h = omega (arith, l, h)
ordered-more m n i (nodes.Unary op a) l h = h
ordered-more m n i (nodes.Binary op a b) l h = h
