-- The law of schedules, for any projections and any fit that keep the laws.
use Rattle.std.proofs.Common.{ap₂, ◌≡◌, ℕ, suc, ◌+◌, ◌-◌, ◌*◌, ◌<◌, ◌≤◌, Option, Some, None, List, [], ◌∷◌, ◌++◌, IfSome, arith, refl, sym, ap, subst, ◌∙◌, length, take, get_or, get_or-take, length-append, replicate, append-nil, append_assoc, pos, All, Contains, flat_map, slice_get}
use Rattle.std.proofs.Math.ListN.{length-replicate, get_or-append}
use Rattle.std.proofs.lemmas.List.Elements.{All-push, All-nil, All-append}
use Rattle.std.proofs.lemmas.Int.{ints}
use Rattle.std.proofs.lemmas.List.Concat.{flat_map-append}
use Rattle.tube_spec.specs.Span.{Span, IsWithin, point}
use Rattle.tube_spec.specs.Narrowing.{IsUnder, Narrowing}
use Rattle.tube_spec.specs.Shape.{with_signal, with_var, Shape, IsShape, Extends}
use Rattle.tube_spec.specs.Box.{cell_at, IsBox, IsBelow, IsBelowBox, box_more}
use Rattle.tube_spec.specs.Projection.{Projection, IsStable, ReadsOnly}
use Rattle.tube_spec.specs.Fixpoint.{IsFixpoint, IsGreatest, KeepsFixpoints}
use Rattle.tube_spec.proofs.Boxes.{IsBelow-refl, IsBelowBox-trans}
use Rattle.ctc_core.proofs.Composing.{fixpoint-left, fixpoint-right}
use Rattle.ctc_network.proofs.Runs.{get-longer, get-all, get-fixpoint}
use Rattle.ctc_network.specs.Schedule.{Event, AddSignal, AddVar, AddContractor, Fire, Network, no_network, grown, after, after_all, IsAllowed, IsSchedule, all_projections, KeepsDeclared, IsGreatestAtRest}
use Rattle.tube_spec.proofs.Prefixes.{IsBox-append, IsBox-replicate, IsBox-take, IsBelow-append, IsBelowFirst, first-below, first-all, first-more, Extends-refl, Extends-trans}

-- the cells and the contractors of a network are the first ones of what it becomes
pub record Grows {C : Type 0} (old new : Network C) : Type 0 where
  pub shape : Extends old.shape new.shape
  pub declared : (more : List Span) × (new.declared ≡ old.declared ++ more)
  pub contractors : (more : List C) × (new.contractors ≡ old.contractors ++ more)

Grows-refl : {C : Type 0} (n : Network C) → Grows n n
Grows-refl n = record { shape = Extends-refl n.shape; declared = ([], sym (append-nil n.declared)); contractors = ([], sym (append-nil n.contractors)) }

joined : {X : Type 0} (a b c x y : List X) → b ≡ a ++ x → c ≡ b ++ y → c ≡ a ++ (x ++ y)
joined a b c x y p q = q ∙ ap (λ l. l ++ y) p ∙ append_assoc a x y

Grows-trans : {C : Type 0} (a b c : Network C) → Grows a b → Grows b c → Grows a c
Grows-trans a b c p q = record {
  shape = Extends-trans a.shape b.shape c.shape p.shape q.shape;
  declared = (p.declared.0 ++ q.declared.0, joined a.declared b.declared c.declared p.declared.0 q.declared.0 p.declared.1 q.declared.1);
  contractors = (p.contractors.0 ++ q.contractors.0, joined a.contractors b.contractors c.contractors p.contractors.0 q.contractors.0 p.contractors.1 q.contractors.1);
}

signal-extends : (s : Shape) → Extends s (with_signal s)
signal-extends s = record { grid = refl; signals = (s.cells ∷ [], refl); vars = ([], sym (append-nil s.vars)); cells = omega arith }

var-extends : (s : Shape) → Extends s (with_var s)
var-extends s = record { grid = refl; signals = ([], sym (append-nil s.signals)); vars = (s.cells ∷ [], refl); cells = omega arith }

grows-step : {C : Type 0} (n : Network C) (e : Event C) → Grows n (after n e)
grows-step n (AddSignal range) = record { shape = signal-extends n.shape; declared = (replicate (2 * length n.shape.grid - 1) range, refl); contractors = ([], sym (append-nil n.contractors)) }
grows-step n (AddVar range) = record { shape = var-extends n.shape; declared = (range ∷ [], refl); contractors = ([], sym (append-nil n.contractors)) }
grows-step n (AddContractor c) = record { shape = Extends-refl n.shape; declared = ([], sym (append-nil n.declared)); contractors = (c ∷ [], refl) }
grows-step n (Fire k box) = record { shape = Extends-refl n.shape; declared = ([], sym (append-nil n.declared)); contractors = ([], sym (append-nil n.contractors)) }

grows-all : {C : Type 0} (n : Network C) (es : List (Event C)) → Grows n (after_all n es)
grows-all n [] = Grows-refl n
grows-all n (e ∷ es) = Grows-trans n (after n e) (after_all (after n e) es) (grows-step n e) (grows-all (after n e) es)

module _ (C : Type 0) (projections : C → Shape → List Projection) (scope : C → Shape → List ℕ) (fits : C → Shape → Option (List Span) → Type 0)
    (reads_only : (c : C) (s : Shape) → All (ReadsOnly (λ xs. fits c s (Some xs)) (scope c s)) (projections c s))
    (fits_local : (c : C) (s : Shape) (xs ys : List Span) → ((k : ℕ) → Contains (scope c s) k → cell_at xs k ≡ cell_at ys k) → fits c s (Some xs) → fits c s (Some ys))
    (fits_below : (c : C) (s : Shape) (a b : Option (List Span)) → IsBelowBox a b → fits c s b → fits c s a)
    (in_store : (c : C) (s : Shape) (b : Option (List Span)) → IsShape s → fits c s b → All (λ k. k < s.cells) (scope c s) × All (λ p. p.target < s.cells) (projections c s))
    (fits_more : (c : C) (s t : Shape) (b : Option (List Span)) (more : List Span) → Extends s t → fits c s b → fits c t (box_more b more))
    (same_projections : (c : C) (s t : Shape) (b : Option (List Span)) → Extends s t → fits c s b → projections c t ≡ projections c s) where
  -- what holds of every network that a schedule makes
  record Sound (n : Network C) : Type 0 where
    pub shape : IsShape n.shape
    pub len : length n.declared ≡ n.shape.cells
    pub boxes : IfSome n.box IsBox
    pub low : IsBelowBox n.box (Some n.declared)
    pub fit : All (λ c. fits c n.shape n.box) n.contractors

  sound-grown : (n : Network C) (t : Shape) (more : List Span) → Sound n → IsShape t → Extends n.shape t → t.cells ≡ n.shape.cells + length more → IsBox more → Sound (grown n t more)
  sound-grown n t more sound shape grows cells box = record {
    shape = shape;
    len = rw length-append (omega (arith, sound.len, cells));
    boxes = at_boxes n.box sound.boxes;
    low = at_low n.box sound.low;
    fit = λ k d l. fits_more (get_or n.contractors k d) n.shape t n.box more grows (sound.fit k d l);
  }
    where
      at_boxes : (b : Option (List Span)) → IfSome b IsBox → IfSome (box_more b more) IsBox
      at_boxes None h = tt
      at_boxes (Some xs) h = IsBox-append xs more h box

      at_low : (b : Option (List Span)) → IsBelowBox b (Some n.declared) → IsBelowBox (box_more b more) (Some (n.declared ++ more))
      at_low None h = tt
      at_low (Some xs) h = IsBelow-append xs n.declared more h

  sound-step : (n : Network C) (e : Event C) → Sound n → IsAllowed projections fits n e → Sound (after n e)
  sound-step n (AddSignal range) sound ok =
      sound-grown n (with_signal n.shape) (replicate (2 * length n.shape.grid - 1) range) sound ok.1 (signal-extends n.shape) (rw length-replicate refl) (IsBox-replicate _ range ok.0)
  sound-step n (AddVar range) sound ok =
      sound-grown n (with_var n.shape) (range ∷ []) sound ok.1 (var-extends n.shape) refl (IsBox-replicate 1 range ok.0)
  sound-step n (AddContractor c) sound ok = record {
    shape = sound.shape;
    len = sound.len;
    boxes = sound.boxes;
    low = sound.low;
    fit = All-push (λ c. fits c n.shape n.box) n.contractors c sound.fit ok;
  }
  sound-step n (Fire k box) sound ok = record {
    shape = sound.shape;
    len = sound.len;
    boxes = ok.2.boxes;
    low = IsBelowBox-trans box n.box (Some n.declared) ok.2.below sound.low;
    fit = λ j d l. fits_below (get_or n.contractors j d) n.shape box n.box ok.2.below (sound.fit j d l);
  }

  sound-all : (n : Network C) (es : List (Event C)) → Sound n → IsSchedule projections fits n es → Sound (after_all n es)
  sound-all n [] sound ok = sound
  sound-all n (e ∷ es) sound ok = sound-all (after n e) es (sound-step n e sound ok.0) ok.1

  -- the first cells of a fixpoint of a contractor are a fixpoint of it
  first-fixpoint : (c : C) (s : Shape) (q xs : List Span) → IsShape s → s.cells ≤ length q → fits c s (Some xs) → IsBelow (take s.cells q) xs → IsFixpoint (projections c s) q → IsFixpoint (projections c s) (take s.cells q)
  first-fixpoint c s q xs shape le fit low fix = record {
    box = IsBox-take s.cells q le fix.box;
    stable = λ k d l.
        let p = get_or (projections c s) k d in
        let target : cell_at (take s.cells q) p.target ≡ cell_at q p.target = get_or-take s.cells q p.target (point (pos 0)) ((in_store c s (Some xs) shape fit).1 k d l) in
        let formula : p.formula (take s.cells q) ≡ p.formula q = reads_only c s k d l (take s.cells q) q small (fits_local c s (take s.cells q) q same small) same in
        subst (λ (h : Narrowing). IsUnder (cell_at (take s.cells q) p.target) h) (sym formula)
        (subst (λ (v : Span). IsUnder v (p.formula q)) (sym target) (fix.stable k d l));
  }
    where
      small : fits c s (Some (take s.cells q))
      small = fits_below c s (Some (take s.cells q)) (Some xs) low fit

      same : (k : ℕ) → Contains (scope c s) k → cell_at (take s.cells q) k ≡ cell_at q k
      same k m = get_or-take s.cells q k (point (pos 0)) (subst (λ (j : ℕ). j < s.cells) m.2 ((in_store c s (Some xs) shape fit).0 m.0 k m.1))

  -- one event keeps a fixpoint of what the network becomes
  module _ (n last : Network C) (q : List Span) (sound : Sound n) (fix : IsFixpoint (all_projections projections last) q) (below : IsBelow q last.declared) where
    more-step : (t : Shape) (more : List Span) → t.cells ≡ n.shape.cells + length more → Grows (grown n t more) last → IsBelowFirst n.shape.cells q n.box → IsBelowFirst t.cells q (box_more n.box more)
    more-step t more cells grows = at n.box sound.low
      where
        at : (b : Option (List Span)) → IsBelowBox b (Some n.declared) → IsBelowFirst n.shape.cells q b → IsBelowFirst t.cells q (box_more b more)
        at None low h = absurd h
        at (Some xs) low h =
            subst (λ (m : ℕ). IsBelowFirst m q (Some (xs ++ more))) (sym cells)
            (first-more n.shape.cells (length more) q xs n.declared more grows.declared.0 last.declared (low.len ∙ sound.len) sound.len refl grows.declared.1 below h)

    fire-step : (k : ℕ) (box : Option (List Span)) → IsAllowed projections fits n (Fire k box) → Grows n last → IsBelowFirst n.shape.cells q n.box → IsBelowFirst n.shape.cells q box
    fire-step k box ok grows h = at n.box sound.low fitting ok.2.keeps h
      where
        fitting : fits ok.0 n.shape n.box
        fitting = get-all (λ c. fits c n.shape n.box) n.contractors k ok.0 ok.1 sound.fit

        stable : IsFixpoint (projections ok.0 n.shape) q
        stable =
            let member = subst (λ (cs : List C). slice_get cs k ≡ Some ok.0) (sym grows.contractors.1) (get-longer n.contractors grows.contractors.0 k ok.0 ok.1) in
            let fixed = get-fixpoint (λ c. projections c last.shape) last.contractors k ok.0 q member fix in
            subst (λ (ps : List Projection). IsFixpoint ps q) (same_projections ok.0 n.shape last.shape n.box grows.shape fitting) fixed

        long : n.shape.cells ≤ length q
        long = omega (arith, below.len, ap length grows.declared.1, length-append n.declared grows.declared.0, sound.len)

        back : (b : Option (List Span)) → IsBelowBox (Some (take n.shape.cells q)) b → IsBelowFirst n.shape.cells q b
        back None kept = absurd kept
        back (Some ys) kept = λ j l. subst (λ (v : Span). IsWithin v (cell_at ys j)) (get_or-take n.shape.cells q j (point (pos 0)) l) (kept.each j)

        at : (b : Option (List Span)) → IsBelowBox b (Some n.declared) → fits ok.0 n.shape b → KeepsFixpoints (projections ok.0 n.shape) b box → IsBelowFirst n.shape.cells q b → IsBelowFirst n.shape.cells q box
        at None low fit keeps h = absurd h
        at (Some xs) low fit keeps h =
            let small = first-below n.shape.cells q xs long (low.len ∙ sound.len) h in
            back box (keeps (take n.shape.cells q) (first-fixpoint ok.0 n.shape q xs sound.shape long fit small stable) small)

  step : (n : Network C) (e : Event C) (last : Network C) (q : List Span) → Sound n → IsAllowed projections fits n e → Grows (after n e) last → IsFixpoint (all_projections projections last) q → IsBelow q last.declared → IsBelowFirst n.shape.cells q n.box → IsBelowFirst (after n e).shape.cells q (after n e).box
  step n (AddSignal range) last q sound ok grows fix below h = more-step n last q sound fix below (with_signal n.shape) (replicate (2 * length n.shape.grid - 1) range) (rw length-replicate refl) grows h
  step n (AddVar range) last q sound ok grows fix below h = more-step n last q sound fix below (with_var n.shape) (range ∷ []) refl grows h
  step n (AddContractor c) last q sound ok grows fix below h = h
  step n (Fire k box) last q sound ok grows fix below h = fire-step n last q sound fix below k box ok (Grows-trans n (after n (Fire k box)) last (grows-step n (Fire k box)) grows) h

  keeps-first : (n : Network C) (es : List (Event C)) (q : List Span) → Sound n → IsSchedule projections fits n es → IsFixpoint (all_projections projections (after_all n es)) q → IsBelow q (after_all n es).declared → IsBelowFirst n.shape.cells q n.box → IsBelowFirst (after_all n es).shape.cells q (after_all n es).box
  keeps-first n [] q sound ok fix below h = h
  keeps-first n (e ∷ es) q sound ok fix below h =
      keeps-first (after n e) es q (sound-step n e sound ok.0) ok.1 fix below
      (step n e (after_all (after n e) es) q sound ok.0 (grows-all (after n e) es) fix below h)

  sound-none : (grid : List ℕ) → IsShape (no_network {C = C} grid).shape → Sound (no_network grid)
  sound-none grid shape = record { shape = shape; len = refl; boxes = IsBox-replicate 0 (point (pos 0)) (omega (arith, ints)); low = IsBelow-refl []; fit = λ k d l. absurd (omega arith) }

  pub schedule-keeps : (grid : List ℕ) (es : List (Event C)) → IsShape (no_network {C = C} grid).shape → IsSchedule projections fits (no_network grid) es → KeepsDeclared projections (after_all (no_network grid) es)
  schedule-keeps grid es shape ok q fix below =
      let last = after_all (no_network grid) es in
      let sound = sound-all (no_network grid) es (sound-none grid shape) ok in
      first-all last.shape.cells q last.box (below.len ∙ sound.len) (lengths _ last.declared last.box sound.low sound.len)
      (keeps-first (no_network grid) es q (sound-none grid shape) ok fix below (λ k l. absurd (omega arith)))
    where
      lengths : (m : ℕ) (d : List Span) (b : Option (List Span)) → IsBelowBox b (Some d) → length d ≡ m → IfSome b (λ xs. length xs ≡ m)
      lengths m d None low e = tt
      lengths m d (Some xs) low e = low.len ∙ e

  pub schedule-greatest : (grid : List ℕ) (es : List (Event C)) → IsShape (no_network {C = C} grid).shape → IsSchedule projections fits (no_network grid) es → IsGreatestAtRest projections (after_all (no_network grid) es)
  schedule-greatest grid es shape ok rest =
      let last = after_all (no_network grid) es in
      at _ last.declared last.box rest (sound-all (no_network grid) es (sound-none grid shape) ok).low (schedule-keeps grid es shape ok)
    where
      at : (ps : List Projection) (d : List Span) (b : Option (List Span)) → IfSome b (IsFixpoint ps) → IsBelowBox b (Some d) → KeepsFixpoints ps (Some d) b → IsGreatest ps (Some d) b
      at ps d None fix low keeps = λ q f l. keeps q f l
      at ps d (Some r) fix low keeps = (fix, low, λ q f l. keeps q f l)

  -- Sections: a shape and declared cells, and then more of both; contractors that fit, and then more of them.
  module _ (s t : Shape) (first more : List C) (declared further : List Span) (shape : IsShape s) (grows : Extends s t) (len : length declared ≡ s.cells) (fit : All (λ c. fits c s (Some declared)) first) where
    firsts : (cs : List C) (q : List Span) → All (λ c. fits c s (Some declared)) cs → s.cells ≤ length q → IsBelow (take s.cells q) declared → IsFixpoint (flat_map (λ c. projections c s) cs) q → IsFixpoint (flat_map (λ c. projections c s) cs) (take s.cells q)
    firsts [] q all long low fix = record { box = IsBox-take s.cells q long fix.box; stable = All-nil (IsStable (take s.cells q)) }
    firsts (c ∷ cs) q all long low fix =
        let here = first-fixpoint c s q declared shape long (all 0 c (omega arith)) low (fixpoint-left (projections c s) (flat_map (λ c. projections c s) cs) q fix) in
        let rest = firsts cs q (λ k d l. all (suc k) d (omega (arith, l))) long low (fixpoint-right (projections c s) (flat_map (λ c. projections c s) cs) q fix) in
        record { box = here.box; stable = All-append (IsStable (take s.cells q)) (projections c s) (flat_map (λ c. projections c s) cs) here.stable rest.stable }

    same-all : (cs : List C) → All (λ c. fits c s (Some declared)) cs → flat_map (λ c. projections c t) cs ≡ flat_map (λ c. projections c s) cs
    same-all [] all = refl
    same-all (c ∷ cs) all =
        ap₂ (λ (xs ys : List Projection). xs ++ ys) (same_projections c s t (Some declared) grows (all 0 c (omega arith))) (same-all cs (λ k d l. all (suc k) d (omega (arith, l))))

    pub section-keeps : (b1 b2 : Option (List Span)) → IsBelowBox b1 (Some declared) → KeepsFixpoints (flat_map (λ c. projections c s) first) (Some declared) b1
        → KeepsFixpoints (flat_map (λ c. projections c t) (first ++ more)) (box_more b1 further) b2 → KeepsFixpoints (flat_map (λ c. projections c t) (first ++ more)) (Some (declared ++ further)) b2
    section-keeps b1 b2 low1 keeps1 keeps2 q fix below = keeps2 q fix (at b1 low1 (keeps1 (take s.cells q) (firsts first q fit long small old) small))
      where
        long : s.cells ≤ length q
        long = omega (arith, below.len, length-append declared further, len)

        small : IsBelow (take s.cells q) declared
        small = first-below s.cells q declared long len (λ k l. subst (IsWithin (cell_at q k)) (get_or-append declared further (point (pos 0)) k (omega (arith, l, len))) (below.each k))

        old : IsFixpoint (flat_map (λ c. projections c s) first) q
        old =
            let whole = subst (λ (ps : List Projection). IsFixpoint ps q) (flat_map-append (λ c. projections c t) first more) fix in
            subst (λ (ps : List Projection). IsFixpoint ps q) (same-all first fit) (fixpoint-left (flat_map (λ c. projections c t) first) (flat_map (λ c. projections c t) more) q whole)

        at : (b : Option (List Span)) → IsBelowBox b (Some declared) → IsBelowBox (Some (take s.cells q)) b → IsBelowBox (Some q) (box_more b further)
        at None low h = absurd h
        at (Some xs) low h =
            let lx : length xs ≡ s.cells = low.len ∙ len in
            first-all (s.cells + length further) q (Some (xs ++ further)) (omega (arith, below.len, length-append declared further, len)) (length-append xs further ∙ omega (arith, lx))
            (first-more s.cells (length further) q xs declared further [] (declared ++ further) lx len refl (sym (append-nil (declared ++ further))) below
            (λ k l. subst (λ (v : Span). IsWithin v (cell_at xs k)) (get_or-take s.cells q k (point (pos 0)) l) (h.each k)))

    -- the greatest below a greatest with further cells is the greatest of all
    pub section-greatest : (b1 b2 : Option (List Span)) → IsGreatest (flat_map (λ c. projections c s) first) (Some declared) b1
        → IsGreatest (flat_map (λ c. projections c t) (first ++ more)) (box_more b1 further) b2 → IsGreatest (flat_map (λ c. projections c t) (first ++ more)) (Some (declared ++ further)) b2
    section-greatest b1 b2 g1 g2 = at b2 g2
      where
        ps : List Projection
        ps = flat_map (λ c. projections c t) (first ++ more)

        low1 : (b : Option (List Span)) → IsGreatest (flat_map (λ c. projections c s) first) (Some declared) b → IsBelowBox b (Some declared)
        low1 None g = tt
        low1 (Some xs) g = g.1

        keeps1 : (b : Option (List Span)) → IsGreatest (flat_map (λ c. projections c s) first) (Some declared) b → KeepsFixpoints (flat_map (λ c. projections c s) first) (Some declared) b
        keeps1 None g = g
        keeps1 (Some xs) g = g.2

        more-low : (b : Option (List Span)) → IsBelowBox b (Some declared) → IsBelowBox (box_more b further) (Some (declared ++ further))
        more-low None l = tt
        more-low (Some xs) l = IsBelow-append xs declared further l

        at : (b : Option (List Span)) → IsGreatest ps (box_more b1 further) b → IsGreatest ps (Some (declared ++ further)) b
        at None g = section-keeps b1 None (low1 b1 g1) (keeps1 b1 g1) (λ q f l. g q f l)
        at (Some r) g = (
          g.0,
          IsBelowBox-trans (Some r) (box_more b1 further) (Some (declared ++ further)) g.1 (more-low b1 (low1 b1 g1)),
          section-keeps b1 (Some r) (low1 b1 g1) (keeps1 b1 g1) g.2,
        )
