-- Each signal and each beacon of the records has a name that stands for it, and each name of a variable stands for it.
use Rattle.std.proofs.Common.{◌≡◌, ℕ, ◌+◌, ◌<◌, ◌≤◌, Bool, true, false, cond, List, [], ◌∷◌, ◌++◌, Some, None, inl, inr, ◌⊎◌, refl, sym, ap, subst, ◌∙◌, arith, append_assoc, append-nil, bytes_eq}
use Rattle.std.specs.Map.{lookup}
use Rattle.std.proofs.Math.Nat.{eq-or-lt_of_le}
use Rattle.std.proofs.lemmas.Slice.Eq.{bytes_eq-Decides}
use Rattle.tube_spec.specs.Span.{Span}
use Rattle.tube_store.specs.declared.SignalId.{SignalId}
use Rattle.tube_store.specs.declared.VarId.{VarId}
use Rattle.log_spelling.specs.References.{reference_text}
use Rattle.log_spelling.specs.declared.reference.Part.{Part}
use Rattle.log_spelling.specs.declared.reference.Part.TheVariants as part
use Rattle.mission_items.specs.Made.{beacons_in, signals_in, variables_in}
use Rattle.mission_items.specs.Names.{IsNamed, declaration_of, declared, names_of, variable_of}
use Rattle.mission_items.specs.Valid.{AreRight, AreRightFrom, IsRight}
use Rattle.mission_items.specs.declared.decl.Decl.{Decl}
use Rattle.mission_items.specs.declared.decl.Decl.TheVariants as decl
use Rattle.mission_items.specs.declared.item.Item.{Item}
use Rattle.mission_items.specs.declared.item.Item.TheVariants as item
use Rattle.mission_items.proofs.Making.{beacons-last, declared-last, signals-last}
use Rattle.log_text.specs.NameTexts.{beacon_name, signal_name, texts_of, variable_name}
use Rattle.log_text.specs.Named.{NamesBeacon, NamesSignal, NamesVariable}
use Rattle.log_text.proofs.Told.{Tells, TellsBeacon, spelled-from, told-from}

-- ---- a search among more

found-more : (p : List ℕ → Bool) (xs ys : List (List ℕ × Decl)) (d : Decl) → lookup p xs ≡ Some d → lookup p (xs ++ ys) ≡ Some d
found-more p [] ys d h = cc h
found-more p (x ∷ xs) ys d h = by (p x.0) (found-more p xs ys d) h
  where
    by : (b : Bool) → (lookup p xs ≡ Some d → lookup p (xs ++ ys) ≡ Some d) → cond b (Some x.1) (lookup p xs) ≡ Some d → cond b (Some x.1) (lookup p (xs ++ ys)) ≡ Some d
    by true more h = h
    by false more h = more h

not_found-more : (p : List ℕ → Bool) (xs ys : List (List ℕ × Decl)) → lookup p xs ≡ None → lookup p (xs ++ ys) ≡ lookup p ys
not_found-more p [] ys h = refl
not_found-more p (x ∷ xs) ys h = by (p x.0) (not_found-more p xs ys) h
  where
    by : (b : Bool) → (lookup p xs ≡ None → lookup p (xs ++ ys) ≡ lookup p ys) → cond b (Some x.1) (lookup p xs) ≡ None → cond b (Some x.1) (lookup p (xs ++ ys)) ≡ lookup p ys
    by true more h = cc h
    by false more h = more h

-- what is declared stays so
stays : (items : List Item) (i : Item) (name : List ℕ) (d : Decl) → declaration_of name items ≡ Some d → declaration_of name (items ++ i ∷ []) ≡ Some d
stays items i name d h = ap (lookup (bytes_eq name)) (declared-last items i) ∙ found-more (bytes_eq name) (declared items) (names_of items i) d h

-- what is new is declared now
is_new : (items : List Item) (i : Item) (name : List ℕ) (d : Decl) → names_of items i ≡ (name, d) ∷ [] → declaration_of name items ≡ None → declaration_of name (items ++ i ∷ []) ≡ Some d
is_new items i name d one h =
    let same : bytes_eq name name ≡ true = (bytes_eq-Decides name name).1 refl in
    ap (lookup (bytes_eq name)) (declared-last items i)
    ∙ (not_found-more (bytes_eq name) (declared items) (names_of items i) h
    ∙ (ap (lookup (bytes_eq name)) one ∙ ap (λ (b : Bool). cond b (Some d) None) same))

-- below one more
below_last : (x n : ℕ) → x < n + 1 → (x < n) ⊎ (n ≡ x)
below_last x n h =
    let most : x ≤ n = omega arith in
    elim (eq-or-lt_of_le most) [ inl same ↦ inr (sym same) | inr less ↦ inl less ]

-- ---- signals

record KnownSignal (items : List Item) (x : ℕ) : Type 0 where
  name : List ℕ
  range : Span
  found : declaration_of name items ≡ Some (decl.Signal (record { 0 = x }) range)

signal-stays : (items : List Item) (i : Item) (x : ℕ) → KnownSignal items x → KnownSignal (items ++ i ∷ []) x
signal-stays items i x k = record { name = k.name; range = k.range; found = stays items i k.name (decl.Signal (record { 0 = x }) k.range) k.found }

signals-more : (version end : ℕ) (items : List Item) (i : Item) → IsRight version end items i → ((x : ℕ) → x < signals_in items → KnownSignal items x) → (x : ℕ) → x < signals_in (items ++ i ∷ []) → KnownSignal (items ++ i ∷ []) x
signals-more version end items (item.Signal name range) right known x h =
    let i = item.Signal name range in
    let many : x < signals_in items + 1 = omega (arith, signals-last items i) in
    elim (below_last x (signals_in items) many) [
      | inl old ↦ signal-stays items i x (known x old)
      | inr new ↦ subst (KnownSignal (items ++ i ∷ [])) new (record { name = name; range = range; found = is_new items i name (decl.Signal (record { 0 = signals_in items }) range) refl right.0.1 })
    ]
signals-more version end items i right known x h =
    let old : x < signals_in items = omega (arith, signals-last items i) in
    signal-stays items i x (known x old)

signals-from : (version end : ℕ) (before items : List Item) → AreRightFrom version end before items → ((x : ℕ) → x < signals_in before → KnownSignal before x) → (x : ℕ) → x < signals_in (before ++ items) → KnownSignal (before ++ items) x
signals-from version end before [] right known x h =
    let same = append-nil before in
    subst (λ (l : List Item). KnownSignal l x) (sym same) (known x (subst (λ (l : List Item). x < signals_in l) same h))
signals-from version end before (i ∷ items) right known x h =
    let same = append_assoc before (i ∷ []) items in
    subst (λ (l : List Item). KnownSignal l x) same
    (signals-from version end (before ++ i ∷ []) items right.2 (signals-more version end before i right.1 known) x (subst (λ (l : List Item). x < signals_in l) (sym same) h))

-- ---- beacons

record KnownBeacon (items : List Item) (place : ℕ) : Type 0 where
  name : List ℕ
  first : VarId
  x : Span
  y : Span
  found : declaration_of name items ≡ Some (decl.Beacon place first x y)

beacon-stays : (items : List Item) (i : Item) (place : ℕ) → KnownBeacon items place → KnownBeacon (items ++ i ∷ []) place
beacon-stays items i place k = record { name = k.name; first = k.first; x = k.x; y = k.y; found = stays items i k.name (decl.Beacon place k.first k.x k.y) k.found }

beacons-more : (version end : ℕ) (items : List Item) (i : Item) → IsRight version end items i → ((n : ℕ) → n < beacons_in items → KnownBeacon items n) → (n : ℕ) → n < beacons_in (items ++ i ∷ []) → KnownBeacon (items ++ i ∷ []) n
beacons-more version end items (item.Beacon name x y) right known n h =
    let i = item.Beacon name x y in
    let many : n < beacons_in items + 1 = omega (arith, beacons-last items i) in
    elim (below_last n (beacons_in items) many) [
      | inl old ↦ beacon-stays items i n (known n old)
      | inr new ↦
          subst (KnownBeacon (items ++ i ∷ [])) new
          (record { name = name; first = record { 0 = variables_in items }; x = x; y = y; found = is_new items i name (decl.Beacon (beacons_in items) (record { 0 = variables_in items }) x y) refl right.0.1 })
    ]
beacons-more version end items i right known n h =
    let old : n < beacons_in items = omega (arith, beacons-last items i) in
    beacon-stays items i n (known n old)

beacons-from : (version end : ℕ) (before items : List Item) → AreRightFrom version end before items → ((n : ℕ) → n < beacons_in before → KnownBeacon before n) → (n : ℕ) → n < beacons_in (before ++ items) → KnownBeacon (before ++ items) n
beacons-from version end before [] right known n h =
    let same = append-nil before in
    subst (λ (l : List Item). KnownBeacon l n) (sym same) (known n (subst (λ (l : List Item). n < beacons_in l) same h))
beacons-from version end before (i ∷ items) right known n h =
    let same = append_assoc before (i ∷ []) items in
    subst (λ (l : List Item). KnownBeacon l n) same
    (beacons-from version end (before ++ i ∷ []) items right.2 (beacons-more version end before i right.1 known) n (subst (λ (l : List Item). n < beacons_in l) (sym same) h))

-- ---- by the texts

module _ (version end : ℕ) (before rest : List Item) (right : AreRight version end before) where
  pub names-signal : (x : SignalId) → x.0 < signals_in before → NamesSignal before x (signal_name (texts_of (before ++ rest)) x)
  names-signal x h =
      let none : (n : ℕ) → n < 0 → KnownSignal [] n = λ (n : ℕ) (h : n < 0). absurd (omega arith) in
      let k = signals-from version end [] before right none x.0 h in
      let told : signal_name (texts_of (before ++ rest)) x ≡ k.name = told-from k.name [] before rest (decl.Signal x k.range) k.found in
      subst (NamesSignal before x) (sym told) (record { spelled = spelled-from k.name version end [] before (decl.Signal x k.range) right k.found; range = k.range; found = k.found })

  pub names-beacon : (place : ℕ) → place < beacons_in before → NamesBeacon before place (beacon_name (texts_of (before ++ rest)) (Some place))
  names-beacon place h =
      let none : (n : ℕ) → n < 0 → KnownBeacon [] n = λ (n : ℕ) (h : n < 0). absurd (omega arith) in
      let k = beacons-from version end [] before right none place h in
      let d = decl.Beacon place k.first k.x k.y in
      let told : TellsBeacon (before ++ rest) k.name place k.first.0 = told-from k.name [] before rest d k.found in
      subst (NamesBeacon before place) (sym told.own) (record { spelled = spelled-from k.name version end [] before d right k.found; declared_as = d; found = k.found; stands = refl })

  -- what a reference stands for is told by its text
  together-of : (name : List ℕ) (d : Decl) (p : Part) (v : VarId) → variable_of d p ≡ Some v → Tells (before ++ rest) name d → variable_name (texts_of (before ++ rest)) v ≡ reference_text name p
  together-of name (decl.Signal id range) p v e told = cc e
  together-of name (decl.Variable id range) part.Whole v e told = let same : id ≡ v = cc e in subst (λ (w : VarId). variable_name (texts_of (before ++ rest)) w ≡ reference_text name part.Whole) same told
  together-of name (decl.Variable id range) part.X v e told = cc e
  together-of name (decl.Variable id range) part.Y v e told = cc e
  together-of name (decl.Beacon place first x y) part.Whole v e told = cc e
  together-of name (decl.Beacon place first x y) part.X v e told = let same : first ≡ v = cc e in subst (λ (w : VarId). variable_name (texts_of (before ++ rest)) w ≡ reference_text name part.X) same told.x
  together-of name (decl.Beacon place first x y) part.Y v e told =
      let next : VarId = record { 0 = first.0 + 1 } in
      let same : next ≡ v = cc e in
      subst (λ (w : VarId). variable_name (texts_of (before ++ rest)) w ≡ reference_text name part.Y) same told.y

  pub names-variable : (v : VarId) → IsNamed before v → NamesVariable before v (variable_name (texts_of (before ++ rest)) v)
  names-variable v named = record {
    name = named.name;
    part = named.part;
    spelled = spelled-from named.name version end [] before named.declared_as right named.found;
    together = together-of named.name named.declared_as named.part v named.stands (told-from named.name [] before rest named.declared_as named.found);
    declared_as = named.declared_as;
    found = named.found;
    stands = named.stands;
  }
