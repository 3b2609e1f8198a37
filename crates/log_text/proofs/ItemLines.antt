-- The line of each record is read as its fields.
use Rattle.std.proofs.Common.{◌≡◌, ℕ, ◌<◌, ◌≤◌, List, [], ◌∷◌, ◌++◌, Option, Some, None, inl, inr, refl, sym, subst, arith, ℤ, pos, map, append_assoc}
use Rattle.std.specs.Prelude.{All, unsigned_abs, codes}
use Rattle.std.specs.Fmt.{signed_decimal}
use Rattle.std.proofs.lemmas.List.Elements.{All-head, All-tail}
use Rattle.csv_rows.specs.Lines.{AllBare, IsBare}
use Rattle.csv_rows.specs.Records.{records_of}
use Rattle.tube_spec.specs.Span.{Span}
use Rattle.tube_store.specs.declared.SignalId.{SignalId}
use Rattle.tube_store.specs.declared.VarId.{VarId}
use Rattle.expr_tree.specs.Trees.{Relation}
use Rattle.expr_text.specs.Canonical.{relation_text}
use Rattle.expr_text.specs.Spellable.{IsPrintable}
use Rattle.formula_text.specs.Laws.{IsFieldText}
use Rattle.mission_items.specs.Made.{signals_in}
use Rattle.mission_items.specs.Names.{IsNamed}
use Rattle.mission_items.specs.Valid.{AreRadii, AreRight, AreRightFrom, IsClock, IsMark, IsMission, IsRange, IsRight}
use Rattle.mission_items.specs.declared.item.Item.{Item}
use Rattle.mission_items.specs.declared.item.Item.TheVariants as item
use Rattle.mission_items.specs.declared.mission.Mission.{Mission}
use Rattle.log_text.specs.NameTexts.{beacon_name, signal_name, texts_of, variable_name}
use Rattle.log_text.specs.Laws.{AreNamed}
use Rattle.log_text.specs.Records.{count, record_with}
use Rattle.log_text.specs.Texts.{item_line, item_record, log_records, log_text}
use Rattle.log_text.specs.Written.{quoted}
use Rattle.log_text.proofs.Bare.{name_bare, number_bare, reference_bare}
use Rattle.log_text.proofs.Known.{names-beacon, names-signal, names-variable}
use Rattle.log_text.proofs.Lines.{AreLines, IsLine, lines_read, plain_line, quoted_line}
use Rattle.log_text.proofs.ReadFields.{radii-small, range-small}

-- a field can hold the text of any formula that is printed
abbrev pub AreFieldTexts : Type 0
AreFieldTexts = (r : Relation) → IsPrintable r → IsFieldText (relation_text r)

-- ---- bare numbers

count_bare : (n : ℕ) → n ≤ 100000 → IsBare (count n)
count_bare n h = let few : unsigned_abs (pos n) < 1000000000000000000 = omega arith in number_bare (pos n) few

-- fields that end a record
bounds_bare : (range : Span) → IsRange range → AllBare (signed_decimal range.lo ∷ signed_decimal range.hi ∷ [])
bounds_bare range is = let small = range-small range is in (number_bare range.lo small.0, (number_bare range.hi small.1, tt))

radii_bare : (near far : ℤ) → AreRadii near far → IsBare (signed_decimal near) × IsBare (signed_decimal far)
radii_bare near far is = let small = radii-small near far is.0 is.1 is.2 in (number_bare near small.0, number_bare far small.1)

-- ---- the records before are right

pub right-front : (version end : ℕ) (before xs ys : List Item) → AreRightFrom version end before (xs ++ ys) → AreRightFrom version end before xs
right-front version end before [] ys h = tt
right-front version end before (x ∷ xs) ys h = (h.0, h.1, right-front version end (before ++ x ∷ []) xs ys h.2)

-- ---- one record

module _ (texts : AreFieldTexts) (m : Mission) (clock : IsClock m.version m.ticks m.width m.cuts m.items) (before rest : List Item) (right : AreRight m.version m.ticks before) where
  signal_bare : (x : SignalId) → x.0 < signals_in before → IsBare (signal_name (texts_of (before ++ rest)) x)
  signal_bare x h = name_bare (signal_name (texts_of (before ++ rest)) x) (names-signal m.version m.ticks before rest right x h).spelled

  variable_bare : (v : VarId) → IsNamed before v → IsBare (variable_name (texts_of (before ++ rest)) v)
  variable_bare v named =
      let k = names-variable m.version m.ticks before rest right v named in
      subst IsBare (sym k.together) (reference_bare k.name k.part k.spelled)

  variables_bare : (vs : List VarId) → All (IsNamed before) vs → AllBare (map (variable_name (texts_of (before ++ rest))) vs)
  variables_bare [] named = tt
  variables_bare (v ∷ vs) named = (variable_bare v (All-head (IsNamed before) v vs named), variables_bare vs (All-tail (IsNamed before) v vs named))

  beacon_bare : (beacon : Option ℕ) → IsMark before beacon → IsBare (beacon_name (texts_of (before ++ rest)) beacon)
  beacon_bare None h = refl
  beacon_bare (Some place) h = name_bare (beacon_name (texts_of (before ++ rest)) (Some place)) (names-beacon m.version m.ticks before rest right place h).spelled

  tick_bare : (n : ℕ) → n ≤ m.ticks → IsBare (count n)
  tick_bare n h = let few : n ≤ 100000 = omega (arith, clock.few_ticks) in count_bare n few

  pub item-line : (i : Item) → IsRight m.version m.ticks before i → IsLine (item_line (texts_of (before ++ rest)) m i) (item_record (texts_of (before ++ rest)) m i)
  item-line item.Head h =
      let version : m.version ≤ 100000 = elim clock.known_version [ inl e ↦ omega arith | inr e ↦ omega arith ] in
      plain_line (record_with quoted (texts_of (before ++ rest)) m item.Head) (omega arith, omega arith, refl, (count_bare m.version version, (count_bare m.ticks clock.few_ticks, (count_bare m.width clock.small_width, tt))))
  item-line item.Note h = plain_line (record_with quoted (texts_of (before ++ rest)) m item.Note) (omega arith, omega arith, refl, tt)
  item-line (item.Cut tick) h = plain_line (record_with quoted (texts_of (before ++ rest)) m (item.Cut tick)) (omega arith, omega arith, refl, (tick_bare tick h.1, tt))
  item-line (item.Signal name range) h = plain_line (record_with quoted (texts_of (before ++ rest)) m (item.Signal name range)) (omega arith, omega arith, refl, (name_bare name h.0.0, bounds_bare range h.1))
  item-line (item.Variable name range) h = plain_line (record_with quoted (texts_of (before ++ rest)) m (item.Variable name range)) (omega arith, omega arith, refl, (name_bare name h.0.0, bounds_bare range h.1))
  item-line (item.Beacon name x y) h =
      let bx = bounds_bare x h.1 in
      plain_line (record_with quoted (texts_of (before ++ rest)) m (item.Beacon name x y)) (omega arith, omega arith, refl, (name_bare name h.0.0, (bx.0, (bx.1.0, bounds_bare y h.2))))
  item-line (item.Deriv x rate) h = plain_line (record_with quoted (texts_of (before ++ rest)) m (item.Deriv x rate)) (omega arith, omega arith, refl, (signal_bare x h.0, (signal_bare rate h.1, tt)))
  item-line (item.Bound x first last range) h =
      let start : first ≤ m.ticks = omega (arith, h.1.0, h.1.1) in
      plain_line (record_with quoted (texts_of (before ++ rest)) m (item.Bound x first last range)) (omega arith, omega arith, refl, (signal_bare x h.0, (tick_bare first start, (tick_bare last h.1.1, bounds_bare range h.2))))
  item-line (item.At x tick range) h = plain_line (record_with quoted (texts_of (before ++ rest)) m (item.At x tick range)) (omega arith, omega arith, refl, (signal_bare x h.0, (tick_bare tick h.1, bounds_bare range h.2)))
  item-line (item.Eval x t z) h = plain_line (record_with quoted (texts_of (before ++ rest)) m (item.Eval x t z)) (omega arith, omega arith, refl, (signal_bare x h.0, variables_bare (t ∷ z ∷ []) h.1.0))
  item-line (item.Delay x y tau) h = plain_line (record_with quoted (texts_of (before ++ rest)) m (item.Delay x y tau)) (omega arith, omega arith, refl, (signal_bare x h.0.0, (signal_bare y h.0.1, (variable_bare tau h.1, tt))))
  item-line (item.Dist2 near far p b) h =
      let radii = radii_bare near far h.0 in
      plain_line (record_with quoted (texts_of (before ++ rest)) m (item.Dist2 near far p b)) (omega arith, omega arith, refl, (radii.0, (radii.1, variables_bare (p ++ b) h.1.0)))
  item-line (item.Dist3 near far p b) h =
      let radii = radii_bare near far h.0 in
      plain_line (record_with quoted (texts_of (before ++ rest)) m (item.Dist3 near far p b)) (omega arith, omega arith, refl, (radii.0, (radii.1, variables_bare (p ++ b) h.1.0)))
  item-line (item.Constell p) h = plain_line (record_with quoted (texts_of (before ++ rest)) m (item.Constell p)) (omega arith, omega arith, refl, variables_bare p h.0.0)
  item-line (item.Ping x y first last beacon near far) h =
      let start : first ≤ m.ticks = omega (arith, h.1.0, h.1.1) in
      let radii = radii_bare near far h.4 in
      plain_line (record_with quoted (texts_of (before ++ rest)) m (item.Ping x y first last beacon near far))
      (omega arith, omega arith, refl, (signal_bare x h.0.0, (signal_bare y h.0.1, (tick_bare first start, (tick_bare last h.1.1, (beacon_bare beacon h.3, (radii.0, (radii.1, tt))))))))
  item-line (item.Each formula ls) h = quoted_line 101 (codes "xpr") (relation_text formula) (omega arith) refl (texts formula h.printable).no_quote
  item-line (item.Single formula ls) h = quoted_line 101 (codes "xprv") (relation_text formula) (omega arith) refl (texts formula h.0.printable).no_quote
  item-line (item.Revisit q) h =
      let radii = radii_bare (pos 0) q.radius h.radius in
      plain_line (record_with quoted (texts_of (before ++ rest)) m (item.Revisit q)) (omega arith, omega arith, refl, (signal_bare q.x h.signals.0, (signal_bare q.y h.signals.1, (radii.1, (count_bare q.gap h.small_gap, tt)))))
  item-line item.Settle h = plain_line (record_with quoted (texts_of (before ++ rest)) m item.Settle) (omega arith, omega arith, refl, tt)

-- ---- all records

items-lines : AreFieldTexts → (m : Mission) → IsClock m.version m.ticks m.width m.cuts m.items → (before items : List Item) → AreRight m.version m.ticks (before ++ items) → AreRightFrom m.version m.ticks before items
    → AreLines (item_line (texts_of (before ++ items)) m) (item_record (texts_of (before ++ items)) m) items
items-lines texts m clock before [] whole right = tt
items-lines texts m clock before (i ∷ items) whole right =
    let same = append_assoc before (i ∷ []) items in (
      item-line texts m clock before (i ∷ items) (right-front m.version m.ticks [] before (i ∷ items) whole) i right.1,
      subst (λ (all : List Item). AreLines (item_line (texts_of all) m) (item_record (texts_of all) m) items) same
          (items-lines texts m clock (before ++ i ∷ []) items (subst (AreRight m.version m.ticks) (sym same) whole) right.2),
    )

-- the records of the text of an accepted mission
pub text-records : AreFieldTexts → (m : Mission) → IsMission m → records_of (log_text m) ≡ log_records m
text-records texts m is = lines_read (item_line (texts_of m.items) m) (item_record (texts_of m.items) m) m.items (items-lines texts m is.clock [] m.items is.right is.right)

-- ---- names

pub names-right : (m : Mission) (before rest : List Item) → IsMission m → m.items ≡ before ++ rest → AreNamed before (texts_of m.items)
names-right m before rest is same =
    let right = right-front m.version m.ticks [] before rest (subst (AreRight m.version m.ticks) same is.right) in
    subst (λ (items : List Item). AreNamed before (texts_of items)) (sym same) (record {
      signals = names-signal m.version m.ticks before rest right;
      variables = names-variable m.version m.ticks before rest right;
      beacons = names-beacon m.version m.ticks before rest right;
    })
