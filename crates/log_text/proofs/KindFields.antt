-- The fields of each kind of record are read as what they were made of.
use Rattle.std.proofs.Common.{◌≡◌, ℕ, ◌+◌, ◌<◌, ◌≤◌, nat_le, true, false, cond, List, [], ◌∷◌, Option, Some, None, Ok, Err, length, refl, sym, ap, subst, ◌∙◌, inl, inr, ◌⊎◌, arith, ℤ, pos, ◌≤ℤ◌}
use Rattle.std.specs.Prelude.{decimal, unsigned_abs, codes, bytes_eq}
use Rattle.std.specs.Fmt.{signed_decimal}
use Rattle.std.proofs.lemmas.Bool.{cases_Bool}
use Rattle.std.proofs.lemmas.Fmt.{decimal_by_steps}
use Rattle.std.proofs.lemmas.Int.{ints}
use Rattle.std.proofs.lemmas.Slice.Eq.{bytes_eq-Decides}
use Rattle.csv.specs.Records.{field_at}
use Rattle.csv_rows.specs.Records.{Record}
use Rattle.tube_spec.specs.Span.{Span}
use Rattle.tube_store.specs.declared.VarId.{VarId}
use Rattle.log_spelling.specs.Blanks.{trimmed}
use Rattle.log_spelling.specs.Names.{is_name}
use Rattle.log_spelling.proofs.Solid.{name_trimmed}
use Rattle.log_fields.specs.Fields.{IsRange, beacon_at, field, version_at, version_of, number_at, reference_at}
use Rattle.log_fields.specs.Kinds.{at_fields, beacon_fields, bound_fields, constell_fields, cut_fields, declared_fields, delay_fields, deriv_fields, eval_fields, mission_fields, ping_fields, range3_fields, range_fields, revisit_fields, settle_fields, text_fields}
use Rattle.log_fields.specs.Steps.{found_or}
use Rattle.log_fields.specs.declared.fault.Cause.TheVariants as cause
use Rattle.mission_items.specs.Valid.{AreRadii}
use Rattle.mission_items.specs.declared.item.Item.{Item}
use Rattle.log_text.specs.Named.{NamesVariable}
use Rattle.log_text.specs.Records.{count}
use Rattle.log_text.proofs.ReadFields.{count-is, field-is, name-is, number-is, radii-is, radius-is, radii-small, range-is, range_of-is, range-small, reference-is}

-- a tick, a width or a gap has few digits
few_digits : (n : ℕ) → n ≤ 100000 → unsigned_abs (pos n) < 1000000000000000000
few_digits n h = omega arith

pub count_at : (r : Record) (i n : ℕ) → field_at r i ≡ Some (count n) → n ≤ 100000 → number_at r i ≡ Ok (pos n)
count_at r i n e h = number-is r i (pos n) e (few_digits n h)

-- ---- the clock

version_by : (r : Record) (text : List ℕ) (version : ℕ) → length r ≡ 4 → field_at r 1 ≡ Some text → trimmed text ≡ text → version_of text ≡ Some version → version_at r ≡ Ok version
unfolding version_at
version_by r text version size e t v =
    ap (λ (n : ℕ). cond (nat_le n 1) (Err cause.Fields) (found_or (version_of (field r 1)) cause.Version)) size
    ∙ (ap (λ (f : List ℕ). found_or (version_of f) cause.Version) (field-is r 1 text e t) ∙ ap (λ (o : Option ℕ). found_or o cause.Version) v)

-- one digit
one_digit : (n : ℕ) → n < 10 → decimal n ≡ (48 + n) ∷ []
one_digit n h =
    let P : ℕ → List ℕ → Type 0 = λ n ds. n < 10 → ds ≡ (48 + n) ∷ [] in
    decimal_by_steps P (λ n small less. refl) (λ n ds large rest small. absurd (omega arith)) n (omega arith) h

version_read : (r : Record) (version : ℕ) → length r ≡ 4 → field_at r 1 ≡ Some (count version) → (version ≡ 1) ⊎ (version ≡ 2) → version_at r ≡ Ok version
version_read r version size e known = elim known [
  | inl one ↦ subst (λ (n : ℕ). version_at r ≡ Ok n) (sym one) (version_by r (codes "1") 1 size (e ∙ ap (λ (n : ℕ). Some (count n)) one ∙ ap (λ (ds : List ℕ). Some ds) (one_digit 1 (omega arith))) refl refl)
  | inr two ↦ subst (λ (n : ℕ). version_at r ≡ Ok n) (sym two) (version_by r (codes "2") 2 size (e ∙ ap (λ (n : ℕ). Some (count n)) two ∙ ap (λ (ds : List ℕ). Some ds) (one_digit 2 (omega arith))) refl refl)
]

pub mission_read : (w : List ℕ) (version ticks width : ℕ) → (version ≡ 1) ⊎ (version ≡ 2) → 1 ≤ ticks → ticks ≤ 100000 → 1 ≤ width → width ≤ 100000
    → mission_fields (w ∷ count version ∷ count ticks ∷ count width ∷ []) ≡ Ok (version, ticks, width)
unfolding mission_fields field_at
mission_read w version ticks width known t1 t2 w1 w2 =
    let r = w ∷ count version ∷ count ticks ∷ count width ∷ [] in
    rw (version_read r version refl refl known, count_at r 2 ticks refl t2, count_at r 3 width refl w2, count-is ticks t1 t2, count-is width w1 w2) refl

pub cut_read : (w : List ℕ) (tick : ℕ) → tick ≤ 100000 → cut_fields (w ∷ count tick ∷ []) ≡ Ok (pos tick)
unfolding cut_fields field_at
cut_read w tick h = count_at (w ∷ count tick ∷ []) 1 tick refl h

-- ---- declarations

pub declared_read : (w name : List ℕ) (range : Span) → is_name name ≡ true → IsRange range → declared_fields (w ∷ name ∷ signed_decimal range.lo ∷ signed_decimal range.hi ∷ []) ≡ Ok (name, range)
unfolding declared_fields field_at
declared_read w name range h is =
    let r = w ∷ name ∷ signed_decimal range.lo ∷ signed_decimal range.hi ∷ [] in
    rw (name-is r 1 name refl h, range-is r 2 range is refl refl) refl

pub beacon_read : (w name : List ℕ) (x y : Span) → is_name name ≡ true → IsRange x → IsRange y
    → beacon_fields (w ∷ name ∷ signed_decimal x.lo ∷ signed_decimal x.hi ∷ signed_decimal y.lo ∷ signed_decimal y.hi ∷ []) ≡ Ok (name, x, y)
unfolding beacon_fields field_at
beacon_read w name x y h isx isy =
    let r = w ∷ name ∷ signed_decimal x.lo ∷ signed_decimal x.hi ∷ signed_decimal y.lo ∷ signed_decimal y.hi ∷ [] in
    let sx = range-small x isx in
    let sy = range-small y isy in
    rw (name-is r 1 name refl h, number-is r 2 x.lo refl sx.0, number-is r 3 x.hi refl sx.1, number-is r 4 y.lo refl sy.0, number-is r 5 y.hi refl sy.1, range_of-is x isx, range_of-is y isy) refl

-- ---- signals

pub deriv_read : (w x rate : List ℕ) → is_name x ≡ true → is_name rate ≡ true → deriv_fields (w ∷ x ∷ rate ∷ []) ≡ Ok (x, rate)
unfolding deriv_fields field_at
deriv_read w x rate h k =
    let r = w ∷ x ∷ rate ∷ [] in
    rw (name-is r 1 x refl h, name-is r 2 rate refl k) refl

pub bound_read : (w x : List ℕ) (first last : ℕ) (range : Span) → is_name x ≡ true → first ≤ 100000 → last ≤ 100000 → IsRange range
    → bound_fields (w ∷ x ∷ count first ∷ count last ∷ signed_decimal range.lo ∷ signed_decimal range.hi ∷ []) ≡ Ok (x, pos first, pos last, range)
unfolding bound_fields field_at
bound_read w x first last range h f l is =
    let r = w ∷ x ∷ count first ∷ count last ∷ signed_decimal range.lo ∷ signed_decimal range.hi ∷ [] in
    rw (name-is r 1 x refl h, count_at r 2 first refl f, count_at r 3 last refl l, range-is r 4 range is refl refl) refl

pub at_read : (w x : List ℕ) (tick : ℕ) (range : Span) → is_name x ≡ true → tick ≤ 100000 → IsRange range
    → at_fields (w ∷ x ∷ count tick ∷ signed_decimal range.lo ∷ signed_decimal range.hi ∷ []) ≡ Ok (x, pos tick, range)
unfolding at_fields field_at
at_read w x tick range h t is =
    let r = w ∷ x ∷ count tick ∷ signed_decimal range.lo ∷ signed_decimal range.hi ∷ [] in
    rw (name-is r 1 x refl h, count_at r 2 tick refl t, range-is r 3 range is refl refl) refl

module _ (before : List Item) where
  pub variable_at : (r : Record) (i : ℕ) (v : VarId) (text : List ℕ) → field_at r i ≡ Some text → (k : NamesVariable before v text) → reference_at r i ≡ Ok (k.name, k.part)
  variable_at r i v text e k = reference-is r i k.name k.part (e ∙ ap (λ (t : List ℕ). Some t) k.together) k.spelled

  pub eval_read : (w x a b : List ℕ) (t z : VarId) → is_name x ≡ true → (k : NamesVariable before t a) → (l : NamesVariable before z b) → eval_fields (w ∷ x ∷ a ∷ b ∷ []) ≡ Ok (x, (k.name, k.part), (l.name, l.part))
  unfolding eval_fields field_at
  eval_read w x a b t z h k l =
      let r = w ∷ x ∷ a ∷ b ∷ [] in
      rw (name-is r 1 x refl h, variable_at r 2 t a refl k, variable_at r 3 z b refl l) refl

  pub delay_read : (w x y a : List ℕ) (tau : VarId) → is_name x ≡ true → is_name y ≡ true → (k : NamesVariable before tau a) → delay_fields (w ∷ x ∷ y ∷ a ∷ []) ≡ Ok (x, y, (k.name, k.part))
  unfolding delay_fields field_at
  delay_read w x y a tau h g k =
      let r = w ∷ x ∷ y ∷ a ∷ [] in
      rw (name-is r 1 x refl h, name-is r 2 y refl g, variable_at r 3 tau a refl k) refl

  -- ---- points

  pub range_read : (w : List ℕ) (near far : ℤ) (a b c d : List ℕ) (p q s t : VarId) → AreRadii near far → (k : NamesVariable before p a) → (l : NamesVariable before q b) → (m : NamesVariable before s c) → (n : NamesVariable before t d)
      → range_fields (w ∷ signed_decimal near ∷ signed_decimal far ∷ a ∷ b ∷ c ∷ d ∷ []) ≡ Ok (near, far, (k.name, k.part) ∷ (l.name, l.part) ∷ (m.name, m.part) ∷ (n.name, n.part) ∷ [])
  unfolding range_fields field_at
  range_read w near far a b c d p q s t radii k l m n =
      let r = w ∷ signed_decimal near ∷ signed_decimal far ∷ a ∷ b ∷ c ∷ d ∷ [] in
      rw (variable_at r 3 p a refl k, variable_at r 4 q b refl l, variable_at r 5 s c refl m, variable_at r 6 t d refl n, radii-is r 1 near far radii.0 radii.1 radii.2 refl refl) refl

  pub range3_read : (w : List ℕ) (near far : ℤ) (a b c d e f : List ℕ) (p q s t u v : VarId) → AreRadii near far → (k : NamesVariable before p a) → (l : NamesVariable before q b) → (m : NamesVariable before s c)
      → (n : NamesVariable before t d) → (o : NamesVariable before u e) → (z : NamesVariable before v f)
      → range3_fields (w ∷ signed_decimal near ∷ signed_decimal far ∷ a ∷ b ∷ c ∷ d ∷ e ∷ f ∷ [])
      ≡ Ok (near, far, (k.name, k.part) ∷ (l.name, l.part) ∷ (m.name, m.part) ∷ (n.name, n.part) ∷ (o.name, o.part) ∷ (z.name, z.part) ∷ [])
  unfolding range3_fields field_at
  range3_read w near far a b c d e f p q s t u v radii k l m n o z =
      let r = w ∷ signed_decimal near ∷ signed_decimal far ∷ a ∷ b ∷ c ∷ d ∷ e ∷ f ∷ [] in
      rw (variable_at r 3 p a refl k, variable_at r 4 q b refl l, variable_at r 5 s c refl m, variable_at r 6 t d refl n, variable_at r 7 u e refl o, variable_at r 8 v f refl z, radii-is r 1 near far radii.0 radii.1 radii.2 refl refl) refl

  pub constell_read : (w a b : List ℕ) (p q : VarId) → (k : NamesVariable before p a) → (l : NamesVariable before q b) → constell_fields (w ∷ a ∷ b ∷ []) ≡ Ok ((k.name, k.part), (l.name, l.part))
  unfolding constell_fields field_at
  constell_read w a b p q k l =
      let r = w ∷ a ∷ b ∷ [] in
      rw (variable_at r 1 p a refl k, variable_at r 2 q b refl l) refl

-- ---- pings

-- the name of a beacon, or `?`
abbrev pub mark_text : Option (List ℕ) → List ℕ
mark_text None = codes "?"
mark_text (Some name) = name

abbrev pub IsMarkName : Option (List ℕ) → Type 0
IsMarkName None = Unit {0}
IsMarkName (Some name) = is_name name ≡ true

no_mark : (name : List ℕ) → is_name name ≡ true → bytes_eq name (codes "?") ≡ false
no_mark name h = elim (cases_Bool (bytes_eq name (codes "?"))) [
  | inl same ↦ let no : is_name (codes "?") ≡ true = subst (λ (n : List ℕ). is_name n ≡ true) ((bytes_eq-Decides name (codes "?")).0 same) h in cc no
  | inr other ↦ other
]

mark_at : (r : Record) (i : ℕ) (mark : Option (List ℕ)) → field_at r i ≡ Some (mark_text mark) → IsMarkName mark → beacon_at r i ≡ Ok mark
unfolding beacon_at
mark_at r i None e h = ap (λ (f : List ℕ). cond (bytes_eq f (codes "?")) (Ok None) (cond (is_name f) (Ok (Some f)) (Err cause.Name))) (field-is r i (codes "?") e refl)
mark_at r i (Some name) e h =
    ap (λ (f : List ℕ). cond (bytes_eq f (codes "?")) (Ok None) (cond (is_name f) (Ok (Some f)) (Err cause.Name))) (field-is r i name e (name_trimmed name h))
    ∙ rw (no_mark name h, h) refl

pub ping_read : (w x y : List ℕ) (first last : ℕ) (mark : Option (List ℕ)) (near far : ℤ) → is_name x ≡ true → is_name y ≡ true → first ≤ 100000 → last ≤ 100000 → IsMarkName mark → AreRadii near far
    → ping_fields (w ∷ x ∷ y ∷ count first ∷ count last ∷ mark_text mark ∷ signed_decimal near ∷ signed_decimal far ∷ []) ≡ Ok (x, y, pos first, pos last, mark, near, far)
unfolding ping_fields field_at
ping_read w x y first last mark near far h k f l m radii =
    let r = w ∷ x ∷ y ∷ count first ∷ count last ∷ mark_text mark ∷ signed_decimal near ∷ signed_decimal far ∷ [] in
    rw (name-is r 1 x refl h, name-is r 2 y refl k, mark_at r 5 mark refl m, count_at r 3 first refl f, count_at r 4 last refl l, radii-is r 6 near far radii.0 radii.1 radii.2 refl refl) refl

-- ---- texts, questions and sections

pub text_read : (w text : List ℕ) → trimmed text ≡ text → text_fields (w ∷ text ∷ []) ≡ Ok text
unfolding text_fields field_at
text_read w text t = ap (λ (f : List ℕ). Ok f) t

pub revisit_read : (w x y : List ℕ) (radius : ℤ) (gap : ℕ) → is_name x ≡ true → is_name y ≡ true → pos 0 ≤ℤ radius → radius ≤ℤ pos 2000000000 → 1 ≤ gap → gap ≤ 100000
    → revisit_fields (w ∷ x ∷ y ∷ signed_decimal radius ∷ count gap ∷ []) ≡ Ok (x, y, radius, gap)
unfolding revisit_fields field_at
revisit_read w x y radius gap h k zero most g1 g2 =
    let r = w ∷ x ∷ y ∷ signed_decimal radius ∷ count gap ∷ [] in
    let small = radii-small (pos 0) radius (omega (arith, ints)) zero most in
    rw (name-is r 1 x refl h, name-is r 2 y refl k, number-is r 3 radius refl small.1, count_at r 4 gap refl g2, radius-is radius zero most, count-is gap g1 g2) refl

pub settle_read : (w : List ℕ) → settle_fields (w ∷ []) ≡ Ok tt
unfolding settle_fields
settle_read w = refl
