-- The table of records and one more.
use Rattle.std.proofs.Common.{◌≡◌, ℕ, zero, suc, ◌<◌, ◌≤◌, Bool, cond, List, [], ◌∷◌, ◌++◌, Option, Some, None, refl, sym, ap, ap₂, subst, ◌∙◌, arith, length, map, append-nil, append_assoc, ℤ, pos, replicate, inl, inr, get_or-set_same, get_or-set_other}
use Rattle.std.specs.Prelude.{slice_index_or, slice_set, is_some, IsSome, Result, Ok, Err, OnOk}
use Rattle.ctc_eval.specs.Held.{rate_of}
use Rattle.std.proofs.Math.ListN.{length-set}
use Rattle.std.proofs.lemmas.Bool.{eq-eqb}
use Rattle.std.proofs.lemmas.Bool.Decides.{eqb_tells}
use Rattle.std.proofs.lemmas.Int.{ints, clamps}
use Rattle.tube_spec.specs.Span.{Span, point, join_of}
use Rattle.tube_store.specs.declared.SignalId.{SignalId}
use Rattle.mission_items.specs.declared.item.Item.{Item}
use Rattle.mission_items.specs.declared.item.Item.TheVariants as item
use Rattle.mission_items.specs.Made.{beacon_made, beacon_ranges, beacons_in, hull_of, mark_x, mark_y, ranges_made, rate_in, signal_made, signal_ranges, ticks_from, variable_ranges, variables_in}
use Rattle.mission_items.proofs.Making.{beacon_ranges-last, length-beacon_ranges, length-variable_ranges, rate_in-append, rate_in-kept, rate_or, signal_ranges-last, variable_ranges-last}
use Rattle.mission_net.specs.Records.{mark_of, marks_in, point_at}
use Rattle.mission_net.specs.Tables.{hull_with, hulls_of, rate_at, rates_with, IsTableOf, Table}
use Rattle.mission_net.proofs.Beacons.{marks_in-last}

-- ---- hulls with one more beacon

join-assoc : (a b c : Span) → join_of a (join_of b c) ≡ join_of (join_of a b) c
join-assoc a b c =
    ap₂ (λ (lo hi : _). record { lo = lo; hi = hi }) (omega (arith, ints, clamps)) (omega (arith, ints, clamps))

hull-last : (s t : Span) (more : List Span) → hull_of (s ∷ (more ++ t ∷ [])) ≡ join_of (hull_of (s ∷ more)) t
hull-last s t [] = refl
hull-last s t (u ∷ more) = ap (join_of s) (hull-last u t more) ∙ join-assoc s (hull_of (u ∷ more)) t

map-last : (f : (Span × Span) → Span) (bs : List (Span × Span)) (b : Span × Span) → map f (bs ++ b ∷ []) ≡ map f bs ++ f b ∷ []
map-last f [] b = refl
map-last f (c ∷ bs) b = ap (λ (l : List Span). f c ∷ l) (map-last f bs b)

hulls-last : (bs : List (Span × Span)) (x y : Span) → hulls_of (bs ++ (x, y) ∷ []) ≡ hull_with (hulls_of bs) x y
hulls-last [] x y = refl
hulls-last (b ∷ bs) x y =
    ap₂ (λ (s t : Span). Some (s, t))
    (ap (λ (l : List Span). hull_of (b.0 ∷ l)) (map-last (λ b. b.0) bs (x, y)) ∙ hull-last b.0 x (map (λ b. b.0) bs))
    (ap (λ (l : List Span). hull_of (b.1 ∷ l)) (map-last (λ b. b.1) bs (x, y)) ∙ hull-last b.1 y (map (λ b. b.1) bs))

-- where a beacon stands, the hulls are those of the marks
hulls-some : (before : List Item) → 1 ≤ beacons_in before → hulls_of (beacon_ranges before) ≡ Some (mark_x before, mark_y before)
hulls-some before some = at (beacon_ranges before) (omega (arith, some, length-beacon_ranges before)) where
  at : (bs : List (Span × Span)) → 1 ≤ length bs → hulls_of bs ≡ Some (hull_of (map (λ b. b.0) bs), hull_of (map (λ b. b.1) bs))
  at [] h = absurd (omega (arith, h))
  at (b ∷ bs) h = refl

pub hull-some : (t : Table) (before : List Item) → IsTableOf t before → 1 ≤ beacons_in before → t.hull ≡ Some (mark_x before, mark_y before)
hull-some t before is some = is.hull ∙ hulls-some before some

-- ---- rates with one more

-- a signal that has a rate keeps it, and so does another
rate-kept : (o : Option ℕ) (x rate y : ℕ) → (y ≡ x → IsSome o) → rate_or o (item.Deriv (record { 0 = x }) (record { 0 = rate }) ∷ []) y ≡ o
rate-kept (Some first) x rate y h = refl
rate-kept None x rate y h = elim (eqb_tells y x) [
  | inl p ↦ absurd (none-some (h p.1))
  | inr p ↦ ap (λ (t : Bool). cond t (Some rate) None) p.0
] where
  none-some : IsSome {T = ℕ} None → ⊥
  none-some e = cc e

rate-new : (o : Option ℕ) (x rate y : ℕ) → o ≡ None → y ≡ x → Some rate ≡ rate_or o (item.Deriv (record { 0 = x }) (record { 0 = rate }) ∷ []) y
rate-new None x rate y none same = sym (ap (λ (t : Bool). cond t (Some rate) None) (eq-eqb y x same))
rate-new (Some first) x rate y none same = cc none

rates-with : (rates : List (Option ℕ)) (x rate y : ℕ) (o : Option ℕ) → length rates ≡ 64 → x < 64 → slice_index_or rates x None ≡ o
    → slice_index_or (rates_with rates x rate o) y None ≡ rate_or (slice_index_or rates y None) (item.Deriv (record { 0 = x }) (record { 0 = rate }) ∷ []) y
rates-with rates x rate y None size inside e = elim (eqb_tells y x) [
  | inl p ↦
      let here : x < length rates = omega (arith, inside, size) in
      ap (λ (k : ℕ). slice_index_or (slice_set rates x (Some rate)) k None) p.1 ∙ get_or-set_same rates x (Some rate) None here
      ∙ rate-new (slice_index_or rates y None) x rate y (ap (λ (k : ℕ). slice_index_or rates k None) p.1 ∙ e) p.1
  | inr p ↦ get_or-set_other rates x y (Some rate) None p.1 ∙ sym (rate-kept (slice_index_or rates y None) x rate y (λ same. absurd (p.1 same)))
]
rates-with rates x rate y (Some first) size inside e =
    sym (rate-kept (slice_index_or rates y None) x rate y (λ same. ap is_some (ap (λ (k : ℕ). slice_index_or rates k None) same ∙ e)))

-- ---- one more record

module _ (t : Table) (before : List Item) (is : IsTableOf t before) where
  -- a record that gives no rate leaves the rates
  kept : (r : Item) → ((x : ℕ) → rate_in (r ∷ []) x ≡ None) → (x : ℕ) → x < 64 → slice_index_or t.rates x None ≡ rate_in (before ++ r ∷ []) x
  kept r none x inside = is.rates x inside ∙ sym (rate_in-kept before r x (none x))

  signals-same : (r : Item) → signal_made r ≡ [] → t.signals ≡ signal_ranges (before ++ r ∷ [])
  signals-same r none = is.signals ∙ sym (signal_ranges-last before r ∙ ap (λ (l : List Span). signal_ranges before ++ l) none ∙ append-nil (signal_ranges before))

  variables-same : (r : Item) → ranges_made before r ≡ [] → t.variables ≡ variable_ranges (before ++ r ∷ [])
  variables-same r none = is.variables ∙ sym (variable_ranges-last before r ∙ ap (λ (l : List Span). variable_ranges before ++ l) none ∙ append-nil (variable_ranges before))

  variables-more : (r : Item) → t.variables ++ ranges_made before r ≡ variable_ranges (before ++ r ∷ [])
  variables-more r = ap (λ (l : List Span). l ++ ranges_made before r) is.variables ∙ sym (variable_ranges-last before r)

  marks-same : (r : Item) → mark_of before r ≡ [] → t.marks ≡ marks_in (before ++ r ∷ [])
  marks-same r none = is.marks ∙ sym (marks_in-last before r ∙ ap (λ (l : List (List ℕ)). marks_in before ++ l) none ∙ append-nil (marks_in before))

  hull-same : (r : Item) → beacon_made r ≡ [] → t.hull ≡ hulls_of (beacon_ranges (before ++ r ∷ []))
  hull-same r none = is.hull ∙ sym (ap hulls_of (beacon_ranges-last before r ∙ ap (λ (l : List (Span × Span)). beacon_ranges before ++ l) none ∙ append-nil (beacon_ranges before)))

  -- a record that makes nothing and gives no rate
  pub table-same : (r : Item) → signal_made r ≡ [] → ranges_made before r ≡ [] → mark_of before r ≡ [] → beacon_made r ≡ [] → ((x : ℕ) → rate_in (r ∷ []) x ≡ None) → IsTableOf t (before ++ r ∷ [])
  table-same r signals variables marks beacons rates = record {
    signals = signals-same r signals;
    variables = variables-same r variables;
    many = is.many;
    rates = kept r rates;
    marks = marks-same r marks;
    hull = hull-same r beacons;
  }

  -- a record that makes variables alone
  pub table-variables : (r : Item) (more : List Span) → ranges_made before r ≡ more → signal_made r ≡ [] → mark_of before r ≡ [] → beacon_made r ≡ [] → ((x : ℕ) → rate_in (r ∷ []) x ≡ None) → IsTableOf (record t { variables = t.variables ++ more }) (before ++ r ∷ [])
  table-variables r more e signals marks beacons rates = record {
    signals = signals-same r signals;
    variables = ap (λ (l : List Span). t.variables ++ l) (sym e) ∙ variables-more r;
    many = is.many;
    rates = kept r rates;
    marks = marks-same r marks;
    hull = hull-same r beacons;
  }

  pub table-signal : (name : List ℕ) (range : Span) → IsTableOf (record t { signals = t.signals ++ range ∷ [] }) (before ++ item.Signal name range ∷ [])
  table-signal name range =
      let r = item.Signal name range in record {
        signals = ap (λ (l : List Span). l ++ range ∷ []) is.signals ∙ sym (signal_ranges-last before r);
        variables = variables-same r refl;
        many = is.many;
        rates = kept r (λ x. refl);
        marks = marks-same r refl;
        hull = hull-same r refl;
      }

  pub table-beacon : (name : List ℕ) (x y : Span)
      → IsTableOf (record t { variables = t.variables ++ x ∷ y ∷ []; marks = t.marks ++ point_at (length t.variables) ∷ []; hull = hull_with t.hull x y }) (before ++ item.Beacon name x y ∷ [])
  table-beacon name x y =
      let r = item.Beacon name x y in
      let first : length t.variables ≡ variables_in before = ap length is.variables ∙ length-variable_ranges before in record {
        signals = signals-same r refl;
        variables = variables-more r;
        many = is.many;
        rates = kept r (λ x. refl);
        marks = ap₂ (λ (l : List (List ℕ)) (n : ℕ). l ++ point_at n ∷ []) is.marks first ∙ sym (marks_in-last before r);
        hull = ap (λ (h : Option (Span × Span)). hull_with h x y) is.hull ∙ sym (hulls-last (beacon_ranges before) x y) ∙ sym (ap hulls_of (beacon_ranges-last before r));
      }

  pub table-rate : (x rate : SignalId) → x.0 < 64 → IsTableOf (record t { rates = rates_with t.rates x.0 rate.0 (rate_at t x.0) }) (before ++ item.Deriv x rate ∷ [])
  table-rate x rate inside =
      let r = item.Deriv x rate in record {
        signals = signals-same r refl;
        variables = variables-same r refl;
        many = size (rate_at t x.0);
        rates = λ y small. rates-with t.rates x.0 rate.0 y (rate_at t x.0) is.many inside refl ∙ ap (λ (o : Option ℕ). rate_or o (r ∷ []) y) (is.rates y small) ∙ sym (rate_in-append before (r ∷ []) y);
        marks = marks-same r refl;
        hull = hull-same r refl;
      } where
        size : (o : Option ℕ) → length (rates_with t.rates x.0 rate.0 o) ≡ 64
        size None = length-set t.rates x.0 (Some rate.0) ∙ is.many
        size (Some first) = is.many

  -- a record that makes nothing and gives no rate, by what it is not
  pub table-rest : (r : Item) → ((name : List ℕ) (range : Span) → r ≡ item.Signal name range → ⊥) → ((name : List ℕ) (range : Span) → r ≡ item.Variable name range → ⊥)
      → ((name : List ℕ) (x y : Span) → r ≡ item.Beacon name x y → ⊥) → ((x rate : SignalId) → r ≡ item.Deriv x rate → ⊥) → ((x : SignalId) (tick : ℕ) (range : Span) → r ≡ item.At x tick range → ⊥)
      → ((x y : SignalId) (first last : ℕ) (beacon : Option ℕ) (near far : ℤ) → r ≡ item.Ping x y first last beacon near far → ⊥) → IsTableOf t (before ++ r ∷ [])
  table-rest (item.Signal name range) s v b d a p = absurd (s name range refl)
  table-rest (item.Variable name range) s v b d a p = absurd (v name range refl)
  table-rest (item.Beacon name x y) s v b d a p = absurd (b name x y refl)
  table-rest (item.Deriv x rate) s v b d a p = absurd (d x rate refl)
  table-rest (item.At x tick range) s v b d a p = absurd (a x tick range refl)
  table-rest (item.Ping x y first last beacon near far) s v b d a p = absurd (p x y first last beacon near far refl)
  table-rest r s v b d a p = table-same r refl refl refl refl (λ x. refl)

  -- a ping, with a beacon and without
  pub table-ping : (x y : SignalId) (first last : ℕ) (beacon : ℕ) (near far : ℤ)
      → IsTableOf (record t { variables = t.variables ++ ticks_from first last ∷ slice_index_or t.signals x.0 (point (pos 0)) ∷ slice_index_or t.signals y.0 (point (pos 0)) ∷ [] }) (before ++ item.Ping x y first last (Some beacon) near far ∷ [])
  table-ping x y first last beacon near far =
      let same = sym is.signals in
      table-variables (item.Ping x y first last (Some beacon) near far) (ticks_from first last ∷ slice_index_or t.signals x.0 (point (pos 0)) ∷ slice_index_or t.signals y.0 (point (pos 0)) ∷ [])
      (ap (λ (l : List Span). ticks_from first last ∷ slice_index_or l x.0 (point (pos 0)) ∷ slice_index_or l y.0 (point (pos 0)) ∷ []) same) refl refl refl (λ u. refl)

  pub table-mark : (x y : SignalId) (first last : ℕ) (near far : ℤ) (hull : Span × Span) → 1 ≤ beacons_in before → t.hull ≡ Some hull
      → IsTableOf (record t { variables = (t.variables ++ ticks_from first last ∷ slice_index_or t.signals x.0 (point (pos 0)) ∷ slice_index_or t.signals y.0 (point (pos 0)) ∷ []) ++ hull.0 ∷ hull.1 ∷ [] }) (before ++ item.Ping x y first last None near far ∷ [])
  table-mark x y first last near far hull some e =
      let same = sym is.signals in
      let both : hull ≡ (mark_x before, mark_y before) = some_is hull (mark_x before, mark_y before) (sym e ∙ hull-some t before is some) in
      let point_made : List Span = ticks_from first last ∷ slice_index_or t.signals x.0 (point (pos 0)) ∷ slice_index_or t.signals y.0 (point (pos 0)) ∷ [] in
      subst (λ (vs : List Span). IsTableOf (record t { variables = vs }) (before ++ item.Ping x y first last None near far ∷ [])) (sym (append_assoc t.variables point_made (hull.0 ∷ hull.1 ∷ [])))
      (table-variables (item.Ping x y first last None near far) (point_made ++ hull.0 ∷ hull.1 ∷ [])
      (ap₂ (λ (l : List Span) (h : Span × Span). ticks_from first last ∷ slice_index_or l x.0 (point (pos 0)) ∷ slice_index_or l y.0 (point (pos 0)) ∷ h.0 ∷ h.1 ∷ []) same (sym both)) refl refl refl (λ u. refl)) where
        some_is : (a b : Span × Span) → ◌≡◌ {A = Option (Span × Span)} (Some a) (Some b) → a ≡ b
        some_is a b e = cc e

-- ---- answers that are Ok

pub on_ok : {T E : Type 0} (r : Result T E) (P Q : Type 0) → (P → Q) → OnOk r P → OnOk r Q
on_ok (Ok x) P Q f h = f h
on_ok (Err e) P Q f h = tt

-- no rate stands in a list of none
pub none-at : (n x : ℕ) → slice_index_or (map rate_of (replicate n None)) x None ≡ None
none-at zero x = refl
none-at (suc n) zero = refl
none-at (suc n) (suc x) = none-at n x

-- a rate that is set
pub rates-set : (rates : List (Option SignalId)) (x rate : ℕ) → map rate_of (slice_set rates x (Some (record { 0 = rate }))) ≡ slice_set (map rate_of rates) x (Some rate)
rates-set [] x rate = refl
rates-set (r ∷ rates) zero rate = refl
rates-set (r ∷ rates) (suc x) rate = ap (λ (l : List (Option ℕ)). rate_of r ∷ l) (rates-set rates x rate)
