-- What is known of a link that says something.
use Rattle.std.proofs.Common.{◌≡◌, ℕ, ◌<◌, ◌≤◌, ◌==◌, ◌&&◌, Bool, true, false, cond, List, [], Option, Some, None, ℤ, pos, negsuc, int_le, ◌≤ℤ◌, length, refl, ap, subst, arith}
use Rattle.std.specs.Prelude.{bytes_eq, nat_le, not, option_map, slice_index_or}
use Rattle.std.specs.List.{position}
use Rattle.std.proofs.lemmas.Bool.{and_parts, eq-eqb, leb-true, not-true}
use Rattle.std.proofs.lemmas.Int.{ints}
use Rattle.std.proofs.lemmas.List.Quantifiers.{position-Some}
use Rattle.std.proofs.lemmas.Slice.Eq.{bytes_eq-Decides}
use Rattle.tube_spec.specs.Limits.{greatest_radius}
use Rattle.tube_spec.specs.Span.{Span}
use Rattle.slice_gates.specs.Clock.{ticks_of}
use Rattle.slice_gates.specs.declared.clock.Ticks.{Ticks}
use Rattle.slice_gates.proofs.Clocks.{ticks-some}
use Rattle.tube_store.specs.declared.SignalId.{SignalId}
use Rattle.log_fields.specs.Fields.{are_radii}
use Rattle.mission_items.specs.Valid.{AreRadii}
use Rattle.mission_items.specs.declared.item.Item.{Item}
use Rattle.mission_items.specs.declared.mission.Mission.{Mission}
use Rattle.pair_form.specs.Forms.{LinkForm}
use Rattle.pair_causes.specs.Facts.{AreNamesOf, IsLinked, IsNameOf}
use Rattle.pair_causes.specs.Links.{◌>>=◌, ahead, link_said, provided, signal_called, signal_names, signals_called, tick_on}
use Rattle.pair_causes.specs.declared.link.Linked.{Linked}

-- ---- steps that said something

step : {A B : Type 0} (o : Option A) (f : A → Option B) (y : B) → (o >>= f) ≡ Some y → (x : A) × ((o ≡ Some x) × (f x ≡ Some y))
step None f y e = absurd (cc)
step (Some x) f y e = (x, (refl, e))

provided-true : (b : Bool) (u : Unit {0}) → provided b ≡ Some u → b ≡ true
provided-true true u e = refl
provided-true false u e = absurd (cc)

-- ---- its parts

tick-known : (last : ℕ) (z : ℤ) (tick : ℕ) → tick_on last z ≡ Some tick → (z ≡ pos tick) × (tick ≤ last)
tick-known last (negsuc n) tick e = absurd (cc)
tick-known last (pos n) tick e = at (nat_le n last) refl e
  where
    at : (b : Bool) → nat_le n last ≡ b → cond b (Some n) None ≡ Some tick → (pos n ≡ pos tick) × (tick ≤ last)
    at true is e = let same : n ≡ tick = cc in (ap pos same, subst (λ (k : ℕ). k ≤ last) same (leb-true n last is))
    at false is e = absurd (cc)

radii-known : (near far : ℤ) → are_radii near far ≡ true → AreRadii near far
radii-known near far e =
    let a = and_parts (int_le (pos 0) near) (int_le near far && int_le far (pos greatest_radius)) e in
    let b = and_parts (int_le near far) (int_le far (pos greatest_radius)) a.1 in
    (below (pos 0) near a.0, below near far b.0, below far (pos greatest_radius) b.1)
  where
    below : (x y : ℤ) → int_le x y ≡ true → x ≤ℤ y
    below x y h = grind (arith, ints)

name-known : (items : List Item) (word : List ℕ) (x : SignalId) → signal_called (signal_names items) word ≡ Some x → IsNameOf items word x
name-known items word x e = at (position (λ name. bytes_eq name word) (signal_names items)) refl e
  where
    at : (o : Option ℕ) → position (λ name. bytes_eq name word) (signal_names items) ≡ o → option_map {U = SignalId} (λ (n : ℕ). record { 0 = n }) o ≡ Some x → IsNameOf items word x
    at None is e = absurd (cc)
    at (Some n) is e =
        let same : n ≡ x.0 = cc in
        let found = position-Some (λ name. bytes_eq name word) (signal_names items) n [] is in
        record {
          declared = subst (λ (k : ℕ). k < length (signal_names items)) same found.0;
          named = subst (λ (k : ℕ). slice_index_or (signal_names items) k [] ≡ word) same ((bytes_eq-Decides (slice_index_or (signal_names items) n []) word).0 found.1);
        }

names-known : (items : List Item) (words : List ℕ × List ℕ) (signals : SignalId × SignalId) → signals_called (signal_names items) words ≡ Some signals → AreNamesOf items words signals
names-known items words signals e =
    let names = signal_names items in
    let a = step (signal_called names words.0) (λ x. signal_called names words.1 >>= (λ y. provided (not (x.0 == y.0)) >>= (λ _. Some (x, y)))) signals e in
    let x = a.0 in
    let b = step (signal_called names words.1) (λ y. provided (not (x.0 == y.0)) >>= (λ _. Some (x, y))) signals a.1.1 in
    let y = b.0 in
    let c = step (provided (not (x.0 == y.0))) (λ _. Some (x, y)) signals b.1.1 in
    let same : (x, y) ≡ signals = some-is (x, y) signals c.1.1 in
    let differ = not-true (x.0 == y.0) (provided-true (not (x.0 == y.0)) c.0 c.1.0) in
    subst (λ (p : SignalId × SignalId). AreNamesOf items words p) same (record { x = name-known items words.0 x a.1.0; y = name-known items words.1 y b.1.0; apart = λ h. both-ways (x.0 == y.0) differ (eq-eqb x.0 y.0 h) })
  where
    some-is : (p q : SignalId × SignalId) → ◌≡◌ {A = Option (SignalId × SignalId)} (Some p) (Some q) → p ≡ q
    some-is p q e = cc

    both-ways : (b : Bool) → b ≡ false → b ≡ true → ⊥
    both-ways b e f = cc

-- ---- the whole

pub link-known : (first second : Mission) (offset : Span) (link : LinkForm) (l : Linked) → link_said first second offset link ≡ Some l → IsLinked first second offset link l
link-known first second offset link l e =
    let here = signals_called (signal_names first.items) link.first in
    let there = signals_called (signal_names second.items) link.second in
    let radii = provided (are_radii link.radii.0 link.radii.1) in
    let made = λ (tick : ℕ) (p q : SignalId × SignalId) (times : Ticks). let m : Linked = record { tick = tick; times = times; radii = link.radii; first = p; second = q } in m in
    let a = step (tick_on first.ticks link.tick) (λ tick. radii >>= (λ _. here >>= (λ p. there >>= (λ q. ticks_of first.cuts (ahead offset tick) >>= (λ times. Some (made tick p q times)))))) l e in
    let b = step radii (λ _. here >>= (λ p. there >>= (λ q. ticks_of first.cuts (ahead offset a.0) >>= (λ times. Some (made a.0 p q times))))) l a.1.1 in
    let c = step here (λ p. there >>= (λ q. ticks_of first.cuts (ahead offset a.0) >>= (λ times. Some (made a.0 p q times)))) l b.1.1 in
    let d = step there (λ q. ticks_of first.cuts (ahead offset a.0) >>= (λ times. Some (made a.0 c.0 q times))) l c.1.1 in
    let f = step (ticks_of first.cuts (ahead offset a.0)) (λ times. Some (made a.0 c.0 d.0 times)) l d.1.1 in
    let tick = tick-known first.ticks link.tick a.0 a.1.0 in
    let times = ticks-some first.cuts (ahead offset a.0) f.0 f.1.0 in
    subst (λ (m : Linked). IsLinked first second offset link m) (some-is (made a.0 c.0 d.0 f.0) l f.1.1)
    (record {
      tick = tick.0;
      on_clock = tick.1;
      radii = radii-known link.radii.0 link.radii.1 (provided-true (are_radii link.radii.0 link.radii.1) b.0 b.1.0);
      same_radii = refl;
      here = names-known first.items link.first c.0 c.1.0;
      there = names-known second.items link.second d.0 d.1.0;
      times = (λ j. record { lo = times.low j; hi = times.high j });
      some_time = times.order;
    })
  where
    some-is : (p q : Linked) → ◌≡◌ {A = Option Linked} (Some p) (Some q) → p ≡ q
    some-is p q e = cc
