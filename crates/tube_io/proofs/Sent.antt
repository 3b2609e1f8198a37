-- Several texts that are written one after the other.
use Rattle.std.proofs.Common.{◌≡◌, ℕ, ◌+◌, ◌<◌, ◌≤◌, List, [], ◌∷◌, ◌++◌, Some, None, Result, Ok, Err, length, take, drop, get_or, refl, sym, ap, ◌∙◌, subst, arith, append-nil, length-append, flat_map, take-append-drop}
use Rattle.std.specs.Prelude.{Option}
use Rattle.std.proofs.KnownBytes.{Appends-trans}
use Rattle.std.proofs.Math.Seq.{take-append-add}
use Rattle.std.proofs.lemmas.Grind.{flat_map-append}
use Rattle.std.proofs.lemmas.List.{take-append-le, take_more}
use Rattle.std.specs.Io.KnownBytes.{Appends}
use Rattle.tube_io.specs.Causes.{Rose}
use Rattle.tube_io.specs.Sends.{AppendsPrefix, Sends}

-- a prefix of the second text after all of the first is a prefix of both
prefix_after : (a b c : Option (List ℕ)) (x y : List ℕ) → Appends a b x → AppendsPrefix b c y → AppendsPrefix a c (x ++ y)
prefix_after a b c x y p q =
    let short : length x + q.0 ≤ length (x ++ y) = rw length-append (omega (arith, q.1)) in
    (length x + q.0, short, subst (Appends a c) (sym (take-append-add x y q.0)) (Appends-trans a b c x (take q.0 y) p q.2))

-- a prefix of the first text is a prefix of both
prefix_before : (a b : Option (List ℕ)) (x y : List ℕ) → AppendsPrefix a b x → AppendsPrefix a b (x ++ y)
prefix_before a b x y q =
    let short : q.0 ≤ length (x ++ y) = rw length-append (omega (arith, q.1)) in
    (q.0, short, subst (Appends a b) (sym (take-append-le q.0 x y q.1)) q.2)

module _ {K : Type 0} (written : K → Option (List ℕ)) (flushed : K → Option ℕ) (faults : K → ℕ) where
  -- nothing is written yet
  pub sends_none : {E : Type 0} (s : K) → Sends {T = Unit {0}} {E = E} written flushed faults [] s s (Ok tt)
  sends_none s = record { ok = nil (written s); steady = refl; prefix = tt; failed = tt; later = omega arith; stays = refl }
    where
      nil : (a : Option (List ℕ)) → Appends a a []
      nil None = tt
      nil (Some x) = sym (append-nil x)

  -- a second text after the first
  pub sends_then : {T E : Type 0} (x y : List ℕ) (s t u : K) (result : Result T E) → Sends {T = Unit {0}} {E = E} written flushed faults x s t (Ok tt) → Sends written flushed faults y t u result → Sends written flushed faults (x ++ y) s u result
  sends_then x y s t u (Ok v) p q = record {
    ok = Appends-trans (written s) (written t) (written u) x y p.ok q.ok;
    steady = q.steady ∙ p.steady;
    prefix = tt;
    failed = tt;
    later = omega (arith, p.later, q.later);
    stays = q.stays ∙ p.stays;
  }
  sends_then x y s t u (Err e) p q = record {
    ok = tt;
    steady = tt;
    prefix = prefix_after (written s) (written t) (written u) x y p.ok q.prefix;
    failed = subst (λ (n : ℕ). Rose n (faults u)) p.steady q.failed;
    later = omega (arith, p.later, q.later);
    stays = q.stays ∙ p.stays;
  }

  -- a text that ends early
  pub sends_stops : {T E : Type 0} (x y : List ℕ) (s t : K) (e : E) → Sends {T = T} {E = E} written flushed faults x s t (Err e) → Sends {T = T} {E = E} written flushed faults (x ++ y) s t (Err e)
  sends_stops x y s t e p = record {
    ok = tt;
    steady = tt;
    prefix = prefix_before (written s) (written t) x y p.prefix;
    failed = p.failed;
    later = p.later;
    stays = p.stays;
  }

-- the texts of the first parts, with that of one more
one_more : {P : Type 0} (f : P → List ℕ) (ps : List P) (i : ℕ) (d : P) → i < length ps → flat_map f (take (i + 1) ps) ≡ flat_map f (take i ps) ++ f (get_or ps i d)
one_more f ps i d h = ap (flat_map f) (take_more ps i d h) ∙ (flat_map-append f (take i ps) (get_or ps i d ∷ []) ∙ ap (λ (xs : List ℕ). flat_map f (take i ps) ++ xs) (append-nil (f (get_or ps i d))))

module _ {P K : Type 0} (written : K → Option (List ℕ)) (flushed : K → Option ℕ) (faults : K → ℕ) (f : P → List ℕ) (ps : List P) (i : ℕ) (d : P) where
  -- the text of one more part, after those of the parts before it
  pub sends_next : {E : Type 0} (s t u : K) → i < length ps
      → Sends {T = Unit {0}} {E = E} written flushed faults (flat_map f (take i ps)) s t (Ok tt)
      → Sends {T = Unit {0}} {E = E} written flushed faults (f (get_or ps i d)) t u (Ok tt)
      → Sends {T = Unit {0}} {E = E} written flushed faults (flat_map f (take (i + 1) ps)) s u (Ok tt)
  sends_next {E} s t u h p q =
      let both = sends_then written flushed faults (flat_map f (take i ps)) (f (get_or ps i d)) s t u (Ok tt) p q in
      subst (λ (xs : List ℕ). Sends {T = Unit {0}} {E = E} written flushed faults xs s u (Ok tt)) (sym (one_more f ps i d h)) both

  -- a write that fails in the text of a part ends the text of all of them early
  pub sends_fail : {T E : Type 0} (s t u : K) (e : E) → i < length ps
      → Sends {T = Unit {0}} {E = E} written flushed faults (flat_map f (take i ps)) s t (Ok tt)
      → Sends {T = T} {E = E} written flushed faults (f (get_or ps i d)) t u (Err e)
      → Sends {T = T} {E = E} written flushed faults (flat_map f ps) s u (Err e)
  sends_fail {T} {E} s t u e h p q =
      let both = sends_then written flushed faults (flat_map f (take i ps)) (f (get_or ps i d)) s t u (Err e) p q in
      let more = sends_stops written flushed faults (flat_map f (take i ps) ++ f (get_or ps i d)) (flat_map f (drop (i + 1) ps)) s u e both in
      let whole : (flat_map f (take i ps) ++ f (get_or ps i d)) ++ flat_map f (drop (i + 1) ps) ≡ flat_map f ps =
      ap (λ (xs : List ℕ). xs ++ flat_map f (drop (i + 1) ps)) (sym (one_more f ps i d h))
      ∙ (sym (flat_map-append f (take (i + 1) ps) (drop (i + 1) ps)) ∙ ap (flat_map f) (take-append-drop (i + 1) ps)) in
      subst (λ (xs : List ℕ). Sends {T = T} {E = E} written flushed faults xs s u (Err e)) whole more
