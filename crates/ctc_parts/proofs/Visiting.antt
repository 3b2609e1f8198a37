-- Sweeps: parts that are visited one after another.
use Rattle.std.proofs.Common.{◌≡◌, ℕ, ◌+◌, ◌<◌, ◌≤◌, ◌⊎◌, inl, inr, Bool, true, false, Option, Some, None, List, [], ◌∷◌, ◌++◌, IfSome, IsSome, IsNone, refl, sym, subst, ap, ◌∙◌, arith, get_or, All, Contains, flat_map, slice_index_or}
use Rattle.std.proofs.lemmas.Bool.{both_ways}
use Rattle.std.proofs.lemmas.Grind.{flat_map-append, common_steps}
use Rattle.std.proofs.lemmas.List.Elements.{All-append, All-push, All-nil, Contains-append_left, Contains-push}
use Rattle.tube_spec.specs.Span.{Span}
use Rattle.tube_spec.specs.Shape.{Shape}
use Rattle.tube_spec.specs.Box.{IsBelow, IsBelowBox}
use Rattle.tube_spec.specs.Projection.{Projection, IsStable, IsMonotone}
use Rattle.tube_store.specs.State.{State}
use Rattle.ctc_core.specs.Answers.{Revises, then_of}
use Rattle.ctc_core.specs.declared.Revised.{Revised}
use Rattle.ctc_core.specs.declared.Revised.TheVariants.{Same, Narrowed, Empty}
use Rattle.ctc_core.proofs.Firing.{Revises-then}
use Rattle.ctc_core.proofs.OneByOne.{IfSome-of}
use Rattle.ctc_parts.specs.Parts.{each_below, marked_in, AreClean}
use Rattle.ctc_parts.specs.Sweeping.{Sweeps, IsTurn}
use Rattle.ctc_parts.proofs.Members.{All-each_below, All-flat_map, flat_map-all, flat_map-below, below-more}
use Rattle.ctc_parts.proofs.Firing.{IsHeldBy, held-stable, Revises-as}
use Rattle.ctc_parts.proofs.Marking.{marked-first, marked-end, marked-flag}

never-both : (b : Option (List Span)) → IsSome b → IsNone b → ⊥
never-both None s n = absurd (cc)
never-both (Some xs) s n = absurd (cc)

-- a box over one that is there is there
some-above : (a b : Option (List Span)) → IsBelowBox b a → IsSome b → IsSome a
some-above (Some xs) b low s = refl
some-above None None low s = absurd (cc)
some-above None (Some ys) low s = absurd low

flat_map-one : {X : Type 0} (f : ℕ → List X) (k : ℕ) → flat_map f (k ∷ []) ≡ f k
flat_map-one f k = simp common_steps refl

module _ (n : ℕ) (part : ℕ → List Projection) (marked : ℕ → Bool) where
  -- no part so far, where no part below the end is marked
  pub swept-none : (end : ℕ) (s : State) (answer : Revised) → ((i : ℕ) → i < end → marked i ≡ true → ⊥) → Revises [] s s answer → Sweeps n part marked end s s answer
  swept-none end s answer none r = record {
    done = [];
    few = All-nil (λ i. i < n);
    fired = r;
    cover = λ b i l m. absurd (none i l m);
  }

  -- one part more was fired
  pub swept-visit : (Fits : List Span → Type 0) (i end end' : ℕ) (a b c : State) (x y z : Revised) → i < n → IfSome a.box Fits → All (IsMonotone Fits) (part i) → z ≡ then_of x y
      → ((j : ℕ) → j < end' → (j < end) ⊎ (j ≡ i)) → Sweeps n part marked end a b x → Revises (part i) b c y → Sweeps n part marked end' a c z
  swept-visit Fits i end end' a b c x y z inside fits mono e ends s r = record {
    done = s.done ++ i ∷ [];
    few = All-push (λ i. i < n) s.done i s.few inside;
    fired = subst (λ (w : Revised). Revises (flat_map part (s.done ++ i ∷ [])) a c w) (sym e)
        (subst (λ (ps : List Projection). Revises ps a c (then_of x y)) (sym list)
        (Revises-then Fits (flat_map part s.done) (part i) a b c x y fits mono s.fired r));
    cover = λ f j l m. elim (ends j l) [
      | inl l ↦ Contains-append_left s.done (i ∷ []) j (s.cover (some-above b.box c.box r.revised.below f) j l m)
      | inr q ↦ subst (λ (k : ℕ). Contains (s.done ++ i ∷ []) k) (sym q) (Contains-push s.done i)
    ];
  }
    where
      list : flat_map part (s.done ++ i ∷ []) ≡ flat_map part s.done ++ part i
      list = flat_map-append part s.done (i ∷ []) ∙ ap (λ (qs : List Projection). flat_map part s.done ++ qs) (flat_map-one part i)

  -- parts that are not marked may be left out
  pub swept-skip : (end end' : ℕ) (a b : State) (x : Revised) → ((j : ℕ) → j < end' → (j < end) ⊎ (marked j ≡ false)) → Sweeps n part marked end a b x → Sweeps n part marked end' a b x
  swept-skip end end' a b x rest s = record {
    done = s.done;
    few = s.few;
    fired = s.fired;
    cover = λ f j l m. elim (rest j l) [
      | inl l ↦ s.cover f j l m
      | inr q ↦ absurd (both_ways (marked j) q m)
    ];
  }

  -- once the box is empty the rest may be left out
  pub swept-out : (end end' : ℕ) (a b : State) (x : Revised) → x ≡ Empty → Sweeps n part marked end a b x → Sweeps n part marked end' a b x
  swept-out end end' a b Empty e s = record {
    done = s.done;
    few = s.few;
    fired = s.fired;
    cover = λ f j l m. absurd (never-both b.box f s.fired.says);
  }
  swept-out end end' a b Same e s = absurd (cc)
  swept-out end end' a b Narrowed e s = absurd (cc)

  -- one sweep and then another
  pub swept-both : (Fits : List Span → Type 0) (end : ℕ) (other : ℕ → Bool) (a b c : State) (x y : Revised) → IfSome a.box Fits → ((i : ℕ) → i < n → All (IsMonotone Fits) (part i))
      → Sweeps n part marked end a b x → Sweeps n part other 0 b c y → Sweeps n part marked end a c (then_of x y)
  swept-both Fits end other a b c x y fits mono s t = record {
    done = s.done ++ t.done;
    few = All-append (λ i. i < n) s.done t.done s.few t.few;
    fired = subst (λ (ps : List Projection). Revises ps a c (then_of x y)) (sym (flat_map-append part s.done t.done))
        (Revises-then Fits (flat_map part s.done) (flat_map part t.done) a b c x y fits
        (All-flat_map (IsMonotone Fits) part t.done (λ j d l. mono (get_or t.done j d) (t.few j d l))) s.fired t.fired);
    cover = λ f j l m. Contains-append_left s.done t.done j (s.cover (some-above b.box c.box t.fired.revised.below f) j l m);
  }

  -- a sweep that left out only parts under which the old box was stable is a firing of all
  pub swept-whole : (old new : State) (answer : Revised) → AreClean n part marked old.box → Sweeps n part marked n old new answer → Revises (each_below part n) old new answer
  swept-whole old new answer clean s =
      Revises-as (flat_map part s.done) (each_below part n) old new answer
      (λ q h. flat_map-below (IsStable q) part n s.done s.few h)
      (λ xs ys e f low h. All-each_below (IsHeldBy xs ys) part n (λ i l. at xs ys e f low h i l (marked i) refl))
      s.fired
    where
      at : (xs ys : List Span) → old.box ≡ Some xs → new.box ≡ Some ys → IsBelow ys xs → All (IsHeldBy xs ys) (flat_map part s.done) → (i : ℕ) → i < n → (v : Bool) → marked i ≡ v → All (IsHeldBy xs ys) (part i)
      at xs ys e f low h i l true m = flat_map-all (IsHeldBy xs ys) part s.done i (s.cover (subst (λ (b : Option (List Span)). IsSome b) (sym f) refl) i l m) h
      at xs ys e f low h i l false m = held-stable xs ys (part i) low (subst (λ (b : Option (List Span)). AreClean n part marked b) e clean i l m)

-- a marked part of which every flag from the loop's number on still stands
pub marked-stands : (marks now : List Bool) (first end i : ℕ) → ((j : ℕ) → i ≤ j → slice_index_or marks j false ≡ true → slice_index_or now j false ≡ true)
    → (v : Bool) → marked_in marks first end i ≡ v → slice_index_or now i false ≡ false → marked_in marks first end i ≡ false
marked-stands marks now first end i stands false m off = m
marked-stands marks now first end i stands true m off = absurd (both_ways (slice_index_or now i false) off (stands i (omega arith) (marked-flag marks first end i m)))

-- below the first number of the range no part is marked
pub none-before : (marks : List Bool) (first end i : ℕ) → i < first → marked_in marks first end i ≡ true → ⊥
none-before marks first end i l m = omega (arith, l, marked-first marks first end i m)

-- nor from its end on
pub past-or_not : (marks : List Bool) (first end i : ℕ) → end ≤ i → (v : Bool) → marked_in marks first end i ≡ v → marked_in marks first end i ≡ false
past-or_not marks first end i l false m = m
past-or_not marks first end i l true m = absurd (omega (arith, l, marked-end marks first end i m))

-- Parts are functions of the shape here.
module _ (parts : Shape → ℕ) (part : Shape → ℕ → List Projection) (Fits : Shape → Option (List Span) → Type 0)
    (mono : (s : Shape) (i : ℕ) → i < parts s → All (IsMonotone (λ xs. Fits s (Some xs))) (part s i)) where
  -- one part more was fired
  pub sweep-step : (marked : ℕ → Bool) (i end end' : ℕ) (a b c : State) (x y z : Revised) → i < parts a.shape → Fits a.shape a.box → z ≡ then_of x y → ((j : ℕ) → j < end' → (j < end) ⊎ (j ≡ i))
      → Sweeps (parts a.shape) (part a.shape) marked end a b x → Revises (part b.shape i) b c y → Sweeps (parts a.shape) (part a.shape) marked end' a c z
  sweep-step marked i end end' a b c x y z inside fits e ends s r =
      swept-visit (parts a.shape) (part a.shape) marked (λ xs. Fits a.shape (Some xs)) i end end' a b c x y z inside (IfSome-of (Fits a.shape) a.box fits) (mono a.shape i inside) e ends s
      (subst (λ (h : Shape). Revises (part h i) b c y) s.fired.revised.shape r)

  -- a turn of a sweep upwards
  pub sweep-turn : (marked : ℕ → Bool) (flag : Bool) (i : ℕ) (a b c : State) (x z : Revised) → i < parts a.shape → Fits a.shape a.box → (flag ≡ false → marked i ≡ false)
      → Sweeps (parts a.shape) (part a.shape) marked i a b x → IsTurn (part b.shape i) flag b c x z → Sweeps (parts a.shape) (part a.shape) marked (i + 1) a c z
  sweep-turn marked flag i a b c x z inside fits off s turn = elim turn [
    | inl t ↦ sweep-step marked i i (i + 1) a b c x t.0 z inside fits t.2 (below-more i) s t.1
    | inr t ↦
        subst (λ (r : State). Sweeps (parts a.shape) (part a.shape) marked (i + 1) a r z) (sym t.1)
        (subst (λ (w : Revised). Sweeps (parts a.shape) (part a.shape) marked (i + 1) a b w) (sym t.2)
        (swept-skip (parts a.shape) (part a.shape) marked i (i + 1) a b x (λ j l. elim (below-more i j l) [ inl m ↦ inl m | inr q ↦ inr (subst (λ (k : ℕ). marked k ≡ false) (sym q) (off t.0)) ]) s))
  ]

  -- a turn of a sweep downwards, of which nothing is asked but that it fires parts
  pub sweep-back : (marked : ℕ → Bool) (flag : Bool) (i : ℕ) (a b c : State) (x z : Revised) → i < parts a.shape → Fits a.shape a.box
      → Sweeps (parts a.shape) (part a.shape) marked 0 a b x → IsTurn (part b.shape i) flag b c x z → Sweeps (parts a.shape) (part a.shape) marked 0 a c z
  sweep-back marked flag i a b c x z inside fits s turn = elim turn [
    | inl t ↦ sweep-step marked i 0 0 a b c x t.0 z inside fits t.2 (λ j l. inl l) s t.1
    | inr t ↦
        subst (λ (r : State). Sweeps (parts a.shape) (part a.shape) marked 0 a r z) (sym t.1)
        (subst (λ (w : Revised). Sweeps (parts a.shape) (part a.shape) marked 0 a b w) (sym t.2) s)
  ]

  -- up and then down
  pub sweep-both : (marked other : ℕ → Bool) (a b c : State) (x y z : Revised) → Fits a.shape a.box → z ≡ then_of x y → AreClean (parts a.shape) (part a.shape) marked a.box
      → Sweeps (parts a.shape) (part a.shape) marked (parts a.shape) a b x → Sweeps (parts b.shape) (part b.shape) other 0 b c y → Revises (each_below (part a.shape) (parts a.shape)) a c z
  sweep-both marked other a b c x y z fits e clean s t =
      swept-whole (parts a.shape) (part a.shape) marked a c z clean
      (subst (λ (w : Revised). Sweeps (parts a.shape) (part a.shape) marked (parts a.shape) a c w) (sym e)
      (swept-both (parts a.shape) (part a.shape) marked (λ xs. Fits a.shape (Some xs)) (parts a.shape) other a b c x y (IfSome-of (Fits a.shape) a.box fits) (mono a.shape) s
      (subst (λ (h : Shape). Sweeps (parts h) (part h) other 0 b c y) s.fired.revised.shape t)))

-- a box is clean where every part is marked
pub all-clean : (n : ℕ) (part : ℕ → List Projection) (box : Option (List Span)) → AreClean n part (λ i. true) box
all-clean n part None = tt
all-clean n part (Some xs) = λ i l m. absurd (cc)

-- what is not below a number is past it
before-or_past : (i j : ℕ) → (j < i) ⊎ (i ≤ j)
before-or_past i j = grind arith

-- from the end of the range on no part is marked
pub rest-past : (marks : List Bool) (first end i n : ℕ) → end ≤ i → (j : ℕ) → j < n → (j < i) ⊎ (marked_in marks first end j ≡ false)
rest-past marks first end i n l j m = elim (before-or_past i j) [
  | inl k ↦ inl k
  | inr k ↦ inr (past-or_not marks first end j (omega (arith, l, k)) (marked_in marks first end j) refl)
]

-- from the end of the range, or of the parts, on no part is marked
pub rest-either : (marks : List Bool) (first end i n : ℕ) → (end ≤ i) ⊎ (n ≤ i) → (j : ℕ) → j < n → (j < i) ⊎ (marked_in marks first end j ≡ false)
rest-either marks first end i n past j m = elim past [
  | inl l ↦ rest-past marks first end i n l j m
  | inr l ↦ inl (omega (arith, l, m))
]
