-- Who waits after a firing.
use Rattle.std.proofs.Common.{◌≡◌, ◌≢◌, ℕ, zero, suc, ◌<◌, ◌⊎◌, inl, inr, ◌||◌, Bool, true, false, Option, Some, List, [], ◌∷◌, arith, refl, sym, ap, ap₂, subst, ◌∙◌, length, length-set, map, set, get_or, Contains, slice_get, nat_eq, count_by, sum_by, cond}
use Rattle.std.specs.Cmp.{nat_eq_equiv}
use Rattle.std.specs.List.{list_any}
use Rattle.std.proofs.lemmas.Bool.{cases_eq}
use Rattle.std.proofs.lemmas.List.{get_or-map, length-map}
use Rattle.std.proofs.lemmas.List.Sums.{sum_by-cons}
use Rattle.std.proofs.lemmas.Option.{get_or_from_slice_get, slice_get-get_or, slice_get_within, slice_get_read}
use Rattle.std.proofs.lemmas.Map.Views.{list_any-from_Contains, Contains-from_any}
use Rattle.tube_spec.specs.Span.{Span}
use Rattle.tube_spec.specs.Shape.{Shape}
use Rattle.cell_readers.specs.Entries.{Table, AreReaders, WakesReaders, readers_at, reads_cell, is_reader, times}
use Rattle.cell_readers.specs.Waking.{AreWoken}
use Rattle.cell_readers.proofs.Counts.{mark-here, mark-other}
use Rattle.cell_readers.proofs.Kept.{none-read}
use Rattle.ctc_network.specs.Nets.{reads_by, IsTableOf}
use Rattle.ctc_network.specs.Settling.{IsWoken, NarrowerIn, ReadsNarrower}

-- one that was taken waits again
pub set-back : (ws : List Bool) (k : ℕ) → slice_get ws k ≡ Some true → set (set ws k false) k true ≡ ws
set-back [] k e = refl
set-back (w ∷ ws) zero e = let f : w ≡ true = cc in ap (λ (b : Bool). b ∷ ws) (sym f)
set-back (w ∷ ws) (suc k) e = ap (λ (l : List Bool). w ∷ l) (set-back ws k e)

-- one that rests is put to rest again
pub set-again : (ws : List Bool) (k : ℕ) (b d : Bool) → set (set ws k b) k d ≡ set ws k d
set-again [] k b d = refl
set-again (w ∷ ws) zero b d = refl
set-again (w ∷ ws) (suc k) b d = ap (λ (l : List Bool). w ∷ l) (set-again ws k b d)

-- a contractor under a number
pub inside-there : {C : Type 0} (cs : List C) (k : ℕ) (c : C) → k < length cs → c ≡ get_or cs k c → slice_get cs k ≡ Some c
inside-there cs k c l e = slice_get_read cs (length cs) k c refl l e

pub or-cases : (a b : Bool) → (a || b) ≡ true → (a ≡ true) ⊎ (b ≡ true)
or-cases true b e = inl refl
or-cases false b e = inr e

or-false : (a b : Bool) → (a || b) ≡ false → (a ≡ false) × (b ≡ false)
or-false true b e = absurd (cc)
or-false false b e = (refl, e)

same-tests : (a b : Bool) → (a ≡ true → b ≡ true) → (b ≡ true → a ≡ true) → a ≡ b
same-tests true b f g = sym (f refl)
same-tests false true f g = g refl
same-tests false false f g = refl

any-same : (p q : ℕ → Bool) (cells : List ℕ) → ((k : ℕ) → p k ≡ q k) → list_any p cells ≡ list_any q cells
any-same p q [] e = refl
any-same p q (x ∷ cells) e = ap₂ (λ (a b : Bool). a || b) (e x) (any-same p q cells e)

-- a cell among some that passes a test
first-or-later : (p : ℕ → Bool) (x : ℕ) (cells : List ℕ) (b : Bool) → p x ≡ b → (b || list_any p cells) ≡ true → (list_any p cells ≡ true → (k : ℕ) × Contains cells k × (p k ≡ true)) → (k : ℕ) × Contains (x ∷ cells) k × (p k ≡ true)
first-or-later p x cells true f e later = (x, (0, omega arith, refl), f)
first-or-later p x cells false f e later = let h = later e in (h.0, (suc h.1.0, omega (arith, h.1.1), h.1.2), h.2)

pub any-there : (p : ℕ → Bool) (cells : List ℕ) → list_any p cells ≡ true → (k : ℕ) × Contains cells k × (p k ≡ true)
any-there p [] e = absurd (cc)
any-there p (x ∷ cells) e = first-or-later p x cells (p x) refl e (any-there p cells)

pub same_number : (a b : ℕ) → nat_eq a b ≡ true → a ≡ b
same_number a b e = grind (arith, e)

module _ {C : Type 0} (scope : C → Shape → List ℕ) (s : Shape) (cs : List C) where
  abbrev scopes : List (List ℕ)
  scopes = map (λ c. scope c s) cs

  -- a number stands among the readers of exactly the cells that its contractor reads
  linked : (lists : List (List ℕ)) → AreReaders scopes lists → (cell k : ℕ) (c : C) → slice_get cs k ≡ Some c → is_reader lists k cell ≡ reads_by scope s c cell
  linked lists readers cell k c there =
      same-tests (is_reader lists k cell) (reads_by scope s c cell)
      (λ e. sym (ap (λ (xs : List ℕ). reads_cell xs cell) at) ∙ ((readers.exact cell k).0 (Contains-from_any same_number k (readers_at lists cell) e)).1)
      (λ e. list_any-from_Contains nat_eq_equiv k (readers_at lists cell) ((readers.exact cell k).1 (omega (arith, inside, length-map cs (λ x. scope x s)), ap (λ (xs : List ℕ). reads_cell xs cell) at ∙ e)))
    where
      inside : k < length cs
      inside = slice_get_within cs k c there

      at : get_or scopes k [] ≡ scope c s
      at = get_or-map (λ x. scope x s) cs k c [] inside ∙ ap (λ (x : C). scope x s) (get_or_from_slice_get cs k c c there)

  -- the readers of the cells were woken, and the one that was fired
  module _ (lists : List (List ℕ)) (readers : AreReaders scopes lists) (cells : List ℕ) (k : ℕ) (before woken : List Bool) (len : length before ≡ length cs) (wakes : WakesReaders lists cells before woken) where
    each : (j : ℕ) (c : C) → slice_get cs j ≡ Some c → get_or woken j false ≡ (get_or before j false || list_any (reads_by scope s c) cells)
    each j c there = wakes.waits j ∙ ap (λ (b : Bool). get_or before j false || b) (any-same (is_reader lists j) (reads_by scope s c) cells (λ cell. linked lists readers cell j c there))

    inside : (j : ℕ) (c : C) → slice_get cs j ≡ Some c → j < length before
    inside j c there = omega (arith, slice_get_within cs j c there, len)

    only : (j : ℕ) (c : C) → slice_get cs j ≡ Some c → slice_get (set woken k true) j ≡ Some true → (j ≡ k) ⊎ (j ≡ k → ⊥) → (slice_get before j ≡ Some true) ⊎ ((j ≡ k) ⊎ (list_any (reads_by scope s c) cells ≡ true))
    only j c there e (inl same) = inr (inl same)
    only j c there e (inr n) =
        let waits : get_or woken j false ≡ true = get_or_from_slice_get woken j true false (sym (mark-other woken k j true n) ∙ e) in
        elim (or-cases (get_or before j false) (list_any (reads_by scope s c) cells) (sym (each j c there) ∙ waits)) [
          | inl w ↦ inl (slice_get-get_or before j false (inside j c there) ∙ ap Some w)
          | inr r ↦ inr (inr r)
        ]

    all : (j : ℕ) (c : C) → slice_get cs j ≡ Some c → slice_get (set woken k true) j ≡ Some false → (j ≡ k) ⊎ (j ≡ k → ⊥) → (slice_get before j ≡ Some false) × (j ≢ k) × (list_any (reads_by scope s c) cells ≡ false)
    all j c there e (inl same) =
        let waits : slice_get (set woken j true) j ≡ Some true = mark-here woken j true (omega (arith, inside j c there, wakes.length)) in
        let rests : slice_get (set woken j true) j ≡ Some false = subst (λ (i : ℕ). slice_get (set woken i true) j ≡ Some false) (sym same) e in
        absurd (cc)
    all j c there e (inr n) =
        let rests : get_or woken j false ≡ false = get_or_from_slice_get woken j false false (sym (mark-other woken k j true n) ∙ e) in
        let both = or-false (get_or before j false) (list_any (reads_by scope s c) cells) (sym (each j c there) ∙ rests) in
        (slice_get-get_or before j false (inside j c there) ∙ ap Some both.0, n, both.1)

    pub woken-is : AreWoken (reads_by scope s) cs cells k before (set woken k true)
    woken-is = record {
      len = length-set woken k true ∙ wakes.length;
      only = λ j c there e. only j c there e (cases_eq j k);
      all = λ j c there e. all j c there e (cases_eq j k);
    }

  -- The cells are those that are narrower: so who waits reads one of these.
  module _ (cells : List ℕ) (k : ℕ) (before after : List Bool) (len : length before ≡ length cs) (woken : AreWoken (reads_by scope s) cs cells k before after) (old new : Option (List Span))
      (narrower : (j : ℕ) → Contains cells j → NarrowerIn old new j) (touched : (j : ℕ) → NarrowerIn old new j → Contains cells j) where
    reads-one : (c : C) → list_any (reads_by scope s c) cells ≡ true → ReadsNarrower (scope c s) old new
    reads-one c e =
        let h = any-there (reads_by scope s c) cells e in
        (h.0, Contains-from_any same_number h.0 (scope c s) h.2, narrower h.0 h.1)

    waits-then : (j : ℕ) (c : C) → slice_get cs j ≡ Some c → slice_get after j ≡ Some true → (slice_get before j ≡ Some true) ⊎ ((j ≡ k) ⊎ ReadsNarrower (scope c s) old new)
    waits-then j c there e = elim (woken.only j c there e) [
      | inl h ↦ inl h
      | inr h ↦ elim h [ inl same ↦ inr (inl same) | inr r ↦ inr (inr (reads-one c r)) ]
    ]

    then-waits : (j : ℕ) (c : C) → slice_get cs j ≡ Some c → (slice_get before j ≡ Some true) ⊎ ((j ≡ k) ⊎ ReadsNarrower (scope c s) old new) → (b : Bool) → slice_get after j ≡ Some b → slice_get after j ≡ Some true
    then-waits j c there h true e = e
    then-waits j c there (inl h) false e = let quiet = (woken.all j c there e).0 in absurd (cc)
    then-waits j c there (inr (inl same)) false e = absurd ((woken.all j c there e).1 same)
    then-waits j c there (inr (inr r)) false e = absurd (none-read (reads_by scope s c) cells r.0 (woken.all j c there e).2 (touched r.0 r.2) (list_any-from_Contains nat_eq_equiv r.0 (scope c s) r.1))

    pub narrower-woken : IsWoken scope s cs old new k before after
    narrower-woken = record {
      len = woken.len;
      waits = λ j c there. (
        λ e. waits-then j c there e,
        λ h. then-waits j c there h (get_or after j false) (slice_get-get_or after j false (omega (arith, slice_get_within cs j c there, len, woken.len))),
      );
    }

-- what holds of a table where nothing of it changed but its room
pub table-covered : (scopes : List (List ℕ)) (old new : Table) (entries : ℕ) → IsTableOf scopes old entries → ((cell : ℕ) → readers_at new.readers cell ≡ readers_at old.readers cell) → new.contractors ≡ old.contractors
    → IsTableOf scopes new entries
table-covered scopes old new entries t same count = record {
  readers = same-readers;
  contractors = count ∙ t.contractors;
  sum = t.sum;
}
  where
    same-readers : AreReaders scopes new.readers
    same-readers = record {
      exact = λ cell n. (
        λ c. (t.readers.exact cell n).0 (subst (λ (xs : List ℕ). Contains xs n) (same cell) c),
        λ h. subst (λ (xs : List ℕ). Contains xs n) (sym (same cell)) ((t.readers.exact cell n).1 h),
      );
      count = λ cell. ap length (same cell) ∙ t.readers.count cell;
      once = λ cell n. omega (arith, ap (times n) (same cell), t.readers.once cell n);
    }

-- how many of the scopes name a cell is how many of the contractors read it
pub count-scopes : {C : Type 0} (f : C → List ℕ) (cs : List C) (cell : ℕ) → count_by (λ scope. reads_cell scope cell) (map f cs) ≡ count_by (λ c. reads_cell (f c) cell) cs
count-scopes f [] cell = refl
count-scopes f (c ∷ cs) cell = omega (arith, count-scopes f cs cell, sum_by-cons (λ (scope : List ℕ). cond (reads_cell scope cell) 1 0) (f c) (map f cs), sum_by-cons (λ c. cond (reads_cell (f c) cell) 1 0) c cs)

pub sum-scopes : {C : Type 0} (f : C → List ℕ) (cs : List C) → sum_by (λ scope. length scope) (map f cs) ≡ sum_by (λ c. length (f c)) cs
sum-scopes f [] = refl
sum-scopes f (c ∷ cs) = omega (arith, sum-scopes f cs, sum_by-cons (λ (scope : List ℕ). length scope) (f c) (map f cs), sum_by-cons (λ c. length (f c)) c cs)
