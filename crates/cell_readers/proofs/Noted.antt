-- A number that comes to the front of one list, and the lists after a whole scope.
use Rattle.std.proofs.Common.{◌≡◌, ℕ, ◌+◌, ◌<◌, zero, suc, ◌≤◌, ◌⊎◌, inl, inr, Bool, true, false, ◌||◌, cond, nat_eq, List, [], ◌∷◌, ◌++◌, All, ◌↔◌, arith, refl, sym, ap, subst, ◌∙◌, length, take, get_or, map, set, slice_index, count_by, length-append, length-set}
use Rattle.std.specs.Cmp.{nat_eq_equiv}
use Rattle.std.specs.List.{Contains}
use Rattle.std.proofs.lemmas.Bool.{cases_eq, ne_eqb}
use Rattle.std.proofs.lemmas.List.{get_or-set_same, get_or-set_other, get_or_at, get_or_push, get_or_append_left, length-map}
use Rattle.std.proofs.lemmas.List.Elements.{All-contains, All-push, Contains-append_left, Contains-append_right, Contains-append_cases, Contains-push, Contains-push_cases}
use Rattle.std.proofs.lemmas.List.Folds.{list_any_more, list_any-append}
use Rattle.std.proofs.lemmas.List.Sums.{sum_by-cons, sum_by_push, sum_by-set}
use Rattle.cell_readers.specs.declared.chain.Entry.{Entry}
use Rattle.cell_readers.specs.Entries.{Table, no_entry, Falls, chain, IsPlace, AreChained, begins, noted, readers_at, reads_cell, times, AddsReader, AreReaders, AreAwake}
use Rattle.cell_readers.proofs.Chains.{chain-place, chain-push, walk-push, walk-below, Falls-push}

pub same-or-not : (j k : ℕ) → ((j ≡ k) × (nat_eq j k ≡ true)) ⊎ ((j ≡ k → ⊥) × (nat_eq j k ≡ false))
same-or-not j k = elim (cases_eq j k) [
  | inl e ↦ inl (e, subst (λ (i : ℕ). nat_eq j i ≡ true) e (nat_eq_equiv.refl j))
  | inr n ↦ inr (n, ne_eqb j k n)
]

-- the place where a cell's list begins is one of the table
pub head-place : (entries : List Entry) (heads : List ℕ) (cell place bound : ℕ) → AreChained entries heads bound → place ≡ slice_index heads cell → IsPlace entries place
head-place entries heads cell place bound chained e = record { falls = chained.falls; within = omega (arith, e, chained.within cell) }

-- whether a list begins with a number, by its first entry
pub begins-place : (entries : List Entry) (place k n : ℕ) → Falls entries → place ≡ k + 1 → begins n (chain entries place) ≡ nat_eq (get_or entries k no_entry).number n
begins-place entries place k n falls e = ap (begins n) (chain-place entries place k falls e)

-- nothing to add
pub noted-again : (entries : List Entry) (heads : List ℕ) (cell n : ℕ) → begins n (chain entries (slice_index heads cell)) ≡ true → (k : ℕ) → chain entries (slice_index heads k) ≡ cond (nat_eq k cell) (noted n (chain entries (slice_index heads k))) (chain entries (slice_index heads k))
noted-again entries heads cell n e k = elim (same-or-not k cell) [
  | inl s ↦
      let list : List ℕ = chain entries (slice_index heads k) in
      sym (ap (λ (b : Bool). cond b (noted n list) list) s.1 ∙ ap (λ (b : Bool). cond b list (n ∷ list)) (ap (λ (c : ℕ). begins n (chain entries (slice_index heads c))) s.0 ∙ e))
  | inr s ↦
      let list : List ℕ = chain entries (slice_index heads k) in
      sym (ap (λ (b : Bool). cond b (noted n list) list) s.1)
]

-- an entry more
pub noted-first : (entries : List Entry) (heads : List ℕ) (cell n place : ℕ) → AreChained entries heads (n + 1) → cell < length heads → place ≡ slice_index heads cell → begins n (chain entries place) ≡ false
    → (k : ℕ) → chain (entries ++ record { number = n; before = place } ∷ []) (slice_index (set heads cell (length entries + 1)) k) ≡ cond (nat_eq k cell) (noted n (chain entries (slice_index heads k))) (chain entries (slice_index heads k))
noted-first entries heads cell n place chained l at e k = elim (same-or-not k cell) [
  | inl s ↦
      let list : List ℕ = chain entries (slice_index heads k) in
      let same : place ≡ slice_index heads k = at ∙ ap (slice_index heads) (sym s.0) in
      ap (λ (j : ℕ). chain more (slice_index (set heads cell (length entries + 1)) j)) s.0
      ∙ ap (chain more) (get_or-set_same heads cell (length entries + 1) 0 l)
      ∙ chain-push entries n place chained.falls (omega (arith, at, chained.within cell))
      ∙ ap (λ (p : ℕ). n ∷ chain entries p) same
      ∙ sym (ap (λ (b : Bool). cond b (noted n list) list) s.1 ∙ ap (λ (b : Bool). cond b list (n ∷ list)) (ap (λ (p : ℕ). begins n (chain entries p)) (sym same) ∙ e))
  | inr s ↦
      let list : List ℕ = chain entries (slice_index heads k) in
      ap (chain more) (get_or-set_other heads cell k (length entries + 1) 0 s.0)
      ∙ walk-push entries (record { number = n; before = place }) chained.falls (slice_index heads k) (slice_index heads k) (chained.within k)
      ∙ sym (ap (λ (b : Bool). cond b (noted n list) list) s.1)
]
  where
    more : List Entry
    more = entries ++ record { number = n; before = place } ∷ []

-- and the table keeps its form
pub chained-first : (entries : List Entry) (heads : List ℕ) (cell n place : ℕ) → AreChained entries heads (n + 1) → cell < length heads → place ≡ slice_index heads cell → length entries < 4000000000
    → AreChained (entries ++ record { number = n; before = place } ∷ []) (set heads cell (length entries + 1)) (n + 1)
chained-first entries heads cell n place chained l at few =
    let entry : Entry = record { number = n; before = place } in
    record {
      falls = Falls-push entries entry chained.falls (omega (arith, at, chained.within cell));
      within = λ k. elim (same-or-not k cell) [
        | inl s ↦ omega (arith, length-append entries (entry ∷ []), ap (λ (j : ℕ). slice_index (set heads cell (length entries + 1)) j) s.0, get_or-set_same heads cell (length entries + 1) 0 l)
        | inr s ↦ omega (arith, length-append entries (entry ∷ []), chained.within k, get_or-set_other heads cell k (length entries + 1) 0 s.0)
      ];
      numbers = All-push (λ (e : Entry). e.number < n + 1) entries entry chained.numbers (omega arith);
      few = omega (arith, length-append entries (entry ∷ []));
    }

-- the list of a cell in the view
pub readers-view : (entries : List Entry) (heads : List ℕ) (cell : ℕ) → readers_at (map (chain entries) heads) cell ≡ chain entries (slice_index heads cell)
readers-view entries [] cell = refl
readers-view entries (h ∷ hs) zero = refl
readers-view entries (h ∷ hs) (suc cell) = readers-view entries hs cell

-- a greater number is not the first
pub begins-fresh : (n : ℕ) (ns : List ℕ) → All (λ m. m < n) ns → begins n ns ≡ false
begins-fresh n [] all = refl
begins-fresh n (m ∷ ms) all = ne_eqb m n (λ e. absurd (omega (arith, all 0 0 (omega arith), e)))

-- one cell of the scope more
list-more : (r e : Bool) (n : ℕ) (olds nows news : List ℕ) → begins n olds ≡ false → nows ≡ cond r (n ∷ olds) olds → news ≡ cond e (noted n nows) nows → news ≡ cond (r || e) (n ∷ olds) olds
list-more true true n olds nows news fresh now new = new ∙ ap (noted n) now ∙ ap (λ (b : Bool). cond b (n ∷ olds) (n ∷ n ∷ olds)) (nat_eq_equiv.refl n)
list-more false true n olds nows news fresh now new = new ∙ ap (noted n) now ∙ ap (λ (b : Bool). cond b olds (n ∷ olds)) fresh
list-more true false n olds nows news fresh now new = new ∙ now
list-more false false n olds nows news fresh now new = new ∙ now

pub lists-more : (scope : List ℕ) (i cell n : ℕ) (old now new : ℕ → List ℕ) → i < length scope → cell ≡ slice_index scope i → ((k : ℕ) → begins n (old k) ≡ false) → ((k : ℕ) → now k ≡ cond (reads_cell (take i scope) k) (n ∷ old k) (old k))
    → ((k : ℕ) → new k ≡ cond (nat_eq k cell) (noted n (now k)) (now k)) → (k : ℕ) → new k ≡ cond (reads_cell (take (i + 1) scope) k) (n ∷ old k) (old k)
lists-more scope i cell n old now new l e fresh nows news k =
    list-more (reads_cell (take i scope) k) (nat_eq k cell) n (old k) (now k) (new k) (fresh k) (nows k) (news k)
    ∙ ap (λ (b : Bool). cond b (n ∷ old k) (old k)) (ap (λ (c : ℕ). reads_cell (take i scope) k || nat_eq k c) e ∙ sym (list_any_more (nat_eq k) scope i 0 l))

single : (m n : ℕ) → Contains (m ∷ []) n → m ≡ n
single m n c = elim (Contains-push_cases [] m n c) [
  | inl h ↦ absurd (omega (arith, h.1))
  | inr e ↦ e
]

-- where the lists had exactly those that read a cell, they have them again with the next one
exact-more : (scopes : List (List ℕ)) (n : ℕ) (scope : List ℕ) (old new : List (List ℕ)) → AddsReader old n scope new → ((cell : ℕ) → All (λ m. m < n) (readers_at old cell)) → n ≡ length scopes → AreReaders scopes old
    → (cell m : ℕ) → Contains (readers_at new cell) m ↔ ((m < length (scopes ++ scope ∷ [])) × (reads_cell (get_or (scopes ++ scope ∷ []) m []) cell ≡ true))
exact-more scopes n scope old new adds fresh e were cell m = elim (same-or-not m n) [
  | inl s ↦
      let at : get_or (scopes ++ scope ∷ []) m [] ≡ scope = get_or_push scopes scope [] m (sym (s.0 ∙ e)) in (
        λ c. (omega (arith, s.0, e, length-append scopes (scope ∷ [])), ap (λ (xs : List ℕ). reads_cell xs cell) at ∙ came (reads_cell scope cell) (readers_at old cell) (fresh cell) (subst (λ (j : ℕ). Contains (cond (reads_cell scope cell) (n ∷ readers_at old cell) (readers_at old cell)) j) s.0 (subst (λ (xs : List ℕ). Contains xs m) (adds.lists cell) c))),
        λ h. subst (λ (xs : List ℕ). Contains xs m) (sym (adds.lists cell)) (subst (λ (j : ℕ). Contains (cond (reads_cell scope cell) (n ∷ readers_at old cell) (readers_at old cell)) j) (sym s.0) (comes (reads_cell scope cell) (readers_at old cell) (ap (λ (xs : List ℕ). reads_cell xs cell) (sym at) ∙ h.1))),
      )
  | inr s ↦ (
    λ c.
        let was = (were.exact cell m).0 (stayed (reads_cell scope cell) (readers_at old cell) (λ q. s.0 (sym q)) (subst (λ (xs : List ℕ). Contains xs m) (adds.lists cell) c)) in
        (omega (arith, was.0, length-append scopes (scope ∷ [])), ap (λ (xs : List ℕ). reads_cell xs cell) (get_or_append_left scopes (scope ∷ []) [] m was.0) ∙ was.1),
    λ h.
        let l : m < length scopes = omega (arith, h.0, length-append scopes (scope ∷ []), s.0, e) in
        subst (λ (xs : List ℕ). Contains xs m) (sym (adds.lists cell)) (stays (reads_cell scope cell) (readers_at old cell) ((were.exact cell m).1 (l, ap (λ (xs : List ℕ). reads_cell xs cell) (sym (get_or_append_left scopes (scope ∷ []) [] m l)) ∙ h.1))),
  )
]
  where
    came : (r : Bool) (olds : List ℕ) → All (λ m. m < n) olds → Contains (cond r (n ∷ olds) olds) n → r ≡ true
    came true olds all c = refl
    came false olds all c = absurd (omega (arith, All-contains (λ m. m < n) olds n all c))

    comes : (r : Bool) (olds : List ℕ) → r ≡ true → Contains (cond r (n ∷ olds) olds) n
    comes true olds e = Contains-append_left (n ∷ []) olds n (Contains-push [] n)
    comes false olds e = absurd (cc e)

    stayed : (r : Bool) (olds : List ℕ) → (n ≡ m → ⊥) → Contains (cond r (n ∷ olds) olds) m → Contains olds m
    stayed true olds other c = elim (Contains-append_cases (n ∷ []) olds m c) [
      | inl h ↦ absurd (other (single n m h))
      | inr h ↦ h
    ]
    stayed false olds other c = c

    stays : (r : Bool) (olds : List ℕ) → Contains olds m → Contains (cond r (n ∷ olds) olds) m
    stays true olds c = Contains-append_right (n ∷ []) olds m c
    stays false olds c = c

readers-more-count : (r : Bool) (n m : ℕ) (olds : List ℕ) → length olds ≡ m → length (cond r (n ∷ olds) olds) ≡ m + cond r 1 0
readers-more-count true n m olds e = omega (arith, e)
readers-more-count false n m olds e = omega (arith, e)

count-fresh : (n : ℕ) (ms : List ℕ) → All (λ m. m < n) ms → times n ms ≡ 0
count-fresh n [] all = refl
count-fresh n (m ∷ ms) all =
    omega (
      arith,
      sum_by-cons (λ (k : ℕ). cond (nat_eq k n) 1 0) m ms,
      ap {B = ℕ} (λ (b : Bool). cond b 1 0) (ne_eqb m n (λ e. absurd (omega (arith, all 0 0 (omega arith), e)))),
      count-fresh n ms (λ k d l. all (suc k) d (omega (arith, l))),
    )

-- a greater number at the front stands there once
once-more : (r : Bool) (n m : ℕ) (olds : List ℕ) → All (λ k. k < n) olds → times m olds ≤ 1 → times m (cond r (n ∷ olds) olds) ≤ 1
once-more false n m olds all h = h
once-more true n m olds all h = elim (same-or-not n m) [
  | inl s ↦
      let none : times m olds ≡ 0 = ap (λ (k : ℕ). times k olds) (sym s.0) ∙ count-fresh n olds all in
      omega (arith, none, sum_by-cons (λ (k : ℕ). cond (nat_eq k m) 1 0) n olds, ap {B = ℕ} (λ (b : Bool). cond b 1 0) s.1)
  | inr s ↦ omega (arith, h, sum_by-cons (λ (k : ℕ). cond (nat_eq k m) 1 0) n olds, ap {B = ℕ} (λ (b : Bool). cond b 1 0) s.1)
]

pub readers-more : (scopes : List (List ℕ)) (n : ℕ) (scope : List ℕ) (old new : List (List ℕ)) → AddsReader old n scope new → ((cell : ℕ) → All (λ m. m < n) (readers_at old cell)) → n ≡ length scopes → AreReaders scopes old → AreReaders (scopes ++ scope ∷ []) new
readers-more scopes n scope old new adds fresh e were = record {
  exact = exact-more scopes n scope old new adds fresh e were;
  count = λ cell.
      ap length (adds.lists cell) ∙ readers-more-count (reads_cell scope cell) n (count_by (λ (s : List ℕ). reads_cell s cell) scopes) (readers_at old cell) (were.count cell)
      ∙ sym (sum_by_push (λ (s : List ℕ). cond (reads_cell s cell) 1 0) scopes scope);
  once = λ cell m. omega (arith, ap (times m) (adds.lists cell), once-more (reads_cell scope cell) n m (readers_at old cell) (fresh cell) (were.once cell m));
}

-- the same, after the fields were written one by one
pub noted-pushed : (entries entries' : List Entry) (heads : List ℕ) (cell n place top : ℕ) → AreChained entries heads (n + 1) → cell < length heads → place ≡ slice_index heads cell → begins n (chain entries place) ≡ false
    → entries' ≡ entries ++ record { number = n; before = place } ∷ [] → top ≡ length entries + 1
    → (k : ℕ) → chain entries' (slice_index (set heads cell top) k) ≡ cond (nat_eq k cell) (noted n (chain entries (slice_index heads k))) (chain entries (slice_index heads k))
noted-pushed entries entries' heads cell n place top chained l at e p t k =
    ap (λ (es : List Entry). chain es (slice_index (set heads cell top) k)) p ∙ ap (λ (m : ℕ). chain (entries ++ record { number = n; before = place } ∷ []) (slice_index (set heads cell m) k)) t ∙ noted-first entries heads cell n place chained l at e k

pub chained-pushed : (entries entries' : List Entry) (heads : List ℕ) (cell n place top : ℕ) → AreChained entries heads (n + 1) → cell < length heads → place ≡ slice_index heads cell → length entries < 4000000000
    → entries' ≡ entries ++ record { number = n; before = place } ∷ [] → top ≡ length entries + 1 → AreChained entries' (set heads cell top) (n + 1)
chained-pushed entries entries' heads cell n place top chained l at few p t =
    subst (λ (es : List Entry). AreChained es (set heads cell top) (n + 1)) (sym p) (subst (λ (m : ℕ). AreChained (entries ++ record { number = n; before = place } ∷ []) (set heads cell m) (n + 1)) (sym t) (chained-first entries heads cell n place chained l at few))

-- what contracts see of the lists of a whole scope
pub adds-all : (entries : List Entry) (heads : List ℕ) (n : ℕ) (scope part : List ℕ) (old : List (List ℕ)) → length heads ≡ length old → part ≡ scope
    → ((k : ℕ) → chain entries (slice_index heads k) ≡ cond (reads_cell part k) (n ∷ readers_at old k) (readers_at old k)) → AddsReader old n scope (map (chain entries) heads)
adds-all entries heads n scope part old cells p lists = record {
  length = length-map heads (chain entries) ∙ cells;
  lists = λ k. readers-view entries heads k ∙ lists k ∙ ap (λ (xs : List ℕ). cond (reads_cell xs k) (n ∷ readers_at old k) (readers_at old k)) p;
}

-- one number more is woken
pub woken-more : (woken : List ℕ) (n : ℕ) (old now new : List Bool) → AreAwake woken old now → n < length now → new ≡ set now n true → AreAwake (woken ++ n ∷ []) old new
woken-more woken n old now new before l e = record {
  length = ap length e ∙ length-set now n true ∙ before.length;
  waits = λ k. ap (λ (bs : List Bool). get_or bs k false) e ∙ step k (same-or-not k n) ∙ ap (λ (b : Bool). b || get_or old k false) (sym (list_any-append (nat_eq k) woken (n ∷ [])));
}
  where
    yes : (r e o : Bool) → e ≡ true → true ≡ ((r || (e || false)) || o)
    yes true e o h = refl
    yes false true o h = refl
    yes false false o h = absurd (cc h)

    no : (r e o : Bool) → e ≡ false → (r || o) ≡ ((r || (e || false)) || o)
    no true e o h = refl
    no false false o h = refl
    no false true o h = absurd (cc h)

    step : (k : ℕ) → ((k ≡ n) × (nat_eq k n ≡ true)) ⊎ ((k ≡ n → ⊥) × (nat_eq k n ≡ false)) → get_or (set now n true) k false ≡ ((reads_cell woken k || (nat_eq k n || false)) || get_or old k false)
    step k (inl s) = ap (λ (j : ℕ). get_or (set now n true) j false) s.0 ∙ get_or-set_same now n true false l ∙ yes (reads_cell woken k) (nat_eq k n) (get_or old k false) s.1
    step k (inr s) = get_or-set_other now n k true false s.0 ∙ before.waits k ∙ no (reads_cell woken k) (nat_eq k n) (get_or old k false) s.1

-- who is met next is among all
pub met-next : (done left rest all : List ℕ) (n bound bound' : ℕ) → done ++ left ≡ all → left ≡ n ∷ rest → All (λ m. m < bound) all → bound ≤ bound' → n < bound'
met-next done left rest all n bound bound' e s named b =
    let split : all ≡ done ++ n ∷ rest = sym e ∙ ap (λ (xs : List ℕ). done ++ xs) s in
    omega (arith, b, named (length done) 0 (omega (arith, ap length split, length-append done (n ∷ rest))), ap (λ (xs : List ℕ). get_or xs (length done) 0) split, get_or_at done n rest 0 (length done) refl)

-- one number more waits, or none
pub count-woken : (now new : List Bool) (n : ℕ) → n < length now → new ≡ set now n true → count_by (λ (w : Bool). w) new ≤ count_by (λ (w : Bool). w) now + 1
count-woken now new n l e = omega (arith, ap (count_by (λ (w : Bool). w)) e, sum_by-set (λ (w : Bool). cond w 1 0) now n true false l)

-- a bound more
pub chained-more : (entries : List Entry) (heads : List ℕ) (n : ℕ) → AreChained entries heads n → AreChained entries heads (n + 1)
chained-more entries heads n chained = record {
  falls = chained.falls;
  within = chained.within;
  numbers = λ k d l. omega (arith, chained.numbers k d l);
  few = chained.few;
}

-- the numbers in the list of a cell
pub numbers-below : (entries : List Entry) (heads : List ℕ) (n : ℕ) → AreChained entries heads n → (cell : ℕ) → All (λ m. m < n) (readers_at (map (chain entries) heads) cell)
numbers-below entries heads n chained cell =
    subst (λ (xs : List ℕ). All (λ m. m < n) xs) (sym (readers-view entries heads cell)) (walk-below entries n chained.falls chained.numbers (slice_index heads cell) (slice_index heads cell) (chained.within cell))

-- the list of a cell, as it is lent
pub head-list : (entries es : List Entry) (heads : List ℕ) (cell place : ℕ) (list : List ℕ) → list ≡ chain es place → es ≡ entries → place ≡ slice_index heads cell → list ≡ readers_at (map (chain entries) heads) cell
head-list entries es heads cell place list l e p = l ∙ ap (λ (xs : List Entry). chain xs place) e ∙ ap (chain entries) p ∙ sym (readers-view entries heads cell)

-- the readers of a cell, where the places hold what they held
pub covered : (entries entries' : List Entry) (heads heads' : List ℕ) (t : Table) (cell : ℕ) → entries' ≡ entries → slice_index heads' cell ≡ slice_index heads cell → map (chain entries) heads ≡ t.readers
    → readers_at (map (chain entries') heads') cell ≡ readers_at t.readers cell
covered entries entries' heads heads' t cell e h view =
    ap (λ (es : List Entry). readers_at (map (chain es) heads') cell) e ∙ readers-view entries heads' cell ∙ ap (chain entries) h ∙ sym (readers-view entries heads cell) ∙ ap (λ (rs : List (List ℕ)). readers_at rs cell) view
