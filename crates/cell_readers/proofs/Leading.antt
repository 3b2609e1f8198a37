-- Entries that are made to lead elsewhere.
use Rattle.std.proofs.Common.{◌≡◌, ℕ, zero, suc, ◌-◌, ◌<◌, ◌≤◌, inl, inr, true, false, nat_eq, List, [], ◌∷◌, arith, refl, sym, ap, subst, ◌∙◌, length, get_or, set, length-set}
use Rattle.std.proofs.lemmas.Bool.{cases_eq}
use Rattle.std.proofs.lemmas.List.{get_or-set_same, get_or-set_other, get_or_default}
use Rattle.cell_readers.specs.declared.chain.Entry.{Entry}
use Rattle.cell_readers.specs.Entries.{no_entry, Falls, walk, chain, IsPlace, begins, number_at, times, Drops}
use Rattle.cell_readers.proofs.Chains.{walk-enough, chain-place}
use Rattle.cell_readers.proofs.Dropped.{drops-same, drops-then, drops-behind, drops-first, times-other}

-- an entry with the same number leads elsewhere
abbrev pub led : List Entry → ℕ → ℕ → List Entry
led entries j next = set entries j (record (get_or entries j no_entry) { before = next })

-- From one place a walk comes to another, past entries of other numbers.
pub data Leads (entries : List Entry) (n : ℕ) : ℕ → ℕ → Type 0 where
  Here : (place : ℕ) → Leads entries n place place
  Past : (k at : ℕ) → nat_eq (number_at entries k) n ≡ false → Leads entries n (get_or entries k no_entry).before at → Leads entries n (suc k) at

pub number-led : (entries : List Entry) (j next k : ℕ) → j < length entries → number_at (led entries j next) k ≡ number_at entries k
number-led entries j next k l = elim (cases_eq k j) [
  | inl e ↦
      ap (λ (i : ℕ). number_at (led entries j next) i) e ∙ ap (λ (x : Entry). x.number) (get_or-set_same entries j (record (get_or entries j no_entry) { before = next }) no_entry l) ∙ ap (number_at entries) (sym e)
  | inr n ↦ ap (λ (x : Entry). x.number) (get_or-set_other entries j k (record (get_or entries j no_entry) { before = next }) no_entry n)
]

pub falls-led : (entries : List Entry) (j next : ℕ) → Falls entries → j < length entries → next ≤ j → Falls (led entries j next)
falls-led entries j next falls l low k = elim (cases_eq k j) [
  | inl e ↦
      omega (arith, low, e, ap (λ (i : ℕ). (get_or (led entries j next) i no_entry).before) e, ap (λ (x : Entry). x.before) (get_or-set_same entries j (record (get_or entries j no_entry) { before = next }) no_entry l))
  | inr n ↦ omega (arith, falls k, ap (λ (x : Entry). x.before) (get_or-set_other entries j k (record (get_or entries j no_entry) { before = next }) no_entry n))
]

-- Where the list that it leads to has the number less often, so have all lists.
walk-led : (entries : List Entry) (n j next : ℕ) → Falls entries → j < length entries → next ≤ j → Drops n (chain entries (get_or entries j no_entry).before) (chain entries next)
    → (most place : ℕ) → place ≤ most → Drops n (walk most entries place) (walk most (led entries j next) place)
walk-led entries n j next falls l low drops zero place h = drops-same n []
walk-led entries n j next falls l low drops (suc most) zero h = drops-same n []
walk-led entries n j next falls l low drops (suc most) (suc k) h = elim (cases_eq k j) [
  | inl e ↦ here e (walk-led entries n j next falls l low drops most next (omega (arith, low, e, h)))
  | inr o ↦
      let same = get_or-set_other entries j k (record (get_or entries j no_entry) { before = next }) no_entry o in
      subst (λ (x : Entry). Drops n (walk (suc most) entries (suc k)) (x.number ∷ walk most (led entries j next) x.before)) (sym same)
      (drops-behind n (number_at entries k) (walk most entries (get_or entries k no_entry).before) (walk most (led entries j next) (get_or entries k no_entry).before)
      (walk-led entries n j next falls l low drops most (get_or entries k no_entry).before (omega (arith, falls k, h))))
]
  where
    here : k ≡ j → Drops n (walk most entries next) (walk most (led entries j next) next) → Drops n (walk (suc most) entries (suc k)) (walk (suc most) (led entries j next) (suc k))
    here e later =
        let same = ap (λ (i : ℕ). get_or (led entries j next) i no_entry) e ∙ get_or-set_same entries j (record (get_or entries j no_entry) { before = next }) no_entry l in
        let old : walk most entries (get_or entries j no_entry).before ≡ chain entries (get_or entries j no_entry).before = walk-enough entries falls most (get_or entries j no_entry).before (get_or entries j no_entry).before (omega (arith, falls j, e, h)) (omega arith) in
        let new : walk most entries next ≡ chain entries next = walk-enough entries falls most next next (omega (arith, low, e, h)) (omega arith) in
        subst (λ (x : Entry). Drops n (walk (suc most) entries (suc k)) (x.number ∷ walk most (led entries j next) x.before)) (sym same)
        (subst (λ (i : ℕ). Drops n (number_at entries i ∷ walk most entries (get_or entries i no_entry).before) (number_at entries j ∷ walk most (led entries j next) next)) (sym e)
        (drops-behind n (number_at entries j) (walk most entries (get_or entries j no_entry).before) (walk most (led entries j next) next)
        (drops-then n (walk most entries (get_or entries j no_entry).before) (walk most entries next) (walk most (led entries j next) next)
        (subst (λ (ms : List ℕ). Drops n ms (walk most entries next)) (sym old) (subst (λ (ms : List ℕ). Drops n (chain entries (get_or entries j no_entry).before) ms) (sym new) drops))
        later)))

pub drops-led : (entries : List Entry) (n j next : ℕ) → Falls entries → j < length entries → next ≤ j → Drops n (chain entries (get_or entries j no_entry).before) (chain entries next)
    → (place : ℕ) → Drops n (chain entries place) (chain (led entries j next) place)
drops-led entries n j next falls l low drops place = walk-led entries n j next falls l low drops place place (omega arith)

-- a walk comes to a place before
leads-down : (entries : List Entry) (n place at : ℕ) → Falls entries → Leads entries n place at → at ≤ place
leads-down entries n place at falls (Here p) = omega arith
leads-down entries n place at falls (Past k p e h) = omega (arith, falls k, leads-down entries n (get_or entries k no_entry).before p falls h)

-- the entries past which it came do not change with one at or before its end
leads-led : (entries : List Entry) (n j next place at : ℕ) → Falls entries → at ≡ suc j → Leads entries n place at → Leads (led entries j next) n place at
leads-led entries n j next place at falls here (Here p) = Here p
leads-led entries n j next place at falls here (Past k p e h) =
    let same = get_or-set_other entries j k (record (get_or entries j no_entry) { before = next }) no_entry (λ q. absurd (omega (arith, q, here, falls k, leads-down entries n (get_or entries k no_entry).before p falls h))) in
    Past k p (ap (λ (x : Entry). nat_eq x.number n) same ∙ e)
    (subst (λ (x : Entry). Leads (led entries j next) n x.before p) (sym same) (leads-led entries n j next (get_or entries k no_entry).before p falls here h))

leads-then : (entries : List Entry) (n a b c : ℕ) → Leads entries n a b → Leads entries n b c → Leads entries n a c
leads-then entries n a b c (Here p) h = h
leads-then entries n a b c (Past k p e g) h = Past k c e (leads-then entries n (get_or entries k no_entry).before p c g h)

-- one entry further, which leads elsewhere from now on
pub leads-on : (entries : List Entry) (n j next place at : ℕ) → Falls entries → j < length entries → at ≡ suc j → begins n (chain entries at) ≡ false → Leads entries n place at → Leads (led entries j next) n place next
leads-on entries n j next place at falls l here other h =
    leads-then (led entries j next) n place at next (leads-led entries n j next place at falls here h)
    (subst (λ (i : ℕ). Leads (led entries j next) n i next) (sym here)
    (Past j next (ap (λ (m : ℕ). nat_eq m n) (number-led entries j next j l) ∙ begins_here)
    (subst (λ (x : Entry). Leads (led entries j next) n x.before next) (sym (get_or-set_same entries j (record (get_or entries j no_entry) { before = next }) no_entry l)) (Here next))))
  where
    begins_here : nat_eq (number_at entries j) n ≡ false
    begins_here = ap (begins n) (sym (chain-place entries at j falls (omega (arith, here)))) ∙ other

leads-end : (entries : List Entry) (n place at : ℕ) → Falls entries → at ≡ 0 → Leads entries n place at → times n (chain entries place) ≡ 0
leads-end entries n place at falls e (Here p) = ap (λ (i : ℕ). times n (chain entries i)) e
leads-end entries n place at falls e (Past k p o g) =
    ap (times n) (chain-place entries (suc k) k falls (omega arith)) ∙ times-other n (number_at entries k) (chain entries (get_or entries k no_entry).before) o (leads-end entries n (get_or entries k no_entry).before p falls e g)

-- a walk to the end, past entries of other numbers
pub leads-none : (entries : List Entry) (n place : ℕ) → Falls entries → Leads entries n place 0 → times n (chain entries place) ≡ 0
leads-none entries n place falls h = leads-end entries n place 0 falls refl h

-- ---- the list behind an entry

-- a list that begins with a number has a place
pub place-there : (entries : List Entry) (n place : ℕ) → begins n (chain entries place) ≡ true → 1 ≤ place
place-there entries n zero e = absurd (cc)
place-there entries n (suc k) e = omega arith

-- the list from the entry behind the first on
pub drops-on : (entries : List Entry) (n first at before : ℕ) → IsPlace entries at → begins n (chain entries at) ≡ true → before ≡ (get_or entries (at - 1) no_entry).before
    → Drops n (chain entries first) (chain entries at) → IsPlace entries before × (before < at) × Drops n (chain entries first) (chain entries before)
drops-on entries n first at before is e b drops =
    let inside = place-there entries n at e in
    let here : chain entries at ≡ number_at entries (at - 1) ∷ chain entries (get_or entries (at - 1) no_entry).before = chain-place entries at (at - 1) is.falls (omega (arith, inside)) in
    let same : nat_eq (number_at entries (at - 1)) n ≡ true = ap (begins n) (sym here) ∙ e in
    let low = is.falls (at - 1) in (
      record { falls = is.falls; within = omega (arith, b, low, is.within) },
      omega (arith, b, low, inside),
      drops-then n (chain entries first) (chain entries at) (chain entries before) drops
          (subst (λ (ms : List ℕ). Drops n ms (chain entries before)) (sym here)
          (subst (λ (p : ℕ). Drops n (number_at entries (at - 1) ∷ chain entries (get_or entries (at - 1) no_entry).before) (chain entries p)) (sym b)
          (drops-first n (number_at entries (at - 1)) (chain entries (get_or entries (at - 1) no_entry).before) same))),
    )

-- ---- the entries of a list, one after another

begins-led : (entries : List Entry) (n j next place : ℕ) → Falls entries → j < length entries → next ≤ j → begins n (chain (led entries j next) place) ≡ begins n (chain entries place)
begins-led entries n j next zero falls l low = refl
begins-led entries n j next (suc k) falls l low =
    ap (begins n) (chain-place (led entries j next) (suc k) k (falls-led entries j next falls l low) (omega arith)) ∙ ap (λ (m : ℕ). nat_eq m n) (number-led entries j next k l)
    ∙ sym (ap (begins n) (chain-place entries (suc k) k falls (omega arith)))

-- The list at a place has lost the number as far as another place, and no list changed but for it.
pub record IsDropping (old now : List Entry) (n place at : ℕ) : Type 0 where
  pub falls : Falls now
  pub len : length now ≡ length old
  pub within : at ≤ length now
  pub other : begins n (chain now at) ≡ false
  pub numbers : (k : ℕ) → number_at now k ≡ number_at old k
  pub drops : (k : ℕ) → Drops n (chain old k) (chain now k)
  pub leads : Leads now n place at

pub dropping-first : (old : List Entry) (n place : ℕ) → IsPlace old place → begins n (chain old place) ≡ false → IsDropping old old n place place
dropping-first old n place is other = record {
  falls = is.falls;
  len = refl;
  within = is.within;
  other = other;
  numbers = λ k. refl;
  drops = λ k. drops-same n (chain old k);
  leads = Here place;
}

-- the entry at the place leads past the number
pub dropping-more : (old now : List Entry) (n place at next : ℕ) (x : Entry) → IsDropping old now n place at → 1 ≤ at → x ≡ get_or now (at - 1) x
    → next ≤ (get_or now (at - 1) no_entry).before → begins n (chain now next) ≡ false → Drops n (chain now (get_or now (at - 1) no_entry).before) (chain now next)
    → IsDropping old (set now (at - 1) (record { number = x.number; before = next })) n place next
dropping-more old now n place at next x h some read before other drops =
    subst (λ (e : Entry). IsDropping old (set now (at - 1) (record { number = e.number; before = next })) n place next) (sym same) record {
      falls = falls-led now (at - 1) next h.falls inside low;
      len = length-set now (at - 1) (record (get_or now (at - 1) no_entry) { before = next }) ∙ h.len;
      within = omega (arith, low, inside, length-set now (at - 1) (record (get_or now (at - 1) no_entry) { before = next }));
      other = begins-led now n (at - 1) next next h.falls inside low ∙ other;
      numbers = λ k. number-led now (at - 1) next k inside ∙ h.numbers k;
      drops = λ k. drops-then n (chain old k) (chain now k) (chain (led now (at - 1) next) k) (h.drops k) (drops-led now n (at - 1) next h.falls inside low drops k);
      leads = leads-on now n (at - 1) next place at h.falls inside (omega (arith, some)) h.other h.leads;
    }
  where
    inside : at - 1 < length now
    inside = omega (arith, some, h.within)

    low : next ≤ at - 1
    low = omega (arith, before, h.falls (at - 1))

    same : x ≡ get_or now (at - 1) no_entry
    same = read ∙ get_or_default now (at - 1) x no_entry inside

-- the end was reached
pub dropping-last : (old now : List Entry) (n place at : ℕ) → IsDropping old now n place at → at ≡ 0 → times n (chain now place) ≡ 0
dropping-last old now n place at h e = leads-none now n place h.falls (subst (λ (p : ℕ). Leads now n place p) e h.leads)

-- the next place is one of the table
pub dropping-place : (old now : List Entry) (n place at : ℕ) (x : Entry) → IsDropping old now n place at → 1 ≤ at → x ≡ get_or now (at - 1) x → IsPlace now x.before × (x.before ≡ (get_or now (at - 1) no_entry).before)
dropping-place old now n place at x h some read =
    let inside : at - 1 < length now = omega (arith, some, h.within) in
    let same : x.before ≡ (get_or now (at - 1) no_entry).before = ap (λ (e : Entry). e.before) (read ∙ get_or_default now (at - 1) x no_entry inside) in
    (record { falls = h.falls; within = omega (arith, same, h.falls (at - 1), inside) }, same)
