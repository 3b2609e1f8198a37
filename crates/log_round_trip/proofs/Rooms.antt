-- Each record of an accepted mission has room after the ones before it.
use Rattle.std.proofs.Common.{◌≡◌, ℕ, ◌+◌, ◌≤◌, true, List, [], ◌∷◌, ◌++◌, length, refl, sym, ap, ◌∙◌, arith, nat_le, append_assoc, length-append, append-nil}
use Rattle.std.specs.Prelude.{Ok}
use Rattle.std.specs.List.{list_all}
use Rattle.std.proofs.Math.Nat.{mul-le-mul_right}
use Rattle.std.proofs.lemmas.Bool.Decides.{nat_tests}
use Rattle.std.proofs.lemmas.List.Sums.{sum_by-cons}
use Rattle.mission_items.specs.Made.{signals_in, signals_made, variables_in, variables_made}
use Rattle.mission_items.specs.Room.{cells_of, feet_from, feet_of, foot_of, signal_cells}
use Rattle.mission_items.specs.Valid.{AreFew, may_precede_cut}
use Rattle.mission_items.specs.declared.item.Item.{Item}
use Rattle.mission_items.specs.declared.mission.Mission.{Mission}
use Rattle.mission_items.proofs.Making.{feet-last, signals-append, signals-last, variables-append, variables-last}
use Rattle.mission_log.specs.Room.{room_for}
use Rattle.log_draft.proofs.Keeping.{HasRoom}
use Rattle.log_draft.proofs.Records.{open-feet, open-makes}

at_most : (m n : ℕ) → m ≤ n → nat_le m n ≡ true
at_most m n h = grind (arith, nat_tests)

pub room-is : (d : Mission) (i : Item) → HasRoom d i → room_for d i ≡ Ok tt
unfolding room_for
room-is d i h = rw (at_most _ _ h.signals, at_most _ _ h.variables, at_most _ _ h.cells, at_most _ _ h.feet, at_most _ _ h.records) refl

fewer-cells : (cuts : List ℕ) (s t v w : ℕ) → s ≤ t → v ≤ w → cells_of cuts s v ≤ cells_of cuts t w
fewer-cells cuts s t v w h k = let p = mul-le-mul_right (signal_cells cuts) h in omega (arith, p, k)

-- the feet of further records
feet-append : (cuts : List ℕ) (before xs ys : List Item) → feet_from cuts before (xs ++ ys) ≡ feet_from cuts before xs + feet_from cuts (before ++ xs) ys
feet-append cuts before [] ys = ap (λ (b : List Item). feet_from cuts b ys) (sym (append-nil before)) ∙ omega arith
feet-append cuts before (i ∷ xs) ys =
    let more = feet-append cuts (before ++ i ∷ []) xs ys in
    let same = ap (λ (b : List Item). feet_from cuts b ys) (append_assoc before (i ∷ []) xs) in
    omega (arith, more, same)

-- ---- where no cut comes any more

module _ (version ticks width : ℕ) (cuts : List ℕ) (before rest : List Item) (i : Item) where
  abbrev now : Mission
  now = record { version = version; ticks = ticks; width = width; cuts = cuts; items = before }

  all-signals : signals_in before + signals_made i ≤ signals_in (before ++ i ∷ rest)
  all-signals = omega (arith, signals-append before (i ∷ rest), sum_by-cons signals_made i rest)

  all-variables : variables_in before + variables_made i ≤ variables_in (before ++ i ∷ rest)
  all-variables = omega (arith, variables-append before (i ∷ rest), sum_by-cons variables_made i rest)

  all-feet : feet_of cuts before + foot_of cuts before i ≤ feet_of cuts (before ++ i ∷ rest)
  all-feet = omega (arith, feet-append cuts [] before (i ∷ rest))

  all-records : length before + 1 ≤ length (before ++ i ∷ rest)
  all-records = omega (arith, length-append before (i ∷ rest))

  pub room-whole : AreFew (record { version = version; ticks = ticks; width = width; cuts = cuts; items = before ++ i ∷ rest }) → HasRoom now i
  room-whole few = record {
    signals = omega (arith, all-signals, few.signals);
    variables = omega (arith, all-variables, few.variables);
    cells = omega (arith, fewer-cells cuts (signals_in before + signals_made i) (signals_in (before ++ i ∷ rest)) (variables_in before + variables_made i) (variables_in (before ++ i ∷ rest)) all-signals all-variables, few.cells);
    feet = omega (arith, all-feet, few.feet);
    records = omega (arith, all-records, few.records);
  }

  -- ---- where all records may stand before a cut

  pub room-open : list_all may_precede_cut (before ++ i ∷ []) ≡ true → length (before ++ i ∷ rest) ≤ 1000000 → HasRoom now i
  room-open open_ few =
      let made = open-makes (before ++ i ∷ []) open_ in
      let none : signals_in before + signals_made i ≡ 0 = omega (arith, signals-last before i, made.0) in
      let no : variables_in before + variables_made i ≡ 0 = omega (arith, variables-last before i, made.1) in
      record {
        signals = omega (arith, none);
        variables = omega (arith, no);
        cells = omega (arith, fewer-cells cuts (signals_in before + signals_made i) 0 (variables_in before + variables_made i) 0 (omega (arith, none)) (omega (arith, no)));
        feet = omega (arith, open-feet cuts [] (before ++ i ∷ []) open_, feet-last cuts before i);
        records = omega (arith, all-records, few);
      }
