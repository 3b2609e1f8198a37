-- A small mission that a log could have: a signal with a rate, a measurement, and its value at an uncertain tick.
use Rattle.std.proofs.Common.{◌≡◌, ℕ, ◌≤◌, List, [], ◌∷◌, ◌++◌, inl, refl, sym, ap, ap₂, ◌∙◌, subst, arith, pos, length, true, lit≤}
use Rattle.std.proofs.lemmas.List.Elements.{All-from_recursion}
use Rattle.std.proofs.lemmas.Int.{ints}
use Rattle.tube_spec.specs.Span.{Span}
use Rattle.tube_spec.specs.Grid.{IsGrid, last_tick}
use Rattle.slice_gates.specs.Cuts.{uniform_cuts}
use Rattle.tube_store.specs.declared.SignalId.{SignalId}
use Rattle.tube_store.specs.declared.VarId.{VarId}
use Rattle.log_spelling.specs.declared.reference.Part.TheVariants as part
use Rattle.mission_items.specs.declared.decl.Decl.TheVariants as decl
use Rattle.mission_items.specs.declared.item.Item.{Item}
use Rattle.mission_items.specs.declared.item.Item.TheVariants as item
use Rattle.mission_items.specs.declared.mission.Mission.{Mission}
use Rattle.mission_items.specs.Made.{has_head, signals_in, variables_in}
use Rattle.mission_items.specs.Names.{IsNamed}
use Rattle.mission_items.specs.Cuts.{boundaries}
use Rattle.mission_items.specs.Room.{cells_of, feet_of}
use Rattle.mission_items.specs.Valid.{AreRight, IsMission, IsRange}

abbrev span : ℕ → ℕ → Span
span lo hi = record { lo = pos lo; hi = pos hi }

abbrev x : SignalId
x = record { 0 = 0 }

abbrev v : SignalId
v = record { 0 = 1 }

abbrev t : VarId
t = record { 0 = 2 }

abbrev z : VarId
z = record { 0 = 3 }

-- the records, with the four names
abbrev pub survey : List ℕ → List ℕ → List ℕ → List ℕ → Span → Span → Span → Span → Span → List Item
survey a b c d r1 r2 r3 r4 r5 =
    item.Head ∷ item.Signal a r1 ∷ item.Signal b r2 ∷ item.Deriv x v ∷ item.At x 0 r3 ∷ item.Variable c r4 ∷ item.Variable d r5 ∷ item.Eval x t z ∷ []

abbrev pub named_survey : List Item
named_survey = survey (120 ∷ []) (118 ∷ []) (116 ∷ []) (122 ∷ []) (span 0 100) (span 10 10) (span 0 0) (span 3 6) (span 52 60)

range : (lo hi : ℕ) → lo ≤ hi → hi ≤ 1000 → IsRange (span lo hi)
range lo hi order small = (omega (arith, ints, order), record { low = omega (arith, ints); high = omega (arith, ints, small) })

before_eval : List Item
before_eval = item.Head ∷ item.Signal (120 ∷ []) (span 0 100) ∷ item.Signal (118 ∷ []) (span 10 10) ∷ item.Deriv x v ∷ item.At x 0 (span 0 0) ∷ item.Variable (116 ∷ []) (span 3 6) ∷ item.Variable (122 ∷ []) (span 52 60) ∷ []

named_t : IsNamed before_eval t
unfolding before_eval
named_t = record { name = 116 ∷ []; part = part.Whole; declared_as = decl.Variable t (span 3 6); found = refl; stands = refl }

named_z : IsNamed before_eval z
unfolding before_eval
named_z = record { name = 122 ∷ []; part = part.Whole; declared_as = decl.Variable z (span 52 60); found = refl; stands = refl }

pub survey-right : AreRight 1 10 named_survey
unfolding before_eval
survey-right = (
  refl,
  tt,
  (
    refl,
    ((refl, refl), range 0 100 (omega arith) (omega arith)),
    (
      refl,
      ((refl, refl), range 10 10 (omega arith) (omega arith)),
      (
        refl,
        (omega arith, omega arith, λ e. cc e),
        (
          refl,
          (omega arith, omega arith, range 0 0 (omega arith) (omega arith)),
          (
            refl,
            ((refl, refl), range 3 6 (omega arith) (omega arith)),
            (
              refl,
              ((refl, refl), range 52 60 (omega arith) (omega arith)),
              (
                refl,
                (omega arith, (All-from_recursion (IsNamed before_eval) (t ∷ z ∷ []) (named_t, (named_z, tt)), refl), omega arith),
                tt,
              ),
            ),
          ),
        ),
      ),
    ),
  ),
)

pub survey-mission : (m : Mission) → m.version ≡ 1 → m.ticks ≡ 10 → m.width ≡ 5 → m.cuts ≡ uniform_cuts 10 5 → IsGrid m.cuts → m.items ≡ named_survey → IsMission m
survey-mission m version ticks width cuts grid items = record {
  head = subst (λ (l : List Item). has_head l ≡ true) (sym items) refl;
  clock = record {
    known_version = inl version;
    some_tick = omega (arith, ticks);
    few_ticks = omega (arith, ticks);
    some_width = omega (arith, width);
    small_width = omega (arith, width);
    boundaries = cuts ∙ sym (ap₂ (λ (n w : ℕ). boundaries n w m.items) ticks width ∙ ap (boundaries 10 5) items);
    grid = grid;
    ends = ap last_tick cuts ∙ sym ticks;
  };
  few = record {
    records = subst (λ (l : List Item). length l ≤ 1000000) (sym items) (lit≤ tt);
    signals = subst (λ (l : List Item). signals_in l ≤ 64) (sym items) (lit≤ tt);
    variables = subst (λ (l : List Item). variables_in l ≤ 200000) (sym items) (lit≤ tt);
    cells = subst (λ (l : List Item). cells_of m.cuts (signals_in l) (variables_in l) ≤ 2000000) (sym items) (subst (λ (g : List ℕ). cells_of g 2 4 ≤ 2000000) (sym cuts) (lit≤ tt));
    feet = subst (λ (l : List Item). feet_of m.cuts l ≤ 20000000) (sym items) (subst (λ (g : List ℕ). feet_of g named_survey ≤ 20000000) (sym cuts) (lit≤ tt));
  };
  right =
      subst (λ (l : List Item). AreRight m.version m.ticks l) (sym items)
      (subst (λ (n : ℕ). AreRight n m.ticks named_survey) (sym version) (subst (λ (n : ℕ). AreRight 1 n named_survey) (sym ticks) survey-right));
}

-- a list that eight pushes made
pub eight-pushes : (l0 l1 l2 l3 l4 l5 l6 l7 l8 : List Item) (x1 x2 x3 x4 x5 x6 x7 x8 : Item) → l0 ≡ [] → l1 ≡ l0 ++ x1 ∷ [] → l2 ≡ l1 ++ x2 ∷ [] → l3 ≡ l2 ++ x3 ∷ [] → l4 ≡ l3 ++ x4 ∷ [] → l5 ≡ l4 ++ x5 ∷ []
    → l6 ≡ l5 ++ x6 ∷ [] → l7 ≡ l6 ++ x7 ∷ [] → l8 ≡ l7 ++ x8 ∷ [] → l8 ≡ x1 ∷ x2 ∷ x3 ∷ x4 ∷ x5 ∷ x6 ∷ x7 ∷ x8 ∷ []
eight-pushes l0 l1 l2 l3 l4 l5 l6 l7 l8 x1 x2 x3 x4 x5 x6 x7 x8 e0 e1 e2 e3 e4 e5 e6 e7 e8 =
    let more : Item → List Item → List Item = λ (x : Item) (l : List Item). l ++ x ∷ [] in
    e8 ∙ ap (more x8) (e7 ∙ ap (more x7) (e6 ∙ ap (more x6) (e5 ∙ ap (more x5) (e4 ∙ ap (more x4) (e3 ∙ ap (more x3) (e2 ∙ ap (more x2) (e1 ∙ ap (more x1) e0)))))))

pub survey-named : (a b c d : List ℕ) (r1 r2 r3 r4 r5 : Span) → a ≡ 120 ∷ [] → b ≡ 118 ∷ [] → c ≡ 116 ∷ [] → d ≡ 122 ∷ [] → r1 ≡ record { lo = pos 0; hi = pos 100 } → r2 ≡ record { lo = pos 10; hi = pos 10 } → r3 ≡ record { lo = pos 0; hi = pos 0 }
    → r4 ≡ record { lo = pos 3; hi = pos 6 } → r5 ≡ record { lo = pos 52; hi = pos 60 } → survey a b c d r1 r2 r3 r4 r5 ≡ named_survey
survey-named a b c d r1 r2 r3 r4 r5 ea eb ec ed e1 e2 e3 e4 e5 =
    ap₂ (λ (a b : List ℕ). survey a b c d r1 r2 r3 r4 r5) ea eb
    ∙ ap₂ (λ (c d : List ℕ). survey (120 ∷ []) (118 ∷ []) c d r1 r2 r3 r4 r5) ec ed
    ∙ ap₂ (λ (r1 r2 : Span). survey (120 ∷ []) (118 ∷ []) (116 ∷ []) (122 ∷ []) r1 r2 r3 r4 r5) e1 e2
    ∙ ap₂ (λ (r3 r4 : Span). survey (120 ∷ []) (118 ∷ []) (116 ∷ []) (122 ∷ []) (span 0 100) (span 10 10) r3 r4 r5) e3 e4
    ∙ ap (λ (r5 : Span). survey (120 ∷ []) (118 ∷ []) (116 ∷ []) (122 ∷ []) (span 0 100) (span 10 10) (span 0 0) (span 3 6) r5) e5
