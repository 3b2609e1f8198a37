-- What is true of a mission that grows record by record, and stays true.
use Rattle.std.proofs.Common.{◌≡◌, ℕ, ◌-◌, ◌≤◌, Bool, true, false, ◌||◌, ◌&&◌, List, [], ◌∷◌, ◌++◌, Ok, length, length-append, refl, sym, ap, ◌∙◌, subst, arith, slice_index}
use Rattle.std.specs.Int.{div_ceil}
use Rattle.std.specs.List.{list_all}
use Rattle.tube_spec.specs.Grid.{last_tick}
use Rattle.slice_gates.specs.Cuts.{uniform_cuts}
use Rattle.slice_gates.proofs.Uniform.{IsGrid-uniform, length-uniform, slice_index-uniform_last}
use Rattle.mission_items.specs.Cuts.{with_cut, with_tick}
use Rattle.mission_items.specs.Made.{has_head, is_head}
use Rattle.mission_items.specs.Room.{cells_of}
use Rattle.mission_items.specs.Valid.{AreFew, AreRight, IsClock, IsInPlace, IsRight, may_precede_cut}
use Rattle.mission_items.specs.declared.item.Item.{Item}
use Rattle.mission_items.specs.declared.item.Item.TheVariants as item
use Rattle.mission_items.specs.declared.mission.Mission.{Mission}
use Rattle.log_draft.specs.Growing.{nothing_yet, started, with_item}
use Rattle.log_draft.specs.Kept.{is_note_item}
use Rattle.log_draft.specs.Room.{room_for}
use Rattle.log_draft.proofs.Keeping.{clock-last, clock_started, has_room, room_few}
use Rattle.log_draft.proofs.Records.{all-last, boundaries-last, head-last, notes_right, open-feet, open-makes, or_false, or_true, right-last}
use Rattle.mission_law.proofs.Fields.{IsStart}
use Rattle.mission_law.proofs.Grids.{cut-grid}

-- the records fit and are right; after the mission record the clock is theirs, and before it there are only notes
pub record IsSound (m : Mission) : Type 0 where
  pub few : AreFew m
  pub right : AreRight m.version m.ticks m.items
  pub clock : has_head m.items ≡ true → IsClock m.version m.ticks m.width m.cuts m.items
  pub notes : has_head m.items ≡ false → list_all is_note_item m.items ≡ true

pub sound_nothing : IsSound nothing_yet
sound_nothing = record {
  few = record { records = omega arith; signals = omega arith; variables = omega arith; cells = omega arith; feet = omega arith };
  right = tt;
  clock = λ e. cc e;
  notes = λ e. refl;
}

-- ---- one record more after the mission record

still_head : (items : List Item) (i : Item) → has_head items ≡ true → has_head (items ++ i ∷ []) ≡ true
still_head items i head = head-last items i ∙ ap (λ (b : Bool). b || is_head i) head

no_notes : (items : List Item) → has_head items ≡ true → has_head items ≡ false → list_all is_note_item items ≡ true
no_notes items some none = absurd (let same : true ≡ false = sym some ∙ none in cc same)

-- one that cuts nothing
sound_uncut : (d : Mission) (i : Item) → IsSound d → has_head d.items ≡ true → with_cut d.cuts i ≡ d.cuts → IsInPlace d.items i → IsRight d.version d.ticks d.items i → room_for d i ≡ Ok tt
    → IsSound (record d { items = d.items ++ i ∷ [] })
sound_uncut d i k head uncut place right room = record {
  few = room_few d i room;
  right = right-last d.version d.ticks d.items i k.right place right;
  clock = λ e. clock-last d.version d.ticks d.width d.cuts d.items i (k.clock head) uncut;
  notes = no_notes (d.items ++ i ∷ []) (still_head d.items i head);
}

pub sound_more : (d : Mission) (i : Item) → IsSound d → has_head d.items ≡ true → with_cut d.cuts i ≡ d.cuts → IsInPlace d.items i → IsRight d.version d.ticks d.items i → room_for d i ≡ Ok tt
    → IsSound (with_item i d)
sound_more d i k head uncut place right room =
    subst (λ (cuts : List ℕ). IsSound (record d { cuts = cuts; items = d.items ++ i ∷ [] })) (sym uncut) (sound_uncut d i k head uncut place right room)

pub sound_cut : (d : Mission) (tick : ℕ) → IsSound d → has_head d.items ≡ true → d.version ≡ 2 → tick ≤ d.ticks → list_all may_precede_cut d.items ≡ true → room_for d (item.Cut tick) ≡ Ok tt
    → IsSound (with_item (item.Cut tick) d)
sound_cut d tick k head second within early room =
    let i = item.Cut tick in
    let more = d.items ++ i ∷ [] in
    let open_more : list_all may_precede_cut more ≡ true = all-last may_precede_cut d.items i ∙ ap (λ (b : Bool). b && true) early in
    let none = open-makes more open_more in
    let clock = k.clock head in
    let cut = cut-grid d.cuts tick clock.grid (omega (arith, within, clock.ends)) in
    record {
      few = record {
        records = omega (arith, (has_room d i room).records, length-append d.items (i ∷ []));
        signals = omega (arith, none.0);
        variables = omega (arith, none.1);
        cells = rw (none.0, none.1) (let zero_cells : cells_of (with_tick d.cuts tick) 0 0 ≡ 0 = omega arith in omega (arith, zero_cells));
        feet = omega (arith, open-feet (with_tick d.cuts tick) [] more open_more);
      };
      right = right-last d.version d.ticks d.items i k.right head (second, within, early);
      clock = λ e. record {
        known_version = clock.known_version;
        some_tick = clock.some_tick;
        few_ticks = clock.few_ticks;
        some_width = clock.some_width;
        small_width = clock.small_width;
        boundaries = ap (λ (b : List ℕ). with_tick b tick) clock.boundaries ∙ sym (boundaries-last d.ticks d.width d.items i);
        grid = cut.grid;
        ends = cut.ends ∙ clock.ends;
      };
      notes = no_notes more (still_head d.items i head);
    }

-- ---- notes, at any place

pub sound_note : (d : Mission) → IsSound d → room_for d item.Note ≡ Ok tt → IsSound (with_item item.Note d)
sound_note d k room = record {
  few = room_few d item.Note room;
  right = right-last d.version d.ticks d.items item.Note k.right tt tt;
  clock = λ e. clock-last d.version d.ticks d.width d.cuts d.items item.Note (k.clock (before ∙ e)) refl;
  notes = λ e. all-last is_note_item d.items item.Note ∙ ap (λ (b : Bool). b && true) (k.notes (before ∙ e));
}
  where
    before : has_head d.items ≡ has_head (d.items ++ item.Note ∷ [])
    before = sym (or_false (has_head d.items)) ∙ sym (head-last d.items item.Note)

-- ---- the mission record

last-uniform : (ticks width : ℕ) → last_tick (uniform_cuts ticks width) ≡ ticks
last-uniform ticks width =
    let place : length (uniform_cuts ticks width) - 1 ≡ div_ceil ticks width = omega (arith, length-uniform ticks width) in
    ap (slice_index (uniform_cuts ticks width)) place ∙ slice_index-uniform_last ticks width

pub sound_head : (d : Mission) (f : ℕ × ℕ × ℕ) → IsSound d → has_head d.items ≡ false → IsStart f → room_for (started f d) item.Head ≡ Ok tt → IsSound (with_item item.Head (started f d))
sound_head d f k none start room =
    let notes = k.notes none in
    let grid = IsGrid-uniform f.1 f.2 start.1.0 start.1.1 start.2.0 in
    let clock = clock_started f.0 f.1 f.2 d.items notes start.0.0 start.0.1 start.1.0 start.1.1 start.2.0 start.2.1 grid (last-uniform f.1 f.2) in
    record {
      few = room_few (started f d) item.Head room;
      right = right-last f.0 f.1 d.items item.Head (notes_right f.0 f.1 [] d.items notes) none tt;
      clock = λ e. clock-last f.0 f.1 f.2 (uniform_cuts f.1 f.2) d.items item.Head clock refl;
      notes = no_notes (d.items ++ item.Head ∷ []) (head-last d.items item.Head ∙ or_true (has_head d.items));
    }
