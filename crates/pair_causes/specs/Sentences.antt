-- What each cause says of two missions and of the form that holds their logs, and where it holds.
use Rattle.std.specs.Prelude.{ℕ, ◌+◌, ◌==◌, ◌&&◌, ◌||◌, not, nat_eq, nat_lt, Bool, true, false, List, length, Option, Some, None, is_none, option_map, ℤ, pos, neg_ℤ, ◌-ℤ◌, int_le, if◌then◌else◌}
use Rattle.std.specs.List.{list_any, position}
use Rattle.std.specs.Option.{option_or}
use Rattle.std.specs.Cmp.Lexicographic.{pointwise}
use Rattle.tube_spec.specs.Limits.{most_ticks}
use Rattle.tube_spec.specs.Span.{Span}
use Rattle.mission_items.specs.Names.{declared}
use Rattle.mission_items.specs.declared.item.Item.{Item}
use Rattle.mission_items.specs.declared.item.Item.TheVariants as item
use Rattle.mission_items.specs.declared.mission.Mission.{Mission}
use Rattle.pair_form.specs.Forms.{SourceForm}
use Rattle.pair_causes.specs.Links.{link_said}
use Rattle.pair_causes.specs.declared.cause.PairCause.{PairCause}
use Rattle.pair_causes.specs.declared.cause.PairCause.TheVariants as cause

-- ---- where a sentence holds

-- at the whole
abbrev pub whole : Bool → Option ℕ
whole test = if test then Some 0 else None

-- at the first that it holds of, by its number from 1 on
abbrev pub first_number : {A : Type 0} → (A → Bool) → List A → Option ℕ
first_number test all = option_map (λ n. n + 1) (position test all)

-- ---- the logs

-- one version, and one clock with the same boundaries of slices
abbrev pub have_one_head : Mission → Mission → Bool
have_one_head first second =
    (first.version == second.version) && ((first.ticks == second.ticks) && ((first.width == second.width) && pointwise nat_eq first.cuts second.cuts))

-- the end of a section
abbrev pub is_settle : Item → Bool
is_settle item.Settle = true
is_settle i = false

-- a record that speaks of all beacons before it
abbrev pub is_of_all : Item → Bool
is_of_all (item.Constell p) = true
is_of_all (item.Ping x y first last None near far) = true
is_of_all i = false

-- a declared name has more than 30 bytes
abbrev pub has_long_name : Mission → Bool
has_long_name m = list_any (λ d. nat_lt 30 (length d.0)) (declared m.items)

-- ---- the offset

-- in order, at most 2,000 apart, and from -100,000 to 100,000
abbrev pub is_offset : Span → Bool
is_offset offset =
    int_le offset.lo offset.hi
    && (int_le (offset.hi -ℤ offset.lo) (pos 2000) && (int_le (neg_ℤ (pos most_ticks)) offset.lo && int_le offset.hi (pos most_ticks)))

abbrev pub span_of : ℤ × ℤ → Span
span_of bounds = record { lo = bounds.0; hi = bounds.1 }

abbrev pub offset_said : ℤ × ℤ → Option Span
offset_said bounds = if is_offset (span_of bounds) then Some (span_of bounds) else None

-- ---- the sentences

-- Where the sentence of a cause holds, if it does. Those of Form, FirstLog, SecondLog and Joined are about bytes.
abbrev pub place_of : Mission → Mission → SourceForm → PairCause → Option ℕ
place_of first second form cause.Heads = whole (not (have_one_head first second))
place_of first second form cause.Sections = option_or (first_number is_settle first.items) (first_number is_settle second.items)
place_of first second form cause.SecondMap = first_number is_of_all second.items
place_of first second form cause.Offset = whole (not (is_offset (span_of form.offset)))
place_of first second form cause.Link = first_number (λ link. is_none (link_said first second (span_of form.offset) link)) form.links
place_of first second form cause.LongName = whole (has_long_name first || has_long_name second)
place_of first second form of_bytes = None
