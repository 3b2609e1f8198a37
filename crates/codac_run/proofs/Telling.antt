-- What telling of the queries leaves, by what the tail of the plan tells.
use Rattle.std.proofs.Common.{◌≡◌, ℕ, ◌++◌, inl, inr, arith, List, [], Option, None, Result, Ok, Err, OnOk, IsErr, refl, sym, subst, length, take, append-nil}
use Rattle.std.specs.Prelude.{Bool, is_err, true, false, pos}
use Rattle.tube_spec.specs.Span.{Span}
use Rattle.tube_spec.specs.Shape.{Shape}
use Rattle.tube_io.specs.Sends.{Sends}
use Rattle.tube_io.specs.declared.whole.WriteFault.{WriteFault}
use Rattle.tube_io.proofs.Sent.{sends_then}
use Rattle.tube_names.specs.declared.queries.Query.{Query}
use Rattle.loop_report.specs.declared.found.Found.{Found}
use Rattle.mission_area.specs.Texts.{coverages_text}
use Rattle.mission_area.specs.Writing as areas
use Rattle.mission_items.specs.declared.item.Item.{Item}
use Rattle.mission_items.specs.declared.mission.Mission.{Mission}
use Rattle.section_report.specs.declared.part.LastSection.{LastSection}
use Rattle.mission_loops.specs.Cost.{TakesAtMost}
use Rattle.mission_loops.specs.Queries.{queries}
use Rattle.mission_loops.specs.Writing as loops
use Rattle.mission_loops.specs.Texts.{findings_text}
use Rattle.mission_loops.specs.declared.writing.Findings.{Findings}
use Rattle.codac_run.specs.declared.plan.Tail.{Tail}
use Rattle.codac_run.specs.declared.plan.Tail.TheVariants as tail
use Rattle.codac_run.specs.declared.plan.Plan.{Plan}
use Rattle.codac_run.specs.Told.{Told, Sets, Coverages, count_told, told_text}
use Rattle.codac_run.specs.Tails.{told_queries, paved_queries, AreToldBy}
use Rattle.codac_run.specs.Telling.{AreToldAfter, AreCutShortAfter}

failed : (P : Type 0) (r : Result (Unit {0}) WriteFault) → is_err r ≡ true → OnOk r P
failed P (Ok v) e = absurd (cc e)
failed P (Err f) e = tt

ok-of : (r : Result (Unit {0}) WriteFault) → is_err r ≡ false → r ≡ Ok tt
ok-of (Ok v) e = refl
ok-of (Err f) e = absurd (cc e)

no-err : (r : Result (Unit {0}) WriteFault) → r ≡ Ok tt → IsErr r → ⊥
no-err (Ok v) e err = cc err
no-err (Err f) e err = cc e

-- no sets of a last query
abbrev no_sets : Option (List Found)
no_sets = None

on-none : (r : Result (Unit {0}) WriteFault) → OnOk r (no_sets ≡ no_sets)
on-none (Ok v) = refl
on-none (Err f) = tt

on-zero : (r : Result (Unit {0}) WriteFault) → OnOk r (◌≡◌ {A = ℕ} 0 0)
on-zero (Ok v) = refl
on-zero (Err f) = tt

-- what a tail tells of no query
abbrev none_of : Tail → Told
none_of tail.Nothing = Sets []
none_of tail.Findings = Sets []
none_of (tail.Areas step) = Coverages []

none-told : (t : Tail) (grid : List ℕ) (items : List Item) (box : Option (List Span)) → AreToldBy t grid items box (none_of t)
none-told tail.Nothing grid items box = refl
none-told tail.Findings grid items box = tt
none-told (tail.Areas step) grid items box = tt

none-counted : (t : Tail) → count_told (none_of t) ≡ 0
none-counted tail.Nothing = refl
none-counted tail.Findings = refl
none-counted (tail.Areas step) = refl

none-written : (t : Tail) (brief : Bool) → told_text brief (none_of t) ≡ []
none-written tail.Nothing brief = refl
none-written tail.Findings brief = refl
none-written (tail.Areas step) brief = refl

-- no step is taken where nothing is paved
pub steps-none : (s : Shape) (box : Option (List Span)) (qs : List Query) (now : ℕ) → TakesAtMost s box qs now now
steps-none s box qs now d root = omega arith

-- the queries that are paved are those of the records
pub steps-paved : (t : Tail) (items : List Item) (s : Shape) (box : Option (List Span)) (before now : ℕ) → t ≡ tail.Findings
    → TakesAtMost s box (queries items) before now → TakesAtMost s box (paved_queries t items) before now
steps-paved t items s box before now is steps = subst (λ (u : Tail). TakesAtMost s box (paved_queries u items) before now) (sym is) steps

module _ {K : Type 0} (written : K → Option (List ℕ)) (flushed : K → Option ℕ) (faults : K → ℕ) (m : Mission) (plan : Plan) (section : LastSection) (box : Option (List Span)) (old : K) where
  items : List Item
  items = take section.upto m.items

  plainly : (text : List ℕ) → text ≡ [] → (before : List ℕ) (start : K) → Sends written flushed faults before start old section.written → Sends written flushed faults (before ++ text) start old section.written
  plainly text none before start sent =
      subst (λ (t : List ℕ). Sends written flushed faults (before ++ t) start old section.written) (sym none)
      (subst (λ (t : List ℕ). Sends written flushed faults t start old section.written) (sym (append-nil before)) sent)

  -- the sections were not all written
  pub told-unwritten : is_err section.written ≡ true → AreToldAfter written flushed faults m plan section box old old (record { last = None; written = section.written })
  told-unwritten bad = record {
    told = none_of plan.tail;
    are_told = none-told plan.tail m.cuts (take section.upto m.items) box;
    all = failed _ section.written bad;
    told_last = inl (none-counted plan.tail);
    sections = λ err. err;
    last = failed _ section.written bad;
    text = plainly (told_text plan.sections.brief (none_of plan.tail)) (none-written plan.tail plan.sections.brief);
  }

  module _ (fine : is_err section.written ≡ false) where
    whole : section.written ≡ Ok tt
    whole = ok-of section.written fine

    after : (new : K) (text before : List ℕ) (start : K) (result : Result (Unit {0}) WriteFault) → Sends written flushed faults text old new result → Sends written flushed faults before start old section.written
        → Sends written flushed faults (before ++ text) start new result
    after new text before start result next first =
        sends_then written flushed faults before text start old new result (subst (λ (r : Result (Unit {0}) WriteFault). Sends written flushed faults before start old r) whole first) next

    -- nothing is to be told
    pub told-nothing : plan.tail ≡ tail.Nothing → AreToldAfter written flushed faults m plan section box old old (record { last = None; written = section.written })
    told-nothing is = record {
      told = Sets [];
      are_told = subst (λ (t : Tail). AreToldBy t m.cuts (take section.upto m.items) box (Sets [])) (sym is) refl;
      all = subst (λ (t : Tail). OnOk section.written (0 ≡ length (told_queries t (take section.upto m.items)))) (sym is) (on-zero section.written);
      told_last = inl refl;
      sections = λ err. err;
      last = on-none section.written;
      text = plainly [] refl;
    }

    module _ (new : K) where
      -- all queries are told
      pub told-sets : plan.tail ≡ tail.Findings → (findings : Findings) → loops.AreWritten written flushed faults m.cuts (take section.upto m.items) box plan.sections.brief old new findings → AreToldAfter written flushed faults m plan section box old new findings
      told-sets is findings w = record {
        told = Sets w.told;
        are_told = subst (λ (t : Tail). AreToldBy t m.cuts (take section.upto m.items) box (Sets w.told)) (sym is) w.are_told;
        all = subst (λ (t : Tail). OnOk findings.written (length w.told ≡ length (told_queries t (take section.upto m.items)))) (sym is) w.all;
        told_last = inr whole;
        sections = λ err. absurd (no-err section.written whole err);
        last = w.last;
        text = λ before start sent. after new (findings_text plan.sections.brief w.told) before start findings.written w.text sent;
      }

      pub told-areas : (step : ℕ) → plan.tail ≡ tail.Areas step → (result : Result (Unit {0}) WriteFault) → areas.AreWritten written flushed faults m.cuts (take section.upto m.items) box (pos step) plan.sections.brief old new result
          → AreToldAfter written flushed faults m plan section box old new (record { last = None; written = result })
      told-areas step is result w = record {
        told = Coverages w.told;
        are_told = subst (λ (t : Tail). AreToldBy t m.cuts (take section.upto m.items) box (Coverages w.told)) (sym is) w.are_told;
        all = subst (λ (t : Tail). OnOk result (length w.told ≡ length (told_queries t (take section.upto m.items)))) (sym is) w.all;
        told_last = inr whole;
        sections = λ err. absurd (no-err section.written whole err);
        last = on-none result;
        text = λ before start sent. after new (coverages_text plan.sections.brief w.told) before start result w.text sent;
      }

      -- memory ran out
      pub cut-sets : plan.tail ≡ tail.Findings → loops.AreCutShort written flushed faults m.cuts (take section.upto m.items) box plan.sections.brief old new → AreCutShortAfter written flushed faults m plan section box old new
      cut-sets is w = record {
        told = Sets w.told;
        are_told = subst (λ (t : Tail). AreToldBy t m.cuts (take section.upto m.items) box (Sets w.told)) (sym is) w.are_told;
        sections = whole;
        text = λ before start sent. after new (findings_text plan.sections.brief w.told) before start (Ok tt) w.text sent;
      }

      pub cut-areas : (step : ℕ) → plan.tail ≡ tail.Areas step → areas.AreCutShort written flushed faults m.cuts (take section.upto m.items) box (pos step) plan.sections.brief old new → AreCutShortAfter written flushed faults m plan section box old new
      cut-areas step is w = record {
        told = Coverages w.told;
        are_told = subst (λ (t : Tail). AreToldBy t m.cuts (take section.upto m.items) box (Coverages w.told)) (sym is) w.are_told;
        sections = whole;
        text = λ before start sent. after new (coverages_text plan.sections.brief w.told) before start (Ok tt) w.text sent;
      }
