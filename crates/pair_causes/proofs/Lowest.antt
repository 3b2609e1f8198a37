-- The lowest cause that holds.
use Rattle.std.proofs.Common.{◌≡◌, ℕ, ◌+◌, ◌<◌, ◌==◌, ◌||◌, Bool, true, false, if◌then◌else◌, List, Some, None, Err, ℤ, map, refl, sym, ap, subst, ◌∙◌, arith, ⊎_elim}
use Rattle.std.specs.Prelude.{is_none, not, option_map}
use Rattle.std.specs.Option.{option_or}
use Rattle.std.proofs.lemmas.Bool.{cases_lt}
use Rattle.tube_spec.specs.Span.{Span}
use Rattle.mission_items.specs.declared.item.Item.{Item}
use Rattle.mission_items.specs.declared.mission.Mission.{Mission}
use Rattle.pair_form.specs.Forms.{LinkForm, SourceForm}
use Rattle.pair_causes.specs.Causes.{cause_number}
use Rattle.pair_causes.specs.Links.{link_said}
use Rattle.pair_causes.specs.Sentences.{first_number, has_long_name, have_one_head, is_of_all, is_offset, is_settle, offset_said, place_of, span_of, whole}
use Rattle.pair_causes.specs.Judged.{AreLinksJudged, AreSaid, IsAccepted, IsJudged, IsRefusedBy, NoneBelow}
use Rattle.pair_causes.specs.declared.cause.PairCause.{PairCause}
use Rattle.pair_causes.specs.declared.cause.PairCause.TheVariants as cause
use Rattle.pair_causes.specs.declared.cause.PairFault.{PairFault}
use Rattle.pair_causes.specs.declared.cause.PairFault.TheVariants as fault
use Rattle.pair_causes.specs.declared.link.Linked.{Linked}
use Rattle.pair_causes.proofs.Places.{all-said}

-- ---- a cause by its number

cause_at : ℕ → PairCause
cause_at n =
    if n == 31 then cause.Form
    else if n == 32 then cause.FirstLog
    else if n == 33 then cause.SecondLog
    else if n == 34 then cause.Heads
    else if n == 35 then cause.Sections
    else if n == 36 then cause.SecondMap
    else if n == 37 then cause.Offset
    else if n == 38 then cause.Link
    else if n == 39 then cause.LongName
    else cause.Joined

cause_at-number : (c : PairCause) → cause_at (cause_number c) ≡ c
unfolding cause_at
cause_at-number cause.Form = refl
cause_at-number cause.FirstLog = refl
cause_at-number cause.SecondLog = refl
cause_at-number cause.Heads = refl
cause_at-number cause.Sections = refl
cause_at-number cause.SecondMap = refl
cause_at-number cause.Offset = refl
cause_at-number cause.Link = refl
cause_at-number cause.LongName = refl
cause_at-number cause.Joined = refl

pub numbers-apart : (a b : PairCause) → cause_number a ≡ cause_number b → a ≡ b
numbers-apart a b e = sym (cause_at-number a) ∙ (ap cause_at e ∙ cause_at-number b)

number-few : (c : PairCause) → cause_number c < 41
number-few cause.Form = omega arith
number-few cause.FirstLog = omega arith
number-few cause.SecondLog = omega arith
number-few cause.Heads = omega arith
number-few cause.Sections = omega arith
number-few cause.SecondMap = omega arith
number-few cause.Offset = omega arith
number-few cause.Link = omega arith
number-few cause.LongName = omega arith
number-few cause.Joined = omega arith

-- ---- the causes one after the other

-- none of the first four holds
pub record IsFree (first second : Mission) (form : SourceForm) : Type 0 where
  pub heads : have_one_head first second ≡ true
  pub sections : option_or (first_number is_settle first.items) (first_number is_settle second.items) ≡ None
  pub maps : first_number is_of_all second.items ≡ None
  pub offset : is_offset (span_of form.offset) ≡ true

module _ (first second : Mission) (form : SourceForm) where
  none-below_heads : NoneBelow first second form 34
  none-below_heads cause.Form h = refl
  none-below_heads cause.FirstLog h = refl
  none-below_heads cause.SecondLog h = refl
  none-below_heads cause.Heads h = absurd (omega arith)
  none-below_heads cause.Sections h = absurd (omega arith)
  none-below_heads cause.SecondMap h = absurd (omega arith)
  none-below_heads cause.Offset h = absurd (omega arith)
  none-below_heads cause.Link h = absurd (omega arith)
  none-below_heads cause.LongName h = absurd (omega arith)
  none-below_heads cause.Joined h = absurd (omega arith)

  none-next : (c : PairCause) (next : ℕ) → cause_number c + 1 ≡ next → NoneBelow first second form (cause_number c) → place_of first second form c ≡ None → NoneBelow first second form next
  none-next c next e below none other h =
      ⊎_elim (λ lower. below other lower) (λ least. let same : cause_number other ≡ cause_number c = omega arith in ap (place_of first second form) (numbers-apart other c same) ∙ none) (cases_lt (cause_number other) (cause_number c))

  none-below_link : IsFree first second form → NoneBelow first second form 38
  none-below_link free =
      let heads : NoneBelow first second form 35 = none-next cause.Heads 35 (omega arith) none-below_heads (ap (λ (b : Bool). whole (not b)) free.heads) in
      let sections : NoneBelow first second form 36 = none-next cause.Sections 36 (omega arith) heads free.sections in
      let maps : NoneBelow first second form 37 = none-next cause.SecondMap 37 (omega arith) sections free.maps in
      none-next cause.Offset 38 (omega arith) maps (ap (λ (b : Bool). whole (not b)) free.offset)

  none-below_long : (links : List Linked) → IsFree first second form → AreSaid first second (span_of form.offset) form.links links → NoneBelow first second form 39
  none-below_long links free said = none-next cause.Link 39 (omega arith) (none-below_link free) (no-link form.links said)
    where
      no-link : (links_of : List LinkForm) → map (link_said first second (span_of form.offset)) links_of ≡ map Some links → first_number (λ link. is_none (link_said first second (span_of form.offset) link)) links_of ≡ None
      no-link links_of e = ap (option_map (λ (n : ℕ). n + 1)) (all-said (link_said first second (span_of form.offset)) links_of links e)

  -- ---- what a judge answers

  pub links-refused : (e : PairFault) → IsFree first second form → AreLinksJudged first second (span_of form.offset) form.links (Err e) → IsJudged first second form (Err e)
  links-refused (fault.Bad at c) free h =
      subst (λ (k : PairCause). IsRefusedBy first second form at k) (sym h.0) (record { holds = h.1; lowest = none-below_link free })
  links-refused fault.NoMemory free h = tt

  pub long-refused : (links : List Linked) → IsFree first second form → AreSaid first second (span_of form.offset) form.links links → (has_long_name first || has_long_name second) ≡ true → IsRefusedBy first second form 0 cause.LongName
  long-refused links free said long = record { holds = ap whole long; lowest = none-below_long links free said }

  pub all-accepted : (links : List Linked) → IsFree first second form → AreSaid first second (span_of form.offset) form.links links → (has_long_name first || has_long_name second) ≡ false → IsAccepted first second form
  all-accepted links free said short =
      let long : NoneBelow first second form 40 = none-next cause.LongName 40 (omega arith) (none-below_long links free said) (ap whole short) in
      let all : NoneBelow first second form 41 = none-next cause.Joined 41 (omega arith) long refl in
      λ c. all c (number-few c)

-- an offset that was said is one
pub offset-is : (bounds : ℤ × ℤ) (offset : Span) → Some offset ≡ offset_said bounds → (is_offset (span_of bounds) ≡ true) × (offset ≡ span_of bounds)
offset-is bounds offset e = at (is_offset (span_of bounds)) refl e
  where
    at : (b : Bool) → is_offset (span_of bounds) ≡ b → Some offset ≡ (if b then Some (span_of bounds) else None) → (is_offset (span_of bounds) ≡ true) × (offset ≡ span_of bounds)
    at true is e = (is, cc)
    at false is e = absurd (cc)

-- none of the first four holds, as a judge finds it
pub free-of : (first second : Mission) (form : SourceForm) → have_one_head first second ≡ true → option_or (first_number is_settle first.items) (first_number is_settle second.items) ≡ None
    → (items : List Item) → items ≡ second.items → first_number is_of_all items ≡ None → is_offset (span_of form.offset) ≡ true → IsFree first second form
free-of first second form heads sections items same maps offset = record { heads = heads; sections = sections; maps = ap (first_number is_of_all) (sym same) ∙ maps; offset = offset }
