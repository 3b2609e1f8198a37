-- Which cause refuses two missions and a form.
use Rattle.std.specs.Prelude.{◌≡◌, ℕ, ◌<◌, List, map, Some, None, is_none, Result, Ok, Err, Vec}
use Rattle.std.specs.declared.alloc.Global.{Global}
use Rattle.tube_spec.specs.Span.{Span}
use Rattle.mission_items.specs.declared.mission.Mission.{Mission}
use Rattle.pair_form.specs.Forms.{LinkForm, SourceForm}
use Rattle.pair_causes.specs.Causes.{cause_number}
use Rattle.pair_causes.specs.Links.{link_said}
use Rattle.pair_causes.specs.Sentences.{first_number, place_of, span_of}
use Rattle.pair_causes.specs.declared.cause.PairCause.{PairCause}
use Rattle.pair_causes.specs.declared.cause.PairCause.TheVariants as cause
use Rattle.pair_causes.specs.declared.cause.PairFault.{PairFault}
use Rattle.pair_causes.specs.declared.cause.PairFault.TheVariants as fault
use Rattle.pair_causes.specs.declared.link.Linked.{Linked}

-- no cause with a number below this one holds
abbrev pub NoneBelow : Mission → Mission → SourceForm → ℕ → Type 0
NoneBelow first second form number = (c : PairCause) → cause_number c < number → place_of first second form c ≡ None

-- the cause that holds here is the lowest that holds
pub record IsRefusedBy (first second : Mission) (form : SourceForm) (at : ℕ) (cause : PairCause) : Type 0 where
  pub holds : place_of first second form cause ≡ Some at
  pub lowest : NoneBelow first second form (cause_number cause)

-- no cause holds
abbrev pub IsAccepted : Mission → Mission → SourceForm → Type 0
IsAccepted first second form = (c : PairCause) → place_of first second form c ≡ None

-- what each link says
abbrev pub AreSaid : Mission → Mission → Span → List LinkForm → List Linked → Type 0
AreSaid first second offset links said = map (link_said first second offset) links ≡ map Some said

-- what a judge of links alone answers
abbrev pub AreLinksJudged : Mission → Mission → Span → List LinkForm → Result (Vec Linked Global) PairFault → Type 0
AreLinksJudged first second offset links (Ok said) = AreSaid first second offset links said.items
AreLinksJudged first second offset links (Err (fault.Bad at c)) = (c ≡ cause.Link) × (first_number (λ link. is_none (link_said first second offset link)) links ≡ Some at)
AreLinksJudged first second offset links (Err fault.NoMemory) = Unit {0}

-- what a judge answers is so, unless memory was refused
abbrev pub IsJudged : Mission → Mission → SourceForm → Result (Vec Linked Global) PairFault → Type 0
IsJudged first second form (Ok links) = IsAccepted first second form × AreSaid first second (span_of form.offset) form.links links.items
IsJudged first second form (Err (fault.Bad at cause)) = IsRefusedBy first second form at cause
IsJudged first second form (Err fault.NoMemory) = Unit {0}
