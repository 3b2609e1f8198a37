-- What is known of a contractor's parts, once its kind is.
use Rattle.std.proofs.Common.{◌≡◌, ℕ, Bool, Option, List, subst, sym}
use Rattle.tube_spec.specs.Span.{Span}
use Rattle.tube_spec.specs.Shape.{Shape}
use Rattle.ctc_parts.specs.Parts.{AreClean, IsReach}
use Rattle.any_ctc.specs.declared.AnyCtc.{AnyCtc}
use Rattle.any_ctc.specs.Contractors.{constraint_of}
use Rattle.any_ctc.specs.Parts.{constraint_parts, constraint_part, constraint_part_scope}

pub clean-of : (s : Shape) (marked : ℕ → Bool) (b : Option (List Span)) (c d : AnyCtc) → c ≡ d
    → AreClean (constraint_parts s (constraint_of c)) (constraint_part s (constraint_of c)) marked b → AreClean (constraint_parts s (constraint_of d)) (constraint_part s (constraint_of d)) marked b
clean-of s marked b c d same = subst (λ (x : AnyCtc). AreClean (constraint_parts s (constraint_of x)) (constraint_part s (constraint_of x)) marked b) same

pub reach-of : (s : Shape) (cell first end : ℕ) (c d : AnyCtc) → c ≡ d
    → IsReach (constraint_parts s (constraint_of d)) (constraint_part_scope s (constraint_of d)) cell first end → IsReach (constraint_parts s (constraint_of c)) (constraint_part_scope s (constraint_of c)) cell first end
reach-of s cell first end c d same = subst (λ (x : AnyCtc). IsReach (constraint_parts s (constraint_of x)) (constraint_part_scope s (constraint_of x)) cell first end) (sym same)
