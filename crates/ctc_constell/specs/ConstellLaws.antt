-- The laws of the constellation constraint as a contractor, over plain numbers.
use Rattle.std.proofs.Common.{◌≡◌, ◌&&◌, ℕ, zero, suc, ◌<◌, Bool, true, false, cond, Option, Some, None, List, [], ◌∷◌, ◌++◌, arith, refl, ap, ap₂, length, map, All}
use Rattle.std.specs.List.{concat}
use Rattle.std.proofs.lemmas.Int.{ints, clamps}
use Rattle.std.proofs.lemmas.List.Elements.{All-append, Contains-append_left, Contains-append_right}
use Rattle.tube_spec.specs.Span.{Span, IsWithin, meet_of}
use Rattle.tube_spec.specs.Hull.{IsWithinOption, hull_below, join_option}
use Rattle.tube_spec.specs.Narrowing.{narrowing_of}
use Rattle.tube_spec.specs.Shape.{Shape, IsShape, Extends}
use Rattle.tube_spec.specs.Box.{cell_at, IsBelow}
use Rattle.tube_spec.specs.Projection.{Projection, IsMonotone, ReadsOnly}
use Rattle.tube_spec.proofs.Spans.{meet-mono, hull-mono, narrowing_of-mono}
use Rattle.int_interval.specs.Inverse.{meets}
use Rattle.interval_box.specs.Parts.{part_of}
use Rattle.ctc_constell.specs.Points.{box_of}
use Rattle.tube_names.specs.Points.{cells_of}
use Rattle.ctc_constell.specs.PointLaws.{contains-concat, marks-in, marks-same, part-mono, box-same}
use Rattle.tube_names.proofs.PointCells.{All-each, cells-in, vars-more, cells-same}
use Rattle.ctc_constell.specs.Constellations.{boxes_meet, left_by, mark_at, left_by_marks, constell_projection, constell_projections_at, constell_projections, constell_scope, ConstellFits}

both-left : (a b : Bool) → (a && b) ≡ true → a ≡ true
both-left true b h = refl
both-left false b h = absurd (cc)

both-right : (a b : Bool) → (a && b) ≡ true → b ≡ true
both-right true b h = h
both-right false b h = absurd (cc)

both : (a b : Bool) → a ≡ true → b ≡ true → (a && b) ≡ true
both true b h k = k
both false b h k = absurd (cc)

meets-mono : (a b c d : Span) → IsWithin a c → IsWithin b d → meets a b ≡ true → meets c d ≡ true
meets-mono a b c d v w h = grind (arith, ints, clamps, v, w, h)

option-mono : (t u : Bool) (a b : Span) → (t ≡ true → u ≡ true) → IsWithin a b → IsWithinOption (cond t (Some a) None) (cond u (Some b) None)
option-mono false u a b h w = tt
option-mono true true a b h w = w
option-mono true false a b h w = let e = h refl in absurd (cc)

-- what a lesser box leaves lies within what a greater one leaves
module _ (xs ys : List Span) (low : IsBelow xs ys) where
  meet-still : (p m : List ℕ) → boxes_meet (box_of xs p) (box_of xs m) ≡ true → boxes_meet (box_of ys p) (box_of ys m) ≡ true
  meet-still [] m h = refl
  meet-still (c ∷ p) [] h = refl
  meet-still (c ∷ p) (d ∷ m) h =
      let here = meets (cell_at xs c) (cell_at xs d) in
      let rest = boxes_meet (box_of xs p) (box_of xs m) in
      both (meets (cell_at ys c) (cell_at ys d)) (boxes_meet (box_of ys p) (box_of ys m))
      (meets-mono (cell_at xs c) (cell_at xs d) (cell_at ys c) (cell_at ys d) (low.each c) (low.each d) (both-left here rest h)) (meet-still p m (both-right here rest h))

  left-mono : (p m : List ℕ) (i : ℕ) → IsWithinOption (left_by (box_of xs p) (box_of xs m) i) (left_by (box_of ys p) (box_of ys m) i)
  left-mono p m i =
      option-mono (boxes_meet (box_of xs p) (box_of xs m)) (boxes_meet (box_of ys p) (box_of ys m)) (meet_of (part_of (box_of xs p) i) (part_of (box_of xs m) i)) (meet_of (part_of (box_of ys p) i) (part_of (box_of ys m) i)) (meet-still p m)
      (meet-mono (part_of (box_of xs p) i) (part_of (box_of xs m) i) (part_of (box_of ys p) i) (part_of (box_of ys m) i) (part-mono xs ys low p i) (part-mono xs ys low m i))

hull-same : (f g : ℕ → Option Span) (n : ℕ) → ((k : ℕ) → k < n → f k ≡ g k) → hull_below f n ≡ hull_below g n
hull-same f g zero h = refl
hull-same f g (suc n) h = ap₂ join_option (hull-same f g n (λ k l. h k (omega arith))) (h n (omega arith))

pub projection-mono : (Fits : List Span → Type 0) (p : List ℕ) (marks : List (List ℕ)) (i : ℕ) → IsMonotone Fits (constell_projection p marks i)
projection-mono Fits p marks i xs ys bx by fits low =
    narrowing_of-mono (left_by_marks p marks xs i) (left_by_marks p marks ys i)
    (hull-mono (λ k. left_by (box_of xs p) (box_of xs (mark_at marks k)) i) (λ k. left_by (box_of ys p) (box_of ys (mark_at marks k)) i) (length marks) (length marks) (λ k l. (k, l, left-mono xs ys low p (mark_at marks k) i)))

projection-reads : (Fits : List Span → Type 0) (p : List ℕ) (marks : List (List ℕ)) (i : ℕ) → ReadsOnly Fits (p ++ concat marks) (constell_projection p marks i)
projection-reads Fits p marks i xs ys fx fy same =
    ap narrowing_of (hull-same (λ k. left_by (box_of xs p) (box_of xs (mark_at marks k)) i) (λ k. left_by (box_of ys p) (box_of ys (mark_at marks k)) i) (length marks)
    (λ k l. ap₂ (λ (b m : List Span). left_by b m i)
    (box-same xs ys p (λ c h. same c (Contains-append_left p (concat marks) c h)))
    (box-same xs ys (mark_at marks k) (λ c h. same c (Contains-append_right p (concat marks) c (contains-concat marks k c l h))))))

pub constell-monotone : (Fits : List Span → Type 0) (s : Shape) (p : List ℕ) (marks : List (List ℕ)) → All (IsMonotone Fits) (constell_projections s p marks)
constell-monotone Fits s p marks = All-each (IsMonotone Fits) (constell_projection (cells_of s p) (map (cells_of s) marks)) (length (cells_of s p)) (λ i l. projection-mono Fits (cells_of s p) (map (cells_of s) marks) i)

pub constell-reads_only : (Fits : List Span → Type 0) (s : Shape) (p : List ℕ) (marks : List (List ℕ)) → All (ReadsOnly Fits (constell_scope s p marks)) (constell_projections s p marks)
constell-reads_only Fits s p marks = All-each (ReadsOnly Fits (constell_scope s p marks)) (constell_projection (cells_of s p) (map (cells_of s) marks)) (length (cells_of s p)) (λ i l. projection-reads Fits (cells_of s p) (map (cells_of s) marks) i)

pub constell-in_store : (s : Shape) (p : List ℕ) (marks : List (List ℕ)) → IsShape s → ConstellFits s p marks → All (λ k. k < s.cells) (constell_scope s p marks) × All (λ (x : Projection). x.target < s.cells) (constell_projections s p marks)
constell-in_store s p marks shape fits =
    let point = cells-in s shape p fits.point in (
      All-append (λ (k : ℕ). k < s.cells) (cells_of s p) (concat (map (cells_of s) marks)) point (marks-in s shape marks fits.named),
      All-each (λ (x : Projection). x.target < s.cells) (constell_projection (cells_of s p) (map (cells_of s) marks)) (length (cells_of s p)) (λ i l. point i 0 l),
    )

pub constell-fits_more : (s t : Shape) (p : List ℕ) (marks : List (List ℕ)) → Extends s t → ConstellFits s p marks → ConstellFits t p marks
constell-fits_more s t p marks grows fits = record {
  some = fits.some;
  few = fits.few;
  some_marks = fits.some_marks;
  few_marks = fits.few_marks;
  alike = fits.alike;
  point = vars-more s t grows p fits.point;
  named = λ i d l. vars-more s t grows _ (fits.named i d l);
}

pub constell-same_projections : (s t : Shape) (p : List ℕ) (marks : List (List ℕ)) → Extends s t → ConstellFits s p marks → constell_projections t p marks ≡ constell_projections s p marks
constell-same_projections s t p marks grows fits = ap₂ constell_projections_at (cells-same s t grows p fits.point) (marks-same s t grows marks fits.named)

pub constell-same_scope : (s t : Shape) (p : List ℕ) (marks : List (List ℕ)) → Extends s t → ConstellFits s p marks → constell_scope t p marks ≡ constell_scope s p marks
constell-same_scope s t p marks grows fits = ap₂ (λ (ps : List ℕ) (ms : List (List ℕ)). ps ++ concat ms) (cells-same s t grows p fits.point) (marks-same s t grows marks fits.named)
