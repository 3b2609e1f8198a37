-- The hull of an assignment with the point at one of the marks is stable under each projection of the constellation.
use Rattle.std.proofs.Common.{◌≡◌, ◌&&◌, ℕ, ◌<◌, Bool, true, false, cond, Option, Some, None, List, [], ◌∷◌, arith, refl, sym, ap, ap₂, subst, ◌∙◌, length, map, All, slice_index, ℤ}
use Rattle.std.proofs.lemmas.Int.{ints, clamps}
use Rattle.std.proofs.lemmas.List.{get_or-map, length-map}
use Rattle.tube_spec.specs.Span.{Span, point, meet_of}
use Rattle.tube_spec.specs.Hull.{IsWithinOption}
use Rattle.tube_spec.specs.Narrowing.{IsUnder, narrowing_of}
use Rattle.tube_spec.specs.Shape.{Shape}
use Rattle.tube_spec.specs.Box.{cell_at}
use Rattle.tube_spec.specs.Projection.{IsStable}
use Rattle.tube_spec.specs.Assignment.{Assignment, IsHull}
use Rattle.tube_spec.proofs.Spans.{same_span, hull-holds}
use Rattle.int_interval.specs.Inverse.{meets}
use Rattle.interval_box.specs.Parts.{part_of}
use Rattle.ctc_constell.specs.Points.{box_of, place_in}
use Rattle.tube_names.specs.Points.{cells_of}
use Rattle.ctc_constell.specs.PointLaws.{hull-place}
use Rattle.tube_names.proofs.PointCells.{All-each}
use Rattle.ctc_constell.specs.Constellations.{boxes_meet, left_by, mark_at, left_by_marks, constell_projection, constell_projections, ConstellFits, IsOneOf}

meets-itself : (v : ℤ) → meets (point v) (point v) ≡ true
meets-itself v = grind (arith, ints, clamps)

both : (a b : Bool) → a ≡ true → b ≡ true → (a && b) ≡ true
both true b h k = k
both false b h k = absurd (cc)

-- a place meets itself, and leaves itself
place-meets : (place : List ℤ) → boxes_meet (map point place) (map point place) ≡ true
place-meets [] = refl
place-meets (v ∷ place) = both (meets (point v) (point v)) (boxes_meet (map point place) (map point place)) (meets-itself v) (place-meets place)

meet-itself : (s : Span) → meet_of s s ≡ s
meet-itself s = same_span (meet_of s s) s (omega (arith, ints, clamps)) (omega (arith, ints, clamps))

place-left : (place : List ℤ) (i : ℕ) → left_by (map point place) (map point place) i ≡ Some (part_of (map point place) i)
place-left place i =
    ap (λ (t : Bool). cond t (Some (meet_of (part_of (map point place) i) (part_of (map point place) i))) None) (place-meets place)
    ∙ ap Some (meet-itself (part_of (map point place) i))

under : (t : Span) (o : Option Span) → IsWithinOption (Some t) o → IsUnder t (narrowing_of o)
under t None h = absurd h
under t (Some s) h = h

-- the span of a coordinate is that of its cell
part-is : (xs : List Span) (cells : List ℕ) (i : ℕ) → i < length cells → part_of (box_of xs cells) i ≡ cell_at xs (slice_index cells i)
part-is xs cells i l = get_or-map (cell_at xs) cells i 0 _ l

-- where the point and the mark with a number have the same box, which is a place
mark-stable : (p : List ℕ) (marks : List (List ℕ)) (xs : List Span) (place : List ℤ) (k : ℕ) → k < length marks → box_of xs p ≡ map point place → box_of xs (mark_at marks k) ≡ map point place
    → (i : ℕ) → i < length p → IsStable xs (constell_projection p marks i)
mark-stable p marks xs place k l here there i m =
    let leaves : ℕ → Option Span = λ j. left_by (box_of xs p) (box_of xs (mark_at marks j)) i in
    let same : leaves k ≡ Some (part_of (map point place) i) = ap₂ (λ (b c : List Span). left_by b c i) here there ∙ place-left place i in
    let cell : cell_at xs (slice_index p i) ≡ part_of (map point place) i = sym (part-is xs p i m) ∙ ap (λ (b : List Span). part_of b i) here in
    under (cell_at xs (slice_index p i)) (left_by_marks p marks xs i)
    (subst (λ (o : Option Span). IsWithinOption o (left_by_marks p marks xs i)) (same ∙ ap Some (sym cell)) (hull-holds leaves (length marks) k l))

pub constell-stable : (s : Shape) (a : Assignment) (hull : List Span) → IsHull s a hull → (p : List ℕ) (marks : List (List ℕ)) → ConstellFits s p marks → IsOneOf a p marks
    → All (IsStable hull) (constell_projections s p marks)
constell-stable s a hull is p marks fits says =
    let k = says.0 in
    let size = length-map marks (place_in a) in
    let sizes = length-map marks (cells_of s) in
    let l : k < length marks = omega (arith, says.1, size) in
    let mark = mark_at marks k in
    let there : mark_at (map (cells_of s) marks) k ≡ cells_of s mark = get_or-map (cells_of s) marks k [] [] l in
    let place : place_in a mark ≡ place_in a p = sym (get_or-map (place_in a) marks k [] (place_in a p) l) ∙ says.2 in
    All-each (IsStable hull) (constell_projection (cells_of s p) (map (cells_of s) marks)) (length (cells_of s p))
    (mark-stable (cells_of s p) (map (cells_of s) marks) hull (place_in a p) k (omega (arith, l, sizes)) (hull-place s a hull is p fits.point)
    (ap (box_of hull) there ∙ hull-place s a hull is mark (fits.named k [] l) ∙ ap (map point) place))
