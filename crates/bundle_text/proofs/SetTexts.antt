-- The texts of sets and of queries show what they say.
use Rattle.std.proofs.Common.{◌≡◌, ℕ, ◌+◌, ◌^◌, ◌<◌, ◌≤◌, List, [], ◌∷◌, ◌++◌, length, get_or, refl, sym, ap, ap₂, ◌∙◌, arith, append_assoc, codes, flat_map, Option, Some, None, IfSome}
use Rattle.std.specs.Prelude.{decimal}
use Rattle.std.specs.Fmt.{signed_decimal}
use Rattle.std.specs.List.{AllByRecursion}
use Rattle.std.proofs.lemmas.Bool.{eqb-false}
use Rattle.loop_degree.specs.declared.labels.Label.{Label}
use Rattle.loop_report.specs.Loops.{crowded_line, done_line, finding_words, front_text, run_line, sets_line, spaced}
use Rattle.loop_sets.specs.declared.finding.Finding.{Finding}
use Rattle.loop_sets.specs.declared.finding.Finding.TheVariants as finding
use Rattle.tplane_paver.specs.declared.runs.Run.{Run}
use Rattle.tube_report.specs.Lines.{line}
use Rattle.bundle_text.specs.Bundles.{AreTracedSets, IsPair, IsCorner, FindingFits, IsRun, IsTracedQuery, IsTracedSet, IsNumber, cell_text, corner_text, front_of, query_text, set_text, sets_text, told_text}
use Rattle.bundle_text.specs.Lines.{cell_line, corner_line}
use Rattle.bundle_text.specs.declared.bundle.TracedQuery.{TracedQuery}
use Rattle.bundle_text.specs.declared.bundle.TracedSet.{TracedSet}
use Rattle.bundle_text.proofs.LineTexts.{cell_splits, corner_splits, count_plain, crowded_apart, crowded_splits, degree_small, done_splits, run_splits, same_signed, same_number, sets_splits, signed_plain, number_plain}
use Rattle.bundle_text.proofs.Splitting.{IsPlain, Splits, Stops, byte_of, first_of, many, other_byte, spaced_line, words_same}
use Rattle.std.proofs.lemmas.Fmt.{decimal_injective}

-- ---- the line of a set

finding_plain : (f : Finding) → FindingFits f → AllByRecursion IsPlain (finding_words f)
finding_plain (finding.Sure a b) h = ((refl, refl), ((refl, refl), (number_plain a h.0, (number_plain b h.1, tt))))
finding_plain (finding.Degree d) h = ((refl, refl), ((refl, refl), (signed_plain d (degree_small d h.0 h.1), tt)))
finding_plain finding.Unproved h = ((refl, refl), tt)

same_finding : (f g : Finding) → FindingFits f → FindingFits g → finding_words f ≡ finding_words g → f ≡ g
same_finding (finding.Sure a b) (finding.Sure c d) h k e =
    let first : decimal a ≡ decimal c = cc in
    let second : decimal b ≡ decimal d = cc in
    ap₂ finding.Sure (same_number a c h.0 k.0 first) (same_number b d h.1 k.1 second)
same_finding (finding.Sure a b) (finding.Degree d) h k e = absurd (eqb-false 4 3 refl (ap length e))
same_finding (finding.Sure a b) finding.Unproved h k e = absurd (eqb-false 4 1 refl (ap length e))
same_finding (finding.Degree c) (finding.Sure a b) h k e = absurd (eqb-false 3 4 refl (ap length e))
same_finding (finding.Degree c) (finding.Degree d) h k e =
    let third : signed_decimal c ≡ signed_decimal d = cc in
    ap finding.Degree (same_signed c d (degree_small c h.0 h.1) (degree_small d k.0 k.1) third)
same_finding (finding.Degree c) finding.Unproved h k e = absurd (eqb-false 3 1 refl (ap length e))
same_finding finding.Unproved (finding.Sure a b) h k e = absurd (eqb-false 1 4 refl (ap length e))
same_finding finding.Unproved (finding.Degree d) h k e = absurd (eqb-false 1 3 refl (ap length e))
same_finding finding.Unproved finding.Unproved h k e = refl

with_finding : (ws : List (List ℕ)) (f : Finding) → spaced ws ++ line (finding_words f) ≡ line (ws ++ finding_words f)
with_finding ws (finding.Sure a b) = spaced_line ws (codes "proved") (codes "sure" ∷ decimal a ∷ decimal b ∷ [])
with_finding ws (finding.Degree d) = spaced_line ws (codes "proved") (codes "degree" ∷ signed_decimal d ∷ [])
with_finding ws finding.Unproved = spaced_line ws (codes "possible") []

abbrev front_words : ℕ → TracedSet → List (List ℕ)
front_words n s = codes "set" ∷ decimal n ∷ codes "pairs" ∷ decimal s.pairs ∷ codes "a" ∷ decimal s.a.0 ∷ decimal s.a.1 ∷ codes "b" ∷ decimal s.b.0 ∷ decimal s.b.1 ∷ []

front_is : (n : ℕ) (s : TracedSet) → front_of n s ≡ line (front_words n s ++ finding_words s.finding)
unfolding front_text
front_is n s = with_finding (front_words n s) s.finding

front_plain : (n : ℕ) (s : TracedSet) → n < 2 ^ 64 → IsTracedSet s → AllByRecursion IsPlain (front_words n s ++ finding_words s.finding)
front_plain n s small h = (
  (refl, refl),
  (count_plain n small, ((refl, refl), (count_plain s.pairs h.pairs, ((refl, refl), (number_plain s.a.0 h.a.0, (number_plain s.a.1 h.a.1, ((refl, refl), (number_plain s.b.0 h.b.0, (number_plain s.b.1 h.b.1, finding_plain s.finding h.finding))))))))),
)

-- what the line of a set says
record IsSameFront (x y : TracedSet) : Type 0 where
  pub pairs : x.pairs ≡ y.pairs
  pub a : x.a ≡ y.a
  pub b : x.b ≡ y.b
  pub finding : x.finding ≡ y.finding

front_splits : (n : ℕ) → n < 2 ^ 64 → (x y : TracedSet) → IsTracedSet x → IsTracedSet y → (s t : List ℕ) → front_of n x ++ s ≡ front_of n y ++ t → IsSameFront x y × (s ≡ t)
front_splits n small x y h k s t e =
    let p = words_same (front_words n x ++ finding_words x.finding) (front_words n y ++ finding_words y.finding) (omega arith) (omega arith) (front_plain n x small h) (front_plain n y small k) s t
    (sym (ap (λ (u : List ℕ). u ++ s) (front_is n x)) ∙ (e ∙ ap (λ (u : List ℕ). u ++ t) (front_is n y))) in
    let pairs : decimal x.pairs ≡ decimal y.pairs = cc in
    let least_a : decimal x.a.0 ≡ decimal y.a.0 = cc in
    let greatest_a : decimal x.a.1 ≡ decimal y.a.1 = cc in
    let least_b : decimal x.b.0 ≡ decimal y.b.0 = cc in
    let greatest_b : decimal x.b.1 ≡ decimal y.b.1 = cc in
    let found : finding_words x.finding ≡ finding_words y.finding = cc in
    let pair = λ (m n : ℕ). let z : ℕ × ℕ = (m, n) in z in (
      record {
        pairs = decimal_injective x.pairs y.pairs h.pairs k.pairs pairs;
        a = ap₂ pair (same_number x.a.0 y.a.0 h.a.0 k.a.0 least_a) (same_number x.a.1 y.a.1 h.a.1 k.a.1 greatest_a);
        b = ap₂ pair (same_number x.b.0 y.b.0 h.b.0 k.b.0 least_b) (same_number x.b.1 y.b.1 h.b.1 k.b.1 greatest_b);
        finding = same_finding x.finding y.finding h.finding k.finding found;
      },
      p.1,
    )

-- ---- where runs, cells and corners stop

-- neither `run` nor `cell` nor `corner` begins there
abbrev pub AfterSet : List ℕ → Type 0
AfterSet s = (byte_of s ≡ 114 → ⊥) × (byte_of s ≡ 99 → ⊥)

run_byte : (r : Run) (u : List ℕ) → byte_of (run_line r ++ u) ≡ 114
unfolding run_line
run_byte r u = refl

cell_byte : (c : ℕ × ℕ) (u : List ℕ) → byte_of (cell_text c ++ u) ≡ 99
unfolding cell_line
cell_byte c u = refl

corner_byte : (c : ℕ × ℕ × Label) (u : List ℕ) → byte_of (corner_text c ++ u) ≡ 99
unfolding corner_line
corner_byte c u = refl

runs_stop : (cells : List (ℕ × ℕ)) (corners : List (ℕ × ℕ × Label)) (s : List ℕ) → AfterSet s → Stops run_line IsRun (flat_map cell_text cells ++ (flat_map corner_text corners ++ s))
runs_stop cells corners s h =
    let no = λ (c : ℕ). c ≡ 114 → ⊥ in
    other_byte run_line IsRun 114 run_byte (flat_map cell_text cells ++ (flat_map corner_text corners ++ s))
    (first_of cell_text (λ (c : ℕ). c ≡ 114 → ⊥) (λ c u e. eqb-false 99 114 refl (sym (cell_byte c u) ∙ e)) cells (flat_map corner_text corners ++ s)
    (first_of corner_text (λ (c : ℕ). c ≡ 114 → ⊥) (λ c u e. eqb-false 99 114 refl (sym (corner_byte c u) ∙ e)) corners s h.0))

cells_stop : (corners : List (ℕ × ℕ × Label)) (s : List ℕ) → AfterSet s → Stops cell_text IsPair (flat_map corner_text corners ++ s)
unfolding cell_line corner_line
cells_stop [] s h = other_byte cell_text IsPair 99 cell_byte s h.1
cells_stop (k ∷ ks) s h = λ c right u e. eqb-false 101 111 refl (ap (λ (t : List ℕ). get_or t 1 0) e)

corners_stop : (s : List ℕ) → AfterSet s → Stops corner_text IsCorner s
corners_stop s h = other_byte corner_text IsCorner 99 corner_byte s h.1

-- ---- sets

abbrev corners_and : TracedSet → List ℕ → List ℕ
corners_and x s = flat_map corner_text x.corners ++ s

abbrev cells_and : TracedSet → List ℕ → List ℕ
cells_and x s = flat_map cell_text x.cells ++ corners_and x s

parted : (n : ℕ) (x : TracedSet) (s : List ℕ) → set_text n x ++ s ≡ front_of n x ++ (flat_map run_line x.runs ++ cells_and x s)
parted n x s =
    append_assoc (front_of n x) (flat_map run_line x.runs ++ (flat_map cell_text x.cells ++ flat_map corner_text x.corners)) s
    ∙ ap (λ (t : List ℕ). front_of n x ++ t)
    (append_assoc (flat_map run_line x.runs) (flat_map cell_text x.cells ++ flat_map corner_text x.corners) s
    ∙ ap (λ (t : List ℕ). flat_map run_line x.runs ++ t) (append_assoc (flat_map cell_text x.cells) (flat_map corner_text x.corners) s))

abbrev set_of : ℕ → ℕ × ℕ → ℕ × ℕ → Finding → List Run → List (ℕ × ℕ) → List (ℕ × ℕ × Label) → TracedSet
set_of pairs a b f runs cells corners = record { pairs = pairs; a = a; b = b; finding = f; runs = runs; cells = cells; corners = corners }

same_set : (x y : TracedSet) → IsSameFront x y → x.runs ≡ y.runs → x.cells ≡ y.cells → x.corners ≡ y.corners → x ≡ y
same_set x y f runs cells corners =
    ap₂ (λ p a. set_of p a x.b x.finding x.runs x.cells x.corners) f.pairs f.a
    ∙ (ap₂ (λ b g. set_of y.pairs y.a b g x.runs x.cells x.corners) f.b f.finding
    ∙ (ap₂ (λ rs cs. set_of y.pairs y.a y.b y.finding rs cs x.corners) runs cells ∙ ap (λ (ks : List (ℕ × ℕ × Label)). set_of y.pairs y.a y.b y.finding y.runs y.cells ks) corners))

set_splits : (n : ℕ) → n < 2 ^ 64 → (x y : TracedSet) → IsTracedSet x → IsTracedSet y → (s t : List ℕ) → AfterSet s → AfterSet t → set_text n x ++ s ≡ set_text n y ++ t → (x ≡ y) × (s ≡ t)
set_splits n small x y h k s t p q e =
    let front = front_splits n small x y h k (flat_map run_line x.runs ++ cells_and x s) (flat_map run_line y.runs ++ cells_and y t) (sym (parted n x s) ∙ (e ∙ parted n y t)) in
    let runs = many run_line IsRun run_splits x.runs y.runs h.runs k.runs (cells_and x s) (cells_and y t) (runs_stop x.cells x.corners s p) (runs_stop y.cells y.corners t q) front.1 in
    let cells = many cell_text IsPair cell_splits x.cells y.cells h.cells k.cells (corners_and x s) (corners_and y t) (cells_stop x.corners s p) (cells_stop y.corners t q) runs.1 in
    let corners = many corner_text IsCorner corner_splits x.corners y.corners h.corners k.corners s t (corners_stop s p) (corners_stop t q) cells.1 in
    (same_set x y front.0 runs.0 cells.0 corners.0, corners.1)

sets_after : (n : ℕ) (xs : List TracedSet) (s : List ℕ) → AfterSet s → AfterSet (sets_text n xs ++ s)
unfolding front_text
sets_after n [] s h = h
sets_after n (x ∷ xs) s h = (λ e. eqb-false 115 114 refl e, λ e. eqb-false 115 99 refl e)

sets_same : (n : ℕ) (xs ys : List TracedSet) → n + length xs ≤ 2 ^ 63 → length xs ≡ length ys → AllByRecursion IsTracedSet xs → AllByRecursion IsTracedSet ys → (s t : List ℕ) → AfterSet s → AfterSet t
    → sets_text n xs ++ s ≡ sets_text n ys ++ t → (xs ≡ ys) × (s ≡ t)
sets_same n [] [] small size h k s t p q e = (refl, e)
sets_same n [] (y ∷ ys) small size h k s t p q e = absurd (omega arith)
sets_same n (x ∷ xs) [] small size h k s t p q e = absurd (omega arith)
sets_same n (x ∷ xs) (y ∷ ys) small size h k s t p q e =
    let first = set_splits n (omega arith) x y h.0 k.0 (sets_text (n + 1) xs ++ s) (sets_text (n + 1) ys ++ t) (sets_after (n + 1) xs s p) (sets_after (n + 1) ys t q)
    (sym (append_assoc (set_text n x) (sets_text (n + 1) xs) s) ∙ (e ∙ append_assoc (set_text n y) (sets_text (n + 1) ys) t)) in
    let rest = sets_same (n + 1) xs ys (omega arith) (omega arith) h.1 k.1 s t p q first.1 in
    (ap₂ (λ z zs. z ∷ zs) first.0 rest.0, rest.1)

-- ---- queries

told_splits : (m n : ℕ) (x y : Option (List TracedSet)) → IsNumber m → IsNumber n → IfSome x AreTracedSets → IfSome y AreTracedSets → (s t : List ℕ) → AfterSet s → AfterSet t
    → told_text m x ++ s ≡ told_text n y ++ t → (m ≡ n) × (x ≡ y) × (s ≡ t)
told_splits m n None None h k a b s t p q e = let r = crowded_splits m n h k s t e in (r.0, refl, r.1)
told_splits m n None (Some ys) h k a b s t p q e =
    absurd (crowded_apart m n (length ys) h k b.0 s (sets_text 1 ys ++ t) (e ∙ append_assoc (sets_line n (length ys)) (sets_text 1 ys) t))
told_splits m n (Some xs) None h k a b s t p q e =
    absurd (crowded_apart n m (length xs) k h a.0 t (sets_text 1 xs ++ s) (sym e ∙ append_assoc (sets_line m (length xs)) (sets_text 1 xs) s))
told_splits m n (Some xs) (Some ys) h k a b s t p q e =
    let counts = sets_splits m n (length xs) (length ys) h k a.0 b.0 (sets_text 1 xs ++ s) (sets_text 1 ys ++ t)
    (sym (append_assoc (sets_line m (length xs)) (sets_text 1 xs) s) ∙ (e ∙ append_assoc (sets_line n (length ys)) (sets_text 1 ys) t)) in
    let sets = sets_same 1 xs ys (omega (arith, a.0)) counts.1 a.1 b.1 s t p q counts.2 in
    (counts.0, ap Some sets.0, sets.1)

done_after : (n : ℕ) (s : List ℕ) → AfterSet (done_line n ++ s)
unfolding done_line
done_after n s = (λ e. eqb-false 100 114 refl e, λ e. eqb-false 100 99 refl e)

pub query_splits : Splits query_text IsTracedQuery
query_splits x y h k s t e =
    let told = told_splits x.number y.number x.sets y.sets h.number k.number h.sets k.sets (done_line x.number ++ s) (done_line y.number ++ t) (done_after x.number s) (done_after y.number t)
    (sym (append_assoc (told_text x.number x.sets) (done_line x.number) s) ∙ (e ∙ append_assoc (told_text y.number y.sets) (done_line y.number) t)) in
    (ap₂ (λ n sets. let q : TracedQuery = record { number = n; sets = sets } in q) told.0 told.1, done_splits x.number y.number h.number k.number s t told.2)

told_byte : (n : ℕ) (x : Option (List TracedSet)) (s u : List ℕ) → byte_of ((told_text n x ++ s) ++ u) ≡ 108
unfolding crowded_line sets_line
told_byte n None s u = refl
told_byte n (Some sets) s u = refl

pub query_byte : (q : TracedQuery) (u : List ℕ) → byte_of (query_text q ++ u) ≡ 108
query_byte q u = told_byte q.number q.sets (done_line q.number) u
