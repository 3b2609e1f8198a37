-- The beacons of records as points: how many, which variables, and those of further records.
use Rattle.std.proofs.Common.{◌≡◌, ℕ, suc, ◌+◌, ◌*◌, ◌<◌, ◌≤◌, List, [], ◌∷◌, ◌++◌, All, refl, sym, ap, ap₂, ◌∙◌, arith, length, length-append, append-nil, append_assoc}
use Rattle.std.specs.Prelude.{slice_index_or}
use Rattle.std.specs.List.{concat}
use Rattle.std.proofs.lemmas.List.Elements.{All-append, All-from_recursion, All-get_or, All-nil}
use Rattle.std.proofs.lemmas.List.Sums.{sum_by-cons, sum_by-append}
use Rattle.mission_items.specs.declared.item.Item.{Item}
use Rattle.mission_items.specs.declared.item.Item.TheVariants as item
use Rattle.mission_items.specs.Made.{beacons_in, beacons_made, variables_in, variables_made}
use Rattle.mission_net.specs.Records.{mark_of, marks_from, marks_in, point_at}

-- ---- how many

length-mark_of : (before : List Item) (r : Item) → length (mark_of before r) ≡ beacons_made r
length-mark_of before (item.Beacon name x y) = refl
length-mark_of before r = refl

length-marks_from : (before rs : List Item) → length (marks_from before rs) ≡ beacons_in rs
length-marks_from before [] = refl
length-marks_from before (r ∷ rs) =
    length-append (mark_of before r) (marks_from (before ++ r ∷ []) rs) ∙ ap₂ (λ (m n : ℕ). m + n) (length-mark_of before r) (length-marks_from (before ++ r ∷ []) rs) ∙ sym (sum_by-cons beacons_made r rs)

pub length-marks_in : (items : List Item) → length (marks_in items) ≡ beacons_in items
length-marks_in items = length-marks_from [] items

-- ---- one more record

marks_from-append : (before xs ys : List Item) → marks_from before (xs ++ ys) ≡ marks_from before xs ++ marks_from (before ++ xs) ys
marks_from-append before [] ys = ap (λ (b : List Item). marks_from b ys) (sym (append-nil before))
marks_from-append before (r ∷ xs) ys =
    ap (λ (l : List (List ℕ)). mark_of before r ++ l) (marks_from-append (before ++ r ∷ []) xs ys ∙ ap (λ (b : List Item). marks_from (before ++ r ∷ []) xs ++ marks_from b ys) (append_assoc before (r ∷ []) xs))
    ∙ sym (append_assoc (mark_of before r) (marks_from (before ++ r ∷ []) xs) (marks_from (before ++ r ∷ xs) ys))

pub marks_in-last : (items : List Item) (r : Item) → marks_in (items ++ r ∷ []) ≡ marks_in items ++ mark_of items r
marks_in-last items r = marks_from-append [] items (r ∷ []) ∙ ap (λ (l : List (List ℕ)). marks_in items ++ l) (append-nil (mark_of items r))

-- ---- each is a point of two variables that the records make

-- a point of two variables that stand below a number
pub record IsPointBelow (n : ℕ) (p : List ℕ) : Type 0 where
  pub size : length p ≡ 2
  pub below : All (λ v. v < n) p

pub point-below : (n first : ℕ) → first + 1 < n → IsPointBelow n (point_at first)
point-below n first h = record {
  size = refl;
  below = All-from_recursion (λ v. v < n) (point_at first) (omega (arith, h), (omega (arith, h), tt));
}

pub points-more : (m n : ℕ) → m ≤ n → (ps : List (List ℕ)) → All (IsPointBelow m) ps → All (IsPointBelow n) ps
points-more m n h ps all k d l = record {
  size = (all k d l).size;
  below = λ i e j. let one = (all k d l).below i e j in omega (arith, one, h);
}

mark-below : (before : List Item) (r : Item) → All (IsPointBelow (variables_in before + variables_made r)) (mark_of before r)
mark-below before (item.Beacon name x y) = All-from_recursion (IsPointBelow (variables_in before + 2)) (point_at (variables_in before) ∷ []) (point-below (variables_in before + 2) (variables_in before) (omega arith), tt)
mark-below before r = All-nil (IsPointBelow (variables_in before + variables_made r))

marks-from : (before rs : List Item) → All (IsPointBelow (variables_in before + variables_in rs)) (marks_from before rs)
marks-from before [] = All-nil (IsPointBelow (variables_in before + variables_in []))
marks-from before (r ∷ rs) =
    let n = variables_in before + variables_in (r ∷ rs) in
    let size = sum_by-cons variables_made r rs in
    let more = sum_by-append variables_made before (r ∷ []) in
    let one = sum_by-cons variables_made r [] in
    All-append (IsPointBelow n) (mark_of before r) (marks_from (before ++ r ∷ []) rs)
    (points-more (variables_in before + variables_made r) n (omega (arith, size)) (mark_of before r) (mark-below before r))
    (points-more (variables_in (before ++ r ∷ []) + variables_in rs) n (omega (arith, size, more, one)) (marks_from (before ++ r ∷ []) rs) (marks-from (before ++ r ∷ []) rs))

pub marks-below : (items : List Item) → All (IsPointBelow (variables_in items)) (marks_in items)
marks-below items = points-more (0 + variables_in items) (variables_in items) (omega arith) (marks_in items) (marks-from [] items)

-- the beacon with a number
pub mark-at : (items : List Item) (beacon : ℕ) → beacon < beacons_in items → IsPointBelow (variables_in items) (slice_index_or (marks_in items) beacon [])
mark-at items beacon h = All-get_or (IsPointBelow (variables_in items)) (marks_in items) beacon [] (omega (arith, h, length-marks_in items)) (marks-below items)

-- how many coordinates they have together
pub concat-points : (n : ℕ) (ps : List (List ℕ)) → All (IsPointBelow n) ps → length (concat ps) ≡ 2 * length ps
concat-points n [] all = refl
concat-points n (p ∷ ps) all =
    let first = all 0 p (omega arith) in
    let rest = concat-points n ps (λ k d l. all (suc k) d (omega (arith, l))) in
    length-append p (concat ps) ∙ omega (arith, first.size, rest)
