-- One row that is written among the rows.
use Rattle.std.proofs.Common.{◌≡◌, ℕ, suc, ◌+◌, ◌<◌, ◌≤◌, Bool, true, List, [], Vec, Global, vec_items, length, reverse, get_or, set, sum_by, arith, refl, sym, ap, subst, ◌∙◌, length-set}
use Rattle.std.proofs.lemmas.List.{map-set, get_or-map, get_or-set_other, get_or-set_same, length-map}
use Rattle.std.proofs.lemmas.List.Sums.{sum_by-set}
use Rattle.tplane_paver.specs.declared.rows.Stretch.{Stretch}
use Rattle.tplane_paver.specs.Rows.{row_at}
use Rattle.tplane_paver.specs.Paving.{grown, Puts, Advances, IsWork, IsDone, StandAt}
use Rattle.hull_tree.specs.declared.tree.Judged.TheVariants.{Within}
use Rattle.hull_tree.specs.Plane.{Plane, is_possible}
use Rattle.hull_tree.specs.Judging.{Says}
use Rattle.tplane_paver.specs.Rows.{runs_count}
use Rattle.tplane_paver.proofs.Advancing.{filled-row, advance-stack, begun-few, begun-after}
use Rattle.tplane_paver.proofs.Squares.{late-false}
use Rattle.tplane_paver.specs.Paving.{rows_of}

rows-set : (rows : List (Vec Stretch Global)) (a : ℕ) (row : Vec Stretch Global) → rows_of (set rows a row) ≡ set (rows_of rows) a row.items
rows-set rows a row = map-set vec_items rows a row

rows-length : (rows : List (Vec Stretch Global)) → length (rows_of rows) ≡ length rows
rows-length rows = length-map rows vec_items

pub puts-row : (rows : List (Vec Stretch Global)) (a first last : ℕ) (old new : Vec Stretch Global) → a < length rows → old ≡ get_or rows a old
    → ((l : List Stretch) → old.items ≡ reverse l → new.items ≡ reverse (grown l first last)) → Puts (rows_of rows) (rows_of (set rows a new)) a first last
puts-row rows a first last old new h g put = record {
  len = ap (length {A = List Stretch}) (rows-set rows a new) ∙ length-set (rows_of rows) a new.items;
  row = λ l e. at ∙ put l (sym was ∙ e);
  others = λ i ne. ap (λ (rs : List (List Stretch)). row_at rs i) (rows-set rows a new) ∙ get_or-set_other (rows_of rows) a i new.items [] ne;
}
  where
    was : row_at (rows_of rows) a ≡ old.items
    was = get_or-map vec_items rows a old [] h ∙ ap vec_items (sym g)

    at : row_at (rows_of (set rows a new)) a ≡ new.items
    at = ap (λ (rs : List (List Stretch)). row_at rs a) (rows-set rows a new) ∙ get_or-set_same (rows_of rows) a new.items [] (let e : length (rows_of rows) ≡ length rows = rows-length rows in omega (arith, e))

pub count-row : (rows : List (Vec Stretch Global)) (a count more : ℕ) (old new : Vec Stretch Global) → a < length rows → old ≡ get_or rows a old
    → length new.items ≡ length old.items + more → count ≡ sum_by length (rows_of rows) → count + more ≡ sum_by length (rows_of (set rows a new))
count-row rows a count more old new h g l c =
    let was : row_at (rows_of rows) a ≡ old.items = get_or-map vec_items rows a old [] h ∙ ap vec_items (sym g) in
    let len : length (rows_of rows) ≡ length rows = rows-length rows in
    let s = sum_by-set (length {A = Stretch}) (rows_of rows) a new.items [] (omega (arith, len)) in
    let e : length (row_at (rows_of rows) a) ≡ length old.items = ap (length {A = Stretch}) was in
    let f : sum_by length (rows_of (set rows a new)) ≡ sum_by length (set (rows_of rows) a new.items) = ap (sum_by (length {A = Stretch})) (rows-set rows a new) in
    omega (arith, s, e, f, l, c)

-- the row of i is filled
pub put-advance : (pairs : ℕ → ℕ → Bool) (n : ℕ) (old new : List (List Stretch)) (i b last : ℕ) → b ≤ last → Puts old new i b last → IsDone pairs old i b
    → ((j : ℕ) → b ≤ j → j ≤ last → pairs i j ≡ true) → Advances pairs n old new i (i + 1) (last + 1)
put-advance pairs n old new i b last l put done all = record {
  len = put.len;
  inside = λ k u v w. let e : k ≡ i = omega arith in subst (λ (m : ℕ). IsDone pairs new m (last + 1)) (sym e) made;
  before = λ k u. put.others k (λ e. omega arith);
  beyond = λ k u. put.others k (λ e. omega arith);
}
  where
    made : IsDone pairs new i (last + 1)
    made = let e : last + 1 ≡ suc last = omega arith in rw e (filled-row pairs old new i b last l done all put.row)

pub fill-step : (p : Plane) (r0 r1 r2 : List (List Stretch)) (a a_last i b last : ℕ) → b ≤ last → a ≤ i → i < a_last + 1 → a_last < length p.xs
    → Says (is_possible p) (record { first_a = a; last_a = a_last; first_b = b; last_b = last }) Within
    → StandAt (is_possible p) (length p.xs) r0 a (a_last + 1) b → Advances (is_possible p) (length p.xs) r0 r1 a i (last + 1) → Puts r1 r2 i b last
    → Advances (is_possible p) (length p.xs) r1 r2 i (i + 1) (last + 1) × Advances (is_possible p) (length p.xs) r0 r2 a (i + 1) (last + 1)
fill-step p r0 r1 r2 a a_last i b last l u v w says stand adv put =
    let one = put-advance (is_possible p) (length p.xs) r1 r2 i b last l put (adv.beyond i (omega arith) ∙ stand i u v (omega arith))
    (λ j x y. says i j (record { first_a = u; last_a = omega arith; first_b = x; last_b = y })) in
    (one, advance-stack (is_possible p) (length p.xs) r0 r1 r2 a i (i + 1) (last + 1) u (omega arith) adv one)

pub fill-crowded : (p : Plane) (r1 r2 : List (List Stretch)) (a e c count more : ℕ) → IsWork (is_possible p) (length p.xs) r1 count
    → Advances (is_possible p) (length p.xs) r1 r2 a e c → more ≡ sum_by length r2 → 2000000 < more → 2000000 < runs_count (is_possible p) (length p.xs)
fill-crowded p r1 r2 a e c count more work adv counted full =
    let few = begun-few (is_possible p) (length p.xs) r2 (adv.len ∙ work.len) (begun-after (is_possible p) (length p.xs) r1 r2 a e c adv work.begun) (λ i j. late-false p i j) in
    omega (arith, few, counted, full)

pub work-after : (p : Plane) (r1 r2 : List (List Stretch)) (a e c count more : ℕ) → IsWork (is_possible p) (length p.xs) r1 count
    → Advances (is_possible p) (length p.xs) r1 r2 a e c → more ≡ sum_by length r2 → more ≤ 2000000 → IsWork (is_possible p) (length p.xs) r2 more
work-after p r1 r2 a e c count more work adv counted room = record {
  len = adv.len ∙ work.len;
  counted = counted;
  room = room;
  begun = begun-after (is_possible p) (length p.xs) r1 r2 a e c adv work.begun;
}

pub advance-start : (pairs : ℕ → ℕ → Bool) (n : ℕ) (rows : List (List Stretch)) (a c : ℕ) → Advances pairs n rows rows a a c
advance-start pairs n rows a c = record { len = refl; inside = λ i u v w. absurd (omega arith); before = λ i u. refl; beyond = λ i u. refl }
