-- How many of the marks of a chart's first points are each mark.
use Rattle.std.proofs.Common.{◌≡◌, ℕ, ◌+◌, ◌*◌, ◌-◌, ◌^◌, ◌<◌, ◌≤◌, List, [], ◌∷◌, ◌++◌, length, length-append, map, flat_map, refl, sym, ap, ◌∙◌, arith, append-nil, add-mul}
use Rattle.std.specs.List.{range_with_len}
use Rattle.std.proofs.lemmas.Grind.{flat_map-append}
use Rattle.std.proofs.lemmas.List.{map-id}
use Rattle.std.proofs.lemmas.List.FromFn.{length-map-range_with_len, length-range_with_len, map-range_with_len_more}
use Rattle.std.proofs.lemmas.List.Sums.{count_by-le-length, sum_by-append}
use Rattle.std.proofs.lemmas.Nat.{mul-le}
use Rattle.area_paver.specs.Charts.{Chart, mark_of}
use Rattle.area_paver.specs.declared.chart.Mark.{Mark}
use Rattle.area_paver.specs.declared.chart.Mark.TheVariants.{Never, Seen, Open}
use Rattle.area_report.specs.Marks.{count_of, counts_of, is_same, row_marks, sum_of}
use Rattle.area_report.specs.declared.marks.Counts.{Counts}

count-append : (mark : Mark) (xs ys : List Mark) → count_of mark (xs ++ ys) ≡ count_of mark xs + count_of mark ys
count-append mark xs ys = sum_by-append _ xs ys

counts-append : (xs ys : List Mark) → counts_of (xs ++ ys) ≡ sum_of (counts_of xs) (counts_of ys)
counts-append xs ys = rw (count-append Never xs ys, count-append Seen xs ys, count-append Open xs ys) refl

-- two counts together fit into 64 bits
pub record HasRoom (a b : Counts) : Type 0 where
  pub never_seen : a.never_seen + b.never_seen < 2 ^ 64
  pub surely_seen : a.surely_seen + b.surely_seen < 2 ^ 64
  pub left_open : a.left_open + b.left_open < 2 ^ 64

-- the counts of two lists that are not long do
room : (a b : Counts) (xs ys : List Mark) → a ≡ counts_of xs → b ≡ counts_of ys → length xs + length ys < 2 ^ 64 → HasRoom a b
room a b xs ys p q short = record {
  never_seen = omega (arith, ap (λ (n : Counts). n.never_seen) p, ap (λ (n : Counts). n.never_seen) q, few Never);
  surely_seen = omega (arith, ap (λ (n : Counts). n.surely_seen) p, ap (λ (n : Counts). n.surely_seen) q, few Seen);
  left_open = omega (arith, ap (λ (n : Counts). n.left_open) p, ap (λ (n : Counts). n.left_open) q, few Open);
}
  where
    few : (mark : Mark) → count_of mark xs + count_of mark ys < 2 ^ 64
    few mark = omega (arith, short, count_by-le-length (is_same mark) xs, count_by-le-length (is_same mark) ys)

-- ---- the marks of a row's first columns

abbrev pub first_columns : Chart → ℕ → ℕ → List Mark
first_columns c row n = map (λ column. mark_of c column row) (range_with_len 0 n)

pub one_column : (c : Chart) (row n : ℕ) → counts_of (first_columns c row (n + 1)) ≡ sum_of (counts_of (first_columns c row n)) (counts_of (mark_of c n row ∷ []))
one_column c row n =
    ap counts_of (map-range_with_len_more (λ column. mark_of c column row) 0 n n (omega arith))
    ∙ counts-append (first_columns c row n) (mark_of c n row ∷ [])

pub column_room : (c : Chart) (row n : ℕ) (a b : Counts) (mark : Mark) → n < 2 ^ 32 → a ≡ counts_of (first_columns c row n) → b ≡ counts_of (mark ∷ []) → HasRoom a b
column_room c row n a b mark few p q =
    room a b (first_columns c row n) (mark ∷ []) p q (omega (arith, few, length-map-range_with_len (λ column. mark_of c column row) 0 n))

-- ---- the marks of the first rows

abbrev pub first_rows : Chart → ℕ → List Mark
first_rows c n = flat_map (row_marks c) (range_with_len 0 n)

range_more : (n : ℕ) → range_with_len 0 (n + 1) ≡ range_with_len 0 n ++ n ∷ []
range_more n =
    sym (map-id (range_with_len 0 (n + 1)))
    ∙ (map-range_with_len_more (λ (x : ℕ). x) 0 n n (omega arith) ∙ ap (λ (xs : List ℕ). xs ++ n ∷ []) (map-id (range_with_len 0 n)))

pub one_row : (c : Chart) (n : ℕ) → counts_of (first_rows c (n + 1)) ≡ sum_of (counts_of (first_rows c n)) (counts_of (row_marks c n))
one_row c n =
    ap (λ (rows : List ℕ). counts_of (flat_map (row_marks c) rows)) (range_more n)
    ∙ (ap counts_of (flat_map-append (row_marks c) (range_with_len 0 n) (n ∷ []) ∙ ap (λ (xs : List Mark). first_rows c n ++ xs) (append-nil (row_marks c n)))
    ∙ counts-append (first_rows c n) (row_marks c n))

length-rows : (c : Chart) (rows : List ℕ) → length (flat_map (row_marks c) rows) ≡ length rows * c.columns.count
length-rows c [] = omega arith
length-rows c (row ∷ rows) =
    let marks = length-map-range_with_len (λ column. mark_of c column row) 0 c.columns.count in
    omega (arith, length-append (row_marks c row) (flat_map (row_marks c) rows), marks, length-rows c rows, add-mul (length rows) 1 c.columns.count)

pub row_room : (c : Chart) (n : ℕ) (a b : Counts) → n < 2 ^ 32 → c.columns.count < 2 ^ 32 → a ≡ counts_of (first_rows c n) → b ≡ counts_of (row_marks c n) → HasRoom a b
row_room c n a b few narrow p q =
    let all = length-rows c (range_with_len 0 n) in
    let size : length (range_with_len 0 n) * c.columns.count ≤ (2 ^ 32 - 1) * (2 ^ 32 - 1) =
    mul-le (length (range_with_len 0 n)) c.columns.count (2 ^ 32 - 1) (2 ^ 32 - 1) (omega (arith, few, length-range_with_len 0 n)) (omega (arith, narrow)) in
    room a b (first_rows c n) (row_marks c n) p q (omega (arith, all, size, narrow, length-map-range_with_len (λ column. mark_of c column n) 0 c.columns.count))
