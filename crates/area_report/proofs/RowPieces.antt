-- The bytes of a row's marks, part by part.
use Rattle.std.proofs.Common.{◌≡◌, ℕ, ◌+◌, ◌<◌, ◌≤◌, List, ◌++◌, Result, Ok, Err, length, map, take, drop, get_or, sym, ap, ◌∙◌, subst, arith, length-drop, append_assoc, codes}
use Rattle.std.specs.Prelude.{Option}
use Rattle.std.proofs.Math.Seq.{take-add}
use Rattle.std.proofs.lemmas.List.{get_or-drop, get_or-map, get_or-take, length-map, length-take, take-append-drop}
use Rattle.std.proofs.lemmas.List.FromFn.{fill_by_all, get_or-map-range_with_len, length-map-range_with_len}
use Rattle.std.specs.Fmt.{signed_decimal}
use Rattle.area_paver.specs.Charts.{Chart, mark_of}
use Rattle.area_paver.specs.Lattice.{coordinate}
use Rattle.area_report.specs.Areas.{mark_byte, row_line}
use Rattle.area_report.specs.Marks.{row_marks}
use Rattle.tube_io.specs.Sends.{Sends}
use Rattle.tube_io.proofs.Sent.{sends_stops, sends_then}

-- the front of a row's line, and the bytes of its marks
abbrev pub row_front : Chart → ℕ → List ℕ
row_front c row = codes "row " ++ (signed_decimal (coordinate c.rows row) ++ codes " ")

abbrev pub row_bytes : Chart → ℕ → List ℕ
row_bytes c row = map mark_byte (row_marks c row)

pub length-row_bytes : (c : Chart) (row : ℕ) → length (row_bytes c row) ≡ c.columns.count
length-row_bytes c row = length-map (row_marks c row) mark_byte ∙ length-map-range_with_len (λ column. mark_of c column row) 0 c.columns.count

byte_at : (c : Chart) (row column : ℕ) → column < c.columns.count → get_or (row_bytes c row) column 0 ≡ mark_byte (mark_of c column row)
byte_at c row column inside =
    let marks = λ (k : ℕ). mark_of c k row in
    get_or-map mark_byte (row_marks c row) column (marks column) 0 (omega (arith, inside, length-map-range_with_len marks 0 c.columns.count))
    ∙ ap mark_byte (get_or-map-range_with_len marks 0 c.columns.count column column (marks column) inside (omega arith))

module _ (c : Chart) (row first n : ℕ) (inside : first + n ≤ c.columns.count) where
  length-piece : length (take n (drop first (row_bytes c row))) ≡ n
  length-piece = omega (arith, inside, length-take n (drop first (row_bytes c row)), length-drop first (row_bytes c row), length-row_bytes c row)

  piece_at : (k : ℕ) → k < n → get_or (take n (drop first (row_bytes c row))) k 0 ≡ mark_byte (mark_of c (first + k) row)
  piece_at k below =
      get_or-take n (drop first (row_bytes c row)) k 0 below
      ∙ (get_or-drop first (row_bytes c row) k 0 ∙ byte_at c row (first + k) (omega (arith, below, inside)))

  -- a piece that has the byte of each of these columns
  pub piece_is : (piece : List ℕ) → length piece ≡ n → ((k : ℕ) → k < n → get_or piece k 0 ≡ mark_byte (mark_of c (first + k) row)) → piece ≡ take n (drop first (row_bytes c row))
  piece_is piece size each =
      let byte = λ (k : ℕ). mark_byte (mark_of c (first + k) row) in
      fill_by_all byte piece n 0 size each ∙ sym (fill_by_all byte (take n (drop first (row_bytes c row))) n 0 length-piece piece_at)

module _ {K : Type 0} (written : K → Option (List ℕ)) (flushed : K → Option ℕ) (faults : K → ℕ) (text : List ℕ) (a n : ℕ) where
  -- a piece of a text after the front of it
  pub sends_piece : {E : Type 0} (m : ℕ) (s t u : K) → n ≡ m → Sends {T = Unit {0}} {E = E} written flushed faults (take a text) s t (Ok tt)
      → Sends {T = Unit {0}} {E = E} written flushed faults (take n (drop a text)) t u (Ok tt)
      → Sends {T = Unit {0}} {E = E} written flushed faults (take (a + m) text) s u (Ok tt)
  sends_piece {E} m s t u e p q =
      subst (λ (x : List ℕ). Sends {T = Unit {0}} {E = E} written flushed faults x s u (Ok tt)) (sym (take-add a n text) ∙ ap (λ (k : ℕ). take (a + k) text) e)
      (sends_then written flushed faults (take a text) (take n (drop a text)) s t u (Ok tt) p q)

  -- a write that fails in a piece ends the text early
  pub sends_no_piece : {E : Type 0} (s t u : K) (f : E) → Sends {T = Unit {0}} {E = E} written flushed faults (take a text) s t (Ok tt)
      → Sends {T = Unit {0}} {E = E} written flushed faults (take n (drop a text)) t u (Err f)
      → Sends {T = Unit {0}} {E = E} written flushed faults text s u (Err f)
  sends_no_piece {E} s t u f p q =
      let both = sends_then written flushed faults (take a text) (take n (drop a text)) s t u (Err f) p q in
      let whole : (take a text ++ take n (drop a text)) ++ drop (a + n) text ≡ text =
      ap (λ (x : List ℕ). x ++ drop (a + n) text) (sym (take-add a n text)) ∙ take-append-drop (a + n) text in
      subst (λ (x : List ℕ). Sends {T = Unit {0}} {E = E} written flushed faults x s u (Err f)) whole
      (sends_stops written flushed faults (take a text ++ take n (drop a text)) (drop (a + n) text) s u f both)

-- the line of a row: its front, the marks, and the line's end
row_parts : (c : Chart) (row : ℕ) → row_front c row ++ (row_bytes c row ++ codes "\n") ≡ row_line c row
unfolding row_line
row_parts c row = ap (λ (t : List ℕ). codes "row " ++ t) (append_assoc (signed_decimal (coordinate c.rows row)) (codes " ") (row_bytes c row ++ codes "\n"))

module _ {K : Type 0} (written : K → Option (List ℕ)) (flushed : K → Option ℕ) (faults : K → ℕ) (c : Chart) (row : ℕ) where
  pub sends_row : {E : Type 0} (s t u v : K) (result : Result (Unit {0}) E) → Sends {T = Unit {0}} {E = E} written flushed faults (row_front c row) s t (Ok tt)
      → Sends {T = Unit {0}} {E = E} written flushed faults (row_bytes c row) t u (Ok tt)
      → Sends {T = Unit {0}} {E = E} written flushed faults (codes "\n") u v result
      → Sends {T = Unit {0}} {E = E} written flushed faults (row_line c row) s v result
  sends_row {E} s t u v result p q r =
      subst (λ (x : List ℕ). Sends {T = Unit {0}} {E = E} written flushed faults x s v result) (row_parts c row)
      (sends_then written flushed faults (row_front c row) (row_bytes c row ++ codes "\n") s t v result p (sends_then written flushed faults (row_bytes c row) (codes "\n") t u v result q r))

  -- a write that fails in the front ends the line early
  pub sends_no_front : {E : Type 0} (s t : K) (f : E) → Sends {T = Unit {0}} {E = E} written flushed faults (row_front c row) s t (Err f)
      → Sends {T = Unit {0}} {E = E} written flushed faults (row_line c row) s t (Err f)
  sends_no_front {E} s t f p =
      subst (λ (x : List ℕ). Sends {T = Unit {0}} {E = E} written flushed faults x s t (Err f)) (row_parts c row)
      (sends_stops written flushed faults (row_front c row) (row_bytes c row ++ codes "\n") s t f p)

  -- and one that fails among the marks
  pub sends_no_marks : {E : Type 0} (s t u : K) (f : E) → Sends {T = Unit {0}} {E = E} written flushed faults (row_front c row) s t (Ok tt)
      → Sends {T = Unit {0}} {E = E} written flushed faults (row_bytes c row) t u (Err f)
      → Sends {T = Unit {0}} {E = E} written flushed faults (row_line c row) s u (Err f)
  sends_no_marks {E} s t u f p q =
      subst (λ (x : List ℕ). Sends {T = Unit {0}} {E = E} written flushed faults x s u (Err f)) (row_parts c row)
      (sends_then written flushed faults (row_front c row) (row_bytes c row ++ codes "\n") s t u (Err f) p (sends_stops written flushed faults (row_bytes c row) (codes "\n") t u f q))
