-- The lines of plain records are read as these records.
use Rattle.std.proofs.Common.{◌≡◌, ℕ, ◌<◌, ◌==◌, ◌||◌, Bool, true, false, List, [], ◌∷◌, ◌++◌, Some, None, refl, sym, ap, ◌∙◌, arith, append_assoc}
use Rattle.std.specs.List.{list_any}
use Rattle.std.proofs.lemmas.Bool.Decides.{nat_tests}
use Rattle.csv.specs.Machine.{next_record}
use Rattle.csv.specs.Reading.{default_config, strip_bom, records}
use Rattle.csv.specs.Quoting.{needs_byte}
use Rattle.csv.specs.Writing.{default_writer}
use Rattle.csv.specs.declared.parser.State.TheVariants as st
use Rattle.csv.proofs.RoundTrip.{plain-run, record-same, start-same}
use Rattle.csv_rows.specs.Left.{records_left}
use Rattle.csv_rows.specs.Lines.{AllBare, AllPlain, IsBare, IsPlain, is_special, line, lines, others}
use Rattle.csv_rows.specs.Records.{Record, records_of}
use Rattle.csv_rows.proofs.Machine.{left_all, left_more, left_none}

or_parts : (a b : Bool) → (a || b) ≡ false → (a ≡ false) × (b ≡ false)
or_parts true b e = cc
or_parts false b e = (refl, e)

-- a byte that is not special calls for no quotes
no_need : (b : ℕ) → is_special b ≡ false → needs_byte default_writer b ≡ false
no_need b h =
    let first = or_parts (b == 44) _ h in
    let second = or_parts (b == 34) _ first.1 in
    let third = or_parts (b == 10) (b == 13) second.1 in
    rw (first.0, second.0, third.0, third.1) refl

no_needs : (x : List ℕ) → IsBare x → list_any (needs_byte default_writer) x ≡ false
no_needs [] h = refl
no_needs (b ∷ x) h = let p = or_parts (is_special b) (list_any is_special x) h in rw (no_need b p.0, no_needs x p.1) refl

-- a bare field from its start, up to a byte that is no quote
field_read : (fields : List (List ℕ)) (x : List ℕ) (c : ℕ) (tail : List ℕ) → IsBare x → (c == 34) ≡ false
    → next_record default_config st.StartField fields [] (x ++ c ∷ tail) ≡ next_record default_config st.InField fields x (c ∷ tail)
field_read fields [] c tail h n = start-same fields [] c tail n
field_read fields (b ∷ x) c tail h n =
    let p = or_parts (is_special b) (list_any is_special x) h in
    let q = or_parts (b == 34) _ (or_parts (b == 44) _ p.0).1 in
    start-same fields [] b (x ++ c ∷ tail) q.0 ∙ plain-run fields [] (b ∷ x) (c ∷ tail) (no_needs (b ∷ x) h)

-- the other fields of a line, from the end of the field before
others_read : (fields : List (List ℕ)) (x : List ℕ) (rest : List (List ℕ)) (tail : List ℕ) → AllBare rest
    → next_record default_config st.InField fields x (others rest ++ 10 ∷ tail) ≡ Some (fields ++ x ∷ rest, st.StartRecord, tail)
unfolding next_record
others_read fields x [] tail h = refl
others_read fields x (y ∷ []) tail h =
    rw append_assoc (field_read (fields ++ x ∷ []) y 10 tail h.0 refl ∙ ap (λ (fs : List (List ℕ)). Some (fs, st.StartRecord, tail)) (append_assoc fields (x ∷ []) (y ∷ [])))
others_read fields x (y ∷ z ∷ rest) tail h =
    rw append_assoc (field_read (fields ++ x ∷ []) y 44 ((z ++ others rest) ++ 10 ∷ tail) h.0 refl
    ∙ (others_read (fields ++ x ∷ []) y (z ∷ rest) tail h.1
    ∙ ap (λ (fs : List (List ℕ)). Some (fs, st.StartRecord, tail)) (append_assoc fields (x ∷ []) (y ∷ z ∷ rest))))

-- a line is read as its record
pub line_read : (r : Record) (tail : List ℕ) → IsPlain r → next_record default_config st.StartRecord [] [] (line r ++ tail) ≡ Some (r, st.StartRecord, tail)
line_read [] tail h = absurd h
line_read ([] ∷ fields) tail h = absurd (omega (arith, h.0))
line_read ((b ∷ x) ∷ fields) tail h =
    let p = or_parts (is_special b) (list_any is_special x) h.2 in
    let q = or_parts (b == 34) _ (or_parts (b == 44) _ p.0).1 in
    let r = or_parts (b == 10) (b == 13) q.1 in
    let text : line ((b ∷ x) ∷ fields) ++ tail ≡ (b ∷ x) ++ (others fields ++ 10 ∷ tail) =
    append_assoc (b ∷ x) (others fields ++ 10 ∷ []) tail ∙ ap (λ (xs : List ℕ). (b ∷ x) ++ xs) (append_assoc (others fields) (10 ∷ []) tail) in
    ap (next_record default_config st.StartRecord [] []) text
    ∙ (record-same [] [] b (x ++ (others fields ++ 10 ∷ tail)) r.1 r.0
    ∙ (start-same [] [] b (x ++ (others fields ++ 10 ∷ tail)) q.0
    ∙ (plain-run [] [] (b ∷ x) (others fields ++ 10 ∷ tail) (no_needs (b ∷ x) h.2)
    ∙ others_read [] (b ∷ x) fields tail h.3)))

nothing_read : next_record default_config st.StartRecord [] [] [] ≡ None
unfolding next_record
nothing_read = refl

lines_left : (rs : List Record) → AllPlain rs → records_left st.StartRecord (lines rs) ≡ rs
lines_left [] h = left_none st.StartRecord [] nothing_read
lines_left (r ∷ rs) h =
    left_more st.StartRecord (lines (r ∷ rs)) (r, st.StartRecord, lines rs) refl (line_read r (lines rs) h.0)
    ∙ ap (λ (xs : List Record). r ∷ xs) (lines_left rs h.1)

-- a text that begins with an ASCII byte has no byte order mark
no_mark : (b : ℕ) (xs : List ℕ) → b < 128 → strip_bom (b ∷ xs) ≡ b ∷ xs
unfolding strip_bom
no_mark b [] h = refl
no_mark b (c ∷ []) h = refl
no_mark b (c ∷ d ∷ rest) h = let other : (b == 239) ≡ false = grind (arith, nat_tests) in rw other refl

no_marks : (rs : List Record) → AllPlain rs → strip_bom (lines rs) ≡ lines rs
unfolding strip_bom
no_marks [] h = refl
no_marks ([] ∷ rs) h = absurd h.0
no_marks (([] ∷ fields) ∷ rs) h = absurd (omega (arith, h.0.0))
no_marks (((b ∷ x) ∷ fields) ∷ rs) h = no_mark b _ h.0.1

-- the lines of plain records have these records
pub lines_read : (rs : List Record) → AllPlain rs → records_of (lines rs) ≡ rs
lines_read rs h = ap (records default_config) (no_marks rs h) ∙ (sym (left_all (lines rs)) ∙ lines_left rs h)
