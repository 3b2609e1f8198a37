-- A text of lines is read as the records of its lines.
use Rattle.std.proofs.Common.{◌≡◌, ℕ, ◌<◌, ◌==◌, ◌||◌, Bool, true, false, List, [], ◌∷◌, ◌++◌, Some, None, refl, sym, ap, ◌∙◌, arith, append_assoc, append-nil, flat_map, map}
use Rattle.std.specs.Prelude.{All, ◌≢◌}
use Rattle.std.specs.List.{list_any}
use Rattle.std.proofs.lemmas.Bool.Decides.{nat_tests}
use Rattle.std.proofs.lemmas.List.Elements.{All-head, All-tail}
use Rattle.csv.specs.Machine.{next_record}
use Rattle.csv.specs.Reading.{default_config, records, strip_bom}
use Rattle.csv.specs.Quoting.{needs_byte}
use Rattle.csv.specs.Writing.{default_writer}
use Rattle.csv.specs.declared.parser.State.TheVariants as st
use Rattle.csv.proofs.RoundTrip.{plain-run, record-same, start-same}
use Rattle.csv_rows.specs.Left.{records_left}
use Rattle.csv_rows.specs.Lines.{IsBare, IsPlain, is_special, line}
use Rattle.csv_rows.specs.Records.{Record, records_of}
use Rattle.csv_rows.proofs.Machine.{left_all, left_more, left_none}
use Rattle.csv_rows.proofs.PlainLines.{line_read}
use Rattle.log_text.specs.Written.{quoted}

-- what a line is read as, whatever comes behind it
pub record IsLine (text : List ℕ) (r : Record) : Type 0 where
  pub first : ℕ
  pub rest : List ℕ
  pub begins : text ≡ first ∷ rest
  pub ascii : first < 128
  pub reads : (tail : List ℕ) → next_record default_config st.StartRecord [] [] (text ++ tail) ≡ Some (r, st.StartRecord, tail)

-- ---- a line of bare fields

pub plain_line : (r : Record) → IsPlain r → IsLine (line r) r
plain_line [] h = absurd h
plain_line ([] ∷ fields) h = absurd (omega (arith, h.0))
plain_line ((b ∷ x) ∷ fields) h = record { first = b; rest = _; begins = refl; ascii = h.1; reads = λ tail. line_read ((b ∷ x) ∷ fields) tail h }

-- ---- a line of a word and a field in double quotes

or_parts : (a b : Bool) → (a || b) ≡ false → (a ≡ false) × (b ≡ false)
or_parts true b e = cc
or_parts false b e = (refl, e)

-- a byte that is not special calls for no quotes
no_need : (b : ℕ) → is_special b ≡ false → needs_byte default_writer b ≡ false
no_need b h =
    let first = or_parts (b == 44) _ h in
    let second = or_parts (b == 34) _ first.1 in
    let third = or_parts (b == 10) (b == 13) second.1 in
    rw (first.0, second.0, third.0, third.1) refl

no_needs : (x : List ℕ) → IsBare x → list_any (needs_byte default_writer) x ≡ false
no_needs [] h = refl
no_needs (b ∷ x) h = let p = or_parts (is_special b) (list_any is_special x) h in rw (no_need b p.0, no_needs x p.1) refl

-- between the quotes
inside : (fields : List (List ℕ)) (field x tail : List ℕ) → All (λ c. c ≢ 34) x
    → next_record default_config st.InQuoted fields field (x ++ 34 ∷ tail) ≡ next_record default_config st.AfterQuote fields (field ++ x) tail
unfolding next_record
inside fields field [] tail h = rw (append-nil field) refl
inside fields field (b ∷ x) tail h =
    let other : b ≢ 34 = All-head (λ c. c ≢ 34) b x h in
    let no : (b == 34) ≡ false = grind (arith, nat_tests) in
    rw no (inside fields (field ++ b ∷ []) x tail (All-tail (λ c. c ≢ 34) b x h)
    ∙ ap (λ (f : List ℕ). next_record default_config st.AfterQuote fields f tail) (append_assoc field (b ∷ []) x))

-- the field, and the end of the line
quoted_end : (fields : List (List ℕ)) (x tail : List ℕ) → All (λ c. c ≢ 34) x
    → next_record default_config st.StartField fields [] (34 ∷ (x ++ 34 ∷ 10 ∷ tail)) ≡ Some (fields ++ x ∷ [], st.StartRecord, tail)
unfolding next_record
quoted_end fields x tail h = inside fields [] x (10 ∷ tail) h

word_read : (b : ℕ) (w tail : List ℕ) → IsBare (b ∷ w)
    → next_record default_config st.StartRecord [] [] ((b ∷ w) ++ 44 ∷ tail) ≡ next_record default_config st.StartField ((b ∷ w) ∷ []) [] tail
unfolding next_record
word_read b w tail h =
    let p = or_parts (is_special b) (list_any is_special w) h in
    let q = or_parts (b == 34) _ (or_parts (b == 44) _ p.0).1 in
    let r = or_parts (b == 10) (b == 13) q.1 in
    record-same [] [] b (w ++ 44 ∷ tail) r.1 r.0
    ∙ (start-same [] [] b (w ++ 44 ∷ tail) q.0
    ∙ plain-run [] [] (b ∷ w) (44 ∷ tail) (no_needs (b ∷ w) h))

-- a word, a comma and a field in double quotes
pub quoted_line : (b : ℕ) (w x : List ℕ) → b < 128 → IsBare (b ∷ w) → All (λ c. c ≢ 34) x → IsLine (line ((b ∷ w) ∷ quoted x ∷ [])) ((b ∷ w) ∷ x ∷ [])
quoted_line b w x ascii bare none = record {
  first = b;
  rest = _;
  begins = refl;
  ascii = ascii;
  reads = λ tail.
      ap (next_record default_config st.StartRecord [] []) (text tail)
      ∙ (word_read b w (34 ∷ (x ++ 34 ∷ 10 ∷ tail)) bare ∙ quoted_end ((b ∷ w) ∷ []) x tail none);
}
  where
    text : (tail : List ℕ) → line ((b ∷ w) ∷ quoted x ∷ []) ++ tail ≡ (b ∷ w) ++ 44 ∷ 34 ∷ (x ++ 34 ∷ 10 ∷ tail)
    text tail =
        ap (λ (q : List ℕ). ((b ∷ w) ++ ((44 ∷ q) ++ 10 ∷ [])) ++ tail) (append-nil (quoted x))
        ∙ (append_assoc (b ∷ w) ((44 ∷ quoted x) ++ 10 ∷ []) tail
        ∙ ap (λ (t : List ℕ). (b ∷ w) ++ 44 ∷ 34 ∷ t) (append_assoc (x ++ 34 ∷ []) (10 ∷ []) tail ∙ append_assoc x (34 ∷ []) (10 ∷ tail)))

-- ---- lines one after the other

-- a text that begins with an ASCII byte has no byte order mark
no_mark : (text : List ℕ) (b : ℕ) (xs : List ℕ) → text ≡ b ∷ xs → b < 128 → strip_bom text ≡ text
unfolding strip_bom
no_mark text b [] e h = rw e refl
no_mark text b (c ∷ []) e h = rw e refl
no_mark text b (c ∷ d ∷ rest) e h = let other : (b == 239) ≡ false = grind (arith, nat_tests) in rw (e, other) refl

nothing_read : next_record default_config st.StartRecord [] [] [] ≡ None
unfolding next_record
nothing_read = refl

abbrev pub AreLines : {A : Type 0} → (A → List ℕ) → (A → Record) → List A → Type 0
AreLines text read [] = Unit {0}
AreLines text read (x ∷ xs) = IsLine (text x) (read x) × AreLines text read xs

lines_left : {A : Type 0} (text : A → List ℕ) (read : A → Record) (xs : List A) → AreLines text read xs → records_left st.StartRecord (flat_map text xs) ≡ map read xs
lines_left text read [] h = left_none st.StartRecord [] nothing_read
lines_left text read (x ∷ xs) h =
    left_more st.StartRecord (flat_map text (x ∷ xs)) (read x, st.StartRecord, flat_map text xs) refl (h.0.reads (flat_map text xs))
    ∙ ap (λ (rs : List Record). read x ∷ rs) (lines_left text read xs h.1)

no_marks : {A : Type 0} (text : A → List ℕ) (read : A → Record) (xs : List A) → AreLines text read xs → strip_bom (flat_map text xs) ≡ flat_map text xs
unfolding strip_bom
no_marks text read [] h = refl
no_marks text read (x ∷ xs) h =
    let l = h.0 in
    no_mark (text x ++ flat_map text xs) l.first (l.rest ++ flat_map text xs) (ap (λ (t : List ℕ). t ++ flat_map text xs) l.begins) l.ascii

-- a text of lines is read as what its lines are read as
pub lines_read : {A : Type 0} (text : A → List ℕ) (read : A → Record) (xs : List A) → AreLines text read xs → records_of (flat_map text xs) ≡ map read xs
lines_read text read xs h = ap (records default_config) (no_marks text read xs h) ∙ (sym (left_all (flat_map text xs)) ∙ lines_left text read xs h)
