-- What is written of a section is the text of the section that it describes.
use Rattle.std.proofs.Common.{◌≡◌, ℕ, zero, suc, ◌+◌, ◌-◌, ◌<◌, ◌≤◌, inl, inr, true, false, List, [], ◌∷◌, ◌++◌, length, slice_index, refl, ap, ap₂, ◌∙◌, arith, codes, flat_map, Option, Some, None, IfSome}
use Rattle.std.specs.List.{AllByRecursion, range_with_len}
use Rattle.std.proofs.lemmas.Bool.{cases_lt}
use Rattle.std.proofs.lemmas.Int.{ints}
use Rattle.std.proofs.lemmas.List.{append-nil, get_or_past}
use Rattle.std.proofs.lemmas.List.Concat.{flat_map-append}
use Rattle.log_spelling.specs.Names.{is_name}
use Rattle.log_spelling.specs.References.{reference_text}
use Rattle.log_spelling.specs.declared.reference.Part.TheVariants.{X, Y}
use Rattle.mission_items.specs.Names.{declared}
use Rattle.mission_items.specs.declared.decl.Decl.{Decl}
use Rattle.mission_items.specs.declared.decl.Decl.TheVariants as decl
use Rattle.mission_items.specs.declared.item.Item.{Item}
use Rattle.tube_report.specs.Lines.{first_line, last_line}
use Rattle.tube_report.specs.Sections.{box_text, section_text, signal_text, slice_text, tube_text, variable_text}
use Rattle.tube_report.specs.declared.section.Verdict.{Verdict}
use Rattle.tube_spec.specs.Box.{AreBounded, IsBox, cell_at}
use Rattle.tube_spec.specs.Grid.{IsGrid}
use Rattle.tube_spec.specs.Shape.{Shape, envelope_cell, gate_cell}
use Rattle.tube_spec.specs.Span.{Span}
use Rattle.report_reader.specs.Described.{box_lines, described, gate_at, signal_lines, slice_lines, variable_lines}
use Rattle.report_reader.specs.Laws.{WrittenIsRead}
use Rattle.report_reader.specs.Sections.{IsLine, line_text, text_of}
use Rattle.report_reader.specs.Words.{IsInterval}
use Rattle.report_reader.specs.declared.section.Line.{Line}
use Rattle.report_reader.specs.declared.section.Line.TheVariants as line

-- ---- the text

nested : {X : Type 0} (f : X → List Line) (g : X → List ℕ) → ((x : X) → flat_map line_text (f x) ≡ g x) → (xs : List X) → flat_map line_text (flat_map f xs) ≡ flat_map g xs
nested f g h [] = refl
nested f g h (x ∷ xs) = flat_map-append line_text (f x) (flat_map f xs) ∙ ap₂ (λ a b. a ++ b) (h x) (nested f g h xs)

slice_is : (s : Shape) (xs : List Span) (signal i : ℕ) → flat_map line_text (slice_lines s xs signal i) ≡ slice_text s xs signal i
slice_is s xs signal i = ap (λ (t : List ℕ). line_text (line.Slice (slice_index s.grid i) (slice_index s.grid (i + 1)) (cell_at xs (envelope_cell s signal i))) ++ t) (append-nil (line_text (gate_at s xs signal (i + 1))))

signal_is : (s : Shape) (xs : List Span) (d : List ℕ × Decl) → flat_map line_text (signal_lines s xs d) ≡ signal_text s xs false d
unfolding tube_text
signal_is s xs (name, decl.Signal x range) =
    ap (λ (t : List ℕ). line_text (line.Signal name) ++ (line_text (gate_at s xs x.0 0) ++ t)) (nested (slice_lines s xs x.0) (slice_text s xs x.0) (slice_is s xs x.0) (range_with_len 0 (length s.grid - 1)))
signal_is s xs (name, decl.Variable v range) = refl
signal_is s xs (name, decl.Beacon place first x y) = refl

variable_is : (s : Shape) (xs : List Span) (d : List ℕ × Decl) → flat_map line_text (variable_lines s xs d) ≡ variable_text s xs d
variable_is s xs (name, decl.Signal x range) = refl
variable_is s xs (name, decl.Variable v range) = append-nil (line_text (line.Var name (cell_at xs (slice_index s.vars v.0))))
variable_is s xs (name, decl.Beacon place first x y) =
    ap (λ (t : List ℕ). line_text (line.Var (reference_text name X) (cell_at xs (slice_index s.vars first.0))) ++ t) (append-nil (line_text (line.Var (reference_text name Y) (cell_at xs (slice_index s.vars (first.0 + 1))))))

box_is : (items : List Item) (s : Shape) (box : Option (List Span)) → flat_map line_text (box_lines items s box) ≡ box_text items s box false
box_is items s None = refl
box_is items s (Some xs) =
    flat_map-append line_text (flat_map (signal_lines s xs) (declared items)) (flat_map (variable_lines s xs) (declared items))
    ∙ ap₂ (λ a b. a ++ b) (nested (signal_lines s xs) (signal_text s xs false) (signal_is s xs) (declared items)) (nested (variable_lines s xs) (variable_text s xs) (variable_is s xs) (declared items))

text_is : (items : List Item) (number : ℕ) (v : Verdict) (s : Shape) (box : Option (List Span)) → text_of (described items number v s box) ≡ section_text items number v s box false
unfolding section_text
text_is items number v s box = ap (λ (t : List ℕ). first_line number v ++ (t ++ last_line number)) (box_is items s box)

-- ---- the lines are right

all_append : (xs ys : List Line) → AllByRecursion IsLine xs → AllByRecursion IsLine ys → AllByRecursion IsLine (xs ++ ys)
all_append [] ys h k = k
all_append (x ∷ xs) ys h k = (h.0, all_append xs ys h.1 k)

all_nested : {X : Type 0} (P : X → Type 0) (f : X → List Line) → ((x : X) → P x → AllByRecursion IsLine (f x)) → (xs : List X) → AllByRecursion P xs → AllByRecursion IsLine (flat_map f xs)
all_nested P f h [] k = tt
all_nested P f h (x ∷ xs) k = all_append (f x) (flat_map f xs) (h x k.0) (all_nested P f h xs k.1)

each : (f : ℕ → List Line) → ((i : ℕ) → AllByRecursion IsLine (f i)) → (is : List ℕ) → AllByRecursion IsLine (flat_map f is)
each f h [] = tt
each f h (i ∷ is) = all_append (f i) (flat_map f is) (h i) (each f h is)

-- boundaries rise
later : (grid : List ℕ) → IsGrid grid → (d i : ℕ) → i + d < length grid → slice_index grid i ≤ slice_index grid (i + d)
later grid h zero i k = let same : slice_index grid (i + zero) ≡ slice_index grid i = ap (slice_index grid) (omega arith) in omega arith
later grid h (suc d) i k =
    let near = later grid h d i (omega arith) in
    let step : slice_index grid (i + d) < slice_index grid (i + d + 1) = h.rising (i + d) (omega arith) in
    let same : slice_index grid (i + suc d) ≡ slice_index grid (i + d + 1) = ap (slice_index grid) (omega arith) in
    omega arith

tick_small : (grid : List ℕ) → IsGrid grid → (i : ℕ) → slice_index grid i ≤ 100000
tick_small grid h i = elim (cases_lt i (length grid)) [
  | inl k ↦
      let to_last = later grid h (length grid - 1 - i) i (omega arith) in
      let same : slice_index grid (i + (length grid - 1 - i)) ≡ slice_index grid (length grid - 1) = ap (slice_index grid) (omega arith) in
      omega (arith, h.ends)
  | inr k ↦ let past : slice_index grid i ≡ 0 = get_or_past grid i 0 k in omega arith
]

cell_right : (xs : List Span) → IsBox xs → AreBounded xs → (k : ℕ) → IsInterval (cell_at xs k)
cell_right xs h b k = let p = b k in (h k, record { low = omega (arith, ints, p.low); high = omega (arith, ints, p.high) })

module _ (s : Shape) (grid : IsGrid s.grid) (xs : List Span) (h : IsBox xs) (b : AreBounded xs) where
  signal_right : (d : List ℕ × Decl) → is_name d.0 ≡ true → AllByRecursion IsLine (signal_lines s xs d)
  signal_right (name, decl.Signal x range) n = (n, ((tick_small s.grid grid 0, cell_right xs h b (gate_cell s x.0 0)), each (slice_lines s xs x.0) slices (range_with_len 0 (length s.grid - 1))))
    where
      slices : (i : ℕ) → AllByRecursion IsLine (slice_lines s xs x.0 i)
      slices i = (
        (tick_small s.grid grid i, tick_small s.grid grid (i + 1), cell_right xs h b (envelope_cell s x.0 i)),
        ((tick_small s.grid grid (i + 1), cell_right xs h b (gate_cell s x.0 (i + 1))), tt),
      )
  signal_right (name, decl.Variable v range) n = tt
  signal_right (name, decl.Beacon place first x y) n = tt

  variable_right : (d : List ℕ × Decl) → is_name d.0 ≡ true → AllByRecursion IsLine (variable_lines s xs d)
  variable_right (name, decl.Signal x range) n = tt
  variable_right (name, decl.Variable v range) n = ((inl n, cell_right xs h b (slice_index s.vars v.0)), tt)
  variable_right (name, decl.Beacon place first x y) n = (
    (inr (name, codes ".x", n, inl refl, refl), cell_right xs h b (slice_index s.vars first.0)),
    ((inr (name, codes ".y", n, inr refl, refl), cell_right xs h b (slice_index s.vars (first.0 + 1))), tt),
  )

box_right : (items : List Item) (s : Shape) (box : Option (List Span)) → IsGrid s.grid → IfSome box (λ xs. IsBox xs × AreBounded xs) → AllByRecursion (λ d. is_name d.0 ≡ true) (declared items) → AllByRecursion IsLine (box_lines items s box)
box_right items s None grid h names = tt
box_right items s (Some xs) grid h names =
    all_append (flat_map (signal_lines s xs) (declared items)) (flat_map (variable_lines s xs) (declared items))
    (all_nested (λ (d : List ℕ × Decl). is_name d.0 ≡ true) (signal_lines s xs) (signal_right s grid xs h.0 h.1) (declared items) names)
    (all_nested (λ (d : List ℕ × Decl). is_name d.0 ≡ true) (variable_lines s xs) (variable_right s grid xs h.0 h.1) (declared items) names)

pub written_is_read : WrittenIsRead
written_is_read items number v s box h = (
  record { from_one = h.from_one; to_million = h.to_million; lines = box_right items s box h.grid h.box h.names },
  text_is items number v s box,
)
