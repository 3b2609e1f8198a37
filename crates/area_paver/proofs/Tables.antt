-- Lines of marks, and the cells of a signal one after the other.
use Rattle.std.proofs.Common.{◌≡◌, ℕ, suc, ◌+◌, ◌*◌, ◌<◌, ◌≤◌, ◌⊎◌, inl, inr, Bool, true, false, cond, List, [], ◌∷◌, ◌++◌, Vec, Global, Option, Some, None, vec_items, map, length, length-append, get_or, take, drop, ℤ, arith, refl, sym, subst, ap, ◌∙◌}
use Rattle.std.specs.Option.{IfSome}
use Rattle.std.proofs.lemmas.Int.{ints, clamps}
use Rattle.std.proofs.lemmas.List.{append-nil, drop_all, length-map, map-append, take_all}
use Rattle.std.proofs.Math.ListN.{get_or-append}
use Rattle.std.proofs.Math.Seq.{get_or-append_seam}
use Rattle.tube_spec.specs.Span.{Span, IsBounded, join_of}
use Rattle.tube_spec.specs.Shape.{Shape, gate_cell, envelope_cell}
use Rattle.tube_spec.specs.Box.{cell_at}
use Rattle.tube_spec.specs.Tick.{join_over}
use Rattle.area_paver.specs.Lattice.{signal_cell}
use Rattle.area_paver.specs.Runs.{IsMarkBy}
use Rattle.area_paver.specs.Charts.{Chart, AreLines, IsFull, marks_of, mark_in}
use Rattle.area_paver.specs.declared.chart.Mark.{Mark}
use Rattle.area_paver.specs.declared.chart.Mark.TheVariants.{Never, Seen, Open}

-- ---- the cells of a signal

range-more : (f : ℕ → Span) (i : ℕ) (range envelope gate : Span) → range ≡ join_over f 0 (2 * i) → envelope ≡ f (2 * i + 1) → gate ≡ f (2 * i + 2)
    → join_of (join_of range envelope) gate ≡ join_over f 0 (2 * (i + 1))
range-more f i range envelope gate r e g =
    let n : suc (suc (2 * i)) ≡ 2 * (i + 1) = omega arith in
    let a : 2 * i + 1 ≡ 0 + suc (2 * i) = omega arith in
    let b : 2 * i + 2 ≡ 0 + suc (suc (2 * i)) = omega arith in
    ap (λ (s : Span). join_of (join_of s envelope) gate) r
    ∙ (ap (λ (s : Span). join_of (join_of (join_over f 0 (2 * i)) s) gate) (e ∙ ap f a)
    ∙ (ap (λ (s : Span). join_of (join_over f 0 (suc (2 * i))) s) (g ∙ ap f b) ∙ ap (join_over f 0) n))

-- the hull over one slice more
pub hull-more : (box : Option (List Span)) (s : Shape) (signal i e g : ℕ) (hull envelope gate more : Span) → IfSome box (λ xs. hull ≡ join_over (signal_cell s xs signal) 0 (2 * i))
    → IfSome box (λ xs. envelope ≡ cell_at xs e) → e ≡ envelope_cell s signal i → IfSome box (λ xs. gate ≡ cell_at xs g) → g ≡ gate_cell s signal (i + 1)
    → more ≡ join_of (join_of hull envelope) gate → IfSome box (λ xs. more ≡ join_over (signal_cell s xs signal) 0 (2 * (i + 1)))
hull-more None s signal i e g hull envelope gate more h a b c d m = tt
hull-more (Some xs) s signal i e g hull envelope gate more h a b c d m =
    m ∙ range-more (signal_cell s xs signal) i hull envelope gate h (a ∙ ap (cell_at xs) (omega (arith, b))) (c ∙ ap (cell_at xs) (omega (arith, d)))

pub bounded-join : (s t hull : Span) → hull ≡ join_of s t → IsBounded 500000000 s → IsBounded 500000000 t → IsBounded 500000000 hull
bounded-join s t hull e h k = subst (IsBounded 500000000) (sym e) (record { low = omega (arith, ints, clamps, h, k); high = omega (arith, ints, clamps, h, k) })

-- ---- the marks of a line

pub split : (j c : ℕ) → j < c + 1 → (j < c) ⊎ (j ≡ c)
split j c h = grind arith

pub get-before : {A : Type 0} (items : List A) (x d : A) (j : ℕ) → j < length items → get_or (items ++ x ∷ []) j d ≡ get_or items j d
get-before items x d j h = get_or-append items (x ∷ []) d j h

pub get-last : {A : Type 0} (items : List A) (x d : A) (j : ℕ) → j ≡ length items → get_or (items ++ x ∷ []) j d ≡ x
get-last items x d j e = ap (λ (i : ℕ). get_or (items ++ x ∷ []) i d) e ∙ get_or-append_seam items x [] d

-- one mark more
pub marks-more : (P : ℕ → Mark → Type 0) (items more : List Mark) (x : Mark) (c : ℕ) → length items ≡ c → more ≡ items ++ x ∷ []
    → ((j : ℕ) → j < c → P j (get_or items j Open)) → P c x → (j : ℕ) → j < c + 1 → P j (get_or more j Open)
marks-more P items more x c len e h here j l =
    elim (split j c l) [
      | inl g ↦ subst (P j) (sym (ap (λ (m : List Mark). get_or m j Open) e ∙ get-before items x Open j (omega (arith, g, len)))) (h j g)
      | inr g ↦ subst (P j) (sym (ap (λ (m : List Mark). get_or m j Open) e ∙ get-last items x Open j (omega (arith, g, len)))) (subst (λ (i : ℕ). P i x) (sym g) here)
    ]

pub length-more : {A : Type 0} (items more : List A) (x : A) (c : ℕ) → length items ≡ c → more ≡ items ++ x ∷ [] → length more ≡ c + 1
length-more {A} items more x c len e = ap (length {A = A}) e ∙ length-append items (x ∷ []) ∙ ap (λ (n : ℕ). n + 1) len

-- what is lent of a vector comes back
pub back-written : (old lent new : List ℕ) (n : ℕ) → lent ≡ old → length lent ≡ n → length new ≡ length lent → take n (new ++ drop (length new) old) ≡ new
back-written old lent new n e len kept =
    let same : length new ≡ length old = kept ∙ ap (length {A = ℕ}) e in
    let none : drop (length new) old ≡ [] = drop_all (length new) old (omega (arith, same)) in
    ap (λ (x : List ℕ). take n (new ++ x)) none ∙ ap (take n) (append-nil new) ∙ take_all n new (omega (arith, kept, len))

-- ---- lines

pub full-turned : (c : Chart) → IsFull c → c.turned ≡ true → AreLines c.lines c.columns.count c.rows.count
full-turned c h e = subst (λ (t : Bool). AreLines c.lines (cond t c.columns.count c.rows.count) (cond t c.rows.count c.columns.count)) e h.lines

pub full-straight : (c : Chart) → IsFull c → c.turned ≡ false → AreLines c.lines c.rows.count c.columns.count
full-straight c h e = subst (λ (t : Bool). AreLines c.lines (cond t c.columns.count c.rows.count) (cond t c.rows.count c.columns.count)) e h.lines

pub line-named : (lines : List (Vec Mark Global)) (n m i : ℕ) → AreLines (marks_of lines) n m → i < n → i < length lines
line-named lines n m i h l = omega (arith, l, h.count, length-map lines vec_items)

pub place-named : (lines : List (Vec Mark Global)) (n m i j : ℕ) → AreLines (marks_of lines) n m → i < n → j < m → j < length (get_or (marks_of lines) i [])
place-named lines n m i j h l k = omega (arith, k, h.long i l)

pub marks-append : (lines more : List (Vec Mark Global)) (line : Vec Mark Global) → more ≡ lines ++ line ∷ [] → marks_of more ≡ marks_of lines ++ vec_items line ∷ []
marks-append lines more line e = ap marks_of e ∙ map-append vec_items lines (line ∷ [])

-- the places of a chart are among its lines
pub named-turned : (view now : Chart) (lines lent : List (Vec Mark Global)) (i j : ℕ) → IsFull view → view ≡ now → view.lines ≡ marks_of lines → view.turned ≡ true → lent ≡ lines
    → i < now.columns.count → j < now.rows.count → (i < length lent) × (j < length (get_or (marks_of lent) i []))
named-turned view now lines lent i j full seen is turned same li lj =
    let all = subst (λ (l : List (List Mark)). AreLines l view.columns.count view.rows.count) (is ∙ ap marks_of (sym same)) (full-turned view full turned) in
    let hi : i < view.columns.count = subst (λ (c : Chart). i < c.columns.count) (sym seen) li in
    let hj : j < view.rows.count = subst (λ (c : Chart). j < c.rows.count) (sym seen) lj in
    (line-named lent view.columns.count view.rows.count i all hi, place-named lent view.columns.count view.rows.count i j all hi hj)

pub named-straight : (view now : Chart) (lines lent : List (Vec Mark Global)) (i j : ℕ) → IsFull view → view ≡ now → view.lines ≡ marks_of lines → view.turned ≡ false → lent ≡ lines
    → i < now.columns.count → j < now.rows.count → (j < length lent) × (i < length (get_or (marks_of lent) j []))
named-straight view now lines lent i j full seen is turned same li lj =
    let all = subst (λ (l : List (List Mark)). AreLines l view.rows.count view.columns.count) (is ∙ ap marks_of (sym same)) (full-straight view full turned) in
    let hi : i < view.columns.count = subst (λ (c : Chart). i < c.columns.count) (sym seen) li in
    let hj : j < view.rows.count = subst (λ (c : Chart). j < c.rows.count) (sym seen) lj in
    (line-named lent view.rows.count view.columns.count j all hj, place-named lent view.rows.count view.columns.count j i all hj hi)

-- one line more
pub lines-more : (lines more : List (Vec Mark Global)) (line : Vec Mark Global) (n m : ℕ) → AreLines (marks_of lines) n m → more ≡ lines ++ line ∷ [] → length (vec_items line) ≡ m → AreLines (marks_of more) (n + 1) m
lines-more lines more line n m h e len =
    let all : marks_of more ≡ marks_of lines ++ vec_items line ∷ [] = marks-append lines more line e in
    record {
      count = length-more (marks_of lines) (marks_of more) (vec_items line) n h.count all;
      long = λ i l. elim (split i n l) [
        | inl g ↦ ap (λ (x : List (List Mark)). length (get_or x i [])) all ∙ ap (length {A = Mark}) (get-before (marks_of lines) (vec_items line) [] i (omega (arith, g, h.count))) ∙ h.long i g
        | inr g ↦ ap (λ (x : List (List Mark)). length (get_or x i [])) all ∙ ap (length {A = Mark}) (get-last (marks_of lines) (vec_items line) [] i (omega (arith, g, h.count))) ∙ len
      ];
    }
