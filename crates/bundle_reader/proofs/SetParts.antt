-- The parts of a set's text.
use Rattle.std.proofs.Common.{◌==◌, false, ◌≡◌, ℕ, ◌≤◌, length, subst, arith, List, [], ◌∷◌, ◌++◌, get_or, refl, sym, ap, ap₂, ◌∙◌, append_assoc, flat_map}
use Rattle.std.specs.List.{AllByRecursion}
use Rattle.std.proofs.lemmas.Bool.{eqb-false}
use Rattle.bundle_text.specs.Bundles.{IsCorner, IsPair, IsRun, IsTracedSet, ToldOfDegree, cell_text, corner_text, set_text}
use Rattle.bundle_text.specs.Lines.{cell_line, corner_line}
use Rattle.bundle_text.specs.declared.bundle.TracedSet.{TracedSet}
use Rattle.bundle_text.proofs.Splitting.{byte_of, first_of}
use Rattle.loop_degree.specs.declared.labels.Label.{Label}
use Rattle.loop_report.specs.Loops.{run_line}
use Rattle.loop_sets.specs.declared.finding.Finding.{Finding}
use Rattle.tplane_paver.specs.declared.runs.Run.{Run}
use Rattle.bundle_reader.specs.Fronts.{Anything, IsInFront, NoneInFront}
use Rattle.bundle_reader.specs.Sets.{AfterSet, IsSetLine, set_line}
use Rattle.bundle_reader.specs.declared.sets.SetLine.{SetLine}
use Rattle.bundle_reader.proofs.Fronts.{Parts, behind, joined}

-- texts that begin with one byte don't stand where another does
pub other_front : {V : Type 0} (f : V → List ℕ) (P : V → Type 0) (c : ℕ) → ((v : V) (u : List ℕ) → byte_of (f v ++ u) ≡ c) → (s : List ℕ) → (byte_of s ≡ c → ⊥) → NoneInFront f P Anything s
other_front f P c each s h v u p k e = h (sym (ap byte_of e) ∙ each v u)

run_byte : (r : Run) (u : List ℕ) → byte_of (run_line r ++ u) ≡ 114
unfolding run_line
run_byte r u = refl

cell_byte : (c : ℕ × ℕ) (u : List ℕ) → byte_of (cell_text c ++ u) ≡ 99
unfolding cell_line
cell_byte c u = refl

corner_byte : (c : ℕ × ℕ × Label) (u : List ℕ) → byte_of (corner_text c ++ u) ≡ 99
unfolding corner_line
corner_byte c u = refl

abbrev NoRun : ℕ → Type 0
NoRun c = c ≡ 114 → ⊥

-- where runs, cells and corners end

runs_end : (cells : List (ℕ × ℕ)) (corners : List (ℕ × ℕ × Label)) (s : List ℕ) → AfterSet s → NoneInFront run_line IsRun Anything ((flat_map cell_text cells ++ flat_map corner_text corners) ++ s)
runs_end cells corners s h =
    let behind : NoRun (byte_of (flat_map cell_text cells ++ (flat_map corner_text corners ++ s))) =
    first_of cell_text NoRun (λ c u e. eqb-false 99 114 refl (sym (cell_byte c u) ∙ e)) cells (flat_map corner_text corners ++ s)
    (first_of corner_text NoRun (λ c u e. eqb-false 99 114 refl (sym (corner_byte c u) ∙ e)) corners s h.0) in
    other_front run_line IsRun 114 run_byte ((flat_map cell_text cells ++ flat_map corner_text corners) ++ s) (λ e. behind (sym (ap byte_of (append_assoc (flat_map cell_text cells) (flat_map corner_text corners) s)) ∙ e))

cells_end : (corners : List (ℕ × ℕ × Label)) (s : List ℕ) → AfterSet s → NoneInFront cell_text IsPair Anything (flat_map corner_text corners ++ s)
unfolding cell_line corner_line
cells_end [] s h = other_front cell_text IsPair 99 cell_byte s h.1
cells_end (k ∷ ks) s h = λ c u p q e. eqb-false 101 111 refl (ap (λ (t : List ℕ). get_or t 1 0) e)

pub corners_end : (s : List ℕ) → AfterSet s → NoneInFront corner_text IsCorner Anything s
corners_end s h = other_front corner_text IsCorner 99 corner_byte s h.1

-- ---- one part after the other

abbrev pub line_of : TracedSet → SetLine
line_of s = record { pairs = s.pairs; a = s.a; b = s.b; finding = s.finding }

abbrev behind_runs : TracedSet → List ℕ
behind_runs s = flat_map cell_text s.cells ++ flat_map corner_text s.corners

abbrev behind_line : TracedSet → List ℕ
behind_line s = flat_map run_line s.runs ++ behind_runs s

pub line_parts : (n : ℕ) → Parts (set_line n) IsSetLine Anything (set_text n) IsTracedSet AfterSet line_of behind_line
line_parts n = record {
  parted = λ s t. append_assoc (set_line n (line_of s)) (behind_line s) t;
  right = λ s h. record { pairs = h.pairs; a = h.a; b = h.b; finding = h.finding };
  before = λ s t h k. tt;
}

pub runs_parts : Parts (flat_map run_line) (AllByRecursion IsRun) (NoneInFront run_line IsRun Anything) behind_line IsTracedSet AfterSet (λ s. s.runs) behind_runs
runs_parts = record { parted = λ s t. append_assoc (flat_map run_line s.runs) (behind_runs s) t; right = λ s h. h.runs; before = λ s t h k. runs_end s.cells s.corners t k }

pub cells_parts : Parts (flat_map cell_text) (AllByRecursion IsPair) (NoneInFront cell_text IsPair Anything) behind_runs IsTracedSet AfterSet (λ s. s.cells) (λ s. flat_map corner_text s.corners)
cells_parts = record { parted = λ s t. append_assoc (flat_map cell_text s.cells) (flat_map corner_text s.corners) t; right = λ s h. h.cells; before = λ s t h k. cells_end s.corners t k }

-- ---- all parts

module _ (n : ℕ) (bytes : List ℕ) (line : SetLine) (from_runs : List ℕ) (h : IsInFront (set_line n) IsSetLine Anything bytes line from_runs)
    (runs : List Run) (from_cells : List ℕ) (i : IsInFront (flat_map run_line) (AllByRecursion IsRun) (NoneInFront run_line IsRun Anything) from_runs runs from_cells)
    (cells : List (ℕ × ℕ)) (from_corners : List ℕ) (j : IsInFront (flat_map cell_text) (AllByRecursion IsPair) (NoneInFront cell_text IsPair Anything) from_cells cells from_corners)
    (corners : List (ℕ × ℕ × Label)) (rest : List ℕ) (k : IsInFront (flat_map corner_text) (AllByRecursion IsCorner) (NoneInFront corner_text IsCorner Anything) from_corners corners rest) where
  abbrev set : TracedSet
  set = record { pairs = line.pairs; a = line.a; b = line.b; finding = line.finding; runs = runs; cells = cells; corners = corners }

  same : (w : TracedSet) (s : List ℕ) → IsTracedSet w → AfterSet s → set_text n w ++ s ≡ bytes → (w ≡ set) × (s ≡ rest)
  same w s q after e =
      let first = behind (line_parts n) bytes line from_runs h w s q after e in
      let second = behind runs_parts from_runs runs from_cells i w s q after first.1 in
      let third = behind cells_parts from_cells cells from_corners j w s q after second.1 in
      let last = k.only w.corners s q.corners (corners_end s after) third.1 in
      let of = λ (l : SetLine) (rs : List Run) (cs : List (ℕ × ℕ)) (ks : List (ℕ × ℕ × Label)). let x : TracedSet = record { pairs = l.pairs; a = l.a; b = l.b; finding = l.finding; runs = rs; cells = cs; corners = ks } in x in
      (ap₂ (λ l rs. of l rs w.cells w.corners) first.0 second.0 ∙ ap₂ (of line runs) third.0 last.0, last.1)

  -- a set without runs is none
  pub no_runs : length runs ≡ 0 → NoneInFront (set_text n) IsTracedSet AfterSet bytes
  no_runs none w s q after e =
      let count : length w.runs ≡ 0 = ap (λ (x : TracedSet). length x.runs) (same w s q after e).0 ∙ none in
      absurd (omega (arith, q.some))

  pub not_told : (ToldOfDegree line.finding cells corners → ⊥) → NoneInFront (set_text n) IsTracedSet AfterSet bytes
  not_told none w s q after e = none (subst (λ (x : TracedSet). ToldOfDegree x.finding x.cells x.corners) (same w s q after e).0 q.degree)

  pub set_here : 1 ≤ length runs → ToldOfDegree line.finding cells corners → IsInFront (set_text n) IsTracedSet AfterSet bytes set rest
  set_here some told =
      let right : IsTracedSet set = record {
        pairs = h.right.pairs;
        a = h.right.a;
        b = h.right.b;
        finding = h.right.finding;
        some = some;
        runs = i.right;
        cells = j.right;
        corners = k.right;
        degree = told;
      } in
      record {
        right = right;
        whole = joined (line_parts n) bytes line from_runs h set rest refl (joined runs_parts from_runs runs from_cells i set rest refl (joined cells_parts from_cells cells from_corners j set rest refl k.whole));
        only = same;
      }

-- ---- tests of lists

pub some_of : (xs ys : List Run) → xs ≡ ys → (length xs == 0) ≡ false → 1 ≤ length ys
some_of xs [] e f = absurd (eqb-false (length xs) 0 f (ap length e))
some_of xs (y ∷ ys) e f = omega arith

pub told_by : (f : Finding) (cells others : List (ℕ × ℕ)) (corners more : List (ℕ × ℕ × Label)) → cells ≡ others → corners ≡ more → ToldOfDegree f cells corners → ToldOfDegree f others more
told_by f cells others corners more d e t = subst (λ (ks : List (ℕ × ℕ × Label)). ToldOfDegree f others ks) e (subst (λ (cs : List (ℕ × ℕ)). ToldOfDegree f cs corners) d t)
