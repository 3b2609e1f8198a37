-- What is read of runs and corners.
use Rattle.std.proofs.Common.{◌≡◌, ℕ, List, [], ◌++◌, ◌==◌, refl, sym, ap, ◌∙◌, append_assoc, codes, if◌then◌else◌}
use Rattle.std.proofs.lemmas.List.{append_cancel_left}
use Rattle.bundle_text.specs.Bundles.{IsCorner, IsNumber, IsPair, IsRun, corner_text}
use Rattle.bundle_text.specs.Lines.{corner_line}
use Rattle.bundle_text.proofs.Splitting.{byte_of}
use Rattle.loop_degree.specs.declared.labels.Label.{Label}
use Rattle.loop_degree.specs.declared.labels.Label.TheVariants.{East, West, North, South}
use Rattle.loop_report.specs.Loops.{run_line}
use Rattle.bundle_reader.specs.Fronts.{Anything, IsInFront, NoneInFront}
use Rattle.bundle_reader.specs.Parts.{AnyLabel, count_text, label_text, ticks_text}
use Rattle.bundle_reader.proofs.Fronts.{Parts}

-- ---- two numbers

pub ticks_parts : (word : List ℕ) (end : ℕ) → Parts (count_text word 32) IsNumber Anything (ticks_text word end) IsPair Anything (λ c. c.0) (λ c. count_text [] end c.1)
ticks_parts word end = record { parted = λ c s. simp append_assoc; right = λ c h. h.0; before = λ c s h k. tt }

-- ---- runs

pub run_parts : Parts (count_text (codes "run ") 32) IsNumber Anything run_line IsRun Anything (λ r. r.a) (λ r. ticks_text [] 10 (r.first, r.last))
unfolding run_line
run_parts = record { parted = λ r s. simp append_assoc; right = λ r h. h.a; before = λ r s h k. tt }

-- ---- corners

pub corner_parts : Parts (ticks_text (codes "corner ") 32) IsPair Anything corner_text IsCorner Anything (λ c. (c.0, c.1)) (λ c. label_text c.2)
unfolding corner_line
corner_parts = record { parted = λ c s. simp append_assoc; right = λ c h. h; before = λ c s h k. tt }

-- the label of a word, by its first byte
abbrev label_at : ℕ → Label
label_at c = if c == 101 then East else if c == 119 then West else if c == 110 then North else South

label_back : (l : Label) (s : List ℕ) → label_at (byte_of (label_text l ++ s)) ≡ l
label_back East s = refl
label_back West s = refl
label_back North s = refl
label_back South s = refl

same_label : (l m : Label) (s t : List ℕ) → label_text l ++ s ≡ label_text m ++ t → l ≡ m
same_label l m s t e = sym (label_back l s) ∙ (ap (λ (u : List ℕ). label_at (byte_of u)) e ∙ label_back m t)

pub label_here : (l : Label) (bytes rest : List ℕ) → bytes ≡ label_text l ++ rest → IsInFront label_text AnyLabel Anything bytes l rest
label_here l bytes rest e = record {
  right = tt;
  whole = sym e;
  only = λ m s h k d.
      let same = same_label m l s rest (d ∙ e) in
      (same, append_cancel_left (label_text l) s rest (sym (ap (λ (x : Label). label_text x ++ s) same) ∙ (d ∙ e)));
}

abbrev No : List ℕ → Label → Type 0
No bytes l = (rest : List ℕ) → bytes ≡ label_text l ++ rest → ⊥

pub no_label : (bytes : List ℕ) → No bytes East → No bytes West → No bytes North → No bytes South → NoneInFront label_text AnyLabel Anything bytes
no_label bytes east west north south East s h k e = east s (sym e)
no_label bytes east west north south West s h k e = west s (sym e)
no_label bytes east west north south North s h k e = north s (sym e)
no_label bytes east west north south South s h k e = south s (sym e)
