-- A text is cut into a bare name and a part, and is both of them together.
use Rattle.std.proofs.Common.{◌≡◌, ℕ, ◌-◌, ◌≤◌, Bool, true, false, nat_eq, List, [], ◌∷◌, ◌++◌, length, take, drop, refl, sym, ap, ◌∙◌, arith, if◌then◌else◌}
use Rattle.std.specs.Prelude.{codes}
use Rattle.std.specs.Cmp.Lexicographic.{pointwise}
use Rattle.std.specs.List.{ends_with, list_all}
use Rattle.std.proofs.Math.Nat.{sub-zero}
use Rattle.std.proofs.Math.Seq.{take-append_seam, take-length, drop-append_seam}
use Rattle.std.proofs.lemmas.Bool.Decides.{Decides-eqb, nat_tests}
use Rattle.std.proofs.lemmas.List.{append-nil, length-append, take-append-drop}
use Rattle.std.proofs.lemmas.List.Folds.{list_all-append}
use Rattle.std.proofs.lemmas.Slice.Eq.{ends_is}
use Rattle.log_spelling.specs.Blanks.{trimmed}
use Rattle.log_spelling.specs.Laws.{IsReadAs}
use Rattle.log_spelling.specs.Names.{is_name, is_name_byte}
use Rattle.log_spelling.specs.References.{bare_name, part_of, part_text, reference_text}
use Rattle.log_spelling.specs.declared.reference.Part.{Part}
use Rattle.log_spelling.specs.declared.reference.Part.TheVariants.{Whole, X, Y}
use Rattle.log_spelling.proofs.Solid.{all_weaker, and_parts, is_solid, name_byte_solid, trimmed_solid}

-- ---- any text

abbrev EndsAs : List ℕ → Part → Type 0
EndsAs text Whole = Unit {0}
EndsAs text X = ends_with nat_eq text (codes ".x") ≡ true
EndsAs text Y = ends_with nat_eq text (codes ".y") ≡ true

-- a text ends as its part says
ends : (text : List ℕ) → EndsAs text (part_of text)
unfolding part_of
ends text = by (ends_with nat_eq text (codes ".x")) (ends_with nat_eq text (codes ".y")) refl refl
  where
    by : (a b : Bool) → ends_with nat_eq text (codes ".x") ≡ a → ends_with nat_eq text (codes ".y") ≡ b → EndsAs text (if a then X else if b then Y else Whole)
    by true b e f = e
    by false true e f = f
    by false false e f = tt

-- and is what stands before, with the part after it
split : (text : List ℕ) (p : Part) → EndsAs text p → text ≡ take (length text - length (part_text p)) text ++ part_text p
split text Whole e = sym (append-nil (take (length text - 0) text) ∙ (ap (λ (n : ℕ). take n text) (sub-zero (length text)) ∙ take-length text))
split text X e = (ends_is Decides-eqb text (codes ".x") (ends_with nat_eq text (codes ".x")) refl).0 e
split text Y e = (ends_is Decides-eqb text (codes ".y") (ends_with nat_eq text (codes ".y")) refl).0 e

pub whole : (text : List ℕ) → reference_text (bare_name text) (part_of text) ≡ text
unfolding bare_name
whole text = sym (split text (part_of text) (ends text))

-- a part is no longer than the text
pub part_short : (text : List ℕ) → length (part_text (part_of text)) ≤ length text
part_short text =
    let p = part_of text in
    omega (arith, ap length (split text p (ends text)), length-append (take (length text - length (part_text p)) text) (part_text p))

-- ---- a name with a part

-- where a part begins
part_place : (name s : List ℕ) → length (name ++ s) - length s ≡ length name
part_place name s = omega (arith, length-append name s)

-- what stands after the name
ending : (name s : List ℕ) → drop (length (name ++ s) - length s) (name ++ s) ≡ s
ending name s = ap (λ (n : ℕ). drop n (name ++ s)) (part_place name s) ∙ drop-append_seam name s

no_dot_byte : (c : ℕ) → is_name_byte c ≡ true → nat_eq 46 c ≡ false
no_dot_byte c h = grind (arith, nat_tests)

no_dot : (ys s : List ℕ) → list_all is_name_byte ys ≡ true → pointwise nat_eq (46 ∷ s) ys ≡ false
no_dot [] s h = refl
no_dot (y ∷ ys) s h = rw (no_dot_byte y (and_parts (is_name_byte y) (list_all is_name_byte ys) h).0) refl

-- bytes of a name have no coordinate at their end
no_end : (name s : List ℕ) → list_all is_name_byte name ≡ true → ends_with nat_eq name (46 ∷ s) ≡ false
no_end name s h =
    let k = length name - length (46 ∷ s) in
    let both = sym (list_all-append is_name_byte (take k name) (drop k name)) ∙ (ap (list_all is_name_byte) (take-append-drop k name) ∙ h) in
    no_dot (drop k name) s (and_parts _ _ both).1

part_by : (text : List ℕ) (a b : Bool) → ends_with nat_eq text (codes ".x") ≡ a → ends_with nat_eq text (codes ".y") ≡ b → part_of text ≡ if a then X else if b then Y else Whole
unfolding part_of
part_by text a b e f = rw (e, f) refl

name_bytes : (name : List ℕ) → is_name name ≡ true → list_all is_name_byte name ≡ true
name_bytes name h = (and_parts (list_all is_name_byte name) _ (and_parts _ _ h).1).0

parted : (name : List ℕ) (p : Part) → list_all is_name_byte name ≡ true → part_of (reference_text name p) ≡ p
parted name Whole h =
    let bytes : list_all is_name_byte (name ++ []) ≡ true = rw (list_all-append, h) refl in
    part_by (name ++ []) false false (no_end (name ++ []) (120 ∷ []) bytes) (no_end (name ++ []) (121 ∷ []) bytes)
parted name X h =
    let s = codes ".x" in
    part_by (name ++ s) true (ends_with nat_eq (name ++ s) (codes ".y")) (ap (pointwise nat_eq s) (ending name s)) refl
parted name Y h =
    let s = codes ".y" in
    part_by (name ++ s) false true (ap (pointwise nat_eq (codes ".x")) (ending name s)) (ap (pointwise nat_eq s) (ending name s))

bare : (name : List ℕ) (p : Part) → part_of (reference_text name p) ≡ p → bare_name (reference_text name p) ≡ name
unfolding bare_name
bare name p e =
    let text = name ++ part_text p in
    ap (λ (q : Part). take (length text - length (part_text q)) text) e ∙ (ap (λ (n : ℕ). take n text) (part_place name (part_text p)) ∙ take-append_seam name (part_text p))

part_solid : (p : Part) → list_all is_solid (part_text p) ≡ true
part_solid Whole = refl
part_solid X = refl
part_solid Y = refl

pub read_as : (name : List ℕ) (p : Part) → is_name name ≡ true → IsReadAs (reference_text name p) name p
read_as name p h =
    let part = parted name p (name_bytes name h) in
    let same = bare name p part in
    record { reference = ap is_name same ∙ h; bare = same; parted = part }

pub reference_trimmed : (name : List ℕ) (p : Part) → is_name name ≡ true → trimmed (reference_text name p) ≡ reference_text name p
reference_trimmed name p h =
    let solid = all_weaker is_name_byte is_solid name name_byte_solid (name_bytes name h) in
    trimmed_solid (name ++ part_text p) (rw (list_all-append, solid, part_solid p) refl)
