-- What the code reads of its variables, and the places of the projections.
use Rattle.std.proofs.Common.{◌≡◌, ℕ, zero, suc, ◌+◌, ◌*◌, ◌-◌, ◌/◌, ◌%◌, ◌<◌, ◌≤◌, Option, List, [], ◌∷◌, ◌++◌, add-one, mul_comm, IfSome, Some, None, arith, refl, sym, ap, ap₂, subst, ◌∙◌, length, slice_index, slice_index_or, map, All, length-append}
use Rattle.std.specs.List.{concat}
use Rattle.std.proofs.Math.Nat.{mul-suc, div-lt_iff_lt-mul}
use Rattle.std.proofs.lemmas.List.{get_or-map, length-map, map-append, get_or_append_left, get_or-append_right}
use Rattle.std.proofs.lemmas.List.Elements.{All-append, All-map}
use Rattle.std.proofs.lemmas.List.FromFn.{get_or-map-range_with_len}
use Rattle.tube_spec.specs.Span.{Span}
use Rattle.tube_spec.specs.Hull.{hull_below, join_option}
use Rattle.tube_spec.specs.Shape.{Shape}
use Rattle.tube_store.specs.declared.VarId.{VarId}
use Rattle.ctc_core.specs.Given.{projection_at, no_projection}
use Rattle.tube_names.specs.Points.{numbers, cells_of}
use Rattle.tube_names.proofs.Numbers.{numbers-length, numbers-at, cells-length}
use Rattle.ctc_constell.specs.PointLaws.{All-tail, All-concat}
use Rattle.ctc_constell.specs.Constellations.{mark_at, constell_projection, constell_projections_at, constell_scope}

-- lists of one length, one after another
pub concat-length : (n : ℕ) (lists : List (List ℕ)) → All (λ l. length l ≡ n) lists → length (concat lists) ≡ n * length lists
concat-length n [] h = omega arith
concat-length n (l ∷ ls) h =
    let here : length l ≡ n = h 0 [] (omega arith) in
    omega (arith, length-append l (concat ls), here, concat-length n ls (All-tail (λ (x : List ℕ). length x ≡ n) l ls h), mul-suc n (length ls))

pub concat-at : (n : ℕ) (lists : List (List ℕ)) → All (λ l. length l ≡ n) lists → (k j : ℕ) → k < length lists → j < n → slice_index (concat lists) (n * k + j) ≡ slice_index (mark_at lists k) j
concat-at n [] h k j l m = absurd (omega (arith, l))
concat-at n (x ∷ xs) h zero j l m =
    let here : length x ≡ n = h 0 [] (omega arith) in
    let place : n * 0 + j ≡ j = omega arith in
    ap (slice_index (x ++ concat xs)) place ∙ get_or_append_left x (concat xs) 0 j (omega (arith, here, m))
concat-at n (x ∷ xs) h (suc k) j l m =
    let here : length x ≡ n = h 0 [] (omega arith) in
    let place : n * suc k + j ≡ n + (n * k + j) = omega (arith, mul-suc n k) in
    let back : n + (n * k + j) - n ≡ n * k + j = omega arith in
    ap (slice_index (x ++ concat xs)) place ∙ get_or-append_right x (concat xs) n (n + (n * k + j)) 0 here (omega arith) ∙ ap (slice_index (concat xs)) back
    ∙ concat-at n xs (All-tail (λ (l : List ℕ). length l ≡ n) x xs h) k j (omega (arith, l)) m

-- the variable with a number of those of all marks
pub marks-at : (n : ℕ) (marks : List (List VarId)) → 0 < n → All (λ mark. length mark ≡ n) (map numbers marks) → (k : ℕ) → k < n * length marks → (mark : List VarId) → mark ≡ slice_index_or marks (k / n) mark → (d : VarId)
    → (slice_index_or mark (k % n) d).0 ≡ slice_index (concat (map numbers marks)) k
marks-at n marks some alike k l mark is d =
    let size : length (map numbers marks) ≡ length marks = length-map marks numbers in
    let q : k / n < length marks = (div-lt_iff_lt-mul some).1 (omega (arith, l, mul_comm n (length marks))) in
    let whole : n * (k / n) + k % n ≡ k = omega arith in
    let here : mark_at (map numbers marks) (k / n) ≡ numbers mark = get_or-map numbers marks (k / n) mark [] q ∙ ap numbers (sym is) in
    let long : length (numbers mark) ≡ n = sym (ap length here) ∙ alike (k / n) [] (omega (arith, q, size)) in
    let r : k % n < length mark = omega (arith, long, numbers-length mark) in
    sym (numbers-at mark (k % n) d r) ∙ ap (λ (xs : List ℕ). slice_index xs (k % n)) (sym here)
    ∙ sym (concat-at n (map numbers marks) alike (k / n) (k % n) (omega (arith, q, size)) (omega arith)) ∙ ap (slice_index (concat (map numbers marks))) whole

pub both-at : (n : ℕ) (p : List VarId) (marks : List (List VarId)) → 0 < n → length p ≡ n → All (λ mark. length mark ≡ n) (map numbers marks) → (i : ℕ) → n ≤ i → i < n + n * length marks
    → (mark : List VarId) → mark ≡ slice_index_or marks ((i - n) / n) mark → (d : VarId) → (slice_index_or mark ((i - n) % n) d).0 ≡ slice_index (numbers p ++ concat (map numbers marks)) i
both-at n p marks some e alike i from to mark is d =
    marks-at n marks some alike (i - n) (omega (arith, from, to)) mark is d
    ∙ sym (get_or-append_right (numbers p) (concat (map numbers marks)) n i 0 (numbers-length p ∙ e) from)

-- the cells of all marks
pub map-concat : (f : ℕ → ℕ) (lists : List (List ℕ)) → map f (concat lists) ≡ concat (map (map f) lists)
map-concat f [] = refl
map-concat f (l ∷ ls) = map-append f l (concat ls) ∙ ap (λ (rest : List ℕ). map f l ++ rest) (map-concat f ls)

pub scope-at : (s : Shape) (p : List ℕ) (marks : List (List ℕ)) (i : ℕ) → i < length p + length (concat marks) → slice_index s.vars (slice_index (p ++ concat marks) i) ≡ slice_index (cells_of s p ++ concat (map (cells_of s) marks)) i
scope-at s p marks i l =
    sym (get_or-map (slice_index s.vars) (p ++ concat marks) i 0 0 (omega (arith, l, length-append p (concat marks))))
    ∙ ap (λ (cells : List ℕ). slice_index cells i) (map-append (slice_index s.vars) p (concat marks) ∙ ap (λ (rest : List ℕ). cells_of s p ++ rest) (map-concat (slice_index s.vars) marks))

pub all-named : (n : ℕ) (p : List ℕ) (marks : List (List ℕ)) → All (λ v. v < n) p → All (λ mark. All (λ v. v < n) mark) marks → (i : ℕ) → i < length p + length (concat marks) → slice_index (p ++ concat marks) i < n
all-named n p marks point named i l = All-append (λ (v : ℕ). v < n) p (concat marks) point (All-concat (λ v. v < n) marks named) i 0 (omega (arith, l, length-append p (concat marks)))

-- the projections, one a coordinate
pub projection-is : (p : List ℕ) (marks : List (List ℕ)) (i : ℕ) → i < length p → projection_at (constell_projections_at p marks) i ≡ constell_projection p marks i
projection-is p marks i l = get_or-map-range_with_len (constell_projection p marks) 0 (length p) i i no_projection l (omega arith)

-- one mark more
pub hull-more : (f : ℕ → Option Span) (n : ℕ) → hull_below f (n + 1) ≡ join_option (hull_below f n) (f n)
hull-more f n = ap (hull_below f) (add-one n)

cells-alike : (s : Shape) (n : ℕ) (lists : List (List ℕ)) → All (λ l. length l ≡ n) lists → All (λ l. length l ≡ n) (map (cells_of s) lists)
cells-alike s n lists alike = All-map (λ (l : List ℕ). length l ≡ n) (cells_of s) lists (λ i d l. length-map (slice_index_or lists i d) (slice_index s.vars) ∙ alike i d l)

-- how many variables those of the point and of all marks are, and their cells
pub both-length : (n : ℕ) (p : List VarId) (marks : List (List VarId)) → length p ≡ n → All (λ mark. length mark ≡ n) (map numbers marks) → length (numbers p) + length (concat (map numbers marks)) ≡ n + n * length marks
both-length n p marks e alike =
    let size : length (map numbers marks) ≡ length marks = length-map marks numbers in
    ap₂ ◌+◌ (numbers-length p ∙ e) (concat-length n (map numbers marks) alike ∙ ap (λ (k : ℕ). n * k) size)

pub scope-length : (s : Shape) (n : ℕ) (p : List VarId) (marks : List (List VarId)) → length p ≡ n → All (λ mark. length mark ≡ n) (map numbers marks) → length (constell_scope s (numbers p) (map numbers marks)) ≡ n + n * length marks
scope-length s n p marks e alike =
    let size : length (map (cells_of s) (map numbers marks)) ≡ length marks = length-map (map numbers marks) (cells_of s) ∙ length-map marks numbers in
    length-append (cells_of s (numbers p)) (concat (map (cells_of s) (map numbers marks)))
    ∙ ap₂ ◌+◌ (cells-length s p ∙ e) (concat-length n (map (cells_of s) (map numbers marks)) (cells-alike s n (map numbers marks) alike) ∙ ap (λ (k : ℕ). n * k) size)

-- the marks are as long as the point
pub alike-at : (n : ℕ) (p : List VarId) (lists : List (List ℕ)) → length p ≡ n → All (λ l. length l ≡ length (numbers p)) lists → All (λ l. length l ≡ n) lists
alike-at n p lists e alike = λ i d l. alike i d l ∙ numbers-length p ∙ e

-- the cells of the mark with a number
pub mark-cells : (s : Shape) (marks : List (List VarId)) (k : ℕ) (d : List VarId) → k < length marks → mark_at (map (cells_of s) (map numbers marks)) k ≡ cells_of s (numbers (slice_index_or marks k d))
mark-cells s marks k d l =
    get_or-map (cells_of s) (map numbers marks) k [] [] (omega (arith, l, length-map marks numbers)) ∙ ap (cells_of s) (get_or-map numbers marks k d [] l)

pub mark-named : (n : ℕ) (marks : List (List VarId)) → All (λ mark. All (λ v. v < n) mark) (map numbers marks) → (k : ℕ) (d : List VarId) → k < length marks → All (λ v. v < n) (numbers (slice_index_or marks k d))
mark-named n marks named k d l = subst (All (λ v. v < n)) (get_or-map numbers marks k d [] l) (named k [] (omega (arith, l, length-map marks numbers)))

-- of three facts of a box that is not empty
pub IfSome-map3 : {X : Type 0} (P Q R S : X → Type 0) (b : Option X) → ((x : X) → P x → Q x → R x → S x) → IfSome b P → IfSome b Q → IfSome b R → IfSome b S
IfSome-map3 P Q R S None f h k l = tt
IfSome-map3 P Q R S (Some x) f h k l = f x h k l
