-- Texts that show where they end: what stands before other bytes is cut from them in one way.
use Rattle.std.proofs.Common.{◌≡◌, ℕ, ◌≤◌, List, [], ◌∷◌, ◌++◌, length, get_or, refl, sym, ap, ap₂, ◌∙◌, subst, arith, append_assoc, flat_map}
use Rattle.std.specs.List.{AllByRecursion}
use Rattle.std.proofs.lemmas.Bool.{eqb-false}
use Rattle.loop_report.specs.Loops.{spaced}
use Rattle.report_reader.specs.Words.{Lacks}
use Rattle.report_reader.proofs.Cuts.{cut_same, lacks_parts}
use Rattle.tube_report.specs.Lines.{line}

-- ---- lines

-- a word has neither a space nor a line's end
abbrev pub IsPlain : List ℕ → Type 0
IsPlain word = Lacks 32 word × Lacks 10 word

-- the last word of a line is none before its last
not_crossing : (a b x y : List ℕ) → Lacks 32 a → Lacks 10 b → a ++ 10 ∷ x ≡ b ++ 32 ∷ y → ⊥
not_crossing [] [] x y h k e = let same : 10 ≡ 32 = cc in eqb-false 10 32 refl same
not_crossing [] (d ∷ b) x y h k e = let same : d ≡ 10 = cc in absurd ((lacks_parts 10 d b k).0 same)
not_crossing (d ∷ a) [] x y h k e = let same : d ≡ 32 = cc in absurd ((lacks_parts 32 d a h).0 same)
not_crossing (d ∷ a) (f ∷ b) x y h k e =
    let tails : a ++ 10 ∷ x ≡ b ++ 32 ∷ y = cc in
    not_crossing a b x y (lacks_parts 32 d a h).1 (lacks_parts 10 f b k).1 tails

-- lines of plain words are the same words
pub words_same : (ws vs : List (List ℕ)) → 1 ≤ length ws → 1 ≤ length vs → AllByRecursion IsPlain ws → AllByRecursion IsPlain vs → (s t : List ℕ) → line ws ++ s ≡ line vs ++ t → (ws ≡ vs) × (s ≡ t)
words_same [] vs m n h k s t e = absurd (omega arith)
words_same (w ∷ ws) [] m n h k s t e = absurd (omega arith)
words_same (w ∷ []) (v ∷ []) m n h k s t e =
    let p = cut_same 10 w v s t h.0.1 k.0.1 (sym (append_assoc w (10 ∷ []) s) ∙ (e ∙ append_assoc v (10 ∷ []) t)) in
    (ap (λ (x : List ℕ). x ∷ []) p.0, p.1)
words_same (w ∷ []) (v ∷ u ∷ vs) m n h k s t e =
    absurd (not_crossing w v s (line (u ∷ vs) ++ t) h.0.0 k.0.1 (sym (append_assoc w (10 ∷ []) s) ∙ (e ∙ append_assoc v (32 ∷ line (u ∷ vs)) t)))
words_same (w ∷ x ∷ ws) (v ∷ []) m n h k s t e =
    absurd (not_crossing v w t (line (x ∷ ws) ++ s) k.0.0 h.0.1 (sym (append_assoc v (10 ∷ []) t) ∙ (sym e ∙ append_assoc w (32 ∷ line (x ∷ ws)) s)))
words_same (w ∷ x ∷ ws) (v ∷ u ∷ vs) m n h k s t e =
    let p = cut_same 32 w v (line (x ∷ ws) ++ s) (line (u ∷ vs) ++ t) h.0.0 k.0.0 (sym (append_assoc w (32 ∷ line (x ∷ ws)) s) ∙ (e ∙ append_assoc v (32 ∷ line (u ∷ vs)) t)) in
    let q = words_same (x ∷ ws) (u ∷ vs) (omega arith) (omega arith) h.1 k.1 s t p.1 in
    (ap₂ (λ y ys. y ∷ ys) p.0 q.0, q.1)

-- words with a space behind each and a line are a line
pub spaced_line : (ws : List (List ℕ)) (v : List ℕ) (vs : List (List ℕ)) → spaced ws ++ line (v ∷ vs) ≡ line (ws ++ v ∷ vs)
spaced_line [] v vs = refl
spaced_line (w ∷ []) v vs = append_assoc w (32 ∷ []) (line (v ∷ vs))
spaced_line (w ∷ x ∷ ws) v vs = append_assoc w (32 ∷ spaced (x ∷ ws)) (line (v ∷ vs)) ∙ ap (λ (t : List ℕ). w ++ 32 ∷ t) (spaced_line (x ∷ ws) v vs)

-- ---- texts of values

-- the text of a value before other bytes shows the value and these
abbrev pub Splits : {X : Type 0} → (X → List ℕ) → (X → Type 0) → Type 0
Splits {X} f P = (x y : X) → P x → P y → (s t : List ℕ) → f x ++ s ≡ f y ++ t → (x ≡ y) × (s ≡ t)

-- no text of a value stands in front
abbrev pub Stops : {X : Type 0} → (X → List ℕ) → (X → Type 0) → List ℕ → Type 0
Stops {X} f P s = (x : X) → P x → (u : List ℕ) → f x ++ u ≡ s → ⊥

pub many : {X : Type 0} (f : X → List ℕ) (P : X → Type 0) → Splits f P → (xs ys : List X) → AllByRecursion P xs → AllByRecursion P ys → (s t : List ℕ) → Stops f P s → Stops f P t
    → flat_map f xs ++ s ≡ flat_map f ys ++ t → (xs ≡ ys) × (s ≡ t)
many f P split [] [] h k s t p q e = (refl, e)
many f P split [] (y ∷ ys) h k s t p q e = absurd (p y k.0 (flat_map f ys ++ t) (sym (append_assoc (f y) (flat_map f ys) t) ∙ sym e))
many f P split (x ∷ xs) [] h k s t p q e = absurd (q x h.0 (flat_map f xs ++ s) (sym (append_assoc (f x) (flat_map f xs) s) ∙ e))
many f P split (x ∷ xs) (y ∷ ys) h k s t p q e =
    let first = split x y h.0 k.0 (flat_map f xs ++ s) (flat_map f ys ++ t) (sym (append_assoc (f x) (flat_map f xs) s) ∙ (e ∙ append_assoc (f y) (flat_map f ys) t)) in
    let rest = many f P split xs ys h.1 k.1 s t p q first.1 in
    (ap₂ (λ z zs. z ∷ zs) first.0 rest.0, rest.1)

pub as_many : {X : Type 0} (f : X → List ℕ) (P : X → Type 0) → Splits f P → (xs ys : List X) → length xs ≡ length ys → AllByRecursion P xs → AllByRecursion P ys → (s t : List ℕ)
    → flat_map f xs ++ s ≡ flat_map f ys ++ t → (xs ≡ ys) × (s ≡ t)
as_many f P split [] [] n h k s t e = (refl, e)
as_many f P split [] (y ∷ ys) n h k s t e = absurd (omega arith)
as_many f P split (x ∷ xs) [] n h k s t e = absurd (omega arith)
as_many f P split (x ∷ xs) (y ∷ ys) n h k s t e =
    let first = split x y h.0 k.0 (flat_map f xs ++ s) (flat_map f ys ++ t) (sym (append_assoc (f x) (flat_map f xs) s) ∙ (e ∙ append_assoc (f y) (flat_map f ys) t)) in
    let rest = as_many f P split xs ys (omega arith) h.1 k.1 s t first.1 in
    (ap₂ (λ z zs. z ∷ zs) first.0 rest.0, rest.1)

-- as many bytes in front
pub fronts_same : (xs ys s t : List ℕ) → length xs ≡ length ys → xs ++ s ≡ ys ++ t → (xs ≡ ys) × (s ≡ t)
fronts_same [] [] s t n e = (refl, e)
fronts_same [] (y ∷ ys) s t n e = absurd (omega arith)
fronts_same (x ∷ xs) [] s t n e = absurd (omega arith)
fronts_same (x ∷ xs) (y ∷ ys) s t n e =
    let heads : x ≡ y = cc in
    let tails : xs ++ s ≡ ys ++ t = cc in
    let rest = fronts_same xs ys s t (omega arith) tails in
    (ap₂ (λ z zs. z ∷ zs) heads rest.0, rest.1)

-- ---- the byte in front

abbrev pub byte_of : List ℕ → ℕ
byte_of text = get_or text 0 0

-- what holds of the first byte of each text, and of the one behind all of them, holds of the first byte of all together
pub first_of : {X : Type 0} (f : X → List ℕ) (P : ℕ → Type 0) → ((x : X) (u : List ℕ) → P (byte_of (f x ++ u))) → (xs : List X) (s : List ℕ) → P (byte_of s) → P (byte_of (flat_map f xs ++ s))
first_of f P each [] s h = h
first_of f P each (x ∷ xs) s h = subst (λ (t : List ℕ). P (byte_of t)) (sym (append_assoc (f x) (flat_map f xs) s)) (each x (flat_map f xs ++ s))

-- texts that begin with one byte stop where another stands
pub other_byte : {X : Type 0} (f : X → List ℕ) (P : X → Type 0) (c : ℕ) → ((x : X) (u : List ℕ) → byte_of (f x ++ u) ≡ c) → (s : List ℕ) → (byte_of s ≡ c → ⊥) → Stops f P s
other_byte f P c each s h x right u e = h (sym (ap byte_of e) ∙ each x u)
