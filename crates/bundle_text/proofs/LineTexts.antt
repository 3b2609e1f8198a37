-- The lines of a bundle show what they say.
use Rattle.std.proofs.Common.{◌≡◌, ℕ, ℤ, pos, negsuc, neg_ℤ, suc, ◌^◌, ◌<◌, ◌≤ℤ◌, ◌<ℤ◌, ◌==◌, List, [], ◌∷◌, ◌++◌, length, refl, sym, ap, ap₂, ◌∙◌, arith, codes, if◌then◌else◌}
use Rattle.std.specs.Prelude.{decimal, unsigned_abs}
use Rattle.std.specs.Fmt.{signed_decimal}
use Rattle.std.proofs.lemmas.Bool.{eqb-false}
use Rattle.std.proofs.lemmas.Fmt.{decimal_injective}
use Rattle.std.proofs.lemmas.Int.{ints}
use Rattle.loop_degree.specs.declared.labels.Label.{Label}
use Rattle.loop_degree.specs.declared.labels.Label.TheVariants.{East, West, North, South}
use Rattle.loop_report.specs.Loops.{crowded_line, done_line, run_line, sets_line}
use Rattle.report_reader.proofs.Cuts.{decimal_lacks, signed_lacks}
use Rattle.report_reader.proofs.Numerals.{unsigned_text}
use Rattle.tplane_paver.specs.declared.runs.Run.{Run}
use Rattle.bundle_text.specs.Bundles.{IsPair, IsCorner, IsRun, IsNumber, cell_text, corner_text, fire_text}
use Rattle.bundle_text.specs.Lines.{bundle_line, cell_line, corner_line, fire_line, fires_line, label_word}
use Rattle.bundle_text.proofs.Splitting.{IsPlain, Splits, byte_of, words_same}

-- ---- words

pub count_plain : (n : ℕ) → n < 2 ^ 64 → IsPlain (decimal n)
count_plain n h = (decimal_lacks 32 n (omega arith) h, decimal_lacks 10 n (omega arith) h)

pub number_plain : (n : ℕ) → IsNumber n → IsPlain (decimal n)
number_plain n h = count_plain n (omega (arith, h))

pub same_number : (m n : ℕ) → IsNumber m → IsNumber n → decimal m ≡ decimal n → m ≡ n
same_number m n h k e = decimal_injective m n (omega (arith, h)) (omega (arith, k)) e

pub signed_plain : (z : ℤ) → unsigned_abs z < 2 ^ 64 → IsPlain (signed_decimal z)
signed_plain z h = (signed_lacks 32 z (omega arith) h, signed_lacks 10 z (omega arith) h)

pub same_signed : (y z : ℤ) → unsigned_abs y < 2 ^ 64 → unsigned_abs z < 2 ^ 64 → signed_decimal y ≡ signed_decimal z → y ≡ z
same_signed (pos m) (pos n) h k e = ap pos (decimal_injective m n h k e)
same_signed (pos m) (negsuc n) h k e = absurd (unsigned_text m (decimal (suc n)) h e)
same_signed (negsuc m) (pos n) h k e = absurd (unsigned_text n (decimal (suc m)) k (sym e))
same_signed (negsuc m) (negsuc n) h k e =
    let tails : decimal (suc m) ≡ decimal (suc n) = cc in
    let same : suc m ≡ suc n = decimal_injective (suc m) (suc n) h k tails in
    ap negsuc (omega arith)

pub degree_small : (z : ℤ) → neg_ℤ (pos (2 ^ 63)) ≤ℤ z → z <ℤ pos (2 ^ 63) → unsigned_abs z < 2 ^ 64
degree_small z h k = omega (arith, ints)

-- the label of a word, by its first byte
abbrev label_of : List ℕ → Label
label_of word = if byte_of word == 101 then East else if byte_of word == 119 then West else if byte_of word == 110 then North else South

label_back : (l : Label) → label_of (label_word l) ≡ l
label_back East = refl
label_back West = refl
label_back North = refl
label_back South = refl

same_label : (l m : Label) → label_word l ≡ label_word m → l ≡ m
same_label l m e = sym (label_back l) ∙ (ap label_of e ∙ label_back m)

label_plain : (l : Label) → IsPlain (label_word l)
label_plain East = (refl, refl)
label_plain West = (refl, refl)
label_plain North = (refl, refl)
label_plain South = (refl, refl)

-- ---- lines

pub bundle_splits : (m n : ℕ) → IsNumber m → IsNumber n → (s t : List ℕ) → bundle_line m ++ s ≡ bundle_line n ++ t → (m ≡ n) × (s ≡ t)
unfolding bundle_line
bundle_splits m n h k s t e =
    let p = words_same (codes "bundle" ∷ decimal m ∷ []) (codes "bundle" ∷ decimal n ∷ []) (omega arith) (omega arith) ((refl, refl), (number_plain m h, tt)) ((refl, refl), (number_plain n k, tt)) s t e in
    let first : decimal m ≡ decimal n = cc in
    (same_number m n h k first, p.1)

pub fires_splits : (k l c d : ℕ) → IsNumber k → IsNumber l → IsNumber c → IsNumber d → (s t : List ℕ) → fires_line k c ++ s ≡ fires_line l d ++ t → (k ≡ l) × (c ≡ d) × (s ≡ t)
unfolding fires_line
fires_splits k l c d hk hl hc hd s t e =
    let p = words_same (codes "fires" ∷ decimal k ∷ decimal c ∷ []) (codes "fires" ∷ decimal l ∷ decimal d ∷ []) (omega arith) (omega arith) ((refl, refl), (number_plain k hk, (number_plain c hc, tt))) ((refl, refl), (number_plain l hl, (number_plain d hd, tt))) s t e in
    let first : decimal k ≡ decimal l = cc in
    let second : decimal c ≡ decimal d = cc in
    (same_number k l hk hl first, same_number c d hc hd second, p.1)

pub fire_splits : Splits fire_text IsNumber
unfolding fire_line
fire_splits m n h k s t e =
    let p = words_same (codes "fire" ∷ decimal m ∷ []) (codes "fire" ∷ decimal n ∷ []) (omega arith) (omega arith) ((refl, refl), (number_plain m h, tt)) ((refl, refl), (number_plain n k, tt)) s t e in
    let first : decimal m ≡ decimal n = cc in
    (same_number m n h k first, p.1)

pub done_splits : (m n : ℕ) → IsNumber m → IsNumber n → (s t : List ℕ) → done_line m ++ s ≡ done_line n ++ t → s ≡ t
unfolding done_line
done_splits m n h k s t e =
    (words_same (codes "done" ∷ decimal m ∷ []) (codes "done" ∷ decimal n ∷ []) (omega arith) (omega arith) ((refl, refl), (number_plain m h, tt)) ((refl, refl), (number_plain n k, tt)) s t e).1

pub crowded_splits : (m n : ℕ) → IsNumber m → IsNumber n → (s t : List ℕ) → crowded_line m ++ s ≡ crowded_line n ++ t → (m ≡ n) × (s ≡ t)
unfolding crowded_line
crowded_splits m n h k s t e =
    let p = words_same (codes "loops" ∷ decimal m ∷ codes "crowded" ∷ []) (codes "loops" ∷ decimal n ∷ codes "crowded" ∷ []) (omega arith) (omega arith) ((refl, refl), (number_plain m h, ((refl, refl), tt))) ((refl, refl), (number_plain n k, ((refl, refl), tt))) s t e in
    let first : decimal m ≡ decimal n = cc in
    (same_number m n h k first, p.1)

pub sets_splits : (m n c d : ℕ) → IsNumber m → IsNumber n → IsNumber c → IsNumber d → (s t : List ℕ) → sets_line m c ++ s ≡ sets_line n d ++ t → (m ≡ n) × (c ≡ d) × (s ≡ t)
unfolding sets_line
sets_splits m n c d hm hn hc hd s t e =
    let p = words_same (codes "loops" ∷ decimal m ∷ codes "sets" ∷ decimal c ∷ []) (codes "loops" ∷ decimal n ∷ codes "sets" ∷ decimal d ∷ []) (omega arith) (omega arith)
    ((refl, refl), (number_plain m hm, ((refl, refl), (number_plain c hc, tt)))) ((refl, refl), (number_plain n hn, ((refl, refl), (number_plain d hd, tt)))) s t e in
    let first : decimal m ≡ decimal n = cc in
    let second : decimal c ≡ decimal d = cc in
    (same_number m n hm hn first, same_number c d hc hd second, p.1)

-- a query is crowded or has sets
pub crowded_apart : (m n d : ℕ) → IsNumber m → IsNumber n → IsNumber d → (s t : List ℕ) → crowded_line m ++ s ≡ sets_line n d ++ t → ⊥
unfolding crowded_line sets_line
crowded_apart m n d hm hn hd s t e =
    let p = words_same (codes "loops" ∷ decimal m ∷ codes "crowded" ∷ []) (codes "loops" ∷ decimal n ∷ codes "sets" ∷ decimal d ∷ []) (omega arith) (omega arith)
    ((refl, refl), (number_plain m hm, ((refl, refl), tt))) ((refl, refl), (number_plain n hn, ((refl, refl), (number_plain d hd, tt)))) s t e in
    eqb-false 3 4 refl (ap length p.0)

pub run_splits : Splits run_line IsRun
unfolding run_line
run_splits q r h k s t e =
    let first_q : IsNumber q.first = omega (arith, h.some, h.last) in
    let first_r : IsNumber r.first = omega (arith, k.some, k.last) in
    let p = words_same (codes "run" ∷ decimal q.a ∷ decimal q.first ∷ decimal q.last ∷ []) (codes "run" ∷ decimal r.a ∷ decimal r.first ∷ decimal r.last ∷ []) (omega arith) (omega arith)
    ((refl, refl), (number_plain q.a h.a, (number_plain q.first first_q, (number_plain q.last h.last, tt)))) ((refl, refl), (number_plain r.a k.a, (number_plain r.first first_r, (number_plain r.last k.last, tt)))) s t e in
    let row : decimal q.a ≡ decimal r.a = cc in
    let first : decimal q.first ≡ decimal r.first = cc in
    let last : decimal q.last ≡ decimal r.last = cc in
    let same : q ≡ r =
    ap (λ (n : ℕ). let x : Run = record { a = n; first = q.first; last = q.last } in x) (same_number q.a r.a h.a k.a row)
    ∙ ap₂ (λ m n. let x : Run = record { a = r.a; first = m; last = n } in x) (same_number q.first r.first first_q first_r first) (same_number q.last r.last h.last k.last last) in
    (same, p.1)

pub cell_splits : Splits cell_text IsPair
unfolding cell_line
cell_splits c d h k s t e =
    let p = words_same (codes "cell" ∷ decimal c.0 ∷ decimal c.1 ∷ []) (codes "cell" ∷ decimal d.0 ∷ decimal d.1 ∷ []) (omega arith) (omega arith)
    ((refl, refl), (number_plain c.0 h.0, (number_plain c.1 h.1, tt))) ((refl, refl), (number_plain d.0 k.0, (number_plain d.1 k.1, tt))) s t e in
    let first : decimal c.0 ≡ decimal d.0 = cc in
    let second : decimal c.1 ≡ decimal d.1 = cc in
    let same : c ≡ d = ap₂ (λ a b. let x : ℕ × ℕ = (a, b) in x) (same_number c.0 d.0 h.0 k.0 first) (same_number c.1 d.1 h.1 k.1 second) in
    (same, p.1)

pub corner_splits : Splits corner_text IsCorner
unfolding corner_line
corner_splits c d h k s t e =
    let p = words_same (codes "corner" ∷ decimal c.0 ∷ decimal c.1 ∷ label_word c.2 ∷ []) (codes "corner" ∷ decimal d.0 ∷ decimal d.1 ∷ label_word d.2 ∷ []) (omega arith) (omega arith)
    ((refl, refl), (number_plain c.0 h.0, (number_plain c.1 h.1, (label_plain c.2, tt)))) ((refl, refl), (number_plain d.0 k.0, (number_plain d.1 k.1, (label_plain d.2, tt)))) s t e in
    let first : decimal c.0 ≡ decimal d.0 = cc in
    let second : decimal c.1 ≡ decimal d.1 = cc in
    let third : label_word c.2 ≡ label_word d.2 = cc in
    let same : c ≡ d =
    ap (λ (a : ℕ). let x : ℕ × ℕ × Label = (a, c.1, c.2) in x) (same_number c.0 d.0 h.0 k.0 first)
    ∙ ap₂ (λ b l. let x : ℕ × ℕ × Label = (d.0, b, l) in x) (same_number c.1 d.1 h.1 k.1 second) (same_label c.2 d.2 third) in
    (same, p.1)
