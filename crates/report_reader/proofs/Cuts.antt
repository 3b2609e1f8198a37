-- A text is cut at the first place of a byte in one way.
use Rattle.std.proofs.Common.{◌≡◌, ℕ, ℤ, pos, negsuc, suc, ◌+◌, ◌%◌, ◌^◌, ◌<◌, ◌≤◌, ◌==◌, true, List, [], ◌∷◌, ◌++◌, length, take, drop, get_or, refl, sym, ap, ◌∙◌, subst, arith}
use Rattle.std.specs.Prelude.{decimal}
use Rattle.std.specs.Fmt.{signed_decimal}
use Rattle.std.specs.Prelude.{unsigned_abs}
use Rattle.std.specs.List.{list_all}
use Rattle.std.proofs.Math.Seq.{drop-cons}
use Rattle.std.proofs.lemmas.Bool.{or_parts, or_from, and_parts, eqb-false, ne_eqb}
use Rattle.std.proofs.lemmas.Bool.Decides.{nat_tests}
use Rattle.std.proofs.lemmas.Fmt.{decimal_by_steps}
use Rattle.std.proofs.lemmas.List.{take-append-drop}
use Rattle.std.proofs.lemmas.List.Folds.{list_any-append}
use Rattle.log_spelling.specs.Names.{is_name, is_name_byte}
use Rattle.report_reader.specs.Words.{IsCut, Lacks}

-- ---- a byte that is nowhere

pub lacks_parts : (c x : ℕ) (xs : List ℕ) → Lacks c (x ∷ xs) → (x ≡ c → ⊥) × Lacks c xs
lacks_parts c x xs h = let p = or_parts (x == c) _ h in (eqb-false x c p.0, p.1)

pub lacks_cons : (c x : ℕ) (xs : List ℕ) → (x ≡ c → ⊥) → Lacks c xs → Lacks c (x ∷ xs)
lacks_cons c x xs h p = or_from (x == c) _ (ne_eqb x c h) p

pub lacks_append : (c : ℕ) (xs ys : List ℕ) → Lacks c xs → Lacks c ys → Lacks c (xs ++ ys)
lacks_append c xs ys h p = list_any-append (λ b. b == c) xs ys ∙ or_from _ _ h p

-- it is somewhere
pub not_lacking : (c : ℕ) (front rest : List ℕ) → Lacks c (front ++ c ∷ rest) → ⊥
not_lacking c [] rest h = (lacks_parts c c rest h).0 refl
not_lacking c (x ∷ front) rest h = not_lacking c front rest (lacks_parts c x (front ++ c ∷ rest) h).1

pub cut_same : (c : ℕ) (a b x y : List ℕ) → Lacks c a → Lacks c b → a ++ c ∷ x ≡ b ++ c ∷ y → (a ≡ b) × (x ≡ y)
cut_same c [] [] x y h k e = (refl, cc)
cut_same c [] (d ∷ b) x y h k e = let same : d ≡ c = cc in absurd ((lacks_parts c d b k).0 same)
cut_same c (d ∷ a) [] x y h k e = let same : d ≡ c = cc in absurd ((lacks_parts c d a h).0 same)
cut_same c (d ∷ a) (f ∷ b) x y h k e =
    let tails : a ++ c ∷ x ≡ b ++ c ∷ y = cc in
    let p = cut_same c a b x y (lacks_parts c d a h).1 (lacks_parts c f b k).1 tails in
    let heads : d ≡ f = cc in
    let fronts : a ≡ b = p.0 in
    (cc, p.1)

-- a text that is put together of two parts is cut into them
pub cut_is : (c : ℕ) (text front rest a b : List ℕ) → IsCut c text front rest → Lacks c a → a ++ c ∷ b ≡ text → (a ≡ front) × (b ≡ rest)
cut_is c text front rest a b p h e = cut_same c a front b rest h p.first (e ∙ p.whole)

pub no_cut : (c : ℕ) (text a b : List ℕ) → Lacks c text → a ++ c ∷ b ≡ text → ⊥
no_cut c text a b h e = not_lacking c a b (subst (λ (t : List ℕ). Lacks c t) (sym e) h)

-- at the first place of the byte
pub cut_here : (c : ℕ) (text : List ℕ) (i : ℕ) (front mid rest : List ℕ) → i < length text → get_or text i 0 ≡ c → Lacks c (take i text) → front ≡ take i text → mid ≡ drop i text → rest ≡ drop 1 mid → IsCut c text front rest
cut_here c text i front mid rest h e first f m r =
    let begins : mid ≡ c ∷ drop (suc i) text = m ∙ (drop-cons text i 0 h ∙ ap (λ (b : ℕ). b ∷ drop (suc i) text) e) in
    let behind : rest ≡ drop (suc i) text = r ∙ ap (drop 1) begins in
    let back : mid ≡ c ∷ rest = begins ∙ ap (λ (t : List ℕ). c ∷ t) (sym behind) in
    record {
      whole = sym (take-append-drop i text) ∙ (ap (λ (t : List ℕ). t ++ drop i text) (sym f) ∙ ap (λ (t : List ℕ). front ++ t) (sym m ∙ back));
      first = subst (λ (t : List ℕ). Lacks c t) (sym f) first;
    }

-- ---- what numbers and names lack

pub decimal_lacks : (c n : ℕ) → c < 48 → n < 2 ^ 64 → Lacks c (decimal n)
decimal_lacks c n low h = decimal_by_steps (λ m ds. Lacks c ds) one more n h
  where
    one : (m : ℕ) → m < 10 → Lacks c ((48 + m) ∷ [])
    one m k = lacks_cons c (48 + m) [] (λ e. absurd (omega arith)) refl

    more : (m : ℕ) (ds : List ℕ) → 10 ≤ m → Lacks c ds → Lacks c (ds ++ (48 + m % 10) ∷ [])
    more m ds k p = lacks_append c ds ((48 + m % 10) ∷ []) p (lacks_cons c (48 + m % 10) [] (λ e. absurd (omega arith)) refl)

pub signed_lacks : (c : ℕ) (z : ℤ) → c < 45 → unsigned_abs z < 2 ^ 64 → Lacks c (signed_decimal z)
signed_lacks c (pos n) low h = let small : n < 2 ^ 64 = h in decimal_lacks c n (omega arith) small
signed_lacks c (negsuc n) low h = let small : suc n < 2 ^ 64 = h in lacks_cons c 45 (decimal (suc n)) (λ e. absurd (omega arith)) (decimal_lacks c (suc n) (omega arith) small)

name_byte_above : (b : ℕ) → is_name_byte b ≡ true → 48 ≤ b
name_byte_above b h = grind (arith, nat_tests)

bytes_lack : (c : ℕ) (bs : List ℕ) → c < 48 → list_all is_name_byte bs ≡ true → Lacks c bs
bytes_lack c [] low h = refl
bytes_lack c (b ∷ bs) low h =
    let p = and_parts (is_name_byte b) _ h in
    let above : 48 ≤ b = name_byte_above b p.0 in
    lacks_cons c b bs (λ e. absurd (omega arith)) (bytes_lack c bs low p.1)

pub name_lacks : (c : ℕ) (name : List ℕ) → c < 48 → is_name name ≡ true → Lacks c name
name_lacks c name low h = bytes_lack c name low (and_parts (list_all is_name_byte name) _ (and_parts _ _ h).1).0
