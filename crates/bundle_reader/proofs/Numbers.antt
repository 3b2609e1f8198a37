-- What is read of numbers behind a word and before a byte.
use Rattle.std.proofs.Common.{true, ◌^◌, ◌<◌, ℤ, pos, negsuc, arith, w64, FitsSigned, ◌≡◌, ℕ, Bor, Option, Some, None, MatchOption, List, [], ◌∷◌, ◌++◌, sym, ap, ◌∙◌, append_assoc}
use Rattle.std.proofs.lemmas.List.{append_cancel_left}
use lib.Signed.{mag}
use lib.Pointwise.{pointwise}
use Rattle.std.specs.Prelude.{not, unsigned_abs, ◌==◌}
use Rattle.std.specs.Cmp.Lexicographic.{other_text}
use Rattle.std.proofs.lemmas.Bool.{not-true}
use Rattle.std.proofs.lemmas.Int.{ints}
use Rattle.report_reader.specs.Words.{IsCut, Lacks}
use Rattle.report_reader.proofs.Cuts.{cut_same, no_cut}
use Rattle.bundle_reader.specs.Fronts.{Anything, IsInFront, NoneInFront}
use Rattle.bundle_reader.specs.Parts.{IsDegree, IsFramed, NoneFramed}

-- texts that were tested to be others are not one
pub not_another : (xs ys : List ℕ) → true ≡ not (pointwise (λ a b. a == b) xs ys) → xs ≡ ys → ⊥
not_another xs ys h e = other_text xs ys (sym (not-true (pointwise (λ a b. a == b) xs ys) (sym h))) e

-- ---- degrees

pub degree_fits : (z : ℤ) → IsDegree z → FitsSigned w64 z
degree_fits (pos n) h = record { sfits = omega (arith, ints, h.1) }
degree_fits (negsuc n) h = record { sfits = omega (arith, ints, h.0) }

pub degree_small : (z : ℤ) → IsDegree z → mag z < 2 ^ 63
degree_small (pos n) h = omega (arith, ints, h.1)
degree_small (negsuc n) h = omega (arith, ints, h.0)

pub abs_small : (z : ℤ) → IsDegree z → unsigned_abs z < 2 ^ 64
abs_small z h = omega (arith, ints, h.0, h.1)

-- ---- what is cut

-- what is cut behind the word
pub framed_by : (word : List ℕ) (end : ℕ) (bytes behind : List ℕ) → bytes ≡ word ++ behind → (r : Option (Bor (List ℕ) × Bor (List ℕ))) → MatchOption r (Lacks end behind) (λ p. IsCut end behind p.0.now p.1.now)
    → MatchOption r (NoneFramed word end bytes) (λ p. IsFramed word end bytes p.0.now p.1.now)
framed_by word end bytes behind e None lacks = λ inner rest k. no_cut end behind inner rest lacks (append_cancel_left word (inner ++ end ∷ rest) behind (k ∙ e))
framed_by word end bytes behind e (Some p) cut = record { whole = ap (λ (t : List ℕ). word ++ t) (sym cut.whole) ∙ sym e; first = cut.first }

-- the text of a value of some kind, between a word and a byte that it lacks
module _ {N : Type 0} (t : N → List ℕ) (P : N → Type 0) (word : List ℕ) (end : ℕ) (bytes : List ℕ) where
  abbrev text : N → List ℕ
  text n = word ++ (t n ++ end ∷ [])

  spread : (n : N) (s : List ℕ) → text n ++ s ≡ word ++ (t n ++ end ∷ s)
  spread n s = append_assoc word (t n ++ end ∷ []) s ∙ ap (λ (u : List ℕ). word ++ u) (append_assoc (t n) (end ∷ []) s)

  pub none_there : NoneFramed word end bytes → NoneInFront text P Anything bytes
  none_there none n s p k e = none (t n) s (sym (spread n s) ∙ e)

  module _ (lacks : (n : N) → P n → Lacks end (t n)) (inner rest : List ℕ) (h : IsFramed word end bytes inner rest) where
    same_inner : (n : N) (s : List ℕ) → P n → text n ++ s ≡ bytes → (t n ≡ inner) × (s ≡ rest)
    same_inner n s p e = cut_same end (t n) inner s rest (lacks n p) h.first (append_cancel_left word (t n ++ end ∷ s) (inner ++ end ∷ rest) (sym (spread n s) ∙ (e ∙ sym h.whole)))

    pub none_inside : ((n : N) → P n → t n ≡ inner → ⊥) → NoneInFront text P Anything bytes
    none_inside none n s p k e = none n p (same_inner n s p e).0

    pub one_inside : ((m n : N) → P m → P n → t m ≡ t n → m ≡ n) → (n : N) → P n → t n ≡ inner → IsInFront text P Anything bytes n rest
    one_inside same n p e = record {
      right = p;
      whole = spread n rest ∙ (ap (λ (u : List ℕ). word ++ (u ++ end ∷ rest)) e ∙ h.whole);
      only = λ m s q k d. let both = same_inner m s q d in (same m n q p (both.0 ∙ sym e), both.1);
    }
