-- What is read of some bytes part by part.
use Rattle.std.proofs.Common.{◌≡◌, ℕ, List, ◌++◌, sym, ap, ◌∙◌}
use Rattle.bundle_reader.specs.Fronts.{IsInFront, NoneInFront}

-- the text of a value is that of a part of it, and then others
pub record Parts {V X : Type 0} (f : X → List ℕ) (P : X → Type 0) (F : List ℕ → Type 0) (g : V → List ℕ) (Q : V → Type 0) (G : List ℕ → Type 0) (first : V → X) (tail : V → List ℕ) : Type 0 where
  pub parted : (v : V) (s : List ℕ) → g v ++ s ≡ f (first v) ++ (tail v ++ s)
  pub right : (v : V) → Q v → P (first v)
  pub before : (v : V) (s : List ℕ) → Q v → G s → F (tail v ++ s)

module _ {V X : Type 0} {f : X → List ℕ} {P : X → Type 0} {F : List ℕ → Type 0} {g : V → List ℕ} {Q : V → Type 0} {G : List ℕ → Type 0} {first : V → X} {tail : V → List ℕ} (p : Parts f P F g Q G first tail) (bytes : List ℕ) where
  -- where no such part stands, no such value does
  pub no_part : NoneInFront f P F bytes → NoneInFront g Q G bytes
  no_part none v s q k e = none (first v) (tail v ++ s) (p.right v q) (p.before v s q k) (sym (p.parted v s) ∙ e)

  module _ (x : X) (rest : List ℕ) (h : IsInFront f P F bytes x rest) where
    -- what stands behind the part
    pub behind : (v : V) (s : List ℕ) → Q v → G s → g v ++ s ≡ bytes → (first v ≡ x) × (tail v ++ s ≡ rest)
    behind v s q k e = h.only (first v) (tail v ++ s) (p.right v q) (p.before v s q k) (sym (p.parted v s) ∙ e)

    pub no_rest : NoneInFront tail Q G rest → NoneInFront g Q G bytes
    no_rest none v s q k e = none v s q k (behind v s q k e).1

    -- the parts together
    pub joined : (v : V) (s : List ℕ) → first v ≡ x → tail v ++ s ≡ rest → g v ++ s ≡ bytes
    joined v s e t = p.parted v s ∙ (ap (λ (y : X). f y ++ (tail v ++ s)) e ∙ (ap (λ (u : List ℕ). f x ++ u) t ∙ h.whole))

    pub built : (v : V) (s : List ℕ) → Q v → first v ≡ x → tail v ++ s ≡ rest → ((w : V) (t : List ℕ) → Q w → G t → first w ≡ x → tail w ++ t ≡ rest → (w ≡ v) × (t ≡ s)) → IsInFront g Q G bytes v s
    built v s q e t only = record { right = q; whole = joined v s e t; only = λ w u r k d. let b = behind w u r k d in only w u r k b.0 b.1 }
