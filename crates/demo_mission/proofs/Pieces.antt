-- Lists of records made piece by piece.
use Rattle.std.proofs.Common.{◌≡◌, ℕ, ◌+◌, List, [], ◌∷◌, ◌++◌, refl, sym, ap, ap₂, ◌∙◌, append_assoc, append-nil, ℤ}
use Rattle.tube_spec.specs.Span.{Span}
use Rattle.mission_items.specs.declared.item.Item.{Item}
use Rattle.demo_spec.specs.Mission.{each_until}
use Rattle.demo_spec.proofs.Lists.{each-more, each-none}

pub span-is : (lo hi low high : ℤ) → low ≡ lo → high ≡ hi → (let s : Span = record { lo = low; hi = high } in s) ≡ (let s : Span = record { lo = lo; hi = hi } in s)
span-is lo hi low high e f = ap₂ (λ (a b : ℤ). let s : Span = record { lo = a; hi = b } in s) e f

-- no piece yet
pub piece-none : (f : ℕ → List Item) (first items : List Item) → items ≡ first → items ≡ first ++ each_until f 0
piece-none f first items e = e ∙ sym (append-nil first) ∙ ap (λ (l : List Item). first ++ l) (sym (each-none f))

-- one piece more
pub piece-more : (f : ℕ → List Item) (first items more : List Item) (k : ℕ) → items ≡ first ++ each_until f k → more ≡ items ++ f k → more ≡ first ++ each_until f (k + 1)
piece-more f first items more k e m =
    m ∙ ap (λ (l : List Item). l ++ f k) e ∙ append_assoc first (each_until f k) (f k) ∙ ap (λ (l : List Item). first ++ l) (sym (each-more f k))

-- two records are a piece
pub both : (first one two : List Item) (a b x y : Item) → one ≡ first ++ a ∷ [] → two ≡ one ++ b ∷ [] → a ≡ x → b ≡ y → two ≡ first ++ x ∷ y ∷ []
both first one two a b x y e f p q =
    f ∙ ap₂ (λ (l : List Item) (r : Item). l ++ r ∷ []) (e ∙ ap (λ (r : Item). first ++ r ∷ []) p) q ∙ append_assoc first (x ∷ []) (y ∷ [])

pub single : (first one : List Item) (a x : Item) → one ≡ first ++ a ∷ [] → a ≡ x → one ≡ first ++ x ∷ []
single first one a x e p = e ∙ ap (λ (r : Item). first ++ r ∷ []) p
