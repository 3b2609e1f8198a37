-- The leaves of a relation, each once: none is lost, and none is new.
use Rattle.std.proofs.Common.{◌≡◌, ℕ, suc, ◌+◌, ◌≤◌, Bool, true, false, cond, ◌||◌, nat_eq, List, [], ◌∷◌, ◌++◌, refl, sym, ap, ◌∙◌, length, length-append, fold, All, Contains, arith}
use Rattle.std.specs.List.{list_any, AllByRecursion, IsDistinct}
use Rattle.std.proofs.lemmas.Bool.{eqb-true}
use Rattle.std.proofs.lemmas.Bool.Decides.{nat_tests}
use Rattle.std.proofs.lemmas.List.Elements.{All-append, All-cons, All-nil, Contains-append_left, Contains-append_right}
use Rattle.tube_names.specs.declared.leaves.Leaf.{Leaf}
use Rattle.tube_names.specs.declared.leaves.Leaf.TheVariants.{Sig, Var}
use Rattle.tube_names.specs.Leaves.{same_leaf, with_leaf, first_uses}

same_leaf-true : (a b : Leaf) → same_leaf a b ≡ true → a ≡ b
same_leaf-true (Sig x) (Sig y) e = ap (λ (n : ℕ). Sig (record { 0 = n })) (eqb-true x.0 y.0 e)
same_leaf-true (Var x) (Var y) e = ap (λ (n : ℕ). Var (record { 0 = n })) (eqb-true x.0 y.0 e)
same_leaf-true (Sig x) (Var y) e = absurd (cc)
same_leaf-true (Var x) (Sig y) e = absurd (cc)

-- the tail and the head of all
pub All-tail : {X : Type 0} (P : X → Type 0) (x : X) (xs : List X) → All P (x ∷ xs) → All P xs
All-tail P x xs h k d l = h (suc k) d (omega (arith, l))

pub All-head : {X : Type 0} (P : X → Type 0) (x : X) (xs : List X) → All P (x ∷ xs) → P x
All-head P x xs h = h 0 x (omega arith)

contains-more : {X : Type 0} (y : X) (xs : List X) (x : X) → Contains xs x → Contains (y ∷ xs) x
contains-more y xs x h = let l = h.1 in (suc h.0, omega (arith, l), h.2)

stands : (l : Leaf) (ns : List Leaf) → list_any (same_leaf l) ns ≡ true → Contains ns l
stands l [] e = absurd (cc)
stands l (n ∷ ns) e = at (same_leaf l n) refl e (λ g. stands l ns g)
  where
    at : (b : Bool) → same_leaf l n ≡ b → (b || list_any (same_leaf l) ns) ≡ true → (list_any (same_leaf l) ns ≡ true → Contains ns l) → Contains (n ∷ ns) l
    at true f g rest = (0, omega arith, sym (same_leaf-true l n f))
    at false f g rest = contains-more n ns l (rest g)

with_leaf-has : (ns : List Leaf) (l : Leaf) → Contains (with_leaf ns l) l
with_leaf-has ns l = at (list_any (same_leaf l) ns) refl
  where
    at : (b : Bool) → list_any (same_leaf l) ns ≡ b → Contains (cond b ns (ns ++ l ∷ [])) l
    at true e = stands l ns e
    at false e = Contains-append_right ns (l ∷ []) l (0, omega arith, refl)

with_leaf-keeps : (ns : List Leaf) (l x : Leaf) → Contains ns x → Contains (with_leaf ns l) x
with_leaf-keeps ns l x h = at (list_any (same_leaf l) ns)
  where
    at : (b : Bool) → Contains (cond b ns (ns ++ l ∷ [])) x
    at true = h
    at false = Contains-append_left ns (l ∷ []) x h

fold-keeps : (ls ns : List Leaf) (x : Leaf) → Contains ns x → Contains (fold with_leaf ns ls) x
fold-keeps [] ns x h = h
fold-keeps (l ∷ ls) ns x h = fold-keeps ls (with_leaf ns l) x (with_leaf-keeps ns l x h)

fold-has : (ls ns : List Leaf) → All (Contains (fold with_leaf ns ls)) ls
fold-has [] ns = All-nil (Contains ns)
fold-has (l ∷ ls) ns = All-cons (Contains (fold with_leaf (with_leaf ns l) ls)) l ls (fold-keeps ls (with_leaf ns l) l (with_leaf-has ns l)) (fold-has ls (with_leaf ns l))

fold-all : (P : Leaf → Type 0) (ls ns : List Leaf) → All P ns → All P ls → All P (fold with_leaf ns ls)
fold-all P [] ns h k = h
fold-all P (l ∷ ls) ns h k = fold-all P ls (with_leaf ns l) (at (list_any (same_leaf l) ns)) (All-tail P l ls k)
  where
    at : (b : Bool) → All P (cond b ns (ns ++ l ∷ []))
    at true = h
    at false = All-append P ns (l ∷ []) h (All-cons P l [] (All-head P l ls k) (All-nil P))

-- each leaf is among those that stand once
pub uses-has : (leaves : List Leaf) → All (Contains (first_uses leaves)) leaves
uses-has leaves = fold-has leaves []

-- what holds of each leaf holds of those that stand once
pub uses-all : (P : Leaf → Type 0) (leaves : List Leaf) → All P leaves → All P (first_uses leaves)
uses-all P leaves h = fold-all P leaves [] (All-nil P) h

-- they are no more than the leaves
with_leaf-length : (ns : List Leaf) (l : Leaf) → length (with_leaf ns l) ≤ length ns + 1
with_leaf-length ns l = at (list_any (same_leaf l) ns)
  where
    at : (b : Bool) → length (cond b ns (ns ++ l ∷ [])) ≤ length ns + 1
    at true = omega arith
    at false = omega (arith, length-append ns (l ∷ []))

fold-length : (ls ns : List Leaf) → length (fold with_leaf ns ls) ≤ length ns + length ls
fold-length [] ns = omega arith
fold-length (l ∷ ls) ns = omega (arith, fold-length ls (with_leaf ns l), with_leaf-length ns l)

pub uses-length : (leaves : List Leaf) → length (first_uses leaves) ≤ length leaves
uses-length leaves = omega (arith, fold-length leaves [])

-- no leaf stands twice
nat_eq-comm : (m n : ℕ) → nat_eq m n ≡ nat_eq n m
nat_eq-comm m n = grind (arith, nat_tests)

same_leaf-comm : (a b : Leaf) → same_leaf a b ≡ same_leaf b a
same_leaf-comm (Sig x) (Sig y) = nat_eq-comm x.0 y.0
same_leaf-comm (Var x) (Var y) = nat_eq-comm x.0 y.0
same_leaf-comm (Sig x) (Var y) = refl
same_leaf-comm (Var x) (Sig y) = refl

distinct-more : (ns : List Leaf) (l : Leaf) → IsDistinct same_leaf ns → list_any (same_leaf l) ns ≡ false → IsDistinct same_leaf (ns ++ l ∷ [])
unfolding IsDistinct
distinct-more [] l d e = (tt, tt)
distinct-more (n ∷ ns) l d e = (others n ns d.0 (sym (same_leaf-comm l n) ∙ or-left (same_leaf l n) (list_any (same_leaf l) ns) e), distinct-more ns l d.1 (or-right (same_leaf l n) (list_any (same_leaf l) ns) e))
  where
    or-left : (x y : Bool) → (x || y) ≡ false → x ≡ false
    or-left true y f = f
    or-left false y f = refl

    or-right : (x y : Bool) → (x || y) ≡ false → y ≡ false
    or-right true y f = absurd (cc)
    or-right false y f = f

    others : (n : Leaf) (ms : List Leaf) → AllByRecursion (λ y. same_leaf n y ≡ false) ms → same_leaf n l ≡ false → AllByRecursion (λ y. same_leaf n y ≡ false) (ms ++ l ∷ [])
    others n [] h f = (f, tt)
    others n (m ∷ ms) h f = (h.0, others n ms h.1 f)

fold-distinct : (ls ns : List Leaf) → IsDistinct same_leaf ns → IsDistinct same_leaf (fold with_leaf ns ls)
fold-distinct [] ns d = d
fold-distinct (l ∷ ls) ns d = fold-distinct ls (with_leaf ns l) (at (list_any (same_leaf l) ns) refl)
  where
    at : (b : Bool) → list_any (same_leaf l) ns ≡ b → IsDistinct same_leaf (cond b ns (ns ++ l ∷ []))
    at true e = d
    at false e = distinct-more ns l d e

pub uses-distinct : (leaves : List Leaf) → IsDistinct same_leaf (first_uses leaves)
unfolding IsDistinct
uses-distinct leaves = fold-distinct leaves [] tt
