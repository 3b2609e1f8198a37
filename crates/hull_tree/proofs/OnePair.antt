-- What is said of one pair of ticks.
use Rattle.std.proofs.Common.{◌≡◌, ℕ, ◌+◌, ◌<◌, ◌≤◌, ◌⊎◌, inl, inr, Bool, true, false, ◌&&◌, Option, Some, None, List, length, nat_lt, nat_le, arith, refl, sym, ap, subst, ◌∙◌}
use Rattle.std.specs.Option.{IfSome}
use Rattle.std.proofs.lemmas.Bool.Decides.{nat_tests}
use Rattle.tube_spec.specs.Span.{Span, natural, sub_of}
use Rattle.tube_spec.specs.Grid.{last_tick}
use Rattle.tube_spec.specs.Shape.{Shape}
use Rattle.tube_spec.specs.Box.{cell_at}
use Rattle.tube_spec.specs.Tick.{at_tick}
use Rattle.tube_names.specs.Nearness.{is_near}
use Rattle.tube_names.specs.declared.queries.Query.{Query}
use Rattle.hull_tree.specs.Plane.{plane_of, tube_of, is_valid, is_possible, is_sure, least_abs, greatest_abs, change}
use Rattle.hull_tree.proofs.Nearness.{length-tube_of, tube_of-tick}

-- whether a pair is valid, and near by a test of its changes
abbrev tested : (Span → ℕ) → Shape → List Span → Query → ℕ → ℕ → Bool
tested f s xs q a b =
    is_valid (plane_of s xs q) a b && is_near q.norm (natural q.radius) (f (change (tube_of s xs q.x.0) a b)) (f (change (tube_of s xs q.y.0) a b))

not-valid : (s : Shape) (xs : List Span) (q : Query) (a b : ℕ) → (last_tick s.grid < b) ⊎ (b < a + q.gap) → is_valid (plane_of s xs q) a b ≡ false
not-valid s xs q a b h = out b (length (tube_of s xs q.x.0)) (a + q.gap) (elim h [ inl l ↦ inl (omega (arith, l, length-tube_of s xs q.x.0)) | inr l ↦ inr l ])
  where
    out : (b n m : ℕ) → (n ≤ b) ⊎ (b < m) → (nat_lt b n && nat_le m b) ≡ false
    out b n m h = grind (arith, nat_tests)

valid : (s : Shape) (xs : List Span) (q : Query) (a b : ℕ) → b ≤ last_tick s.grid → a + q.gap ≤ b → is_valid (plane_of s xs q) a b ≡ true
valid s xs q a b l h = in-both b (length (tube_of s xs q.x.0)) (a + q.gap) (omega (arith, l, length-tube_of s xs q.x.0)) h
  where
    in-both : (b n m : ℕ) → b < n → m ≤ b → (nat_lt b n && nat_le m b) ≡ true
    in-both b n m h k = grind (arith, nat_tests)

change-at : (s : Shape) (xs : List Span) (x a b : ℕ) → a ≤ last_tick s.grid → b ≤ last_tick s.grid → change (tube_of s xs x) a b ≡ sub_of (at_tick s xs x b) (at_tick s xs x a)
change-at s xs x a b l m = rw (tube_of-tick s xs x a l, tube_of-tick s xs x b m) refl

-- a pair that isn't valid passes no test
not-tested : (f : Span → ℕ) (box : Option (List Span)) (s : Shape) (q : Query) (a b : ℕ) → (last_tick s.grid < b) ⊎ (b < a + q.gap) → IfSome box (λ xs. false ≡ tested f s xs q a b)
not-tested f None s q a b h = tt
not-tested f (Some xs) s q a b h =
    sym (ap (λ (v : Bool). v && is_near q.norm (natural q.radius) (f (change (tube_of s xs q.x.0) a b)) (f (change (tube_of s xs q.y.0) a b))) (not-valid s xs q a b h))

-- a valid pair passes it where its changes do
is-tested : (f : Span → ℕ) (box : Option (List Span)) (s : Shape) (q : Query) (a b : ℕ) (dx dy : Span) (nx ny : ℕ) (answer : Bool) → b ≤ last_tick s.grid → a + q.gap ≤ b
    → IfSome box (λ xs. dx ≡ sub_of (at_tick s xs q.x.0 b) (at_tick s xs q.x.0 a)) → IfSome box (λ xs. dy ≡ sub_of (at_tick s xs q.y.0 b) (at_tick s xs q.y.0 a))
    → nx ≡ f dx → ny ≡ f dy → answer ≡ is_near q.norm (natural q.radius) nx ny → IfSome box (λ xs. answer ≡ tested f s xs q a b)
is-tested f None s q a b dx dy nx ny answer l h ex ey mx my e = tt
is-tested f (Some xs) s q a b dx dy nx ny answer l h ex ey mx my e =
    let near = is_near q.norm (natural q.radius) in
    let ax : nx ≡ f (change (tube_of s xs q.x.0) a b) = mx ∙ ap f (ex ∙ sym (change-at s xs q.x.0 a b (omega (arith, l, h)) l)) in
    let ay : ny ≡ f (change (tube_of s xs q.y.0) a b) = my ∙ ap f (ey ∙ sym (change-at s xs q.y.0 a b (omega (arith, l, h)) l)) in
    e ∙ ap (λ (n : ℕ). near n ny) ax ∙ ap (λ (n : ℕ). near (f (change (tube_of s xs q.x.0) a b)) n) ay
    ∙ sym (ap (λ (v : Bool). v && near (f (change (tube_of s xs q.x.0) a b)) (f (change (tube_of s xs q.y.0) a b))) (valid s xs q a b l h))

pub not-possible : (box : Option (List Span)) (s : Shape) (q : Query) (a b : ℕ) → (last_tick s.grid < b) ⊎ (b < a + q.gap) → IfSome box (λ xs. false ≡ is_possible (plane_of s xs q) a b)
not-possible box s q a b h = not-tested least_abs box s q a b h

pub not-sure : (box : Option (List Span)) (s : Shape) (q : Query) (a b : ℕ) → (last_tick s.grid < b) ⊎ (b < a + q.gap) → IfSome box (λ xs. false ≡ is_sure (plane_of s xs q) a b)
not-sure box s q a b h = not-tested greatest_abs box s q a b h

pub is-possible : (box : Option (List Span)) (s : Shape) (q : Query) (a b : ℕ) (dx dy : Span) (nx ny : ℕ) (answer : Bool) → b ≤ last_tick s.grid → a + q.gap ≤ b
    → IfSome box (λ xs. dx ≡ sub_of (at_tick s xs q.x.0 b) (at_tick s xs q.x.0 a)) → IfSome box (λ xs. dy ≡ sub_of (at_tick s xs q.y.0 b) (at_tick s xs q.y.0 a))
    → nx ≡ least_abs dx → ny ≡ least_abs dy → answer ≡ is_near q.norm (natural q.radius) nx ny → IfSome box (λ xs. answer ≡ is_possible (plane_of s xs q) a b)
is-possible box s q a b dx dy nx ny answer l h ex ey mx my e = is-tested least_abs box s q a b dx dy nx ny answer l h ex ey mx my e

pub is-sure : (box : Option (List Span)) (s : Shape) (q : Query) (a b : ℕ) (dx dy : Span) (nx ny : ℕ) (answer : Bool) → b ≤ last_tick s.grid → a + q.gap ≤ b
    → IfSome box (λ xs. dx ≡ sub_of (at_tick s xs q.x.0 b) (at_tick s xs q.x.0 a)) → IfSome box (λ xs. dy ≡ sub_of (at_tick s xs q.y.0 b) (at_tick s xs q.y.0 a))
    → nx ≡ greatest_abs dx → ny ≡ greatest_abs dy → answer ≡ is_near q.norm (natural q.radius) nx ny → IfSome box (λ xs. answer ≡ is_sure (plane_of s xs q) a b)
is-sure box s q a b dx dy nx ny answer l h ex ey mx my e = is-tested greatest_abs box s q a b dx dy nx ny answer l h ex ey mx my e
