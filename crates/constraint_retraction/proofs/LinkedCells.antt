-- The linked cells are the least closed set.
use Rattle.std.proofs.Common.{◌↔◌, ℕ, Option, Some, None, List, [], All, Any}
use Rattle.std.specs.List.{slice_index_or}
use Rattle.std.proofs.lemmas.List.Elements.{All-contains, Contains-get_or}
use Rattle.tube_spec.specs.Span.{Span}
use Rattle.constraint_retraction.specs.Linked.{IsClosed, IsLinked, Own, Along, IsResetIn}

-- the cells that are reset are such a set
pub reset-closed : {C : Type 0} (cells : C → List ℕ) (left withdrawn : List C) (box : Option (List Span)) → IsClosed cells left withdrawn (IsResetIn cells left withdrawn box)
reset-closed cells left withdrawn None = record { own = λ k d l j e m. tt; along = λ k d l some j e m. tt }
reset-closed cells left withdrawn (Some xs) = record {
  own = λ k d l j e m. Own (slice_index_or withdrawn k d) _ (Contains-get_or withdrawn k d l) (Contains-get_or (cells (slice_index_or withdrawn k d)) j e m);
  along = λ k d l some j e m.
      let c = slice_index_or left k d in
      Along c some.1 _ (Contains-get_or left k d l) (some.0, some.2, some.3) (Contains-get_or (cells c) j e m) some.4;
}

pub linked-closed : {C : Type 0} (cells : C → List ℕ) (left withdrawn : List C) → IsClosed cells left withdrawn (IsLinked cells left withdrawn)
linked-closed cells left withdrawn = reset-closed cells left withdrawn (Some [])

pub linked-least : {C : Type 0} (cells : C → List ℕ) (left withdrawn : List C) (Holds : ℕ → Type 0) → IsClosed cells left withdrawn Holds → (k : ℕ) → IsLinked cells left withdrawn k → Holds k
linked-least cells left withdrawn Holds closed k (Own c j m n) =
    All-contains Holds (cells c) k (All-contains (λ d. All Holds (cells d)) withdrawn c closed.own m) n
linked-least cells left withdrawn Holds closed k (Along c j i m n o linked) =
    let there : Any Holds (cells c) = (n.0, j, n.1, n.2, linked-least cells left withdrawn Holds closed j linked) in
    All-contains Holds (cells c) k (All-contains (λ d. Any Holds (cells d) → All Holds (cells d)) left c closed.along m there) o

-- sets with the same members are closed together
pub closed-same : {C : Type 0} (cells : C → List ℕ) (left withdrawn : List C) (One Other : ℕ → Type 0) → ((k : ℕ) → Other k ↔ One k) → IsClosed cells left withdrawn One → IsClosed cells left withdrawn Other
closed-same cells left withdrawn One Other same closed = record {
  own = λ k d l j e m. (same _).1 (closed.own k d l j e m);
  along = λ k d l some j e m. (same _).1 (closed.along k d l (some.0, some.1, some.2, some.3, (same some.1).0 some.4) j e m);
}
