-- Further cells keep what holds of a store.
use Rattle.std.proofs.Common.{◌≡◌, ℕ, zero, suc, ◌+◌, ◌-◌, ◌*◌, ◌≤◌, inl, inr, Bool, false, not, List, ◌++◌, arith, refl, sym, ap, ap₂, subst, ◌∙◌, length, get_or, length-append, replicate, pos, sum_by}
use Rattle.std.proofs.Math.ListN.{get_or-append, length-replicate}
use Rattle.std.proofs.lemmas.List.{get_or-append_right, get_or_past}
use Rattle.std.proofs.lemmas.List.Sums.{count_by-le-length, sum_by-append}
use Rattle.std.proofs.lemmas.List.Folds.{sum_by-replicate}
use Rattle.std.proofs.Math.Nat.{mul-le-mul_left}
use Rattle.std.proofs.lemmas.Int.{ints}
use Rattle.tube_spec.specs.Span.{Span, IsProper, IsBounded, point, width_of}
use Rattle.tube_spec.specs.Box.{IsBox, AreBounded}
use Rattle.tube_spec.proofs.Prefixes.{below-or-not, IsBox-append, IsBox-replicate}
use Rattle.tube_spec.specs.Shape.{Shape, IsShape}
use Rattle.tube_spec.proofs.Widths.{width-small, widths-small}
use Rattle.tube_store.specs.Kept.{IsKept}

-- what holds of the default and of each copy holds at each place of copies
replicate-each : {X : Type 0} (P : X → Type 0) (n : ℕ) (x d : X) (k : ℕ) → P x → P d → P (get_or (replicate n x) k d)
replicate-each P zero x d k p q = q
replicate-each P (suc n) x d zero p q = p
replicate-each P (suc n) x d (suc k) p q = replicate-each P n x d k p q

pub length-more : {X : Type 0} (xs more : List X) (n : ℕ) (x : X) → more ≡ xs ++ replicate n x → length more ≡ length xs + n
length-more xs more n x e = ap length e ∙ length-append xs (replicate n x) ∙ ap (λ (k : ℕ). length xs + k) (length-replicate n x)

bounded-append : (xs ys : List Span) → AreBounded xs → AreBounded ys → AreBounded (xs ++ ys)
bounded-append xs ys p q k = elim (below-or-not k (length xs)) [
  | inl h ↦ subst (IsBounded 500000000) (sym (get_or-append xs ys (point (pos 0)) k h)) (p k)
  | inr h ↦ subst (IsBounded 500000000) (sym (get_or-append_right xs ys (length xs) k (point (pos 0)) refl h)) (q (k - length xs))
]

marks-same : (marks : List Bool) (n k : ℕ) → get_or (marks ++ replicate n false) k false ≡ get_or marks k false
marks-same marks n k = elim (below-or-not k (length marks)) [
  | inl h ↦ get_or-append marks (replicate n false) false k h
  | inr h ↦
      get_or-append_right marks (replicate n false) (length marks) k false refl h
      ∙ replicate-each (λ (b : Bool). b ≡ false) n false false (k - length marks) refl refl ∙ sym (get_or_past marks k false h)
]

-- a store with n cells more, of which none is touched
pub kept-longer : (old new : Shape) (cells more : List Span) (marks further : List Bool) (ring : List ℕ) (before after total sum n : ℕ) (range : Span) → IsKept old cells marks ring before total → IsShape new → IsProper range → IsBounded 500000000 range
    → more ≡ cells ++ replicate n range → further ≡ marks ++ replicate n false → length ring + (length cells + n) ≤ after → sum ≡ total + n * width_of range → IsKept new more further ring after sum
kept-longer old new cells more marks further ring before after total sum n range kept shape proper inside em ef room es =
    let lm : length more ≡ length cells + n = length-more cells more n range em in
    let lf : length further ≡ length marks + n = length-more marks further n false ef in
    record {
      layout = shape;
      proper = subst IsBox (sym em) (IsBox-append cells (replicate n range) kept.proper (IsBox-replicate n range proper));
      bounded = subst AreBounded (sym em) (bounded-append cells (replicate n range) kept.bounded (λ k. replicate-each (IsBounded 500000000) n range (point (pos 0)) k inside (record { low = omega (arith, ints); high = omega (arith, ints) })));
      beside = omega (arith, lm, lf, kept.beside);
      ring = record {
        agrees = λ k. ap (λ (l : List Bool). get_or l k false) ef ∙ marks-same marks n k ∙ kept.ring.agrees k;
        distinct = kept.ring.distinct;
        room = omega (arith, count_by-le-length not further, lf, room, kept.beside);
      };
      widths = es ∙ ap₂ (λ (a b : ℕ). a + b) kept.widths (sym (sum_by-replicate width_of n range)) ∙ sym (sum_by-append width_of cells (replicate n range)) ∙ ap (sum_by width_of) (sym em);
    }

-- the widths of cells, and of those that are added, have room in 64 bits
pub widths-room : (cells : List Span) (total n : ℕ) (range : Span) → total ≡ sum_by width_of cells → AreBounded cells → IsBounded 500000000 range → length cells + n ≤ 2000000 → total + n * width_of range ≤ 2000000000000000
widths-room cells total n range e all inside few =
    omega (arith, e, widths-small cells all, few, mul-le-mul_left n (width-small range inside))
