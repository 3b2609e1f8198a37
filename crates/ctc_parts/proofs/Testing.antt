-- Tests of parts one after another.
use Rattle.std.proofs.Common.{◌≡◌, ℕ, ◌+◌, ◌<◌, ◌⊎◌, inl, inr, Bool, true, false, Option, Some, None, List, refl, sym, subst, arith, All}
use Rattle.std.proofs.lemmas.Bool.{both_ways}
use Rattle.std.proofs.lemmas.List.Elements.{All-append}
use Rattle.tube_spec.specs.Span.{Span}
use Rattle.tube_spec.specs.Projection.{Projection, IsStable}
use Rattle.ctc_core.specs.Checking.{Checks}
use Rattle.ctc_parts.specs.Parts.{each_below, marked_in, AreClean, ChecksMarked, ChecksFlagged}
use Rattle.ctc_parts.proofs.Members.{All-each_below, each_below-all, each-more, below-more}
use Rattle.ctc_parts.proofs.Marking.{marked-first}

-- a test of the marked parts is one of all, where the box is stable under the others
pub marked-checks : (n : ℕ) (part : ℕ → List Projection) (marked : ℕ → Bool) (box : Option (List Span)) (held : Bool) → AreClean n part marked box → ChecksMarked n part marked box held → Checks (each_below part n) box held
marked-checks n part marked None held clean h = tt
marked-checks n part marked (Some xs) held clean h = (
  λ t. All-each_below (IsStable xs) part n (λ i l. at (h.0 t) i l (marked i) refl),
  λ a. h.1 (λ i l. each_below-all (IsStable xs) part n i l a),
)
  where
    at : ((i : ℕ) → i < n → marked i ≡ true → All (IsStable xs) (part i)) → (i : ℕ) → i < n → (v : Bool) → marked i ≡ v → All (IsStable xs) (part i)
    at all i l true m = all i l m
    at all i l false m = clean i l m

-- one part more is stable
pub checks-more : (part : ℕ → List Projection) (b : Option (List Span)) (i : ℕ) (held : Bool) → held ≡ true → Checks (each_below part i) b true → Checks (part i) b held → Checks (each_below part (i + 1)) b true
checks-more part None i held e h k = tt
checks-more part (Some xs) i held e h k = (λ _. subst (λ (ps : List Projection). All (IsStable xs) ps) (sym (each-more part i)) (All-append (IsStable xs) (each_below part i) (part i) (h.0 refl) (k.0 e)), λ _. refl)

-- one part is not stable
pub checks-not : (n : ℕ) (part : ℕ → List Projection) (b : Option (List Span)) (i : ℕ) (held : Bool) → i < n → held ≡ false → Checks (part i) b held → Checks (each_below part n) b false
checks-not n part None i held l e k = tt
checks-not n part (Some xs) i held l e k = (λ t. absurd (cc), λ a. absurd (both_ways held e (k.1 (each_below-all (IsStable xs) part n i l a))))

-- below the first number of the range nothing is asked
pub tested-none : (part : ℕ → List Projection) (marks : List Bool) (first end : ℕ) (b : Option (List Span)) → ChecksMarked first part (marked_in marks first end) b true
tested-none part marks first end None = tt
tested-none part marks first end (Some xs) = (λ _ i l m. absurd (omega (arith, l, marked-first marks first end i m)), λ _. refl)

module _ (part : ℕ → List Projection) (marked : ℕ → Bool) where
  -- one part more was tested
  pub tested-more : (b : Option (List Span)) (i : ℕ) (flag held : Bool) → held ≡ true → (marked i ≡ true → flag ≡ true) → ChecksMarked i part marked b true → ChecksFlagged (part i) flag b held → ChecksMarked (i + 1) part marked b true
  tested-more None i flag held e stands h k = tt
  tested-more (Some xs) i flag held e stands h k = (
    λ _ j l m. elim (below-more i j l) [
      | inl l ↦ h.0 refl j l m
      | inr q ↦ subst (λ (n : ℕ). All (IsStable xs) (part n)) (sym q) (k.0 e (stands (subst (λ (n : ℕ). marked n ≡ true) q m)))
    ],
    λ _. refl,
  )

  -- one part is not stable
  pub tested-not : (n : ℕ) (b : Option (List Span)) (i : ℕ) (flag held : Bool) → i < n → held ≡ false → ChecksFlagged (part i) flag b held → ChecksMarked n part marked b false
  tested-not n None i flag held l e k = tt
  tested-not n (Some xs) i flag held l e k = (λ t. absurd (cc), λ all. absurd (both_ways held e (k.1 (all i l))))

  -- the rest is not marked
  pub tested-rest : (n : ℕ) (b : Option (List Span)) (i : ℕ) → ((j : ℕ) → j < n → (j < i) ⊎ (marked j ≡ false)) → ChecksMarked i part marked b true → ChecksMarked n part marked b true
  tested-rest n None i rest h = tt
  tested-rest n (Some xs) i rest h = (
    λ _ j l m. elim (rest j l) [
      | inl k ↦ h.0 refl j k m
      | inr q ↦ absurd (both_ways (marked j) q m)
    ],
    λ _. refl,
  )
