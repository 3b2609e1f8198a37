-- Texts of one kind that are read one after the other.
use Rattle.std.proofs.Common.{◌+◌, ◌<◌, length, length-append, arith, ◌≡◌, ℕ, List, [], ◌∷◌, ◌++◌, refl, sym, ap, ◌∙◌, append_assoc, flat_map}
use Rattle.std.specs.List.{AllByRecursion}
use Rattle.std.proofs.lemmas.List.{append-nil}
use Rattle.std.proofs.lemmas.List.Concat.{flat_map-append}
use Rattle.bundle_reader.specs.Bytes.{HasByte}
use Rattle.bundle_reader.specs.Fronts.{Anything, IsInFront, NoneInFront}

-- what follows a text is less than all
pub shorter : (text back rest : List ℕ) → HasByte text → text ++ back ≡ rest → length back < length rest
shorter text back rest (c, cs, e) h =
    let total : length (text ++ back) ≡ length text + length back = length-append text back in
    let some : length text ≡ length cs + 1 = ap length e ∙ omega arith in
    omega (arith, ap length h)

module _ {V : Type 0} (f : V → List ℕ) (P : V → Type 0) where
  -- none of the values stands there
  abbrev Ends : List ℕ → Type 0
  Ends = NoneInFront f P Anything

  -- what is left of values that begin with those that were read
  pub record IsLeft (xs ys : List V) (rest others : List ℕ) : Type 0 where
    pub more : List V
    pub begun : ys ≡ xs ++ more
    pub right : AllByRecursion P more
    pub whole : flat_map f more ++ others ≡ rest

  -- these values were read, and this is left
  pub record IsReadTo (bytes rest : List ℕ) (xs : List V) : Type 0 where
    pub right : AllByRecursion P xs
    pub whole : flat_map f xs ++ rest ≡ bytes
    pub left : (ys : List V) (others : List ℕ) → AllByRecursion P ys → Ends others → flat_map f ys ++ others ≡ bytes → IsLeft xs ys rest others

  pub nothing_read : (bytes : List ℕ) → IsReadTo bytes bytes []
  nothing_read bytes = record { right = tt; whole = refl; left = λ ys others h k e. record { more = ys; begun = refl; right = h; whole = e } }

  all_append : (xs : List V) (x : V) → AllByRecursion P xs → P x → AllByRecursion P (xs ++ x ∷ [])
  all_append [] x h p = (p, tt)
  all_append (y ∷ xs) x h p = (h.0, all_append xs x h.1 p)

  module _ (bytes rest : List ℕ) (xs : List V) (h : IsReadTo bytes rest xs) where
    pub one_more : (x : V) (back : List ℕ) → IsInFront f P Anything rest x back → IsReadTo bytes back (xs ++ x ∷ [])
    one_more x back here = record {
      right = all_append xs x h.right here.right;
      whole =
          ap (λ (t : List ℕ). t ++ back) (flat_map-append f xs (x ∷ []))
          ∙ (append_assoc (flat_map f xs) (f x ++ []) back
          ∙ (ap (λ (t : List ℕ). flat_map f xs ++ (t ++ back)) (append-nil (f x)) ∙ (ap (λ (t : List ℕ). flat_map f xs ++ t) here.whole ∙ h.whole)));
      left = λ ys others right ends e. let l = h.left ys others right ends e in step ys others ends l.more l.begun l.right l.whole;
    }
      where
        step : (ys : List V) (others : List ℕ) → Ends others → (more : List V) → ys ≡ xs ++ more → AllByRecursion P more → flat_map f more ++ others ≡ rest → IsLeft (xs ++ x ∷ []) ys back others
        step ys others ends [] begun right e = absurd (ends x back here.right tt (here.whole ∙ sym e))
        step ys others ends (z ∷ more) begun right e =
            let both = here.only z (flat_map f more ++ others) right.0 tt (sym (append_assoc (f z) (flat_map f more) others) ∙ e) in
            record {
              more = more;
              begun = begun ∙ (ap (λ (y : V). xs ++ y ∷ more) both.0 ∙ sym (append_assoc xs (x ∷ []) more));
              right = right.1;
              whole = both.1;
            }

    pub all_read : Ends rest → IsInFront (flat_map f) (AllByRecursion P) Ends bytes xs rest
    all_read none = record {
      right = h.right;
      whole = h.whole;
      only = λ ys others right ends e. let l = h.left ys others right ends e in last ys others l.more l.begun l.right l.whole;
    }
      where
        last : (ys : List V) (others : List ℕ) → (more : List V) → ys ≡ xs ++ more → AllByRecursion P more → flat_map f more ++ others ≡ rest → (ys ≡ xs) × (others ≡ rest)
        last ys others [] begun right e = (begun ∙ append-nil xs, e)
        last ys others (z ∷ more) begun right e = absurd (none z (flat_map f more ++ others) right.0 tt (sym (append_assoc (f z) (flat_map f more) others) ∙ e))
