-- Sets that are read one after the other, each with its number.
use Rattle.std.proofs.Common.{◌≡◌, ℕ, ◌+◌, ◌<◌, List, [], ◌∷◌, ◌++◌, length, length-append, refl, sym, ap, ◌∙◌, append_assoc, arith}
use Rattle.std.specs.List.{AllByRecursion}
use Rattle.std.proofs.lemmas.Bool.{eqb-false}
use Rattle.std.proofs.lemmas.List.{append-nil}
use Rattle.bundle_text.specs.Bundles.{IsTracedSet, set_text, sets_text}
use Rattle.bundle_text.specs.declared.bundle.TracedSet.{TracedSet}
use Rattle.loop_report.specs.Loops.{front_text}
use Rattle.bundle_reader.specs.Fronts.{IsInFront, NoneInFront}
use Rattle.bundle_reader.specs.Sets.{AfterSet, AreCounted}

sets_after : (n : ℕ) (xs : List TracedSet) (s : List ℕ) → AfterSet s → AfterSet (sets_text n xs ++ s)
unfolding front_text
sets_after n [] s h = h
sets_after n (x ∷ xs) s h = (λ e. eqb-false 115 114 refl e, λ e. eqb-false 115 99 refl e)

sets_append : (n : ℕ) (xs : List TracedSet) (x : TracedSet) → sets_text n (xs ++ x ∷ []) ≡ sets_text n xs ++ set_text (n + length xs) x
sets_append n [] x = append-nil (set_text n x) ∙ ap (λ (m : ℕ). set_text m x) (omega arith)
sets_append n (y ∷ xs) x =
    ap (λ (t : List ℕ). set_text n y ++ t) (sets_append (n + 1) xs x ∙ ap (λ (m : ℕ). sets_text (n + 1) xs ++ set_text m x) (omega arith))
    ∙ sym (append_assoc (set_text n y) (sets_text (n + 1) xs) (set_text (n + length (y ∷ xs)) x))

all_append : (xs : List TracedSet) (x : TracedSet) → AllByRecursion IsTracedSet xs → IsTracedSet x → AllByRecursion IsTracedSet (xs ++ x ∷ [])
all_append [] x h p = (p, tt)
all_append (y ∷ xs) x h p = (h.0, all_append xs x h.1 p)

-- what is left of sets that begin with those that were read
pub record IsLeft (xs ys : List TracedSet) (rest others : List ℕ) : Type 0 where
  pub more : List TracedSet
  pub begun : ys ≡ xs ++ more
  pub right : AllByRecursion IsTracedSet more
  pub whole : sets_text (length xs + 1) more ++ others ≡ rest

-- of so many sets these were read, and this is left
pub record AreRead (count : ℕ) (bytes rest : List ℕ) (xs : List TracedSet) : Type 0 where
  pub right : AllByRecursion IsTracedSet xs
  pub whole : sets_text 1 xs ++ rest ≡ bytes
  pub left : (ys : List TracedSet) (others : List ℕ) → AreCounted count ys → AfterSet others → sets_text 1 ys ++ others ≡ bytes → IsLeft xs ys rest others

pub none_read : (count : ℕ) (bytes : List ℕ) → AreRead count bytes bytes []
none_read count bytes = record { right = tt; whole = refl; left = λ ys others h k e. record { more = ys; begun = refl; right = h.0; whole = e } }

module _ (count : ℕ) (bytes rest : List ℕ) (xs : List TracedSet) (h : AreRead count bytes rest xs) where
  -- while fewer are read, one is left
  some_left : (ys : List TracedSet) → length ys ≡ count → length xs < count → ys ≡ xs ++ [] → ⊥
  some_left ys all few begun = let same : length ys ≡ length xs = ap length (begun ∙ append-nil xs) in omega arith

  pub one_read : (x : TracedSet) (back : List ℕ) → length xs < count → IsInFront (set_text (length xs + 1)) IsTracedSet AfterSet rest x back → AreRead count bytes back (xs ++ x ∷ [])
  one_read x back few here = record {
    right = all_append xs x h.right here.right;
    whole =
        ap (λ (t : List ℕ). t ++ back) (sets_append 1 xs x)
        ∙ (append_assoc (sets_text 1 xs) (set_text (1 + length xs) x) back
        ∙ (ap (λ (m : ℕ). sets_text 1 xs ++ (set_text m x ++ back)) (omega arith) ∙ (ap (λ (t : List ℕ). sets_text 1 xs ++ t) here.whole ∙ h.whole)));
    left = λ ys others right after e. let l = h.left ys others right after e in step ys others right.1 after l.more l.begun l.right l.whole;
  }
    where
      step : (ys : List TracedSet) (others : List ℕ) → length ys ≡ count → AfterSet others → (more : List TracedSet) → ys ≡ xs ++ more → AllByRecursion IsTracedSet more → sets_text (length xs + 1) more ++ others ≡ rest → IsLeft (xs ++ x ∷ []) ys back others
      step ys others all after [] begun right e = absurd (some_left ys all few begun)
      step ys others all after (z ∷ more) begun right e =
          let both = here.only z (sets_text (length xs + 1 + 1) more ++ others) right.0 (sets_after (length xs + 1 + 1) more others after)
          (sym (append_assoc (set_text (length xs + 1) z) (sets_text (length xs + 1 + 1) more) others) ∙ e) in
          let next : length (xs ++ x ∷ []) + 1 ≡ length xs + 1 + 1 = omega (arith, length-append xs (x ∷ [])) in
          record {
            more = more;
            begun = begun ∙ (ap (λ (y : TracedSet). xs ++ y ∷ more) both.0 ∙ sym (append_assoc xs (x ∷ []) more));
            right = right.1;
            whole = ap (λ (m : ℕ). sets_text m more ++ others) next ∙ both.1;
          }

  pub none_left : length xs < count → NoneInFront (set_text (length xs + 1)) IsTracedSet AfterSet rest → NoneInFront (sets_text 1) (AreCounted count) AfterSet bytes
  none_left few none ys others right after e = let l = h.left ys others right after e in step l.more l.begun l.right l.whole
    where
      step : (more : List TracedSet) → ys ≡ xs ++ more → AllByRecursion IsTracedSet more → sets_text (length xs + 1) more ++ others ≡ rest → ⊥
      step [] begun all d = some_left ys right.1 few begun
      step (z ∷ more) begun all d =
          none z (sets_text (length xs + 1 + 1) more ++ others) all.0 (sets_after (length xs + 1 + 1) more others after)
          (sym (append_assoc (set_text (length xs + 1) z) (sets_text (length xs + 1 + 1) more) others) ∙ d)

  pub sets_read : length xs ≡ count → IsInFront (sets_text 1) (AreCounted count) AfterSet bytes xs rest
  sets_read full = record {
    right = (h.right, full);
    whole = h.whole;
    only = λ ys others right after e. let l = h.left ys others right after e in last ys others right.1 l.more l.begun l.whole;
  }
    where
      last : (ys : List TracedSet) (others : List ℕ) → length ys ≡ count → (more : List TracedSet) → ys ≡ xs ++ more → sets_text (length xs + 1) more ++ others ≡ rest → (ys ≡ xs) × (others ≡ rest)
      last ys others all [] begun e = (begun ∙ append-nil xs, e)
      last ys others all (z ∷ more) begun e = let total : length ys ≡ length xs + length (z ∷ more) = ap length begun ∙ length-append xs (z ∷ more) in absurd (omega arith)
