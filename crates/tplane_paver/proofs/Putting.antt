-- A row that grows at its end, beside its list from the last run on.
use Rattle.std.proofs.Common.{◌≡◌, ℕ, ◌-◌, true, false, List, [], ◌∷◌, ◌++◌, length, reverse, get_or, set, arith, refl, sym, ap, subst, ◌∙◌}
use Rattle.std.proofs.lemmas.List.{length-append}
use Rattle.std.proofs.Math.Seq.{set-append_seam, get_or-append_seam}
use Rattle.tplane_paver.specs.declared.rows.Stretch.{Stretch}
use Rattle.tplane_paver.specs.Paving.{grown, joins}
use Rattle.tplane_paver.proofs.RunLaws.{reverse-cons}

last-place : (r : Stretch) (rest : List Stretch) → length (reverse (r ∷ rest)) - 1 ≡ length (reverse rest)
last-place r rest =
    let e = ap (length {A = Stretch}) (reverse-cons r rest) in
    omega (arith, e, length-append {A = Stretch} (reverse rest) (r ∷ []))

-- the last run
pub last-is : (l : List Stretch) (r d : Stretch) (rest : List Stretch) → l ≡ r ∷ rest → get_or (reverse l) (length (reverse l) - 1) d ≡ r
last-is l r d rest e = rw (e, last-place r rest, reverse-cons r rest) (get_or-append_seam (reverse rest) r [] d)

-- the last run is made longer
pub row-joined : (items l : List Stretch) (first last : ℕ) (d : Stretch) → items ≡ reverse l → joins l first ≡ true
    → set items (length items - 1) (record { first = (get_or items (length items - 1) d).first; last = last }) ≡ reverse (grown l first last)
row-joined items [] first last d e j = absurd (cc)
row-joined items (r ∷ rest) first last d e j =
    rw (e, j, last-is (r ∷ rest) r d rest refl, last-place r rest, reverse-cons r rest, reverse-cons (record { first = r.first; last = last }) rest)
    (set-append_seam (reverse rest) r [] (record { first = r.first; last = last }))

-- a run is put at the end
pub row-pushed : (items l : List Stretch) (first last : ℕ) → items ≡ reverse l → joins l first ≡ false
    → items ++ record { first = first; last = last } ∷ [] ≡ reverse (grown l first last)
row-pushed items [] first last e j = rw e
row-pushed items (r ∷ rest) first last e j = rw (e, j, reverse-cons (record { first = first; last = last }) (r ∷ rest))

pub row-joined_at : (items l : List Stretch) (first last n : ℕ) (r : Stretch) → n ≡ length items → r ≡ get_or items (n - 1) r → items ≡ reverse l → joins l first ≡ true
    → set items (n - 1) (record { first = r.first; last = last }) ≡ reverse (grown l first last)
row-joined_at items l first last n r k g e j =
    let h = row-joined items l first last r e j in
    let same : (get_or items (length items - 1) r).first ≡ r.first = ap (λ (s : Stretch). s.first) (ap (λ (m : ℕ). get_or items (m - 1) r) (sym k) ∙ sym g) in
    rw k (subst (λ (f : ℕ). set items (length items - 1) (record { first = f; last = last }) ≡ reverse (grown l first last)) same h)
