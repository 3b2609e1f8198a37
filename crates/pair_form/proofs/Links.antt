-- The lines of links, one after the other, and the last line.
use Rattle.std.proofs.Common.{◌≡◌, ℕ, ℤ, ◌==◌, true, false, List, [], ◌∷◌, ◌++◌, length, refl, sym, ap, ap₂, ◌∙◌, subst, arith, append_assoc}
use Rattle.std.specs.Prelude.{codes, flat_map}
use Rattle.std.proofs.lemmas.Bool.{eqb-false, eqb-true}
use Rattle.std.proofs.lemmas.List.{append-nil}
use Rattle.pair_form.specs.Forms.{AreLinks, HasNumbers, IsLink, LinkForm}
use Rattle.pair_form.specs.Lines.{BeginsWithLine, line}
use Rattle.pair_form.specs.Parts.{AreLinksAndEnd, BeginsWithNumbers}
use Rattle.pair_form.specs.Reads.{Refuses}
use Rattle.pair_form.specs.Words.{IsWord}
use Rattle.pair_form.specs.declared.form.PairFormFault.{PairFormFault}
use Rattle.pair_form.specs.declared.form.PairFormFault.TheVariants as fault
use Rattle.pair_form.proofs.Pieces.{line_same}
use Rattle.pair_form.proofs.Spelled.{link_begins, link_one, numbers_begin}

-- ---- a line of two numbers that is not there

abbrev pub NoLine : List ℕ → PairFormFault → Type 0
NoLine bytes e = Refuses (λ (p : List (List ℕ) × List ℕ). BeginsWithLine bytes p.0 p.1) e

abbrev pub NoNumbers : List ℕ → List ℕ → PairFormFault → Type 0
NoNumbers kind bytes e = Refuses (λ (p : (ℤ × ℤ) × List ℕ). BeginsWithNumbers kind bytes p.0 p.1) e

pub no_line_of_numbers : (kind bytes : List ℕ) → IsWord kind → (e : PairFormFault) → NoLine bytes e → NoNumbers kind bytes e
no_line_of_numbers kind bytes k fault.Form none = λ p h. none (h.words, p.1) (numbers_begin kind bytes h.words p.0 p.1 k h.numbers_are h.whole)
no_line_of_numbers kind bytes k fault.NoMemory none = tt

pub no_numbers : (kind bytes : List ℕ) (words : List (List ℕ)) (back : List ℕ) → IsWord kind → BeginsWithLine bytes words back → (e : PairFormFault) → Refuses (HasNumbers kind words) e → NoNumbers kind bytes e
no_numbers kind bytes words back k begins fault.Form none = λ p h.
    let same = line_same bytes h.words words p.1 back (numbers_begin kind bytes h.words p.0 p.1 k h.numbers_are h.whole) begins in
    none p.0 (subst (λ (ws : List (List ℕ)). HasNumbers kind ws p.0) same.0 h.numbers_are)
no_numbers kind bytes words back k begins fault.NoMemory none = tt

-- ---- the first of the lines

abbrev last_words : List (List ℕ)
last_words = codes "end" ∷ []

last_begins : (bytes : List ℕ) → bytes ≡ line last_words → BeginsWithLine bytes last_words []
last_begins bytes e = record {
  some = omega arith;
  few = omega arith;
  words_are = (record { some = refl; no_space = refl; no_end = refl }, tt);
  whole = e ∙ sym (append-nil (line last_words));
}

-- the last line alone
pub ended : (bytes : List ℕ) → AreLinksAndEnd bytes [] → BeginsWithLine bytes (codes "end" ∷ []) []
ended bytes h = of h.lines h.links_are h.whole
  where
    of : (lines : List (List (List ℕ))) → AreLinks lines [] → bytes ≡ flat_map line lines ++ line last_words → BeginsWithLine bytes last_words []
    of [] are e = last_begins bytes e
    of (words ∷ lines) are e = absurd are

-- a link and those after it
pub record Begun (bytes : List ℕ) (link : LinkForm) (links : List LinkForm) : Type 0 where
  pub words : List (List ℕ)
  pub rest : List ℕ
  pub here : IsLink words link
  pub begins : BeginsWithLine bytes words rest
  pub more : AreLinksAndEnd rest links

pub begun : (bytes : List ℕ) (link : LinkForm) (links : List LinkForm) → AreLinksAndEnd bytes (link ∷ links) → Begun bytes link links
begun bytes link links h = of h.lines h.links_are h.whole
  where
    of : (lines : List (List (List ℕ))) → AreLinks lines (link ∷ links) → bytes ≡ flat_map line lines ++ line last_words → Begun bytes link links
    of [] are e = absurd are
    of (words ∷ lines) are e =
        let rest = flat_map line lines ++ line last_words in
        record {
          words = words;
          rest = rest;
          here = are.0;
          begins = link_begins bytes words link rest are.0 (e ∙ append_assoc (line words) (flat_map line lines) (line last_words));
          more = record { lines = lines; links_are = are.1; whole = refl };
        }

-- a link before others
pub link_before : (bytes : List ℕ) (words : List (List ℕ)) (rest : List ℕ) (link : LinkForm) (links : List LinkForm) → BeginsWithLine bytes words rest → IsLink words link → AreLinksAndEnd rest links → AreLinksAndEnd bytes (link ∷ links)
link_before bytes words rest link links begins here more = record {
  lines = words ∷ more.lines;
  links_are = (here, more.links_are);
  whole = begins.whole ∙ (ap (λ (t : List ℕ). line words ++ t) more.whole ∙ sym (append_assoc (line words) (flat_map line more.lines) (line last_words)));
}

no_link : (words : List (List ℕ)) (link : LinkForm) → words ≡ last_words → IsLink words link → ⊥
no_link words link e h = absurd (omega (arith, ap length (sym e ∙ h.spelled)))

-- ---- what stands behind a line

-- where the first line is no last one, it is of a link
pub unlinked : (bytes : List ℕ) (words : List (List ℕ)) (rest : List ℕ) (links : List LinkForm) → BeginsWithLine bytes words rest → (words ≡ codes "end" ∷ [] → ⊥) → AreLinksAndEnd bytes links
    → (link : LinkForm) × (more : List LinkForm) × IsLink words link × AreLinksAndEnd rest more
unlinked bytes words rest [] begins other h = absurd (other (line_same bytes words last_words rest [] begins (ended bytes h)).0)
unlinked bytes words rest (link ∷ links) begins other h =
    let b = begun bytes link links h in
    let same = line_same bytes b.words words b.rest rest b.begins begins in
    (link, links, subst (λ (ws : List (List ℕ)). IsLink ws link) same.0 b.here, subst (λ (t : List ℕ). AreLinksAndEnd t links) same.1 b.more)

-- nothing stands behind the last one
pub nothing_behind : (bytes : List ℕ) (words : List (List ℕ)) (rest : List ℕ) (links : List LinkForm) → BeginsWithLine bytes words rest → words ≡ codes "end" ∷ [] → AreLinksAndEnd bytes links → rest ≡ []
nothing_behind bytes words rest [] begins e h = (line_same bytes words last_words rest [] begins (ended bytes h)).1
nothing_behind bytes words rest (link ∷ links) begins e h =
    let b = begun bytes link links h in
    absurd (no_link b.words link ((line_same bytes b.words words b.rest rest b.begins begins).0 ∙ e) b.here)

-- some line stands there
pub some_line : (bytes : List ℕ) (links : List LinkForm) → AreLinksAndEnd bytes links → ((words : List (List ℕ)) (rest : List ℕ) → BeginsWithLine bytes words rest → ⊥) → ⊥
some_line bytes [] h none = none last_words [] (ended bytes h)
some_line bytes (link ∷ links) h none = let b = begun bytes link links h in none b.words b.rest b.begins

pub links_one : (bytes : List ℕ) (a b : List LinkForm) → AreLinksAndEnd bytes a → AreLinksAndEnd bytes b → a ≡ b
links_one bytes [] [] h k = refl
links_one bytes [] (link ∷ b) h k =
    let q = begun bytes link b k in
    absurd (no_link q.words link (line_same bytes q.words last_words q.rest [] q.begins (ended bytes h)).0 q.here)
links_one bytes (link ∷ a) [] h k =
    let p = begun bytes link a h in
    absurd (no_link p.words link (line_same bytes p.words last_words p.rest [] p.begins (ended bytes k)).0 p.here)
links_one bytes (link ∷ a) (other ∷ b) h k =
    let p = begun bytes link a h in
    let q = begun bytes other b k in
    let same = line_same bytes p.words q.words p.rest q.rest p.begins q.begins in
    let here : link ≡ other = link_one q.words link other (subst (λ (ws : List (List ℕ)). IsLink ws link) same.0 p.here) q.here in
    let more : a ≡ b = links_one q.rest a b (subst (λ (t : List ℕ). AreLinksAndEnd t a) same.1 p.more) q.more in
    ap₂ (λ (l : LinkForm) (ls : List LinkForm). l ∷ ls) here more

-- ---- a loop over the lines

-- what was read so far, and what is left
pub record IsReadTo (bytes rest : List ℕ) (links : List LinkForm) : Type 0 where
  pub forth : (more : List LinkForm) → AreLinksAndEnd rest more → AreLinksAndEnd bytes (links ++ more)
  pub back : (all : List LinkForm) → AreLinksAndEnd bytes all → (more : List LinkForm) × AreLinksAndEnd rest more

pub nothing_read : (bytes : List ℕ) → IsReadTo bytes bytes []
nothing_read bytes = record { forth = λ more h. h; back = λ all h. (all, h) }

pub one_more : (bytes rest : List ℕ) (links : List LinkForm) (words : List (List ℕ)) (others : List ℕ) (link : LinkForm) → IsReadTo bytes rest links → BeginsWithLine rest words others → (words ≡ codes "end" ∷ [] → ⊥) → IsLink words link
    → IsReadTo bytes others (links ++ link ∷ [])
one_more bytes rest links words others link read begins other here = record {
  forth = λ more h. subst (AreLinksAndEnd bytes) (sym (append_assoc links (link ∷ []) more)) (read.forth (link ∷ more) (link_before rest words others link more begins here h));
  back = λ all h.
      let left = read.back all h in
      let p = unlinked rest words others left.0 begins other left.1 in
      (p.1, p.3);
}

pub all_read : (bytes rest : List ℕ) (links : List LinkForm) (words : List (List ℕ)) (others : List ℕ) → IsReadTo bytes rest links → BeginsWithLine rest words others → words ≡ codes "end" ∷ [] → others ≡ [] → AreLinksAndEnd bytes links
all_read bytes rest links words others read begins e none =
    let last : rest ≡ line last_words = begins.whole ∙ (ap₂ (λ (ws : List (List ℕ)) (t : List ℕ). line ws ++ t) e none ∙ append-nil (line last_words)) in
    subst (AreLinksAndEnd bytes) (append-nil links) (read.forth [] (record { lines = []; links_are = tt; whole = last }))

-- ---- where no link can be read

pub no_line_of_link : (bytes rest : List ℕ) (links : List LinkForm) → IsReadTo bytes rest links → (e : PairFormFault) → NoLine rest e → Refuses (AreLinksAndEnd bytes) e
no_line_of_link bytes rest links read fault.Form none = λ all h. let left = read.back all h in some_line rest left.0 left.1 (λ words back b. none (words, back) b)
no_line_of_link bytes rest links read fault.NoMemory none = tt

pub no_link_here : (bytes rest : List ℕ) (links : List LinkForm) (words : List (List ℕ)) (others : List ℕ) → IsReadTo bytes rest links → BeginsWithLine rest words others → (words ≡ codes "end" ∷ [] → ⊥)
    → (e : PairFormFault) → Refuses (IsLink words) e → Refuses (AreLinksAndEnd bytes) e
no_link_here bytes rest links words others read begins other fault.Form none = λ all h.
    let left = read.back all h in
    let p = unlinked rest words others left.0 begins other left.1 in
    none p.0 p.2
no_link_here bytes rest links words others read begins other fault.NoMemory none = tt

pub more_behind : (bytes rest : List ℕ) (links : List LinkForm) (words : List (List ℕ)) (others : List ℕ) → IsReadTo bytes rest links → BeginsWithLine rest words others → words ≡ codes "end" ∷ [] → (others ≡ [] → ⊥) → (all : List LinkForm) → AreLinksAndEnd bytes all → ⊥
more_behind bytes rest links words others read begins e some all h = let left = read.back all h in some (nothing_behind rest words others left.0 begins e left.1)

-- ---- bytes that are none

pub none_left : (xs : List ℕ) → (length xs == 0) ≡ true → xs ≡ []
none_left [] e = refl
none_left (x ∷ xs) e = let none : length (x ∷ xs) ≡ 0 = eqb-true (length (x ∷ xs)) 0 e in absurd (omega arith)

pub some_left : (xs : List ℕ) → (length xs == 0) ≡ false → xs ≡ [] → ⊥
some_left xs e k = eqb-false (length xs) 0 e (ap length k)
