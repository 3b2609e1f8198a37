-- The parts of a source, one after the other.
use Rattle.std.proofs.Common.{◌≡◌, ℕ, ℤ, pos, List, [], ◌∷◌, ◌++◌, length, refl, sym, ap, ap₂, ◌∙◌, subst, arith}
use Rattle.std.specs.Prelude.{codes, flat_map}
use Rattle.pair_form.specs.Forms.{HasNumbers, IsPairText, LinkForm, SourceForm}
use Rattle.pair_form.specs.Laws.{FormsAreOne}
use Rattle.pair_form.specs.Lines.{BeginsWithLog, line}
use Rattle.pair_form.specs.Parts.{AreLinksAndEnd, BeginsWithNumbers}
use Rattle.pair_form.specs.Reads.{Refuses}
use Rattle.pair_form.specs.Words.{IsWord}
use Rattle.pair_form.specs.declared.form.PairFormFault.{PairFormFault}
use Rattle.pair_form.specs.declared.form.PairFormFault.TheVariants as fault
use Rattle.pair_form.proofs.Links.{NoNumbers, links_one}
use Rattle.pair_form.proofs.Pieces.{line_same}
use Rattle.pair_form.proofs.Spelled.{numbers_begin, numbers_one}

-- ---- a part and what follows it

word_pair : IsWord (codes "pair")
word_pair = record { some = refl; no_space = refl; no_end = refl }

word_offset : IsWord (codes "offset")
word_offset = record { some = refl; no_space = refl; no_end = refl }

numbers_same : (kind bytes : List ℕ) (a b : ℤ × ℤ) (rest back : List ℕ) → IsWord kind → BeginsWithNumbers kind bytes a rest → BeginsWithNumbers kind bytes b back → (a ≡ b) × (rest ≡ back)
numbers_same kind bytes a b rest back k h q =
    let same = line_same bytes h.words q.words rest back (numbers_begin kind bytes h.words a rest k h.numbers_are h.whole) (numbers_begin kind bytes q.words b back k q.numbers_are q.whole) in
    (numbers_one kind q.words a b (subst (λ (ws : List (List ℕ)). HasNumbers kind ws a) same.0 h.numbers_are) q.numbers_are, same.1)

front_same : (a b x y : List ℕ) → length a ≡ length b → a ++ x ≡ b ++ y → (a ≡ b) × (x ≡ y)
front_same [] [] x y n e = (refl, e)
front_same [] (d ∷ b) x y n e = absurd (omega arith)
front_same (c ∷ a) [] x y n e = absurd (omega arith)
front_same (c ∷ a) (d ∷ b) x y n e =
    let tails : a ++ x ≡ b ++ y = cc in
    let heads : c ≡ d = cc in
    let p = front_same a b x y (omega arith) tails in
    let fronts : a ≡ b = p.0 in
    (cc, p.1)

log_same : (bytes : List ℕ) (n : ℤ) (a b rest back : List ℕ) → BeginsWithLog bytes n a rest → BeginsWithLog bytes n b back → (a ≡ b) × (rest ≡ back)
log_same bytes n a b rest back h k =
    let counted : pos (length a) ≡ pos (length b) = h.counted ∙ sym k.counted in
    let lengths : length a ≡ length b = cc in
    let p = front_same a b (10 ∷ rest) (10 ∷ back) lengths (sym h.whole ∙ k.whole) in
    let tails : 10 ∷ rest ≡ 10 ∷ back = p.1 in
    let rests : rest ≡ back = cc in
    (p.0, rests)

-- ---- all parts

pub record Parts (bytes : List ℕ) (form : SourceForm) : Type 0 where
  pub from_first : List ℕ
  pub from_second : List ℕ
  pub from_offset : List ℕ
  pub from_links : List ℕ
  pub lengths : BeginsWithNumbers (codes "pair") bytes (pos (length form.first), pos (length form.second)) from_first
  pub first_log : BeginsWithLog from_first (pos (length form.first)) form.first from_second
  pub second_log : BeginsWithLog from_second (pos (length form.second)) form.second from_offset
  pub offset_is : BeginsWithNumbers (codes "offset") from_offset form.offset from_links
  pub links_are : AreLinksAndEnd from_links form.links

pub parts_of : (bytes : List ℕ) (form : SourceForm) → IsPairText bytes form → Parts bytes form
parts_of bytes form h =
    let from_links = flat_map line h.links ++ line (codes "end" ∷ []) in
    let from_offset = line h.offset ++ from_links in
    let from_second = form.second ++ 10 ∷ from_offset in
    let from_first = form.first ++ 10 ∷ from_second in
    record {
      from_first = from_first;
      from_second = from_second;
      from_offset = from_offset;
      from_links = from_links;
      lengths = record { words = h.lengths; numbers_are = h.lengths_are; whole = h.whole };
      first_log = record { counted = refl; whole = refl };
      second_log = record { counted = refl; whole = refl };
      offset_is = record { words = h.offset; numbers_are = h.offset_is; whole = refl };
      links_are = record { lines = h.links; links_are = h.links_are; whole = refl };
    }

same_form : (a b : SourceForm) → a.first ≡ b.first → a.second ≡ b.second → a.offset ≡ b.offset → a.links ≡ b.links → a ≡ b
same_form a b first second offset links =
    ap₂ (λ (f s : List ℕ). let form : SourceForm = record { first = f; second = s; offset = a.offset; links = a.links } in form) first second
    ∙ ap₂ (λ (o : ℤ × ℤ) (ls : List LinkForm). let form : SourceForm = record { first = b.first; second = b.second; offset = o; links = ls } in form) offset links

-- where something was said, only memory was wanting
refused : {W : Type 0} (IsSaid : W → Type 0) (e : PairFormFault) → Refuses IsSaid e → (w : W) → IsSaid w → e ≡ fault.NoMemory
refused IsSaid fault.Form none w h = absurd (none w h)
refused IsSaid fault.NoMemory none w h = refl

pub no_lengths : (bytes : List ℕ) (form : SourceForm) → IsPairText bytes form → (e : PairFormFault) → NoNumbers (codes "pair") bytes e → e ≡ fault.NoMemory
no_lengths bytes form h e none = let p = parts_of bytes form h in refused (λ (q : (ℤ × ℤ) × List ℕ). BeginsWithNumbers (codes "pair") bytes q.0 q.1) e none ((pos (length form.first), pos (length form.second)), p.from_first) p.lengths

abbrev pub NoLog : List ℕ → ℤ → PairFormFault → Type 0
NoLog bytes n e = Refuses (λ (q : List ℕ × List ℕ). BeginsWithLog bytes n q.0 q.1) e

-- ---- what was read first is what any form begins with

module _ (bytes : List ℕ) (n : ℤ × ℤ) (r : List ℕ) (form : SourceForm) (h : IsPairText bytes form) (p : BeginsWithNumbers (codes "pair") bytes n r) where
  lengths_same : ((pos (length form.first), pos (length form.second)) ≡ n) × ((parts_of bytes form h).from_first ≡ r)
  lengths_same = numbers_same (codes "pair") bytes _ n _ r word_pair (parts_of bytes form h).lengths p

  pub first_here : BeginsWithLog r n.0 form.first (parts_of bytes form h).from_second
  first_here = record { counted = ap (λ (z : ℤ × ℤ). z.0) lengths_same.0; whole = sym lengths_same.1 ∙ (parts_of bytes form h).first_log.whole }

  pub no_first : (e : PairFormFault) → NoLog r n.0 e → e ≡ fault.NoMemory
  no_first e none = refused (λ (q : List ℕ × List ℕ). BeginsWithLog r n.0 q.0 q.1) e none (form.first, (parts_of bytes form h).from_second) first_here

  module _ (first s : List ℕ) (q : BeginsWithLog r n.0 first s) where
    firsts_same : (form.first ≡ first) × ((parts_of bytes form h).from_second ≡ s)
    firsts_same = log_same r n.0 form.first first _ s first_here q

    pub second_here : BeginsWithLog s n.1 form.second (parts_of bytes form h).from_offset
    second_here = record { counted = ap (λ (z : ℤ × ℤ). z.1) lengths_same.0; whole = sym firsts_same.1 ∙ (parts_of bytes form h).second_log.whole }

    pub no_second : (e : PairFormFault) → NoLog s n.1 e → e ≡ fault.NoMemory
    no_second e none = refused (λ (q : List ℕ × List ℕ). BeginsWithLog s n.1 q.0 q.1) e none (form.second, (parts_of bytes form h).from_offset) second_here

    module _ (second t : List ℕ) (u : BeginsWithLog s n.1 second t) where
      seconds_same : (form.second ≡ second) × ((parts_of bytes form h).from_offset ≡ t)
      seconds_same = log_same s n.1 form.second second _ t second_here u

      pub offset_here : BeginsWithNumbers (codes "offset") t form.offset (parts_of bytes form h).from_links
      offset_here = subst (λ (b : List ℕ). BeginsWithNumbers (codes "offset") b form.offset (parts_of bytes form h).from_links) seconds_same.1 (parts_of bytes form h).offset_is

      pub no_offset : (e : PairFormFault) → NoNumbers (codes "offset") t e → e ≡ fault.NoMemory
      no_offset e none = refused (λ (q : (ℤ × ℤ) × List ℕ). BeginsWithNumbers (codes "offset") t q.0 q.1) e none (form.offset, (parts_of bytes form h).from_links) offset_here

      module _ (offset : ℤ × ℤ) (v : List ℕ) (w : BeginsWithNumbers (codes "offset") t offset v) where
        offsets_same : (form.offset ≡ offset) × ((parts_of bytes form h).from_links ≡ v)
        offsets_same = numbers_same (codes "offset") t form.offset offset _ v word_offset offset_here w

        pub links_here : AreLinksAndEnd v form.links
        links_here = subst (λ (b : List ℕ). AreLinksAndEnd b form.links) offsets_same.1 (parts_of bytes form h).links_are

        pub no_links : (e : PairFormFault) → Refuses (AreLinksAndEnd v) e → e ≡ fault.NoMemory
        no_links e none = refused (AreLinksAndEnd v) e none form.links links_here

        pub form_same : (links : List LinkForm) → AreLinksAndEnd v links → record { first = first; second = second; offset = offset; links = links } ≡ form
        form_same links x = same_form (record { first = first; second = second; offset = offset; links = links }) form (sym firsts_same.0) (sym seconds_same.0) (sym offsets_same.0) (links_one v links form.links x links_here)

pub forms_are_one : FormsAreOne
forms_are_one bytes a b h k =
    let p = parts_of bytes a h in
    form_same bytes (pos (length a.first), pos (length a.second)) p.from_first b k p.lengths a.first p.from_second p.first_log a.second p.from_offset p.second_log a.offset p.from_links p.offset_is a.links p.links_are
