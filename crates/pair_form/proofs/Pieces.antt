-- The pieces between spaces, and the words of a line.
use Rattle.std.proofs.Common.{◌≡◌, ℕ, ◌<◌, ◌≤◌, ◌==◌, Bool, true, false, List, [], ◌∷◌, ◌++◌, length, take, refl, sym, ap, ◌∙◌, subst, arith, append_assoc}
use Rattle.std.specs.List.{AllByRecursion, join_with_byte, list_all, onto_first, slice_split}
use Rattle.std.specs.Prelude.{cond, nat_le, ◌&&◌}
use Rattle.std.proofs.lemmas.Bool.{and_parts, eqb-false, false≢true}
use Rattle.std.proofs.lemmas.Bool.Decides.{nat_tests}
use Rattle.std.proofs.lemmas.List.{length-take, take_all}
use Rattle.std.proofs.lemmas.List.Splits.{join_with_byte-slice_split, length-slice_split, slice_split_at, slice_split_none}
use Rattle.pair_form.specs.Lines.{BeginsWithLine, IsCut, line}
use Rattle.pair_form.specs.Words.{IsWord, Lacks, is_some}
use Rattle.pair_form.proofs.Cuts.{cut_same, lacks_all, lacks_append, lacks_cons, lacks_parts, not_lacking}

-- ---- what pieces lack

onto_lacks : (c x : ℕ) (b : Bool) (parts : List (List ℕ)) → (b ≡ false → x ≡ c → ⊥) → AllByRecursion (Lacks c) parts → AllByRecursion (Lacks c) (cond b ([] ∷ parts) (onto_first x parts))
onto_lacks c x true parts other h = (refl, h)
onto_lacks c x false [] other h = (lacks_cons c x [] (other refl) refl, tt)
onto_lacks c x false (part ∷ parts) other h = (lacks_cons c x part (other refl) h.0, h.1)

-- no piece has a byte at which the text is cut
pieces_lack_cut : (c : ℕ) (bs : List ℕ) → AllByRecursion (Lacks c) (slice_split (λ b. b == c) bs)
pieces_lack_cut c [] = (refl, tt)
pieces_lack_cut c (b ∷ bs) = onto_lacks c b (b == c) (slice_split (λ x. x == c) bs) (eqb-false b c) (pieces_lack_cut c bs)

-- nor one that the text lacks
pieces_lack : (c at : ℕ) (bs : List ℕ) → Lacks c bs → AllByRecursion (Lacks c) (slice_split (λ b. b == at) bs)
pieces_lack c at [] h = (refl, tt)
pieces_lack c at (b ∷ bs) h = let p = lacks_parts c b bs h in onto_lacks c b (b == at) (slice_split (λ x. x == at) bs) (λ _. p.0) (pieces_lack c at bs p.1)

-- ---- words

are_words : (ps : List (List ℕ)) → AllByRecursion (Lacks 32) ps → AllByRecursion (Lacks 10) ps → list_all is_some ps ≡ true → AllByRecursion IsWord ps
are_words [] h k e = tt
are_words (p ∷ ps) h k e = let s = and_parts (is_some p) _ e in (record { some = s.0; no_space = h.0; no_end = k.0 }, are_words ps h.1 k.1 s.1)

all_some : (ps : List (List ℕ)) → AllByRecursion IsWord ps → list_all is_some ps ≡ true
all_some [] h = refl
all_some (p ∷ ps) h = rw h.0.some (all_some ps h.1)

-- words are the pieces of their line
split_join : (ws : List (List ℕ)) → 0 < length ws → AllByRecursion IsWord ws → slice_split (λ b. b == 32) (join_with_byte 32 ws) ≡ ws
split_join [] some h = absurd (omega arith)
split_join (w ∷ []) some h = slice_split_none (λ b. b == 32) w (lacks_all 32 w h.0.no_space)
split_join (w ∷ v ∷ ws) some h = slice_split_at (λ b. b == 32) w 32 (join_with_byte 32 (v ∷ ws)) (lacks_all 32 w h.0.no_space) refl ∙ ap (λ (vs : List (List ℕ)). w ∷ vs) (split_join (v ∷ ws) (omega arith) h.1)

join_lacks : (ws : List (List ℕ)) → AllByRecursion IsWord ws → Lacks 10 (join_with_byte 32 ws)
join_lacks [] h = refl
join_lacks (w ∷ []) h = h.0.no_end
join_lacks (w ∷ v ∷ ws) h = lacks_append 10 w (32 ∷ join_with_byte 32 (v ∷ ws)) h.0.no_end (lacks_cons 10 32 (join_with_byte 32 (v ∷ ws)) (λ e. absurd (omega arith)) (join_lacks (v ∷ ws) h.1))

-- ---- lines

line_whole : (ws : List (List ℕ)) (rest : List ℕ) → line ws ++ rest ≡ join_with_byte 32 ws ++ 10 ∷ rest
line_whole ws rest = append_assoc (join_with_byte 32 ws) (10 ∷ []) rest

-- the bytes before the first byte 10 are the words
line_cut : (bytes front back : List ℕ) (ws : List (List ℕ)) (rest : List ℕ) → IsCut 10 bytes front back → BeginsWithLine bytes ws rest → (join_with_byte 32 ws ≡ front) × (rest ≡ back)
line_cut bytes front back ws rest p h = cut_same 10 (join_with_byte 32 ws) front rest back (join_lacks ws h.words_are) p.first (sym (line_whole ws rest) ∙ (sym h.whole ∙ p.whole))

pub no_line : (bytes : List ℕ) → Lacks 10 bytes → (q : List (List ℕ) × List ℕ) → BeginsWithLine bytes q.0 q.1 → ⊥
no_line bytes none q h = not_lacking 10 (join_with_byte 32 q.0) q.1 (subst (λ (t : List ℕ). Lacks 10 t) (h.whole ∙ line_whole q.0 q.1) none)

-- ---- one to eight words

abbrev pub are_few_words : List (List ℕ) → Bool
are_few_words ps = nat_le (length ps) 8 && list_all is_some ps

abbrev pub pieces_of : List ℕ → List (List ℕ)
pieces_of text = slice_split (λ b. b == 32) text

few_first : (ps : List (List ℕ)) → are_few_words (take 9 ps) ≡ true → take 9 ps ≡ ps
few_first ps e =
    let p = and_parts (nat_le (length (take 9 ps)) 8) _ e in
    let few : length (take 9 ps) ≤ 8 = grind (arith, nat_tests, p.0) in
    take_all 9 ps (omega (arith, length-take 9 ps))

-- too many pieces, or one without a byte, are no words
pub no_words : (bytes front back : List ℕ) → IsCut 10 bytes front back → are_few_words (take 9 (pieces_of front)) ≡ false → (q : List (List ℕ) × List ℕ) → BeginsWithLine bytes q.0 q.1 → ⊥
no_words bytes front back p e q h =
    let ws = q.0 in
    let same : ws ≡ pieces_of front = sym (split_join ws h.some h.words_are) ∙ ap pieces_of (line_cut bytes front back ws q.1 p h).0 in
    let whole : take 9 ws ≡ ws = take_all 9 ws (omega (arith, h.few)) in
    let few : nat_le (length ws) 8 ≡ true = grind (arith, nat_tests, h.few) in
    let words : are_few_words ws ≡ true = rw few (all_some ws h.words_are) in
    false≢true (sym e ∙ (ap (λ (ps : List (List ℕ)). are_few_words (take 9 ps)) (sym same) ∙ (ap are_few_words whole ∙ words)))

pub line_read : (bytes front back : List ℕ) → IsCut 10 bytes front back → are_few_words (take 9 (pieces_of front)) ≡ true → BeginsWithLine bytes (take 9 (pieces_of front)) back
line_read bytes front back p e =
    let whole = few_first (pieces_of front) e in
    let words : are_few_words (pieces_of front) ≡ true = ap are_few_words (sym whole) ∙ e in
    let q = and_parts (nat_le (length (pieces_of front)) 8) _ words in
    subst (λ (ws : List (List ℕ)). BeginsWithLine bytes ws back) (sym whole) (record {
      some = omega (arith, length-slice_split (λ b. b == 32) front);
      few = grind (arith, nat_tests, q.0);
      words_are = are_words (pieces_of front) (pieces_lack_cut 32 front) (pieces_lack 10 32 front p.first) q.1;
      whole = p.whole ∙ (ap (λ (t : List ℕ). t ++ 10 ∷ back) (sym (join_with_byte-slice_split 32 front)) ∙ sym (line_whole (pieces_of front) back));
    })

-- bytes begin with one line
pub line_same : (bytes : List ℕ) (ws vs : List (List ℕ)) (rest back : List ℕ) → BeginsWithLine bytes ws rest → BeginsWithLine bytes vs back → (ws ≡ vs) × (rest ≡ back)
line_same bytes ws vs rest back h k =
    let cut : IsCut 10 bytes (join_with_byte 32 vs) back = record { whole = k.whole ∙ line_whole vs back; first = join_lacks vs k.words_are } in
    let p = line_cut bytes (join_with_byte 32 vs) back ws rest cut h in
    (sym (split_join ws h.some h.words_are) ∙ (ap (slice_split (λ b. b == 32)) p.0 ∙ split_join vs k.some k.words_are), p.1)
