use Rattle.std.proofs.Common.{◌≡◌, ℕ, Bor, List, length, sym, ap, ap₂, ◌∙◌, subst}
use Rattle.std.specs.Prelude.{map, nat_le, ◌&&◌}
use Rattle.std.specs.List.{list_all}
use Rattle.std.proofs.lemmas.List.{length-map}
use Rattle.std.proofs.lemmas.List.Folds.{list_all-map}
use Rattle.pair_form.specs.Lines.{BeginsWithLine}
use Rattle.pair_form.specs.Words.{is_some}
use Rattle.pair_form.proofs.Pieces.{are_few_words, line_read, no_words}
use Rattle.pair_form.proofs.words.line_of.Goals as goal

-- the test of slices is that of their bytes
tested : (ws : List (Bor (List ℕ))) → are_few_words (map (λ w. w.now) ws) ≡ (nat_le (length ws) 8 && list_all (λ w. is_some w.now) ws)
tested ws = ap₂ (λ n b. nat_le n 8 && b) (length-map ws (λ w. w.now)) (list_all-map is_some (λ w. w.now) ws)

pub returns-then-not-are_words : goal.returns-then-not-are_words
returns-then-not-are_words c =
    let told = ap are_few_words (sym c.in_ok-words.ensures) ∙ (tested c.in_ok-words.words.items ∙ (ap (λ (ws : List (Bor (List ℕ))). nat_le (length ws) 8 && list_all (λ w. is_some w.now) ws) (sym c.as_slice.ensures.value) ∙ sym c.are_words.ensures)) in
    no_words c.args.bytes.now c.in-Some.line.now c.in-Some.rest.now c.in-Some.ensures (told ∙ c.if-not-are_words.true)

pub returns : goal.returns
returns c =
    let told = ap are_few_words (sym c.in_ok-words.ensures) ∙ (tested c.in_ok-words.words.items ∙ (ap (λ (ws : List (Bor (List ℕ))). nat_le (length ws) 8 && list_all (λ w. is_some w.now) ws) (sym c.as_slice.ensures.value) ∙ sym c.are_words.ensures)) in
    subst (λ (words : List (List ℕ)). BeginsWithLine c.args.bytes.now words c.in-Some.rest.now) (sym c.in_ok-words.ensures)
    (line_read c.args.bytes.now c.in-Some.line.now c.in-Some.rest.now c.in-Some.ensures (told ∙ c.if-not-are_words.false))
