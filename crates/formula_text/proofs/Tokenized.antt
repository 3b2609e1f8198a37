-- The tokens of a text are those that it begins with, and that nothing is behind.
use Rattle.std.proofs.Common.{◌≡◌, ℕ, zero, suc, ◌<◌, List, [], ◌∷◌, length, drop, Option, Some, None, refl, sym, ap, ◌∙◌, subst, arith, length-drop}
use Rattle.std.specs.Prelude.{option_and_then, option_map}
use Rattle.expr_text.specs.declared.token.Token.{Token}
use Rattle.expr_text.specs.Spelling.{token_at, without_spaces}
use Rattle.expr_text.specs.Reading.{Begins}
use Rattle.expr_text.proofs.Sizes.{token_size}
use Rattle.expr_text.proofs.Texts.{without-le}
use Rattle.formula_text.specs.Tokens.{front_then, tokens_within}

same_tokens : (ts us : List Token) → Some ts ≡ Some us → ts ≡ us
same_tokens ts us e = cc

-- what is taken in so many turns stands there
abbrev Stand : ℕ → Type 0
Stand n = (v : List ℕ) (us : List Token) → tokens_within n v ≡ Some us → Begins v us []

-- the text begins with the tokens that were taken
pub begins_with : (n : ℕ) (text : List ℕ) (ts : List Token) → tokens_within n text ≡ Some ts → Begins text ts []
begins_with zero text ts e = cc
begins_with (suc n) text ts e = front (λ v us g. begins_with n v us g) (without_spaces text) refl e
  where
    more : Stand n → (w : List ℕ) (x : Token × ℕ) → without_spaces text ≡ w → token_at w ≡ Some x → (o : Option (List Token)) → tokens_within n (drop x.1 w) ≡ o → option_map (λ (us : List Token). x.0 ∷ us) o ≡ Some ts → Begins text ts []
    more stand w x e h None g k = cc
    more stand w x e h (Some us) g k =
        let P : List Token → Type 0 = λ vs. Begins text vs [] in
        let Q : List ℕ → Type 0 = λ v. Begins (drop x.1 v) us [] in
        subst P (same_tokens (x.0 ∷ us) ts k) (x.1, ap token_at e ∙ h, subst Q (sym e) (stand (drop x.1 w) us g))

    found : Stand n → (w : List ℕ) → without_spaces text ≡ w → (o : Option (Token × ℕ)) → token_at w ≡ o → option_and_then (λ (f : Token × ℕ). option_map (λ (us : List Token). f.0 ∷ us) (tokens_within n (drop f.1 w))) o ≡ Some ts → Begins text ts []
    found stand w e None h k = cc
    found stand w e (Some x) h k = more stand w x e h (tokens_within n (drop x.1 w)) refl k

    front : Stand n → (w : List ℕ) → without_spaces text ≡ w → front_then (tokens_within n) w ≡ Some ts → Begins text ts []
    front stand [] e k = let P : List Token → Type 0 = λ vs. Begins text vs [] in subst P (same_tokens [] ts k) e
    front stand (c ∷ cs) e k = found stand (c ∷ cs) e (token_at (c ∷ cs)) refl k

-- and what it begins with is taken, in as many turns
pub taken_of : (n : ℕ) (text : List ℕ) (ts : List Token) → Begins text ts [] → length text < n → tokens_within n text ≡ Some ts
taken_of zero text ts b h = absurd (omega arith)
taken_of (suc n) text [] b h = ap (front_then (tokens_within n)) b
taken_of (suc n) text (t ∷ ts) b h =
    let sized = token_size (without_spaces text) t b.0 b.1 in
    let some = sized.0 in
    let most = sized.1 in
    let smaller : length (drop b.0 (without_spaces text)) < n = omega (arith, some, most, without-le text, length-drop b.0 (without_spaces text)) in
    step (without_spaces text) b.1 (taken_of n (drop b.0 (without_spaces text)) ts b.2 smaller)
  where
    step : (w : List ℕ) → token_at w ≡ Some (t, b.0) → tokens_within n (drop b.0 w) ≡ Some ts → front_then (tokens_within n) w ≡ Some (t ∷ ts)
    step [] e k = let sized = token_size [] t b.0 e in let some = sized.0 in let most = sized.1 in absurd (omega (arith, some, most))
    step (c ∷ cs) e k =
        ap (option_and_then (λ (f : Token × ℕ). option_map (λ (us : List Token). f.0 ∷ us) (tokens_within n (drop f.1 (c ∷ cs))))) e
        ∙ ap (option_map (λ (us : List Token). t ∷ us)) k
