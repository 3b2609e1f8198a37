-- What the acceptor's brackets say of the tokens.
use Rattle.std.proofs.Common.{◌≡◌, ℕ, ◌-◌, Bool, true, false, List, [], ◌∷◌, ◌++◌, length, Option, Some, None, refl, sym, ap, ◌∙◌, subst, arith}
use Rattle.std.specs.Prelude.{max, option_and_then}
use Rattle.expr_text.specs.declared.token.Token.{Token}
use Rattle.expr_text.specs.declared.token.Token.TheVariants as token
use Rattle.expr_text.specs.declared.acceptor.Bracket.{Bracket}
use Rattle.expr_text.specs.declared.acceptor.Bracket.TheVariants as bracket
use Rattle.expr_text.specs.declared.acceptor.Wanted.{Wanted}
use Rattle.expr_text.specs.declared.acceptor.Wanted.TheVariants as wanted
use Rattle.expr_text.specs.Acceptor.{State, state, step, run}
use Rattle.expr_text.specs.Reading.{most_open, open_behind}

-- so many brackets are open in the next state
abbrev Opens : Option State → ℕ → Type 0
Opens None n = Unit {0}
Opens (Some s) n = length s.open_brackets ≡ n

opens_operand : (t : Token) (bs : List Bracket) (right : Bool) → Opens (step (state wanted.Operand bs right) t) (open_behind (length bs) t)
unfolding step
opens_operand (token.Number n) bs right = refl
opens_operand (token.Name name) bs right = refl
opens_operand token.Sqr bs right = refl
opens_operand token.Abs bs right = refl
opens_operand token.Min bs right = refl
opens_operand token.Max bs right = refl
opens_operand token.Plus bs right = tt
opens_operand token.Minus bs right = refl
opens_operand token.Times bs right = tt
opens_operand token.Open bs right = omega arith
opens_operand token.Close bs right = tt
opens_operand token.Comma bs right = tt
opens_operand (token.Compare op) bs right = tt

opens_opening : (b : Bracket) (t : Token) (bs : List Bracket) (right : Bool) → Opens (step (state (wanted.Opening b) bs right) t) (open_behind (length bs) t)
unfolding step
opens_opening b (token.Number n) bs right = tt
opens_opening b (token.Name name) bs right = tt
opens_opening b token.Sqr bs right = tt
opens_opening b token.Abs bs right = tt
opens_opening b token.Min bs right = tt
opens_opening b token.Max bs right = tt
opens_opening b token.Plus bs right = tt
opens_opening b token.Minus bs right = tt
opens_opening b token.Times bs right = tt
opens_opening b token.Open bs right = omega arith
opens_opening b token.Close bs right = tt
opens_opening b token.Comma bs right = tt
opens_opening b (token.Compare op) bs right = tt

opens_close : (bs : List Bracket) (right : Bool) → Opens (step (state wanted.Operator bs right) token.Close) (length bs - 1)
unfolding step
opens_close [] right = tt
opens_close (bracket.First ∷ bs) right = tt
opens_close (bracket.Last ∷ bs) right = omega arith

opens_comma : (bs : List Bracket) (right : Bool) → Opens (step (state wanted.Operator bs right) token.Comma) (length bs)
unfolding step
opens_comma [] right = tt
opens_comma (bracket.First ∷ bs) right = refl
opens_comma (bracket.Last ∷ bs) right = tt

opens_operator : (t : Token) (bs : List Bracket) (right : Bool) → Opens (step (state wanted.Operator bs right) t) (open_behind (length bs) t)
unfolding step
opens_operator (token.Number n) bs right = tt
opens_operator (token.Name name) bs right = tt
opens_operator token.Sqr bs right = tt
opens_operator token.Abs bs right = tt
opens_operator token.Min bs right = tt
opens_operator token.Max bs right = tt
opens_operator token.Plus bs right = refl
opens_operator token.Minus bs right = refl
opens_operator token.Times bs right = refl
opens_operator token.Open bs right = tt
opens_operator token.Close bs right = opens_close bs right
opens_operator token.Comma bs right = opens_comma bs right
opens_operator (token.Compare op) [] false = refl
opens_operator (token.Compare op) [] true = tt
opens_operator (token.Compare op) (b ∷ bs) right = tt

opens : (wants : Wanted) (t : Token) (bs : List Bracket) (right : Bool) → Opens (step (state wants bs right) t) (open_behind (length bs) t)
opens wanted.Operand t bs right = opens_operand t bs right
opens (wanted.Opening b) t bs right = opens_opening b t bs right
opens wanted.Operator t bs right = opens_operator t bs right

-- so many brackets are open behind a token
pub open_next : (s n : State) (t : Token) → step s t ≡ Some n → open_behind (length s.open_brackets) t ≡ length n.open_brackets
open_next s n t h = sym (let P : Option State → Type 0 = λ r. Opens r (open_behind (length s.open_brackets) t) in subst P h (opens s.wants t s.open_brackets s.is_right))

-- the greatest number that are open, with one token more
pub most_open_more : (s m n : State) (ts : List Token) (t : Token) → run s ts ≡ Some m → step m t ≡ Some n → most_open (length s.open_brackets) (ts ++ t ∷ []) ≡ max (most_open (length s.open_brackets) ts) (length n.open_brackets)
most_open_more s m n [] t h k = ap (max (length s.open_brackets)) (open_next s n t (ap (λ e. step e t) (some_same s m h) ∙ k))
  where
    some_same : (a b : State) → Some a ≡ Some b → a ≡ b
    some_same a b e = cc
most_open_more s m n (x ∷ xs) t h k = after (λ a e. most_open_more a m n xs t e k) (step s x) refl h
  where
    over : (a b c d : ℕ) → b ≡ max c d → max a b ≡ max (max a c) d
    over a b c d e = omega arith

    after : ((a : State) → run a xs ≡ Some m → most_open (length a.open_brackets) (xs ++ t ∷ []) ≡ max (most_open (length a.open_brackets) xs) (length n.open_brackets)) → (r : Option State) → step s x ≡ r → option_and_then (λ a. run a xs) r ≡ Some m → most_open (length s.open_brackets) ((x ∷ xs) ++ t ∷ []) ≡ max (most_open (length s.open_brackets) (x ∷ xs)) (length n.open_brackets)
    after ih None e h = cc
    after ih (Some a) e h =
        let P : ℕ → Type 0 = λ k. most_open k (xs ++ t ∷ []) ≡ max (most_open k xs) (length n.open_brackets) in
        over (length s.open_brackets) _ _ _ (subst P (sym (open_next s a x e)) (ih a h))
