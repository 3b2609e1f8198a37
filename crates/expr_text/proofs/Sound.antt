-- What the acceptor takes is in the grammar, and what it has taken some relation begins with.
use Rattle.std.proofs.Common.{◌≡◌, Bool, true, false, List, [], ◌∷◌, ◌++◌, Option, Some, None, refl, sym, ap, ◌∙◌, subst, append_assoc, append-nil, pos}
use Rattle.std.specs.Prelude.{option_and_then}
use Rattle.expr_tree.specs.declared.RelOp.{RelOp}
use Rattle.expr_tree.specs.declared.RelOp.TheVariants as relop
use Rattle.expr_text.specs.declared.token.Token.{Token}
use Rattle.expr_text.specs.declared.token.Token.TheVariants as token
use Rattle.expr_text.specs.declared.acceptor.Bracket.{Bracket}
use Rattle.expr_text.specs.declared.acceptor.Bracket.TheVariants as bracket
use Rattle.expr_text.specs.declared.acceptor.Wanted.{Wanted}
use Rattle.expr_text.specs.declared.acceptor.Wanted.TheVariants as wanted
use Rattle.expr_text.specs.Grammar.{SumPhrase, UnaryPhrase, Negated, Plain, Literal, Symbol, Bracketed, SquareOf, AbsoluteOf, LeastOf, GreatestOf, RelationPhrase, sum_tokens, unary_tokens, relation_tokens}
use Rattle.expr_text.specs.Reading.{CanBegin}
use Rattle.expr_text.specs.Acceptor.{State, state, step, run}
use Rattle.expr_text.proofs.Grown.{lone_sum, lone_sum_tokens, with_plus, with_minus, with_times}

-- tokens that end in a sum, and what holds of those before it
abbrev pub SumIn : (List Token → Type 0) → List Token → Type 0
SumIn P ts = (outer : List Token) × (s : SumPhrase) × (ts ≡ outer ++ sum_tokens s) × P outer

-- what stands before the innermost sum: nothing, or the left side and a comparison; or what becomes a sum
-- of the level above once the bracket is closed
abbrev pub Before : List Bracket → Bool → List Token → Type 0
Before [] false outer = outer ≡ []
Before [] true outer = (left : SumPhrase) × (op : RelOp) × (outer ≡ sum_tokens left ++ token.Compare op ∷ [])
Before (bracket.Last ∷ bs) right outer = (a : SumPhrase) → SumIn (Before bs right) (outer ++ (sum_tokens a ++ token.Close ∷ []))
Before (bracket.First ∷ bs) right outer =
    (a b : SumPhrase) → SumIn (Before bs right) (outer ++ (sum_tokens a ++ token.Comma ∷ (sum_tokens b ++ token.Close ∷ [])))

-- a sum stands at the end
abbrev pub Whole : List Bracket → Bool → List Token → Type 0
Whole bs right ts = SumIn (Before bs right) ts

-- any unary makes a sum of it
abbrev pub Awaits : List Bracket → Bool → List Token → Type 0
Awaits bs right ts = (u : UnaryPhrase) → Whole bs right (ts ++ unary_tokens u)

abbrev pub AwaitsCall : Bracket → List Bracket → Bool → List Token → Type 0
AwaitsCall bracket.Last bs right ts = (a : SumPhrase) → Whole bs right (ts ++ token.Open ∷ (sum_tokens a ++ token.Close ∷ []))
AwaitsCall bracket.First bs right ts =
    (a b : SumPhrase) → Whole bs right (ts ++ token.Open ∷ (sum_tokens a ++ token.Comma ∷ (sum_tokens b ++ token.Close ∷ [])))

-- what each state says of the tokens before it
abbrev pub Stands : Wanted → List Bracket → Bool → List Token → Type 0
Stands wanted.Operand bs right ts = Awaits bs right ts
Stands (wanted.Opening b) bs right ts = AwaitsCall b bs right ts
Stands wanted.Operator bs right ts = Whole bs right ts

abbrev pub Held : Option State → List Token → Type 0
Held None ts = Unit {0}
Held (Some s) ts = Stands s.wants s.open_brackets s.is_right ts

-- the tokens regrouped
moved : (P : List Token → Type 0) (xs ys zs : List Token) → P (xs ++ (ys ++ zs)) → P ((xs ++ ys) ++ zs)
moved P xs ys zs h = subst P (sym (append_assoc xs ys zs)) h

-- a sum by itself
alone : (P : List Token → Type 0) (ts : List Token) (u : UnaryPhrase) → P ts → SumIn P (ts ++ unary_tokens u)
alone P ts u h = (ts, lone_sum u, ap (λ (xs : List Token). ts ++ xs) (sym (lone_sum_tokens u)), h)

-- a sum that grew
grown : (P : List Token → Type 0) (ts : List Token) (t : Token) (u : UnaryPhrase) → ((s : SumPhrase) → (a : SumPhrase) × (sum_tokens a ≡ sum_tokens s ++ t ∷ unary_tokens u)) → SumIn P ts → SumIn P ((ts ++ t ∷ []) ++ unary_tokens u)
grown P ts t u grow w =
    let a = grow w.1 in
    (w.0, a.0, append_assoc ts (t ∷ []) (unary_tokens u) ∙ ap (λ (xs : List Token). xs ++ t ∷ unary_tokens u) w.2 ∙ append_assoc w.0 (sum_tokens w.1) (t ∷ unary_tokens u) ∙ ap (λ (xs : List Token). w.0 ++ xs) (sym a.1), w.3)

-- a bracket that opens
opened : (b : Bracket) (bs : List Bracket) (right : Bool) (ts : List Token) → AwaitsCall b bs right ts → Awaits (b ∷ bs) right (ts ++ token.Open ∷ [])
opened bracket.Last bs right ts h u =
    alone (Before (bracket.Last ∷ bs) right) (ts ++ token.Open ∷ []) u (λ a. moved (Whole bs right) ts (token.Open ∷ []) (sum_tokens a ++ token.Close ∷ []) (h a))
opened bracket.First bs right ts h u =
    alone (Before (bracket.First ∷ bs) right) (ts ++ token.Open ∷ []) u (λ a b. moved (Whole bs right) ts (token.Open ∷ []) (sum_tokens a ++ token.Comma ∷ (sum_tokens b ++ token.Close ∷ [])) (h a b))

at_operand : (t : Token) (bs : List Bracket) (right : Bool) (ts : List Token) → Awaits bs right ts → Held (step (state wanted.Operand bs right) t) (ts ++ t ∷ [])
unfolding step
at_operand (token.Number n) bs right ts h = h (Plain (Literal n))
at_operand (token.Name name) bs right ts h = h (Plain (Symbol name))
at_operand token.Sqr bs right ts h = λ a. moved (Whole bs right) ts (token.Sqr ∷ []) (token.Open ∷ (sum_tokens a ++ token.Close ∷ [])) (h (Plain (SquareOf a)))
at_operand token.Abs bs right ts h = λ a. moved (Whole bs right) ts (token.Abs ∷ []) (token.Open ∷ (sum_tokens a ++ token.Close ∷ [])) (h (Plain (AbsoluteOf a)))
at_operand token.Min bs right ts h = λ a b. moved (Whole bs right) ts (token.Min ∷ []) (token.Open ∷ (sum_tokens a ++ token.Comma ∷ (sum_tokens b ++ token.Close ∷ []))) (h (Plain (LeastOf a b)))
at_operand token.Max bs right ts h = λ a b. moved (Whole bs right) ts (token.Max ∷ []) (token.Open ∷ (sum_tokens a ++ token.Comma ∷ (sum_tokens b ++ token.Close ∷ []))) (h (Plain (GreatestOf a b)))
at_operand token.Plus bs right ts h = tt
at_operand token.Minus bs right ts h = λ u. moved (Whole bs right) ts (token.Minus ∷ []) (unary_tokens u) (h (Negated u))
at_operand token.Times bs right ts h = tt
at_operand token.Open bs right ts h = opened bracket.Last bs right ts (λ a. h (Plain (Bracketed a)))
at_operand token.Close bs right ts h = tt
at_operand token.Comma bs right ts h = tt
at_operand (token.Compare op) bs right ts h = tt

at_opening : (b : Bracket) (t : Token) (bs : List Bracket) (right : Bool) (ts : List Token) → AwaitsCall b bs right ts → Held (step (state (wanted.Opening b) bs right) t) (ts ++ t ∷ [])
unfolding step
at_opening b (token.Number n) bs right ts h = tt
at_opening b (token.Name name) bs right ts h = tt
at_opening b token.Sqr bs right ts h = tt
at_opening b token.Abs bs right ts h = tt
at_opening b token.Min bs right ts h = tt
at_opening b token.Max bs right ts h = tt
at_opening b token.Plus bs right ts h = tt
at_opening b token.Minus bs right ts h = tt
at_opening b token.Times bs right ts h = tt
at_opening b token.Open bs right ts h = opened b bs right ts h
at_opening b token.Close bs right ts h = tt
at_opening b token.Comma bs right ts h = tt
at_opening b (token.Compare op) bs right ts h = tt

-- the tokens of a sum at the end of a text, with one more
ends_with : (outer ts sum : List Token) (t : Token) → ts ≡ outer ++ sum → ts ++ t ∷ [] ≡ outer ++ (sum ++ t ∷ [])
ends_with outer ts sum t e = ap (λ (xs : List Token). xs ++ t ∷ []) e ∙ append_assoc outer sum (t ∷ [])

closed : (bs : List Bracket) (right : Bool) (ts : List Token) → Whole bs right ts → Held (step (state wanted.Operator bs right) token.Close) (ts ++ token.Close ∷ [])
unfolding step
closed [] right ts w = tt
closed (bracket.First ∷ bs) right ts w = tt
closed (bracket.Last ∷ bs) right ts w = subst (Whole bs right) (sym (ends_with w.0 ts (sum_tokens w.1) token.Close w.2)) (w.3 w.1)

parted : (bs : List Bracket) (right : Bool) (ts : List Token) → Whole bs right ts → Held (step (state wanted.Operator bs right) token.Comma) (ts ++ token.Comma ∷ [])
unfolding step
parted [] right ts w = tt
parted (bracket.Last ∷ bs) right ts w = tt
parted (bracket.First ∷ bs) right ts w = λ u.
    alone (Before (bracket.Last ∷ bs) right) (ts ++ token.Comma ∷ []) u (λ b.
    let tail = sum_tokens b ++ token.Close ∷ [] in
    let same : (ts ++ token.Comma ∷ []) ++ tail ≡ w.0 ++ (sum_tokens w.1 ++ token.Comma ∷ tail) =
    append_assoc ts (token.Comma ∷ []) tail ∙ ap (λ (xs : List Token). xs ++ token.Comma ∷ tail) w.2 ∙ append_assoc w.0 (sum_tokens w.1) (token.Comma ∷ tail) in
    subst (Whole bs right) (sym same) (w.3 w.1 b))

compared : (op : RelOp) (bs : List Bracket) (right : Bool) (ts : List Token) → Whole bs right ts → Held (step (state wanted.Operator bs right) (token.Compare op)) (ts ++ token.Compare op ∷ [])
unfolding step
compared op [] false ts w = λ u. alone (Before [] true) (ts ++ token.Compare op ∷ []) u (w.1, op, ap (λ (xs : List Token). xs ++ token.Compare op ∷ []) (w.2 ∙ ap (λ (xs : List Token). xs ++ sum_tokens w.1) w.3))
compared op [] true ts w = tt
compared op (b ∷ bs) right ts w = tt

at_operator : (t : Token) (bs : List Bracket) (right : Bool) (ts : List Token) → Whole bs right ts → Held (step (state wanted.Operator bs right) t) (ts ++ t ∷ [])
unfolding step
at_operator (token.Number n) bs right ts w = tt
at_operator (token.Name name) bs right ts w = tt
at_operator token.Sqr bs right ts w = tt
at_operator token.Abs bs right ts w = tt
at_operator token.Min bs right ts w = tt
at_operator token.Max bs right ts w = tt
at_operator token.Plus bs right ts w = λ u. grown (Before bs right) ts token.Plus u (λ s. with_plus s u) w
at_operator token.Minus bs right ts w = λ u. grown (Before bs right) ts token.Minus u (λ s. with_minus s u) w
at_operator token.Times bs right ts w = λ u. grown (Before bs right) ts token.Times u (λ s. with_times s u) w
at_operator token.Open bs right ts w = tt
at_operator token.Close bs right ts w = closed bs right ts w
at_operator token.Comma bs right ts w = parted bs right ts w
at_operator (token.Compare op) bs right ts w = compared op bs right ts w

-- each step keeps what the state says
pub stepped : (wants : Wanted) (bs : List Bracket) (right : Bool) (t : Token) (ts : List Token) → Stands wants bs right ts → Held (step (state wants bs right) t) (ts ++ t ∷ [])
stepped wanted.Operand bs right t ts h = at_operand t bs right ts h
stepped (wanted.Opening b) bs right t ts h = at_opening b t bs right ts h
stepped wanted.Operator bs right t ts h = at_operator t bs right ts h

pub at_start : Stands wanted.Operand [] false []
at_start u = alone (Before [] false) [] u refl

-- a whole relation
pub whole : (ts : List Token) → Whole [] true ts → (phrase : RelationPhrase) × (relation_tokens phrase ≡ ts)
whole ts w = (
  record { op = w.3.1; left = w.3.0; right = w.1 },
  sym (w.2 ∙ ap (λ (xs : List Token). xs ++ sum_tokens w.1) w.3.2 ∙ append_assoc (sum_tokens w.3.0) (token.Compare w.3.1 ∷ []) (sum_tokens w.1)),
)

-- what begins a beginning is one
pub sooner : (ts more : List Token) → CanBegin (ts ++ more) → CanBegin ts
sooner ts more b = (more ++ b.0, b.1, b.2 ∙ append_assoc ts more b.0)

zero_unary : UnaryPhrase
zero_unary = Plain (Literal (pos 0))

begins_whole : (bs : List Bracket) (right : Bool) (ts : List Token) → Whole bs right ts → CanBegin ts
begins_whole [] false ts w =
    let s = lone_sum zero_unary in (
      token.Compare relop.Eq ∷ sum_tokens s,
      record { op = relop.Eq; left = w.1; right = s },
      ap (λ (xs : List Token). xs ++ token.Compare relop.Eq ∷ sum_tokens s) (sym (w.2 ∙ ap (λ (xs : List Token). xs ++ sum_tokens w.1) w.3)),
    )
begins_whole [] true ts w = let r = whole ts w in ([], r.0, r.1 ∙ sym (append-nil ts))
begins_whole (bracket.Last ∷ bs) right ts w =
    sooner ts (token.Close ∷ []) (begins_whole bs right _ (subst (Whole bs right) (sym (ends_with w.0 ts (sum_tokens w.1) token.Close w.2)) (w.3 w.1)))
begins_whole (bracket.First ∷ bs) right ts w =
    let s = lone_sum zero_unary in
    let tail = token.Comma ∷ (sum_tokens s ++ token.Close ∷ []) in
    let same : ts ++ tail ≡ w.0 ++ (sum_tokens w.1 ++ tail) = ap (λ (xs : List Token). xs ++ tail) w.2 ∙ append_assoc w.0 (sum_tokens w.1) tail in
    sooner ts tail (begins_whole bs right _ (subst (Whole bs right) (sym same) (w.3 w.1 s)))

-- in each state some relation begins with the tokens before it
pub begins : (wants : Wanted) (bs : List Bracket) (right : Bool) (ts : List Token) → Stands wants bs right ts → CanBegin ts
begins wanted.Operand bs right ts h = sooner ts _ (begins_whole bs right _ (h zero_unary))
begins (wanted.Opening bracket.Last) bs right ts h = sooner ts _ (begins_whole bs right _ (h (lone_sum zero_unary)))
begins (wanted.Opening bracket.First) bs right ts h = sooner ts _ (begins_whole bs right _ (h (lone_sum zero_unary) (lone_sum zero_unary)))
begins wanted.Operator bs right ts h = begins_whole bs right ts h

-- what holds at the end of a run
pub kept : (s : State) (ts before : List Token) → Stands s.wants s.open_brackets s.is_right before → Held (run s ts) (before ++ ts)
kept s [] before h = subst (Stands s.wants s.open_brackets s.is_right) (sym (append-nil before)) h
kept s (t ∷ ts) before h =
    after (λ n. kept n ts (before ++ t ∷ [])) (step s t) (stepped s.wants s.open_brackets s.is_right t before h)
  where
    after : ((n : State) → Stands n.wants n.open_brackets n.is_right (before ++ t ∷ []) → Held (run n ts) ((before ++ t ∷ []) ++ ts)) → (r : Option State) → Held r (before ++ t ∷ []) → Held (option_and_then (λ n. run n ts) r) (before ++ t ∷ ts)
    after k None h = tt
    after k (Some n) h = subst (Held (run n ts)) (append_assoc before (t ∷ []) ts) (k n h)
