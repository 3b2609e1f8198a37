-- What the acceptor's answers mean for the grammar.
use Rattle.std.proofs.Common.{◌≡◌, ◌≢◌, ◌+◌, ◌≤◌, Bool, true, false, List, [], ◌∷◌, ◌++◌, length, Option, Some, None, sym, ap, ◌∙◌, subst, arith}
use Rattle.std.specs.Prelude.{max, option_and_then, sum_by}
use Rattle.std.proofs.lemmas.List.Sums.{sum_by-append, sum_by-cons}
use Rattle.expr_text.specs.declared.token.Token.{Token}
use Rattle.expr_text.specs.declared.scan.Scan.{Scan}
use Rattle.expr_text.specs.declared.acceptor.Bracket.{Bracket}
use Rattle.expr_text.specs.declared.acceptor.Wanted.{Wanted}
use Rattle.expr_text.specs.declared.acceptor.Wanted.TheVariants as wanted
use Rattle.expr_text.specs.Grammar.{RelationPhrase, relation_tokens}
use Rattle.expr_text.specs.Accepts.{Takes, brackets, state_of}
use Rattle.expr_text.specs.Acceptor.{State, is_end, is_whole, run, start, state, step}
use Rattle.expr_text.specs.Reading.{CanBegin, token_nodes}
use Rattle.expr_text.specs.Scans.{Follows}
use Rattle.expr_text.proofs.Complete.{relation_runs, run_append}
use Rattle.expr_text.proofs.Counts.{most_open_more}
use Rattle.expr_text.proofs.Sound.{Held, Stands, at_start, begins, kept, whole}

-- a run goes on with one token
one_more : (s : State) (tokens : List Token) (t : Token) → run start tokens ≡ Some s → run start (tokens ++ t ∷ []) ≡ option_and_then (λ n. Some n) (step s t)
one_more s tokens t h = run_append start tokens (t ∷ []) ∙ ap (option_and_then (λ n. run n (t ∷ []))) h

pub ran_more : (s n : State) (tokens : List Token) (t : Token) → run start tokens ≡ Some s → step s t ≡ Some n → run start (tokens ++ t ∷ []) ≡ Some n
ran_more s n tokens t h k = one_more s tokens t h ∙ ap (option_and_then (λ m. Some m)) k

-- no relation goes on with a token that is not taken
pub not_taken : (s : State) (tokens : List Token) (t : Token) → run start tokens ≡ Some s → step s t ≡ None → CanBegin (tokens ++ t ∷ []) → ⊥
not_taken s tokens t h k b =
    let none : run start ((tokens ++ t ∷ []) ++ b.0) ≡ None =
    run_append start (tokens ++ t ∷ []) b.0 ∙ ap (option_and_then (λ n. run n b.0)) (one_more s tokens t h ∙ ap (option_and_then (λ m. Some m)) k) in
    let some = sym (ap (run start) b.2) ∙ relation_runs b.1 in
    clash _ none some
  where
    clash : (r : Option State) → r ≡ None → r ≡ Some (state wanted.Operator [] true) → ⊥
    clash r e f = cc

standing : (s : State) (tokens : List Token) → run start tokens ≡ Some s → Stands s.wants s.open_brackets s.is_right tokens
standing s tokens h = let P : Option State → Type 0 = λ r. Held r tokens in subst P h (kept start tokens [] at_start)

-- some relation begins with the tokens that were taken
pub taken : (s : State) (tokens : List Token) → run start tokens ≡ Some s → CanBegin tokens
taken s tokens h = begins s.wants s.open_brackets s.is_right tokens (standing s tokens h)

-- where the acceptor stands at the end of a relation, there is one
pub accepted : (s : State) (tokens : List Token) → run start tokens ≡ Some s → is_whole s ≡ true → (phrase : RelationPhrase) × (relation_tokens phrase ≡ tokens)
accepted s tokens h w = at s.wants s.open_brackets s.is_right (standing s tokens h) w
  where
    at : (wants : Wanted) (bs : List Bracket) (right : Bool) → Stands wants bs right tokens → is_end wants bs right ≡ true → (phrase : RelationPhrase) × (relation_tokens phrase ≡ tokens)
    at wanted.Operand bs right h w = cc
    at (wanted.Opening b) bs right h w = cc
    at wanted.Operator (b ∷ bs) right h w = cc
    at wanted.Operator [] false h w = cc
    at wanted.Operator [] true h w = whole tokens h

-- and elsewhere there is none
pub not_accepted : (s : State) (tokens : List Token) → run start tokens ≡ Some s → is_whole s ≡ false → (phrase : RelationPhrase) → relation_tokens phrase ≢ tokens
not_accepted s tokens h w phrase e =
    let same : Some s ≡ Some (state wanted.Operator [] true) = sym h ∙ ap (run start) (sym e) ∙ relation_runs phrase in
    clash s same w
  where
    clash : (s : State) → Some s ≡ Some (state wanted.Operator [] true) → is_whole s ≡ false → ⊥
    clash s e w =
        let P : Option State → Type 0 = elim [ Some n ↦ is_whole n ≡ false | None ↦ Unit {0} ] in
        let wrong : true ≡ false = subst P e w in
        cc

pub takes_false : (b : Bool) (next : Option State) (new : State) → b ≡ false → Takes b next new → next ≡ None
takes_false true next new e h = cc
takes_false false next new e h = h

pub takes_true : (b : Bool) (next : Option State) (new : State) → b ≡ true → Takes b next new → next ≡ Some new
takes_true true next new e h = h
takes_true false next new e h = cc

one_sum : (tokens : List Token) (t : Token) → sum_by token_nodes (tokens ++ t ∷ []) ≡ sum_by token_nodes tokens + token_nodes t
one_sum tokens t = sum_by-append token_nodes tokens (t ∷ []) ∙ ap (λ n. sum_by token_nodes tokens + n) (sum_by-cons token_nodes t [] ∙ omega arith)

-- a scan goes on with one token
pub follows_more : (tokens : List Token) (old new : Scan) (t : Token) → Follows tokens old → step (state_of old.acceptor) t ≡ Some (state_of new.acceptor) → new.nodes ≡ old.nodes + token_nodes t → new.most_open ≡ max old.most_open (length (brackets new.acceptor)) → (old.nodes ≤ 256 → old.most_open ≤ 32 → new.nodes ≤ 256 → new.most_open ≤ 32 → new.tokens.items ≡ old.tokens.items ++ t ∷ []) → Follows (tokens ++ t ∷ []) new
follows_more tokens old new t h next nodes most pushed =
    record {
      ran = ran_more (state_of old.acceptor) (state_of new.acceptor) tokens t h.ran next;
      nodes = nodes ∙ ap (λ n. n + token_nodes t) h.nodes ∙ sym (one_sum tokens t);
      brackets = most ∙ ap (λ n. max n (length (brackets new.acceptor))) h.brackets ∙ sym (most_open_more start (state_of old.acceptor) (state_of new.acceptor) tokens t h.ran next);
      kept = λ a b.
          let fewer : old.nodes ≤ 256 = omega (arith, nodes, a) in
          let less : old.most_open ≤ 32 = omega (arith, most, b) in
          pushed fewer less a b ∙ ap (λ (ts : List Token). ts ++ t ∷ []) (h.kept fewer less);
    }
