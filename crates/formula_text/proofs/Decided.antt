-- Each text is a phrase, or has a first fault.
use Rattle.std.proofs.Common.{◌≡◌, ℕ, zero, suc, ◌-◌, ◌≤◌, ◌⊎◌, inl, inr, Bool, true, false, List, [], ◌∷◌, ◌++◌, length, drop, Option, Some, None, refl, sym, ◌∙◌, subst, arith, length-drop}
use Rattle.expr_text.specs.declared.token.Token.{Token}
use Rattle.expr_text.specs.Acceptor.{State, is_whole, run, start, step}
use Rattle.expr_text.specs.Grammar.{RelationPhrase}
use Rattle.expr_text.specs.Reading.{Begins, CanBegin, Spells}
use Rattle.expr_text.specs.Spelling.{token_at, without_spaces}
use Rattle.expr_text.proofs.Sizes.{token_size}
use Rattle.expr_text.proofs.Texts.{begins_more, without-le}
use Rattle.expr_text.proofs.Verdicts.{accepted, not_accepted, not_taken, ran_more, taken}
use Rattle.formula_text.specs.Laws.{IsFaulty}

abbrev pub Verdict : List ℕ → Type 0
Verdict text = ((phrase : RelationPhrase) × Spells text phrase) ⊎ IsFaulty text

same_token : (a b : Token × ℕ) → Some a ≡ Some b → a.0 ≡ b.0
same_token a b e = let P : Option (Token × ℕ) → Type 0 = elim [ Some x ↦ a.0 ≡ x.0 | None ↦ Unit {0} ] in subst P e refl

-- what is known once these tokens were taken, and the rest comes
record Run (text rest : List ℕ) (ts : List Token) (s : State) : Type 0 where
  begins : Begins text ts rest
  ran : run start ts ≡ Some s
  room : length rest ≤ length text

-- at the end of the text
at_end : (text : List ℕ) (ts : List Token) (s : State) → Run text [] ts s → (b : Bool) → is_whole s ≡ b → Verdict text
at_end text ts s h true e =
    let a = accepted s ts h.ran e in
    let P : List Token → Type 0 = λ us. Begins text us [] in
    inl (a.0, subst P (sym a.1) h.begins)
at_end text ts s h false e =
    inr (record {
      place = length text;
      fault = record { tokens = ts; rest = []; begins = h.begins; viable = taken s ts h.ran; stops = not_accepted s ts h.ran e; place_is = omega arith };
    })

-- where no token that can follow stands
stuck : (text : List ℕ) (c : ℕ) (cs : List ℕ) (ts : List Token) (s : State) → Run text (c ∷ cs) ts s → ((t : Token) (size : ℕ) → token_at (c ∷ cs) ≡ Some (t, size) → CanBegin (ts ++ t ∷ []) → ⊥) → Verdict text
stuck text c cs ts s h stops =
    let room = h.room in
    inr (record {
      place = length text - length (c ∷ cs);
      fault = record { tokens = ts; rest = c ∷ cs; begins = h.begins; viable = taken s ts h.ran; stops = stops; place_is = omega (arith, room) };
    })

none_some : (o : Option (Token × ℕ)) (x : Token × ℕ) → o ≡ None → o ≡ Some x → ⊥
none_some o x e f = cc

-- what so few bytes come behind is decided
abbrev Decides : ℕ → List ℕ → Type 0
Decides n text = (rest : List ℕ) (us : List Token) (m : State) → Run text rest us m → length rest ≤ n → Verdict text

decided_from : (n : ℕ) (text rest : List ℕ) (ts : List Token) (s : State) → Run text rest ts s → length rest ≤ n → Verdict text
decided_from n text [] ts s h few = at_end text ts s h (is_whole s) refl
decided_from zero text (c ∷ cs) ts s h few = absurd (omega arith)
decided_from (suc n) text (c ∷ cs) ts s h few = found (λ rest us m h few. decided_from n text rest us m h few) (token_at (c ∷ cs)) refl
  where
    goes_on : Decides n text → (x : Token × ℕ) → token_at (c ∷ cs) ≡ Some x → (m : State) → step s x.0 ≡ Some m → Verdict text
    goes_on decides x e m k =
        let sized = token_size (c ∷ cs) x.0 x.1 e in
        let some = sized.0 in
        let most = sized.1 in
        let room = h.room in
        let size = length-drop x.1 (c ∷ cs) in
        let less = without-le (drop x.1 (c ∷ cs)) in
        let next : Run text (without_spaces (drop x.1 (c ∷ cs))) (ts ++ x.0 ∷ []) m =
        record {
          begins = begins_more text ts (c ∷ cs) x.0 x.1 h.begins e;
          ran = ran_more s m ts x.0 h.ran k;
          room = omega (arith, some, most, room, size, less);
        } in
        decides (without_spaces (drop x.1 (c ∷ cs))) (ts ++ x.0 ∷ []) m next (omega (arith, some, most, few, size, less))

    stepped : Decides n text → (x : Token × ℕ) → token_at (c ∷ cs) ≡ Some x → (o : Option State) → step s x.0 ≡ o → Verdict text
    stepped decides x e None k =
        stuck text c cs ts s h (λ t size f b. not_taken s ts x.0 h.ran k (subst (λ (v : Token). CanBegin (ts ++ v ∷ [])) (sym (same_token x (t, size) (sym e ∙ f))) b))
    stepped decides x e (Some m) k = goes_on decides x e m k

    found : Decides n text → (o : Option (Token × ℕ)) → token_at (c ∷ cs) ≡ o → Verdict text
    found decides None e = stuck text c cs ts s h (λ t size f b. none_some (token_at (c ∷ cs)) (t, size) e f)
    found decides (Some x) e = stepped decides x e (step s x.0) refl

pub decided : (text : List ℕ) → Verdict text
decided text =
    decided_from (length text) text (without_spaces text) [] start (record { begins = refl; ran = refl; room = without-le text }) (without-le text)
