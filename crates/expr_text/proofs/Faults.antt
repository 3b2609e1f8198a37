-- Where the first fault stands.
use Rattle.std.proofs.Common.{◌≡◌, ℕ, ◌-◌, ◌<◌, ◌≤◌, true, false, List, [], ◌∷◌, ◌++◌, length, drop, Option, Some, None, refl, sym, ◌∙◌, subst, arith}
use Rattle.expr_text.specs.declared.token.Token.{Token}
use Rattle.expr_text.specs.declared.scan.Scan.{Scan}
use Rattle.expr_text.specs.Spelling.{token_at, without_spaces}
use Rattle.expr_text.specs.Reading.{Begins, CanBegin, FaultAt, Stops}
use Rattle.expr_text.specs.Accepts.{state_of}
use Rattle.expr_text.specs.Acceptor.{is_whole}
use Rattle.expr_text.specs.Scans.{Follows, Goes}
use Rattle.expr_text.proofs.Texts.{begins_more}
use Rattle.expr_text.proofs.Verdicts.{not_accepted, taken}

-- so many tokens were taken, and the rest comes
abbrev pub Taken : List ℕ → List ℕ → Scan → Type 0
Taken text rest scan = (tokens : List Token) × Begins text tokens rest × Follows tokens scan

stops : (tokens : List Token) (rest : List ℕ) → 0 < length rest → ((t : Token) (size : ℕ) → token_at rest ≡ Some (t, size) → CanBegin (tokens ++ t ∷ []) → ⊥) → Stops tokens rest
stops tokens [] some h = absurd (omega arith)
stops tokens (c ∷ cs) some h = h

here : (text rest : List ℕ) (scan : Scan) (k : Taken text rest scan) → length rest ≤ length text → Stops k.0 rest → FaultAt text (length text - length rest)
here text rest scan k room h =
    record { tokens = k.0; rest = rest; begins = k.1; viable = taken (state_of scan.acceptor) k.0 k.2.ran; stops = h; place_is = omega arith }

-- no token stands here
pub fault_none : (text rest : List ℕ) (scan : Scan) → Taken text rest scan → length rest ≤ length text → 0 < length rest → None ≡ token_at rest → FaultAt text (length text - length rest)
fault_none text rest scan k room some h =
    here text rest scan k room (stops k.0 rest some (λ t size e _. clash (token_at rest) (t, size) h e))
  where
    clash : (r : Option (Token × ℕ)) (x : Token × ℕ) → None ≡ r → r ≡ Some x → ⊥
    clash r x e f = cc

-- one that can't follow
pub fault_next : (text rest : List ℕ) (scan new : Scan) (t : Token) (size : ℕ) → Taken text rest scan → length rest ≤ length text → 0 < length rest → Some (t, size) ≡ token_at rest → Goes false t scan new → FaultAt text (length text - length rest)
fault_next text rest scan new t size k room some h stop =
    here text rest scan k room (stops k.0 rest some (λ u more e b. stop k.0 k.2 (subst (λ (v : Token). CanBegin (k.0 ++ v ∷ [])) (sym (same (t, size) (u, more) (h ∙ e))) b)))
  where
    same : (a b : Token × ℕ) → Some a ≡ Some b → a.0 ≡ b.0
    same a b e = let P : Option (Token × ℕ) → Type 0 = elim [ Some x ↦ a.0 ≡ x.0 | None ↦ Unit {0} ] in subst P e refl

-- the text ends too early
pub fault_end : (text rest : List ℕ) (scan : Scan) → Taken text rest scan → length rest ≡ 0 → is_whole (state_of scan.acceptor) ≡ false → FaultAt text (length text)
fault_end text [] scan k e w =
    record { tokens = k.0; rest = []; begins = k.1; viable = taken (state_of scan.acceptor) k.0 k.2.ran; stops = not_accepted (state_of scan.acceptor) k.0 k.2.ran w; place_is = omega arith }
fault_end text (c ∷ cs) scan k e w = absurd (omega arith)

-- one token more
pub taken_more : (text rest : List ℕ) (scan new : Scan) (t : Token) (size : ℕ) → Taken text rest scan → Some (t, size) ≡ token_at rest → Goes true t scan new → Taken text (without_spaces (drop size rest)) new
taken_more text rest scan new t size k h go = (k.0 ++ t ∷ [], begins_more text k.0 rest t size k.1 (sym h), go k.0 k.2)
