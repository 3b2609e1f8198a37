-- A text has one answer.
use Rattle.std.proofs.Common.{◌≡◌, ℕ, ◌*◌, ◌⊎◌, inl, inr, List, [], ◌∷◌, ◌++◌, length, drop, Option, Some, None, Ok, Err, refl, sym, ap, ◌∙◌, subst, append_assoc, append-nil, arith}
use Rattle.std.specs.Prelude.{Result}
use Rattle.expr_tree.specs.declared.Rel.{Rel}
use Rattle.expr_tree.specs.Trees.{Relation}
use Rattle.expr_tree.specs.Measures.{relation_depth, relation_nodes}
use Rattle.expr_text.specs.declared.token.Token.{Token}
use Rattle.expr_text.specs.declared.fault.ExprFault.{ExprFault}
use Rattle.expr_text.specs.declared.fault.ExprFault.TheVariants as fault
use Rattle.expr_text.specs.Spelling.{token_at, symbol_at, without_spaces}
use Rattle.expr_text.specs.Grammar.{RelationPhrase, relation_tokens, phrase_relation}
use Rattle.expr_text.specs.Reading.{Begins, CanBegin, FaultAt, IsWithinLimits, PassesALimit, Spells, Stops, most_open}
use Rattle.expr_text.specs.Answers.{Answers, ReadsAs, Refuses}
use Rattle.expr_text.specs.Descent.{relation_at}
use Rattle.expr_text.proofs.Built.{relation_built}
use Rattle.expr_text.proofs.Sound.{sooner}

-- the second tokens go on where the first end
record Further (ts us : List Token) (rest : List ℕ) : Type 0 where
  next : Token
  more : List Token
  size : ℕ
  are : us ≡ ts ++ next ∷ more
  stands : token_at rest ≡ Some (next, size)

-- of two beginnings of one text one goes on with the other
Compared : List Token → List Token → List ℕ → List ℕ → Type 0
Compared ts us rest others = ((ts ≡ us) × (rest ≡ others)) ⊎ (Further ts us rest ⊎ Further us ts others)

same_token : (a b : Token × ℕ) → Some a ≡ Some b → (a.0 ≡ b.0) × (a.1 ≡ b.1)
same_token a b e = let P : Option (Token × ℕ) → Type 0 = elim [ Some x ↦ (a.0 ≡ x.0) × (a.1 ≡ x.1) | None ↦ Unit {0} ] in subst P e (refl, refl)

one_more : (t : Token) (ts us : List Token) (rest others : List ℕ) → Compared ts us rest others → Compared (t ∷ ts) (t ∷ us) rest others
unfolding Compared
one_more t ts us rest others (inl h) = inl (ap (λ (xs : List Token). t ∷ xs) h.0, h.1)
one_more t ts us rest others (inr (inl h)) = inr (inl (record { next = h.next; more = h.more; size = h.size; are = ap (λ (xs : List Token). t ∷ xs) h.are; stands = h.stands }))
one_more t ts us rest others (inr (inr h)) = inr (inr (record { next = h.next; more = h.more; size = h.size; are = ap (λ (xs : List Token). t ∷ xs) h.are; stands = h.stands }))

compared : (text : List ℕ) (ts us : List Token) (rest others : List ℕ) → Begins text ts rest → Begins text us others → Compared ts us rest others
unfolding Compared
compared text [] [] rest others b d = inl (refl, sym b ∙ d)
compared text [] (u ∷ us) rest others b d = inr (inl (record { next = u; more = us; size = d.0; are = refl; stands = ap token_at (sym b) ∙ d.1 }))
compared text (t ∷ ts) [] rest others b d = inr (inr (record { next = t; more = ts; size = b.0; are = refl; stands = ap token_at (sym d) ∙ b.1 }))
compared text (t ∷ ts) (u ∷ us) rest others b d =
    let same = same_token (t, b.0) (u, d.0) (sym b.1 ∙ d.1) in
    let P : Token → Type 0 = λ v. Compared (t ∷ ts) (v ∷ us) rest others in
    let Q : ℕ → Type 0 = λ n. Begins (drop n (without_spaces text)) ts rest in
    subst P same.0 (one_more t ts us rest others (compared (drop d.0 (without_spaces text)) ts us rest others (subst Q same.1 b.2) d.2))

-- no token stands at the end
nothing : (x : Token × ℕ) → token_at [] ≡ Some x → ⊥
unfolding token_at symbol_at
nothing x e = cc

stopped : (ts : List Token) (rest : List ℕ) (t : Token) (size : ℕ) → Stops ts rest → token_at rest ≡ Some (t, size) → CanBegin (ts ++ t ∷ []) → ⊥
stopped ts [] t size h e b = nothing (t, size) e
stopped ts (c ∷ cs) t size h e b = h t size e b

-- where one goes on, some relation goes on with the next token
goes_on : (ts us : List Token) (rest : List ℕ) (f : Further ts us rest) → CanBegin us → CanBegin (ts ++ f.next ∷ [])
goes_on ts us rest f b = sooner (ts ++ f.next ∷ []) f.more (subst CanBegin (f.are ∙ sym (append_assoc ts (f.next ∷ []) f.more)) b)

pub one_text : (text : List ℕ) (p q : RelationPhrase) → Spells text p → Spells text q → relation_tokens p ≡ relation_tokens q
unfolding Compared
one_text text p q b d = elim (compared text (relation_tokens p) (relation_tokens q) [] [] b d) [
  | inl h ↦ h.0
  | inr (inl h) ↦ absurd (nothing _ h.stands)
  | inr (inr h) ↦ absurd (nothing _ h.stands)
]

whole_begins : (p : RelationPhrase) → CanBegin (relation_tokens p)
whole_begins p = ([], p, sym (append-nil (relation_tokens p)))

pub fault_or_relation : (text : List ℕ) (place : ℕ) (p : RelationPhrase) → FaultAt text place → Spells text p → ⊥
unfolding Compared
fault_or_relation text place p f b = elim (compared text f.tokens (relation_tokens p) f.rest [] f.begins b) [
  | inl h ↦ (let P : List ℕ → Type 0 = λ r. Stops f.tokens r in subst P h.1 f.stops) p (sym h.0)
  | inr (inl h) ↦ stopped f.tokens f.rest h.next h.size f.stops h.stands (goes_on f.tokens (relation_tokens p) f.rest h (whole_begins p))
  | inr (inr h) ↦ nothing _ h.stands
]

pub one_fault : (text : List ℕ) (a b : ℕ) → FaultAt text a → FaultAt text b → a ≡ b
unfolding Compared
one_fault text a b f g = elim (compared text f.tokens g.tokens f.rest g.rest f.begins g.begins) [
  | inl h ↦ (let e = ap length h.1 in omega (arith, e, f.place_is, g.place_is))
  | inr (inl h) ↦ absurd (stopped f.tokens f.rest h.next h.size f.stops h.stands (goes_on f.tokens g.tokens f.rest h g.viable))
  | inr (inr h) ↦ absurd (stopped g.tokens g.rest h.next h.size g.stops h.stands (goes_on g.tokens f.tokens g.rest h f.viable))
]

-- tokens derive one relation at most
pub one_relation : (p q : RelationPhrase) → relation_tokens p ≡ relation_tokens q → phrase_relation p ≡ phrase_relation q
one_relation p q e =
    same _ _ (sym (relation_built p) ∙ ap (λ (ts : List Token). relation_at (6 * length ts) ts) e ∙ relation_built q)
  where
    same : (a b : Relation) → Some a ≡ Some b → a ≡ b
    same a b e = let P : Option Relation → Type 0 = elim [ Some x ↦ a ≡ x | None ↦ Unit {0} ] in subst P e refl

-- what is within the limits passes none
limits_apart : (text : List ℕ) (p q : RelationPhrase) → Spells text p → Spells text q → IsWithinLimits p → PassesALimit q → ⊥
limits_apart text p q b d w l =
    let e = one_text text p q b d in
    let r = one_relation p q e in
    let nodes = ap relation_nodes r in
    let depth = ap relation_depth r in
    let brackets = ap (most_open 0) e in
    elim l [
      | inl h ↦ omega (arith, h, w.nodes, nodes)
      | inr (inl h) ↦ omega (arith, h, w.depth, depth)
      | inr (inr h) ↦ omega (arith, h, w.brackets, brackets)
    ]

pub reads_as : (text : List ℕ) (result : Result Rel ExprFault) → Answers text result → (p : RelationPhrase) → Spells text p → IsWithinLimits p → ReadsAs result p
reads_as text (Ok rel) h p b w = sym h.3 ∙ one_relation h.0 p (one_text text h.0 p h.1 b)
reads_as text (Err (fault.Text place)) h p b w = fault_or_relation text place p h b
reads_as text (Err fault.Deep) h p b w = limits_apart text p h.0 b h.1 w h.2
reads_as text (Err fault.NoMemory) h p b w = tt

pub refuses_deep : (text : List ℕ) (result : Result Rel ExprFault) → Answers text result → (p : RelationPhrase) → Spells text p → PassesALimit p → Refuses result fault.Deep
refuses_deep text (Ok rel) h p b l = limits_apart text h.0 p h.1 b h.2 l
refuses_deep text (Err (fault.Text place)) h p b l = absurd (fault_or_relation text place p h b)
refuses_deep text (Err fault.Deep) h p b l = refl
refuses_deep text (Err fault.NoMemory) h p b l = tt

pub refuses_text : (text : List ℕ) (result : Result Rel ExprFault) → Answers text result → (place : ℕ) → FaultAt text place → Refuses result (fault.Text place)
refuses_text text (Ok rel) h place f = fault_or_relation text place h.0 f h.1
refuses_text text (Err (fault.Text at)) h place f = ap fault.Text (one_fault text at place h f)
refuses_text text (Err fault.Deep) h place f = absurd (fault_or_relation text place h.0 f h.1)
refuses_text text (Err fault.NoMemory) h place f = tt
