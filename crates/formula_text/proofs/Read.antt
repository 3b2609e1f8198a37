-- The reading of a text is what the grammar says of it.
use Rattle.std.proofs.Common.{◌≡◌, ℕ, suc, ◌*◌, ◌<◌, ◌≤◌, ◌&&◌, ◌⊎◌, inl, inr, Bool, true, false, cond, nat_le, List, [], length, Option, Some, None, Ok, Err, refl, sym, ap, ◌∙◌, subst, arith}
use Rattle.std.specs.Prelude.{Result}
use Rattle.std.specs.Option.{option_map_or}
use Rattle.std.proofs.lemmas.Bool.Decides.{nat_tests}
use Rattle.expr_tree.specs.declared.Rel.{Rel}
use Rattle.expr_tree.specs.Trees.{Relation, relation_of}
use Rattle.expr_tree.specs.Measures.{relation_depth, relation_nodes}
use Rattle.expr_text.specs.declared.token.Token.{Token}
use Rattle.expr_text.specs.declared.fault.ExprFault.{ExprFault}
use Rattle.expr_text.specs.declared.fault.ExprFault.TheVariants as fault
use Rattle.expr_text.specs.Answers.{Answers}
use Rattle.expr_text.specs.Acceptor.{State, is_whole, run, start}
use Rattle.expr_text.specs.Descent.{relation_at}
use Rattle.expr_text.specs.Grammar.{RelationPhrase, phrase_relation, relation_tokens}
use Rattle.expr_text.specs.Reading.{Begins, FaultAt, IsWithinLimits, PassesALimit, Spells, most_open}
use Rattle.expr_text.proofs.Built.{relation_built}
use Rattle.expr_text.proofs.Complete.{relation_runs}
use Rattle.expr_text.proofs.Unique.{fault_or_relation}
use Rattle.expr_text.proofs.Verdicts.{accepted}
use Rattle.formula_text.specs.Answers.{IsRefusal}
use Rattle.formula_text.specs.Laws.{IsFaulty, IsTooLarge, Means}
use Rattle.formula_text.specs.Readings.{TextCause, Text, Deep, are_relation, is_within_limits, reading_of, reading_of_relation, reading_of_tokens, relation_of_tokens}
use Rattle.formula_text.specs.Tokens.{tokens_of, tokens_within}
use Rattle.formula_text.proofs.Decided.{decided}
use Rattle.formula_text.proofs.Tokenized.{begins_with, taken_of}

-- the tokens of a phrase are its relation
tokens_read : (p : RelationPhrase) → reading_of_tokens (relation_tokens p) ≡ reading_of_relation (relation_tokens p) (phrase_relation p)
tokens_read p =
    let ts = relation_tokens p in
    let whole : are_relation ts ≡ true = ap (λ (o : Option State). option_map_or is_whole o false) (relation_runs p) in
    let is : relation_of_tokens ts ≡ Some (phrase_relation p) = ap (λ (b : Bool). cond b (relation_at (6 * length ts) ts) None) whole ∙ relation_built p in
    ap (λ (o : Option Relation). option_map_or (reading_of_relation ts) o (Err Text)) is

-- a text that is a phrase says its relation, where that is within the limits
pub spelled : (text : List ℕ) (p : RelationPhrase) → Spells text p → reading_of text ≡ reading_of_relation (relation_tokens p) (phrase_relation p)
unfolding reading_of tokens_of
spelled text p b =
    ap (λ (o : Option (List Token)). option_map_or reading_of_tokens o (Err Text)) (taken_of (suc (length text)) text (relation_tokens p) b (omega arith)) ∙ tokens_read p

-- the state behind tokens that are a relation
whole_run : (o : Option State) → option_map_or is_whole o false ≡ true → (s : State) × (o ≡ Some s) × (is_whole s ≡ true)
whole_run None e = cc
whole_run (Some s) e = (s, refl, e)

-- and they are those of a phrase
phrase_of : (ts : List Token) → are_relation ts ≡ true → (p : RelationPhrase) × (relation_tokens p ≡ ts)
phrase_of ts e = let w = whole_run (run start ts) e in accepted w.0 ts w.1 w.2

-- a text that has a fault says nothing
pub faulty : (text : List ℕ) (place : ℕ) → FaultAt text place → reading_of text ≡ Err Text
unfolding reading_of tokens_of
faulty text place f = at (tokens_within (suc (length text)) text) refl
  where
    tested : (ts : List Token) → Begins text ts [] → (b : Bool) → are_relation ts ≡ b → reading_of_tokens ts ≡ Err Text
    tested ts b true e =
        let p = phrase_of ts e in
        let P : List Token → Type 0 = λ us. Begins text us [] in
        absurd (fault_or_relation text place p.0 f (subst P (sym p.1) b))
    tested ts b false e = ap (λ (w : Bool). option_map_or (reading_of_relation ts) (cond w (relation_at (6 * length ts) ts) None) (Err Text)) e

    at : (o : Option (List Token)) → tokens_within (suc (length text)) text ≡ o → option_map_or reading_of_tokens o (Err Text) ≡ Err Text
    at None e = refl
    at (Some ts) e = tested ts (begins_with (suc (length text)) text ts e) (are_relation ts) refl

-- the limits
all_within : (a b c : ℕ) → (nat_le a 256 && (nat_le b 32 && nat_le c 32)) ≡ true → (a ≤ 256) × (b ≤ 32) × (c ≤ 32)
all_within a b c e = (grind (arith, nat_tests), grind (arith, nat_tests), grind (arith, nat_tests))

within_all : (a b c : ℕ) → a ≤ 256 → b ≤ 32 → c ≤ 32 → (nat_le a 256 && (nat_le b 32 && nat_le c 32)) ≡ true
within_all a b c h k m = grind (arith, nat_tests)

one_past : (a b c : ℕ) → (nat_le a 256 && (nat_le b 32 && nat_le c 32)) ≡ false → (256 < a) ⊎ ((32 < b) ⊎ (32 < c))
one_past a b c e = grind (arith, nat_tests)

past_one : (a b c : ℕ) → (256 < a) ⊎ ((32 < b) ⊎ (32 < c)) → (nat_le a 256 && (nat_le b 32 && nat_le c 32)) ≡ false
past_one a b c (inl h) = grind (arith, nat_tests)
past_one a b c (inr (inl h)) = grind (arith, nat_tests)
past_one a b c (inr (inr h)) = grind (arith, nat_tests)

limited_within : (p : RelationPhrase) → IsWithinLimits p → reading_of_relation (relation_tokens p) (phrase_relation p) ≡ Ok (phrase_relation p)
limited_within p w =
    let r = phrase_relation p in
    ap (λ (b : Bool). cond b (Ok r) (Err Deep)) (within_all (relation_nodes r) (relation_depth r) (most_open 0 (relation_tokens p)) w.nodes w.depth w.brackets)

limited_past : (p : RelationPhrase) → PassesALimit p → reading_of_relation (relation_tokens p) (phrase_relation p) ≡ Err Deep
limited_past p w =
    let r = phrase_relation p in
    ap (λ (b : Bool). cond b (Ok r) (Err Deep)) (past_one (relation_nodes r) (relation_depth r) (most_open 0 (relation_tokens p)) w)

-- a phrase is within the limits or passes one
measured : (p : RelationPhrase) → IsWithinLimits p ⊎ PassesALimit p
measured p = at (is_within_limits (relation_tokens p) (phrase_relation p)) refl
  where
    at : (b : Bool) → is_within_limits (relation_tokens p) (phrase_relation p) ≡ b → IsWithinLimits p ⊎ PassesALimit p
    at true e =
        let h = all_within (relation_nodes (phrase_relation p)) (relation_depth (phrase_relation p)) (most_open 0 (relation_tokens p)) e in
        inl (record { nodes = h.0; depth = h.1; brackets = h.2 })
    at false e = inr (one_past (relation_nodes (phrase_relation p)) (relation_depth (phrase_relation p)) (most_open 0 (relation_tokens p)) e)

-- what a text is, and what its reading then is
data Case (text : List ℕ) : Type 0 where
  Read : (p : RelationPhrase) → Spells text p → IsWithinLimits p → reading_of text ≡ Ok (phrase_relation p) → Case text
  Past : (p : RelationPhrase) → Spells text p → PassesALimit p → reading_of text ≡ Err Deep → Case text
  Faulty : IsFaulty text → reading_of text ≡ Err Text → Case text

case_of : (text : List ℕ) → Case text
case_of text = elim (decided text) [
  | inl h ↦ sized h.0 h.1 (measured h.0)
  | inr f ↦ Faulty f (faulty text f.place f.fault)
]
  where
    sized : (p : RelationPhrase) → Spells text p → IsWithinLimits p ⊎ PassesALimit p → Case text
    sized p b (inl w) = Read p b w (spelled text p b ∙ limited_within p w)
    sized p b (inr w) = Past p b w (spelled text p b ∙ limited_past p w)

same_relation : (result : Result Relation TextCause) (a b : Relation) → result ≡ Ok a → result ≡ Ok b → a ≡ b
same_relation result a b e f = cc

apart : (result : Result Relation TextCause) (a : Relation) (cause : TextCause) → result ≡ Ok a → result ≡ Err cause → ⊥
apart result a cause e f = cc

causes_apart : (result : Result Relation TextCause) → result ≡ Err Text → result ≡ Err Deep → ⊥
causes_apart result e f = cc

pub read_means : (text : List ℕ) (r : Relation) → reading_of text ≡ Ok r → Means text r
read_means text r e = elim (case_of text) [
  | Read p b w k ↦ record { phrase = p; spells = b; within = w; relation = same_relation (reading_of text) (phrase_relation p) r k e }
  | Past p b w k ↦ absurd (apart (reading_of text) r Deep e k)
  | Faulty f k ↦ absurd (apart (reading_of text) r Text e k)
]

pub means_read : (text : List ℕ) (r : Relation) → Means text r → reading_of text ≡ Ok r
means_read text r m = spelled text m.phrase m.spells ∙ limited_within m.phrase m.within ∙ ap (λ (x : Relation). Ok x) m.relation

pub deep_large : (text : List ℕ) → reading_of text ≡ Err Deep → IsTooLarge text
deep_large text e = elim (case_of text) [
  | Read p b w k ↦ absurd (apart (reading_of text) (phrase_relation p) Deep k e)
  | Past p b w k ↦ record { phrase = p; spells = b; passes = w }
  | Faulty f k ↦ absurd (causes_apart (reading_of text) k e)
]

pub large_deep : (text : List ℕ) → IsTooLarge text → reading_of text ≡ Err Deep
large_deep text l = spelled text l.phrase l.spells ∙ limited_past l.phrase l.passes

pub text_faulty : (text : List ℕ) → reading_of text ≡ Err Text → IsFaulty text
text_faulty text e = elim (case_of text) [
  | Read p b w k ↦ absurd (apart (reading_of text) (phrase_relation p) Text k e)
  | Past p b w k ↦ absurd (causes_apart (reading_of text) e k)
  | Faulty f k ↦ f
]

pub faulty_text : (text : List ℕ) → IsFaulty text → reading_of text ≡ Err Text
faulty_text text f = faulty text f.place f.fault

-- what the reader of a text answers
pub answered : (text : List ℕ) (rel : Rel) → Answers text (Ok rel) → reading_of text ≡ Ok (relation_of rel)
answered text rel h = means_read text (relation_of rel) (record { phrase = h.0; spells = h.1; within = h.2; relation = h.3 })

pub refusal : (text : List ℕ) (e : ExprFault) → Answers text (Err e) → IsRefusal text e
refusal text (fault.Text place) h = (faulty text place h, h)
refusal text fault.Deep h = large_deep text (record { phrase = h.0; spells = h.1; passes = h.2 })
refusal text fault.NoMemory h = tt
