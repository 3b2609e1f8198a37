-- From a scan to the answer.
use Rattle.std.proofs.Common.{◌≡◌, ℕ, ◌*◌, ◌<◌, ◌≤◌, ◌⊎◌, inl, inr, List, [], length, Option, Some, None, Ok, refl, sym, ap, ◌∙◌, subst, arith}
use Rattle.std.specs.Prelude.{option_map}
use Rattle.expr_tree.specs.declared.Rel.{Rel}
use Rattle.expr_tree.specs.Trees.{Relation, relation_of}
use Rattle.expr_tree.specs.Measures.{relation_depth}
use Rattle.expr_text.specs.declared.token.Token.{Token}
use Rattle.expr_text.specs.declared.scan.Scan.{Scan}
use Rattle.expr_text.specs.Grammar.{RelationPhrase, phrase_relation, relation_tokens}
use Rattle.expr_text.specs.Reading.{Begins, IsWithinLimits, PassesALimit, Spells}
use Rattle.expr_text.specs.Accepts.{state_of}
use Rattle.expr_text.specs.Scans.{Follows, Scanned}
use Rattle.expr_text.specs.Descent.{relation_at}
use Rattle.expr_text.proofs.Built.{relation_built}
use Rattle.expr_text.proofs.Limits.{phrase_nodes}
use Rattle.expr_text.proofs.Verdicts.{accepted}

-- the phrase that a text is, once it was scanned to its end
pub record Phrased (text : List ℕ) (scan : Scan) : Type 0 where
  pub phrase : RelationPhrase
  pub spells : Spells text phrase
  pub follows : Follows (relation_tokens phrase) scan

pub phrased : (text : List ℕ) (scan : Scan) → Scanned text (Ok scan) → Phrased text scan
phrased text scan s =
    let a = accepted (state_of scan.acceptor) s.0 s.2.ran s.3 in
    record {
      phrase = a.0;
      spells = subst (λ (ts : List Token). Begins text ts []) (sym a.1) s.1;
      follows = subst (λ (ts : List Token). Follows ts scan) (sym a.1) s.2;
    }

pub too_large : (text : List ℕ) (scan : Scan) (p : Phrased text scan) → (256 < scan.nodes) ⊎ (32 < scan.most_open) → PassesALimit p.phrase
too_large text scan p (inl h) = let n = p.follows.nodes in let m = phrase_nodes p.phrase in inl (omega (arith, h, n, m))
too_large text scan p (inr h) = let b = p.follows.brackets in inr (inr (omega (arith, h, b)))

-- the tokens build the phrase's relation
pub built : (text : List ℕ) (scan : Scan) (p : Phrased text scan) → (scan.nodes ≤ 256) × (scan.most_open ≤ 32) → (n : ℕ) (ts : List Token) (found : Option Rel) → n ≡ length ts → ts ≡ scan.tokens.items → option_map relation_of found ≡ relation_at (6 * n) ts → option_map relation_of found ≡ Some (phrase_relation p.phrase)
built text scan p w n ts found e k b =
    let same : ts ≡ relation_tokens p.phrase = k ∙ p.follows.kept w.0 w.1 in
    b ∙ ap (λ m. relation_at (6 * m) ts) e ∙ ap (λ (us : List Token). relation_at (6 * length us) us) same ∙ relation_built p.phrase

pub not_none : (found : Option Rel) (r : Relation) → option_map relation_of found ≡ Some r → found ≡ None → ⊥
not_none None r e k = cc
not_none (Some rel) r e k = cc

pub is_some : (found : Option Rel) (r : Relation) (rel : Rel) → option_map relation_of found ≡ Some r → found ≡ Some rel → r ≡ relation_of rel
is_some found r rel e k =
    let Q : Option Rel → Type 0 = λ o. option_map relation_of o ≡ Some r in
    sym (same (relation_of rel) r (subst Q k e))
  where
    same : (a b : Relation) → Some a ≡ Some b → a ≡ b
    same a b e = let P : Option Relation → Type 0 = elim [ Some x ↦ a ≡ x | None ↦ Unit {0} ] in subst P e refl

pub within : (text : List ℕ) (scan : Scan) (p : Phrased text scan) (rel : Rel) → (scan.nodes ≤ 256) × (scan.most_open ≤ 32) → phrase_relation p.phrase ≡ relation_of rel → relation_depth (relation_of rel) ≤ 32 → IsWithinLimits p.phrase
within text scan p rel w e d =
    let n = p.follows.nodes in
    let m = phrase_nodes p.phrase in
    let b = p.follows.brackets in
    let k = ap relation_depth e in
    let few = w.0 in
    let open' = w.1 in
    record { nodes = omega (arith, n, m, few); depth = omega (arith, k, d); brackets = omega (arith, b, open') }

pub too_deep : (text : List ℕ) (scan : Scan) (p : Phrased text scan) (rel : Rel) → phrase_relation p.phrase ≡ relation_of rel → 32 < relation_depth (relation_of rel) → PassesALimit p.phrase
too_deep text scan p rel e d = let k = ap relation_depth e in inr (inl (omega (arith, k, d)))
