use Rattle.std.proofs.Common.{◌≡◌, ℕ, ◌∷◌, ◌++◌, List, Bor, [], map, sym, ap, ◌∙◌, subst, arith}
use Rattle.std.proofs.lemmas.Bool.{false≢true}
use Rattle.std.proofs.lemmas.Grind.{common_steps}
use Rattle.std.proofs.lemmas.Result.{err_from_is_err_and}
use Rattle.pair_form.specs.Forms.{IsLink}
use Rattle.pair_form.specs.Reads.{Refuses}
use Rattle.pair_form.proofs.Links.{all_read, more_behind, no_line_of_link, no_link_here, none_left, one_more, some_left}
use Rattle.pair_form.proofs.read.links_of.Goals as goal

pub returns-in_err-words : goal.returns-in_err-words
returns-in_err-words c =
    let p = err_from_is_err_and c.from_residual.result c.from_residual.ensures.1 in
    rw (p.1, p.2) (no_line_of_link c.args.bytes.now c.loop-links.rest.now c.loop-links.links.items c.loop-links.invariant c.in_err-words.field-0.0 c.in_err-words.ensures)

pub returns-then-is_empty : goal.returns-then-is_empty
returns-then-is_empty c =
    let last = ap (map (λ (w : Bor (List ℕ)). w.now)) (sym c.as_slice.ensures.value) ∙ c.is_end.ensures.0 c.if-is_end.true in
    all_read c.args.bytes.now c.loop-links.rest.now c.loop-links.links.items _ c.in_ok-words.others.now c.loop-links.invariant c.in_ok-words.ensures last (none_left c.in_ok-words.others.now (sym c.is_empty.ensures ∙ c.if-is_empty.true))

pub returns-then-is_end : goal.returns-then-is_end
returns-then-is_end c =
    let last = ap (map (λ (w : Bor (List ℕ)). w.now)) (sym c.as_slice.ensures.value) ∙ c.is_end.ensures.0 c.if-is_end.true in
    more_behind c.args.bytes.now c.loop-links.rest.now c.loop-links.links.items _ c.in_ok-words.others.now c.loop-links.invariant c.in_ok-words.ensures last (some_left c.in_ok-words.others.now (sym c.is_empty.ensures ∙ c.if-is_empty.false))

pub returns-in_err-link : goal.returns-in_err-link
returns-in_err-link c =
    let p = err_from_is_err_and c.from_residual-in_err-link.result c.from_residual-in_err-link.ensures.1 in
    let none = subst (λ (ws : List (Bor (List ℕ))). Refuses (IsLink (map (λ w. w.now) ws)) c.in_err-link.field-0.0) c.as_slice-in-loop-links.ensures.value c.in_err-link.ensures in
    rw (p.1, p.2) (no_link_here c.args.bytes.now c.loop-links.rest.now c.loop-links.links.items _ c.in_ok-words.others.now c.loop-links.invariant c.in_ok-words.ensures
    (λ e. false≢true (sym c.if-is_end.false ∙ c.is_end.ensures.1 (ap (map (λ (w : Bor (List ℕ)). w.now)) c.as_slice.ensures.value ∙ e))) c.in_err-link.field-0.0 none)

pub loop-links-preserved : goal.loop-links-preserved
loop-links-preserved c =
    let here = subst (λ (ws : List (Bor (List ℕ))). IsLink (map (λ w. w.now) ws) c.in_ok-link.link) c.as_slice-in-loop-links.ensures.value c.in_ok-link.ensures in
    let items : c.push.new.self.items ≡ c.loop-links.links.items ++ c.in_ok-link.link ∷ [] = grind (arith, common_steps) in
    rw items (one_more c.args.bytes.now c.loop-links.rest.now c.loop-links.links.items _ c.in_ok-words.others.now c.in_ok-link.link c.loop-links.invariant c.in_ok-words.ensures
    (λ e. false≢true (sym c.if-is_end.false ∙ c.is_end.ensures.1 (ap (map (λ (w : Bor (List ℕ)). w.now)) c.as_slice.ensures.value ∙ e))) here)
