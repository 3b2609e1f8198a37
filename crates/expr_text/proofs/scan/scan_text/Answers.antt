use Rattle.std.proofs.Common.{◌≡◌, ℕ, Bool, true, false, List, [], length, drop, ap, sym, subst, ◌∙◌, arith, length-drop}
use Rattle.expr_text.specs.declared.token.Token.{Token}
use Rattle.expr_text.specs.declared.scan.Scan.{Scan}
use Rattle.expr_text.specs.Scans.{Goes}
use Rattle.expr_text.proofs.scan.scan_text.Goals as goal
use Rattle.expr_text.proofs.Sizes.{token_size}
use Rattle.expr_text.proofs.Texts.{without-le}
use Rattle.expr_text.proofs.Faults.{Taken, fault_none, fault_next, fault_end, taken_more}

goes_at : (b d : Bool) (t : Token) (old new : Scan) → b ≡ d → Goes b t old new → Goes d t old new
goes_at b d t old new e h = let P : Bool → Type 0 = λ k. Goes k t old new in subst P e h

pub loop-rest-init : goal.loop-rest-init
loop-rest-init c =
    record {
      room = omega (arith, c.new-scan.ensures.empty, ap length c.without_spaces-rest.ensures, without-le c.args.text.now);
      taken = ([], sym c.without_spaces-rest.ensures, c.new-scan.ensures.follows);
    }

pub returns-in_default : goal.returns-in_default
returns-in_default c =
    fault_none c.args.text.now c.loop-rest.rest.now c.loop-rest.scan c.loop-rest.invariant.taken (omega (arith, c.loop-rest.invariant.room)) (grind arith) (sym c.in_default.is ∙ c.in_ok-token.ensures)

pub returns-then-not-branch : goal.returns-then-not-branch
returns-then-not-branch c =
    fault_next c.args.text.now c.loop-rest.rest.now c.loop-rest.scan c.take.new.self c.in-Some.token c.in-Some.size c.loop-rest.invariant.taken (omega (arith, c.loop-rest.invariant.room)) (grind arith) (sym c.in-Some.is ∙ c.in_ok-token.ensures)
    (goes_at _ false _ _ _ c.if-not-branch.true c.in_ok-take.ensures.goes)

pub behind-rest-requires : goal.behind-rest-requires
behind-rest-requires c = (token_size c.loop-rest.rest.now c.in-Some.token c.in-Some.size (sym c.in_ok-token.ensures ∙ c.in-Some.is)).1

pub loop-rest-smaller : goal.loop-rest-smaller
loop-rest-smaller c =
    let size = token_size c.loop-rest.rest.now c.in-Some.token c.in-Some.size (sym c.in_ok-token.ensures ∙ c.in-Some.is) in
    let some = size.0 in
    let most = size.1 in
    omega (arith, some, most, ap length c.behind-rest.ensures, without-le (drop c.in-Some.size c.loop-rest.rest.now), length-drop c.in-Some.size c.loop-rest.rest.now)

pub loop-rest-preserved : goal.loop-rest-preserved
loop-rest-preserved c =
    let size = token_size c.loop-rest.rest.now c.in-Some.token c.in-Some.size (sym c.in_ok-token.ensures ∙ c.in-Some.is) in
    let some = size.0 in
    let most = size.1 in
    record {
      room = omega (arith, c.loop-rest.invariant.room, c.in_ok-take.ensures.counted, some, most, ap length c.behind-rest.ensures, without-le (drop c.in-Some.size c.loop-rest.rest.now), length-drop c.in-Some.size c.loop-rest.rest.now);
      taken = subst (λ (r : List ℕ). Taken c.args.text.now r c.take.new.self) (sym c.behind-rest.ensures) (taken_more c.args.text.now c.loop-rest.rest.now c.loop-rest.scan c.take.new.self c.in-Some.token c.in-Some.size c.loop-rest.invariant.taken (sym c.in-Some.is ∙ c.in_ok-token.ensures) (goes_at _ true _ _ _ c.if-not-branch.false c.in_ok-take.ensures.goes));
    }

pub returns-then-not-is_whole : goal.returns-then-not-is_whole
returns-then-not-is_whole c =
    fault_end c.args.text.now c.loop-rest.rest.now c.loop-rest.scan c.loop-rest.invariant.taken (grind arith) (sym c.is_whole.ensures ∙ c.if-not-is_whole.true)
