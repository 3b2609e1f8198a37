use Rattle.std.proofs.Common.{◌≡◌, ℕ, ◌+◌, ◌-◌, List, [], ◌∷◌, ◌++◌, length, arith, rules, ◌∙◌, ap, sym, append-nil}
use Rattle.std.proofs.lemmas.Grind.{common_steps}
use Rattle.rand_core.specs.Steps.{first_words}
use Rattle.rand_pcg.specs.Lcg.{Lcg}
use Rattle.rand_pcg.specs.Pcg.{pcg32}
use Rattle.demo_course.specs.Draws.{words_of}
use Rattle.demo_course.proofs.Listing.{words-more, words-none}
use Rattle.demo_course.proofs.course.draw_words.Goals as goal

pub loop-i-init : goal.loop-i-init
unfolding words_of
loop-i-init c = record {
  drawn = ap (λ (l : List ℕ). l ++ first_words pcg32 50 c.seed_from_u64-generator.result) c.new-words.ensures.items ∙ ap (λ (g : Lcg). first_words pcg32 50 g) c.seed_from_u64-generator.ensures;
  size = ap length c.new-words.ensures.items;
}

pub loop-i-preserved : goal.loop-i-preserved
loop-i-preserved c = record {
  drawn = ap (λ (l : List ℕ). l ++ first_words pcg32 (50 - (c.loop-i._i + 1)) c.next_word.new.self) (c.in_ok-push.ensures.items)
      ∙ words-more pcg32 c.loop-i.words.items _ _ _ _ _ c.next_word.ensures (omega arith) ∙ c.loop-i.invariant.drawn;
  size = grind (arith, common_steps);
}

pub returns-clause-drawn : goal.returns-clause-drawn
returns-clause-drawn c =
    sym (append-nil c.loop-i.words.items) ∙ ap (λ (l : List ℕ). c.loop-i.words.items ++ l) (sym (words-none pcg32 (50 - c.loop-i._i) c.loop-i.generator (omega arith))) ∙ c.loop-i.invariant.drawn
