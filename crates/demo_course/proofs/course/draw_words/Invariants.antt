use Rattle.std.proofs.Common.{◌≡◌, ◌-◌, ◌++◌, length}
use Rattle.rand_core.specs.Steps.{first_words}
use Rattle.rand_pcg.specs.Pcg.{pcg32}
use Rattle.demo_course.specs.Draws.{words_of}
use Rattle.demo_course.proofs.course.draw_words.Given as goal

-- the words so far, and those that the generator gives from now on, are the words of the seed
abbrev pub invariant-loop-i : goal.invariant-loop-i
invariant-loop-i l = record {
  drawn : l.words.items ++ first_words pcg32 (50 - l._i) l.generator ≡ words_of l.seed 50;
  size : length l.words.items ≡ l._i;
}
