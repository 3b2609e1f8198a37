-- The numbers that a demo mission draws.
use Rattle.std.specs.Prelude.{ℕ, ◌+◌, ◌*◌, ◌%◌, List, slice_index, ℤ, pos, ◌+ℤ◌, neg_ℤ}
use Rattle.rand_core.specs.Pcg32Seed.{pcg32_seed}
use Rattle.rand_core.specs.Steps.{first_words}
use Rattle.rand_pcg.specs.Pcg.{pcg32, pcg32_of_seed}
use Rattle.demo_course.specs.declared.Axis.{Axis}
use Rattle.demo_course.specs.declared.Axis.TheVariants.{X, Y}

-- the first n words of PCG32 (XSH RR 64/32), seeded by a number
unfoldable pub words_of : ℕ → ℕ → List ℕ
words_of seed n = first_words pcg32 n (pcg32_of_seed (pcg32_seed 16 seed))

-- the number from -reach to reach that a word draws: the least of them plus the word modulo how many they are
abbrev pub draw : ℕ → ℕ → ℤ
draw reach word = neg_ℤ (pos reach) +ℤ pos (word % (2 * reach + 1))

-- draws come in pairs, that of x first
abbrev pub offset_of : Axis → ℕ
offset_of X = 0
offset_of Y = 1

-- the rate of a coordinate in stretch j, in millimetres a tick: the words 0 to 39 draw them
unfoldable pub rate_of : List ℕ → Axis → ℕ → ℤ
rate_of words axis j = draw 20 (slice_index words (2 * j + offset_of axis))

-- where beacon i stands, in millimetres: the words 40 to 49 draw it
unfoldable pub place_of : List ℕ → Axis → ℕ → ℤ
place_of words axis i = draw 20000 (slice_index words (2 * i + 40 + offset_of axis))
