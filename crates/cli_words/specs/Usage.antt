-- What is written where the words name no run: how the program is called.
use Rattle.std.specs.Prelude.{ℕ, List, codes}

-- how the program is called
unfoldable pub usage_line : List ℕ
usage_line = codes "usage: codac_cli solve|loops|demo|area [--budget N] [--order fifo|lifo|rank] [--brief] [--seed N] [--step N]\n"
