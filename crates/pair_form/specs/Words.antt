-- Words: some bytes, with no space and no end of a line among them.
use Rattle.std.specs.Prelude.{◌≡◌, ℕ, ◌==◌, Bool, true, false, List, [], ◌∷◌}
use Rattle.std.specs.List.{list_any}

-- a byte stands nowhere in a text
abbrev pub Lacks : ℕ → List ℕ → Type 0
Lacks c text = list_any (λ b. b == c) text ≡ false

abbrev pub is_some : List ℕ → Bool
is_some [] = false
is_some (c ∷ cs) = true

-- at least one byte, and no space and no byte 10
pub record IsWord (word : List ℕ) : Type 0 where
  pub some : is_some word ≡ true
  pub no_space : Lacks 32 word
  pub no_end : Lacks 10 word
