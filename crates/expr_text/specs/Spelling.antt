-- How tokens are spelled: the longest token that stands at the front of a text is taken.
use Rattle.std.specs.Prelude.{ℕ, ◌+◌, Bool, ◌==◌, ◌&&◌, ◌||◌, List, [], ◌∷◌, take, drop, slice_index, Option, Some, None, option_map, codes, bytes_eq, pos, if◌then◌else◌}
use Rattle.std.specs.List.{prefix_len}
use Rattle.log_spelling.specs.Names.{is_letter, is_name, is_name_byte}
use Rattle.log_spelling.specs.Numbers.{is_digit, magnitude_of}
use Rattle.expr_tree.specs.declared.RelOp.TheVariants as relop
use Rattle.expr_text.specs.declared.token.Token.{Token}
use Rattle.expr_text.specs.declared.token.Token.TheVariants as token

-- the text with no spaces at its front
abbrev pub without_spaces : List ℕ → List ℕ
without_spaces [] = []
without_spaces (c ∷ cs) = if c == 32 then without_spaces cs else c ∷ cs

-- a token and the number of bytes that it takes
abbrev pub Found : Type 0
Found = Option (Token × ℕ)

-- A number takes all the digits that stand there, and is none where there are more than eighteen.
unfoldable pub number_at : List ℕ → Found
number_at text =
    let n = prefix_len is_digit text in
    option_map (λ value. (token.Number (pos value), n)) (magnitude_of (take n text))

-- the functions
unfoldable pub function_of : List ℕ → Option Token
function_of word =
    if bytes_eq word (codes "sqr") then Some token.Sqr
    else if bytes_eq word (codes "abs") then Some token.Abs
    else if bytes_eq word (codes "min") then Some token.Min
    else if bytes_eq word (codes "max") then Some token.Max
    else None

-- `.x` or `.y` stands at the front
abbrev pub is_coordinate : List ℕ → Bool
is_coordinate text = (slice_index text 0 == 46) && ((slice_index text 1 == 120) || (slice_index text 1 == 121))

-- A name takes all the letters, digits and underscores that stand there, and the `.x` or `.y` after them.
-- It is none where they are more than 32.
unfoldable pub word_at : List ℕ → Found
word_at text =
    let n = prefix_len is_name_byte text in
    if is_name (take n text)
    then (if is_coordinate (drop n text) then Some (token.Name (take (n + 2) text), n + 2) else Some (token.Name (take n text), n))
    else option_map (λ function. (function, n)) (function_of (take n text))

-- an operator, a bracket or a comma; the second byte is 0 where there is none
unfoldable pub symbol_at : ℕ → ℕ → Found
symbol_at c next =
    if c == 43 then Some (token.Plus, 1)
    else if c == 45 then Some (token.Minus, 1)
    else if c == 42 then Some (token.Times, 1)
    else if c == 40 then Some (token.Open, 1)
    else if c == 41 then Some (token.Close, 1)
    else if c == 44 then Some (token.Comma, 1)
    else if c == 61 then Some (token.Compare relop.Eq, 1)
    else if c == 60 then (if next == 61 then Some (token.Compare relop.Le, 2) else Some (token.Compare relop.Lt, 1))
    else if c == 62 then (if next == 61 then Some (token.Compare relop.Ge, 2) else Some (token.Compare relop.Gt, 1))
    else None

-- the token at the front of a text, and how many bytes it takes
unfoldable pub token_at : List ℕ → Found
token_at text =
    if is_digit (slice_index text 0) then number_at text
    else if is_letter (slice_index text 0) then word_at text
    else symbol_at (slice_index text 0) (slice_index text 1)
