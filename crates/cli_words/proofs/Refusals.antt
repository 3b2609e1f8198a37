-- The command is simple, its arguments have no rules on one another, and what its answers say.
use Rattle.std.proofs.Common.{◌≡◌, ◌≢◌, true, cond, List, [], ◌∷◌, Option, None, refl, inl, inr}
use Rattle.clap.specs.Faults.{fault_of, is_simple_and_free}
use Rattle.clap.specs.Kinds.{HasKind, Kinds}
use Rattle.clap.specs.Simple.{is_simple, matches_of}
use Rattle.clap.specs.Values.{kind_of}
use Rattle.clap.specs.Walk.{Row, Text}
use Rattle.clap.specs.declared.error.Error.{Error}
use Rattle.clap.specs.declared.error.kind.ErrorKind.TheVariants.{OutOfMemory}
use Rattle.clap.proofs.OnLiterals.{clap_on_literals}
use Rattle.cli_words.specs.Asked.{asked_by, asked_of, is_empty}
use Rattle.cli_words.specs.Rules.{command_app}
use Rattle.cli_words.specs.declared.answer.Asked.{Asked}

pub is_free : is_simple_and_free command_app ≡ true
unfolding clap_on_literals command_app
is_free = refl

pub is_plain : is_simple command_app ≡ true
unfolding clap_on_literals command_app
is_plain = refl

-- the words that the command takes
pub asked_taken : (words : List Text) (rows : List Row) → fault_of command_app words ≡ [] → rows ≡ matches_of command_app words → asked_by rows ≡ asked_of words
unfolding asked_of
asked_taken words rows e h = rw (e, h) refl

-- the words that it refuses
pub asked_refused : (words : List Text) (error : Error) → kind_of error ≢ OutOfMemory → HasKind (fault_of command_app words) error → None ≡ asked_of words
unfolding asked_of
asked_refused words error other h = go (fault_of command_app words) h
  where
    go : (kinds : Kinds) → HasKind kinds error → ◌≡◌ {A = Option Asked} None (cond (is_empty kinds) (asked_by (matches_of command_app words)) None)
    go [] k = elim k [ inl e ↦ absurd (other e) | inr e ↦ absurd e ]
    go (x ∷ xs) k = refl
