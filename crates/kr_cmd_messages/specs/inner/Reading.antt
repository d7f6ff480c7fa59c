-- What reading the words of a call gives.
use Rattle.std.specs.Prelude.{◌≡◌, ℕ, List, ◌∷◌, Option, None, Some, Result, Ok, Err, ⊤}
use Rattle.kr_words.specs.Grammar.{ReadsWords}
use Rattle.kr_words.specs.declared.command.CommandWords.{CommandWords}
use Rattle.kr_words.specs.declared.command.WordsNo.{WordsNo}
use Rattle.kr_words.specs.declared.command.WordsNo.TheVariants as no
use Rattle.kr_cmd_messages.specs.declared.refusal.BadWords.{BadWords}
use Rattle.kr_cmd_messages.specs.declared.refusal.BadWords.TheVariants.{Usage, Replicas, Size, Page}
use Rattle.kr_cmd_messages.specs.declared.refusal.Stop.{Stop}
use Rattle.kr_cmd_messages.specs.declared.refusal.Stop.TheVariants.{Words, NoMemory}

-- what the reader refuses words for
abbrev pub refusal_of : BadWords → WordsNo
refusal_of Usage = no.Usage
refusal_of Replicas = no.Replicas
refusal_of Size = no.Size
refusal_of Page = no.Page

-- a command within the limits, or the stop of what refuses the words
abbrev pub AreRead : List (List ℕ) → Result CommandWords Stop → Type 0
AreRead words (Ok command) = ReadsWords words (Ok command)
AreRead words (Err (Words why)) = ReadsWords words (Err (refusal_of why))
AreRead words (Err NoMemory) = ⊤
AreRead words (Err stop) = ⊥

-- the first word is this one
abbrev pub BeginWith : List ℕ → List (List ℕ) → Type 0
BeginWith name words = (rest : List (List ℕ)) × (words ≡ name ∷ rest)

-- the same of words that begin with this one, and nothing of others
abbrev pub AreReadBehind : List ℕ → List (List ℕ) → Result (Option CommandWords) Stop → Type 0
AreReadBehind name words (Ok (Some command)) = BeginWith name words × AreRead words (Ok command)
AreReadBehind name words (Ok None) = BeginWith name words → ⊥
AreReadBehind name words (Err stop) = BeginWith name words × AreRead words (Err stop)
