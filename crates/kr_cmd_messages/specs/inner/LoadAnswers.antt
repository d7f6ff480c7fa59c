-- What reading the words of a generated load gives.
use Rattle.std.specs.Prelude.{◌≡◌, ℕ, ◌⊎◌, List, codes, Option, None, Some, Result, Ok, Err, ⊤}
use Rattle.kr_words.specs.Arguments.{IsNumberAt}
use Rattle.kr_words.specs.Options.{value_of}
use Rattle.kr_words.specs.declared.command.Verb.{Verb}
use Rattle.kr_words.specs.declared.command.Verb.TheVariants as verbs
use Rattle.kr_cmd_messages.specs.Command.{AskBadly}
use Rattle.kr_cmd_messages.specs.declared.load_words.LoadWords.{LoadWords}
use Rattle.kr_cmd_messages.specs.declared.refusal.Stop.{Stop}
use Rattle.kr_cmd_messages.specs.declared.refusal.Stop.TheVariants.{Words, NoMemory}
use Rattle.kr_cmd_messages.specs.LoadAsked.{AsksLoad, AskNoLoad}
use Rattle.kr_cmd_messages.specs.WatchAsked.{AskNoWatch}

-- they ask for this one, or for none
abbrev pub IsLoadAsked : List (List ℕ) → Result (Option LoadWords) Stop → Type 0
IsLoadAsked words (Ok (Some asked)) = AsksLoad words asked
IsLoadAsked words (Ok None) = AskNoLoad words
IsLoadAsked words (Err (Words why)) =
    AskBadly why words × AskNoLoad words × AskNoWatch words
IsLoadAsked words (Err NoMemory) = ⊤
IsLoadAsked words (Err stop) = ⊥

-- the load of a verb with its options, if it is one
abbrev pub IsLoadOf : Verb → List (List ℕ × List ℕ) → Option LoadWords → Type 0
IsLoadOf verb options None = (verb ≡ verbs.Gen → ⊥) ⊎ (value_of options (codes "store") ≡ None)
IsLoadOf verb options (Some asked) = (verb ≡ verbs.Gen)
    × IsNumberAt options (codes "seed") asked.seed
    × IsNumberAt options (codes "size") asked.size
    × (value_of options (codes "store") ≡ Some asked.store)
