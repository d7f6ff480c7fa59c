-- What reading the words of a watch gives.
use Rattle.std.specs.Prelude.{◌≡◌, ℕ, ◌⊎◌, List, codes, Option, None, Some, Result, Ok, Err, ⊤}
use Rattle.kr_words.specs.Arguments.{IsNumberAt}
use Rattle.kr_words.specs.Options.{value_of}
use Rattle.kr_words.specs.declared.command.Verb.{Verb}
use Rattle.kr_words.specs.declared.command.Verb.TheVariants as verbs
use Rattle.kr_cmd_messages.specs.Command.{AskBadly}
use Rattle.kr_cmd_messages.specs.WatchAsked.{AsksWatch, AskNoWatch, IsSince}
use Rattle.kr_cmd_messages.specs.inner.FleetAnswers.{NamesFleet}
use Rattle.kr_cmd_messages.specs.declared.watch_words.WatchWords.{WatchWords}
use Rattle.kr_cmd_messages.specs.declared.refusal.Stop.{Stop}
use Rattle.kr_cmd_messages.specs.declared.refusal.Stop.TheVariants.{Words, NoMemory}

-- they ask for this one, or for none
abbrev pub IsWatchAsked : List (List ℕ) → Result (Option WatchWords) Stop → Type 0
IsWatchAsked words (Ok (Some asked)) = AsksWatch words asked
IsWatchAsked words (Ok None) = AskNoWatch words
IsWatchAsked words (Err (Words why)) = AskBadly why words × AskNoWatch words
IsWatchAsked words (Err NoMemory) = ⊤
IsWatchAsked words (Err stop) = ⊥

-- the watch of a verb with its options, if it is one
abbrev pub IsWatchOf : Verb → List (List ℕ × List ℕ) → Option WatchWords → Type 0
IsWatchOf verb options None = (verb ≡ verbs.Watch → ⊥)
    ⊎ (value_of options (codes "resource") ≡ None) ⊎ NamesFleet options None
IsWatchOf verb options (Some asked) = (verb ≡ verbs.Watch)
    × NamesFleet options (Some asked.fleet)
    × (value_of options (codes "resource") ≡ Some asked.resource)
    × IsNumberAt options (codes "limit") asked.limit × IsSince options asked.since
