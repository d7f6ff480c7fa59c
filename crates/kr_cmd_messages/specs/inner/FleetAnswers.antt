-- What reading the words of a fleet gives.
use Rattle.std.specs.Prelude.{◌≡◌, ℕ, ◌⊎◌, List, codes, Option, None, Some, Result, Ok, Err, ⊤}
use Rattle.kr_words.specs.Options.{value_of}
use Rattle.kr_words.specs.declared.command.Verb.{Verb}
use Rattle.kr_words.specs.declared.command.Verb.TheVariants as verbs
use Rattle.kr_cmd_messages.specs.Command.{AskBadly}
use Rattle.kr_cmd_messages.specs.LoadAsked.{AskNoLoad}
use Rattle.kr_cmd_messages.specs.WatchAsked.{AskNoWatch}
use Rattle.kr_cmd_messages.specs.declared.fleet_words.FleetWords.{FleetWords}
use Rattle.kr_cmd_messages.specs.declared.refusal.Stop.{Stop}
use Rattle.kr_cmd_messages.specs.declared.refusal.Stop.TheVariants.{Words, NoMemory}
use Rattle.kr_cmd_messages.specs.FleetAsked.{AsksFleet, AskNoFleet}

-- they ask for this one, or for none
abbrev pub IsFleetAsked : List (List ℕ) → Result (Option FleetWords) Stop → Type 0
IsFleetAsked words (Ok (Some asked)) = AsksFleet words asked
IsFleetAsked words (Ok None) = AskNoFleet words
IsFleetAsked words (Err (Words why)) =
    AskBadly why words × AskNoFleet words × AskNoLoad words × AskNoWatch words
IsFleetAsked words (Err NoMemory) = ⊤
IsFleetAsked words (Err stop) = ⊥

-- the fleet that options name, if they name its file and the store
abbrev pub NamesFleet : List (List ℕ × List ℕ) → Option FleetWords → Type 0
NamesFleet options None =
    (value_of options (codes "file") ≡ None) ⊎ (value_of options (codes "store") ≡ None)
NamesFleet options (Some fleet) = (value_of options (codes "file") ≡ Some fleet.file)
    × (value_of options (codes "store") ≡ Some fleet.store) × (fleet.options ≡ options)

-- the fleet of a verb with its options, if it is one
abbrev pub IsFleetOf : Verb → List (List ℕ × List ℕ) → Option FleetWords → Type 0
IsFleetOf verb options None = (verb ≡ verbs.Fleet → ⊥) ⊎ NamesFleet options None
IsFleetOf verb options (Some asked) = (verb ≡ verbs.Fleet) × NamesFleet options (Some asked)
