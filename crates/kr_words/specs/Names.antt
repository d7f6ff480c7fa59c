-- The commands, the names of their options, and which command takes which.
use Rattle.std.specs.Prelude.{◌≡◌, ◌⊎◌, ℕ, List, [], ◌∷◌, codes}
use Rattle.kr_words.specs.declared.command.Verb.TheVariants.{Verify}
use Rattle.kr_words.specs.declared.command.Verb.{Verb}
use Rattle.kr_words.specs.declared.command.Verb.TheVariants.{Encrypt, Decrypt, Check, Inspect, Put}
use Rattle.kr_words.specs.declared.command.Verb.TheVariants.{Get, Rows, Migrate, Judge, Plan, Rewrite}
use Rattle.kr_words.specs.declared.command.Verb.TheVariants.{Fleet, Gen, Watch}
use Rattle.kr_words.specs.declared.name.OptionName.{OptionName}
use Rattle.kr_words.specs.declared.name.OptionName.TheVariants.{Config, Resource, Path, Plugin}
use Rattle.kr_words.specs.declared.name.OptionName.TheVariants.{Store, Replica, Reload, File, Seed}
use Rattle.kr_words.specs.declared.name.OptionName.TheVariants.{Size, To, From, Replicas, Show}
use Rattle.kr_words.specs.declared.name.OptionName.TheVariants.{Limit, Since}

-- the word of a command
abbrev pub word_of : Verb → List ℕ
word_of Encrypt = codes "encrypt"
word_of Decrypt = codes "decrypt"
word_of Check = codes "check"
word_of Inspect = codes "inspect"
word_of Put = codes "put"
word_of Get = codes "get"
word_of Verify = codes "verify"
word_of Rows = codes "list"
word_of Migrate = codes "migrate"
word_of Judge = codes "judge"
word_of Plan = codes "plan"
word_of Rewrite = codes "rewrite"
word_of Fleet = codes "fleet"
word_of Gen = codes "gen"
word_of Watch = codes "watch"

-- the name of an option, without its dashes
abbrev pub option_text : OptionName → List ℕ
option_text Config = codes "config"
option_text Resource = codes "resource"
option_text Path = codes "path"
option_text Plugin = codes "plugin"
option_text Store = codes "store"
option_text Replica = codes "replica"
option_text Reload = codes "reload"
option_text File = codes "file"
option_text Seed = codes "seed"
option_text Size = codes "size"
option_text To = codes "to"
option_text From = codes "from"
option_text Replicas = codes "replicas"
option_text Show = codes "show"
option_text Limit = codes "limit"
option_text Since = codes "since"

-- the options that a command must have
abbrev pub required_options : Verb → List OptionName
required_options Encrypt = Config ∷ Resource ∷ Path ∷ []
required_options Decrypt = Config ∷ Resource ∷ Path ∷ []
required_options Check = Config ∷ []
required_options Inspect = []
required_options Put = Config ∷ Store ∷ Resource ∷ Path ∷ []
required_options Get = Config ∷ Store ∷ Path ∷ []
required_options Verify = Config ∷ Store ∷ []
required_options Rows = Store ∷ []
required_options Migrate = Config ∷ Store ∷ To ∷ []
required_options Judge = Store ∷ Replica ∷ Reload ∷ []
required_options Plan = From ∷ To ∷ Replicas ∷ []
required_options Rewrite = Config ∷ Store ∷ []
required_options Fleet = File ∷ Store ∷ []
required_options Gen = Seed ∷ Size ∷ Store ∷ []
required_options Watch = File ∷ Store ∷ Resource ∷ Limit ∷ []

-- the options that it may have besides
abbrev pub optional : Verb → List OptionName
optional Encrypt = Plugin ∷ []
optional Decrypt = Plugin ∷ []
optional Check = Resource ∷ []
optional Inspect = []
optional Put = Plugin ∷ []
optional Get = Plugin ∷ []
optional Verify = Plugin ∷ []
optional Rows = []
optional Migrate = []
optional Judge = []
optional Plan = Show ∷ []
optional Rewrite = Plugin ∷ []
optional Fleet = Plugin ∷ []
optional Gen = []
optional Watch = Plugin ∷ Since ∷ []

-- only plugins and replicas may repeat
abbrev pub IsRepeatable : OptionName → Type 0
IsRepeatable name = (name ≡ Plugin) ⊎ (name ≡ Replica)
