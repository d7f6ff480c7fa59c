-- What a command says at its end: its status, and its line on the errors sink.
use Rattle.std.specs.Prelude.{ℕ, List, [], ◌++◌, codes, decimal, Result, Ok, Err}
use Rattle.kr_base.specs.Limits.{config_limit, data_limit, journal_limit, value_limit, store_limit}
use Rattle.kr_words.specs.Grammar.{page_limit, replica_limit, size_limit}
use Rattle.kr_config.specs.declared.refusal.ConfigNo.{ConfigNo}
use Rattle.kr_config.specs.declared.refusal.ConfigNo.TheVariants as config
use Rattle.kr_config.specs.declared.refusal.Counted.{Counted}
use Rattle.kr_config.specs.declared.refusal.Counted.TheVariants.{Entries, Patterns, Keys, Plugins}
use Rattle.kr_config.specs.Refusals.{limit_of, code_of, first_number, second_number}
use Rattle.kr_judge.specs.Texts.{verdict_text}
use Rattle.kr_kms.specs.declared.health.Field.{Field}
use Rattle.kr_kms.specs.declared.health.Field.TheVariants.{Version, Healthz, KeyId}
use Rattle.kr_provider.specs.Refusals.{number_of, name_of}
use Rattle.kr_cmd_messages.specs.declared.refusal.Object.{Object}
use Rattle.kr_cmd_messages.specs.declared.refusal.Object.TheVariants.{Input, Output, Files, Dice, Store, Target, Plugin}
use Rattle.kr_cmd_messages.specs.declared.refusal.Refusal.{Refusal}
use Rattle.kr_cmd_messages.specs.declared.refusal.Refusal.TheVariants.{Absent, Configuration, Limit, Value, Placed, Broken, NoPath, NotEmpty, NotOld, NoPlugin, Unhealthy, Stray, OtherSecret, Unfit, Clash, Script}
use Rattle.kr_cmd_messages.specs.declared.refusal.Limit as limits
use Rattle.kr_cmd_messages.specs.declared.refusal.Limit.TheVariants as limit
use Rattle.kr_cmd_messages.specs.declared.refusal.Breach.{Breach}
use Rattle.kr_cmd_messages.specs.declared.refusal.Breach.TheVariants as breach
use Rattle.kr_cmd_messages.specs.declared.refusal.BadWords.{BadWords}
use Rattle.kr_cmd_messages.specs.declared.refusal.BadWords.TheVariants.{Usage, Replicas, Size, Page}
use Rattle.kr_cmd_messages.specs.declared.refusal.Stop.{Stop}
use Rattle.kr_cmd_messages.specs.declared.refusal.Stop.TheVariants.{Words, Refused, Fault, NoMemory}
use Rattle.kr_cmd_messages.specs.declared.refusal.Done.{Done}
use Rattle.kr_cmd_messages.specs.declared.refusal.Done.TheVariants.{Silent, Fresh, Stale, Blocked}

abbrev pub status_of_words : BadWords → ℕ
status_of_words Usage = 2
status_of_words Replicas = 6
status_of_words Size = 6
status_of_words Page = 6

-- a value may be written with a status of its own
abbrev pub status_of_done : Done → ℕ
status_of_done Silent = 0
status_of_done Fresh = 0
status_of_done Stale = 0
status_of_done Blocked = 1

abbrev pub status_of_configuration : ConfigNo → ℕ
status_of_configuration (config.Breach broken place) = 3
status_of_configuration (config.Yaml broken line) = 3
status_of_configuration (config.Limit counted) = 6

abbrev pub status_of_refusal : Refusal → ℕ
status_of_refusal (Absent name) = 3
status_of_refusal (Configuration why) = status_of_configuration why
status_of_refusal (NoPlugin name) = 3
status_of_refusal (Unhealthy name field text) = 3
status_of_refusal (Limit which) = 6
status_of_refusal (Value why) = 1
status_of_refusal (Placed why at) = 1
status_of_refusal (Broken why) = 3
status_of_refusal (NoPath path) = 1
status_of_refusal (NotEmpty length) = 3
status_of_refusal NotOld = 3
status_of_refusal (Stray path) = 3
status_of_refusal (OtherSecret path) = 3
status_of_refusal (Unfit replica verdict) = 3
status_of_refusal (Clash text) = 1
status_of_refusal (Script line) = 3

abbrev pub status_of : Result Done Stop → ℕ
status_of (Ok done) = status_of_done done
status_of (Err (Words why)) = status_of_words why
status_of (Err (Refused why)) = status_of_refusal why
status_of (Err (Fault object count)) = 4
status_of (Err NoMemory) = 5

-- some words, one that tells of what, and a number
abbrev pub counted_line : (start word : List ℕ) → ℕ → List ℕ
counted_line start word n = start ++ (word ++ (codes " " ++ (decimal n ++ codes "\n")))

abbrev pub limit_line : List ℕ → ℕ → List ℕ
limit_line word n = counted_line (codes "kmsrest: limit ") word n

-- what a configuration has too many of
abbrev pub counted_text : Counted → List ℕ
counted_text Entries = codes "entries"
counted_text Patterns = codes "patterns"
counted_text Keys = codes "keys"
counted_text Plugins = codes "kms"

abbrev pub breach_line : ConfigNo → List ℕ
breach_line why = codes "kmsrest: text " ++ (decimal (code_of why)
    ++ (codes " " ++ (decimal (first_number why)
    ++ (codes " " ++ (decimal (second_number why) ++ codes "\n")))))

abbrev pub configuration_line : ConfigNo → List ℕ
configuration_line (config.Breach broken place) = breach_line (config.Breach broken place)
configuration_line (config.Yaml broken line) = breach_line (config.Yaml broken line)
configuration_line (config.Limit counted) = limit_line (counted_text counted) (limit_of counted)

abbrev pub words_line : BadWords → List ℕ
words_line Usage = codes "kmsrest: usage: kmsrest COMMAND OPTIONS\n"
words_line Replicas = limit_line (codes "replicas") replica_limit
words_line Size = limit_line (codes "size") size_limit
words_line Page = limit_line (codes "page") page_limit

abbrev pub limit_text : limits.Limit → List ℕ
limit_text limit.Config = codes "config"
limit_text limit.Data = codes "data"
limit_text limit.Value = codes "value"
limit_text limit.Store = codes "store"
limit_text limit.Script = codes "script"
limit_text limit.Replicas = codes "replicas"
limit_text limit.Workers = codes "workers"
limit_text limit.Journal = codes "journal"

abbrev pub limit_size : limits.Limit → ℕ
limit_size limit.Config = config_limit
limit_size limit.Data = data_limit
limit_size limit.Value = value_limit
limit_size limit.Store = store_limit
limit_size limit.Script = store_limit
limit_size limit.Replicas = replica_limit
limit_size limit.Workers = 64
limit_size limit.Journal = journal_limit

-- the code of what a store's file breaks, and its place
abbrev pub broken_code : Breach → List ℕ
broken_code breach.Magic = codes "41"
broken_code (breach.Torn at) = codes "42"
broken_code (breach.BadRow at) = codes "43"
broken_code (breach.Order at) = codes "46"

abbrev pub breach_place : Breach → ℕ
breach_place breach.Magic = 0
breach_place (breach.Torn at) = at
breach_place (breach.BadRow at) = at
breach_place (breach.Order at) = at

-- a field of a plugin's status
abbrev pub field_text : Field → List ℕ
field_text Version = codes "version"
field_text Healthz = codes "healthz"
field_text KeyId = codes "key_id"

abbrev pub unhealthy_line : (name field text : List ℕ) → List ℕ
unhealthy_line name field text = codes "kmsrest: text 45 " ++ (name
    ++ (codes " " ++ (field ++ (codes " " ++ (text ++ codes "\n")))))

abbrev pub refusal_line : Refusal → List ℕ
refusal_line (Absent name) = codes "kmsrest: text 40 " ++ (name ++ codes "\n")
refusal_line (Configuration why) = configuration_line why
refusal_line (NoPlugin name) = codes "kmsrest: text 44 " ++ (name ++ codes "\n")
refusal_line (Unhealthy name field text) = unhealthy_line name (field_text field) text
refusal_line (Limit which) = limit_line (limit_text which) (limit_size which)
refusal_line (Value why) = codes "kmsrest: refused " ++ (decimal (number_of why)
    ++ (codes " " ++ (name_of why ++ codes "\n")))
refusal_line (Placed why at) =
    codes "kmsrest: refused " ++ (decimal (number_of why)
    ++ (codes " " ++ (name_of why ++ (codes " " ++ (decimal at ++ codes "\n")))))
refusal_line (Broken why) = counted_line (codes "kmsrest: text ") (broken_code why)
    (breach_place why)
refusal_line (NoPath path) = codes "kmsrest: absent " ++ (path ++ codes "\n")
refusal_line (NotEmpty length) = counted_line (codes "kmsrest: text ") (codes "52") length
refusal_line NotOld = codes "kmsrest: text 53 2\n"
refusal_line (Stray path) = codes "kmsrest: text 48 " ++ (path ++ codes "\n")
refusal_line (OtherSecret path) = codes "kmsrest: text 51 " ++ (path ++ codes "\n")
refusal_line (Unfit replica verdict) = codes "kmsrest: text 49 " ++ (decimal replica
    ++ (codes " " ++ (verdict_text verdict ++ codes "\n")))
refusal_line (Clash text) = codes "kmsrest: clash " ++ (text ++ codes "\n")
refusal_line (Script line) = counted_line (codes "kmsrest: text ") (codes "47") line

abbrev pub object_text : Object → List ℕ
object_text Input = codes "input"
object_text Output = codes "output"
object_text Files = codes "files"
object_text Store = codes "store"
object_text Target = codes "target"
object_text (Dice seat) = codes "dice " ++ decimal seat
object_text (Plugin name) = codes "plugin " ++ name

abbrev pub fault_line : Object → ℕ → List ℕ
fault_line object count = counted_line (codes "kmsrest: fault ") (object_text object) count

-- `decrypt` and `get` say whether the value is one that the resource's writer would write today
abbrev pub done_line : Done → List ℕ
done_line Silent = []
done_line Fresh = codes "fresh\n"
done_line Stale = codes "stale\n"
done_line Blocked = []

abbrev pub line_of : Result Done Stop → List ℕ
line_of (Ok done) = done_line done
line_of (Err (Words why)) = words_line why
line_of (Err (Refused why)) = refusal_line why
line_of (Err (Fault object count)) = fault_line object count
line_of (Err NoMemory) = codes "kmsrest: memory\n"
