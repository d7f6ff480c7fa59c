-- The refusals of configurations by their codes and numbers, as messages have them, and the limits.
use Rattle.std.specs.Prelude.{ℕ}
use Rattle.kr_config.specs.declared.refusal.Rule.{Rule}
use Rattle.kr_config.specs.declared.refusal.Rule.TheVariants as rule
use Rattle.kr_config.specs.declared.refusal.YamlRule.{YamlRule}
use Rattle.kr_config.specs.declared.refusal.YamlRule.TheVariants as yaml_rule
use Rattle.kr_config.specs.declared.refusal.Counted.{Counted}
use Rattle.kr_config.specs.declared.refusal.Counted.TheVariants.{Entries, Patterns, Keys, Plugins}
use Rattle.kr_config.specs.declared.refusal.ConfigNo.{ConfigNo}
use Rattle.kr_config.specs.declared.refusal.ConfigNo.TheVariants.{Breach, Yaml, Limit}

abbrev pub code_of_rule : Rule → ℕ
code_of_rule rule.Json = 20
code_of_rule rule.Form = 22
code_of_rule rule.ApiVersion = 23
code_of_rule rule.Kind = 24
code_of_rule rule.EmptyList = 25
code_of_rule rule.NoProvider = 26
code_of_rule rule.SeveralProviders = 27
code_of_rule rule.Secretbox = 28
code_of_rule rule.KmsV1 = 29
code_of_rule rule.KmsVersion = 30
code_of_rule rule.Name = 31
code_of_rule rule.Endpoint = 32
code_of_rule rule.Base64 = 33
code_of_rule rule.SecretLength = 34
code_of_rule rule.Pattern = 35
code_of_rule rule.SamePattern = 36
code_of_rule rule.Overlap = 37
code_of_rule rule.SameProvider = 38

abbrev pub number_of_yaml_rule : YamlRule → ℕ
number_of_yaml_rule yaml_rule.Outside = 1
number_of_yaml_rule yaml_rule.Indent = 2
number_of_yaml_rule yaml_rule.DuplicateKey = 3
number_of_yaml_rule yaml_rule.Deep = 4
number_of_yaml_rule yaml_rule.NotUtf8 = 5

abbrev pub number_of_counted : Counted → ℕ
number_of_counted Entries = 1
number_of_counted Patterns = 2
number_of_counted Keys = 3
number_of_counted Plugins = 4

-- the most of these in a whole configuration
abbrev pub limit_of : Counted → ℕ
limit_of Entries = 64
limit_of Patterns = 256
limit_of Keys = 64
limit_of Plugins = 16

abbrev pub code_of : ConfigNo → ℕ
code_of (Breach broken place) = code_of_rule broken
code_of (Yaml broken line) = 21
code_of (Limit counted) = 39

-- the numbers behind the code: those of the entry and of the pattern or provider element in it, or
-- the line and the number of its rule, or what has the limit and the limit
abbrev pub first_number : ConfigNo → ℕ
first_number (Breach broken place) = place.entry
first_number (Yaml broken line) = line
first_number (Limit counted) = number_of_counted counted

abbrev pub second_number : ConfigNo → ℕ
second_number (Breach broken place) = place.item
second_number (Yaml broken line) = number_of_yaml_rule broken
second_number (Limit counted) = limit_of counted
