-- A page of a watch that is asked for has items.
use Rattle.std.proofs.Common.{ℕ, ◌≤◌, List, codes, Option, None, Some, arith}
use Rattle.std.specs.Prelude.{IfSome, IsSomeAnd}
use Rattle.kr_words.specs.Numerals.{IsDecimal}
use Rattle.kr_words.specs.Options.{value_of}
use Rattle.kr_words.specs.declared.command.Verb.TheVariants as verbs
use Rattle.kr_words.specs.declared.name.OptionName.TheVariants.{Limit}
use Rattle.kr_words.proofs.Values.{value_rule}
use Rattle.kr_cmd_messages.specs.WatchAsked.{AsksWatch}
use Rattle.kr_cmd_messages.specs.declared.watch_words.WatchWords.{WatchWords}

some_number : (value : Option (List ℕ)) (limit : ℕ)
    → IfSome value (λ text. (n : ℕ) × IsDecimal text n × (1 ≤ n))
    → IsSomeAnd value (λ text. IsDecimal text limit) → 1 ≤ limit
some_number None limit h k = absurd k
some_number (Some text) limit (n, is, some) so = omega (arith, some, is.1, so.1)

pub some_limit : (words : List (List ℕ)) (asked : WatchWords) → AsksWatch words asked
    → 1 ≤ asked.limit
some_limit words asked asks =
    some_number (value_of asked.fleet.options (codes "limit")) asked.limit
    (value_rule {verb = verbs.Watch} {options = asked.fleet.options} Limit asks.means.command)
    asks.limit
