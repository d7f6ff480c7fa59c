-- Words ask for one command.
use Rattle.std.proofs.Common.{◌≡◌, ℕ, ◌<◌, ◌≤◌, List, Option, None, Some, Err, inl, inr, sym, ◌∙◌, ap, subst, arith}
use Rattle.std.specs.Prelude.{IfSome, IsSomeAnd, codes}
use Rattle.kr_words.specs.Grammar.{HasFewReplicas, HasManyReplicas, IsWithinPage, IsWithinSize, Means, ReadsWords}
use Rattle.kr_words.specs.Numerals.{IsDecimal}
use Rattle.kr_words.specs.Options.{value_of}
use Rattle.kr_words.specs.declared.command.Verb.{Verb}
use Rattle.kr_words.proofs.Meanings.{mean_one}
use Rattle.kr_cmd_messages.specs.Command.{verb_command, Asks, AskBadly, AskNothing}
use Rattle.kr_cmd_messages.specs.declared.command.Command.{Command}
use Rattle.kr_cmd_messages.specs.declared.refusal.BadWords.{BadWords}
use Rattle.kr_cmd_messages.specs.declared.refusal.BadWords.TheVariants.{Usage, Replicas, Size, Page}
use Rattle.kr_cmd_messages.specs.inner.Reading.{refusal_of}

-- words that ask for a command ask for something
pub asks_something : {words : List (List ℕ)} {command : Command} → Asks words command
    → AskNothing words → ⊥
asks_something asks none =
    absurd (let e = sym asks.is ∙ (none asks.verb asks.options asks.means).0 in cc)

pub one_command : {words : List (List ℕ)} {a b : Command} → Asks words a → Asks words b → a ≡ b
one_command {words} {a} {b} h k =
    let same = mean_one words k.verb h.verb k.options h.options k.means h.means in
    let is : Some a ≡ Some b = sym h.is ∙ ap (λ v. verb_command v h.options) (sym same.0)
    ∙ ap (λ o. verb_command k.verb o) (sym same.1) ∙ k.is in cc

-- a number isn't both within the limit and above
pub one_size : (size : Option (List ℕ)) → IfSome size (λ text. (n : ℕ) × IsDecimal text n × (n ≤ 10000))
    → IsSomeAnd size (λ text. (n : ℕ) × IsDecimal text n × (10000 < n)) → ⊥
one_size None h k = absurd k
one_size (Some text) (n, is, small) (m, so, large) = omega (arith, small, large, is.1, so.1)

one_count : (count : Option (List ℕ)) → IfSome count (λ text. (n : ℕ) × IsDecimal text n × (n ≤ 16))
    → IsSomeAnd count (λ text. (n : ℕ) × IsDecimal text n × (16 < n)) → ⊥
one_count None h k = absurd k
one_count (Some text) (n, is, small) (m, so, large) = omega (arith, small, large, is.1, so.1)

-- there aren't both few replicas and many
pub not_few_and_many : (options : List (List ℕ × List ℕ)) → HasFewReplicas options
    → HasManyReplicas options → ⊥
not_few_and_many options few (inl files) = omega (arith, few.0, files)
not_few_and_many options few (inr number) =
    one_count (value_of options (codes "replicas")) few.1 number

-- words that are refused mean no command within the limits
pub means_none_within : {words : List (List ℕ)} (why : BadWords)
    → ReadsWords words (Err (refusal_of why)) → (verb : Verb) (options : List (List ℕ × List ℕ))
    → Means words verb options → HasFewReplicas options → IsWithinSize options
    → IsWithinPage options → ⊥
means_none_within Usage reads verb options means few small page = reads verb options means
means_none_within {words} Replicas (other, given, so, many) verb options means few small page =
    let same = (mean_one words verb other options given means so).1 in
    not_few_and_many given (subst HasFewReplicas same few) many
means_none_within {words} Size (other, given, so, fits, large) verb options means few small page =
    let same = (mean_one words verb other options given means so).1 in
    one_size (value_of given (codes "size")) (subst IsWithinSize same small) large
means_none_within {words} Page (other, given, so, fits, fit, large) verb options means few small
    page =
    let same = (mean_one words verb other options given means so).1 in
    one_size (value_of given (codes "limit")) (subst IsWithinPage same page) large

within : {words : List (List ℕ)} {command : Command} → Asks words command → (why : BadWords)
    → ReadsWords words (Err (refusal_of why)) → ⊥
within asks why reads =
    means_none_within why reads asks.verb asks.options asks.means asks.few asks.small asks.page

-- words that ask for a command don't stop it
pub no_stop : {words : List (List ℕ)} {command : Command} (why : BadWords) → Asks words command
    → AskBadly why words → ⊥
no_stop Usage asks bad = asks_something asks bad
no_stop Replicas asks bad = within asks Replicas bad
no_stop Size asks bad = within asks Size bad
no_stop Page asks bad = within asks Page bad

-- ---- numbers and values at a name

-- a number within the limit fits
pub number_fits : (value : Option (List ℕ)) (number : ℕ)
    → IfSome value (λ text. (n : ℕ) × IsDecimal text n × (n ≤ 10000))
    → IsSomeAnd value (λ text. IsDecimal text number) → number ≤ 10000
number_fits None number h k = absurd k
number_fits (Some text) number (n, is, small) so = omega (arith, small, is.1, so.1)

pub one_number : (value : Option (List ℕ)) (m n : ℕ) → IsSomeAnd value (λ text. IsDecimal text m)
    → IsSomeAnd value (λ text. IsDecimal text n) → m ≡ n
one_number None m n h k = absurd h
one_number (Some text) m n h k = omega (arith, h.1, k.1)

-- the value at a name of options that are the same
pub one_value : {options given : List (List ℕ × List ℕ)} → options ≡ given → (name : List ℕ)
    → {x y : List ℕ} → value_of options name ≡ Some x → value_of given name ≡ Some y → x ≡ y
one_value same name is so = let e = sym is ∙ ap (λ o. value_of o name) same ∙ so in cc
