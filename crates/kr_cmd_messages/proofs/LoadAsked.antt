-- What words that ask for a load are.
use Rattle.std.proofs.Common.{◌≡◌, ℕ, ◌≤◌, List, codes, Option, None, Some, Ok, subst, inl, inr}
use Rattle.kr_words.specs.Arguments.{IsNumberAt}
use Rattle.kr_words.specs.Grammar.{Means, ReadsWords}
use Rattle.kr_words.specs.Options.{value_of}
use Rattle.kr_words.specs.declared.command.Verb.TheVariants as verbs
use Rattle.kr_words.specs.declared.command.CommandWords.{CommandWords}
use Rattle.kr_words.proofs.Meanings.{mean_one}
use Rattle.kr_cmd_messages.specs.FleetAsked.{AsksFleet}
use Rattle.kr_cmd_messages.specs.LoadAsked.{AsksLoad}
use Rattle.kr_cmd_messages.specs.declared.fleet_words.FleetWords.{FleetWords}
use Rattle.kr_cmd_messages.specs.declared.load_words.LoadWords.{LoadWords}
use Rattle.kr_cmd_messages.specs.inner.LoadAnswers.{IsLoadAsked, IsLoadOf}
use Rattle.kr_cmd_messages.proofs.NoneAsked.{lacks, other_verb}
use Rattle.kr_cmd_messages.proofs.OneCommand.{number_fits, one_number, one_value}

-- the load that was read is the one that is asked for
pub load_asked_so : {words : List (List ℕ)} (command : CommandWords) → ReadsWords words (Ok command)
    → (asked : Option LoadWords) → IsLoadOf command.verb command.options.0 asked
    → IsLoadAsked words (Ok asked)
load_asked_so command reads None (inl other) = λ asked h. other_verb reads.0 h.means other
load_asked_so command reads None (inr none) =
    λ asked h. lacks reads.0 h.means (codes "store") none h.store
load_asked_so {words} command reads (Some asked) (verb, seed, size, store) = record {
  options = command.options.0;
  means = subst (λ v. Means words v command.options.0) verb reads.0;
  few = reads.1;
  small = reads.2;
  page = reads.3;
  seed = seed;
  size = size;
  store = store;
}

-- the size of words that ask for a load fits
pub asked_small : {words : List (List ℕ)} {asked : LoadWords} → AsksLoad words asked
    → asked.size ≤ 10000
asked_small {words} {asked} h =
    number_fits (value_of h.options (codes "size")) asked.size h.small h.size

-- the words ask for one load
pub one_load : (words : List (List ℕ)) (a b : LoadWords) → AsksLoad words a → AsksLoad words b
    → a ≡ b
one_load words a b p q =
    let same = (mean_one words verbs.Gen verbs.Gen p.options q.options p.means q.means).1 in
    let seed = one_number (value_of q.options (codes "seed")) a.seed b.seed
    (subst (λ o. IsNumberAt o (codes "seed") a.seed) same p.seed) q.seed in
    let size = one_number (value_of q.options (codes "size")) a.size b.size
    (subst (λ o. IsNumberAt o (codes "size") a.size) same p.size) q.size in
    let store = one_value same (codes "store") p.store q.store in
    λ i. record { seed = seed i; size = size i; store = store i }

-- and not for a fleet too
pub not_both : (words : List (List ℕ)) (fleet : FleetWords) (load : LoadWords)
    → AsksFleet words fleet → AsksLoad words load → ⊥
not_both words fleet load p q =
    let same = (mean_one words verbs.Fleet verbs.Gen fleet.options q.options p.means
    q.means).0 in cc
