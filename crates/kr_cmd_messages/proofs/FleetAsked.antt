-- What words that ask for a fleet are.
use Rattle.std.proofs.Common.{ℕ, List, codes, Option, None, Some, Ok, sym, ◌∙◌, ap, subst, inl, inr}
use Rattle.kr_words.specs.Grammar.{HasFewReplicas, IsWithinPage, IsWithinSize, Means, ReadsWords}
use Rattle.kr_words.specs.Options.{value_of}
use Rattle.kr_words.specs.declared.command.Verb.TheVariants as verbs
use Rattle.kr_words.specs.declared.command.CommandWords.{CommandWords}
use Rattle.kr_cmd_messages.specs.declared.fleet_words.FleetWords.{FleetWords}
use Rattle.kr_cmd_messages.specs.inner.FleetAnswers.{IsFleetAsked, IsFleetOf}
use Rattle.kr_cmd_messages.proofs.NoneAsked.{names_none, other_verb}

-- the fleet that was read is the one that is asked for
pub asked_so : {words : List (List ℕ)} (command : CommandWords) → ReadsWords words (Ok command)
    → (asked : Option FleetWords) → IsFleetOf command.verb command.options.0 asked
    → IsFleetAsked words (Ok asked)
asked_so command reads None (inl other) = λ asked h. other_verb reads.0 h.means other
asked_so command reads None (inr none) =
    λ asked h. names_none reads.0 h.means none h.file h.store
asked_so {words} command reads (Some asked) (verb, (file, store, options)) = record {
  means = subst (λ o. Means words verbs.Fleet o) (sym options)
      (subst (λ v. Means words v command.options.0) verb reads.0);
  few = subst HasFewReplicas (sym options) reads.1;
  small = subst IsWithinSize (sym options) reads.2;
  page = subst IsWithinPage (sym options) reads.3;
  file = ap (λ o. value_of o (codes "file")) options ∙ file;
  store = ap (λ o. value_of o (codes "store")) options ∙ store;
}
