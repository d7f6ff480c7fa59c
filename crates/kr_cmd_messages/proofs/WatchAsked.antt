-- What words that ask for a watch are.
use Rattle.std.proofs.Common.{◌≡◌, ℕ, List, codes, Option, None, Some, Ok, refl, sym, ◌∙◌, ap, subst, inl, inr}
use Rattle.std.specs.Prelude.{IsSomeAnd}
use Rattle.kr_words.specs.Arguments.{IsNumberAt}
use Rattle.kr_words.specs.Grammar.{HasFewReplicas, IsWithinPage, IsWithinSize, Means, ReadsWords}
use Rattle.kr_words.specs.Numerals.{IsDecimal}
use Rattle.kr_words.specs.Options.{value_of}
use Rattle.kr_words.specs.declared.command.Verb.TheVariants as verbs
use Rattle.kr_words.specs.declared.command.CommandWords.{CommandWords}
use Rattle.kr_words.proofs.Meanings.{mean_one}
use Rattle.kr_cmd_messages.specs.FleetAsked.{AsksFleet}
use Rattle.kr_cmd_messages.specs.LoadAsked.{AsksLoad}
use Rattle.kr_cmd_messages.specs.WatchAsked.{AsksWatch, IsSince}
use Rattle.kr_cmd_messages.specs.declared.fleet_words.FleetWords.{FleetWords}
use Rattle.kr_cmd_messages.specs.declared.load_words.LoadWords.{LoadWords}
use Rattle.kr_cmd_messages.specs.declared.watch_words.WatchWords.{WatchWords}
use Rattle.kr_cmd_messages.specs.inner.WatchAnswers.{IsWatchAsked, IsWatchOf}
use Rattle.kr_cmd_messages.proofs.NoneAsked.{lacks, names_none, other_verb}
use Rattle.kr_cmd_messages.proofs.OneCommand.{one_number, one_value}

-- the watch that was read is the one that is asked for
pub watch_asked_so : {words : List (List ℕ)} (command : CommandWords) → ReadsWords words (Ok command)
    → (asked : Option WatchWords) → IsWatchOf command.verb command.options.0 asked
    → IsWatchAsked words (Ok asked)
watch_asked_so command reads None (inl other) = λ asked h. other_verb reads.0 h.means other
watch_asked_so command reads None (inr (inl none)) =
    λ asked h. lacks reads.0 h.means (codes "resource") none h.resource
watch_asked_so command reads None (inr (inr none)) =
    λ asked h. names_none reads.0 h.means none h.file h.store
watch_asked_so {words} command reads (Some asked)
    (verb, (file, store, options), resource, limit, since) =
    let back = sym options in
    record {
      means = subst (λ o. Means words verbs.Watch o) back
          (subst (λ v. Means words v command.options.0) verb reads.0);
      few = subst HasFewReplicas back reads.1;
      small = subst IsWithinSize back reads.2;
      page = subst IsWithinPage back reads.3;
      file = ap (λ o. value_of o (codes "file")) options ∙ file;
      store = ap (λ o. value_of o (codes "store")) options ∙ store;
      resource = ap (λ o. value_of o (codes "resource")) options ∙ resource;
      limit = subst (λ o. IsNumberAt o (codes "limit") asked.limit) back limit;
      since = subst (λ o. IsSince o asked.since) back since;
    }

one_since : (options : List (List ℕ × List ℕ)) (a b : Option ℕ) → IsSince options a
    → IsSince options b → a ≡ b
one_since options None None h k = refl
one_since options None (Some n) h k = absurd (let e = subst (λ v. IsSomeAnd v
    (λ text. IsDecimal text n)) h k in e)
one_since options (Some m) None h k = absurd (let e = subst (λ v. IsSomeAnd v
    (λ text. IsDecimal text m)) k h in e)
one_since options (Some m) (Some n) h k =
    ap (λ r. Some r) (one_number (value_of options (codes "since")) m n h k)

abbrev pub watch_words : (file store : List ℕ) → List (List ℕ × List ℕ) → (resource : List ℕ)
    → (limit : ℕ) → (since : Option ℕ) → WatchWords
watch_words file store options resource limit since = record {
  fleet = record { file = file; store = store; options = options };
  resource = resource;
  limit = limit;
  since = since;
}

-- the words ask for one watch
pub one_watch : (words : List (List ℕ)) (a b : WatchWords) → AsksWatch words a
    → AsksWatch words b → a ≡ b
one_watch words a b p q =
    let same = (mean_one words verbs.Watch verbs.Watch a.fleet.options b.fleet.options p.means
    q.means).1 in
    let file = one_value same (codes "file") p.file q.file in
    let store = one_value same (codes "store") p.store q.store in
    let resource = one_value same (codes "resource") p.resource q.resource in
    let limit = one_number (value_of b.fleet.options (codes "limit")) a.limit b.limit
    (subst (λ o. IsNumberAt o (codes "limit") a.limit) same p.limit) q.limit in
    let since = one_since b.fleet.options a.since b.since
    (subst (λ o. IsSince o a.since) same p.since) q.since in
    λ i. watch_words (file i) (store i) (same i) (resource i) (limit i) (since i)

-- and not for a fleet too, nor for a load
pub not_fleet_and_watch : (words : List (List ℕ)) (fleet : FleetWords) (watch : WatchWords)
    → AsksFleet words fleet → AsksWatch words watch → ⊥
not_fleet_and_watch words fleet watch p q =
    let same = (mean_one words verbs.Fleet verbs.Watch fleet.options watch.fleet.options p.means
    q.means).0 in cc

pub not_load_and_watch : (words : List (List ℕ)) (load : LoadWords) (watch : WatchWords)
    → AsksLoad words load → AsksWatch words watch → ⊥
not_load_and_watch words load watch p q =
    let same = (mean_one words verbs.Gen verbs.Watch p.options watch.fleet.options p.means
    q.means).0 in cc
