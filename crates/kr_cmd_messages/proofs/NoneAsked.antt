-- What words ask for that are refused, are another command's or lack an option: nothing.
use Rattle.std.proofs.Common.{◌≡◌, ℕ, Bool, true, false, not, List, [], ◌∷◌, codes, Option, None, Some, Ok, Err, inl, inr, sym, ◌∙◌, ap, subst}
use Rattle.std.proofs.lemmas.Bool.{both_ways, not-false}
use Rattle.std.proofs.lemmas.Slice.Eq.{bytes_eq-Decides}
use Rattle.std.specs.Prelude.{slice_get}
use Rattle.std.specs.Str.{bytes_eq}
use Rattle.std.specs.String.{string_bytes}
use Rattle.std.specs.declared.alloc.Global.{Global}
use Rattle.std.specs.declared.string.String.{String}
use Rattle.kr_words.specs.Grammar.{Means, ReadsWords, texts}
use Rattle.kr_words.specs.Options.{value_of}
use Rattle.kr_words.specs.declared.command.CommandWords.{CommandWords}
use Rattle.kr_words.specs.declared.command.Verb.{Verb}
use Rattle.kr_words.specs.declared.command.Verb.TheVariants as verbs
use Rattle.kr_words.proofs.Meanings.{mean_one}
use Rattle.kr_cmd_messages.specs.Command.{AskBadly}
use Rattle.kr_cmd_messages.specs.FleetAsked.{AskNoFleet}
use Rattle.kr_cmd_messages.specs.LoadAsked.{AskNoLoad}
use Rattle.kr_cmd_messages.specs.WatchAsked.{AskNoWatch}
use Rattle.kr_cmd_messages.specs.declared.refusal.BadWords.{BadWords}
use Rattle.kr_cmd_messages.specs.declared.refusal.BadWords.TheVariants.{Usage, Replicas, Size, Page}
use Rattle.kr_cmd_messages.specs.declared.refusal.Stop.{Stop}
use Rattle.kr_cmd_messages.specs.declared.refusal.Stop.TheVariants.{Words, NoMemory}
use Rattle.kr_cmd_messages.specs.inner.Asking.{IsReadAs}
use Rattle.kr_cmd_messages.specs.inner.FleetAnswers.{IsFleetAsked, NamesFleet}
use Rattle.kr_cmd_messages.specs.inner.LoadAnswers.{IsLoadAsked}
use Rattle.kr_cmd_messages.specs.inner.Reading.{AreRead, AreReadBehind, BeginWith, refusal_of}
use Rattle.kr_cmd_messages.specs.inner.WatchAnswers.{IsWatchAsked}
use Rattle.kr_cmd_messages.proofs.OneCommand.{means_none_within}

module _ (words : List (List ℕ)) where
  asks_badly : (why : BadWords) → ReadsWords words (Err (refusal_of why)) → AskBadly why words
  asks_badly Usage r = λ verb options means. absurd (r verb options means)
  asks_badly Replicas r = r
  asks_badly Size r = r
  asks_badly Page r = r

  asks_none : (why : BadWords) → ReadsWords words (Err (refusal_of why))
      → AskBadly why words × AskNoFleet words × AskNoLoad words × AskNoWatch words
  asks_none why r = (
    asks_badly why r,
    λ asked h. means_none_within why r verbs.Fleet asked.options h.means h.few h.small h.page,
    λ asked h. means_none_within why r verbs.Gen h.options h.means h.few h.small h.page,
    λ asked h. means_none_within why r verbs.Watch asked.fleet.options h.means h.few h.small h.page,
  )

  -- what stops the reading stops the call
  pub stops_command : (stop : Stop) → AreRead words (Err stop) → IsReadAs words (Err stop)
  stops_command (Words why) r = asks_badly why r
  stops_command NoMemory r = tt
  stops_command other r = absurd r

  pub stops_fleet : (stop : Stop) → AreRead words (Err stop) → IsFleetAsked words (Err stop)
  stops_fleet (Words why) r = asks_none why r
  stops_fleet NoMemory r = tt
  stops_fleet other r = absurd r

  pub stops_load : (stop : Stop) → AreRead words (Err stop) → IsLoadAsked words (Err stop)
  stops_load (Words why) r = let none = asks_none why r in (none.0, none.2, none.3)
  stops_load NoMemory r = tt
  stops_load other r = absurd r

  pub stops_watch : (stop : Stop) → AreRead words (Err stop) → IsWatchAsked words (Err stop)
  stops_watch (Words why) r = let none = asks_none why r in (none.0, none.3)
  stops_watch NoMemory r = tt
  stops_watch other r = absurd r

-- words of one command with its options ask for no other command, and for none that has more options
module _ {words : List (List ℕ)} {verb : Verb} {options : List (List ℕ × List ℕ)}
    (means : Means words verb options) {asked : Verb} {given : List (List ℕ × List ℕ)}
    (so : Means words asked given) where
  pub other_verb : (verb ≡ asked → ⊥) → ⊥
  other_verb other = other (mean_one words verb asked options given means so).0

  pub lacks : (name : List ℕ) {value : List ℕ} → value_of options name ≡ None
      → value_of given name ≡ Some value → ⊥
  lacks name none some =
      let same = (mean_one words verb asked options given means so).1 in
      absurd (let e = sym none ∙ ap (λ o. value_of o name) same ∙ some in cc)

  -- nor for a fleet where they name none
  pub names_none : NamesFleet options None → {file store : List ℕ}
      → value_of given (codes "file") ≡ Some file → value_of given (codes "store") ≡ Some store → ⊥
  names_none (inl none) file store = lacks (codes "file") none file
  names_none (inr none) file store = lacks (codes "store") none store

-- ---- the first word

first_is : (words : List (String Global)) (first : String Global) → Some first ≡ slice_get words 0
    → BeginWith (string_bytes first) (texts words)
first_is [] first is = absurd (let none : Some first ≡ None = is in cc)
first_is (word ∷ words) first is =
    let same : word ≡ first = cc in (texts words, ap (λ w. string_bytes w ∷ texts words) same)

one_first : {words : List (List ℕ)} {name other : List ℕ} → BeginWith name words
    → BeginWith other words → name ≡ other
one_first {words} {name} {other} (rest, is) (more, so) =
    let same : name ∷ rest ≡ other ∷ more = sym is ∙ so in cc

-- words whose first text is tested against a name
module _ (words : List (String Global)) {first : String Global}
    (is : Some first ≡ slice_get words 0) {text : List ℕ} (text_is : text ≡ string_bytes first)
    (name : List ℕ) {ne : Bool} (tested : ne ≡ not (bytes_eq text name)) where
  text_first : BeginWith text (texts words)
  text_first = subst (λ t. BeginWith t (texts words)) (sym text_is) (first_is words first is)

  pub begin_with : ne ≡ false → BeginWith name (texts words)
  begin_with same = subst (λ t. BeginWith t (texts words))
      ((bytes_eq-Decides text name).0 (not-false (bytes_eq text name) (sym tested ∙ same)))
      text_first

  pub begin_otherwise : ne ≡ true → BeginWith name (texts words) → ⊥
  begin_otherwise other begin = both_ways ne
      (tested ∙ ap not ((bytes_eq-Decides text name).1 (one_first text_first begin))) other

module _ {words : List (List ℕ)} {read : Option CommandWords} where
  pub read_so : (name : List ℕ) → AreReadBehind name words (Ok read) → {command : CommandWords}
      → read ≡ Some command → ReadsWords words (Ok command)
  read_so name are is = (subst (λ o. AreReadBehind name words (Ok o)) is are).1

  pub unread : {name : List ℕ} → AreReadBehind name words (Ok read) → read ≡ None
      → BeginWith name words → ⊥
  unread {name} are is = subst (λ o. AreReadBehind name words (Ok o)) is are
