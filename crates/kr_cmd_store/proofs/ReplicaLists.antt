-- The settings of replicas that were loaded, one for each name.
use Rattle.std.proofs.Common.{◌≡◌, ℕ, ◌+◌, ◌<◌, ◌≤◌, List, [], ◌∷◌, ◌++◌, length, filter, slice_get, codes, Option, None, Some, IsSome, refl, sym, ◌∙◌, arith, length-append}
use Rattle.std.proofs.lemmas.List.{length-map, map-append}
use Rattle.std.proofs.lemmas.List.Elements.{All-push}
use Rattle.std.proofs.lemmas.List.Sums.{length-filter}
use Rattle.std.proofs.lemmas.Option.{none-some, slice_get-get_or}
use Rattle.kr_config.specs.Kept.{rows_of}
use Rattle.kr_config.specs.declared.settings.Settings.{Settings}
use Rattle.kr_opening.specs.Replicas.{IsFirstIn, settings_rows, rows_in}
use Rattle.kr_words.specs.Grammar.{replicas_of}
use Rattle.kr_words.specs.Options.{is_named}
use Rattle.kr_cmd_messages.specs.Command.{replica_names}
use Rattle.kr_cmd_store.specs.inner.Judging.{AreIn}

-- ---- names

pub count_is : (options : List (List ℕ × List ℕ)) → length (replica_names options) ≡ replicas_of options
count_is options = length-map (filter (is_named (codes "replica")) options)
    (λ (option : List ℕ × List ℕ). option.1)
    ∙ length-filter (is_named (codes "replica")) options

pub name_there : (options : List (List ℕ × List ℕ)) (number : ℕ) → number < replicas_of options
    → None ≡ slice_get (replica_names options) number → ⊥
name_there options number within none = none-some _
    (none ∙ slice_get-get_or (replica_names options) number []
    (omega (arith, within, count_is options)))

-- ---- settings

pub none_in : AreIn 0 []
none_in = (refl, λ k d within. absurd (omega (arith, within)))

pub one_more_in : (count : ℕ) (replicas : List (Option Settings)) (settings : Settings)
    → AreIn count replicas → AreIn (count + 1) (replicas ++ Some settings ∷ [])
one_more_in count replicas settings are = (
  omega (arith, length-append replicas (Some settings ∷ []), are.0),
  All-push (λ replica. IsSome replica) replicas (Some settings) are.1 refl,
)

pub rows_more : (replicas : List (Option Settings)) (settings : Settings)
    → rows_in replicas ++ Some (rows_of settings.entries.0) ∷ []
    ≡ rows_in (replicas ++ Some settings ∷ [])
rows_more replicas settings = sym (map-append settings_rows replicas (Some settings ∷ []))

pub first_in : (count : ℕ) (replicas : List (Option Settings)) → AreIn count replicas → 1 ≤ count
    → IsFirstIn replicas
first_in count [] are some = absurd (omega (arith, are.0, some))
first_in count (replica ∷ replicas) are some = are.1 0 replica (omega arith)
