-- Where no configuration names a plugin, values read so whatever sources open to.
use Rattle.std.proofs.Common.{◌≡◌, ℕ, false, List, Option, None, Some, refl, subst}
use Rattle.std.specs.Prelude.{All}
use Rattle.std.specs.List.{slice_get}
use Rattle.std.specs.Option.{option_map}
use Rattle.std.proofs.lemmas.Option.{none-some, same_Some}
use Rattle.kr_config.specs.Kept.{ConfigEntry as settings_row}
use Rattle.kr_config.specs.Lists.{list_of}
use Rattle.kr_kms.specs.Opens.{Opens}
use Rattle.kr_provider.specs.Publication.{Publication, names_plugin}
use Rattle.kr_provider.specs.Reading.{Reading, HasReading, HasSomeReading}
use Rattle.kr_provider.proofs.WithoutPlugins.{none_listed}
use Rattle.kr_opening.specs.declared.generation.Generation.{Generation}
use Rattle.kr_rollout.specs.declared.opening.Entry.{Entry}
use Rattle.kr_rollout.specs.declared.opening.Opening.{Opening}
use Rattle.kr_history.specs.ContentLaws.{NamesNoPlugin}
use Rattle.kr_rollout.specs.Entries.{published_at}
use Rattle.kr_rollout.specs.Histories.{state_of}
use Rattle.kr_rollout.specs.States.{IsLive}
use Rattle.kr_history.proofs.HeldFacts.{there_holds}
use Rattle.kr_history.proofs.WithoutPlugin.{some_reads}

-- a live configuration names none
none_live : (generations : List Generation) (number : ℕ) (rows : List settings_row)
    → All (λ (g : Generation). names_plugin g.published.rows ≡ false) generations
    → option_map (λ (p : Publication). p.rows) (published_at generations (Some number)) ≡ Some rows
    → names_plugin rows ≡ false
none_live generations number rows none is = by (slice_get generations number) refl is
  where
    by : (x : Option Generation) → slice_get generations number ≡ x
        → option_map (λ (p : Publication). p.rows)
        (option_map (λ (g : Generation). g.published) x) ≡ Some rows
        → names_plugin rows ≡ false
    by None at e = absurd (none-some rows e)
    by (Some g) at e =
        subst (λ r. names_plugin r ≡ false) (same_Some g.published.rows rows e)
        (there_holds (λ (g : Generation). names_plugin g.published.rows ≡ false) generations
        number g none at)

-- what a value reads as with some unwrapped source it reads as whatever sources open to
pub reads_bare : (opens : Opens) (o : Opening) (history : List Entry) (rows : List settings_row)
    (resource path bytes : List ℕ) (reading : Reading) → IsLive (state_of o history) rows
    → NamesNoPlugin o history → HasSomeReading (list_of rows resource) path bytes reading
    → HasReading opens (list_of rows resource) path bytes reading
reads_bare opens o history rows resource path bytes reading live none r =
    some_reads opens (list_of rows resource) path bytes reading (none_listed rows resource
    (none_live (state_of o history).generations live.0 rows none live.2)) r
