-- What no run with the headline leaves behind in its store: rows and seeds that the next call could
-- not read. Each of these would contradict it.
use Rattle.std.specs.Prelude.{◌≡◌, ◌≢◌, ℕ, List, ◌∷◌, ◌++◌, length, map, All, Contains, Option, Some, IfSome, Ok, Err}
use Rattle.kr_config.specs.Kept.{plugins_in}
use Rattle.kr_kms.specs.Calls.{Link, key_in}
use Rattle.kr_kms.specs.Exchanges.{Exchange, StatusCall, UnwrapCall, WrapCall}
use Rattle.kr_kms.specs.Opens.{Opens, key_of}
use Rattle.kr_kms.specs.declared.seeds.SeedKey.{SeedKey}
use Rattle.kr_kms.specs.declared.seeds.SeedRow.{SeedRow}
use Rattle.kr_provider.specs.Envelopes.{Envelope}
use Rattle.kr_provider.specs.Publication.{Publication}
use Rattle.kr_provider.specs.Reading.{data_of}
use Rattle.kr_store.specs.declared.rows.Row.{Row}
use Rattle.kr_rollout.specs.declared.line.Did.TheVariants as did
use Rattle.kr_rollout.specs.declared.line.Gave.TheVariants as gave
use Rattle.kr_rollout.specs.declared.opening.Entry.{Entry}
use Rattle.kr_rollout.specs.declared.opening.Opening.{Opening}
use Rattle.kr_history.specs.Honesty.{SeedsOpen}
use Rattle.kr_script.specs.declared.script.Part.{Part}
use Rattle.kr_script.specs.declared.script.ScriptLine.TheVariants as line
use Rattle.kr_script.specs.declared.told.Told.TheVariants as told
use Rattle.kr_workers.specs.Heard.{Heard}
use Rattle.kr_workers.specs.Plugins.{IsReplaced}
use Rattle.kr_workers.specs.declared.files.SettingsFile.{SettingsFile}
use Rattle.kr_workers.specs.declared.worker.Worker.{Worker}
use Rattle.kr_headline.specs.Fleets.{AgreesWithAll, FleetHeadline, run_in}
use Rattle.kr_headline.specs.Headline.{IsTold, Run, own_entries}
use Rattle.kr_headline.specs.Sources.{HasSource}
use Rattle.kr_headline.specs.Values.{Values, sealed_values}

-- no row that the entry found is so by the configuration that was held
abbrev pub FindsNone : (Publication → Row → Type 0) → Entry → Type 0
FindsNone Is e = (p : Publication) (row : Row) → e.published ≡ Some p → e.row ≡ Some row
    → Is p row → ⊥

-- the exchange tells what the wrapped key opens to
abbrev pub TellsOfKey : SeedKey → Exchange → Type 0
TellsOfKey key (StatusCall name answer) = ⊥
TellsOfKey key (WrapCall name plain (Ok wrapped)) = key_in name wrapped ≡ key
TellsOfKey key (WrapCall name plain (Err why)) = ⊥
TellsOfKey key (UnwrapCall own (Ok bytes)) = own ≡ key
TellsOfKey key (UnwrapCall own (Err why)) = ⊥

-- no plugin told a worker what it opens to, no bench had kept that, and it is none of the start's
pub record IsUntold (heard : (worker : ℕ) → Heard) (o : Opening) (key : SeedKey) : Type 0 where
  pub answered : (worker : ℕ) (e : Exchange) → Contains (heard worker).exchanges e
      → TellsOfKey key e → ⊥
  pub kept : (worker : ℕ) (seed : List ℕ) → Contains (heard worker).kept (key, seed) → ⊥
  pub started : All (λ (replica : Option Publication).
      IfSome replica (λ p. All (λ row. key_of row ≢ key) p.seeds)) o.replicas

module _ {T L D : Type 0} (values : Values) (link : L → Link) (step : L → Exchange → L → Type 0)
    (count : D → ℕ) (old new : List (Worker T L D)) (files : List SettingsFile) (o : Opening)
    (parts : List Part) (history : List Entry)
    (h : FleetHeadline values link step count old new files o parts history) where
  -- the entry of the history has written this row, by this configuration
  pub record Wrote (e : Entry) (p : Publication) (row : Row) : Type 0 where
    pub front : List Entry
    pub rest : List Entry
    pub there : history ≡ front ++ e ∷ rest
    pub held : e.published ≡ Some p
    pub written : e.row ≡ Some row

  -- the entry of the history has given a replica this configuration
  pub record Brought (e : Entry) (p : Publication) : Type 0 where
    pub front : List Entry
    pub rest : List Entry
    pub there : history ≡ front ++ e ∷ rest
    pub replica : ℕ
    pub generation : ℕ
    pub expect : Option ℕ
    pub did_is : e.line.did ≡ did.Reload replica p expect
    pub gave_is : e.line.gave ≡ gave.Reloaded generation

  abbrev run : Run
  run = run_in values link step count old new files o parts history h

  pub record WrongSeals : Type 0 where
    -- a configuration is published with a seed that doesn't open: by some truth that agrees with
    -- all that was heard, and by which the seeds at the start open, its source opens to something
    -- else, or to nothing
    pub unwrapped : (opens : Opens) (e : Entry) (p : Publication) → Brought e p
        → AgreesWithAll h.heard opens o → (SeedsOpen opens p → ⊥) → ⊥
    -- its wrapped key even stands in no answer of a plugin, where some truth agrees with all that
    -- they answered
    pub invented : (opens : Opens) (e : Entry) (p : Publication) (row : SeedRow) → Brought e p
        → AgreesWithAll h.heard opens o → Contains p.seeds row
        → IsUntold h.heard o (key_of row) → ⊥
    -- one is published without a seed of a plugin that it names, so that a refresh would never find
    -- that plugin's key changed; or with a seed of another length, by which nobody could read
    pub seedless : (e : Entry) (p : Publication) (name : List ℕ) → Brought e p
        → Contains (plugins_in p.rows) name
        → (Contains (map (λ row. row.name) p.seeds) name → ⊥) → ⊥
    pub other_length : (e : Entry) (p : Publication) (row : SeedRow) → Brought e p
        → Contains p.seeds row → length row.seed ≢ 32 → ⊥
    -- a row is put with another check than its provider's, so that the next call finds that its
    -- provider has another secret
    pub other_check : (e : Entry) (p : Publication) (row : Row) (path resource plain : List ℕ)
        (revision : ℕ) → Wrote e p row → e.line.did ≡ did.Put path resource plain
        → e.line.gave ≡ gave.Written revision → row.check ≢ values.check_of o.format p resource → ⊥
    -- or sealed anew with another one, or at another path than it had
    pub other_check_anew : (e : Entry) (p : Publication) (before row : Row) (path : List ℕ)
        → Wrote e p row → IsReplaced path e → e.replaced ≡ Some before
        → row.check ≢ values.check_of o.format p before.resource → ⊥
    pub moved_elsewhere : (e : Entry) (p : Publication) (row : Row) (path : List ℕ)
        → Wrote e p row → IsReplaced path e → row.path ≢ path → ⊥
    -- other data stand in a row's place than it reads as, with any source that its worker had
    pub other_data : (e : Entry) (p : Publication) (before row : Row) (path : List ℕ)
        → Wrote e p row → IsReplaced path e → e.replaced ≡ Some before
        → ((envelope : Envelope) (plain : List ℕ)
        → HasSource (h.heard e.line.seat) envelope p before
        → values.Reads envelope p before (data_of plain)
        → values.Seals p before.resource path plain row.stored → ⊥) → ⊥
    -- a rewrite leaves a row, or tells that it is fresh, though with no source that its worker had
    -- any row that it found is so
    pub left_readable : (worker at rewritten fresh changed left : ℕ)
        → IsTold run worker at line.Rewrite (told.Rewritten rewritten fresh changed left)
        → All (FindsNone (values.IsLeft (HasSource (h.heard worker))))
        (own_entries h.has.headline.steps worker at) → left ≢ 0 → ⊥
    pub fresh_unread : (worker at rewritten fresh changed left : ℕ)
        → IsTold run worker at line.Rewrite (told.Rewritten rewritten fresh changed left)
        → All (FindsNone (values.IsFresh (HasSource (h.heard worker))))
        (own_entries h.has.headline.steps worker at) → fresh ≢ 0 → ⊥

-- so it is with each run of workers
abbrev pub EachSealIsWrong : (T : Type 0) → {L D : Type 0} → (L → Link)
    → (L → Exchange → L → Type 0) → (D → ℕ) → Type 0
EachSealIsWrong T {L} {D} link step count = (old new : List (Worker T L D))
    (files : List SettingsFile) (o : Opening) (parts : List Part) (history : List Entry)
    → (h : FleetHeadline sealed_values link step count old new files o parts history)
    → WrongSeals sealed_values link step count old new files o parts history h
