-- What a bench answers, as a command says it.
use Rattle.std.specs.Prelude.{◌≡◌, ◌⊎◌, ℕ, List, Contains, Result, Ok, Err, ⊤}
use Rattle.kr_kms.specs.Calls.{Link}
use Rattle.kr_kms.specs.declared.seeds.SeedRow.{SeedRow}
use Rattle.kr_provider.specs.AskedLinks.{HasLinkWith}
use Rattle.kr_provider.specs.Publication.{Publication}
use Rattle.kr_provider.specs.declared.refusal.Opened.{Opened}
use Rattle.kr_provider.specs.declared.refusal.PublishNo.{PublishNo}
use Rattle.kr_provider.specs.declared.refusal.PublishNo.TheVariants as publishing
use Rattle.kr_provider.specs.declared.refusal.SealNo.{SealNo}
use Rattle.kr_provider.specs.declared.refusal.SealNo.TheVariants as seal
use Rattle.kr_provider.specs.declared.refusal.UnsealNo.{UnsealNo}
use Rattle.kr_provider.specs.declared.refusal.UnsealNo.TheVariants as unseal
use Rattle.kr_provider.specs.declared.refusal.ValueNo.TheVariants as value
use Rattle.kr_cmd_steps.specs.ValueSteps.{freshness}
use Rattle.kr_cmd_steps.specs.Phases.{silently}
use Rattle.kr_base.specs.Visible.{visible}
use Rattle.kr_cmd_messages.specs.declared.refusal.Object.TheVariants.{Dice, Plugin}
use Rattle.kr_cmd_messages.specs.declared.refusal.Outcome.{Outcome}
use Rattle.kr_cmd_messages.specs.declared.refusal.Refusal.TheVariants.{Unhealthy, Value}
use Rattle.kr_cmd_messages.specs.declared.refusal.Stop.{Stop}
use Rattle.kr_cmd_messages.specs.declared.refusal.Stop.TheVariants.{Refused, Fault, NoMemory}

-- ---- publishing

abbrev pub seeds_in : Result Publication Stop → Result (List SeedRow) Stop
seeds_in (Ok p) = Ok p.seeds
seeds_in (Err stop) = Err stop

-- there is a link to the plugin that failed
abbrev pub NamesAFailure : (names : List (List ℕ)) → PublishNo → Type 0
NamesAFailure names (publishing.PluginFailed name) = Contains names name
NamesAFailure names publishing.DiceFailed = ⊤
NamesAFailure names (publishing.Unhealthy name field text) = ⊤
NamesAFailure names publishing.NoMemory = ⊤

-- why settings weren't published, with the count of what failed
abbrev pub IsPublishStop : {L : Type 0} → (L → Link) → List L → (faults : ℕ) → PublishNo → Stop
    → Type 0
IsPublishStop link links faults (publishing.PluginFailed name) stop =
    HasLinkWith link name (λ l. stop ≡ Fault (Plugin name) l.count) links
IsPublishStop link links faults publishing.DiceFailed stop = stop ≡ Fault (Dice 0) faults
IsPublishStop link links faults (publishing.Unhealthy name field text) stop =
    (stop ≡ Refused (Unhealthy name field (visible text))) ⊎ (stop ≡ NoMemory)
IsPublishStop link links faults publishing.NoMemory stop = stop ≡ NoMemory

-- ---- sealing; data above the limit don't come to a bench

abbrev pub seal_outcome : (faults : ℕ) → Result (List ℕ) SealNo → Result Outcome Stop
seal_outcome faults (Ok bytes) = Ok (silently bytes)
seal_outcome faults (Err seal.LooksEncrypted) = Err (Refused (Value value.LooksEncrypted))
seal_outcome faults (Err (seal.TooLarge size)) = Err (Refused (Value value.TooLarge))
seal_outcome faults (Err seal.DiceFailed) = Err (Fault (Dice 0) faults)
seal_outcome faults (Err seal.NoMemory) = Err NoMemory

-- ---- unsealing

-- there is a link to the plugin that failed
abbrev pub NamesAnUnread : (names : List (List ℕ)) → Result Opened UnsealNo → Type 0
NamesAnUnread names (Ok opened) = ⊤
NamesAnUnread names (Err (unseal.Refused why)) = ⊤
NamesAnUnread names (Err (unseal.PluginFailed name)) = Contains names name
NamesAnUnread names (Err unseal.NoMemory) = ⊤

abbrev pub IsUnsealEnd : {L : Type 0} → (L → Link) → List L → Result Opened UnsealNo
    → Result Outcome Stop → Type 0
IsUnsealEnd link links (Ok opened) result =
    result ≡ Ok (record { bytes = opened.plain; done = freshness opened.stale })
IsUnsealEnd link links (Err (unseal.Refused why)) result = result ≡ Err (Refused (Value why))
IsUnsealEnd link links (Err (unseal.PluginFailed name)) result =
    HasLinkWith link name (λ l. result ≡ Err (Fault (Plugin name) l.count)) links
IsUnsealEnd link links (Err unseal.NoMemory) result = result ≡ Err NoMemory
