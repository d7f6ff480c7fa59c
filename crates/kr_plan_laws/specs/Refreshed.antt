-- The keys of plugins under which values are stored: what a rewrite leaves once all live
-- configurations have refreshed.
use Rattle.std.specs.Prelude.{◌≡◌, ℕ, List, [], ◌∷◌, ◌++◌, Option, Some, Ok, ⊤}
use Rattle.kr_kms.specs.Calls.{Link}
use Rattle.kr_kms.specs.declared.seeds.SeedRow.{SeedRow}
use Rattle.kr_envelope.specs.declared.object.EncryptedObject.{EncryptedObject}
use Rattle.kr_store.specs.declared.rows.Row as stored_row
use Rattle.kr_store.specs.Rows.{live}
use Rattle.kr_config.specs.declared.who.Who.{Who}
use Rattle.kr_config.specs.declared.who.Who.TheVariants.{Identity, Aescbc, Aesgcm, Kms}
use Rattle.kr_config.specs.Kept.{ConfigEntry}
use Rattle.kr_config.specs.Lists.{list_of}
use Rattle.kr_provider.specs.Envelopes.{IsObjectOf}
use Rattle.kr_provider.specs.Publication.{Publication, seed_of}
use Rattle.kr_provider.specs.Readers.{writer_of}
use Rattle.kr_rollout.specs.declared.line.Did.{Did}
use Rattle.kr_rollout.specs.declared.line.Did.TheVariants.{Reload, Join}
use Rattle.kr_rollout.specs.declared.opening.Entry.{Entry}
use Rattle.kr_rollout.specs.declared.opening.Opening.{Opening}
use Rattle.kr_rollout.specs.Histories.{state_of, IsLegal}
use Rattle.kr_rollout.specs.States.{State}
use Rattle.kr_history.specs.Acting.{Caller, IsCaller}
use Rattle.kr_rewrite.specs.Drives.{Drives}
use Rattle.kr_rewrite.specs.declared.outcome.Report.{Report}
use Rattle.kr_plan_laws.specs.LiveStates.{IsLiveBy}
use Rattle.kr_plan_laws.specs.Settled.{LiveWrite, AllWrite}

-- the key ids that plugins have, by the plugins' names
abbrev pub Keys : Type 0
Keys = List ℕ → List ℕ

-- a configuration's seeds are wrapped by these keys
abbrev pub UsesKeys : Keys → Publication → Type 0
UsesKeys keys p = (name : List ℕ) (row : SeedRow) → seed_of name p.seeds ≡ Some row
    → row.key_id ≡ keys name

-- each live configuration's are: all replicas have refreshed, and what a call holds is no older
abbrev pub LiveUse : Keys → State → Type 0
LiveUse keys st = (p : Publication) → IsLiveBy st p → UsesKeys keys p

-- entries bring no configurations but such
abbrev pub BringsUsing : Keys → Did → Type 0
BringsUsing keys (Reload replica p expect) = UsesKeys keys p
BringsUsing keys (Join replica p) = UsesKeys keys p
BringsUsing keys did = ⊤

abbrev pub AllUse : Keys → List Entry → Type 0
AllUse keys [] = ⊤
AllUse keys (e ∷ more) = BringsUsing keys e.line.did × AllUse keys more

-- a plugin's value is under the plugin's key: what it holds names no other
abbrev pub IsUnder : Keys → Who → (stored : List ℕ) → Type 0
IsUnder keys Identity stored = ⊤
IsUnder keys (Aescbc name secret) stored = ⊤
IsUnder keys (Aesgcm name secret) stored = ⊤
IsUnder keys (Kms name) stored = (object : EncryptedObject) → IsObjectOf name stored (Ok object)
    → object.key_id ≡ keys name

-- so is the one at the path, by the provider by which the settings write its resource
abbrev pub IsUnderAt : Keys → (to : List ConfigEntry) → State → (path : List ℕ) → Type 0
IsUnderAt keys to st path = (row : stored_row.Row) → live st.rows path ≡ Some row
    → IsUnder keys (writer_of (list_of to row.resource)) row.stored

-- From a moment on at which each live configuration writes as `to` does, by these keys, and while
-- none comes that doesn't: a path whose value is under them stays so
abbrev pub KeysStay : Type 0
KeysStay = (o : Opening) (history more : List Entry) (keys : Keys) (to : List ConfigEntry)
    (path : List ℕ) → IsLegal o (history ++ more)
    → LiveWrite to (state_of o history) → AllWrite to more
    → LiveUse keys (state_of o history) → AllUse keys more
    → IsUnderAt keys to (state_of o history) path
    → IsUnderAt keys to (state_of o (history ++ more)) path

-- and a drive over all paths that left no row leaves each so: no value has an old key id of the
-- plugin by which `to` writes its resource. That no value is by another provider is `RewriteSettles`
abbrev pub RewriteLeavesKeys : {L D : Type 0} → (link : L → Link) → (left : D → Option (List ℕ))
    → (count : D → ℕ) → Type 0
RewriteLeavesKeys {L} {D} link left count = (replica : ℕ) (old : Caller) (olds : List L) (dice : D)
    (report : Report) (new : Caller) (news : List L) (after : D) (keys : Keys)
    (to : List ConfigEntry) (more : List Entry) → IsCaller old
    → Drives link left count replica [] old olds dice report new news after
    → report.left ≡ 0
    → new.seen ≡ old.seen ++ more
    → LiveWrite to (state_of old.opening old.seen) → AllWrite to more
    → LiveUse keys (state_of old.opening old.seen) → AllUse keys more
    → (path : List ℕ) → IsUnderAt keys to (state_of old.opening new.seen) path
