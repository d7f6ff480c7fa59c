-- What calls promise by whatever agrees with their exchanges with plugins.
use Rattle.std.specs.Prelude.{◌≡◌, ℕ, List, ◌∷◌, ◌++◌, Option, None, Some, Result, Ok, Err, ⊤}
use Rattle.kr_config.specs.Kept.{ConfigEntry}
use Rattle.kr_kms.specs.Cache.{AreOpenBy, CacheState}
use Rattle.kr_kms.specs.Exchanges.{AgreeAll, Exchange}
use Rattle.kr_kms.specs.Opens.{Opens}
use Rattle.kr_provider.specs.Reading.{Reading, data_of, refused}
use Rattle.kr_rollout.specs.declared.line.Did.TheVariants.{Fetch}
use Rattle.kr_rollout.specs.declared.opening.Entry.{Entry}
use Rattle.kr_history.specs.Acting.{Caller, IsCaller}
use Rattle.kr_history.specs.Calls.{KeepsHonestBy}
use Rattle.kr_history.specs.Contents.{IsContent}
use Rattle.kr_history.specs.Honesty.{IsHonest}
use Rattle.kr_history.specs.declared.call.CallNo.{CallNo}
use Rattle.kr_history.specs.declared.call.CallNo.TheVariants as refusal
use Rattle.kr_fleet.specs.CallExchanges.{IsJoinBy, IsReadBy, IsRefreshBy, IsReloadBy}
use Rattle.kr_history.specs.declared.outcome.Joining.{Joining}
use Rattle.kr_fleet.specs.declared.outcome.Loaded.{Loaded}
use Rattle.kr_fleet.specs.declared.outcome.Read.{Read}
use Rattle.kr_fleet.specs.declared.outcome.Read.TheVariants.{Absent, Value}

-- ---- loads: what the caller sees stays honest

module _ {D : Type 0} (left : D → Option (List ℕ)) (count : D → ℕ) where
  abbrev pub ReloadsAgree : Type 0
  ReloadsAgree = (opens : Opens) (rows : List ConfigEntry) (replica : ℕ) (old : Caller) (dice : D)
      (result : Result Loaded CallNo) (new : Caller) (after : D) (exchanges : List Exchange)
      → IsReloadBy left count rows replica old dice result new after exchanges
      → AgreeAll opens exchanges → KeepsHonestBy opens old new

  abbrev pub JoinsAgree : Type 0
  JoinsAgree = (opens : Opens) (rows : List ConfigEntry) (replica : ℕ) (old : Caller) (dice : D)
      (result : Result Joining CallNo) (new : Caller) (after : D) (exchanges : List Exchange)
      → IsJoinBy left count rows replica old dice result new after exchanges
      → AgreeAll opens exchanges → KeepsHonestBy opens old new

  abbrev pub RefreshesAgree : Type 0
  RefreshesAgree = (opens : Opens) (replica : ℕ) (old : Caller) (dice : D)
      (result : Result Loaded CallNo) (new : Caller) (after : D) (exchanges : List Exchange)
      → IsRefreshBy left count replica old dice result new after exchanges
      → AgreeAll opens exchanges → KeepsHonestBy opens old new

-- ---- read: what is told is the content

-- this is said of the content that a read tells
abbrev pub TellsContent : Result Read CallNo → (Option Reading → Type 0) → Type 0
TellsContent (Ok (Value revision plain stale)) Is = Is (Some (data_of plain))
TellsContent (Ok Absent) Is = Is None
TellsContent (Err (refusal.Value why)) Is = Is (Some (refused why))
TellsContent (Err why) Is = ⊤

-- what stands before the call's own Fetch of the path
pub record IsBeforeFetch (path : List ℕ) (old new : Caller) (front : List Entry) : Type 0 where
  pub more : List Entry
  pub fetch : Entry
  pub rest : List Entry
  pub front_is : front ≡ old.seen ++ more
  pub there : new.seen ≡ front ++ fetch ∷ rest
  pub own : fetch.line.seat ≡ old.seat
  pub fetches : fetch.line.did ≡ Fetch path

-- where that is honest, it has this content
pub record IsContentBefore (opens : Opens) (path : List ℕ) (old new : Caller)
    (content : Option Reading) : Type 0 where
  pub front : List Entry
  pub before : IsBeforeFetch path old new front
  pub is : IsHonest opens old.opening front → IsContent opens old.opening front path content

-- where the seeds that the cache keeps are what their sources open to, so are those that it keeps
-- then, and what is told is the content
abbrev pub ReadsAgree : Type 0
ReadsAgree = (opens : Opens) (path : List ℕ) (replica : ℕ) (old : Caller) (cache : CacheState)
    (result : Result Read CallNo) (new : Caller) (after : CacheState) (exchanges : List Exchange)
    → IsCaller old → IsReadBy path replica old cache result new after exchanges
    → AgreeAll opens exchanges → AreOpenBy opens cache.rows
    → AreOpenBy opens after.rows × TellsContent result (IsContentBefore opens path old new)
