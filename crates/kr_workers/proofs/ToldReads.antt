-- What is asked to unseal fails once at most, and what failed is told.
use Rattle.std.proofs.Common.{ℕ, List, [], ◌∷◌, Some, Result, Ok, Err, refl, sym, subst}
use Rattle.kr_config.specs.declared.who.Who.{Who}
use Rattle.kr_kms.specs.Cache.{CacheState, FetchesBy, GivesSeed, kept, no_memory as fetches_none, unwrapped}
use Rattle.kr_kms.specs.Exchanges.{Exchange, UnwrapCall}
use Rattle.kr_kms.specs.declared.plugin.KmsNo.{KmsNo}
use Rattle.kr_kms.specs.declared.plugin.KmsNo.TheVariants as kms
use Rattle.kr_kms.specs.declared.seeds.SeedKey.{SeedKey}
use Rattle.kr_kms.specs.declared.seeds.SeedRow.{SeedRow}
use Rattle.kr_envelope.specs.declared.object.EncryptedObject.{EncryptedObject}
use Rattle.kr_provider.specs.Envelopes.{Envelope, seed_key}
use Rattle.kr_provider.specs.Exchanges.{AnswersByFetch, ReadsBy, fetched, no_memory, unasked}
use Rattle.kr_provider.specs.Reading.{Unseals}
use Rattle.kr_provider.specs.declared.refusal.Opened.{Opened}
use Rattle.kr_provider.specs.declared.refusal.UnsealNo.{UnsealNo}
use Rattle.kr_provider.specs.declared.refusal.UnsealNo.TheVariants.{Refused, PluginFailed, NoMemory}
use Rattle.kr_workers.specs.ToldFaults.{AreCalm, EndInFault}
use Rattle.kr_workers.proofs.ToldOnce.{calm_more, calm_none}

-- a plugin failed where that is told, and else none
abbrev pub UnsealTells : Result Opened UnsealNo → List Exchange → Type 0
UnsealTells (Err (PluginFailed name)) exchanges = EndInFault name exchanges
UnsealTells result exchanges = AreCalm exchanges

-- ---- one fetch

-- what was fetched tells the fault of its plugin
abbrev Tells : (name : List ℕ) → Result (List ℕ) KmsNo → List Exchange → Type 0
Tells name (Err kms.Failed) es = EndInFault name es
Tells name source es = AreCalm es

kept_tells : (name seed : List ℕ) (source : Result (List ℕ) KmsNo) → GivesSeed seed source
    → Tells name source []
kept_tells name seed (Ok bytes) gives = calm_none
kept_tells name seed (Err kms.Failed) gives = absurd gives
kept_tells name seed (Err kms.NoMemory) gives = calm_none

answer_tells : (key : SeedKey) (source : Result (List ℕ) KmsNo)
    → Tells key.name source (UnwrapCall key source ∷ [])
answer_tells key (Ok bytes) = calm_more (UnwrapCall key (Ok bytes)) [] refl calm_none
answer_tells key (Err kms.Failed) =
    ([], UnwrapCall key (Err kms.Failed), refl, calm_none, refl, refl)
answer_tells key (Err kms.NoMemory) =
    calm_more (UnwrapCall key (Err kms.NoMemory)) [] refl calm_none

fetch_tells : (key : SeedKey) (cache : CacheState) (source : Result (List ℕ) KmsNo)
    (after : CacheState) (es : List Exchange) → FetchesBy key cache source after es
    → Tells key.name source es
fetch_tells key cache source after _ (kept seed at gives same) =
    kept_tells key.name seed source gives
fetch_tells key cache source after _ (fetches_none is same) =
    subst (λ s. Tells key.name s []) (sym is) calm_none
fetch_tells key cache source after _ (unwrapped none keeps) = answer_tells key source

module _ (seeds : List SeedRow) (list : List Who) (path bytes : List ℕ) where
  -- ---- the answer

  calm_tells : (envelope : Envelope) (result : Result Opened UnsealNo) (es : List Exchange)
      → Unseals envelope seeds list path bytes result → AreCalm es → UnsealTells result es
  calm_tells envelope (Ok opened) es u calm = calm
  calm_tells envelope (Err (Refused why)) es u calm = calm
  calm_tells envelope (Err (PluginFailed name)) es u calm = absurd u
  calm_tells envelope (Err NoMemory) es u calm = calm

  fetched_tells : (name : List ℕ) (object : EncryptedObject) (source : Result (List ℕ) KmsNo)
      (result : Result Opened UnsealNo) (es : List Exchange)
      → AnswersByFetch seeds list path bytes name object source result → Tells name source es
      → UnsealTells result es
  fetched_tells name object (Ok source) result es u t =
      calm_tells (record { object = Ok object; source = Some source }) result es u t
  fetched_tells name object (Err kms.Failed) result es is t =
      subst (λ r. UnsealTells r es) (sym is) t
  fetched_tells name object (Err kms.NoMemory) result es is t =
      subst (λ r. UnsealTells r es) (sym is) t

  pub unsealing_tells : (cache : CacheState) (result : Result Opened UnsealNo)
      (after : CacheState) (es : List Exchange)
      → ReadsBy seeds list path bytes cache result after es → UnsealTells result es
  unsealing_tells cache result after _ (no_memory is same) =
      subst (λ r. UnsealTells r []) (sym is) calm_none
  unsealing_tells cache result after _ (unasked envelope has takes none n u same) =
      calm_tells envelope result [] u calm_none
  unsealing_tells cache result after es (fetched name object source reader has may fetches answers)
      = fetched_tells name object source result es answers
      (fetch_tells (seed_key name object) cache source after es fetches)
