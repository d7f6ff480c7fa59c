-- What a line tells of a plugin is borne out by the line's own exchanges.
use Rattle.std.specs.Prelude.{Contains, true, false, ⊤}
use Rattle.std.proofs.Common.{ℕ, Bool, List, [], ◌∷◌, ◌++◌, Option, None, Some, Result, Ok, Err, inl, inr, refl, ap, sym, subst, arith}
use Rattle.std.proofs.lemmas.List.Elements.{All-cons, All-nil, All-weaker, Contains-append_left, Contains-append_right}
use Rattle.kr_config.specs.declared.who.Who.{Who}
use Rattle.kr_envelope.specs.declared.object.EncryptedObject.{EncryptedObject}
use Rattle.kr_kms.specs.Cache.{CacheState, FetchesBy, kept, no_memory as fetches_nothing, unwrapped}
use Rattle.kr_kms.specs.Exchanges.{Exchange, StatusCall, UnwrapCall, WrapCall}
use Rattle.kr_kms.specs.Health.{IsStatusJudged, TellsKeyIdBy, judged, no_status as tells_none, seed_no}
use Rattle.kr_kms.specs.Seeds.{MakesSeedBy, dice_failed, made, no_memory as makes_nothing, no_status, not_wrapped, unhealthy}
use Rattle.kr_kms.specs.declared.health.Field.{Field}
use Rattle.kr_kms.specs.declared.health.SeedNo.{SeedNo}
use Rattle.kr_kms.specs.declared.health.SeedNo.TheVariants as seed
use Rattle.kr_kms.specs.declared.plugin.KmsNo.{KmsNo}
use Rattle.kr_kms.specs.declared.plugin.KmsNo.TheVariants as kms
use Rattle.kr_kms.specs.declared.plugin.Status.{Status}
use Rattle.kr_kms.specs.declared.seeds.SeedRow.{SeedRow}
use Rattle.kr_provider.specs.Envelopes.{Envelope, seed_key}
use Rattle.kr_provider.specs.Exchanges.{IsRefusalAt, IsToldAt, MakesSeedsBy, ReadsBy, TellsKeyIdAt, all_made, fetched, no_memory as reads_nothing, no_name, no_room, refused, unasked, went_on, with_seed_first}
use Rattle.kr_provider.specs.Reading.{Unseals}
use Rattle.kr_provider.specs.declared.refusal.Opened.{Opened}
use Rattle.kr_provider.specs.declared.refusal.PublishNo.{PublishNo}
use Rattle.kr_provider.specs.declared.refusal.PublishNo.TheVariants as publishing
use Rattle.kr_provider.specs.declared.refusal.UnsealNo.{UnsealNo}
use Rattle.kr_provider.specs.declared.refusal.UnsealNo.TheVariants as unsealing
use Rattle.kr_history.specs.declared.call.CallNo.{CallNo}
use Rattle.kr_history.specs.declared.call.CallNo.TheVariants as refusal
use Rattle.kr_fleet.specs.CallExchanges.{ComparesKeysBy, all_same, changed, told_none, went_on as compared_on}
use Rattle.kr_fleet.specs.CallForms.{publish_refusal}
use Rattle.kr_headline.specs.Outside.{HasBroken, HasFailed, HasKeyId, HasOtherKey, HaveSeedKeys}

-- ---- whom a call's answer blames

pub data Blame : Type 0 where
  Fails : (name : List ℕ) → Blame
  Breaks : (name : List ℕ) → Field → (text : List ℕ) → Blame

-- the exchanges bear it out
abbrev pub Bears : List Exchange → Option Blame → Type 0
Bears es None = ⊤
Bears es (Some (Fails name)) = HasFailed es name
Bears es (Some (Breaks name field text)) = HasBroken es name field text

abbrev pub blame_of : CallNo → Option Blame
blame_of (refusal.PluginFailed name) = Some (Fails name)
blame_of (refusal.Unhealthy name field text) = Some (Breaks name field text)
blame_of why = None

-- ---- of some exchanges, and of more

failed_in : (es more : List Exchange) → ((e : Exchange) → Contains es e → Contains more e)
    → (name : List ℕ) → HasFailed es name → HasFailed more name
failed_in es more among name f = (f.0, among f.0 f.1, f.2, f.3)

pub bears_in : (es more : List Exchange) → ((e : Exchange) → Contains es e → Contains more e)
    → (blame : Option Blame) → Bears es blame → Bears more blame
bears_in es more among None b = tt
bears_in es more among (Some (Fails name)) b = failed_in es more among name b
bears_in es more among (Some (Breaks name field text)) b =
    (b.0, among (StatusCall name (Ok b.0)) b.1, b.2)

key_among : (es more : List Exchange) → ((e : Exchange) → Contains es e → Contains more e)
    → (name key_id : List ℕ) → HasKeyId es name key_id → HasKeyId more name key_id
key_among es more among name key_id h = (h.0, among (StatusCall name (Ok h.0)) h.1, h.2, h.3)

pub bears_right : (es fs : List Exchange) (blame : Option Blame) → Bears fs blame
    → Bears (es ++ fs) blame
bears_right es fs = bears_in fs (es ++ fs) (Contains-append_right es fs)

key_right : (es fs : List Exchange) (name key_id : List ℕ) → HasKeyId fs name key_id
    → HasKeyId (es ++ fs) name key_id
key_right es fs = key_among fs (es ++ fs) (Contains-append_right es fs)

pub other_left : (es fs : List Exchange) (seeds : List SeedRow) → HasOtherKey es seeds
    → HasOtherKey (es ++ fs) seeds
other_left es fs seeds o = (
  o.0,
  o.1,
  o.2,
  o.3,
  key_among es (es ++ fs) (Contains-append_left es fs) o.0.name o.2 o.4,
)

-- ---- a status, and a seed

-- why a plugin made no seed, or told no key id
abbrev seed_blame : (name : List ℕ) → SeedNo → Option Blame
seed_blame name seed.Failed = Some (Fails name)
seed_blame name (seed.Unhealthy field text) = Some (Breaks name field text)
seed_blame name seed.DiceFailed = None
seed_blame name seed.NoMemory = None

abbrev seed_blame_of : {T : Type 0} → (name : List ℕ) → Result T SeedNo → Option Blame
seed_blame_of name (Ok x) = None
seed_blame_of name (Err why) = seed_blame name why

status_failed : (name : List ℕ) (why : KmsNo) (rest : List Exchange)
    → Bears (StatusCall name (Err why) ∷ rest) (seed_blame name (seed_no why))
status_failed name kms.Failed rest = (StatusCall name (Err kms.Failed), (0, omega arith, refl), refl, refl)
status_failed name kms.NoMemory rest = tt

wrap_failed : (name plain : List ℕ) (why : KmsNo) (first : Exchange)
    → Bears (first ∷ WrapCall name plain (Err why) ∷ []) (seed_blame name (seed_no why))
wrap_failed name plain kms.Failed first =
    (WrapCall name plain (Err kms.Failed), (1, omega arith, refl), refl, refl)
wrap_failed name plain kms.NoMemory first = tt

module _ {D : Type 0} (left : D → Option (List ℕ)) (count : D → ℕ) where
  seed_bears : (name : List ℕ) (dice : D) (result : Result SeedRow SeedNo) (after : D)
      (es : List Exchange) → MakesSeedBy left count name dice result after es
      → Bears es (seed_blame_of name result)
  seed_bears name dice result after _ (no_status why is same) =
      subst (λ (r : Result SeedRow SeedNo). Bears (StatusCall name (Err why) ∷ [])
      (seed_blame_of name r)) (sym is) (status_failed name why [])
  seed_bears name dice result after _ (unhealthy status field text breach is same) =
      subst (λ (r : Result SeedRow SeedNo). Bears (StatusCall name (Ok status) ∷ [])
      (seed_blame_of name r)) (sym is) (status, (0, omega arith, refl), breach)
  seed_bears name dice result after _ (makes_nothing status none is drew) =
      subst (λ (r : Result SeedRow SeedNo). Bears (StatusCall name (Ok status) ∷ [])
      (seed_blame_of name r)) (sym is) tt
  seed_bears name dice result after _ (dice_failed status none is fails) =
      subst (λ (r : Result SeedRow SeedNo). Bears (StatusCall name (Ok status) ∷ [])
      (seed_blame_of name r)) (sym is) tt
  seed_bears name dice result after _ (not_wrapped status plain why none draws is) =
      subst (λ (r : Result SeedRow SeedNo).
      Bears (StatusCall name (Ok status) ∷ WrapCall name plain (Err why) ∷ [])
      (seed_blame_of name r)) (sym is)
      (wrap_failed name plain why (StatusCall name (Ok status)))
  seed_bears name dice result after _ (made status plain wrapped none draws is) =
      subst (λ (r : Result SeedRow SeedNo).
      Bears (StatusCall name (Ok status) ∷ WrapCall name plain (Ok wrapped) ∷ [])
      (seed_blame_of name r)) (sym is) tt

judged_bears : (name : List ℕ) (status : Status) (result : Result (List ℕ) SeedNo)
    → IsStatusJudged status result
    → Bears (StatusCall name (Ok status) ∷ []) (seed_blame_of name result)
judged_bears name status (Err (seed.Unhealthy field text)) j = (status, (0, omega arith, refl), j)
judged_bears name status (Err seed.Failed) j = absurd j
judged_bears name status other j = tt

key_bears : (name : List ℕ) (result : Result (List ℕ) SeedNo) (es : List Exchange)
    → TellsKeyIdBy name result es → Bears es (seed_blame_of name result)
key_bears name result _ (tells_none why is) =
    subst (λ (r : Result (List ℕ) SeedNo). Bears (StatusCall name (Err why) ∷ [])
    (seed_blame_of name r)) (sym is) (status_failed name why [])
key_bears name result _ (judged status j) = judged_bears name status result j

-- as it is told, or for want of memory
abbrev publish_blame : PublishNo → Option Blame
publish_blame cause = blame_of (publish_refusal cause)

told_bears : (es : List Exchange) (name : List ℕ) (why : SeedNo) (cause : PublishNo)
    → IsRefusalAt name why cause → Bears es (seed_blame name why) → Bears es (publish_blame cause)
told_bears es name seed.Failed cause is b =
    subst (λ (n : PublishNo). Bears es (publish_blame n)) (sym is) b
told_bears es name seed.DiceFailed cause is b =
    subst (λ (n : PublishNo). Bears es (publish_blame n)) (sym is) tt
told_bears es name (seed.Unhealthy field text) cause is b =
    subst (λ (n : PublishNo). Bears es (publish_blame n)) (sym is) b
told_bears es name seed.NoMemory cause is b =
    subst (λ (n : PublishNo). Bears es (publish_blame n)) (sym is) tt

-- ---- settings are published

abbrev rows_blame : Result (List SeedRow) PublishNo → Option Blame
rows_blame (Ok rows) = None
rows_blame (Err cause) = publish_blame cause

first_blame : (es : List Exchange) (row : SeedRow) (result : Result (List SeedRow) PublishNo)
    → Bears es (rows_blame result) → Bears es (rows_blame (with_seed_first row result))
first_blame es row (Ok rows) b = tt
first_blame es row (Err cause) b = b

module _ {D : Type 0} (left : D → Option (List ℕ)) (count : D → ℕ) (names : List (List ℕ)) where
  pub seeds_bear : (passed : List ℕ) (dice : D) (result : Result (List SeedRow) PublishNo) (after : D)
      (es : List Exchange) → MakesSeedsBy left count names passed dice result after es
      → Bears es (rows_blame result)
  seeds_bear passed dice _ _ _ (all_made none) = tt
  seeds_bear passed dice _ _ _ (refused {after = after} {exchanges = es} name why cause next makes told) =
      told_bears es name why cause told
      (seed_bears left count name dice (Err why) after es makes)
  seeds_bear passed dice _ _ _ (no_name name next) = tt
  seeds_bear passed dice _ _ _ (no_room name row next makes) = tt
  seeds_bear passed dice _ _ _ (went_on {between = between} {after = after} {exchanges = es}
      {others = fs} {result = result} name row next makes rest) =
      bears_right es fs (rows_blame (with_seed_first row result))
      (first_blame fs row result (seeds_bear name between result after fs rest))

-- ---- keys are compared

abbrev IsNotGone : CallNo → Type 0
IsNotGone refusal.Gone = ⊥
IsNotGone why = ⊤

abbrev pub Compared : List Exchange → List SeedRow → Result Bool CallNo → Type 0
Compared es seeds (Ok true) = HasOtherKey es seeds
Compared es seeds (Ok false) = HaveSeedKeys es seeds
Compared es seeds (Err why) = IsNotGone why × Bears es (blame_of why)

not_gone : (cause : PublishNo) → IsNotGone (publish_refusal cause)
not_gone (publishing.PluginFailed name) = tt
not_gone other = tt

status_key : (es : List Exchange) (name key_id : List ℕ) (status : Status)
    → IsStatusJudged status (Ok key_id) → HasKeyId (StatusCall name (Ok status) ∷ es) name key_id
status_key es name key_id status j = (status, (0, omega arith, refl), j.0, j.1)

abbrev key_in : {T : Type 0} → List ℕ → Result (List ℕ) T → List ℕ
key_in other (Ok key_id) = key_id
key_in other (Err why) = other

abbrev IsFine : {T E : Type 0} → Result T E → Type 0
IsFine (Ok x) = ⊤
IsFine (Err why) = ⊥

-- a key id that was told is that of the status
asked_key : (name key_id : List ℕ) (es : List Exchange) → TellsKeyIdBy name (Ok key_id) es
    → HasKeyId es name key_id
asked_key name key_id _ (tells_none why is) = absurd (subst IsFine is tt)
asked_key name key_id _ (judged status j) = status_key [] name key_id status j

key_told : (name key_id : List ℕ) (es : List Exchange) (answer : Result (List ℕ) SeedNo)
    → TellsKeyIdBy name answer es → IsToldAt name answer (Ok key_id) → HasKeyId es name key_id
key_told name key_id es (Ok key) tells told = subst (λ (k : List ℕ). HasKeyId es name k)
    (sym (ap (key_in key) told)) (asked_key name key es tells)
key_told name key_id es (Err why) tells told = absurd told

none_told : (name : List ℕ) (cause : PublishNo) (es : List Exchange)
    (answer : Result (List ℕ) SeedNo) → TellsKeyIdBy name answer es
    → IsToldAt name answer (Err cause) → Bears es (publish_blame cause)
none_told name cause es (Ok key) tells told = absurd (subst IsFine (sym told) tt)
none_told name cause es (Err why) tells told =
    told_bears es name why cause told (key_bears name (Err why) es tells)

key_untold : (name : List ℕ) (cause : PublishNo) (es : List Exchange)
    → TellsKeyIdAt name (Err cause) es → Bears es (publish_blame cause)
key_untold name cause es (inl (answer, tells, told)) = none_told name cause es answer tells told
key_untold name cause es (inr lacks) =
    subst (λ (n : PublishNo). Bears es (publish_blame n)) (sym lacks.0) tt

keys_right : (es fs : List Exchange) (seeds : List SeedRow) → HaveSeedKeys fs seeds
    → HaveSeedKeys (es ++ fs) seeds
keys_right es fs seeds all = All-weaker (λ (row : SeedRow). HasKeyId fs row.name row.key_id)
    (λ (row : SeedRow). HasKeyId (es ++ fs) row.name row.key_id)
    (λ row h. key_right es fs row.name row.key_id h) seeds all

there_behind : (row : SeedRow) (rest : List SeedRow) (it : SeedRow) → Contains rest it
    → Contains (row ∷ rest) it
there_behind row rest it there = Contains-append_right (row ∷ []) rest it there

compared_more : (es fs : List Exchange) (row : SeedRow) (rest : List SeedRow)
    (result : Result Bool CallNo) → HasKeyId es row.name row.key_id → Compared fs rest result
    → Compared (es ++ fs) (row ∷ rest) result
compared_more es fs row rest (Ok true) key c =
    (c.0, there_behind row rest c.0 c.1, c.2, c.3, key_right es fs c.0.name c.2 c.4)
compared_more es fs row rest (Ok false) key c =
    All-cons (λ (it : SeedRow). HasKeyId (es ++ fs) it.name it.key_id) row rest
    (key_among es (es ++ fs) (Contains-append_left es fs) row.name row.key_id key)
    (keys_right es fs rest c)
compared_more es fs row rest (Err why) key c = (c.0, bears_right es fs (blame_of why) c.1)

pub keys_compared : (seeds : List SeedRow) (result : Result Bool CallNo) (es : List Exchange)
    → ComparesKeysBy seeds result es → Compared es seeds result
keys_compared _ _ _ all_same = All-nil (λ (it : SeedRow). HasKeyId [] it.name it.key_id)
keys_compared _ _ _ (changed {exchanges = es} row rest key_id tells other) =
    (row, (0, omega arith, refl), key_id, other, key_told row.name key_id es tells.0 tells.1 tells.2)
keys_compared _ _ _ (told_none {exchanges = es} row rest cause why tells is) =
    subst (λ (w : CallNo). Compared es (row ∷ rest) (Err w)) (sym is)
    (not_gone cause, key_untold row.name cause es tells)
keys_compared _ _ _ (compared_on {exchanges = es} {others = fs} {result = result} row rest tells
    more) = compared_more es fs row rest result
    (key_told row.name row.key_id es tells.0 tells.1 tells.2) (keys_compared rest result fs more)

-- ---- a value is read

abbrev pub unseal_blame : Result Opened UnsealNo → Option Blame
unseal_blame (Err (unsealing.PluginFailed name)) = Some (Fails name)
unseal_blame other = None

unsealed_bears : (es : List Exchange) (envelope : Envelope) (seeds : List SeedRow)
    (list : List Who) (path bytes : List ℕ) (opened : Result Opened UnsealNo)
    → Unseals envelope seeds list path bytes opened → Bears es (unseal_blame opened)
unsealed_bears es envelope seeds list path bytes (Err (unsealing.PluginFailed name)) u = absurd u
unsealed_bears es envelope seeds list path bytes other u = tt

abbrev HasNoMemory : Result (List ℕ) KmsNo → Type 0
HasNoMemory (Err kms.NoMemory) = ⊤
HasNoMemory result = ⊥

fetch_failed : (name : List ℕ) (object : EncryptedObject) (cache after : CacheState)
    (es : List Exchange) → FetchesBy (seed_key name object) cache (Err kms.Failed) after es
    → HasFailed es name
fetch_failed name object cache after _ (kept seed there gives same) = absurd gives
fetch_failed name object cache after _ (fetches_nothing is same) =
    absurd (subst HasNoMemory (sym is) tt)
fetch_failed name object cache after _ (unwrapped none keeps) =
    (UnwrapCall (seed_key name object) (Err kms.Failed), (0, omega arith, refl), refl, refl)

pub reads_bear : (seeds : List SeedRow) (list : List Who) (path bytes : List ℕ)
    (cache after : CacheState) (opened : Result Opened UnsealNo) (es : List Exchange)
    → ReadsBy seeds list path bytes cache opened after es → Bears es (unseal_blame opened)
reads_bear seeds list path bytes cache after opened _ (reads_nothing is same) =
    subst (λ (r : Result Opened UnsealNo). Bears [] (unseal_blame r)) (sym is) tt
reads_bear seeds list path bytes cache after opened _ (unasked v has takes none may unseals same) =
    unsealed_bears [] v seeds list path bytes opened unseals
reads_bear seeds list path bytes cache after opened es
    (fetched name object (Ok source) reader is may fetches answers) = unsealed_bears es
    (record { object = Ok object; source = Some source }) seeds list path bytes opened answers
reads_bear seeds list path bytes cache after opened es
    (fetched name object (Err kms.Failed) reader is may fetches answers) =
    subst (λ (r : Result Opened UnsealNo). Bears es (unseal_blame r)) (sym answers)
    (fetch_failed name object cache after es fetches)
reads_bear seeds list path bytes cache after opened es
    (fetched name object (Err kms.NoMemory) reader is may fetches answers) =
    subst (λ (r : Result Opened UnsealNo). Bears es (unseal_blame r)) (sym answers) tt
