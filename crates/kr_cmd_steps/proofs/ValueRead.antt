-- How the steps of one row's value end: what it reads as, and what sealing its data gives.
use Rattle.kr_base.specs.Faults.{Rose}
use Rattle.std.proofs.Common.{◌≡◌, ◌≢◌, ◌⊎◌, ℕ, zero, suc, ◌≤◌, List, [], ◌∷◌, length, true, Contains, Option, None, Some, Result, Ok, Err, refl, sym, ◌∙◌, ap, subst, inl, inr, arith, Bool, false}
use Rattle.std.specs.Prelude.{nat_lt, ⊤, if◌then◌else◌}
use Rattle.std.specs.Io.KnownBytes.{Consumes, Keeps}
use Rattle.std.proofs.KnownBytes.{Keeps-refl}
use Rattle.kr_base.specs.Limits.{data_limit}
use Rattle.kr_config.specs.declared.who.Who.{Who}
use Rattle.kr_config.specs.declared.who.Who.TheVariants.{Identity, Aescbc, Aesgcm, Kms}
use Rattle.kr_envelope.specs.Prefixes.{is_marked}
use Rattle.kr_kms.specs.Calls.{Link}
use Rattle.kr_kms.specs.Cache.{CacheState, FetchesBy, GivesSeed, KeepsAnswer, seed_at, with_used}
use Rattle.kr_kms.specs.Cache as fetch
use Rattle.kr_kms.specs.Exchanges.{Exchange, UnwrapCall}
use Rattle.kr_kms.specs.declared.plugin.KmsNo.{KmsNo}
use Rattle.kr_kms.specs.declared.plugin.KmsNo.TheVariants as kms
use Rattle.kr_kms.specs.declared.seeds.SeedKey.{SeedKey}
use Rattle.kr_kms.specs.declared.seeds.SeedRow.{SeedRow}
use Rattle.kr_envelope.specs.declared.object.EncryptedObject.{EncryptedObject}
use Rattle.kr_provider.specs.AskedLinks.{AskedOnly, FaultRose, HasLinkWith}
use Rattle.kr_provider.specs.Envelopes.{Envelope, HasObject, IsObjectOf, seed_key}
use Rattle.kr_provider.specs.Exchanges.{AnswersByFetch, LacksSource, ReadsBy, fetched, no_memory, unasked}
use Rattle.kr_provider.specs.Names.{AreDistinct}
use Rattle.kr_provider.specs.Readers.{reader_in}
use Rattle.kr_provider.specs.Reading.{Reading, Unseals, data_of, is_stale}
use Rattle.kr_provider.specs.Sealing.{draw_size, sealed_by, Seals}
use Rattle.kr_provider.specs.Unsealing.{MayAskPlugin, MayAskFor, TakesSeed, UnsealsBy, plugin_reading}
use Rattle.kr_provider.specs.declared.refusal.Opened.{Opened}
use Rattle.kr_provider.specs.declared.refusal.SealNo.{SealNo}
use Rattle.kr_provider.specs.declared.refusal.SealNo.TheVariants as seal
use Rattle.kr_provider.specs.declared.refusal.UnsealNo.{UnsealNo}
use Rattle.kr_provider.specs.declared.refusal.UnsealNo.TheVariants as unseal
use Rattle.kr_provider.specs.declared.refusal.ValueNo.{ValueNo}
use Rattle.kr_cmd_steps.specs.Environment.{Environment, Ends, StepsEndAt, IsStateOf, with_exchanges}
use Rattle.kr_cmd_steps.specs.ValueSteps.{draw_some, fetching, opening, reading_given, value_read, value_sealed, value_with}
use Rattle.kr_cmd_steps.specs.Phases.{with_memory}
use Rattle.kr_cmd_steps.specs.Steps.{RunTo, StepState, Point, Steps, amid, and_then, asking, awaits, drawing, give, gives, hearing, with_dice, with_heard}
use Rattle.kr_cmd_steps.specs.inner.Phases.{Does}
use Rattle.kr_cmd_messages.specs.declared.refusal.Object.TheVariants.{Dice, Plugin}
use Rattle.kr_cmd_messages.specs.declared.refusal.Stop.{Stop}
use Rattle.kr_cmd_messages.specs.declared.refusal.Stop.TheVariants.{Fault, NoMemory}
use Rattle.kr_provider.proofs.AskedLists.{asked_none}
use Rattle.kr_cmd_steps.proofs.Frames.{Seen, drawn, home, keeps_none, kept, plugin_fault}
use Rattle.kr_cmd_steps.proofs.RunTo.{consumes_by, reach}
use Rattle.kr_cmd_steps.proofs.Hearing.{heard_none, home_heard, stays_heard}
use Rattle.kr_cmd_steps.proofs.Unsealed.{as_stale, asks_plugin, asks_reader, opens_unasked}

-- ---- what is simple

pub no_bytes : (bytes : List ℕ) → length bytes ≡ 0 → bytes ≡ []
no_bytes [] e = refl
no_bytes (byte ∷ bytes) e = absurd (omega (arith, e))

pub enough : {A : Type 0} {next : Steps A} {left : StepState} {new : Environment} {point : Point A}
    → StepsEndAt next left new point → StepsEndAt (with_memory next) left new point
enough r = reach r.end (inr (tt, tt, r.goes)) r.stays

pub none_marked : (long marked : Bool) (plain : List ℕ) → marked ≡ true
    → (if long then None else (if marked then None else Some plain)) ≡ None
none_marked true marked plain m = refl
none_marked false true plain m = refl
none_marked false false plain m = absurd (cc)

-- ---- a value that a bench read

-- what it read, as the steps give it; a plugin's fault has its link's count
abbrev pub IsValueEnd : {L : Type 0} → (L → Link) → List L → Result Opened UnsealNo
    → Result (Result Opened ValueNo) Stop → Type 0
IsValueEnd link links (Ok opened) made = made ≡ Ok (Ok opened)
IsValueEnd link links (Err (unseal.Refused why)) made = made ≡ Ok (Err why)
IsValueEnd link links (Err (unseal.PluginFailed name)) made =
    HasLinkWith link name (λ l. made ≡ Err (Fault (Plugin name) l.count)) links
IsValueEnd link links (Err unseal.NoMemory) made = made ≡ Err NoMemory

-- what was read, and what is kept then
abbrev pub keeping : {A : Type 0} → CacheState → Result A Stop → Result (A × CacheState) Stop
keeping kept (Ok x) = Ok (x, kept)
keeping kept (Err stop) = Err stop

module _ {L : Type 0} (link : L → Link) (seeds : List SeedRow) (list : List Who)
    (path bytes : List ℕ) (olds news : List L) (distinct : AreDistinct link olds)
    (dice : Option (List ℕ)) (count : ℕ) (a : Environment) (cache : CacheState) where
  abbrev Before : Environment
  Before = Seen link a olds dice count

  abbrev After : List Exchange → Environment
  After es = with_exchanges es (Seen link a news dice count)

  abbrev Value : Steps (Result Opened ValueNo × CacheState)
  Value = value_read seeds list path bytes cache

  -- what the steps come to by an envelope, once its source is there
  abbrev Settles : Envelope → Result (Result Opened ValueNo) Stop → Type 0
  Settles envelope made = ((x : Result Opened ValueNo) × (made ≡ Ok x)
      × ((l : StepState) (kept : CacheState) → RunTo (gives (x, kept)) l
      (value_with seeds list path bytes envelope.object envelope.source kept) l))
      ⊎ (made ≡ Err NoMemory)

  abbrev Given : Envelope → CacheState → StepState → Result Opened ValueNo → Reading → Bool → Type 0
  Given envelope now l x r stale = RunTo {A = Result Opened ValueNo × CacheState} (gives (x, now)) l
      (and_then (reading_given r stale) (λ (read : Result Opened ValueNo). give (read, now))) l

  settles : (envelope : Envelope) (result : Result Opened UnsealNo)
      (made : Result (Result Opened ValueNo) Stop)
      → Unseals envelope seeds list path bytes result → IsValueEnd link news result made
      → Settles envelope made
  settles envelope (Ok opened) made u e = inl (
    Ok opened,
    e,
    λ l kept. subst (λ r. Given envelope kept l (Ok opened) r
        (is_stale envelope seeds list bytes)) (sym u.0)
        (subst (λ b. Given envelope kept l (Ok opened) (data_of opened.plain) b) u.1
        (refl, refl)),
  )
  settles envelope (Err (unseal.Refused why)) made u e = inl (
    Err why,
    e,
    λ l kept. subst (λ r. Given envelope kept l (Err why) r
        (is_stale envelope seeds list bytes)) (sym u) (refl, refl),
  )
  settles envelope (Err (unseal.PluginFailed name)) made u e = absurd u
  settles envelope (Err unseal.NoMemory) made u e = inr e

  -- the links are the same plugins', and the one that failed has a higher count
  module _ (result : Result Opened UnsealNo) (made : Result (Result Opened ValueNo) Stop)
      (names : List (List ℕ)) (asked : AskedOnly link names olds news)
      (fails : (name : List ℕ) → result ≡ Err (unseal.PluginFailed name)
      → FaultRose link name olds news)
      (e : IsValueEnd link news result made) (after : CacheState) (l : StepState)
      (s : IsStateOf l Before) where
    stay : IsStateOf l (Seen link a news dice count)
    stay = kept link a names olds news asked dice dice count count (Keeps-refl dice) l s

    unheard : IsStateOf l (After [])
    unheard = stays_heard {left = l} [] l.heard (heard_none l.heard) stay

    heard : (exchange : Exchange) → IsStateOf (with_heard exchange l) (After (exchange ∷ []))
    heard exchange =
        stays_heard {left = l} (exchange ∷ []) (hearing (exchange ∷ []) l.heard) refl stay

    abbrev Ended : List Exchange → Type 0
    Ended es = Ends Value l Before (After es) (keeping after made)

    ended_so : (es : List Exchange) (m : Result (Result Opened ValueNo) Stop) → made ≡ m
        → Ends Value l Before (After es) (keeping after m) → Ended es
    ended_so es m is ends = subst (λ m. Ends Value l Before (After es) (keeping after m)) (sym is) ends

    forgot : (es : List Exchange) → result ≡ Err unseal.NoMemory
        → StepsEndAt Value l (After es) amid → Ended es
    forgot es is r =
        ended_so es (Err NoMemory) (subst (λ q. IsValueEnd link news q made) is e) (inr r)

    -- the value was read without a plugin
    unasked_ends : (envelope : Envelope)
        → HasObject (reader_in list bytes) bytes envelope.object
        → TakesSeed seeds (reader_in list bytes) envelope
        → (MayAskPlugin seeds (reader_in list bytes) envelope.object → ⊥) → after ≡ cache
        → Settles envelope made → Ended []
    unasked_ends envelope has takes own same (inl (x, is, goes)) =
        let stale : Option (List ℕ) → Bool = λ source.
        is_stale (record { object = envelope.object; source = source }) seeds list bytes in
        ended_so [] (Ok x) is (reach l (inr (
          envelope.object,
          has,
          subst (λ c. RunTo (gives (x, c)) l (opening seeds (reader_in list bytes) envelope.object
              cache (value_with seeds list path bytes envelope.object)) l) (sym same)
              (opens_unasked (λ r b c. and_then (reading_given r b)
              (λ (read : Result Opened ValueNo). give (read, c))) seeds path bytes stale cache
              (gives (x, cache)) l (reader_in list bytes) envelope.object envelope.source takes
              own (λ q. as_stale seeds list bytes envelope.object q envelope.source)
              (goes l cache)),
        )) unheard)
    unasked_ends envelope has takes own same (inr is) =
        ended_so [] (Err NoMemory) is (inr (reach l (inl (refl, refl)) unheard))

    -- ---- a plugin reads it, and may be asked for its source

    module _ (name : List ℕ) (object : EncryptedObject) (reader : reader_in list bytes ≡ Some (Kms name))
        (has : IsObjectOf name bytes (Ok object)) (may : MayAskFor seeds name object) where
      abbrev key : SeedKey
      key = seed_key name object

      abbrev With : Option (List ℕ) → CacheState → Steps (Result Opened ValueNo × CacheState)
      With = value_with seeds list path bytes (Ok object)

      -- the steps come to where the source's own do
      by_source : (es : List Exchange) (seed : Option (List ℕ)) (point : Point (Result Opened ValueNo × CacheState)) (end : StepState)
          → seed_at cache.rows key ≡ seed
          → RunTo point end (fetching seed cache key With) l → IsStateOf end (After es)
          → StepsEndAt Value l (After es) point
      by_source es seed point end found goes stays = reach end (inr (
        Ok object,
        subst (λ r. HasObject r bytes (Ok object)) (sym reader) has,
        subst (λ r. RunTo point end (opening seeds r (Ok object) cache With) l) (sym reader)
            (asks_plugin seeds name object cache With point end l may
            (subst (λ f. RunTo point end (fetching f cache key With) l) (sym found) goes)),
      )) stays

      abbrev Sourced : List ℕ → Envelope
      Sourced source = record { object = Ok object; source = Some source }

      -- it is kept
      kept_ends : (source : List ℕ) → seed_at cache.rows key ≡ Some source
          → after ≡ with_used cache key → Settles (Sourced source) made → Ended []
      kept_ends source found same (inl (x, is, goes)) = ended_so [] (Ok x) is
          (subst (λ c. StepsEndAt Value l (After []) (gives (x, c))) (sym same)
          (by_source [] (Some source) (gives (x, with_used cache key)) l found
          (goes l (with_used cache key)) unheard))
      kept_ends source found same (inr is) =
          ended_so [] (Err NoMemory) is (inr (reach l (inl (refl, refl)) unheard))

      -- it was unwrapped
      asked_ends : (source : List ℕ) → seed_at cache.rows key ≡ None
          → KeepsAnswer cache key (Ok source) after → Settles (Sourced source) made
          → Ended (UnwrapCall key (Ok source) ∷ [])
      asked_ends source found keeps (inl (x, is, goes)) =
          let exchange : Exchange = UnwrapCall key (Ok source) in
          ended_so (exchange ∷ []) (Ok x) is
          (by_source (exchange ∷ []) None (gives (x, after)) (with_heard exchange l) found
          (inr (inr (inr (
            source,
            inr (after, keeps, goes (with_heard exchange l) after),
          ))))
          (heard exchange))
      asked_ends source found keeps (inr is) =
          let exchange : Exchange = UnwrapCall key (Ok source) in
          ended_so (exchange ∷ []) (Err NoMemory) is
          (inr (by_source (exchange ∷ []) None amid (with_heard exchange l) found
          (inr (inl (Ok source, (refl, refl)))) (heard exchange)))

      -- or wasn't
      lacking_ends : (why : KmsNo) → seed_at cache.rows key ≡ None → LacksSource name why result
          → Ended (UnwrapCall key (Err why) ∷ [])
      lacking_ends kms.Failed found is =
          let exchange : Exchange = UnwrapCall key (Err kms.Failed) in
          let h = subst (λ q. IsValueEnd link news q made) is e in
          ended_so (exchange ∷ []) (Err (Fault (Plugin name) (link h.it).count)) h.has (
            asking 0 name,
            by_source (exchange ∷ []) None (awaits (asking 0 name)) (with_heard exchange l) found
                (inr (inr (inl (refl, refl)))) (heard exchange),
            plugin_fault link a names olds news asked dice dice count count name distinct
                (fails name is) h.it h.there h.named,
          )
      lacking_ends kms.NoMemory found is =
          let exchange : Exchange = UnwrapCall key (Err kms.NoMemory) in
          forgot (exchange ∷ []) is (by_source (exchange ∷ []) None amid (with_heard exchange l)
          found (inr (inl (Err kms.NoMemory, (refl, refl)))) (heard exchange))

      answered_ends : (source : Result (List ℕ) KmsNo) → seed_at cache.rows key ≡ None
          → KeepsAnswer cache key source after
          → AnswersByFetch seeds list path bytes name object source result
          → Ended (UnwrapCall key source ∷ [])
      answered_ends (Ok source) found keeps answers =
          asked_ends source found keeps (settles (Sourced source) result made answers e)
      answered_ends (Err why) found keeps answers = lacking_ends why found answers

      given_ends : (seed : List ℕ) (source : Result (List ℕ) KmsNo)
          → seed_at cache.rows key ≡ Some seed → GivesSeed seed source
          → after ≡ with_used cache key
          → AnswersByFetch seeds list path bytes name object source result → Ended []
      given_ends seed (Ok source) found gives_it same answers =
          kept_ends source (found ∙ ap (λ b. Some b) (sym gives_it)) same
          (settles (Sourced source) result made answers e)
      given_ends seed (Err kms.Failed) found gives_it same answers = absurd gives_it
      given_ends seed (Err kms.NoMemory) found gives_it same answers =
          forgot [] answers (reach l (inl (refl, refl)) unheard)

      no_room_ends : (source : Result (List ℕ) KmsNo) → source ≡ Err kms.NoMemory
          → AnswersByFetch seeds list path bytes name object source result → Ended []
      no_room_ends source is answers = forgot []
          (subst (λ q. AnswersByFetch seeds list path bytes name object q result) is answers)
          (reach l (inl (refl, refl)) unheard)

      fetched_ends : (source : Result (List ℕ) KmsNo) (es : List Exchange)
          → FetchesBy key cache source after es
          → AnswersByFetch seeds list path bytes name object source result → Ended es
      fetched_ends source _ (fetch.kept seed found gives_it same) answers =
          given_ends seed source found gives_it same answers
      fetched_ends source _ (fetch.no_memory is same) answers = no_room_ends source is answers
      fetched_ends source _ (fetch.unwrapped none keeps) answers =
          answered_ends source none keeps answers

    value_ends : (es : List Exchange) → ReadsBy seeds list path bytes cache result after es
        → Ended es
    value_ends _ (no_memory is same) = forgot [] is (reach l (inl (refl, refl)) unheard)
    value_ends _ (unasked envelope has takes none own reads same) =
        unasked_ends envelope has takes own same (settles envelope result made reads e)
    value_ends es (fetched name object source reader has may fetches answers) =
        fetched_ends name object reader has may source es fetches answers

  pub value_goes : (result : Result Opened UnsealNo) (made : Result (Result Opened ValueNo) Stop)
      (names : List (List ℕ)) → AskedOnly link names olds news
      → ((name : List ℕ) → result ≡ Err (unseal.PluginFailed name)
      → FaultRose link name olds news)
      → IsValueEnd link news result made → (after : CacheState) (es : List Exchange)
      → ReadsBy seeds list path bytes cache result after es
      → Does Value Before (After es) (keeping after made)
  value_goes result made names asked fails e after es reads = record {
    home = home_heard es (home link a names olds news asked dice dice count count (omega arith));
    ends = λ l s. value_ends result made names asked fails e after l s es reads;
  }

  -- by what is said of the links
  pub value_does : (result : Result Opened UnsealNo) (made : Result (Result Opened ValueNo) Stop)
      → UnsealsBy link seeds list path bytes olds result news
      → IsValueEnd link news result made → (after : CacheState) (es : List Exchange)
      → ReadsBy seeds list path bytes cache result after es
      → Does Value Before (After es) (keeping after made)
  value_does result made u e after es reads =
      value_goes result made (plugin_reading (reader_in list bytes))
      (asks_reader link seeds list path bytes olds news result u)
      (λ name is. (subst (λ q. UnsealsBy link seeds list path bytes olds q news) is u).rose)
      e after es reads

-- ---- data that a bench sealed, within their limit

abbrev pub sealed_end : (faults : ℕ) → Result (List ℕ) SealNo → Result (Option (List ℕ)) Stop
sealed_end faults (Ok value) = Ok (Some value)
sealed_end faults (Err seal.LooksEncrypted) = Ok None
sealed_end faults (Err (seal.TooLarge size)) = Ok None
sealed_end faults (Err seal.DiceFailed) = Err (Fault (Dice 0) faults)
sealed_end faults (Err seal.NoMemory) = Err NoMemory

-- the counts of the random source before and afterwards may be any, if the last is no less, and
-- above where the source failed
abbrev pub Rises : (before now : ℕ) → Result (List ℕ) SealNo → Type 0
Rises before now (Err seal.DiceFailed) = Rose before now
Rises before now result = ⊤

module _ {L D : Type 0} (link : L → Link) (left : D → Option (List ℕ)) (count : D → ℕ)
    (links : List L) (old new : D) (before now : ℕ) (a : Environment) where
  abbrev Undrawn : Environment
  Undrawn = Seen link a links (left old) before

  abbrev Drawn : Environment
  Drawn = Seen link a links (left new) now

  still : Keeps (left old) (left new) → (l : StepState) → IsStateOf l Undrawn → IsStateOf l Drawn
  still k l s =
      kept link a [] links links (asked_none link [] links) (left old) (left new) before now k l s

  taken : (l : StepState) → IsStateOf l Undrawn → IsStateOf (with_dice 0 (left new) l) Drawn
  taken l s =
      drawn link a [] links links (asked_none link [] links) (left old) (left new) before now l s

  same_left : (l : StepState) → new ≡ old → IsStateOf l Undrawn → IsStateOf l Drawn
  same_left l same s =
      still (subst (λ d. Keeps (left old) (left d)) (sym same) (Keeps-refl (left old))) l s

  draws : (size : ℕ) (sealed : List ℕ → Option (List ℕ)) (bytes value : List ℕ) (l : StepState)
      → length bytes ≡ size → sealed bytes ≡ Some value → Consumes (left old) (left new) bytes
      → IsStateOf l Undrawn
      → StepsEndAt (draw_some size (λ d. give (sealed d))) l Drawn (gives (Some value))
  draws zero sealed bytes value l fits is c s =
      let none = no_bytes bytes fits in
      reach l (ap (λ o. gives o) (sym (ap sealed (sym none) ∙ is)), refl)
      (still (keeps_none (left old) (left new)
      (subst (λ d. Consumes (left old) (left new) d) none c)) l s)
  draws (suc more) sealed bytes value l fits is c s =
      let rest : StepState = with_dice 0 (left new) l in
      reach rest (inr (
        bytes,
        left new,
        consumes_by bytes (l.dice 0) (left old) (left new) (s.dice 0) c,
        fits,
        (ap (λ o. gives o) (sym is), refl),
      ))
      (taken l s)

  undrawn : (who : Who) (seeds : List SeedRow) (path plain : List ℕ) (l : StepState) → who ≢ Identity
      → Keeps (left old) (left new) → IsStateOf l Undrawn
      → StepsEndAt (value_sealed seeds who path plain) l Drawn (awaits (drawing 0))
  undrawn Identity seeds path plain l n k s = absurd (n refl)
  undrawn other seeds path plain l n k s = enough (reach l (inl (refl, refl)) (still k l s))

  sealed_ends : (who : Who) (seeds : List SeedRow) (path plain : List ℕ)
      (result : Result (List ℕ) SealNo) (l : StepState) → length plain ≤ data_limit
      → Rises before now result → Seals left count seeds who path plain old new result
      → IsStateOf l Undrawn
      → Ends (value_sealed seeds who path plain) l Undrawn Drawn (sealed_end now result)
  sealed_ends who seeds path plain (Ok value) l fits r (bytes, all, is, c, same, calm) s =
      enough (draws (draw_size who) (sealed_by seeds who path plain) bytes value l all.0 is c s)
  sealed_ends who seeds path plain (Err (seal.TooLarge size)) l fits r (e, large, same) s =
      absurd (omega (arith, fits, large))
  sealed_ends who seeds path plain (Err seal.LooksEncrypted) l fits r (short, e, marked, same) s =
      let none = none_marked (nat_lt data_limit (length plain)) (is_marked plain) plain marked in
      subst (λ w. StepsEndAt (value_sealed seeds w path plain) l Drawn (gives None)) (sym e)
      (enough (reach l (ap (λ o. gives o) (sym none), refl)
      (same_left l same s)))
  sealed_ends who seeds path plain (Err seal.DiceFailed) l fits r (short, draws_so, rose, k, once) s =
      (drawing 0, undrawn who seeds path plain l draws_so k s, (refl, r, refl))
  sealed_ends who seeds path plain (Err seal.NoMemory) l fits r same s =
      inr (reach l (inl (refl, refl)) (same_left l same s))

  pub sealed_does : (who : Who) (seeds : List SeedRow) (path plain : List ℕ)
      (result : Result (List ℕ) SealNo) → before ≤ now → length plain ≤ data_limit
      → Rises before now result → Seals left count seeds who path plain old new result
      → Does (value_sealed seeds who path plain) Undrawn Drawn (sealed_end now result)
  sealed_does who seeds path plain result later fits rises made = record {
    home = home link a [] links links (asked_none link [] links) (left old) (left new) before now
        later;
    ends = λ l s. sealed_ends who seeds path plain result l fits rises made s;
  }
