-- How the steps of a bench end, by what it made of the bytes.
use Rattle.std.proofs.Common.{◌≡◌, ℕ, ◌≤◌, List, length, Option, None, Some, Result, Ok, Err, refl, sym, ◌∙◌, ap, subst, inl, inr, arith, Contains}
use Rattle.std.specs.Prelude.{IfOk, IfSome, IsSome}
use Rattle.kr_base.specs.Limits.{data_limit, value_limit}
use Rattle.kr_config.specs.declared.who.Who.{Who}
use Rattle.kr_kms.specs.Calls.{Link}
use Rattle.kr_kms.specs.declared.seeds.SeedRow.{SeedRow}
use Rattle.kr_provider.specs.Publication.{Publication, list_at}
use Rattle.kr_provider.specs.Readers.{writer_of, reader_in}
use Rattle.kr_provider.specs.Sealing.{Seals}
use Rattle.kr_provider.specs.declared.refusal.SealNo.{SealNo}
use Rattle.kr_provider.specs.declared.refusal.SealNo.TheVariants as seal
use Rattle.kr_provider.specs.declared.refusal.ValueNo.TheVariants.{LooksEncrypted}
use Rattle.kr_provider.proofs.AskedLists.{names_stay}
use Rattle.kr_cmd_steps.specs.Environment.{Environment, with_exchanges}
use Rattle.kr_cmd_steps.specs.Phases.{silently, with_memory, input_limit}
use Rattle.kr_cmd_steps.specs.ValueSteps.{none_kept, value_steps, sealing, working_by, freshness, unsealing, value_read, value_sealed, data_steps}
use Rattle.kr_cmd_messages.specs.declared.command.Direction.{Direction}
use Rattle.kr_cmd_messages.specs.declared.command.Direction.TheVariants.{Encrypt, Decrypt}
use Rattle.kr_cmd_steps.specs.Steps.{Steps, refuse}
use Rattle.kr_cmd_steps.specs.inner.Phases.{Does}
use Rattle.kr_cmd_steps.specs.inner.Plugins.{seal_outcome, IsUnsealEnd, NamesAnUnread}
use Rattle.kr_cmd_messages.specs.declared.refusal.Outcome.{Outcome}
use Rattle.kr_cmd_messages.specs.declared.refusal.Refusal.TheVariants.{Value}
use Rattle.kr_cmd_messages.specs.declared.refusal.Stop.{Stop}
use Rattle.kr_cmd_messages.specs.declared.refusal.Stop.TheVariants.{NoMemory, Fault, Refused}
use Rattle.kr_cmd_steps.proofs.Frames.{Seen}
use Rattle.kr_cmd_steps.proofs.RunTo.{home_refl, reach, goes_on, given, stops}
use Rattle.kr_kms.specs.Cache.{CacheState}
use Rattle.kr_kms.specs.Exchanges.{Exchange}
use Rattle.kr_provider.specs.Exchanges.{ReadsBy}
use Rattle.kr_provider.specs.Names.{AreDistinct, names_of}
use Rattle.kr_provider.specs.Unsealing.{UnsealsBy, plugin_reading}
use Rattle.kr_provider.specs.declared.refusal.Opened.{Opened}
use Rattle.kr_provider.specs.declared.refusal.UnsealNo.{UnsealNo}
use Rattle.kr_provider.specs.declared.refusal.UnsealNo.TheVariants as unseal
use Rattle.kr_cmd_steps.proofs.Links.{named_there}
use Rattle.kr_provider.specs.declared.refusal.ValueNo.{ValueNo}
use Rattle.kr_cmd_messages.specs.declared.refusal.Object.TheVariants.{Dice, Plugin}
use Rattle.kr_cmd_steps.proofs.Unsealed.{asks_reader}
use Rattle.kr_cmd_messages.specs.declared.refusal.Refusal.{Refusal}
use Rattle.kr_cmd_steps.proofs.ValueRead.{IsValueEnd, Rises, keeping, sealed_does, sealed_end, value_does}

-- memory lacked before anything was done
pub lacks : {A : Type 0} (next : Steps A) (a : Environment) → Does (with_memory next) a a (Err NoMemory)
lacks next a =
    record { home = home_refl a; ends = λ left s. inr (reach left (inl (refl, refl)) s) }

-- steps that refuse
declined : {A : Type 0} (why : Refusal) (a : Environment)
    → Does {A = A} (refuse why) a a (Err (Refused why))
declined why a = record { home = home_refl a; ends = λ left s. reach left (refl, refl) s }

-- ---- what a bench sealed: its links weren't asked

module _ {L D : Type 0} (link : L → Link) (left : D → Option (List ℕ)) (count : D → ℕ)
    (links : List L) (old new : D) (a : Environment) (who : Who) (seeds : List SeedRow)
    (path bytes : List ℕ) where
  abbrev Sealed : Steps (Option (List ℕ))
  Sealed = value_sealed seeds who path bytes

  abbrev Undrawn : Environment
  Undrawn = Seen link a links (left old) (count old)

  abbrev Drawn : Environment
  Drawn = Seen link a links (left new) (count new)

  seals_by : (result : Result (List ℕ) SealNo) → length bytes ≤ data_limit
      → Seals left count seeds who path bytes old new result
      → (Rises (count old) (count new) result
      → Does Sealed Undrawn Drawn (sealed_end (count new) result))
      → Does (sealing seeds who path bytes) Undrawn Drawn (seal_outcome (count new) result)
  seals_by (Ok value) fits made does =
      goes_on Sealed value_steps (Some value) (does tt) (given (silently value) Drawn)
  seals_by (Err seal.LooksEncrypted) fits made does =
      goes_on Sealed value_steps None (does tt) (declined (Value LooksEncrypted) Drawn)
  seals_by (Err (seal.TooLarge size)) fits (e, large, same) does =
      absurd (omega (arith, fits, large))
  seals_by (Err seal.DiceFailed) fits (short, draws, rose, k, once) does =
      stops Sealed value_steps (Fault (Dice 0) (count new)) (does rose)
  seals_by (Err seal.NoMemory) fits made does = stops Sealed value_steps NoMemory (does tt)

  seals : (result : Result (List ℕ) SealNo) → count old ≤ count new → length bytes ≤ data_limit
      → Seals left count seeds who path bytes old new result
      → Does (sealing seeds who path bytes) Undrawn Drawn (seal_outcome (count new) result)
  seals result later fits made = seals_by result fits made (λ rises. sealed_does link left count
      links old new (count old) (count new) a who seeds path bytes result later fits rises made)

-- what a bench that adopted a publication sealed, once its links and its random source are back
pub seal_made : {L D : Type 0} (link : L → Link) (left : D → Option (List ℕ)) (count : D → ℕ)
    (resource path bytes : List ℕ) (a : Environment) (published : Option Publication)
    (direction : Direction) (links back : List L) (old mid new : D) (faults : ℕ)
    (result : Result (List ℕ) SealNo) (made : Result Outcome Stop)
    → direction ≡ Encrypt → length bytes ≤ input_limit direction → count old ≤ count mid
    → back ≡ links → new ≡ mid → faults ≡ count new → made ≡ seal_outcome faults result
    → IfSome published (λ p. Seals left count p.seeds (writer_of (list_at p resource)) path bytes
    old mid result)
    → IfSome published (λ p. Does (working_by direction resource path p.rows bytes p.seeds)
    (Seen link a links (left old) (count old)) (Seen link a back (left new) (count new)) made)
seal_made link left count resource path bytes a None direction links back old mid new faults result
    made e fits later same at f m s =
    tt
seal_made link left count resource path bytes a (Some p) direction links back old mid new faults
    result made e fits later same at f m s =
    let Made : Direction → List _ → _ → Result Outcome Stop → Type 0 = λ d l n r.
    Does (working_by d resource path p.rows bytes p.seeds)
    (Seen link a links (left old) (count old)) (Seen link a l (left n) (count n)) r in
    subst (λ d. Made d back new made) (sym e)
    (subst (λ l. Made Encrypt l new made) (sym same)
    (subst (λ r. Made Encrypt links new r)
    (ap (λ n. seal_outcome n result) (ap count (sym at) ∙ sym f) ∙ sym m)
    (subst (λ n. Made Encrypt links n (seal_outcome (count mid) result)) (sym at)
    (seals link left count links old mid a (writer_of (list_at p resource)) p.seeds path bytes
    result later (subst (λ d. length bytes ≤ input_limit d) e fits) s))))

-- a value that was sealed isn't too long
pub sealed_size : (faults : ℕ) (sealed : Result (List ℕ) SealNo)
    → IfOk sealed (λ value. length value ≤ value_limit)
    → IfOk (seal_outcome faults sealed) (λ made. length made.bytes ≤ value_limit)
sealed_size faults (Ok value) s = s
sealed_size faults (Err seal.LooksEncrypted) s = tt
sealed_size faults (Err other) s = tt

-- ---- what a bench read

module _ {L : Type 0} (link : L → Link) (seeds : List SeedRow) (list : List Who)
    (path bytes : List ℕ) (olds news : List L) (distinct : AreDistinct link olds)
    (dice : Option (List ℕ)) (count : ℕ) (a : Environment) (after : CacheState) (es : List Exchange)
  where
    abbrev ValueSteps : Steps (Result Opened ValueNo × CacheState)
    ValueSteps = value_read seeds list path bytes none_kept

    -- what the steps make of what was read
    abbrev Told : Result Opened ValueNo × CacheState → Steps Outcome
    Told read = data_steps read.0

    abbrev Before : Environment
    Before = Seen link a olds dice count

    abbrev After : Environment
    After = with_exchanges es (Seen link a news dice count)

    abbrev ReadsMessage : Result Opened UnsealNo → Type 0
    ReadsMessage result = UnsealsBy link seeds list path bytes olds result news
        × ReadsBy seeds list path bytes none_kept result after es

    reads : (result : Result Opened UnsealNo) (made : Result (Result Opened ValueNo) Stop)
        → ReadsMessage result → IsValueEnd link news result made
        → Does ValueSteps Before After (keeping after made)
    reads result made u e = value_does link seeds list path bytes olds news distinct dice count a
        none_kept result made u.0 e after es u.1

    unseals : (result : Result Opened UnsealNo) (made : Result Outcome Stop)
        → ReadsMessage result → IsUnsealEnd link news result made
        → Does (unsealing seeds list path bytes) Before After made
    unseals (Ok opened) made u e =
        subst (λ m. Does (unsealing seeds list path bytes) Before After m) (sym e)
        (goes_on ValueSteps Told (Ok opened, after) (reads (Ok opened) (Ok (Ok opened)) u refl)
        (given (record { bytes = opened.plain; done = freshness opened.stale }) After))
    unseals (Err (unseal.Refused why)) made u e =
        subst (λ m. Does (unsealing seeds list path bytes) Before After m) (sym e)
        (goes_on ValueSteps Told (Err why, after)
        (reads (Err (unseal.Refused why)) (Ok (Err why)) u refl) (declined (Value why) After))
    unseals (Err (unseal.PluginFailed name)) made u e =
        let stop : Stop = Fault (Plugin name) (link e.it).count in
        subst (λ m. Does (unsealing seeds list path bytes) Before After m) (sym e.has)
        (stops ValueSteps Told stop (reads (Err (unseal.PluginFailed name)) (Err stop) u
        (record { it = e.it; there = e.there; named = e.named; has = refl })))
    unseals (Err unseal.NoMemory) made u e =
        subst (λ m. Does (unsealing seeds list path bytes) Before After m) (sym e)
        (stops ValueSteps Told NoMemory (reads (Err unseal.NoMemory) (Err NoMemory) u refl))

-- what a bench that adopted a publication, and keeps no seed, read, once its links and its random
-- source are back
module _ {L D : Type 0} (link : L → Link) (left : D → Option (List ℕ))
    (count : D → ℕ) (resource path bytes : List ℕ) (published : Option Publication)
    (olds news : List L) (cache after : CacheState) (cold : cache ≡ none_kept)
    (result : Result Opened UnsealNo) (es : List Exchange) where
  abbrev ReadFrom : CacheState → Publication → Type 0
  ReadFrom kept p = UnsealsBy link p.seeds (list_at p resource) path bytes olds result news
      × ReadsBy p.seeds (list_at p resource) path bytes kept result after es

  pub unseal_made : (a : Environment) (direction : Direction) (back : List L) (old new : D)
      (made : Result Outcome Stop) → AreDistinct link olds
      → direction ≡ Decrypt → back ≡ news → new ≡ old → IsUnsealEnd link back result made
      → IfSome published (ReadFrom cache)
      → IfSome published (λ p. Does (working_by direction resource path p.rows bytes p.seeds)
      (Seen link a olds (left old) (count old))
      (with_exchanges es (Seen link a back (left new) (count new))) made)
  unseal_made a direction back old new made d e same at m u =
      subst (λ (d : Direction). IfSome published (λ p. Does (working_by d resource path p.rows
      bytes p.seeds) (Seen link a olds (left old) (count old))
      (with_exchanges es (Seen link a back (left new) (count new))) made)) (sym e)
      (subst (λ l. IfSome published (λ p. Does (working_by Decrypt resource path p.rows bytes
      p.seeds) (Seen link a olds (left old) (count old))
      (with_exchanges es (Seen link a l (left new) (count new))) made)) (sym same)
      (subst (λ n. IfSome published (λ p. Does (working_by Decrypt resource path p.rows bytes
      p.seeds) (Seen link a olds (left old) (count old))
      (with_exchanges es (Seen link a news (left n) (count n))) made)) (sym at)
      (by published (subst (λ kept. IfSome published (ReadFrom kept)) cold u)
      (subst (λ l. IsUnsealEnd link l result made) same m))))
    where
      by : (p : Option Publication) → IfSome p (ReadFrom none_kept)
          → IsUnsealEnd link news result made
          → IfSome p (λ p. Does (working_by Decrypt resource path p.rows bytes p.seeds)
          (Seen link a olds (left old) (count old))
          (with_exchanges es (Seen link a news (left old) (count old))) made)
      by None u m = tt
      by (Some p) u m = unseals link p.seeds (list_at p resource) path bytes olds news d
          (left old) (count old) a after es result made u m

-- there is a link to the plugin that failed
pub names_unread : {L : Type 0} (link : L → Link) (resource path bytes : List ℕ)
    (published : Option Publication) (olds news : List L) (result : Result Opened UnsealNo)
    → IsSome published
    → IfSome published (λ p. UnsealsBy link p.seeds (list_at p resource) path bytes olds
    result news)
    → NamesAnUnread (names_of link news) result
names_unread link resource path bytes None olds news result some u = absurd (cc)
names_unread link resource path bytes (Some p) olds news (Err (unseal.PluginFailed name)) some
    u =
    subst (Contains (names_of link news)) u.rose.new_named
    (named_there link news u.rose.new u.rose.new_there)
names_unread link resource path bytes (Some p) olds news other some u = tt

pub names_stay_read : {L : Type 0} (link : L → Link) (resource path bytes : List ℕ)
    (published : Option Publication) (olds news : List L) (result : Result Opened UnsealNo)
    → IsSome published
    → IfSome published (λ p. UnsealsBy link p.seeds (list_at p resource) path bytes olds
    result news)
    → names_of link news ≡ names_of link olds
names_stay_read link resource path bytes None olds news result some u = absurd (cc)
names_stay_read link resource path bytes (Some p) olds news result some u =
    names_stay link (plugin_reading (reader_in (list_at p resource) bytes)) olds news
    (asks_reader link p.seeds (list_at p resource) path bytes olds news result u)
