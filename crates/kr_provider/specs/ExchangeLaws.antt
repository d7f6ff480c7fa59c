-- What a bench's exchanges with plugins promise, by whatever agrees with them.
use Rattle.std.specs.Prelude.{ℕ, List, Option, Result, Ok, Err, IfOk, ⊤}
use Rattle.kr_config.specs.declared.who.Who.{Who}
use Rattle.kr_kms.specs.Cache.{AreOpenBy, CacheState}
use Rattle.kr_kms.specs.Exchanges.{AgreeAll, Exchange}
use Rattle.kr_kms.specs.Opens.{OpenAll, Opens}
use Rattle.kr_kms.specs.declared.seeds.SeedRow.{SeedRow}
use Rattle.kr_provider.specs.Envelopes.{Envelope, IsEnvelopeOf}
use Rattle.kr_provider.specs.Exchanges.{MakesSeedsBy, ReadsBy}
use Rattle.kr_provider.specs.Reading.{Unseals}
use Rattle.kr_provider.specs.declared.refusal.Opened.{Opened}
use Rattle.kr_provider.specs.declared.refusal.PublishNo.{PublishNo}
use Rattle.kr_provider.specs.declared.refusal.UnsealNo.{UnsealNo}
use Rattle.kr_provider.specs.declared.refusal.UnsealNo.TheVariants.{Refused, PluginFailed, NoMemory}

-- data and refusals are the value's reading by what sources open to
abbrev pub IsAnswerBy : Opens → List SeedRow → List Who → (path bytes : List ℕ)
    → Result Opened UnsealNo → Type 0
IsAnswerBy opens seeds list path bytes (Ok opened) = (envelope : Envelope)
    × IsEnvelopeOf opens list bytes envelope × Unseals envelope seeds list path bytes (Ok opened)
IsAnswerBy opens seeds list path bytes (Err (Refused why)) = (envelope : Envelope)
    × IsEnvelopeOf opens list bytes envelope
    × Unseals envelope seeds list path bytes (Err (Refused why))
IsAnswerBy opens seeds list path bytes (Err (PluginFailed name)) = ⊤
IsAnswerBy opens seeds list path bytes (Err NoMemory) = ⊤

-- where the published and the kept seeds are what their sources open to, so is what is kept then,
-- and the answer is the value's reading
abbrev pub ReadingsAgree : Type 0
ReadingsAgree = (opens : Opens) (seeds : List SeedRow) (list : List Who) (path bytes : List ℕ)
    (cache : CacheState) (result : Result Opened UnsealNo) (after : CacheState)
    (exchanges : List Exchange) → ReadsBy seeds list path bytes cache result after exchanges
    → AgreeAll opens exchanges → OpenAll opens seeds → AreOpenBy opens cache.rows
    → AreOpenBy opens after.rows × IsAnswerBy opens seeds list path bytes result

-- the seeds that were made for a configuration are what their sources open to
abbrev pub MadeSeedsAgree : {D : Type 0} → (left : D → Option (List ℕ)) (count : D → ℕ) → Type 0
MadeSeedsAgree {D} left count = (opens : Opens) (names : List (List ℕ)) (passed : List ℕ) (dice : D)
    (result : Result (List SeedRow) PublishNo) (after : D) (exchanges : List Exchange)
    → MakesSeedsBy left count names passed dice result after exchanges → AgreeAll opens exchanges
    → IfOk result (OpenAll opens)
