-- How seeds are made: one by one, and all.
use Rattle.std.specs.Prelude.{◌≡◌, ℕ, ◌⊎◌, List, [], Option, Result, Ok, Err}
use Rattle.kr_config.specs.Kept.{ConfigEntry, plugins_in}
use Rattle.kr_kms.specs.Calls.{Link}
use Rattle.kr_kms.specs.Exchanges.{Exchange}
use Rattle.kr_kms.specs.Seeds.{MakesSeed, MakesSeedBy}
use Rattle.kr_kms.specs.declared.health.SeedNo.{SeedNo}
use Rattle.kr_kms.specs.declared.health.SeedNo.TheVariants as seed
use Rattle.kr_kms.specs.declared.seeds.SeedRow.{SeedRow}
use Rattle.kr_provider.specs.AskedLinks.{AsksOne}
use Rattle.kr_provider.specs.Exchanges.{IsToldAt, MakesSeedsBy}
use Rattle.kr_provider.specs.Publishing.{Publishes}
use Rattle.kr_provider.specs.declared.refusal.PublishNo.{PublishNo}
use Rattle.kr_provider.specs.declared.refusal.PublishNo.TheVariants.{PluginFailed, DiceFailed, Unhealthy, NoMemory}

module _ {L D : Type 0} (link : L → Link) (left : D → Option (List ℕ))
    (count : D → ℕ) where
  -- the plugin of the name answered so
  abbrev pub MakesOne : List ℕ → List L → D → Result SeedRow SeedNo → List L → D → Type 0
  MakesOne name links dice answer news after = AsksOne link name
      (λ old new. MakesSeed left count (link old) dice answer (link new) after) links news

  abbrev pub MakesAt : List ℕ → List L → D → Result SeedRow PublishNo → List L → D → Type 0
  MakesAt name links dice (Ok row) new after = MakesOne name links dice (Ok row) new after
  MakesAt name links dice (Err (PluginFailed other)) new after =
      (other ≡ name) × MakesOne name links dice (Err seed.Failed) new after
  MakesAt name links dice (Err DiceFailed) new after =
      MakesOne name links dice (Err seed.DiceFailed) new after
  MakesAt name links dice (Err (Unhealthy other field text)) new after = (other ≡ name)
      × MakesOne name links dice (Err (seed.Unhealthy field text)) new after
  MakesAt name links dice (Err NoMemory) new after =
      MakesOne name links dice (Err seed.NoMemory) new after ⊎ ((new ≡ links) × (after ≡ dice))

  -- as publishing answers, with the list of the seeds and its room
  abbrev pub MakesAll : List ConfigEntry → List L → D → Result (List SeedRow × ℕ) PublishNo → List L
      → D
      → Type 0
  MakesAll rows links dice (Ok made) new after = Publishes link left count rows links dice
      (Ok (record { rows = rows; seeds = made.0 })) new after
  MakesAll rows links dice (Err why) new after =
      Publishes link left count rows links dice (Err why) new after

module _ {D : Type 0} (left : D → Option (List ℕ)) (count : D → ℕ) where
  -- the exchanges with the plugin of this name, and what of it is told; none where there was no
  -- memory for its name
  abbrev pub MakesOneBy : List ℕ → D → Result SeedRow PublishNo → D → List Exchange → Type 0
  MakesOneBy name dice (Ok row) after exchanges = (answer : Result SeedRow SeedNo)
      × MakesSeedBy left count name dice answer after exchanges × IsToldAt name answer (Ok row)
  MakesOneBy name dice (Err why) after exchanges = ((answer : Result SeedRow SeedNo)
      × MakesSeedBy left count name dice answer after exchanges
      × IsToldAt {T = SeedRow} name answer (Err why))
      ⊎ ((why ≡ NoMemory) × (after ≡ dice) × (exchanges ≡ []))

  -- with all plugins that the entries name
  abbrev pub MakesAllBy : List ConfigEntry → D → Result (List SeedRow × ℕ) PublishNo → D
      → List Exchange
      → Type 0
  MakesAllBy rows dice (Ok made) after exchanges =
      MakesSeedsBy left count (plugins_in rows) [] dice (Ok made.0) after exchanges
  MakesAllBy rows dice (Err why) after exchanges =
      MakesSeedsBy left count (plugins_in rows) [] dice (Err why) after exchanges
