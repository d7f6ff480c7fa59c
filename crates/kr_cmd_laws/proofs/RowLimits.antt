-- A drive over the rows of a store refuses nothing but that its limit would be passed.
use Rattle.std.proofs.Common.{◌≡◌, ℕ, zero, suc, List, [], ◌∷◌, ◌++◌, length, Bool, true, false, Option, None, Some, Result, Ok, Err, sym, ap, subst, inl, inr}
use Rattle.std.specs.Prelude.{nat_lt, if◌then◌else◌}
use Rattle.kr_base.specs.Limits.{data_limit, store_limit}
use Rattle.kr_config.specs.Lists.{list_of}
use Rattle.kr_config.specs.declared.who.Who.{Who}
use Rattle.kr_envelope.specs.declared.object.EncryptedObject.{EncryptedObject}
use Rattle.kr_envelope.specs.declared.object.ObjectNo.{ObjectNo}
use Rattle.kr_kms.specs.Cache.{CacheState}
use Rattle.kr_kms.specs.declared.seeds.SeedKey.{SeedKey}
use Rattle.kr_kms.specs.declared.seeds.SeedRow.{SeedRow}
use Rattle.kr_provider.specs.Envelopes.{Envelope}
use Rattle.kr_provider.specs.Publication.{Publication}
use Rattle.kr_provider.specs.Reading.{Reading, data_of, refused, unopened, value_reading, is_stale}
use Rattle.kr_provider.specs.Readers.{reader_in, writer_of}
use Rattle.kr_provider.specs.Sealing.{draw_size, sealed_by}
use Rattle.kr_provider.specs.declared.refusal.Opened.{Opened}
use Rattle.kr_provider.specs.declared.refusal.ValueNo.{ValueNo}
use Rattle.kr_store.specs.File.{file_bytes}
use Rattle.kr_store.specs.declared.rows.LogRow.{LogRow}
use Rattle.kr_store.specs.declared.rows.Row as stored
use Rattle.kr_cmd_messages.specs.declared.refusal.Limit.TheVariants as limit
use Rattle.kr_cmd_messages.specs.declared.refusal.Object.TheVariants.{Store}
use Rattle.kr_cmd_messages.specs.declared.refusal.Refusal.{Refusal}
use Rattle.kr_cmd_messages.specs.declared.refusal.Refusal.TheVariants.{Limit}
use Rattle.kr_cmd_steps.specs.Phases.{adding, by_result}
use Rattle.kr_cmd_steps.specs.RewriteSteps.{Progress, driving, one_fresh, one_rewritten, replacing, resealing, row_anew, row_by, row_data, row_steps}
use Rattle.kr_cmd_steps.specs.StoreFiles.{Stored, with_row}
use Rattle.kr_cmd_steps.specs.ValueSteps.{draw_some, reading_given, value_read, value_sealed, value_with, fetching}
use Rattle.kr_cmd_steps.specs.Steps.{Steps, write_row, give, and_then, Point, awaits, amid, refuses, gives, StepState, RunTo}
use Rattle.kr_cmd_steps.proofs.RunTo.{Further}
use Rattle.kr_cmd_laws.proofs.Behind.{parted}
use Rattle.kr_cmd_laws.proofs.OpeningSteps.{opens}

-- this point is no refusal
abbrev IsNoRefusal : {A : Type 0} → Point A → Type 0
IsNoRefusal (refuses why) = ⊥
IsNoRefusal point = Unit {0}

none_refused : {A B : Type 0} {why : Refusal} {here : Point A} → refuses why ≡ here → IsNoRefusal here
    → B
none_refused {A} {B} e none = absurd (subst (λ (q : Point A). IsNoRefusal q) (sym e) none)

abbrev refusal_of : {A : Type 0} → Refusal → Point A → Refusal
refusal_of other (refuses why) = why
refusal_of other another = other

module _ (P : Refusal → Type 0) where
  same_refusal : {A : Type 0} (why cause : Refusal)
      → ◌≡◌ {A = Point A} (refuses why) (refuses cause) → P cause → P why
  same_refusal {A} why cause e p =
      subst P (sym (ap (λ (q : Point A). refusal_of cause q) e)) p

  -- steps refuse nothing but this
  abbrev pub RefusesOnly : {A : Type 0} → Steps A → Type 0
  RefusesOnly s = (why : Refusal) (end left : StepState) → RunTo (refuses why) end s left → P why

  give_refuses : {A : Type 0} (x : A) → RefusesOnly (give x)
  give_refuses x why end left at = none_refused at.0 tt

  refuses_then : {A B : Type 0} (others : A → Steps B) → ((x : A) → RefusesOnly (others x))
      → (first : Steps A) → RefusesOnly first → RefusesOnly (and_then first others)
  refuses_then {A} {B} others o first f why end left goes =
      let r = parted others (refuses why) end first left goes in by r.0 r.1 r.2 r.3
    where
      by : (q : Point A) (mid : StepState) → RunTo q mid first left
          → Further (refuses why) end others q mid → P why
      by (awaits call) mid g at = none_refused at.0 tt
      by amid mid g at = none_refused at.0 tt
      by (refuses cause) mid g at = same_refusal why cause at.0 (f cause mid left g)
      by (gives x) mid g at = o x why end mid at

  -- ---- a value

  given_refuses : (reading : Reading) (stale : Bool) → RefusesOnly (reading_given reading stale)
  given_refuses (data_of plain) stale why end left at = none_refused at.0 tt
  given_refuses (refused cause) stale why end left at = none_refused at.0 tt
  given_refuses unopened stale why end left (inl at) = none_refused at.0 tt
  given_refuses unopened stale why end left (inr (none, u, goes)) = absurd none

  asking_refuses : {A : Type 0} (kept : CacheState) (key : SeedKey)
      (next : Option (List ℕ) → CacheState → Steps A)
      → ((o : Option (List ℕ)) (after : CacheState) → RefusesOnly (next o after))
      → RefusesOnly (fetching None kept key next)
  asking_refuses kept key next r why end left (inl at) = none_refused at.0 tt
  asking_refuses kept key next r why end left (inr (inl (answer, at))) = none_refused at.0 tt
  asking_refuses kept key next r why end left (inr (inr (inl at))) = none_refused at.0 tt
  asking_refuses kept key next r why end left (inr (inr (inr (bytes, inl at)))) =
      none_refused at.0 tt
  asking_refuses kept key next r why end left
      (inr (inr (inr (bytes, inr (after, keeps, goes))))) = r (Some bytes) after why end _ goes

  with_refuses : (seeds : List SeedRow) (list : List Who) (path bytes : List ℕ)
      (object : Result EncryptedObject ObjectNo) (source : Option (List ℕ)) (kept : CacheState)
      → RefusesOnly (value_with seeds list path bytes object source kept)
  with_refuses seeds list path bytes object source kept =
      let envelope : Envelope = record { object = object; source = source } in
      refuses_then (λ read. give (read, kept)) (λ read. give_refuses (read, kept))
      (reading_given (value_reading envelope list path bytes) (is_stale envelope seeds list bytes))
      (given_refuses (value_reading envelope list path bytes) (is_stale envelope seeds list bytes))

  read_refuses : (seeds : List SeedRow) (list : List Who) (path bytes : List ℕ)
      (kept : CacheState) → RefusesOnly (value_read seeds list path bytes kept)
  read_refuses seeds list path bytes kept why end left (inl at) = none_refused at.0 tt
  read_refuses seeds list path bytes kept why end left (inr (object, has, goes)) =
      let on = with_refuses seeds list path bytes object in
      opens (λ (s : Steps (Result Opened ValueNo × CacheState)). RefusesOnly s)
      (value_with seeds list path bytes object) on
      (λ before key. asking_refuses before key (value_with seeds list path bytes object) on) seeds
      (reader_in list bytes) object kept why end left goes

  draws_refuse : {A : Type 0} (size : ℕ) (next : List ℕ → Steps A)
      → ((drawn : List ℕ) → RefusesOnly (next drawn)) → RefusesOnly (draw_some size next)
  draws_refuse zero next r why end left goes = r [] why end left goes
  draws_refuse (suc more) next r why end left (inl at) = none_refused at.0 tt
  draws_refuse (suc more) next r why end left (inr (bytes, rest, c, fits, goes)) =
      r bytes why end _ goes

  sealed_refuses : (seeds : List SeedRow) (who : Who) (path plain : List ℕ)
      → RefusesOnly (value_sealed seeds who path plain)
  sealed_refuses seeds who path plain why end left (inl at) = none_refused at.0 tt
  sealed_refuses seeds who path plain why end left (inr (u, v, goes)) =
      draws_refuse (draw_size who) (λ drawn. give (sealed_by seeds who path plain drawn))
      (λ drawn. give_refuses (sealed_by seeds who path plain drawn)) why end left goes

  -- ---- a row, where the limit of a store may be refused

  module _ (full : P (Limit limit.Store)) (name : List ℕ) where
    adding_refuses : (store : Stored) (row : LogRow) → RefusesOnly (adding Store name store row)
    adding_refuses store row why end left (inl at) = none_refused at.0 tt
    adding_refuses store row why end left (inr (u, v, goes)) =
        by (nat_lt store_limit (length (file_bytes store.format (store.rows ++ row ∷ [])))) goes
      where
        by : (large : Bool) → RunTo (refuses why) end (and_then
            (by_result (if large then Err (Limit limit.Store) else Ok (with_row row store)))
            (λ grown. write_row Store name store row (give grown))) left → P why
        by true at = same_refusal why (Limit limit.Store) at.0 full
        by false (inl (told, begins, at)) = none_refused at.0 tt
        by false (inr (told, holds, at)) = none_refused at.0 tt

    module _ (p : Publication) where
      replacing_refuses : (row : stored.Row) (at : Progress) (value : Option (List ℕ))
          → RefusesOnly (replacing name p row at value)
      replacing_refuses row at None = give_refuses _
      replacing_refuses row at (Some value) =
          let new = row_anew at.store.format p row value in
          refuses_then (λ grown. give (one_rewritten new at))
          (λ grown. give_refuses (one_rewritten new at)) (adding Store name at.store new)
          (adding_refuses at.store new)

      resealing_refuses : (long : Bool) (row : stored.Row) (plain : List ℕ) (at : Progress)
          → RefusesOnly (resealing long name p row plain at)
      resealing_refuses true row plain at = give_refuses _
      resealing_refuses false row plain at =
          let who = writer_of (list_of p.rows row.resource) in
          refuses_then (replacing name p row at) (replacing_refuses row at)
          (value_sealed p.seeds who row.path plain) (sealed_refuses p.seeds who row.path plain)

      data_refuses : (row : stored.Row) (at : Progress) (plain : List ℕ) (stale : Bool)
          → RefusesOnly (row_data name p row at plain stale)
      data_refuses row at plain false why end left e = give_refuses (one_fresh at) why end left e
      data_refuses row at plain true why end left (inl e) = none_refused e.0 tt
      data_refuses row at plain true why end left (inr (u, v, goes)) =
          resealing_refuses (nat_lt data_limit (length plain)) row plain at why end left goes

      by_refuses : (row : stored.Row) (at : Progress) (read : Result Opened ValueNo)
          → RefusesOnly (row_by name p row at read)
      by_refuses row at (Ok opened) = data_refuses row at opened.plain opened.stale
      by_refuses row at (Err cause) = give_refuses _

      row_refuses : (row : stored.Row) (kept : CacheState) (at : Progress)
          → RefusesOnly (row_steps name p row kept at)
      row_refuses row kept at =
          let list = list_of p.rows row.resource in
          refuses_then (λ read. and_then (row_by name p row at read.0) (λ done. give (done, read.1)))
          (λ read. refuses_then (λ done. give (done, read.1)) (λ done. give_refuses (done, read.1))
          (row_by name p row at read.0) (by_refuses row at read.0))
          (value_read p.seeds list row.path row.stored kept)
          (read_refuses p.seeds list row.path row.stored kept)

      pub driving_refuses : (live : List stored.Row) (kept : CacheState) (at : Progress)
          → RefusesOnly (driving name p live kept at)
      driving_refuses [] kept at why end left (told, holds, inl e) = none_refused e.0 tt
      driving_refuses [] kept at why end left (told, holds, inr (u, v, e)) = none_refused e.0 tt
      driving_refuses (row ∷ live) kept at why end left (told, holds, goes) =
          refuses_then (λ done. driving name p live done.1 done.0)
          (λ done. driving_refuses live done.1 done.0) (row_steps name p row kept at)
          (row_refuses row kept at) why end _ goes
