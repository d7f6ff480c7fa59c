-- The seeds that a bench keeps are answers of its worker's plugins, or were kept before; and so is
-- the source with which a row is read.
use Rattle.std.specs.Prelude.{◌-◌, Contains, IfOk, ⊤}
use Rattle.std.proofs.Common.{◌≡◌, ℕ, List, [], ◌∷◌, ◌++◌, Option, None, Some, Result, Ok, Err, ◌⊎◌, inl, inr, refl, ap, sym, subst, ◌∙◌, arith}
use Rattle.std.proofs.lemmas.List.Elements.{Contains-append_cases, Contains-append_left, Contains-append_right}
use Rattle.std.proofs.lemmas.Option.{none-some, same_Some}
use Rattle.lru.proofs.CallerLemmas.{Contains-promoted, Contains-take}
use Rattle.lru.proofs.Splits.{Contains-cons}
use Rattle.kr_config.specs.declared.who.Who.{Who}
use Rattle.kr_config.specs.declared.who.Who.TheVariants.{Kms}
use Rattle.kr_envelope.specs.declared.object.EncryptedObject.{EncryptedObject}
use Rattle.kr_envelope.specs.declared.object.ObjectNo.{ObjectNo}
use Rattle.kr_kms.specs.Cache.{CacheState, FetchesBy, GivesSeed, KeepsAnswer, kept, key_eq, no_memory, unwrapped, with_seed, with_used}
use Rattle.kr_kms.specs.Calls.{Link}
use Rattle.kr_kms.specs.Exchanges.{Exchange, UnwrapCall}
use Rattle.kr_kms.specs.declared.plugin.KmsNo.{KmsNo}
use Rattle.kr_kms.specs.declared.plugin.KmsNo.TheVariants as kms
use Rattle.kr_kms.specs.declared.seeds.SeedKey.{SeedKey}
use Rattle.kr_kms.specs.declared.seeds.SeedRow.{SeedRow}
use Rattle.kr_kms.proofs.Fetching.{found_there}
use Rattle.kr_provider.specs.Envelopes.{Envelope, HasObject, seed_key}
use Rattle.kr_provider.specs.Exchanges.{ReadsBy, fetched, no_memory as reads_nothing, unasked}
use Rattle.kr_provider.specs.Publication.{Publication, list_at}
use Rattle.kr_provider.specs.Readers.{reader_in}
use Rattle.kr_provider.specs.Reading.{Reading, Unseals, data_of, refused, value_reading}
use Rattle.kr_provider.specs.Unsealing.{HasNoSource, MayAskPlugin, MayAskFor, TakesSeed}
use Rattle.kr_provider.specs.declared.refusal.Opened.{Opened}
use Rattle.kr_provider.specs.declared.refusal.UnsealNo.{UnsealNo}
use Rattle.kr_provider.specs.declared.refusal.UnsealNo.TheVariants as unsealing
use Rattle.kr_store.specs.declared.rows.Row.{Row}
use Rattle.kr_history.specs.Acting.{Caller}
use Rattle.kr_history.specs.declared.call.CallNo.{CallNo}
use Rattle.kr_history.specs.declared.call.CallNo.TheVariants as refusal
use Rattle.kr_fleet.specs.CallExchanges.{AsksNone, FindsBy, FindsRowBy, IsReadBy}
use Rattle.kr_fleet.specs.declared.outcome.Read.{Read}
use Rattle.kr_fleet.specs.declared.outcome.Read.TheVariants as read_finding
use Rattle.kr_rewrite.specs.DriveExchanges.{Ahead, IsDriveBy, ReadsRow}
use Rattle.kr_rewrite.specs.Drives.{WalksOver}
use Rattle.kr_rewrite.specs.Rewrites.{IsStepOver}
use Rattle.kr_rewrite.specs.declared.outcome.Report.{Report}
use Rattle.kr_rewrite.specs.declared.outcome.Step.{Step}
use Rattle.kr_script.specs.declared.script.ScriptLine.{ScriptLine}
use Rattle.kr_script.specs.declared.script.ScriptLine.TheVariants as line
use Rattle.kr_workers.specs.declared.files.SettingsFile.{SettingsFile}
use Rattle.kr_workers.specs.LineExchanges.{DoesBy}
use Rattle.kr_workers.specs.Replies.{Reply}
use Rattle.kr_workers.specs.Runs.{DoesAll, LineDone, exchanges_in}
use Rattle.kr_workers.specs.ScriptLines.{Workplace}
use Rattle.kr_headline.proofs.RowByRow.{drive_keeps, step_keeps, walks_keep}

-- the reading that a call's answer is, if it is one
abbrev pub reading_by : Result Opened UnsealNo → Option Reading
reading_by (Ok opened) = Some (data_of opened.plain)
reading_by (Err (unsealing.Refused why)) = Some (refused why)
reading_by (Err (unsealing.PluginFailed name)) = None
reading_by (Err unsealing.NoMemory) = None

read_so : (envelope : Envelope) (seeds : List SeedRow) (list : List Who) (path bytes : List ℕ)
    (opened : Result Opened UnsealNo) (reading : Reading)
    → Unseals envelope seeds list path bytes opened → reading_by opened ≡ Some reading
    → Some (value_reading envelope list path bytes) ≡ Some reading
read_so envelope seeds list path bytes (Ok opened) reading u is =
    ap (λ (r : Reading). Some r) u.0 ∙ is
read_so envelope seeds list path bytes (Err (unsealing.Refused why)) reading u is =
    ap (λ (r : Reading). Some r) u ∙ is
read_so envelope seeds list path bytes (Err other) reading u is = absurd (none-some reading is)

-- the object of a result, or another
abbrev object_in : EncryptedObject → Result EncryptedObject ObjectNo → EncryptedObject
object_in other (Ok object) = object
object_in other (Err why) = other

abbrev is_failure : Result Opened UnsealNo → Type 0
is_failure (Err (unsealing.PluginFailed name)) = ⊤
is_failure result = ⊥

abbrev failed_name : List ℕ → Result Opened UnsealNo → List ℕ
failed_name other (Err (unsealing.PluginFailed name)) = name
failed_name other result = other

abbrev is_object : Result EncryptedObject ObjectNo → Type 0
is_object (Ok object) = ⊤
is_object (Err why) = ⊥

-- this is said of the seeds by their keys
module _ (Was : SeedKey → List ℕ → Type 0) where
  -- of each that is kept, and of each answer
  abbrev pub AreKnown : List (SeedKey × List ℕ) → Type 0
  AreKnown rows = (key : SeedKey) (seed : List ℕ) → Contains rows (key, seed) → Was key seed

  abbrev pub AreAnswers : List Exchange → Type 0
  AreAnswers es =
      (key : SeedKey) (seed : List ℕ) → Contains es (UnwrapCall key (Ok seed)) → Was key seed

  same_known : (cache after : CacheState) → after ≡ cache → AreKnown cache.rows
      → AreKnown after.rows
  same_known cache after same known = subst (λ (c : CacheState). AreKnown c.rows) (sym same) known

  used_known : (cache : CacheState) (key : SeedKey) → AreKnown cache.rows
      → AreKnown (with_used cache key).rows
  used_known cache key known other seed there =
      known other seed (Contains-promoted (key_eq key) cache.rows (other, seed) there)

  seed_known : (cache : CacheState) (key : SeedKey) (seed : List ℕ) → AreKnown cache.rows
      → Was key seed → AreKnown (with_seed cache key seed).rows
  seed_known cache key seed known was other bytes there =
      elim (Contains-cons _ _ _ there) [
        | inl same ↦ subst (λ (pair : SeedKey × List ℕ). Was pair.0 pair.1) same was
        | inr rest ↦ known other bytes
            (Contains-take (cache.size - 1) cache.rows (other, bytes) rest)
      ]

  answer_known : (key : SeedKey) (cache : CacheState) (seed : List ℕ) (after : CacheState)
      → AreKnown cache.rows → Was key seed → KeepsAnswer cache key (Ok seed) after
      → AreKnown after.rows
  answer_known key cache seed after known was (inl same) = same_known cache after same known
  answer_known key cache seed after known was (inr put) =
      same_known (with_seed cache key seed) after put (seed_known cache key seed known was)

  given_known : (key : SeedKey) (seed : List ℕ) (result : Result (List ℕ) KmsNo) → Was key seed
      → GivesSeed seed result → IfOk result (Was key)
  given_known key seed (Ok bytes) was gives = subst (Was key) (sym gives) was
  given_known key seed (Err why) was gives = tt

  fetch_known : (key : SeedKey) (cache : CacheState) (result : Result (List ℕ) KmsNo)
      (after : CacheState) (es : List Exchange) → FetchesBy key cache result after es
      → AreAnswers es → AreKnown cache.rows
      → AreKnown after.rows × IfOk result (Was key)
  fetch_known key cache result after _ (kept seed there gives same) answers known = (
    same_known (with_used cache key) after same (used_known cache key known),
    given_known key seed result (known key seed (found_there cache.rows key seed there)) gives,
  )
  fetch_known key cache result after _ (no_memory is same) answers known = (
    same_known cache after same known,
    subst (λ (r : Result (List ℕ) KmsNo). IfOk r (Was key)) (sym is) tt,
  )
  fetch_known key cache (Ok seed) after _ (unwrapped none keeps) answers known =
      let was = answers key seed (0, omega arith, refl) in
      (answer_known key cache seed after known was keeps, was)
  fetch_known key cache (Err why) after _ (unwrapped none keeps) answers known =
      (same_known cache after keeps known, tt)

  -- ---- a row that is read

  module _ (seeds : List SeedRow) (list : List Who) (path bytes : List ℕ) (cache : CacheState)
      (after : CacheState) where
    pub read_known : (opened : Result Opened UnsealNo) (es : List Exchange)
        → ReadsBy seeds list path bytes cache opened after es → AreAnswers es
        → AreKnown cache.rows → AreKnown after.rows
    read_known opened _ (reads_nothing is same) answers known = same_known cache after same known
    read_known opened _ (unasked v has takes none may unseals same) answers known =
        same_known cache after same known
    read_known opened es (fetched name object source reader is may fetches made) answers known =
        (fetch_known (seed_key name object) cache source after es fetches answers known).0

    -- it was read with a source that is known, and this was answered by it
    pub record ReadsKnown (opened : Result Opened UnsealNo) (reading : Reading) : Type 0 where
      pub envelope : Envelope
      pub object : HasObject (reader_in list bytes) bytes envelope.object
      pub seed : TakesSeed seeds (reader_in list bytes) envelope
      pub unsourced : HasNoSource envelope
      pub reads : value_reading envelope list path bytes ≡ reading
      pub unseals : Unseals envelope seeds list path bytes opened
      pub source : (MayAskPlugin seeds (reader_in list bytes) envelope.object → ⊥)
          ⊎ ((name : List ℕ) × (object : EncryptedObject) × (source : List ℕ)
          × (reader_in list bytes ≡ Some (Kms name))
          × (envelope ≡ record { object = Ok object; source = Some source })
          × Was (seed_key name object) source)

    -- as the object of the plugin that reads it was fetched
    by_fetch : (name : List ℕ) (object : EncryptedObject) (source : List ℕ)
        → reader_in list bytes ≡ Some (Kms name)
        → HasObject (Some (Kms name)) bytes (Ok object) → MayAskFor seeds name object
        → Was (seed_key name object) source → (opened : Result Opened UnsealNo)
        (reading : Reading)
        → Unseals (record { object = Ok object; source = Some source }) seeds list path bytes opened
        → reading_by opened ≡ Some reading → ReadsKnown opened reading
    by_fetch name object source reader has may was opened reading unseals some =
        let v : Envelope = record { object = Ok object; source = Some source } in record {
          envelope = v;
          object = subst (λ (r : Option Who). HasObject r bytes (Ok object)) (sym reader) has;
          seed = subst (λ (r : Option Who). TakesSeed seeds r v) (sym reader)
              (λ other row same there own. absurd (may row there
              (own ∙ ap (λ (r : Result EncryptedObject ObjectNo).
              seed_key name (object_in object r)) (sym same))));
          unsourced = λ why is. absurd (subst is_object is tt);
          reads = same_Some (value_reading v list path bytes) reading
              (read_so v seeds list path bytes opened reading unseals some);
          unseals = unseals;
          source = inr (name, object, source, reader, refl, was);
        }

    pub was_read : (opened : Result Opened UnsealNo) (es : List Exchange) (reading : Reading)
        → ReadsBy seeds list path bytes cache opened after es → AreAnswers es
        → AreKnown cache.rows → reading_by opened ≡ Some reading → ReadsKnown opened reading
    was_read opened _ reading (reads_nothing is same) answers known some =
        absurd (none-some reading (sym (ap reading_by is) ∙ some))
    was_read opened _ reading (unasked v has takes none may unseals same) answers known some =
        record {
          envelope = v;
          object = has;
          seed = takes;
          unsourced = none;
          reads = same_Some (value_reading v list path bytes) reading
              (read_so v seeds list path bytes opened reading unseals some);
          unseals = unseals;
          source = inl may;
        }
    was_read opened es reading (fetched name object (Ok source) reader is may fetches made) answers
        known some = by_fetch name object source reader is may
        (fetch_known (seed_key name object) cache (Ok source) after es fetches answers known).1
        opened reading made some
    was_read opened es reading (fetched name object (Err kms.Failed) reader is may fetches made)
        answers known some = absurd (none-some reading (sym (ap reading_by made) ∙ some))
    was_read opened es reading (fetched name object (Err kms.NoMemory) reader is may fetches made)
        answers known some = absurd (none-some reading (sym (ap reading_by made) ∙ some))

    -- the plugin that failed is the one that reads the row
    pub failed_reader : (name : List ℕ) (es : List Exchange)
        → ReadsBy seeds list path bytes cache (Err (unsealing.PluginFailed name)) after es
        → reader_in list bytes ≡ Some (Kms name)
    failed_reader name _ (reads_nothing is same) = absurd (subst is_failure is tt)
    failed_reader name _ (unasked v has takes none may unseals same) = absurd unseals
    failed_reader name es (fetched own object (Ok source) reader is may fetches made) =
        absurd made
    failed_reader name es (fetched own object (Err kms.Failed) reader is may fetches made) =
        reader ∙ ap (λ n. Some (Kms n)) (sym (ap (failed_name name) made))
    failed_reader name es (fetched own object (Err kms.NoMemory) reader is may fetches made) =
        absurd (subst is_failure made tt)

  -- ---- a `get`

  module _ (cache after : CacheState) (es : List Exchange) (answers : AreAnswers es)
      (known : AreKnown cache.rows) where
    row_known : (path : List ℕ) (p : Publication) (old new : Caller) (row : Row)
        (opened : Result Opened UnsealNo)
        → FindsRowBy path p old cache row opened new after es → AreKnown after.rows
    row_known path p old new row opened f = read_known p.seeds (list_at p row.resource) path
        row.stored cache after opened es f.reads answers known

    none_known : AsksNone cache after es → AreKnown after.rows
    none_known none = same_known cache after none.0 known

    found_known : (path : List ℕ) (p : Publication) (old new : Caller)
        (result : Result Read CallNo) → FindsBy path p old cache result new after es
        → AreKnown after.rows
    found_known path p old new (Ok read_finding.Absent) f = none_known f.1
    found_known path p old new (Ok (read_finding.Value revision plain stale)) f =
        row_known path p old new f.0 (Ok (record { plain = plain; stale = stale })) f.1
    found_known path p old new (Err (refusal.Value why)) f =
        row_known path p old new f.0 (Err (unsealing.Refused why)) f.1
    found_known path p old new (Err (refusal.PluginFailed name)) f =
        row_known path p old new f.0 (Err (unsealing.PluginFailed name)) f.1
    found_known path p old new (Err refusal.Spent) f = none_known f.1
    found_known path p old new (Err refusal.NoMemory) (inl f) =
        row_known path p old new f.0 (Err unsealing.NoMemory) f.1
    found_known path p old new (Err refusal.NoMemory) (inr f) = none_known f.1
    found_known path p old new (Err other) f = absurd f

    get_known : (path : List ℕ) (replica : ℕ) (old new : Caller) (result : Result Read CallNo)
        → IsReadBy path replica old cache result new after es → AreKnown after.rows
    get_known path replica old new (Ok done) (inl e) = absurd e
    get_known path replica old new (Err why) (inl e) = none_known e.1
    get_known path replica old new result (inr h) =
        found_known path h.p h.adopted h.acted h.done h.does

  -- ---- a rewrite

  -- the exchanges that are still to come, and the seeds that are kept
  abbrev pub AreSo : Ahead → Type 0
  AreSo at = AreAnswers at.exchanges × AreKnown at.cache.rows

  abbrev StaySo : (from to : Ahead) → Type 0
  StaySo from to = AreSo from → AreSo to

  both_so : (from mid to : Ahead) → StaySo from mid → StaySo mid to → StaySo from to
  both_so from mid to first second so = second (first so)

  same_so : (from to : Ahead) → to ≡ from → AreSo from → AreSo to
  same_so from to same so = subst AreSo (sym same) so

  pub opens_so : (p : Publication) (row : Row) (from : Ahead) (opened : Result Opened UnsealNo)
      (to : Ahead) → ReadsRow p row from opened to → AreSo from → AreSo to
  opens_so p row from opened to r so =
      let all : AreAnswers (r.first ++ to.exchanges) = subst AreAnswers r.are so.0 in (
        λ key seed there. all key seed (Contains-append_right r.first to.exchanges
            (UnwrapCall key (Ok seed)) there),
        read_known p.seeds (list_at p row.resource) row.path row.stored from.cache to.cache opened
            r.first r.reads (λ key seed there. all key seed (Contains-append_left r.first
            to.exchanges (UnwrapCall key (Ok seed)) there)) so.1,
      )

  module _ {D : Type 0} (left : D → Option (List ℕ)) (count : D → ℕ) where
    pub step_so : (replica : ℕ) (above : List ℕ) (old new : Caller) (from to : Ahead)
        (dice after : D) (result : Result Step CallNo)
        → IsStepOver ReadsRow left count replica above old from dice result new to after
        → AreSo from → AreSo to
    step_so = step_keeps StaySo same_so both_so opens_so left count

    pub walks_so : (replica : ℕ) (above : List ℕ) (steps : List Step) (old new : Caller)
        (from to : Ahead) (dice after : D)
        → WalksOver ReadsRow left count replica above steps old from dice new to after
        → AreSo from → AreSo to
    walks_so = walks_keep StaySo same_so both_so opens_so left count

    drive_known : (replica : ℕ) (above : List ℕ) (old new : Caller) (cache stays : CacheState)
        (dice after : D) (result : Result Report (Report × CallNo)) (es : List Exchange)
        → IsDriveBy left count replica above old cache dice result new stays after es
        → AreAnswers es → AreKnown cache.rows → AreKnown stays.rows
    drive_known replica above old new cache stays dice after result es d answers known =
        (drive_keeps StaySo same_so both_so opens_so left count replica above old new cache stays
        dice after result es d (answers, known)).1

  -- ---- a line, and a run

  module _ {L D : Type 0} (link : L → Link)
      (step : L → Exchange → L → Type 0) (left : D → Option (List ℕ)) (count : D → ℕ)
      (files : List SettingsFile) where
    nothing_done : (old new : Workplace L D) → new ≡ old → AreKnown old.cache.rows
        → AreKnown new.cache.rows
    nothing_done old new same known =
        same_known old.cache new.cache (ap (λ (w : Workplace L D). w.cache) same) known

    line_known : (replica : ℕ) (asked : ScriptLine) (old new : Workplace L D) (reply : Reply)
        (es : List Exchange) → DoesBy left count files replica asked old reply new es
        → AreAnswers es → AreKnown old.cache.rows → AreKnown new.cache.rows
    line_known replica (line.Get path) old new reply es d answers known =
        get_known old.cache new.cache es answers known path replica old.caller new.caller d.0 d.2
    line_known replica line.Rewrite old new reply es d answers known =
        drive_known left count replica [] old.caller new.caller old.cache new.cache old.dice
        new.dice d.0 es d.2 answers known
    line_known replica (line.Reload named file) old new reply es (rows, read, inl d) answers known =
        nothing_done old new d.0.1 known
    line_known replica (line.Reload named file) old new reply es (rows, read, inr d) answers known =
        same_known old.cache new.cache d.3 known
    line_known replica line.Refresh old new reply es d answers known =
        same_known old.cache new.cache d.3 known
    line_known replica (line.Join named file) old new reply es (rows, read, inl d) answers known =
        nothing_done old new d.0.1 known
    line_known replica (line.Join named file) old new reply es (rows, read, inr d) answers known =
        same_known old.cache new.cache d.3 known
    line_known replica other old new reply es d answers known = same_known old.cache new.cache d.1 known

    pub run_known : (replica : ℕ) (first : Workplace L D) (run : List LineDone)
        (last : Workplace L D) → DoesAll link step left count files replica first run last
        → AreAnswers (exchanges_in run) → AreKnown first.cache.rows → AreKnown last.cache.rows
    run_known replica first [] last same answers known = nothing_done first last same known
    run_known replica first (done ∷ run) last all answers known =
        run_known replica all.0 run last all.2
        (λ key seed there. answers key seed (Contains-append_right done.exchanges
        (exchanges_in run) (UnwrapCall key (Ok seed)) there))
        (line_known replica done.line first all.0 (Ok done.reply) done.exchanges all.1.asks
        (λ key seed there. answers key seed (Contains-append_left done.exchanges
        (exchanges_in run) (UnwrapCall key (Ok seed)) there)) known)

  -- those of the lines ahead, and of one line
  pub parted : (ahead : List LineDone) (done : LineDone) (after : List LineDone)
      → AreAnswers (exchanges_in (ahead ++ done ∷ after))
      → AreAnswers (exchanges_in ahead) × AreAnswers done.exchanges
  parted [] done after all = (
    λ key seed there. absurd (omega (arith, there.1)),
    λ key seed there. all key seed (Contains-append_left done.exchanges (exchanges_in after)
        (UnwrapCall key (Ok seed)) there),
  )
  parted (one ∷ ahead) done after all =
      let behind_it = exchanges_in (ahead ++ done ∷ after) in
      let rest = parted ahead done after (λ key seed there. all key seed
      (Contains-append_right one.exchanges behind_it (UnwrapCall key (Ok seed)) there)) in (
        λ key seed there. elim (Contains-append_cases one.exchanges (exchanges_in ahead)
            (UnwrapCall key (Ok seed)) there) [
              | inl first ↦ all key seed (Contains-append_left one.exchanges behind_it
                  (UnwrapCall key (Ok seed)) first)
              | inr further ↦ rest.0 key seed further
            ],
        rest.1,
      )
