-- How much the workers of a load draw: a put at most the bytes of one value, and all else nothing,
-- since no configuration of a load names a plugin.
use Rattle.std.specs.Prelude.{All, Contains}
use Rattle.std.specs.Io.KnownBytes.{Consumes, Keeps}
use Rattle.std.proofs.Common.{◌≡◌, ℕ, ◌+◌, ◌*◌, ◌≤◌, List, [], ◌∷◌, ◌++◌, length, map, Option, None, Result, Ok, Err, inl, inr, refl, ap, sym, subst, ◌∙◌, arith}
use Rattle.std.proofs.KnownBytes.{Consumes-kept, Consumes-nil, Consumes-trans}
use Rattle.std.proofs.lemmas.List.{length-append, length-map}
use Rattle.std.proofs.lemmas.List.Elements.{All-head, All-tail}
use Rattle.kr_base.specs.Streams.{TakesAtMost}
use Rattle.kr_config.specs.Kept.{ConfigEntry, plugins_in}
use Rattle.kr_config.specs.declared.who.Who.{Who}
use Rattle.kr_config.specs.declared.who.Who.TheVariants.{Identity}
use Rattle.kr_kms.specs.Calls.{Link}
use Rattle.kr_kms.specs.Exchanges.{Exchange}
use Rattle.kr_kms.specs.declared.seeds.SeedRow.{SeedRow}
use Rattle.kr_provider.specs.BenchState.{BenchState}
use Rattle.kr_provider.specs.Publication.{Publication, writer_at}
use Rattle.kr_provider.specs.Publishing.{EndsWithin, Publishes, bytes_of_seeds}
use Rattle.kr_provider.specs.Sealing.{Seals, draw_size}
use Rattle.kr_provider.specs.declared.refusal.PublishNo.{PublishNo}
use Rattle.kr_provider.specs.declared.refusal.PublishNo.TheVariants as publishing
use Rattle.kr_provider.specs.declared.refusal.SealNo.{SealNo}
use Rattle.kr_provider.specs.declared.refusal.SealNo.TheVariants as sealing
use Rattle.kr_provider.specs.declared.refusal.ValueNo.TheVariants as value
use Rattle.kr_rollout.specs.declared.opening.Entry.{Entry}
use Rattle.kr_rollout.specs.declared.opening.Opening.{Opening}
use Rattle.kr_history.specs.Acting.{Caller}
use Rattle.kr_history.specs.declared.call.CallNo.{CallNo}
use Rattle.kr_history.specs.declared.call.CallNo.TheVariants as refusal
use Rattle.kr_fleet.specs.declared.outcome.Loaded.{Loaded}
use Rattle.kr_fleet.specs.declared.outcome.Loaded.TheVariants as loaded
use Rattle.kr_fleet.specs.LoadCalls.{BringsBy, IsReload, reload_of}
use Rattle.kr_fleet.specs.WriteCalls.{IsWrite, Puts}
use Rattle.kr_script.specs.declared.script.Part.{Part}
use Rattle.kr_script.specs.declared.script.ScriptLine.{ScriptLine}
use Rattle.kr_script.specs.declared.told.Told.{Told}
use Rattle.kr_workers.specs.Histories.{StandsIn, first_place}
use Rattle.kr_workers.specs.Replies.{Reply}
use Rattle.kr_workers.specs.Runs.{DoesAll, LineDone, lines_in}
use Rattle.kr_workers.specs.ScriptLines.{Does, DoesReload, Workplace}
use Rattle.kr_workers.specs.declared.files.SettingsFile.{SettingsFile}
use Rattle.kr_workload.specs.Loads.{configurations, lines_of, named_configuration}
use Rattle.kr_workload.proofs.LoadLines.{IsLoadLine, file_bare, lines_are, lines_few}

few_bytes : (who : Who) → draw_size who ≤ 44
few_bytes Identity = omega arith
few_bytes other = omega arith

none_within : {X : Type 0} (x : X) → Contains [] x → ⊥
none_within x (k, below, is) = omega (arith, below)

no_seeds : (seeds : List SeedRow)
    → ((name : List ℕ) → Contains (map (λ (row : SeedRow). row.name) seeds) name → ⊥) → seeds ≡ []
no_seeds [] none = refl
no_seeds (row ∷ seeds) none = absurd (none row.name (0, omega arith, refl))

module _ {L D : Type 0} (link : L → Link) (left : D → Option (List ℕ))
    (count : D → ℕ) where
  -- at most so many bytes were drawn
  abbrev pub Drew : ℕ → D → D → Type 0
  Drew most old new = TakesAtMost (left old) (left new) most

  drew_none : (most : ℕ) (old new : D) → new ≡ old → Drew most old new
  drew_none most old new same = (
    [],
    subst (λ (d : D). Consumes (left old) (left d) []) (sym same) (Consumes-nil (left old)),
    omega arith,
  )

  drew_kept : (most : ℕ) (old new : D) → Keeps (left old) (left new) → Drew most old new
  drew_kept most old new kept =
      let none = Consumes-kept (left old) (left old) (left new) [] (Consumes-nil (left old)) kept in
      ([], none, omega arith)

  drew_both : (old mid new : D) (n m : ℕ) → Drew n old mid → Drew m mid new
      → Drew (n + m) old new
  drew_both old mid new n m (first, p, few) (more, q, less) = (
    first ++ more,
    Consumes-trans (left old) (left mid) (left new) first more p q,
    omega (arith, few, less, length-append first more),
  )

  drew_within : (old new : D) (n m : ℕ) → n ≤ m → Drew n old new → Drew m old new
  drew_within old new n m less (bytes, p, few) = (bytes, p, omega (arith, few, less))

  -- ---- a put

  module _ (seeds : List SeedRow) (who : Who) (path plain : List ℕ) (old new : D) where
    sealed : (stored : List ℕ) → Seals left count seeds who path plain old new (Ok stored)
        → Drew 44 old new
    sealed stored s = (s.0, s.3, omega (arith, s.1.0, few_bytes who))

    unsealed : (why : SealNo) → Seals left count seeds who path plain old new (Err why)
        → Drew 44 old new
    unsealed (sealing.TooLarge size) s = drew_none 44 old new s.2
    unsealed sealing.LooksEncrypted s = drew_none 44 old new s.3
    unsealed sealing.DiceFailed s = drew_kept 44 old new s.3
    unsealed sealing.NoMemory s = drew_none 44 old new s

  module _ (resource path plain : List ℕ) where
    puts_draw : (p : Publication) (from to : Caller) (old new : D) (done : Result ℕ CallNo)
        → Puts left count resource path plain p from old done to new → Drew 44 old new
    puts_draw p from to old new (Ok revision) d =
        sealed p.seeds (writer_at p resource) path plain old new d.stored d.seals
    puts_draw p from to old new (Err (refusal.Value value.LooksEncrypted)) d =
        unsealed p.seeds (writer_at p resource) path plain old new sealing.LooksEncrypted d.0
    puts_draw p from to old new (Err (refusal.Value value.TooLarge)) d =
        unsealed p.seeds (writer_at p resource) path plain old new
        (sealing.TooLarge (length plain)) d.0
    puts_draw p from to old new (Err refusal.DiceFailed) d =
        unsealed p.seeds (writer_at p resource) path plain old new sealing.DiceFailed d.0
    puts_draw p from to old new (Err refusal.StoreFailed) d =
        sealed p.seeds (writer_at p resource) path plain old new d.stored d.seals
    puts_draw p from to old new (Err (refusal.StoreFull needed)) d =
        sealed p.seeds (writer_at p resource) path plain old new d.stored d.seals
    puts_draw p from to old new (Err refusal.Spent) d =
        sealed p.seeds (writer_at p resource) path plain old new d.stored d.seals
    puts_draw p from to old new (Err refusal.NoMemory) (inl d) =
        unsealed p.seeds (writer_at p resource) path plain old new sealing.NoMemory d.0
    puts_draw p from to old new (Err refusal.NoMemory) (inr d) =
        sealed p.seeds (writer_at p resource) path plain old new d.stored d.seals
    puts_draw p from to old new (Err other) d = absurd d

    write_draws : (replica : ℕ) (from to : Caller) (old new : D) (result : Result ℕ CallNo)
        → IsWrite left count resource path plain replica from old result to new → Drew 44 old new
    write_draws replica from to old new (Ok revision) (inl e) = absurd e
    write_draws replica from to old new (Err why) (inl e) = drew_none 44 old new e.1
    write_draws replica from to old new result (inr h) =
        puts_draw h.p h.adopted h.acted old new h.done h.does

  -- ---- a reload

  module _ (rows : List ConfigEntry) (bare : plugins_in rows ≡ []) (olds news : List L)
      (old new : D) where
    none_named : (name : List ℕ) → Contains (plugins_in rows) name → ⊥
    none_named name there = none_within name (subst (λ l. Contains l name) bare there)

    ends_never : (name : List ℕ) → EndsWithin link left count rows olds old new name → ⊥
    ends_never name (inl e) = none_named name e.there
    ends_never name (inr e) = none_named name e.2.there

    published_draws : (made : Result Publication PublishNo)
        → Publishes link left count rows olds old made news new → Drew 44 old new
    published_draws (Ok p) s =
        let none : p.seeds ≡ [] = no_seeds p.seeds
        (λ name there. none_named name ((s.1.named name).0 there).0) in (
          bytes_of_seeds p.seeds,
          s.2,
          (let long = ap (λ seeds. length (bytes_of_seeds seeds)) none in omega (arith, long)),
        )
    published_draws (Err (publishing.Unhealthy name field text)) s =
        absurd (none_named name s.0.there)
    published_draws (Err publishing.DiceFailed) s = absurd (none_named s.0 s.1.there)
    published_draws (Err (publishing.PluginFailed name)) s = absurd (ends_never name s.1)
    published_draws (Err publishing.NoMemory) s = absurd (ends_never s.0 s.1)

    brings_draw : (replica : ℕ) (from to : Caller) (why : CallNo)
        → BringsBy link left count rows (reload_of replica None) replica from olds old why to
        news new → Drew 44 old new
    brings_draw replica from to (refusal.PluginFailed name) b =
        published_draws (Err (publishing.PluginFailed name)) b.0
    brings_draw replica from to refusal.DiceFailed b =
        published_draws (Err publishing.DiceFailed) b.0
    brings_draw replica from to (refusal.Unhealthy name field text) b =
        published_draws (Err (publishing.Unhealthy name field text)) b.0
    brings_draw replica from to refusal.Gone b = published_draws (Ok b.p) b.publishes
    brings_draw replica from to refusal.Spent b = published_draws (Ok b.0.0) b.0.1
    brings_draw replica from to refusal.NoMemory (inl b) =
        published_draws (Err publishing.NoMemory) b.0
    brings_draw replica from to refusal.NoMemory (inr (inl b)) = published_draws (Ok b.0.0) b.0.1
    brings_draw replica from to refusal.NoMemory (inr (inr b)) =
        published_draws (Ok b.p) b.publishes
    brings_draw replica from to other b = absurd b

    reload_draws : (replica : ℕ) (from to : Caller) (result : Result Loaded CallNo)
        → IsReload link left count rows replica from olds old result to news new
        → Drew 44 old new
    reload_draws replica from to (Ok (loaded.Generation number)) b =
        published_draws (Ok b.p) b.publishes
    reload_draws replica from to (Ok (loaded.Refused verdict)) b =
        published_draws (Ok b.p) b.publishes
    reload_draws replica from to (Err why) b = brings_draw replica from to why b
    reload_draws replica from to (Ok other) b = absurd b

  reloaded_draws : (named : ℕ) (rows : List ConfigEntry) → plugins_in rows ≡ []
      → (old new : Workplace L D) (reply : Reply) → DoesReload link left count named rows old reply
      new → Drew 44 old.dice new.dice
  reloaded_draws named rows bare old new reply (inl none) =
      drew_none 44 old.dice new.dice (ap (λ (w : Workplace L D). w.dice) none.1)
  reloaded_draws named rows bare old new reply (inr d) = reload_draws rows bare old.links
      new.links old.dice new.dice named old.caller new.caller d.0 d.2

  -- ---- the lines of a load

  module _ (seed : ℕ) (files : List SettingsFile)
      (files_are : map named_configuration files ≡ configurations seed) (size worker replica : ℕ) where
    line_draws : (asked : ScriptLine) → IsLoadLine seed size worker asked
        → (old new : Workplace L D) (reply : Reply)
        → Does link left count files replica asked old reply new → Drew 44 old.dice new.dice
    line_draws asked (inl (number, below, is)) old new reply d =
        let w = subst
        (λ (l : ScriptLine). Does link left count files replica l old reply new) is d in
        write_draws _ _ _ replica old.caller new.caller old.dice new.dice w.0 w.2
    line_draws asked (inr (inl (number, below, is))) old new reply d =
        let g = subst
        (λ (l : ScriptLine). Does link left count files replica l old reply new) is d in
        drew_none 44 old.dice new.dice g.3
    line_draws asked (inr (inr (named, file, is, which))) old new reply d =
        let r = subst
        (λ (l : ScriptLine). Does link left count files replica l old reply new) is d in
        reloaded_draws named r.0 (file_bare seed files files_are file which r.0 r.1) old new reply
        r.2

    module _ (step : L → Exchange → L → Type 0) where
      all_draw : (first : Workplace L D) (run : List LineDone) (last : Workplace L D)
          → All (IsLoadLine seed size worker) (lines_in run)
          → DoesAll link step left count files replica first run last
          → Drew (44 * length run) first.dice last.dice
      all_draw first [] last all same = drew_none 0 first.dice last.dice
          (ap (λ (w : Workplace L D). w.dice) same)
      all_draw first (done ∷ run) last all (mid, is, rest) =
          let Is = IsLoadLine seed size worker in
          let one = line_draws done.line (All-head Is done.line (lines_in run) all) first mid
          (Ok done.reply) is.does in
          let more = all_draw mid run last (All-tail Is done.line (lines_in run) all) rest in
          drew_within first.dice last.dice (44 + 44 * length run) (44 * length (done ∷ run))
          (omega arith)
          (drew_both first.dice mid.dice last.dice 44 (44 * length run) one more)

  -- ---- a worker

  pub worker_draws : (step : L → Exchange → L → Type 0) (files : List SettingsFile)
      (history : List Entry) (o : Opening) (seed size worker budget : ℕ) (part : Part)
      (bench after : BenchState L D) (replies : List Told)
      → map named_configuration files ≡ configurations seed → part.lines.0 ≡ lines_of seed size worker
      → StandsIn link step left count files history part (first_place o worker budget bench)
      replies after
      → Drew (44 * (2 * size + 4)) bench.dice after.dice
  worker_draws step files history o seed size worker budget part bench after replies files_are lines
      s =
      let first = first_place o worker budget bench in
      let own = subst (λ l. All (IsLoadLine seed size worker) l) (sym (s.lines_are ∙ lines))
      (lines_are seed size worker) in
      let many : length s.run ≡ length (lines_of seed size worker) =
      sym (length-map s.run (λ (d : LineDone). d.line)) ∙ ap length (s.lines_are ∙ lines) in
      let drew = all_draw seed files files_are size worker part.replica step first s.run s.last own
      s.does in
      subst (λ (d : D). Drew (44 * (2 * size + 4)) bench.dice d) (sym s.dice_are)
      (drew_within bench.dice s.last.dice (44 * length s.run) (44 * (2 * size + 4))
      (omega (arith, many, lines_few seed size worker)) drew)
