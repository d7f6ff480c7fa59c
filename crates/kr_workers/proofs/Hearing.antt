-- What plugins told workers: lines, runs and histories keep honest by all that agrees with it.
use Rattle.std.specs.Prelude.{All, slice_index_or, ⊤}
use Rattle.std.proofs.Common.{◌≡◌, ℕ, List, [], ◌∷◌, ◌++◌, Option, Ok, ◌⊎◌, inl, inr, ap, sym, subst, refl}
use Rattle.kr_base.specs.Lines.{of_seat}
use Rattle.kr_base.specs.Walks.{Walk}
use Rattle.kr_base.proofs.Walks.{walk_then}
use Rattle.kr_config.specs.Kept.{ConfigEntry as setting}
use Rattle.kr_kms.specs.Cache.{AreOpenBy, CacheState}
use Rattle.kr_kms.specs.Calls.{Link}
use Rattle.kr_kms.specs.Exchanges.{AgreeAll, Exchange}
use Rattle.kr_kms.specs.Opens.{Opens}
use Rattle.kr_kms.proofs.Opening.{agree_parts}
use Rattle.kr_provider.specs.AskedLinks.{Among}
use Rattle.kr_provider.specs.Publication.{Publication}
use Rattle.kr_rollout.specs.Entries.{seat_of}
use Rattle.kr_rollout.specs.declared.line.Did.{Did}
use Rattle.kr_rollout.specs.declared.line.Did.TheVariants as did
use Rattle.kr_rollout.specs.declared.line.Gave.{Gave}
use Rattle.kr_rollout.specs.declared.line.Gave.TheVariants as gave
use Rattle.kr_rollout.specs.declared.opening.Entry.{Entry}
use Rattle.kr_rollout.specs.declared.opening.Opening.{Opening}
use Rattle.kr_history.specs.Acting.{Caller, IsCaller}
use Rattle.kr_history.specs.Calls.{KeepsHonestBy}
use Rattle.kr_history.specs.Honesty.{HonestBy, IsHonest, IsHonestEntry, KeepsHonest}
use Rattle.kr_history.specs.Parts.{Adds}
use Rattle.kr_history.proofs.HonestSeats.{honest_by_entries}
use Rattle.kr_fleet.proofs.AgreeingLoads.{joins_agree, refreshes_agree, reloads_agree}
use Rattle.kr_fleet.proofs.AgreeingReads.{reads_agree}
use Rattle.kr_rewrite.proofs.Agreeing.{drives_agree}
use Rattle.kr_script.specs.declared.script.ScriptLine.{ScriptLine}
use Rattle.kr_script.specs.declared.script.ScriptLine.TheVariants as line
use Rattle.kr_script.specs.declared.told.Told.{Told}
use Rattle.kr_workers.specs.declared.files.SettingsFile.{SettingsFile}
use Rattle.kr_workers.specs.Changes.{AllowsChange, MayChange}
use Rattle.kr_workers.specs.Files.{rows_at}
use Rattle.kr_workers.specs.LineExchanges.{DoesBy}
use Rattle.kr_workers.specs.Runs.{DoesAll, LineDone, exchanges_in}
use Rattle.kr_workers.specs.ScriptLines.{Workplace}
use Rattle.kr_workers.proofs.HonestPlugins.{own_there}

-- ---- the place of an entry in a history with more behind it

-- it stands in the first list or in the second
pub record InFirst {X : Type 0} (first xs : List X) (x : X) : Type 0 where
  pub rest : List X
  pub is : first ≡ xs ++ x ∷ rest

pub record InSecond {X : Type 0} (first second xs : List X) (x : X) (ys : List X) : Type 0 where
  pub front : List X
  pub front_is : xs ≡ first ++ front
  pub is : second ≡ front ++ x ∷ ys

pub of_two : {X : Type 0} (first second xs : List X) (x : X) (ys : List X)
    → first ++ second ≡ xs ++ x ∷ ys
    → InFirst first xs x ⊎ InSecond first second xs x ys
of_two [] second xs x ys is = inr (record { front = xs; front_is = refl; is = is })
of_two (f ∷ first) second [] x ys is =
    let same : f ≡ x = cc is in inl (record { rest = first; is = ap (λ h. h ∷ first) same })
of_two {X} (f ∷ first) second (z ∷ xs) x ys is = by (of_two first second xs x ys behind)
  where
    same : f ≡ z
    same = cc is

    behind : first ++ second ≡ xs ++ x ∷ ys
    behind = cc is

    by : InFirst first xs x ⊎ InSecond first second xs x ys
        → InFirst (f ∷ first) (z ∷ xs) x ⊎ InSecond (f ∷ first) second (z ∷ xs) x ys
    by (inl a) = inl (record { rest = a.rest; is = λ i. same i ∷ a.is i })
    by (inr b) = inr (record {
      front = b.front;
      front_is = λ i. sym same i ∷ b.front_is i;
      is = b.is;
    })

-- ---- exchanges of a run up to a line

module _ (opens : Opens) where
  agree_both : (es fs : List Exchange) → AgreeAll opens es → AgreeAll opens fs
      → AgreeAll opens (es ++ fs)
  agree_both [] fs a b = b
  agree_both (e ∷ es) fs a b = (a.0, agree_both es fs a.1 b)

  pub agree_ahead : (ahead : List LineDone) (done : LineDone) (behind : List LineDone)
      → AgreeAll opens (exchanges_in (ahead ++ done ∷ behind))
      → AgreeAll opens (exchanges_in ahead ++ done.exchanges)
  agree_ahead ahead done behind all = let parts = by ahead all in
      agree_both (exchanges_in ahead) done.exchanges parts.0 parts.1
    where
      by : (ahead : List LineDone) → AgreeAll opens (exchanges_in (ahead ++ done ∷ behind))
          → AgreeAll opens (exchanges_in ahead) × AgreeAll opens done.exchanges
      by [] all = (tt, (agree_parts opens done.exchanges (exchanges_in behind) all).0)
      by (one ∷ ahead) all =
          let here = agree_parts opens one.exchanges (exchanges_in (ahead ++ done ∷ behind)) all in
          let rest = by ahead here.1 in
          (agree_both one.exchanges (exchanges_in ahead) here.0 rest.0, rest.1)

-- ---- parts of honest entries

module _ (opens : Opens) where
  keeps_more : (o : Opening) (seat : ℕ) (seen more : List Entry) → KeepsHonest opens o seat seen
      → All (IsHonestEntry opens) (of_seat seat_of seat more)
      → KeepsHonest opens o seat (seen ++ more)
  keeps_more o seat seen more keeps all = λ front e rest is own honest.
      by front e rest own honest (of_two seen more front e rest is)
    where
      by : (front : List Entry) (e : Entry) (rest : List Entry) → e.line.seat ≡ seat
          → IsHonest opens o front → InFirst seen front e ⊎ InSecond seen more front e rest
          → IsHonest opens o (front ++ e ∷ [])
      by front e rest own honest (inl s) = keeps front e s.rest s.is own honest
      by front e rest own honest (inr l) = (honest_by_entries.more opens o front e honest).1
          (own_there (IsHonestEntry opens) l.front e rest
          (subst (λ (h : List Entry). All (IsHonestEntry opens) (of_seat seat_of e.line.seat h))
          l.is
          (subst (λ n. All (IsHonestEntry opens) (of_seat seat_of n more)) (sym own) all)))

  keeps_part : (old new : Caller) (part : List Entry) → Adds old part new
      → All (IsHonestEntry opens) part → KeepsHonestBy opens old new
  keeps_part old new part adds all keeps =
      subst (λ (c : Caller). KeepsHonest opens c.opening c.seat c.seen) (sym adds.new_is)
      (keeps_more old.opening old.seat old.seen adds.more keeps
      (subst (λ (l : List Entry). All (IsHonestEntry opens) l) (sym adds.own) all))

  -- a call that changed nothing keeps honest
  keeps_same : (old new : Caller) → new ≡ old → KeepsHonestBy opens old new
  keeps_same old new same keeps =
      subst (λ (c : Caller). KeepsHonest opens c.opening c.seat c.seen) (sym same) keeps

-- ---- lines that ask nothing of plugins and seal nothing anew

abbrev IsQuiet : ScriptLine → Type 0
IsQuiet line.Rewrite = ⊥
IsQuiet (line.Reload replica file) = ⊥
IsQuiet line.Refresh = ⊥
IsQuiet (line.Join replica file) = ⊥
IsQuiet other = ⊤

module _ (opens : Opens) (settings_in : (file : List ℕ) → Option (List setting)) (own : ℕ)
    (asked : ScriptLine) (reply : Told) (quiet : IsQuiet asked) where
  loud : (other : ScriptLine) → asked ≡ other → IsQuiet other
  loud other is = subst (λ (l : ScriptLine). IsQuiet l) is quiet

  honest_entry : (e : Entry) (given : Gave) (done : Did) (held : Option ℕ)
      (published : Option Publication)
      → AllowsChange settings_in own asked reply given done held published
      → HonestBy given done opens e
  honest_entry e (gave.Written revision) (did.Replace path from) held published may =
      absurd (loud line.Rewrite may)
  honest_entry e (gave.Reloaded number) (did.Reload replica p expect) held published (inl may) =
      absurd (loud (line.Reload replica may.file) may.asked_is)
  honest_entry e (gave.Reloaded number) (did.Reload replica p expect) held published (inr may) =
      absurd (loud line.Refresh may.asked_is)
  honest_entry e (gave.Joined number) (did.Join replica p) held published may =
      absurd (loud (line.Join replica may.file) may.asked_is)
  honest_entry e given done held published may = tt

  honest_part : (part : List Entry) → All (MayChange settings_in own asked reply) part
      → All (IsHonestEntry opens) part
  honest_part part made = λ k d l.
      let e = slice_index_or part k d in
      honest_entry e e.line.gave e.line.did e.line.held e.published (made k d l)

-- ---- each line

module _ {L D : Type 0} (link : L → Link)
    (step : L → Exchange → L → Type 0) (left : D → Option (List ℕ)) (count : D → ℕ)
    (files : List SettingsFile) (opens : Opens) where
  -- the seeds that are kept stay opened, and what the caller sees honest
  abbrev pub Keeps : (old new : Workplace L D) → Type 0
  Keeps old new =
      AreOpenBy opens new.cache.rows × KeepsHonestBy opens old.caller new.caller

  -- the cache stayed
  stays : (old new : Workplace L D) → new.cache ≡ old.cache → AreOpenBy opens old.cache.rows
      → KeepsHonestBy opens old.caller new.caller → Keeps old new
  stays old new same opened keeps =
      (subst (λ (c : CacheState). AreOpenBy opens c.rows) (sym same) opened, keeps)

  nothing_done : (old new : Workplace L D) → new ≡ old → AreOpenBy opens old.cache.rows
      → Keeps old new
  nothing_done old new same opened = stays old new (ap (λ (w : Workplace L D). w.cache) same) opened
      (keeps_same opens old.caller new.caller (ap (λ (w : Workplace L D). w.caller) same))

  line_keeps : (replica : ℕ) (asked : ScriptLine) (old new : Workplace L D) (reply : Told)
      (part : List Entry) (exchanges : List Exchange)
      → DoesBy left count files replica asked old (Ok reply) new exchanges → IsCaller old.caller
      → Adds old.caller part new.caller
      → All (MayChange (rows_at files) replica asked reply) part
      → AgreeAll opens exchanges → AreOpenBy opens old.cache.rows → Keeps old new
  line_keeps replica (line.Get path) old new reply part es d known adds made agree opened = (
    (reads_agree opens path replica old.caller old.cache d.0 new.caller new.cache es known d.2
        agree opened).0,
    keeps_part opens old.caller new.caller part adds
        (honest_part opens (rows_at files) replica (line.Get path) reply tt part made),
  )
  line_keeps replica line.Rewrite old new reply part es d known adds made agree opened =
      drives_agree left count opens replica [] old.caller old.cache old.dice d.0 new.caller
      new.cache new.dice es known d.2 agree opened
  line_keeps replica (line.Reload named file) old new reply part es (rows, read, inl none) known
      adds made agree opened = nothing_done old new none.0.1 opened
  line_keeps replica (line.Reload named file) old new reply part es (rows, read, inr d) known adds
      made agree opened = stays old new d.3 opened (reloads_agree opens left count rows named
      old.caller old.dice d.0 new.caller new.dice es d.2 agree)
  line_keeps replica line.Refresh old new reply part es d known adds made agree opened =
      stays old new d.3 opened (refreshes_agree opens left count replica old.caller old.dice d.0
      new.caller new.dice es d.2 agree)
  line_keeps replica (line.Join named file) old new reply part es (rows, read, inl none) known
      adds made agree opened = nothing_done old new none.0.1 opened
  line_keeps replica (line.Join named file) old new reply part es (rows, read, inr d) known adds
      made agree opened = stays old new d.3 opened (joins_agree opens left count rows named
      old.caller old.dice d.0 new.caller new.dice es d.2 agree)
  line_keeps replica other old new reply part es d known adds made agree opened = stays old new d.1 opened (keeps_part opens old.caller new.caller part adds (honest_part opens (rows_at files) replica other reply tt part made))

  -- ---- a run

  pub run_keeps : (replica : ℕ) (first : Workplace L D) (run : List LineDone)
      (last : Workplace L D) → DoesAll link step left count files replica first run last
      → AgreeAll opens (exchanges_in run) → AreOpenBy opens first.cache.rows → Keeps first last
  run_keeps replica first [] last same agree opened = nothing_done first last same opened
  run_keeps replica first (done ∷ run) last all agree opened =
      let agrees = agree_parts opens done.exchanges (exchanges_in run) agree in
      let one = line_keeps replica done.line first all.0 done.reply done.part done.exchanges
      all.1.asks all.1.known all.1.adds all.1.made agrees.0 opened in
      let rest = run_keeps replica all.0 run last all.2 agrees.1 one.0 in
      (rest.0, λ kept. rest.1 (one.1 kept))

module _ {L D : Type 0} (link : L → Link)
    (step : L → Exchange → L → Type 0) (left : D → Option (List ℕ)) (count : D → ℕ)
    (files : List SettingsFile) where
  -- by all of its exchanges its links went on
  pub run_walks : (replica : ℕ) (first : Workplace L D) (run : List LineDone)
      (last : Workplace L D) → DoesAll link step left count files replica first run last
      → Walk (Among step) first.links (exchanges_in run) last.links
  run_walks replica first [] last same = ap (λ (w : Workplace L D). w.links) same
  run_walks replica first (done ∷ run) last all = walk_then (Among step) done.exchanges
      (exchanges_in run)
      first.links all.0.links last.links all.1.walk (run_walks replica all.0 run last all.2)
