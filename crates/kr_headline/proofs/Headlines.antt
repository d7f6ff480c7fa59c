-- The headline, from one history.
use Rattle.std.specs.Prelude.{◌≢◌, All, slice_get, IsSome, Ok, ⊤}
use Rattle.std.proofs.Common.{◌≡◌, ℕ, ◌<◌, ◌≤◌, ◌==◌, List, [], ◌∷◌, ◌++◌, length, get_or, Option, None, Some, ◌⊎◌, inl, inr, refl, ap, sym, subst, ◌∙◌, append-nil}
use Rattle.std.proofs.lemmas.List.{append_assoc, append_cancel_left}
use Rattle.std.proofs.lemmas.List.Elements.{All-nil, filter-append}
use Rattle.std.proofs.lemmas.Option.{none-some, same_Some}
use Rattle.kr_base.specs.Faults.{Rose}
use Rattle.kr_base.specs.Lines.{of_seat}
use Rattle.kr_kms.specs.Calls.{Link}
use Rattle.kr_kms.specs.Exchanges.{AgreeAll, Exchange}
use Rattle.kr_kms.specs.Health.{HasBreach}
use Rattle.kr_kms.specs.Opens.{Opens}
use Rattle.kr_kms.specs.declared.health.Field.{Field}
use Rattle.kr_provider.specs.AskedLinks.{FaultRose, HasLinkWith}
use Rattle.kr_provider.specs.Envelopes.{Envelope, unknown}
use Rattle.kr_provider.specs.Publication.{Publication}
use Rattle.kr_provider.specs.Reading.{Reading, data_of, refused}
use Rattle.kr_provider.specs.declared.refusal.ValueNo.{ValueNo}
use Rattle.kr_store.specs.Rows.{live}
use Rattle.kr_rewrite.specs.Drives.{CoversLive}
use Rattle.kr_rewrite.specs.declared.outcome.Step as met_row
use Rattle.kr_rollout.specs.Entries.{seat_of}
use Rattle.kr_rollout.specs.Histories.{IsLegal, state_of}
use Rattle.kr_rollout.specs.Openings.{start_of}
use Rattle.kr_rollout.specs.declared.line.Did.TheVariants as did
use Rattle.kr_rollout.specs.declared.line.Gave.TheVariants as gave
use Rattle.kr_rollout.specs.declared.opening.Entry.{Entry}
use Rattle.kr_rollout.specs.declared.opening.Opening.{Opening}
use Rattle.kr_rollout.proofs.Appending.{front_law}
use Rattle.kr_history.specs.Acting.{Caller}
use Rattle.kr_history.specs.ContentLaws.{NamesNoPlugin}
use Rattle.kr_history.specs.Contents.{IsContent}
use Rattle.kr_history.specs.Honesty.{IsHonest, IsHonestEntry}
use Rattle.kr_history.proofs.ContentSteps.{one_content}
use Rattle.kr_history.proofs.HavingContent.{some_content}
use Rattle.kr_history.proofs.Judging.{judged_by_fit}
use Rattle.kr_history.proofs.NeedsLive.{live_is_readable}
use Rattle.kr_fleet.specs.LoadCalls.{AreKeysSame, IsKeyChanged}
use Rattle.kr_script.specs.Fleets.{Worker}
use Rattle.kr_script.specs.declared.script.Part.{Part}
use Rattle.kr_script.specs.declared.script.ScriptLine.{ScriptLine}
use Rattle.kr_script.specs.declared.script.ScriptLine.TheVariants as line
use Rattle.kr_script.specs.declared.told.Told.{Told}
use Rattle.kr_script.specs.declared.told.Told.TheVariants as told
use Rattle.kr_workers.specs.Configurations.{CannotBeSealed, IsFresh, IsLeft, IsStale, NamesPlugin, ReadBy}
use Rattle.kr_workers.specs.Files.{rows_at}
use Rattle.kr_workers.specs.Gets.{FetchesWhere, IsHeardContent, TellsGotContent, heard_by}
use Rattle.kr_workers.specs.Heard.{AgreesWithHeard, Heard}
use Rattle.kr_workers.specs.Histories.{IsOneHistory}
use Rattle.kr_workers.specs.LineExchanges.{DoesBy}
use Rattle.kr_workers.specs.Runs.{LineDone, entries_in, exchanges_in}
use Rattle.kr_workers.specs.RewriteParts.{RewritePart}
use Rattle.kr_workers.specs.Sentences.{RepliesAreTrue}
use Rattle.kr_workers.specs.Shapes.{PartIs}
use Rattle.kr_workers.specs.ScriptLines.{Workplace}
use Rattle.kr_workers.specs.declared.files.SettingsFile.{SettingsFile}
use Rattle.kr_workers.specs.declared.worker.Worker as fleet_worker
use Rattle.kr_workers.proofs.HeardGets.{both_hold}
use Rattle.kr_workers.proofs.Hearing.{agree_ahead}
use Rattle.kr_workers.proofs.ShapingLines.{parts_have_shape}
use Rattle.kr_headline.specs.Fleets.{AgreesWithAll, AreKnown, AtLine, BroughtOpens, FleetHeadline, FleetOutside, Readings, ReadsWith, StaysListed, Unwraps, run_of}
use Rattle.kr_headline.specs.Headline.{Finds, Headline, Object, Run, Step, entries_of, own_entries, stands_at}
use Rattle.kr_headline.specs.Laws.{HeadlineHolds}
use Rattle.kr_headline.specs.Outside.{HasBroken, HasFailed, HasOtherKey, HaveSeedKeys}
use Rattle.kr_headline.specs.Ties.{IsTied}
use Rattle.kr_headline.specs.Values.{sealed_values}
use Rattle.kr_headline.proofs.Answering.{alike, may_answer, some_lives}
use Rattle.kr_headline.proofs.Benches.{exchanges_of}
use Rattle.kr_headline.specs.Sources.{WasAnswered}
use Rattle.kr_headline.proofs.Cached as cached
use Rattle.kr_headline.proofs.Contents.{content_holds, content_of, data_in}
use Rattle.kr_headline.proofs.HeardFaults.{Bears}
use Rattle.kr_headline.proofs.HeardLines.{AsksPlugins, blame_in, line_bears}
use Rattle.kr_headline.proofs.RefreshKeys.{KeysBy, KeysOf, other_key, refresh_keys}
use Rattle.kr_headline.proofs.Folds.{HasSteps, MeetsAll, StoodThere}
use Rattle.kr_headline.proofs.Marks.{all_marks, entries_stay, mark, marks, marks_in_order, place_of}
use Rattle.kr_headline.proofs.Mono.{Begins, part_mono, rewrite_both, rewrite_mono}
use Rattle.kr_headline.proofs.Places as place
use Rattle.kr_headline.proofs.ReadBack.{brought_opens, fetched_row, follows, here, known_trusted, legal_front, legal_one, run_brings_seeds, sealed_anew, unwraps_trusted}
use Rattle.kr_headline.proofs.Sourced.{FoundSo, FreshBy, IsSourced, LeftBy, SourcedTold, StaleBy, fetches_so}
use Rattle.kr_headline.proofs.Seats.{path_in, reading_in, revision_in, some_below, split_own}
use Rattle.kr_headline.proofs.Standing.{faults_are, object_revision, row_revision}
use Rattle.kr_headline.proofs.Unsealed.{part_by_sources}
use Rattle.kr_headline.proofs.SeatRuns as seats

module _ {T L D : Type 0} (link : L → Link) (step : L → Exchange → L → Type 0)
    (left : D → Option (List ℕ))
    (count : D → ℕ) (files : List SettingsFile) (history : List Entry) (o : Opening)
    (parts : List Part) (budgets : List ℕ) (old new : List (fleet_worker.Worker T L D))
    (one : IsOneHistory link step left count files history o parts budgets old new) where
  -- ---- the seats' runs and the steps, in this history

  abbrev workers : List Worker
  workers = seats.workers link step left count files history o parts budgets old new one

  abbrev replies : List (List Told)
  replies = seats.replies link step left count files history o parts budgets old new one

  abbrev lines_at : ℕ → List ScriptLine
  lines_at = seats.lines_at link step left count files history o parts budgets old new one

  abbrev replica_at : ℕ → ℕ
  replica_at = seats.replica_at link step left count files history o parts budgets old new one

  abbrev Told_at : (worker at : ℕ) → ScriptLine → Told → Type 0
  Told_at = seats.Told_at link step left count files history o parts budgets old new one

  abbrev true_replies : RepliesAreTrue link step left count files history o parts budgets old new
  true_replies = seats.true_replies link step left count files history o parts budgets old new one

  abbrev heard : (worker : ℕ) → Heard
  heard = seats.heard link step left count files history o parts budgets old new one

  abbrev runs : ℕ → List LineDone
  runs = seats.runs link step left count files history o parts budgets old new one

  abbrev benches : ℕ → List (List L × D)
  benches = seats.benches link step left count files history o parts budgets old new one

  abbrev exchanges : ℕ → List (List Exchange)
  exchanges = seats.exchanges link step left count files history o parts budgets old new one

  abbrev Stood : (seat : ℕ) (run : List LineDone) (benches : List (List L × D)) → Type 0
  Stood = seats.Stood link step left count files history o parts budgets old new one

  abbrev run_stood : (seat : ℕ) → seat < length parts → Stood seat (runs seat) (benches seat)
  run_stood = seats.run_stood link step left count files history o parts budgets old new one

  abbrev steps : List Step
  steps = seats.steps link step left count files history o parts budgets old new one

  abbrev step_at : (front : List Entry) (e : Entry) (rest : List Entry)
      → history ≡ front ++ e ∷ rest
      → steps ≡ marks runs [] front ++ mark runs front e ∷ marks runs (front ++ e ∷ []) rest
  step_at = seats.step_at link step left count files history o parts budgets old new one

  abbrev LineAt : (worker at : ℕ) (asked : ScriptLine) (reply : Told) → Type 0
  LineAt = seats.LineAt link step left count files history o parts budgets old new one

  abbrev line_at : (worker at : ℕ) (asked : ScriptLine) (reply : Told)
      → Told_at worker at asked reply → LineAt worker at asked reply
  line_at = seats.line_at link step left count files history o parts budgets old new one

  abbrev own_is : (worker at : ℕ) (asked : ScriptLine) (reply : Told)
      → (l : LineAt worker at asked reply) → own_entries steps worker at ≡ l.d.done.part
  own_is = seats.own_is link step left count files history o parts budgets old new one

  abbrev at_line : (worker at : ℕ) (asked : ScriptLine) (reply : Told)
      → (l : LineAt worker at asked reply)
      (Has : (before : List L × D) → List Exchange → (after : List L × D) → Type 0)
      → Has (l.t.before.links, l.t.before.dice) l.d.done.exchanges
      (l.t.after.links, l.t.after.dice) → AtLine (benches worker) (exchanges worker) at Has
  at_line = seats.at_line link step left count files history o parts budgets old new one

  abbrev outside : FleetOutside
  outside = seats.outside link step left count files history o parts budgets old new one

  -- ---- gets

  -- the Fetch of a line was read so, with this envelope
  record WasRead (worker at : ℕ) (path : List ℕ) (reading : Reading) (envelope : Envelope)
      (revision : ℕ) : Type 0 where
    front : List Entry
    fetch : Entry
    rest : List Entry
    there : history ≡ front ++ fetch ∷ rest
    own : (fetch.line.seat ≡ worker) × (place_of runs front fetch ≡ at)
    fetches : fetch.line.did ≡ did.Fetch path
    gave_is : fetch.line.gave ≡ gave.Found revision
    r : IsSourced (heard worker) o path reading front fetch
    bare : (opens : Opens) → NamesNoPlugin o front → IsContent opens o front path (Some reading)
    agreed : (opens : Opens) → AgreesWithHeard opens (heard worker) → IsHonest opens o front
        → IsContent opens o front path (Some reading)
    same : r.envelope ≡ envelope

  -- the revision is that which the reply tells, if it tells one
  record WasTold (worker at : ℕ) (path : List ℕ) (reading : Reading) (envelope : Envelope)
      (reply : Told) : Type 0 where
    revision : ℕ
    was : WasRead worker at path reading envelope revision
    tells : (n : ℕ) → revision_in reply ≡ Some n → revision ≡ n

  read_part : (worker at : ℕ) (path : List ℕ) (reply : Told)
      → (l : LineAt worker at (line.Get path) reply)
      (Holds : (front : List Entry) → (fetch : Entry) → Type 0)
      → (f : FetchesWhere history worker path (entries_in l.d.ahead) l.d.done.part Holds)
      → place_of runs f.front f.fetch ≡ at
  read_part worker at path reply l Holds f =
      ap (λ n. get_or (place.places 0 (runs n)) (length (of_seat seat_of n f.front)) 0) f.own
      ∙ ap (λ (r : List LineDone). get_or (place.places 0 r)
      (length (of_seat seat_of worker f.front)) 0) l.d.run_is
      ∙ ap (λ (xs : List Entry). get_or (place.places 0 (l.d.ahead ++ l.d.done ∷ l.d.behind))
      (length xs) 0) f.its
      ∙ place.place_there l.d.ahead l.d.done l.d.behind (f.adopt ∷ []) f.fetch (f.let_go ∷ [])
      f.part_is ∙ l.d.many

  -- what was heard up to the line
  abbrev heard_to : (worker at : ℕ) (asked : ScriptLine) (reply : Told)
      → LineAt worker at asked reply → Heard
  heard_to worker at asked reply l = heard_by (heard worker).kept l.d.ahead l.d.done

  -- what agrees with all that was heard agrees with it
  agrees_to : (worker at : ℕ) (asked : ScriptLine) (reply : Told)
      → (l : LineAt worker at asked reply) (opens : Opens) → AgreesWithHeard opens (heard worker)
      → AgreesWithHeard opens (heard_to worker at asked reply l)
  agrees_to worker at asked reply l opens agrees = record {
    kept = agrees.kept;
    answers = agree_ahead opens l.d.ahead l.d.done l.d.behind
        (subst (AgreeAll opens) (l.s.exchanges_are ∙ ap exchanges_in l.d.run_is) agrees.answers);
  }

  -- the content where no configuration names a plugin, and by what agrees with what was heard
  abbrev KnownSo : (worker at : ℕ) (path : List ℕ) (reply : Told)
      → LineAt worker at (line.Get path) reply → Reading → (front : List Entry) → Type 0
  KnownSo worker at path reply l reading front =
      ((opens : Opens) → NamesNoPlugin o front → IsContent opens o front path (Some reading))
      × IsHeardContent (heard_to worker at (line.Get path) reply l) o path reading front

  of_fetch : (worker at : ℕ) (path : List ℕ) (reply : Told) (reading : Reading)
      → (l : LineAt worker at (line.Get path) reply) (revision : ℕ)
      → ((n : ℕ) → revision_in reply ≡ Some n → revision ≡ n)
      → FoundSo history o worker (entries_in l.d.ahead) l.d.done.part path (heard worker) revision
      reading → FetchesWhere history worker path (entries_in l.d.ahead) l.d.done.part
      (λ front fetch. KnownSo worker at path reply l reading front)
      → (envelope : Envelope) × WasTold worker at path reading envelope reply
  of_fetch worker at path reply reading l revision tells found known =
      let Both : (front : List Entry) → (fetch : Entry) → Type 0 = λ front fetch.
      ((fetch.line.gave ≡ gave.Found revision)
      × IsSourced (heard worker) o path reading front fetch)
      × KnownSo worker at path reply l reading front in
      let f : FetchesWhere history worker path (entries_in l.d.ahead) l.d.done.part Both =
      both_hold history worker path (entries_in l.d.ahead) l.d.done.part {Both = Both}
      {Second = KnownSo worker at path reply l reading} (λ front fetch first second.
      (first, second)) found known in (
        f.holds.0.1.envelope,
        record {
          revision = revision;
          tells = tells;
          was = record {
            front = f.front;
            fetch = f.fetch;
            rest = f.rest;
            there = f.there;
            own = (f.own, read_part worker at path reply l Both f);
            fetches = f.fetches;
            gave_is = f.holds.0.0;
            r = f.holds.0.1;
            bare = f.holds.1.0;
            agreed = λ opens agrees. f.holds.1.1 opens
                (agrees_to worker at (line.Get path) reply l opens agrees);
            same = refl;
          };
        },
      )

  was_read : (worker at : ℕ) (path : List ℕ) (reply : Told) (reading : Reading)
      → (l : LineAt worker at (line.Get path) reply) → reading_in reply ≡ Some reading
      → TellsGotContent (heard_to worker at (line.Get path) reply l) o history worker path
      (entries_in l.d.ahead) l.d.done.part reply
      → SourcedTold history o worker (entries_in l.d.ahead) l.d.done.part path (heard worker) reply
      → (envelope : Envelope) × WasTold worker at path reading envelope reply
  was_read worker at path (told.Got revision bytes) reading l is t s =
      subst (λ (it : Reading). (envelope : Envelope)
      × WasTold worker at path it envelope (told.Got revision bytes))
      (same_Some (data_of bytes) reading is)
      (of_fetch worker at path (told.Got revision bytes) (data_of bytes) l revision
      (λ n n_is. same_Some revision n n_is) s
      (fetches_so history worker path (entries_in l.d.ahead) l.d.done.part
      {Second = λ front fetch.
      KnownSo worker at path (told.Got revision bytes) l (data_of bytes) front}
      (λ front fetch h. (h.1.known, h.2)) t))
  was_read worker at path (told.Value why) reading l is t s =
      subst (λ (it : Reading). (envelope : Envelope)
      × WasTold worker at path it envelope (told.Value why)) (same_Some (refused why) reading is)
      (of_fetch worker at path (told.Value why) (refused why) l s.0
      (λ n n_is. absurd (none-some n n_is)) s.1
      (fetches_so history worker path (entries_in l.d.ahead) l.d.done.part
      {Second = λ front fetch. KnownSo worker at path (told.Value why) l (refused why) front}
      (λ front fetch h. (h.2.known, h.3)) t))
  was_read worker at path reply reading l is t s = absurd (none-some reading is)

  told_content : (worker at : ℕ) (path : List ℕ) (reply : Told)
      → (l : LineAt worker at (line.Get path) reply)
      → TellsGotContent (heard_to worker at (line.Get path) reply l) o history worker path
      (entries_in l.d.ahead) l.d.done.part reply
  told_content worker at path reply l = subst (λ (t : Told).
      TellsGotContent (heard_to worker at (line.Get path) reply l) o history worker path
      (entries_in l.d.ahead) l.d.done.part t) l.d.reply_is
      (l.s.tells l.d.ahead l.d.done l.d.behind l.d.run_is path l.d.line_is)

  told_sourced : (worker at : ℕ) (path : List ℕ) (reply : Told)
      → (l : LineAt worker at (line.Get path) reply)
      → SourcedTold history o worker (entries_in l.d.ahead) l.d.done.part path (heard worker) reply
  told_sourced worker at path reply l = subst (λ (t : Told).
      SourcedTold history o worker (entries_in l.d.ahead) l.d.done.part path (heard worker) t)
      l.d.reply_is (l.s.sourced l.d.ahead l.d.done l.d.behind l.d.run_is path l.d.line_is)

  -- of each line there is one envelope, with which its `get` was read, if it is one
  abbrev ReadAt : (worker at : ℕ) → Envelope → Type 0
  ReadAt worker at envelope = (path : List ℕ) (reply : Told) (reading : Reading)
      → Told_at worker at (line.Get path) reply → reading_in reply ≡ Some reading
      → WasTold worker at path reading envelope reply

  read_at : (worker at : ℕ) → (envelope : Envelope) × ReadAt worker at envelope
  read_at worker at = by (slice_get (lines_at worker) at) (slice_get (get_or replies worker []) at)
      refl refl
    where
      of_told : (path : List ℕ) (reply : Told) (reading : Option Reading)
          → reading_in reply ≡ reading → slice_get (lines_at worker) at ≡ Some (line.Get path)
          → slice_get (get_or replies worker []) at ≡ Some reply
          → (envelope : Envelope) × ReadAt worker at envelope
      of_told path reply None none asked_is reply_is = (
        unknown,
        λ other given reading r is.
            absurd (none-some reading (sym none
            ∙ ap reading_in (same_Some reply given (sym reply_is ∙ r.1)) ∙ is)),
      )
      of_told path reply (Some reading) some asked_is reply_is =
          let l = line_at worker at (line.Get path) reply (asked_is, reply_is) in
          let w = was_read worker at path reply reading l some
          (told_content worker at path reply l) (told_sourced worker at path reply l) in (
            w.0,
            λ other given it r is.
                let same_path = same_Some path other (ap path_in (same_Some (line.Get path)
                (line.Get other) (sym asked_is ∙ r.0))) in
                let same_reply = same_Some reply given (sym reply_is ∙ r.1) in
                let same_reading = same_Some reading it
                (sym some ∙ ap reading_in same_reply ∙ is) in
                subst (λ (q : List ℕ). WasTold worker at q it w.0 given) same_path
                (subst (λ (it : Reading). WasTold worker at path it w.0 given) same_reading
                (subst (λ (t : Told). WasTold worker at path reading w.0 t) same_reply w.1)),
          )

      by : (asked : Option ScriptLine) → (reply : Option Told)
          → slice_get (lines_at worker) at ≡ asked
          → slice_get (get_or replies worker []) at ≡ reply
          → (envelope : Envelope) × ReadAt worker at envelope
      by None reply asked_is reply_is = (
        unknown,
        λ path given reading r is.
            absurd (none-some (line.Get path) (sym asked_is ∙ r.0)),
      )
      by (Some asked) None asked_is reply_is = (
        unknown,
        λ path given reading r is.
            absurd (none-some given (sym reply_is ∙ r.1)),
      )
      by (Some (line.Get path)) (Some reply) asked_is reply_is =
          of_told path reply (reading_in reply) refl asked_is reply_is
      by (Some asked) (Some reply) asked_is reply_is = (
        unknown,
        λ path given reading r is.
            absurd (none-some path
            (ap path_in (same_Some asked (line.Get path) (sym asked_is ∙ r.0)))),
      )

  abbrev readings : Readings sealed_values heard o files workers replies history
  readings = record {
    at_start = λ opens path. (some_content opens o [] path).0;
    start_is = λ opens path. (some_content opens o [] path).1;
    envelope_of = λ worker at. (read_at worker at).0;
    reseals = λ front e rest path is replaced. sealed_anew o history one.legal front e rest is
        (heard (seat_of e)) path replaced
        (seats.resealed_there link step left count files history o parts budgets old new one
        front e rest path is replaced);
  }

  abbrev run : Run
  run = run_of sealed_values heard o files workers replies history outside readings

  some_object : (now : Option Object) (revision : ℕ) → object_revision now ≡ Some revision
      → (object : Object) × (now ≡ Some object) × (object.revision ≡ revision)
  some_object None revision is = absurd (none-some revision is)
  some_object (Some object) revision is =
      (object, refl, same_Some object.revision revision is)

  finds : (worker at : ℕ) (path : List ℕ) (reading : Reading) (revision : ℕ)
      → WasRead worker at path reading (readings.envelope_of worker at) revision
      → Finds run steps worker at path revision reading
  finds worker at path reading revision w =
      let found = fetched_row o history one.legal w.front w.fetch w.rest w.there path revision
      w.r.row w.fetches w.gave_is w.r.found in
      let entries : entries_of (marks runs [] w.front) ≡ w.front = entries_stay runs [] w.front in
      let object = some_object (stands_at run path w.front) w.r.row.revision
      (alike heard o files workers replies history outside readings w.front
      (legal_front o history one.legal w.front w.fetch w.rest w.there) path
      ∙ ap row_revision found.0) in
      let reads : ReadsWith sealed_values (heard worker) (readings.envelope_of worker at) w.fetch
      reading = subst (λ (v : Envelope).
      ReadsWith sealed_values (heard worker) v w.fetch reading) w.same (record {
        p = w.r.p;
        row = w.r.row;
        held = w.r.held;
        found = w.r.found;
        is = w.r.reads;
        source = w.r.source;
      }) in
      let content : (opens : Opens) → IsContent opens o w.front path
      (content_of (data_in (stands_at run path w.front)) (readings.at_start opens path)) =
      λ opens. content_holds opens o path (readings.at_start opens path)
      (readings.start_is opens path) w.front in
      let trusted : (opens : Opens) → run.PluginsUnwrapped opens path worker at w.fetch
      → IsContent opens o w.front path (Some reading) = λ opens u. by opens u in
      record {
        front = marks runs [] w.front;
        fetch = mark runs w.front w.fetch;
        rest = marks runs (w.front ++ w.fetch ∷ []) w.rest;
        there = step_at w.front w.fetch w.rest w.there;
        own = w.own;
        fetches = w.fetches;
        found = w.gave_is;
        reads = reads;
        object = object.0;
        stands = ap (stands_at run path) entries ∙ object.1;
        revision_is = object.2 ∙ found.2;
        is = λ opens u. ap (λ (it : Option Object).
            content_of (data_in it) (readings.at_start opens path)) (sym object.1)
            ∙ one_content opens o w.front path (content_of (data_in (stands_at run path w.front))
            (readings.at_start opens path)) (Some reading) (content opens) (trusted opens u);
      }
    where
      by : (opens : Opens)
          → AreKnown heard opens o
          ⊎ Unwraps sealed_values heard o files workers replies history readings opens path worker at
          w.fetch
          → IsContent opens o w.front path (Some reading)
      by opens (inl known) = known_trusted o history one.legal w.front w.fetch w.rest w.there heard
          opens path
          (λ agrees begun. true_replies.agreed opens agrees begun w.front (w.fetch ∷ w.rest)
          w.there)
          reading (w.bare opens) (λ agrees. w.agreed opens (agrees worker)) known
      by opens (inr u) = unwraps_trusted heard o files workers replies history readings opens path
          worker at w.fetch u w.front w.rest w.there reading w.r w.same

  gets : (worker at : ℕ) (path : List ℕ) (reply : Told) (reading : Reading)
      → Told_at worker at (line.Get path) reply → reading_in reply ≡ Some reading
      → WasTold worker at path reading (readings.envelope_of worker at) reply
  gets worker at path reply reading r is = (read_at worker at).1 path reply reading r is

  got : (worker at : ℕ) (path bytes : List ℕ) (revision : ℕ)
      → Told_at worker at (line.Get path) (told.Got revision bytes)
      → Finds run steps worker at path revision (data_of bytes)
  got worker at path bytes revision r =
      let w = gets worker at path (told.Got revision bytes) (data_of bytes) r refl in
      subst (λ n. Finds run steps worker at path n (data_of bytes)) (w.tells revision refl)
      (finds worker at path (data_of bytes) w.revision w.was)

  refused_at : (worker at : ℕ) (path : List ℕ) (why : ValueNo)
      → Told_at worker at (line.Get path) (told.Value why)
      → (revision : ℕ) × Finds run steps worker at path revision (refused why)
  refused_at worker at path why r =
      let w = gets worker at path (told.Value why) (refused why) r refl in
      (w.revision, finds worker at path (refused why) w.revision w.was)

  -- ---- the steps of a line

  -- what lives at each entry that a rewrite adds stands there at each of its steps
  covers : (worker at : ℕ) (asked : ScriptLine) (reply : Told)
      → (l : LineAt worker at asked reply) (met : List met_row.Step)
      → CoversLive [] met l.t.before.caller l.t.after.caller → MeetsAll run steps worker at met
  covers worker at asked reply l met c [] some stands = absurd (some refl)
  covers worker at asked reply l met c (x ∷ xs) some stands = c (x ∷ xs) refl live_through
    where
      old_caller : Caller
      old_caller = l.t.before.caller

      live_through : (before : List Entry) (e : Entry) (rest : List Entry)
          → l.t.after.caller.seen ≡ (old_caller.seen ++ before) ++ e ∷ rest
          → e.line.seat ≡ old_caller.seat
          → IsSome (live (state_of old_caller.opening (old_caller.seen ++ before)).rows (x ∷ xs))
      live_through before e rest seen seat =
          let adds = l.t.is.adds in
          let front : List Entry = old_caller.seen ++ before in
          let own_seat : old_caller.seat ≡ worker = l.t.seat_is ∙ l.s.seat_is in
          let its_seat : seat_of e ≡ worker = seat ∙ own_seat in
          let opened : old_caller.opening ≡ o = l.t.opening_is ∙ l.s.opening_is in
          let more : adds.more ≡ before ++ e ∷ rest =
          append_cancel_left old_caller.seen adds.more (before ++ e ∷ rest)
          (sym (ap (λ (c : Caller). c.seen) adds.new_is) ∙ seen
          ∙ append_assoc old_caller.seen before (e ∷ rest)) in
          let there : history ≡ front ++ e ∷ (rest ++ (l.t.more ++ l.s.unseen)) =
          sym l.s.seen_is
          ∙ ap (λ (h : List Entry). h ++ l.s.unseen)
          (l.t.seen_is ∙ ap (λ (h : List Entry). h ++ l.t.more) seen)
          ∙ append_assoc (front ++ e ∷ rest) l.t.more l.s.unseen
          ∙ append_assoc front (e ∷ rest) (l.t.more ++ l.s.unseen) in
          let mine : of_seat seat_of worker old_caller.seen ≡ entries_in l.d.ahead =
          ap (λ n. of_seat seat_of n old_caller.seen) (sym own_seat) ∙ l.t.is.known.own
          ∙ l.t.mine_is
          ∙ ap (λ (p : List Entry). p ++ entries_in l.d.ahead) l.s.none_yet in
          let part : l.d.done.part
          ≡ of_seat seat_of worker before ++ e ∷ of_seat seat_of worker rest =
          sym adds.own ∙ ap (λ n. of_seat seat_of n adds.more) own_seat
          ∙ ap (of_seat seat_of worker) more ∙ split_own worker before e rest its_seat in
          let its : of_seat seat_of worker front
          ≡ entries_in l.d.ahead ++ of_seat seat_of worker before =
          filter-append (λ (y : Entry). seat_of y == worker) old_caller.seen before
          ∙ ap (λ (p : List Entry). p ++ of_seat seat_of worker before) mine in
          let legal_now : IsLegal o front =
          legal_front o history one.legal front e (rest ++ (l.t.more ++ l.s.unseen)) there in
          let standing : stands_at run (x ∷ xs) (entries_of (marks runs [] front)) ≢ None =
          stands (marks runs [] front) (mark runs front e)
          (marks runs (front ++ e ∷ []) (rest ++ (l.t.more ++ l.s.unseen)))
          (step_at front e (rest ++ (l.t.more ++ l.s.unseen)) there) (
            its_seat,
            seats.own_place link step left count files history o parts budgets old new one
                worker at asked reply l (of_seat seat_of worker before) e
                (of_seat seat_of worker rest) part front its_seat its,
          ) in
          subst (λ (it : Opening). IsSome (live (state_of it front).rows (x ∷ xs))) (sym opened)
          (some_lives (stands_at run (x ∷ xs) front) (live (state_of o front).rows (x ∷ xs))
          (alike heard o files workers replies history outside readings front legal_now (x ∷ xs))
          (subst (λ (h : List Entry). stands_at run (x ∷ xs) h ≢ None)
          (entries_stay runs [] front) standing))

  -- what the line's own exchanges bear out
  borne : (worker at : ℕ) (asked : ScriptLine) (reply : Told)
      → (l : LineAt worker at asked reply) → AsksPlugins asked
      → Bears l.d.done.exchanges (blame_in (Ok reply))
  borne worker at asked reply l asks = subst (λ (t : Told).
      Bears l.d.done.exchanges (blame_in (Ok t))) l.d.reply_is
      (line_bears left count files l.s.replica l.t.before l.t.after (Ok l.d.done.reply)
      l.d.done.exchanges l.d.done.line (subst AsksPlugins (sym l.d.line_is) asks) l.t.is.asks)

  keys_of : (worker at : ℕ) (reply : Told) (asked : ScriptLine)
      → (l : LineAt worker at asked reply) → asked ≡ line.Refresh → (p : Publication)
      → Begins p (own_entries steps worker at) → KeysBy l.d.done.exchanges p.seeds reply
  keys_of worker at reply asked l refreshes p begins =
      let part = subst (λ (part : List Entry). Begins p part) (own_is worker at asked reply l)
      begins in
      let asks = subst (λ (a : ScriptLine). DoesBy left count files l.s.replica a l.t.before
      (Ok l.d.done.reply) l.t.after l.d.done.exchanges) (l.d.line_is ∙ refreshes) l.t.is.asks in
      subst (KeysBy l.d.done.exchanges p.seeds) l.d.reply_is
      (subst (KeysOf l.d.done.exchanges p.seeds) (sym asks.1)
      (refresh_keys left count l.s.replica l.t.before.dice l.t.after.dice l.d.done.exchanges
      l.t.before.caller l.t.after.caller l.d.done.part l.t.is.adds part.0 p part.1
      l.t.before.caller.seat asks.0 asks.2))

  abbrev BySources : (worker at : ℕ) (asked : ScriptLine) (reply : Told)
      → LineAt worker at asked reply → Told → Type 0
  BySources worker at asked reply l =
      RewritePart (FreshBy (heard worker)) (StaleBy (heard worker)) (LeftBy (heard worker)) (λ name. ⊤)
      (Rose (count l.t.before.dice) (count l.t.after.dice))
      (λ met. CoversLive [] met l.t.before.caller l.t.after.caller) worker (replica_at worker)
      (own_entries steps worker at)

  by_sources : (worker at : ℕ) (asked : ScriptLine) (reply : Told)
      → (l : LineAt worker at asked reply) → asked ≡ line.Rewrite
      → BySources worker at asked reply l reply
  by_sources worker at asked reply l is =
      let Was = WasAnswered (heard worker) in
      let parts = cached.parted Was l.d.ahead l.d.done l.d.behind
      (subst (λ (run : List LineDone). cached.AreAnswers Was (exchanges_in run)) l.d.run_is
      l.s.answers) in
      let known = cached.run_known Was link step left count files l.s.replica l.s.first
      l.d.ahead l.t.before l.t.does_ahead parts.0 l.s.known in
      let Own : ℕ → ℕ → List Entry → Told → Type 0 = λ seat own part t.
      RewritePart (FreshBy (heard worker)) (StaleBy (heard worker)) (LeftBy (heard worker)) (λ name. ⊤)
      (Rose (count l.t.before.dice) (count l.t.after.dice))
      (λ met. CoversLive [] met l.t.before.caller l.t.after.caller) seat own part t in
      subst (λ (part : List Entry). Own worker (replica_at worker) part reply)
      (sym (own_is worker at asked reply l))
      (subst (λ n. Own worker n l.d.done.part reply) (sym l.s.replica_is)
      (subst (λ n. Own n l.s.replica l.d.done.part reply) (l.t.seat_is ∙ l.s.seat_is)
      (subst (λ (t : Told). Own l.t.before.caller.seat l.s.replica l.d.done.part t) l.d.reply_is
      (part_by_sources (heard worker) link step left count files l.s.replica l.t.before
      l.d.done l.t.after l.t.is (l.d.line_is ∙ is) parts.1 known))))

  has_steps : (worker at : ℕ) (asked : ScriptLine) (reply : Told)
      → Told_at worker at asked reply → HasSteps run steps worker at asked reply
  has_steps worker at asked reply r =
      let l = line_at worker at asked reply r in
      let old_place : Workplace L D = l.t.before in
      let new_place : Workplace L D = l.t.after in
      let es : List Exchange = l.d.done.exchanges in
      let Plugin : (name : List ℕ) → Type 0 =
      λ name. FaultRose link name old_place.links new_place.links in
      let Dice : Type 0 = Rose (count old_place.dice) (count new_place.dice) in
      let Breaks : (name : List ℕ) → Field → (text : List ℕ) → Type 0 = λ name field text.
      HasLinkWith link name (λ it. HasBreach it (Some (field, text))) old_place.links in
      let Keys : Publication → Type 0 = λ p. AreKeysSame link old_place.links p.seeds in
      let Changed : Publication → Type 0 = λ p. IsKeyChanged link old_place.links p.seeds in
      let Covers : List met_row.Step → Type 0 =
      λ met. CoversLive [] met old_place.caller new_place.caller in
      let Stood : (path : List ℕ) → Type 0 = StoodThere run steps worker at in
      let Did_so : Told → Type 0 = RewritePart IsFresh IsStale IsLeft Plugin Dice Covers worker
      (replica_at worker)
      (own_entries steps worker at) in
      let Shape : ℕ → ℕ → List Entry → ScriptLine → Told → Type 0 = λ seat own part asked reply.
      PartIs Plugin Dice Breaks Keys Changed NamesPlugin CannotBeSealed ReadBy
      (RewritePart IsFresh IsStale IsLeft Plugin Dice Covers seat own part) seat own part
      (rows_at files) asked reply in
      let shape = parts_have_shape link step left count files l.s.replica old_place new_place
      l.d.done l.t.is in
      let failed : (name : List ℕ) → AsksPlugins asked → reply ≡ told.FaultPlugin name
      → Plugin name → run.PluginFailed worker at name = λ name asks is rose.
      at_line worker at asked reply l
      (λ before asked after. FaultRose link name before.0 after.0 × HasFailed asked name) (
        rose,
        subst (λ (t : Told). Bears es (blame_in (Ok t))) is
            (borne worker at asked reply l asks),
      ) in
      let drew : Dice → run.SourceFailed worker at = λ rose. at_line worker at asked reply l
      (λ before asked after. Rose (count before.1) (count after.1)) rose in
      part_mono Plugin (run.PluginFailed worker at) Dice (run.SourceFailed worker at) Breaks
      (run.BreaksRule worker at) Keys (run.KeysAreSame worker at) Changed
      (run.KeyChanged worker at) NamesPlugin CannotBeSealed ReadBy
      Did_so (run.RewriteDone worker at Stood (own_entries steps worker at)) worker
      (replica_at worker) (own_entries steps worker at) asked reply failed drew
      (λ name field text asks is breaks. at_line worker at asked reply l (λ before asked after.
      HasLinkWith link name (λ it. HasBreach it (Some (field, text))) before.0
      × HasBroken asked name field text) (
        breaks,
        subst (λ (t : Told). Bears es (blame_in (Ok t))) is
            (borne worker at asked reply l asks),
      ))
      (λ p refreshes is begins same. at_line worker at asked reply l
      (λ before asked after. AreKeysSame link before.0 p.seeds × HaveSeedKeys asked p.seeds)
      (same, subst (KeysBy es p.seeds) is (keys_of worker at reply asked l refreshes p begins)))
      (λ p refreshes renews begins other. at_line worker at asked reply l
      (λ before asked after. IsKeyChanged link before.0 p.seeds × HasOtherKey asked p.seeds) (
        other,
        other_key es p.seeds reply renews
            (keys_of worker at reply asked l refreshes p begins),
      ))
      (λ given rewrites is did. rewrite_mono (FreshBy (heard worker)) (StaleBy (heard worker))
      (LeftBy (heard worker)) Plugin (run.PluginFailed worker at) Dice (run.SourceFailed worker at) Covers
      (MeetsAll run steps worker at) worker (replica_at worker) (own_entries steps worker at) reply
      (λ name told_is rose. failed name (subst AsksPlugins (sym rewrites) tt) told_is rose) drew
      (covers worker at asked reply l) given is
      (rewrite_both IsFresh IsStale IsLeft (FreshBy (heard worker)) (StaleBy (heard worker))
      (LeftBy (heard worker)) Plugin Dice Covers worker (replica_at worker) (own_entries steps worker at) given did
      (subst (BySources worker at asked reply l) is
      (by_sources worker at asked reply l rewrites)))) (rows_at files) asked reply refl refl
      (subst (λ (part : List Entry). Shape worker (replica_at worker) part asked reply)
      (sym (own_is worker at asked reply l))
      (subst (λ n. Shape worker n l.d.done.part asked reply) (sym l.s.replica_is)
      (subst (λ n. Shape n l.s.replica l.d.done.part asked reply) (l.t.seat_is ∙ l.s.seat_is)
      (subst (λ (t : Told). Shape old_place.caller.seat l.s.replica l.d.done.part asked t)
      l.d.reply_is
      (subst (λ (a : ScriptLine). Shape old_place.caller.seat l.s.replica l.d.done.part a
      l.d.done.reply) l.d.line_is shape)))))

  -- ---- the headline

  headline : Headline run
  headline = record {
    all_told = seats.all_told link step left count files history o parts budgets old new one;
    steps = steps;
    entries_are = entries_stay runs [] history;
    in_order = marks_in_order runs history
        (seats.own_entries_there link step left count files history o parts budgets old new one)
        [] history refl;
    answers = λ front e rest is. may_answer heard o files workers replies history outside readings
        front (legal_front o history one.legal front e rest is) e rest is
        (here o history one.legal front e rest is)
        (judged_by_fit o front e (legal_one o history one.legal front e rest is));
    counts = λ front e rest is. subst (λ n. n ≤ e.line.faults)
        (sym (faults_are (start_of o) front)) (here o history one.legal front e rest is).counted;
    of_lines = all_marks runs
        (seats.OfLine link step left count files history o parts budgets old new one) [] history
        (seats.of_line link step left count files history o parts budgets old new one);
    tells = has_steps;
    gets = got;
    refuses = refused_at;
  }

  stays_listed : StaysListed sealed_values heard o files workers replies history
  stays_listed front rest path row rows is lives live_rows =
      let l = live_is_readable o front path row rows
      (front_law o front rest (subst (IsLegal o) is one.legal)) lives live_rows in
      (l.0, l.2)

  seeds_open : (opens : Opens) → AgreesWithAll heard opens o
      → All (λ (e : Entry). BroughtOpens opens e.line.gave e.line.did) history
  seeds_open opens agrees =
      let honest = true_replies.agreed opens agrees.0 (record {
        opening = agrees.1;
        entries = All-nil (IsHonestEntry opens);
      }) history [] (sym (append-nil history)) in
      λ k e below. brought_opens opens (get_or history k e).line.gave
      (get_or history k e).line.did (get_or history k e) (honest.entries k e below)

  pub the_headline : FleetHeadline sealed_values link step count old new files o parts history
  unfolding headline
  the_headline = record {
    whole = one.whole;
    many = seats.many_new link step left count files history o parts budgets old new
        one;
    benches = benches;
    benches_are = λ worker part before after part_is before_is after_is.
        (run_stood worker (some_below parts worker part part_is)).benches_are part before after
        part_is before_is after_is;
    exchanges = exchanges;
    heard = heard;
    was_heard = true_replies.was_heard;
    by_line = seats.by_line link step left count files history o parts budgets old new
        one;
    no_more = true_replies.no_more;
    has = record {
      follows = λ front e rest is. follows o history one.legal front e rest is;
      listed = stays_listed;
      seeds = seeds_open;
      published = run_brings_seeds o (start_of o) history one.legal.runs;
      readings = readings;
      headline = headline;
      made = all_marks runs
          (seats.HasLine link step left count files history o parts budgets old new one) [] history
          (seats.has_line link step left count files history o parts budgets old new one);
    };
  }

  tied : IsTied link step left count files o parts budgets history old new the_headline
  unfolding the_headline
  tied = record {
    legal = one.legal;
    stand = λ worker part before after part_is before_is after_is.
        let t = (run_stood worker (some_below parts worker part part_is)).stands part before after
        part_is before_is after_is in (t.0, t.1, ap exchanges_of t.2);
  }

pub fleet_headline : (T : Type 0) → {L D : Type 0} → (link : L → Link)
    (step : L → Exchange → L → Type 0)
    (left : D → Option (List ℕ)) (count : D → ℕ) → HeadlineHolds T link step left count
fleet_headline T link step left count files history o parts budgets old new one = (
  the_headline link step left count files history o parts budgets old new one,
  tied link step left count files history o parts budgets old new one,
)
