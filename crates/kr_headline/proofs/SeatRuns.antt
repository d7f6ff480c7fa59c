-- The run of each seat in one history, the steps that its entries are, and the line of each step.
use Rattle.std.specs.Prelude.{All, Contains, flat_map, slice_get, slice_index, Ok}
use Rattle.std.proofs.Common.{◌≡◌, ℕ, suc, ◌<◌, ◌≤◌, List, [], ◌∷◌, ◌++◌, length, map, get_or, Option, Some, ◌⊎◌, inl, inr, refl, ap, sym, subst, ◌∙◌, arith}
use Rattle.std.proofs.lemmas.Bool.{cases_lt}
use Rattle.std.proofs.lemmas.List.{get_or-map, length-map}
use Rattle.std.proofs.lemmas.Option.{same_Some, slice_get-get_or}
use Rattle.kr_base.specs.Lines.{of_seat}
use Rattle.kr_kms.specs.Calls.{Link}
use Rattle.kr_kms.specs.Exchanges.{Exchange, UnwrapCall}
use Rattle.kr_kms.specs.declared.seeds.SeedKey.{SeedKey}
use Rattle.kr_rollout.specs.Entries.{seat_of}
use Rattle.kr_rollout.specs.declared.line.Gave.TheVariants as gave
use Rattle.kr_rollout.specs.declared.opening.Entry.{Entry}
use Rattle.kr_rollout.specs.declared.opening.Opening.{Opening}
use Rattle.kr_script.specs.Fleets.{Worker, worker_of}
use Rattle.kr_script.specs.declared.script.Part.{Part}
use Rattle.kr_script.specs.declared.script.ScriptLine.{ScriptLine}
use Rattle.kr_script.specs.declared.script.ScriptLine.TheVariants as line
use Rattle.kr_script.specs.declared.told.Told.{Told}
use Rattle.kr_script.specs.declared.told.Told.TheVariants as told
use Rattle.kr_workers.specs.Changes.{AllowsChange, MayChange}
use Rattle.kr_workers.specs.Files.{rows_at}
use Rattle.kr_workers.specs.Gets.{TellContents}
use Rattle.kr_workers.specs.Heard.{Heard}
use Rattle.kr_workers.specs.Histories.{IsOneHistory, StandsIn, first_place}
use Rattle.kr_workers.specs.Plugins.{IsReplaced}
use Rattle.kr_workers.specs.Runs.{LineDone, entries_in, exchanges_in, lines_in, replies_in}
use Rattle.kr_workers.specs.Sentences.{RepliesAreTrue, TellsRun}
use Rattle.kr_workers.specs.ScriptLines.{Workplace}
use Rattle.kr_workers.specs.declared.files.SettingsFile.{SettingsFile}
use Rattle.kr_workers.specs.declared.worker.Worker as fleet_worker
use Rattle.kr_workers.proofs.Sentencing.{histories_tell}
use Rattle.kr_workers.proofs.HonestPlugins.{at_middle}
use Rattle.kr_headline.specs.Fleets.{AreBenches, AtLine, FleetOutside, outside_of}
use Rattle.kr_headline.specs.Headline.{OnlyReseals, Step, own_entries}
use Rattle.kr_headline.proofs.Benches.{DoneThere, benches_of, benches_stay, done_in_run, exchanges_joined, exchanges_of, first_bench, last_bench, lines_ask, many_benches}
use Rattle.kr_headline.specs.Sources.{WasAnswered}
use Rattle.kr_headline.proofs.Cached as cached
use Rattle.kr_headline.proofs.Marks.{mark, marks, marks_split, place_of}
use Rattle.kr_headline.proofs.Own.{own_part}
use Rattle.kr_headline.proofs.Places as place
use Rattle.kr_headline.proofs.Sourced.{SourcedTold, gets_are_sourced}
use Rattle.kr_headline.proofs.Seats.{below_of, first_in, past_end, plus_one, split_own}
use Rattle.kr_headline.proofs.OnlyReseals.{only_reseals}
use Rattle.kr_headline.proofs.Unsealed.{SealedAnew, WasUnsealed, rewrites_unseal}

module _ {T L D : Type 0} (link : L → Link) (step : L → Exchange → L → Type 0)
    (left : D → Option (List ℕ))
    (count : D → ℕ) (files : List SettingsFile) (history : List Entry) (o : Opening)
    (parts : List Part) (budgets : List ℕ) (old new : List (fleet_worker.Worker T L D))
    (one : IsOneHistory link step left count files history o parts budgets old new) where
  abbrev pub workers : List Worker
  workers = map worker_of parts

  abbrev pub replies : List (List Told)
  replies = map (λ (worker : fleet_worker.Worker T L D). worker.told.0) new

  abbrev pub lines_at : ℕ → List ScriptLine
  lines_at worker = get_or (map (λ (it : Worker). it.lines) workers) worker []

  abbrev pub replica_at : ℕ → ℕ
  replica_at worker = get_or (map (λ (it : Worker). it.replica) workers) worker 0

  abbrev pub Told_at : (worker at : ℕ) → ScriptLine → Told → Type 0
  Told_at worker at asked reply = (slice_get (lines_at worker) at ≡ Some asked)
      × (slice_get (get_or replies worker []) at ≡ Some reply)

  -- ---- what was heard, and the run of each seat

  pub true_replies : RepliesAreTrue link step left count files history o parts budgets old new
  true_replies = histories_tell T link step left count files history o parts budgets old new
      one

  abbrev pub heard : (worker : ℕ) → Heard
  heard worker = true_replies.heard worker

  -- the lines of a part stand so, with this run and its exchanges
  abbrev Stands : (seat : ℕ) (run : List LineDone) (part : Part)
      (before after : fleet_worker.Worker T L D) → Type 0
  Stands seat run part before after = (s : StandsIn link step left count files history part
      (first_place o seat (slice_index budgets seat) before.bench) after.told.0 after.bench)
      × ((heard seat).exchanges ≡ exchanges_in s.run) × (run ≡ s.run)

  pub record Stood (seat : ℕ) (run : List LineDone) (benches : List (List L × D)) : Type 0 where
    pub replica : ℕ
    pub replica_is : replica_at seat ≡ replica
    pub first : Workplace L D
    pub last : Workplace L D
    pub seat_is : first.caller.seat ≡ seat
    pub opening_is : first.caller.opening ≡ o
    pub none_yet : first.caller.mine ≡ []
    pub unseen : List Entry
    pub seen_is : last.caller.seen ++ unseen ≡ history
    pub there : (ahead : List LineDone) (done : LineDone) (behind : List LineDone)
        → run ≡ ahead ++ done ∷ behind
        → DoneThere link step left count files replica first last benches ahead done
    pub benches_are : (part : Part) (before after : fleet_worker.Worker T L D)
        → slice_get parts seat ≡ Some part → slice_get old seat ≡ Some before
        → slice_get new seat ≡ Some after
        → AreBenches link step count benches (exchanges_of run) part.lines.0 before.bench
        after.bench
    pub stands : (part : Part) (before after : fleet_worker.Worker T L D)
        → slice_get parts seat ≡ Some part → slice_get old seat ≡ Some before
        → slice_get new seat ≡ Some after → Stands seat run part before after
    pub parts_are : entries_in run ≡ of_seat seat_of seat history
    pub lines_are : lines_in run ≡ lines_at seat
    pub replies_are : replies_in run ≡ get_or replies seat []
    pub exchanges_are : (heard seat).exchanges ≡ exchanges_in run
    pub tells : TellContents (heard seat).kept o history seat run
    pub sourced : (ahead : List LineDone) (done : LineDone) (behind : List LineDone)
        → run ≡ ahead ++ done ∷ behind → (path : List ℕ) → done.line ≡ line.Get path
        → SourcedTold history o seat (entries_in ahead) done.part path (heard seat) done.reply
    pub known : cached.AreKnown (WasAnswered (heard seat)) first.cache.rows
    pub answers : cached.AreAnswers (WasAnswered (heard seat)) (exchanges_in run)
    pub unsealed : (ahead : List LineDone) (done : LineDone) (behind : List LineDone)
        → run ≡ ahead ++ done ∷ behind → done.line ≡ line.Rewrite
        → All (WasUnsealed (heard seat)) done.part

  pub many_new : length new ≡ length parts
  many_new = one.many ∙ one.whole

  module _ (seat : ℕ) (within : seat < length parts) where
    abbrev first_part : Part
    first_part = first_in parts seat within

    abbrev first_old : fleet_worker.Worker T L D
    first_old = first_in old seat (omega (arith, within, one.whole))

    abbrev its_part : Part
    its_part = get_or parts seat first_part

    abbrev its_old : fleet_worker.Worker T L D
    its_old = get_or old seat first_old

    abbrev its_new : fleet_worker.Worker T L D
    its_new = get_or new seat first_old

    abbrev its_place : Workplace L D
    its_place = first_place o seat (slice_index budgets seat) its_old.bench

    within_workers : seat < length workers
    within_workers = omega (arith, within, length-map parts worker_of)

    lines_there : lines_at seat ≡ its_part.lines.0
    lines_there = get_or-map (λ (it : Worker). it.lines) workers seat (worker_of first_part) []
        within_workers
        ∙ ap (λ (it : Worker). it.lines)
        (get_or-map worker_of parts seat first_part (worker_of first_part) within)

    replica_there : replica_at seat ≡ its_part.replica
    replica_there = get_or-map (λ (it : Worker). it.replica) workers seat (worker_of first_part) 0
        within_workers
        ∙ ap (λ (it : Worker). it.replica)
        (get_or-map worker_of parts seat first_part (worker_of first_part) within)

    abbrev IsTold : Type 0
    IsTold = TellsRun link step left count files
        (heard seat) o history seat its_part its_place
        its_new.told.0 its_new.bench

    told_run : IsTold
    told_run = true_replies.gets seat its_part its_old its_new
        (slice_get-get_or parts seat first_part within)
        (slice_get-get_or old seat first_old (omega (arith, within, one.whole)))
        (slice_get-get_or new seat first_old (omega (arith, within, many_new)))

    -- what its bench had kept
    was_kept : (heard seat).kept ≡ its_old.bench.cache.rows
    was_kept = (true_replies.was_heard seat its_old its_new
        (slice_get-get_or old seat first_old (omega (arith, within, one.whole)))
        (slice_get-get_or new seat first_old (omega (arith, within, many_new)))).kept

    module _ (t : IsTold) where
      abbrev s : StandsIn link step left count files history its_part its_place its_new.told.0
          its_new.bench
      s = t.stands

      -- the same of the part and the workers by their number
      of_its : (Is : Part → (before after : fleet_worker.Worker T L D) → Type 0) (part : Part)
          (before after : fleet_worker.Worker T L D) → slice_get parts seat ≡ Some part
          → slice_get old seat ≡ Some before → slice_get new seat ≡ Some after
          → Is its_part its_old its_new → Is part before after
      of_its Is part before after part_is before_is after_is has =
          subst (λ (p : Part). Is p before after)
          (same_Some its_part part
          (sym (slice_get-get_or parts seat first_part within) ∙ part_is))
          (subst (λ (w : fleet_worker.Worker T L D). Is its_part w after)
          (same_Some its_old before (sym (slice_get-get_or old seat first_old
          (omega (arith, within, one.whole))) ∙ before_is))
          (subst (λ (w : fleet_worker.Worker T L D). Is its_part its_old w)
          (same_Some its_new after (sym (slice_get-get_or new seat first_old
          (omega (arith, within, many_new))) ∙ after_is)) has))

      kept_known : cached.AreKnown (WasAnswered (heard seat)) its_place.cache.rows
      kept_known key seed there = inr (subst (λ (rows : List (SeedKey × List ℕ)).
          Contains rows (key, seed)) (sym was_kept) there)

      answers_known : cached.AreAnswers (WasAnswered (heard seat)) (exchanges_in s.run)
      answers_known key seed there = inl (subst (λ (es : List Exchange).
          Contains es (UnwrapCall key (Ok seed))) (sym t.exchanges) there)

      abbrev its_benches : List (List L × D)
      its_benches = benches_of link step left count files its_part.replica its_place s.run
          s.last
          s.does

      are_there : AreBenches link step count its_benches (exchanges_of s.run) its_part.lines.0
          its_old.bench its_new.bench
      are_there =
          let many : length its_part.lines.0 ≡ length s.run =
          ap length (sym s.lines_are) ∙ length-map s.run (λ (d : LineDone). d.line) in record {
            many = omega (
              arith,
              many,
              many_benches link step left count files its_part.replica
                  its_place s.run s.last s.does,
            );
            first = first_bench link step left count files its_part.replica its_place s.run
                s.last
                s.does;
            last = ap (λ n. slice_get its_benches n) many
                ∙ last_bench link step left count files its_part.replica its_place s.run
                s.last
                s.does
                ∙ (λ i. Some (sym s.links_are i, sym s.dice_are i));
            each = length-map s.run (λ (d : LineDone). d.exchanges) ∙ sym many;
            asks = λ at asked its l e. lines_ask link step left count files
                its_part.replica its_place s.run s.last s.does at asked its
                (ap (λ (lines : List ScriptLine). slice_get lines at) s.lines_are ∙ l) e;
            stay = λ at before after asked b e a. benches_stay link step left count files
                its_part.replica
                its_place s.run s.last s.does at before after asked b e
                (ap (slice_get its_benches) (plus_one at) ∙ a);
          }

      stood_by : Stood seat s.run its_benches
      stood_by = record {
        replica = its_part.replica;
        replica_is = replica_there;
        first = its_place;
        last = s.last;
        seat_is = refl;
        opening_is = refl;
        none_yet = refl;
        unseen = s.front.0;
        seen_is = s.front.1;
        there = λ ahead done behind is. done_in_run link step left count files
            its_part.replica
            its_place s.run s.last ahead done behind is s.does;
        benches_are = λ part before after part_is before_is after_is.
            of_its (λ p b a. AreBenches link step count its_benches (exchanges_of s.run)
            p.lines.0 b.bench a.bench) part before after part_is before_is after_is
            are_there;
        stands = λ part before after part_is before_is after_is.
            of_its (λ p b a. Stands seat s.run p b a) part before after part_is before_is after_is
            (s, t.exchanges, refl);
        parts_are = s.parts_are;
        lines_are = s.lines_are ∙ sym lines_there;
        replies_are = sym s.replies_are
            ∙ sym (get_or-map (λ (w : fleet_worker.Worker T L D). w.told.0) new seat first_old []
            (omega (arith, within, many_new)));
        exchanges_are = t.exchanges;
        tells = t.tell;
        sourced = gets_are_sourced link step left count files history its_part its_place
            its_new.told.0 its_new.bench s refl (heard seat) kept_known answers_known;
        known = kept_known;
        answers = answers_known;
        unsealed = rewrites_unseal link step left count files history its_part its_place
            its_new.told.0 its_new.bench s (heard seat) kept_known answers_known;
      }

  pub some_run : (seat : ℕ) → (run : List LineDone) × (benches : List (List L × D))
      × (seat < length parts → Stood seat run benches) × (length parts ≤ seat → run ≡ [])
  some_run seat = by (cases_lt seat (length parts))
    where
      by : (seat < length parts) ⊎ (length parts ≤ seat)
          → (run : List LineDone) × (benches : List (List L × D))
          × (seat < length parts → Stood seat run benches) × (length parts ≤ seat → run ≡ [])
      by (inl within) =
          let t = told_run seat within in (
            t.stands.run,
            its_benches seat within t,
            λ again. stood_by seat within t,
            λ past. absurd (omega (arith, past, within)),
          )
      by (inr past) = ([], [], λ within. absurd (omega (arith, past, within)), λ again. refl)

  abbrev pub runs : ℕ → List LineDone
  runs seat = (some_run seat).0

  abbrev pub benches : ℕ → List (List L × D)
  benches seat = (some_run seat).1

  abbrev pub exchanges : ℕ → List (List Exchange)
  exchanges seat = exchanges_of (runs seat)

  -- what was heard, line by line
  pub by_line : (seat : ℕ)
      → (heard seat).exchanges ≡ flat_map (λ (asked : List Exchange). asked) (exchanges seat)
  by_line seat = by (cases_lt seat (length parts))
    where
      by : (seat < length parts) ⊎ (length parts ≤ seat)
          → (heard seat).exchanges ≡ flat_map (λ (asked : List Exchange). asked) (exchanges seat)
      by (inl within) =
          ((some_run seat).2 within).exchanges_are ∙ exchanges_joined (runs seat)
      by (inr past) = ap (λ (it : Heard). it.exchanges) (true_replies.no_more seat past)
          ∙ sym (ap (λ (r : List LineDone). flat_map (λ (asked : List Exchange). asked)
          (exchanges_of r)) ((some_run seat).3 past))

  pub run_stood : (seat : ℕ) → seat < length parts → Stood seat (runs seat) (benches seat)
  run_stood seat within = (some_run seat).2 within

  seat_within : (front : List Entry) (e : Entry) (rest : List Entry)
      → history ≡ front ++ e ∷ rest → seat_of e < length parts
  seat_within front e rest is = at_middle (λ (x : Entry). seat_of x < length parts) front e rest
      (subst (λ (l : List Entry). All (λ (x : Entry). seat_of x < length parts) l) is one.no_other)

  abbrev pub steps : List Step
  steps = marks runs [] history

  pub step_at : (front : List Entry) (e : Entry) (rest : List Entry) → history ≡ front ++ e ∷ rest
      → steps ≡ marks runs [] front ++ mark runs front e ∷ marks runs (front ++ e ∷ []) rest
  step_at front e rest is = ap (marks runs []) is ∙ marks_split runs [] front e rest

  told_there : (seat : ℕ) (ahead : List LineDone) (done : LineDone) (behind : List LineDone)
      → Stood seat (runs seat) (benches seat) → runs seat ≡ ahead ++ done ∷ behind
      → Told_at seat (length ahead) done.line done.reply
  told_there seat ahead done behind s is = (
    ap (λ (l : List ScriptLine). slice_get l (length ahead)) (sym s.lines_are ∙ ap lines_in is)
        ∙ place.stands_at (λ (d : LineDone). d.line) ahead done behind,
    ap (λ (l : List Told). slice_get l (length ahead)) (sym s.replies_are ∙ ap replies_in is)
        ∙ place.stands_at (λ (d : LineDone). d.reply) ahead done behind,
  )

  -- ---- each step has its line

  abbrev pub HasLine : Step → Type 0
  HasLine step = (asked : ScriptLine) × (reply : Told)
      × Told_at step.entry.line.seat step.at asked reply
      × MayChange (rows_at files) (replica_at step.entry.line.seat) asked reply step.entry

  pub has_line : (front : List Entry) (e : Entry) (rest : List Entry)
      → history ≡ front ++ e ∷ rest → HasLine (mark runs front e)
  has_line front e rest is =
      let seat = seat_of e in
      let s = run_stood seat (seat_within front e rest is) in
      let l = place.line_of (runs seat) (of_seat seat_of seat front) e (of_seat seat_of seat rest)
      (s.parts_are ∙ ap (of_seat seat_of seat) is ∙ split_own seat front e rest refl) in
      let d = s.there l.ahead l.done l.behind l.run_is in
      let there : place_of runs front e ≡ length l.ahead =
      ap (λ (r : List LineDone). get_or (place.places 0 r)
      (length (of_seat seat_of seat front)) 0) l.run_is
      ∙ ap (λ (xs : List Entry). get_or (place.places 0 (l.ahead ++ l.done ∷ l.behind))
      (length xs) 0) l.xs_is
      ∙ place.place_there l.ahead l.done l.behind l.front e l.rest l.part_is in
      let r = subst (λ n. Told_at seat n l.done.line l.done.reply) (sym there)
      (told_there seat l.ahead l.done l.behind s l.run_is) in (
        l.done.line,
        l.done.reply,
        r,
        subst (λ n. MayChange (rows_at files) n l.done.line l.done.reply e) (sym s.replica_is)
            (at_middle (MayChange (rows_at files) s.replica l.done.line l.done.reply) l.front e
            l.rest
            (subst (λ (p : List Entry).
            All (MayChange (rows_at files) s.replica l.done.line l.done.reply) p) l.part_is
            d.is.made)),
      )

  -- where memory lacked it changed nothing, but for what a rewrite sealed anew
  abbrev pub OfLine : Step → Type 0
  OfLine step = (asked : ScriptLine) × (reply : Told)
      × Told_at step.entry.line.seat step.at asked reply
      × ((reply ≡ told.Memory) ⊎ (asked ≡ line.Rewrite)
      → OnlyReseals asked step.entry.line.gave step.entry.line.did)

  pub of_line : (front : List Entry) (e : Entry) (rest : List Entry)
      → history ≡ front ++ e ∷ rest → OfLine (mark runs front e)
  of_line front e rest is =
      let l = has_line front e rest is in (
        l.0,
        l.1,
        l.2,
        only_reseals (rows_at files) (replica_at (seat_of e)) l.0 l.1 e.line.gave e.line.did
            e.line.held e.published l.3,
      )

  -- ---- the line at a place

  pub record LineAt (worker at : ℕ) (asked : ScriptLine) (reply : Told) : Type 0 where
    pub within : worker < length parts
    pub s : Stood worker (runs worker) (benches worker)
    pub d : place.DoneAt (runs worker) at asked reply
    pub t : DoneThere link step left count files s.replica s.first s.last (benches worker) d.ahead
        d.done

  pub line_at : (worker at : ℕ) (asked : ScriptLine) (reply : Told)
      → Told_at worker at asked reply → LineAt worker at asked reply
  line_at worker at asked reply r =
      let within : worker < length parts =
      let l = below_of (map (λ (it : Worker). it.lines) workers) worker at asked r.0 in
      omega (
        arith,
        l,
        length-map workers (λ (it : Worker). it.lines),
        length-map parts worker_of,
      ) in
      let s = run_stood worker within in
      let d = place.done_at (runs worker) at asked reply
      (ap (λ (l : List ScriptLine). slice_get l at) s.lines_are ∙ r.0)
      (ap (λ (l : List Told). slice_get l at) s.replies_are ∙ r.1) in
      record {
        within = within;
        s = s;
        d = d;
        t = s.there d.ahead d.done d.behind d.run_is;
      }

  pub own_is : (worker at : ℕ) (asked : ScriptLine) (reply : Told)
      → (l : LineAt worker at asked reply) → own_entries steps worker at ≡ l.d.done.part
  own_is worker at asked reply l = own_part runs worker at history l.d.ahead l.d.done l.d.behind
      l.d.run_is l.d.many l.s.parts_are

  abbrev pub outside : FleetOutside
  outside = outside_of link count benches exchanges

  -- an own entry of the line is a step of it
  pub own_place : (worker at : ℕ) (asked : ScriptLine) (reply : Told)
      → (l : LineAt worker at asked reply) (before : List Entry) (e : Entry) (behind : List Entry)
      → l.d.done.part ≡ before ++ e ∷ behind → (front : List Entry) → seat_of e ≡ worker
      → of_seat seat_of worker front ≡ entries_in l.d.ahead ++ before
      → place_of runs front e ≡ at
  own_place worker at asked reply l before e behind part front seat its =
      ap (λ n. get_or (place.places 0 (runs n)) (length (of_seat seat_of n front)) 0) seat
      ∙ ap (λ (r : List LineDone). get_or (place.places 0 r)
      (length (of_seat seat_of worker front)) 0) l.d.run_is
      ∙ ap (λ (xs : List Entry). get_or (place.places 0 (l.d.ahead ++ l.d.done ∷ l.d.behind))
      (length xs) 0) its
      ∙ place.place_there l.d.ahead l.d.done l.d.behind before e behind part ∙ l.d.many

  pub at_line : (worker at : ℕ) (asked : ScriptLine) (reply : Told)
      → (l : LineAt worker at asked reply)
      (Has : (before : List L × D) → List Exchange → (after : List L × D) → Type 0)
      → Has (l.t.before.links, l.t.before.dice) l.d.done.exchanges
      (l.t.after.links, l.t.after.dice)
      → AtLine (benches worker) (exchanges worker) at Has
  at_line worker at asked reply l Has has = record {
    before = (l.t.before.links, l.t.before.dice);
    asked = l.d.done.exchanges;
    after = (l.t.after.links, l.t.after.dice);
    asked_is = ap (slice_get (exchanges worker)) (sym l.d.many)
        ∙ ap (λ (r : List LineDone). slice_get (exchanges_of r) (length l.d.ahead)) l.d.run_is
        ∙ place.stands_at (λ (d : LineDone). d.exchanges) l.d.ahead l.d.done l.d.behind;
    before_is = ap (slice_get (benches worker)) (sym l.d.many) ∙ l.t.before_is;
    after_is = ap (slice_get (benches worker)) (sym (plus_one at) ∙ ap suc (sym l.d.many))
        ∙ l.t.after_is;
    has = has;
  }

  -- a row that was replaced was sealed anew by a rewrite
  pub resealed_there : (front : List Entry) (e : Entry) (rest : List Entry) (path : List ℕ)
      → history ≡ front ++ e ∷ rest → IsReplaced path e → SealedAnew (heard (seat_of e)) path e
  resealed_there front e rest path is replaced =
      let seat = seat_of e in
      let s = run_stood seat (seat_within front e rest is) in
      let l = place.line_of (runs seat) (of_seat seat_of seat front) e (of_seat seat_of seat rest)
      (s.parts_are ∙ ap (of_seat seat_of seat) is ∙ split_own seat front e rest refl) in
      let d = s.there l.ahead l.done l.behind l.run_is in
      let settings = rows_at files in
      let made : MayChange settings s.replica l.done.line l.done.reply e =
      at_middle (MayChange settings s.replica l.done.line l.done.reply) l.front e l.rest
      (subst (λ (p : List Entry). All (MayChange settings s.replica l.done.line l.done.reply) p)
      l.part_is d.is.made) in
      let asked : l.done.line ≡ line.Rewrite =
      subst (λ done. AllowsChange settings s.replica l.done.line l.done.reply
      (gave.Written replaced.revision) done e.line.held e.published) replaced.did_is
      (subst (λ given. AllowsChange settings s.replica l.done.line l.done.reply given e.line.did
      e.line.held e.published) replaced.gave_is made) in
      at_middle (WasUnsealed (heard seat)) l.front e l.rest
      (subst (λ (p : List Entry). All (WasUnsealed (heard seat)) p) l.part_is
      (s.unsealed l.ahead l.done l.behind l.run_is asked)) path replaced

  -- ---- all lines, and all entries of a seat

  pub all_told : (worker : ℕ) → length (get_or replies worker []) ≡ length (lines_at worker)
  all_told worker = by (cases_lt worker (length parts))
    where
      by : (worker < length parts) ⊎ (length parts ≤ worker)
          → length (get_or replies worker []) ≡ length (lines_at worker)
      by (inl within) = let s = run_stood worker within in
          ap length (sym s.replies_are) ∙ length-map (runs worker) (λ (d : LineDone). d.reply)
          ∙ sym (length-map (runs worker) (λ (d : LineDone). d.line)) ∙ ap length s.lines_are
      by (inr past) =
          ap length (past_end replies worker (omega (
            arith,
            past,
            one.many,
            one.whole,
            length-map new (λ (w : fleet_worker.Worker T L D). w.told.0),
          )))
          ∙ sym (ap length (past_end (map (λ (it : Worker). it.lines) workers) worker (omega (
            arith,
            past,
            length-map workers (λ (it : Worker). it.lines),
            length-map parts worker_of,
          ))))

  pub own_entries_there : (front : List Entry) (e : Entry) (rest : List Entry)
      → history ≡ front ++ e ∷ rest
      → entries_in (runs (seat_of e)) ≡ of_seat seat_of (seat_of e) history
  own_entries_there front e rest is =
      (run_stood (seat_of e) (seat_within front e rest is)).parts_are
