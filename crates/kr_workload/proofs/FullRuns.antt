-- A load over a store without rows: memory lacked for some reply, or nothing lacks.
use Rattle.std.specs.Prelude.{All}
use Rattle.std.specs.List.{list_any, range_with_len, slice_get, slice_index}
use Rattle.std.proofs.Common.{◌≡◌, ℕ, ◌+◌, ◌*◌, ◌<◌, ◌≤◌, ◌⊎◌, ◌||◌, Bool, true, false, List, [], ◌∷◌, ◌++◌, length, map, get_or, Option, Some, inl, inr, refl, ap, sym, subst, ◌∙◌, arith}
use Rattle.std.proofs.lemmas.Bool.{false≢true}
use Rattle.std.proofs.lemmas.List.{get_or-map, length-map}
use Rattle.std.proofs.lemmas.List.Elements.{All-contains, All-cons, All-nil}
use Rattle.std.proofs.lemmas.List.Folds.{list_any_none}
use Rattle.std.proofs.lemmas.List.FromFn.{get_or-range_with_len}
use Rattle.std.proofs.lemmas.Option.{get_or_from_slice_get, same_Some, slice_get-get_or, slice_get_within}
use Rattle.std.proofs.Math.Nat.{eq-or-lt_of_le}
use Rattle.kr_base.specs.Faults.{Rose}
use Rattle.kr_base.specs.Lines.{of_seat}
use Rattle.kr_base.specs.Streams.{TakesAtMost}
use Rattle.kr_base.proofs.Counting.{Rose-later}
use Rattle.kr_kms.specs.Calls.{Link}
use Rattle.kr_kms.specs.Exchanges.{Exchange}
use Rattle.kr_history.specs.ContentLaws.{NamesNoPlugin}
use Rattle.kr_rollout.specs.Entries.{seat_of}
use Rattle.kr_rollout.specs.Histories.{IsLegal, IsRun, state_from, state_of}
use Rattle.kr_rollout.specs.Openings.{start_of}
use Rattle.kr_rollout.specs.States.{State}
use Rattle.kr_rollout.specs.Steps.{after}
use Rattle.kr_rollout.specs.Writes.{Writes}
use Rattle.kr_rollout.specs.declared.line.Gave.TheVariants as gave
use Rattle.kr_rollout.specs.declared.opening.Entry.{Entry}
use Rattle.kr_rollout.specs.declared.opening.Opening.{Opening}
use Rattle.kr_rollout.proofs.Appending.{front_law}
use Rattle.kr_history.proofs.NoNames.{no_names_no_plugin}
use Rattle.kr_script.specs.Fleets.{worker_of, Worker as fleet_worker}
use Rattle.kr_script.specs.declared.script.Part.{Part}
use Rattle.kr_script.specs.declared.told.Told.{Told}
use Rattle.kr_workers.specs.Endings.{is_same, reply_ending, some_is}
use Rattle.kr_workers.specs.Histories.{first_place}
use Rattle.kr_workers.specs.Runs.{LineDone}
use Rattle.kr_workers.specs.Sentences.{RepliesAreTrue, TellsRun}
use Rattle.kr_workers.specs.declared.ending.Ending.{Ending}
use Rattle.kr_workers.specs.declared.ending.Ending.TheVariants as ending
use Rattle.kr_workers.specs.declared.files.SettingsFile.{SettingsFile}
use Rattle.kr_workers.specs.declared.worker.Worker.{Worker}
use Rattle.kr_workers.proofs.Sentencing.{histories_tell}
use Rattle.kr_workload.specs.Endings.{ending_of_load}
use Rattle.kr_workload.specs.FullLoads.{AreFull, IsBlankRun, LoadsAreFull}
use Rattle.kr_workload.specs.LoadRuns.{IsLoadRun, opening_rows}
use Rattle.kr_workload.specs.Loads.{load_get_line, lines_of, load_fleet, load_worker, put_of, load_reloads}
use Rattle.kr_workload.specs.Summaries.{Replies, count_gets, objects_of, count_puts}
use Rattle.kr_workload.specs.inner.Refusing.{refuses, some_refuses}
use Rattle.kr_workload.proofs.Draws.{worker_draws}
use Rattle.kr_workload.proofs.Endings.{load_picks, pick}
use Rattle.kr_workload.proofs.FullReplies.{IsElse, IsFullWorker, full_worker}
use Rattle.kr_workload.proofs.LoadHistories.{IsLoadEntry, IsLoads, OpensKeyed, is_not_full, is_not_gone, names_keyed}
use Rattle.kr_workload.proofs.LoadLines.{of_load, opening_keyed}
use Rattle.kr_workload.proofs.LoadReplies.{IsCalm}
use Rattle.kr_workload.proofs.LoadSeats.{entries_owned, mapped_all, none_failed, reloads_lines, run_full, seat_few}
use Rattle.kr_workload.proofs.RunParts.{four_seats, own_there, parted, split_lines}

-- ---- lists

-- what stands at a place
pub record There {X : Type 0} (xs : List X) (i : ℕ) : Type 0 where
  pub x : X
  pub is : slice_get xs i ≡ Some x

there : {X : Type 0} (xs : List X) (i : ℕ) → i < length xs → There xs i
there [] i below = absurd (omega (arith, below))
there (x ∷ xs) i below =
    record { x = get_or (x ∷ xs) i x; is = slice_get-get_or (x ∷ xs) i x below }

record Four {X : Type 0} (xs : List X) : Type 0 where
  a : X
  b : X
  c : X
  d : X
  is : xs ≡ a ∷ (b ∷ (c ∷ (d ∷ [])))

four_of : {X : Type 0} (xs : List X) → length xs ≡ 4 → Four xs
four_of (a ∷ (b ∷ (c ∷ (d ∷ [])))) is = record { a = a; b = b; c = c; d = d; is = refl }
four_of other is = absurd (omega (arith, is))

-- ---- tests

neither : (a b : Bool) → (a || b) ≡ false → (a ≡ false) × (b ≡ false)
neither true b is = absurd (false≢true (sym is))
neither false b is = (refl, is)

none_passes : {X : Type 0} (test : X → Bool) (xs : List X) → list_any test xs ≡ false
    → All (λ x. test x ≡ false) xs
none_passes test [] is = All-nil (λ x. test x ≡ false)
none_passes test (x ∷ xs) is =
    let n = neither (test x) (list_any test xs) is in
    All-cons (λ y. test y ≡ false) x xs n.0 (none_passes test xs n.1)

abbrev of_kind : Ending → Told → Bool
of_kind kind reply = is_same (reply_ending reply) kind

-- of a kind that isn't that of a put, a get or a reload
else_kind : (kind : Ending) → is_same ending.Done kind ≡ false
    → is_same ending.Refused kind ≡ false → IsElse (of_kind kind)
else_kind kind done refused = record {
  put = λ r. done;
  got = λ r p. done;
  reloaded = λ g. done;
  refused = λ v. refused;
}

else_refused : IsElse refuses
else_refused = record {
  put = λ r. refl;
  got = λ r p. refl;
  reloaded = λ g. refl;
  refused = λ v. refl;
}

-- ---- the store's count

rose_since : (a b c : ℕ) → Rose a b → b ≤ c → Rose a c
rose_since a b c (inl r) h = inl (omega (arith, r, h))
rose_since a b c (inr (x, y)) h = elim (eq-or-lt_of_le h) [
  | inl e ↦ inr (x, sym e ∙ y)
  | inr l ↦ inl (omega (arith, x, y, l))
]

counted : (o : Opening) (st : State) (history : List Entry) → IsRun o st history
    → st.count ≤ (state_from st history).count
counted o st [] runs = omega arith
counted o st (e ∷ history) runs =
    let more = counted o (after st e) history runs.1 in
    let one = runs.0.counted in omega (arith, more, one)

-- an entry of a run says that the store failed, so its count rose
store_rose : (o : Opening) (st : State) (front : List Entry) (e : Entry) (rest : List Entry)
    → IsRun o st (front ++ e ∷ rest) → e.line.gave ≡ gave.StoreFailed
    → Rose st.count (state_from st (front ++ e ∷ rest)).count
store_rose o st [] e rest runs says =
    let failed = subst (λ g. Writes g o st e) says runs.0.writes in
    rose_since st.count e.line.faults (state_from (after st e) rest).count failed.3
    (counted o (after st e) rest runs.1)
store_rose o st (first ∷ front) e rest runs says =
    Rose-later st.count first.line.faults
    (state_from (after st first) (front ++ e ∷ rest)).count runs.0.counted
    (store_rose o (after st first) front e rest runs.1 says)

-- ---- a load

zero_in : 0 < 4
zero_in = omega arith

one_in : 1 < 4
one_in = omega arith

two_in : 2 < 4
two_in = omega arith

three_in : 3 < 4
three_in = omega arith

module _ (T : Type 0) {L D : Type 0} (link : L → Link)
    (step : L → Exchange → L → Type 0)
    (left : D → Option (List ℕ)) (count : D → ℕ) (seed size : ℕ) (files : List SettingsFile)
    (history : List Entry) (o : Opening) (parts : List Part) (budgets : List ℕ)
    (old new : List (Worker T L D))
    (r : IsLoadRun link step left count seed size files history o parts budgets old new) where
  pub tells : RepliesAreTrue link step left count files history o parts budgets old new
  tells = histories_tell T link step left count files history o parts budgets old new r.one

  pub four_parts : length parts ≡ 4
  four_parts = sym (length-map parts worker_of) ∙ ap length r.parts_are

  pub four_old : length old ≡ 4
  four_old = r.one.whole ∙ four_parts

  four_new : length new ≡ 4
  four_new = r.one.many ∙ four_old

  pub of_four : All (λ e. seat_of e < 4) history
  of_four = subst (λ n. All (λ e. seat_of e < n) history) four_parts r.one.no_other

  -- ---- one worker

  module _ (worker : ℕ) (few : worker < 4) where
    pub its_part : There parts worker
    its_part = there parts worker (omega (arith, few, four_parts))

    pub was : There old worker
    was = there old worker (omega (arith, few, four_old))

    pub now : There new worker
    now = there new worker (omega (arith, few, four_new))

    pub its_lines : its_part.x.lines.0 ≡ lines_of seed size worker
    its_lines =
        let p = its_part.x in
        let w = worker_of p in
        let below : worker < length parts = omega (arith, few, four_parts) in
        let same : 0 + worker ≡ worker = omega arith in
        let e : worker_of p ≡ load_worker seed size worker =
        ap worker_of (sym (get_or_from_slice_get parts worker p p its_part.is))
        ∙ sym (get_or-map worker_of parts worker p (worker_of p) below)
        ∙ ap (λ ws. get_or ws worker (worker_of p)) r.parts_are
        ∙ get_or-map (load_worker seed size) (range_with_len 0 4) worker 0 (worker_of p) few
        ∙ ap (load_worker seed size) (get_or-range_with_len 0 4 worker 0 few ∙ same) in
        ap (λ (v : fleet_worker). v.lines) e

    pub run_of : TellsRun link step left count files
        (tells.heard worker) o history worker its_part.x
        (first_place o worker (slice_index budgets worker) was.x.bench) now.x.told.0 now.x.bench
    run_of = tells.gets worker its_part.x was.x now.x its_part.is was.is now.is

    owned : All (λ (e : Entry). IsLoads seed size worker e.line.did)
        (of_seat seat_of worker history)
    owned = entries_owned link step left count files history o seed size worker
        (slice_index budgets worker) its_part.x was.x.bench now.x.bench now.x.told.0
        run_of.stands its_lines
        (IsLoads seed size worker) (of_load seed files r.files_are size worker)

    few_there : length (of_seat seat_of worker history) ≤ 3 * (2 * size + 4)
    few_there = seat_few link step left count files history o seed size worker
        (slice_index budgets worker) its_part.x was.x.bench now.x.bench now.x.told.0
        run_of.stands its_lines

  -- what a worker draws is little
  pub draws_few : (number : ℕ) (before after : Worker T L D) → slice_get old number ≡ Some before
      → slice_get new number ≡ Some after
      → TakesAtMost (left before.bench.dice) (left after.bench.dice) (44 * (2 * size + 4))
  draws_few number before after was is =
      let few : number < 4 = omega (arith, slice_get_within new number after is, four_new) in
      let part = its_part number few in
      worker_draws link left count step files history o seed size number
      (slice_index budgets number) part.x before.bench after.bench after.told.0 r.files_are
      (its_lines number few) (tells.gets number part.x before after part.is was is).stands

  -- ---- the history

  all_load : All (IsLoadEntry seed size) history
  all_load =
      let asks = own_there (λ seat e. IsLoads seed size seat e.line.did) history of_four owned in
      λ k d below. record { seat = of_four k d below; asks = asks k d below }

  module _ (b : IsBlankRun link count size history o old new) where
    history_few : length history ≤ 300000
    history_few = omega (
      arith,
      four_seats history of_four,
      few_there 0 (omega arith),
      few_there 1 (omega arith),
      few_there 2 (omega arith),
      few_there 3 (omega arith),
      b.few,
    )

    opens : OpensKeyed seed size b.few o
    opens = record {
      rows = opening_rows seed;
      keyed = opening_keyed seed;
      settings = r.opens;
      blank = b.blank;
      limit = b.limit;
    }

    no_names : (front rest : List Entry) → history ≡ front ++ rest → NamesNoPlugin o front
    no_names front rest is = no_names_no_plugin o front
        (front_law o front rest (subst (IsLegal o) is r.one.legal)) b.bare

    -- ---- each worker's replies

    module _ (worker : ℕ) (few : worker < 4) where
      calm : IsCalm link count history
          (first_place o worker (slice_index budgets worker) (was worker few).x.bench)
          (now worker few).x.bench.dice
      calm = record {
        here = λ front e rest is replica says. is_not_gone seed size b.few o opens history all_load
            r.one.legal.runs history_few front e rest is replica says;
        room = λ front e rest is needed says. is_not_full seed size b.few o opens history all_load
            r.one.legal.runs history_few front e rest is needed says;
        stored = λ front e rest is says. b.stored
            (subst (λ (l : List Entry). Rose o.count (state_of o l).count) (sym is)
            (store_rose o (start_of o) front e rest
            (subst (IsRun o (start_of o)) is r.one.legal.runs) says));
        keyed = λ e c p is. let at = parted history e c in
            names_keyed seed size b.few o opens history all_load r.one.legal.runs history_few
            at.front e at.rest at.is p is;
        bare = b.links worker (was worker few).x (was worker few).is;
        drawn = b.drawn worker (was worker few).x (now worker few).x (was worker few).is
            (now worker few).is;
      }

      quiet : list_any (of_kind ending.Fault) (now worker few).x.told.0 ≡ false
      quiet =
          let t = run_of worker few in
          list_any_none (of_kind ending.Fault) (now worker few).x.told.0
          (none_failed link step left count files history o seed size worker
          (slice_index budgets worker) (its_part worker few).x (was worker few).x.bench
          (now worker few).x.bench (now worker few).x.told.0 t.stands (its_lines worker few) t.tell
          b.few few calm all_load no_names)

      full : list_any (of_kind ending.Memory) (now worker few).x.told.0 ≡ false
          → IsFullWorker seed size worker (now worker few).x.told.0
      full enough =
          let t = run_of worker few in
          let s = t.stands in
          let lines = s.lines_are ∙ its_lines worker few in
          let puts = map (put_of seed size worker) (range_with_len 0 size) in
          let gets = map (load_get_line worker) (range_with_len 0 size) in
          let p = split_lines s.run puts (load_reloads worker ++ gets) lines in
          let q = split_lines p.rest (load_reloads worker) gets p.rest_is in
          let none = mapped_all (λ reply. of_kind ending.Memory reply ≡ false)
          (λ (d : LineDone). d.reply) s.run
          (subst (λ l. All (λ reply. of_kind ending.Memory reply ≡ false) l) s.replies_are
          (none_passes (of_kind ending.Memory) (now worker few).x.told.0 enough)) in
          let all = run_full link step left count files history o seed size worker
          (slice_index budgets worker) (its_part worker few).x (was worker few).x.bench
          (now worker few).x.bench (now worker few).x.told.0 s (its_lines worker few) t.tell
          b.few few calm all_load no_names p q
          (λ done c is. false≢true (sym (All-contains
          (λ (d : LineDone). of_kind ending.Memory d.reply ≡ false) s.run done none c)
          ∙ ap (of_kind ending.Memory) is)) in
          full_worker seed size worker s.run all p q
          (reloads_lines link step left count files history o seed size worker
          (slice_index budgets worker) (its_part worker few).x (was worker few).x.bench
          (now worker few).x.bench (now worker few).x.told.0 s (its_lines worker few) t.tell
          b.few few calm all_load no_names p q) (now worker few).x.told.0 s.replies_are lines

    -- ---- all four

    abbrev told_at : (worker : ℕ) → worker < 4 → List Told × ℕ
    told_at worker few = (now worker few).x.told

    abbrev all_told : Replies
    all_told = map (λ (w : Worker T L D). w.told) new

    at_place : (f : Four new) (worker : ℕ) (few : worker < 4) (w : Worker T L D)
        → slice_get (f.a ∷ (f.b ∷ (f.c ∷ (f.d ∷ [])))) worker ≡ Some w
        → w.told ≡ (now worker few).x.told
    at_place f worker few w is = ap (λ (v : Worker T L D). v.told)
        (same_Some w (now worker few).x
        (sym is ∙ sym (ap (λ l. slice_get l worker) f.is) ∙ (now worker few).is))

    told_are : map (λ (w : Worker T L D). w.told) new ≡ told_at 0 zero_in
        ∷ (told_at 1 one_in ∷ (told_at 2 two_in ∷ (told_at 3 three_in ∷ [])))
    told_are =
        let f = four_of new four_new in
        ap (map (λ (w : Worker T L D). w.told)) f.is
        ∙ (λ i. at_place f 0 zero_in f.a refl i ∷ (at_place f 1 one_in f.b refl i
        ∷ (at_place f 2 two_in f.c refl i ∷ (at_place f 3 three_in f.d refl i ∷ []))))

    some_at : (kind : Ending) → some_is kind all_told
        ≡ (list_any (of_kind kind) (told_at 0 zero_in).0
        || (list_any (of_kind kind) (told_at 1 one_in).0
        || (list_any (of_kind kind) (told_at 2 two_in).0
        || (list_any (of_kind kind) (told_at 3 three_in).0 || false))))
    some_at kind = ap (some_is kind) told_are

    none_at : (kind : Ending)
        → list_any (of_kind kind) (told_at 0 zero_in).0 ≡ false
        → list_any (of_kind kind) (told_at 1 one_in).0 ≡ false
        → list_any (of_kind kind) (told_at 2 two_in).0 ≡ false
        → list_any (of_kind kind) (told_at 3 three_in).0 ≡ false
        → some_is kind all_told ≡ false
    none_at kind a b c d = some_at kind ∙ (λ i. a i || (b i || (c i || (d i || false))))

    no_faults : some_is ending.Fault all_told ≡ false
    no_faults = none_at ending.Fault (quiet 0 zero_in) (quiet 1 one_in) (quiet 2 two_in)
        (quiet 3 three_in)

    -- memory lacked for none
    module _ (enough : some_is ending.Memory all_told ≡ false) where
      tests : (list_any (of_kind ending.Memory) (told_at 0 zero_in).0
          || (list_any (of_kind ending.Memory) (told_at 1 one_in).0
          || (list_any (of_kind ending.Memory) (told_at 2 two_in).0
          || (list_any (of_kind ending.Memory) (told_at 3 three_in).0 || false)))) ≡ false
      tests = sym (some_at ending.Memory) ∙ enough

      first_test : (list_any (of_kind ending.Memory) (told_at 0 zero_in).0 ≡ false)
          × ((list_any (of_kind ending.Memory) (told_at 1 one_in).0
          || (list_any (of_kind ending.Memory) (told_at 2 two_in).0
          || (list_any (of_kind ending.Memory) (told_at 3 three_in).0 || false))) ≡ false)
      first_test = neither _ _ tests

      second_test : (list_any (of_kind ending.Memory) (told_at 1 one_in).0 ≡ false)
          × ((list_any (of_kind ending.Memory) (told_at 2 two_in).0
          || (list_any (of_kind ending.Memory) (told_at 3 three_in).0 || false)) ≡ false)
      second_test = neither _ _ first_test.1

      third_test : (list_any (of_kind ending.Memory) (told_at 2 two_in).0 ≡ false)
          × ((list_any (of_kind ending.Memory) (told_at 3 three_in).0 || false) ≡ false)
      third_test = neither _ _ second_test.1

      w0 : IsFullWorker seed size 0 (told_at 0 zero_in).0
      w0 = full 0 zero_in first_test.0

      w1 : IsFullWorker seed size 1 (told_at 1 one_in).0
      w1 = full 1 one_in second_test.0

      w2 : IsFullWorker seed size 2 (told_at 2 two_in).0
      w2 = full 2 two_in third_test.0

      w3 : IsFullWorker seed size 3 (told_at 3 three_in).0
      w3 = full 3 three_in (neither _ _ third_test.1).0

      none_of : (kind : Ending) → IsElse (of_kind kind) → some_is kind all_told ≡ false
      none_of kind e = none_at kind (w0.quiet (of_kind kind) e) (w1.quiet (of_kind kind) e)
          (w2.quiet (of_kind kind) e) (w3.quiet (of_kind kind) e)

      none_refuse : some_refuses all_told ≡ false
      none_refuse = ap some_refuses told_are ∙ (λ i. w0.quiet refuses else_refused i
          || (w1.quiet refuses else_refused i || (w2.quiet refuses else_refused i
          || (w3.quiet refuses else_refused i || false))))

      all_full : AreFull seed size all_told
      all_full = record {
        ended = load_picks all_told ∙ (λ i. pick (no_faults i) (enough i)
            (none_of ending.Full (else_kind ending.Full refl refl) i)
            (none_of ending.Unhealthy (else_kind ending.Unhealthy refl refl) i)
            (none_refuse i));
        puts = (let e = ap count_puts told_are in
            omega (arith, e, w0.puts, w1.puts, w2.puts, w3.puts));
        gets = (let e = ap count_gets told_are in
            omega (arith, e, w0.gets, w1.gets, w2.gets, w3.gets));
        objects = ap (objects_of (load_fleet seed size).workers) told_are
            ∙ (λ i. w0.objects i ++ (w1.objects i ++ (w2.objects i ++ (w3.objects i ++ []))));
      }

    by_memory : (b : Bool) → some_is ending.Memory all_told ≡ b
        → (ending_of_load all_told ≡ ending.Memory) ⊎ AreFull seed size all_told
    by_memory true lacks = inl (load_picks all_told ∙ (λ i. pick (no_faults i) (lacks i)
        (some_is ending.Full all_told) (some_is ending.Unhealthy all_told)
        (some_refuses all_told)))
    by_memory false enough = inr (all_full enough)

    pub load_is_full : (ending_of_load (map (λ (w : Worker T L D). w.told) new) ≡ ending.Memory)
        ⊎ AreFull seed size (map (λ (w : Worker T L D). w.told) new)
    load_is_full = by_memory (some_is ending.Memory all_told) refl

pub loads_are_full : (T : Type 0) → {L D : Type 0} → (link : L → Link)
    (step : L → Exchange → L → Type 0)
    (left : D → Option (List ℕ)) (count : D → ℕ) → LoadsAreFull T link step left count
loads_are_full T link step left count seed size files history o parts budgets old new r b =
    load_is_full T link step left count seed size files history o parts budgets old new r b
