-- The workers' runs, put together to one history.
use Rattle.std.specs.Prelude.{All, Contains, IsSome, is_some, slice_index, slice_index_or}
use Rattle.std.proofs.lemmas.Bool.{false≢true}
use Rattle.std.proofs.Common.{◌≡◌, ℕ, zero, suc, ◌<◌, ◌≤◌, ◌+◌, true, List, [], ◌∷◌, ◌++◌, length, map, get_or, Option, None, Some, Result, Ok, Err, refl, ap, sym, subst, ◌∙◌, arith}
use Rattle.std.specs.List.{slice_get}
use Rattle.std.proofs.lemmas.List.{get_or-map, length-append, length-map}
use Rattle.std.proofs.lemmas.List.Elements.{All-contains, All-map}
use Rattle.std.proofs.lemmas.List.FromFn.{get_or-range_with_len, length-range_with_len}
use Rattle.std.proofs.lemmas.Option.{same_Some, slice_get-get_or}
use Rattle.kr_base.specs.Lines.{of_seat, Stands}
use Rattle.kr_base.specs.Walks.{Walk}
use Rattle.kr_base.specs.declared.errors.Spent.{Spent}
use Rattle.kr_kms.specs.Calls.{Link}
use Rattle.kr_kms.specs.Exchanges.{Exchange}
use Rattle.kr_kms.specs.Opens.{Opens}
use Rattle.kr_provider.specs.AskedLinks.{AskedOnly}
use Rattle.kr_provider.specs.BenchKeys.{adoption_of}
use Rattle.kr_provider.specs.BenchState.{BenchState}
use Rattle.kr_provider.specs.Names.{names_of}
use Rattle.kr_store.specs.declared.rows.LogRow.{LogRow}
use Rattle.kr_store.specs.declared.rows.Row.{Row}
use Rattle.kr_store.specs.Stores.{IsListing}
use Rattle.kr_rollout.specs.declared.line.Did.{Did}
use Rattle.kr_rollout.specs.declared.line.Did.TheVariants as did
use Rattle.kr_rollout.specs.declared.opening.Entry.{Entry}
use Rattle.kr_rollout.specs.declared.opening.Opening.{Opening}
use Rattle.kr_history.specs.Acting.{Caller}
use Rattle.kr_rollout.specs.Callers.{holding, reloads_in}
use Rattle.kr_history.specs.Calls.{AreServed}
use Rattle.kr_rollout.specs.Entries.{seat_of}
use Rattle.kr_rollout.specs.Histories.{IsLegal}
use Rattle.kr_history.specs.Honesty.{KeepsHonest}
use Rattle.kr_history.specs.KeyMoments.{Happens}
use Rattle.kr_history.specs.Parts.{written_puts}
use Rattle.kr_script.specs.declared.script.Part.{Part}
use Rattle.kr_script.specs.declared.told.Told.{Told}
use Rattle.kr_fleet.specs.Fleets.{AreAdded, IsFleetSeat, caller_of}
use Rattle.kr_fleet.specs.declared.shared_core.SharedCore.{SharedCore}
use Rattle.kr_turn.specs.Keys.{Home}
use Rattle.kr_turn.specs.Seats.{AreAll, AreFresh, IsFresh, left_of, mine, number_of, lines_seen}
use Rattle.kr_turn.specs.declared.seat.Place.{Place}
use Rattle.kr_turn.specs.declared.view.Terms.{Terms}
use Rattle.kr_workers.specs.declared.files.SettingsFile.{SettingsFile}
use Rattle.kr_workers.specs.declared.worker.Worker.{Worker}
use Rattle.kr_workers.specs.Budgets.{AreBudgets, all_reloads, budget_of, script_budgets, put_lines, reloads_of}
use Rattle.kr_workers.specs.Histories.{IsOneHistory, StandsIn, first_place}
use Rattle.kr_workers.specs.LineMoments.{run_moments}
use Rattle.kr_workers.specs.Runs.{DoesAll, entries_in}
use Rattle.kr_workers.specs.inner.WholeRuns.{AreReady, Runs}
use Rattle.kr_workers.specs.ScriptLines.{MayDo, Workplace}
use Rattle.kr_workers.specs.inner.Serving.{place_of}
use Rattle.kr_workers.specs.Workers.{MayBegin}
use Rattle.kr_workers.specs.inner.SeatedWorkers.{HasWorked, IsReadyWorker, with_seats, without_seat}
use Rattle.kr_workers.proofs.Budgeting.{none_cut}
use Rattle.kr_workers.proofs.Living.{LivesIn, all_counted, all_put, known_paths, lives_in, parts_added, put_by_entry, put_in_part, puts_with_entry, runs_put}
use mathlib.Core.List.{IsPrefix}

-- what stands at a place
part_at : (parts : List Part) (i : ℕ) (d part : Part) → slice_get parts i ≡ Some part
    → get_or parts i d ≡ part
part_at [] i d part is = absurd (false≢true (ap is_some is))
part_at (x ∷ parts) zero d part is = same_Some x part is
part_at (x ∷ parts) (suc i) d part is = part_at parts i d part is

-- ---- a fresh seat

-- a seat that saw nothing keeps that honest
pub fresh_keeps : (opens : Opens) (o : Opening) (seat : ℕ) (seen : List Entry) → seen ≡ []
    → KeepsHonest opens o seat seen
fresh_keeps opens o seat seen none = λ front e rest is own honest.
    absurd (no_parts front e rest (sym is ∙ none))
  where
    no_parts : (front : List Entry) (e : Entry) (rest : List Entry) → front ++ e ∷ rest ≡ [] → ⊥
    no_parts [] e rest is = absurd (omega (arith, ap length is))
    no_parts (x ∷ front) e rest is = absurd (omega (arith, ap length is))

module _ {S L D : Type 0} where
  -- it is a worker's first place
  pub fresh_place : (home : Home Opening) (o : Opening) (i budget : ℕ)
      (seat : Place S Entry Opening) (bench : BenchState L D) → home.terms.basis ≡ o
      → number_of seat ≡ i → lines_seen seat ≡ [] → mine seat ≡ [] → left_of seat ≡ budget
      → place_of (caller_of home seat) bench ≡ first_place o i budget bench
  fresh_place home o i budget seat bench basis number none_seen none_mine left = λ k. record {
    caller = record {
      opening = basis k;
      seat = number k;
      seen = none_seen k;
      mine = none_mine k;
      left = left k;
    };
    links = bench.links;
    dice = bench.dice;
    cache = bench.cache;
  }

-- ---- a run in the history

module _ {L D : Type 0} (link : L → Link) (step : L → Exchange → L → Type 0) (left : D → Option (List ℕ))
    (count : D → ℕ) (files : List SettingsFile) (history : List Entry) where
  -- a run stands in the history, and this happened to the keys meanwhile
  pub record StandsMoved (part : Part) (first : Workplace L D) (bench : BenchState L D)
      (replies : List Told) (after : BenchState L D) : Type 0 where
    pub stands : StandsIn link step left count files history part first replies after
    pub keys : Walk Happens (adoption_of bench) (run_moments stands.run) (adoption_of after)

  -- so does a run from the first place that wasn't cut short
  pub run_stands : (part : Part) (first : Workplace L D) (old new : Caller)
      (bench after : BenchState L D) (replies : List Told)
      → Runs link step left count files part.replica part.lines.0 old bench replies (Ok tt) new
      after → place_of old bench ≡ first → old.mine ≡ []
      → Stands seat_of history new.seat new.seen new.mine → new.seat ≡ first.caller.seat
      → StandsMoved part first bench replies after
  run_stands part first old new bench after replies runs from none stands seat =
      let last : place_of new after ≡ runs.middle = runs.ends.1 in
      let added = parts_added link step left count files part.replica (place_of old bench) runs.run
      runs.middle runs.does in
      record {
        stands = record {
          run = runs.run;
          lines_are = runs.ends.0;
          replies_are = runs.replies_are;
          last = runs.middle;
          does = subst (λ (w : Workplace L D). DoesAll link step left count files part.replica w
              runs.run runs.middle) from runs.does;
          links_are = ap (λ (w : Workplace L D). w.links) last;
          dice_are = ap (λ (w : Workplace L D). w.dice) last;
          cache_is = ap (λ (w : Workplace L D). w.cache) last;
          front = subst (λ (w : Workplace L D). IsPrefix w.caller.seen history) last stands.front;
          parts_are = sym (subst (λ l. l ≡ entries_in runs.run)
              (sym (ap (λ (w : Workplace L D). w.caller.mine) last)
              ∙ sym stands.whole ∙ ap (λ n. of_seat seat_of n history) seat)
              (added ∙ ap (λ l. l ++ entries_in runs.run) none));
          asked_only = subst (λ (w : Workplace L D). AskedOnly link (names_of link w.links) w.links
              runs.middle.links) from (subst (λ (w : Workplace L D). AskedOnly link
              (names_of link bench.links) bench.links w.links) last runs.asked_only);
          later = subst (λ (w : Workplace L D). count w.dice ≤ count runs.middle.dice) from
              (subst (λ (w : Workplace L D). count bench.dice ≤ count w.dice) last runs.later);
        };
        keys = runs.keys;
      }

-- ---- lists of workers and of seats

-- the element at a place
pub at_of : {X : Type 0} (xs : List X) (k : ℕ) → k < length xs → X
at_of [] k l = absurd (omega (arith, l))
at_of (x ∷ xs) zero l = x
at_of (x ∷ xs) (suc k) l = at_of xs k (omega (arith, l))

module _ {T L D : Type 0} where
  pub seated_long : (seats : List (Place (SharedCore T) Entry Opening))
      (workers : List (Worker T L D)) → length seats ≡ length workers
      → length (with_seats seats workers) ≡ length workers
  seated_long [] workers e = refl
  seated_long (seat ∷ seats) [] e = absurd (omega (arith, e))
  seated_long (seat ∷ seats) (worker ∷ workers) e =
      ap suc (seated_long seats workers (omega (arith, e)))

  pub seated_at : (seats : List (Place (SharedCore T) Entry Opening))
      (workers : List (Worker T L D)) (k : ℕ) (s : Place (SharedCore T) Entry Opening)
      (d : Worker T L D) → length seats ≡ length workers → k < length workers
      → get_or (with_seats seats workers) k d
      ≡ record (get_or workers k d) { seat = Some (get_or seats k s) }
  seated_at [] (worker ∷ workers) k s d e l = absurd (omega (arith, e))
  seated_at (seat ∷ seats) (worker ∷ workers) zero s d e l = refl
  seated_at (seat ∷ seats) (worker ∷ workers) (suc k) s d e l =
      seated_at seats workers k s d (omega (arith, e)) (omega (arith, l))
  seated_at other [] k s d e l = absurd (omega (arith, l))

-- ---- before the workers begin

module _ {S : Type 0} (home : Home Opening) (count : ℕ)
    (seats : List (Place S Entry Opening)) (fresh : AreFresh home count seats) where
  pub seats_long : length seats ≡ count
  seats_long = sym (length-map seats number_of) ∙ ap length fresh.numbers
      ∙ length-range_with_len 0 count

  -- the seat of each number
  pub number_at : (i : ℕ) (d : Place S Entry Opening) → i < count
      → number_of (get_or seats i d) ≡ i
  number_at i d l =
      let long = seats_long in
      let inside : i < length seats = omega (arith, l, long) in
      sym (get_or-map number_of seats i d 0 inside)
      ∙ ap (λ ns. get_or ns i 0) fresh.numbers
      ∙ get_or-range_with_len 0 count i 0 l ∙ (let e : 0 + i ≡ i = omega arith in e)

  pub fresh_at : (i : ℕ) (d : Place S Entry Opening) → i < count
      → IsFresh home (get_or seats i d)
  fresh_at i d l =
      let long = seats_long in fresh.each i d (omega (arith, l, long))

module _ {T L D : Type 0} (link : L → Link) (names : List (List ℕ)) (parts : List Part)
    (workers : List (Worker T L D)) (many : length workers ≡ length parts)
    (begin : (i : ℕ) (part : Part) (worker : Worker T L D) → i < length parts
    → MayBegin link names (slice_index_or parts i part) (slice_index_or workers i worker)) where
  -- none has a seat yet
  pub none_yet : All (λ (w : Worker T L D). w.seat ≡ None) workers
  none_yet k d l =
      let in_parts : k < length parts = omega (arith, l, many) in
      (begin k (at_of parts k in_parts) d in_parts).no_seat

module _ {T L D : Type 0} (link : L → Link) (files : List SettingsFile) (parts : List Part)
    (home : Home Opening) (o : Opening)
    (seats : List (Place (SharedCore T) Entry Opening)) (workers : List (Worker T L D))
    (basis : home.terms.basis ≡ o) (fresh : AreFresh home (length parts) seats)
    (many : length workers ≡ length parts)
    (theirs : All (IsFleetSeat home) seats)
    (lines : All (λ (part : Part). (part.replica < length o.replicas)
    × All (MayDo o files) part.lines.0) parts)
    (begin : (i : ℕ) (part : Part) (worker : Worker T L D) → i < length parts
    → MayBegin link o.names (slice_index_or parts i part) (slice_index_or workers i worker))
    (reloads : o.reloads ≡ all_reloads parts) where
  pub as_many : length seats ≡ length workers
  as_many = seats_long home (length parts) seats fresh ∙ sym many

  ready_at : (k : ℕ) (part : Part) (worker : Worker T L D)
      (seat : Place (SharedCore T) Entry Opening) → k < length parts
      → IsFresh home seat → number_of seat ≡ k
      → AreReady link files (get_or parts k part).replica (get_or parts k part).lines.0
      (caller_of home seat) (get_or workers k worker).bench
  ready_at k part worker seat l is number =
      let here = get_or parts k part in
      let may = lines k part l in
      let start = begin k part worker l in
      let brought : get_or o.reloads k 0 ≡ reloads_of here.lines.0 =
      ap (λ ns. get_or ns k 0) reloads
      ∙ get_or-map (λ (p : Part). reloads_of p.lines.0) parts k part 0 l in
      let none : reloads_in (mine seat) ≡ 0 = ap reloads_in is.none_mine in
      let room : reloads_of here.lines.0 ≡ get_or home.terms.basis.reloads (number_of seat) 0 =
      sym brought ∙ (λ i. get_or (sym basis i).reloads (sym number i) 0) in
      record {
        may = subst (λ (p : Opening). All (MayDo p files) here.lines.0) (sym basis) may.1;
        there = subst (λ (p : Opening). here.replica < length p.replicas) (sym basis) may.0;
        idle = ap holding is.none_mine;
        room = omega (arith, none, room);
        links = subst (λ (p : Opening). AreServed p.names
            (names_of link (get_or workers k worker).bench.links)) (sym basis) start.links;
        pages = start.pages;
      }

  pub some_seated : 1 ≤ length parts → 0 < length (with_seats seats workers)
  some_seated some = let long = seated_long seats workers as_many in
      omega (arith, some, long, many)

  -- each worker with its seat is ready
  pub all_ready : All (IsReadyWorker home files parts link) (with_seats seats workers)
  all_ready k d l =
      let long = seated_long seats workers as_many in
      let inside : k < length workers = omega (arith, l, long) in
      let in_parts : k < length parts = omega (arith, inside, many) in
      let in_seats : k < length seats = (let e = as_many in omega (arith, inside, e)) in
      let s = at_of seats k in_seats in
      let part = at_of parts k in_parts in
      let seat = get_or seats k s in
      let number = number_at home (length parts) seats fresh k s in_parts in
      let start = begin k part d in_parts in
      subst (λ (w : Worker T L D). IsReadyWorker home files parts link w)
      (sym (seated_at seats workers k s d as_many inside)) (record {
        seat = seat;
        seat_is = refl;
        its = theirs k s in_seats;
        part = get_or parts k part;
        part_is = ap (slice_get parts) number ∙ slice_get-get_or parts k part in_parts;
        ready = ready_at k part d seat in_parts
            (fresh_at home (length parts) seats fresh k s in_parts) number;
        none_told = start.none_told;
        room = start.room;
      })

-- ---- after they have worked

-- each has its seat again
pub done_seated : {T L D : Type 0} (link : L → Link) (step : L → Exchange → L → Type 0) (left : D → Option (List ℕ))
    (count : D → ℕ) (files : List SettingsFile) (parts : List Part) (home : Home Opening)
    (sitting done : List (Worker T L D)) → length done ≡ length sitting
    → ((i : ℕ) (d : Worker T L D) → i < length sitting
    → HasWorked home files parts link step left count (slice_index_or sitting i d)
    (slice_index_or done i d))
    → All (λ (w : Worker T L D). IsSome w.seat) done
done_seated link step left count files parts home sitting done long worked = λ k d l.
    let h = worked k d (omega (arith, l, long)) in
    subst (λ s. IsSome s) (sym h.after_is) refl

pub budgets_many : (rows : List LogRow) (parts : List Part) (budgets : List ℕ)
    → AreBudgets rows parts budgets → length budgets ≡ length parts
budgets_many rows parts budgets are = ap length are.2
    ∙ length-map parts (λ (p : Part). budget_of (are.0 + put_lines parts) p.lines.0)

-- so a fresh seat is there for each part
pub fresh_all : {T : Type 0} → (home : Home Opening) (rows : List LogRow) (parts : List Part)
    (budgets : List ℕ) (seats : List (Place (SharedCore T) Entry Opening))
    → AreBudgets rows parts budgets → AreFresh home (length budgets) seats
    → AreFresh home (length parts) seats
fresh_all home rows parts budgets seats are fresh =
    subst (λ n. AreFresh home n seats) (budgets_many rows parts budgets are) fresh

module _ {T L D : Type 0} (link : L → Link) (step : L → Exchange → L → Type 0) (left : D → Option (List ℕ))
    (count : D → ℕ) (files : List SettingsFile) (parts : List Part) (home : Home Opening)
    (o : Opening) (budgets : List ℕ) (seats : List (Place (SharedCore T) Entry Opening))
    (workers done : List (Worker T L D)) (back : List (Place (SharedCore T) Entry Opening)) where
  -- each worker with its seat has worked, and the seats were taken back
  pub record HaveWorked : Type 0 where
    pub basis : home.terms.basis ≡ o
    pub shares : home.terms.budgets ≡ budgets
    pub as_many : length budgets ≡ length parts
    pub fresh : AreFresh home (length parts) seats
    pub many : length workers ≡ length parts
    pub long : length done ≡ length (with_seats seats workers)
    pub worked : (i : ℕ) (d : Worker T L D) → i < length (with_seats seats workers)
        → HasWorked home files parts link step left count
        (slice_index_or (with_seats seats workers) i d) (slice_index_or done i d)
    pub back_are : map Some back ≡ map (λ (w : Worker T L D). w.seat) done

  pub have_worked : (rows : List LogRow) (room : ℕ) (sitting : List (Worker T L D))
      → home.terms ≡ record { basis = o; room = room; budgets = budgets }
      → AreBudgets rows parts budgets → AreFresh home (length budgets) seats
      → length workers ≡ length parts → sitting ≡ with_seats seats workers
      → length done ≡ length sitting
      → ((i : ℕ) (d : Worker T L D) → i < length sitting
      → HasWorked home files parts link step left count (slice_index_or sitting i d)
      (slice_index_or done i d))
      → map Some back ≡ map (λ (w : Worker T L D). w.seat) done → HaveWorked
  have_worked rows room sitting terms are fresh many is long worked back_are = record {
    basis = ap (λ (t : Terms Opening). t.basis) terms;
    shares = ap (λ (t : Terms Opening). t.budgets) terms;
    as_many = budgets_many rows parts budgets are;
    fresh = fresh_all home rows parts budgets seats are fresh;
    many = many;
    long = long ∙ ap length is;
    worked = subst (λ ws. (i : ℕ) (d : Worker T L D) → i < length ws
        → HasWorked home files parts link step left count (slice_index_or ws i d)
        (slice_index_or done i d)) is worked;
    back_are = back_are;
  }

module _ {T L D : Type 0} (link : L → Link) (step : L → Exchange → L → Type 0) (left : D → Option (List ℕ))
    (count : D → ℕ) (files : List SettingsFile) (parts : List Part) (home : Home Opening)
    (o : Opening) (budgets : List ℕ) (seats : List (Place (SharedCore T) Entry Opening))
    (workers done : List (Worker T L D)) (back : List (Place (SharedCore T) Entry Opening))
    (all : HaveWorked link step left count files parts home o budgets seats workers done back)
  where
    these_long : length (with_seats seats workers) ≡ length parts
    these_long = seated_long seats workers
        (seats_long home (length parts) seats all.fresh ∙ sym all.many) ∙ all.many

    done_long : length done ≡ length parts
    done_long = all.long ∙ these_long

    back_long : length back ≡ length parts
    back_long = sym (length-map back Some) ∙ ap length all.back_are
        ∙ length-map done (λ (w : Worker T L D). w.seat) ∙ done_long

    -- a worker with its number
    record WorkedAt (k : ℕ) (d : Worker T L D) : Type 0 where
      bench : (get_or (with_seats seats workers) k d).bench ≡ (get_or workers k d).bench
      has : HasWorked home files parts link step left count (get_or (with_seats seats workers) k d)
          (get_or done k d)
      number : number_of has.before ≡ k
      fresh : IsFresh home has.before
      left_is : left_of has.before ≡ slice_index budgets k

    worked_at : (k : ℕ) (d : Worker T L D) → k < length parts → WorkedAt k d
    worked_at k d l =
        let long = these_long in
        let seats_are = seats_long home (length parts) seats all.fresh in
        let in_seats : k < length seats = omega (arith, l, seats_are) in
        let s = at_of seats k in_seats in
        let here = seated_at seats workers k s d (seats_are ∙ sym all.many)
        (let m = all.many in omega (arith, l, m)) in
        let h = all.worked k d (omega (arith, l, long)) in
        let same : h.before ≡ get_or seats k s = same_Some h.before (get_or seats k s)
        (sym h.before_is ∙ ap (λ (w : Worker T L D). w.seat) here) in
        let its = subst (λ (p : Place (SharedCore T) Entry Opening). IsFresh home p) (sym same)
        (fresh_at home (length parts) seats all.fresh k s l) in
        let number : number_of h.before ≡ k =
        ap number_of same ∙ number_at home (length parts) seats all.fresh k s l in
        record {
          bench = ap (λ (w : Worker T L D). w.bench) here;
          has = h;
          number = number;
          fresh = its;
          left_is = its.left ∙ (λ i. slice_index (all.shares i) (number i));
        }

    -- the seat that came back at a place is that of the worker there
    back_at : (k : ℕ) (s : Place (SharedCore T) Entry Opening) (d : Worker T L D)
        → k < length parts → (w : WorkedAt k d) → w.has.after ≡ get_or back k s
    back_at k s d l w =
        let back_is = back_long in
        let done_is = done_long in
        same_Some w.has.after (get_or back k s) (sym w.has.after_is
        ∙ sym (get_or-map (λ (v : Worker T L D). v.seat) done k d None (omega (arith, l, done_is)))
        ∙ ap (λ xs. get_or xs k None) (sym all.back_are)
        ∙ get_or-map Some back k s None (omega (arith, l, back_is)))

    worker_at : (k : ℕ) → k < length parts → Worker T L D
    worker_at k l = let done_is = done_long in at_of done k (omega (arith, l, done_is))

    -- what a seat that came back at a place is
    record IsBack (seat : Place (SharedCore T) Entry Opening) (k : ℕ) : Type 0 where
      below : k < length parts
      worker : Worker T L D
      at : WorkedAt k worker
      is : at.has.after ≡ seat

    is_back : (seat : Place (SharedCore T) Entry Opening) (k : ℕ) → k < length back
        → (s : Place (SharedCore T) Entry Opening) → get_or back k s ≡ seat → IsBack seat k
    is_back seat k l s e =
        let back_is = back_long in
        let below : k < length parts = omega (arith, l, back_is) in
        let worker = worker_at k below in
        let at = worked_at k worker below in
        record {
          below = below;
          worker = worker;
          at = at;
          is = back_at k s worker below at ∙ e;
        }

    back_number : (seat : Place (SharedCore T) Entry Opening) (k : ℕ) → IsBack seat k
        → number_of seat ≡ k
    back_number seat k b = ap number_of (sym b.is) ∙ b.at.has.same ∙ b.at.number

    pub back_its : All (IsFleetSeat home) back
    back_its k s l =
        let b = is_back (get_or back k s) k l s refl in
        subst (λ (p : Place (SharedCore T) Entry Opening). IsFleetSeat home p) b.is b.at.has.its

    -- all came back
    pub back_all : AreAll home back
    back_all = record {
      its = λ k s l. (back_its k s l).its;
      all = λ number l.
          let back_is = back_long in
          let e = ap length all.shares in
          let m = all.as_many in
          let below : number < length parts = omega (arith, l, e, m) in
          let inside : number < length back = omega (arith, below, back_is) in
          let s = at_of back number inside in
          let map_is = length-map back (number_of {S = SharedCore T} {L = Entry} {G = Opening}) in
          let b = is_back (get_or back number s) number inside s refl in (
            number,
            omega (arith, inside, map_is),
            get_or-map number_of back number s number inside
                ∙ back_number (get_or back number s) number b,
          );
    }

    module _ (history : List Entry) (legal : IsLegal o history)
        (stand : All (λ (seat : Place (SharedCore T) Entry Opening).
        Stands seat_of history (number_of seat) (lines_seen seat) (mine seat)) back)
        (added : AreAdded back history) where
      pub no_other : All (λ e. seat_of e < length parts) history
      no_other k e l =
          let a = added k e l in
          let b = is_back a.0 a.1.0 a.1.1 a.0 a.1.2 in
          let number = back_number a.0 a.1.0 b in
          let below = b.below in
          let seat_is = a.2 in omega (arith, number, below, seat_is)

      -- a Put that was written is one of the lines'
      put_known : (path resource plain : List ℕ)
          → Contains (written_puts history) (did.Put path resource plain)
          → Contains (all_put parts) path
      put_known path resource plain c =
          let d : Did = did.Put path resource plain in
          let p = put_by_entry history d c in
          let a = All-contains (λ e. (seat : Place (SharedCore T) Entry Opening) × Contains back
          seat
          × (number_of seat ≡ seat_of e) × Contains (mine seat) e) history p.entry added p.there in
          let b = is_back a.0 a.1.0 a.1.1 a.0 a.1.2 in
          let h = b.at.has in
          let own = puts_with_entry (mine a.0) p.entry d a.3 p.puts in
          put_in_part parts (number_of h.before) h.part path h.part_is
          (runs_put path resource plain link step left count files h.part.replica h.part.lines.0
          (caller_of home h.before) (get_or (with_seats seats workers) a.1.0 b.worker).bench
          (get_or done a.1.0 b.worker).told.0 (caller_of home h.after)
          (get_or done a.1.0 b.worker).bench b.at.fresh.none_mine
          (get_or done a.1.0 b.worker).ended h.runs
          (subst (λ (s : Place (SharedCore T) Entry Opening). Contains (written_puts (mine s)) d)
          (sym b.is) own))

      module _ (listing : List Row) (lists : IsListing o.rows listing)
          (budgets_are : budgets ≡ script_budgets (length listing + put_lines parts) parts) where
        abbrev paths : List (List ℕ)
        paths = known_paths listing (all_put parts)

        lives : LivesIn o history paths
        lives = lives_in o history listing (all_put parts) legal lists put_known

        paths_long : length paths ≡ length listing + put_lines parts
        paths_long =
            let e = length-append (map (λ (row : Row). row.path) listing) (all_put parts) in
            let f = length-map listing (λ (row : Row). row.path) in
            let g = all_counted parts in omega (arith, e, f, g)

        -- a worker stands in the history with what it did
        worker_stands : (i : ℕ) (part : Part) (d : Worker T L D) → i < length parts
            → StandsMoved link step left count files history (get_or parts i part)
            (first_place o i (slice_index budgets i) (get_or workers i d).bench)
            (get_or workers i d).bench (get_or done i d).told.0 (get_or done i d).bench
        worker_stands i part d l =
            let w = worked_at i d l in
            let h = w.has in
            let back_is = back_long in
            let inside : i < length back = omega (arith, l, back_is) in
            let s = at_of back i inside in
            let stands = subst (λ (p : Place (SharedCore T) Entry Opening).
            Stands seat_of history (number_of p) (lines_seen p) (mine p)) (sym (back_at i s d l w))
            (stand i s inside) in
            let there : get_or parts i part ≡ h.part = part_at parts i part h.part
            (ap (slice_get parts) (sym w.number) ∙ h.part_is) in
            let from : place_of (caller_of home h.before) (get_or (with_seats seats workers) i d).bench
            ≡ first_place o i (slice_index budgets i) (get_or workers i d).bench =
            fresh_place home o i (slice_index budgets i) h.before
            (get_or (with_seats seats workers) i d).bench all.basis w.number w.fresh.none_seen
            w.fresh.none_mine w.left_is
            ∙ ap (first_place o i (slice_index budgets i)) w.bench in
            subst (λ p. StandsMoved link step left count files history p
            (first_place o i (slice_index budgets i) (get_or workers i d).bench)
            (get_or workers i d).bench (get_or done i d).told.0 (get_or done i d).bench) (sym there)
            (subst (λ b. StandsMoved link step left count files history h.part
            (first_place o i (slice_index budgets i) (get_or workers i d).bench) b
            (get_or done i d).told.0 (get_or done i d).bench) w.bench
            (ended i d h w.fresh w.number from stands (budget_at i part h.part l there)
            (get_or done i d).ended h.runs))
          where
            budget_at : (i : ℕ) (part there : Part) → i < length parts
                → get_or parts i part ≡ there
                → budget_of (length paths) there.lines.0 ≤ slice_index budgets i
            budget_at i part there l is =
                let e : slice_index budgets i
                ≡ budget_of (length listing + put_lines parts) there.lines.0 =
                ap (λ bs. slice_index bs i) budgets_are
                ∙ get_or-map (λ (p : Part). budget_of (length listing + put_lines parts) p.lines.0)
                parts i part 0 l
                ∙ ap (λ (p : Part). budget_of (length listing + put_lines parts) p.lines.0) is in
                let f = ap (λ n. budget_of n there.lines.0) paths_long in
                omega (arith, e, f)

            ended : (i : ℕ) (d : Worker T L D) (h : HasWorked home files parts link step left count
                (get_or (with_seats seats workers) i d) (get_or done i d))
                → IsFresh home h.before → number_of h.before ≡ i
                → place_of (caller_of home h.before) (get_or (with_seats seats workers) i d).bench
                ≡ first_place o i (slice_index budgets i) (get_or workers i d).bench
                → Stands seat_of history (number_of h.after) (lines_seen h.after) (mine h.after)
                → budget_of (length paths) h.part.lines.0 ≤ slice_index budgets i
                → (end : Result (Unit {0}) Spent)
                → Runs link step left count files h.part.replica h.part.lines.0
                (caller_of home h.before) (get_or (with_seats seats workers) i d).bench
                (get_or done i d).told.0 end (caller_of home h.after) (get_or done i d).bench
                → StandsMoved link step left count files history h.part
                (first_place o i (slice_index budgets i) (get_or workers i d).bench)
                (get_or (with_seats seats workers) i d).bench (get_or done i d).told.0
                (get_or done i d).bench
            ended i d h fresh number from stands fits (Ok ok) runs =
                run_stands link step left count files history h.part
                (first_place o i (slice_index budgets i) (get_or workers i d).bench)
                (caller_of home h.before) (caller_of home h.after)
                (get_or (with_seats seats workers) i d).bench (get_or done i d).bench
                (get_or done i d).told.0 runs from fresh.none_mine stands (h.same ∙ number)
            ended i d h fresh number from stands fits (Err spent) runs =
                absurd (none_cut link step left count files h.part.replica paths o history lives
                h.part.lines.0
                (first_place o i (slice_index budgets i) (get_or workers i d).bench) runs.middle
                (place_of (caller_of home h.after) (get_or done i d).bench) runs.run fits
                (subst (λ (w : Workplace L D). DoesAll link step left count files h.part.replica w
                runs.run runs.middle) from runs.does) runs.ends all.basis stands.front)

        -- so it does when it has no seat any more
        worker_moved : (i : ℕ) (part : Part) (d : Worker T L D) → i < length parts
            → StandsMoved link step left count files history (get_or parts i part)
            (first_place o i (slice_index budgets i) (get_or workers i d).bench)
            (get_or workers i d).bench (get_or (map without_seat done) i d).told.0
            (get_or (map without_seat done) i d).bench
        worker_moved i part d l =
            let done_is = done_long in
            let same : get_or (map without_seat done) i d ≡ without_seat (get_or done i d) =
            get_or-map without_seat done i d d (omega (arith, l, done_is)) in
            subst (λ (w : Worker T L D). StandsMoved link step left count files history
            (get_or parts i part)
            (first_place o i (slice_index budgets i) (get_or workers i d).bench)
            (get_or workers i d).bench w.told.0 w.bench) (sym same) (worker_stands i part d l)

        -- the history with all workers' lines
        pub one_history : IsOneHistory link step left count files history o parts budgets workers
            (map without_seat done)
        one_history = record {
          legal = legal;
          many = length-map done without_seat ∙ done_long ∙ sym all.many;
          whole = all.many;
          each = λ i part worker l. (worker_moved i part worker l).stands;
          keys = λ i part worker l. (worker_moved i part worker l).keys;
          no_other = no_other;
        }

-- ---- the workers afterwards

module _ {T L D : Type 0} where
  pub none_seated_now : (done : List (Worker T L D))
      → All (λ (w : Worker T L D). w.seat ≡ None) (map without_seat done)
  none_seated_now done = All-map (λ (w : Worker T L D). w.seat ≡ None) without_seat done
      (λ k d l. refl)
