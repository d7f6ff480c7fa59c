-- Events that write to the store: that their lines' entries are steps.
use Rattle.std.proofs.Common.{◌≡◌, ℕ, suc, ◌<◌, ◌≤◌, ◌+◌, Bool, List, [], ◌∷◌, ◌++◌, length, take, is_some, Option, None, Some, IfSome, Result, Ok, Err, refl, sym, ap, subst, ◌∙◌, arith, append-nil, length-append}
use Rattle.std.specs.List.{slice_get}
use Rattle.std.specs.Option.{option_map}
use Rattle.std.proofs.lemmas.List.{take-append-le}
use Rattle.kr_base.specs.Rules.{IsPath, IsResource}
use Rattle.kr_store.specs.declared.answers.PutNo.{PutNo}
use Rattle.kr_store.specs.declared.answers.PutNo.TheVariants as no
use Rattle.kr_store.specs.declared.rows.LogRow.{LogRow}
use Rattle.kr_store.specs.declared.rows.Row.{Row}
use Rattle.kr_store.specs.Rows.{put_of, delete_of, row_of, live_row, with_revision, put_at}
use Rattle.kr_store.specs.Stores.{Kept, Wrote, Fails, Refusal, Puts, Deletes, IsLatestPut}
use Rattle.kr_provider.specs.Publication.{Publication, list_at}
use Rattle.kr_provider.specs.Readers.{writer_of}
use Rattle.kr_provider.specs.Sealing.{IsSealing}
use Rattle.kr_judge.specs.declared.need.Need.{Need}
use Rattle.kr_judge.specs.Boards.{BoardState}
use Rattle.kr_rollout.specs.declared.answer.Answer.{Answer}
use Rattle.kr_rollout.specs.declared.answer.Answer.TheVariants as answer
use Rattle.kr_rollout.specs.declared.event.Event.{Event}
use Rattle.kr_rollout.specs.declared.event.Event.TheVariants as event
use Rattle.kr_opening.specs.declared.generation.Generation.{Generation}
use Rattle.kr_rollout.specs.declared.line.Did.TheVariants.{Delete}
use Rattle.kr_rollout.specs.declared.line.Gave.{Gave}
use Rattle.kr_rollout.specs.declared.line.Gave.TheVariants.{Written, StoreFailed, StoreFull, Nothing}
use Rattle.kr_rollout.specs.declared.line.Line.{Line}
use Rattle.kr_rollout.specs.declared.opening.Entry.{Entry}
use Rattle.kr_rollout.specs.Entries.{entry_of, published_at, generation_named_by, generation_adopted_in, revision_in, revision_replaced_in, HasWhatItNames}
use Rattle.kr_rollout.specs.States.{State, number_at, held_by}
use Rattle.kr_rollout.specs.Openings.{board}
use Rattle.kr_rollout.specs.Answers.{IsAnswer}
use Rattle.kr_opening.specs.Checks.{written_check}
use Rattle.kr_rollout.specs.Writes.{Writes, WouldWrite}
use Rattle.kr_rollout.specs.Steps.{after, need_written, put_need, put_row, row_written_by, tears, HidesNoFault, KeepsRules}
use Rattle.kr_rollout.specs.Callers.{did_of, gave_of, IsResealing, ShowsEntry, StoresIt}
use Rattle.kr_rollout.specs.inner.Rollouts.{RolloutState, opening_of, state_with, IsRollout, line_now, Serves}
use Rattle.kr_rollout.specs.inner.Writing.{written_as, deleted_as, needs_with, needs_without, sealed_over, ReplacesBy}
use Rattle.std.proofs.lemmas.Option.{same_Some}
use Rattle.kr_rollout.proofs.Revisions.{live_at, at_within}
use Rattle.kr_rollout.proofs.Serving.{held_in, recorded}

-- ---- a step between two courses

-- the entry of an event that was answered on the way from one course to the next
abbrev pub entry_then : RolloutState → ℕ → Event → Answer → Entry
entry_then next seat asked given = entry_of next.state.rows next.state.generations
    (line_now next.state seat (did_of asked) (gave_of given))

pub stepped : (c next : RolloutState) (seat : ℕ) (asked : Event) (given : Answer)
    → next.opening ≡ c.opening → next.state ≡ after c.state (entry_then next seat asked given)
    → seat < length c.opening.reloads → held_by next.state seat ≡ held_by c.state seat
    → KeepsRules (did_of asked) c.opening
    → IsAnswer (did_of asked) (gave_of given) c.state (held_by next.state seat)
    → Writes (gave_of given) c.opening c.state (entry_then next seat asked given)
    → c.state.count ≤ next.state.count
    → HidesNoFault (gave_of given) c.state.count next.state.count
    → next.torn ≡ tears (gave_of given) c.torn
    → HasWhatItNames next.state.rows next.state.generations
    (line_now next.state seat (did_of asked) (gave_of given))
    → ShowsEntry given (entry_then next seat asked given)
    → StoresIt asked given (entry_then next seat asked given)
    → Serves c seat asked given (line_now next.state seat (did_of asked) (gave_of given)) next
stepped c next seat asked given opening state l held rules is writes counted faults tail reach shows
    stores =
    record {
      opening = opening;
      state = state;
      step = record {
        seat = l;
        held = held;
        rules = rules;
        answer = is;
        writes = writes;
        counted = counted;
        faults = faults;
        payload = ap (λ (s : State). entry_of s.rows s.generations
            (line_now next.state seat (did_of asked) (gave_of given))) state;
        reaches = subst (λ (s : State). HasWhatItNames s.rows s.generations
            (line_now next.state seat (did_of asked) (gave_of given))) state reach;
      };
      records = recorded next.state.rows next.state.generations next.state seat asked given shows
          stores;
      torn = tail;
    }

-- the same for the course, the answer and the line that the caller sees
pub seen : {here old next : RolloutState} {seat : ℕ} {given ans : Answer} {line : Line}
    (asked : Event) → here ≡ old → ans ≡ given
    → line ≡ line_now next.state seat (did_of asked) (gave_of given)
    → Serves here seat asked given (line_now next.state seat (did_of asked) (gave_of given)) next
    → Serves old seat asked ans line next
seen {here = here} {next = next} {seat = seat} {given = given} {ans = ans} {line = line} asked view
    ans_is line_is s =
    subst (λ (c : RolloutState). Serves c seat asked ans line next) view
    (subst (λ a. Serves here seat asked a line next) (sym ans_is)
    (subst (λ x. Serves here seat asked given x next) (sym line_is) s))

-- the configuration that a seat holds is the one that is read
pub own_published : (generations gs : List Generation) (held hs : List (Option ℕ))
    (seat number : ℕ) (p own : Publication) → number_at held seat ≡ Some number
    → published_at generations (Some number) ≡ Some p → gs ≡ generations → hs ≡ held
    → published_at gs (number_at hs seat) ≡ Some own → p ≡ own
own_published generations gs held hs seat number p own is there gs_is hs_is read =
    let same : Some number ≡ number_at hs seat =
    sym is ∙ ap (λ (xs : List (Option ℕ)). number_at xs seat) (sym hs_is) in
    same_Some p own (sym there ∙ (λ i. published_at (sym gs_is i) (same i)) ∙ read)

-- ---- one more row

get_end : {X : Type 0} (xs : List X) (x : X) → slice_get (xs ++ x ∷ []) (length xs) ≡ Some x
get_end [] x = refl
get_end (y ∷ ys) x = get_end ys x

row_new : (rows next : List LogRow) (row : LogRow) (k : ℕ) → next ≡ rows ++ row ∷ []
    → k ≡ length rows + 1 → put_at next k ≡ row_of k row.path row.change
row_new rows next row k e n =
    let m : k ≡ suc (length rows) = omega (arith, n) in
    ap (λ rs. put_at rs k) e ∙ ap (put_at (rows ++ row ∷ [])) m
    ∙ ap (λ o. live_row (with_revision (suc (length rows)) o)) (get_end rows row)
    ∙ ap (λ j. row_of j row.path row.change) (sym m)

names_some : (generations : List Generation) (held : Option ℕ) (number : ℕ) (p : Publication)
    (gave : Gave) → held ≡ Some number → published_at generations (Some number) ≡ Some p
    → published_at generations (generation_named_by held gave) ≡ Some p
names_some generations held number p gave e there =
    ap (λ h. published_at generations (generation_named_by h gave)) e ∙ there

-- a seat that may hold something adopts nothing by a write
pub names_any : (generations : List Generation) (held : Option ℕ) (gave : Gave) → generation_adopted_in gave ≡ None
    → IfSome held (λ n. n < length generations)
    → IfSome (generation_named_by held gave) (λ n. n < length generations)
names_any generations None gave e l = subst (λ h. IfSome h (λ n. n < length generations)) (sym e) tt
names_any generations (Some n) gave e l = l

-- ---- over the fields

module _ (store next : Kept) (kept later : BoardState) (generations : List Generation)
    (current held : List (Option ℕ))
    (first : ℕ) (rs : List (Option Publication)) (names : List (List ℕ)) (reloads : List ℕ)
    (count : ℕ) (torn : Bool) where
  abbrev here : RolloutState
  here = record {
    opening = opening_of store first rs names reloads count torn;
    state =
        state_with store kept generations current held;
    torn = store.torn;
  }

  abbrev soon : RolloutState
  soon = record {
    opening = opening_of next first rs names reloads count torn;
    state =
        state_with next later generations current held;
    torn = next.torn;
  }

  -- the opening stays
  pub same_opening : (more : List LogRow) → first ≤ length store.rows
      → next.rows ≡ store.rows ++ more → next.limit ≡ store.limit → next.format ≡ store.format
      → opening_of next first rs names reloads count torn ≡ opening_of store first rs names reloads count torn
  same_opening more l e limit format =
      let r : take first next.rows ≡ take first store.rows = ap (take first) e
      ∙ take-append-le first store.rows more l in
      (λ i. record {
        format = format i;
        rows = r i;
        replicas = rs;
        names = names;
        reloads = reloads;
        limit = limit i;
        count = count;
        torn = torn;
      })

  -- what holds of the course stays
  pub same_rollout : (more : List LogRow) (needs : List Need) → first ≤ length store.rows
      → next.rows ≡ store.rows ++ more → next.limit ≡ store.limit → next.format ≡ store.format
      → later ≡ record kept { needs = needs }
      → IsRollout (opening_of store first rs names reloads count torn)
      (state_with store kept generations current held) kept
      → IsRollout (opening_of next first rs names reloads count torn)
      (state_with next later generations current held) later
  same_rollout more needs l e limit format later_is k =
      subst (λ o. IsRollout o (state_with next later generations current held) later)
      (sym (same_opening more l e limit format)) (record {
        board_is = later_is ∙ ap (λ (b : BoardState). record b { needs = needs }) k.board_is
            ∙ ap (λ n. record (board (opening_of store first rs names reloads count torn)
            (state_with store kept generations current held)) { needs = n })
            (sym (ap (λ (b : BoardState). b.needs) later_is));
        current = k.current;
        own = k.own;
        held = k.held;
        replicas = k.replicas;
        seats = k.seats;
        few = k.few;
      })

  -- the state that comes, by what it is made of
  state_by : (generated : List Generation) (needs : List Need) (rows : List LogRow)
      → generations ≡ generated → later.needs ≡ needs → next.rows ≡ rows
      → ◌≡◌ {A = State} (state_with next later generations current held)
      (record {
        generations = generated;
        current = current;
        held = held;
        needs = needs;
        rows = rows;
        count = next.count;
      })
  state_by generated needs rows g n r = (λ i. record {
    generations = g i;
    current = current;
    held = held;
    needs = n i;
    rows = r i;
    count = next.count;
  })

  -- nothing but the count changes
  stays_so : later.needs ≡ kept.needs → next.rows ≡ store.rows
      → ◌≡◌ {A = State} (state_with next later generations current held)
      (record {
        generations = generations ++ [];
        current = current;
        held = held;
        needs =
            kept.needs;
        rows = store.rows ++ [];
        count = next.count;
      })
  stays_so n r = state_by (generations ++ []) kept.needs (store.rows ++ [])
      (sym (append-nil generations)) n (r ∙ sym (append-nil store.rows))

  module _ (seat : ℕ) (k : IsRollout (opening_of store first rs names reloads count torn)
      (state_with store kept generations current held) kept) (l : seat < length reloads)
      (room : first ≤ length store.rows) where
    -- a seat names one of the generations, where it adopts none
    named_is : (gave : Gave) → generation_adopted_in gave ≡ None
        → IfSome (generation_named_by (number_at held seat) gave) (λ n. n < length generations)
    named_is gave e = names_any generations (number_at held seat) gave e
        (held_in (state_with store kept generations current held) seat k.held)

    -- ---- an event that writes

    module _ (asked : Event) (rules : KeepsRules (did_of asked) here.opening)
        (before : revision_replaced_in (did_of asked) ≤ length store.rows) where
      -- no row is written
      unwritten : (given : Answer) → next.rows ≡ store.rows → next.limit ≡ store.limit
          → next.format ≡ store.format
          → soon.state ≡ after here.state (entry_then soon seat asked given)
          → IsAnswer (did_of asked) (gave_of given) here.state (number_at held seat)
          → Writes (gave_of given) here.opening here.state (entry_then soon seat asked given)
          → store.count ≤ next.count → HidesNoFault (gave_of given) store.count next.count
          → next.torn ≡ tears (gave_of given) store.torn
          → revision_in (gave_of given) ≡ 0 → generation_adopted_in (gave_of given) ≡ None
          → ShowsEntry given (entry_then soon seat asked given)
          → StoresIt asked given (entry_then soon seat asked given)
          → Serves here seat asked given (line_now soon.state seat (did_of asked) (gave_of given))
          soon
      unwritten given rows limit format state is writes counted faults tail none adopted shows
          stores =
          stepped here soon seat asked given
          (same_opening [] room (rows ∙ sym (append-nil store.rows)) limit format) state l refl
          rules is writes counted faults tail (record {
            row = omega (arith, none);
            replaced = omega (arith, before, ap (λ (x : List LogRow). length x) rows);
            generation = named_is (gave_of given) adopted;
          }) shows stores

      -- the store is as it was
      untouched : (given : Answer) → next ≡ store
          → soon.state ≡ after here.state (entry_then soon seat asked given)
          → IsAnswer (did_of asked) (gave_of given) here.state (number_at held seat)
          → Writes (gave_of given) here.opening here.state (entry_then soon seat asked given)
          → HidesNoFault (gave_of given) store.count store.count
          → store.torn ≡ tears (gave_of given) store.torn
          → revision_in (gave_of given) ≡ 0 → generation_adopted_in (gave_of given) ≡ None
          → ShowsEntry given (entry_then soon seat asked given)
          → StoresIt asked given (entry_then soon seat asked given)
          → Serves here seat asked given (line_now soon.state seat (did_of asked) (gave_of given))
          soon
      untouched given same state is writes faults tail =
          unwritten given (ap (λ (s : Kept). s.rows) same) (ap (λ (s : Kept). s.limit) same)
          (ap (λ (s : Kept). s.format) same) state is writes
          (omega (arith, ap (λ (s : Kept). s.count) same))
          (subst (HidesNoFault (gave_of given) store.count)
          (sym (ap (λ (s : Kept). s.count) same)) faults)
          (ap (λ (s : Kept). s.torn) same ∙ tail)

      no_memory : next ≡ store → later.needs ≡ kept.needs
          → IsAnswer (did_of asked) Nothing here.state (number_at held seat)
          → Serves here seat asked answer.NoMemory
          (line_now soon.state seat (did_of asked) Nothing) soon
      no_memory same needs is = untouched answer.NoMemory same
          (stays_so needs (ap (λ (s : Kept). s.rows) same)) is tt refl refl refl refl tt tt

      -- it would have written this row
      module _ (row : LogRow)
          (would : (gave : Gave) → WouldWrite store.format (did_of asked) store.rows
          (published_at generations (generation_named_by (number_at held seat) gave)) row) where
        failed : Fails store next row → later.needs ≡ kept.needs
            → IsAnswer (did_of asked) StoreFailed here.state (number_at held seat)
            → Serves here seat asked answer.StoreFailed
            (line_now soon.state seat (did_of asked) StoreFailed) soon
        failed f needs is = unwritten answer.StoreFailed f.rows f.limit f.format
            (stays_so needs f.rows) is (row, would StoreFailed, f.within, f.rose) f.later f.once
            f.torn refl refl tt tt

        full : (needed : ℕ) → Refusal store next row (no.Full needed) → later.needs ≡ kept.needs
            → IsAnswer (did_of asked) (StoreFull needed) here.state (number_at held seat)
            → Serves here seat asked (answer.StoreFull needed)
            (line_now soon.state seat (did_of asked) (StoreFull needed)) soon
        full needed r needs is = untouched (answer.StoreFull needed) r.0
            (stays_so needs (ap (λ (s : Kept). s.rows) r.0)) is
            (row, would (StoreFull needed), r.1, r.2) refl refl refl refl tt tt

        -- it wrote it
        written : (revision : ℕ) → Wrote store next row revision
            → later.needs ≡ need_written (did_of asked)
            (published_at generations
            (generation_named_by (number_at held seat) (Written revision)))
            (put_at next.rows revision) kept.needs
            → next.rows ≡ store.rows ++ row_written_by (did_of asked) (put_at next.rows revision)
            → IsAnswer (did_of asked) (Written revision) here.state (number_at held seat)
            → StoresIt asked (answer.Written revision)
            (entry_then soon seat asked (answer.Written revision))
            → Serves here seat asked (answer.Written revision)
            (line_now soon.state seat (did_of asked) (Written revision)) soon
        written revision w needs rows is stores =
            let longer = ap (λ (x : List LogRow). length x) w.rows in
            stepped here soon seat asked (answer.Written revision)
            (same_opening (row ∷ []) room w.rows w.limit w.format)
            (state_by _ _ _ (sym (append-nil generations)) needs rows) l refl rules is (
              row,
              would (Written revision),
              w.within,
              row_new store.rows next.rows row revision w.rows w.revision_is,
            )
            w.later w.same_count w.whole (record {
              row = omega (arith, w.revision_is, longer, length-append store.rows (row ∷ []));
              replaced = omega (arith, before, longer, length-append store.rows (row ∷ []));
              generation = named_is (Written revision) refl;
            }) tt stores

    -- ---- a put
    module _ (number : ℕ) (path resource plain stored : List ℕ) (p : Publication)
        (held_is : number_at held seat ≡ Some number)
        (there : published_at generations (Some number) ≡ Some p)
        (path_rule : IsPath path) (resource_rule : IsResource resource)
        (sealing : IsSealing p resource path plain stored) where
      abbrev put : Event
      put = event.Put path resource plain stored

      abbrev new_row : LogRow
      new_row = put_of path resource stored (written_check store.format p resource)

      published_is : (gave : Gave) → published_at generations (generation_named_by (number_at held seat) gave)
          ≡ Some p
      published_is gave = names_some generations (number_at held seat) number p gave held_is there

      put_rules : KeepsRules (did_of put) here.opening
      put_rules = (path_rule, resource_rule, sealing.plain_is)

      would_put : (gave : Gave) → WouldWrite store.format (did_of put) store.rows
          (published_at generations (generation_named_by (number_at held seat) gave)) new_row
      would_put gave =
          (p, published_is gave, record { stored = stored; sealing = sealing; row_is = refl })

      pub put_serves : (result : Result ℕ PutNo) → Puts store next new_row result
          → later ≡ record kept {
            needs = needs_with result
                (record { path = path; resource = resource; who = writer_of (list_at p resource) })
                kept.needs;
          }
          → Serves here seat put (written_as result)
          (line_now soon.state seat (did_of put) (gave_of (written_as result))) soon
      put_serves (Ok revision) w b =
          let row_is : put_at next.rows revision ≡ row_of revision path new_row.change =
          row_new store.rows next.rows new_row revision w.rows w.revision_is in
          written put put_rules (omega arith) new_row would_put revision w
          (ap (λ (x : BoardState). x.needs) b ∙ sym
          (λ i. put_need (published_is (Written revision) i) (row_is i) kept.needs))
          (w.rows ∙ sym (ap (λ r. store.rows ++ put_row r) row_is))
          (ap is_some held_is, w.revision_is) (ap (option_map (λ (r : Row). r.stored)) row_is)
      put_serves (Err no.Failed) f b = failed put put_rules (omega arith) new_row would_put f
          (ap (λ (x : BoardState). x.needs) b) (ap is_some held_is)
      put_serves (Err (no.Full needed)) r b =
          full put put_rules (omega arith) new_row would_put needed r
          (ap (λ (x : BoardState). x.needs) b) (ap is_some held_is)
      put_serves (Err (no.Changed last)) r b = absurd r
      put_serves (Err no.NoMemory) r b = no_memory put put_rules (omega arith) r
          (ap (λ (x : BoardState). x.needs) b) (ap is_some held_is)

    -- ---- a delete
    module _ (path : List ℕ) (path_rule : IsPath path) where
      pub delete_serves : (result : Result (Option ℕ) PutNo) → Deletes store next path result
          → later ≡ record kept { needs = needs_without result path kept.needs }
          → Serves here seat (event.Delete path) (deleted_as result)
          (line_now soon.state seat (Delete path) (gave_of (deleted_as result))) soon
      delete_serves (Ok None) d b =
          untouched (event.Delete path) path_rule (omega arith) answer.Absent d.1
          (stays_so (ap (λ (x : BoardState). x.needs) b) (ap (λ (s : Kept). s.rows) d.1)) d.0 tt
          refl refl refl refl tt tt
      delete_serves (Ok (Some revision)) d b =
          written (event.Delete path) path_rule (omega arith) (delete_of path) (λ gave. (d.0, refl))
          revision d.1 (ap (λ (x : BoardState). x.needs) b) d.1.rows (d.0, d.1.revision_is)
          (ap (option_map (λ (r : Row). r.stored))
          (row_new store.rows next.rows (delete_of path) revision d.1.rows d.1.revision_is))
      delete_serves (Err no.Failed) d b =
          failed (event.Delete path) path_rule (omega arith) (delete_of path) (λ gave. (d.0, refl)) d.1
          (ap (λ (x : BoardState). x.needs) b) tt
      delete_serves (Err (no.Full needed)) d b =
          full (event.Delete path) path_rule (omega arith) (delete_of path) (λ gave. (d.0, refl)) needed
          d.1 (ap (λ (x : BoardState). x.needs) b) tt
      delete_serves (Err (no.Changed last)) d b = absurd d
      delete_serves (Err no.NoMemory) d b =
          no_memory (event.Delete path) path_rule (omega arith) d (ap (λ (x : BoardState). x.needs) b)
          tt

    -- ---- a replacement
    module _ (number : ℕ) (path : List ℕ) (revision : ℕ) (stored : List ℕ) (p : Publication)
        (row : Row) (held_is : number_at held seat ≡ Some number)
        (there : published_at generations (Some number) ≡ Some p)
        (path_rule : IsPath path) (row_is : put_at store.rows revision ≡ Some row)
        (resealing : IsResealing p row path stored) where
      abbrev replace : Event
      replace = event.Replace path revision stored

      published_then : (gave : Gave) → published_at generations
          (generation_named_by (number_at held seat) gave) ≡ Some p
      published_then gave = names_some generations (number_at held seat) number p gave held_is there

      -- the path's last put is the row that was found
      own_is : (own : Row) → IsLatestPut store.rows path revision own → own ≡ row
      own_is own latest = same_Some own row (sym (live_at store.rows path own latest.is).row_is
          ∙ ap (put_at store.rows) latest.revision_is ∙ row_is)

      would_replace : (own : Row) → IsLatestPut store.rows path revision own → (gave : Gave)
          → WouldWrite store.format (did_of replace) store.rows
          (published_at generations (generation_named_by (number_at held seat) gave))
          (sealed_over store p own path stored)
      would_replace own latest gave =
          let re = subst (λ (x : Row). IsResealing p x path stored)
          (sym (own_is own latest)) resealing in (
            p,
            own,
            published_then gave,
            latest.is,
            latest.revision_is,
            record {
              plain = re.plain;
              reads = re.reads;
              sealed = record { stored = stored; sealing = re.sealing; row_is = refl };
            },
          )

      there_before : revision ≤ length store.rows
      there_before = at_within store.rows revision row row_is

      pub replace_serves : (result : Result ℕ PutNo)
          → ReplacesBy p store next path revision stored kept later result
          → Serves here seat replace (written_as result)
          (line_now soon.state seat (did_of replace) (gave_of (written_as result))) soon
      replace_serves (Ok to) r =
          let new = sealed_over store p r.0 path stored in
          let new_is : put_at next.rows to ≡ row_of to path new.change =
          row_new store.rows next.rows new to r.2.rows r.2.revision_is in
          written replace path_rule there_before new (would_replace r.0 r.1) to r.2
          (ap (λ (x : BoardState). x.needs) r.3 ∙ sym
          (λ i. put_need (published_then (Written to) i) (new_is i) kept.needs))
          (r.2.rows ∙ sym (ap (λ x. store.rows ++ put_row x) new_is))
          (ap is_some held_is, (r.0, r.1), r.2.revision_is)
          (ap (option_map (λ (x : Row). x.stored)) new_is)
      replace_serves (Err no.Failed) r =
          failed replace path_rule there_before (sealed_over store p r.0.0 path stored)
          (would_replace r.0.0 r.0.1) r.0.2 (ap (λ (x : BoardState). x.needs) r.1)
          (ap is_some held_is)
      replace_serves (Err (no.Full needed)) r =
          full replace path_rule there_before (sealed_over store p r.0.0 path stored)
          (would_replace r.0.0 r.0.1) needed r.0.2 (ap (λ (x : BoardState). x.needs) r.1)
          (ap is_some held_is)
      replace_serves (Err (no.Changed last)) r =
          untouched replace path_rule there_before (answer.Changed last) r.0.1
          (stays_so (ap (λ (x : BoardState). x.needs) r.1) (ap (λ (s : Kept). s.rows) r.0.1))
          (ap is_some held_is, (λ s. r.0.2 s.0 s.1), r.0.0) tt refl refl refl refl tt tt
      replace_serves (Err no.NoMemory) r = no_memory replace path_rule there_before r.0
          (ap (λ (x : BoardState). x.needs) r.1) (ap is_some held_is)
