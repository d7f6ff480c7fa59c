-- A reply to a `get` tells the content before the line's own Fetch.
use Rattle.std.specs.Prelude.{⊤}
use Rattle.std.proofs.Common.{◌≡◌, ℕ, ◌==◌, List, [], ◌∷◌, ◌++◌, Option, None, Some, Result, Ok, Err, inl, inr, append-nil, ap, sym, subst, ◌∙◌, ◌⊎◌, refl}
use Rattle.std.proofs.lemmas.List.{append_assoc, append_cancel_left}
use Rattle.std.proofs.lemmas.List.Elements.{filter-append}
use Rattle.kr_base.specs.Lines.{of_seat}
use Rattle.kr_kms.specs.Calls.{Link}
use Rattle.kr_kms.specs.Exchanges.{Exchange}
use Rattle.kr_kms.specs.Opens.{Opens}
use Rattle.kr_provider.specs.BenchState.{BenchState}
use Rattle.kr_provider.specs.Publication.{Publication, list_at}
use Rattle.kr_provider.specs.Reading.{Reading, data_of, refused, value_reading}
use Rattle.kr_provider.specs.Unsealing.{IsReading}
use Rattle.kr_provider.specs.declared.refusal.Opened.{Opened}
use Rattle.kr_provider.specs.declared.refusal.UnsealNo.{UnsealNo}
use Rattle.kr_provider.specs.declared.refusal.UnsealNo.TheVariants as unsealing
use Rattle.kr_provider.specs.declared.refusal.ValueNo.{ValueNo}
use Rattle.kr_store.specs.declared.rows.Row.{Row}
use Rattle.kr_rollout.specs.declared.answer.Answer.{Answer}
use Rattle.kr_rollout.specs.declared.answer.Answer.TheVariants as answer
use Rattle.kr_history.specs.declared.call.CallNo.{CallNo}
use Rattle.kr_history.specs.declared.call.CallNo.TheVariants as refusal
use Rattle.kr_rollout.specs.declared.event.Event.TheVariants as event
use Rattle.kr_rollout.specs.declared.line.Gave.TheVariants as gave
use Rattle.kr_rollout.specs.declared.opening.Entry.{Entry}
use Rattle.kr_rollout.specs.declared.opening.Opening.{Opening}
use Rattle.kr_history.specs.Acting.{Caller, AddsEntry, IsCaller}
use Rattle.kr_history.specs.Calls.{AdoptsNothing, EndsEarly, HoldsMeanwhile, LetsGo}
use Rattle.kr_history.specs.Contents.{IsContent}
use Rattle.kr_rollout.specs.Entries.{seat_of}
use Rattle.kr_history.specs.Parts.{Adds}
use Rattle.kr_history.proofs.PartsAdd.{parts_follow}
use Rattle.kr_fleet.specs.declared.outcome.Read.{Read}
use Rattle.kr_fleet.specs.declared.outcome.Read.TheVariants as found
use Rattle.kr_fleet.specs.ReadCalls.{Finds, IsContentByAny, IsKnownContent}
use Rattle.kr_script.specs.declared.script.Part.{Part}
use Rattle.kr_script.specs.declared.script.ScriptLine.TheVariants as line
use Rattle.kr_script.specs.declared.told.Told.{Told}
use Rattle.kr_script.specs.declared.told.Told.TheVariants as told
use Rattle.kr_workers.specs.declared.files.SettingsFile.{SettingsFile}
use Rattle.kr_workers.specs.Gets.{FetchesWhere, ReadsContent}
use Rattle.kr_workers.specs.Histories.{StandsIn}
use Rattle.kr_workers.specs.Replies.{Reply, told_of_read}
use Rattle.kr_workers.specs.Runs.{DoesAll, IsDone, LineDone, entries_in}
use Rattle.kr_workers.specs.ScriptLines.{Does, Workplace}
use Rattle.kr_workers.proofs.Shaping.{IfTold}

-- ---- a line's place in a run

-- a worker's place later on
pub record IsLater {L D : Type 0} (old new : Workplace L D) : Type 0 where
  pub more : List Entry
  pub seen_is : new.caller.seen ≡ old.caller.seen ++ more
  pub opening : new.caller.opening ≡ old.caller.opening
  pub seat : new.caller.seat ≡ old.caller.seat

module _ {L D : Type 0} (link : L → Link) (step : L → Exchange → L → Type 0)
    (left : D → Option (List ℕ))
    (count : D → ℕ) (files : List SettingsFile) (replica : ℕ) where
  then_later : (a b c : Workplace L D) → IsLater a b → IsLater b c → IsLater a c
  then_later a b c s t = record {
    more = s.more ++ t.more;
    seen_is = t.seen_is ∙ ap (λ l. l ++ t.more) s.seen_is
        ∙ append_assoc a.caller.seen s.more t.more;
    opening = t.opening ∙ s.opening;
    seat = t.seat ∙ s.seat;
  }

  done_later : (a b : Workplace L D) (done : LineDone)
      → IsDone link step left count files replica a done b → IsLater a b
  done_later a b done d = record {
    more = d.adds.more;
    seen_is = ap (λ (c : Caller). c.seen) d.adds.new_is;
    opening = ap (λ (c : Caller). c.opening) d.adds.new_is;
    seat = ap (λ (c : Caller). c.seat) d.adds.new_is;
  }

  run_later : (a : Workplace L D) (run : List LineDone) (b : Workplace L D)
      → DoesAll link step left count files replica a run b → IsLater a b
  run_later a [] b same = record {
    more = [];
    seen_is = ap (λ (w : Workplace L D). w.caller.seen) same ∙ sym (append-nil a.caller.seen);
    opening = ap (λ (w : Workplace L D). w.caller.opening) same;
    seat = ap (λ (w : Workplace L D). w.caller.seat) same;
  }
  run_later a (done ∷ run) b all = then_later a all.0 b (done_later a all.0 done all.1)
      (run_later all.0 run b all.2)

  -- a line was done behind those ahead of it
  pub record IsDoneBehind (first : Workplace L D) (ahead : List LineDone) (done : LineDone)
      (last : Workplace L D) : Type 0 where
    pub before : Workplace L D
    pub after : Workplace L D
    pub ran : Adds first.caller (entries_in ahead) before.caller
    pub does_ahead : DoesAll link step left count files replica first ahead before
    pub is_done : IsDone link step left count files replica before done after
    pub ended : IsLater after last

  pub done_behind : (first : Workplace L D) (ahead : List LineDone) (done : LineDone)
      (behind : List LineDone) (last : Workplace L D)
      → DoesAll link step left count files replica first (ahead ++ done ∷ behind) last
      → IsDoneBehind first ahead done last
  done_behind first [] done behind last all = record {
    before = first;
    after = all.0;
    ran = parts_follow.none first.caller;
    does_ahead = refl;
    is_done = all.1;
    ended = run_later all.0 behind last all.2;
  }
  done_behind first (one ∷ ahead) done behind last all =
      let w = done_behind all.0 ahead done behind last all.2 in record {
        before = w.before;
        after = w.after;
        ran = parts_follow.both first.caller all.0.caller w.before.caller one.part
            (entries_in ahead) all.1.adds w.ran;
        does_ahead = (all.0, all.1, w.does_ahead);
        is_done = w.is_done;
        ended = w.ended;
      }

-- ---- replies

abbrev pub is_ok : Reply → Type 0
is_ok (Ok reply) = ⊤
is_ok (Err spent) = ⊥

pub ok_no_err : (reply other : Reply) → is_ok reply → other ≡ reply → is_ok other
ok_no_err reply other ok is = subst is_ok (sym is) ok

-- ---- the Fetch of a `get`

-- what a caller adds is one part alone
same_part : (old new : Caller) (p q : List Entry) → Adds old p new → Adds old q new → p ≡ q
same_part old new p q x y = append_cancel_left old.mine p q
    (sym (ap (λ (c : Caller). c.mine) x.new_is) ∙ ap (λ (c : Caller). c.mine) y.new_is)

-- a line whose part stands in a history behind those ahead of it: an Adopt, what is done by what
-- was adopted, and a LetGo
pub record IsLineIn (history : List Entry) (o : Opening) (seat : ℕ) (ahead part : List Entry)
    (p : Publication) (before adopted acted after : Caller) : Type 0 where
  pub replica : ℕ
  pub number : ℕ
  pub adopts : AddsEntry before (event.Adopt replica) (answer.Adopted number p) adopted
  pub lets_go : AddsEntry acted event.LetGo answer.Released after
  pub more : List Entry
  pub is : history ≡ after.seen ++ more
  pub opening : before.opening ≡ o
  pub own : before.seat ≡ seat
  pub seen_own : of_seat seat_of before.seat before.seen ≡ ahead
  pub adds : Adds before part after
  pub known : IsCaller before

module _ (history : List Entry) (o : Opening) (seat : ℕ) (ahead part : List Entry)
    (p : Publication) (before adopted acted after : Caller) (path : List ℕ) (given : Answer)
    (a : AddsEntry adopted (event.Fetch path) given acted)
    (it : IsLineIn history o seat ahead part p before adopted acted after) where
  adopts_one : Adds before (it.adopts.entry ∷ []) adopted
  adopts_one = parts_follow.one before adopted (event.Adopt it.replica)
      (answer.Adopted it.number p) it.adopts

  adds_three : Adds before (it.adopts.entry ∷ (a.entry ∷ (it.lets_go.entry ∷ []))) after
  adds_three = parts_follow.both before adopted after (it.adopts.entry ∷ [])
      (a.entry ∷ (it.lets_go.entry ∷ [])) adopts_one
      (parts_follow.both adopted acted after (a.entry ∷ []) (it.lets_go.entry ∷ [])
      (parts_follow.one adopted acted (event.Fetch path) given a)
      (parts_follow.one acted after event.LetGo answer.Released it.lets_go))

  same_seat : adopted.seat ≡ before.seat
  same_seat = ap (λ (c : Caller). c.seat) it.adopts.new_is

  front_own : of_seat seat_of before.seat (adopted.seen ++ a.others)
      ≡ ahead ++ it.adopts.entry ∷ []
  front_own =
      let first : of_seat seat_of before.seat adopted.seen ≡ ahead ++ it.adopts.entry ∷ [] =
      ap (of_seat seat_of before.seat) (ap (λ (c : Caller). c.seen) adopts_one.new_is)
      ∙ filter-append (λ (e : Entry). seat_of e == before.seat) before.seen adopts_one.more
      ∙ (λ i. it.seen_own i ++ adopts_one.own i) in
      let apart : of_seat seat_of before.seat a.others ≡ [] =
      subst (λ n. of_seat seat_of n a.others ≡ []) same_seat a.apart in
      filter-append (λ (e : Entry). seat_of e == before.seat) adopted.seen a.others
      ∙ (λ i. first i ++ apart i) ∙ append-nil (ahead ++ it.adopts.entry ∷ [])

  pub fetch_there : (Holds : Opening → List Entry → Entry → Type 0)
      → Holds adopted.opening (adopted.seen ++ a.others) a.entry
      → FetchesWhere history seat path ahead part (Holds o)
  fetch_there Holds holds =
      let tail : List Entry = it.lets_go.others ++ it.lets_go.entry ∷ [] in record {
        front = adopted.seen ++ a.others;
        adopt = it.adopts.entry;
        fetch = a.entry;
        let_go = it.lets_go.entry;
        rest = tail ++ it.more;
        there = it.is ∙ ap (λ l. l ++ it.more) (ap (λ (c : Caller). c.seen) it.lets_go.new_is
            ∙ append_assoc acted.seen it.lets_go.others (it.lets_go.entry ∷ []))
            ∙ append_assoc acted.seen tail it.more
            ∙ ap (λ l. l ++ (tail ++ it.more)) (ap (λ (c : Caller). c.seen) a.new_is)
            ∙ append_assoc (adopted.seen ++ a.others) (a.entry ∷ []) (tail ++ it.more);
        own = a.records.seat_is ∙ same_seat ∙ it.own;
        fetches = a.records.did_is;
        part_is = same_part before after part
            (it.adopts.entry ∷ (a.entry ∷ (it.lets_go.entry ∷ []))) it.adds adds_three;
        its = subst (λ n. of_seat seat_of n (adopted.seen ++ a.others)
            ≡ ahead ++ it.adopts.entry ∷ []) it.own front_own;
        holds = subst (λ q. Holds q (adopted.seen ++ a.others) a.entry)
            (ap (λ (c : Caller). c.opening) it.adopts.new_is ∙ it.opening) holds;
      }

-- ---- a call, with the LetGo behind what is done

module _ (history : List Entry) (o : Opening) (seat : ℕ) (ahead part : List Entry)
    (Found : Publication → Caller → Result Read CallNo → Caller → Type 0) (Stays : Type 0)
    (number : ℕ) (Says : Told → Type 0) (gone : Says told.Gone) (memory : Says told.Memory)
    (found_tells : (p : Publication) (before adopted acted after : Caller)
    → IsLineIn history o seat ahead part p before adopted acted after
    → (done : Result Read CallNo) → Found p adopted done acted
    → IfTold Says (told_of_read number done))
    (replica : ℕ) (old new : Caller) (more : List Entry) (is : history ≡ new.seen ++ more)
    (opening : old.opening ≡ o) (own : old.seat ≡ seat)
    (seen_own : of_seat seat_of old.seat old.seen ≡ ahead) (adds : Adds old part new)
    (known : IsCaller old) where
  -- what its result is told as says so
  abbrev Tells : Result Read CallNo → Type 0
  Tells result = IfTold Says (told_of_read number result)

  let_go_tells : (generation : ℕ) (p : Publication) (adopted acted : Caller)
      (done result : Result Read CallNo)
      → AddsEntry old (event.Adopt replica) (answer.Adopted generation p) adopted
      → Found p adopted done acted → LetsGo acted done result new → Tells result
  let_go_tells generation p adopted acted done result adopts d (inl g) =
      subst (λ (r : Result Read CallNo). Tells r) (sym g.1)
      (found_tells p old adopted acted new (record {
        replica = replica;
        number = generation;
        adopts = adopts;
        lets_go = g.0;
        more = more;
        is = is;
        opening = opening;
        own = own;
        seen_own = seen_own;
        adds = adds;
        known = known;
      }) done d)
  let_go_tells generation p adopted acted done result adopts d (inr n) =
      subst (λ (r : Result Read CallNo). Tells r) (sym n.1) tt

  -- where nothing was adopted
  early_tells : (why : CallNo) → AdoptsNothing replica old why new → Tells (Err why)
  early_tells refusal.Gone e = gone
  early_tells refusal.Spent e = tt
  early_tells refusal.NoMemory e = memory
  early_tells other e = absurd e

  result_tells : (result : Result Read CallNo) → EndsEarly replica Stays old result new
      ⊎ HoldsMeanwhile (λ number p from done to. Found p from done to) replica old result new
      → Tells result
  result_tells (Ok done) (inl e) = absurd e
  result_tells (Err why) (inl e) = early_tells why e.0
  result_tells result (inr h) = let_go_tells h.number h.p h.adopted h.acted h.done result h.adopts
      h.does h.lets_go

  pub call_tells : (reply : Told) (result : Result Read CallNo)
      → Ok reply ≡ told_of_read number result → EndsEarly replica Stays old result new
      ⊎ HoldsMeanwhile (λ number p from done to. Found p from done to) replica old result new
      → Says reply
  call_tells reply result is does = subst (IfTold Says) (sym is) (result_tells result does)

-- ---- what the reply tells, but for what plugins told

abbrev pub ToldContent : Opening → (history : List Entry) → (seat : ℕ)
    → (path : List ℕ) → (ahead part : List Entry) → Told → Type 0
ToldContent o history seat path ahead part (told.Got revision plain) =
    FetchesWhere history seat path ahead part (λ front fetch.
    (fetch.line.gave ≡ gave.Found revision) × ReadsContent o path (data_of plain) front fetch)
ToldContent o history seat path ahead part told.Absent =
    FetchesWhere history seat path ahead part (λ front fetch. (fetch.line.gave ≡ gave.Absent)
    × ((opens : Opens) → IsContent opens o front path None))
ToldContent o history seat path ahead part (told.Value why) =
    FetchesWhere history seat path ahead part (λ front fetch. (revision : ℕ)
    × (fetch.line.gave ≡ gave.Found revision) × ReadsContent o path (refused why) front fetch)
ToldContent o history seat path ahead part reply = ⊤

module _ {L : Type 0} (link : L → Link) (path : List ℕ) (olds news : List L)
    (history : List Entry) (o : Opening) (seat : ℕ) (ahead part : List Entry) where
  -- the row that was fetched reads so
  content_read : (p : Publication) (old new : Caller) (row : Row) (opened : Result Opened UnsealNo)
      (reading : Reading) (found : AddsEntry old (event.Fetch path) (answer.Found row) new)
      → found.entry.published ≡ Some p
      → IsKnownContent old.opening (old.seen ++ found.others) path reading
      → (u : IsReading link p.seeds (list_at p row.resource) path row.stored olds opened news)
      → value_reading u.envelope (list_at p row.resource) path row.stored ≡ reading
      → IsContentByAny old.opening (old.seen ++ found.others) (list_at p row.resource) path
      row.stored u.envelope reading
      → ReadsContent old.opening path reading (old.seen ++ found.others) found.entry
  content_read p old new row opened reading found named known u reads by_any = record {
    known = known;
    p = p;
    row = row;
    envelope = u.envelope;
    held = named;
    found = found.records.shows;
    object = u.object;
    seed = u.published;
    unsourced = u.unsourced;
    reads = reads;
    by_any = by_any;
  }

  -- what was found tells the content
  found_tells : (number : ℕ) (p : Publication) (before adopted acted after : Caller)
      → IsLineIn history o seat ahead part p before adopted acted after
      → (done : Result Read CallNo) → Finds link path p adopted olds done acted news
      → IfTold (ToldContent o history seat path ahead part) (told_of_read number done)
  found_tells number p before adopted acted after it (Ok found.Absent) d =
      fetch_there history o seat ahead part p before adopted acted after path answer.Absent
      d.0.absent it (λ o front fetch. (fetch.line.gave ≡ gave.Absent)
      × ((opens : Opens) → IsContent opens o front path None))
      (d.0.absent.records.gave_is, d.0.content)
  found_tells number p before adopted acted after it (Ok (found.Value revision plain stale)) d =
      fetch_there history o seat ahead part p before adopted acted after path (answer.Found d.0)
      d.1.found it (λ o front fetch. (fetch.line.gave ≡ gave.Found revision)
      × ReadsContent o path (data_of plain) front fetch) (
        d.1.found.records.gave_is ∙ ap (λ n. gave.Found n) d.2,
        content_read p adopted acted d.0 (Ok (record { plain = plain; stale = stale }))
            (data_of plain) d.1.found d.1.named d.1.content d.1.unseals d.1.unseals.is.0 d.1.by_any,
      )
  found_tells number p before adopted acted after it (Err (refusal.Value why)) d =
      fetch_there history o seat ahead part p before adopted acted after path (answer.Found d.0)
      d.1.found it (λ o front fetch. (revision : ℕ) × (fetch.line.gave ≡ gave.Found revision)
      × ReadsContent o path (refused why) front fetch) (
        d.0.revision,
        d.1.found.records.gave_is,
        content_read p adopted acted d.0 (Err (unsealing.Refused why)) (refused why) d.1.found
            d.1.named d.1.content.1 d.1.unseals d.1.unseals.is d.1.by_any,
      )
  found_tells number p before adopted acted after it (Err other) d = tt

-- ---- a line of a run, in a history

-- its call stands there: what its seat saw before it are the parts ahead
pub record IsCallIn {L D : Type 0} (history : List Entry) (first : Workplace L D)
    (ahead : List Entry) (before after : Workplace L D) : Type 0 where
  pub more : List Entry
  pub is : history ≡ after.caller.seen ++ more
  pub opening : before.caller.opening ≡ first.caller.opening
  pub own : before.caller.seat ≡ first.caller.seat
  pub seen_own : of_seat seat_of before.caller.seat before.caller.seen ≡ ahead

module _ {L D : Type 0} (link : L → Link)
    (step : L → Exchange → L → Type 0) (left : D → Option (List ℕ)) (count : D → ℕ)
    (files : List SettingsFile) (history : List Entry) (part : Part) (first : Workplace L D)
    (replies : List Told) (after : BenchState L D)
    (stands : StandsIn link step left count files history part first replies after)
    (ahead : List LineDone) (done : LineDone) (behind : List LineDone)
    (run_is : stands.run ≡ ahead ++ done ∷ behind) where
  abbrev pub IsThere : Type 0
  IsThere = IsDoneBehind link step left count files part.replica first ahead done stands.last

  pub done_there : IsThere
  done_there = done_behind link step left count files part.replica first ahead done behind
      stands.last (subst (λ run. DoesAll link step left count files part.replica first run
      stands.last) run_is stands.does)

  pub call_there : (w : IsThere) → first.caller.seen ≡ []
      → IsCallIn history first (entries_in ahead) w.before w.after
  call_there w nothing =
      let rest = stands.front.0 in
      let own : w.before.caller.seat ≡ first.caller.seat =
      ap (λ (c : Caller). c.seat) w.ran.new_is in
      let seen_own : of_seat seat_of first.caller.seat w.before.caller.seen ≡ entries_in ahead =
      ap (of_seat seat_of first.caller.seat) (ap (λ (c : Caller). c.seen) w.ran.new_is
      ∙ ap (λ l. l ++ w.ran.more) nothing) ∙ w.ran.own in
      record {
        more = w.ended.more ++ rest;
        is = sym stands.front.1 ∙ ap (λ l. l ++ rest) w.ended.seen_is
            ∙ append_assoc w.after.caller.seen w.ended.more rest;
        opening = ap (λ (c : Caller). c.opening) w.ran.new_is;
        own = own;
        seen_own = subst (λ n. of_seat seat_of n w.before.caller.seen ≡ entries_in ahead)
            (sym own) seen_own;
      }

  pub get_told : (w : IsThere) → first.caller.seen ≡ [] → (path : List ℕ)
      → done.line ≡ line.Get path → ToldContent first.caller.opening history
      first.caller.seat path (entries_in ahead) done.part done.reply
  get_told w nothing path asked =
      let does = subst (λ l. Does link left count files part.replica l w.before
      (Ok done.reply) w.after) asked w.is_done.does in
      let c = call_there w nothing in
      let o = first.caller.opening in
      let seat = first.caller.seat in
      let entries = entries_in ahead in
      call_tells history o seat entries done.part
      (λ p from found to. Finds link path p from w.before.links found to w.after.links)
      (w.after.links ≡ w.before.links) w.before.caller.seat
      (ToldContent o history seat path entries done.part) tt tt
      (found_tells link path w.before.links w.after.links history o seat entries done.part
      w.before.caller.seat) part.replica w.before.caller w.after.caller c.more c.is c.opening c.own
      c.seen_own w.is_done.adds w.is_done.known done.reply does.0 does.1 does.2
