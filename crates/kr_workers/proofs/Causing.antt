-- Each reply has its cause, by the relation of its line's call: of calls that publish nothing.
use Rattle.std.specs.Prelude.{⊤}
use Rattle.std.proofs.Common.{◌≡◌, ℕ, ◌≤◌, Bool, true, false, List, [], ◌∷◌, ◌++◌, Option, None, Some, Result, Ok, Err, inl, inr, refl, ap, sym, subst, ◌∙◌}
use Rattle.std.proofs.lemmas.Bool.{false≢true}
use Rattle.std.proofs.lemmas.List.{append_assoc}
use Rattle.kr_base.proofs.Counting.{Rose-later}
use Rattle.kr_base.specs.Faults.{Rose}
use Rattle.kr_kms.specs.Calls.{Link}
use Rattle.kr_kms.specs.Health.{HasBreach}
use Rattle.kr_provider.specs.AskedLinks.{AskedOnly, FaultRose, HasLinkWith}
use Rattle.kr_provider.specs.Publication.{Publication}
use Rattle.kr_provider.specs.declared.refusal.ValueNo.TheVariants as value
use Rattle.kr_provider.proofs.AskedLists.{breach_back, had, rose_later}
use Rattle.kr_rollout.specs.declared.answer.Answer.{Answer}
use Rattle.kr_rollout.specs.declared.answer.Answer.TheVariants as answer
use Rattle.kr_history.specs.declared.call.CallNo.{CallNo}
use Rattle.kr_history.specs.declared.call.CallNo.TheVariants as refusal
use Rattle.kr_rollout.specs.declared.event.Event.{Event}
use Rattle.kr_rollout.specs.declared.event.Event.TheVariants as event
use Rattle.kr_rollout.specs.declared.line.Gave.{Gave}
use Rattle.kr_rollout.specs.declared.line.Gave.TheVariants as gave
use Rattle.kr_rollout.specs.declared.opening.Entry.{Entry}
use Rattle.kr_rollout.specs.declared.opening.Opening.{Opening}
use Rattle.kr_history.specs.Acting.{AddsEntry, Caller}
use Rattle.kr_rollout.specs.Callers.{gave_of}
use Rattle.kr_history.specs.Calls.{AdoptsNothing, HoldsMeanwhile, LetsGo}
use Rattle.kr_rollout.specs.Histories.{state_of}
use Rattle.kr_history.specs.Parts.{Adds}
use Rattle.kr_rollout.specs.Writes.{Writes}
use Rattle.kr_history.proofs.PartsAdd.{parts_follow}
use Rattle.kr_fleet.specs.declared.outcome.Read.{Read}
use Rattle.kr_fleet.specs.declared.outcome.Read.TheVariants as found
use Rattle.kr_fleet.specs.SingleCalls.{IsDelete, IsLeave}
use Rattle.kr_fleet.specs.ReadCalls.{Finds, IsRead}
use Rattle.kr_fleet.specs.WriteCalls.{IsWrite, Puts}
use Rattle.kr_script.specs.declared.script.ScriptLine.{ScriptLine}
use Rattle.kr_script.specs.declared.script.ScriptLine.TheVariants as line
use Rattle.kr_script.specs.declared.told.Told.{Told}
use Rattle.kr_script.specs.declared.told.Told.TheVariants as told
use Rattle.kr_workers.specs.Causes.{AsksPlugins, DrawsBytes, HasCause, IsDefined, OwnAdopted, OwnGave, StoreFails, TakesMemory, TellsAnswer, WritesRows}
use Rattle.kr_workers.specs.Replies.{Reply, told_of_delete, told_of_leave, told_of_read, told_of_refusal, told_of_write}
use Rattle.kr_workers.specs.ScriptLines.{Workplace}

-- ---- results

abbrev reply_in : Told → Reply → Told
reply_in other (Ok reply) = reply
reply_in other (Err spent) = other

abbrev is_told : Reply → Bool
is_told (Ok reply) = true
is_told (Err spent) = false

abbrev why_in : {T : Type 0} → CallNo → Result T CallNo → CallNo
why_in other (Ok done) = other
why_in other (Err why) = why

abbrev pub is_done : {T : Type 0} → Result T CallNo → Bool
is_done (Ok done) = true
is_done (Err why) = false

-- ---- the entry at which the store failed

pub store_failed : (old new : Caller) (asked : Event) → AddsEntry old asked answer.StoreFailed new
    → StoreFails old new.seen
store_failed old new asked a = record {
  before = a.others;
  entry = a.entry;
  behind = [];
  there = ap (λ (c : Caller). c.seen) a.new_is;
  own = a.records.seat_is;
  says = a.records.gave_is;
  rose = (subst (λ g. Writes g old.opening (state_of old.opening (old.seen ++ a.others)) a.entry)
      a.records.gave_is a.step.writes).3;
}

-- it is one of what is added before and behind it too
pub store_within : (a b : Caller) (p seen rest all : List Entry) → Adds a p b → StoreFails b seen
    → all ≡ seen ++ rest → StoreFails a all
store_within a b p seen rest all x s is =
    let starts : b.seen ++ s.before ≡ a.seen ++ (x.more ++ s.before) =
    ap (λ l. l ++ s.before) (ap (λ (c : Caller). c.seen) x.new_is)
    ∙ append_assoc a.seen x.more s.before in record {
      before = x.more ++ s.before;
      entry = s.entry;
      behind = s.behind ++ rest;
      there = is ∙ ap (λ l. l ++ rest) (s.there ∙ ap (λ l. l ++ s.entry ∷ s.behind) starts)
          ∙ append_assoc (a.seen ++ (x.more ++ s.before)) (s.entry ∷ s.behind) rest;
      own = s.own ∙ ap (λ (c : Caller). c.seat) x.new_is;
      says = s.says;
      rose = subst (λ (o : Opening). Rose (state_of o (a.seen ++ (x.more ++ s.before))).count
          s.entry.line.faults) (ap (λ (c : Caller). c.opening) x.new_is)
          (subst (λ l. Rose (state_of b.opening l).count s.entry.line.faults) starts s.rose);
    }

-- ---- the entry of an answer

pub own_gave : (old new : Caller) (asked : Event) (given : Answer) (Is : Gave → Type 0)
    → AddsEntry old asked given new → Is (gave_of given) → OwnGave old new.seen Is
own_gave old new asked given Is a is = record {
  before = a.others;
  entry = a.entry;
  behind = [];
  there = ap (λ (c : Caller). c.seen) a.new_is;
  own = a.records.seat_is;
  says = subst Is (sym a.records.gave_is) is;
}

-- it is one of what is added before and behind it too
pub gave_within : (a b : Caller) (p seen rest all : List Entry) (Is : Gave → Type 0) → Adds a p b
    → OwnGave b seen Is → all ≡ seen ++ rest → OwnGave a all Is
gave_within a b p seen rest all Is x g is =
    let starts : b.seen ++ g.before ≡ a.seen ++ (x.more ++ g.before) =
    ap (λ l. l ++ g.before) (ap (λ (c : Caller). c.seen) x.new_is)
    ∙ append_assoc a.seen x.more g.before in record {
      before = x.more ++ g.before;
      entry = g.entry;
      behind = g.behind ++ rest;
      there = is ∙ ap (λ l. l ++ rest) (g.there ∙ ap (λ l. l ++ g.entry ∷ g.behind) starts)
          ∙ append_assoc (a.seen ++ (x.more ++ g.before)) (g.entry ∷ g.behind) rest;
      own = g.own ∙ ap (λ (c : Caller). c.seat) x.new_is;
      says = g.says;
    }

-- so is one that adopted a configuration
pub adopted_within : (a b : Caller) (part seen rest all : List Entry) (p : Publication)
    → Adds a part b → OwnAdopted b seen p → all ≡ seen ++ rest → OwnAdopted a all p
adopted_within a b part seen rest all p x g is =
    let starts : b.seen ++ g.before ≡ a.seen ++ (x.more ++ g.before) =
    ap (λ l. l ++ g.before) (ap (λ (c : Caller). c.seen) x.new_is)
    ∙ append_assoc a.seen x.more g.before in record {
      before = x.more ++ g.before;
      entry = g.entry;
      behind = g.behind ++ rest;
      there = is ∙ ap (λ l. l ++ rest) (g.there ∙ ap (λ l. l ++ g.entry ∷ g.behind) starts)
          ∙ append_assoc (a.seen ++ (x.more ++ g.before)) (g.entry ∷ g.behind) rest;
      own = g.own ∙ ap (λ (c : Caller). c.seat) x.new_is;
      number = g.number;
      says = g.says;
      published = g.published;
    }

-- and of what is done while a generation is held
pub held_gave : {T : Type 0}
    → (Does : (number : ℕ) → Publication → Caller → Result T CallNo → Caller → Type 0)
    (replica : ℕ) (old new : Caller) (result : Result T CallNo) (Is : Gave → Type 0)
    → is_done result ≡ true → HoldsMeanwhile Does replica old result new
    → ((number : ℕ) (p : Publication) (from to : Caller) → Does number p from result to
    → OwnGave from to.seen Is) → OwnGave old new.seen Is
held_gave {T} Does replica old new result Is done h by = go h.lets_go
  where
    go : LetsGo h.acted h.done result new → OwnGave old new.seen Is
    go (inl g) = gave_within old h.adopted (h.adopts.entry ∷ []) h.acted.seen
        (g.0.others ++ g.0.entry ∷ []) new.seen Is
        (parts_follow.one old h.adopted (event.Adopt replica) (answer.Adopted h.number h.p)
        h.adopts)
        (by h.number h.p h.adopted h.acted (subst
        (λ (d : Result T CallNo). Does h.number h.p h.adopted d h.acted) (sym g.1) h.does))
        (ap (λ (c : Caller). c.seen) g.0.new_is
        ∙ append_assoc h.acted.seen g.0.others (g.0.entry ∷ []))
    go (inr n) = absurd (false≢true (sym (ap is_done n.1) ∙ done))

-- ---- the cause of a reply, from one workplace to another

abbrev pub HasCauseAt : {L D : Type 0} → (L → Link) → (D → ℕ) → ScriptLine → Workplace L D → Told
    → Workplace L D → Type 0
HasCauseAt link count asked old reply new =
    HasCause link count asked old reply new.caller.seen new.links new.dice

-- ---- why a call was cut short

module _ {L D : Type 0} (link : L → Link) (count : D → ℕ) (asked : ScriptLine) where
  abbrev pub Causes : Caller → List L → D → CallNo → Caller → List L → D → Type 0
  Causes old olds dice (refusal.Value why) new news after = IsDefined asked (told.Value why)
  Causes old olds dice (refusal.PluginFailed name) new news after =
      AsksPlugins asked × FaultRose link name olds news
  Causes old olds dice refusal.DiceFailed new news after =
      DrawsBytes asked × Rose (count dice) (count after)
  Causes old olds dice refusal.StoreFailed new news after =
      WritesRows asked × StoreFails old new.seen
  Causes old olds dice (refusal.StoreFull needed) new news after =
      IsDefined asked told.Full × OwnGave old new.seen (TellsAnswer told.Full)
  Causes old olds dice (refusal.Unhealthy name field text) new news after =
      IsDefined asked (told.Unhealthy name field text)
      × HasLinkWith link name (λ it. HasBreach it (Some (field, text))) olds
  Causes old olds dice refusal.Gone new news after =
      IsDefined asked told.Gone × OwnGave old new.seen (TellsAnswer told.Gone)
  Causes old olds dice refusal.Spent new news after = ⊤
  Causes old olds dice refusal.NoMemory new news after = TakesMemory asked

  -- the reply that tells it
  module _ (old new : Workplace L D) (reply : Told) where
    pub told_caused : (other : Told) → ◌≡◌ {A = Reply} (Ok reply) (Ok other)
        → HasCauseAt link count asked old other new → HasCauseAt link count asked old reply new
    told_caused other is h = subst (λ (r : Told). HasCauseAt link count asked old r new)
        (sym (ap (reply_in reply) is)) h

    pub refused_caused : (why : CallNo) → Ok reply ≡ told_of_refusal old.caller.seat why
        → Causes old.caller old.links old.dice why new.caller new.links new.dice
        → HasCauseAt link count asked old reply new
    refused_caused (refusal.Value why) is h = told_caused (told.Value why) is h
    refused_caused (refusal.PluginFailed name) is h = told_caused (told.FaultPlugin name) is h
    refused_caused refusal.DiceFailed is h =
        told_caused (told.FaultDice old.caller.seat) is (h.0, refl, h.1)
    refused_caused refusal.StoreFailed is h = told_caused told.FaultStore is h
    refused_caused (refusal.StoreFull needed) is h = told_caused told.Full is h
    refused_caused (refusal.Unhealthy name field text) is h =
        told_caused (told.Unhealthy name field text) is h
    refused_caused refusal.Gone is h = told_caused told.Gone is h
    refused_caused refusal.Spent is h = absurd (false≢true (sym (ap is_told is)))
    refused_caused refusal.NoMemory is h = told_caused told.Memory is h

  -- what is added before and behind changes no cause
  pub caused_within : (a b c d : Caller) (p q : List Entry) → Adds a p b → Adds c q d
      → (olds news : List L) (dice after : D) (why : CallNo) → Causes b olds dice why c news after
      → Causes a olds dice why d news after
  caused_within a b c d p q x y olds news dice after refusal.StoreFailed h = (
    h.0,
    store_within a b p c.seen y.more d.seen x h.1 (ap (λ (e : Caller). e.seen) y.new_is),
  )
  caused_within a b c d p q x y olds news dice after (refusal.StoreFull needed) h = (
    h.0,
    gave_within a b p c.seen y.more d.seen (TellsAnswer told.Full) x h.1
        (ap (λ (e : Caller). e.seen) y.new_is),
  )
  caused_within a b c d p q x y olds news dice after refusal.Gone h = (
    h.0,
    gave_within a b p c.seen y.more d.seen (TellsAnswer told.Gone) x h.1
        (ap (λ (e : Caller). e.seen) y.new_is),
  )
  caused_within a b c d p q x y olds news dice after other h = h

  -- nor does what links and random source did before
  pub caused_later : (old new : Caller) (names : List (List ℕ)) (olds mids news : List L)
      (dice between after : D) → AskedOnly link names olds mids → count dice ≤ count between
      → (why : CallNo) → Causes old mids between why new news after
      → Causes old olds dice why new news after
  caused_later old new names olds mids news dice between after a l (refusal.PluginFailed name) h =
      (h.0, rose_later link names name olds mids news a h.1)
  caused_later old new names olds mids news dice between after a l refusal.DiceFailed h =
      (h.0, Rose-later (count dice) (count between) (count after) l h.1)
  caused_later old new names olds mids news dice between after a l
      (refusal.Unhealthy name field text) h = (
        h.0,
        had link names name (λ it. HasBreach it (Some (field, text))) olds mids
            (breach_back (Some (field, text))) a h.1,
      )
  caused_later old new names olds mids news dice between after a l other h = h

  -- ---- where nothing was adopted, and where something was meanwhile

  pub early_caused : IsDefined asked told.Gone → TakesMemory asked
      → (replica : ℕ) (old new : Caller) (olds news : List L)
      (dice after : D) (why : CallNo) → AdoptsNothing replica old why new
      → Causes old olds dice why new news after
  early_caused gone memory replica old new olds news dice after refusal.Gone e = (
    gone,
    own_gave old new (event.Adopt replica) (answer.Gone replica) (TellsAnswer told.Gone) e
        (replica, refl),
  )
  early_caused gone memory replica old new olds news dice after refusal.Spent e = tt
  early_caused gone memory replica old new olds news dice after refusal.NoMemory e = memory
  early_caused gone memory replica old new olds news dice after other e = absurd e

  pub spent_caused : {T : Type 0} → (old new : Caller) (olds news : List L) (dice after : D)
      (why other : CallNo) → ◌≡◌ {A = Result T CallNo} (Err why) (Err other)
      → Causes old olds dice other new news after → Causes old olds dice why new news after
  spent_caused old new olds news dice after why other is h =
      subst (λ (w : CallNo). Causes old olds dice w new news after)
      (sym (ap (why_in why) is)) h

  pub held_caused : {T : Type 0}
      → (Does : (number : ℕ) → Publication → Caller → Result T CallNo → Caller → Type 0)
      (replica : ℕ) (old new : Caller) (olds news : List L) (dice after : D) (why : CallNo)
      → HoldsMeanwhile Does replica old (Err why) new
      → ((number : ℕ) (p : Publication) (from to : Caller) → Does number p from (Err why) to
      → Causes from olds dice why to news after)
      → Causes old olds dice why new news after
  held_caused {T} Does replica old new olds news dice after why h by = go h.lets_go
    where
      go : LetsGo h.acted h.done (Err why) new → Causes old olds dice why new news after
      go (inl g) = caused_within old h.adopted h.acted new (h.adopts.entry ∷ [])
          (g.0.entry ∷ [])
          (parts_follow.one old h.adopted (event.Adopt replica)
          (answer.Adopted h.number h.p) h.adopts)
          (parts_follow.one h.acted new event.LetGo answer.Released g.0) olds news dice after why
          (by h.number h.p h.adopted h.acted (subst
          (λ (d : Result T CallNo). Does h.number h.p h.adopted d h.acted) (sym g.1) h.does))
      go (inr n) = spent_caused {T = T} old new olds news dice after why refusal.Spent n.1 tt

-- ---- a put

module _ {L D : Type 0} (link : L → Link) (left : D → Option (List ℕ))
    (count : D → ℕ) where
  puts_caused : (resource path plain : List ℕ) (p : Publication) (old new : Caller)
      (olds news : List L) (dice after : D) (why : CallNo)
      → Puts left count resource path plain p old dice (Err why) new after
      → Causes link count (line.Put resource path plain) old olds dice why new news after
  puts_caused resource path plain p old new olds news dice after
      (refusal.Value value.LooksEncrypted) d = d.0.2
  puts_caused resource path plain p old new olds news dice after (refusal.Value value.TooLarge)
      d = d.0.1
  puts_caused resource path plain p old new olds news dice after refusal.DiceFailed d = (tt, d.0.2)
  puts_caused resource path plain p old new olds news dice after refusal.StoreFailed d =
      (tt, store_failed old new (event.Put path resource plain d.stored) d.put)
  puts_caused resource path plain p old new olds news dice after (refusal.StoreFull needed) d = (
    tt,
    own_gave old new (event.Put path resource plain d.stored) (answer.StoreFull needed)
        (TellsAnswer told.Full) d.put (needed, refl),
  )
  puts_caused resource path plain p old new olds news dice after refusal.Spent d = tt
  puts_caused resource path plain p old new olds news dice after refusal.NoMemory d = tt
  puts_caused resource path plain p old new olds news dice after other d = absurd d

  write_caused : (resource path plain : List ℕ) (replica : ℕ) (old new : Caller)
      (olds news : List L) (dice after : D) (why : CallNo)
      → IsWrite left count resource path plain replica old dice (Err why) new after
      → Causes link count (line.Put resource path plain) old olds dice why new news after
  write_caused resource path plain replica old new olds news dice after why (inl e) =
      early_caused link count (line.Put resource path plain) tt tt replica old new olds news dice
      after why e.0
  write_caused resource path plain replica old new olds news dice after why (inr h) =
      held_caused link count (line.Put resource path plain)
      (λ (number : ℕ) (p : Publication) (from : Caller) (done : Result ℕ CallNo) (to : Caller).
      Puts left count resource path plain p from dice done to after) replica old new olds news dice
      after why h (λ number p from to d.
      puts_caused resource path plain p from to olds news dice after why d)

  written_gave : (resource path plain : List ℕ) (replica : ℕ) (old new : Caller) (dice after : D)
      (revision : ℕ) → IsWrite left count resource path plain replica old dice (Ok revision) new
      after → OwnGave old new.seen (TellsAnswer (told.Put revision))
  written_gave resource path plain replica old new dice after revision (inl e) = absurd e
  written_gave resource path plain replica old new dice after revision (inr h) = held_gave
      (λ (number : ℕ) (p : Publication) (from : Caller) (done : Result ℕ CallNo) (to : Caller).
      Puts left count resource path plain p from dice done to after) replica old new (Ok revision)
      (TellsAnswer (told.Put revision)) refl h (λ number p from to d.
      own_gave from to (event.Put path resource plain d.stored) (answer.Written revision)
      (TellsAnswer (told.Put revision)) d.put refl)

  pub put_caused : (resource path plain : List ℕ) (replica : ℕ) (old new : Workplace L D)
      (reply : Told) (result : Result ℕ CallNo)
      → Ok reply ≡ told_of_write old.caller.seat result
      → IsWrite left count resource path plain replica old.caller old.dice result new.caller
      new.dice → HasCauseAt link count (line.Put resource path plain) old reply new
  put_caused resource path plain replica old new reply (Ok revision) is w =
      told_caused link count (line.Put resource path plain) old new reply (told.Put revision) is (
        tt,
        written_gave resource path plain replica old.caller new.caller old.dice new.dice
            revision w,
      )
  put_caused resource path plain replica old new reply (Err why) is w =
      refused_caused link count (line.Put resource path plain) old new reply why is
      (write_caused resource path plain replica old.caller new.caller old.links new.links old.dice
      new.dice why w)

  -- ---- a get

  finds_caused : (path : List ℕ) (p : Publication) (old new : Caller) (olds news : List L)
      (dice after : D) (why : CallNo) → Finds link path p old olds (Err why) new news
      → Causes link count (line.Get path) old olds dice why new news after
  finds_caused path p old new olds news dice after (refusal.Value why) d = d.1.content.0
  finds_caused path p old new olds news dice after (refusal.PluginFailed name) d =
      (tt, d.1.unseals.rose)
  finds_caused path p old new olds news dice after refusal.Spent d = tt
  finds_caused path p old new olds news dice after refusal.NoMemory d = tt
  finds_caused path p old new olds news dice after other d = absurd d

  read_caused : (path : List ℕ) (replica : ℕ) (old new : Caller) (olds news : List L)
      (dice after : D) (why : CallNo)
      → IsRead link path replica old olds (Err why) new news
      → Causes link count (line.Get path) old olds dice why new news after
  read_caused path replica old new olds news dice after why (inl e) =
      early_caused link count (line.Get path) tt tt replica old new olds news dice after why e.0
  read_caused path replica old new olds news dice after why (inr h) =
      held_caused link count (line.Get path)
      (λ (number : ℕ) (p : Publication) (from : Caller) (done : Result Read CallNo) (to : Caller).
      Finds link path p from olds done to news) replica old new olds news dice after why h
      (λ number p from to d. finds_caused path p from to olds news dice after why d)

  absent_gave : (path : List ℕ) (replica : ℕ) (old new : Caller) (olds news : List L)
      → IsRead link path replica old olds (Ok found.Absent) new news
      → OwnGave old new.seen (TellsAnswer told.Absent)
  absent_gave path replica old new olds news (inl e) = absurd e
  absent_gave path replica old new olds news (inr h) = held_gave
      (λ (number : ℕ) (p : Publication) (from : Caller) (done : Result Read CallNo) (to : Caller).
      Finds link path p from olds done to news) replica old new (Ok found.Absent)
      (TellsAnswer told.Absent) refl h (λ number p from to d.
      own_gave from to (event.Fetch path) answer.Absent (TellsAnswer told.Absent) d.0.absent refl)

  found_gave : (path : List ℕ) (replica : ℕ) (old new : Caller) (olds news : List L)
      (revision : ℕ) (plain : List ℕ) (stale : Bool)
      → IsRead link path replica old olds (Ok (found.Value revision plain stale)) new news
      → OwnGave old new.seen (TellsAnswer (told.Got revision plain))
  found_gave path replica old new olds news revision plain stale (inl e) = absurd e
  found_gave path replica old new olds news revision plain stale (inr h) = held_gave
      (λ (number : ℕ) (p : Publication) (from : Caller) (done : Result Read CallNo) (to : Caller).
      Finds link path p from olds done to news) replica old new
      (Ok (found.Value revision plain stale)) (TellsAnswer (told.Got revision plain)) refl h
      (λ number p from to d. own_gave from to (event.Fetch path) (answer.Found d.0)
      (TellsAnswer (told.Got revision plain)) d.1.found (ap (λ n. gave.Found n) d.2))

  pub get_caused : (path : List ℕ) (replica : ℕ) (old new : Workplace L D) (reply : Told)
      (result : Result Read CallNo) → Ok reply ≡ told_of_read old.caller.seat result
      → IsRead link path replica old.caller old.links result new.caller new.links
      → HasCauseAt link count (line.Get path) old reply new
  get_caused path replica old new reply (Ok found.Absent) is r =
      told_caused link count (line.Get path) old new reply told.Absent is
      (tt, absent_gave path replica old.caller new.caller old.links new.links r)
  get_caused path replica old new reply (Ok (found.Value revision plain stale)) is r =
      told_caused link count (line.Get path) old new reply (told.Got revision plain) is
      (tt, found_gave path replica old.caller new.caller old.links new.links revision plain stale r)
  get_caused path replica old new reply (Err why) is r =
      refused_caused link count (line.Get path) old new reply why is
      (read_caused path replica old.caller new.caller old.links new.links old.dice new.dice why r)

  -- ---- a delete and a leave

  delete_caused : (path : List ℕ) (old new : Caller) (olds news : List L) (dice after : D)
      (why : CallNo) → IsDelete path old (Err why) new
      → Causes link count (line.Delete path) old olds dice why new news after
  delete_caused path old new olds news dice after refusal.StoreFailed d =
      (tt, store_failed old new (event.Delete path) d)
  delete_caused path old new olds news dice after (refusal.StoreFull needed) d = (
    tt,
    own_gave old new (event.Delete path) (answer.StoreFull needed) (TellsAnswer told.Full) d
        (needed, refl),
  )
  delete_caused path old new olds news dice after refusal.Spent d = tt
  delete_caused path old new olds news dice after refusal.NoMemory d = tt
  delete_caused path old new olds news dice after other d = absurd d

  pub deleted_caused : (path : List ℕ) (old new : Workplace L D) (reply : Told)
      (result : Result (Option ℕ) CallNo) → Ok reply ≡ told_of_delete old.caller.seat result
      → IsDelete path old.caller result new.caller
      → HasCauseAt link count (line.Delete path) old reply new
  deleted_caused path old new reply (Ok None) is d =
      told_caused link count (line.Delete path) old new reply told.Absent is (
        tt,
        own_gave old.caller new.caller (event.Delete path) answer.Absent
            (TellsAnswer told.Absent) d refl,
      )
  deleted_caused path old new reply (Ok (Some revision)) is d =
      told_caused link count (line.Delete path) old new reply (told.Deleted revision) is (
        tt,
        own_gave old.caller new.caller (event.Delete path) (answer.Written revision)
            (TellsAnswer (told.Deleted revision)) d refl,
      )
  deleted_caused path old new reply (Err why) is d =
      refused_caused link count (line.Delete path) old new reply why is
      (delete_caused path old.caller new.caller old.links new.links old.dice new.dice why d)

  leave_caused : (named : ℕ) (old new : Caller) (olds news : List L) (dice after : D)
      (why : CallNo) → IsLeave named old (Err why) new
      → Causes link count (line.Leave named) old olds dice why new news after
  leave_caused named old new olds news dice after refusal.Spent d = tt
  leave_caused named old new olds news dice after other d = absurd d

  pub left_caused : (named : ℕ) (old new : Workplace L D) (reply : Told)
      (result : Result (Option ℕ) CallNo) → Ok reply ≡ told_of_leave old.caller.seat result
      → IsLeave named old.caller result new.caller
      → HasCauseAt link count (line.Leave named) old reply new
  left_caused named old new reply (Ok None) is d =
      told_caused link count (line.Leave named) old new reply told.Gone is (
        tt,
        own_gave old.caller new.caller (event.Leave named) (answer.Gone named)
            (TellsAnswer told.Gone) d (named, refl),
      )
  left_caused named old new reply (Ok (Some number)) is d =
      told_caused link count (line.Leave named) old new reply (told.Left number) is (
        tt,
        own_gave old.caller new.caller (event.Leave named) (answer.Departed number)
            (TellsAnswer (told.Left number)) d refl,
      )
  left_caused named old new reply (Err why) is d =
      refused_caused link count (line.Leave named) old new reply why is
      (leave_caused named old.caller new.caller old.links new.links old.dice new.dice why d)
