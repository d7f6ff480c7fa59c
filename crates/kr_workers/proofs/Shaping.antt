-- The shape of a line's part, by the relation of its call: of what holds a generation meanwhile, of
-- `put`, `get`, `delete` and `leave`, of `reload`, `join` and `refresh`.
use Rattle.std.specs.Prelude.{All, ⊤, ◌⊎◌, Contains, map}
use Rattle.std.proofs.Common.{◌≡◌, ℕ, Bool, true, false, List, [], ◌∷◌, ◌++◌, Option, None, Some, Result, Ok, Err, inl, inr, refl, ap, sym, subst, ◌∙◌, append-nil, suc, arith}
use Rattle.std.proofs.lemmas.Bool.{false≢true}
use Rattle.std.proofs.lemmas.List.{append_assoc, append_cancel_left}
use Rattle.std.proofs.lemmas.List.Elements.{All-cons, All-nil}
use Rattle.kr_base.specs.Faults.{Rose}
use Rattle.kr_config.specs.Kept.{ConfigEntry as setting, plugins_in}
use Rattle.kr_kms.specs.Calls.{Link}
use Rattle.kr_kms.specs.Health.{HasBreach}
use Rattle.kr_kms.specs.declared.health.Field.{Field}
use Rattle.kr_provider.specs.AskedLinks.{FaultRose, HasLinkWith, AskedOnly}
use Rattle.kr_provider.specs.Publication.{Publication, IsPublished}
use Rattle.kr_provider.specs.declared.refusal.ValueNo.{ValueNo}
use Rattle.kr_provider.specs.declared.refusal.ValueNo.TheVariants as value
use Rattle.kr_store.specs.declared.rows.Row.{Row}
use Rattle.kr_rollout.specs.declared.answer.Answer.{Answer}
use Rattle.kr_rollout.specs.declared.answer.Answer.TheVariants as answer
use Rattle.kr_rollout.specs.declared.event.Event.{Event}
use Rattle.kr_rollout.specs.declared.event.Event.TheVariants as event
use Rattle.kr_rollout.specs.declared.line.Did.TheVariants as did
use Rattle.kr_rollout.specs.declared.line.Gave.TheVariants as gave
use Rattle.kr_rollout.specs.declared.opening.Entry.{Entry}
use Rattle.kr_rollout.specs.Callers.{did_of, gave_of, holding}
use Rattle.kr_history.specs.Acting.{AddsEntry, Caller, IsCaller}
use Rattle.kr_history.specs.Calls.{AdoptsNothing, EndsEarly, HoldsMeanwhile, LetsGo}
use Rattle.kr_history.specs.Parts.{Adds}
use Rattle.kr_history.specs.declared.call.CallNo.{CallNo}
use Rattle.kr_history.specs.declared.call.CallNo.TheVariants as refusal
use Rattle.kr_history.proofs.Following.{adopted_law}
use Rattle.kr_history.proofs.HeldFacts.{held_is_named}
use Rattle.kr_history.proofs.HeldNothing.{holds_nothing}
use Rattle.kr_history.proofs.Nexts.{caller_next, adopted_admitted}
use Rattle.kr_fleet.specs.LoadCalls.{AreKeysSame, IsKeyChanged, AsksInVain, AsksUpTo, Brings, BringsBy, IsJoin, IsRefresh, IsReload, Refreshes, plugin_names, reload_of}
use Rattle.kr_fleet.specs.ReadCalls.{Finds, IsRead}
use Rattle.kr_fleet.specs.SingleCalls.{IsDelete, IsLeave}
use Rattle.kr_fleet.specs.WriteCalls.{IsWrite, Puts}
use Rattle.kr_fleet.specs.declared.outcome.Read.{Read}
use Rattle.kr_fleet.specs.declared.outcome.Read.TheVariants as read
use Rattle.kr_script.specs.declared.script.ScriptLine.TheVariants as line
use Rattle.kr_script.specs.declared.told.Told.{Told}
use Rattle.kr_script.specs.declared.told.Told.TheVariants as told
use Rattle.kr_workers.specs.Replies.{Reply, told_of_delete, told_of_leave, told_of_read, told_of_refusal, told_of_write, told_of_join, told_of_refresh, told_of_reload}
use Rattle.kr_workers.specs.Configurations.{CannotBeSealed, NamesPlugin, ReadBy}
use Rattle.kr_workers.specs.Shapes.{DeletePart, GetPart, HasDone, HoldsPart, IsAlone, IsOne, PartIs, PutPart, BringsRows, JoinPart, RefreshPart, ReloadPart}
use Rattle.kr_kms.specs.declared.seeds.SeedRow.{SeedRow}
use Rattle.kr_provider.proofs.AskedLists.{breach_back, had, rose_later}
use Rattle.kr_provider.specs.Publishing.{EndsWithin}
use Rattle.kr_history.specs.declared.outcome.Joining.{Joining}
use Rattle.kr_history.specs.declared.outcome.Joining.TheVariants as joining
use Rattle.kr_fleet.specs.declared.outcome.Loaded.{Loaded}
use Rattle.kr_fleet.specs.declared.outcome.Loaded.TheVariants as loaded

-- ---- what a caller adds

-- a part like this, behind which a caller is one still
pub record Parted (Is : List Entry → Type 0) (old new : Caller) : Type 0 where
  pub part : List Entry
  pub mine_is : new.mine ≡ old.mine ++ part
  pub next : IsCaller old → IsCaller new
  pub is : Is part

pub parted_same : (Is : List Entry → Type 0) (old new : Caller) → new ≡ old → Is []
    → Parted Is old new
parted_same Is old new same is = record {
  part = [];
  mine_is = ap (λ (c : Caller). c.mine) same ∙ sym (append-nil old.mine);
  next = λ k. subst IsCaller (sym same) k;
  is = is;
}

pub parted_one : (Is : List Entry → Type 0) (old new : Caller) (asked : Event) (given : Answer)
    → (a : AddsEntry old asked given new) → Is (a.entry ∷ []) → Parted Is old new
parted_one Is old new asked given a is = record {
  part = a.entry ∷ [];
  mine_is = ap (λ (c : Caller). c.mine) a.new_is;
  next = caller_next old new asked given a;
  is = is;
}

pub parted_as : (First Is : List Entry → Type 0) (old new : Caller)
    → ((part : List Entry) → First part → Is part) → Parted First old new → Parted Is old new
parted_as First Is old new so p =
    record { part = p.part; mine_is = p.mine_is; next = p.next; is = so p.part p.is }

pub parted_both : (First Second Is : List Entry → Type 0) (a b c : Caller) → Parted First a b
    → Parted Second b c
    → ((first second : List Entry) → First first → Second second → Is (first ++ second))
    → Parted Is a c
parted_both First Second Is a b c s t both = record {
  part = s.part ++ t.part;
  mine_is = t.mine_is ∙ ap (λ (l : List Entry). l ++ t.part) s.mine_is
      ∙ append_assoc a.mine s.part t.part;
  next = λ k. t.next (s.next k);
  is = both s.part t.part s.is t.is;
}

-- what a caller adds is one part alone
pub part_here : (Is : List Entry → Type 0) (old new : Caller) (part : List Entry)
    → Adds old part new → Parted Is old new → Is part
part_here Is old new part adds p = subst Is (append_cancel_left old.mine p.part part
    (sym p.mine_is ∙ ap (λ (c : Caller). c.mine) adds.new_is)) p.is

-- nor does one that stays add any
pub nothing_added : (old new : Caller) (part : List Entry) → Adds old part new → new ≡ old
    → part ≡ []
nothing_added old new part adds same = part_here (λ l. l ≡ []) old new part adds
    (parted_same (λ l. l ≡ []) old new same refl)

pub has_done : (old new : Caller) (asked : Event) (given : Answer)
    → (a : AddsEntry old asked given new) → HasDone a.entry (did_of asked) (gave_of given)
has_done old new asked given a =
    record { did_is = a.records.did_is; gave_is = a.records.gave_is }

-- ---- one entry of a seat that holds nothing

pub alone : (old new : Caller) (asked : Event) (given : Answer) → IsCaller old
    → holding old.mine ≡ None → AddsEntry old asked given new
    → Parted (IsAlone (did_of asked) (gave_of given)) old new
alone old new asked given k idle a = parted_one (IsAlone (did_of asked) (gave_of given)) old new
    asked given a (record {
      entry = a.entry;
      part_is = refl;
      is = has_done old new asked given a;
      held = holds_nothing old new asked given k a idle;
    })

-- ---- a generation is held meanwhile

-- the entry holds the generation
abbrev pub Holds : ℕ → Publication → Entry → Type 0
Holds number p e = (e.line.held ≡ Some number) × (e.published ≡ Some p)

module _ (number : ℕ) (p : Publication) where
  abbrev pub Mids : (List Entry → Type 0) → List Entry → Type 0
  Mids Is mids = All (Holds number p) mids × Is mids

  module _ (old new : Caller) (asked : Event) (given : Answer) (k : IsCaller old)
      (held : holding old.mine ≡ Some (number, p)) (a : AddsEntry old asked given new) where
    pub holds_entry : All (Holds number p) (a.entry ∷ [])
    holds_entry =
        let named = held_is_named old new asked given number p k a held in
        All-cons (Holds number p) a.entry [] (named.held, named.published)
        (All-nil (Holds number p))

    pub one_between : (Is : Entry → Type 0) → Is a.entry
        → Parted (Mids (λ mids. IsOne mids (did_of asked) (gave_of given) Is)) old new
    one_between Is is = parted_one (Mids (λ mids. IsOne mids (did_of asked) (gave_of given) Is))
        old new asked given a (
          holds_entry,
          record {
            entry = a.entry;
            mids_are = refl;
            does = has_done old new asked given a;
            is = is;
          },
        )

  pub none_between : (Is : List Entry → Type 0) (old new : Caller) → new ≡ old → Is []
      → Parted (Mids Is) old new
  none_between Is old new same is =
      parted_same (Mids Is) old new same (All-nil (Holds number p), is)

-- the Adopt before it and the LetGo behind it
pub held_parted : (own : ℕ) (old adopted acted new : Caller) (number : ℕ) (p : Publication)
    (Is : (p : Publication) → (number : ℕ) → List Entry → Type 0)
    → AddsEntry old (event.Adopt own) (answer.Adopted number p) adopted
    → AddsEntry acted event.LetGo answer.Released new
    → Parted (Mids number p (Is p number)) adopted acted
    → Parted (λ part. HoldsPart own part Is) old new
held_parted own old adopted acted new number p Is a g m = record {
  part = a.entry ∷ (m.part ++ g.entry ∷ []);
  mine_is = ap (λ (c : Caller). c.mine) g.new_is
      ∙ ap (λ (l : List Entry). l ++ g.entry ∷ [])
      (m.mine_is ∙ ap (λ (l : List Entry). l ++ m.part) (ap (λ (c : Caller). c.mine) a.new_is))
      ∙ append_assoc (old.mine ++ a.entry ∷ []) m.part (g.entry ∷ [])
      ∙ append_assoc old.mine (a.entry ∷ []) (m.part ++ g.entry ∷ []);
  next = λ k. caller_next acted new event.LetGo answer.Released g
      (m.next (caller_next old adopted (event.Adopt own) (answer.Adopted number p) a k));
  is = record {
    number = number;
    p = p;
    adopt = a.entry;
    mids = m.part;
    let_go = g.entry;
    part_is = refl;
    adopts = has_done old adopted (event.Adopt own) (answer.Adopted number p) a;
    adopted = a.records.shows;
    hold = m.is.0;
    lets_go = has_done acted new event.LetGo answer.Released g;
    is = m.is.1;
  };
}

-- the replica was out when its generation was to be adopted
abbrev pub IsOut : (replica : ℕ) → (part : List Entry) → Type 0
IsOut replica part = IsAlone (did.Adopt replica) (gave.Gone replica) part

pub out_parted : (own : ℕ) (old new : Caller) → IsCaller old → holding old.mine ≡ None
    → AddsEntry old (event.Adopt own) (answer.Gone own) new → Parted (IsOut own) old new
out_parted own old new k idle a = alone old new (event.Adopt own) (answer.Gone own) k idle a

-- ---- each call, by what it answers

-- a reply, or want of memory in place of none
abbrev pub reply_of : Reply → Told
reply_of (Ok reply) = reply
reply_of (Err spent) = told.Memory

-- where there is a reply this holds of it
abbrev pub IfTold : (Told → Type 0) → Reply → Type 0
IfTold Is (Ok reply) = Is reply
IfTold Is (Err spent) = ⊤

abbrev has_reply : Reply → Bool
has_reply (Ok reply) = true
has_reply (Err spent) = false

-- ---- which plugin ended it

named_there : (before : List SeedRow) (row : SeedRow) (rest : List SeedRow)
    → Contains (map (λ (r : SeedRow). r.name) (before ++ row ∷ rest)) row.name
named_there [] row rest = (0, omega arith, refl)
named_there (first ∷ before) row rest =
    let c = named_there before row rest in (suc c.0, omega (arith, c.1), c.2)

-- one that was asked is one of the configuration
asked_there : {L : Type 0} (link : L → Link) (links : List L) (p : Publication) (name : List ℕ)
    → IsPublished p → AsksUpTo link links p.seeds name → Contains (plugins_in p.rows) name
asked_there link links p name published a = (published.names name).0
    (subst (λ n. Contains (map (λ (r : SeedRow). r.name) p.seeds) n) a.named
    (subst (λ (seeds : List SeedRow). Contains (map (λ (r : SeedRow). r.name) seeds) a.row.name)
    (sym a.seeds_are) (named_there a.before a.row a.rest)))

module _ {L D : Type 0} (link : L → Link) (left : D → Option (List ℕ))
    (count : D → ℕ) where
  ends_there : (rows : List setting) (links : List L) (dice after : D) (name : List ℕ)
      → EndsWithin link left count rows links dice after name
      → Contains (plugins_in rows) name
  ends_there rows links dice after name (inl e) = e.there
  ends_there rows links dice after name (inr e) = e.2.there

module _ {L D : Type 0} (link : L → Link) (left : D → Option (List ℕ))
    (count : D → ℕ) (own : ℕ) (old new : Caller) (k : IsCaller old)
    (idle : holding old.mine ≡ None) (olds news : List L) (dice after : D)
    (RewriteDone : Told → Type 0) (part : List Entry) (adds : Adds old part new) where
  abbrev Fails : (name : List ℕ) → Type 0
  Fails name = FaultRose link name olds news

  abbrev Draws : Type 0
  Draws = Rose (count dice) (count after)

  abbrev Breaks : (name : List ℕ) → Field → (text : List ℕ) → Type 0
  Breaks name field text = HasLinkWith link name (λ it. HasBreach it (Some (field, text))) olds

  abbrev KeysSame : Publication → Type 0
  KeysSame p = AreKeysSame link olds p.seeds

  abbrev KeyChanged : Publication → Type 0
  KeyChanged p = IsKeyChanged link olds p.seeds

  -- ---- one entry, or none

  single : (asked : Event) (given : Answer) → AddsEntry old asked given new
      → IsAlone (did_of asked) (gave_of given) part
  single asked given a = part_here (IsAlone (did_of asked) (gave_of given)) old new part adds
      (alone old new asked given k idle a)

  none : new ≡ old → part ≡ []
  none same = nothing_added old new part adds same

  -- ---- a generation is adopted first, and let go at the end

  -- the replica was out, or memory lacked
  early_part : (Part : Told → Type 0) → (IsOut own part → Part told.Gone)
      → (part ≡ [] → Part told.Memory)
      → (IsAlone (did.Adopt own) gave.Nothing part → Part told.Memory) → (why : CallNo)
      → AdoptsNothing own old why new → IfTold Part (told_of_refusal old.seat why)
  early_part Part gone nothing adopted refusal.Gone e =
      gone (part_here (IsOut own) old new part adds (out_parted own old new k idle e))
  early_part Part gone nothing adopted refusal.Spent e = tt
  early_part Part gone nothing adopted refusal.NoMemory (inl same) = nothing (none same)
  early_part Part gone nothing adopted refusal.NoMemory (inr e) =
      adopted (single (event.Adopt own) answer.NoMemory e)
  early_part Part gone nothing adopted other e = absurd e

  -- what is done meanwhile is told, unless the seat was spent before the end
  held_part : {T : Type 0} → (Part : Told → Type 0) (tells : Result T CallNo → Reply)
      (Stays : Type 0)
      (Does : (number : ℕ) → Publication → Caller → Result T CallNo → Caller → Type 0)
      → ((why : CallNo) → IfTold Part (told_of_refusal old.seat why)
      → IfTold Part (tells (Err why)))
      → (IsOut own part → Part told.Gone) → (part ≡ [] → Part told.Memory)
      → (IsAlone (did.Adopt own) gave.Nothing part → Part told.Memory)
      → ((number : ℕ) (p : Publication) (adopted acted : Caller)
      → AddsEntry old (event.Adopt own) (answer.Adopted number p) adopted
      → AddsEntry acted event.LetGo answer.Released new
      → (done : Result T CallNo) → Does number p adopted done acted → IfTold Part (tells done))
      → (result : Result T CallNo)
      → EndsEarly own Stays old result new ⊎ HoldsMeanwhile Does own old result new
      → IfTold Part (tells result)
  held_part Part tells Stays Does told_why gone nothing adopted by (Ok done) (inl e) = absurd e
  held_part Part tells Stays Does told_why gone nothing adopted by (Err why) (inl e) =
      told_why why (early_part Part gone nothing adopted why e.0)
  held_part {T} Part tells Stays Does told_why gone nothing adopted by result (inr h) = go h.lets_go
    where
      go : LetsGo h.acted h.done result new → IfTold Part (tells result)
      go (inl g) = subst (λ (r : Result T CallNo). IfTold Part (tells r)) (sym g.1)
          (by h.number h.p h.adopted h.acted h.adopts g.0 h.done h.does)
      go (inr n) = subst (λ (r : Result T CallNo). IfTold Part (tells r)) (sym n.1)
          (told_why refusal.Spent tt)

  -- ---- a put

  module _ (resource path plain : List ℕ) where
    abbrev PutsPart : Told → Type 0
    PutsPart reply =
        PutPart Fails Draws Breaks KeysSame KeyChanged NamesPlugin CannotBeSealed ReadBy RewriteDone old.seat
        own part resource path plain reply

    abbrev asked_put : (stored : List ℕ) → Event
    asked_put stored = event.Put path resource plain stored

    module _ (number : ℕ) (p : Publication) (adopted acted : Caller)
        (a : AddsEntry old (event.Adopt own) (answer.Adopted number p) adopted)
        (g : AddsEntry acted event.LetGo answer.Released new) where
      k_adopted : IsCaller adopted
      k_adopted = caller_next old adopted (event.Adopt own) (answer.Adopted number p) a k

      put_one : (stored : List ℕ) (given : Answer)
          → AddsEntry adopted (asked_put stored) given acted
          → HoldsPart own part (λ p number mids.
          IsOne mids (did.Put path resource plain) (gave_of given) (λ e. ⊤))
      put_one stored given does =
          let Is : (p : Publication) → (number : ℕ) → List Entry → Type 0 = λ p number mids.
          IsOne mids (did.Put path resource plain) (gave_of given) (λ e. ⊤) in
          part_here (λ part. HoldsPart own part Is) old new part adds
          (held_parted own old adopted acted new number p Is a g
          (one_between number p adopted acted (asked_put stored) given k_adopted
          (adopted_law old adopted own number p a) does (λ e. ⊤) tt))

      put_none : acted ≡ adopted → HoldsPart own part (λ p number mids. mids ≡ [])
      put_none same =
          let Is : (p : Publication) → (number : ℕ) → List Entry → Type 0 = λ p number mids.
          mids ≡ [] in
          part_here (λ part. HoldsPart own part Is) old new part adds
          (held_parted own old adopted acted new number p Is a g
          (none_between number p (λ mids. mids ≡ []) adopted acted same refl))

      put_refused : (why : ValueNo) → CannotBeSealed p resource plain why → acted ≡ adopted
          → HoldsPart own part (λ p number mids.
          (mids ≡ []) × CannotBeSealed p resource plain why)
      put_refused why cannot same =
          let Is : (p : Publication) → (number : ℕ) → List Entry → Type 0 = λ p number mids.
          (mids ≡ []) × CannotBeSealed p resource plain why in
          part_here (λ part. HoldsPart own part Is) old new part adds
          (held_parted own old adopted acted new number p Is a g
          (none_between number p (Is p number) adopted acted same (refl, cannot)))

      puts_part : (result : Result ℕ CallNo)
          → Puts left count resource path plain p adopted dice result acted after
          → IfTold PutsPart (told_of_write old.seat result)
      puts_part (Ok revision) d = put_one d.stored (answer.Written revision) d.put
      puts_part (Err (refusal.Value value.LooksEncrypted)) d =
          put_refused value.LooksEncrypted (d.0.1, d.0.2) d.1
      puts_part (Err (refusal.Value value.TooLarge)) d = put_refused value.TooLarge d.0.1 d.1
      puts_part (Err refusal.DiceFailed) d = (refl, d.0.2, put_none d.1)
      puts_part (Err refusal.StoreFailed) d = put_one d.stored answer.StoreFailed d.put
      puts_part (Err (refusal.StoreFull needed)) d =
          (needed, put_one d.stored (answer.StoreFull needed) d.put)
      puts_part (Err refusal.Spent) d = tt
      puts_part (Err refusal.NoMemory) (inl d) = inr (inr (inl (put_none d.1)))
      puts_part (Err refusal.NoMemory) (inr d) =
          inr (inr (inr (put_one d.stored answer.NoMemory d.put)))
      puts_part (Err other) d = absurd d

    pub write_part : (result : Result ℕ CallNo)
        → IsWrite left count resource path plain own old dice result new after
        → IfTold PutsPart (told_of_write old.seat result)
    write_part = held_part PutsPart (told_of_write old.seat) (after ≡ dice)
        (λ (number : ℕ) (p : Publication) (from : Caller) (done : Result ℕ CallNo) (to : Caller).
        Puts left count resource path plain p from dice done to after) (λ why x. x) (λ x. x)
        (λ x. inl x) (λ x. inr (inl x)) puts_part

  -- ---- a get

  module _ (path : List ℕ) where
    abbrev GetsPart : Told → Type 0
    GetsPart reply = GetPart Fails Draws Breaks KeysSame KeyChanged NamesPlugin CannotBeSealed ReadBy
        RewriteDone old.seat own part path reply

    module _ (number : ℕ) (p : Publication) (adopted acted : Caller)
        (a : AddsEntry old (event.Adopt own) (answer.Adopted number p) adopted)
        (g : AddsEntry acted event.LetGo answer.Released new) where
      get_one : (given : Answer) (f : AddsEntry adopted (event.Fetch path) given acted)
          (Is : Publication → Entry → Type 0) → Is p f.entry
          → HoldsPart own part (λ p number mids.
          IsOne mids (did.Fetch path) (gave_of given) (Is p))
      get_one given f Is is =
          let All_ : (p : Publication) → (number : ℕ) → List Entry → Type 0 = λ p number mids.
          IsOne mids (did.Fetch path) (gave_of given) (Is p) in
          part_here (λ part. HoldsPart own part All_) old new part adds
          (held_parted own old adopted acted new number p All_ a g
          (one_between number p adopted acted (event.Fetch path) given
          (caller_next old adopted (event.Adopt own) (answer.Adopted number p) a k)
          (adopted_law old adopted own number p a) f (Is p) is))

      gets_part : (result : Result Read CallNo)
          → Finds link path p adopted olds result acted news
          → IfTold GetsPart (told_of_read old.seat result)
      gets_part (Ok read.Absent) d = get_one answer.Absent d.0.absent (λ p e. ⊤) tt
      gets_part (Ok (read.Value revision plain stale)) d = subst
          (λ n. HoldsPart own part (λ p number mids.
          IsOne mids (did.Fetch path) (gave.Found n) (λ e. ⊤))) d.2
          (get_one (answer.Found d.0) d.1.found (λ p e. ⊤) tt)
      gets_part (Err (refusal.Value why)) d =
          (d.0.revision, get_one (answer.Found d.0) d.1.found (λ p e. ⊤) tt)
      gets_part (Err (refusal.PluginFailed name)) d = (
        d.1.unseals.rose,
        d.0.revision,
        get_one (answer.Found d.0) d.1.found
            (λ p e. (row : Row) × (e.row ≡ Some row) × ReadBy name p row)
            (d.0, d.1.found.records.shows, d.1.unseals.reader),
      )
      gets_part (Err refusal.Spent) d = tt
      gets_part (Err refusal.NoMemory) (inl d) = inr (inr (inr (
        d.0.revision,
        get_one (answer.Found d.0) d.1.found (λ p e. ⊤) tt,
      )))
      gets_part (Err refusal.NoMemory) (inr d) =
          inr (inr (inl (get_one answer.NoMemory d.0 (λ p e. ⊤) tt)))
      gets_part (Err other) d = absurd d

    pub read_part : (result : Result Read CallNo)
        → IsRead link path own old olds result new news
        → IfTold GetsPart (told_of_read old.seat result)
    read_part = held_part GetsPart (told_of_read old.seat) (news ≡ olds)
        (λ (number : ℕ) (p : Publication) (from : Caller) (done : Result Read CallNo) (to : Caller).
        Finds link path p from olds done to news) (λ why x. x) (λ x. x) (λ x. inl x)
        (λ x. inr (inl x)) gets_part

  -- ---- a delete and a leave

  module _ (path : List ℕ) where
    abbrev DeletesPart : Told → Type 0
    DeletesPart reply =
        DeletePart Fails Draws Breaks KeysSame KeyChanged NamesPlugin CannotBeSealed ReadBy RewriteDone
        old.seat own part path reply

    pub delete_part : (result : Result (Option ℕ) CallNo) → IsDelete path old result new
        → IfTold DeletesPart (told_of_delete old.seat result)
    delete_part (Ok (Some revision)) d = single (event.Delete path) (answer.Written revision) d
    delete_part (Ok None) d = single (event.Delete path) answer.Absent d
    delete_part (Err refusal.StoreFailed) d = single (event.Delete path) answer.StoreFailed d
    delete_part (Err (refusal.StoreFull needed)) d =
        (needed, single (event.Delete path) (answer.StoreFull needed) d)
    delete_part (Err refusal.Spent) d = tt
    delete_part (Err refusal.NoMemory) (inl same) = inl (none same)
    delete_part (Err refusal.NoMemory) (inr d) =
        inr (single (event.Delete path) answer.NoMemory d)
    delete_part (Err other) d = absurd d

  module _ (settings_in : (file : List ℕ) → Option (List setting)) (named : ℕ) where
    abbrev LeavesPart : Told → Type 0
    LeavesPart reply = PartIs Fails Draws Breaks KeysSame KeyChanged NamesPlugin CannotBeSealed ReadBy
        RewriteDone old.seat own part settings_in (line.Leave named) reply

    -- it never wants memory
    pub leave_part : (result : Result (Option ℕ) CallNo) (reply : Told)
        → Ok reply ≡ told_of_leave old.seat result → IsLeave named old result new
        → LeavesPart reply
    leave_part (Ok (Some number)) reply is d = subst LeavesPart (sym (ap reply_of is))
        (single (event.Leave named) (answer.Departed number) d)
    leave_part (Ok None) reply is d = subst LeavesPart (sym (ap reply_of is))
        (single (event.Leave named) (answer.Gone named) d)
    leave_part (Err refusal.Spent) reply is d = absurd (false≢true (sym (ap has_reply is)))
    leave_part (Err other) reply is d = absurd d

  -- ---- a reload and a join

  module _ (named : ℕ) (rows : List setting) (brings : Publication → Event) where
    abbrev Brought : Answer → Type 0
    Brought given = BringsRows (λ p. did_of (brings p)) rows (gave_of given) part

    brought : (given : Answer)
        → Brings link left count rows brings old olds dice given new news after → Brought given
    brought given b = record {
      p = b.p;
      rows_are = b.publishes.0;
      brought = single (brings b.p) given b.brought;
    }

    -- what is so where the settings aren't published, or come to nothing
    abbrev IsCut : CallNo → Type 0
    IsCut (refusal.PluginFailed name) = Fails name × NamesPlugin rows name × (part ≡ [])
    IsCut refusal.DiceFailed = (old.seat ≡ old.seat) × Draws × (part ≡ [])
    IsCut (refusal.Unhealthy name field text) =
        Breaks name field text × NamesPlugin rows name × (part ≡ [])
    IsCut refusal.Gone = Brought (answer.Gone named)
    IsCut refusal.Spent = ⊤
    IsCut refusal.NoMemory = (part ≡ []) ⊎ Brought answer.NoMemory
    IsCut why = ⊥

    cut_part : (why : CallNo)
        → BringsBy link left count rows brings named old olds dice why new news after → IsCut why
    cut_part (refusal.PluginFailed name) b =
        (b.0.0, ends_there link left count rows olds dice after name b.0.1, none b.1)
    cut_part refusal.DiceFailed b = (refl, b.0.3, none b.1)
    cut_part (refusal.Unhealthy name field text) b = (b.0.1, b.0.0.there, none b.1)
    cut_part refusal.Gone b = brought (answer.Gone named) b
    cut_part refusal.Spent b = tt
    cut_part refusal.NoMemory (inl b) = inl (none b.1)
    cut_part refusal.NoMemory (inr (inl b)) = inl (none b.1)
    cut_part refusal.NoMemory (inr (inr b)) = inr (brought answer.NoMemory b)
    cut_part other b = absurd b

  module _ (named : ℕ) (rows : List setting) where
    abbrev pub ReloadsPart : Told → Type 0
    ReloadsPart reply =
        ReloadPart Fails Draws Breaks KeysSame KeyChanged NamesPlugin CannotBeSealed ReadBy RewriteDone
        old.seat own part named rows reply

    abbrev pub JoinsPart : Told → Type 0
    JoinsPart reply =
        JoinPart Fails Draws Breaks KeysSame KeyChanged NamesPlugin CannotBeSealed ReadBy RewriteDone old.seat
        own part named rows reply

    pub reload_part : (result : Result Loaded CallNo)
        → IsReload link left count rows named old olds dice result new news after
        → IfTold ReloadsPart (told_of_reload old.seat result)
    reload_part (Ok (loaded.Generation number)) b =
        brought named rows (reload_of named None) (answer.Reloaded number) b
    reload_part (Ok (loaded.Refused verdict)) b =
        brought named rows (reload_of named None) (answer.Refused verdict) b
    reload_part (Ok other) b = absurd b
    reload_part (Err refusal.Spent) b = tt
    reload_part (Err other) b = cut_part named rows (reload_of named None) other b

    pub join_part : (result : Result Joining CallNo)
        → IsJoin link left count rows named old olds dice result new news after
        → IfTold JoinsPart (told_of_join old.seat result)
    join_part (Ok (joining.Generation number)) b =
        brought named rows (event.Join named) (answer.Joined number) b
    join_part (Ok (joining.Refused verdict)) b =
        brought named rows (event.Join named) (answer.Refused verdict) b
    join_part (Ok (joining.Present number)) b =
        brought named rows (event.Join named) (answer.Present number) b
    join_part (Err refusal.Gone) b = absurd b
    join_part (Err other) b = cut_part named rows (event.Join named) other b

  -- ---- a refresh

  abbrev RefreshesPart : Told → Type 0
  RefreshesPart reply =
      RefreshPart Fails Draws Breaks KeysSame KeyChanged NamesPlugin CannotBeSealed ReadBy RewriteDone old.seat
      own part reply

  module _ (number : ℕ) (p : Publication) (adopted acted : Caller)
      (a : AddsEntry old (event.Adopt own) (answer.Adopted number p) adopted)
      (g : AddsEntry acted event.LetGo answer.Released new) where
    published : IsPublished p
    published = (adopted_admitted old adopted own number p k a).0

    -- nothing was brought
    none_brought : (Why : Publication → Type 0) → Why p → acted ≡ adopted
        → HoldsPart own part (λ p number mids. (mids ≡ []) × Why p)
    none_brought Why why same =
        let Is : (p : Publication) → (number : ℕ) → List Entry → Type 0 = λ p number mids.
        (mids ≡ []) × Why p in
        part_here (λ part. HoldsPart own part Is) old new part adds
        (held_parted own old adopted acted new number p Is a g
        (none_between number p (Is p number) adopted acted same (refl, why)))

    -- the settings were brought anew
    renewed : (given : Answer) (links : List L) → KeyChanged p
        → Brings link left count p.rows (reload_of own (Some number)) adopted links dice given
        acted news after
        → HoldsPart own part (λ p number mids. KeyChanged p × (anew : Publication)
        × (anew.rows ≡ p.rows)
        × IsOne mids (did.Reload own anew (Some number)) (gave_of given) (λ e. ⊤))
    renewed given links changed b =
        let Is : (p : Publication) → (number : ℕ) → List Entry → Type 0 = λ p number mids.
        KeyChanged p × (anew : Publication) × (anew.rows ≡ p.rows)
        × IsOne mids (did.Reload own anew (Some number)) (gave_of given) (λ e. ⊤) in
        let asked = reload_of own (Some number) b.p in
        part_here (λ part. HoldsPart own part Is) old new part adds
        (held_parted own old adopted acted new number p Is a g
        (parted_one (Mids number p (Is p number)) adopted acted asked given b.brought (
          holds_entry number p adopted acted asked given
              (caller_next old adopted (event.Adopt own) (answer.Adopted number p) a k)
              (adopted_law old adopted own number p a) b.brought,
          (
            changed,
            b.p,
            b.publishes.0,
            record {
              entry = b.brought.entry;
              mids_are = refl;
              does = has_done adopted acted asked given b.brought;
              is = tt;
            },
          ),
        )))

    -- memory lacked, behind the Adopt alone or as the settings were to be brought
    abbrev Lacks : Publication → ℕ → List Entry → Type 0
    Lacks p number mids = (mids ≡ []) ⊎ ((anew : Publication) × (anew.rows ≡ p.rows)
        × IsOne mids (did.Reload own anew (Some number)) gave.Nothing (λ e. ⊤))

    lacks_early : acted ≡ adopted → HoldsPart own part Lacks
    lacks_early same = part_here (λ part. HoldsPart own part Lacks) old new part adds
        (held_parted own old adopted acted new number p Lacks a g
        (none_between number p (Lacks p number) adopted acted same (inl refl)))

    lacks_late : (links : List L)
        → Brings link left count p.rows (reload_of own (Some number)) adopted links dice
        answer.NoMemory acted news after
        → HoldsPart own part Lacks
    lacks_late links b =
        let asked = reload_of own (Some number) b.p in
        part_here (λ part. HoldsPart own part Lacks) old new part adds
        (held_parted own old adopted acted new number p Lacks a g
        (parted_one (Mids number p (Lacks p number)) adopted acted asked answer.NoMemory b.brought (
          holds_entry number p adopted acted asked answer.NoMemory
              (caller_next old adopted (event.Adopt own) (answer.Adopted number p) a k)
              (adopted_law old adopted own number p a) b.brought,
          inr (
            b.p,
            b.publishes.0,
            record {
              entry = b.brought.entry;
              mids_are = refl;
              does = has_done adopted acted asked answer.NoMemory b.brought;
              is = tt;
            },
          ),
        )))

    -- the plugins couldn't be asked
    in_vain : (why : CallNo) → AsksInVain link olds p.seeds why news → acted ≡ adopted
        → IfTold RefreshesPart (told_of_refusal old.seat why)
    in_vain (refusal.PluginFailed name) v same = (
      v.1,
      none_brought (λ p. Contains (plugins_in p.rows) name)
          (asked_there link olds p name published v.0) same,
    )
    in_vain (refusal.Unhealthy name field text) v same = (
      v.1,
      none_brought (λ p. Contains (plugins_in p.rows) name)
          (asked_there link olds p name published v.0) same,
    )
    in_vain refusal.NoMemory v same = inr (inr (lacks_early same))
    in_vain other v same = absurd v

    -- or were, and the settings couldn't be published or brought
    renews_not : (links : List L) → AskedOnly link (plugin_names p.seeds) olds links
        → KeyChanged p → (why : CallNo)
        → BringsBy link left count p.rows (reload_of own (Some number)) own adopted links dice
        why acted news after
        → IfTold RefreshesPart (told_of_refusal old.seat why)
    renews_not links asked changed (refusal.PluginFailed name) b = (
      rose_later link (plugin_names p.seeds) name olds links news asked b.0.0,
      none_brought (λ p. Contains (plugins_in p.rows) name)
          (ends_there link left count p.rows links dice after name b.0.1) b.1,
    )
    renews_not links asked changed refusal.DiceFailed b = (
      refl,
      b.0.3,
      part_here (λ part. HoldsPart own part (λ p number mids. mids ≡ [])) old new part adds
          (held_parted own old adopted acted new number p (λ p number mids. mids ≡ []) a g
          (none_between number p (λ mids. mids ≡ []) adopted acted b.1 refl)),
    )
    renews_not links asked changed (refusal.Unhealthy name field text) b = (
      had link (plugin_names p.seeds) name (λ it. HasBreach it (Some (field, text))) olds links
          (breach_back (Some (field, text))) asked b.0.1,
      none_brought (λ p. Contains (plugins_in p.rows) name) b.0.0.there b.1,
    )
    renews_not links asked changed refusal.Gone b = inr (renewed (answer.Gone own) links changed b)
    renews_not links asked changed refusal.Spent b = tt
    renews_not links asked changed refusal.NoMemory (inl b) = inr (inr (lacks_early b.1))
    renews_not links asked changed refusal.NoMemory (inr (inl b)) = inr (inr (lacks_early b.1))
    renews_not links asked changed refusal.NoMemory (inr (inr b)) =
        inr (inr (lacks_late links b))
    renews_not links asked changed other b = absurd b

    refreshes_part : (result : Result Loaded CallNo)
        → Refreshes link left count own number p adopted olds dice result acted news after
        → IfTold RefreshesPart (told_of_refresh old.seat result)
    refreshes_part (Ok (loaded.Unchanged same)) r = none_brought KeysSame r.1 r.2
    refreshes_part (Ok (loaded.Generation made)) r =
        renewed (answer.Reloaded made) r.asked r.changed r.brought
    refreshes_part (Ok (loaded.Moved current)) r =
        renewed (answer.Moved current) r.asked r.changed r.brought
    refreshes_part (Ok (loaded.Refused verdict)) r = absurd r
    refreshes_part (Err why) (inl r) = in_vain why r.0 r.1
    refreshes_part (Err why) (inr r) = renews_not r.asked r.links r.changed why r.brought

  pub refresh_part : (result : Result Loaded CallNo)
      → IsRefresh link left count own old olds dice result new news after
      → IfTold RefreshesPart (told_of_refresh old.seat result)
  refresh_part = held_part RefreshesPart (told_of_refresh old.seat)
      ((news ≡ olds) × (after ≡ dice))
      (λ (number : ℕ) (p : Publication) (from : Caller) (done : Result Loaded CallNo)
      (to : Caller). Refreshes link left count own number p from olds dice done to news
      after × AskedOnly link (plugin_names p.seeds) olds news) (λ why x. x) (λ x. inl x)
      (λ x. inl x) (λ x. inr (inl x))
      (λ number p adopted acted a g done d. refreshes_part number p adopted acted a g done d.0)
