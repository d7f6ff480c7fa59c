-- What happens to the keys of a bench, call after call.
use Rattle.std.proofs.Common.{◌≡◌, ℕ, Bool, true, false, ◌||◌, List, [], ◌∷◌, ◌++◌, drop, length, Option, None, Some, Result, Err, refl, sym, ap, subst, ◌∙◌, inl, inr, append-nil}
use Rattle.std.proofs.lemmas.List.{append_assoc, drop_at}
use Rattle.kr_base.specs.Walks.{Walk}
use Rattle.kr_base.proofs.Walks.{walk_then}
use Rattle.kr_provider.specs.BenchKeys.{ClearsKeys, LeavesKeys, TakesKeys, adoption_of}
use Rattle.kr_provider.specs.BenchState.{Adoption, BenchState}
use Rattle.kr_provider.specs.KeyPages.{HoldKeys, adopted_secrets, size_of}
use Rattle.kr_provider.specs.Publication.{Publication}
use Rattle.kr_provider.proofs.FollowedPages.{holds_still}
use Rattle.kr_provider.proofs.LeftKeys.{laid_down as laid_once, leaves_then}
use Rattle.kr_rollout.specs.declared.answer.Answer.{Answer}
use Rattle.kr_rollout.specs.declared.answer.Answer.TheVariants as answer
use Rattle.kr_rollout.specs.declared.event.Event.{Event}
use Rattle.kr_rollout.specs.declared.event.Event.TheVariants as event
use Rattle.kr_rollout.specs.declared.line.Gave.TheVariants.{Adopted, Released}
use Rattle.kr_rollout.specs.declared.opening.Entry.{Entry}
use Rattle.kr_rollout.specs.Callers.{gave_of, holding}
use Rattle.kr_history.specs.Acting.{Caller, AddsEntry}
use Rattle.kr_history.specs.CallerLaws.{LeavesHolding}
use Rattle.kr_history.specs.Calls.{AdoptsNothing, LetsGo}
use Rattle.kr_history.specs.KeyMoments.{Happens, KeysAtEachMoment, LaysDown, Moment, Said, TakesUp, added, adopts_in, call_moments, has_adopted, is_adoption, laid_down, moments_at, moments_of, taken_up}
use Rattle.kr_history.specs.TakingUp.{HasTakenUp, TakesUpCurrent}
use Rattle.kr_history.specs.declared.call.CallNo.{CallNo}
use Rattle.kr_history.proofs.Following.{released_law, stays_law}
use Rattle.kr_history.proofs.NothingAdopted.{nothing_adopted}

-- ---- at every moment

pub keys_at_each_moment : KeysAtEachMoment
keys_at_each_moment size held old [] now h w = holds_still size held old now w h
keys_at_each_moment size held old (Said e ∷ moments) now h w =
    keys_at_each_moment size held w.0 moments now (holds_still size held old w.0 w.1 h) w.2
keys_at_each_moment size held old (TakesUp p ∷ moments) now h w =
    keys_at_each_moment size (Some p) w.0 moments now (record {
      published = w.1.published;
      keys = w.1.keys;
      as_many = w.1.size ∙ h.as_many;
    }) w.2
keys_at_each_moment size held old (LaysDown ∷ moments) now h w =
    keys_at_each_moment size None w.0 moments now (record {
      published = w.1.none;
      keys = w.1.keys;
      as_many = w.1.size ∙ h.as_many;
    }) w.2

-- ---- what a caller added

pub added_is : (old new : Caller) (part : List Entry) → new.mine ≡ old.mine ++ part
    → added old new ≡ part
added_is old new part e = ap (λ mine. drop (length old.mine) mine) e
    ∙ drop_at old.mine part (length old.mine) refl

moments_more : (first second : List Entry)
    → moments_of (first ++ second) ≡ moments_of first ++ moments_of second
moments_more [] second = refl
moments_more (e ∷ first) second =
    ap (λ moments. moments_at e.line.gave e ++ moments) (moments_more first second)
    ∙ sym (append_assoc (moments_at e.line.gave e) (moments_of first) (moments_of second))

or_assoc : (a b c : Bool) → (a || (b || c)) ≡ ((a || b) || c)
or_assoc true b c = refl
or_assoc false b c = refl

adopts_more : (first second : List Entry)
    → adopts_in (first ++ second) ≡ (adopts_in first || adopts_in second)
adopts_more [] second = refl
adopts_more (e ∷ first) second = ap (λ b. is_adoption e.line.gave || b) (adopts_more first second)
    ∙ or_assoc (is_adoption e.line.gave) (adopts_in first) (adopts_in second)

-- ---- an entry that neither adopts nor lets go

said_one : (given : Answer) (e : Entry) → LeavesHolding given
    → moments_at (gave_of given) e ≡ Said e ∷ []
said_one (answer.Adopted number p) e s = absurd s
said_one answer.Released e s = absurd s
said_one other e s = refl

adopts_none : (given : Answer) → LeavesHolding given → is_adoption (gave_of given) ≡ false
adopts_none (answer.Adopted number p) s = absurd s
adopts_none answer.Released s = absurd s
adopts_none other s = refl

-- entries around which nothing happens to the keys
pub record AddsQuietly (old new : Caller) : Type 0 where
  pub part : List Entry
  pub mine : new.mine ≡ old.mine ++ part
  pub still : (keys : Adoption) → Walk Happens keys (moments_of part) keys
  pub none : adopts_in part ≡ false
  pub holds : holding new.mine ≡ holding old.mine

pub quiet_none : (old new : Caller) → new ≡ old → AddsQuietly old new
quiet_none old new same = record {
  part = [];
  mine = ap (λ (c : Caller). c.mine) same ∙ sym (append-nil old.mine);
  still = λ keys. refl;
  none = refl;
  holds = ap (λ (c : Caller). holding c.mine) same;
}

pub quiet_one : (old new : Caller) (asked : Event) (given : Answer) → LeavesHolding given
    → AddsEntry old asked given new → AddsQuietly old new
quiet_one old new asked given s a = record {
  part = a.entry ∷ [];
  mine = ap (λ (c : Caller). c.mine) a.new_is;
  still = λ keys. subst (λ moments. Walk Happens keys (moments ++ []) keys)
      (sym (ap (λ g. moments_at g a.entry) a.records.gave_is ∙ said_one given a.entry s))
      (keys, refl, refl);
  none = ap (λ b. b || false) (ap is_adoption a.records.gave_is ∙ adopts_none given s);
  holds = stays_law old new asked given s a;
}

pub quiet_both : (old mid new : Caller) → AddsQuietly old mid → AddsQuietly mid new
    → AddsQuietly old new
quiet_both old mid new a b = record {
  part = a.part ++ b.part;
  mine = b.mine ∙ ap (λ mine. mine ++ b.part) a.mine ∙ append_assoc old.mine a.part b.part;
  still = λ keys. subst (λ moments. Walk Happens keys moments keys)
      (sym (moments_more a.part b.part))
      (walk_then Happens (moments_of a.part) (moments_of b.part) keys keys keys (a.still keys)
      (b.still keys));
  none = adopts_more a.part b.part ∙ (λ i. a.none i || b.none i);
  holds = b.holds ∙ a.holds;
}

-- ---- a call

-- what it leaves, and all that happens
pub record TakesInTurn (old : Caller) (before : Adoption) (new : Caller) (after : Adoption)
    : Type 0 where
  pub leaves : LeavesKeys (has_adopted old new) before after
  pub happens : Walk Happens before (call_moments old new) after

-- by what was added
by_part : (old new : Caller) (before after : Adoption) (part : List Entry)
    → new.mine ≡ old.mine ++ part → LeavesKeys (adopts_in part) before after
    → Walk Happens before (moments_of part ++ laid_down (holding new.mine)) after
    → TakesInTurn old before new after
by_part old new before after part mine leaves walk = record {
  leaves = subst (λ p. LeavesKeys (adopts_in p) before after) (sym (added_is old new part mine))
      leaves;
  happens = subst (λ p. Walk Happens before (moments_of p ++ laid_down (holding new.mine)) after)
      (sym (added_is old new part mine)) walk;
}

-- nothing happened, to a seat that holds nothing
pub in_turn_quiet : (old new : Caller) (keys : Adoption) → holding old.mine ≡ None
    → AddsQuietly old new → TakesInTurn old keys new keys
in_turn_quiet old new keys idle q = by_part old new keys keys q.part q.mine
    (subst (λ b. LeavesKeys b keys keys) (sym q.none) refl)
    (subst (λ h. Walk Happens keys (moments_of q.part ++ laid_down h) keys) (sym (q.holds ∙ idle))
    (walk_then Happens (moments_of q.part) [] keys keys keys (q.still keys) refl))

pub in_turn_same : (c : Caller) (keys : Adoption) → holding c.mine ≡ None
    → TakesInTurn c keys c keys
in_turn_same c keys idle = in_turn_quiet c c keys idle (quiet_none c c refl)

-- nothing was adopted
in_turn_early : (replica : ℕ) (old new : Caller) (why : CallNo) (keys : Adoption)
    → holding old.mine ≡ None → AdoptsNothing replica old why new → TakesInTurn old keys new keys
in_turn_early replica old new why keys idle a = in_turn_quiet old new keys idle
    (nothing_adopted replica old new (AddsQuietly old new) (quiet_none old new)
    (λ given stays e. quiet_one old new (event.Adopt replica) given stays e) why a)

-- nothing was taken up
pub untaken_turn : {L D : Type 0} (replica : ℕ) {old new : Caller} (why : CallNo)
    {before after : BenchState L D} → holding old.mine ≡ None
    → TakesUpCurrent replica old before (Err why) new after
    → TakesInTurn old (adoption_of before) new (adoption_of after)
untaken_turn {L} {D} replica {old} {new} why {before} {after} idle (nothing, same) =
    subst (λ b. TakesInTurn old (adoption_of before) new (adoption_of b)) (sym same)
    (in_turn_early replica old new why (adoption_of before) idle nothing)

-- the bench was given a configuration
pub adopts_published : {L D : Type 0} (p : Publication) (old new : BenchState L D)
    → new ≡ record old { published = Some p; pages = new.pages }
    → HoldKeys (adopted_secrets new.published) new.pages
    → size_of new.pages ≡ size_of old.pages → TakesKeys p (adoption_of old) (adoption_of new)
adopts_published {L} {D} p old new kept keys size =
    let is = ap (λ (b : BenchState L D). b.published) kept in record {
      published = is;
      keys = subst (λ (o : Option Publication). HoldKeys (adopted_secrets o) new.pages) is keys;
      size = size;
    }

-- a generation was adopted, its configuration taken up, and laid down before the LetGo
module _ {T : Type 0} (replica number : ℕ) (p : Publication) (old adopted acted new : Caller)
    (done result : Result T CallNo) (before taken after : Adoption)
    (a : AddsEntry old (event.Adopt replica) (answer.Adopted number p) adopted)
    (holds : holding adopted.mine ≡ Some (number, p)) (takes : TakesKeys p before taken)
    (q : AddsQuietly adopted acted) (clears : ClearsKeys taken after) where
  abbrev front : List Entry
  front = a.entry ∷ q.part

  front_is : acted.mine ≡ old.mine ++ front
  front_is = q.mine ∙ ap (λ mine. mine ++ q.part) (ap (λ (c : Caller). c.mine) a.new_is)
      ∙ append_assoc old.mine (a.entry ∷ []) q.part

  taken_is : moments_at a.entry.line.gave a.entry ≡ Said a.entry ∷ TakesUp p ∷ []
  taken_is = ap (λ g. moments_at g a.entry) a.records.gave_is
      ∙ ap (λ o. Said a.entry ∷ taken_up o) a.records.shows

  walks : Walk Happens before (moments_of front) taken
  walks = subst (λ moments. Walk Happens before (moments ++ moments_of q.part) taken)
      (sym taken_is) (before, refl, (taken, takes, q.still taken))

  adopts : (rest : List Entry) → adopts_in (front ++ rest) ≡ true
  adopts rest = ap (λ g. is_adoption g || adopts_in (q.part ++ rest)) a.records.gave_is

  cleared : ClearsKeys before after
  cleared = laid_once before taken after takes.size clears

  leaves : (rest : List Entry) → LeavesKeys (adopts_in (front ++ rest)) before after
  leaves rest = subst (λ b. LeavesKeys b before after) (sym (adopts rest)) cleared

  by_let_go : AddsEntry acted event.LetGo answer.Released new → TakesInTurn old before new after
  by_let_go l = by_part old new before after (front ++ l.entry ∷ [])
      (ap (λ (c : Caller). c.mine) l.new_is ∙ ap (λ mine. mine ++ l.entry ∷ []) front_is
      ∙ append_assoc old.mine front (l.entry ∷ [])) (leaves (l.entry ∷ []))
      (subst (λ h. Walk Happens before (moments_of (front ++ l.entry ∷ []) ++ laid_down h) after)
      (sym (released_law acted new l))
      (subst (λ moments. Walk Happens before moments after)
      (sym (append-nil (moments_of (front ++ l.entry ∷ [])) ∙ moments_more front (l.entry ∷ [])))
      (walk_then Happens (moments_of front) (moments_of (l.entry ∷ [])) before taken after walks
      (subst (λ g. Walk Happens taken (moments_at g l.entry ++ []) after)
      (sym l.records.gave_is) (after, clears, (after, refl, refl))))))

  by_spent : new ≡ acted → TakesInTurn old before new after
  by_spent same = by_part old new before after front
      (ap (λ (c : Caller). c.mine) same ∙ front_is)
      (subst (λ part. LeavesKeys (adopts_in part) before after) (append-nil front) (leaves []))
      (subst (λ h. Walk Happens before (moments_of front ++ laid_down h) after)
      (sym (ap (λ (c : Caller). holding c.mine) same ∙ q.holds ∙ holds))
      (walk_then Happens (moments_of front) (LaysDown ∷ []) before taken after walks
      (after, clears, refl)))

  pub in_turn_held : LetsGo acted done result new → TakesInTurn old before new after
  in_turn_held (inl l) = by_let_go l.0
  in_turn_held (inr l) = by_spent l.0.same

-- the stages of a call, one behind another
pub held_turn : {T L D : Type 0} {replica : ℕ} {old adopted acted : Caller}
    {before taken : BenchState L D} (t : HasTakenUp replica old before adopted taken)
    (quiet : AddsQuietly adopted acted) (new : Caller) (done result : Result T CallNo)
    (worked after : BenchState L D) → adoption_of worked ≡ adoption_of taken
    → ClearsKeys (adoption_of worked) (adoption_of after) → LetsGo acted done result new
    → TakesInTurn old (adoption_of before) new (adoption_of after)
held_turn {T} {L} {D} {replica} {old} {adopted} {acted} {before} {taken} t quiet new done result
    worked after same clears go =
    in_turn_held replica t.number t.p old adopted acted new done result (adoption_of before)
    (adoption_of taken) (adoption_of after) t.adopts t.holds t.takes quiet
    (subst (λ k. ClearsKeys k (adoption_of after)) same clears) go

-- ---- one call after another

-- the seat held nothing between them
pub in_turn_then : (old mid new : Caller) (first second : List Entry)
    (before between after : Adoption) → mid.mine ≡ old.mine ++ first
    → new.mine ≡ mid.mine ++ second → holding mid.mine ≡ None
    → TakesInTurn old before mid between → TakesInTurn mid between new after
    → TakesInTurn old before new after
in_turn_then old mid new first second before between after a b idle v w =
    let rest : List Moment = laid_down (holding new.mine) in
    by_part old new before after (first ++ second)
    (b ∙ ap (λ mine. mine ++ second) a ∙ append_assoc old.mine first second)
    (subst (λ b. LeavesKeys b before after) (sym (adopts_more first second))
    (leaves_then (adopts_in first) (adopts_in second) before between after
    (subst (λ p. LeavesKeys (adopts_in p) before between) (added_is old mid first a) v.leaves)
    (subst (λ p. LeavesKeys (adopts_in p) between after) (added_is mid new second b) w.leaves)))
    (subst (λ moments. Walk Happens before moments after)
    (sym (ap (λ moments. moments ++ rest) (moments_more first second)
    ∙ append_assoc (moments_of first) (moments_of second) rest))
    (walk_then Happens (moments_of first) (moments_of second ++ rest) before between after
    (subst (λ moments. Walk Happens before moments between) (append-nil (moments_of first))
    (subst (λ h. Walk Happens before (moments_of first ++ laid_down h) between) idle
    (subst (λ p. Walk Happens before (moments_of p ++ laid_down (holding mid.mine)) between)
    (added_is old mid first a) v.happens)))
    (subst (λ p. Walk Happens between (moments_of p ++ rest) after) (added_is mid new second b)
    w.happens)))

-- what a call did whose seat holds nothing behind it, by its part
pub moments_by : (old new : Caller) (part : List Entry) (before after : Adoption)
    → new.mine ≡ old.mine ++ part → holding new.mine ≡ None
    → Walk Happens before (call_moments old new) after
    → Walk Happens before (moments_of part) after
moments_by old new part before after mine idle w =
    subst (λ moments. Walk Happens before moments after) (append-nil (moments_of part))
    (subst (λ h. Walk Happens before (moments_of part ++ laid_down h) after) idle
    (subst (λ p. Walk Happens before (moments_of p ++ laid_down (holding new.mine)) after)
    (added_is old new part mine) w))
