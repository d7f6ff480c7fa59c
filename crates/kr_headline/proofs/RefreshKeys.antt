-- What a refresh tells of keys is borne out by the line's own exchanges, of the configuration that
-- it adopted.
use Rattle.std.specs.Prelude.{true, false, ⊤}
use Rattle.std.proofs.Common.{◌≡◌, ℕ, ◌≤◌, List, [], ◌∷◌, ◌++◌, length, Option, None, Some, Result, Ok, Err, inl, inr, ap, sym, subst, ◌∙◌, arith, append-nil}
use Rattle.std.proofs.lemmas.List.{append_assoc, append_cancel_left}
use Rattle.std.proofs.lemmas.Option.{same_Some}
use Rattle.kr_kms.specs.Exchanges.{Exchange}
use Rattle.kr_kms.specs.declared.seeds.SeedRow.{SeedRow}
use Rattle.kr_provider.specs.Exchanges.{PublishesBy}
use Rattle.kr_provider.specs.Publication.{Publication}
use Rattle.kr_rollout.specs.declared.answer.Answer.{Answer}
use Rattle.kr_rollout.specs.declared.answer.Answer.TheVariants as answer
use Rattle.kr_rollout.specs.declared.event.Event.{Event}
use Rattle.kr_rollout.specs.declared.event.Event.TheVariants as event
use Rattle.kr_rollout.specs.declared.opening.Entry.{Entry}
use Rattle.kr_history.specs.Acting.{AddsEntry, Caller}
use Rattle.kr_history.specs.Calls.{AdoptsNothing, LetsGo}
use Rattle.kr_history.specs.Parts.{Adds}
use Rattle.kr_history.specs.declared.call.CallNo.{CallNo}
use Rattle.kr_history.specs.declared.call.CallNo.TheVariants as refusal
use Rattle.kr_fleet.specs.CallExchanges.{IsRefreshBy, RefreshesBy, RenewsAfter, StopsBy}
use Rattle.kr_fleet.specs.CallForms.{CutShortWhere}
use Rattle.kr_fleet.specs.declared.outcome.Loaded.{Loaded}
use Rattle.kr_fleet.specs.declared.outcome.Loaded.TheVariants as loaded
use Rattle.kr_script.specs.declared.told.Told.{Told}
use Rattle.kr_script.specs.declared.told.Told.TheVariants as told
use Rattle.kr_workers.specs.Replies.{Reply, told_of_refresh, told_of_refusal}
use Rattle.kr_headline.specs.Outside.{HasOtherKey, HaveSeedKeys}
use Rattle.kr_headline.proofs.HeardFaults.{keys_compared, other_left}

-- ---- what a caller adds

abbrev Longer : (old new : Caller) → Type 0
Longer old new = (more : List Entry) × (new.mine ≡ old.mine ++ more)

same_long : (old new : Caller) → new ≡ old → Longer old new
same_long old new same =
    ([], ap (λ (c : Caller). c.mine) same ∙ sym (append-nil old.mine))

one_longer : (old new : Caller) (asked : Event) (given : Answer) → AddsEntry old asked given new
    → Longer old new
one_longer old new asked given a = (a.entry ∷ [], ap (λ (c : Caller). c.mine) a.new_is)

let_go_longer : {T : Type 0} (acted new : Caller) (done result : Result T CallNo)
    → LetsGo acted done result new → Longer acted new
let_go_longer acted new done result (inl g) =
    one_longer acted new event.LetGo answer.Released g.0
let_go_longer acted new done result (inr n) = same_long acted new n.0.same

-- the first entry's configuration
abbrev pub first_published : List Entry → Option Publication
first_published [] = None
first_published (e ∷ rest) = e.published

adopted_first : (own number : ℕ) (p : Publication) (old adopted acted new : Caller)
    (part : List Entry) → Adds old part new
    → AddsEntry old (event.Adopt own) (answer.Adopted number p) adopted → Longer adopted acted
    → Longer acted new → first_published part ≡ Some p
adopted_first own number p old adopted acted new part adds a mids last =
    let whole : old.mine ++ part ≡ old.mine ++ (a.entry ∷ (mids.0 ++ last.0)) =
    sym (ap (λ (c : Caller). c.mine) adds.new_is) ∙ last.1
    ∙ ap (λ (l : List Entry). l ++ last.0) (mids.1
    ∙ ap (λ (l : List Entry). l ++ mids.0) (ap (λ (c : Caller). c.mine) a.new_is)
    ∙ append_assoc old.mine (a.entry ∷ []) mids.0)
    ∙ append_assoc old.mine (a.entry ∷ mids.0) last.0 in
    ap first_published (append_cancel_left old.mine part (a.entry ∷ (mids.0 ++ last.0)) whole)
    ∙ a.records.shows

-- ---- by what it tells

-- the line published anew, or found that its replica is out when it was to be given that
abbrev pub Renews : Told → Type 0
Renews (told.Refreshed number) = ⊤
Renews (told.Moved number) = ⊤
Renews told.Gone = ⊤
Renews reply = ⊥

module _ (es : List Exchange) (seeds : List SeedRow) where
  abbrev pub KeysBy : Told → Type 0
  KeysBy told.Unchanged = HaveSeedKeys es seeds
  KeysBy (told.Refreshed number) = HasOtherKey es seeds
  KeysBy (told.Moved number) = HasOtherKey es seeds
  KeysBy told.Gone = HasOtherKey es seeds
  KeysBy reply = ⊤

  abbrev pub KeysOf : Reply → Type 0
  KeysOf (Ok reply) = KeysBy reply
  KeysOf (Err spent) = ⊤

  pub other_key : (reply : Told) → Renews reply → KeysBy reply → HasOtherKey es seeds
  other_key (told.Refreshed number) renews k = k
  other_key (told.Moved number) renews k = k
  other_key told.Gone renews k = k
  other_key reply renews k = absurd renews

  renews_other : (Brings : List Exchange → Type 0) → RenewsAfter seeds es Brings
      → HasOtherKey es seeds
  renews_other Brings r = subst (λ (l : List Exchange). HasOtherKey l seeds)
      (sym r.exchanges_are) (other_left r.asked r.others seeds
      (keys_compared seeds (Ok true) r.asked r.compares))

-- ---- a refresh

module _ {D : Type 0} (left : D → Option (List ℕ)) (count : D → ℕ) (own : ℕ) (dice after : D)
    (es : List Exchange) where
  module _ (number : ℕ) (p : Publication) (adopted acted : Caller) where
    cut_longer : (others : List Exchange) (why : CallNo)
        → CutShortWhere (λ made. PublishesBy left count p.rows dice made after others)
        (λ q. event.Reload own q (Some number)) own adopted why acted → Longer adopted acted
    cut_longer others (refusal.PluginFailed name) c = same_long adopted acted c.1
    cut_longer others refusal.DiceFailed c = same_long adopted acted c.1
    cut_longer others (refusal.Unhealthy name field text) c = same_long adopted acted c.1
    cut_longer others refusal.Gone c = one_longer adopted acted
        (event.Reload own c.p (Some number)) (answer.Gone own) c.brought
    cut_longer others refusal.Spent c = same_long adopted acted c.1.same
    cut_longer others refusal.NoMemory (inl c) = same_long adopted acted c.1
    cut_longer others refusal.NoMemory (inr (inl c)) = same_long adopted acted c.1
    cut_longer others refusal.NoMemory (inr (inr c)) = one_longer adopted acted
        (event.Reload own c.p (Some number)) answer.NoMemory c.brought
    cut_longer others other c = absurd c

    abbrev Refreshed : Result Loaded CallNo → Type 0
    Refreshed done = RefreshesBy left count own number p adopted dice done acted after es

    acted_longer : (done : Result Loaded CallNo) → Refreshed done → Longer adopted acted
    acted_longer (Ok (loaded.Unchanged same)) r = same_long adopted acted r.2
    acted_longer (Ok (loaded.Generation made)) r = one_longer adopted acted
        (event.Reload own r.brings.p (Some number)) (answer.Reloaded made) r.brings.brought
    acted_longer (Ok (loaded.Moved current)) r = one_longer adopted acted
        (event.Reload own r.brings.p (Some number)) (answer.Moved current) r.brings.brought
    acted_longer (Ok (loaded.Refused verdict)) r = absurd r
    acted_longer (Err why) (inl c) = same_long adopted acted c.1
    acted_longer (Err why) (inr (inl c)) = same_long adopted acted c.2
    acted_longer (Err why) (inr (inr r)) = cut_longer r.others why r.brings

    gone_key : StopsBy left count own number p adopted dice refusal.Gone acted after es
        → HasOtherKey es p.seeds
    gone_key (inl c) = absurd (keys_compared p.seeds (Err refusal.Gone) es c.0).0
    gone_key (inr (inl c)) = keys_compared p.seeds (Ok true) es c.0
    gone_key (inr (inr r)) = renews_other es p.seeds _ r

    refreshed_keys : (seat : ℕ) (done : Result Loaded CallNo) → Refreshed done
        → KeysOf es p.seeds (told_of_refresh seat done)
    refreshed_keys seat (Ok (loaded.Unchanged same)) r =
        keys_compared p.seeds (Ok false) es r.1
    refreshed_keys seat (Ok (loaded.Generation made)) r = renews_other es p.seeds _ r
    refreshed_keys seat (Ok (loaded.Moved current)) r = renews_other es p.seeds _ r
    refreshed_keys seat (Ok (loaded.Refused verdict)) r = absurd r
    refreshed_keys seat (Err refusal.Gone) r = gone_key r
    refreshed_keys seat (Err other) r = tt

  module _ (old new : Caller) (part : List Entry) (adds : Adds old part new)
      (long : 2 ≤ length part) (p : Publication) (first_is : first_published part ≡ Some p)
      (seat : ℕ) where
    -- a part that is one entry isn't so long
    one_alone : (asked : Event) (given : Answer) → AddsEntry old asked given new → ⊥
    one_alone asked given a = let same = append_cancel_left old.mine part (a.entry ∷ [])
        (sym (ap (λ (c : Caller). c.mine) adds.new_is) ∙ ap (λ (c : Caller). c.mine) a.new_is) in
        let one = ap length same in omega (arith, long, one)

    early_keys : (why : CallNo) → AdoptsNothing own old why new
        → KeysOf es p.seeds (told_of_refusal seat why)
    early_keys refusal.Gone e = absurd (one_alone (event.Adopt own) (answer.Gone own) e)
    early_keys other e = tt

    pub refresh_keys : (result : Result Loaded CallNo)
        → IsRefreshBy left count own old dice result new after es
        → KeysOf es p.seeds (told_of_refresh seat result)
    refresh_keys (Ok found) (inl e) = absurd e
    refresh_keys (Err why) (inl e) = early_keys why e.0
    refresh_keys result (inr h) = go h.lets_go
      where
        same : h.p ≡ p
        same = same_Some h.p p (sym (adopted_first own h.number h.p old h.adopted h.acted new part
            adds h.adopts (acted_longer h.number h.p h.adopted h.acted h.done h.does)
            (let_go_longer h.acted new h.done result h.lets_go)) ∙ first_is)

        go : LetsGo h.acted h.done result new
            → KeysOf es p.seeds (told_of_refresh seat result)
        go (inl g) = subst (λ (r : Result Loaded CallNo).
            KeysOf es p.seeds (told_of_refresh seat r)) (sym g.1)
            (subst (λ (q : Publication). KeysOf es q.seeds (told_of_refresh seat h.done)) same
            (refreshed_keys h.number h.p h.adopted h.acted seat h.done h.does))
        go (inr n) = subst (λ (r : Result Loaded CallNo).
            KeysOf es p.seeds (told_of_refresh seat r)) (sym n.1) tt
