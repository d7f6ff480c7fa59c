-- What hands keep of their seats stays what their own entries say, and allows no more than
-- they do.
use Rattle.std.proofs.Common.{◌≡◌, ℕ, zero, suc, ◌+◌, ◌<◌, ◌≤◌, ◌==◌, Bool, true, false, cond, List, [], ◌∷◌, ◌++◌, length, get_or, Option, None, Some, refl, sym, ap, subst, ◌∙◌, arith, inl, inr, ◌⊎◌}
use Rattle.std.specs.Prelude.{slice_get, slice_set, All, Contains, IsSome, Result, Ok, Err, IfOk}
use Rattle.std.specs.Option.{option_map}
use Rattle.std.proofs.lemmas.Bool.{cases_eq, eq-eqb, ne_eqb}
use Rattle.std.proofs.lemmas.List.Elements.{All-nil, filter-append}
use Rattle.std.proofs.lemmas.List.{append-nil, length-set}
use Rattle.std.proofs.lemmas.Option.{none-some, same_Some, slice_get-get_or}
use Rattle.kr_base.specs.Lines.{of_seat}
use Rattle.kr_base.specs.Rules.{IsPath}
use Rattle.kr_config.specs.Kept as settings_row
use Rattle.kr_provider.proofs.Lists.{no_names}
use Rattle.kr_provider.specs.Publication.{Publication, names_plugin}
use Rattle.kr_provider.specs.Sealing.{IsSealing}
use Rattle.kr_store.specs.declared.rows.Row.{Row}
use Rattle.kr_rollout.specs.declared.answer.Answer.{Answer}
use Rattle.kr_rollout.specs.declared.answer.Answer.TheVariants as answer
use Rattle.kr_rollout.specs.declared.event.Event.{Event}
use Rattle.kr_rollout.specs.declared.event.Event.TheVariants as event
use Rattle.kr_rollout.specs.declared.opening.Entry.{Entry}
use Rattle.kr_rollout.specs.declared.opening.Opening.{Opening}
use Rattle.kr_history.specs.Acting.{Caller, AddsEntry}
use Rattle.kr_rollout.specs.Entries.{seat_of}
use Rattle.kr_rollout.specs.Openings.{NamesAmong}
use Rattle.kr_rollout.specs.Callers.{Allows, IsResealing, MayAsk, Records, ShowsEntry, brings_settings, did_of, gave_of, found_by, found_from, found_in, found_then, holding, holding_from, holding_then, reloads_in}
use Rattle.kr_rollout.specs.Cores.{CoreState, Applies}
use Rattle.test_rollout.specs.declared.hand.Hand.{Hand}
use Rattle.test_support.specs.declared.wrong.Wrong.{Wrong}
use Rattle.test_rollout.specs.Hands.{AreHands, IsHand, Permits, found_after, answer_gain, held_after, event_effect, left_after, row_in, hand_after}

-- ---- lists

get_set_same : (hands : List Hand) (at : ℕ) (old new : Hand) → slice_get hands at ≡ Some old
    → slice_get (slice_set hands at new) at ≡ Some new
get_set_same [] at old new e = absurd (none-some old e)
get_set_same (hand ∷ hands) zero old new e = refl
get_set_same (hand ∷ hands) (suc at) old new e = get_set_same hands at old new e

get_set_other : (hands : List Hand) (at place : ℕ) (new : Hand) → (at ≡ place → ⊥)
    → slice_get (slice_set hands at new) place ≡ slice_get hands place
get_set_other (hand ∷ hands) zero zero new n = absurd (n refl)
get_set_other (hand ∷ hands) (suc at) (suc place) new n =
    get_set_other hands at place new (λ e. n (ap suc e))
get_set_other other at place new n = refl

-- ---- one more entry of the seat's own

holding_more : (now : Option (ℕ × Publication)) (own : List Entry) (e : Entry)
    → holding_from now (own ++ e ∷ []) ≡ holding_then e.line.gave e.published (holding_from now own)
holding_more now [] e = refl
holding_more now (x ∷ own) e = holding_more (holding_then x.line.gave x.published now) own e

found_more : (now : Option Row) (own : List Entry) (e : Entry)
    → found_from now (own ++ e ∷ []) ≡ found_then e.line.did e.line.gave e.row (found_from now own)
found_more now [] e = refl
found_more now (x ∷ own) e = found_more (found_then x.line.did x.line.gave x.row now) own e

reloads_more : (own : List Entry) (e : Entry)
    → reloads_in (own ++ e ∷ []) ≡ reloads_in own + cond (brings_settings e.line.did) 1 0
reloads_more [] e = omega arith
reloads_more (x ∷ own) e = omega (arith, reloads_more own e)

held_is : (given : Answer) (e : Entry) (now : Option (ℕ × Publication)) → ShowsEntry given e
    → option_map (λ x. x.1) (holding_then (gave_of given) e.published now)
    ≡ held_after (answer_gain given) (option_map (λ x. x.1) now)
held_is (answer.Adopted number p) e now shown = ap (λ q. option_map (λ x. x.1) (holding_then (gave_of (answer.Adopted number p)) q now)) shown
held_is other e now shown = refl

row_is : (given : Answer) (e : Entry) → ShowsEntry given e
    → found_by (gave_of given) e.row ≡ row_in (answer_gain given)
row_is (answer.Found row) e shown = shown
row_is other e shown = refl

found_is : (asked : Event) (given : Answer) (e : Entry) (now : Option Row) → ShowsEntry given e
    → found_then (did_of asked) (gave_of given) e.row now
    ≡ found_after (event_effect asked) (answer_gain given) now
found_is (event.Fetch path) given e now shown = row_is given e shown
found_is (event.After path) given e now shown = row_is given e shown
found_is other given e now shown = refl

left_is : (o : Opening) (seat : ℕ) (own : List Entry) (asked : Event) (n : ℕ)
    → reloads_in own + n ≡ get_or o.reloads seat 0 → Allows o seat own asked
    → reloads_in own + cond (brings_settings (did_of asked)) 1 0 + left_after (event_effect asked) n
    ≡ get_or o.reloads seat 0
left_is o seat own (event.Reload replica q expect) n h a = omega (arith, h, a.2)
left_is o seat own (event.Join replica q) n h a = omega (arith, h, a.2)
left_is o seat own other n h a = omega (arith, h)

-- ---- the hand behind an event

module _ (o : Opening) (seat : ℕ) (own : List Entry) (asked : Event) (given : Answer) (e : Entry)
    (r : Records seat asked given e) (may : Allows o seat own asked) where
  pub hand_taken : (hand : Hand) → IsHand o seat own hand
      → IsHand o seat (own ++ e ∷ []) (hand_after (event_effect asked) (answer_gain given) hand)
  hand_taken hand h = record {
    held = ap (option_map (λ x. x.1)) (holding_more None own e
        ∙ ap (λ g. holding_then g e.published (holding own)) r.gave_is)
        ∙ held_is given e (holding own) r.shows
        ∙ ap (held_after (answer_gain given)) h.held;
    found = found_more None own e
        ∙ (λ i. found_then (r.did_is i) (r.gave_is i) e.row (found_in own))
        ∙ found_is asked given e (found_in own) r.shows
        ∙ ap (found_after (event_effect asked) (answer_gain given)) h.found;
    left = ap (λ n. n + left_after (event_effect asked) hand.left) (reloads_more own e
        ∙ ap (λ d. reloads_in own + cond (brings_settings d) 1 0) r.did_is)
        ∙ left_is o seat own asked hand.left h.left may;
    replicas = h.replicas;
  }

-- of an only caller
caller_taken : (old new : Caller) (seen : List Entry) (left : ℕ) (asked : Event)
    (given : Answer) (e : Entry) (hand next : Hand)
    → new ≡ record {
      opening = old.opening;
      seat = old.seat;
      seen = seen;
      mine = old.mine ++ e ∷ [];
      left = left;
    } → Records old.seat asked given e → MayAsk old.opening old.seat old.mine asked
    → next ≡ hand_after (event_effect asked) (answer_gain given) hand
    → IsHand old.opening old.seat old.mine hand → IsHand new.opening new.seat new.mine next
caller_taken old new seen left asked given e hand next is r may next_is h =
    subst (λ (c : Caller). IsHand c.opening c.seat c.mine next) (sym is)
    (subst (λ x. IsHand old.opening old.seat (old.mine ++ e ∷ []) x) (sym next_is)
    (hand_taken old.opening old.seat old.mine asked given e r may.allowed hand h))

-- of one of several seats
module _ (old new : CoreState) (seat : ℕ) (asked : Event) (given : Answer)
    (a : Applies old seat asked given new)
    (may : MayAsk old.opening seat (of_seat seat_of seat old.history) asked) where
  opening_is : new.opening ≡ old.opening
  opening_is = ap (λ (c : CoreState). c.opening) a.new_is

  of_new : (place : ℕ) → of_seat seat_of place new.history
      ≡ of_seat seat_of place old.history ++ of_seat seat_of place (a.entry ∷ [])
  of_new place = ap (λ (c : CoreState). of_seat seat_of place c.history) a.new_is
      ∙ filter-append (λ (x : Entry). seat_of x == place) old.history (a.entry ∷ [])

  own_new : of_seat seat_of seat new.history ≡ of_seat seat_of seat old.history ++ a.entry ∷ []
  own_new = of_new seat
      ∙ ap (λ b. of_seat seat_of seat old.history ++ cond b (a.entry ∷ []) [])
      (eq-eqb a.entry.line.seat seat a.records.seat_is)

  other_new : (place : ℕ) → (seat ≡ place → ⊥)
      → of_seat seat_of place new.history ≡ of_seat seat_of place old.history
  other_new place n = of_new place
      ∙ ap (λ b. of_seat seat_of place old.history ++ cond b (a.entry ∷ []) [])
      (ne_eqb a.entry.line.seat place (λ e. n (sym a.records.seat_is ∙ e)))
      ∙ append-nil (of_seat seat_of place old.history)

  hands_taken : (hands : List Hand) (hand : Hand) → slice_get hands seat ≡ Some hand
      → AreHands old hands
      → AreHands new (slice_set hands seat (hand_after (event_effect asked) (answer_gain given) hand))
  hands_taken hands hand there h = record {
    many = length-set hands seat next ∙ h.many
        ∙ ap (λ (o : Opening). length o.reloads) (sym opening_is);
    each = λ place other is. by place (cases_eq seat place) other is;
  }
    where
      next : Hand
      next = hand_after (event_effect asked) (answer_gain given) hand

      by : (place : ℕ) → (seat ≡ place) ⊎ (seat ≡ place → ⊥) → (other : Hand)
          → slice_get (slice_set hands seat next) place ≡ Some other
          → IsHand new.opening place (of_seat seat_of place new.history) other
      by place (inl same) other is =
          let one : other ≡ next = same_Some other next
          (sym is ∙ ap (slice_get (slice_set hands seat next)) (sym same)
          ∙ get_set_same hands seat hand next there) in
          subst (λ s. IsHand new.opening s (of_seat seat_of s new.history) other) same
          (subst (λ x. IsHand new.opening seat (of_seat seat_of seat new.history) x) (sym one)
          (subst (λ xs. IsHand new.opening seat xs next) (sym own_new)
          (subst (λ o. IsHand o seat (of_seat seat_of seat old.history ++ a.entry ∷ []) next)
          (sym opening_is) (hand_taken old.opening seat (of_seat seat_of seat old.history) asked
          given a.entry a.records may.allowed hand (h.each seat hand there)))))
      by place (inr apart) other is =
          subst (λ xs. IsHand new.opening place xs other) (sym (other_new place apart))
          (subst (λ o. IsHand o place (of_seat seat_of place old.history) other) (sym opening_is)
          (h.each place other (sym (get_set_other hands seat place next apart) ∙ is)))

-- ---- what a hand allows

some_held : (x : Option (ℕ × Publication)) (held : Option Publication)
    → option_map (λ y. y.1) x ≡ held → IsSome held → IsSome x
some_held None held e is = subst IsSome (sym e) is
some_held (Some y) held e is = refl

none_held : (x : Option (ℕ × Publication)) (held : Option Publication)
    → option_map (λ y. y.1) x ≡ held → held ≡ None → x ≡ None
none_held None held e is = refl
none_held (Some y) held e is = absurd (none-some y.1 (sym (e ∙ is)))

this_held : (x : Option (ℕ × Publication)) (p : Publication) → option_map (λ y. y.1) x ≡ Some p
    → (held : ℕ × Publication) × (x ≡ Some held) × (held.1 ≡ p)
this_held None p e = absurd (none-some p e)
this_held (Some y) p e = (y, refl, same_Some y.1 p e)

pub plain_names : (names : List (List ℕ)) (rows : List settings_row.ConfigEntry)
    → names_plugin rows ≡ false → NamesAmong names rows
plain_names names rows e =
    subst (λ named. All (λ name. Contains names name) named) (sym (no_names rows e))
    (All-nil (λ name. Contains names name))

module _ (o : Opening) (seat : ℕ) (own : List Entry) (hand : Hand) (h : IsHand o seat own hand)
  where
    is_replica : (replica : ℕ) → replica < hand.replicas → replica < length o.replicas
    is_replica replica l = omega (arith, l, h.replicas)

    may_bring : 0 < hand.left → reloads_in own < get_or o.reloads seat 0
    may_bring l = omega (arith, h.left, l)

    pub allowed : (asked : Event) → Permits hand asked → Allows o seat own asked
    allowed (event.Adopt replica) m =
        (is_replica replica m.0, none_held (holding own) hand.held h.held m.1)
    allowed (event.Fetch path) m = (m.0, some_held (holding own) hand.held h.held m.1)
    allowed (event.After path) m = (m.0, some_held (holding own) hand.held h.held m.1)
    allowed (event.Put path resource plain stored) m =
        let s = this_held (holding own) m.2 (h.held ∙ m.3) in (
          m.0,
          m.1,
          s.0,
          s.1,
          subst (λ q. IsSealing q resource path plain stored) (sym s.2) m.4,
        )
    allowed (event.Delete path) m = m
    allowed (event.Replace path revision stored) m =
        let s = this_held (holding own) m.0 (h.held ∙ m.1) in
        let row = m.2 in
        let resealed = subst (λ q. IsResealing q row row.path stored) (sym s.2) m.7 in (
          subst IsPath m.4 m.6,
          s.0,
          s.1,
          row,
          h.found ∙ m.3,
          m.4,
          m.5,
          subst (λ x. IsResealing s.0.1 row x stored) m.4 resealed,
        )
    allowed event.LetGo m = some_held (holding own) hand.held h.held m
    allowed (event.Reload replica p expect) m =
        (is_replica replica m.0, plain_names o.names p.rows m.2, may_bring m.1)
    allowed (event.Join replica p) m =
        (is_replica replica m.0, plain_names o.names p.rows m.2, may_bring m.1)
    allowed (event.Leave replica) m = is_replica replica m

-- ---- what the functions cite

there_at : (hands : List Hand) (seat : ℕ) (hand : Hand) → seat < length hands
    → hand ≡ get_or hands seat hand → slice_get hands seat ≡ Some hand
there_at hands seat hand l e = slice_get-get_or hands seat hand l
    ∙ ap (λ (h : Hand). Some h) (sym e)

pub act_taken : (view old new : CoreState) (seat : ℕ) (asked : Event) (given : Answer)
    (hands : List Hand) (hand next : Hand) → old ≡ view
    → MayAsk view.opening seat (of_seat seat_of seat view.history) asked
    → Applies old seat asked given new → hand ≡ get_or hands seat hand
    → next ≡ hand_after (event_effect asked) (answer_gain given) hand
    → AreHands old hands → AreHands new (slice_set hands seat next)
act_taken view old new seat asked given hands hand next is may a e next_is h =
    let own_may = subst (λ (c : CoreState). MayAsk c.opening seat (of_seat seat_of seat c.history)
    asked) (sym is) may in
    let there = there_at hands seat hand (omega (arith, own_may.seat_in, h.many)) e in
    subst (λ x. AreHands new (slice_set hands seat x)) (sym next_is)
    (hands_taken old new seat asked given a own_may hands hand there h)

false_true : (b : Bool) → b ≡ false → b ≡ true → ⊥
false_true true e t = absurd (cc)
false_true false e t = absurd (cc)

-- one of several seats may ask for what its hand permits, if the journal isn't full
pub seat_may : (view core : CoreState) (hands : List Hand) (seat : ℕ) (hand : Hand) (full : Bool)
    (result : Result Event Wrong) → core ≡ view → AreHands core hands → seat < length hands
    → hand ≡ get_or hands seat hand
    → (full ≡ true → core.room ≤ length core.history)
    × (core.room ≤ length core.history → full ≡ true)
    → full ≡ false → IfOk result (λ asked. Permits hand asked)
    → IfOk result (λ asked. (length view.history < view.room)
    × MayAsk view.opening seat (of_seat seat_of seat view.history) asked)
seat_may view core hands seat hand full (Err why) is h l e says not_full m = tt
seat_may view core hands seat hand full (Ok asked) is h l e says not_full m =
    let none : core.room ≤ length core.history → ⊥ =
    λ r. false_true full not_full (says.1 r) in
    let room : length core.history < core.room = omega (arith, none) in
    let this = h.each seat hand (there_at hands seat hand l e) in
    let own = of_seat seat_of seat core.history in
    let may : MayAsk core.opening seat own asked = record {
      seat_in = omega (arith, l, h.many);
      allowed = allowed core.opening seat own hand this asked m;
    } in
    subst (λ (c : CoreState). (length c.history < c.room)
    × MayAsk c.opening seat (of_seat seat_of seat c.history) asked) is (room, may)

-- and an only caller
pub caller_may : (view caller : Caller) (hand : Hand) (result : Result Event Wrong)
    → caller ≡ view → caller.seat < length caller.opening.reloads
    → IsHand caller.opening caller.seat caller.mine hand
    → IfOk result (λ asked. Permits hand asked)
    → IfOk result (λ asked. MayAsk view.opening view.seat view.mine asked)
caller_may view caller hand (Err why) is l h m = tt
caller_may view caller hand (Ok asked) is l h m =
    let may : MayAsk caller.opening caller.seat caller.mine asked = record {
      seat_in = l;
      allowed = allowed caller.opening caller.seat caller.mine hand h asked m;
    } in
    subst (λ (c : Caller). MayAsk c.opening c.seat c.mine asked) is may

pub caller_acted : (view old new : Caller) (asked : Event) (given : Answer) (hand next : Hand)
    → old ≡ view → MayAsk view.opening view.seat view.mine asked → AddsEntry old asked given new
    → next ≡ hand_after (event_effect asked) (answer_gain given) hand
    → IsHand old.opening old.seat old.mine hand → IsHand new.opening new.seat new.mine next
caller_acted view old new asked given hand next is may a next_is h =
    let own_may = subst (λ (c : Caller). MayAsk c.opening c.seat c.mine asked) (sym is) may in
    caller_taken old new ((old.seen ++ a.others) ++ a.entry ∷ []) new.left asked given a.entry hand
    next a.new_is a.records own_may next_is h

-- one that can't ask any more
pub caller_stays : (old new : Caller) (hand : Hand) → new ≡ old
    → IsHand old.opening old.seat old.mine hand → IsHand new.opening new.seat new.mine hand
caller_stays old new hand is h =
    subst (λ (c : Caller). IsHand c.opening c.seat c.mine hand) (sym is) h
