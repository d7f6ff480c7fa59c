-- What a drive leaves that left no row and found none changed: each path was settled on its way.
use Rattle.std.proofs.Common.{◌≡◌, ℕ, Bool, true, false, cond, count_by, ◌+◌, List, [], ◌∷◌, ◌++◌, Option, None, Some, Result, Ok, Err, refl, sym, ap, subst, ◌∙◌, ◌⊎◌, inl, inr, arith, append_assoc, append-nil}
use Rattle.std.specs.Prelude.{All, IsSome, not, ◌||◌, if◌then◌else◌, ⊤}
use Rattle.std.specs.Option.{option_map}
use Rattle.std.specs.Cmp.Lexicographic.{slice_cmp}
use Rattle.std.specs.Ordering.{is_eq, nat_cmp, ordering_reverse}
use Rattle.std.specs.declared.cmp.Ordering.{Ordering}
use Rattle.std.specs.declared.cmp.Ordering.TheVariants.{Less, Equal, Greater}
use Rattle.std.proofs.lemmas.Cmp.{nat_list_cmp_total}
use Rattle.std.proofs.lemmas.List.Elements.{All-cons, All-head, All-nil, All-tail}
use Rattle.std.proofs.lemmas.List.Sums.{sum_by-cons}
use Rattle.std.proofs.lemmas.Map.Text.{is_eq-slice_cmp}
use Rattle.std.proofs.lemmas.Option.{none-some, same_Some}
use Rattle.std.proofs.lemmas.Slice.Eq.{bytes_eq-Decides}
use Rattle.kr_kms.specs.Calls.{Link}
use Rattle.kr_store.specs.Rows.{live}
use Rattle.kr_store.specs.Stores.{IsNext}
use Rattle.kr_store.specs.declared.rows.Row.{Row}
use Rattle.kr_config.specs.declared.class.Class.TheVariants.{Exact}
use Rattle.kr_config.specs.declared.who.Who.{Who}
use Rattle.kr_config.specs.Kept.{ConfigEntry}
use Rattle.kr_provider.specs.Publication.{Publication, list_at}
use Rattle.kr_provider.specs.Readers.{is_reader, reader_in, writer_of}
use Rattle.kr_provider.specs.Reading.{is_rotated}
use Rattle.kr_provider.specs.declared.refusal.Opened.{Opened}
use Rattle.kr_provider.specs.declared.refusal.SealNo.{SealNo}
use Rattle.kr_provider.specs.declared.refusal.SealNo.TheVariants as sealing
use Rattle.kr_provider.specs.declared.refusal.UnsealNo.{UnsealNo}
use Rattle.kr_provider.specs.declared.refusal.UnsealNo.TheVariants as unsealing
use Rattle.kr_judge.specs.declared.need.Need.{Need}
use Rattle.kr_judge.specs.Boards.{need_at}
use Rattle.kr_judge.specs.Verdicts.{first}
use Rattle.kr_rollout.specs.declared.answer.Answer.{Answer}
use Rattle.kr_rollout.specs.declared.answer.Answer.TheVariants as answer
use Rattle.kr_rollout.specs.declared.event.Event.{Event}
use Rattle.kr_rollout.specs.declared.event.Event.TheVariants as event
use Rattle.kr_rollout.specs.declared.line.Gave.TheVariants as gave
use Rattle.kr_rollout.specs.declared.opening.Entry.{Entry}
use Rattle.kr_rollout.specs.declared.opening.Opening.{Opening}
use Rattle.kr_rollout.specs.Answers.{IsAnswer, IsStill}
use Rattle.kr_rollout.specs.Entries.{published_at, generation_named_by}
use Rattle.kr_rollout.specs.Histories.{state_of, IsLegal}
use Rattle.kr_rollout.specs.States.{State, IsLive}
use Rattle.kr_rollout.specs.Steps.{IsStep, after, new_generations}
use Rattle.kr_rollout.proofs.Revisions.{published_front}
use Rattle.kr_history.proofs.Fitting.{legal_sound}
use Rattle.kr_history.proofs.Sound.{contains_at}
use Rattle.kr_rollout.specs.Written.{IsWritten, path_written}
use Rattle.kr_history.specs.Acting.{Caller, IsCaller, AddsEntry}
use Rattle.kr_history.specs.Calls.{LetsGo}
use Rattle.kr_history.specs.declared.call.CallNo.{CallNo}
use Rattle.kr_history.specs.declared.call.CallNo.TheVariants as refusal
use Rattle.kr_history.proofs.Following.{adopted_law}
use Rattle.kr_history.proofs.HeldFacts.{held_is_named}
use Rattle.kr_history.proofs.Lacking.{needed_stored}
use Rattle.kr_history.proofs.NeedsLive.{needed_of, live_is_readable}
use Rattle.kr_history.proofs.Nexts.{caller_next, opening_is, seen_is}
use Rattle.kr_rewrite.specs.Drives.{Drives, WalksOver, FindsRow, is_left, capped_count, path_of, last_of}
use Rattle.kr_rewrite.specs.Rewrites.{ReadsFoundRow, IsStepOver, StepsOver, RewritesOver, RewritesBy, RewritesData, ResealsBy, ReplacesBy, UnsealsRow, unread_step, unsealed_step, FindsNone}
use Rattle.kr_rewrite.specs.declared.outcome.Report.{Report}
use Rattle.kr_rewrite.specs.declared.outcome.Step.{Step}
use Rattle.kr_rewrite.specs.declared.outcome.Step.TheVariants as step
use Rattle.kr_rewrite.proofs.Growing.{Grows, IsAt, LooksAt, StepLooks, at_row, at_end, TakesStep, grows_entry, grows_then, rewrites_grow, lets_go_grows, after_finds, takes_step}
use Rattle.kr_plan_laws.specs.LiveStates.{IsLiveBy}
use Rattle.kr_plan_laws.specs.Settled.{NeedsWriter, AreSettled, IsSettledAt, LiveWrite, AllWrite, WasSettled}
use Rattle.kr_plan_laws.specs.Rewritten.{RewriteSettles}
use Rattle.kr_plan_laws.proofs.NoEmptyPath.{no_need_there}
use Rattle.kr_plan_laws.proofs.PathRows.{stays_or_settled}
use Rattle.kr_plan_laws.proofs.Runs.{legal_front}
use Rattle.kr_plan_laws.proofs.Settling.{writers_stay, all_become_settled, front_writes, rest_writes}
use Rattle.kr_plan_laws.proofs.Writing.{writing_settles}

-- ---- fronts

abbrev pub Front : List Entry → List Entry → Type 0
Front a b = (x : List Entry) × (b ≡ a ++ x)

front_then : (a b c : List Entry) → Front a b → Front b c → Front a c
front_then a b c (x, e) (y, f) = (x ++ y, f ∙ ap (λ s. s ++ y) e ∙ append_assoc a x y)

pub cancelled : (a x y : List Entry) → a ++ x ≡ a ++ y → x ≡ y
cancelled [] x y e = e
cancelled (one ∷ a) x y e = let rest : a ++ x ≡ a ++ y = cc in cancelled a x y rest

-- ---- what a value says of its reader

first_read : (stored : List ℕ) (list : List Who) (who : Who) → reader_in list stored ≡ Some who
    → is_reader stored (writer_of list) ≡ true → first list ≡ Some who
first_read stored [] who e reads = absurd (none-some who e)
first_read stored (own ∷ list) who e reads =
    sym (ap (λ b. if b then Some own else reader_in list stored) reads) ∙ e

pub unless_stale : (reads rotated : Bool) → (not reads || rotated) ≡ false → reads ≡ true
unless_stale true rotated e = refl
unless_stale false rotated e = absurd cc

equal_paths : (a b : List ℕ) → slice_cmp nat_cmp a b ≡ Equal → a ≡ b
equal_paths a b h = (bytes_eq-Decides a b).0 (sym (is_eq-slice_cmp a b) ∙ ap is_eq h)

abbrev step_in : Step → Result Step CallNo → Step
step_in other (Ok taken) = taken
step_in other (Err why) = other

ok_taken : (taken own : Step) → ◌≡◌ {A = Result Step CallNo} (Ok taken) (Ok own) → taken ≡ own
ok_taken taken own e = ap (step_in taken) e

-- the step found a row, and didn't leave it
abbrev GoesOn : Step → Type 0
GoesOn step.End = ⊥
GoesOn (step.Rewritten path) = ⊤
GoesOn (step.Fresh path) = ⊤
GoesOn (step.Changed path) = ⊤
GoesOn (step.Left path) = ⊥

goes_on : (taken : Step) → FindsRow taken → is_left taken ≡ false → GoesOn taken
goes_on step.End f l = f
goes_on (step.Rewritten path) f l = tt
goes_on (step.Fresh path) f l = tt
goes_on (step.Changed path) f l = tt
goes_on (step.Left path) f l = absurd cc

none_left_of : (b : Bool) (n : ℕ) → cond b 1 0 + n ≡ 0 → b ≡ false
none_left_of true n e = absurd (omega (arith, e))
none_left_of false n e = refl

none_by : (m n : ℕ) → m ≡ capped_count n → m ≡ 0 → n ≡ 0
none_by m n e z = grind arith

goes_as : (taken own : Step) → ◌≡◌ {A = Result Step CallNo} (Ok taken) (Ok own)
    → GoesOn taken → GoesOn own
goes_as taken own e s = subst (λ t. GoesOn t) (ok_taken taken own e) s

unread_left : (path : List ℕ) (why : UnsealNo) (taken : Step)
    → ◌≡◌ {A = Result Step CallNo} (Ok taken) (unread_step path why) → GoesOn taken → ⊥
unread_left path (unsealing.Refused why) taken e s = goes_as taken (step.Left path) e s
unread_left path (unsealing.PluginFailed name) taken e s = absurd cc
unread_left path unsealing.NoMemory taken e s = absurd cc

unsealed_left : (path : List ℕ) (why : SealNo) (taken : Step)
    → ◌≡◌ {A = Result Step CallNo} (Ok taken) (unsealed_step path why) → GoesOn taken → ⊥
unsealed_left path sealing.LooksEncrypted taken e s = goes_as taken (step.Left path) e s
unsealed_left path (sealing.TooLarge size) taken e s = goes_as taken (step.Left path) e s
unsealed_left path sealing.DiceFailed taken e s = absurd cc
unsealed_left path sealing.NoMemory taken e s = absurd cc

-- ---- which steps there are

module _ {S D : Type 0} (Reads : ReadsFoundRow S) (left : D → Option (List ℕ))
    (count : D → ℕ) (replica : ℕ) where
  all_go_on : (above : List ℕ) (steps : List Step) (old new : Caller) (from to : S)
      (dice after : D)
      → WalksOver Reads left count replica above steps old from dice new to after
      → count_by is_left steps ≡ 0 → All GoesOn steps
  all_go_on above [] old new from to dice after walks none = All-nil GoesOn
  all_go_on above (taken ∷ steps) old new from to dice after walks none =
      let one : cond (is_left taken) 1 0 + count_by is_left steps ≡ 0 =
      omega (arith, none, sum_by-cons (λ x. cond (is_left x) 1 0) taken steps) in
      All-cons GoesOn taken steps
      (goes_on taken walks.finds (none_left_of (is_left taken) (count_by is_left steps) one))
      (all_go_on (path_of above taken) steps walks.middle new walks.mids to walks.between after
      walks.behind (omega (arith, one)))

-- ---- callers

none_caller : (above : List ℕ) (old new : Caller) (result : Result Step CallNo) → IsCaller old
    → FindsNone above old result new → IsCaller new
none_caller above old new (Ok step.End) k n =
    caller_next old new (event.After above) answer.Absent n k
none_caller above old new (Err refusal.NoMemory) k n =
    caller_next old new (event.After above) answer.NoMemory n k
none_caller above old new (Err refusal.Spent) k n = subst IsCaller (sym n.same) k
none_caller above old new other k n = absurd n

module _ {D : Type 0} (left : D → Option (List ℕ)) (count : D → ℕ) (p : Publication) (row : Row)
    (old new : Caller) (k : IsCaller old) (dice after : D) (result : Result Step CallNo) where
  same_caller : new ≡ old → IsCaller new
  same_caller same = subst IsCaller (sym same) k

  resealed_caller : (plain : List ℕ) (sealed : Result (List ℕ) SealNo)
      → ResealsBy p row plain sealed old result new → IsCaller new
  resealed_caller plain (Ok stored) (inl r) =
      caller_next old new (event.Replace row.path row.revision stored) r.given r.replaces k
  resealed_caller plain (Ok stored) (inr n) = same_caller (n.0).same
  resealed_caller plain (Err why) r = same_caller r.1

  data_caller : (plain : List ℕ) (stale : Bool)
      → RewritesData left count p row plain stale old dice result new after → IsCaller new
  data_caller plain false r = same_caller r.1
  data_caller plain true (inl r) = resealed_caller plain r.sealed r.reseals
  data_caller plain true (inr r) = same_caller r.1

  opened_caller : (opened : Result Opened UnsealNo)
      → RewritesBy left count p row opened old dice result new after → IsCaller new
  opened_caller (Ok opened) r = data_caller opened.plain opened.stale r
  opened_caller (Err why) r = same_caller r.1

  row_caller : {S : Type 0} (Reads : ReadsFoundRow S) (from to : S)
      → RewritesOver Reads left count p row old from dice result new to after → IsCaller new
  row_caller Reads from to (inl o) = opened_caller o.opened o.rewrites
  row_caller Reads from to (inr n) = same_caller (n.0).1

module _ {S D : Type 0} (Reads : ReadsFoundRow S) (left : D → Option (List ℕ))
    (count : D → ℕ) (replica : ℕ) where
  -- who calls stays a caller
  caller_after : (above : List ℕ) (taken : Step) (old new : Caller) → IsCaller old
      → (from to : S) (dice after : D)
      → IsStepOver Reads left count replica above old from dice (Ok taken) new to after
      → IsCaller new
  caller_after above taken old new k from to dice after (inl early) = absurd early
  caller_after above taken old new k from to dice after (inr h) =
      by_let_go h.lets_go (by_steps h.done
      (caller_next old h.adopted (event.Adopt replica) (answer.Adopted h.number h.p) h.adopts k)
      h.does)
    where
      by_steps : (done : Result Step CallNo) → IsCaller h.adopted
          → StepsOver Reads left count h.p above h.adopted from dice done h.acted to after
          → IsCaller h.acted
      by_steps done a (inl n) = none_caller above h.adopted h.acted done a n.0
      by_steps done a (inr f) = row_caller left count h.p f.row f.found h.acted
          (caller_next h.adopted f.found (event.After above) (answer.Found f.row) f.finds a)
          dice after done Reads from to f.rewrites

      by_let_go : LetsGo h.acted h.done (Ok taken) new → IsCaller h.acted → IsCaller new
      by_let_go (inl a) c = caller_next h.acted new event.LetGo answer.Released a.0 c
      by_let_go (inr a) c = subst IsCaller (sym (a.0).same) c

  caller_walk : (steps : List Step) (above : List ℕ) (old middle : Caller) → IsCaller old
      → (from mids : S) (dice between : D)
      → WalksOver Reads left count replica above steps old from dice middle mids between
      → IsCaller middle × (middle.opening ≡ old.opening)
  caller_walk [] above old middle k from mids dice between walks =
      (subst IsCaller (sym walks.0) k, ap (λ (c : Caller). c.opening) walks.0)
  caller_walk (taken ∷ steps) above old middle k from mids dice between walks =
      let rest = caller_walk steps (path_of above taken) walks.middle middle
      (caller_after above taken old walks.middle k from walks.mids dice walks.between walks.goes)
      walks.mids mids walks.between between walks.behind in
      let t = takes_step Reads left count replica above old walks.middle from walks.mids dice
      walks.between taken walks.goes in
      (rest.0, rest.1 ∙ t.grows.opening_is)

-- ---- moments between the beginning of a drive and its end

pub record IsWithin (start m h : List Entry) : Type 0 where
  pub from : Front start h
  pub up_to : Front h (start ++ m)

-- how a drive passed a path: at some moment nothing was there; or its row wasn't stale by a
-- configuration that was live; or a row was written there; or the row that was there was no more
pub data WasPassed (o : Opening) (start m : List Entry) (FreshBy : Publication → Row → Type 0)
    (path : List ℕ) : Type 0 where
  was_absent : (h : List Entry) → IsWithin start m h
      → (IsSome (live (state_of o h).rows path) → ⊥) → WasPassed o start m FreshBy path
  was_fresh : (h : List Entry) → IsWithin start m h → (p : Publication) (row : Row)
      → IsLiveBy (state_of o h) p → live (state_of o h).rows path ≡ Some row → row.path ≡ path
      → FreshBy p row → WasPassed o start m FreshBy path
  was_written : (front : List Entry) (e : Entry) → IsWithin start m front
      → IsWithin start m (front ++ e ∷ []) → IsWritten e.line.gave
      → path_written e.line.did ≡ path → WasPassed o start m FreshBy path
  was_changed : (h : List Entry) → IsWithin start m h → (row : Row)
      → live (state_of o h).rows path ≡ Some row → (front : List Entry)
      → IsWithin start m front → Front h front
      → (¬ IsStill (state_of o front).rows path row.revision) → WasPassed o start m FreshBy path

-- what a seat held when it found a row is live
live_held : (o : Opening) (h : List Entry) → IsLegal o h → (e : Entry) → IsStep o (state_of o h) e
    → (number : ℕ) (p : Publication) → e.line.held ≡ Some number → e.published ≡ Some p
    → IsLiveBy (state_of o h) p
live_held o h l e s number p held published_is =
    let st : State = state_of o h in
    let there = contains_at st.held e.line.seat number (sym s.held ∙ held) in (
      number,
      inr there,
      sym (published_front st.generations (new_generations e.line.gave e.line.did) (Some number)
          ((legal_sound o h l).held number there))
          ∙ sym (ap (λ x. published_at (after st e).generations
          (generation_named_by x e.line.gave)) held)
          ∙ sym (ap (λ (x : Entry). x.published) s.payload) ∙ published_is,
    )

module _ (o : Opening) (start m : List Entry) (FreshBy : Publication → Row → Type 0) where
  abbrev Within : List Entry → Type 0
  Within h = IsWithin start m h

  abbrev Was : List ℕ → Type 0
  Was path = WasPassed o start m FreshBy path

  -- ---- a row that was found

  module _ {D : Type 0} (left : D → Option (List ℕ)) (count : D → ℕ) (above : List ℕ)
      (taken : Step) (settled : GoesOn taken) (p : Publication) (row : Row) (h : List Entry)
      (w : Within h) (there : live (state_of o h).rows row.path ≡ Some row)
      (old new : Caller) (opening : old.opening ≡ o) (between : Front h old.seen)
      (from : Front start old.seen) (up_to : Front new.seen (start ++ m)) (dice after : D) where
    abbrev Done : Type 0
    Done = Was (path_of above taken)

    taken_as : (own : Step) → ◌≡◌ {A = Result Step CallNo} (Ok taken) (Ok own)
        → Was (path_of above own) → Done
    taken_as own e w = subst (λ t. Was (path_of above t)) (sym (ok_taken taken own e)) w

    replaced : (stored : List ℕ) (given : Answer)
        → AddsEntry old (event.Replace row.path row.revision stored) given new
        → ReplacesBy row.path given (Ok taken) → Done
    replaced stored (answer.Written revision) a r =
        let asked = event.Replace row.path row.revision stored in
        let e : Entry = a.entry in
        let front : List Entry = old.seen ++ a.others in
        let seen : new.seen ≡ front ++ e ∷ [] = seen_is old new asked (answer.Written revision) a in
        let to_front : Front start front = front_then start old.seen front from (a.others, refl) in
        let was = was_written front e (record {
          from = to_front;
          up_to = front_then front new.seen (start ++ m) (e ∷ [], seen) up_to;
        }) (record {
          from = front_then start front (front ++ e ∷ []) to_front (e ∷ [], refl);
          up_to = (up_to.0, up_to.1 ∙ ap (λ s. s ++ up_to.0) seen);
        }) (subst (λ g. IsWritten g) (sym a.records.gave_is) tt)
        (ap path_written a.records.did_is) in
        taken_as (step.Rewritten row.path) r was
    replaced stored (answer.Changed last) a r =
        let asked = event.Replace row.path row.revision stored in
        let front : List Entry = old.seen ++ a.others in
        let seen : new.seen ≡ front ++ a.entry ∷ [] =
        seen_is old new asked (answer.Changed last) a in
        let answered = subst (λ d. IsAnswer d (gave.Changed last) (state_of old.opening front)
        a.entry.line.held) a.records.did_is
        (subst (λ g. IsAnswer a.entry.line.did g (state_of old.opening front)
        a.entry.line.held) a.records.gave_is a.step.answer) in
        taken_as (step.Changed row.path) r
        (was_changed h w row there front (record {
          from = front_then start old.seen front from (a.others, refl);
          up_to = front_then front new.seen (start ++ m) (a.entry ∷ [], seen) up_to;
        }) (front_then h old.seen front between (a.others, refl))
        (subst (λ (x : Opening). ¬ IsStill (state_of x front).rows row.path row.revision) opening
        answered.1))
    replaced stored answer.StoreFailed a r = absurd cc
    replaced stored (answer.StoreFull needed) a r = absurd cc
    replaced stored answer.NoMemory a r = absurd cc
    replaced stored other a r = absurd r

    resealed : (plain : List ℕ) (sealed : Result (List ℕ) SealNo)
        → ResealsBy p row plain sealed old (Ok taken) new → Done
    resealed plain (Ok stored) (inl r) = replaced stored r.given r.replaces r.answers
    resealed plain (Ok stored) (inr n) = let e = n.1 in absurd cc
    resealed plain (Err why) r = absurd (unsealed_left row.path why taken r.0 settled)

    data_done : (plain : List ℕ) (stale : Bool) → (stale ≡ false → Was row.path)
        → RewritesData left count p row plain stale old dice (Ok taken) new after → Done
    data_done plain false fresh r = taken_as (step.Fresh row.path) r.0 (fresh refl)
    data_done plain true fresh (inl r) = resealed plain r.sealed r.reseals
    data_done plain true fresh (inr r) = let e = r.0 in absurd cc

    opened_done : (opened : Result Opened UnsealNo)
        → ((own : Opened) → opened ≡ Ok own → own.stale ≡ false → Was row.path)
        → RewritesBy left count p row opened old dice (Ok taken) new after → Done
    opened_done (Ok opened) fresh r =
        data_done opened.plain opened.stale (fresh opened refl) r
    opened_done (Err why) fresh r = absurd (unread_left row.path why taken r.0 settled)

  -- ---- a step, and a walk

  module _ {S D : Type 0} (Reads : ReadsFoundRow S)
      (tells : (p : Publication) (row : Row) (from to : S) (opened : Opened)
      → Reads p row from (Ok opened) to → opened.stale ≡ false
      → FreshBy p row)
      (left : D → Option (List ℕ)) (count : D → ℕ) (replica : ℕ) where
    row_done : (above : List ℕ) (taken : Step) → GoesOn taken → (p : Publication) (row : Row)
        → (h : List Entry) → Within h → IsLiveBy (state_of o h) p
        → live (state_of o h).rows row.path ≡ Some row → (old new : Caller)
        → old.opening ≡ o → Front h old.seen
        → Front start old.seen → Front new.seen (start ++ m) → (from to : S) (dice after : D)
        → RewritesOver Reads left count p row old from dice (Ok taken) new to after
        → Was (path_of above taken)
    row_done above taken settled p row h w lives there old new opening between begun ends from to dice after
        (inl r) =
        opened_done left count above taken settled p row h w there old new opening between begun ends dice after r.opened
        (λ own is fresh. was_fresh h w p row lives there refl
        (tells p row from to own (subst (λ x. Reads p row from x to) is r.unseals) fresh))
        r.rewrites
    row_done above taken settled p row h w lives there old new opening between begun ends from to dice after
        (inr n) = let e = n.0.0 in absurd cc

    -- what was done is the answer
    done_is : (taken : Step) (acted new : Caller) (done : Result Step CallNo)
        → LetsGo acted done (Ok taken) new → done ≡ Ok taken
    done_is taken acted new done (inl a) = sym a.1
    done_is taken acted new done (inr a) = let e = a.1 in absurd cc

    none_settled : (above : List ℕ) (taken : Step) (old new : Caller)
        → FindsNone above old (Ok taken) new → GoesOn taken → ⊥
    none_settled above step.End old new n s = s
    none_settled above (step.Rewritten path) old new n s = n
    none_settled above (step.Fresh path) old new n s = n
    none_settled above (step.Changed path) old new n s = n
    none_settled above (step.Left path) old new n s = n

    module _ (above : List ℕ) (taken : Step) (settled : GoesOn taken) (old new : Caller)
        (k : IsCaller old) (opening : old.opening ≡ o) (begun : Front start old.seen)
        (ends : Front new.seen (start ++ m)) (from ahead : S) (dice after : D) (number : ℕ)
        (p : Publication) (adopted acted : Caller)
        (adopts : AddsEntry old (event.Adopt replica) (answer.Adopted number p) adopted)
        (goes : Grows acted new) where
      abbrev Adopting : Event
      Adopting = event.Adopt replica

      abbrev Held : Answer
      Held = answer.Adopted number p

      adopted_begun : Front start adopted.seen
      adopted_begun = let g = grows_entry old adopted Adopting Held adopts in
          front_then start old.seen adopted.seen begun (g.more, g.seen_is)

      adopted_opening : adopted.opening ≡ o
      adopted_opening = opening_is old adopted Adopting Held adopts ∙ opening

      acted_ends : Front acted.seen (start ++ m)
      acted_ends = front_then acted.seen new.seen (start ++ m) (goes.more, goes.seen_is) ends

      found_done : (row : Row) (found : Caller)
          → AddsEntry adopted (event.After above) (answer.Found row) found
          → RewritesOver Reads left count p row found from dice (Ok taken) acted ahead after
          → Was (path_of above taken)
      found_done row found finds rewrites =
          let asked = event.After above in
          let given = answer.Found row in
          let h : List Entry = adopted.seen ++ finds.others in
          let g = grows_entry adopted found asked given finds in
          let r = rewrites_grow Reads left count p row found acted from ahead dice after (Ok taken)
          rewrites in
          let found_ends = front_then found.seen acted.seen (start ++ m) (r.more, r.seen_is)
          acted_ends in
          let named = held_is_named adopted found asked given number p
          (caller_next old adopted Adopting Held adopts k) finds
          (adopted_law old adopted replica number p adopts) in
          let next = after_finds adopted found above row finds in
          row_done above taken settled p row h
          (record {
            from = front_then start adopted.seen h adopted_begun (finds.others, refl);
            up_to = front_then h found.seen (start ++ m)
                (finds.entry ∷ [], seen_is adopted found asked given finds) found_ends;
          })
          (subst (λ (x : Opening). IsLiveBy (state_of x h) p) adopted_opening
          (live_held adopted.opening h finds.legal finds.entry finds.step number p named.held
          named.published))
          (subst (λ (x : Opening). live (state_of x h).rows row.path ≡ Some row) adopted_opening
          next.1)
          found acted (opening_is adopted found asked given finds ∙ adopted_opening)
          (finds.entry ∷ [], seen_is adopted found asked given finds)
          (front_then start adopted.seen found.seen adopted_begun (g.more, g.seen_is)) acted_ends
          from ahead dice after rewrites

      steps_done : StepsOver Reads left count p above adopted from dice (Ok taken) acted ahead after
          → Was (path_of above taken)
      steps_done (inl n) = absurd (none_settled above taken adopted acted n.0 settled)
      steps_done (inr f) = found_done f.row f.found f.finds f.rewrites

    step_done : (above : List ℕ) (taken : Step) → GoesOn taken → (old new : Caller)
        → IsCaller old → old.opening ≡ o → Front start old.seen → Front new.seen (start ++ m)
        → (from to : S) (dice after : D)
        → IsStepOver Reads left count replica above old from dice (Ok taken) new to after
        → Was (path_of above taken)
    step_done above taken settled old new k opening begun ends from to dice after (inl early) =
        absurd early
    step_done above taken settled old new k opening begun ends from to dice after (inr h) =
        steps_done above taken settled old new k opening begun ends from to dice after h.number h.p
        h.adopted h.acted h.adopts (lets_go_grows h.acted new h.done (Ok taken) h.lets_go)
        (subst (λ d. StepsOver Reads left count h.p above h.adopted from dice d h.acted to after)
        (done_is taken h.acted new h.done h.lets_go) h.does)

    -- a path above that a step passed by, or found, is settled
    module _ (above : List ℕ) (taken : Step) (old here : Caller) (opening : old.opening ≡ o)
        (begun : Front start old.seen) (here_ends : Front here.seen (start ++ m)) where
      looked_within : (found : Option Row) (l : LooksAt above old here found)
          → Within (old.seen ++ l.before)
      looked_within found l = record {
        from = front_then start old.seen (old.seen ++ l.before) begun (l.before, refl);
        up_to = front_then (old.seen ++ l.before) here.seen (start ++ m)
            (l.entry ∷ l.rest, l.seen_is) here_ends;
      }

      none_above : LooksAt above old here None → (path : List ℕ)
          → slice_cmp nat_cmp above path ≡ Less → Was path
      none_above l path less =
          let h : List Entry = old.seen ++ l.before in
          let next = subst (λ (x : Opening). IsNext (state_of x h).rows above None) opening l.next in
          was_absent h (looked_within None l) (λ lives. next path lives less)

      at_path : (row : Row) → IsAt row.path taken → LooksAt above old here (Some row)
          → Was (path_of above taken)
          → ((q : List ℕ) → slice_cmp nat_cmp (path_of above taken) q ≡ Less → Was q)
          → (path : List ℕ) → slice_cmp nat_cmp above path ≡ Less
          → (r : Ordering) → slice_cmp nat_cmp path row.path ≡ r → Was path
      at_path row at l own beyond path less Less c =
          let h : List Entry = old.seen ++ l.before in
          let next = subst (λ (x : Opening). IsNext (state_of x h).rows above (Some row)) opening
          l.next in
          was_absent h (looked_within (Some row) l) (λ lives. next.2 path lives less c)
      at_path row at l own beyond path less Equal c =
          subst (λ q. Was q) (at.path_is above ∙ sym (equal_paths path row.path c)) own
      at_path row at l own beyond path less Greater c =
          beyond path (ap (λ q. slice_cmp nat_cmp q path) (at.path_is above)
          ∙ (nat_list_cmp_total.antisymm row.path path ∙ ap ordering_reverse c))

      looked : GoesOn taken → StepLooks above old here taken → Was (path_of above taken)
          → ((q : List ℕ) → slice_cmp nat_cmp (path_of above taken) q ≡ Less → Was q)
          → (path : List ℕ) → slice_cmp nat_cmp above path ≡ Less → Was path
      looked settled (at_row row at l) own beyond path less =
          at_path row at l own beyond path less (slice_cmp nat_cmp path row.path) refl
      looked settled (at_end is l) own beyond path less =
          absurd (subst (λ s. GoesOn s) is settled)

      ended : StepLooks above old here step.End → (path : List ℕ)
          → slice_cmp nat_cmp above path ≡ Less → Was path
      ended (at_row row at l) path less = absurd at.finds
      ended (at_end is l) path less = none_above l path less

    -- so is each, where each step of a walk settles its own path, and the last one ends
    walk_done : (steps : List Step) (above : List ℕ) (old middle new : Caller) → IsCaller old
        → old.opening ≡ o → Front start old.seen → Front new.seen (start ++ m) → All GoesOn steps
        → (from mids to : S) (dice between after : D)
        → WalksOver Reads left count replica above steps old from dice middle mids between
        → IsStepOver Reads left count replica (last_of above steps) middle mids between
        (Ok step.End) new to after
        → Grows old new × ((path : List ℕ) → slice_cmp nat_cmp above path ≡ Less → Was path)
    walk_done [] above old middle new k opening begun ends settled from mids to dice between after
        walks last =
        let t = subst (λ (c : Caller). TakesStep above c new step.End) walks.0
        (takes_step Reads left count replica above middle new mids to between after step.End last) in
        (t.grows, ended above step.End old new opening begun ends t.looks)
    walk_done (taken ∷ steps) above old middle new k opening begun ends settled from mids to dice
        between after walks last =
        let t = takes_step Reads left count replica above old walks.middle from walks.mids dice
        walks.between taken walks.goes in
        let head = All-head GoesOn taken steps settled in
        let rest = walk_done steps (path_of above taken) walks.middle middle new
        (caller_after Reads left count replica above taken old walks.middle k from walks.mids dice
        walks.between walks.goes)
        (t.grows.opening_is ∙ opening)
        (front_then start old.seen walks.middle.seen begun (t.grows.more, t.grows.seen_is)) ends
        (All-tail GoesOn taken steps settled) walks.mids mids to walks.between between after
        walks.behind last in
        let middle_ends = front_then walks.middle.seen new.seen (start ++ m)
        (rest.0.more, rest.0.seen_is) ends in
        let own = step_done above taken head old walks.middle k opening begun middle_ends from
        walks.mids dice walks.between walks.goes in (
          grows_then old walks.middle new t.grows rest.0,
          looked above taken old walks.middle opening begun middle_ends head t.looks own rest.1,
        )

-- ---- what was passed was settled then

module _ (o : Opening) (to : List ConfigEntry) (start m : List Entry)
    (legal : IsLegal o (start ++ m)) (write : LiveWrite to (state_of o start))
    (all : AllWrite to m) where
  abbrev Inside : List Entry → Type 0
  Inside h = IsWithin start m h

  whole_is : (h : List Entry) (w : Inside h)
      → start ++ m ≡ (start ++ (w.from).0) ++ (w.up_to).0
  whole_is h w = (w.up_to).1 ∙ ap (λ s. s ++ (w.up_to).0) (w.from).1

  more_is : (h : List Entry) (w : Inside h) → m ≡ (w.from).0 ++ (w.up_to).0
  more_is h w = cancelled start m ((w.from).0 ++ (w.up_to).0)
      (whole_is h w ∙ append_assoc start (w.from).0 (w.up_to).0)

  legal_at : (h : List Entry) → Inside h → IsLegal o h
  legal_at h w = legal_front o h (w.up_to).0 (subst (IsLegal o) (w.up_to).1 legal)

  writes_at : (h : List Entry) → Inside h → LiveWrite to (state_of o h)
  writes_at h w = subst (λ s. LiveWrite to (state_of o s)) (sym (w.from).1)
      (writers_stay o start (w.from).0 to
      (legal_front o (start ++ (w.from).0) (w.up_to).0 (subst (IsLegal o) (whole_is h w) legal))
      write (front_writes to (w.from).0 (w.up_to).0 (subst (AllWrite to) (more_is h w) all)))

  -- at one of them the path was settled
  record WasAt (path : List ℕ) : Type 0 where
    moment : List Entry
    within : Inside moment
    settled : IsSettledAt to (state_of o moment) path

  was_settled_at : (path : List ℕ) → WasAt path → WasSettled to o start m path
  was_settled_at path w = (
    ((w.within).from).0,
    ((w.within).up_to).0,
    more_is w.moment w.within,
    subst (λ s. IsSettledAt to (state_of o s) path) ((w.within).from).1 w.settled,
  )

  -- where nothing lives it is
  absent_settles : (h : List Entry) → Inside h → (path : List ℕ)
      → (IsSome (live (state_of o h).rows path) → ⊥) → WasAt path
  absent_settles h w path none = record {
    moment = h;
    within = w;
    settled = λ need there at.
        let st = state_of o h in
        let is = needed_stored st (needed_of o h (legal_at h w)) need there in
        absurd (none (subst (λ q. IsSome (live st.rows q)) at
        (subst (λ x. IsSome x) (sym is.1) refl)));
  }

  -- a value that the writer of a live configuration reads is
  read_settles : (h : List Entry) → Inside h → (p : Publication) (row : Row)
      → IsLive (state_of o h) p.rows → live (state_of o h).rows row.path ≡ Some row
      → is_reader row.stored (writer_of (list_at p row.resource)) ≡ true → WasAt row.path
  read_settles h w p row lives there reads =
      let st = state_of o h in
      let r = live_is_readable o h row.path row p.rows (legal_at h w) there lives in
      let own : Need = record { path = row.path; resource = row.resource; who = r.0 } in
      let needs : NeedsWriter to own =
      sym (writes_at h w p.rows lives (Exact row.resource))
      ∙ first_read row.stored (list_at p row.resource) r.0 r.2 reads in
      record {
        moment = h;
        within = w;
        settled = λ need member at.
            let is = needed_stored st (needed_of o h (legal_at h w)) need member in
            let same : own ≡ need = same_Some own need
            (sym r.1 ∙ ap (λ q. need_at st.needs q) (sym at) ∙ is.3) in
            subst (NeedsWriter to) same needs;
      }

  write_settles : (front : List Entry) (e : Entry) → Inside front → Inside (front ++ e ∷ [])
      → IsWritten e.line.gave → WasAt (path_written e.line.did)
  write_settles front e w v written = record {
    moment = front ++ e ∷ [];
    within = v;
    settled = writing_settles o front e to (legal_at (front ++ e ∷ []) v) (writes_at front w)
        written;
  }

  -- a path whose live row was this one, and is so no more
  changed_settles : (h : List Entry) (w : Inside h) (path : List ℕ) (row : Row)
      → live (state_of o h).rows path ≡ Some row → (front : List Entry) → Inside front
      → Front h front → (¬ IsStill (state_of o front).rows path row.revision) → WasAt path
  changed_settles h w path row there front v (x, front_is) changed =
      let y : List Entry = (v.up_to).0 in
      let rest_is : (w.up_to).0 ≡ x ++ y = cancelled h (w.up_to).0 (x ++ y)
      (sym (w.up_to).1 ∙ (v.up_to).1 ∙ ap (λ s. s ++ y) front_is ∙ append_assoc h x y) in
      let rest_all = subst (AllWrite to) rest_is
      (rest_writes to (w.from).0 (w.up_to).0 (subst (AllWrite to) (more_is h w) all)) in
      by x y front_is (stays_or_settled o h x to path
      (subst (IsLegal o) front_is (legal_at front v)) (writes_at h w)
      (front_writes to x y rest_all))
    where
      by : (x y : List Entry) → front ≡ h ++ x
          → (live (state_of o (h ++ x)).rows path ≡ live (state_of o h).rows path)
          ⊎ IsSettledAt to (state_of o (h ++ x)) path → WasAt path
      by x y is (inl same) = absurd (changed (
        row,
        record {
          is = ap (λ s. live (state_of o s).rows path) is ∙ same ∙ there;
          revision_is = refl;
        },
      ))
      by x y is (inr settled) = record {
        moment = front;
        within = v;
        settled = subst (λ s. IsSettledAt to (state_of o s) path) (sym is) settled;
      }

  passed_settles : (path : List ℕ)
      → WasPassed o start m (λ p row. is_reader row.stored (writer_of (list_at p row.resource))
      ≡ true) path → WasAt path
  passed_settles path (was_absent h w none) = absent_settles h w path none
  passed_settles path (was_fresh h w p row lives there is reads) = subst (λ q. WasAt q) is
      (read_settles h w p row
      (lives.0, lives.1, ap (option_map (λ (q : Publication). q.rows)) lives.2)
      (ap (live (state_of o h).rows) is ∙ there) reads)
  passed_settles path (was_written front e w v written is) =
      subst (λ q. WasAt q) is (write_settles front e w v written)
  passed_settles path (was_changed h w row there front v between changed) =
      changed_settles h w path row there front v between changed

-- ---- the whole drive

fresh_tells : {L : Type 0} (link : L → Link) (p : Publication) (row : Row) (from to : List L)
    (opened : Opened) → UnsealsRow link p row from (Ok opened) to → opened.stale ≡ false
    → is_reader row.stored (writer_of (list_at p row.resource)) ≡ true
fresh_tells link p row from to opened r fresh = unless_stale
    (is_reader row.stored (writer_of (list_at p row.resource)))
    (is_rotated r.envelope p.seeds (writer_of (list_at p row.resource)))
    (sym (r.is).1 ∙ fresh)

each_path : (o : Opening) (start m : List Entry) (to : List ConfigEntry) → IsLegal o start
    → ((path : List ℕ) → slice_cmp nat_cmp [] path ≡ Less → WasSettled to o start m path)
    → (path : List ℕ) → WasSettled to o start m path
each_path o start m to legal above [] = (
  [],
  m,
  refl,
  λ need there at. absurd (no_need_there o (start ++ [])
      (subst (IsLegal o) (sym (append-nil start)) legal) need there at),
)
each_path o start m to legal above (byte ∷ path) = above (byte ∷ path) refl

-- what a drive over all paths that left no row says of each
pub record DrivePasses (o : Opening) (start m : List Entry) (FreshBy : Publication → Row → Type 0)
    : Type 0 where
  pub legal : IsLegal o (start ++ m)
  pub each : (path : List ℕ) → slice_cmp nat_cmp [] path ≡ Less
      → WasPassed o start m FreshBy path

pub drive_passes : {L D : Type 0} (link : L → Link) (left : D → Option (List ℕ)) (count : D → ℕ)
    (FreshBy : Publication → Row → Type 0)
    (tells : (p : Publication) (row : Row) (from to : List L) (opened : Opened)
    → UnsealsRow link p row from (Ok opened) to → opened.stale ≡ false → FreshBy p row)
    (replica : ℕ) (old : Caller) (olds : List L) (dice : D) (report : Report) (new : Caller)
    (news : List L) (after : D) (more : List Entry) → IsCaller old
    → Drives link left count replica [] old olds dice report new news after
    → report.left ≡ 0 → new.seen ≡ old.seen ++ more
    → DrivePasses old.opening old.seen more FreshBy
drive_passes link left count FreshBy tells replica old olds dice report new news after more k drive
    none_left seen =
    let ends = drive.ends in
    let middle = caller_walk (UnsealsRow link) left count replica drive.steps [] old ends.middle k
    olds ends.mids dice ends.between ends.walks in
    let last = caller_after (UnsealsRow link) left count replica (last_of [] drive.steps) step.End
    ends.middle new middle.0 ends.mids news ends.between after ends.ends in
    let opening : new.opening ≡ old.opening =
    (takes_step (UnsealsRow link) left count replica (last_of [] drive.steps) ends.middle new
    ends.mids news ends.between after step.End ends.ends).grows.opening_is ∙ middle.1 in
    let walked = walk_done old.opening old.seen more FreshBy (UnsealsRow link) tells left count
    replica drive.steps [] old ends.middle new k refl
    ([], sym (append-nil old.seen)) ([], sym seen ∙ sym (append-nil new.seen))
    (all_go_on (UnsealsRow link) left count replica [] drive.steps old ends.middle olds ends.mids dice
    ends.between ends.walks
    (none_by report.left (count_by is_left drive.steps) (ends.counts).left none_left))
    olds ends.mids news dice ends.between after ends.walks
    ends.ends in
    record {
      legal = subst (IsLegal old.opening) seen
          (subst (λ o. IsLegal o new.seen) opening last.legal);
      each = walked.1;
    }

pub rewrite_settles : {L D : Type 0} (link : L → Link) (left : D → Option (List ℕ))
    (count : D → ℕ) → RewriteSettles link left count
rewrite_settles link left count replica old olds dice report new news after to more k drive
    none_left seen write all =
    let passes = drive_passes link left count
    (λ p row. is_reader row.stored (writer_of (list_at p row.resource)) ≡ true) (fresh_tells link)
    replica old olds dice report new news after more k drive none_left seen in
    let each = each_path old.opening old.seen more to k.legal
    (λ path less. was_settled_at old.opening to old.seen more passes.legal write all path
    (passed_settles old.opening to old.seen more passes.legal write all path
    (passes.each path less))) in
    record {
      each = each;
      at_end = subst (λ s. AreSettled to (state_of old.opening s)) (sym seen)
          (all_become_settled old.opening old.seen more to passes.legal write all each);
    }
