-- What a step adds to what its caller sees, and which row it found.
use Rattle.std.proofs.Common.{◌≡◌, inl, inr, ℕ, ◌<◌, ◌≤◌, Bool, true, false, List, [], ◌∷◌, ◌++◌, Option, None, Some, Result, Ok, Err, refl, sym, ap, subst, ◌∙◌, append-nil, arith}
use Rattle.std.proofs.lemmas.List.{append_assoc}
use Rattle.std.proofs.lemmas.Option.{same_Some}
use Rattle.kr_provider.specs.Publication.{Publication}
use Rattle.kr_provider.specs.declared.refusal.Opened.{Opened}
use Rattle.kr_provider.specs.declared.refusal.SealNo.{SealNo}
use Rattle.kr_provider.specs.declared.refusal.SealNo.TheVariants as sealing
use Rattle.kr_provider.specs.declared.refusal.UnsealNo.{UnsealNo}
use Rattle.kr_provider.specs.declared.refusal.UnsealNo.TheVariants as unsealing
use Rattle.kr_store.specs.Stores.{IsNext}
use Rattle.kr_store.specs.declared.rows.Row.{Row}
use Rattle.kr_rollout.specs.declared.answer.Answer.{Answer}
use Rattle.kr_rollout.specs.declared.answer.Answer.TheVariants as answer
use Rattle.kr_history.specs.declared.call.CallNo.{CallNo}
use Rattle.kr_history.specs.declared.call.CallNo.TheVariants as refusal
use Rattle.kr_rollout.specs.declared.event.Event.{Event}
use Rattle.kr_rollout.specs.declared.event.Event.TheVariants as event
use Rattle.kr_rollout.specs.declared.line.Did.TheVariants as did
use Rattle.kr_rollout.specs.declared.line.Gave.TheVariants as gave
use Rattle.kr_rollout.specs.declared.opening.Entry.{Entry}
use Rattle.kr_rollout.specs.declared.opening.Opening.{Opening}
use Rattle.kr_history.specs.Acting.{Caller, AddsEntry}
use Rattle.kr_rollout.specs.Answers.{IsAnswer}
use Rattle.kr_history.specs.Calls.{AdoptsNothing, EndsEarly, LetsGo}
use Rattle.kr_history.specs.ContentLaws.{IsRowFor}
use Rattle.kr_rollout.specs.Histories.{state_of}
use Rattle.kr_history.proofs.FoundRows.{found_is_live}
use Rattle.kr_history.proofs.Nexts.{legal_now, opening_is, seat_is, seen_is}
use Rattle.kr_history.proofs.NothingAdopted.{nothing_adopted}
use Rattle.kr_rewrite.specs.Drives.{FindsRow, path_of}
use Rattle.kr_rewrite.specs.Rewrites.{FindsNone, IsStepOver, ReplacesBy, ResealsBy, RewritesBy, RewritesData, RewritesOver, ReadsFoundRow, StepsOver, unread_step, unsealed_step}
use Rattle.kr_rewrite.specs.declared.outcome.Step.{Step}
use Rattle.kr_rewrite.specs.declared.outcome.Step.TheVariants as step
use Rattle.kr_rewrite.proofs.OneEntry.{found_none, rewritten}

-- ---- more is seen, and fewer lines are left

pub record Grows (old new : Caller) : Type 0 where
  pub more : List Entry
  pub opening_is : new.opening ≡ old.opening
  pub seen_is : new.seen ≡ old.seen ++ more
  pub left_less : new.left ≤ old.left

grows_itself : (c : Caller) → Grows c c
grows_itself c = record {
  more = [];
  opening_is = refl;
  seen_is = sym (append-nil c.seen);
  left_less = omega arith;
}

pub grows_same : (old new : Caller) → new ≡ old → Grows old new
grows_same old new same = subst (λ c. Grows old c) (sym same) (grows_itself old)

pub grows_entry : (old new : Caller) (asked : Event) (given : Answer) → AddsEntry old asked given
    new
    → Grows old new
grows_entry old new asked given a = record {
  more = a.others ++ a.entry ∷ [];
  opening_is = opening_is old new asked given a;
  seen_is = seen_is old new asked given a ∙ append_assoc old.seen a.others (a.entry ∷ []);
  left_less = omega (arith, a.left_is);
}

pub grows_then : (old middle new : Caller) → Grows old middle → Grows middle new → Grows old new
grows_then old middle new a b = record {
  more = a.more ++ b.more;
  opening_is = b.opening_is ∙ a.opening_is;
  seen_is = b.seen_is ∙ ap (λ s. s ++ b.more) a.seen_is ∙ append_assoc old.seen a.more b.more;
  left_less = omega (arith, a.left_less, b.left_less);
}

pub rewrites_grow : {S D : Type 0} (Reads : ReadsFoundRow S) (left : D → Option (List ℕ))
    (count : D → ℕ) (p : Publication) (row : Row) (old new : Caller) (from to : S)
    (dice after : D) (result : Result Step CallNo)
    → RewritesOver Reads left count p row old from dice result new to after → Grows old new
rewrites_grow Reads left count p row old new from to dice after result r =
    rewritten old new (Grows old new) (grows_same old new) row
    (λ stored given stays e.
    grows_entry old new (event.Replace row.path row.revision stored) given e)
    left count p dice after Reads from to result r

pub lets_go_grows : (old new : Caller) (done result : Result Step CallNo)
    → LetsGo old done result new → Grows old new
lets_go_grows old new done result (inl a) =
    grows_entry old new event.LetGo answer.Released a.0
lets_go_grows old new done result (inr a) = grows_same old new a.0.same

-- ---- the row that a step found

-- the step found a row of this path
pub record IsAt (path : List ℕ) (taken : Step) : Type 0 where
  pub finds : FindsRow taken
  pub path_is : (above : List ℕ) → path_of above taken ≡ path

abbrev step_in : Step → Result Step CallNo → Step
step_in other (Ok taken) = taken
step_in other (Err why) = other

is_at : (path : List ℕ) (taken own : Step) → IsAt path own
    → ◌≡◌ {A = Result Step CallNo} (Ok taken) (Ok own) → IsAt path taken
is_at path taken own at e = subst (λ s. IsAt path s) (sym (ap (step_in taken) e)) at

not_ok : (path : List ℕ) (taken : Step) (why : CallNo)
    → ◌≡◌ {A = Result Step CallNo} (Ok taken) (Err why) → IsAt path taken
not_ok path taken why e = cc

at_rewritten : (path : List ℕ) → IsAt path (step.Rewritten path)
at_rewritten path = record { finds = tt; path_is = λ above. refl }

at_fresh : (path : List ℕ) → IsAt path (step.Fresh path)
at_fresh path = record { finds = tt; path_is = λ above. refl }

at_changed : (path : List ℕ) → IsAt path (step.Changed path)
at_changed path = record { finds = tt; path_is = λ above. refl }

at_left : (path : List ℕ) → IsAt path (step.Left path)
at_left path = record { finds = tt; path_is = λ above. refl }

replaced_at : (path : List ℕ) (given : Answer) (taken : Step) → ReplacesBy path given (Ok taken)
    → IsAt path taken
replaced_at path (answer.Written revision) taken d =
    is_at path taken (step.Rewritten path) (at_rewritten path) d
replaced_at path (answer.Changed last) taken d =
    is_at path taken (step.Changed path) (at_changed path) d
replaced_at path answer.StoreFailed taken d = not_ok path taken refusal.StoreFailed d
replaced_at path (answer.StoreFull needed) taken d =
    not_ok path taken (refusal.StoreFull needed) d
replaced_at path answer.NoMemory taken d = not_ok path taken refusal.NoMemory d
replaced_at path other taken d = absurd d

unsealed_at : (path : List ℕ) (why : SealNo) (taken : Step)
    → ◌≡◌ {A = Result Step CallNo} (Ok taken) (unsealed_step path why) → IsAt path taken
unsealed_at path sealing.LooksEncrypted taken e =
    is_at path taken (step.Left path) (at_left path) e
unsealed_at path (sealing.TooLarge size) taken e =
    is_at path taken (step.Left path) (at_left path) e
unsealed_at path sealing.DiceFailed taken e = not_ok path taken refusal.DiceFailed e
unsealed_at path sealing.NoMemory taken e = not_ok path taken refusal.NoMemory e

unread_at : (path : List ℕ) (why : UnsealNo) (taken : Step)
    → ◌≡◌ {A = Result Step CallNo} (Ok taken) (unread_step path why) → IsAt path taken
unread_at path (unsealing.Refused why) taken e =
    is_at path taken (step.Left path) (at_left path) e
unread_at path (unsealing.PluginFailed name) taken e =
    not_ok path taken (refusal.PluginFailed name) e
unread_at path unsealing.NoMemory taken e = not_ok path taken refusal.NoMemory e

resealed_at : (p : Publication) (row : Row) (plain : List ℕ) (sealed : Result (List ℕ) SealNo)
    (old new : Caller) (taken : Step) → ResealsBy p row plain sealed old (Ok taken) new
    → IsAt row.path taken
resealed_at p row plain (Ok stored) old new taken (inl r) =
    replaced_at row.path r.given taken r.answers
resealed_at p row plain (Ok stored) old new taken (inr n) =
    not_ok row.path taken refusal.Spent n.1
resealed_at p row plain (Err why) old new taken r = unsealed_at row.path why taken r.0

module _ {D : Type 0} (left : D → Option (List ℕ)) (count : D → ℕ) (p : Publication) (row : Row)
    (old new : Caller) (dice after : D) where
  data_at : (plain : List ℕ) (stale : Bool) (taken : Step)
      → RewritesData left count p row plain stale old dice (Ok taken) new after
      → IsAt row.path taken
  data_at plain false taken r = is_at row.path taken (step.Fresh row.path) (at_fresh row.path) r.0
  data_at plain true taken (inl r) = resealed_at p row plain r.sealed old new taken r.reseals
  data_at plain true taken (inr r) = not_ok row.path taken refusal.NoMemory r.0

  opened_at : (opened : Result Opened UnsealNo) (taken : Step)
      → RewritesBy left count p row opened old dice (Ok taken) new after → IsAt row.path taken
  opened_at (Ok opened) taken r = data_at opened.plain opened.stale taken r
  opened_at (Err why) taken r = unread_at row.path why taken r.0

rewrites_at : {S D : Type 0} (Reads : ReadsFoundRow S) (left : D → Option (List ℕ))
    (count : D → ℕ) (p : Publication) (row : Row) (old new : Caller) (from to : S)
    (dice after : D) (taken : Step)
    → RewritesOver Reads left count p row old from dice (Ok taken) new to after
    → IsAt row.path taken
rewrites_at Reads left count p row old new from to dice after taken (inl o) =
    opened_at left count p row old new dice after o.opened taken o.rewrites
rewrites_at Reads left count p row old new from to dice after taken (inr n) =
    not_ok row.path taken refusal.NoMemory n.0.0

-- ---- what an After finds

pub after_finds : (old new : Caller) (above : List ℕ) (row : Row)
    → (a : AddsEntry old (event.After above) (answer.Found row) new)
    → IsNext (state_of old.opening (old.seen ++ a.others)).rows above (Some row)
after_finds old new above row a =
    let asked = event.After above in
    let given = answer.Found row in
    let h = old.seen ++ a.others in
    let st = state_of old.opening h in
    let f = found_is_live old.opening h a.entry row.revision
    (legal_now old new asked given a) a.records.gave_is in
    subst (λ (r : Row). IsRowFor (did.After above) st.rows r)
    (same_Some f.0 row (sym f.1 ∙ a.records.shows))
    (subst (λ d. IsRowFor d st.rows f.0) a.records.did_is f.2)

after_finds_none : (old new : Caller) (above : List ℕ)
    → (a : AddsEntry old (event.After above) answer.Absent new)
    → IsNext (state_of old.opening (old.seen ++ a.others)).rows above None
after_finds_none old new above a =
    let st = state_of old.opening (old.seen ++ a.others) in
    let held = a.entry.line.held in
    let at = subst (λ d. IsAnswer d gave.Absent st held) a.records.did_is
    (subst (λ g. IsAnswer a.entry.line.did g st held) a.records.gave_is a.step.answer) in at.1

-- before this entry of the seat the next row above was this one, or there was none
pub record LooksAt (above : List ℕ) (old new : Caller) (found : Option Row) : Type 0 where
  pub before : List Entry
  pub entry : Entry
  pub rest : List Entry
  pub seen_is : new.seen ≡ (old.seen ++ before) ++ entry ∷ rest
  pub own : entry.line.seat ≡ old.seat
  pub next : IsNext (state_of old.opening (old.seen ++ before)).rows above found

pub looks_from : (old adopted middle new : Caller) (replica number : ℕ) (p : Publication)
    (above : List ℕ) (given : Answer) (found : Option Row)
    → (a : AddsEntry old (event.Adopt replica) (answer.Adopted number p) adopted)
    → (b : AddsEntry adopted (event.After above) given middle) → Grows middle new
    → IsNext (state_of adopted.opening (adopted.seen ++ b.others)).rows above found
    → LooksAt above old new found
looks_from old adopted middle new replica number p above given found a b more next =
    let asked = event.Adopt replica in
    let held = answer.Adopted number p in
    let before = (a.others ++ a.entry ∷ []) ++ b.others in
    let front : adopted.seen ++ b.others ≡ old.seen ++ before =
    ap (λ s. s ++ b.others) (seen_is old adopted asked held a
    ∙ append_assoc old.seen a.others (a.entry ∷ []))
    ∙ append_assoc old.seen (a.others ++ a.entry ∷ []) b.others in
    record {
      before = before;
      entry = b.entry;
      rest = more.more;
      seen_is = more.seen_is
          ∙ ap (λ s. s ++ more.more) (seen_is adopted middle (event.After above) given b)
          ∙ append_assoc (adopted.seen ++ b.others) (b.entry ∷ []) more.more
          ∙ ap (λ s. s ++ b.entry ∷ more.more) front;
      own = b.records.seat_is ∙ seat_is old adopted asked held a;
      next = subst (λ s. IsNext (state_of old.opening s).rows above found) front
          (subst (λ (o : Opening). IsNext (state_of o (adopted.seen ++ b.others)).rows above found)
          (opening_is old adopted asked held a) next);
    }

-- ---- a whole step

-- it found a row of its path, or it is the end and there was none
pub data StepLooks (above : List ℕ) (old new : Caller) (taken : Step) : Type 0 where
  at_row : (row : Row) → IsAt row.path taken → LooksAt above old new (Some row)
      → StepLooks above old new taken
  at_end : taken ≡ step.End → LooksAt above old new None → StepLooks above old new taken

pub record TakesStep (above : List ℕ) (old new : Caller) (taken : Step) : Type 0 where
  pub looks : StepLooks above old new taken
  pub grows : Grows old new
  pub spends : new.left < old.left

module _ (above : List ℕ) (replica number : ℕ) (p : Publication) (old adopted acted new : Caller)
    (a : AddsEntry old (event.Adopt replica) (answer.Adopted number p) adopted)
    (g : Grows acted new) where
  took : (taken : Step) (given : Answer) (middle : Caller) (found : Option Row)
      → (b : AddsEntry adopted (event.After above) given middle) → Grows middle acted
      → StepLooks above old new taken → TakesStep above old new taken
  took taken given middle found b m s =
      let all = grows_then adopted middle new
      (grows_entry adopted middle (event.After above) given b) (grows_then middle acted new m g) in
      record {
        looks = s;
        grows = grows_then old adopted new
            (grows_entry old adopted (event.Adopt replica) (answer.Adopted number p) a) all;
        spends = omega (arith, a.left_is, all.left_less);
      }

  took_none : (taken : Step) → FindsNone above adopted (Ok taken) acted
      → TakesStep above old new taken
  took_none step.End b = took step.End answer.Absent acted None b (grows_itself acted)
      (at_end refl (looks_from old adopted acted new replica number p above answer.Absent None a b
      g (after_finds_none adopted acted above b)))
  took_none other b = absurd b

  took_row : (taken : Step) (row : Row) (middle : Caller)
      → AddsEntry adopted (event.After above) (answer.Found row) middle → Grows middle acted
      → IsAt row.path taken → TakesStep above old new taken
  took_row taken row middle b m at = took taken (answer.Found row) middle (Some row) b m
      (at_row row at (looks_from old adopted middle new replica number p above (answer.Found row)
      (Some row) a b (grows_then middle acted new m g) (after_finds adopted middle above row b)))

module _ {S D : Type 0} (Reads : ReadsFoundRow S) (left : D → Option (List ℕ))
    (count : D → ℕ) (replica : ℕ) (above : List ℕ) (old new : Caller) (from to : S)
    (dice after : D) where
  by_steps : (taken : Step) (number : ℕ) (p : Publication) (adopted acted : Caller)
      → AddsEntry old (event.Adopt replica) (answer.Adopted number p) adopted → Grows acted new
      → StepsOver Reads left count p above adopted from dice (Ok taken) acted to after
      → TakesStep above old new taken
  by_steps taken number p adopted acted a g (inl n) =
      took_none above replica number p old adopted acted new a g taken n.0
  by_steps taken number p adopted acted a g (inr f) =
      took_row above replica number p old adopted acted new a g taken f.row f.found f.finds
      (rewrites_grow Reads left count p f.row f.found acted from to dice after (Ok taken)
      f.rewrites)
      (rewrites_at Reads left count p f.row f.found acted from to dice after taken
      f.rewrites)

  -- what was done is the answer
  done_is : (taken : Step) (acted : Caller) (done : Result Step CallNo)
      → LetsGo acted done (Ok taken) new → done ≡ Ok taken
  done_is taken acted done (inl a) = sym a.1
  done_is taken acted done (inr a) = cc

  pub takes_step : (taken : Step)
      → IsStepOver Reads left count replica above old from dice (Ok taken) new to after
      → TakesStep above old new taken
  takes_step taken (inl early) = absurd early
  takes_step taken (inr h) = by_steps taken h.number h.p h.adopted h.acted h.adopts
      (lets_go_grows h.acted new h.done (Ok taken) h.lets_go)
      (subst (λ d. StepsOver Reads left count h.p above h.adopted from dice d h.acted to after)
      (done_is taken h.acted h.done h.lets_go) h.does)

-- ---- a step, however it ended

none_grows : (above : List ℕ) (old new : Caller) (result : Result Step CallNo)
    → FindsNone above old result new → Grows old new
none_grows above old new result a = found_none old new (Grows old new) (grows_same old new) above
    (λ given stays e. grows_entry old new (event.After above) given e) result a

early_grows : (replica : ℕ) (old new : Caller) (why : CallNo) → AdoptsNothing replica old why new
    → Grows old new
early_grows replica old new why a = nothing_adopted replica old new (Grows old new)
    (grows_same old new) (λ given stays e. grows_entry old new (event.Adopt replica) given e) why a

module _ {S D : Type 0} (Reads : ReadsFoundRow S) (left : D → Option (List ℕ))
    (count : D → ℕ) (replica : ℕ) (above : List ℕ) (old new : Caller) (from to : S)
    (dice after : D) where
  steps_grow : (p : Publication) (adopted acted : Caller) (done : Result Step CallNo)
      → StepsOver Reads left count p above adopted from dice done acted to after
      → Grows adopted acted
  steps_grow p adopted acted done (inl f) = none_grows above adopted acted done f.0
  steps_grow p adopted acted done (inr f) = grows_then adopted f.found acted
      (grows_entry adopted f.found (event.After above) (answer.Found f.row) f.finds)
      (rewrites_grow Reads left count p f.row f.found acted from to dice after done
      f.rewrites)

  early_step_grows : (result : Result Step CallNo)
      → EndsEarly replica ((to ≡ from) × (after ≡ dice)) old result new → Grows old new
  early_step_grows (Ok done) a = absurd a
  early_step_grows (Err why) a = early_grows replica old new why a.0

  pub step_grows : (result : Result Step CallNo)
      → IsStepOver Reads left count replica above old from dice result new to after
      → Grows old new
  step_grows result (inl early) = early_step_grows result early
  step_grows result (inr h) = grows_then old h.adopted new
      (grows_entry old h.adopted (event.Adopt replica) (answer.Adopted h.number h.p) h.adopts)
      (grows_then h.adopted h.acted new (steps_grow h.p h.adopted h.acted h.done h.does)
      (lets_go_grows h.acted new h.done result h.lets_go))
