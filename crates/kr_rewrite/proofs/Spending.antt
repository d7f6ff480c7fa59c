-- How many entries a step spends, and that it lacks them only where fewer were left.
use Rattle.std.proofs.Common.{◌≡◌, inl, inr, ℕ, ◌+◌, ◌<◌, ◌≤◌, Bool, true, false, List, Option, Some, Result, Ok, Err, sym, ap, ◌∙◌, arith}
use Rattle.kr_provider.specs.Publication.{Publication}
use Rattle.kr_provider.specs.declared.refusal.Opened.{Opened}
use Rattle.kr_provider.specs.declared.refusal.SealNo.{SealNo}
use Rattle.kr_provider.specs.declared.refusal.SealNo.TheVariants as sealing
use Rattle.kr_provider.specs.declared.refusal.UnsealNo.{UnsealNo}
use Rattle.kr_provider.specs.declared.refusal.UnsealNo.TheVariants as unsealing
use Rattle.kr_store.specs.declared.rows.Row.{Row}
use Rattle.kr_rollout.specs.declared.answer.Answer.{Answer}
use Rattle.kr_rollout.specs.declared.answer.Answer.TheVariants as answer
use Rattle.kr_history.specs.declared.call.CallNo.{CallNo}
use Rattle.kr_history.specs.declared.call.CallNo.TheVariants as refusal
use Rattle.kr_rollout.specs.declared.event.Event.{Event}
use Rattle.kr_rollout.specs.declared.event.Event.TheVariants as event
use Rattle.kr_history.specs.Acting.{Caller, AddsEntry}
use Rattle.kr_history.specs.Calls.{AddsNothing, AdoptsNothing, EndsEarly, LetsGo}
use Rattle.kr_history.proofs.Nexts.{opening_is}
use Rattle.kr_rewrite.specs.Rewrites.{FindsNone, IsStepOver, ReplacesBy, ResealsBy, RewritesBy, RewritesData, RewritesOver, ReadsFoundRow, StepsOver, unread_step, unsealed_step}
use Rattle.kr_rewrite.specs.declared.outcome.Step.{Step}
use Rattle.kr_rewrite.specs.declared.outcome.Step.TheVariants as step
use Rattle.kr_rewrite.proofs.Growing.{LooksAt, after_finds, grows_then, lets_go_grows, looks_from, rewrites_grow}

-- the answer is that the seat may add no more
abbrev IsSpent : Result Step CallNo → Type 0
IsSpent result = result ≡ Err refusal.Spent

-- at most so many entries, and fewer were left where the answer is that there are no more
pub record Spends (n : ℕ) (old new : Caller) (result : Result Step CallNo) : Type 0 where
  pub few : old.left ≤ new.left + n
  pub spent : result ≡ Err refusal.Spent → old.left < n

spends_entry : (old new : Caller) (asked : Event) (given : Answer) (result : Result Step CallNo)
    → AddsEntry old asked given new → (IsSpent result → ⊥) → Spends 1 old new result
spends_entry old new asked given result a other = record {
  few = omega (arith, a.left_is);
  spent = λ e. absurd (other e);
}

spends_same : (old new : Caller) (result : Result Step CallNo) → new ≡ old
    → (IsSpent result → ⊥) → Spends 1 old new result
spends_same old new result same other = record {
  few = let e = ap (λ (c : Caller). c.left) same in omega (arith, e);
  spent = λ e. absurd (other e);
}

spends_none : (old new : Caller) (result : Result Step CallNo) → AddsNothing old new
    → Spends 1 old new result
spends_none old new result a = record {
  few = let e = ap (λ (c : Caller). c.left) a.same in omega (arith, e);
  spent = λ e. omega (arith, a.spent);
}

spends_up : (n m : ℕ) (old new : Caller) (result : Result Step CallNo) → n ≤ m
    → Spends n old new result → Spends m old new result
spends_up n m old new result le s = record {
  few = omega (arith, le, s.few);
  spent = λ e. let less = s.spent e in omega (arith, le, less);
}

-- an entry in front of what was spent
entry_before : (n : ℕ) (old middle new : Caller) (asked : Event) (given : Answer)
    (result : Result Step CallNo) → AddsEntry old asked given middle → Spends n middle new result
    → Spends (n + 1) old new result
entry_before n old middle new asked given result a s = record {
  few = omega (arith, a.left_is, s.few);
  spent = λ e. let less = s.spent e in omega (arith, a.left_is, less);
}

-- ---- what isn't answered so

replaced_other : (path : List ℕ) (given : Answer) (result : Result Step CallNo)
    → ReplacesBy path given result → IsSpent result → ⊥
replaced_other path (answer.Written revision) result d e = cc (d, e)
replaced_other path (answer.Changed last) result d e = cc (d, e)
replaced_other path answer.StoreFailed result d e = cc (d, e)
replaced_other path (answer.StoreFull needed) result d e = cc (d, e)
replaced_other path answer.NoMemory result d e = cc (d, e)
replaced_other path other result d e = absurd d

unsealed_other : (path : List ℕ) (why : SealNo) (result : Result Step CallNo)
    → result ≡ unsealed_step path why → IsSpent result → ⊥
unsealed_other path sealing.LooksEncrypted result d e = cc (d, e)
unsealed_other path other result d e = cc (d, e)

unread_other : (path : List ℕ) (why : UnsealNo) (result : Result Step CallNo)
    → result ≡ unread_step path why → IsSpent result → ⊥
unread_other path (unsealing.Refused why) result d e = cc (d, e)
unread_other path other result d e = cc (d, e)

fresh_other : (path : List ℕ) (result : Result Step CallNo) → result ≡ Ok (step.Fresh path)
    → IsSpent result → ⊥
fresh_other path result d e = cc (d, e)

memory_other : (result : Result Step CallNo) → result ≡ Err refusal.NoMemory
    → IsSpent result → ⊥
memory_other result d e = cc (d, e)

-- ---- a row that was found

resealed_spends : (p : Publication) (row : Row) (plain : List ℕ)
    (sealed : Result (List ℕ) SealNo) (old new : Caller) (result : Result Step CallNo)
    → ResealsBy p row plain sealed old result new → Spends 1 old new result
resealed_spends p row plain (Ok stored) old new result (inl r) =
    spends_entry old new (event.Replace row.path row.revision stored) r.given result r.replaces
    (replaced_other row.path r.given result r.answers)
resealed_spends p row plain (Ok stored) old new result (inr n) = spends_none old new result n.0
resealed_spends p row plain (Err why) old new result r =
    spends_same old new result r.1 (unsealed_other row.path why result r.0)

module _ {D : Type 0} (left : D → Option (List ℕ)) (count : D → ℕ) (p : Publication) (row : Row)
    (old new : Caller) (dice after : D) (result : Result Step CallNo) where
  data_spends : (plain : List ℕ) (stale : Bool)
      → RewritesData left count p row plain stale old dice result new after
      → Spends 1 old new result
  data_spends plain false r =
      spends_same old new result r.1 (fresh_other row.path result r.0)
  data_spends plain true (inl r) = resealed_spends p row plain r.sealed old new result r.reseals
  data_spends plain true (inr r) = spends_same old new result r.1 (memory_other result r.0)

  opened_spends : (opened : Result Opened UnsealNo)
      → RewritesBy left count p row opened old dice result new after → Spends 1 old new result
  opened_spends (Ok opened) r = data_spends opened.plain opened.stale r
  opened_spends (Err why) r =
      spends_same old new result r.1 (unread_other row.path why result r.0)

rewrites_spend : {S D : Type 0} (Reads : ReadsFoundRow S) (left : D → Option (List ℕ))
    (count : D → ℕ) (p : Publication) (row : Row) (old new : Caller) (from to : S)
    (dice after : D) (result : Result Step CallNo)
    → RewritesOver Reads left count p row old from dice result new to after
    → Spends 1 old new result
rewrites_spend Reads left count p row old new from to dice after result (inl o) =
    opened_spends left count p row old new dice after result o.opened o.rewrites
rewrites_spend Reads left count p row old new from to dice after result (inr n) =
    spends_same old new result n.0.1 (memory_other result n.0.0)

-- ---- none was found, or nothing was adopted

none_spends : (above : List ℕ) (old new : Caller) (result : Result Step CallNo)
    → FindsNone above old result new → Spends 1 old new result
none_spends above old new (Ok step.End) a =
    spends_entry old new (event.After above) answer.Absent (Ok step.End) a (λ e. cc e)
none_spends above old new (Err refusal.NoMemory) a = spends_entry old new (event.After above)
    answer.NoMemory (Err refusal.NoMemory) a (λ e. cc e)
none_spends above old new (Err refusal.Spent) a = spends_none old new (Err refusal.Spent) a
none_spends above old new other a = absurd a

early_spends : (replica : ℕ) (old new : Caller) (why : CallNo)
    → AdoptsNothing replica old why new → Spends 1 old new (Err why)
early_spends replica old new refusal.Gone a = spends_entry old new (event.Adopt replica)
    (answer.Gone replica) (Err refusal.Gone) a (λ e. cc e)
early_spends replica old new refusal.Spent a = spends_none old new (Err refusal.Spent) a
early_spends replica old new refusal.NoMemory (inl same) =
    spends_same old new (Err refusal.NoMemory) same (λ e. cc e)
early_spends replica old new refusal.NoMemory (inr a) = spends_entry old new
    (event.Adopt replica) answer.NoMemory (Err refusal.NoMemory) a (λ e. cc e)
early_spends replica old new other a = absurd a

-- ---- a whole step

lets_go_spends : (n : ℕ) (old acted new : Caller) (done result : Result Step CallNo)
    → Spends n old acted done → LetsGo acted done result new → Spends (n + 1) old new result
lets_go_spends n old acted new done result s (inl a) = record {
  few = omega (arith, s.few, a.0.left_is);
  spent = λ e. let less = s.spent (sym a.1 ∙ e) in omega (arith, less);
}
lets_go_spends n old acted new done result s (inr a) = record {
  few = let e = ap (λ (c : Caller). c.left) a.0.same in omega (arith, s.few, e);
  spent = λ e. omega (arith, s.few, a.0.spent);
}

-- a step that found no row spends three entries, one that found a row four
pub data StepNeeds (above : List ℕ) (old new : Caller) (result : Result Step CallNo)
    : Type 0 where
  at_none : Spends 3 old new result → StepNeeds above old new result
  at_row : (row : Row) → LooksAt above old new (Some row) → new.opening ≡ old.opening
      → Spends 4 old new result → StepNeeds above old new result

module _ {S D : Type 0} (Reads : ReadsFoundRow S) (left : D → Option (List ℕ))
    (count : D → ℕ) (replica : ℕ) (above : List ℕ) (old new : Caller) (from to : S)
    (dice after : D) (result : Result Step CallNo) where
  early_needs : (result : Result Step CallNo)
      → EndsEarly replica ((to ≡ from) × (after ≡ dice)) old result new
      → Spends 3 old new result
  early_needs (Ok done) a = absurd a
  early_needs (Err why) a = spends_up 1 3 old new (Err why) (omega arith)
      (early_spends replica old new why a.0)

  by_steps : (number : ℕ) (p : Publication) (adopted acted : Caller)
      (done : Result Step CallNo)
      → AddsEntry old (event.Adopt replica) (answer.Adopted number p) adopted
      → StepsOver Reads left count p above adopted from dice done acted to after
      → LetsGo acted done result new → StepNeeds above old new result
  by_steps number p adopted acted done a (inl f) l = at_none (lets_go_spends 2 old acted new done
      result (entry_before 1 old adopted acted (event.Adopt replica) (answer.Adopted number p) done
      a (none_spends above adopted acted done f.0)) l)
  by_steps number p adopted acted done a (inr f) l =
      let asked = event.After above in
      let given = answer.Found f.row in
      let grows = grows_then f.found acted new
      (rewrites_grow Reads left count p f.row f.found acted from to dice after done
      f.rewrites) (lets_go_grows acted new done result l) in
      at_row f.row (looks_from old adopted f.found new replica number p above given (Some f.row) a
      f.finds grows (after_finds adopted f.found above f.row f.finds))
      (grows.opening_is ∙ opening_is adopted f.found asked given f.finds
      ∙ opening_is old adopted (event.Adopt replica) (answer.Adopted number p) a)
      (lets_go_spends 3 old acted new done result (entry_before 2 old adopted acted
      (event.Adopt replica)
      (answer.Adopted number p) done a (entry_before 1 adopted f.found acted asked given done
      f.finds (rewrites_spend Reads left count p f.row f.found acted from to dice after done
      f.rewrites))) l)

  pub step_needs : IsStepOver Reads left count replica above old from dice result new to after
      → StepNeeds above old new result
  step_needs (inl early) = at_none (early_needs result early)
  step_needs (inr h) = by_steps h.number h.p h.adopted h.acted h.done h.adopts h.does h.lets_go
