-- What each event of a caller keeps: the history honest, and what is held.
use Rattle.std.proofs.Common.{◌≡◌, ℕ, Option, sym, subst}
use Rattle.kr_kms.specs.Opens.{Opens}
use Rattle.kr_provider.specs.Publication.{Publication}
use Rattle.kr_rollout.specs.declared.answer.Answer.{Answer}
use Rattle.kr_rollout.specs.declared.answer.Answer.TheVariants as answer
use Rattle.kr_rollout.specs.declared.event.Event.{Event}
use Rattle.kr_rollout.specs.declared.event.Event.TheVariants as event
use Rattle.kr_rollout.specs.declared.line.Did.TheVariants as did
use Rattle.kr_rollout.specs.declared.line.Gave.{Gave}
use Rattle.kr_rollout.specs.declared.line.Gave.TheVariants.{Adopted, Found, Absent, Written, Changed, Released, Reloaded, Joined, Refused, Moved, Present, Departed, Gone, StoreFailed, StoreFull}
use Rattle.kr_rollout.specs.declared.opening.Entry.{Entry}
use Rattle.kr_history.specs.Acting.{Caller, AddsEntry}
use Rattle.kr_rollout.specs.Answers.{IsAnswer}
use Rattle.kr_rollout.specs.Callers.{did_of, gave_of}
use Rattle.kr_history.specs.CallerLaws.{LeavesHolding}
use Rattle.kr_history.specs.CallLaws.{AsksNoHold, AsksNoHonesty, HoldStays, QuietKeepsHonesty}
use Rattle.kr_history.specs.Honesty.{HonestBy, KeepsHonest, SeedsOpen}
use Rattle.kr_rollout.specs.States.{State}
use Rattle.kr_history.proofs.Following.{stays_law}
use Rattle.kr_history.proofs.KeptHonest.{honesty_follows}
use Rattle.kr_history.specs.Calls.{KeepsHonestBy, KeepsHonesty}
use Rattle.kr_history.proofs.Answered.{may_give}

honest_by : (opens : Opens) (e : Entry) (asked : Event) (gave : Gave) → AsksNoHonesty asked
    → HonestBy gave (did_of asked) opens e
honest_by opens e asked (Adopted n) ask = tt
honest_by opens e (event.Replace path revision stored) (Written n) ask = absurd ask
honest_by opens e (event.Reload replica p expect) (Written n) ask = absurd ask
honest_by opens e (event.Join replica p) (Written n) ask = absurd ask
honest_by opens e (event.Replace path revision stored) (Reloaded n) ask = absurd ask
honest_by opens e (event.Reload replica p expect) (Reloaded n) ask = absurd ask
honest_by opens e (event.Join replica p) (Reloaded n) ask = absurd ask
honest_by opens e (event.Replace path revision stored) (Joined n) ask = absurd ask
honest_by opens e (event.Reload replica p expect) (Joined n) ask = absurd ask
honest_by opens e (event.Join replica p) (Joined n) ask = absurd ask
honest_by opens e asked other ask = tt

pub keeps_quiet : QuietKeepsHonesty
keeps_quiet old new asked given quiet a opens =
    honesty_follows opens old new asked given a
    (λ front. honest_by opens a.entry asked (gave_of given) quiet)

pub keeps_same : (old new : Caller) → new ≡ old → KeepsHonesty old new
keeps_same old new same opens keeps =
    subst (λ (c : Caller). KeepsHonest opens c.opening c.seat c.seen) (sym same) keeps

pub keeps_both : (old middle new : Caller) → KeepsHonesty old middle → KeepsHonesty middle new
    → KeepsHonesty old new
keeps_both old middle new first second opens keeps = second opens (first opens keeps)

pub keeps_adopt : (old new : Caller) (replica : ℕ) (given : Answer)
    → AddsEntry old (event.Adopt replica) given new → KeepsHonesty old new
keeps_adopt old new replica given a = keeps_quiet old new (event.Adopt replica) given tt a

pub keeps_let_go : (old new : Caller) (given : Answer) → AddsEntry old event.LetGo given new
    → KeepsHonesty old new
keeps_let_go old new given a = keeps_quiet old new event.LetGo given tt a

-- ---- where the seeds that are brought open, what was seen stays honest

reload_honest : (opens : Opens) (e : Entry) (replica : ℕ) (p : Publication) (expect : Option ℕ)
    (gave : Gave) → SeedsOpen opens p → HonestBy gave (did.Reload replica p expect) opens e
reload_honest opens e replica p expect (Reloaded n) s = s
reload_honest opens e replica p expect other s = tt

pub keeps_reload : (opens : Opens) (old new : Caller) (replica : ℕ) (p : Publication)
    (expect : Option ℕ) (given : Answer) → SeedsOpen opens p
    → AddsEntry old (event.Reload replica p expect) given new → KeepsHonestBy opens old new
keeps_reload opens old new replica p expect given s a =
    honesty_follows opens old new (event.Reload replica p expect) given a
    (λ front. reload_honest opens a.entry replica p expect (gave_of given) s)

join_honest : (opens : Opens) (e : Entry) (replica : ℕ) (p : Publication) (gave : Gave)
    → SeedsOpen opens p → HonestBy gave (did.Join replica p) opens e
join_honest opens e replica p (Joined n) s = s
join_honest opens e replica p other s = tt

pub keeps_join : (opens : Opens) (old new : Caller) (replica : ℕ) (p : Publication)
    (given : Answer) → SeedsOpen opens p → AddsEntry old (event.Join replica p) given new
    → KeepsHonestBy opens old new
keeps_join opens old new replica p given s a =
    honesty_follows opens old new (event.Join replica p) given a
    (λ front. join_honest opens a.entry replica p (gave_of given) s)

-- ---- what is held

stays_by : (asked : Event) (given : Answer) (st : State) (held : Option ℕ) → AsksNoHold asked
    → IsAnswer (did_of asked) (gave_of given) st held → LeavesHolding given
stays_by (event.Adopt replica) (answer.Adopted number q) st held ask a = absurd ask
stays_by event.LetGo answer.Released st held ask a = absurd ask
stays_by asked (answer.Gone other) st held ask a = tt
stays_by asked (answer.Found row) st held ask a = tt
stays_by asked answer.Absent st held ask a = tt
stays_by asked (answer.Written number) st held ask a = tt
stays_by asked (answer.Changed number) st held ask a = tt
stays_by asked answer.StoreFailed st held ask a = tt
stays_by asked (answer.StoreFull needed) st held ask a = tt
stays_by asked (answer.Reloaded number) st held ask a = tt
stays_by asked (answer.Joined number) st held ask a = tt
stays_by asked (answer.Refused verdict) st held ask a = tt
stays_by asked (answer.Moved number) st held ask a = tt
stays_by asked (answer.Present number) st held ask a = tt
stays_by asked (answer.Departed number) st held ask a = tt
stays_by asked answer.NoMemory st held ask a = tt
stays_by other another st held ask a = absurd a

-- what is held stays
pub holds_still : HoldStays
holds_still old new asked given ask a =
    let m = may_give old new asked given a in
    stays_law old new asked given (stays_by asked given m.st m.held ask m.is) a
