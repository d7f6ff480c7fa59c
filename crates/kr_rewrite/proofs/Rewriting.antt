-- What the bench and the core answered is what the step did.
use Rattle.std.specs.Prelude.{IfOk}
use Rattle.std.proofs.Common.{◌≡◌, inl, inr, ℕ, true, false, List, Option, None, Some, Result, Ok, Err, refl, sym, ap, subst, ◌∙◌}
use Rattle.kr_base.specs.Rules.{IsPath}
use Rattle.kr_kms.specs.Calls.{Link}
use Rattle.kr_provider.specs.Publication.{Publication, list_at}
use Rattle.kr_provider.specs.Reading.{HasSomeReading, data_of}
use Rattle.kr_provider.specs.declared.refusal.Opened.{Opened}
use Rattle.kr_provider.specs.declared.refusal.UnsealNo.{UnsealNo}
use Rattle.kr_provider.specs.declared.refusal.UnsealNo.TheVariants as unsealing
use Rattle.kr_store.specs.declared.rows.Row.{Row}
use Rattle.kr_rollout.specs.declared.answer.Answer.TheVariants as answer
use Rattle.kr_history.specs.declared.call.CallNo.{CallNo}
use Rattle.kr_history.specs.declared.call.CallNo.TheVariants as refusal
use Rattle.kr_rollout.specs.declared.event.Event.TheVariants as event
use Rattle.kr_history.specs.Acting.{Caller, AddsEntry}
use Rattle.kr_history.specs.Asking.{AsksAfter}
use Rattle.kr_history.specs.Calls.{LetsGo}
use Rattle.kr_history.proofs.Meanwhile.{held_meanwhile}
use Rattle.kr_rewrite.specs.declared.outcome.Step.{Step}
use Rattle.kr_rewrite.specs.declared.outcome.Step.TheVariants as step
use Rattle.kr_rewrite.specs.Rewrites.{IsStepOver, IsStepTo, RewritesData, RewritesOver, ReadsFoundRow, StepsOver, UnsealsRow, unread_step}
use Rattle.kr_rewrite.specs.inner.Stages.{ResealsRow}

-- ---- the value that was found

unread_at : (path : List ℕ) (why : UnsealNo) → IsPath path → IfOk (unread_step path why) IsStepTo
unread_at path (unsealing.Refused why) is = is
unread_at path (unsealing.PluginFailed name) is = tt
unread_at path unsealing.NoMemory is = tt

pub unread_to : (path own : List ℕ) (why : UnsealNo) (result : Result Step CallNo)
    → path ≡ own → IsPath own → result ≡ unread_step path why → IfOk result IsStepTo
unread_to path own why result same is d =
    subst (λ r. IfOk r IsStepTo) (sym d) (unread_at path why (subst IsPath (sym same) is))

pub reads_data : {L : Type 0} (link : L → Link) (p : Publication) (row : Row)
    (olds news : List L) (opened : Opened) → UnsealsRow link p row olds (Ok opened) news
    → HasSomeReading (list_at p row.resource) row.path row.stored (data_of opened.plain)
reads_data link p row olds news opened u = (u.envelope, u.object, u.is.0)

module _ {S D : Type 0} (Reads : ReadsFoundRow S) (left : D → Option (List ℕ)) (count : D → ℕ)
    (p : Publication) (row : Row) (from to : S) (path : List ℕ) (path_is : path ≡ row.path)
    (old new : Caller) (dice lent after : D) (same : lent ≡ dice) where
  pub stale_rewritten : (opened : Opened) (result : Result Step CallNo)
      → Reads p row from (Ok opened) to → opened.stale ≡ true
      → ResealsRow left count p row opened.plain old lent result new after
      → RewritesOver Reads left count p row old from dice result new to after
  stale_rewritten opened result u stale r = inl (record {
    opened = Ok opened;
    unseals = u;
    rewrites = subst
        (λ b. RewritesData left count p row opened.plain b old dice result new after) (sym stale)
        (subst (λ d. ResealsRow left count p row opened.plain old d result new after) same r);
  })

  pub fresh_rewritten : (opened : Opened) → Reads p row from (Ok opened) to
      → opened.stale ≡ false
      → RewritesOver Reads left count p row old from dice (Ok (step.Fresh path)) old to lent
  fresh_rewritten opened u fresh = inl (record {
    opened = Ok opened;
    unseals = u;
    rewrites = subst (λ b. RewritesData left count p row opened.plain b old dice
        (Ok (step.Fresh path)) old lent) (sym fresh)
        (ap (λ q. Ok (step.Fresh q)) path_is, refl, same);
  })

  pub unread_rewritten : (why : UnsealNo) (result : Result Step CallNo)
      → Reads p row from (Err why) to → result ≡ unread_step path why
      → RewritesOver Reads left count p row old from dice result old to lent
  unread_rewritten why result u d = inl (record {
    opened = Err why;
    unseals = u;
    rewrites = (d ∙ ap (λ q. unread_step q why) path_is, refl, same);
  })

-- ---- the row that was looked for

module _ {S D : Type 0} (Reads : ReadsFoundRow S) (left : D → Option (List ℕ)) (count : D → ℕ)
    (p : Publication) (above : List ℕ) (old : Caller) (from : S) (dice : D) where
  pub looked_in_vain : (why : CallNo) (new : Caller) → AsksAfter above old (Err why) new
      → StepsOver Reads left count p above old from dice (Err why) new from dice
  looked_in_vain refusal.Spent new a = inl (a, refl, refl)
  looked_in_vain refusal.NoMemory new a = inl (a, refl, refl)
  looked_in_vain other new a = absurd a

  pub looked_at_end : (found : Option Row) (new : Caller) → found ≡ None
      → AsksAfter above old (Ok found) new
      → StepsOver Reads left count p above old from dice (Ok step.End) new from dice
  looked_at_end found new is a =
      inl (subst (λ f. AsksAfter above old (Ok f) new) is a, refl, refl)

  -- the row as it was lent
  pub looked_at_row : (found : Option Row) (row lent : Row) (middle new : Caller) (to : S)
      (after : D) (result : Result Step CallNo) → found ≡ Some row → lent ≡ row
      → AsksAfter above old (Ok found) middle
      → RewritesOver Reads left count p lent middle from dice result new to after
      → StepsOver Reads left count p above old from dice result new to after
  looked_at_row found row lent middle new to after result is same a r = inr (record {
    row = row;
    found = middle;
    finds = subst (λ f. AsksAfter above old (Ok f) middle) is a;
    rewrites = subst (λ x. RewritesOver Reads left count p x middle from dice result new to after)
        same r;
  })

-- the stages of a step, one behind another
pub step_held : {S D : Type 0} (Reads : ReadsFoundRow S) (left : D → Option (List ℕ)) (count : D → ℕ)
    (above copy : List ℕ) (replica : ℕ) (old adopted acted new : Caller) (from to : S)
    (dice after : D) (held : ℕ × Publication) (done result : Result Step CallNo) → copy ≡ above
    → AddsEntry old (event.Adopt replica) (answer.Adopted held.0 held.1) adopted
    → StepsOver Reads left count held.1 copy adopted from dice done acted to after
    → LetsGo acted done result new
    → IsStepOver Reads left count replica above old from dice result new to after
step_held Reads left count above copy replica old adopted acted new from to dice after held done
    result own a f g =
    inr (held_meanwhile (λ number p start ended end. StepsOver Reads left count p above start from
    dice ended end to after) replica held old adopted acted new done result a
    (subst (λ q. StepsOver Reads left count held.1 q adopted from dice done acted to after) own f)
    g)

-- a step that was let go is to a row of a path, where what was done is
pub let_go_to : (old new : Caller) (done result : Result Step CallNo)
    → LetsGo old done result new → IfOk done IsStepTo → IfOk result IsStepTo
let_go_to old new done result (inl a) is = subst (λ r. IfOk r IsStepTo) (sym a.1) is
let_go_to old new done result (inr a) is = subst (λ r. IfOk r IsStepTo) (sym a.1) tt
