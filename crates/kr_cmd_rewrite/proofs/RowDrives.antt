-- How the steps of a row end, by what a rewrite of it did over a caller that is alone.
use Rattle.std.proofs.Common.{◌≡◌, ℕ, ◌≤◌, List, [], ◌∷◌, ◌++◌, length, Bool, true, false, Option, None, Some, Result, Ok, Err, refl, sym, ◌∙◌, ap, subst, inl, inr, arith}
use Rattle.std.specs.Prelude.{nat_lt, if◌then◌else◌}
use Rattle.std.proofs.lemmas.Bool.{le-ltb, lt-ltb}
use Rattle.kr_base.specs.Limits.{data_limit, store_limit}
use Rattle.kr_config.specs.Lists.{list_of}
use Rattle.kr_config.specs.declared.who.Who.{Who}
use Rattle.kr_kms.specs.Cache.{CacheState}
use Rattle.kr_kms.specs.Calls.{Link}
use Rattle.kr_kms.specs.Exchanges.{Exchange}
use Rattle.kr_provider.specs.AskedLinks.{FaultRose}
use Rattle.kr_provider.specs.Names.{AreDistinct}
use Rattle.kr_provider.specs.Publication.{Publication, list_at, writer_at}
use Rattle.kr_provider.specs.Reading.{HasSomeReading, data_of}
use Rattle.kr_provider.specs.Sealing.{IsSealing, Seals, value_by}
use Rattle.kr_provider.specs.declared.refusal.Opened.{Opened}
use Rattle.kr_provider.specs.declared.refusal.SealNo.{SealNo}
use Rattle.kr_provider.specs.declared.refusal.SealNo.TheVariants as seal
use Rattle.kr_provider.specs.declared.refusal.UnsealNo.{UnsealNo}
use Rattle.kr_provider.specs.declared.refusal.UnsealNo.TheVariants as unseal
use Rattle.kr_store.specs.File.{file_bytes}
use Rattle.kr_store.specs.Rows.{live}
use Rattle.kr_store.specs.declared.rows.Row.{Row}
use Rattle.kr_rollout.specs.declared.answer.Answer.{Answer}
use Rattle.kr_rollout.specs.declared.answer.Answer.TheVariants as answer
use Rattle.kr_history.specs.declared.call.CallNo.{CallNo}
use Rattle.kr_history.specs.declared.call.CallNo.TheVariants as no
use Rattle.kr_rollout.specs.declared.event.Event.TheVariants as event
use Rattle.kr_rollout.specs.declared.opening.Opening.{Opening}
use Rattle.kr_history.specs.Acting.{Caller, AddsEntry}
use Rattle.kr_rollout.specs.Callers.{holding}
use Rattle.kr_rollout.specs.Histories.{state_of}
use Rattle.kr_rollout.specs.Writes.{file_size}
use Rattle.kr_rewrite.specs.DriveExchanges.{Ahead, ReadsRow}
use Rattle.kr_rewrite.specs.Rewrites.{ReplacesBy, ResealsBy, RewritesBy, RewritesOver, RewritesData, unread_step, unsealed_step}
use Rattle.kr_rewrite.specs.declared.outcome.Step.{Step}
use Rattle.kr_rewrite.specs.declared.outcome.Step.TheVariants as step
use Rattle.kr_cmd_steps.specs.Environment.{Environment, with_exchanges}
use Rattle.kr_cmd_steps.specs.RewriteSteps.{Progress, one_fresh, one_left, one_rewritten, replacing, resealing, row_anew, row_by, row_data, row_steps}
use Rattle.kr_cmd_steps.specs.Phases.{adding, with_memory}
use Rattle.kr_cmd_steps.specs.ValueSteps.{value_read, value_sealed}
use Rattle.kr_cmd_steps.specs.Steps.{Steps, and_then, give}
use Rattle.kr_cmd_steps.specs.StoreFiles.{Stored, with_row}
use Rattle.kr_cmd_messages.specs.declared.refusal.Object.TheVariants.{Store}
use Rattle.kr_cmd_steps.specs.inner.Lent.{with_lent_dice, with_lent_links, with_lent_tape}
use Rattle.kr_cmd_steps.specs.inner.Phases.{Does}
use Rattle.kr_cmd_steps.proofs.AddedRows.{row_is_added}
use Rattle.kr_cmd_steps.proofs.RunTo.{given, goes_on}
use Rattle.kr_cmd_rewrite.proofs.LoneCallers.{IsLone, not_changed, replaces, tells}
use Rattle.kr_cmd_steps.proofs.Made.{remembers}
use Rattle.kr_cmd_rewrite.proofs.Said.{All_lent}
use Rattle.kr_cmd_steps.proofs.ValueRead.{IsValueEnd, keeping, sealed_does}
use Rattle.kr_cmd_rewrite.proofs.HeardRows.{Follows, past, some_reading, value_heard}
use Rattle.kr_provider.proofs.AskedLists.{asked_none}
use Rattle.kr_cmd_messages.specs.declared.refusal.Stop.{Stop}
use Rattle.kr_provider.specs.declared.refusal.ValueNo.{ValueNo}

-- what a step at the row makes of the store and the counts
abbrev pub Becomes : Publication → Row → Progress → Progress → Step → Type 0
Becomes p row at next (step.Rewritten path) = (path ≡ row.path) × (stored : List ℕ)
    × (next ≡ one_rewritten (row_anew at.store.format p row stored) at)
Becomes p row at next (step.Fresh path) = (path ≡ row.path) × (next ≡ one_fresh at)
Becomes p row at next (step.Left path) = (path ≡ row.path) × (next ≡ one_left at)
Becomes p row at next taken = ⊥

-- a result isn't both
pub not_err : {A : Type 0} (taken : Step) (why : CallNo)
    → ◌≡◌ {A = Result Step CallNo} (Ok taken) (Err why) → A
not_err taken why e = absurd (cc)

abbrev step_of : Step → Result Step CallNo → Step
step_of other (Ok taken) = taken
step_of other (Err why) = other

same_step : (taken own : Step) → ◌≡◌ {A = Result Step CallNo} (Ok taken) (Ok own) → own ≡ taken
same_step taken own e = sym (ap (step_of taken) e)

abbrev why_of : CallNo → Result Step CallNo → CallNo
why_of other (Ok taken) = other
why_of other (Err why) = why

pub same_why : (why own : CallNo) → ◌≡◌ {A = Result Step CallNo} (Err why) (Err own) → own ≡ why
same_why why own e = sym (ap (why_of why) e)

-- a value that was sealed was within the limit
pub short_by : (long : Bool) (size : ℕ) → nat_lt data_limit size ≡ long → long ≡ false
    → size ≤ data_limit
short_by long size e none = not_lt (nat_lt data_limit size) refl (e ∙ none)
  where
    not_lt : (b : Bool) → nat_lt data_limit size ≡ b → b ≡ false → size ≤ data_limit
    not_lt b e f = grind arith

pub was_short : (long : Bool) (value : Option (List ℕ)) (stored : List ℕ)
    → (if long then None else value) ≡ Some stored → long ≡ false
was_short true value stored e = absurd (cc)
was_short false value stored e = refl

-- the links of a command and all its exchanges, which they told; and what is around
module _ {L D : Type 0} (link : L → Link) (links : List L)
    (distinct : AreDistinct link links) (all : List Exchange) (left : D → Option (List ℕ))
    (count : D → ℕ) (o : Opening) (p : Publication) (one : o.reloads ≡ 0 ∷ [])
    (limit_is : o.limit ≡ store_limit) (name : List ℕ) (a : Environment)
    (drawn : ℕ) where
  -- where these exchanges are still to come
  abbrev Now : Ahead → Environment
  Now s = with_exchanges (past all s) a

  -- what is around, with this count of the random source
  abbrev pub Out : Ahead → D → Option (List ℕ) → ℕ → Environment
  Out s dice told faults = All_lent link links (left dice) drawn name told faults (Now s)

  -- what is around but for the tape
  abbrev pub Beside : Ahead → D → Environment
  Beside s dice = with_lent_links link 0 links (with_lent_dice 0 (left dice) drawn (Now s))

  module _ (row : Row) (at : Progress) (found : Caller) (number : ℕ) (lone : IsLone o p found)
      (holds : holding found.mine ≡ Some (number, p))
      (rows_are : (state_of o found.seen).rows ≡ at.store.rows)
      (is_live : live at.store.rows row.path ≡ Some row) (format_is : at.store.format ≡ o.format)
      (olds news : Ahead) (dice after : D) (acted : Caller) (follows : Follows all olds)
    where
      abbrev pub lived : live (state_of o found.seen).rows row.path ≡ Some row
      lived = ap (λ rows. live rows row.path) rows_are ∙ is_live

      abbrev pub who : Who
      who = writer_at p row.resource

      -- the size of the file with the row
      pub size_is : (stored : List ℕ)
          → file_size o.format (state_of o found.seen).rows (row_anew o.format p row stored)
          ≡ length (file_bytes at.store.format
          (at.store.rows ++ row_anew at.store.format p row stored ∷ []))
      size_is stored = λ i. length (file_bytes (sym format_is i)
          (rows_are i ++ row_anew (sym format_is i) p row stored ∷ []))

      -- ---- the row is passed

      module _ (m : ℕ) where
        abbrev Done : Steps Progress → Ahead → D → Step → Type 0
        Done steps s from taken = (next : Progress) × Becomes p row at next taken
            × Does steps (Out s from None m) (Out news after None m) (Ok next)
            × ((state_of o acted.seen).rows ≡ next.store.rows)

        -- it is as it was
        abbrev stays_so : (next : Progress) (taken : Step) → next.store ≡ at.store → acted ≡ found
            → after ≡ dice → Becomes p row at next taken → Done (give next) news dice taken
        stays_so next taken store same kept becomes = (
          next,
          becomes,
          subst (λ d. Does (give next) (Out news dice None m) (Out news d None m) (Ok next))
              (sym kept)
              (given next (Out news dice None m)),
          ap (λ (c : Caller). (state_of o c.seen).rows) same ∙ rows_are
              ∙ sym (ap (λ (s : Stored). s.rows) store),
        )

        in_memory : (steps : Steps Progress) (s : Ahead) (from : D) (taken : Step)
            → Done steps s from taken → Done (with_memory steps) s from taken
        in_memory steps s from taken (next, becomes, does, rows) =
            (next, becomes, remembers does, rows)

        module _ (plain : List ℕ)
            (reads : HasSomeReading (list_at p row.resource) row.path row.stored (data_of plain))
          where
            written : (stored : List ℕ) (n : ℕ) → IsSealing p row.resource row.path plain stored
                → Seals left count p.seeds who row.path plain dice after (Ok stored)
                → AddsEntry found (event.Replace row.path row.revision stored) (answer.Written n)
                acted
                → Done (resealing (nat_lt data_limit (length plain)) name p row plain at) news dice
                (step.Rewritten row.path)
            written stored n sealing s replace =
                let given_to = answer.Written n in
                let new = row_anew at.store.format p row stored in
                let long : nat_lt data_limit (length plain) ≡ false =
                was_short (nat_lt data_limit (length plain))
                (value_by p.seeds who row.path plain s.0) stored s.2 in
                let fits = subst (λ n. n ≤ store_limit) (size_is stored)
                (subst (λ l. file_size o.format (state_of o found.seen).rows
                (row_anew o.format p row stored) ≤ l) limit_is
                (tells o p one found acted row plain stored number lone holds lived reads sealing
                given_to
                replace)) in
                let rows = replaces o p one found acted row plain stored number lone holds lived
                reads
                sealing n replace in (
                  one_rewritten new at,
                  (refl, stored, refl),
                  subst (λ b. Does (resealing b name p row plain at) (Out news dice None m)
                      (Out news after None m) (Ok (one_rewritten new at))) (sym long)
                      (goes_on (value_sealed p.seeds who row.path plain) (replacing name p row at)
                      (Some stored)
                      (sealed_does link left count links dice after drawn drawn
                      (with_lent_tape name None m (Now news)) who
                      p.seeds row.path plain (Ok stored) (omega arith)
                      (short_by (nat_lt data_limit (length plain)) (length plain) refl long) tt s)
                      (goes_on (adding Store name at.store new)
                      (λ grown. give (one_rewritten new at))
                      (with_row new at.store)
                      (row_is_added Store name at.store new None None m m (omega arith)
                      (Beside news after) tt fits)
                      (given (one_rewritten new at) (Out news after None m)))),
                  rows ∙ (λ i. rows_are i ++ row_anew (sym format_is i) p row stored ∷ []),
                )

            replaced : (stored : List ℕ) (given_to : Answer) (taken : Step)
                → IsSealing p row.resource row.path plain stored
                → Seals left count p.seeds who row.path plain dice after (Ok stored)
                → AddsEntry found (event.Replace row.path row.revision stored) given_to acted
                → ReplacesBy row.path given_to (Ok taken)
                → Done (resealing (nat_lt data_limit (length plain)) name p row plain at) news dice
                taken
            replaced stored (answer.Written n) taken sealing s r d =
                subst (λ t. Done (resealing (nat_lt data_limit (length plain)) name p row plain at)
                news
                dice t) (same_step taken (step.Rewritten row.path) d) (written stored n sealing s r)
            replaced stored (answer.Changed last) taken sealing s r d =
                absurd (not_changed o p one found acted row plain stored number lone holds lived
                reads
                sealing last r)
            replaced stored answer.StoreFailed taken sealing s r d = not_err taken no.StoreFailed d
            replaced stored (answer.StoreFull needed) taken sealing s r d =
                not_err taken (no.StoreFull needed) d
            replaced stored answer.NoMemory taken sealing s r d = not_err taken no.NoMemory d
            replaced stored other taken sealing s r d = absurd d

            -- the row is left as it was
            left_there : (long : Bool) → nat_lt data_limit (length plain) ≡ long → after ≡ dice
                → acted ≡ found → (taken : Step)
                → ◌≡◌ {A = Result Step CallNo} (Ok taken) (Ok (step.Left row.path))
                → Does (resealing long name p row plain at) (Out news dice None m)
                (Out news after None m) (Ok (one_left at))
                → Done (resealing (nat_lt data_limit (length plain)) name p row plain at) news dice
                taken
            left_there long is kept same taken e d =
                let rest = stays_so (one_left at) (step.Left row.path) refl same kept (refl, refl)
                in
                subst (λ t. Done (resealing (nat_lt data_limit (length plain)) name p row plain at)
                news
                dice t) (same_step taken (step.Left row.path) e) (
                  rest.0,
                  rest.1,
                  subst (λ b. Does (resealing b name p row plain at) (Out news dice None m)
                      (Out news after None m) (Ok (one_left at))) (sym is) d,
                  rest.3,
                )

            -- data that can't be sealed leave the row
            unsealed : (why : SealNo) (taken : Step) → acted ≡ found
                → Seals left count p.seeds who row.path plain dice after (Err why)
                → ◌≡◌ {A = Result Step CallNo} (Ok taken) (unsealed_step row.path why)
                → Done (resealing (nat_lt data_limit (length plain)) name p row plain at) news dice
                taken
            unsealed seal.LooksEncrypted taken same s e =
                left_there false (le-ltb data_limit (length plain) s.0) s.3 same taken e
                (goes_on (value_sealed p.seeds who row.path plain) (replacing name p row at)
                None
                (sealed_does link left count links dice after drawn drawn
                (with_lent_tape name None m (Now news)) who
                p.seeds row.path plain (Err seal.LooksEncrypted) (omega arith) s.0 tt s)
                (given (one_left at) (Out news after None m)))
            unsealed (seal.TooLarge size) taken same s e =
                left_there true (lt-ltb data_limit (length plain) s.1) s.2 same taken e
                (stays_so (one_left at) (step.Left row.path) refl same s.2 (refl, refl)).2
            unsealed seal.DiceFailed taken same s e = not_err taken no.DiceFailed e
            unsealed seal.NoMemory taken same s e = not_err taken no.NoMemory e

            resealed : (sealed : Result (List ℕ) SealNo) (taken : Step)
                → Seals left count p.seeds who row.path plain dice after sealed
                → ResealsBy p row plain sealed found (Ok taken) acted
                → Done (resealing (nat_lt data_limit (length plain)) name p row plain at) news dice
                taken
            resealed (Ok stored) taken s (inl r) =
                replaced stored r.given taken r.sealing s r.replaces r.answers
            resealed (Ok stored) taken s (inr n) = not_err taken no.Spent n.1
            resealed (Err why) taken s r = unsealed why taken r.1 s r.0

            data_done : (stale : Bool) (taken : Step)
                → RewritesData left count p row plain stale found dice (Ok taken) acted after
                → Done (row_data name p row at plain stale) news dice taken
            data_done false taken r =
                subst (λ t. Done (give (one_fresh at)) news dice t)
                (same_step taken (step.Fresh row.path) r.0)
                (stays_so (one_fresh at) (step.Fresh row.path) refl r.1 r.2 (refl, refl))
            data_done true taken (inl r) = in_memory
                (resealing (nat_lt data_limit (length plain)) name p row plain at) news dice taken
                (resealed r.sealed taken r.seals r.reseals)
            data_done true taken (inr r) = not_err taken no.NoMemory r.0

        -- the value was read, and no link failed
        value_passed : (opened : Result Opened UnsealNo)
            (made : Result (Result Opened ValueNo) Stop) → ReadsRow p row olds opened news
            → ((n : List ℕ) → opened ≡ Err (unseal.PluginFailed n)
            → FaultRose link n links links)
            → IsValueEnd link links opened made
            → Does (value_read p.seeds (list_of p.rows row.resource) row.path row.stored olds.cache)
            (Out olds dice None m) (Out news dice None m) (keeping news.cache made)
        value_passed opened made u fails e = value_heard link all links links distinct
            (left dice) drawn (with_lent_tape name None m a) p row olds opened news follows u made
            [] (asked_none link [] links) fails e

        -- with what is kept then
        abbrev Passed : Step → Type 0
        Passed taken = (next : Progress) × Becomes p row at next taken
            × Does (row_steps name p row olds.cache at) (Out olds dice None m)
            (Out news after None m) (Ok (next, news.cache))
            × ((state_of o acted.seen).rows ≡ next.store.rows)

        passed : (opened : Result Opened UnsealNo) (read : Result Opened ValueNo) (taken : Step)
            → ReadsRow p row olds opened news
            → ((n : List ℕ) → opened ≡ Err (unseal.PluginFailed n)
            → FaultRose link n links links)
            → IsValueEnd link links opened (Ok read)
            → Done (row_by name p row at read) news dice taken → Passed taken
        passed opened read taken u fails e (next, becomes, does, rows) =
            let rest : Result Opened ValueNo × CacheState → Steps (Progress × CacheState) = λ read.
            and_then (row_by name p row at read.0) (λ done. give (done, read.1)) in (
              next,
              becomes,
              goes_on (value_read p.seeds (list_of p.rows row.resource) row.path row.stored
                  olds.cache) rest (read, news.cache) (value_passed opened (Ok read) u fails e)
                  (goes_on (row_by name p row at read) (λ done. give (done, news.cache)) next does
                  (given (next, news.cache) (Out news after None m))),
              rows,
            )

        -- a value that isn't read leaves the row
        unread : (why : UnsealNo) (taken : Step)
            → ReadsRow p row olds (Err why) news
            → acted ≡ found → after ≡ dice
            → ◌≡◌ {A = Result Step CallNo} (Ok taken) (unread_step row.path why)
            → Passed taken
        unread (unseal.Refused why) taken u same kept e =
            subst (λ t. Passed t) (same_step taken (step.Left row.path) e)
            (passed (Err (unseal.Refused why)) (Err why) (step.Left row.path) u
            (λ n e. absurd (cc)) refl
            (stays_so (one_left at) (step.Left row.path) refl same kept (refl, refl)))
        unread (unseal.PluginFailed n) taken u same kept e = not_err taken (no.PluginFailed n) e
        unread unseal.NoMemory taken u same kept e = not_err taken no.NoMemory e

        opened_done : (opened : Result Opened UnsealNo) (taken : Step)
            → ReadsRow p row olds opened news
            → RewritesBy left count p row opened found dice (Ok taken) acted after
            → Passed taken
        opened_done (Ok opened) taken u r =
            passed (Ok opened) (Ok opened) taken u (λ n e. absurd (cc)) refl
            (data_done opened.plain (some_reading p row olds opened news u) opened.stale taken r)
        opened_done (Err why) taken u r = unread why taken u r.1 r.2 r.0

        pub row_done : (taken : Step)
            → RewritesOver ReadsRow left count p row found olds dice (Ok taken) acted news after
            → Passed taken
        row_done taken (inl r) = opened_done r.opened taken r.unseals r.rewrites
        row_done taken (inr n) = not_err taken no.NoMemory n.0.0
