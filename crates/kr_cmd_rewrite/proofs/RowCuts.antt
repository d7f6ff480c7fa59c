-- How the steps of a row end where a rewrite of it was cut short.
use Rattle.std.proofs.Common.{◌≡◌, ℕ, ◌^◌, ◌<◌, ◌≤◌, List, [], ◌∷◌, ◌++◌, length, Bool, true, false, Option, None, Some, Result, Ok, Err, refl, sym, ◌∙◌, ap, subst, inl, inr, arith}
use Rattle.std.specs.Prelude.{nat_lt}
use Rattle.std.proofs.lemmas.Bool.{le-ltb}
use Rattle.kr_base.specs.Faults.{Rose}
use Rattle.kr_base.specs.Limits.{data_limit, store_limit}
use Rattle.kr_base.proofs.Counting.{Rose-kept, Rose-later}
use Rattle.kr_config.specs.Lists.{list_of}
use Rattle.kr_config.specs.declared.who.Who.{Who}
use Rattle.kr_kms.specs.Cache.{CacheState}
use Rattle.kr_kms.specs.Calls.{Link}
use Rattle.kr_kms.specs.Exchanges.{Exchange}
use Rattle.kr_provider.specs.AskedLinks.{AskedOnly, FaultRose}
use Rattle.kr_provider.specs.Names.{AreDistinct, names_of}
use Rattle.kr_provider.proofs.AskedLists.{asked_none}
use Rattle.kr_provider.specs.Publication.{Publication, list_at, writer_at}
use Rattle.kr_provider.specs.Reading.{HasSomeReading, data_of}
use Rattle.kr_provider.specs.Sealing.{IsSealing, Seals, value_by}
use Rattle.kr_provider.specs.declared.refusal.Opened.{Opened}
use Rattle.kr_provider.specs.declared.refusal.SealNo.{SealNo}
use Rattle.kr_provider.specs.declared.refusal.SealNo.TheVariants as seal
use Rattle.kr_provider.specs.declared.refusal.UnsealNo.{UnsealNo}
use Rattle.kr_provider.specs.declared.refusal.UnsealNo.TheVariants as unseal
use Rattle.kr_store.specs.File.{file_bytes}
use Rattle.kr_store.specs.Rows.{live}
use Rattle.kr_store.specs.Stores.{Kept}
use Rattle.kr_store.specs.declared.rows.Row.{Row}
use Rattle.kr_rollout.specs.declared.answer.Answer.{Answer}
use Rattle.kr_rollout.specs.declared.answer.Answer.TheVariants as answer
use Rattle.kr_history.specs.declared.call.CallNo.{CallNo}
use Rattle.kr_history.specs.declared.call.CallNo.TheVariants as no
use Rattle.kr_rollout.specs.declared.event.Event.TheVariants as event
use Rattle.kr_rollout.specs.declared.opening.Opening.{Opening}
use Rattle.kr_history.specs.Acting.{Caller, AddsEntry}
use Rattle.kr_rollout.specs.Callers.{holding}
use Rattle.kr_rollout.specs.Histories.{state_of}
use Rattle.kr_rollout.specs.Writes.{file_size}
use Rattle.kr_rewrite.specs.DriveExchanges.{Ahead, ReadsRow}
use Rattle.kr_rewrite.specs.Rewrites.{ReplacesBy, ResealsBy, RewritesBy, RewritesOver, RewritesData, unread_step, unsealed_step}
use Rattle.kr_rewrite.specs.declared.outcome.Step.{Step}
use Rattle.kr_cmd_steps.specs.Environment.{Environment, with_exchanges}
use Rattle.kr_cmd_steps.specs.RewriteSteps.{Progress, one_rewritten, replacing, resealing, row_anew, row_by, row_data, row_steps}
use Rattle.kr_cmd_steps.specs.Phases.{adding, with_memory}
use Rattle.kr_cmd_steps.specs.ValueSteps.{value_read, value_sealed}
use Rattle.kr_cmd_steps.specs.Steps.{Steps, and_then, give}
use Rattle.kr_cmd_steps.specs.StoreFiles.{BeginsWith}
use Rattle.kr_cmd_messages.specs.declared.refusal.Object.TheVariants.{Dice, Store}
use Rattle.kr_cmd_messages.specs.declared.refusal.Stop.{Stop}
use Rattle.kr_cmd_messages.specs.declared.refusal.Stop.TheVariants.{Fault}
use Rattle.kr_cmd_steps.specs.inner.Lent.{with_lent_dice, with_lent_links, with_lent_tape}
use Rattle.kr_cmd_steps.specs.inner.Phases.{Does}
use Rattle.kr_cmd_rewrite.specs.inner.Rewriting.{IsDriveStop}
use Rattle.kr_cmd_steps.proofs.AddedRows.{row_is_above, row_is_lacking, row_is_torn}
use Rattle.kr_cmd_steps.proofs.RunTo.{goes_on, home_refl, reach, stops}
use Rattle.kr_cmd_rewrite.proofs.LoneCallers.{IsLone, replace_failed, tells}
use Rattle.kr_cmd_steps.proofs.Made.{remembers}
use Rattle.kr_cmd_rewrite.proofs.Said.{All_lent}
use Rattle.kr_cmd_steps.proofs.ValueRead.{IsValueEnd, keeping, sealed_does}
use Rattle.kr_cmd_rewrite.proofs.HeardRows.{Follows, past, some_reading, value_heard}
use Rattle.kr_cmd_steps.proofs.Works.{lacks}
use Rattle.kr_store.specs.declared.rows.LogRow.{LogRow}
use Rattle.kr_provider.specs.declared.refusal.ValueNo.{ValueNo}
use Rattle.kr_cmd_rewrite.proofs.RowDrives.{same_why, short_by, was_short}

-- what the tape tells when the steps of the row begin, and its count: what it does at the end, but
-- where it is the tape that fails
abbrev pub told_by : (told : Option (List ℕ)) → CallNo → Option (List ℕ)
told_by told no.StoreFailed = None
told_by told why = told

abbrev pub count_by : (before final : ℕ) → CallNo → ℕ
count_by before final no.StoreFailed = before
count_by before final why = final

-- the plugin that failed is one
abbrev plugin_of : List ℕ → Result Opened UnsealNo → List ℕ
plugin_of other (Err (unseal.PluginFailed plugin)) = plugin
plugin_of other another = other

same_plugin : (n plugin : List ℕ)
    → ◌≡◌ {A = Result Opened UnsealNo} (Err (unseal.PluginFailed n))
    (Err (unseal.PluginFailed plugin)) → n ≡ plugin
same_plugin n plugin e = ap (plugin_of n) e

-- a count that rose is no less
risen : (before now : ℕ) → Rose before now → before ≤ now
risen before now (inl r) = omega (arith, r)
risen before now (inr r) = omega (arith, r.0, r.1)

-- so with the count of the random source
abbrev pub drawn_by : (before final : ℕ) → CallNo → ℕ
drawn_by before final no.DiceFailed = before
drawn_by before final why = final

-- so with the links
abbrev pub links_by : {L : Type 0} → (before final : List L) → CallNo → List L
links_by before final (no.PluginFailed plugin) = before
links_by before final why = final

module _ {L D : Type 0} (link : L → Link) (first last : List L)
    (asked : AskedOnly link (names_of link first) first last)
    (distinct : (why : CallNo) → AreDistinct link (links_by first last why))
    (all : List Exchange) (left : D → Option (List ℕ)) (count : D → ℕ) (o : Opening)
    (p : Publication) (one : o.reloads ≡ 0 ∷ []) (limit_is : o.limit ≡ store_limit)
    (name : List ℕ) (a : Environment) where
  abbrev Now : Ahead → Environment
  Now s = with_exchanges (past all s) a

  abbrev pub Around_at : List L → Ahead → D → (drawn : ℕ) → Option (List ℕ) → ℕ → Environment
  Around_at links s dice drawn told faults =
      All_lent link links (left dice) drawn name told faults (Now s)

  module _ (row : Row) (at : Progress) (found : Caller) (number : ℕ) (lone : IsLone o p found)
      (holds : holding found.mine ≡ Some (number, p))
      (rows_are : (state_of o found.seen).rows ≡ at.store.rows)
      (is_live : live at.store.rows row.path ≡ Some row) (format_is : at.store.format ≡ o.format)
      (olds news : Ahead) (dice after : D) (acted : Caller) (follows : Follows all olds)
      (store : Kept) (before : ℕ) (earlier : before ≤ (state_of o found.seen).count)
      (further : (state_of o acted.seen).count ≤ store.count) (bounded : store.count < 2 ^ 64)
      (begins : BeginsWith at.store store.told) (unspent : 0 < found.left) where
    abbrev here : live (state_of o found.seen).rows row.path ≡ Some row
    here = ap (λ rows. live rows row.path) rows_are ∙ is_live

    abbrev writer : Who
    writer = writer_at p row.resource

    file_is : (stored : List ℕ)
        → file_size o.format (state_of o found.seen).rows (row_anew o.format p row stored)
        ≡ length (file_bytes at.store.format
        (at.store.rows ++ row_anew at.store.format p row stored ∷ []))
    file_is stored = λ i. length (file_bytes (sym format_is i)
        (rows_are i ++ row_anew (sym format_is i) p row stored ∷ []))

    abbrev least : ℕ
    least = count dice

    abbrev drawn : ℕ
    drawn = count after

    abbrev pub Cut : {A : Type 0} → Steps A → Ahead → D → CallNo → Stop → Type 0
    Cut steps s from why stop = Does steps
        (Around_at (links_by first last why) s from (drawn_by least drawn why)
        (told_by store.told why) (count_by before store.count why))
        (Around_at last news after drawn store.told store.count) (Err stop)

    abbrev pub Stops : CallNo → Stop → Type 0
    Stops why stop = IsDriveStop link store last drawn why stop

    -- memory lacked at the begin
    lacked : (steps : Steps Progress) (stop : Stop) → Stops no.NoMemory stop → after ≡ dice
        → Cut (with_memory steps) news dice no.NoMemory stop
    lacked steps stop s kept =
        subst (λ d. Does (with_memory steps) (Around_at last news dice drawn store.told store.count)
        (Around_at last news d drawn store.told store.count) (Err stop)) (sym kept)
        (subst (λ x. Does (with_memory steps) (Around_at last news dice drawn store.told store.count)
        (Around_at last news dice drawn store.told store.count) (Err x)) (sym s)
        (lacks steps (Around_at last news dice drawn store.told store.count)))

    module _ (plain : List ℕ)
        (reads : HasSomeReading (list_at p row.resource) row.path row.stored (data_of plain)) where
      abbrev Anew : Steps Progress
      Anew = with_memory (resealing (nat_lt data_limit (length plain)) name p row plain at)

      module _ (stored : List ℕ) (sealing : IsSealing p row.resource row.path plain stored)
          (s : Seals left count p.seeds writer row.path plain dice after (Ok stored)) where
        abbrev New_row : LogRow
        New_row = row_anew at.store.format p row stored

        short : nat_lt data_limit (length plain) ≡ false
        short = was_short (nat_lt data_limit (length plain))
            (value_by p.seeds writer row.path plain s.0) stored s.2

        -- the value was sealed, and the row's steps ended so
        behind : (stop : Stop) (told : Option (List ℕ)) (m : ℕ)
            → Does (adding Store name at.store New_row) (Around_at last news after drawn told m)
            (Around_at last news after drawn store.told store.count) (Err stop)
            → Does Anew (Around_at last news dice drawn told m)
            (Around_at last news after drawn store.told store.count)
            (Err stop)
        behind stop told m d = remembers (subst (λ b. Does (resealing b name p row plain at)
            (Around_at last news dice drawn told m) (Around_at last news after drawn store.told store.count)
            (Err stop))
            (sym short)
            (goes_on (value_sealed p.seeds writer row.path plain) (replacing name p row at)
            (Some stored)
            (sealed_does link left count last dice after drawn drawn
            (with_lent_tape name told m (Now news)) writer p.seeds row.path plain (Ok stored) (omega arith)
            (short_by (nat_lt data_limit (length plain)) (length plain) refl short) tt s)
            (stops (adding Store name at.store New_row)
            (λ grown. give (one_rewritten New_row at)) stop d)))

        cut_by : (given_to : Answer) (why : CallNo) (stop : Stop) → Stops why stop
            → AddsEntry found (event.Replace row.path row.revision stored) given_to acted
            → ReplacesBy row.path given_to (Err why)
            → Cut Anew news dice why stop
        cut_by answer.StoreFailed why stop h r d =
            let is = same_why why no.StoreFailed d in
            let at_stop = subst (λ w. Stops w stop) (sym is) h in
            let fits = subst (λ n. n ≤ store_limit) (file_is stored)
            (subst (λ l. file_size o.format (state_of o found.seen).rows
            (row_anew o.format p row stored) ≤ l) limit_is
            (tells o p one found acted row plain stored number lone holds here reads sealing
            answer.StoreFailed r)) in
            let rose = Rose-later before (state_of o found.seen).count store.count earlier
            (Rose-kept (state_of o found.seen).count (state_of o acted.seen).count store.count
            (replace_failed o p one found acted row plain stored number lone holds here reads
            sealing r) further bounded) in
            subst (λ w. Cut Anew news dice w stop) is
            (behind stop None before (subst (λ x. Does (adding Store name at.store New_row)
            (Around_at last news after drawn None before)
            (Around_at last news after drawn store.told store.count)
            (Err x)) (sym at_stop)
            (row_is_torn Store name at.store New_row None store.told before store.count
            (risen before store.count rose)
            (with_lent_links link 0 last (with_lent_dice 0 (left after) drawn (Now news))) begins
            rose fits)))
        cut_by (answer.StoreFull needed) why stop h r d =
            let is = same_why why (no.StoreFull needed) d in
            let at_stop = subst (λ w. Stops w stop) (sym is) h in
            let full = tells o p one found acted row plain stored number lone holds here reads
            sealing (answer.StoreFull needed) r in
            let long = subst (λ l. l < length (file_bytes at.store.format
            (at.store.rows ++ New_row ∷ []))) limit_is
            (subst (λ n. o.limit < n) (file_is stored) full.1) in
            subst (λ w. Cut Anew news dice w stop) is
            (behind stop store.told store.count (subst (λ x. Does
            (adding Store name at.store New_row) (Around_at last news after drawn store.told store.count)
            (Around_at last news after drawn store.told store.count) (Err x)) (sym at_stop)
            (row_is_above Store name at.store New_row store.told store.told store.count store.count
            (omega arith)
            (with_lent_links link 0 last (with_lent_dice 0 (left after) drawn (Now news))) long)))
        cut_by answer.NoMemory why stop h r d =
            let is = same_why why no.NoMemory d in
            let at_stop = subst (λ w. Stops w stop) (sym is) h in
            subst (λ w. Cut Anew news dice w stop) is
            (behind stop store.told store.count (subst (λ x. Does
            (adding Store name at.store New_row) (Around_at last news after drawn store.told store.count)
            (Around_at last news after drawn store.told store.count) (Err x)) (sym at_stop)
            (row_is_lacking Store name at.store New_row store.told store.told store.count
            store.count (omega arith)
            (with_lent_links link 0 last (with_lent_dice 0 (left after) drawn (Now news))))))
        cut_by (answer.Written n) why stop h r d = absurd (cc)
        cut_by (answer.Changed last) why stop h r d = absurd (cc)
        cut_by other why stop h r d = absurd d

      -- the data weren't sealed
      unsealed_cut : (reason : SealNo) (why : CallNo) (stop : Stop) → Stops why stop
          → Seals left count p.seeds writer row.path plain dice after (Err reason)
          → ◌≡◌ {A = Result Step CallNo} (Err why) (unsealed_step row.path reason)
          → Cut Anew news dice why stop
      unsealed_cut seal.DiceFailed why stop h s e =
          let is = same_why why no.DiceFailed e in
          let at_stop = subst (λ w. Stops w stop) (sym is) h in
          let long = le-ltb data_limit (length plain) s.0 in
          subst (λ w. Cut Anew news dice w stop) is
          (remembers (subst (λ b. Does (resealing b name p row plain at)
          (Around_at last news dice least store.told store.count)
          (Around_at last news after drawn store.told store.count) (Err stop)) (sym long)
          (subst (λ x. Does (resealing false name p row plain at)
          (Around_at last news dice least store.told store.count)
          (Around_at last news after drawn store.told store.count) (Err x)) (sym at_stop)
          (stops (value_sealed p.seeds writer row.path plain) (replacing name p row at)
          (Fault (Dice 0) drawn)
          (sealed_does link left count last dice after least drawn
          (with_lent_tape name store.told store.count (Now news)) writer p.seeds row.path plain
          (Err seal.DiceFailed) (risen least drawn s.2) s.0 s.2 s)))))
      unsealed_cut seal.NoMemory why stop h s e =
          let is = same_why why no.NoMemory e in
          subst (λ w. Cut Anew news dice w stop) is
          (lacked (resealing (nat_lt data_limit (length plain)) name p row plain at) stop
          (subst (λ w. Stops w stop) (sym is) h) s)
      unsealed_cut other why stop h s e = absurd (cc)

      data_cut : (stale : Bool) (why : CallNo) (stop : Stop) → Stops why stop
          → RewritesData left count p row plain stale found dice (Err why) acted after
          → Cut (row_data name p row at plain stale) news dice why stop
      data_cut false why stop h r = absurd (cc)
      data_cut true why stop h (inl r) = by r.sealed r.seals r.reseals
        where
          by : (sealed : Result (List ℕ) SealNo)
              → Seals left count p.seeds writer row.path plain dice after sealed
              → ResealsBy p row plain sealed found (Err why) acted
              → Cut Anew news dice why stop
          by (Ok stored) s (inl r) =
              cut_by stored r.sealing s r.given why stop h r.replaces r.answers
          by (Ok stored) s (inr n) = absurd (omega (arith, n.0.spent, unspent))
          by (Err reason) s r = unsealed_cut reason why stop h s r.0
      data_cut true why stop h (inr r) =
          let is = same_why why no.NoMemory r.0 in
          subst (λ w. Cut Anew news dice w stop) is
          (lacked (resealing (nat_lt data_limit (length plain)) name p row plain at) stop
          (subst (λ w. Stops w stop) (sym is) h) r.2)

    -- ---- a value that isn't read

    abbrev Value : Steps (Result Opened ValueNo × CacheState)
    Value = value_read p.seeds (list_of p.rows row.resource) row.path row.stored olds.cache

    -- what follows what was read, with what is kept then
    abbrev Rest : Result Opened ValueNo × CacheState → Steps (Progress × CacheState)
    Rest read = and_then (row_by name p row at read.0) (λ done. give (done, read.1))

    abbrev Row_steps : Steps (Progress × CacheState)
    Row_steps = row_steps name p row olds.cache at

    -- the value's reading, over links that come to be these
    value_at : (why : CallNo) (now : List L) (told : Option (List ℕ)) (m n : ℕ)
        (opened : Result Opened UnsealNo) (made : Result (Result Opened ValueNo) Stop)
        → ReadsRow p row olds opened news
        → AskedOnly link (names_of link first) (links_by first last why) now
        → ((plugin : List ℕ) → opened ≡ Err (unseal.PluginFailed plugin)
        → FaultRose link plugin (links_by first last why) now)
        → IsValueEnd link now opened made
        → Does Value (Around_at (links_by first last why) olds dice n told m)
        (Around_at now news dice n told m) (keeping news.cache made)
    value_at why now told m n opened made u same fails e = value_heard link all
        (links_by first last why) now (distinct why) (left dice) n (with_lent_tape name told m a)
        p row olds opened news follows u made (names_of link first) same fails e

    -- a row whose value wasn't made stops there
    unmade : (links : List L) (stop : Stop) → after ≡ dice
        → Does Value (Around_at links olds dice drawn store.told store.count)
        (Around_at last news dice drawn store.told store.count) (Err stop)
        → Does Row_steps (Around_at links olds dice drawn store.told store.count)
        (Around_at last news after drawn store.told store.count) (Err stop)
    unmade links stop kept d = subst (λ x. Does Row_steps
        (Around_at links olds dice drawn store.told store.count)
        (Around_at last news x drawn store.told store.count) (Err stop)) (sym kept)
        (stops Value Rest stop d)

    unread_cut : (reason : UnsealNo) (why : CallNo) (stop : Stop) → Stops why stop
        → ((plugin : List ℕ) → why ≡ no.PluginFailed plugin → FaultRose link plugin first last)
        → ReadsRow p row olds (Err reason) news
        → after ≡ dice → ◌≡◌ {A = Result Step CallNo} (Err why) (unread_step row.path reason)
        → Cut Row_steps olds dice why stop
    unread_cut (unseal.Refused reason) why stop h fails u kept e = absurd (cc)
    unread_cut (unseal.PluginFailed n) why stop h fails u kept e =
        let is = same_why why (no.PluginFailed n) e in
        let at_stop = subst (λ w. Stops w stop) (sym is) h in
        subst (λ w. Cut Row_steps olds dice w stop) is
        (unmade first stop kept
        (value_at (no.PluginFailed n) last store.told store.count drawn
        (Err (unseal.PluginFailed n)) (Err stop) u asked
        (λ plugin f. fails plugin
        (sym is ∙ ap (λ m. no.PluginFailed m) (same_plugin n plugin f))) (record {
          it = at_stop.it;
          there = at_stop.there;
          named = at_stop.named;
          has = ap (λ x. Err x) at_stop.has;
        })))
    unread_cut unseal.NoMemory why stop h fails u kept e =
        let is = same_why why no.NoMemory e in
        let at_stop = subst (λ w. Stops w stop) (sym is) h in
        subst (λ w. Cut Row_steps olds dice w stop) is
        (unmade last stop kept
        (value_at no.NoMemory last store.told store.count drawn (Err unseal.NoMemory) (Err stop) u
        (asked_none link (names_of link first) last) (λ plugin f. absurd (cc))
        (ap (λ x. Err x) at_stop)))

    pub row_cut : (why : CallNo) (stop : Stop) → Stops why stop
        → ((plugin : List ℕ) → why ≡ no.PluginFailed plugin → FaultRose link plugin first last)
        → RewritesOver ReadsRow left count p row found olds dice (Err why) acted news after
        → Cut Row_steps olds dice why stop
    row_cut why stop h fails (inl r) = by r.opened r.unseals r.rewrites
      where
        by : (opened : Result Opened UnsealNo) → ReadsRow p row olds opened news
            → RewritesBy left count p row opened found dice (Err why) acted after
            → Cut Row_steps olds dice why stop
        by (Ok opened) u r = goes_on Value Rest (Ok opened, news.cache)
            (value_at why (links_by first last why) (told_by store.told why)
            (count_by before store.count why) (drawn_by least drawn why) (Ok opened)
            (Ok (Ok opened)) u (asked_none link (names_of link first) (links_by first last why))
            (λ plugin f. absurd (cc)) refl)
            (stops (row_by name p row at (Ok opened)) (λ done. give (done, news.cache)) stop
            (data_cut opened.plain (some_reading p row olds opened news u) opened.stale why stop h
            r))
        by (Err reason) u r = unread_cut reason why stop h fails u r.2 r.0
    row_cut why stop h fails (inr n) =
        let is = same_why why no.NoMemory n.0.0 in
        let at_stop = subst (λ w. Stops w stop) (sym is) h in
        let now = Around_at last olds dice drawn store.told store.count in
        subst (λ w. Cut Row_steps olds dice w stop) is
        (subst (λ s. Does Row_steps now
        (Around_at last s after drawn store.told store.count)
        (Err stop)) (sym n.1)
        (subst (λ d. Does Row_steps now
        (Around_at last olds d drawn store.told store.count)
        (Err stop)) (sym n.0.2)
        (subst (λ x. Does Row_steps now now (Err x)) (sym at_stop)
        (record { home = home_refl now; ends = λ l s. inr (reach l (inl (refl, refl)) s) }))))
