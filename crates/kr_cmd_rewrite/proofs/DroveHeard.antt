-- A core that was driven by its only caller: its exchanges are those of the links that it had.
use Rattle.std.proofs.Common.{◌≡◌, ℕ, ◌^◌, ◌<◌, ◌≤◌, List, [], ◌∷◌, Option, Some, Result, Ok, Err, Contains, refl, sym, subst, append-nil}
use Rattle.kr_kms.specs.Cache.{CacheState}
use Rattle.kr_kms.specs.Calls.{Link}
use Rattle.kr_kms.specs.Exchanges.{Exchange}
use Rattle.kr_provider.specs.AskedLinks.{AskedOnly, FaultRose}
use Rattle.kr_provider.specs.Names.{AreDistinct, names_of}
use Rattle.kr_provider.specs.Publication.{Publication}
use Rattle.kr_provider.proofs.AskedLists.{distinct_stay}
use Rattle.kr_store.specs.Stores.{Holds, IsListing, Kept}
use Rattle.kr_store.specs.declared.rows.Row.{Row}
use Rattle.kr_history.specs.Acting.{Caller, IsCaller, only_caller}
use Rattle.kr_history.specs.declared.call.CallNo.{CallNo}
use Rattle.kr_history.specs.declared.call.CallNo.TheVariants as no
use Rattle.kr_rollout.specs.Cores.{CoreState}
use Rattle.kr_rollout.specs.Histories.{ends_torn, state_of}
use Rattle.kr_rewrite.specs.DriveExchanges.{IsDriveBy, before, behind}
use Rattle.kr_rewrite.specs.declared.outcome.Report.{Report}
use Rattle.kr_cmd_messages.specs.declared.refusal.Ended.{Ended}
use Rattle.kr_cmd_messages.specs.declared.refusal.Stop.{Stop}
use Rattle.kr_cmd_steps.specs.Environment.{Environment, with_exchanges}
use Rattle.kr_cmd_steps.specs.RewriteSteps.{nothing_done, driving}
use Rattle.kr_cmd_steps.specs.inner.Phases.{Does}
use Rattle.kr_cmd_steps.specs.inner.Reporting.{saying}
use Rattle.kr_cmd_steps.proofs.Hearing.{around_none}
use Rattle.kr_cmd_rewrite.specs.inner.Rewriting.{IsAlone, IsDriveStop, IsReported, MayCutShort, report_counts, opened_store}
use Rattle.kr_cmd_rewrite.proofs.CutShorts.{may_stop}
use Rattle.kr_cmd_rewrite.proofs.DroveAll.{begins, drove_all, drove_some, has_room}
use Rattle.kr_cmd_rewrite.proofs.HeardRows.{Follows, past, past_is}
use Rattle.kr_cmd_rewrite.proofs.RowCuts.{links_by}
use Rattle.kr_cmd_rewrite.proofs.Said.{All_lent}

-- a drive of the core's only caller, with the random source as it comes back
pub heard_core : {D : Type 0} (left : D → Option (List ℕ)) (count : D → ℕ)
    (solo old new : Caller) (cache kept : CacheState) (dice between after : D)
    (result ended : Result Report (Report × CallNo)) (es : List Exchange) → solo ≡ old
    → after ≡ between → result ≡ ended
    → IsDriveBy left count 0 [] solo cache dice result new kept between es
    → IsDriveBy left count 0 [] old cache dice ended new kept after es
heard_core left count solo old new cache kept dice between after result ended es same dice_is is d =
    subst (λ r. IsDriveBy left count 0 [] old cache dice r new kept after es) is
    (subst (λ x. IsDriveBy left count 0 [] old cache dice result new kept x es) (sym dice_is)
    (subst (λ c. IsDriveBy left count 0 [] c cache dice result new kept between es) same d))

-- a drive that ended so is told so, with this store and these links behind it
abbrev pub IsToldBy : {L : Type 0} → (L → Link) → (first last : List L) → Kept → ℕ
    → Result Report (Report × CallNo) → Ended → Type 0
IsToldBy link first last store count (Ok report) ended = IsReported (report_counts report) ended
IsToldBy link first last store count (Err (report, why)) ended = (stop : Stop)
    × IsDriveStop link store last count why stop
    × ((plugin : List ℕ) → why ≡ no.PluginFailed plugin → FaultRose link plugin first last)
    × (ended ≡ record { made = Err stop; said = Some (report_counts report) })

-- where a drive begins nothing was asked
pub first_follows : (es : List Exchange) (cache : CacheState) → Follows es (before cache es)
first_follows es cache = record { done = []; are = refl }

-- the links that a walk led from and to
module _ {L : Type 0} (link : L → Link) (first last : List L) (distinct : AreDistinct link first)
    (asked : AskedOnly link (names_of link first) first last) (es : List Exchange) where
  pub all_distinct : (why : CallNo) → AreDistinct link (links_by first last why)
  all_distinct (no.PluginFailed plugin) = distinct
  all_distinct why = distinct_stay link (names_of link first) first last asked distinct

  -- ---- a drive over a core

  module _ {D : Type 0} (left : D → Option (List ℕ)) (count : D → ℕ) (core : CoreState)
      (alone : IsAlone core) (known : IsCaller (only_caller core)) (new : Caller)
      (cache kept : CacheState) (dice after : D) where
    -- why it may be cut short
    pub may_end : (report : Report) (why : CallNo) (names : List (List ℕ))
        → ((plugin : List ℕ) → why ≡ no.PluginFailed plugin → Contains names plugin)
        → IsDriveBy left count 0 [] (only_caller core) cache dice (Err (report, why)) new kept
        after es → MayCutShort names why
    may_end report why names named d =
        let live = alone.room.0 in
        let is = alone.room.1 in
        let follows = first_follows es cache in
        may_stop link first distinct es left count core.opening alone.p alone.reloads
        alone.within live (nothing_done (opened_store core))
        (only_caller core) new (before cache es) (behind kept) dice after report why names named
        (begins es core alone known (before cache es) follows live alone.p is alone.replicas)
        (has_room es core alone known (before cache es) follows live alone.p is
        alone.replicas) d

    module _ (closed : CoreState) (known_now : IsCaller new) (back : only_caller closed ≡ new)
        (store : Kept) (rows_are : store.rows ≡ (state_of closed.opening closed.history).rows)
        (count_is : store.count ≡ (state_of closed.opening closed.history).count)
        (format_is : store.format ≡ closed.opening.format)
        (torn : store.torn ≡ ends_torn closed.opening closed.history)
        (store_holds : Holds store) (bounded : store.count < 2 ^ 64)
        (drawn : count dice ≤ count after) (name : List ℕ) (a : Environment) (live : List Row)
        (told : Option (List ℕ)) (p : Publication)
        (is : IsListing core.opening.rows live)
        (replicas_are : core.opening.replicas ≡ Some p ∷ []) (ended : Ended) where
      abbrev Before : Environment → Environment
      Before b = All_lent link first (left dice) (count dice) name told core.opening.count b

      abbrev Behind : Environment → Environment
      Behind b = All_lent link last (left after) (count after) name store.told store.count b

      abbrev Whole : Environment → Environment → Type 0
      Whole b d = Does (driving name p live cache (nothing_done (opened_store core))) (Before b)
          (saying ended.said (Behind d)) ended.made

      -- from nothing asked to all of it
      in_all : Whole (with_exchanges (past es (before cache es)) a)
          (with_exchanges (past es (behind kept)) a) → Whole a (with_exchanges es a)
      in_all d = subst (λ b. Whole b (with_exchanges es a)) (around_none a)
          (subst (λ l. Whole (with_exchanges l a) (with_exchanges es a))
          (past_is es [] (before cache es) refl)
          (subst (λ l. Whole (with_exchanges (past es (before cache es)) a)
          (with_exchanges l a)) (past_is es es (behind kept) (sym (append-nil es))) d))

      heard_all : (report : Report)
          → IsDriveBy left count 0 [] (only_caller core) cache dice (Ok report) new kept after es
          → IsReported (report_counts report) ended → Whole a (with_exchanges es a)
      heard_all report d r = in_all (drove_all link first last asked all_distinct es left count core
          closed alone known new known_now back (before cache es) (behind kept) dice after
          (first_follows es cache) store rows_are count_is format_is torn store_holds
          bounded drawn name a live told p is replicas_are report
          ended d r)

      heard_some : (report : Report) (why : CallNo) (stop : Stop)
          → IsDriveBy left count 0 [] (only_caller core) cache dice (Err (report, why)) new kept
          after es → IsDriveStop link store last (count after) why stop
          → ((plugin : List ℕ) → why ≡ no.PluginFailed plugin → FaultRose link plugin first last)
          → ended ≡ record { made = Err stop; said = Some (report_counts report) }
          → Whole a (with_exchanges es a)
      heard_some report why stop d h fails e = in_all (drove_some link first last asked all_distinct
          es left count core closed alone known new known_now back (before cache es) (behind kept)
          dice after (first_follows es cache) store rows_are count_is format_is torn
          store_holds bounded drawn name a live told p is
          replicas_are report ended why stop d h fails e)

      pub heard_so : (made : Result Report (Report × CallNo))
          → IsDriveBy left count 0 [] (only_caller core) cache dice made new kept after es
          → IsToldBy link first last store (count after) made ended → Whole a (with_exchanges es a)
      heard_so (Ok report) d r = heard_all report d r
      heard_so (Err (report, why)) d (stop, h, fails, e) =
          heard_some report why stop d h fails e
