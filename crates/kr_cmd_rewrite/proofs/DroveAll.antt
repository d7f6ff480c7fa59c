-- A core of one replica that was driven by its only caller, and closed.
use Rattle.std.proofs.Common.{◌≡◌, ℕ, ◌+◌, ◌*◌, ◌^◌, ◌<◌, ◌≤◌, List, [], ◌∷◌, length, Bool, true, false, Option, Some, Result, Err, refl, sym, ◌∙◌, ap, subst, inl, inr, arith}
use Rattle.std.specs.Prelude.{◌⊎◌, ⊤}
use Rattle.kr_base.specs.Faults.{Rose}
use Rattle.kr_kms.specs.Calls.{Link}
use Rattle.kr_kms.specs.Exchanges.{Exchange}
use Rattle.kr_provider.specs.AskedLinks.{AskedOnly, FaultRose}
use Rattle.kr_provider.specs.Names.{AreDistinct, names_of}
use Rattle.kr_provider.specs.Publication.{Publication}
use Rattle.kr_store.specs.Stores.{Holds, IsListing, Kept}
use Rattle.kr_store.specs.declared.rows.Row.{Row}
use Rattle.kr_store.proofs.Listings.{listing_once}
use Rattle.kr_history.specs.declared.call.CallNo.{CallNo}
use Rattle.kr_rollout.specs.declared.opening.Opening.{Opening}
use Rattle.kr_history.specs.Acting.{Caller, IsCaller, only_caller}
use Rattle.kr_history.proofs.TornTails.{torn_rose}
use Rattle.kr_rollout.specs.Cores.{CoreState}
use Rattle.kr_rollout.specs.Histories.{IsRun, ends_torn, state_of}
use Rattle.kr_rollout.specs.Openings.{start_of}
use Rattle.kr_opening.specs.Replicas.{current_from, generations_from}
use Rattle.kr_rewrite.specs.DriveExchanges.{Ahead, ReadsRow}
use Rattle.kr_rewrite.specs.Drives.{CopiesNoPath, DrivesOver, IsCutOver, IsDrive}
use Rattle.kr_rewrite.specs.declared.outcome.Report.{Report}
use Rattle.kr_cmd_steps.specs.Environment.{Environment, with_exchanges}
use Rattle.kr_cmd_rewrite.proofs.HeardRows.{Follows, past}
use Rattle.kr_cmd_rewrite.proofs.RowCuts.{links_by}
use Rattle.kr_history.specs.declared.call.CallNo.TheVariants as no
use Rattle.kr_cmd_steps.specs.RewriteSteps.{nothing_done, driving}
use Rattle.kr_cmd_messages.specs.declared.refusal.Ended.{Ended}
use Rattle.kr_cmd_messages.specs.declared.refusal.Outcome.{Outcome}
use Rattle.kr_cmd_messages.specs.declared.refusal.Stop.{Stop}
use Rattle.kr_cmd_messages.specs.declared.report.RewriteCounts.{RewriteCounts}
use Rattle.kr_cmd_steps.specs.inner.Phases.{Does}
use Rattle.kr_cmd_steps.specs.inner.Reporting.{saying}
use Rattle.kr_cmd_rewrite.specs.inner.Rewriting.{IsAlone, IsDriveStop, IsReported, report_counts, opened_store}
use Rattle.kr_cmd_steps.proofs.RisingCounts.{counted as counted_on}
use Rattle.kr_cmd_rewrite.proofs.DriveSteps.{IsDriven}
use Rattle.kr_cmd_rewrite.proofs.Driven.{EndsSo, drives_so}
use Rattle.kr_cmd_rewrite.proofs.LiveRows.{listing_follows}
use Rattle.kr_cmd_rewrite.proofs.Said.{All_lent}

-- the report says the counts of this drive
pub cut_with : (ended : Ended) (stop : Stop) (said counts : RewriteCounts)
    → ended ≡ record { made = Err stop; said = Some said } → said ≡ counts
    → ended ≡ record { made = Err stop; said = Some counts }
cut_with ended stop said counts is same =
    subst (λ n. ended ≡ record { made = Err stop; said = Some n }) same is

-- a drive over the core, with the links and the random source as they come back
pub over_core : {L D : Type 0} (link : L → Link) (left : D → Option (List ℕ))
    (count : D → ℕ) (solo old new : Caller) (olds mids news : List L) (dice between after : D)
    (result ended : Result Report (Report × CallNo)) → solo ≡ old → news ≡ mids → after ≡ between
    → result ≡ ended → IsDrive link left count 0 [] solo olds dice result new mids between
    → IsDrive link left count 0 [] old olds dice ended new news after
over_core link left count solo old new olds mids news dice between after result ended same
    links_are dice_is is d =
    subst (λ r. IsDrive link left count 0 [] old olds dice r new news after) is
    (subst (λ c. IsDrive link left count 0 [] c olds dice result new news after) same
    (subst (λ l. IsDrive link left count 0 [] solo olds dice result new l after)
    (sym links_are)
    (subst (λ x. IsDrive link left count 0 [] solo olds dice result new mids x)
    (sym dice_is) d)))

whole_then : (torn : Bool) {P : Type 0} → torn ≡ false → (torn ≡ true) ⊎ P → P
whole_then torn whole (inl t) = absurd (let e : true ≡ false = sym t ∙ whole in cc)
whole_then torn whole (inr p) = p

module _ (all : List Exchange) (core : CoreState) (alone : IsAlone core)
    (known : IsCaller (only_caller core)) (s : Ahead) (follows : Follows all s)
    (live : List Row) (p : Publication) (is : IsListing core.opening.rows live)
    (replicas_are : core.opening.replicas ≡ Some p ∷ []) where
  abbrev o : Opening
  o = core.opening

  -- a drive begins there
  pub begins : IsDriven all o p [] live (nothing_done (opened_store core))
      (only_caller core) s
  begins = record {
    lone = record {
      opening = refl;
      seat = refl;
      caller = known;
      generations = ap (λ h. (state_of o h).generations) alone.history
          ∙ ap (generations_from 0) replicas_are;
      current = ap (λ h. (state_of o h).current) alone.history
          ∙ ap (current_from 0) replicas_are;
    };
    rows_are = ap (λ h. (state_of o h).rows) alone.history;
    format_is = refl;
    follow = listing_follows o.format o.rows live known.legal.opens.rows is;
    follows = follows;
    unfailed = ap (λ h. (state_of o h).count) alone.history;
  }

  same_live : alone.room.0 ≡ live
  same_live = listing_once o.rows alone.room.0 live alone.room.1 is

  pub has_room : 4 * length live + 3 ≤ (only_caller core).left
  has_room =
      let e = ap length same_live in
      let n = ap length alone.history in
      let r = alone.room.2 in omega (arith, e, n, r)

  pub are_few : length live ≤ 1000000
  are_few =
      let e = ap length same_live in
      let r = alone.room.2 in
      let most = alone.room.3 in omega (arith, e, r, most)

-- ---- once it is closed

module _ {L D : Type 0} (link : L → Link) (first last : List L)
    (asked : AskedOnly link (names_of link first) first last)
    (distinct : (why : CallNo) → AreDistinct link (links_by first last why))
    (all : List Exchange) (left : D → Option (List ℕ)) (count : D → ℕ) (core closed : CoreState)
    (alone : IsAlone core) (known : IsCaller (only_caller core)) (new : Caller)
    (known_now : IsCaller new) (back : only_caller closed ≡ new) (olds news : Ahead)
    (dice after : D) (follows : Follows all olds)
    (store : Kept) (rows_are : store.rows ≡ (state_of closed.opening closed.history).rows)
    (count_is : store.count ≡ (state_of closed.opening closed.history).count)
    (format_is : store.format ≡ closed.opening.format)
    (torn : store.torn ≡ ends_torn closed.opening closed.history)
    (store_holds : Holds store) (bounded : store.count < 2 ^ 64) (drawn : count dice ≤ count after)
    (name : List ℕ) (a : Environment) (live : List Row) (told : Option (List ℕ)) (p : Publication)
    (is : IsListing core.opening.rows live)
    (replicas_are : core.opening.replicas ≡ Some p ∷ []) (report : Report) (ended : Ended) where
  abbrev Old : Environment
  Old = All_lent link first (left dice) (count dice) name told core.opening.count
      (with_exchanges (past all olds) a)

  abbrev New : Environment
  New = All_lent link last (left after) (count after) name store.told store.count
      (with_exchanges (past all news) a)

  -- a plugin that failed has a link whose count rose
  abbrev Fails : CallNo → Type 0
  Fails why =
      (plugin : List ℕ) → why ≡ no.PluginFailed plugin → FaultRose link plugin first last

  abbrev Whole : Type 0
  Whole = Does (driving name p live olds.cache (nothing_done (opened_store core))) Old
      (saying ended.said New) ended.made

  module _ (stays : new.opening ≡ core.opening) where
    opening_is : closed.opening ≡ core.opening
    opening_is = ap (λ (c : Caller). c.opening) back ∙ stays

    seen_is : closed.history ≡ new.seen
    seen_is = ap (λ (c : Caller). c.seen) back

    rows_now : store.rows ≡ (state_of core.opening new.seen).rows
    rows_now = rows_are ∙ (λ i. (state_of (opening_is i) (seen_is i)).rows)

    count_now : store.count ≡ (state_of core.opening new.seen).count
    count_now = count_is ∙ (λ i. (state_of (opening_is i) (seen_is i)).count)

    torn_now : store.torn ≡ ends_torn core.opening new.seen
    torn_now = torn ∙ (λ i. ends_torn (opening_is i) (seen_is i))

    runs : IsRun core.opening (start_of core.opening) new.seen
    runs = subst (λ (x : Opening). IsRun x (start_of x) new.seen) stays known_now.legal.runs

    later : core.opening.count ≤ store.count
    later =
        let more = counted_on core.opening (start_of core.opening) new.seen runs in
        let e = count_now in omega (arith, more, e)

    rose : store.torn ≡ true → Rose core.opening.count store.count
    rose t = whole_then core.opening.torn alone.whole
        (subst (λ n. (core.opening.torn ≡ true) ⊎ Rose core.opening.count n) (sym count_now)
        (torn_rose core.opening (start_of core.opening) core.opening.torn new.seen runs
        (sym torn_now ∙ t)))

    by_end : (made : Result Outcome Stop) → EndsSo link first last store left count
        (only_caller core) olds dice report new news after made
        → Does (driving name p live olds.cache (nothing_done (opened_store core))) Old
        (saying (Some (report_counts report)) New) made
    by_end made d = drives_so link first last asked distinct all left count core.opening p
        alone.reloads alone.within name a store live (nothing_done (opened_store core))
        (only_caller core) new olds news dice after report refl
        (format_is ∙ ap (λ (x : Opening). x.format) opening_is) rows_now count_now later
        bounded rose alone.counts store_holds
        (begins all core alone known olds follows live p is replicas_are)
        (are_few all core alone known olds follows live p is replicas_are)
        (has_room all core alone known olds follows live p is replicas_are) told made drawn d

    reported_all : DrivesOver ReadsRow (λ from to. ⊤) left count 0 [] (only_caller core) olds dice
        report new news after → IsReported (report_counts report) ended → Whole
    reported_all d r = subst (λ said. Does
        (driving name p live olds.cache (nothing_done (opened_store core))) Old
        (saying said New) ended.made) (sym r.0) (by_end ended.made (inl (d, r.1)))

    cut_all : (why : CallNo) (stop : Stop)
        → IsCutOver ReadsRow (λ from to. ⊤) left count 0 [] (only_caller core) olds dice why report
        new news after ⊎ CopiesNoPath (only_caller core) olds dice why report new news after
        → IsDriveStop link store last (count after) why stop
        → Fails why → ended ≡ record { made = Err stop; said = Some (report_counts report) } → Whole
    cut_all why stop d h fails e = subst (λ (x : Ended). Does
        (driving name p live olds.cache (nothing_done (opened_store core))) Old (saying x.said New)
        x.made) (sym e) (by_end (Err stop) (inr (why, stop, h, fails, d, refl)))

  pub drove_all : DrivesOver ReadsRow (λ from to. ⊤) left count 0 [] (only_caller core) olds dice
      report new news after → IsReported (report_counts report) ended → Whole
  drove_all d r = reported_all (ap (λ (c : Caller). c.opening) d.ends.few.1.new_is) d r

  pub drove_some : (why : CallNo) (stop : Stop)
      → IsCutOver ReadsRow (λ from to. ⊤) left count 0 [] (only_caller core) olds dice why report
      new news after ⊎ CopiesNoPath (only_caller core) olds dice why report new news after
      → IsDriveStop link store last (count after) why stop
      → Fails why → ended ≡ record { made = Err stop; said = Some (report_counts report) } → Whole
  drove_some why stop (inl d) h fails e =
      cut_all (ap (λ (c : Caller). c.opening) d.ends.few.1.new_is) why stop (inl d) h fails e
  drove_some why stop (inr d) h fails e =
      cut_all (ap (λ (c : Caller). c.opening) d.same) why stop (inr d) h fails e
