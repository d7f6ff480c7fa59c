-- One line: what its call does is what the line does.
use Rattle.std.proofs.Common.{◌≡◌, ℕ, ◌<◌, ◌≤◌, ◌+◌, ◌*◌, get_or, length, List, [], ◌∷◌, Option, None, Some, Result, Ok, Err, inl, inr, refl, ap, sym, subst, ◌∙◌, arith}
use Rattle.std.proofs.lemmas.Option.{same_Some}
use Rattle.kr_config.specs.Kept.{ConfigEntry, plugins_in}
use Rattle.kr_base.specs.Walks.{Talk, Walk}
use Rattle.kr_kms.specs.Calls.{Link}
use Rattle.kr_kms.specs.Exchanges.{Exchange}
use Rattle.kr_provider.specs.AskedLinks.{Among, AskedOnly}
use Rattle.kr_provider.specs.BenchKeys.{adoption_of}
use Rattle.kr_provider.specs.BenchState.{BenchState}
use Rattle.kr_provider.specs.KeyPages.{size_of}
use Rattle.kr_provider.specs.Names.{names_of}
use Rattle.kr_provider.proofs.AskedLists.{asked_none}
use Rattle.kr_history.specs.declared.call.CallNo.{CallNo}
use Rattle.kr_history.specs.declared.call.CallNo.TheVariants as refusal
use Rattle.kr_rollout.specs.Openings.{NamesAmong}
use Rattle.kr_rollout.specs.declared.line.Did.TheVariants as did
use Rattle.kr_history.specs.Acting.{Caller}
use Rattle.kr_rollout.specs.Callers.{holding, reloads_in}
use Rattle.kr_history.specs.Calls.{IsIdle}
use Rattle.kr_history.specs.KeyMoments.{Happens, call_moments}
use Rattle.kr_history.specs.Parts.{AddsWithin}
use Rattle.kr_history.proofs.PartsAdd.{parts_follow}
use Rattle.kr_history.specs.declared.outcome.Joining.{Joining}
use Rattle.kr_fleet.specs.declared.outcome.Loaded.{Loaded}
use Rattle.kr_fleet.specs.declared.outcome.Read.{Read}
use Rattle.kr_fleet.specs.CallExchanges.{IsJoinBy, IsReadBy, IsRefreshBy, IsReloadBy}
use Rattle.kr_fleet.specs.SingleCalls.{IsDelete, IsLeave}
use Rattle.kr_fleet.specs.LoadCalls.{IsJoin, IsRefresh, IsReload}
use Rattle.kr_fleet.specs.ReadCalls.{IsRead}
use Rattle.kr_fleet.specs.WriteCalls.{IsWrite}
use Rattle.kr_rewrite.specs.DriveExchanges.{IsDriveBy}
use Rattle.kr_rewrite.specs.declared.outcome.Report.{Report}
use Rattle.kr_rewrite.specs.Drives.{IsDrive, IsIdleAtEnd}
use Rattle.kr_script.specs.declared.script.ScriptLine.{ScriptLine}
use Rattle.kr_script.specs.declared.script.ScriptLine.TheVariants as line
use Rattle.kr_script.specs.declared.told.Told.TheVariants as told
use Rattle.kr_workers.specs.declared.files.SettingsFile.{SettingsFile}
use Rattle.kr_workers.specs.Files.{rows_at}
use Rattle.kr_workers.specs.LineExchanges.{BringsFileBy, DoesBy}
use Rattle.kr_workers.specs.Replies.{Reply, told_of_delete, told_of_drive, told_of_join, told_of_leave, told_of_read, told_of_refresh, told_of_reload, told_of_write}
use Rattle.kr_history.proofs.AskedReaders.{asked_all}
use Rattle.kr_workers.specs.ScriptLines.{BringsFile, Does, MayBringFile, WasRead}
use Rattle.kr_workers.specs.declared.line.Way.{Way}
use Rattle.kr_workers.specs.declared.line.Way.TheVariants as way
use Rattle.kr_workers.specs.inner.Ways.{line_by}
use Rattle.kr_workers.specs.inner.Serving.{AddsFor, EndsFor, IsIdleAt, IsReadyFor, MovesKeys, Serves, place_of}
use Rattle.kr_workers.specs.LineMoments.{adopts_published}
use Rattle.kr_workers.proofs.MovedKeys.{moves_nothing}
use Rattle.kr_workers.proofs.Cutting.{delete_spent, leave_spent, read_spent, refresh_spent, write_spent}
use Rattle.kr_workers.proofs.Telling.{ends_delete, ends_drive, ends_join, ends_leave, ends_read, ends_refresh, ends_reload, ends_write, idle_always, idle_drive, idle_read, idle_refresh, idle_write}

-- ---- links

asked_same : {L : Type 0} (link : L → Link) (olds news : List L) → news ≡ olds
    → AskedOnly link (names_of link olds) olds news
asked_same link olds news same = subst (λ ls. AskedOnly link (names_of link olds) olds ls)
    (sym same) (asked_none link (names_of link olds) olds)

-- ---- parts

-- nothing is within each bound
pub nothing_for : (asked : ScriptLine) (c : Caller) → AddsFor asked c c
nothing_for asked c = (
  [],
  parts_follow.none c,
  record {
    few = omega arith;
    brings_few = omega arith;
    puts_are = inl refl;
  },
)

-- a part of a rewrite has no bound
drive_for : (n : ℕ) (old new : Caller) → AddsWithin n 0 [] old new → AddsFor line.Rewrite old new
drive_for n old new a = (
  a.0,
  a.1,
  record {
    few = omega arith;
    brings_few = a.2.brings_few;
    puts_are = a.2.puts_are;
  },
)

module _ {L D : Type 0} (link : L → Link) (step : L → Exchange → L → Type 0) (left : D → Option (List ℕ))
    (count : D → ℕ) (files : List SettingsFile) (replica : ℕ) where
  -- nothing was done
  -- a line for which no plugin is asked and nothing is drawn leaves the bench as it is
  serves_alone : (old new : Caller) (b : BenchState L D) (reply : Reply) (asked : ScriptLine)
      → Does link left count files replica asked (place_of old b) reply (place_of new b)
      → DoesBy left count files replica asked (place_of old b) reply (place_of new b) []
      → AddsFor asked old new → EndsFor asked old reply → holding new.mine ≡ None
      → MovesKeys (adopts_published asked) old (adoption_of b) new (adoption_of b)
      → Serves link step left count files replica asked old b reply new b
  serves_alone old new b reply asked does asks adds spent idle keys = record {
    does = does;
    asks = record { steps = []; walk = refl; are = asks };
    adds = adds;
    spent = spent;
    idle = idle_always reply new idle;
    asked_only = asked_none link (names_of link b.links) b.links;
    later = omega arith;
    pages = refl;
    keys = keys;
  }

  pub serves_nothing : (asked : ScriptLine) (c : Caller) (b : BenchState L D)
      → Does link left count files replica asked (place_of c b) (Ok told.Memory)
      (place_of c b)
      → DoesBy left count files replica asked (place_of c b) (Ok told.Memory) (place_of c b) []
      → holding c.mine ≡ None
      → Serves link step left count files replica asked c b (Ok told.Memory) c b
  serves_nothing asked c b d asks idle = serves_alone c c b (Ok told.Memory) asked d asks
      (nothing_for asked c) tt idle (moves_nothing (adopts_published asked) c (adoption_of b) idle)

  module _ (old new : Caller) (b after : BenchState L D) (reply : Reply) where
    pub serves_put : (resource path plain : List ℕ) (result : Result ℕ CallNo)
        → reply ≡ told_of_write old.seat result
        → IsWrite left count resource path plain replica old b.dice result new after.dice
        → AddsWithin 3 0 (did.Put path resource plain ∷ []) old new
        → IsIdle result new → after.links ≡ b.links → count b.dice ≤ count after.dice
        → size_of after.pages ≡ size_of b.pages → after.cache ≡ b.cache
        → Walk Happens (adoption_of b) (call_moments old new) (adoption_of after)
        → Serves link step left count files replica (line.Put resource path plain) old b reply new
        after
    serves_put resource path plain result is does adds idle links later pages cache keys = record {
      does = (result, is, does, links);
      asks = record { steps = []; walk = links; are = (refl, cache) };
      adds = adds;
      spent = subst (λ r. EndsFor (line.Put resource path plain) old r) (sym is)
          (ends_write (line.Put resource path plain) old old.seat result
          (write_spent left count resource path plain replica old b.dice new after.dice result
          does));
      idle = subst (λ r. IsIdleAt r new) (sym is) (idle_write old.seat result new idle);
      asked_only = asked_same link b.links after.links links;
      later = later;
      pages = pages;
      keys = keys;
    }

    pub serves_get : (path : List ℕ) (result : Result Read CallNo)
        → reply ≡ told_of_read old.seat result
        → IsRead link path replica old b.links result new after.links
        → AddsWithin 3 0 [] old new → IsIdle result new
        → AskedOnly link (names_of link b.links) b.links after.links → after.dice ≡ b.dice
        → size_of after.pages ≡ size_of b.pages
        → Talk (Among step) b.links after.links
        (IsReadBy path replica old b.cache result new after.cache)
        → Walk Happens (adoption_of b) (call_moments old new) (adoption_of after)
        → Serves link step left count files replica (line.Get path) old b reply new after
    serves_get path result is does adds idle asked dice pages talk keys = record {
      does = (result, is, does, dice);
      asks = record {
        steps = talk.steps;
        walk = talk.walk;
        are = (result, is, talk.are);
      };
      adds = adds;
      spent = subst (λ r. EndsFor (line.Get path) old r) (sym is)
          (ends_read (line.Get path) old old.seat result
          (read_spent link path replica old b.links new after.links result does));
      idle = subst (λ r. IsIdleAt r new) (sym is) (idle_read old.seat result new idle);
      asked_only = asked;
      later = let e : count after.dice ≡ count b.dice = ap count dice in omega (arith, e);
      pages = pages;
      keys = keys;
    }

    pub serves_refresh : (result : Result Loaded CallNo) → reply ≡ told_of_refresh old.seat result
        → IsRefresh link left count replica old b.links b.dice result new after.links
        after.dice → AddsWithin 3 1 [] old new
        → IsIdle result new → AskedOnly link (names_of link b.links) b.links after.links
        → count b.dice ≤ count after.dice
        → after ≡ record b { links = after.links; dice = after.dice }
        → Talk (Among step) b.links after.links
        (IsRefreshBy left count replica old b.dice result new after.dice)
        → adoption_of after ≡ adoption_of b
        → Serves link step left count files replica line.Refresh old b reply new after
    serves_refresh result is does adds idle asked later kept talk keys = record {
      does = (result, is, does);
      asks = record {
        steps = talk.steps;
        walk = talk.walk;
        are = (result, is, talk.are, ap (λ (s : BenchState L D). s.cache) kept);
      };
      adds = adds;
      spent = subst (λ r. EndsFor line.Refresh old r) (sym is)
          (ends_refresh line.Refresh old old.seat result
          (refresh_spent link left count replica old b.links b.dice new after.links after.dice
          result does));
      idle = subst (λ r. IsIdleAt r new) (sym is) (idle_refresh old.seat result new idle);
      asked_only = asked;
      later = later;
      pages = ap (λ (s : BenchState L D). size_of s.pages) kept;
      keys = keys;
    }

    drive_adds : (result : Result Report (Report × CallNo))
        → IsDrive link left count replica [] old b.links b.dice result new after.links
        after.dice → AddsFor line.Rewrite old new
    drive_adds (Ok report) d = drive_for (4 * length d.steps + 4) old new d.ends.few
    drive_adds (Err cut) (inl d) = drive_for (4 * length d.steps + 4) old new d.ends.few
    drive_adds (Err cut) (inr d) = subst (λ (c : Caller). AddsFor line.Rewrite old c) (sym d.same)
        (nothing_for line.Rewrite old)

    pub serves_rewrite : (result : Result Report (Report × CallNo))
        → reply ≡ told_of_drive old.seat result
        → IsDrive link left count replica [] old b.links b.dice result new after.links
        after.dice → IsIdleAtEnd result new
        → AskedOnly link (names_of link b.links) b.links after.links
        → count b.dice ≤ count after.dice → size_of after.pages ≡ size_of b.pages
        → Talk (Among step) b.links after.links
        (IsDriveBy left count replica [] old b.cache b.dice result new after.cache after.dice)
        → Walk Happens (adoption_of b) (call_moments old new) (adoption_of after)
        → Serves link step left count files replica line.Rewrite old b reply new after
    serves_rewrite result is does idle asked later pages talk keys = record {
      does = (result, is, does);
      asks = record {
        steps = talk.steps;
        walk = talk.walk;
        are = (result, is, talk.are);
      };
      adds = drive_adds result does;
      spent = subst (λ r. EndsFor line.Rewrite old r) (sym is) (ends_drive old old.seat result);
      idle = subst (λ r. IsIdleAt r new) (sym is) (idle_drive old.seat result new idle);
      asked_only = asked;
      later = later;
      pages = pages;
      keys = keys;
    }

    -- a file was read, and a call brought its settings
    module _ {T : Type 0} (tells : ℕ → Result T CallNo → Reply)
        (Calls : List ConfigEntry → Result T CallNo → Type 0)
        (CallsBy : List ConfigEntry → Result T CallNo → List Exchange → Type 0) where
      -- by what the call ensures, the line is served
      abbrev pub ServesBrought : ScriptLine → (file : List ℕ) → Type 0
      ServesBrought asked file = (rows : List ConfigEntry) (result : Result T CallNo)
          → rows_at files file ≡ Some rows → reply ≡ tells old.seat result → Calls rows result
          → AddsWithin 1 1 [] old new → holding new.mine ≡ None
          → AskedOnly link (plugins_in rows) b.links after.links
          → count b.dice ≤ count after.dice
          → after ≡ record b { links = after.links; dice = after.dice }
          → Talk (Among step) b.links after.links (CallsBy rows result)
          → Serves link step left count files replica asked old b reply new after

      serves_brought : (by it : Way) → by ≡ it → (named : ℕ) (file : List ℕ)
          → (WasRead (rows_at files file) (λ rows. BringsFile link tells (Calls rows) rows
          (place_of old b) reply (place_of new after))
          → Does link left count files replica (line_by it named file) (place_of old b) reply
          (place_of new after))
          → ((es : List Exchange) → WasRead (rows_at files file) (λ rows. BringsFileBy tells
          (CallsBy rows) (place_of old b) reply (place_of new after) es)
          → DoesBy left count files replica (line_by it named file) (place_of old b) reply
          (place_of new after) es)
          → (AddsWithin 1 1 [] old new → AddsFor (line_by it named file) old new)
          → (adoption_of after ≡ adoption_of b → MovesKeys
          (adopts_published (line_by it named file)) old (adoption_of b) new (adoption_of after))
          → ((result : Result T CallNo) → (result ≡ Err refusal.Spent → old.left < 1)
          → EndsFor (line_by it named file) old (tells old.seat result))
          → ((rows : List ConfigEntry) → Calls rows (Err refusal.Spent) → old.left < 1)
          → ServesBrought (line_by by named file) file
      serves_brought by it same named file does_so asks_so adds_so keys_so ends spent =
          subst (λ (w : Way). ServesBrought (line_by w named file) file) (sym same)
          (λ rows result read is does adds idle asked_only later kept talk. record {
            does = does_so (rows, read, inr (result, is, does, asked_only));
            asks = record {
              steps = talk.steps;
              walk = talk.walk;
              are = asks_so talk.steps (
                rows,
                read,
                inr (result, is, talk.are, ap (λ (s : BenchState L D). s.cache) kept),
              );
            };
            adds = adds_so adds;
            spent = subst (λ r. EndsFor (line_by it named file) old r) (sym is)
                (ends result (λ e. spent rows (subst (Calls rows) e does)));
            idle = idle_always reply new idle;
            asked_only = asked_all link (plugins_in rows) b.links after.links asked_only;
            later = later;
            pages = ap (λ (s : BenchState L D). size_of s.pages) kept;
            keys = keys_so (ap (λ (s : BenchState L D). adoption_of s) kept);
          })

    abbrev pub Reloads : (named : ℕ) → List ConfigEntry → Result Loaded CallNo → Type 0
    Reloads named rows result =
        IsReload link left count rows named old b.links b.dice result new after.links after.dice

    abbrev pub Joins : (named : ℕ) → List ConfigEntry → Result Joining CallNo → Type 0
    Joins named rows result =
        IsJoin link left count rows named old b.links b.dice result new after.links after.dice

    abbrev ReloadsBy : (named : ℕ) → List ConfigEntry → Result Loaded CallNo → List Exchange
        → Type 0
    ReloadsBy named rows result =
        IsReloadBy left count rows named old b.dice result new after.dice

    abbrev JoinsBy : (named : ℕ) → List ConfigEntry → Result Joining CallNo → List Exchange
        → Type 0
    JoinsBy named rows result = IsJoinBy left count rows named old b.dice result new after.dice

    pub serves_reload : (by : Way) → by ≡ way.Reload → (named : ℕ) (file : List ℕ)
        → ServesBrought told_of_reload (Reloads named) (ReloadsBy named) (line_by by named file) file
    serves_reload by is named file = serves_brought told_of_reload (Reloads named) (ReloadsBy named)
        by way.Reload is named file (λ d. d) (λ es d. d) (λ a. a) (λ k. k)
        (ends_reload (line.Reload named file) old old.seat) (λ rows d. omega (arith, d.1.spent))

    pub serves_join : (by : Way) → by ≡ way.Join → (named : ℕ) (file : List ℕ)
        → ServesBrought told_of_join (Joins named) (JoinsBy named) (line_by by named file) file
    serves_join by is named file = serves_brought told_of_join (Joins named) (JoinsBy named) by
        way.Join is named file (λ d. d) (λ es d. d) (λ a. a) (λ k. k)
        (ends_join (line.Join named file) old old.seat) (λ rows d. omega (arith, d.1.spent))

  module _ (old new : Caller) (b : BenchState L D) (reply : Reply) where
    -- a call that uses neither plugins nor the random source
    abbrev pub ServesAlone : ScriptLine → (tells : ℕ → Result (Option ℕ) CallNo → Reply)
        → (Calls : Result (Option ℕ) CallNo → Type 0) → Type 0
    ServesAlone asked tells Calls = (result : Result (Option ℕ) CallNo)
        → reply ≡ tells old.seat result → Calls result → AddsWithin 1 0 [] old new
        → holding new.mine ≡ None → Serves link step left count files replica asked old b reply new b

    pub serves_delete : (path : List ℕ)
        → ServesAlone (line.Delete path) told_of_delete (λ result. IsDelete path old result new)
    serves_delete path result is does adds idle = serves_alone old new b reply (line.Delete path)
        (result, is, does, (refl, refl)) (refl, refl) adds
        (subst (λ r. EndsFor (line.Delete path) old r) (sym is)
        (ends_delete (line.Delete path) old old.seat result
        (delete_spent path old new result does))) idle refl

    pub serves_leave : (named : ℕ)
        → ServesAlone (line.Leave named) told_of_leave (λ result. IsLeave named old result new)
    serves_leave named result is does adds idle = serves_alone old new b reply (line.Leave named)
        (result, is, does, (refl, refl)) (refl, refl) adds
        (subst (λ r. EndsFor (line.Leave named) old r) (sym is)
        (ends_leave (line.Leave named) old old.seat result (leave_spent named old new result does)))
        idle refl

-- ---- settings that were read

-- what a reload and a join ask for alike
pub may_bring : {L D : Type 0} {link : L → Link} {files : List SettingsFile} {replica : ℕ} {c : Caller}
    {b : BenchState L D} (by : Way) (named : ℕ) (file : List ℕ)
    → IsReadyFor link files replica (line_by by named file) c b
    → MayBringFile c.opening files named file
    × (reloads_in c.mine < get_or c.opening.reloads c.seat 0)
may_bring way.Reload named file ready = (ready.may, omega (arith, ready.room))
may_bring way.Join named file ready = (ready.may, omega (arith, ready.room))

pub read_rows : (names : List (List ℕ)) (files : List SettingsFile) (file lent : List ℕ)
    (rows found : List ConfigEntry) → lent ≡ file → rows_at files file ≡ Some rows
    → rows_at files lent ≡ Some found → NamesAmong names rows → NamesAmong names found
read_rows names files file lent rows found same read is h = subst (NamesAmong names)
    (same_Some rows found (sym read ∙ ap (rows_at files) (sym same) ∙ is)) h

module _ {L D : Type 0} (link : L → Link) (step : L → Exchange → L → Type 0) (left : D → Option (List ℕ))
    (count : D → ℕ) (files : List SettingsFile) (replica : ℕ) (c : Caller) (b : BenchState L D)
  where
    -- no memory for one more owner of the settings
    pub unread : (by : Way) (named : ℕ) (file : List ℕ) (rows : List ConfigEntry)
        → rows_at files file ≡ Some rows → holding c.mine ≡ None
        → Serves link step left count files replica (line_by by named file) c b (Ok told.Memory) c b
    unread way.Reload named file rows read = serves_nothing link step left count files replica
        (line.Reload named file) c b (rows, read, inl (refl, refl))
        (rows, read, inl ((refl, refl), refl))
    unread way.Join named file rows read = serves_nothing link step left count files replica
        (line.Join named file) c b (rows, read, inl (refl, refl))
        (rows, read, inl ((refl, refl), refl))

    -- no copy of the data
    pub uncopied_put : (resource path plain : List ℕ) → holding c.mine ≡ None
        → Serves link step left count files replica (line.Put resource path plain) c b
        (Ok told.Memory) c b
    uncopied_put resource path plain idle = serves_nothing link step left count files replica
        (line.Put resource path plain) c b (Err refusal.NoMemory, refl, inl (inl refl, refl), refl)
        (refl, refl) idle

    -- what was lent is what stands in the line
    pub put_as_lent : (new : Caller) (after : BenchState L D) (reply : Reply)
        (resource path plain own at it : List ℕ) → resource ≡ own → path ≡ at → plain ≡ it
        → Serves link step left count files replica (line.Put resource path plain) c b reply new
        after
        → Serves link step left count files replica (line.Put own at it) c b reply new after
    put_as_lent new after reply resource path plain own at it r p d s = subst
        (λ x. Serves link step left count files replica (line.Put own at x) c b reply new after) d
        (subst (λ x. Serves link step left count files replica (line.Put own x plain) c b reply new
        after) p
        (subst (λ x. Serves link step left count files replica (line.Put x path plain) c b reply
        new
        after) r s))
