-- What a desk keeps of a caller and of its bench holds behind each call.
use Rattle.std.proofs.Common.{◌≡◌, ℕ, ◌+◌, ◌≤◌, Bool, true, false, List, [], length, get_or, None, sym, ap, subst, ◌∙◌, arith, inl, inr, Contains, All}
use Rattle.std.specs.Prelude.{◌*◌, IfOk, Option, Result, Ok, Err}
use Rattle.std.proofs.lemmas.List.Elements.{All-contains, All-contains_itself}
use Rattle.kr_config.specs.Kept.{ConfigEntry, plugins_in, rows_of}
use Rattle.kr_config.specs.declared.settings.Settings.{Settings}
use Rattle.kr_kms.specs.Calls.{Link}
use Rattle.kr_provider.proofs.AskedLists.{names_stay}
use Rattle.kr_provider.specs.AskedLinks.{AskedOnly}
use Rattle.kr_provider.specs.BenchState.{BenchState}
use Rattle.kr_provider.specs.KeyPages.{KeyPages, size_of}
use Rattle.kr_provider.specs.Names.{HasLinks, names_of}
use Rattle.kr_provider.specs.Publication.{Publication}
use Rattle.kr_history.specs.declared.call.CallNo.{CallNo}
use Rattle.kr_history.specs.declared.call.CallNo.TheVariants.{Value, PluginFailed, DiceFailed, StoreFailed, StoreFull, Unhealthy, Gone, Spent, NoMemory}
use Rattle.kr_rollout.specs.declared.line.Did.{Did}
use Rattle.kr_history.specs.Acting.{Caller}
use Rattle.kr_rollout.specs.Callers.{holding, reloads_in}
use Rattle.kr_history.specs.Calls.{AreServed, IsIdle}
use Rattle.kr_rollout.specs.Openings.{NamesAmong}
use Rattle.kr_history.specs.Parts.{AddsWithin}
use Rattle.kr_history.proofs.PartsAdd.{parts_sum_to_whole, same_within}
use Rattle.kr_rewrite.specs.Drives.{IsDrive, IsIdleAtEnd}
use Rattle.kr_rewrite.specs.declared.outcome.Report.{Report}
use Rattle.test_fleet_calls.specs.Desks.{IsBench, IsCallerOf, is_spent, one_name, parts_of}
use Rattle.test_fleet_calls.proofs.Lists.{from_each}

-- ---- lists of names

-- the settings that a list of just this link serves name no other plugin
pub one_among : (linked : List (List ℕ)) (asked settings : Settings) → linked ≡ one_name
    → asked ≡ settings → HasLinks linked (rows_of asked.entries.0)
    → NamesAmong one_name (rows_of settings.entries.0)
one_among linked asked settings e same h = subst
    (λ (s : Settings). NamesAmong one_name (rows_of s.entries.0)) same
    (from_each (λ name. Contains one_name name) (plugins_in (rows_of asked.entries.0))
    (λ name c. subst (λ l. Contains l name) e (h name c)))

-- and the link serves what names no other
pub one_serves : (linked : List (List ℕ)) (rows : List ConfigEntry) → linked ≡ one_name
    → NamesAmong one_name rows → HasLinks linked rows
one_serves linked rows e h = λ name c. subst (λ l. Contains l name) (sym e)
    (All-contains (λ n. Contains one_name n) (plugins_in rows) name h c)

-- what is shared of a configuration names what its settings name
pub names_shared : {E : Type 0} (shared : Result Publication E) (p : Publication)
    (rows : List ConfigEntry) → IfOk shared (λ q. q ≡ p) → p.rows ≡ rows → NamesAmong one_name rows
    → IfOk shared (λ q. NamesAmong one_name q.rows)
names_shared (Err why) p rows same is h = tt
names_shared (Ok q) p rows same is h = subst (λ r. NamesAmong one_name r)
    (sym is ∙ ap (λ (x : Publication). x.rows) (sym same)) h

pub served : (names linked : List (List ℕ)) → names ≡ one_name → linked ≡ one_name
    → AreServed names linked
served names linked n e = subst (λ l. All (λ name. Contains l name) names) (sym e)
    (subst (λ l. All (λ name. Contains one_name name) l) (sym n)
    (All-contains_itself one_name))

pub among : (names : List (List ℕ)) (rows : List ConfigEntry) → names ≡ one_name
    → NamesAmong one_name rows → NamesAmong names rows
among names rows e h = subst (λ n. NamesAmong n rows) (sym e) h

-- ---- the bench

module _ {L D : Type 0} (link : L → Link) (names : List (List ℕ)) (old new : BenchState L D) where
  pub bench_asked : IsBench (names_of link old.links) old.pages
      → AskedOnly link names old.links new.links → size_of new.pages ≡ size_of old.pages
      → IsBench (names_of link new.links) new.pages
  bench_asked b a e = record {
    linked_is = names_stay link names old.links new.links a ∙ b.linked_is;
    pages_are = subst (λ n. 64 ≤ n) (sym e) b.pages_are;
  }

  -- only its links and its random source changed
  pub bench_kept : IsBench (names_of link old.links) old.pages
      → AskedOnly link names old.links new.links
      → new ≡ record old { links = new.links; dice = new.dice }
      → IsBench (names_of link new.links) new.pages
  bench_kept b a e = bench_asked b a (ap (λ (x : BenchState L D). size_of x.pages) e)

module _ {L D : Type 0} (link : L → Link) (old new : BenchState L D) where
  -- its links didn't change
  pub bench_linked : IsBench (names_of link old.links) old.pages → new.links ≡ old.links
      → size_of new.pages ≡ size_of old.pages → IsBench (names_of link new.links) new.pages
  bench_linked b l e = record {
    linked_is = ap (names_of link) l ∙ b.linked_is;
    pages_are = subst (λ n. 64 ≤ n) (sym e) b.pages_are;
  }

-- ---- the caller

pub caller_after : (old new : Caller) (replicas left later entries brought : ℕ) (puts : List Did)
    (ended then : Bool) → IsCallerOf old replicas left ended
    → AddsWithin entries brought puts old new → later + brought ≤ left
    → (then ≡ false → holding new.mine ≡ None) → IsCallerOf new replicas later then
caller_after old new replicas left later entries brought puts ended then c (part, a, w) few idle =
    let mine : reloads_in new.mine ≡ reloads_in old.mine + reloads_in part =
    ap (λ (x : Caller). reloads_in x.mine) a.new_is ∙ parts_sum_to_whole.reloads old.mine part in
    let budget : get_or new.opening.reloads new.seat 0 ≡ get_or old.opening.reloads old.seat 0 =
    ap (λ (x : Caller). get_or x.opening.reloads x.seat 0) a.new_is in
    record {
      names = ap (λ (x : Caller). x.opening.names) a.new_is ∙ c.names;
      replicas_are = ap (λ (x : Caller). length x.opening.replicas) a.new_is ∙ c.replicas_are;
      room = omega (arith, mine, budget, w.brings_few, few, c.room);
      idle = idle;
    }

true_false : (b : Bool) → b ≡ true → b ≡ false → ⊥
true_false true e f = absurd (cc)
true_false false e f = absurd (cc)

pub idle_after : {T : Type 0} (done : Result T CallNo) (new : Caller) (spent : Bool)
    → IsIdle done new → spent ≡ is_spent done → spent ≡ false → holding new.mine ≡ None
idle_after (Err Spent) new spent i e f = absurd (true_false spent e f)
idle_after other new spent i e f = i

-- ---- a drive

pub idle_at_end : (driven : Result Report (Report × CallNo)) (new : Caller) (spent : Bool)
    → IsIdleAtEnd driven new → spent ≡ is_spent ((parts_of driven).1) → spent ≡ false
    → holding new.mine ≡ None
idle_at_end (Ok report) new spent i e f = i
idle_at_end (Err cut) new spent i e f = idle_after {T = Unit {0}} (Err cut.1) new spent i e f

module _ {L D : Type 0} (link : L → Link) (left : D → Option (List ℕ))
    (count : D → ℕ) (replica : ℕ) where
  pub drive_few : (above : List ℕ) (old : Caller) (olds : List L) (dice : D)
      (driven : Result Report (Report × CallNo)) (new : Caller) (news : List L) (after : D)
      → IsDrive link left count replica above old olds dice driven new news after
      → (n : ℕ) × AddsWithin n 0 [] old new
  drive_few above old olds dice (Ok report) new news after d =
      (4 * length d.steps + 4, d.ends.few)
  drive_few above old olds dice (Err cut) new news after (inl d) =
      (4 * length d.steps + 4, d.ends.few)
  drive_few above old olds dice (Err cut) new news after (inr d) =
      (0, same_within 0 0 [] old new d.same)

-- ---- both, behind a call

module _ {L D : Type 0} (link : L → Link) (old new : BenchState L D) where
  -- which may have told that the seat is spent
  pub called : (entries brought : ℕ) (puts : List Did) {T : Type 0} (done : Result T CallNo)
      {before behind : Caller} {replicas left later : ℕ} {ended spent : Bool}
      → IsCallerOf before replicas left ended × IsBench (names_of link old.links) old.pages
      → AddsWithin entries brought puts before behind → later + brought ≤ left
      → IsIdle done behind → spent ≡ is_spent done → IsBench (names_of link new.links) new.pages
      → IsCallerOf behind replicas later spent × IsBench (names_of link new.links) new.pages
  called entries brought puts done {before} {behind} {replicas} {left} {later} {ended} {spent} was
      adds few idle is bench = (
        caller_after before behind replicas left later entries brought puts ended spent was.0 adds few
            (idle_after done behind spent idle is),
        bench,
      )

  -- a configuration was brought
  pub brought : (names : List (List ℕ)) {before behind : Caller} {replicas left later : ℕ}
      {ended : Bool}
      → IsCallerOf before replicas left ended × IsBench (names_of link old.links) old.pages
      → AddsWithin 1 1 [] before behind → later + 1 ≤ left → holding behind.mine ≡ None
      → AskedOnly link names old.links new.links
      → new ≡ record old { links = new.links; dice = new.dice }
      → IsCallerOf behind replicas later ended × IsBench (names_of link new.links) new.pages
  brought names {before} {behind} {replicas} {left} {later} {ended} was adds few idle asked kept = (
    caller_after before behind replicas left later 1 1 [] ended ended was.0 adds few (λ e. idle),
    bench_kept link names old new was.1 asked kept,
  )

-- one event was made, and nothing was asked of the bench
pub acted_alone : {before behind : Caller} {replicas left : ℕ} {ended : Bool}
    {linked : List (List ℕ)} {pages : KeyPages}
    → IsCallerOf before replicas left ended × IsBench linked pages
    → AddsWithin 1 0 [] before behind → holding behind.mine ≡ None
    → IsCallerOf behind replicas left ended × IsBench linked pages
acted_alone {before} {behind} {replicas} {left} {ended} was adds idle = (
  caller_after before behind replicas left left 1 0 [] ended ended was.0 adds (omega arith)
      (λ e. idle),
  was.1,
)

-- ---- what a call requires

pub names_kept : {c : Caller} {replicas left : ℕ} {ended : Bool} {linked : List (List ℕ)}
    {pages : KeyPages} → IsCallerOf c replicas left ended × IsBench linked pages
    → (rows : List ConfigEntry) → NamesAmong one_name rows → NamesAmong c.opening.names rows
names_kept {c} kept rows h = among c.opening.names rows kept.0.names h

pub links_serve : {c : Caller} {replicas left : ℕ} {ended : Bool} {linked : List (List ℕ)}
    {pages : KeyPages} → IsCallerOf c replicas left ended × IsBench linked pages
    → AreServed c.opening.names linked
links_serve {c} {linked = linked} kept =
    served c.opening.names linked kept.0.names kept.1.linked_is
