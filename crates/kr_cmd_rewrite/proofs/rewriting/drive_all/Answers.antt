-- `drive_all`: a core of one replica is driven by its only caller, and closed.
use Rattle.std.proofs.Common.{◌≡◌, ℕ, ◌<◌, ◌≤◌, ◌^◌, List, [], ◌∷◌, length, None, Some, Result, Ok, Err, refl, sym, ◌∙◌, ap, subst, inl, arith}
use Rattle.std.proofs.lemmas.List.Elements.{All-contains_itself}
use Rattle.kr_base.specs.Lines.{of_seat}
use Rattle.kr_base.specs.Walks.{Talk, Walk}
use Rattle.kr_provider.specs.AskedLinks.{Among, AskedOnly, FaultRose}
use Rattle.kr_provider.specs.Names.{names_of}
use Rattle.kr_provider.proofs.AskedLists.{names_stay}
use Rattle.kr_history.specs.Acting.{Caller, IsCaller, only_caller}
use Rattle.kr_rollout.specs.Callers.{holding}
use Rattle.kr_history.specs.Calls.{AreServed}
use Rattle.kr_rollout.specs.Entries.{seat_of}
use Rattle.kr_rollout.specs.declared.opening.Entry.{Entry}
use Rattle.kr_history.specs.declared.call.CallNo.{CallNo}
use Rattle.kr_history.specs.declared.call.CallNo.TheVariants as no
use Rattle.kr_provider.specs.Publication.{Publication}
use Rattle.kr_rewrite.specs.declared.outcome.Report.{Report}
use Rattle.kr_store.specs.Stores.{IsListing}
use Rattle.kr_cmd_messages.specs.declared.refusal.Ended.{Ended}
use Rattle.kr_cmd_steps.specs.Environment.{Environment, with_exchanges}
use Rattle.kr_cmd_steps.specs.RewriteSteps.{nothing_done, driving}
use Rattle.kr_cmd_steps.specs.inner.Phases.{Does}
use Rattle.kr_cmd_steps.specs.inner.Reporting.{saying}
use Rattle.kr_cmd_steps.specs.inner.Lent.{Name}
use Rattle.kr_cmd_rewrite.specs.inner.Rewriting.{IsReported, LiveRows, Told, opened_store, report_counts}
use Rattle.kr_rewrite.specs.DriveExchanges.{IsDriveBy}
use Rattle.kr_rewrite.specs.Drives.{IsDrive}
use Rattle.kr_cmd_rewrite.proofs.DriveFaults.{fault_named, fault_of}
use Rattle.kr_cmd_rewrite.proofs.DroveAll.{cut_with, over_core}
use Rattle.kr_cmd_rewrite.proofs.DroveHeard.{IsToldBy, heard_core, heard_so, may_end}
use Rattle.kr_cmd_rewrite.proofs.Said.{All_lent}
use Rattle.kr_cmd_rewrite.proofs.rewriting.drive_all.Given.{Over}
use Rattle.kr_cmd_rewrite.proofs.rewriting.drive_all.Goals.{After-close-links}
use Rattle.kr_cmd_rewrite.proofs.rewriting.drive_all.Goals as goal

none_stays : (own : List Entry → List Entry) (entries : List Entry) → entries ≡ []
    → own [] ≡ [] → own entries ≡ entries
none_stays own entries none is = ap own none ∙ is ∙ sym none

pub new-solo-requires-clause-own : goal.new-solo-requires-clause-own
new-solo-requires-clause-own g c = none_stays (of_seat seat_of 0) c.args.core.history
    c.requires.alone.history refl

pub new-solo-requires-clause-seat : goal.new-solo-requires-clause-seat
new-solo-requires-clause-seat g c =
    subst (λ r. 0 < length r) (sym c.requires.alone.reloads) (omega arith)

pub drive-driven-requires-clause-replica : goal.drive-driven-requires-clause-replica
drive-driven-requires-clause-replica g c =
    subst (λ (s : Caller). 0 < length s.opening.replicas) (sym c.new-solo.ensures)
    (subst (λ r. 0 < length r) (sym c.requires.alone.replicas) (omega arith))

pub drive-driven-requires-clause-idle : goal.drive-driven-requires-clause-idle
drive-driven-requires-clause-idle g c =
    subst (λ (s : Caller). holding s.mine ≡ None) (sym c.new-solo.ensures)
    (ap holding c.requires.alone.history)

pub drive-driven-requires-clause-path : goal.drive-driven-requires-clause-path
drive-driven-requires-clause-path g c = inl refl

pub drive-driven-requires-clause-links : goal.drive-driven-requires-clause-links
drive-driven-requires-clause-links g c =
    let linked = names_of g.L.Kms.link c.args.bench.links in
    subst (λ (s : Caller). AreServed s.opening.names linked) (sym c.new-solo.ensures)
    (subst (λ names. AreServed names linked) (sym c.requires.names) (All-contains_itself linked))

-- ---- what the answers behind the closed bench have in common

linked_still : (g : Over) (c : After-close-links g)
    → names_of g.L.Kms.link c.close-links.result.0 ≡ names_of g.L.Kms.link c.args.bench.links
linked_still g c =
    let link = g.L.Kms.link in
    let olds = c.args.bench.links in
    ap (names_of link) c.close-links.ensures.0
    ∙ names_stay link (names_of link olds) olds c.drive-driven.new.bench.links
    c.drive-driven.ensures.asked

module _ (g : Over) (c : After-close-links g) (made : Result Report (Report × CallNo))
    (is : c.drive-driven.result ≡ made) where
  by_exchanges : IsDriveBy g.D.Dice.left g.D.Dice.count 0 [] (only_caller c.args.core)
      c.args.bench.cache c.args.bench.dice made c.drive-driven.new.acts
      c.drive-driven.new.bench.cache c.close-links.result.1 c.drive-driven.ensures.exchanged.steps
  by_exchanges = heard_core g.D.Dice.left g.D.Dice.count c.new-solo.result
      (only_caller c.args.core) c.drive-driven.new.acts c.args.bench.cache
      c.drive-driven.new.bench.cache c.args.bench.dice c.drive-driven.new.bench.dice
      c.close-links.result.1 c.drive-driven.result made c.drive-driven.ensures.exchanged.steps
      c.new-solo.ensures c.close-links.ensures.1 is c.drive-driven.ensures.exchanged.are

  by_links : IsDrive g.L.Kms.link g.D.Dice.left g.D.Dice.count 0 [] (only_caller c.args.core)
      c.args.bench.links c.args.bench.dice made c.drive-driven.new.acts c.close-links.result.0
      c.close-links.result.1
  by_links = over_core g.L.Kms.link g.D.Dice.left g.D.Dice.count c.new-solo.result
      (only_caller c.args.core) c.drive-driven.new.acts c.args.bench.links
      c.drive-driven.new.bench.links c.close-links.result.0 c.args.bench.dice
      c.drive-driven.new.bench.dice c.close-links.result.1 c.drive-driven.result made
      c.new-solo.ensures c.close-links.ensures.0 c.close-links.ensures.1 is
      c.drive-driven.ensures.drives

  told_so : (told : Ended) → IsToldBy g.L.Kms.link c.args.bench.links c.close-links.result.0
      c.close-store.result.0 (g.D.Dice.count c.close-links.result.1) made told
      → Talk (Among g.L.Kms.step) c.args.bench.links c.close-links.result.0 (λ es. (name : Name)
      (a : Environment) (live : LiveRows) (store : Told) (p : Publication)
      → IsListing c.args.core.opening.rows live → c.args.core.opening.replicas ≡ Some p ∷ []
      → Does (driving name p live c.args.bench.cache (nothing_done (opened_store c.args.core)))
      (All_lent g.L.Kms.link c.args.bench.links (g.D.Dice.left c.args.bench.dice)
      (g.D.Dice.count c.args.bench.dice) name store c.args.core.opening.count a)
      (saying told.said (All_lent g.L.Kms.link c.close-links.result.0
      (g.D.Dice.left c.close-links.result.1) (g.D.Dice.count c.close-links.result.1) name
      c.close-store.result.0.told c.close-store.result.0.count (with_exchanges es a))) told.made)
  told_so told tells =
      let k = g.L.Kms in
      let count = g.D.Dice.count in
      let first = c.args.bench.links in
      let dice = c.args.bench.dice in
      let known = subst IsCaller c.new-solo.ensures c.known.ensures in
      let bounded = subst (λ n. n < 2 ^ 64) c.faults-faults.ensures (omega arith) in
      let drawn = subst (λ d. count dice ≤ count d) (sym c.close-links.ensures.1)
      c.drive-driven.ensures.later in
      let talk = c.drive-driven.ensures.exchanged in
      let walk = subst (λ l. Walk (Among k.step) first talk.steps l) (sym c.close-links.ensures.0)
      talk.walk in
      let asked = subst (λ l. AskedOnly k.link (names_of k.link first) first l)
      (sym c.close-links.ensures.0) c.drive-driven.ensures.asked in record {
        steps = talk.steps;
        walk = walk;
        are = λ name a live store p is replicas.
            heard_so k.link first c.close-links.result.0 c.requires.distinct asked talk.steps
            g.D.Dice.left count c.args.core c.requires.alone known c.drive-driven.new.acts
            c.args.bench.cache c.drive-driven.new.bench.cache dice c.close-links.result.1
            c.into_core.result c.known-2.ensures c.into_core.ensures c.close-store.result.0
            c.close-store.ensures.rows c.close-store.ensures.count c.close-store.ensures.format
            c.close-store.ensures.torn c.known-3.ensures bounded drawn name a live store p is
            replicas told made by_exchanges tells;
      }

-- a plugin that failed has a link whose count rose
failed_link : (g : Over) (c : After-close-links g) (report : Report) (why : CallNo)
    → c.drive-driven.result ≡ Err (report, why) → (plugin : List ℕ) → why ≡ no.PluginFailed plugin
    → FaultRose g.L.Kms.link plugin c.args.bench.links c.close-links.result.0
failed_link g c report why is = fault_of g.L.Kms.link g.D.Dice.left g.D.Dice.count []
    (only_caller c.args.core) c.drive-driven.new.acts c.args.bench.links c.close-links.result.0
    c.args.bench.dice c.close-links.result.1 report why (by_links g c (Err (report, why)) is)

-- ---- the answers

-- why the drive may be cut short
pub drive_stop-stop-requires : goal.drive_stop-stop-requires
drive_stop-stop-requires g c =
    let here = (goal.at.drive_stop-stop-requires g c).After-close-links in
    let k = g.L.Kms in
    let first = c.args.bench.links in
    let last = c.close-links.result.0 in
    may_end k.link first c.drive-driven.new.bench.links c.requires.distinct
    c.drive-driven.ensures.asked c.drive-driven.ensures.exchanged.steps g.D.Dice.left
    g.D.Dice.count c.args.core c.requires.alone
    (subst IsCaller c.new-solo.ensures c.known.ensures) c.drive-driven.new.acts
    c.args.bench.cache c.drive-driven.new.bench.cache c.args.bench.dice c.close-links.result.1
    c.in-Err.report c.in-Err.why (names_of k.link last)
    (λ plugin is. fault_named k.link plugin first last
    (failed_link g here c.in-Err.report c.in-Err.why c.in-Err.is plugin is))
    (by_exchanges g here (Err (c.in-Err.report, c.in-Err.why)) c.in-Err.is)

pub returns-in-Ok-clause-ended : goal.returns-in-Ok-clause-ended
returns-in-Ok-clause-ended g c =
    told_so g (goal.at.returns-in-Ok-clause-ended g c).After-close-links (Ok c.in-Ok.report)
    c.in-Ok.is c.reported.result
    (subst (λ n. IsReported n c.reported.result) c.report_counts.ensures c.reported.ensures)

pub returns-in-Ok-clause-names : goal.returns-in-Ok-clause-names
returns-in-Ok-clause-names g c =
    linked_still g (goal.at.returns-in-Ok-clause-names g c).After-close-links

pub returns-in-Err-clause-ended : goal.returns-in-Err-clause-ended
returns-in-Err-clause-ended g c =
    let here = (goal.at.returns-in-Err-clause-ended g c).After-close-links in
    let report = c.in-Err.report in
    let why = c.in-Err.why in
    let stop = c.drive_stop-stop.result in
    told_so g here (Err (report, why)) c.in-Err.is c.cut_short.result (
      stop,
      c.drive_stop-stop.ensures,
      failed_link g here report why c.in-Err.is,
      cut_with c.cut_short.result stop c.report_counts-in-Err.result (report_counts report)
          c.cut_short.ensures c.report_counts-in-Err.ensures,
    )

pub returns-in-Err-clause-names : goal.returns-in-Err-clause-names
returns-in-Err-clause-names g c =
    linked_still g (goal.at.returns-in-Err-clause-names g c).After-close-links
