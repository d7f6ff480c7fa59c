-- Each reply has its cause, by the relation of its line's call: of a rewrite, and of all lines.
use Rattle.std.proofs.Common.{◌≡◌, ℕ, Bool, true, false, List, [], ◌∷◌, Option, Result, Ok, Err, inl, inr, refl, ap, sym, subst}
use Rattle.std.proofs.lemmas.Bool.{false≢true}
use Rattle.kr_kms.specs.Calls.{Link}
use Rattle.kr_provider.specs.Names.{names_of}
use Rattle.kr_provider.specs.Publication.{Publication, list_at, writer_at}
use Rattle.kr_provider.specs.Sealing.{Seals}
use Rattle.kr_provider.specs.Unsealing.{UnsealsBy}
use Rattle.kr_provider.specs.declared.refusal.Opened.{Opened}
use Rattle.kr_provider.specs.declared.refusal.SealNo.{SealNo}
use Rattle.kr_provider.specs.declared.refusal.SealNo.TheVariants as sealing
use Rattle.kr_provider.specs.declared.refusal.UnsealNo.{UnsealNo}
use Rattle.kr_provider.specs.declared.refusal.UnsealNo.TheVariants as unsealing
use Rattle.kr_store.specs.declared.rows.Row.{Row}
use Rattle.kr_rollout.specs.declared.answer.Answer.{Answer}
use Rattle.kr_rollout.specs.declared.answer.Answer.TheVariants as answer
use Rattle.kr_history.specs.declared.call.CallNo.{CallNo}
use Rattle.kr_history.specs.declared.call.CallNo.TheVariants as refusal
use Rattle.kr_rollout.specs.declared.event.Event.TheVariants as event
use Rattle.kr_history.specs.Acting.{AddsEntry, Caller}
use Rattle.kr_history.proofs.PartsAdd.{parts_follow}
use Rattle.kr_rewrite.specs.declared.outcome.Report.{Report}
use Rattle.kr_rewrite.specs.declared.outcome.Step.{Step}
use Rattle.kr_rewrite.specs.declared.outcome.Step.TheVariants as step
use Rattle.kr_rewrite.specs.Drives.{IsCut, IsDrive, last_of}
use Rattle.kr_rewrite.specs.Rewrites.{FindsNone, IsStep, ReplacesBy, ResealsBy, Rewrites, RewritesBy, RewritesData, Steps}
use Rattle.kr_script.specs.declared.script.ScriptLine.{ScriptLine}
use Rattle.kr_script.specs.declared.script.ScriptLine.TheVariants as line
use Rattle.kr_script.specs.declared.told.Told.{Told}
use Rattle.kr_script.specs.declared.told.Told.TheVariants as told
use Rattle.kr_workers.specs.declared.files.SettingsFile.{SettingsFile}
use Rattle.kr_workers.specs.Causes.{TellsAnswer}
use Rattle.kr_workers.specs.Replies.{told_of_drive}
use Rattle.kr_workers.specs.ScriptLines.{Does, Workplace}
use Rattle.kr_workers.proofs.Causing.{Causes, HasCauseAt, caused_later, caused_within, deleted_caused, early_caused, get_caused, held_caused, is_done, left_caused, own_gave, put_caused, refused_caused, spent_caused, store_failed, told_caused}
use Rattle.kr_workers.proofs.CausingLoads.{join_caused, refresh_caused, reload_caused}

module _ {L D : Type 0} (link : L → Link) (left : D → Option (List ℕ))
    (count : D → ℕ) where
  -- why a step was cut short
  abbrev CausesStep : Caller → List L → D → CallNo → Caller → List L → D → Type 0
  CausesStep old olds dice why new news after =
      Causes link count line.Rewrite old olds dice why new news after

  -- a result that tells the reason is that of this reason
  as_told : (old new : Caller) (olds news : List L) (dice after : D) (why other : CallNo)
      → ◌≡◌ {A = Result Step CallNo} (Err why) (Err other)
      → CausesStep old olds dice other new news after → CausesStep old olds dice why new news after
  as_told old new olds news dice after why other is h = spent_caused link count line.Rewrite
      {T = Step} old new olds news dice after why other is h

  -- one that was cut short isn't done
  undone : (why : CallNo) (taken : Step) → ◌≡◌ {A = Result Step CallNo} (Err why) (Ok taken) → ⊥
  undone why taken is = absurd (false≢true (ap is_done is))

  replaces_caused : (path : List ℕ) (row : Row) (stored : List ℕ) (old new : Caller)
      (olds news : List L) (dice after : D) (why : CallNo) (given : Answer)
      → AddsEntry old (event.Replace path row.revision stored) given new
      → ReplacesBy path given (Err why) → CausesStep old olds dice why new news after
  replaces_caused path row stored old new olds news dice after why (answer.Written revision) a r =
      absurd (undone why (step.Rewritten path) r)
  replaces_caused path row stored old new olds news dice after why (answer.Changed revision) a r =
      absurd (undone why (step.Changed path) r)
  replaces_caused path row stored old new olds news dice after why answer.StoreFailed a r =
      as_told old new olds news dice after why refusal.StoreFailed r
      (tt, store_failed old new (event.Replace path row.revision stored) a)
  replaces_caused path row stored old new olds news dice after why (answer.StoreFull needed) a r =
      as_told old new olds news dice after why (refusal.StoreFull needed) r (
        tt,
        own_gave old new (event.Replace path row.revision stored) (answer.StoreFull needed)
            (TellsAnswer told.Full) a (needed, refl),
      )
  replaces_caused path row stored old new olds news dice after why answer.NoMemory a r =
      as_told old new olds news dice after why refusal.NoMemory r tt
  replaces_caused path row stored old new olds news dice after why other a r = absurd r

  reseals_caused : (p : Publication) (row : Row) (plain : List ℕ) (old new : Caller)
      (olds news : List L) (dice after : D) (why : CallNo) (sealed : Result (List ℕ) SealNo)
      → Seals left count p.seeds (writer_at p row.resource) row.path plain dice after sealed
      → ResealsBy p row plain sealed old (Err why) new
      → CausesStep old olds dice why new news after
  reseals_caused p row plain old new olds news dice after why (Ok stored) s (inl r) =
      replaces_caused row.path row stored old new olds news dice after why r.given r.replaces
      r.answers
  reseals_caused p row plain old new olds news dice after why (Ok stored) s (inr n) =
      as_told old new olds news dice after why refusal.Spent n.1 tt
  reseals_caused p row plain old new olds news dice after why (Err sealing.DiceFailed) s r =
      as_told old new olds news dice after why refusal.DiceFailed r.0 (tt, s.2)
  reseals_caused p row plain old new olds news dice after why (Err sealing.NoMemory) s r =
      as_told old new olds news dice after why refusal.NoMemory r.0 tt
  reseals_caused p row plain old new olds news dice after why (Err other) s r = absurd (undone why (step.Left row.path) r.0)

  rewrites_caused : (p : Publication) (row : Row) (plain : List ℕ) (stale : Bool)
      (old new : Caller) (olds news : List L) (dice after : D) (why : CallNo)
      → RewritesData left count p row plain stale old dice (Err why) new after
      → CausesStep old olds dice why new news after
  rewrites_caused p row plain false old new olds news dice after why r =
      absurd (undone why (step.Fresh row.path) r.0)
  rewrites_caused p row plain true old new olds news dice after why (inl r) = reseals_caused p row
      plain old new olds news dice after why r.sealed r.seals r.reseals
  rewrites_caused p row plain true old new olds news dice after why (inr c) =
      as_told old new olds news dice after why refusal.NoMemory c.0 tt

  opens_caused : (p : Publication) (row : Row) (old new : Caller) (olds news : List L)
      (dice after : D) (why : CallNo) (opened : Result Opened UnsealNo)
      → UnsealsBy link p.seeds (list_at p row.resource) row.path row.stored olds opened news
      → RewritesBy left count p row opened old dice (Err why) new after
      → CausesStep old olds dice why new news after
  opens_caused p row old new olds news dice after why (Ok opened) u r = rewrites_caused p row
      opened.plain opened.stale old new olds news dice after why r
  opens_caused p row old new olds news dice after why (Err (unsealing.Refused wrong)) u r =
      absurd (undone why (step.Left row.path) r.0)
  opens_caused p row old new olds news dice after why (Err (unsealing.PluginFailed name)) u r =
      as_told old new olds news dice after why (refusal.PluginFailed name) r.0 (tt, u.rose)
  opens_caused p row old new olds news dice after why (Err unsealing.NoMemory) u r =
      as_told old new olds news dice after why refusal.NoMemory r.0 tt

  row_caused : (p : Publication) (row : Row) (old new : Caller) (olds news : List L)
      (dice after : D) (why : CallNo)
      → Rewrites link left count p row old olds dice (Err why) new news after
      → CausesStep old olds dice why new news after
  row_caused p row old new olds news dice after why (inl o) = opens_caused p row old new olds news
      dice after why o.opened o.unseals o.rewrites
  row_caused p row old new olds news dice after why (inr c) =
      as_told old new olds news dice after why refusal.NoMemory c.0.0 tt

  none_caused : (above : List ℕ) (old new : Caller) (olds news : List L) (dice after : D)
      (why : CallNo) → FindsNone above old (Err why) new
      → CausesStep old olds dice why new news after
  none_caused above old new olds news dice after refusal.Spent n = tt
  none_caused above old new olds news dice after refusal.NoMemory n = tt
  none_caused above old new olds news dice after other n = absurd n

  steps_caused : (p : Publication) (above : List ℕ) (old new : Caller) (olds news : List L)
      (dice after : D) (why : CallNo)
      → Steps link left count p above old olds dice (Err why) new news after
      → CausesStep old olds dice why new news after
  steps_caused p above old new olds news dice after why (inl n) =
      none_caused above old new olds news dice after why n.0
  steps_caused p above old new olds news dice after why (inr f) =
      caused_within link count line.Rewrite old f.found new new (f.finds.entry ∷ []) []
      (parts_follow.one old f.found (event.After above) (answer.Found f.row) f.finds)
      (parts_follow.none new) olds news dice after why
      (row_caused p f.row f.found new olds news dice after why f.rewrites)

  step_caused : (replica : ℕ) (above : List ℕ) (old new : Caller) (olds news : List L)
      (dice after : D) (why : CallNo)
      → IsStep link left count replica above old olds dice (Err why) new news after
      → CausesStep old olds dice why new news after
  step_caused replica above old new olds news dice after why (inl e) =
      early_caused link count line.Rewrite tt tt replica old new olds news dice after why e.0
  step_caused replica above old new olds news dice after why (inr h) =
      held_caused link count line.Rewrite
      (λ (number : ℕ) (p : Publication) (from : Caller) (done : Result Step CallNo) (to : Caller).
      Steps link left count p above from olds dice done to news after) replica old new olds
      news dice after why h
      (λ number p from to d. steps_caused p above from to olds news dice after why d)

  cut_caused : (replica : ℕ) (above : List ℕ) (old new : Caller) (olds news : List L)
      (dice after : D) (why : CallNo) (report : Report)
      → IsCut link left count replica above old olds dice why report new news after
      → CausesStep old olds dice why new news after
  cut_caused replica above old new olds news dice after why report cut =
      let e = cut.ends in
      caused_within link count line.Rewrite old e.middle new new e.walks_few.0 []
      e.walks_few.1 (parts_follow.none new) olds news dice after why
      (caused_later link count line.Rewrite e.middle new (names_of link olds) olds e.mids news dice
      e.between after e.walks_asked e.walks_later why
      (step_caused replica (last_of above cut.steps) e.middle new e.mids news e.between after why
      e.ends))

  rewrite_caused : (replica : ℕ) (old new : Workplace L D) (reply : Told)
      (result : Result Report (Report × CallNo))
      → Ok reply ≡ told_of_drive old.caller.seat result
      → IsDrive link left count replica [] old.caller old.links old.dice result new.caller
      new.links new.dice → HasCauseAt link count line.Rewrite old reply new
  rewrite_caused replica old new reply (Ok report) is d =
      told_caused link count line.Rewrite old new reply
      (told.Rewritten report.rewritten report.fresh report.changed report.left) is tt
  rewrite_caused replica old new reply (Err cut) is (inl d) =
      refused_caused link count line.Rewrite old new reply cut.1 is
      (cut_caused replica [] old.caller new.caller old.links new.links old.dice new.dice cut.1
      cut.0 d)
  rewrite_caused replica old new reply (Err cut) is (inr n) =
      refused_caused link count line.Rewrite old new reply cut.1 is
      (subst (λ (w : CallNo). CausesStep old.caller old.links old.dice w new.caller new.links
      new.dice) (sym n.why_is) tt)

  -- ---- each line

  pub line_caused : (files : List SettingsFile) (replica : ℕ) (asked : ScriptLine)
      (old new : Workplace L D) (reply : Told)
      → Does link left count files replica asked old (Ok reply) new
      → HasCauseAt link count asked old reply new
  line_caused files replica (line.Put resource path plain) old new reply d =
      put_caused link left count resource path plain replica old new reply d.0 d.1 d.2
  line_caused files replica (line.Get path) old new reply d =
      get_caused link left count path replica old new reply d.0 d.1 d.2
  line_caused files replica (line.Delete path) old new reply d =
      deleted_caused link left count path old new reply d.0 d.1 d.2
  line_caused files replica line.Rewrite old new reply d =
      rewrite_caused replica old new reply d.0 d.1 d.2
  line_caused files replica (line.Reload named file) old new reply (rows, read, inl none) =
      told_caused link count (line.Reload named file) old new reply told.Memory none.0 tt
  line_caused files replica (line.Reload named file) old new reply (rows, read, inr d) =
      reload_caused link left count named file rows old new reply d.0 d.1 d.2
  line_caused files replica line.Refresh old new reply d =
      refresh_caused link left count replica old new reply d.0 d.1 d.2
  line_caused files replica (line.Join named file) old new reply (rows, read, inl none) =
      told_caused link count (line.Join named file) old new reply told.Memory none.0 tt
  line_caused files replica (line.Join named file) old new reply (rows, read, inr d) =
      join_caused link left count named file rows old new reply d.0 d.1 d.2
  line_caused files replica (line.Leave named) old new reply d =
      left_caused link left count named old new reply d.0 d.1 d.2
