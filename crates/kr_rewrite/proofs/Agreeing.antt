-- By what agrees with each exchange of a drive, what is kept opens as it should, and the history
-- stays honest.
use Rattle.std.specs.Prelude.{⊤}
use Rattle.std.proofs.Common.{◌≡◌, inl, inr, ℕ, Bool, true, false, List, [], ◌∷◌, Option, Some, Result, Ok, Err, refl, sym, subst, ◌∙◌}
use Rattle.kr_kms.specs.Cache.{AreOpenBy, CacheState}
use Rattle.kr_kms.specs.Exchanges.{AgreeAll, Exchange}
use Rattle.kr_kms.specs.Opens.{OpenAll, Opens}
use Rattle.kr_kms.proofs.Opening.{agree_parts}
use Rattle.kr_provider.specs.ExchangeLaws.{IsAnswerBy}
use Rattle.kr_provider.specs.Publication.{Publication, list_at}
use Rattle.kr_provider.specs.declared.refusal.Opened.{Opened}
use Rattle.kr_provider.specs.declared.refusal.SealNo.{SealNo}
use Rattle.kr_provider.specs.declared.refusal.UnsealNo.{UnsealNo}
use Rattle.kr_provider.proofs.AgreeTalks.{reading_agrees}
use Rattle.kr_store.specs.declared.rows.Row.{Row}
use Rattle.kr_rollout.specs.declared.answer.Answer.{Answer}
use Rattle.kr_rollout.specs.declared.answer.Answer.TheVariants as answer
use Rattle.kr_rollout.specs.declared.event.Event.{Event}
use Rattle.kr_rollout.specs.declared.event.Event.TheVariants as event
use Rattle.kr_rollout.specs.Callers.{found_in, holding}
use Rattle.kr_history.specs.declared.call.CallNo.{CallNo}
use Rattle.kr_history.specs.Acting.{AddsEntry, Caller, IsCaller}
use Rattle.kr_history.specs.Calls.{AdoptsNothing, EndsEarly, KeepsHonestBy, LetsGo}
use Rattle.kr_history.specs.CallLaws.{AsksNoHonesty}
use Rattle.kr_history.proofs.Following.{adopted_law, next_law}
use Rattle.kr_history.proofs.KeptByEvents.{holds_still, keeps_quiet, keeps_same}
use Rattle.kr_history.proofs.KeptSeeds.{kept_open}
use Rattle.kr_history.proofs.Nexts.{caller_next}
use Rattle.kr_history.proofs.NothingAdopted.{nothing_adopted}
use Rattle.kr_rewrite.specs.DriveExchanges.{Ahead, IsDriveBy, ReadsRow, before, behind}
use Rattle.kr_rewrite.specs.DriveLaws.{DrivesAgree, StepsAgree}
use Rattle.kr_rewrite.specs.Drives.{EndsByOver, WalksOver, last_of, path_of}
use Rattle.kr_rewrite.specs.Rewrites.{FindsNone, IsStepOver, ResealsBy, RewritesBy, RewritesData, RewritesOver, StepsOver}
use Rattle.kr_rewrite.specs.declared.outcome.Report.{Report}
use Rattle.kr_rewrite.specs.declared.outcome.Step.{Step}
use Rattle.kr_rewrite.specs.declared.outcome.Step.TheVariants as step
use Rattle.kr_rewrite.proofs.OneEntry.{found_none}
use Rattle.kr_rewrite.proofs.Replacing.{ReadsWhereOpen, keeps_replace}

module _ (opens : Opens) where
  -- ---- what is read

  abbrev IsOpen : CacheState → Type 0
  IsOpen cache = AreOpenBy opens cache.rows

  -- it agrees with what is still to come, and what is kept opens
  abbrev Agrees : Ahead → Type 0
  Agrees at = AgreeAll opens at.exchanges × IsOpen at.cache

  parts_of : (p : Publication) (row : Row) (from : Ahead) (opened : Result Opened UnsealNo)
      (to : Ahead) (r : ReadsRow p row from opened to) → Agrees from
      → AgreeAll opens r.first × AgreeAll opens to.exchanges
  parts_of p row from opened to r so =
      agree_parts opens r.first to.exchanges (subst (AgreeAll opens) r.are so.0)

  row_agrees : (p : Publication) (row : Row) (from : Ahead) (opened : Result Opened UnsealNo)
      (to : Ahead) → ReadsRow p row from opened to → Agrees from → Agrees to
  row_agrees p row from opened to r so =
      let parts = parts_of p row from opened to r so in (
        parts.1,
        kept_open opens p.seeds (list_at p row.resource) row.path row.stored from.cache opened
            to.cache r.first r.reads parts.0 so.1,
      )

  -- where the configuration's seeds open, the answer is the row's reading
  abbrev IsReadBy : Publication → Row → Result Opened UnsealNo → Type 0
  IsReadBy p row opened = OpenAll opens p.seeds
      → IsAnswerBy opens p.seeds (list_at p row.resource) row.path row.stored opened

  row_read : (p : Publication) (row : Row) (from : Ahead) (opened : Result Opened UnsealNo)
      (to : Ahead) → ReadsRow p row from opened to → Agrees from → IsReadBy p row opened
  row_read p row from opened to r so all =
      let parts = parts_of p row from opened to r so in
      (reading_agrees opens p.seeds (list_at p row.resource) row.path row.stored from.cache opened
      to.cache r.first r.reads parts.0 all so.1).1

  -- ---- what a caller adds

  -- it is a caller still, and what it sees stays honest
  pub record Stays (old new : Caller) : Type 0 where
    pub caller : IsCaller new
    pub honest : KeepsHonestBy opens old new

  stays_same : (old new : Caller) → IsCaller old → new ≡ old → Stays old new
  stays_same old new k same = record {
    caller = subst IsCaller (sym same) k;
    honest = keeps_same old new same opens;
  }

  stays_quiet : (old new : Caller) (asked : Event) (given : Answer) → AsksNoHonesty asked
      → IsCaller old → AddsEntry old asked given new → Stays old new
  stays_quiet old new asked given quiet k a = record {
    caller = caller_next old new asked given a k;
    honest = keeps_quiet old new asked given quiet a opens;
  }

  stays_then : (old middle new : Caller) → Stays old middle → Stays middle new → Stays old new
  stays_then old middle new a b = record {
    caller = b.caller;
    honest = λ keeps. b.honest (a.honest keeps);
  }

  -- ---- a row that was found

  module _ (number : ℕ) (p : Publication) (row : Row) (old new : Caller) (k : IsCaller old)
      (held : holding old.mine ≡ Some (number, p)) (found : found_in old.mine ≡ Some row) where
    reseal_stays : (plain : List ℕ) → ReadsWhereOpen opens p row plain
        → (sealed : Result (List ℕ) SealNo) (result : Result Step CallNo)
        → ResealsBy p row plain sealed old result new → Stays old new
    reseal_stays plain reads (Ok stored) result (inl r) = record {
      caller = caller_next old new (event.Replace row.path row.revision stored) r.given
          r.replaces k;
      honest = keeps_replace opens old new number p row plain row.path stored r.given k held
          found reads r.sealing refl r.replaces;
    }
    reseal_stays plain reads (Ok stored) result (inr n) = stays_same old new k n.0.same
    reseal_stays plain reads (Err why) result r = stays_same old new k r.1

    module _ {D : Type 0} (left : D → Option (List ℕ)) (count : D → ℕ) (dice after : D)
        (result : Result Step CallNo) where
      data_stay : (plain : List ℕ) → ReadsWhereOpen opens p row plain → (stale : Bool)
          → RewritesData left count p row plain stale old dice result new after → Stays old new
      data_stay plain reads false r = stays_same old new k r.1
      data_stay plain reads true (inl r) = reseal_stays plain reads r.sealed result r.reseals
      data_stay plain reads true (inr r) = stays_same old new k r.1

      opened_stays : (opened : Result Opened UnsealNo) → IsReadBy p row opened
          → RewritesBy left count p row opened old dice result new after → Stays old new
      opened_stays (Ok opened) read r = data_stay opened.plain
          (λ all. let t = read all in (t.0, t.1, t.2.0)) opened.stale r
      opened_stays (Err why) read r = stays_same old new k r.1

      rewrites_stay : (from to : Ahead)
          → RewritesOver ReadsRow left count p row old from dice result new to after → Agrees from
          → Agrees to × Stays old new
      rewrites_stay from to (inl o) so = (
        row_agrees p row from o.opened to o.unseals so,
        opened_stays o.opened (row_read p row from o.opened to o.unseals so) o.rewrites,
      )
      rewrites_stay from to (inr n) so = (subst Agrees (sym n.1) so, stays_same old new k n.0.1)

  -- ---- a step

  none_stays : (above : List ℕ) (old new : Caller) (result : Result Step CallNo) → IsCaller old
      → FindsNone above old result new → Stays old new
  none_stays above old new result k a = found_none old new (Stays old new)
      (stays_same old new k) above
      (λ given stays e. stays_quiet old new (event.After above) given tt k e) result a

  early_stays : (replica : ℕ) (old new : Caller) (why : CallNo) → IsCaller old
      → AdoptsNothing replica old why new → Stays old new
  early_stays replica old new why k a = nothing_adopted replica old new (Stays old new)
      (stays_same old new k)
      (λ given stays e. stays_quiet old new (event.Adopt replica) given tt k e) why a

  lets_go_stays : (old new : Caller) (done result : Result Step CallNo) → IsCaller old
      → LetsGo old done result new → Stays old new
  lets_go_stays old new done result k (inl a) =
      stays_quiet old new event.LetGo answer.Released tt k a.0
  lets_go_stays old new done result k (inr a) = stays_same old new k a.0.same

  module _ {D : Type 0} (left : D → Option (List ℕ)) (count : D → ℕ) (replica : ℕ) where
    steps_stay : (number : ℕ) (p : Publication) (above : List ℕ) (old new : Caller)
        (from to : Ahead) (dice after : D) (result : Result Step CallNo) → IsCaller old
        → holding old.mine ≡ Some (number, p)
        → StepsOver ReadsRow left count p above old from dice result new to after → Agrees from
        → Agrees to × Stays old new
    steps_stay number p above old new from to dice after result k held (inl n) so =
        (subst Agrees (sym n.1) so, none_stays above old new result k n.0)
    steps_stay number p above old new from to dice after result k held (inr f) so =
        let asked = event.After above in
        let given = answer.Found f.row in
        let first = stays_quiet old f.found asked given tt k f.finds in
        let rest = rewrites_stay number p f.row f.found new first.caller
        (holds_still old f.found asked given tt f.finds ∙ held)
        (next_law old f.found above f.row f.finds) left count dice after result from to f.rewrites
        so in
        (rest.0, stays_then old f.found new first rest.1)

    early_all : (old new : Caller) (from to : Ahead) (dice after : D)
        (result : Result Step CallNo) → IsCaller old
        → EndsEarly replica ((to ≡ from) × (after ≡ dice)) old result new → Agrees from
        → Agrees to × Stays old new
    early_all old new from to dice after (Ok done) k a so = absurd a
    early_all old new from to dice after (Err why) k a so =
        (subst Agrees (sym a.1.0) so, early_stays replica old new why k a.0)

    pub step_stays : (above : List ℕ) (old new : Caller) (from to : Ahead) (dice after : D)
        (result : Result Step CallNo) → IsCaller old
        → IsStepOver ReadsRow left count replica above old from dice result new to after
        → Agrees from → Agrees to × Stays old new
    step_stays above old new from to dice after result k (inl early) so =
        early_all old new from to dice after result k early so
    step_stays above old new from to dice after result k (inr h) so =
        let asked = event.Adopt replica in
        let given = answer.Adopted h.number h.p in
        let first = stays_quiet old h.adopted asked given tt k h.adopts in
        let did = steps_stay h.number h.p above h.adopted h.acted from to dice after h.done
        first.caller (adopted_law old h.adopted replica h.number h.p h.adopts) h.does so in
        let last = lets_go_stays h.acted new h.done result did.1.caller h.lets_go in
        (did.0, stays_then old h.adopted new first (stays_then h.adopted h.acted new did.1 last))

    -- ---- a drive

    walks_stay : (above : List ℕ) (steps : List Step) (old new : Caller) (from to : Ahead)
        (dice after : D) → IsCaller old
        → WalksOver ReadsRow left count replica above steps old from dice new to after
        → Agrees from → Agrees to × Stays old new
    walks_stay above [] old new from to dice after k w so =
        (subst Agrees (sym w.1) so, stays_same old new k w.0)
    walks_stay above (taken ∷ steps) old new from to dice after k w so =
        let first = step_stays above old w.middle from w.mids dice w.between (Ok taken) k w.goes
        so in
        let rest = walks_stay (path_of above taken) steps w.middle new w.mids to w.between after
        first.1.caller w.behind first.0 in
        (rest.0, stays_then old w.middle new first.1 rest.1)

    ends_stay : (above : List ℕ) (steps : List Step) (old new : Caller) (from to : Ahead)
        (dice after : D) (ended : Result Step CallNo) (report : Report) → IsCaller old
        → EndsByOver ReadsRow (λ a b. ⊤) left count replica above steps old from dice ended report
        new to after → Agrees from → Agrees to × Stays old new
    ends_stay above steps old new from to dice after ended report k e so =
        let first = walks_stay above steps old e.middle from e.mids dice e.between k e.walks so in
        let last = step_stays (last_of above steps) e.middle new e.mids to e.between after ended
        first.1.caller e.ends first.0 in
        (last.0, stays_then old e.middle new first.1 last.1)

    pub drive_stays : (above : List ℕ) (old new : Caller) (cache kept : CacheState)
        (dice after : D) (result : Result Report (Report × CallNo)) (exchanges : List Exchange)
        → IsCaller old
        → IsDriveBy left count replica above old cache dice result new kept after exchanges
        → AgreeAll opens exchanges → IsOpen cache → Agrees (behind kept) × Stays old new
    drive_stays above old new cache kept dice after (Ok report) exchanges k d agree so =
        ends_stay above d.steps old new (before cache exchanges) (behind kept) dice after
        (Ok step.End) report k d.ends (agree, so)
    drive_stays above old new cache kept dice after (Err cut) exchanges k (inl d) agree so =
        ends_stay above d.steps old new (before cache exchanges) (behind kept) dice after
        (Err cut.1) cut.0 k d.ends (agree, so)
    drive_stays above old new cache kept dice after (Err cut) exchanges k (inr n) agree so =
        (subst Agrees (sym n.links) (agree, so), stays_same old new k n.same)

pub steps_agree : {D : Type 0} (left : D → Option (List ℕ)) (count : D → ℕ)
    → StepsAgree left count
steps_agree left count opens replica above old cache dice result new kept after exchanges k s agree
    so =
    let stays = step_stays opens left count replica above old new (before cache exchanges)
    (behind kept) dice after result k s (agree, so) in
    (stays.0.1, stays.1.honest)

pub drives_agree : {D : Type 0} (left : D → Option (List ℕ)) (count : D → ℕ)
    → DrivesAgree left count
drives_agree left count opens replica above old cache dice result new kept after exchanges k d
    agree so =
    let stays = drive_stays opens left count replica above old new cache kept dice after result
    exchanges k d agree so in
    (stays.0.1, stays.1.honest)
