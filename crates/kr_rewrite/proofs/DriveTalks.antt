-- By which exchanges a drive went: those of its steps, one behind another.
use Rattle.std.specs.Prelude.{⊤}
use Rattle.std.proofs.Common.{◌≡◌, ℕ, ◌≤◌, Bool, true, false, List, [], ◌++◌, Option, Result, Ok, Err, inl, inr, sym, ap, subst, ◌∙◌}
use Rattle.std.proofs.lemmas.List.{append_assoc}
use Rattle.kr_base.specs.Walks.{Talk}
use Rattle.kr_base.proofs.Walks.{talk_none, talk_so, talk_then}
use Rattle.kr_kms.specs.Cache.{CacheState}
use Rattle.kr_kms.specs.Exchanges.{Exchange}
use Rattle.kr_provider.specs.Publication.{Publication}
use Rattle.kr_provider.specs.declared.refusal.Opened.{Opened}
use Rattle.kr_provider.specs.declared.refusal.UnsealNo.{UnsealNo}
use Rattle.kr_store.specs.declared.rows.Row.{Row}
use Rattle.kr_history.specs.declared.call.CallNo.{CallNo}
use Rattle.kr_history.specs.Acting.{Caller}
use Rattle.kr_history.specs.Calls.{EndsEarly}
use Rattle.kr_history.specs.Parts.{AddsWithin}
use Rattle.kr_rewrite.specs.DriveExchanges.{Ahead, IsDriveBy, IsStepBy, ReadsRow, before, behind}
use Rattle.kr_rewrite.specs.Drives.{report_at}
use Rattle.kr_rewrite.specs.Rewrites.{IsStepOver, RewritesOver, ReadsFoundRow, StepsOver}
use Rattle.kr_rewrite.specs.declared.outcome.Report.{Report}
use Rattle.kr_rewrite.specs.declared.outcome.Step.{Step}
use Rattle.kr_rewrite.specs.inner.Stages.{CountsStep, DrivesFromBy}
use Rattle.kr_rewrite.proofs.BetweenSteps.{IsWalked, drives_on, walked_begin, walked_cut, walked_end, walked_more}

-- ---- the same steps, over something else that answers

module _ {S T D : Type 0} (Reads : ReadsFoundRow S) (Others : ReadsFoundRow T) (to_other : S → T)
    (each : (p : Publication) (row : Row) (from : S) (opened : Result Opened UnsealNo) (to : S)
    → Reads p row from opened to → Others p row (to_other from) opened (to_other to))
    (left : D → Option (List ℕ)) (count : D → ℕ) where
  rewrites_there : (p : Publication) (row : Row) (old new : Caller) (from to : S) (dice after : D)
      (result : Result Step CallNo)
      → RewritesOver Reads left count p row old from dice result new to after
      → RewritesOver Others left count p row old (to_other from) dice result new (to_other to) after
  rewrites_there p row old new from to dice after result (inl o) = inl (record {
    opened = o.opened;
    unseals = each p row from o.opened to o.unseals;
    rewrites = o.rewrites;
  })
  rewrites_there p row old new from to dice after result (inr n) = inr (n.0, ap to_other n.1)

  steps_there : (p : Publication) (above : List ℕ) (old new : Caller) (from to : S)
      (dice after : D) (result : Result Step CallNo)
      → StepsOver Reads left count p above old from dice result new to after
      → StepsOver Others left count p above old (to_other from) dice result new (to_other to) after
  steps_there p above old new from to dice after result (inl n) =
      inl (n.0, ap to_other n.1, n.2)
  steps_there p above old new from to dice after result (inr f) = inr (record {
    row = f.row;
    found = f.found;
    finds = f.finds;
    rewrites = rewrites_there p f.row f.found new from to dice after result f.rewrites;
  })

  early_there : (replica : ℕ) (old new : Caller) (from to : S) (dice after : D)
      (result : Result Step CallNo)
      → EndsEarly replica ((to ≡ from) × (after ≡ dice)) old result new
      → EndsEarly replica ((to_other to ≡ to_other from) × (after ≡ dice)) old result new
  early_there replica old new from to dice after (Ok done) a = absurd a
  early_there replica old new from to dice after (Err why) a =
      (a.0, (ap to_other a.1.0, a.1.1))

  step_there : (replica : ℕ) (above : List ℕ) (old new : Caller) (from to : S) (dice after : D)
      (result : Result Step CallNo)
      → IsStepOver Reads left count replica above old from dice result new to after
      → IsStepOver Others left count replica above old (to_other from) dice result new
      (to_other to) after
  step_there replica above old new from to dice after result (inl early) =
      inl (early_there replica old new from to dice after result early)
  step_there replica above old new from to dice after result (inr h) = inr (record {
    number = h.number;
    p = h.p;
    adopted = h.adopted;
    done = h.done;
    acted = h.acted;
    adopts = h.adopts;
    does = steps_there h.p above h.adopted h.acted from to dice after h.done h.does;
    lets_go = h.lets_go;
  })

-- more exchanges come behind
abbrev further : List Exchange → Ahead → Ahead
further more from = before from.cache (from.exchanges ++ more)

reads_further : (more : List Exchange) (p : Publication) (row : Row) (from : Ahead)
    (opened : Result Opened UnsealNo) (to : Ahead) → ReadsRow p row from opened to
    → ReadsRow p row (further more from) opened (further more to)
reads_further more p row from opened to r = record {
  first = r.first;
  are = ap (λ es. es ++ more) r.are ∙ append_assoc r.first to.exchanges more;
  reads = r.reads;
}

-- ---- a drive

module _ {D : Type 0} (left : D → Option (List ℕ)) (count : D → ℕ) (replica : ℕ) where
  step_further : (above : List ℕ) (old new : Caller) (cache kept : CacheState) (dice after : D)
      (result : Result Step CallNo) (exchanges more : List Exchange)
      → IsStepBy left count replica above old cache dice result new kept after exchanges
      → IsStepOver ReadsRow left count replica above old (before cache (exchanges ++ more)) dice
      result new (before kept more) after
  step_further above old new cache kept dice after result exchanges more s =
      step_there ReadsRow ReadsRow (further more) (reads_further more) left count replica above old
      new (before cache exchanges) (behind kept) dice after result s

  -- steps were taken up to here by these exchanges, whatever comes behind
  abbrev pub IsWalkedBy : (above : List ℕ) → Caller → CacheState → D → Report → Caller
      → CacheState → D → List Exchange → Type 0
  IsWalkedBy above old cache dice report now kept drawn exchanges = (more : List Exchange)
      → IsWalked ReadsRow left count replica above old (before cache (exchanges ++ more)) dice
      report now (before kept more) drawn

  pub talk_begins : {L : Type 0} (step : L → Exchange → L → Type 0) (links : L)
      (above : List ℕ) (old : Caller) (cache : CacheState) (dice : D) (report : Report)
      → report ≡ report_at above
      → Talk step links links (IsWalkedBy above old cache dice report old cache dice)
  talk_begins step links above old cache dice report is =
      talk_none step (IsWalkedBy above old cache dice report old cache dice) links
      (λ more. walked_begin ReadsRow left count replica above old (before cache more) dice report
      is)

  module _ {L : Type 0} (step : L → Exchange → L → Type 0) (links mids news : L)
      (above : List ℕ) (old : Caller) (cache : CacheState) (dice : D) (report : Report)
      (now new : Caller) (so_far kept : CacheState) (drawn after : D)
      (t : Talk step links mids (IsWalkedBy above old cache dice report now so_far drawn))
      (at : List ℕ) (at_is : at ≡ report.last) where
    abbrev Next : Result Step CallNo → List Exchange → Type 0
    Next ended = IsStepBy left count replica at now so_far drawn ended new kept after

    abbrev Ends : Result Report (Report × CallNo) → List Exchange → Type 0
    Ends result = DrivesFromBy left count replica above old cache dice result new kept after

    pub talk_more : (taken : Step) (found : Bool) (next : Report)
        → CountsStep report taken found next → found ≡ true
        → Talk step mids news (Next (Ok taken)) → AddsWithin 4 0 [] now new
        → Talk step links news (IsWalkedBy above old cache dice next new kept after)
    talk_more taken found next c is u few =
        talk_then step (IsWalkedBy above old cache dice report now so_far drawn) (Next (Ok taken))
        (IsWalkedBy above old cache dice next new kept after) links mids news t u
        (λ a b w s more. subst (λ es. IsWalked ReadsRow left count replica above old
        (before cache es) dice next new (before kept more) after) (sym (append_assoc a b more))
        (walked_more ReadsRow left count replica above old (before cache (a ++ (b ++ more))) dice
        report now new (before so_far (b ++ more)) (before kept more) drawn after (w (b ++ more))
        at at_is taken found next c is
        (step_further at now new so_far kept drawn after (Ok taken) b more s) few))

    pub talk_cut : (why : CallNo) → Talk step mids news (Next (Err why))
        → AddsWithin 4 0 [] now new → count dice ≤ count drawn
        → Talk step links news (Ends (Err (report, why)))
    talk_cut why u few later =
        talk_then step (IsWalkedBy above old cache dice report now so_far drawn) (Next (Err why))
        (Ends (Err (report, why))) links mids news t u
        (λ a b w s. walked_cut ReadsRow left count replica above old (before cache (a ++ b)) dice
        report now new (before so_far b) (behind kept) drawn after (w b) at at_is (λ from to. ⊤)
        why s few tt later)

    pub talk_ends : (taken : Step) (found : Bool) (next : Report)
        → CountsStep report taken found next → found ≡ false
        → Talk step mids news (Next (Ok taken)) → AddsWithin 4 0 [] now new
        → count dice ≤ count drawn → Talk step links news (Ends (Ok next))
    talk_ends taken found next c is u few later =
        talk_then step (IsWalkedBy above old cache dice report now so_far drawn) (Next (Ok taken))
        (Ends (Ok next)) links mids news t u
        (λ a b w s. walked_end ReadsRow left count replica above old (before cache (a ++ b)) dice
        report now new (before so_far b) (behind kept) drawn after (w b) at at_is (λ from to. ⊤)
        taken found next c is s few tt later)

  pub talk_drives : {L : Type 0} (step : L → Exchange → L → Type 0) (links news : L)
      (above last : List ℕ) (old new : Caller) (cache kept : CacheState) (dice after : D)
      (result : Result Report (Report × CallNo)) → last ≡ above
      → Talk step links news (DrivesFromBy left count replica last old cache dice result new kept after)
      → Talk step links news
      (IsDriveBy left count replica above old cache dice result new kept after)
  talk_drives step links news above last old new cache kept dice after result is t =
      let Goes = DrivesFromBy left count replica above old cache dice result new kept after in
      talk_so step Goes (IsDriveBy left count replica above old cache dice result new kept after)
      links news
      (subst (λ q. Talk step links news
      (DrivesFromBy left count replica q old cache dice result new kept after)) is t)
      (λ es g. drives_on ReadsRow (λ from to. ⊤) left count replica above old new
      (before cache es) (behind kept) dice after result g)
