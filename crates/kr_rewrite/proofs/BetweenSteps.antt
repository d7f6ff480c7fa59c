-- Where a drive stands between two steps.
use Rattle.std.proofs.Common.{◌≡◌, ◌⊎◌, inl, inr, ℕ, ◌+◌, ◌*◌, ◌<◌, ◌≤◌, Bool, true, false, List, [], ◌∷◌, ◌++◌, length, Option, Result, Ok, Err, refl, sym, ap, subst, ◌∙◌, arith, length-append}
use Rattle.kr_base.specs.Rules.{IsPath}
use Rattle.kr_kms.specs.Calls.{Link}
use Rattle.kr_provider.proofs.AskedLists.{asked_then, names_stay}
use Rattle.kr_provider.specs.AskedLinks.{AskedOnly}
use Rattle.kr_provider.specs.Names.{names_of}
use Rattle.kr_history.specs.Calls.{AreServed}
use Rattle.kr_history.specs.declared.call.CallNo.{CallNo}
use Rattle.kr_rollout.specs.declared.opening.Opening.{Opening}
use Rattle.kr_history.specs.Acting.{Caller}
use Rattle.kr_history.specs.Parts.{AddsWithin}
use Rattle.kr_history.proofs.PartsAdd.{nothing_within, within_behind, within_more}
use Rattle.kr_rewrite.specs.Drives.{StepCounts, CoversLive, DrivesOver, EndsByOver, FindsRow, IsCutOver, IsDriveOver, WalksOver, last_of, path_of, report_at}
use Rattle.kr_rewrite.specs.Rewrites.{IsStepOver, IsStepTo, ReadsFoundRow}
use Rattle.kr_rewrite.specs.declared.outcome.Report.{Report}
use Rattle.kr_rewrite.specs.declared.outcome.Step.{Step}
use Rattle.kr_rewrite.specs.declared.outcome.Step.TheVariants as step
use Rattle.kr_rewrite.specs.inner.Stages.{CountsStep, DrivesFromOver}
use Rattle.kr_rewrite.proofs.Covering.{IsCovered, covered_begin, covered_end, covered_more}
use Rattle.kr_rewrite.proofs.Growing.{StepLooks, TakesStep, at_end, at_row, takes_step}
use Rattle.kr_rewrite.proofs.Walking.{counts_more, ends_there, finds_row, last_is, settles, walks_more}

module _ {S D : Type 0} (Reads : ReadsFoundRow S) (left : D → Option (List ℕ))
    (count : D → ℕ) (replica : ℕ) where
  -- steps were taken up to here, each counted, and no path was passed by that is live throughout
  pub record IsWalked (above : List ℕ) (old : Caller) (from : S) (dice : D) (report : Report)
      (now : Caller) (links : S) (drawn : D) : Type 0 where
    pub steps : List Step
    pub counts : StepCounts above steps report
    pub walks : WalksOver Reads left count replica above steps old from dice now links drawn
    pub covers : IsCovered above steps old now
    pub few : AddsWithin (4 * length steps) 0 [] old now

  pub walked_begin : (above : List ℕ) (old : Caller) (from : S) (dice : D) (report : Report)
      → report ≡ report_at above → IsWalked above old from dice report old from dice
  walked_begin above old from dice report is = record {
    steps = [];
    counts = subst (λ (r : Report). StepCounts above [] r) (sym is)
        (record { rewritten = refl; fresh = refl; changed = refl; left = refl; last = refl });
    walks = (refl, refl, refl);
    covers = covered_begin above old;
    few = nothing_within 0 0 [] old;
  }

  -- one more step
  module _ (above : List ℕ) (old : Caller) (from : S) (dice : D) (report : Report)
      (now new : Caller) (links to : S) (drawn after : D)
      (w : IsWalked above old from dice report now links drawn) (at : List ℕ)
      (at_is : at ≡ report.last) where
    here : at ≡ last_of above w.steps
    here = at_is ∙ w.counts.last

    from_last : (ended : Result Step CallNo)
        → IsStepOver Reads left count replica at now links drawn ended new to after
        → IsStepOver Reads left count replica (last_of above w.steps) now links drawn ended new
        to after
    from_last ended s = subst
        (λ q. IsStepOver Reads left count replica q now links drawn ended new to after) here s

    few_more : (taken : Step) → AddsWithin 4 0 [] now new
        → AddsWithin (4 * length (w.steps ++ taken ∷ [])) 0 [] old new
    few_more taken f =
        let size : length (w.steps ++ taken ∷ []) ≡ length w.steps + 1 =
        omega (arith, length-append w.steps (taken ∷ [])) in
        within_more (4 * length w.steps + 4) (4 * length (w.steps ++ taken ∷ [])) 0 0 [] old new
        (omega (arith, size)) (omega arith)
        (within_behind (4 * length w.steps) 4 0 0 [] old now new w.few f)

    covers_more : (taken : Step) → FindsRow taken
        → TakesStep (last_of above w.steps) now new taken
        → IsCovered above (w.steps ++ taken ∷ []) old new
    covers_more taken finds t = by t.looks
      where
        by : StepLooks (last_of above w.steps) now new taken
            → IsCovered above (w.steps ++ taken ∷ []) old new
        by (at_row row is l) = covered_more above w.steps taken w.few.0 old now new w.few.1 t.grows
            w.covers row is l
        by (at_end is l) = absurd (subst (λ s. FindsRow s) is finds)

    pub walked_more : (taken : Step) (found : Bool) (next : Report)
        → CountsStep report taken found next → found ≡ true
        → IsStepOver Reads left count replica at now links drawn (Ok taken) new to after
        → AddsWithin 4 0 [] now new
        → IsWalked above old from dice next new to after
    walked_more taken found next c is s f =
        let finds = finds_row taken found report next c is in
        let t = from_last (Ok taken) s in
        record {
          steps = w.steps ++ taken ∷ [];
          counts = counts_more above w.steps taken found report next c is w.counts;
          walks = walks_more Reads left count replica above w.steps taken old now new from
              links to dice drawn after w.walks finds t;
          covers = covers_more taken finds (takes_step Reads left count replica
              (last_of above w.steps) now new links to drawn after taken t);
          few = few_more taken f;
        }

    covers_all : TakesStep (last_of above w.steps) now new step.End
        → CoversLive above w.steps old new
    covers_all t = by t.looks
      where
        by : StepLooks (last_of above w.steps) now new step.End → CoversLive above w.steps old new
        by (at_row row is l) = absurd is.finds
        by (at_end is l) = covered_end above w.steps step.End w.few.0 old now new w.few.1 t.grows
            w.covers l

    module _ (Meanwhile : S → S → Type 0) where
      ends_by : (ended : Result Step CallNo)
          → IsStepOver Reads left count replica at now links drawn ended new to after
          → AddsWithin 4 0 [] now new
          → Meanwhile from links → count dice ≤ count drawn
          → EndsByOver Reads Meanwhile left count replica above w.steps old from dice ended report
          new to after
      ends_by ended s f asked later = record {
        counts = w.counts;
        middle = now;
        mids = links;
        between = drawn;
        walks = w.walks;
        walks_few = w.few;
        walks_asked = asked;
        walks_later = later;
        ends = from_last ended s;
        few = within_behind (4 * length w.steps) 4 0 0 [] old now new w.few f;
      }

      pub walked_cut : (why : CallNo)
          → IsStepOver Reads left count replica at now links drawn (Err why) new to after
          → AddsWithin 4 0 [] now new
          → Meanwhile from links → count dice ≤ count drawn
          → IsCutOver Reads Meanwhile left count replica above old from dice why report new to after
      walked_cut why s f asked later = record {
        steps = w.steps;
        ends = ends_by (Err why) s f asked later;
      }

      drives : IsStepOver Reads left count replica at now links drawn (Ok step.End) new to after
          → AddsWithin 4 0 [] now new
          → Meanwhile from links → count dice ≤ count drawn
          → DrivesOver Reads Meanwhile left count replica above old from dice report new to after
      drives s f asked later = record {
        steps = w.steps;
        ends = ends_by (Ok step.End) s f asked later;
        covers = covers_all (takes_step Reads left count replica (last_of above w.steps) now
            new links to drawn after step.End (from_last (Ok step.End) s));
        settles = settles Reads left count replica above w.steps report old now from links dice
            drawn w.counts w.walks;
      }

      pub walked_end : (taken : Step) (found : Bool) (next : Report)
          → CountsStep report taken found next → found ≡ false
          → IsStepOver Reads left count replica at now links drawn (Ok taken) new to after
          → AddsWithin 4 0 [] now new
          → Meanwhile from links → count dice ≤ count drawn
          → DrivesOver Reads Meanwhile left count replica above old from dice next new to after
      walked_end taken found next c is s f asked later =
          let e = ends_there taken found report next c is in
          subst (λ (r : Report). DrivesOver Reads Meanwhile left count replica above old from dice r
          new to after) (sym e.same)
          (drives (subst (λ t. IsStepOver Reads left count replica at now links drawn (Ok t) new
          to after) e.end s) f asked later)

-- ---- the path to go on from

path_at : (above : List ℕ) (taken : Step) → FindsRow taken → IsStepTo taken
    → IsPath (path_of above taken)
path_at above step.End f is = absurd f
path_at above other f is = is

pub path_next : (taken : Step) (found : Bool) (old new : Report) → CountsStep old taken found new
    → found ≡ true → IsStepTo taken → (new.last ≡ []) ⊎ IsPath new.last
path_next taken found old new c is to = inr (subst IsPath (sym (last_is taken found old new c is))
    (path_at old.last taken (finds_row taken found old new c is) to))

-- ---- what stays

module _ {S D : Type 0} (Reads : ReadsFoundRow S) (left : D → Option (List ℕ))
    (count : D → ℕ) (replica : ℕ) (above : List ℕ) (old : Caller) (olds : S) (dice : D)
    (report : Report) (now : Caller) (links : S) (drawn : D)
    (w : IsWalked Reads left count replica above old olds dice report now links drawn) where
  pub opening_stays : now.opening ≡ old.opening
  opening_stays = ap (λ (c : Caller). c.opening) w.few.1.new_is

  pub replica_stays : (number : ℕ) → number < length old.opening.replicas
      → number < length now.opening.replicas
  replica_stays number l =
      subst (λ (o : Opening). number < length o.replicas) (sym opening_stays) l

pub served_still : {L : Type 0} (link : L → Link) (old now : Caller) (olds links : List L)
    → now.opening ≡ old.opening → AskedOnly link (names_of link olds) olds links
    → AreServed old.opening.names (names_of link olds)
    → AreServed now.opening.names (names_of link links)
served_still link old now olds links same asked served =
    subst (λ (o : Opening). AreServed o.names (names_of link links)) (sym same)
    (subst (λ names. AreServed old.opening.names names)
    (sym (names_stay link (names_of link olds) olds links asked)) served)

pub asked_still : {L : Type 0} (link : L → Link) (olds mids news : List L)
    → AskedOnly link (names_of link olds) olds mids → AskedOnly link (names_of link mids) mids news
    → AskedOnly link (names_of link olds) olds news
asked_still link olds mids news a b =
    asked_then link (names_of link olds) olds mids news a
    (subst (λ names. AskedOnly link names mids news)
    (names_stay link (names_of link olds) olds mids a) b)

-- ---- the whole drive

pub drives_on : {S D : Type 0} (Reads : ReadsFoundRow S) (Meanwhile : S → S → Type 0)
    (left : D → Option (List ℕ)) (count : D → ℕ) (replica : ℕ) (above : List ℕ) (old new : Caller)
    (from to : S) (dice after : D) (result : Result Report (Report × CallNo))
    → DrivesFromOver Reads Meanwhile left count replica above old from dice result new to after
    → IsDriveOver Reads Meanwhile left count replica above old from dice result new to after
drives_on Reads Meanwhile left count replica above old new from to dice after (Ok report) g = g
drives_on Reads Meanwhile left count replica above old new from to dice after (Err cut) g = inl g
