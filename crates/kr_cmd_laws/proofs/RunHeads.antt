-- The headline of a call, from the relation of a fleet.
use Rattle.kr_base.specs.Walks.{Walk}
use Rattle.kr_provider.specs.AskedLinks.{Among}
use Rattle.std.proofs.Common.{◌∷◌, ◌≡◌, ℕ, ◌<◌, ◌≤◌, List, [], length, get_or, Option, Result, Ok, Err, inl, inr, ap, refl, sym, subst, ◌∙◌, arith}
use Rattle.std.specs.Prelude.{◌⊎◌, All, IfSome, map}
use Rattle.std.proofs.lemmas.Bool.{cases_lt}
use Rattle.std.proofs.lemmas.Option.{slice_get-get_or}
use Rattle.kr_kms.specs.Calls.{Link}
use Rattle.kr_kms.specs.Cache.{AreOpenBy}
use Rattle.kr_kms.specs.Exchanges.{AgreeAll, Exchange}
use Rattle.kr_kms.specs.Opens.{Opens}
use Rattle.kr_history.specs.Honesty.{SeedsOpen}
use Rattle.kr_rollout.specs.Histories.{state_of}
use Rattle.kr_rollout.specs.Openings.{start_of}
use Rattle.kr_rollout.specs.declared.opening.Entry.{Entry}
use Rattle.kr_store.specs.Rows.{live}
use Rattle.kr_workers.specs.Endings.{gravest_ending, status_of as status_of_replies}
use Rattle.kr_workers.specs.declared.ending.Ending.{Ending}
use Rattle.kr_workers.specs.Heard.{Heard}
use Rattle.kr_workers.specs.declared.worker.Worker as fleet_worker
use Rattle.kr_headline.specs.Consequences.{LinksAgree}
use Rattle.kr_headline.specs.Fleets.{AreKnown, FleetHeadline}
use Rattle.kr_headline.specs.Ties.{IsTied}
use Rattle.kr_headline.specs.Values.{sealed_values}
use Rattle.kr_headline.proofs.Agreeing.{all_agree}
use Rattle.kr_headline.proofs.Answering.{start_alike}
use Rattle.kr_headline.proofs.Contents.{object_of}
use Rattle.kr_headline.proofs.Headlines.{fleet_headline}
use Rattle.kr_headline.proofs.Seats.{first_in}
use Rattle.kr_headline.proofs.Standing.{faults_are, latest_is, stands_alike}
use Rattle.kr_cmd_messages.specs.Receipts.{Receipt}
use Rattle.kr_cmd_messages.specs.declared.fleet_words.FleetWords.{FleetWords}
use Rattle.kr_cmd_messages.specs.declared.refusal.Object.{Object}
use Rattle.kr_cmd_messages.specs.declared.refusal.Object.TheVariants.{Output}
use Rattle.kr_cmd_messages.specs.declared.refusal.Stop.{Stop}
use Rattle.kr_cmd_messages.specs.declared.refusal.Stop.TheVariants.{Words, Refused, Fault, NoMemory}
use Rattle.kr_cmd_steps.specs.Environment.{Environment}
use Rattle.kr_cmd_steps.specs.Steps.{hearing}
use Rattle.kr_cmd_steps.specs.declared.programs.Program.{Program}
use Rattle.kr_cmd_fleet.specs.Fleets.{Begun, RunsFleet, Starts, StopsBefore, TellsFleet, WritesFleet, fleet_steps, opening_of, settled_behind, text_of}
use Rattle.kr_cmd_laws.specs.HeadlineLaws.{RunsHaveHeadlines}
use Rattle.kr_cmd_laws.proofs.Starts.{starts_make_seeds}
use Rattle.kr_cmd_laws.specs.RunHeadlines.{LeavesStore, Prints, StartsNobody, StartsWorkers, TellsStop, WorkersHeadline, WorkersPage}

-- ---- links whose steps agree

-- what some of these links answered agrees
walk_agrees : {L : Type 0} {step : L → Exchange → L → Type 0} (opens : Opens)
    (es : List Exchange) (old new : List L) → LinksAgree step opens
    → Walk (Among step) old es new → AgreeAll opens es
walk_agrees opens [] old new agree walk = tt
walk_agrees opens (e ∷ es) old new agree walk = (
  agree walk.1.old e walk.1.new walk.1.steps,
  walk_agrees opens es walk.0 new agree walk.2,
)

-- ---- the workers

module _ {T L D : Type 0} (link : L → Link) (step : L → Exchange → L → Type 0)
    (left : D → Option (List ℕ))
    (count : D → ℕ) (store : List ℕ) (begun : Begun) (mid new : Environment) (history : List Entry)
    (ended : List (fleet_worker.Worker T L D))
    (r : RunsFleet link step left count store begun mid new history ended) where
  left_so : LeavesStore store begun mid new history
  left_so = let o = opening_of store begun mid in record {
    rows = (state_of o history).rows;
    rows_are = refl;
    file = r.stored;
    live_are = λ path. sym (stands_alike o history r.one.legal path
        (object_of (live o.rows path)) (start_alike (live o.rows path)));
    latest = sym (latest_is o history r.one.legal);
    failed = r.counted ∙ sym (faults_are (start_of o) history);
  }

  both : (h : FleetHeadline sealed_values link step count r.workers ended r.files
      (opening_of store begun mid) r.parts history)
      × IsTied link step left count r.files (opening_of store begun mid) r.parts begun.budgets
      history r.workers ended h
  both = fleet_headline T link step left count r.files history
      (opening_of store begun mid) r.parts begun.budgets r.workers ended r.one

  abbrev headline : FleetHeadline sealed_values link step count r.workers ended r.files
      (opening_of store begun mid) r.parts history
  headline = both.0

  -- no bench had kept a seed
  none_kept : (worker : ℕ) → (headline.heard worker).kept ≡ []
  none_kept worker = by (cases_lt worker (length r.parts))
    where
      by : (worker < length r.parts) ⊎ (length r.parts ≤ worker)
          → (headline.heard worker).kept ≡ []
      by (inl within) =
          let in_old : worker < length r.workers = omega (arith, within, headline.whole) in
          let in_new : worker < length ended = omega (arith, within, headline.many) in
          let before = first_in r.workers worker in_old in
          let after = first_in ended worker in_new in
          (headline.was_heard worker (get_or r.workers worker before) (get_or ended worker after)
          (slice_get-get_or r.workers worker before in_old)
          (slice_get-get_or ended worker after in_new)).kept ∙ r.cold worker before in_old
      by (inr past) = ap (λ (it : Heard). it.kept) (headline.no_more worker past)

  none_open : (opens : Opens) (worker : ℕ) → AreOpenBy opens (headline.heard worker).kept
  none_open opens worker = subst (AreOpenBy opens) (sym (none_kept worker))
      (λ key seed there. absurd (omega (arith, there.1)))

  known : (opens : Opens) → (begun.plan.programs ≡ [])
      ⊎ (((worker : ℕ) → AgreeAll opens (headline.heard worker).exchanges)
      × All (λ replica. IfSome replica (SeedsOpen opens)) begun.replicas)
      → AreKnown headline.heard opens (opening_of store begun mid)
  known opens (inl none) =
      inl (ap (λ ps. map (λ (program : Program). program.plugin) ps) none)
  known opens (inr (agree, seeds)) = inr (
    λ worker. record { kept = none_open opens worker; answers = agree worker },
    seeds,
  )

  linked_known : (opens : Opens) → LinksAgree step opens
      → AreKnown headline.heard opens (opening_of store begun mid)
  linked_known opens agree = inr (
    all_agree link step count r.workers ended r.files (opening_of store begun mid) r.parts history
        headline opens agree (none_open opens),
    r.made.opens opens (walk_agrees opens r.made.exchanges r.made.asks.old r.made.asks.new agree
        r.made.asks.walk),
  )

  abbrev page : WorkersPage sealed_values link step left count store begun mid new history
      ended
  page = record {
    parts = r.parts;
    parts_are = r.parts_are;
    files = r.files;
    files_are = r.files_are;
    workers = r.workers;
    cold = r.cold;
    before = r.before;
    after = r.after;
    headline = headline;
    known = known;
    linked = linked_known;
    stored = left_so;
    rest = r.rest;
  }

  pub workers_headline : WorkersHeadline link step left count store begun mid new history
      ended
  workers_headline = record { page = page; tied = both.1 }

-- ---- how the call ended

pub tells_output : (object : Object) (n : ℕ) (errors : Receipt) (status many : ℕ)
    → object ≡ Output → n ≡ many → TellsStop (Fault object n) errors status
    → TellsStop (Fault Output many) errors status
tells_output object n errors status many is same tells =
    subst (λ m. TellsStop (Fault Output m) errors status) same
    (subst (λ o. TellsStop (Fault o n) errors status) is tells)

prints : (text : List ℕ) (ending : Ending) (output errors : Receipt) (status : ℕ)
    (result : Result Ending Stop) → WritesFleet text ending output result
    → TellsFleet result errors status → Prints text ending output errors status
prints text ending output errors status (Ok told) w t =
    inl (w.1, t.1, t.0 ∙ ap status_of_replies w.0)
prints text ending output errors status (Err (Fault object n)) w t = inr (inl (
  w.0,
  w.2,
  tells_output object n errors status output.new_faults w.1 w.3 t,
))
prints text ending output errors status (Err NoMemory) w t = inr (inr (w, t))
prints text ending output errors status (Err other) w t = absurd w

module _ (T : Type 0) {L D : Type 0} (link : L → Link)
    (step : L → Exchange → L → Type 0) (lent took : ℕ → L → Type 0)
    (left : D → Option (List ℕ)) (count : D → ℕ) (words : FleetWords) (old new : Environment)
    (output errors : Receipt) (status : ℕ) where
  started : (exchanges : List Exchange) → new.heard ≡ hearing exchanges old.heard
      → (result : Result Ending Stop)
      → (s : Starts T link step lent took left count words old new output result)
      → s.exchanges ≡ exchanges → TellsFleet result errors status
      → StartsWorkers T link step lent took left count words old new output errors status
  unfolding workers_headline
  started exchanges heard result s same tells = record {
    begun = s.begun;
    mid = s.mid;
    reaches = s.reaches;
    since = s.since;
    history = s.history;
    ended = s.ended;
    has = workers_headline link step left count words.store s.begun
        (settled_behind words.store s.mid) new s.history s.ended s.runs;
    exchanges = s.exchanges;
    heard = s.heard;
    no_more = heard ∙ ap (λ es. hearing es old.heard) (sym same);
    began = s.began;
    agreed = λ opens agree all. known link step left count words.store s.begun
        (settled_behind words.store s.mid) new s.history s.ended s.runs opens (inr (
          all,
          starts_make_seeds T link step lent took left count words old new output result
              s opens agree,
        ));
    prints = prints (text_of s.begun.plan.fleet s.history s.ended)
        (gravest_ending (map (λ (w : fleet_worker.Worker T L D). w.told) s.ended)) output errors
        status
        result s.writes tells;
  }

  either : (exchanges : List Exchange) → new.heard ≡ hearing exchanges old.heard
      → (result : Result Ending Stop)
      → StopsBefore T link step left count (fleet_steps words) words.store old new output
      result
      ⊎ ((s : Starts T link step lent took left count words old new output result)
      × (s.exchanges ≡ exchanges))
      → TellsFleet result errors status
      → StartsNobody T link step left count (fleet_steps words) words.store old new output
      errors status
      ⊎ StartsWorkers T link step lent took left count words old new output errors status
  either exchanges heard (Ok ending) (inl stops) tells = absurd stops
  either exchanges heard (Err stop) (inl stops) tells =
      inl (record { stop = stop; stops = stops; tells = tells })
  either exchanges heard result (inr (s, same)) tells =
      inr (started exchanges heard result s same tells)

pub runs_have_headlines : (T : Type 0) → {L D : Type 0} → (link : L → Link)
    (step : L → Exchange → L → Type 0) (lent took : ℕ → L → Type 0)
    (left : D → Option (List ℕ)) (count : D → ℕ)
    → RunsHaveHeadlines T link step lent took left count
runs_have_headlines T link step lent took left count words old new output errors status ran = (
  ran.did.home,
  either T link step lent took left count words old new output errors status
      ran.did.exchanges ran.did.heard ran.result ran.did.did ran.tells,
)
