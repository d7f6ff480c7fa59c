-- How a fleet goes on from its plan, and how a call ends that a fleet was asked of.
use Rattle.std.proofs.Common.{◌≡◌, ℕ, ◌+◌, ◌<◌, ◌≤◌, List, [], ◌∷◌, map, codes, Option, Some, Result, Ok, Err, refl, sym, ◌∙◌, ap, subst, inl, inr, arith}
use Rattle.std.specs.Prelude.{Bool, false, sum, count_by}
use Rattle.std.proofs.lemmas.List.Sums.{sum_by-cons}
use Rattle.kr_kms.specs.Calls.{Link}
use Rattle.kr_kms.specs.Exchanges.{Exchange}
use Rattle.kr_rollout.specs.declared.opening.Entry.{Entry}
use Rattle.kr_script.specs.Fleets.{worker_of}
use Rattle.kr_script.specs.Output.{fleet_output}
use Rattle.kr_script.specs.declared.script.Part.{Part}
use Rattle.kr_store.specs.Stores.{IsLiveCount}
use Rattle.kr_store.specs.declared.rows.LogRow.{LogRow}
use Rattle.kr_words.specs.declared.command.Verb.TheVariants as verbs
use Rattle.kr_words.proofs.Meanings.{mean_one}
use Rattle.kr_words.specs.Options.{value_of}
use Rattle.kr_base.specs.Limits.{journal_limit}
use Rattle.kr_workers.specs.Budgets.{AreBudgets, all_reloads, budget_of, script_budgets, is_put, put_lines}
use Rattle.kr_workers.specs.Endings.{gravest_ending}
use Rattle.kr_workers.specs.declared.budget.BudgetNo.{BudgetNo}
use Rattle.kr_workers.specs.declared.budget.BudgetNo.TheVariants as budget
use Rattle.kr_workers.specs.declared.ending.Ending.{Ending}
use Rattle.kr_workers.specs.declared.worker.Worker as fleet_worker
use Rattle.kr_workers.proofs.Summing.{parts_fit}
use Rattle.kr_cmd_steps.specs.Environment.{Environment, IsHome, step_state}
use Rattle.kr_cmd_messages.specs.FleetAsked.{AsksFleet}
use Rattle.kr_cmd_fleet.specs.FleetFiles.{FleetPlan}
use Rattle.kr_cmd_fleet.specs.Fleets.{Begun, DidFleet, RunsFleet, WritesFleet, budgeting, parts_of}
use Rattle.kr_cmd_messages.specs.Receipts.{Receipt}
use Rattle.kr_cmd_steps.specs.Steps.{Steps, and_then, hearing}
use Rattle.kr_cmd_fleet.specs.declared.fleet.Record.{Record}
use Rattle.kr_cmd_messages.specs.declared.fleet_words.FleetWords.{FleetWords}
use Rattle.kr_cmd_messages.specs.declared.refusal.Limit.TheVariants as limit
use Rattle.kr_cmd_messages.specs.declared.refusal.Refusal.TheVariants.{Limit}
use Rattle.kr_cmd_messages.specs.declared.refusal.Stop.{Stop}
use Rattle.kr_cmd_messages.specs.declared.refusal.Stop.TheVariants.{NoMemory}
use Rattle.kr_cmd_fleet.specs.inner.FleetOutcomes.{Beginning, LeavesRecord, RunsBy, budget_stop, settled_if}
use Rattle.kr_cmd_fleet.specs.inner.Readings.{KnowsItems}
use Rattle.kr_cmd_steps.specs.inner.Lent.{with_lent_tape}
use Rattle.kr_cmd_steps.specs.inner.Phases.{Does}
use Rattle.kr_cmd_fleet.specs.StartExchanges.{WereAsked}
use Rattle.kr_cmd_fleet.proofs.CallEnds.{IsPlanned, Leaves, Stopped, by_plan, from_plan, leaves_so}
use Rattle.kr_cmd_steps.proofs.RunTo.{goes_on, home_refl, home_trans, reach, stays_refl, stops}

-- the call stopped
pub fleet_stopped : {T L D : Type 0} {link : L → Link} {step : L → Exchange → L → Type 0}
    {lent took : ℕ → L → Type 0} {left : D → Option (List ℕ)} {count : D → ℕ}
    {words : FleetWords} {old new : Environment} {output : Receipt} {stop : Stop}
    → Stopped T link step lent took left count words false old new output stop
    → DidFleet T link step lent took left count words old new output (Err stop)
fleet_stopped s = record {
  home = s.home;
  exchanges = s.exchanges;
  heard = s.heard;
  asked = s.asked;
  did = inl s.before;
  came = s.came;
}

module _ {T L D : Type 0} {link : L → Link} {step : L → Exchange → L → Type 0}
    {lent took : ℕ → L → Type 0} {left : D → Option (List ℕ)} {count : D → ℕ}
    {words : FleetWords} {plan : FleetPlan} {old now new : Environment} {file store : List ℕ}
    {exchanges : List Exchange} (made : IsPlanned words plan old now file store)
    (heard : new.heard ≡ hearing exchanges old.heard)
    (asked : WereAsked link lent took step exchanges old.world new.world) where
  -- the workers ran
  pub fleet_ran : (ran : Record) {output : Receipt} {result : Result Ending Stop}
      → Leaves T link step lent took left count false made new exchanges asked store ran
      → WritesFleet (fleet_output plan.fleet ran.lines.0 ran.replies.0)
      (gravest_ending ran.replies.0) output result
      → DidFleet T link step lent took left count words old new output result
  fleet_ran ran {output} {result} left_so w =
      let l = leaves_so T link step lent took left count false made new exchanges asked ran
      left_so in
      let all = from_plan T link step lent took left count false made new exchanges asked l.does
      in
      let journal = map (λ (e : Entry). e.line) l.history in
      let told = map (λ (worker : fleet_worker.Worker T L D). worker.told) l.ended in
      let by_lines = subst (λ lines. WritesFleet (fleet_output plan.fleet lines ran.replies.0)
      (gravest_ending ran.replies.0) output result) l.lines w in
      let by_replies = subst (λ replies. WritesFleet (fleet_output plan.fleet journal replies)
      (gravest_ending replies) output result) l.replies by_lines in
      record {
        home = home_trans
            (by_plan T link step lent took left count false made new exchanges asked).home
            l.home;
        exchanges = exchanges;
        heard = heard;
        asked = asked;
        did = inr (
          record {
            begun = l.begun;
            mid = l.mid;
            reaches = all.ends (step_state old) (stays_refl old);
            since = all.home;
            exchanges = exchanges;
            heard = l.begins.0;
            began = l.begins.2;
            made = l.begins.1;
            history = l.history;
            ended = l.ended;
            runs = l.runs;
            writes = subst (λ p. WritesFleet (fleet_output p.fleet journal told)
                (gravest_ending told) output result) (sym l.plan_is) by_replies;
          },
          refl,
        );
        came = (l.begins.3, l.begins.4);
      }

-- ---- phases up to the workers

-- the workers ran so, and left this record, by other steps
abbrev pub leaves_by : {T L D : Type 0} {link : L → Link} {step : L → Exchange → L → Type 0}
    {left : D → Option (List ℕ)} {count : D → ℕ} {Begins Others : Beginning T L D}
    {settled behind watched : Bool} {steps others : Steps Begun} {store : List ℕ}
    {plan : FleetPlan} {old new from to : Environment} {made : Record}
    (l : LeavesRecord T link step left count Begins settled watched steps store plan old new made)
    → Does others from l.mid (Ok l.begun)
    → (runs : RunsFleet link step left count store l.begun (settled_if behind store l.mid) to
    l.history l.ended)
    → Others l.mid.heard runs.made.exchanges runs.workers l.ended
    → KnowsItems watched runs.made.exchanges l.begun.stored.rows l.begun.replicas l.begun.items
    → IsHome from to
    → LeavesRecord T link step left count Others behind watched others store plan from to made
leaves_by l does runs begins known home = record {
  begun = l.begun;
  plan_is = l.plan_is;
  mid = l.mid;
  does = does;
  history = l.history;
  ended = l.ended;
  runs = runs;
  begins = begins;
  lines = l.lines;
  replies = l.replies;
  items_are = l.items_are;
  revision_is = l.revision_is;
  known = known;
  home = home;
}

module _ (T : Type 0) {L D : Type 0} (link : L → Link)
    (step : L → Exchange → L → Type 0)
    (left : D → Option (List ℕ)) (count : D → ℕ) (Begins : Beginning T L D) (watched : Bool)
    (store : List ℕ) (plan : FleetPlan) where
  abbrev pub Runs : Steps Begun → (old new : Environment) → Result Record Stop → Type 0
  Runs steps old new result =
      RunsBy T link step left count Begins watched steps store plan old new result

  module _ {A : Type 0} (first : Steps A) (others : A → Steps Begun) where
    -- the first steps gave something, and the fleet ran by the others
    unfoldable pub before : (x : A) (new : Environment) {old mid : Environment} → Does first old mid (Ok x)
        → (result : Result Record Stop) → Runs (others x) mid new result
        → Runs (and_then first others) old new result
    before x new d (Ok made) l = leaves_by l (goes_on first others x d l.does) l.runs l.begins
        l.known (home_trans d.home l.home)
    before x new d (Err stop) (inl e) = inl (goes_on first others x d e)
    before x new d (Err stop) (inr l) = inr (record {
      stops = l.stops;
      begun = l.begun;
      mid = l.mid;
      does = goes_on first others x d l.does;
      none = l.none;
      home = home_trans d.home l.home;
    })

    pub ends_before : {old new : Environment} (stop : Stop) → Does first old new (Err stop)
        → Runs (and_then first others) old new (Err stop)
    ends_before stop d = inl (stops first others stop d)

  module _ (steps : Steps Begun) (a : Environment) where
    -- the store's tape, closed, tells what the store told
    pub runs_closed : (old : Environment) {told back : Option (List ℕ)} {n last : ℕ}
        (result : Result Record Stop) → back ≡ told → last ≡ n
        → Runs steps old (with_lent_tape store told n a) result
        → Runs steps old (with_lent_tape store back last a) result
    runs_closed old {told} {last = last} result t e r =
        subst (λ b. Runs steps old (with_lent_tape store b last a) result) (sym t)
        (subst (λ m. Runs steps old (with_lent_tape store told m a) result) (sym e) r)

-- of the workers something else holds
pub runs_so : (T : Type 0) {L D : Type 0} (link : L → Link)
    (step : L → Exchange → L → Type 0)
    (left : D → Option (List ℕ)) (count : D → ℕ) (Begins Others : Beginning T L D)
    (so : (heard : Option (List Exchange)) (asked : List Exchange)
    (workers ended : List (fleet_worker.Worker T L D)) → Begins heard asked workers ended
    → Others heard asked workers ended) (watched : Bool)
    (steps : Steps Begun) (store : List ℕ) (plan : FleetPlan) (old new : Environment)
    (result : Result Record Stop)
    → RunsBy T link step left count Begins watched steps store plan old new result
    → RunsBy T link step left count Others watched steps store plan old new result
runs_so T link step left count Begins Others so watched steps store plan old new (Ok made) l =
    leaves_by l l.does l.runs
    (so l.mid.heard l.runs.made.exchanges l.runs.workers l.ended l.begins) l.known l.home
runs_so T link step left count Begins Others so watched steps store plan old new (Err stop) r
    =
    r

-- ---- budgets

-- the parts, made again of the workers of a fleet
abbrev pub parts_again : List Part → List Part
parts_again parts = parts_of (record { replicas = []; workers = map worker_of parts })

same_budgets : (paths : ℕ) (parts : List Part)
    → script_budgets paths (parts_again parts) ≡ script_budgets paths parts
same_budgets paths [] = refl
same_budgets paths (part ∷ parts) =
    ap (λ rest. budget_of paths part.lines.0 ∷ rest) (same_budgets paths parts)

-- how many lines of each part put an object
abbrev puts_in : List Part → List ℕ
puts_in parts = map (λ (part : Part). count_by is_put part.lines.0) parts

same_puts : (parts : List Part) → put_lines (parts_again parts) ≡ put_lines parts
same_puts [] = refl
same_puts (part ∷ parts) =
    sum_by-cons (λ x. x) (count_by is_put part.lines.0) (puts_in (parts_again parts))
    ∙ ap (λ rest. count_by is_put part.lines.0 + rest) (same_puts parts)
    ∙ sym (sum_by-cons (λ x. x) (count_by is_put part.lines.0) (puts_in parts))

module _ (rows : List LogRow) (parts : List Part) (live : ℕ) (is : IsLiveCount rows live) where
  abbrev pub Needed : List ℕ
  Needed = script_budgets (live + put_lines parts) parts

  pub are_budgets : (budgets : List ℕ) → budgets ≡ Needed → AreBudgets rows parts budgets
  are_budgets budgets e = (live, is, e)

  are_again : (budgets : List ℕ) → budgets ≡ Needed → AreBudgets rows (parts_again parts) budgets
  are_again budgets e = (
    live,
    is,
    e ∙ sym (same_budgets (live + put_lines parts) parts)
        ∙ ap (λ n. script_budgets (live + n) (parts_again parts)) (sym (same_puts parts)),
  )

  pub budgeted : (budgets : List ℕ) → budgets ≡ Needed → sum budgets ≤ journal_limit
      → (a : Environment) → Does (budgeting rows (parts_again parts)) a a (Ok budgets)
  budgeted budgets e few a = record {
    home = home_refl a;
    ends = λ l s. reach l (inr (Ok budgets, (are_again budgets e, few), (refl, refl))) s;
  }

  pub not_budgeted : (why : BudgetNo) → (why ≡ budget.TooMany → journal_limit < sum Needed)
      → (a : Environment) → Does (budgeting rows (parts_again parts)) a a (Err (budget_stop why))
  not_budgeted budget.TooMany many a = record {
    home = home_refl a;
    ends = λ l s. reach l
        (inr (
          Err (Limit limit.Journal),
          (refl, (Needed, are_again Needed refl, many refl)),
          (refl, refl),
        ))
        s;
  }
  not_budgeted budget.NoMemory many a =
      record { home = home_refl a; ends = λ l s. inr (reach l (inl (refl, refl)) s) }

pub budgets_fit : (paths : ℕ) (parts : List Part) (entries reloads : List ℕ)
    → entries ≡ script_budgets paths parts → reloads ≡ all_reloads parts
    → sum reloads ≤ sum entries
budgets_fit paths parts entries reloads e r =
    let fits = parts_fit paths parts in
    let same : sum entries ≡ sum (script_budgets paths parts) = ap sum e in
    let all : sum reloads ≡ sum (all_reloads parts) = ap sum r in
    omega (arith, fits, same, all)

-- ---- what the words ask for

abbrev pub fleet_words : (file store : List ℕ) → List (List ℕ × List ℕ) → FleetWords
fleet_words file store options = record { file = file; store = store; options = options }

inside : {A : Type 0} {x y : A} → Some x ≡ Some y → x ≡ y
inside e = cc

pub one_fleet : (words : List (List ℕ)) (a b : FleetWords) → AsksFleet words a
    → AsksFleet words b → a ≡ b
one_fleet words a b p q =
    let same = (mean_one words verbs.Fleet verbs.Fleet a.options b.options p.means q.means).1 in
    let file = sym p.file ∙ ap (λ o. value_of o (codes "file")) same ∙ q.file in
    let store = sym p.store ∙ ap (λ o. value_of o (codes "store")) same ∙ q.store in
    ap (λ f. fleet_words f a.store a.options) (inside file)
    ∙ ap (λ s. fleet_words b.file s a.options) (inside store)
    ∙ ap (fleet_words b.file b.store) same
