-- What the links of a fleet and of a watch were asked up to its workers.
use Rattle.std.proofs.Common.{◌≡◌, ℕ, List, All, Bool, true, false, Option, Some, Ok, Err, Contains, refl, sym, ◌∙◌, ap, subst, inl, inr}
use Rattle.std.proofs.lemmas.List.Elements.{All-nil}
use Rattle.kr_base.specs.Told.{Agrees}
use Rattle.kr_kms.specs.Calls.{Link}
use Rattle.kr_kms.specs.Exchanges.{Exchange, AgreeAll}
use Rattle.kr_store.specs.Stores.{IsListing}
use Rattle.kr_store.specs.declared.rows.Row.{Row}
use Rattle.kr_cmd_messages.specs.declared.fleet_words.FleetWords.{FleetWords}
use Rattle.kr_cmd_messages.specs.declared.refusal.Stop.{Stop}
use Rattle.kr_cmd_messages.specs.declared.refusal.Stop.TheVariants.{Fault, NoMemory, Refused, Words}
use Rattle.kr_cmd_steps.specs.Environment.{Environment, Ends, StepsEndAt, step_state}
use Rattle.kr_cmd_steps.specs.Steps.{Point, amid, awaits, gives, hearing, or_empty, refuses}
use Rattle.kr_cmd_steps.specs.StoreFiles.{IsStored, Stored}
use Rattle.kr_cmd_fleet.specs.Fleets.{Begun, steps_of_fleet}
use Rattle.kr_cmd_laws.specs.FleetPlugins.{AllHeard, IsLiveValue, IsWatchedValue, Listens, StartsAskSeeds, StartsMakeSeeds, StoppedStartsAsk, WatchesAsk}
use Rattle.kr_cmd_laws.specs.PluginLaws.{IsQuestion}
use Rattle.kr_cmd_laws.proofs.OnlyAsks.{only_asked}
use Rattle.kr_cmd_laws.proofs.StartQuestions.{fleet_only}

module _ (watched : Bool) (words : FleetWords) (old : Environment) (listens : Listens old) where
  abbrev Asks : Exchange → Type 0
  Asks = IsQuestion (IsWatchedValue watched words.store old)

  live_held : (bytes : List ℕ) (stored : Stored)
      → Agrees (or_empty (old.world.tapes.told words.store)) (Some bytes)
      → IsStored bytes (Ok stored) → watched ≡ true → (listing : List Row)
      → IsListing stored.rows listing → (row : Row) → Contains listing row
      → IsWatchedValue watched words.store old row.stored
  live_held bytes stored agrees read seen listing are row among =
      let is : IsLiveValue words.store old row.stored = record {
        bytes = bytes;
        stored = stored;
        live = listing;
        row = row;
        held = agrees;
        read = read;
        listing = are;
        among = among;
        is = refl;
      } in
      subst (λ w. IsWatchedValue w words.store old row.stored) (sym seen) is

  module _ {mid : Environment} (point : Point Begun)
      (r : StepsEndAt (steps_of_fleet watched words) (step_state old) mid point) where
    -- what was heard where they came to
    heard_there : AllHeard Asks mid.heard
    heard_there = subst (AllHeard Asks) (sym r.stays.heard)
        (only_asked Asks point r.end (steps_of_fleet watched words) (step_state old)
        (fleet_only (IsWatchedValue watched words.store old) watched words (step_state old) live_held)
        (subst (AllHeard Asks) (sym listens) (All-nil Asks)) r.goes)

    -- it is these exchanges
    asked_there : (exchanges : List Exchange) → mid.heard ≡ hearing exchanges old.heard
        → All Asks exchanges
    asked_there exchanges heard =
        let told : mid.heard ≡ Some exchanges = heard ∙ ap (hearing exchanges) listens in
        subst (AllHeard Asks) told heard_there

  -- they ended the call
  asked_ending : (new : Environment) (stop : Stop) (exchanges : List Exchange)
      → new.heard ≡ hearing exchanges old.heard
      → Ends (steps_of_fleet watched words) (step_state old) old new (Err stop) → All Asks exchanges
  asked_ending new (Words why) exchanges heard e = absurd e
  asked_ending new (Refused why) exchanges heard e = asked_there (refuses why) e exchanges heard
  asked_ending new (Fault object n) exchanges heard (call, e, fault) =
      asked_there (awaits call) e exchanges heard
  asked_ending new NoMemory exchanges heard (inl (call, may, e)) =
      asked_there (awaits call) e exchanges heard
  asked_ending new NoMemory exchanges heard (inr e) = asked_there amid e exchanges heard

pub watches_ask : WatchesAsk
watches_ask words old mid point exchanges listens r heard =
    asked_there true words old listens point r exchanges heard

module _ (T : Type 0) {L D : Type 0} (link : L → Link)
    (step : L → Exchange → L → Type 0) (lent took : ℕ → L → Type 0)
    (left : D → Option (List ℕ)) (count : D → ℕ) where
  pub starts_ask_seeds : StartsAskSeeds T link step lent took left count
  starts_ask_seeds words old new output result listens s =
      asked_there false words old listens (gives s.begun) s.reaches s.exchanges s.heard

  pub starts_make_seeds : StartsMakeSeeds T link step lent took left count
  starts_make_seeds words old new output result s opens agrees =
      s.runs.made.opens opens (subst (AgreeAll opens) (sym s.made) agrees)

module _ (T : Type 0) {L D : Type 0} (link : L → Link) (step : L → Exchange → L → Type 0)
    (left : D → Option (List ℕ)) (count : D → ℕ) where
  pub stopped_starts_ask : StoppedStartsAsk T link step left count
  stopped_starts_ask watched words old new output (Ok ending) exchanges listens heard stops =
      absurd stops
  stopped_starts_ask watched words old new output (Err stop) exchanges listens heard
      (inl ends, idle) = asked_ending watched words old listens new stop exchanges heard ends
  stopped_starts_ask watched words old new output (Err stop) exchanges listens heard
      (inr (inl (none, (mid, begun, r, starts, home))), idle) =
      asked_there watched words old listens (gives begun) r exchanges
      (sym starts.rest.heard ∙ heard)
  stopped_starts_ask watched words old new output (Err stop) exchanges listens heard
      (inr (inr (mid, begun, r, fails, home)), idle) =
      asked_there watched words old listens (gives begun) r exchanges
      (sym (fails.rest.heard ∙ fails.runs.rest.heard) ∙ heard)
