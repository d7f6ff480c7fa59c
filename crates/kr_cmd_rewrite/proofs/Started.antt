-- The seeds are made, the core starts, and the drive goes on.
use Rattle.std.proofs.Common.{◌≡◌, ℕ, ◌-◌, ◌^◌, ◌<◌, List, [], ◌∷◌, Option, Some, Result, Ok, Err, refl, sym, subst, inl, inr, arith}
use Rattle.std.specs.Prelude.{All, false}
use Rattle.std.proofs.lemmas.List.Elements.{All-push}
use Rattle.kr_base.specs.Limits.{store_limit}
use Rattle.kr_config.specs.Kept.{ConfigEntry}
use Rattle.kr_kms.specs.Cache.{CacheState}
use Rattle.kr_kms.specs.Calls.{Link}
use Rattle.kr_kms.specs.declared.seeds.SeedRow.{SeedRow}
use Rattle.kr_provider.specs.PluginOrder.{plugin_order}
use Rattle.kr_provider.specs.Publication.{Publication}
use Rattle.kr_rollout.specs.Cores.{CoreState}
use Rattle.kr_rollout.specs.Openings.{opening_by}
use Rattle.kr_opening.specs.Starts.{MayStart, IsNoStart}
use Rattle.kr_opening.specs.declared.opening_board.StartNo.{StartNo}
use Rattle.kr_opening.specs.declared.opening_board.StartNo.TheVariants as start
use Rattle.kr_store.specs.Stores.{Kept}
use Rattle.kr_store.specs.declared.rows.Row as stored
use Rattle.kr_cmd_steps.specs.Environment.{Environment}
use Rattle.kr_cmd_steps.specs.RewriteSteps.{nothing_done, driving, rewriting_by, starting}
use Rattle.kr_cmd_steps.specs.ValueSteps.{none_kept}
use Rattle.kr_cmd_steps.specs.Judgements.{start_refusal}
use Rattle.kr_cmd_steps.specs.Plugins.{make_seeds}
use Rattle.kr_cmd_steps.specs.Steps.{Steps, and_then}
use Rattle.kr_cmd_steps.specs.StoreFiles.{Stored}
use Rattle.kr_cmd_messages.specs.declared.refusal.Outcome.{Outcome}
use Rattle.kr_cmd_messages.specs.declared.refusal.Refusal.{Refusal}
use Rattle.kr_cmd_messages.specs.declared.refusal.Refusal.TheVariants.{Stray, OtherSecret, Unfit}
use Rattle.kr_cmd_messages.specs.declared.refusal.Stop.{Stop}
use Rattle.kr_cmd_messages.specs.declared.refusal.Stop.TheVariants.{NoMemory, Refused}
use Rattle.kr_cmd_steps.specs.inner.Phases.{Does}
use Rattle.kr_cmd_steps.specs.inner.Starts.{start_stop}
use Rattle.kr_cmd_rewrite.specs.inner.Rewriting.{HasRoom, IsAlone, opened_store}
use Rattle.kr_cmd_steps.specs.inner.Tapes.{stored_of}
use Rattle.kr_cmd_steps.proofs.RunTo.{goes_on, home_refl, reach}
use Rattle.kr_cmd_steps.proofs.Made.{seeded, unseeded}
use Rattle.kr_cmd_rewrite.proofs.Said.{All_lent}
use Rattle.kr_cmd_steps.proofs.Works.{lacks}

module _ (name : List ℕ) (rows : List ConfigEntry) (store : Stored) (live : List stored.Row) where
  abbrev pub By : Steps Outcome
  By = rewriting_by name rows store live

  abbrev pub from_seeds : List SeedRow → Steps Outcome
  from_seeds seeds = and_then (starting store.rows rows) (λ u.
      driving name (record { rows = rows; seeds = seeds }) live none_kept (nothing_done store))

  pub by_lacks : (a : Environment) → Does By a a (Err NoMemory)
  by_lacks a = lacks (and_then (make_seeds (plugin_order rows)) from_seeds) a

  module _ {others : List ConfigEntry} (same : others ≡ rows) {old mid : Environment} where
    pub by_unpublished : (stop : Stop) → Does (make_seeds (plugin_order others)) old mid (Err stop)
        → Does By old mid (Err stop)
    by_unpublished stop d = unseeded from_seeds same stop d

    pub by_seeds : {new : Environment} {result : Result Outcome Stop} (seeds : List SeedRow)
        → Does (make_seeds (plugin_order others)) old mid (Ok seeds)
        → Does (from_seeds seeds) mid new result → Does By old new result
    by_seeds seeds d e = seeded from_seeds same seeds d e

  module _ (seeds : List SeedRow) (a : Environment) where
    pub start_lacks : Does (from_seeds seeds) a a (Err NoMemory)
    start_lacks =
        record { home = home_refl a; ends = λ left s. inr (reach left (inl (refl, refl)) s) }

    starts_not : (why : Refusal) (cause : StartNo)
        → IsNoStart store.rows (Some rows ∷ []) cause → start_refusal cause ≡ Some why
        → Does (from_seeds seeds) a a (Err (Refused why))
    starts_not why cause none is = record {
      home = home_refl a;
      ends = λ left s. reach left (inr (Err why, (cause, none, is), (refl, refl))) s;
    }

    pub not_started : (cause : StartNo) → IsNoStart store.rows (Some rows ∷ []) cause
        → Does (from_seeds seeds) a a (Err (start_stop cause))
    not_started (start.Stray path) none = starts_not (Stray path) (start.Stray path) none refl
    not_started (start.OtherSecret path) none =
        starts_not (OtherSecret path) (start.OtherSecret path) none refl
    not_started (start.Unfit replica verdict) none =
        starts_not (Unfit replica verdict) (start.Unfit replica verdict) none refl
    not_started start.NoMemory none = start_lacks

    pub started : {new : Environment} {result : Result Outcome Stop}
        → MayStart store.rows (Some rows ∷ [])
        → Does (driving name (record { rows = rows; seeds = seeds }) live none_kept
        (nothing_done store)) a new result
        → Does (from_seeds seeds) a new result
    started may d = goes_on (starting store.rows rows) (λ u.
        driving name (record { rows = rows; seeds = seeds }) live none_kept (nothing_done store)) tt
        (record {
          home = home_refl a;
          ends = λ left s. reach left (inr (Ok tt, may, (refl, refl))) s;
        }) d

-- ---- a core of one replica

-- it begins with this
abbrev pub Alone : Kept → Publication → (names : List (List ℕ)) → (room : ℕ) → CoreState
Alone store p names room = record {
  opening = opening_by store (Some p ∷ []) names (0 ∷ []);
  history = [];
  room = room;
}

pub alone_by : (core : CoreState) (store : Kept) (p : Publication) (names : List (List ℕ)) (room : ℕ)
    → core ≡ Alone store p names room → HasRoom store.rows room → store.limit ≡ store_limit
    → store.torn ≡ false → store.count < 2 ^ 64 - 1 → IsAlone core
alone_by core store p names room is has within whole counts = subst IsAlone (sym is) (record {
  p = p;
  replicas = refl;
  reloads = refl;
  history = refl;
  room = has;
  within = within;
  whole = whole;
  counts = counts;
})

pub all_of_one : {A : Type 0} (P : A → Type 0) (x : A) → P x → All P (x ∷ [])
all_of_one P x is = All-push P [] x (λ k d within. absurd (omega (arith, within))) is

module _ {L D : Type 0} (link : L → Link) (left : D → Option (List ℕ)) (count : D → ℕ)
    (name : List ℕ) (a : Environment) where
  abbrev pub Out : List L → D → Kept → Environment
  Out links dice store =
      All_lent link links (left dice) (count dice) name store.told store.count a

  -- what was made of them is back
  pub back_by : {next : Steps Outcome} {old : Environment} {result : Result Outcome Stop}
      (links mids : List L) (dice mid : D) (store kept : Kept) → links ≡ mids → dice ≡ mid
      → store ≡ kept → Does next old (Out mids mid kept) result
      → Does next old (Out links dice store) result
  back_by {next} {old} {result} links mids dice mid store kept links_are dice_is store_is d =
      subst (λ l. Does next old (Out l dice store) result) (sym links_are)
      (subst (λ x. Does next old (Out mids x store) result) (sym dice_is)
      (subst (λ (k : Kept). Does next old (Out mids mid k) result) (sym store_is) d))

  pub driven_on : (rows : List ConfigEntry) (live : List stored.Row) (store : Kept) (p : Publication)
      (core : CoreState) (benched mids : List L) (held mid : D) (kept : CacheState)
      (names : List (List ℕ)) (room : ℕ)
      {new : Environment} {made : Result Outcome Stop} → core ≡ Alone store p names room
      → benched ≡ mids → held ≡ mid → kept ≡ none_kept → p.rows ≡ rows
      → Does (driving name p live kept (nothing_done (opened_store core)))
      (All_lent link benched (left held) (count held) name store.told core.opening.count a) new made
      → Does (driving name (record { rows = rows; seeds = p.seeds }) live none_kept
      (nothing_done (stored_of store))) (Out mids mid store) new made
  driven_on rows live store p core benched mids held mid kept names room {new} {made} core_is
      links_are dice_is cold rows_are d =
      subst (λ r. Does (driving name (record { rows = r; seeds = p.seeds }) live none_kept
      (nothing_done (stored_of store))) (Out mids mid store) new made) rows_are
      (subst (λ k. Does (driving name p live k (nothing_done (stored_of store)))
      (Out mids mid store) new made) cold
      (subst (λ x. Does (driving name p live kept (nothing_done (stored_of store)))
      (Out mids x store) new made) dice_is
      (subst (λ l. Does (driving name p live kept (nothing_done (stored_of store)))
      (Out l held store) new made) links_are
      (subst (λ (k : CoreState). Does (driving name p live kept (nothing_done (opened_store k)))
      (All_lent link benched (left held) (count held) name store.told k.opening.count a) new made)
      core_is d))))
