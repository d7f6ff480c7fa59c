-- What is asked to publish, or for a key id, fails once at most, and what failed is told.
use Rattle.std.proofs.Common.{◌≡◌, inl, inr, ℕ, Bool, true, false, List, [], ◌∷◌, ◌++◌, Option, Result, Ok, Err, refl, sym, ◌∙◌, ap, subst, append_assoc}
use Rattle.std.specs.Prelude.{◌⊎◌}
use Rattle.std.proofs.lemmas.List.Elements.{All-append, All-cons, All-nil}
use Rattle.kr_base.specs.Faults.{counted, tells_fault}
use Rattle.kr_config.specs.Kept.{ConfigEntry, plugins_in}
use Rattle.kr_kms.specs.Exchanges.{Exchange, StatusCall, WrapCall, is_fault}
use Rattle.kr_kms.specs.Health.{IsStatusJudged, TellsKeyIdBy, judged, no_status as tells_none, seed_no}
use Rattle.kr_kms.specs.Seeds.{Draws, MakesSeedBy, dice_failed, made, no_memory, no_status, not_wrapped, unhealthy}
use Rattle.kr_kms.specs.declared.health.SeedNo.{SeedNo}
use Rattle.kr_kms.specs.declared.health.SeedNo.TheVariants as seed
use Rattle.kr_kms.specs.declared.plugin.KmsNo.{KmsNo}
use Rattle.kr_kms.specs.declared.plugin.KmsNo.TheVariants as kms
use Rattle.kr_kms.specs.declared.plugin.Status.{Status}
use Rattle.kr_kms.specs.declared.seeds.SeedRow.{SeedRow}
use Rattle.kr_provider.specs.Exchanges.{MakesSeedsBy, PublishesBy, TellsKeyIdAt, all_made, no_name, no_room, plugin_refusal, refused, went_on, with_seed_first}
use Rattle.kr_provider.specs.Publication.{Publication}
use Rattle.kr_provider.specs.declared.refusal.PublishNo.{PublishNo}
use Rattle.kr_provider.specs.declared.refusal.PublishNo.TheVariants as publishing
use Rattle.kr_workers.specs.ToldFaults.{AreCalm, EndInFault}

-- whether it is told that a draw failed
abbrev pub tells_dice : PublishNo → Bool
tells_dice publishing.DiceFailed = true
tells_dice why = false

-- a plugin failed where that is told, and else none
abbrev pub PublishTells : PublishNo → List Exchange → Type 0
PublishTells (publishing.PluginFailed name) exchanges = EndInFault name exchanges
PublishTells why exchanges = AreCalm exchanges

abbrev pub MadeTells : {T : Type 0} → Result T PublishNo → List Exchange → Type 0
MadeTells (Ok answer) exchanges = AreCalm exchanges
MadeTells (Err why) exchanges = PublishTells why exchanges

pub calm_none : AreCalm []
calm_none = All-nil (λ (e : Exchange). is_fault e ≡ false)

pub calm_more : (e : Exchange) (es : List Exchange) → is_fault e ≡ false → AreCalm es
    → AreCalm (e ∷ es)
calm_more e es is calm = All-cons (λ (x : Exchange). is_fault x ≡ false) e es is calm

pub calm_both : (es fs : List Exchange) → AreCalm es → AreCalm fs → AreCalm (es ++ fs)
calm_both es fs = All-append (λ (x : Exchange). is_fault x ≡ false) es fs

-- ---- one plugin

module _ (name : List ℕ) where
  -- what it answered tells its fault
  abbrev Tells : SeedNo → List Exchange → Type 0
  Tells seed.Failed es = EndInFault name es
  Tells why es = AreCalm es

  told : (why : SeedNo) (refusal : PublishNo) (es : List Exchange)
      → refusal ≡ plugin_refusal name why → Tells why es → PublishTells refusal es
  told why refusal es is t = subst (λ (r : PublishNo). PublishTells r es) (sym is) (by why t)
    where
      by : (why : SeedNo) → Tells why es → PublishTells (plugin_refusal name why) es
      by seed.Failed t = t
      by seed.DiceFailed t = t
      by (seed.Unhealthy field text) t = t
      by seed.NoMemory t = t

  silent : (why : KmsNo) → Tells (seed_no why) (StatusCall name (Err why) ∷ [])
  silent kms.Failed =
      ([], StatusCall name (Err kms.Failed), refl, calm_none, refl, refl)
  silent kms.NoMemory =
      calm_more (StatusCall name (Err kms.NoMemory)) [] refl calm_none

  well : (status : Status) → AreCalm (StatusCall name (Ok status) ∷ [])
  well status = calm_more (StatusCall name (Ok status)) [] refl calm_none

  unwrapped : (status : Status) (plain : List ℕ) (why : KmsNo)
      → Tells (seed_no why) (StatusCall name (Ok status) ∷ WrapCall name plain (Err why) ∷ [])
  unwrapped status plain kms.Failed = (
    StatusCall name (Ok status) ∷ [],
    WrapCall name plain (Err kms.Failed),
    refl,
    well status,
    refl,
    refl,
  )
  unwrapped status plain kms.NoMemory = calm_more (StatusCall name (Ok status))
      (WrapCall name plain (Err kms.NoMemory) ∷ []) refl
      (calm_more (WrapCall name plain (Err kms.NoMemory)) [] refl calm_none)

  -- ---- its key id

  status_told : (status : Status) (why : SeedNo) → IsStatusJudged status (Err why)
      → Tells why (StatusCall name (Ok status) ∷ [])
  status_told status seed.Failed is = absurd is
  status_told status seed.DiceFailed is = absurd is
  status_told status (seed.Unhealthy field text) is = well status
  status_told status seed.NoMemory is = absurd is

  key_told : (answer : Result (List ℕ) SeedNo) (key_id : List ℕ) (es : List Exchange)
      → answer ≡ Ok key_id → TellsKeyIdBy name answer es → AreCalm es
  key_told answer key_id _ is (tells_none why none) =
      let both : Ok key_id ≡ Err (seed_no why) = sym is ∙ none in absurd (cc)
  key_told answer key_id _ is (judged status well_judged) = well status

  none_told : (answer : Result (List ℕ) SeedNo) (why : SeedNo) (es : List Exchange)
      → answer ≡ Err why → TellsKeyIdBy name answer es → Tells why es
  none_told answer why _ is (tells_none cause none) =
      let both : Err (seed_no cause) ≡ Err why = sym none ∙ is in
      let same : seed_no cause ≡ why = cc in
      subst (λ (w : SeedNo). Tells w (StatusCall name (Err cause) ∷ [])) same (silent cause)
  none_told answer why _ is (judged status well_judged) =
      status_told status why (subst (IsStatusJudged status) is well_judged)

  pub key_id_tells : (result : Result (List ℕ) PublishNo) (es : List Exchange)
      → TellsKeyIdAt name result es → MadeTells result es
  key_id_tells (Ok key_id) es (Ok answer, tells, is) = key_told (Ok answer) answer es refl tells
  key_id_tells (Ok key_id) es (Err why, tells, is) = absurd is
  key_id_tells (Err why) es (inl (Ok answer, tells, is)) = absurd (cc)
  key_id_tells (Err why) es (inl (Err cause, tells, is)) =
      told cause why es is (none_told (Err cause) cause es refl tells)
  key_id_tells (Err why) es (inr (lacks, none)) =
      subst (λ (w : PublishNo). PublishTells w es) (sym lacks) (subst AreCalm (sym none) calm_none)

-- whether it is told that a draw failed
abbrev seed_dice : SeedNo → Bool
seed_dice seed.DiceFailed = true
seed_dice why = false

refused_dice : (name : List ℕ) (why : SeedNo) (refusal : PublishNo)
    → refusal ≡ plugin_refusal name why → seed_dice why ≡ tells_dice refusal
refused_dice name why refusal is =
    subst (λ (r : PublishNo). seed_dice why ≡ tells_dice r) (sym is) (by why)
  where
    by : (why : SeedNo) → seed_dice why ≡ tells_dice (plugin_refusal name why)
    by seed.Failed = refl
    by seed.DiceFailed = refl
    by (seed.Unhealthy field text) = refl
    by seed.NoMemory = refl

-- no draw is told to have failed where a key id is asked for
pub key_id_undrawn : (name : List ℕ) (why : PublishNo) (es : List Exchange)
    → TellsKeyIdAt name (Err why) es → tells_dice why ≡ false
key_id_undrawn name why es (inl (Ok key_id, tells, is)) = absurd (cc)
key_id_undrawn name why es (inl (Err cause, tells, is)) =
    sym (refused_dice name cause why is) ∙ undrawn cause (Err cause) es refl tells
  where
    judged_so : (status : Status) (cause : SeedNo) → IsStatusJudged status (Err cause)
        → seed_dice cause ≡ false
    judged_so status seed.DiceFailed is = absurd is
    judged_so status other is = refl

    linked : (why : KmsNo) → seed_dice (seed_no why) ≡ false
    linked kms.Failed = refl
    linked kms.NoMemory = refl

    undrawn : (cause : SeedNo) (answer : Result (List ℕ) SeedNo) (es : List Exchange)
        → answer ≡ Err cause → TellsKeyIdBy name answer es → seed_dice cause ≡ false
    undrawn cause answer _ at (tells_none link none) =
        let both : Err (seed_no link) ≡ Err cause = sym none ∙ at in
        let same : seed_no link ≡ cause = cc in
        subst (λ (w : SeedNo). seed_dice w ≡ false) same (linked link)
    undrawn cause answer _ at (judged status so) =
        judged_so status cause (subst (IsStatusJudged status) at so)
key_id_undrawn name why es (inr (lacks, none)) =
    subst (λ (w : PublishNo). tells_dice w ≡ false) (sym lacks) refl

module _ {D : Type 0} (left : D → Option (List ℕ)) (count : D → ℕ) where
  -- ---- one seed

  module _ (name : List ℕ) (dice after : D) where
    -- the count of the random source, and what the plugin's exchanges were
    abbrev SeedOnce : Result SeedRow SeedNo → List Exchange → Type 0
    SeedOnce (Ok row) es = (count after ≡ count dice) × AreCalm es
    SeedOnce (Err why) es =
        (count after ≡ counted (seed_dice why) (count dice)) × Tells name why es

    link_why : (why : KmsNo) (es : List Exchange) → count after ≡ count dice
        → Tells name (seed_no why) es → SeedOnce (Err (seed_no why)) es
    link_why kms.Failed es same t = (same, t)
    link_why kms.NoMemory es same t = (same, t)

    undrawn : (after ≡ dice) ⊎ ((plain : List ℕ) × Draws left count dice plain after)
        → count after ≡ count dice
    undrawn (inl same) = ap count same
    undrawn (inr (plain, (long, takes, same))) = same

    pub seed_once : (result : Result SeedRow SeedNo) (es : List Exchange)
        → MakesSeedBy left count name dice result after es → SeedOnce result es
    seed_once result _ (no_status why is same) =
        subst (λ r. SeedOnce r (StatusCall name (Err why) ∷ [])) (sym is)
        (link_why why (StatusCall name (Err why) ∷ []) (ap count same) (silent name why))
    seed_once result _ (unhealthy status field text breach is same) =
        subst (λ r. SeedOnce r (StatusCall name (Ok status) ∷ [])) (sym is)
        (ap count same, well name status)
    seed_once result _ (no_memory status breach is draws) =
        subst (λ r. SeedOnce r (StatusCall name (Ok status) ∷ [])) (sym is)
        (undrawn draws, well name status)
    seed_once result _ (dice_failed status breach is fails) =
        subst (λ r. SeedOnce r (StatusCall name (Ok status) ∷ [])) (sym is)
        (fails.1, well name status)
    seed_once result _ (not_wrapped status plain why breach draws is) =
        subst (λ r. SeedOnce r (StatusCall name (Ok status) ∷ WrapCall name plain (Err why) ∷ []))
        (sym is) (link_why why (StatusCall name (Ok status) ∷ WrapCall name plain (Err why) ∷ [])
        draws.2 (unwrapped name status plain why))
    seed_once result _ (made status plain wrapped breach draws is) =
        subst (λ r. SeedOnce r
        (StatusCall name (Ok status) ∷ WrapCall name plain (Ok wrapped) ∷ [])) (sym is) (
          draws.2,
          calm_more (StatusCall name (Ok status)) (WrapCall name plain (Ok wrapped) ∷ []) refl
              (calm_more (WrapCall name plain (Ok wrapped)) [] refl calm_none),
        )

  -- ---- all seeds

  abbrev Once : {T : Type 0} → (dice after : D) → Result T PublishNo → List Exchange → Type 0
  Once dice after result es = (count after ≡ counted (tells_fault tells_dice result) (count dice))
      × MadeTells result es

  -- behind a seed that was made
  more : (row : SeedRow) (dice between after : D) (es fs : List Exchange)
      (result : Result (List SeedRow) PublishNo) → count between ≡ count dice → AreCalm es
      → Once between after result fs → Once dice after (with_seed_first row result) (es ++ fs)
  more row dice between after es fs (Ok rows) same calm o = (o.0 ∙ same, calm_both es fs calm o.1)
  more row dice between after es fs (Err (publishing.PluginFailed name)) same calm
      (rises, (front, last, is, calms, named, fault)) = (
        rises ∙ same,
        (
          es ++ front,
          last,
          ap (λ l. es ++ l) is ∙ sym (append_assoc es front (last ∷ [])),
          calm_both es front calm calms,
          named,
          fault,
        ),
      )
  more row dice between after es fs (Err publishing.DiceFailed) same calm o =
      (o.0 ∙ ap (counted true) same, calm_both es fs calm o.1)
  more row dice between after es fs (Err (publishing.Unhealthy name field text)) same calm o =
      (o.0 ∙ same, calm_both es fs calm o.1)
  more row dice between after es fs (Err publishing.NoMemory) same calm o =
      (o.0 ∙ same, calm_both es fs calm o.1)

  pub seeds_once : (names : List (List ℕ)) (passed : List ℕ) (dice : D)
      (result : Result (List SeedRow) PublishNo) (after : D) (es : List Exchange)
      → MakesSeedsBy left count names passed dice result after es → Once dice after result es
  seeds_once names passed dice _ _ _ (all_made none) = (refl, calm_none)
  seeds_once names passed dice _ _ _ (refused {after = after} {exchanges = es} name why cause next
      makes is) =
      let o = seed_once name dice after (Err why) es makes in (
        o.0 ∙ ap (λ b. counted b (count dice)) (refused_dice name why cause is),
        told name why cause es is o.1,
      )
  seeds_once names passed dice _ _ _ (no_name name next) = (refl, calm_none)
  seeds_once names passed dice _ _ _ (no_room {after = after} {exchanges = es} name row next
      makes) = seed_once name dice after (Ok row) es makes
  seeds_once names passed dice _ _ _ (went_on {between = between} {after = after} {exchanges = es}
      {others = fs} {result = result} name row next makes rest) =
      let o = seed_once name dice between (Ok row) es makes in
      more row dice between after es fs result o.0 o.1
      (seeds_once names name between result after fs rest)

  pub publishing_tells : (rows : List ConfigEntry) (dice : D)
      (result : Result Publication PublishNo) (after : D) (es : List Exchange)
      → PublishesBy left count rows dice result after es → Once dice after result es
  publishing_tells rows dice (Ok p) after es (same, makes) =
      seeds_once (plugins_in rows) [] dice (Ok p.seeds) after es makes
  publishing_tells rows dice (Err why) after es makes =
      seeds_once (plugins_in rows) [] dice (Err why) after es makes
