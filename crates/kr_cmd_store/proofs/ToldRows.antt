-- What the phases of `verify` do, one behind another.
use Rattle.std.proofs.Common.{◌≡◌, List, [], ◌∷◌, Option, None, Some, Result, Ok, Err, refl, sym, ◌∙◌, subst, inl, inr}
use Rattle.std.specs.Prelude.{IfSome, ℕ}
use Rattle.kr_config.specs.Kept.{ConfigEntry}
use Rattle.kr_kms.specs.Calls.{Link}
use Rattle.kr_kms.specs.Cache.{CacheState}
use Rattle.kr_kms.specs.declared.seeds.SeedRow.{SeedRow}
use Rattle.kr_provider.specs.PluginOrder.{plugin_order}
use Rattle.kr_provider.specs.Publication.{Publication}
use Rattle.kr_store.specs.declared.rows.Row as stored
use Rattle.kr_cmd_messages.specs.declared.refusal.Outcome.{Outcome}
use Rattle.kr_cmd_messages.specs.declared.refusal.Stop.{Stop}
use Rattle.kr_cmd_messages.specs.declared.refusal.Stop.TheVariants.{NoMemory}
use Rattle.kr_cmd_steps.specs.Environment.{Environment}
use Rattle.kr_cmd_steps.specs.StoreSteps.{row_findings, telling_findings, verifying_by, verifying_with}
use Rattle.kr_cmd_steps.specs.Plugins.{make_seeds}
use Rattle.kr_cmd_steps.specs.ValueSteps.{none_kept}
use Rattle.kr_cmd_steps.specs.RowFindings.{findings_outcome}
use Rattle.kr_cmd_steps.specs.Steps.{Steps, and_then, give}
use Rattle.kr_cmd_steps.specs.declared.finding.Finding.{Finding}
use Rattle.kr_cmd_steps.specs.declared.programs.Program.{Program}
use Rattle.kr_cmd_steps.specs.inner.Phases.{Does}
use Rattle.kr_cmd_steps.proofs.Frames.{Seen}
use Rattle.kr_cmd_steps.proofs.RunTo.{given, goes_on, home_refl, reach, stops}
use Rattle.kr_cmd_steps.proofs.Made.{remembers, seeded, unseeded}
use Rattle.kr_cmd_steps.proofs.Works.{lacks}
use Rattle.kr_cmd_store.specs.inner.Verifying.{IsToldOf}

-- of equal parts the same is done
pub verified_by : {programs others : List Program} {live kept : List stored.Row} (rows : List ConfigEntry)
    {old new : Environment} {result : Result Outcome Stop} → others ≡ programs → kept ≡ live
    → Does (verifying_with others rows kept) old new result
    → Does (verifying_with programs rows live) old new result
verified_by {programs} {kept = kept} rows {old} {new} {result} p l d =
    subst (λ x. Does (verifying_with programs rows x) old new result) l
    (subst (λ x. Does (verifying_with x rows kept) old new result) p d)

-- ---- rows that were read, and what is told of them

module _ (p : Publication) (live : List stored.Row) (kept : CacheState) where
  abbrev pub Told : Steps Outcome
  Told = and_then (row_findings p live kept) (telling_findings live)

  pub told_by : {old new : Environment} (found : Result (List Finding) Stop)
      (told : Result Outcome Stop) → Does (row_findings p live kept) old new found
      → IsToldOf live found told → Does Told old new told
  told_by {old} {new} (Ok findings) (Ok made) d is =
      goes_on (row_findings p live kept) (telling_findings live) findings d
      (subst (λ m. Does (telling_findings live findings) new new (Ok m)) (sym is)
      (remembers (given (findings_outcome live findings) new)))
  told_by {old} {new} (Ok findings) (Err why) d is =
      goes_on (row_findings p live kept) (telling_findings live) findings d
      (subst (λ s. Does (telling_findings live findings) new new (Err s)) (sym is)
      (lacks (give (findings_outcome live findings)) new))
  told_by {old} {new} (Err why) told d is =
      subst (λ m. Does Told old new m) (sym is)
      (stops (row_findings p live kept) (telling_findings live) why d)

-- there was no memory to read them
untold : (p : Publication) (live all : List stored.Row) (kept : CacheState) (a : Environment)
    → Does (and_then (row_findings p live kept) (telling_findings all)) a a (Err NoMemory)
untold p [] all kept a = lacks (give (findings_outcome all [])) a
untold p (row ∷ live) all kept a =
    record { home = home_refl a; ends = λ l s. inr (reach l (inl (refl, refl)) s) }

-- ---- the seeds are made before

module _ (rows : List ConfigEntry) (live : List stored.Row) where
  abbrev next : List SeedRow → Steps Outcome
  next seeds = Told (record { rows = rows; seeds = seeds }) live none_kept

  abbrev Verifying : Environment → Environment → Result Outcome Stop → Type 0
  Verifying old new result = Does (verifying_by rows live) old new result

  pub unmade : (a : Environment) → Verifying a a (Err NoMemory)
  unmade a = lacks (and_then (make_seeds (plugin_order rows)) next) a

  module _ {others : List ConfigEntry} (same : others ≡ rows) {old mid : Environment} where
    pub unpublished : (stop : Stop) → Does (make_seeds (plugin_order others)) old mid (Err stop)
        → Verifying old mid (Err stop)
    unpublished stop d = unseeded next same stop d

module _ {L D : Type 0} (link : L → Link) (left : D → Option (List ℕ)) (count : D → ℕ)
    (rows others : List ConfigEntry) (live : List stored.Row) (same : others ≡ rows) (olds mids : List L)
    (old mid : D) (a b : Environment) where
  abbrev With : Environment → List L → D → Environment
  With around links dice = Seen link around links (left dice) (count dice)

  -- what wasn't adopted is back
  pub unadopted : (seeds : List SeedRow) (back : List L) (dice : D) → back ≡ mids → dice ≡ mid
      → Does (make_seeds (plugin_order others)) (With a olds old) (With b mids mid) (Ok seeds)
      → Does (verifying_by rows live) (With a olds old) (With b back dice) (Err NoMemory)
  unadopted seeds back dice is at d =
      subst (λ l. Does (verifying_by rows live) (With a olds old) (With b l dice) (Err NoMemory))
      (sym is)
      (subst (λ n. Does (verifying_by rows live) (With a olds old) (With b mids n) (Err NoMemory))
      (sym at)
      (seeded (next rows live) same seeds d
      (untold (record { rows = rows; seeds = seeds }) live live none_kept
      (With b mids mid))))

  -- a bench adopted the publication, and read the rows
  pub read_stored_rows : (c : Environment) (p : Publication) (published : Option Publication) (benched back : List L)
      (held dice : D) (kept : CacheState) (found : Result (List Finding) Stop)
      (told : Result Outcome Stop)
      → published ≡ Some p → p.rows ≡ others → benched ≡ mids → held ≡ mid → kept ≡ none_kept
      → Does (make_seeds (plugin_order others)) (With a olds old) (With b mids mid) (Ok p.seeds)
      → IfSome published
      (λ q. Does (row_findings q live kept) (With b benched held) (With c back dice) found)
      → IsToldOf live found told
      → Does (verifying_by rows live) (With a olds old) (With c back dice) told
  read_stored_rows c p None benched back held dice kept found told e r is at cold d w t = absurd cc
  read_stored_rows c p (Some q) benched back held dice kept found told e r is at cold d w t =
      let q_is : q ≡ p = cc in
      let own : Publication = record { rows = rows; seeds = p.seeds } in
      let Done : List ConfigEntry → List L → D → CacheState → Type 0 = λ rows links dice_held kept.
      Does (row_findings (record { rows = rows; seeds = p.seeds }) live kept)
      (With b links dice_held) (With c back dice) found in
      let done : Done rows mids mid none_kept =
      subst (λ k. Done rows mids mid k) cold
      (subst (λ n. Done rows mids n kept) at
      (subst (λ l. Done rows l held kept) is
      (subst (λ x. Done x benched held kept) (r ∙ same)
      (subst (λ (x : Publication). Does (row_findings x live kept) (With b benched held)
      (With c back dice) found) q_is w)))) in
      seeded (next rows live) same p.seeds d (told_by own live none_kept found told done t)
