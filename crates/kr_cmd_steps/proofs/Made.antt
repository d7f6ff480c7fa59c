-- Seeds are made, a bench adopts them, and does its part.
use Rattle.std.proofs.Common.{◌≡◌, ℕ, List, Option, None, Some, Result, Ok, Err, refl, sym, ◌∙◌, subst, inl, inr}
use Rattle.std.specs.Prelude.{IfSome}
use Rattle.kr_config.specs.Kept.{ConfigEntry}
use Rattle.kr_kms.specs.Calls.{Link}
use Rattle.kr_kms.specs.declared.seeds.SeedRow.{SeedRow}
use Rattle.kr_provider.specs.PluginOrder.{plugin_order}
use Rattle.kr_provider.specs.Publication.{Publication}
use Rattle.kr_cmd_steps.specs.Environment.{Environment}
use Rattle.kr_cmd_steps.specs.Phases.{with_memory}
use Rattle.kr_cmd_steps.specs.ValueSteps.{working, working_by}
use Rattle.kr_cmd_steps.specs.Plugins.{make_seeds}
use Rattle.kr_cmd_steps.specs.Steps.{Steps, and_then}
use Rattle.kr_cmd_messages.specs.declared.command.Direction.{Direction}
use Rattle.kr_cmd_messages.specs.declared.command.Direction.TheVariants.{Encrypt, Decrypt}
use Rattle.kr_cmd_messages.specs.declared.refusal.Outcome.{Outcome}
use Rattle.kr_cmd_messages.specs.declared.refusal.Stop.{Stop}
use Rattle.kr_cmd_messages.specs.declared.refusal.Stop.TheVariants.{NoMemory}
use Rattle.kr_cmd_steps.specs.inner.Phases.{Does}
use Rattle.kr_cmd_steps.proofs.Frames.{Seen}
use Rattle.kr_cmd_steps.proofs.RunTo.{goes_on, home_refl, nothing, reach, stops}
use Rattle.kr_cmd_steps.proofs.Works.{lacks}

-- there was memory
pub remembers : {A : Type 0} {next : Steps A} {old new : Environment} {result : Result A Stop}
    → Does next old new result → Does (with_memory next) old new result
remembers {next = next} {old} d = goes_on (with_memory nothing) (λ u. next) tt
    (record { home = home_refl old; ends = λ l s. reach l (inr (tt, tt, (refl, refl))) s }) d

-- seeds are made for rows that are known to be these, and then what follows
module _ {A : Type 0} (next : List SeedRow → Steps A) {others rows : List ConfigEntry}
    (same : others ≡ rows) {old mid : Environment} where
  seeds_by : {result : Result (List SeedRow) Stop}
      → Does (make_seeds (plugin_order others)) old mid result
      → Does (make_seeds (plugin_order rows)) old mid result
  seeds_by {result} d = subst (λ r. Does (make_seeds (plugin_order r)) old mid result) same d

  pub unseeded : (stop : Stop) → Does (make_seeds (plugin_order others)) old mid (Err stop)
      → Does (with_memory (and_then (make_seeds (plugin_order rows)) next)) old mid (Err stop)
  unseeded stop d = remembers (stops (make_seeds (plugin_order rows)) next stop (seeds_by d))

  pub seeded : {new : Environment} {result : Result A Stop} (seeds : List SeedRow)
      → Does (make_seeds (plugin_order others)) old mid (Ok seeds)
      → Does (next seeds) mid new result
      → Does (with_memory (and_then (make_seeds (plugin_order rows)) next)) old new result
  seeded seeds d e =
      remembers (goes_on (make_seeds (plugin_order rows)) next seeds (seeds_by d) e)

module _ (direction : Direction) (resource path : List ℕ) (rows : List ConfigEntry) (bytes : List ℕ) where
  abbrev Working : Environment → Environment → Result Outcome Stop → Type 0
  Working old new result = Does (working direction resource path rows bytes) old new result

  abbrev next : List SeedRow → Steps Outcome
  next seeds = working_by direction resource path rows bytes seeds

  pub unmade : (a : Environment) → Working a a (Err NoMemory)
  unmade a = lacks (and_then (make_seeds (plugin_order rows)) next) a

  module _ {others : List ConfigEntry} (same : others ≡ rows) {old mid : Environment} where
    pub unpublished : (stop : Stop) → Does (make_seeds (plugin_order others)) old mid (Err stop)
        → Working old mid (Err stop)
    unpublished stop d = unseeded next same stop d

    passed_on : {new : Environment} {result : Result Outcome Stop} (seeds : List SeedRow)
        → Does (make_seeds (plugin_order others)) old mid (Ok seeds)
        → Does (next seeds) mid new result → Working old new result
    passed_on seeds d e = seeded next same seeds d e

-- memory lacked before the bench did anything
lacks_work : (direction : Direction) (resource path : List ℕ) (rows : List ConfigEntry) (bytes : List ℕ)
    (seeds : List SeedRow) (a : Environment)
    → Does (working_by direction resource path rows bytes seeds) a a (Err NoMemory)
lacks_work Encrypt resource path rows bytes seeds a =
    record { home = home_refl a; ends = λ l s. inr (reach l (inl (refl, refl)) s) }
lacks_work Decrypt resource path rows bytes seeds a =
    record { home = home_refl a; ends = λ l s. inr (reach l (inl (refl, refl)) s) }

module _ {L D : Type 0} (link : L → Link) (left : D → Option (List ℕ)) (count : D → ℕ)
    (direction : Direction) (resource path : List ℕ) (rows others : List ConfigEntry) (bytes : List ℕ)
    (same : others ≡ rows) (olds mids : List L) (old mid : D) (a b : Environment) where
  abbrev With : Environment → List L → D → Environment
  With around links dice = Seen link around links (left dice) (count dice)

  -- what wasn't adopted is back
  pub unadopted : (seeds : List SeedRow) (back : List L) (dice : D) → back ≡ mids → dice ≡ mid
      → Does (make_seeds (plugin_order others)) (With a olds old) (With b mids mid) (Ok seeds)
      → Does (working direction resource path rows bytes) (With a olds old) (With b back dice)
      (Err NoMemory)
  unadopted seeds back dice is at d =
      let Result_at : List L → D → Type 0 = λ links dice. Does
      (working direction resource path rows bytes) (With a olds old) (With b links dice)
      (Err NoMemory) in
      subst (λ l. Result_at l dice) (sym is)
      (subst (λ n. Result_at mids n) (sym at)
      (passed_on direction resource path rows bytes same seeds d
      (lacks_work direction resource path rows bytes seeds (With b mids mid))))

  -- a bench adopted the publication, and made that
  pub made_by : (c : Environment) (p : Publication) (published : Option Publication)
      (benched back : List L) (held dice : D) (made : Result Outcome Stop)
      → published ≡ Some p → p.rows ≡ others → benched ≡ mids → held ≡ mid
      → Does (make_seeds (plugin_order others)) (With a olds old) (With b mids mid) (Ok p.seeds)
      → IfSome published (λ q. Does (working_by direction resource path q.rows bytes q.seeds)
      (With b benched held) (With c back dice) made)
      → Does (working direction resource path rows bytes) (With a olds old) (With c back dice) made
  made_by c p None benched back held dice made e r is at d w = absurd cc
  made_by c p (Some q) benched back held dice made e r is at d w =
      let q_is : q ≡ p = cc in
      let done : Does (working_by direction resource path rows bytes p.seeds) (With b mids mid)
      (With c back dice) made =
      subst (λ n. Does (working_by direction resource path rows bytes p.seeds) (With b mids n)
      (With c back dice) made) at
      (subst (λ l. Does (working_by direction resource path rows bytes p.seeds) (With b l held)
      (With c back dice) made) is
      (subst (λ t. Does (working_by direction resource path t bytes p.seeds) (With b benched held)
      (With c back dice) made) (r ∙ same)
      (subst (λ (x : Publication). Does (working_by direction resource path x.rows bytes x.seeds)
      (With b benched held) (With c back dice) made) q_is w))) in
      passed_on direction resource path rows bytes same p.seeds d done
