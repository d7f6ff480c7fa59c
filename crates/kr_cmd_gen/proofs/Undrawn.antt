-- The steps of a load up to its workers draw nothing, since its configurations name no plugin.
use Rattle.std.proofs.Common.{◌≡◌, ℕ, ◌<◌, ◌^◌, zero, suc, List, [], Some, Result, Ok, Err, ap, sym, subst, inl, inr, ◌∙◌, arith, false}
use Rattle.std.specs.Prelude.{length, ⊤}
use Rattle.std.specs.Io.KnownBytes.{Keeps}
use Rattle.kr_workload.specs.Streams.{stream_key}
use Rattle.kr_workload.proofs.Streaming.{rest_long}
use Rattle.kr_cmd_steps.specs.Environment.{Environment, step_state}
use Rattle.kr_cmd_steps.specs.Phases.{by_result, with_memory}
use Rattle.kr_cmd_steps.specs.Steps.{Steps, borrow_tape, read_tape, find, refuse, give, and_then, Call, lending, scanning, drawing, Point, awaits, amid, refuses, gives, StepState, RunTo}
use Rattle.kr_cmd_steps.specs.StoreFiles.{Stored}
use Rattle.kr_cmd_fleet.specs.Fleets.{Begun, IsStart, Replicas, launching, starting_with}
use Rattle.kr_cmd_gen.specs.GeneratedLoads.{load_beginning, load_plan, load_steps, with_streams}
use Rattle.kr_cmd_messages.specs.declared.load_words.LoadWords.{LoadWords}
use Rattle.kr_cmd_messages.specs.declared.refusal.Refusal.{Refusal}

-- ---- steps that use a tape alone

abbrev UseTapes : {A : Type 0} → Steps A → Type 0
UseTapes (borrow_tape name access absent next) = UseTapes next
UseTapes (read_tape object name next) = (bytes : List ℕ) → UseTapes (next bytes)
UseTapes (find B P next) = (b : B) → P b → UseTapes (next b)
UseTapes (refuse why) = ⊤
UseTapes (give x) = ⊤
UseTapes other = ⊥

-- the call is no draw
abbrev pub IsNoDraw : Call → Type 0
IsNoDraw (drawing seat) = ⊥
IsNoDraw call = ⊤

abbrev pub EndsUndrawn : {A : Type 0} → Point A → Type 0
EndsUndrawn (awaits call) = IsNoDraw call
EndsUndrawn point = ⊤

-- they end at no draw, and leave what the random sources tell
abbrev IsUndrawn : {A : Type 0} → Point A → (end left : StepState) → Type 0
IsUndrawn point end left = EndsUndrawn point × (end.dice ≡ left.dice)

module _ {A : Type 0} (point : Point A) (end : StepState) where
  at : (here : Point A) (left : StepState) → EndsUndrawn here → (point ≡ here) × (end ≡ left)
      → IsUndrawn point end left
  at here left ends e = (
    subst (λ (p : Point A). EndsUndrawn p) (sym e.0) ends,
    ap (λ (l : StepState). l.dice) e.1,
  )

  undrawn : (s : Steps A) (left : StepState) → UseTapes s → RunTo point end s left
      → IsUndrawn point end left
  undrawn (borrow_tape name access absent next) left uses (inl e) = at amid _ tt e
  undrawn (borrow_tape name access absent next) left uses (inr (inl e)) =
      at (awaits (lending name)) _ tt e
  undrawn (borrow_tape name access absent next) left uses (inr (inr (inl (none, agrees, e)))) =
      at (refuses absent) _ tt e
  undrawn (borrow_tape name access absent next) left uses (inr (inr (inr (may, goes)))) =
      undrawn next _ uses goes
  undrawn (read_tape object name next) left uses (inl e) =
      at (awaits (scanning object name)) _ tt e
  undrawn (read_tape object name next) left uses (inr (bytes, agrees, goes)) =
      undrawn (next bytes) left (uses bytes) goes
  undrawn (find B P next) left uses (inl e) = at amid left tt e
  undrawn (find B P next) left uses (inr (b, is, goes)) = undrawn (next b) left (uses b is) goes
  undrawn (refuse why) left uses e = at (refuses why) left tt e
  undrawn (give x) left uses e = at (gives x) left tt e
  undrawn other left uses goes = absurd uses

-- ---- those of a load

module _ (words : LoadWords) where
  starts : (stored : Stored) (budgets : List ℕ) (replicas : Replicas)
      → UseTapes (starting_with false (load_plan words) stored budgets replicas)
  starts stored budgets replicas = by
    where
      by : (r : Result (Unit {0}) Refusal) → IsStart stored.rows replicas r
          → UseTapes {A = Begun} (and_then (by_result r) (λ done. with_memory (give (record {
            plan = load_plan words;
            stored = stored;
            budgets = budgets;
            replicas = replicas;
            items = [];
          }))))
      by (Ok done) is = λ u t. tt
      by (Err why) is = tt

  launches : (stored : Stored) (budgets : List ℕ)
      → UseTapes (launching false (load_plan words) stored budgets)
  launches stored budgets = λ u t v s x y. starts stored budgets _

  budgets_first : (stored : Stored) (r : Result (List ℕ) Refusal)
      → UseTapes (and_then (by_result r) (launching false (load_plan words) stored))
  budgets_first stored (Ok budgets) = launches stored budgets
  budgets_first stored (Err why) = tt

  stored_first : (r : Result Stored Refusal)
      → UseTapes (and_then (by_result r) (load_beginning (load_plan words)))
  stored_first (Ok stored) = λ r is. budgets_first stored r
  stored_first (Err why) = tt

  pub load_undrawn : (point : Point Begun) (end left : StepState)
      → RunTo point end (load_steps words) left → IsUndrawn point end left
  load_undrawn point end left goes =
      undrawn point end (load_steps words) left (λ bytes r is. stored_first r) goes

-- so each worker begins with the whole of its stream
pub whole_told : (seed : ℕ) (a : Environment) (seat : ℕ) → seat < 4 → (left : List ℕ)
    → Keeps ((step_state (with_streams seed a)).dice seat) (Some left) → length left ≡ 2 ^ 70
whole_told seed a zero few left is = ap length is ∙ rest_long (stream_key seed 1) 0
whole_told seed a (suc zero) few left is = ap length is ∙ rest_long (stream_key seed 2) 0
whole_told seed a (suc (suc zero)) few left is = ap length is ∙ rest_long (stream_key seed 3) 0
whole_told seed a (suc (suc (suc zero))) few left is = ap length is ∙ rest_long (stream_key seed 4) 0
whole_told seed a (suc (suc (suc (suc more)))) few left is = absurd (omega (arith, few))
