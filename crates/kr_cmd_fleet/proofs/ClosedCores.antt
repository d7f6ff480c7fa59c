-- What the store of a core that is closed has.
use Rattle.std.proofs.Common.{◌≡◌, List, [], ap, ◌∙◌, arith}
use Rattle.kr_rollout.specs.Cores.{CoreState}
use Rattle.kr_rollout.specs.Histories.{IsLegal, ends_torn, state_of}
use Rattle.kr_rollout.specs.Openings.{start_of}
use Rattle.kr_rollout.specs.declared.opening.Entry.{Entry}
use Rattle.kr_rollout.specs.declared.opening.Opening.{Opening}
use Rattle.kr_store.specs.Stores.{Holds, Kept}
use Rattle.kr_cmd_fleet.specs.inner.CrewRuns.{KeepsStore}
use Rattle.kr_cmd_steps.proofs.RisingCounts.{counted}

-- its store has the rows of the history's end
pub keeps_end : (o now : Opening) (history : List Entry) (store : Kept) → now ≡ o
    → IsLegal o history → store.rows ≡ (state_of now history).rows
    → store.count ≡ (state_of now history).count → store.format ≡ now.format
    → store.torn ≡ ends_torn now history → Holds store → KeepsStore o history store
keeps_end o now history store same legal rows count format torn holds =
    let risen = counted o (start_of o) history legal.runs in
    let count_is = count ∙ ap (λ (p : Opening). (state_of p history).count) same in record {
      rows_are = rows ∙ ap (λ (p : Opening). (state_of p history).rows) same;
      format = format ∙ ap (λ (p : Opening). p.format) same;
      later = omega (arith, risen, count_is);
      torn = torn ∙ ap (λ (p : Opening). ends_torn p history) same;
      holds = holds;
    }

-- and where there is no history, those of the opening
pub keeps_begin : (core now : CoreState) (store : Kept) → now ≡ core → core.history ≡ []
    → store.rows ≡ (state_of now.opening now.history).rows
    → store.count ≡ (state_of now.opening now.history).count
    → store.format ≡ now.opening.format
    → store.torn ≡ ends_torn now.opening now.history → Holds store
    → KeepsStore core.opening [] store
keeps_begin core now store same none rows count format torn holds =
    let none_now = ap (λ (c : CoreState). c.history) same ∙ none in
    let o_is = ap (λ (c : CoreState). c.opening) same in
    let count_is = count ∙ (λ i. (state_of (o_is i) (none_now i)).count) in record {
      rows_are = rows ∙ (λ i. (state_of (o_is i) (none_now i)).rows);
      format = format ∙ ap (λ (p : Opening). p.format) o_is;
      later = omega (arith, count_is);
      torn = torn ∙ (λ i. ends_torn (o_is i) (none_now i));
      holds = holds;
    }
