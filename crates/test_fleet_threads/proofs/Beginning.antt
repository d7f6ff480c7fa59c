-- A core over one replica whose configuration names the plugin `p` alone.
use Rattle.std.proofs.Common.{◌≡◌, ℕ, List, [], ◌∷◌, length, Option, Some, Result, Ok, ap, refl, sym, subst, ◌∙◌}
use Rattle.std.specs.Prelude.{IfSome}
use Rattle.std.proofs.lemmas.List.Elements.{All-cons, All-nil}
use Rattle.kr_provider.specs.Publication.{Publication}
use Rattle.kr_rollout.specs.declared.opening.Opening.{Opening}
use Rattle.kr_opening.specs.declared.opening_board.StartNo.{StartNo}
use Rattle.kr_rollout.specs.Cores.{CoreState}
use Rattle.kr_rollout.specs.Openings.{AreAmong, NamesAmong}
use Rattle.kr_opening.specs.Replicas.{IsFirstIn}
use Rattle.kr_rollout.specs.CoreStarts.{Starts}
use Rattle.kr_store.specs.Stores.{IsLiveCount}
use Rattle.test_fleet_threads.specs.Ready.{IsNamed, IsNewCore, one_name}

pub first_in : (replicas : List (Option Publication)) → IsNamed replicas → IsFirstIn replicas
first_in replicas one =
    subst (λ (rs : List (Option Publication)). IsFirstIn rs) (sym one.replicas_are) refl

pub one_long : (replicas : List (Option Publication)) → IsNamed replicas → length replicas ≡ 1
one_long replicas one = ap (λ (rs : List (Option Publication)). length rs) one.replicas_are

pub among : (names : List (List ℕ)) (replicas : List (Option Publication)) → names ≡ one_name
    → IsNamed replicas → AreAmong names replicas
among names replicas n one =
    let Named : Option Publication → Type 0 =
    λ replica. IfSome replica (λ q. NamesAmong one_name q.rows) in
    subst (λ ns. AreAmong ns replicas) (sym n)
    (subst (AreAmong one_name) (sym one.replicas_are)
    (All-cons Named (Some one.published) [] one.named (All-nil Named)))

pub new_core : {S : Type 0} (o : Opening) (live : ℕ) (core : CoreState)
    (result : Result CoreState (StartNo × S)) → result ≡ Ok core → Starts {S = S} o 6 result
    → o.names ≡ one_name → IsNamed o.replicas → o.reloads ≡ 0 ∷ (0 ∷ []) → IsLiveCount o.rows live
    → IsNewCore core
new_core {S} o live core result is starts named one two count =
    let at : Starts {S = S} o 6 (Ok core) =
    subst (λ (r : Result CoreState (StartNo × S)). Starts {S = S} o 6 r) is starts in record {
      names = ap (λ (c : CoreState). c.opening.names) at.1 ∙ named;
      replicas_are = ap (λ (c : CoreState). length c.opening.replicas) at.1
          ∙ one_long o.replicas one;
      reloads_are = ap (λ (c : CoreState). c.opening.reloads) at.1 ∙ two;
      live = live;
      live_is = subst (λ (c : CoreState). IsLiveCount c.opening.rows live) (sym at.1) count;
      history = ap (λ (c : CoreState). c.history) at.1;
      room_is = ap (λ (c : CoreState). c.room) at.1;
    }
