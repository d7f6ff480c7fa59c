-- A core over one replica whose configuration names no plugin.
use Rattle.std.proofs.Common.{◌≡◌, ℕ, false, List, [], ◌∷◌, ◌++◌, length, All, Contains, Option, None, Some, Result, Ok, ap, refl, sym, subst, ◌∙◌}
use Rattle.std.specs.Prelude.{IfSome}
use Rattle.std.proofs.lemmas.List.Elements.{All-nil, All-cons}
use Rattle.kr_config.specs.Kept.{ConfigEntry}
use Rattle.kr_provider.specs.Publication.{Publication, names_plugin}
use Rattle.kr_provider.proofs.Lists.{no_names}
use Rattle.kr_rollout.specs.declared.opening.Opening.{Opening}
use Rattle.kr_opening.specs.declared.opening_board.StartNo.{StartNo}
use Rattle.kr_rollout.specs.Cores.{CoreState}
use Rattle.kr_rollout.specs.Openings.{NamesAmong, AreAmong}
use Rattle.kr_opening.specs.Replicas.{IsFirstIn}
use Rattle.kr_rollout.specs.CoreStarts.{Starts}
use Rattle.test_fleet_threads.specs.NewCores.{IsOneBare, IsNewCore}

bare_names : (rows : List ConfigEntry) → names_plugin rows ≡ false → NamesAmong [] rows
bare_names rows e = subst (λ named. All (λ name. Contains [] name) named) (sym (no_names rows e))
    (All-nil (λ name. Contains [] name))

pub one_bare : (p : Publication) (old new : List (Option Publication)) → old ≡ []
    → new ≡ old ++ Some p ∷ [] → names_plugin p.rows ≡ false → IsOneBare new
one_bare p old new none more bare =
    subst IsOneBare (sym (more ∙ ap (λ ps. ps ++ Some p ∷ []) none)) (refl, bare)

pub first_in : (replicas : List (Option Publication)) → IsOneBare replicas → IsFirstIn replicas
first_in [] one = one
first_in (None ∷ rest) one = absurd one
first_in (Some p ∷ rest) one = refl

pub one_long : (replicas : List (Option Publication)) → IsOneBare replicas → length replicas ≡ 1
one_long (Some p ∷ rest) one = ap (λ ps. length (Some p ∷ ps)) one.0
one_long other one = absurd one

bare_among : (replicas : List (Option Publication)) → IsOneBare replicas → AreAmong [] replicas
bare_among (Some p ∷ rest) one =
    subst (λ ps. AreAmong [] (Some p ∷ ps)) (sym one.0)
    (All-cons (λ replica. IfSome replica (λ q. NamesAmong [] q.rows)) (Some p) []
    (bare_names p.rows one.1) (All-nil (λ replica. IfSome replica (λ q. NamesAmong [] q.rows))))
bare_among other one = absurd one

pub among : (names : List (List ℕ)) (replicas : List (Option Publication)) → names ≡ []
    → IsOneBare replicas → AreAmong names replicas
among names replicas none one =
    subst (λ ns. AreAmong ns replicas) (sym none) (bare_among replicas one)

pub new_core : {S : Type 0} (o : Opening) (room : ℕ) (core : CoreState)
    (result : Result CoreState (StartNo × S)) → result ≡ Ok core
    → Starts {S = S} o room result → IsOneBare o.replicas → length o.reloads ≡ 2
    → IsNewCore room core
new_core {S} o room core result is starts one two =
    let at : Starts {S = S} o room (Ok core) =
    subst (λ (r : Result CoreState (StartNo × S)). Starts {S = S} o room r) is starts in record {
      replicas = ap (λ (c : CoreState). length c.opening.replicas) at.1 ∙ one_long o.replicas one;
      seats = ap (λ (c : CoreState). length c.opening.reloads) at.1 ∙ two;
      history = ap (λ (c : CoreState). c.history) at.1;
      room_is = ap (λ (c : CoreState). c.room) at.1;
    }
