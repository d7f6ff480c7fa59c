-- `start`: a core of one replica.
use Rattle.std.proofs.Common.{◌≡◌, ℕ, List, [], ◌∷◌, Option, Some, Err, refl, sym, ◌∙◌, ap, subst, arith}
use Rattle.std.specs.Prelude.{◌≤◌, IfSome, length}
use Rattle.kr_provider.specs.Publication.{Publication}
use Rattle.kr_rollout.specs.Cores.{CoreState}
use Rattle.kr_rollout.specs.Openings.{AreAmong, NamesAmong, opening_by}
use Rattle.kr_opening.specs.Replicas.{IsFirstIn, settings_of}
use Rattle.kr_opening.specs.Starts.{MayStart}
use Rattle.kr_rollout.specs.CoreStarts.{Starts}
use Rattle.kr_opening.specs.declared.opening_board.StartNo.{StartNo}
use Rattle.kr_opening.specs.declared.opening_board.StartNo.TheVariants as start
use Rattle.kr_store.specs.Stores.{Kept}
use Rattle.kr_cmd_steps.specs.inner.Starts.{start_stop}
use Rattle.kr_cmd_rewrite.specs.inner.Rewriting.{StartsAlone}
use Rattle.kr_cmd_rewrite.proofs.Started.{all_of_one}
use Rattle.kr_cmd_rewrite.proofs.rewriting.start.Goals as goal

pub returns-in-Err-clause-starts : goal.returns-in-Err-clause-starts
returns-in-Err-clause-starts g c = (start.NoMemory, tt, refl)

pub start-requires-clause-first : goal.start-requires-clause-first
start-requires-clause-first g c = subst IsFirstIn (sym c.in-Ok.ensures) refl

pub start-requires-clause-few : goal.start-requires-clause-few
start-requires-clause-few g c =
    subst (λ r. length r ≤ 16) (sym c.in-Ok.ensures) (omega arith)

pub start-requires-clause-room : goal.start-requires-clause-room
start-requires-clause-room g c = (omega arith, c.requires.room.3)

pub start-requires-clause-names : goal.start-requires-clause-names
start-requires-clause-names g c = subst (AreAmong c.args.rollout.names.0) (sym c.in-Ok.ensures)
    (all_of_one (λ replica. IfSome replica
    (λ (p : Publication). NamesAmong c.args.rollout.names.0 p.rows)) (Some c.args.published)
    c.requires.names)

-- a core that begins with these replicas
abbrev begins_with : Kept → List (Option Publication) → (names : List (List ℕ)) → (room : ℕ)
    → CoreState
begins_with store replicas names room = record {
  opening = opening_by store replicas names (0 ∷ []);
  history = [];
  room = room;
}

-- what is known of a start of these replicas
alone_starts : (store : Kept) (p : Publication) (names : List (List ℕ)) (room : ℕ)
    (replicas : List (Option Publication)) (core : CoreState) → replicas ≡ Some p ∷ []
    → MayStart store.rows (settings_of replicas) × (core ≡ begins_with store replicas names room)
    → MayStart store.rows (Some p.rows ∷ [])
    × (core ≡ begins_with store (Some p ∷ []) names room)
alone_starts store p names room replicas core is s = (
  subst (λ r. MayStart store.rows (settings_of r)) is s.0,
  s.1 ∙ ap (λ r. begins_with store r names room) is,
)

alone_fails : {S : Type 0} (store : Kept) (p : Publication) (names : List (List ℕ)) (room : ℕ)
    (replicas : List (Option Publication)) (why : StartNo) (back : S) → replicas ≡ Some p ∷ []
    → Starts {S = S} (opening_by store replicas names (0 ∷ [])) room (Err (why, back))
    → StartsAlone {S = S} store p names room (Err (start_stop why, back))
alone_fails {S} store p names room replicas why back is s = (
  why,
  subst (λ r. Starts {S = S} (opening_by store r names (0 ∷ [])) room (Err (why, back))) is s,
  refl,
)

pub returns-in-Ok-start-clause-starts : goal.returns-in-Ok-start-clause-starts
returns-in-Ok-start-clause-starts g c = alone_starts c.args.rollout.store c.args.published
    c.args.rollout.names.0 c.args.rollout.room c.in-Ok.replicas.0 c.in-Ok-start.core
    c.in-Ok.ensures c.in-Ok-start.ensures.starts

pub returns-in-Err-start-clause-starts : goal.returns-in-Err-start-clause-starts
returns-in-Err-start-clause-starts g c = subst (λ stop. StartsAlone c.args.rollout.store
    c.args.published c.args.rollout.names.0 c.args.rollout.room (Err (stop, c.in-Err-start.store)))
    (sym c.start_stop.ensures)
    (alone_fails c.args.rollout.store c.args.published c.args.rollout.names.0 c.args.rollout.room
    c.in-Ok.replicas.0 c.in-Err-start.why c.in-Err-start.store c.in-Ok.ensures
    c.in-Err-start.ensures.starts)
