-- What happens to the keys of a worker's bench, line after line.
use Rattle.std.proofs.Common.{◌≡◌, ℕ, Bool, true, false, List, [], ◌∷◌, ◌++◌, map, Option, None, refl, sym, subst, append-nil}
use Rattle.std.specs.Prelude.{if◌then◌else◌}
use Rattle.kr_base.specs.Walks.{Walk}
use Rattle.kr_kms.specs.Calls.{Link}
use Rattle.kr_kms.specs.Exchanges.{Exchange}
use Rattle.kr_provider.specs.BenchKeys.{HoldsExactly}
use Rattle.kr_provider.specs.BenchState.{Adoption}
use Rattle.kr_provider.proofs.FollowedPages.{holds_none}
use Rattle.kr_rollout.specs.declared.opening.Entry.{Entry}
use Rattle.kr_rollout.specs.Callers.{holding}
use Rattle.kr_history.specs.Acting.{Caller}
use Rattle.kr_history.specs.KeyMoments.{Happens, Moment, Said, moments_of}
use Rattle.kr_history.proofs.KeyMoments.{in_turn_same, keys_at_each_moment, moments_by}
use Rattle.kr_workers.specs.KeyLaws.{WorkersHoldTheirKeys}
use Rattle.kr_workers.specs.LineMoments.{HoldsItsKeys, line_moments, run_moments, adopts_published}
use Rattle.kr_workers.specs.Runs.{LineDone}
use Rattle.kr_workers.specs.inner.Serving.{MovesKeys}

-- nothing was done
pub moves_nothing : (takes : Bool) (c : Caller) (keys : Adoption) → holding c.mine ≡ None
    → MovesKeys takes c keys c keys
moves_nothing true c keys idle = (in_turn_same c keys idle).happens
moves_nothing false c keys idle = refl

-- around entries nothing happens
said_still : (part : List Entry) (keys : Adoption) → Walk Happens keys (map Said part) keys
said_still [] keys = refl
said_still (e ∷ part) keys = (keys, refl, said_still part keys)

by_takes : (takes : Bool) (old new : Caller) (part : List Entry) (before after : Adoption)
    → new.mine ≡ old.mine ++ part → holding new.mine ≡ None
    → MovesKeys takes old before new after
    → Walk Happens before (if takes then moments_of part else map Said part) after
by_takes true old new part before after mine idle moves =
    moments_by old new part before after mine idle moves
by_takes false old new part before after mine idle same =
    subst (λ k. Walk Happens before (map Said part) k) (sym same) (said_still part before)

-- behind the same moments others lead elsewhere
behind : (moments rest more : List Moment) (from between after : Adoption)
    → ((start : Adoption) → Walk Happens start rest between → Walk Happens start more after)
    → Walk Happens from (moments ++ rest) between → Walk Happens from (moments ++ more) after
behind [] rest more from between after so walk = so from walk
behind (moment ∷ moments) rest more from between after so walk =
    (walk.0, walk.1, behind moments rest more walk.0 between after so walk.2)

-- a line was done behind others
pub moves_on : (run : List LineDone) (done : LineDone) (old new : Caller)
    (before between after : Adoption) → new.mine ≡ old.mine ++ done.part
    → holding new.mine ≡ None → Walk Happens before (run_moments run) between
    → MovesKeys (adopts_published done.line) old between new after
    → Walk Happens before (run_moments (run ++ done ∷ [])) after
moves_on [] done old new before between after mine idle walk moves =
    subst (λ moments. Walk Happens before moments after)
    (sym (append-nil (line_moments done.line done.part)))
    (subst (λ k. Walk Happens k (line_moments done.line done.part) after) walk
    (by_takes (adopts_published done.line) old new done.part between after mine idle moves))
moves_on (first ∷ run) done old new before between after mine idle walk moves =
    behind (line_moments first.line first.part) (run_moments run) (run_moments (run ++ done ∷ []))
    before between after
    (λ from walked. moves_on run done old new from between after mine idle walked moves) walk

-- ---- at every moment

pub holds_its_keys : (size : ℕ) (before : Adoption) (moments : List Moment) (after : Adoption)
    → HoldsExactly size None before → Walk Happens before moments after
    → HoldsItsKeys size before moments after
holds_its_keys size before moments after holds walk = record {
  meanwhile = λ front rest now is walked.
      keys_at_each_moment size None before front now holds walked;
  at_end = keys_at_each_moment size None before moments after holds walk;
}

pub workers_hold : (T : Type 0) {L D : Type 0} (link : L → Link)
    (step : L → Exchange → L → Type 0) (left : D → Option (List ℕ)) (count : D → ℕ)
    → WorkersHoldTheirKeys T link step left count
workers_hold T link step left count files history o parts budgets old new one i part worker
    below size none pages = holds_its_keys size _ _ _ (holds_none size _ none pages)
    (one.keys i part worker below)
