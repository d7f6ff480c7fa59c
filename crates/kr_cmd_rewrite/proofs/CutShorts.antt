-- Why a drive over a caller that is alone may be cut short.
use Rattle.std.proofs.Common.{◌≡◌, ℕ, ◌+◌, ◌*◌, ◌≤◌, List, [], ◌∷◌, length, Option, None, sym, ap, subst, inl, inr, arith}
use Rattle.std.specs.Prelude.{Contains, ◌⊎◌, ⊤}
use Rattle.kr_base.specs.Limits.{store_limit}
use Rattle.kr_kms.specs.Calls.{Link}
use Rattle.kr_kms.specs.Outside.{Objects, Outside}
use Rattle.kr_kms.specs.Exchanges.{Exchange}
use Rattle.kr_provider.specs.Names.{AreDistinct}
use Rattle.kr_provider.specs.Publication.{Publication}
use Rattle.kr_store.specs.declared.rows.Row.{Row}
use Rattle.kr_history.specs.declared.call.CallNo.{CallNo}
use Rattle.kr_history.specs.declared.call.CallNo.TheVariants as no
use Rattle.kr_rollout.specs.declared.opening.Opening.{Opening}
use Rattle.kr_history.specs.Acting.{Caller}
use Rattle.kr_rewrite.specs.DriveExchanges.{Ahead, ReadsRow}
use Rattle.kr_rewrite.specs.Drives.{CopiesNoPath, IsCutOver, WalksOver, last_of, path_of}
use Rattle.kr_rewrite.specs.declared.outcome.Report.{Report}
use Rattle.kr_rewrite.specs.declared.outcome.Step.{Step}
use Rattle.kr_cmd_steps.specs.Environment.{Environment, around}
use Rattle.kr_cmd_steps.specs.RewriteSteps.{Progress}
use Rattle.kr_cmd_rewrite.specs.inner.Rewriting.{MayCutShort}
use Rattle.kr_cmd_rewrite.proofs.DriveEnds.{cuts, may_cut}
use Rattle.kr_cmd_rewrite.proofs.DriveSteps.{IsDriven, passes}

-- any world will do: what is around has no part in this
none_out : {K V : Type 0} → V → Objects K V
none_out told =
    record { told = λ key. told; faults = λ key. 0; out = λ key. 0; handed = None }

pub nowhere : Outside
nowhere = record {
  file = λ name. None;
  asked = None;
  faults = record { loads = 0; tapes = 0; dice = 0; links = 0 };
  dice = none_out None;
  tapes = none_out None;
  links = none_out None;
}

abbrev anywhere : Environment
anywhere = around nowhere None 0

module _ {L D : Type 0} (link : L → Link) (links : List L)
    (distinct : AreDistinct link links) (all : List Exchange) (left : D → Option (List ℕ))
    (count : D → ℕ) (o : Opening) (p : Publication) (one : o.reloads ≡ 0 ∷ [])
    (limit_is : o.limit ≡ store_limit) where
  -- where some steps came to
  record Walked (above : List ℕ) (steps : List Step) (rows : List Row) (mid : Caller)
      (mids : Ahead) : Type 0 where
    pub rest : List Row
    pub at : Progress
    pub driven : IsDriven all o p (last_of above steps) rest at mid mids
    pub many : length rows ≡ length steps + length rest

  walked : (steps : List Step) (above : List ℕ) (rows : List Row) (at : Progress)
      (old mid : Caller) (olds mids : Ahead) (dice between : D)
      → IsDriven all o p above rows at old olds
      → WalksOver ReadsRow left count 0 above steps old olds dice mid mids between
      → Walked above steps rows mid mids
  walked [] above rows at old mid olds mids dice between driven w = record {
    rest = rows;
    at = at;
    driven = subst (λ c. IsDriven all o p above rows at c mids) (sym w.0)
        (subst (λ s. IsDriven all o p above rows at old s) (sym w.1) driven);
    many = omega arith;
  }
  walked (taken ∷ steps) above rows at old mid olds mids dice between driven w =
      let s = passes link links distinct all left count o p one limit_is [] anywhere
      0 0 above rows at old w.middle olds w.mids dice w.between driven taken w.finds w.goes in
      let more = ap length s.rows_are in
      let t = walked steps (path_of above taken) s.rest s.next w.middle mid w.mids mids w.between
      between s.onward w.behind in
      let many = t.many in record {
        rest = t.rest;
        at = t.at;
        driven = t.driven;
        many = omega (arith, more, many);
      }

  module _ (rows : List Row) (at : Progress) (old new : Caller) (olds news : Ahead)
      (dice after : D) (report : Report) (why : CallNo) (names : List (List ℕ))
      (named : (plugin : List ℕ) → why ≡ no.PluginFailed plugin → Contains names plugin)
      (driven : IsDriven all o p [] rows at old olds)
      (room : 4 * length rows + 3 ≤ old.left) where
    pub may_stop :
        IsCutOver ReadsRow (λ from to. ⊤) left count 0 [] old olds dice why report new news after
        ⊎ CopiesNoPath old olds dice why report new news after
        → MayCutShort names why
    may_stop (inl d) =
        let e = d.ends in
        let w = walked d.steps [] rows at old e.middle olds e.mids dice e.between driven e.walks in
        let first = e.walks_few.1.left_is in
        let few = e.walks_few.2.few in
        let many = w.many in
        let enough : 4 * length w.rest + 3 ≤ e.middle.left = omega (arith, first, few, many, room)
        in
        may_cut all left count o p one (last_of [] d.steps) w.rest w.at e.middle new e.mids
        news e.between after w.driven enough names why named
        (cuts all left count o p one (last_of [] d.steps) w.rest w.at e.middle new e.mids
        news e.between after w.driven enough why e.ends)
    may_stop (inr n) = subst (MayCutShort names) (sym n.why_is) tt
