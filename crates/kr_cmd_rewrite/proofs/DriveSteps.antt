-- One step of a drive over a caller that is alone: the row that it found, and how it ended.
use Rattle.std.proofs.Common.{◌≡◌, ℕ, ◌+◌, ◌≤◌, List, [], ◌∷◌, Bool, true, false, Option, None, Some, Result, Ok, Err, refl, sym, ◌∙◌, ap, subst, inl, inr, arith}
use Rattle.std.specs.Prelude.{◌⊎◌}
use Rattle.kr_base.specs.Limits.{store_limit}
use Rattle.kr_kms.specs.Calls.{Link}
use Rattle.kr_kms.specs.Exchanges.{Exchange}
use Rattle.kr_provider.specs.Names.{AreDistinct}
use Rattle.kr_provider.specs.Publication.{Publication}
use Rattle.kr_provider.specs.declared.refusal.Opened.{Opened}
use Rattle.kr_provider.specs.declared.refusal.SealNo.{SealNo}
use Rattle.kr_provider.specs.declared.refusal.UnsealNo.{UnsealNo}
use Rattle.kr_store.specs.Laws.{FollowEachOther}
use Rattle.kr_store.specs.Stores.{IsNext}
use Rattle.kr_store.specs.declared.rows.Row.{Row}
use Rattle.kr_rollout.specs.declared.answer.Answer.{Answer}
use Rattle.kr_rollout.specs.declared.answer.Answer.TheVariants as answer
use Rattle.kr_history.specs.declared.call.CallNo.{CallNo}
use Rattle.kr_history.specs.declared.call.CallNo.TheVariants as no
use Rattle.kr_rollout.specs.declared.event.Event.{Event}
use Rattle.kr_rollout.specs.declared.event.Event.TheVariants as event
use Rattle.kr_rollout.specs.declared.opening.Opening.{Opening}
use Rattle.kr_history.specs.Acting.{Caller, AddsEntry}
use Rattle.kr_rollout.specs.Callers.{did_of, gave_of, holding}
use Rattle.kr_history.specs.Calls.{LetsGo}
use Rattle.kr_rollout.specs.Histories.{state_of}
use Rattle.kr_rollout.specs.Steps.{HidesNoFault, new_rows}
use Rattle.kr_history.proofs.Following.{adopted_law}
use Rattle.kr_history.proofs.KeptByEvents.{holds_still}
use Rattle.kr_rewrite.specs.Drives.{FindsRow, path_of}
use Rattle.kr_rewrite.specs.DriveExchanges.{Ahead, ReadsRow}
use Rattle.kr_rewrite.specs.Rewrites.{FindsNextOver, FindsNone, IsStepOver, ReplacesBy, ResealsBy, RewritesBy, RewritesData, RewritesOver, StepsOver}
use Rattle.kr_rewrite.specs.declared.outcome.Step.{Step}
use Rattle.kr_rewrite.specs.declared.outcome.Step.TheVariants as step
use Rattle.kr_cmd_steps.specs.Environment.{Environment, with_exchanges}
use Rattle.kr_cmd_steps.specs.RewriteSteps.{Progress, row_anew, row_steps}
use Rattle.kr_cmd_steps.specs.inner.Phases.{Does}
use Rattle.kr_cmd_rewrite.proofs.LiveRows.{none_next, one_next, still_follows}
use Rattle.kr_cmd_rewrite.proofs.LoneCallers.{IsLone, adopts_it, faults_next, finds_next, finds_none, lone_next, rows_stay}
use Rattle.kr_cmd_rewrite.proofs.RowDrives.{Becomes, not_err, row_done}
use Rattle.kr_cmd_rewrite.proofs.Said.{All_lent}
use Rattle.kr_cmd_rewrite.proofs.HeardRows.{Follows, follows_next, past}

-- an event that writes no row leaves the rows of a caller that is alone
pub rows_same : (o : Opening) (p : Publication) (one : o.reloads ≡ 0 ∷ []) (old new : Caller)
    (asked : Event) (given : Answer) → IsLone o p old → AddsEntry old asked given new
    → ((found : Option Row) → new_rows (gave_of given) (did_of asked) found ≡ [])
    → (state_of o new.seen).rows ≡ (state_of o old.seen).rows
rows_same o p one old new asked given lone a none = rows_stay o p one old new asked given lone a
    ((λ i. new_rows (a.records.gave_is i) (a.records.did_is i) a.entry.row)
    ∙ none a.entry.row)

-- ---- what a rewrite of a row did with the caller

abbrev pub Acts_so : Row → Caller → Result Step CallNo → Caller → Type 0
Acts_so row found done acted = (acted ≡ found) ⊎ ((stored : List ℕ) × (given : Answer)
    × AddsEntry found (event.Replace row.path row.revision stored) given acted
    × ReplacesBy row.path given done)

module _ {D : Type 0} (left : D → Option (List ℕ)) (count : D → ℕ) (p : Publication) (row : Row)
    (found acted : Caller) (olds news : Ahead) (dice after : D) (done : Result Step CallNo) where
  resealed_so : (plain : List ℕ) (sealed : Result (List ℕ) SealNo)
      → ResealsBy p row plain sealed found done acted → Acts_so row found done acted
  resealed_so plain (Ok stored) (inl r) = inr (stored, r.given, r.replaces, r.answers)
  resealed_so plain (Ok stored) (inr n) = inl n.0.same
  resealed_so plain (Err why) r = inl r.1

  data_so : (plain : List ℕ) (stale : Bool)
      → RewritesData left count p row plain stale found dice done acted after
      → Acts_so row found done acted
  data_so plain false r = inl r.1
  data_so plain true (inl r) = resealed_so plain r.sealed r.reseals
  data_so plain true (inr r) = inl r.1

  opened_so : (opened : Result Opened UnsealNo)
      → RewritesBy left count p row opened found dice done acted after → Acts_so row found done
      acted
  opened_so (Ok opened) r = data_so opened.plain opened.stale r
  opened_so (Err why) r = inl r.1

  pub acts_so : RewritesOver ReadsRow left count p row found olds dice done acted news after
      → Acts_so row found done acted
  acts_so (inl r) = opened_so r.opened r.rewrites
  acts_so (inr n) = inl n.0.1

  pub follows_on : (all : List Exchange) → Follows all olds
      → RewritesOver ReadsRow left count p row found olds dice done acted news after
      → Follows all news
  follows_on all f (inl r) = follows_next all p row olds r.opened news f r.unseals
  follows_on all f (inr n) = subst (Follows all) (sym n.1) f

pub acted_left : (row : Row) (found acted : Caller) (done : Result Step CallNo)
    → Acts_so row found done acted
    → found.left ≤ acted.left + 1
acted_left row found acted done (inl same) =
    let e = ap (λ (c : Caller). c.left) same in omega (arith, e)
acted_left row found acted done (inr (stored, given, a, by)) = let e = a.left_is in omega (arith, e)

-- a row that was replaced, or had changed, failed nothing
replaced_count : (path : List ℕ) (given : Answer) (taken : Step) (before now : ℕ)
    → ReplacesBy path given (Ok taken) → HidesNoFault (gave_of given) before now → now ≡ before
replaced_count path answer.StoreFailed taken before now by hides = not_err taken no.StoreFailed by
replaced_count path given taken before now by hides = hides

acted_count : (o : Opening) (p : Publication) (one : o.reloads ≡ 0 ∷ []) (row : Row)
    (found acted : Caller) (taken : Step) → IsLone o p found → Acts_so row found (Ok taken) acted
    → (state_of o acted.seen).count ≡ (state_of o found.seen).count
acted_count o p one row found acted taken lone (inl same) =
    ap (λ (c : Caller). (state_of o c.seen).count) same
acted_count o p one row found acted taken lone (inr (stored, given, a, by)) =
    replaced_count row.path given taken (state_of o found.seen).count (state_of o acted.seen).count
    by
    (faults_next o p one found acted (event.Replace row.path row.revision stored) given lone a)

pub acted_lone : (o : Opening) (p : Publication) (one : o.reloads ≡ 0 ∷ []) (row : Row)
    (found acted : Caller) (done : Result Step CallNo) → IsLone o p found
    → Acts_so row found done acted → IsLone o p acted
acted_lone o p one row found acted done lone (inl same) = subst (IsLone o p) (sym same) lone
acted_lone o p one row found acted done lone (inr (stored, given, a, by)) =
    lone_next o p one found acted (event.Replace row.path row.revision stored) given lone a tt

-- ---- where a drive is

-- behind the rows up to this path; no write failed so far
pub record IsDriven (all : List Exchange) (o : Opening) (p : Publication)
    (above : List ℕ) (rows : List Row) (at : Progress) (c : Caller) (s : Ahead) : Type 0 where
  pub lone : IsLone o p c
  pub rows_are : (state_of o c.seen).rows ≡ at.store.rows
  pub format_is : at.store.format ≡ o.format
  pub follow : FollowEachOther at.store.rows above rows
  pub follows : Follows all s
  pub unfailed : (state_of o c.seen).count ≡ o.count

-- the configuration was adopted there
module _ (all : List Exchange) (o : Opening) (p : Publication)
    (one : o.reloads ≡ 0 ∷ []) (above : List ℕ) (rows : List Row) (at : Progress) (old : Caller)
    (s : Ahead) (driven : IsDriven all o p above rows at old s) (number : ℕ) (q : Publication)
    (adopted : Caller)
    (adopts : AddsEntry old (event.Adopt 0) (answer.Adopted number q) adopted) where
  pub is_it : p ≡ q
  is_it = adopts_it o p one old adopted driven.lone number q adopts

  pub adopted_lone : IsLone o p adopted
  adopted_lone =
      lone_next o p one old adopted (event.Adopt 0) (answer.Adopted number q) driven.lone adopts tt

  pub adopted_rows : (state_of o adopted.seen).rows ≡ at.store.rows
  adopted_rows = rows_same o p one old adopted (event.Adopt 0) (answer.Adopted number q)
      driven.lone adopts (λ found. refl) ∙ driven.rows_are

  pub adopted_count : (state_of o adopted.seen).count ≡ o.count
  adopted_count = faults_next o p one old adopted (event.Adopt 0) (answer.Adopted number q)
      driven.lone adopts ∙ driven.unfailed

  adopted_holds : holding adopted.mine ≡ Some (number, p)
  adopted_holds = adopted_law old adopted 0 number q adopts
      ∙ ap (λ x. Some (number, x)) (sym is_it)

  -- no row was found
  pub none_left : (acted : Caller) → AddsEntry adopted (event.After above) answer.Absent acted
      → rows ≡ []
  none_left acted a = by rows driven.follow
    where
      none : IsNext at.store.rows above None
      none = subst (λ r. IsNext r above None) adopted_rows
          (finds_none o p one adopted acted adopted_lone above a)

      by : (rows : List Row) → FollowEachOther at.store.rows above rows → rows ≡ []
      by [] f = refl
      by (row ∷ more) f = absurd (none_next at.store.rows above row f.0 none)

  -- this one was found
  module _ (row : Row) (found : Caller)
      (finds : AddsEntry adopted (event.After above) (answer.Found row) found) where
    pub found_lone : IsLone o p found
    found_lone = lone_next o p one adopted found (event.After above) (answer.Found row)
        adopted_lone finds tt

    pub found_rows : (state_of o found.seen).rows ≡ at.store.rows
    found_rows = rows_same o p one adopted found (event.After above) (answer.Found row)
        adopted_lone finds (λ other. refl) ∙ adopted_rows

    pub found_count : (state_of o found.seen).count ≡ o.count
    found_count = faults_next o p one adopted found (event.After above) (answer.Found row)
        adopted_lone finds ∙ adopted_count

    pub found_holds : holding found.mine ≡ Some (number, p)
    found_holds = holds_still adopted found (event.After above) (answer.Found row) tt finds
        ∙ adopted_holds

    pub is_next : IsNext at.store.rows above (Some row)
    is_next = subst (λ r. IsNext r above (Some row)) adopted_rows
        (finds_next o p one adopted found adopted_lone above row finds)

    -- it is the first of those that are left
    pub is_first : (rest : List Row) × (rows ≡ row ∷ rest)
        × FollowEachOther at.store.rows row.path rest
    is_first = by rows driven.follow
      where
        by : (rows : List Row) → FollowEachOther at.store.rows above rows
            → (rest : List Row) × (rows ≡ row ∷ rest)
            × FollowEachOther at.store.rows row.path rest
        by [] f = absurd (none_next at.store.rows above row is_next f)
        by (first ∷ rest) f =
            let same = one_next at.store.rows above first row f.0 is_next in (
              rest,
              ap (λ (r : Row). r ∷ rest) same,
              subst (λ (r : Row). FollowEachOther at.store.rows r.path rest) same f.1,
            )

-- ---- the store behind a row that was passed

module _ (p : Publication) (row : Row) (at next : Progress) where
  pub path_is : (above : List ℕ) (taken : Step) → Becomes p row at next taken
      → path_of above taken ≡ row.path
  path_is above step.End b = absurd b
  path_is above (step.Changed path) b = absurd b
  path_is above other b = b.0

  pub same_format : (taken : Step) → Becomes p row at next taken
      → next.store.format ≡ at.store.format
  same_format (step.Rewritten path) b = ap (λ (n : Progress). n.store.format) b.2
  same_format (step.Fresh path) b = ap (λ (n : Progress). n.store.format) b.1
  same_format (step.Left path) b = ap (λ (n : Progress). n.store.format) b.1
  same_format other b = absurd b

  pub next_follow : (rest : List Row) (taken : Step) → Becomes p row at next taken
      → FollowEachOther at.store.rows row.path rest
      → FollowEachOther next.store.rows row.path rest
  next_follow rest (step.Rewritten path) b f =
      subst (λ (n : Progress). FollowEachOther n.store.rows row.path rest) (sym b.2)
      (still_follows at.store.rows (row_anew at.store.format p row b.1) row.path rest
      (λ q less. less) f)
  next_follow rest (step.Fresh path) b f =
      subst (λ (n : Progress). FollowEachOther n.store.rows row.path rest) (sym b.1) f
  next_follow rest (step.Left path) b f =
      subst (λ (n : Progress). FollowEachOther n.store.rows row.path rest) (sym b.1) f
  next_follow rest other b f = absurd b

-- ---- a step that found a row

module _ {L D : Type 0} (link : L → Link) (links : List L)
    (distinct : AreDistinct link links) (all : List Exchange) (left : D → Option (List ℕ))
    (count : D → ℕ) (o : Opening) (p : Publication) (one : o.reloads ≡ 0 ∷ [])
    (limit_is : o.limit ≡ store_limit) (name : List ℕ) (a : Environment) (drawn m : ℕ)
    (above : List ℕ) (rows : List Row) (at : Progress) (old new : Caller) (olds news : Ahead)
    (dice after : D) (driven : IsDriven all o p above rows at old olds) where
  abbrev Lent : Ahead → D → Environment
  Lent s from =
      All_lent link links (left from) drawn name None m (with_exchanges (past all s) a)

  pub record Passes (taken : Step) : Type 0 where
    pub row : Row
    pub rest : List Row
    pub next : Progress
    pub rows_are : rows ≡ row ∷ rest
    pub does : Does (row_steps name p row olds.cache at) (Lent olds dice) (Lent news after)
        (Ok (next, news.cache))
    pub becomes : Becomes p row at next taken
    pub onward : IsDriven all o p (path_of above taken) rest next new news

  pub passes_by : (taken : Step) (number : ℕ) (q : Publication) (adopted acted : Caller)
      → AddsEntry old (event.Adopt 0) (answer.Adopted number q) adopted
      → FindsNextOver ReadsRow left count p above adopted olds dice (Ok taken) acted news after
      → AddsEntry acted event.LetGo answer.Released new → Passes taken
  passes_by taken number q adopted acted adopts f lets =
      let row = f.row in
      let found = f.found in
      let lone = found_lone all o p one above rows at old olds driven number q adopted adopts row
      found f.finds in
      let same_rows = found_rows all o p one above rows at old olds driven number q adopted adopts
      row found f.finds in
      let holds = found_holds all o p one above rows at old olds driven number q adopted adopts
      row found f.finds in
      let next_is = is_next all o p one above rows at old olds driven number q adopted adopts row
      found f.finds in
      let first = is_first all o p one above rows at old olds driven number q adopted adopts row
      found f.finds in
      let done = row_done link links distinct all left count o p one limit_is name a
      drawn row at found number lone holds same_rows next_is.1 driven.format_is olds news dice
      after acted driven.follows m taken f.rewrites in
      let so = acts_so left count p row found acted olds news dice after (Ok taken)
      f.rewrites in
      let acted_is = acted_lone o p one row found acted (Ok taken) lone so in
      let same_count = found_count all o p one above rows at old olds driven number q adopted
      adopts row found f.finds in record {
        row = row;
        rest = first.0;
        next = done.0;
        rows_are = first.1;
        does = done.2;
        becomes = done.1;
        onward = record {
          lone = lone_next o p one acted new event.LetGo answer.Released acted_is lets tt;
          rows_are = rows_same o p one acted new event.LetGo answer.Released acted_is lets
              (λ other. refl) ∙ done.3;
          format_is = same_format p row at done.0 taken done.1 ∙ driven.format_is;
          follow = subst (λ path. FollowEachOther done.0.store.rows path first.0)
              (sym (path_is p row at done.0 above taken done.1))
              (next_follow p row at done.0 first.0 taken done.1 first.2);
          follows = follows_on left count p row found acted olds news dice after (Ok taken)
              all driven.follows f.rewrites;
          unfailed = faults_next o p one acted new event.LetGo answer.Released acted_is lets
              ∙ acted_count o p one row found acted taken lone so ∙ same_count;
        };
      }

  -- no row was found: the step is the end
  not_end : (taken : Step) (adopted acted : Caller) → FindsRow taken
      → FindsNone above adopted (Ok taken) acted → Passes taken
  not_end step.End adopted acted finds n = absurd finds
  not_end other adopted acted finds n = absurd n

  goes_by : (taken : Step) (number : ℕ) (q : Publication) (adopted acted : Caller)
      → FindsRow taken → AddsEntry old (event.Adopt 0) (answer.Adopted number q) adopted
      → StepsOver ReadsRow left count q above adopted olds dice (Ok taken) acted news after
      → AddsEntry acted event.LetGo answer.Released new → Passes taken
  goes_by taken number q adopted acted finds adopts (inl n) lets =
      not_end taken adopted acted finds n.0
  goes_by taken number q adopted acted finds adopts (inr f) lets =
      passes_by taken number q adopted acted adopts
      (subst (λ x. FindsNextOver ReadsRow left count x above adopted olds dice (Ok taken) acted news
      after) (sym (is_it all o p one above rows at old olds driven number q adopted adopts)) f)
      lets

  let_go : (taken : Step) (done : Result Step CallNo) (number : ℕ) (q : Publication)
      (adopted acted : Caller) → FindsRow taken
      → AddsEntry old (event.Adopt 0) (answer.Adopted number q) adopted
      → StepsOver ReadsRow left count q above adopted olds dice done acted news after
      → LetsGo acted done (Ok taken) new → Passes taken
  let_go taken done number q adopted acted finds adopts d (inl g) =
      goes_by taken number q adopted acted finds adopts
      (subst (λ r. StepsOver ReadsRow left count q above adopted olds dice r acted news after)
      (sym g.1) d) g.0
  let_go taken done number q adopted acted finds adopts d (inr n) = not_err taken no.Spent n.1

  pub passes : (taken : Step) → FindsRow taken
      → IsStepOver ReadsRow left count 0 above old olds dice (Ok taken) new news after
      → Passes taken
  passes taken finds (inl early) = absurd early
  passes taken finds (inr h) = let_go taken h.done h.number h.p h.adopted h.acted finds h.adopts
      h.does h.lets_go
