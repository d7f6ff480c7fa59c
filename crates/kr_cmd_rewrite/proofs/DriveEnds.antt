-- How the last step of a drive over a caller that is alone ended.
use Rattle.std.proofs.Common.{◌≡◌, ℕ, ◌+◌, ◌*◌, ◌<◌, ◌≤◌, List, [], ◌∷◌, length, Bool, true, false, Option, Some, Result, Ok, Err, refl, sym, ◌∙◌, ap, subst, inl, inr, arith}
use Rattle.std.specs.Prelude.{Contains, ◌⊎◌}
use Rattle.kr_base.specs.Limits.{store_limit}
use Rattle.kr_kms.specs.Calls.{Link}
use Rattle.kr_kms.specs.Exchanges.{Exchange}
use Rattle.kr_provider.specs.Names.{AreDistinct}
use Rattle.kr_provider.specs.Publication.{Publication}
use Rattle.kr_provider.specs.declared.refusal.Opened.{Opened}
use Rattle.kr_provider.specs.declared.refusal.SealNo.{SealNo}
use Rattle.kr_provider.specs.declared.refusal.SealNo.TheVariants as seal
use Rattle.kr_provider.specs.declared.refusal.UnsealNo.{UnsealNo}
use Rattle.kr_provider.specs.declared.refusal.UnsealNo.TheVariants as unseal
use Rattle.kr_store.specs.Stores.{IsNext}
use Rattle.kr_store.specs.declared.rows.Row.{Row}
use Rattle.kr_rollout.specs.declared.answer.Answer.{Answer}
use Rattle.kr_rollout.specs.declared.answer.Answer.TheVariants as answer
use Rattle.kr_history.specs.declared.call.CallNo.{CallNo}
use Rattle.kr_history.specs.declared.call.CallNo.TheVariants as no
use Rattle.kr_rollout.specs.declared.event.Event.TheVariants as event
use Rattle.kr_rollout.specs.declared.line.Did.TheVariants as did
use Rattle.kr_rollout.specs.declared.opening.Opening.{Opening}
use Rattle.kr_history.specs.Acting.{Caller, AddsEntry}
use Rattle.kr_rollout.specs.Callers.{gave_of, holding}
use Rattle.kr_history.specs.Calls.{AdoptsNothing, LetsGo}
use Rattle.kr_rollout.specs.Histories.{state_of}
use Rattle.kr_rollout.specs.Steps.{HidesNoFault, new_rows}
use Rattle.kr_rewrite.specs.DriveExchanges.{Ahead, ReadsRow}
use Rattle.kr_rewrite.specs.Rewrites.{FindsNextOver, FindsNone, IsStepOver, ReplacesBy, ResealsBy, RewritesBy, RewritesData, RewritesOver, StepsOver, unsealed_step}
use Rattle.kr_rewrite.specs.declared.outcome.Step.{Step}
use Rattle.kr_rewrite.specs.declared.outcome.Step.TheVariants as step
use Rattle.kr_cmd_steps.specs.Environment.{Environment}
use Rattle.kr_cmd_steps.specs.RewriteSteps.{Progress}
use Rattle.kr_cmd_rewrite.specs.inner.Rewriting.{MayCutShort}
use Rattle.kr_cmd_rewrite.proofs.DriveSteps.{Acts_so, IsDriven, acted_left, acted_lone, acts_so, adopted_count, adopted_lone, adopted_rows, found_count, found_holds, found_lone, found_rows, is_first, is_it, is_next, none_left, passes_by, rows_same}
use Rattle.kr_cmd_rewrite.proofs.LoneCallers.{IsLone, faults_next, lone_next, not_gone}
use Rattle.kr_cmd_rewrite.proofs.RowDrives.{not_err, same_why}

-- ---- why a rewrite of a row is cut short

-- a plugin that failed is one of these
module _ {D : Type 0} (names : List (List ℕ)) (left : D → Option (List ℕ)) (count : D → ℕ)
    (p : Publication) (row : Row) (found acted : Caller) (olds news : Ahead) (dice after : D)
    (why : CallNo) (named : (plugin : List ℕ) → why ≡ no.PluginFailed plugin
    → Contains names plugin) (unspent : 0 < found.left) where
  abbrev May : CallNo → Type 0
  May cause = MayCutShort names cause

  may_seal : (reason : SealNo)
      → ◌≡◌ {A = Result Step CallNo} (Err why) (unsealed_step row.path reason) → May why
  may_seal seal.LooksEncrypted e = not_err (step.Left row.path) why (sym e)
  may_seal (seal.TooLarge size) e = not_err (step.Left row.path) why (sym e)
  may_seal seal.DiceFailed e = subst May (same_why why no.DiceFailed e) tt
  may_seal seal.NoMemory e = subst May (same_why why no.NoMemory e) tt

  may_replace : (given : Answer) → ReplacesBy row.path given (Err why) → May why
  may_replace answer.StoreFailed d = subst May (same_why why no.StoreFailed d) tt
  may_replace (answer.StoreFull needed) d = subst May (same_why why (no.StoreFull needed) d) tt
  may_replace answer.NoMemory d = subst May (same_why why no.NoMemory d) tt
  may_replace (answer.Written n) d = not_err (step.Rewritten row.path) why (sym d)
  may_replace (answer.Changed last) d = not_err (step.Changed row.path) why (sym d)
  may_replace other d = absurd d

  may_reseal : (plain : List ℕ) (sealed : Result (List ℕ) SealNo)
      → ResealsBy p row plain sealed found (Err why) acted → May why
  may_reseal plain (Ok stored) (inl r) = may_replace r.given r.answers
  may_reseal plain (Ok stored) (inr n) =
      let e = n.0.spent in absurd (omega (arith, e, unspent))
  may_reseal plain (Err reason) r = may_seal reason r.0

  may_data : (plain : List ℕ) (stale : Bool)
      → RewritesData left count p row plain stale found dice (Err why) acted after → May why
  may_data plain false r = not_err (step.Fresh row.path) why (sym r.0)
  may_data plain true (inl r) = may_reseal plain r.sealed r.reseals
  may_data plain true (inr r) = subst May (same_why why no.NoMemory r.0) tt

  may_open : (opened : Result Opened UnsealNo)
      → ReadsRow p row olds opened news
      → RewritesBy left count p row opened found dice (Err why) acted after → May why
  may_open (Ok opened) u r = may_data opened.plain opened.stale r
  may_open (Err (unseal.Refused reason)) u r = not_err (step.Left row.path) why (sym r.0)
  may_open (Err (unseal.PluginFailed plugin)) u r =
      let is = same_why why (no.PluginFailed plugin) r.0 in
      subst May is (named plugin (sym is))
  may_open (Err unseal.NoMemory) u r = subst May (same_why why no.NoMemory r.0) tt

  pub may_rewrite : RewritesOver ReadsRow left count p row found olds dice (Err why) acted news after
      → May why
  may_rewrite (inl r) = may_open r.opened r.unseals r.rewrites
  may_rewrite (inr n) = subst May (same_why why no.NoMemory n.0.0) tt

-- nothing was written then
none_written : (path : List ℕ) (revision : ℕ) (given : Answer) (why : CallNo)
    → ReplacesBy path given (Err why) → (found : Option Row)
    → new_rows (gave_of given) (did.Replace path revision) found ≡ []
none_written path revision (answer.Written n) why d found =
    not_err (step.Rewritten path) why (sym d)
none_written path revision other why d found = refl

cut_rows : (o : Opening) (p : Publication) (one : o.reloads ≡ 0 ∷ []) (row : Row)
    (found acted : Caller) (why : CallNo) → IsLone o p found
    → Acts_so row found (Err why) acted
    → (state_of o acted.seen).rows ≡ (state_of o found.seen).rows
cut_rows o p one row found acted why lone (inl same) =
    ap (λ (c : Caller). (state_of o c.seen).rows) same
cut_rows o p one row found acted why lone (inr (stored, given, a, by)) =
    rows_same o p one found acted (event.Replace row.path row.revision stored) given lone a
    (none_written row.path row.revision given why by)

-- unless the write of a row failed
abbrev pub Unfailed : CallNo → Type 0 → Type 0
Unfailed no.StoreFailed P = Unit {0}
Unfailed why P = P

pub unfailed : {P : Type 0} (why : CallNo) → P → Unfailed why P
unfailed no.StoreFailed h = tt
unfailed why h = h

pub unfailed_so : {P Q : Type 0} (why : CallNo) → (P → Q) → Unfailed why P → Unfailed why Q
unfailed_so no.StoreFailed so h = tt
unfailed_so why so h = so h

failed_count : (path : List ℕ) (given : Answer) (why : CallNo) (before now : ℕ)
    → ReplacesBy path given (Err why) → HidesNoFault (gave_of given) before now
    → Unfailed why (now ≡ before)
failed_count path answer.StoreFailed why before now by hides =
    subst (λ w. Unfailed w (now ≡ before)) (same_why why no.StoreFailed by) tt
failed_count path given why before now by hides = unfailed why hides

cut_count : (o : Opening) (p : Publication) (one : o.reloads ≡ 0 ∷ []) (row : Row)
    (found acted : Caller) (why : CallNo) → IsLone o p found → Acts_so row found (Err why) acted
    → Unfailed why ((state_of o acted.seen).count ≡ (state_of o found.seen).count)
cut_count o p one row found acted why lone (inl same) =
    unfailed why (ap (λ (c : Caller). (state_of o c.seen).count) same)
cut_count o p one row found acted why lone (inr (stored, given, a, by)) =
    failed_count row.path given why (state_of o found.seen).count (state_of o acted.seen).count by
    (faults_next o p one found acted (event.Replace row.path row.revision stored) given lone a)

-- ---- the last step

-- where no row was looked for, or none was found, an entry may still be added
none_leaves : (above : List ℕ) (adopted acted : Caller) (done : Result Step CallNo)
    → 2 ≤ adopted.left → FindsNone above adopted done acted → 0 < acted.left
none_leaves above adopted acted (Ok step.End) l n = let e = n.left_is in omega (arith, e, l)
none_leaves above adopted acted (Err no.NoMemory) l n = let e = n.left_is in omega (arith, e, l)
none_leaves above adopted acted (Err no.Spent) l n =
    let e = n.spent in absurd (omega (arith, e, l))
none_leaves above adopted acted other l n = absurd n

module _ {D : Type 0} (all : List Exchange) (left : D → Option (List ℕ))
    (count : D → ℕ) (o : Opening) (p : Publication) (one : o.reloads ≡ 0 ∷ []) (above : List ℕ)
    (rows : List Row) (at : Progress) (old new : Caller) (olds news : Ahead) (dice after : D)
    (driven : IsDriven all o p above rows at old olds)
    (room : 4 * length rows + 3 ≤ old.left) where
  -- memory lacked between two calls
  pub record LacksAmid (why : CallNo) : Type 0 where
    pub why_is : why ≡ no.NoMemory
    pub news_are : news ≡ olds
    pub after_is : after ≡ dice
    pub rows_stay : (state_of o new.seen).rows ≡ at.store.rows
    pub count_stays : (state_of o new.seen).count ≡ o.count

  -- or a row's rewrite was cut short
  pub record CutsRow (why : CallNo) : Type 0 where
    pub row : Row
    pub rest : List Row
    pub number : ℕ
    pub found : Caller
    pub acted : Caller
    pub rows_are : rows ≡ row ∷ rest
    pub lone : IsLone o p found
    pub holds : holding found.mine ≡ Some (number, p)
    pub same_rows : (state_of o found.seen).rows ≡ at.store.rows
    pub same_count : (state_of o found.seen).count ≡ o.count
    pub is_next : IsNext at.store.rows above (Some row)
    pub unspent : 0 < found.left
    pub rewrites : RewritesOver ReadsRow left count p row found olds dice (Err why) acted news after
    pub lets : AddsEntry acted event.LetGo answer.Released new

  abbrev pub Cuts : CallNo → Type 0
  Cuts why = LacksAmid why ⊎ CutsRow why

  early : (why : CallNo) → AdoptsNothing 0 old why new → news ≡ olds → after ≡ dice → Cuts why
  early no.NoMemory (inl same) l d = inl (record {
    why_is = refl;
    news_are = l;
    after_is = d;
    rows_stay = ap (λ (c : Caller). (state_of o c.seen).rows) same ∙ driven.rows_are;
    count_stays = ap (λ (c : Caller). (state_of o c.seen).count) same ∙ driven.unfailed;
  })
  early no.NoMemory (inr a) l d = inl (record {
    why_is = refl;
    news_are = l;
    after_is = d;
    rows_stay = rows_same o p one old new (event.Adopt 0) answer.NoMemory driven.lone a
        (λ found. refl) ∙ driven.rows_are;
    count_stays = faults_next o p one old new (event.Adopt 0) answer.NoMemory driven.lone a
        ∙ driven.unfailed;
  })
  early no.Spent n l d = let e = n.spent in absurd (omega (arith, e, room))
  early no.Gone a l d = absurd (not_gone o p one old new driven.lone a)
  early other a l d = absurd a

  module _ (number : ℕ) (q : Publication) (adopted : Caller)
      (adopts : AddsEntry old (event.Adopt 0) (answer.Adopted number q) adopted) where
    enough : 4 * length rows + 2 ≤ adopted.left
    enough = let e = adopts.left_is in omega (arith, e, room)

    alone : IsLone o p adopted
    alone = adopted_lone all o p one above rows at old olds driven number q adopted adopts

    rows_now : (state_of o adopted.seen).rows ≡ at.store.rows
    rows_now = adopted_rows all o p one above rows at old olds driven number q adopted adopts

    count_now : (state_of o adopted.seen).count ≡ o.count
    count_now = adopted_count all o p one above rows at old olds driven number q adopted adopts

    it_is : p ≡ q
    it_is = is_it all o p one above rows at old olds driven number q adopted adopts

    let_rows : (acted : Caller) → IsLone o p acted
        → (state_of o acted.seen).rows ≡ at.store.rows
        → AddsEntry acted event.LetGo answer.Released new
        → (state_of o new.seen).rows ≡ at.store.rows
    let_rows acted lone same lets =
        rows_same o p one acted new event.LetGo answer.Released lone lets (λ found. refl) ∙ same

    let_count : (acted : Caller) → IsLone o p acted
        → (state_of o acted.seen).count ≡ o.count
        → AddsEntry acted event.LetGo answer.Released new
        → (state_of o new.seen).count ≡ o.count
    let_count acted lone same lets =
        faults_next o p one acted new event.LetGo answer.Released lone lets ∙ same

    not_found : (why : CallNo) (acted : Caller) → FindsNone above adopted (Err why) acted
        → news ≡ olds → after ≡ dice → AddsEntry acted event.LetGo answer.Released new
        → Cuts why
    not_found no.NoMemory acted a l d lets = inl (record {
      why_is = refl;
      news_are = l;
      after_is = d;
      rows_stay = let_rows acted
          (lone_next o p one adopted acted (event.After above) answer.NoMemory alone a tt)
          (rows_same o p one adopted acted (event.After above) answer.NoMemory alone a
          (λ found. refl) ∙ rows_now) lets;
      count_stays = let_count acted
          (lone_next o p one adopted acted (event.After above) answer.NoMemory alone a tt)
          (faults_next o p one adopted acted (event.After above) answer.NoMemory alone a
          ∙ count_now) lets;
    })
    not_found no.Spent acted n l d lets =
        let e = n.spent in absurd (omega (arith, e, enough))
    not_found other acted n l d lets = absurd n

    -- what is left once a row was found
    found_left : (row : Row) (found : Caller)
        → AddsEntry adopted (event.After above) (answer.Found row) found → 5 ≤ found.left
    found_left row found finds =
        let first = is_first all o p one above rows at old olds driven number q adopted adopts row
        found finds in
        let n = ap length first.1 in
        let e = finds.left_is in omega (arith, e, n, enough)

    cut_row : (why : CallNo) (acted : Caller)
        → FindsNextOver ReadsRow left count p above adopted olds dice (Err why) acted news after
        → AddsEntry acted event.LetGo answer.Released new → Cuts why
    cut_row why acted f lets =
        let first = is_first all o p one above rows at old olds driven number q adopted adopts
        f.row f.found f.finds in
        let some = found_left f.row f.found f.finds in
        inr (record {
          row = f.row;
          rest = first.0;
          number = number;
          found = f.found;
          acted = acted;
          rows_are = first.1;
          lone = found_lone all o p one above rows at old olds driven number q adopted adopts f.row
              f.found f.finds;
          holds = found_holds all o p one above rows at old olds driven number q adopted adopts
              f.row f.found f.finds;
          same_rows = found_rows all o p one above rows at old olds driven number q adopted adopts
              f.row f.found f.finds;
          same_count = found_count all o p one above rows at old olds driven number q adopted
              adopts f.row f.found f.finds;
          is_next = is_next all o p one above rows at old olds driven number q adopted adopts f.row
              f.found f.finds;
          unspent = omega (arith, some);
          rewrites = f.rewrites;
          lets = lets;
        })

    -- a further entry could be added
    not_spent : (done : Result Step CallNo) (acted : Caller)
        → StepsOver ReadsRow left count q above adopted olds dice done acted news after
        → 0 < acted.left
    not_spent done acted (inl n) = none_leaves above adopted acted done (omega (arith, enough)) n.0
    not_spent done acted (inr f) =
        let some = found_left f.row f.found f.finds in
        let most = acted_left f.row f.found acted done (acts_so left count q f.row
        f.found acted olds news dice after done f.rewrites) in omega (arith, some, most)

    as_it : (result : Result Step CallNo) (acted : Caller)
        → FindsNextOver ReadsRow left count q above adopted olds dice result acted news after
        → FindsNextOver ReadsRow left count p above adopted olds dice result acted news after
    as_it result acted f =
        subst (λ x. FindsNextOver ReadsRow left count x above adopted olds dice result acted news
        after) (sym it_is) f

    cut_by : (why : CallNo) (acted : Caller)
        → StepsOver ReadsRow left count q above adopted olds dice (Err why) acted news after
        → AddsEntry acted event.LetGo answer.Released new → Cuts why
    cut_by why acted (inl n) lets = not_found why acted n.0 n.1 n.2 lets
    cut_by why acted (inr f) lets = cut_row why acted (as_it (Err why) acted f) lets

    cut_let : (why : CallNo) (done : Result Step CallNo) (acted : Caller)
        → StepsOver ReadsRow left count q above adopted olds dice done acted news after
        → LetsGo acted done (Err why) new → Cuts why
    cut_let why done acted d (inl g) = cut_by why acted
        (subst (λ r. StepsOver ReadsRow left count q above adopted olds dice r acted news after)
        (sym g.1) d) g.0
    cut_let why done acted d (inr n) =
        let e = n.0.spent in
        let some = not_spent done acted d in absurd (omega (arith, e, some))

  pub cuts : (why : CallNo)
      → IsStepOver ReadsRow left count 0 above old olds dice (Err why) new news after → Cuts why
  cuts why (inl n) = early why n.0 n.1.0 n.1.1
  cuts why (inr h) = cut_let h.number h.p h.adopted h.adopts why h.done h.acted h.does h.lets_go

  pub may_cut : (names : List (List ℕ)) (why : CallNo)
      → ((plugin : List ℕ) → why ≡ no.PluginFailed plugin → Contains names plugin) → Cuts why
      → MayCutShort names why
  may_cut names why named (inl n) = subst (MayCutShort names) (sym n.why_is) tt
  may_cut names why named (inr r) = may_rewrite names left count p r.row r.found r.acted olds news
      dice after why named r.unspent r.rewrites

  pub cut_keeps : (why : CallNo) → Cuts why → (state_of o new.seen).rows ≡ at.store.rows
  cut_keeps why (inl n) = n.rows_stay
  cut_keeps why (inr r) =
      let so = acts_so left count p r.row r.found r.acted olds news dice after (Err why)
      r.rewrites in
      rows_same o p one r.acted new event.LetGo answer.Released
      (acted_lone o p one r.row r.found r.acted (Err why) r.lone so) r.lets (λ found. refl)
      ∙ cut_rows o p one r.row r.found r.acted why r.lone so ∙ r.same_rows

  pub cut_counts : (why : CallNo) → Cuts why
      → Unfailed why ((state_of o new.seen).count ≡ o.count)
  cut_counts why (inl n) = unfailed why n.count_stays
  cut_counts why (inr r) =
      let so = acts_so left count p r.row r.found r.acted olds news dice after (Err why)
      r.rewrites in
      let lets = faults_next o p one r.acted new event.LetGo answer.Released
      (acted_lone o p one r.row r.found r.acted (Err why) r.lone so) r.lets in
      unfailed_so why (λ same. lets ∙ same ∙ r.same_count)
      (cut_count o p one r.row r.found r.acted why r.lone so)

  -- ---- the end

  pub record Closes : Type 0 where
    pub none : rows ≡ []
    pub news_are : news ≡ olds
    pub after_is : after ≡ dice
    pub rows_stay : (state_of o new.seen).rows ≡ at.store.rows
    pub count_stays : (state_of o new.seen).count ≡ o.count

  module _ {L : Type 0} (link : L → Link) (links : List L) (distinct : AreDistinct link links)
      (limit_is : o.limit ≡ store_limit) (a : Environment) where
    close_by : (number : ℕ) (q : Publication) (adopted acted : Caller)
        → AddsEntry old (event.Adopt 0) (answer.Adopted number q) adopted
        → StepsOver ReadsRow left count q above adopted olds dice (Ok step.End) acted news after
        → AddsEntry acted event.LetGo answer.Released new → Closes
    close_by number q adopted acted adopts (inl n) lets =
        let lone = alone number q adopted adopts in record {
          none = none_left all o p one above rows at old olds driven number q adopted adopts acted
              n.0;
          news_are = n.1;
          after_is = n.2;
          rows_stay = let_rows number q adopted adopts acted
              (lone_next o p one adopted acted (event.After above) answer.Absent lone n.0 tt)
              (rows_same o p one adopted acted (event.After above) answer.Absent lone n.0
              (λ found. refl) ∙ rows_now number q adopted adopts) lets;
          count_stays = let_count number q adopted adopts acted
              (lone_next o p one adopted acted (event.After above) answer.Absent lone n.0 tt)
              (faults_next o p one adopted acted (event.After above) answer.Absent lone n.0
              ∙ count_now number q adopted adopts) lets;
        }
    close_by number q adopted acted adopts (inr f) lets = absurd
        ((passes_by link links distinct all left count o p one limit_is [] a 0
        0 above rows at old new olds news dice after driven step.End number q adopted acted adopts
        (as_it number q adopted adopts (Ok step.End) acted f) lets).becomes)

    close_let : (number : ℕ) (q : Publication) (adopted acted : Caller)
        (done : Result Step CallNo)
        → AddsEntry old (event.Adopt 0) (answer.Adopted number q) adopted
        → StepsOver ReadsRow left count q above adopted olds dice done acted news after
        → LetsGo acted done (Ok step.End) new → Closes
    close_let number q adopted acted done adopts d (inl g) = close_by number q adopted acted adopts
        (subst (λ r. StepsOver ReadsRow left count q above adopted olds dice r acted news after)
        (sym g.1) d) g.0
    close_let number q adopted acted done adopts d (inr n) = not_err step.End no.Spent n.1

    pub closes : IsStepOver ReadsRow left count 0 above old olds dice (Ok step.End) new news after
        → Closes
    closes (inl n) = absurd n
    closes (inr h) = close_let h.number h.p h.adopted h.acted h.done h.adopts h.does h.lets_go
