-- What `refresh` brings, and that it is never refused.
use Rattle.std.specs.Prelude.{Contains}
use Rattle.std.proofs.Common.{◌≡◌, inr, ℕ, Bool, true, List, ◌++◌, Option, None, Some, Result, Ok, Err, refl, sym, ap, subst, ◌∙◌}
use Rattle.std.proofs.lemmas.Option.{none-some}
use Rattle.kr_config.specs.Kept.{ConfigEntry, plugins_in}
use Rattle.kr_kms.specs.Calls.{Link}
use Rattle.kr_kms.specs.declared.seeds.SeedRow.{SeedRow}
use Rattle.kr_provider.specs.AskedLinks.{AskedOnly}
use Rattle.kr_provider.specs.Publication.{IsPublished, Publication}
use Rattle.kr_provider.specs.Publishing.{Publishes}
use Rattle.kr_provider.specs.declared.refusal.PublishNo.{PublishNo}
use Rattle.kr_judge.specs.declared.verdict.Verdict.{Verdict}
use Rattle.kr_rollout.specs.declared.answer.Answer.{Answer}
use Rattle.kr_rollout.specs.declared.answer.Answer.TheVariants as answer
use Rattle.kr_rollout.specs.declared.event.Event.TheVariants as event
use Rattle.kr_opening.specs.declared.generation.Generation.{Generation}
use Rattle.kr_history.specs.Acting.{Caller, AddsEntry, IsCaller}
use Rattle.kr_rollout.specs.Answers.{IsAnswer, Reloads}
use Rattle.kr_rollout.specs.Callers.{gave_of, holding, number_with, with_published}
use Rattle.kr_rollout.specs.Entries.{published_at}
use Rattle.kr_rollout.specs.Histories.{state_of}
use Rattle.kr_rollout.specs.States.{held_by}
use Rattle.kr_rollout.proofs.Holdings.{holding_of}
use Rattle.kr_history.proofs.Judging.{refresh_is_not_refused}
use Rattle.kr_history.specs.Asking.{AsksReload}
use Rattle.kr_history.specs.declared.call.CallNo.{CallNo}
use Rattle.kr_history.specs.declared.outcome.Reloading.{Reloading}
use Rattle.kr_history.specs.declared.outcome.Reloading.TheVariants as reloading
use Rattle.kr_fleet.specs.declared.outcome.Loaded.{Loaded}
use Rattle.kr_fleet.specs.declared.outcome.Loaded.TheVariants as loaded
use Rattle.kr_fleet.specs.CallForms.{BringsWhere, CutShortWhere}
use Rattle.kr_fleet.specs.LoadCalls.{IsKeyChanged, Refreshes, plugin_names, reload_of}
use Rattle.kr_fleet.specs.inner.Stages.{ComparesKeys, SharesPublished, load_done}
use Rattle.kr_provider.proofs.AskedLists.{asked_then}
use Rattle.kr_fleet.proofs.Asked.{asked_among}
use Rattle.kr_fleet.proofs.LoadAnswers.{not_shared, reload_cut}
use Rattle.kr_history.proofs.Nexts.{front_own, legal_now}

-- ---- the generation that is held

abbrev first_part : Option (ℕ × Publication) → ℕ
first_part None = 0
first_part (Some held) = held.0

abbrev second_part : Option (ℕ × Publication) → Option Publication
second_part None = None
second_part (Some held) = Some held.1

held_published : (generations : List Generation) (x : Option ℕ) (number : ℕ) (p : Publication)
    → number_with generations x ≡ Some (number, p)
    → published_at generations (Some number) ≡ Some p
held_published generations None number p e = absurd (none-some (number, p) e)
held_published generations (Some m) number p e =
    by (published_at generations (Some m)) refl e
  where
    by : (y : Option Publication) → published_at generations (Some m) ≡ y
        → with_published m y ≡ Some (number, p) → published_at generations (Some number) ≡ Some p
    by None is same = absurd (none-some (number, p) same)
    by (Some q) is same = subst (λ n. published_at generations (Some n) ≡ Some p)
        (ap first_part same) (is ∙ ap second_part same)

module _ (old new : Caller) (replica number : ℕ) (p q : Publication) (given : Answer)
    (a : AddsEntry old (event.Reload replica q (Some number)) given new) where
  reload_step : Reloads replica q (Some number) (gave_of given)
      (state_of old.opening (old.seen ++ a.others))
  reload_step =
      let st = state_of old.opening (old.seen ++ a.others) in
      let held = a.entry.line.held in
      subst (λ d. IsAnswer d (gave_of given) st held) a.records.did_is
      (subst (λ g. IsAnswer a.entry.line.did g st held) a.records.gave_is a.step.answer)

-- the settings of the generation that is held, where the replica has it still, are never refused
pub not_refused : (old new : Caller) (replica number : ℕ) (p q : Publication) (verdict : Verdict)
    → IsCaller old → holding old.mine ≡ Some (number, p) → q.rows ≡ p.rows
    → AddsEntry old (event.Reload replica q (Some number)) (answer.Refused verdict) new → ⊥
not_refused old new replica number p q verdict k held rows a =
    let asked = event.Reload replica q (Some number) in
    let given = answer.Refused verdict in
    let front = old.seen ++ a.others in
    let st = state_of old.opening front in
    let s = reload_step old new replica number p q given a in
    let at = sym (holding_of old.opening front old.seat a.legal k.seat_in)
    ∙ ap holding (front_own old new asked given a k) ∙ held in
    refresh_is_not_refused old.opening front a.entry replica number q p (Some number) verdict
    (legal_now old new asked given a) a.records.did_is (s.0.1 ∙ ap Some (sym s.0.2))
    (held_published st.generations (held_by st old.seat) number p at) rows a.records.gave_is

-- ---- what is answered

-- what the Reload of the settings that were published anew comes to
module _ (Publishes : Result Publication PublishNo → Type 0) (replica number : ℕ)
    (p : Publication) (old new : Caller) where
  abbrev pub Renewed : Result Loaded CallNo → Type 0
  Renewed (Ok (loaded.Generation made)) =
      BringsWhere Publishes (reload_of replica (Some number)) old (answer.Reloaded made) new
  Renewed (Ok (loaded.Moved current)) =
      BringsWhere Publishes (reload_of replica (Some number)) old (answer.Moved current) new
  Renewed (Ok (loaded.Unchanged same)) = ⊥
  Renewed (Ok (loaded.Refused verdict)) = ⊥
  Renewed (Err why) = CutShortWhere Publishes (reload_of replica (Some number)) replica old why new

  renew_done : (q : Publication) (done : Result Reloading CallNo) → IsCaller old
      → holding old.mine ≡ Some (number, p) → Publishes (Ok q) → q.rows ≡ p.rows
      → AsksReload replica (Some number) q old done new → Renewed (load_done done)
  renew_done q (Ok (reloading.Generation made)) k held w rows a =
      record { p = q; publishes = w; brought = a }
  renew_done q (Ok (reloading.Moved current)) k held w rows a =
      record { p = q; publishes = w; brought = a }
  renew_done q (Ok (reloading.Refused verdict)) k held w rows a =
      absurd (not_refused old new replica number p q verdict k held rows a)
  renew_done q (Err why) k held w rows a =
      reload_cut Publishes old new replica q w (Some number) why a

  pub renew_answered : (q : Publication) (done : Result Reloading CallNo)
      (result : Result Loaded CallNo) → IsCaller old → holding old.mine ≡ Some (number, p)
      → Publishes (Ok q) → q.rows ≡ p.rows
      → AsksReload replica (Some number) q old done new → result ≡ load_done done
      → Renewed result
  renew_answered q done result k held w rows a is =
      subst (λ r. Renewed r) (sym is) (renew_done q done k held w rows a)

module _ {L D : Type 0} (link : L → Link) (left : D → Option (List ℕ))
    (count : D → ℕ) (replica number : ℕ) (p : Publication) (old new : Caller)
    (olds asked news : List L) (dice after : D)
    (links : AskedOnly link (plugin_names p.seeds) olds asked)
    (changed : IsKeyChanged link olds p.seeds) where
  renewed : (result : Result Loaded CallNo) → Renewed
      (λ made. Publishes link left count p.rows asked dice made news after) replica number p
      old new result
      → Refreshes link left count replica number p old olds dice result new news after
  renewed (Ok (loaded.Generation made)) b =
      record { asked = asked; links = links; changed = changed; brought = b }
  renewed (Ok (loaded.Moved current)) b =
      record { asked = asked; links = links; changed = changed; brought = b }
  renewed (Err why) b =
      inr (record { asked = asked; links = links; changed = changed; brought = b })
  renewed (Ok other) b = absurd b

-- ---- behind a comparison of key ids

-- none was asked but the plugins of the configuration
pub compared_asks : {L : Type 0} (link : L → Link) (p : Publication) (seeds : List SeedRow)
    (olds mids : List L) → seeds ≡ p.seeds → AskedOnly link (plugin_names seeds) olds mids
    → AskedOnly link (plugin_names p.seeds) olds mids
compared_asks link p seeds olds mids same a =
    subst (λ s. AskedOnly link (plugin_names s) olds mids) same a

pub renewed_asks : {L : Type 0} (link : L → Link) (p : Publication) (seeds : List SeedRow)
    (rows : List ConfigEntry) (olds mids news : List L) → IsPublished p → seeds ≡ p.seeds
    → rows ≡ p.rows → AskedOnly link (plugin_names seeds) olds mids
    → AskedOnly link (plugins_in rows) mids news → AskedOnly link (plugin_names p.seeds) olds news
renewed_asks link p seeds rows olds mids news k same rows_are a b =
    asked_then link (plugin_names p.seeds) olds mids news
    (compared_asks link p seeds olds mids same a)
    (asked_among link (plugins_in rows) (plugin_names p.seeds) mids news
    (λ name c. (k.names name).1 (subst (λ r. Contains (plugins_in r) name) rows_are c)) b)

-- a key has changed, of the seeds of a configuration whose settings are then published
module _ {L D : Type 0} (link : L → Link) (left : D → Option (List ℕ))
    (count : D → ℕ) (replica number : ℕ) (p : Publication) (old new : Caller)
    (olds mids news : List L) (dice between after : D) (seeds : List SeedRow) (rows : List ConfigEntry)
    (seeds_are : seeds ≡ p.seeds) (rows_are : rows ≡ p.rows) (dice_is : between ≡ dice)
    (asked : AskedOnly link (plugin_names seeds) olds mids) (changed : Bool)
    (is : changed ≡ true) (compares : ComparesKeys link seeds olds (Ok changed) mids) where
  asked_of : AskedOnly link (plugin_names p.seeds) olds mids
  asked_of = compared_asks link p seeds olds mids seeds_are asked

  changed_then : IsKeyChanged link olds p.seeds
  changed_then = subst (λ s. IsKeyChanged link olds s) seeds_are
      (subst (λ b. ComparesKeys link seeds olds (Ok b) mids) is compares)

  shared_then : (result : Result Publication CallNo)
      → SharesPublished link left count rows mids between result news after
      → SharesPublished link left count p.rows mids dice result news after
  shared_then result w =
      subst (λ d. SharesPublished link left count p.rows mids d result news after) dice_is
      (subst (λ r. SharesPublished link left count r mids between result news after) rows_are w)

  pub not_brought : (why : CallNo)
      → SharesPublished link left count rows mids between (Err why) news after → new ≡ old
      → Refreshes link left count replica number p old olds dice (Err why) new news after
  not_brought why w same = renewed link left count replica number p old new olds mids
      news dice after asked_of changed_then (Err why)
      (not_shared (λ made. Publishes link left count p.rows mids dice made news after) old new
      (reload_of replica (Some number)) replica why same (shared_then (Err why) w))

  pub brought_anew : (q : Publication) (done : Result Reloading CallNo)
      (result : Result Loaded CallNo) → IsCaller old → holding old.mine ≡ Some (number, p)
      → SharesPublished link left count rows mids between (Ok q) news after
      → AsksReload replica (Some number) q old done new → result ≡ load_done done
      → Refreshes link left count replica number p old olds dice result new news after
  brought_anew q done result k held w a is =
      let b = shared_then (Ok q) w in
      renewed link left count replica number p old new olds mids news dice after asked_of
      changed_then result (renew_answered
      (λ made. Publishes link left count p.rows mids dice made news after) replica number p
      old new q done result k held b b.0 a is)
