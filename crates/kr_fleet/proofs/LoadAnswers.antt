-- What `reload`, `join` and `refresh` publish and bring.
use Rattle.std.proofs.Common.{◌≡◌, inl, inr, ℕ, Option, None, Result, Ok, Err, sym, subst}
use Rattle.kr_provider.specs.Publication.{Publication}
use Rattle.kr_provider.specs.declared.refusal.PublishNo.{PublishNo}
use Rattle.kr_provider.specs.declared.refusal.PublishNo.TheVariants as publishing
use Rattle.kr_rollout.specs.declared.answer.Answer.TheVariants as answer
use Rattle.kr_rollout.specs.declared.event.Event.{Event}
use Rattle.kr_rollout.specs.declared.event.Event.TheVariants as event
use Rattle.kr_history.specs.Acting.{Caller}
use Rattle.kr_history.specs.Asking.{AsksJoin, AsksReload}
use Rattle.kr_history.specs.declared.call.CallNo.{CallNo}
use Rattle.kr_history.specs.declared.call.CallNo.TheVariants as refusal
use Rattle.kr_history.specs.declared.outcome.Joining.{Joining}
use Rattle.kr_history.specs.declared.outcome.Joining.TheVariants as joining
use Rattle.kr_history.specs.declared.outcome.Reloading.{Reloading}
use Rattle.kr_history.specs.declared.outcome.Reloading.TheVariants as reloading
use Rattle.kr_history.proofs.Answered.{may_give}
use Rattle.kr_fleet.specs.declared.outcome.Loaded.{Loaded}
use Rattle.kr_fleet.specs.CallForms.{CutShortWhere, JoinsWhere, NotJoinedWhere, ReloadsWhere, publish_refusal, reload_of}
use Rattle.kr_fleet.specs.inner.Stages.{NotSharedWhere, load_done}

-- ---- what is answered

module _ (Publishes : Result Publication PublishNo → Type 0) (old new : Caller) where
  module _ (brings : Publication → Event) (replica : ℕ) where
    not_published : (no : PublishNo) → new ≡ old
        → Publishes (Err no)
        → CutShortWhere Publishes brings replica old (publish_refusal no) new
    not_published publishing.NoMemory same w = inl (w, same)
    not_published other same w = (w, same)

    pub not_shared : (why : CallNo) → new ≡ old
        → NotSharedWhere Publishes why
        → CutShortWhere Publishes brings replica old why new
    not_shared why same (inl n) = subst
        (λ y. CutShortWhere Publishes brings replica old y new)
        (sym n.1) (not_published n.0 same n.2)
    not_shared why same (inr n) = subst
        (λ y. CutShortWhere Publishes brings replica old y new)
        (sym n.1) (inr (inl ((n.0, n.2), same)))

  module _ (replica : ℕ) (p : Publication) (published : Publishes (Ok p)) where
    pub reload_cut : (expect : Option ℕ) (why : CallNo)
        → AsksReload replica expect p old (Err why) new
        → CutShortWhere Publishes (reload_of replica expect) replica old why new
    reload_cut expect refusal.Gone a =
        record { p = p; publishes = published; brought = a }
    reload_cut expect refusal.NoMemory a =
        inr (inr (record { p = p; publishes = published; brought = a }))
    reload_cut expect refusal.Spent a = ((p, published), a)
    reload_cut expect other a = absurd a

    reload_done : (done : Result Reloading CallNo) → AsksReload replica None p old done new
        → ReloadsWhere Publishes replica old (load_done done) new
    reload_done (Ok (reloading.Generation number)) a =
        record { p = p; publishes = published; brought = a }
    reload_done (Ok (reloading.Refused verdict)) a =
        record { p = p; publishes = published; brought = a }
    reload_done (Ok (reloading.Moved current)) a = absurd
        ((may_give old new (event.Reload replica p None) (answer.Moved current) a).is.1 tt)
    reload_done (Err why) a = reload_cut None why a

    pub reload_answered : (done : Result Reloading CallNo) (result : Result Loaded CallNo)
        → AsksReload replica None p old done new → result ≡ load_done done
        → ReloadsWhere Publishes replica old result new
    reload_answered done result a is =
        subst (λ r. ReloadsWhere Publishes replica old r new) (sym is) (reload_done done a)

    pub join_answered : (result : Result Joining CallNo) → AsksJoin replica p old result new
        → JoinsWhere Publishes replica old result new
    join_answered (Ok (joining.Generation number)) a =
        record { p = p; publishes = published; brought = a }
    join_answered (Ok (joining.Refused verdict)) a =
        record { p = p; publishes = published; brought = a }
    join_answered (Ok (joining.Present current)) a =
        record { p = p; publishes = published; brought = a }
    join_answered (Err refusal.NoMemory) a =
        inr (inr (record { p = p; publishes = published; brought = a }))
    join_answered (Err refusal.Spent) a = ((p, published), a)
    join_answered (Err other) a = absurd a

  -- a Join isn't answered that the replica isn't in
  pub not_joined : (replica : ℕ) (why : CallNo)
      → CutShortWhere Publishes (event.Join replica) replica old why new
      → NotJoinedWhere Publishes replica old why new
  not_joined replica refusal.Gone c =
      absurd (may_give old new (event.Join replica c.p) (answer.Gone replica) c.brought).is
  not_joined replica other c = c
