-- What `write` seals and puts.
use Rattle.std.proofs.Common.{◌≡◌, inl, inr, ℕ, List, Option, None, Some, Result, Ok, Err, refl, sym, subst}
use Rattle.std.specs.Prelude.{IfSome}
use Rattle.kr_provider.specs.BenchState.{BenchState}
use Rattle.kr_provider.specs.Publication.{Publication, writer_at}
use Rattle.kr_provider.specs.Sealing.{Seals, IsSealing}
use Rattle.kr_provider.specs.declared.refusal.SealNo.{SealNo}
use Rattle.kr_provider.specs.declared.refusal.SealNo.TheVariants as sealing
use Rattle.kr_history.specs.Acting.{Caller}
use Rattle.kr_history.specs.declared.call.CallNo.{CallNo}
use Rattle.kr_history.specs.declared.call.CallNo.TheVariants as refusal
use Rattle.kr_history.specs.Asking.{AsksPut}
use Rattle.kr_history.specs.Calls.{LetsGo}
use Rattle.kr_history.specs.TakingUp.{HasTakenUp}
use Rattle.kr_history.proofs.Meanwhile.{held_meanwhile, of_taken}
use Rattle.kr_fleet.specs.WriteCalls.{IsWrite, Puts}
use Rattle.kr_fleet.specs.inner.Stages.{seal_refusal}

module _ {D : Type 0} (left : D → Option (List ℕ)) (count : D → ℕ)
    (resource path plain : List ℕ) (p : Publication) (old new : Caller) (dice after : D) where
  pub put_answered : (stored : List ℕ) (result : Result ℕ CallNo)
      → Seals left count p.seeds (writer_at p resource) path plain dice after (Ok stored)
      → IsSealing p resource path plain stored
      → AsksPut path resource plain stored old result new
      → Puts left count resource path plain p old dice result new after
  put_answered stored (Ok revision) s t a =
      record { stored = stored; seals = s; sealing = t; put = a }
  put_answered stored (Err refusal.StoreFailed) s t a =
      record { stored = stored; seals = s; sealing = t; put = a }
  put_answered stored (Err (refusal.StoreFull needed)) s t a =
      record { stored = stored; seals = s; sealing = t; put = a }
  put_answered stored (Err refusal.NoMemory) s t a =
      inr (record { stored = stored; seals = s; sealing = t; put = a })
  put_answered stored (Err refusal.Spent) s t a =
      record { stored = stored; seals = s; nothing = a }
  put_answered stored (Err other) s t a = absurd a

  pub put_refused : (why : SealNo)
      → Seals left count p.seeds (writer_at p resource) path plain dice after (Err why)
      → new ≡ old
      → Puts left count resource path plain p old dice (Err (seal_refusal why)) new after
  put_refused sealing.LooksEncrypted s same = (s, same)
  put_refused (sealing.TooLarge size) s same = ((refl, s.1, s.2), same)
  put_refused sealing.DiceFailed s same = (s, same)
  put_refused sealing.NoMemory s same = inl (s, same)

-- the stages of a call, one behind another
pub writes_held : {L D : Type 0} {replica : ℕ} {old adopted : Caller}
    {before taken : BenchState L D} (t : HasTakenUp replica old before adopted taken)
    (left : D → Option (List ℕ)) (count : D → ℕ)
    (resource path own_resource own_path plain : List ℕ) (acted new : Caller) (after : D)
    (done result : Result ℕ CallNo) → own_resource ≡ resource → own_path ≡ path
    → IfSome taken.published (λ p. Puts left count own_resource own_path plain p adopted taken.dice
    done acted after)
    → LetsGo acted done result new
    → IsWrite left count resource path plain replica old taken.dice result new after
writes_held {L} {D} {replica} {old} {adopted} {before} {taken} t left count resource path
    own_resource own_path plain acted new after done result r_is p_is f g =
    inr (held_meanwhile
    (λ number p from done to. Puts left count resource path plain p from taken.dice done to after)
    replica (t.number, t.p) old adopted acted new done result t.adopts
    (subst (λ q. Puts left count resource q plain t.p adopted taken.dice done acted after) p_is
    (subst (λ q. Puts left count q own_path plain t.p adopted taken.dice done acted after) r_is
    (of_taken t
    (λ p. Puts left count own_resource own_path plain p adopted taken.dice done acted after) f))) g)

-- by the configuration that the bench adopted
pub put_stays : {D : Type 0} (left : D → Option (List ℕ)) (count : D → ℕ)
    (resource path plain : List ℕ) (published : Option Publication) (old : Caller) (dice after : D)
    (why : SealNo) (refused : CallNo) → refused ≡ seal_refusal why
    → IfSome published (λ p. Seals left count p.seeds (writer_at p resource) path plain dice after
    (Err why))
    → IfSome published (λ p. Puts left count resource path plain p old dice (Err refused) old
    after)
put_stays left count resource path plain None old dice after why refused e s = tt
put_stays left count resource path plain (Some p) old dice after why refused e s =
    subst (λ r. Puts left count resource path plain p old dice (Err r) old after) (sym e)
    (put_refused left count resource path plain p old old dice after why s refl)

pub put_done : {D : Type 0} (left : D → Option (List ℕ)) (count : D → ℕ)
    (resource path plain stored : List ℕ) (published : Option Publication) (old new : Caller)
    (dice after : D) (result : Result ℕ CallNo)
    → IfSome published (λ p. Seals left count p.seeds (writer_at p resource) path plain dice after
    (Ok stored))
    → IfSome published (λ p. IsSealing p resource path plain stored)
    → AsksPut path resource plain stored old result new
    → IfSome published (λ p. Puts left count resource path plain p old dice result new after)
put_done left count resource path plain stored None old new dice after result s t a = tt
put_done left count resource path plain stored (Some p) old new dice after result s t a =
    put_answered left count resource path plain p old new dice after stored result s t a
