-- Between its Adopt and its LetGo a call neither adopts nor lets go.
use Rattle.std.proofs.Common.{inl, inr, ℕ, List, Option, Result, Ok, Err}
use Rattle.std.specs.Prelude.{IfSome}
use Rattle.kr_kms.specs.Calls.{Link}
use Rattle.kr_provider.specs.BenchState.{BenchState}
use Rattle.kr_provider.specs.Publication.{Publication}
use Rattle.kr_provider.specs.declared.refusal.Opened.{Opened}
use Rattle.kr_provider.specs.declared.refusal.UnsealNo.{UnsealNo}
use Rattle.kr_provider.specs.declared.refusal.ValueNo.TheVariants as value
use Rattle.kr_store.specs.declared.rows.Row.{Row}
use Rattle.kr_rollout.specs.declared.answer.Answer.{Answer}
use Rattle.kr_rollout.specs.declared.answer.Answer.TheVariants as answer
use Rattle.kr_rollout.specs.declared.event.Event.TheVariants as event
use Rattle.kr_history.specs.Acting.{Caller}
use Rattle.kr_history.specs.CallerLaws.{LeavesHolding}
use Rattle.kr_history.specs.TakingUp.{HasTakenUp}
use Rattle.kr_history.specs.declared.call.CallNo.{CallNo}
use Rattle.kr_history.specs.declared.call.CallNo.TheVariants as refusal
use Rattle.kr_history.proofs.KeyMoments.{AddsQuietly, quiet_none, quiet_one}
use Rattle.kr_history.proofs.Meanwhile.{of_taken}
use Rattle.kr_fleet.specs.ReadCalls.{Finds, FindsRow}
use Rattle.kr_fleet.specs.WriteCalls.{Puts, PutsSealed}
use Rattle.kr_fleet.specs.declared.outcome.Read.{Read}
use Rattle.kr_fleet.specs.declared.outcome.Read.TheVariants.{Absent, Value}

-- ---- a Fetch

module _ {L : Type 0} (link : L → Link) (path : List ℕ) (p : Publication)
    (old new : Caller) (olds news : List L) where
  finds_row : (row : Row) (opened : Result Opened UnsealNo)
      → FindsRow link path p old olds row opened new news → AddsQuietly old new
  finds_row row opened f = quiet_one old new (event.Fetch path) (answer.Found row) tt f.found

  finds : (result : Result Read CallNo) → Finds link path p old olds result new news
      → AddsQuietly old new
  finds (Ok Absent) f = quiet_one old new (event.Fetch path) answer.Absent tt f.0.absent
  finds (Ok (Value revision plain stale)) f =
      finds_row f.0 (Ok (record { plain = plain; stale = stale })) f.1
  finds (Err (refusal.Value why)) f = finds_row f.0 _ f.1
  finds (Err (refusal.PluginFailed name)) f = finds_row f.0 _ f.1
  finds (Err refusal.NoMemory) (inl f) = finds_row f.0 _ f.1
  finds (Err refusal.NoMemory) (inr f) =
      quiet_one old new (event.Fetch path) answer.NoMemory tt f.0
  finds (Err refusal.Spent) f = quiet_none old new f.0.same
  finds (Err other) f = absurd f

-- by the configuration that the bench took up
pub finds_quietly : {L D : Type 0} {replica : ℕ} {old adopted : Caller}
    {before taken : BenchState L D} (t : HasTakenUp replica old before adopted taken)
    (link : L → Link) (path : List ℕ) (new : Caller) (news : List L) (result : Result Read CallNo)
    → IfSome taken.published (λ p. Finds link path p adopted taken.links result new news)
    → AddsQuietly adopted new
finds_quietly {L} {D} {replica} {old} {adopted} {before} {taken} t link path new news result f =
    finds link path t.p adopted new taken.links news result
    (of_taken t (λ p. Finds link path p adopted taken.links result new news) f)

-- ---- a Put

module _ {D : Type 0} (left : D → Option (List ℕ)) (count : D → ℕ)
    (resource path plain : List ℕ) (p : Publication) (old new : Caller) (dice after : D) where
  puts_sealed : (given : Answer) → LeavesHolding given
      → PutsSealed left count resource path plain p old dice given new after → AddsQuietly old new
  puts_sealed given stays f =
      quiet_one old new (event.Put path resource plain f.stored) given stays f.put

  puts : (result : Result ℕ CallNo) → Puts left count resource path plain p old dice result new after
      → AddsQuietly old new
  puts (Ok revision) f = puts_sealed (answer.Written revision) tt f
  puts (Err (refusal.Value value.LooksEncrypted)) f = quiet_none old new f.1
  puts (Err (refusal.Value value.TooLarge)) f = quiet_none old new f.1
  puts (Err refusal.DiceFailed) f = quiet_none old new f.1
  puts (Err refusal.StoreFailed) f = puts_sealed answer.StoreFailed tt f
  puts (Err (refusal.StoreFull needed)) f = puts_sealed (answer.StoreFull needed) tt f
  puts (Err refusal.Spent) f = quiet_none old new f.nothing.same
  puts (Err refusal.NoMemory) (inl f) = quiet_none old new f.1
  puts (Err refusal.NoMemory) (inr f) = puts_sealed answer.NoMemory tt f
  puts (Err why) f = absurd f

-- by the configuration that the bench took up
pub puts_quietly : {L D : Type 0} {replica : ℕ} {old adopted : Caller}
    {before taken : BenchState L D} (t : HasTakenUp replica old before adopted taken)
    (left : D → Option (List ℕ)) (count : D → ℕ) (resource path plain : List ℕ) (new : Caller)
    (after : D) (result : Result ℕ CallNo)
    → IfSome taken.published (λ p. Puts left count resource path plain p adopted taken.dice result
    new after)
    → AddsQuietly adopted new
puts_quietly {L} {D} {replica} {old} {adopted} {before} {taken} t left count resource path plain
    new after result f =
    puts left count resource path plain t.p adopted new taken.dice after result (of_taken t
    (λ p. Puts left count resource path plain p adopted taken.dice result new after) f)
