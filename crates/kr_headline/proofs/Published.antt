-- Whatever a call that publishes settings came to, something was published, or nothing was: what
-- follows by that alone.
use Rattle.std.proofs.Common.{ℕ, None, Result, Ok, Err, inl, inr}
use Rattle.kr_provider.specs.Publication.{Publication}
use Rattle.kr_provider.specs.declared.refusal.PublishNo.{PublishNo}
use Rattle.kr_rollout.specs.declared.event.Event.{Event}
use Rattle.kr_rollout.specs.declared.event.Event.TheVariants as event
use Rattle.kr_history.specs.Acting.{Caller}
use Rattle.kr_history.specs.declared.call.CallNo.{CallNo}
use Rattle.kr_history.specs.declared.call.CallNo.TheVariants as refusal
use Rattle.kr_history.specs.declared.outcome.Joining.{Joining}
use Rattle.kr_history.specs.declared.outcome.Joining.TheVariants as joining
use Rattle.kr_fleet.specs.CallForms.{CutShortWhere, JoinsWhere, ReloadsWhere, reload_of}
use Rattle.kr_fleet.specs.declared.outcome.Loaded.{Loaded}
use Rattle.kr_fleet.specs.declared.outcome.Loaded.TheVariants as loaded

module _ (Publishes : Result Publication PublishNo → Type 0) (Follows : Type 0)
    (by : (made : Result Publication PublishNo) → Publishes made → Follows) where
  pub cut_gives : (brings : Publication → Event) (replica : ℕ) (old new : Caller) (why : CallNo)
      → CutShortWhere Publishes brings replica old why new → Follows
  cut_gives brings replica old new (refusal.PluginFailed name) c = by (Err _) c.0
  cut_gives brings replica old new refusal.DiceFailed c = by (Err _) c.0
  cut_gives brings replica old new (refusal.Unhealthy name field text) c = by (Err _) c.0
  cut_gives brings replica old new refusal.Gone c = by (Ok c.p) c.publishes
  cut_gives brings replica old new refusal.Spent c = by (Ok c.0.0) c.0.1
  cut_gives brings replica old new refusal.NoMemory (inl c) = by (Err _) c.0
  cut_gives brings replica old new refusal.NoMemory (inr (inl c)) = by (Ok c.0.0) c.0.1
  cut_gives brings replica old new refusal.NoMemory (inr (inr c)) = by (Ok c.p) c.publishes
  cut_gives brings replica old new other c = absurd c

  pub reload_gives : (replica : ℕ) (old new : Caller) (result : Result Loaded CallNo)
      → ReloadsWhere Publishes replica old result new → Follows
  reload_gives replica old new (Ok (loaded.Generation number)) w = by (Ok w.p) w.publishes
  reload_gives replica old new (Ok (loaded.Refused verdict)) w = by (Ok w.p) w.publishes
  reload_gives replica old new (Ok other) w = absurd w
  reload_gives replica old new (Err why) w = cut_gives (reload_of replica None) replica old new why w

  pub join_gives : (replica : ℕ) (old new : Caller) (result : Result Joining CallNo)
      → JoinsWhere Publishes replica old result new → Follows
  join_gives replica old new (Ok (joining.Generation number)) w = by (Ok w.p) w.publishes
  join_gives replica old new (Ok other) w = by (Ok w.p) w.publishes
  join_gives replica old new (Err refusal.Gone) w = absurd w
  join_gives replica old new (Err other) w = cut_gives (event.Join replica) replica old new other w
