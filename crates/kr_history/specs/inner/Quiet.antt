-- What each event keeps by itself.
use Rattle.std.specs.Prelude.{⊤}
use Rattle.kr_rollout.specs.declared.event.Event.{Event}
use Rattle.kr_rollout.specs.declared.event.Event.TheVariants as event
use Rattle.kr_history.specs.Acting.{Caller}
use Rattle.kr_history.specs.Calls.{KeepsHonesty}

-- what was seen stays honest, unless the event replaces a row or brings a configuration
abbrev pub KeepsByItself : Event → (old new : Caller) → Type 0
KeepsByItself (event.Replace path revision stored) old new = ⊤
KeepsByItself (event.Reload replica p expect) old new = ⊤
KeepsByItself (event.Join replica p) old new = ⊤
KeepsByItself asked old new = KeepsHonesty old new
