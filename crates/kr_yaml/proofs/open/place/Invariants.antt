use Rattle.std.proofs.Common.{◌≡◌, ◌+◌, drop}
use Rattle.kr_yaml.specs.inner.Seen.{token_view}
use Rattle.kr_yaml.specs.inner.Open.{place}
use Rattle.kr_yaml.specs.inner.Frames.{frame_views}
use Rattle.kr_yaml.proofs.open.place.Given as goal

abbrev pub invariant-loop-index : goal.invariant-loop-index
invariant-loop-index l = place (token_view l.token) (frame_views l.nodes)
    ≡ l.index + place (token_view l.token) (frame_views (drop l.index l.nodes))
