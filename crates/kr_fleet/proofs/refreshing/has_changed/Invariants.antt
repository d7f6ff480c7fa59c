-- The plugins so far tell the key ids of their seeds.
use Rattle.std.proofs.Common.{◌≡◌}
use Rattle.kr_base.specs.Walks.{Talk}
use Rattle.kr_provider.specs.AskedLinks.{Among, AskedOnly}
use Rattle.kr_fleet.specs.LoadCalls.{plugin_names}
use Rattle.kr_fleet.proofs.RenewTalks.{Completes}
use Rattle.kr_fleet.proofs.Renewing.{AreSameBelow}
use Rattle.kr_fleet.proofs.refreshing.has_changed.Given as goal

abbrev pub invariant-loop-row : goal.invariant-loop-row
invariant-loop-row g l =
    AreSameBelow g.L.Kms.link l.initial.bench.links l.seeds l.row-index
    × AskedOnly g.L.Kms.link (plugin_names l.seeds) l.initial.bench.links l.bench.links
    × (l.bench ≡ record l.initial.bench { links = l.bench.links })
    × Talk (Among g.L.Kms.step) l.initial.bench.links l.bench.links (Completes l.seeds l.row-index)
