-- Steps were taken up to here; the seat holds nothing, and links, pool and core are the same.
use Rattle.std.proofs.Common.{◌≡◌, ◌⊎◌, ◌≤◌, [], None}
use Rattle.kr_base.specs.Rules.{IsPath}
use Rattle.kr_base.specs.Walks.{Talk}
use Rattle.kr_provider.specs.AskedLinks.{Among, AskedOnly}
use Rattle.kr_provider.specs.BenchKeys.{adoption_of}
use Rattle.kr_provider.specs.KeyPages.{size_of}
use Rattle.kr_provider.specs.Names.{names_of}
use Rattle.kr_rollout.specs.Callers.{holding}
use Rattle.kr_history.proofs.KeyMoments.{TakesInTurn}
use Rattle.kr_rewrite.specs.Rewrites.{UnsealsRow}
use Rattle.kr_rewrite.proofs.BetweenSteps.{IsWalked}
use Rattle.kr_rewrite.proofs.DriveTalks.{IsWalkedBy}
use Rattle.kr_rewrite.proofs.driving.take_steps.Given as goal

abbrev pub invariant-loop-step : goal.invariant-loop-step
invariant-loop-step g l =
    IsWalked (UnsealsRow g.L.Kms.link) g.D.Dice.left g.D.Dice.count l.replica
    l.initial.report.last (g.A.Acts.caller l.initial.acts) l.initial.bench.links
    l.initial.bench.dice l.report (g.A.Acts.caller l.acts) l.bench.links l.bench.dice
    × (holding (g.A.Acts.caller l.acts).mine ≡ None)
    × ((l.report.last ≡ []) ⊎ IsPath l.report.last)
    × AskedOnly g.L.Kms.link (names_of g.L.Kms.link l.initial.bench.links) l.initial.bench.links
    l.bench.links
    × (g.D.Dice.count l.initial.bench.dice ≤ g.D.Dice.count l.bench.dice)
    × (size_of l.bench.pages ≡ size_of l.initial.bench.pages)
    × (g.A.Acts.place l.acts ≡ g.A.Acts.place l.initial.acts)
    × Talk (Among g.L.Kms.step) l.initial.bench.links l.bench.links
    (IsWalkedBy g.D.Dice.left g.D.Dice.count l.replica l.initial.report.last
    (g.A.Acts.caller l.initial.acts) l.initial.bench.cache l.initial.bench.dice l.report
    (g.A.Acts.caller l.acts) l.bench.cache l.bench.dice)
    × TakesInTurn (g.A.Acts.caller l.initial.acts) (adoption_of l.initial.bench)
    (g.A.Acts.caller l.acts) (adoption_of l.bench)

abbrev pub decreases-loop-step : goal.decreases-loop-step
decreases-loop-step g l = (g.A.Acts.caller l.acts).left
