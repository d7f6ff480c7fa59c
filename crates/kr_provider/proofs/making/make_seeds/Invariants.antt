-- `make_seeds`: there are seeds for the names that were passed, and fewer names are still to come.
use Rattle.std.proofs.Common.{◌≡◌, [], false}
use Rattle.std.specs.Str.{IsUtf8}
use Rattle.kr_config.specs.Kept.{plugins_in, rows_of}
use Rattle.kr_provider.specs.Names.{HasLinks, names_of}
use Rattle.kr_provider.specs.Publication.{names_plugin}
use Rattle.kr_base.specs.Walks.{Talk}
use Rattle.kr_provider.specs.AskedLinks.{Among}
use Rattle.kr_provider.proofs.Makings.{ComesTo}
use Rattle.kr_provider.proofs.SeedTalks.{Completes}
use Rattle.kr_provider.proofs.NameOrder.{count_after}
use Rattle.kr_provider.proofs.making.make_seeds.Given as goal

abbrev pub invariant-loop-name : goal.invariant-loop-name
invariant-loop-name g l =
    ComesTo g.L.Kms.link g.D.Dice.left g.D.Dice.count
    (rows_of l.settings.entries.0) l.initial.links l.initial.dice l.after l.made.0 l.links l.dice
    × IsUtf8 l.after × HasLinks (names_of g.L.Kms.link l.links) (rows_of l.settings.entries.0)
    × (names_plugin (rows_of l.settings.entries.0) ≡ false
    → (l.made.0 ≡ []) × (l.links ≡ l.initial.links) × (l.dice ≡ l.initial.dice))
    × Talk (Among g.L.Kms.step) l.initial.links l.links (Completes (Among g.L.Kms.step) g.D.Dice.left
    g.D.Dice.count (plugins_in (rows_of l.settings.entries.0)) l.initial.dice l.after l.made.0 l.dice)

abbrev pub decreases-loop-name : goal.decreases-loop-name
decreases-loop-name g l = count_after l.after (plugins_in (rows_of l.settings.entries.0))
