-- `share_allowed`: what this link serves names no other plugin, and what is shared are the same settings.
use Rattle.std.proofs.Common.{sym, subst}
use Rattle.kr_config.specs.Kept.{rows_of}
use Rattle.kr_config.specs.declared.settings.Settings.{Settings}
use Rattle.kr_kms.specs.Table.{link_of}
use Rattle.kr_provider.specs.Names.{names_of}
use Rattle.kr_rollout.specs.Openings.{NamesAmong}
use Rattle.test_fleet_calls.specs.Desks.{one_name}
use Rattle.test_fleet_calls.proofs.Calling.{one_among}
use Rattle.test_fleet_calls.proofs.linked.share_allowed.Goals as goal

pub returns : goal.returns
returns c = subst (λ (s : Settings). NamesAmong one_name (rows_of s.entries.0))
    (sym c.in_ok-share.ensures) (one_among (names_of link_of c.in_ok-links.links)
    c.get.result.now c.args.settings.now c.in_ok-links.ensures c.get.ensures
    (c.serve-serves.ensures.0 c.if-not-serves.false))
