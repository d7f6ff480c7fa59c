-- `watched_item`: the object has the copies.
use Rattle.std.proofs.Common.{◌∙◌}
use Rattle.kr_cmd_fleet.proofs.watch_start.watched_item.Goals as goal

pub returns : goal.returns
returns c = λ i. record {
  path = (c.in_ok-path.ensures ∙ c.as_str.ensures) i;
  resource = (c.in_ok-resource.ensures ∙ c.as_str-2.ensures) i;
  revision = c.args.row.now.revision;
  plain = c.args.plain;
}
