-- The law of publishing.
use Rattle.kr_provider.proofs.InOrder.{all_in_order, some_in_order}
use Rattle.kr_provider.proofs.laws.publishing_in_order.Goals as goal

pub returns : goal.returns
returns g c = record {
  all = all_in_order g.L.Kms.link g.D.Dice.left g.D.Dice.count;
  some = some_in_order g.L.Kms.link g.D.Dice.left g.D.Dice.count;
}
