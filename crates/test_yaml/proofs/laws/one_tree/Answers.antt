use Rattle.std.proofs.Common.{[], ◌++◌, ap}
use Rattle.test_yaml.proofs.OneText.{trees}
use Rattle.test_yaml.proofs.laws.one_tree.Goals as goal

pub returns : goal.returns
returns c = λ d e hd he h. (trees d e [] [] hd he (ap (λ text. text ++ []) h)).0
