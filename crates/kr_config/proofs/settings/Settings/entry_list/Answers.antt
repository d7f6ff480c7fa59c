-- What the tactic leaves open of `entry_list`.
use Rattle.std.proofs.Common.{length, sym, ap, ◌∙◌, arith}
use Rattle.kr_config.proofs.ClassIndexes.{list_here, past}
use Rattle.kr_config.proofs.settings.Settings.entry_list.Goals as goal

pub returns-then-place-entries : goal.returns-then-place-entries
returns-then-place-entries c =
    let long = ap length c.as_slice-entries.ensures in
    c.as_slice.ensures ∙ c.args.self.now.alone
    ∙ sym (past c.args.self.now.entries.0 c.args.place (omega (arith, long)))

pub returns : goal.returns
returns c =
    list_here c.args.self.now.entries.0 c.as_slice-entries.result.now c.args.place
    c.index-entries-place.result c.as_slice-2.result.now c.as_slice-entries.ensures (omega arith)
    c.index-entries-place.is c.as_slice-2.ensures
