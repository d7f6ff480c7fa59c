-- `read_row`: the value is unsealed, and what it is found to be is by that.
use Rattle.std.proofs.Common.{refl}
use Rattle.kr_cmd_steps.proofs.Works.{names_stay_read}
use Rattle.kr_cmd_steps.proofs.BenchTalks.{talk_read}
use Rattle.kr_cmd_store.proofs.RowReading.{parse_read, row_named, row_read, unsealed_of}
use Rattle.kr_cmd_store.proofs.reading.read_row.Goals as goal

pub returns-clause-read : goal.returns-clause-read
returns-clause-read g c =
    let k = g.L.Kms in
    let old = c.args.bench.now in
    let new = c.unseal-opened.new.self in
    let result = c.unseal-opened.result in
    let t = talk_read k.step old.published c.as_str.result.now c.as_str-2.result.now
    c.as_slice.result.now old.links new.links old.cache result new.cache c.requires.adopted
    c.unseal-opened.ensures.exchanged in record {
      steps = t.steps;
      walk = t.walk;
      are = row_read k.link g.D.Dice.left g.D.Dice.count c.args.row.now old new
          c.unseal-opened.ensures.kept c.requires.distinct result t.steps old.published refl
          (unsealed_of k.link g.D.Dice.left g.D.Dice.count c.args.row.now old new
          c.unseal-opened.ensures.kept c.requires.distinct result old.published
          c.as_str.ensures c.as_str-2.ensures c.as_slice.ensures c.unseal-opened.ensures.opened)
          (parse_read k.link g.D.Dice.left g.D.Dice.count c.args.row.now old new
          c.unseal-opened.ensures.kept c.requires.distinct result old.published t.steps
          c.as_str.ensures c.as_str-2.ensures c.as_slice.ensures t.are)
          c.value_finding.result c.value_finding.ensures;
    }

pub returns-clause-named : goal.returns-clause-named
returns-clause-named g c =
    row_named g.L.Kms.link g.D.Dice.left g.D.Dice.count c.args.row.now
    c.args.bench.now c.unseal-opened.new.self c.unseal-opened.ensures.kept c.requires.distinct
    c.unseal-opened.result c.args.bench.now.published c.as_str.result.now c.as_str-2.result.now
    c.as_slice.result.now c.requires.adopted c.unseal-opened.ensures.opened c.value_finding.result
    c.value_finding.ensures

pub returns-clause-names : goal.returns-clause-names
returns-clause-names g c = names_stay_read g.L.Kms.link c.as_str.result.now
    c.as_str-2.result.now c.as_slice.result.now c.args.bench.now.published c.args.bench.now.links
    c.unseal-opened.new.self.links c.unseal-opened.result c.requires.adopted
    c.unseal-opened.ensures.opened
