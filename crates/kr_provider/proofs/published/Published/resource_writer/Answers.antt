-- `Published::resource_writer`: the writer is the first of the list.
use Rattle.std.proofs.Common.{sym, subst, ◌∙◌, ap}
use Rattle.kr_provider.specs.KeyPages.{secrets_in}
use Rattle.kr_provider.specs.Readers.{writer_of}
use Rattle.kr_provider.specs.inner.Scan.{HasSeed, IsAmong}
use Rattle.kr_provider.proofs.Keys.{writer_among}
use Rattle.kr_provider.proofs.PluginNames.{writer_seeded}
use Rattle.kr_provider.proofs.published.Published.resource_writer.Goals as goal

pub returns-clause-writer : goal.returns-clause-writer
returns-clause-writer c = c.list_writer.ensures.writer ∙ ap writer_of c.listed-list.ensures.list

pub returns-clause-among : goal.returns-clause-among
returns-clause-among c = subst (IsAmong (secrets_in c.args.self.now.rows))
    (sym c.list_writer.ensures.writer)
    (writer_among (secrets_in c.args.self.now.rows) c.listed-list.result.now
    c.listed-list.ensures.among)

pub returns-clause-seed : goal.returns-clause-seed
returns-clause-seed c = subst (HasSeed c.args.self.now.seeds) (sym c.list_writer.ensures.writer)
    (writer_seeded c.args.self.now.seeds c.listed-list.result.now c.listed-list.ensures.seeds)
