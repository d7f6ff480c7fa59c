-- `read_rows`: one more row was read, or ended the reading.
use Rattle.std.proofs.Common.{◌≡◌, IsSome, Result, ap, subst, sym, refl, ◌∙◌, Ok, Err}
use Rattle.std.specs.Prelude.{IfSome}
use Rattle.kr_provider.specs.BenchState.{BenchState}
use Rattle.kr_watch.specs.declared.item.Item.{Item}
use Rattle.kr_cmd_fleet.specs.declared.watch_start.RowReadNo.{RowReadNo}
use Rattle.kr_cmd_fleet.specs.inner.Readings.{IsReadable, ReadsRow}
use Rattle.kr_cmd_fleet.proofs.RowReads.{WalksOn, WalksTo, walks_all, walks_none, walks_on}
use Rattle.kr_cmd_fleet.proofs.watch_start.read_rows.Given.{Over}
use Rattle.kr_cmd_fleet.proofs.watch_start.read_rows.Goals.{After-read_row}
use Rattle.kr_cmd_fleet.proofs.watch_start.read_rows.Goals as goal

module _ (g : Over) (c : After-read_row g) where
  -- the bench adopted what it had adopted
  walked : (result : Result Item RowReadNo)
      → IfSome c.loop-row.bench.published (λ p. ReadsRow g.L.Kms.link g.L.Kms.step p
      c.get.result.now c.loop-row.bench.links c.read_row.new.bench.links c.loop-row.bench.cache
      c.read_row.new.bench.cache result)
      → WalksOn g.L.Kms.link g.L.Kms.step c.args.rows.now c.loop-row.row-index
      c.loop-row.items.0 c.args.bench.now.links c.read_row.new.bench.links
      c.read_row.new.bench.cache c.args.bench.now.published result
  walked result read =
      let link = g.L.Kms.link in
      let step = g.L.Kms.step in
      let row = c.row-item.result in
      let old = c.loop-row.bench in
      let new = c.read_row.new.bench in
      walks_on link step c.args.rows.now c.loop-row.row-index c.loop-row.items.0
      c.args.bench.now.links old.links old.cache c.requires.distinct row c.loop-row-test.true
      c.row-item.is new.links new.cache c.args.bench.now.published c.loop-row.invariant.0 result
      (subst (λ o. IfSome o (λ p. ReadsRow link step p row old.links new.links old.cache new.cache
      result)) (ap (λ b. b.published) c.loop-row.invariant.1)
      (subst (λ r. IfSome old.published (λ p. ReadsRow link step p r old.links new.links old.cache
      new.cache result)) c.get.ensures read))

  kept : c.read_row.new.bench ≡ record c.args.bench.now {
    links = c.read_row.new.bench.links;
    cache = c.read_row.new.bench.cache;
  }
  kept = c.read_row.ensures.kept ∙ ap (λ (b : BenchState _ _). record b {
    links = c.read_row.new.bench.links;
    cache = c.read_row.new.bench.cache;
  }) c.loop-row.invariant.1

pub loop-row-init : goal.loop-row-init
loop-row-init g c =
    let bench = c.args.bench.now in (
      subst (λ items. WalksTo g.L.Kms.link g.L.Kms.step bench.published c.args.rows.now 0 items
          bench.links bench.links bench.cache) (sym c.new-items.ensures)
          (walks_none g.L.Kms.link g.L.Kms.step bench.published c.args.rows.now bench.links
          bench.cache c.requires.cold),
      refl,
    )

pub read_row-requires : goal.read_row-requires
read_row-requires g c =
    let row = c.row-item.result in record {
      adopted = subst IsSome (sym (ap (λ b. b.published) c.loop-row.invariant.1))
          c.requires.adopted;
      rules = subst IsReadable (sym c.get.ensures)
          (subst IsReadable (sym c.row-item.is)
          (c.requires.rules c.loop-row.row-index row c.loop-row-test.true));
    }

pub returns-in-Err-clause-read : goal.returns-in-Err-clause-read
returns-in-Err-clause-read g c =
    walked g (goal.at.returns-in-Err-clause-read g c).After-read_row (Err c.in-Err.why)
    c.in-Err.ensures.read

pub returns-in-Err-clause-kept : goal.returns-in-Err-clause-kept
returns-in-Err-clause-kept g c =
    kept g (goal.at.returns-in-Err-clause-kept g c).After-read_row

pub returns-in-Err-push-clause-read : goal.returns-in-Err-push-clause-read
returns-in-Err-push-clause-read g c =
    (walked g (goal.at.returns-in-Err-push-clause-read g c).After-read_row (Ok c.in-Ok.item)
    c.in-Ok.ensures.read).1

pub returns-in-Err-push-clause-kept : goal.returns-in-Err-push-clause-kept
returns-in-Err-push-clause-kept g c =
    kept g (goal.at.returns-in-Err-push-clause-kept g c).After-read_row

pub loop-row-preserved : goal.loop-row-preserved
loop-row-preserved g c = let here = (goal.at.loop-row-preserved g c).After-read_row in (
  (walked g here (Ok c.in-Ok.item) c.in-Ok.ensures.read).0 c.push.new.self.0
      c.in-Ok-push.ensures.ok,
  kept g here,
)

pub returns-clause-read : goal.returns-clause-read
returns-clause-read g c = walks_all g.L.Kms.link g.L.Kms.step c.args.rows.now c.loop-row.row-index
    c.loop-row.items.0 c.args.bench.now.links c.loop-row.bench.links c.loop-row.bench.cache
    c.requires.distinct c.args.bench.now.published c.loop-row.invariant.0
    c.loop-row-test.false _ refl

pub returns-clause-kept : goal.returns-clause-kept
returns-clause-kept g c = c.loop-row.invariant.1
