-- `is_changed`: the plugin's key id is compared with its seed's.
use Rattle.std.proofs.Common.{[], ◌∷◌, Ok, subst, sym}
use Rattle.std.specs.Prelude.{Contains}
use Rattle.kr_base.specs.Walks.{Talk}
use Rattle.kr_base.proofs.Walks.{talk_so}
use Rattle.kr_provider.specs.AskedLinks.{Among, AskedOnly}
use Rattle.kr_provider.specs.Names.{names_of}
use Rattle.kr_fleet.specs.inner.Stages.{ComparesKeyBy, ComparesKeys}
use Rattle.kr_fleet.proofs.RenewTalks.{key_told, none_told}
use Rattle.kr_fleet.proofs.Renewing.{key_compared, key_failed}
use Rattle.kr_fleet.proofs.refreshing.is_changed.Goals as goal

pub key_id-requires : goal.key_id-requires
key_id-requires g c = record {
  link = subst (Contains (names_of g.L.Kms.link c.args.bench.now.links)) (sym c.as_str.ensures)
      c.requires.link;
}

pub returns-in-Ok-clause-compares : goal.returns-in-Ok-clause-compares
returns-in-Ok-clause-compares g c = subst
    (λ b. ComparesKeys g.L.Kms.link (c.args.row.now ∷ []) c.args.bench.now.links (Ok b)
    c.key_id.new.self.links) (sym c.ne.ensures)
    (key_compared g.L.Kms.link c.args.row.now c.as_str.result.now c.args.bench.now.links
    c.key_id.new.self.links c.as_str.ensures c.in-Ok.key_id c.as_str-in-Ok.result.now
    c.as_str-in-Ok-2.result.now c.as_str-in-Ok.ensures c.as_str-in-Ok-2.ensures
    c.in-Ok.ensures.told)

pub returns-in-Ok-clause-asked : goal.returns-in-Ok-clause-asked
returns-in-Ok-clause-asked g c = subst (λ n. AskedOnly g.L.Kms.link (n ∷ [])
    c.args.bench.now.links c.key_id.new.self.links) c.as_str.ensures c.key_id.ensures.asked

pub returns-in-Err-clause-compares : goal.returns-in-Err-clause-compares
returns-in-Err-clause-compares g c = key_failed g.L.Kms.link c.args.row.now c.as_str.result.now
    c.args.bench.now.links c.key_id.new.self.links c.as_str.ensures c.in-Err.why
    c.publish_refusal.result c.publish_refusal.ensures c.in-Err.ensures.told

pub returns-in-Err-clause-asked : goal.returns-in-Err-clause-asked
returns-in-Err-clause-asked g c = subst (λ n. AskedOnly g.L.Kms.link (n ∷ [])
    c.args.bench.now.links c.key_id.new.self.links) c.as_str.ensures c.key_id.ensures.asked

pub returns-in-Ok-clause-exchanged : goal.returns-in-Ok-clause-exchanged
returns-in-Ok-clause-exchanged g c = subst
    (λ b. Talk (Among g.L.Kms.step) c.args.bench.now.links c.key_id.new.self.links
    (ComparesKeyBy c.args.row.now (Ok b))) (sym c.ne.ensures)
    (talk_so (Among g.L.Kms.step) _ _ _ _ c.in-Ok.ensures.exchanged (λ es told.
    key_told c.args.row.now c.as_str.result.now c.as_str.ensures c.in-Ok.key_id
    c.as_str-in-Ok.result.now c.as_str-in-Ok-2.result.now c.as_str-in-Ok.ensures
    c.as_str-in-Ok-2.ensures es told))

pub returns-in-Err-clause-exchanged : goal.returns-in-Err-clause-exchanged
returns-in-Err-clause-exchanged g c = talk_so (Among g.L.Kms.step) _ _ _ _
    c.in-Err.ensures.exchanged (λ es told. none_told c.args.row.now c.as_str.result.now
    c.as_str.ensures c.in-Err.why c.publish_refusal.result c.publish_refusal.ensures es told)
