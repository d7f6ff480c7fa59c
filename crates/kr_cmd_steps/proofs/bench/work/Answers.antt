-- `work`: what is sealed or unsealed, and the links and the random source that come back.
use Rattle.std.proofs.Common.{◌≡◌, ◌≤◌, [], ap, length, subst, sym, ◌∙◌}
use Rattle.std.specs.Prelude.{IfOk}
use Rattle.kr_base.specs.Limits.{value_limit}
use Rattle.kr_base.specs.Walks.{Walk}
use Rattle.kr_provider.specs.AskedLinks.{Among}
use Rattle.kr_provider.specs.Names.{names_of}
use Rattle.kr_cmd_messages.specs.declared.command.Direction.TheVariants.{Decrypt, Encrypt}
use Rattle.kr_cmd_steps.specs.ValueSteps.{working_by}
use Rattle.kr_cmd_steps.specs.inner.Plugins.{NamesAnUnread}
use Rattle.kr_cmd_steps.proofs.BenchTalks.{both_some, none_made, talk_read}
use Rattle.kr_cmd_steps.proofs.Frames.{Seen}
use Rattle.kr_cmd_steps.proofs.Works.{names_stay_read, names_unread, seal_made, sealed_size, unseal_made}
use Rattle.kr_cmd_steps.proofs.bench.work.Goals as goal

pub returns-in-Encrypt-clause-made : goal.returns-in-Encrypt-clause-made
returns-in-Encrypt-clause-made g c = record {
  steps = [];
  walk = c.close-links.ensures.0 ∙ ap (λ b. b.links) c.seal_in_place-sealed.ensures.kept;
  are = λ a. none_made (working_by c.args.direction c.args.resource.now c.args.path.now)
      c.args.bytes c.args.bench.published
      (Seen g.L.Kms.link a c.args.bench.links (g.D.Dice.left c.args.bench.dice)
      (g.D.Dice.count c.args.bench.dice))
      (Seen g.L.Kms.link a c.close-links.result.0 (g.D.Dice.left c.close-links.result.1)
      (g.D.Dice.count c.close-links.result.1)) c.seal_outcome.result
      (seal_made g.L.Kms.link g.D.Dice.left g.D.Dice.count
      c.args.resource.now c.args.path.now c.args.bytes a c.args.bench.published
      c.args.direction c.args.bench.links _ _ _ _ _ _ _
      c.in-Encrypt.is c.requires.fits c.seal_in_place-sealed.ensures.later
      (c.close-links.ensures.0 ∙ ap (λ b. b.links) c.seal_in_place-sealed.ensures.kept)
      c.close-links.ensures.1 c.faults-faults.ensures c.seal_outcome.ensures
      c.seal_in_place-sealed.ensures.sealed);
}

pub returns-in-Encrypt-clause-names : goal.returns-in-Encrypt-clause-names
returns-in-Encrypt-clause-names g c = ap (names_of g.L.Kms.link)
    (c.close-links.ensures.0 ∙ ap (λ b. b.links) c.seal_in_place-sealed.ensures.kept)

pub unseal_outcome-requires : goal.unseal_outcome-requires
unseal_outcome-requires g c = subst (λ l. NamesAnUnread (names_of g.L.Kms.link l)
    c.unseal_in_place-opened.result) (sym c.close-links-in-Decrypt.ensures.0)
    (names_unread g.L.Kms.link
    c.args.resource.now c.args.path.now c.args.bytes c.args.bench.published
    c.args.bench.links c.unseal_in_place-opened.new.self.links c.unseal_in_place-opened.result c.requires.adopted
    c.unseal_in_place-opened.ensures.opened)

pub returns-in-Decrypt-clause-made : goal.returns-in-Decrypt-clause-made
returns-in-Decrypt-clause-made g c =
    let k = g.L.Kms in
    let bench = c.args.bench in
    let now = c.unseal_in_place-opened.new.self in
    let result = c.unseal_in_place-opened.result in
    let t = talk_read k.step bench.published c.args.resource.now c.args.path.now c.args.bytes
    bench.links now.links bench.cache result now.cache c.requires.adopted
    c.unseal_in_place-opened.ensures.exchanged in record {
      steps = t.steps;
      walk = subst (λ l. Walk (Among k.step) bench.links t.steps l)
          (sym c.close-links-in-Decrypt.ensures.0) t.walk;
      are = λ a. unseal_made k.link g.D.Dice.left
          g.D.Dice.count c.args.resource.now c.args.path.now c.args.bytes bench.published
          bench.links now.links bench.cache now.cache c.requires.cold result t.steps a
          c.args.direction _ _ _ _ c.requires.distinct c.in-Decrypt.is
          c.close-links-in-Decrypt.ensures.0
          (c.close-links-in-Decrypt.ensures.1
          ∙ ap (λ b. b.dice) c.unseal_in_place-opened.ensures.kept)
          c.unseal_outcome.ensures
          (both_some _ _ bench.published c.unseal_in_place-opened.ensures.opened t.are);
    }

pub returns-in-Decrypt-clause-names : goal.returns-in-Decrypt-clause-names
returns-in-Decrypt-clause-names g c = ap (names_of g.L.Kms.link)
    c.close-links-in-Decrypt.ensures.0
    ∙ names_stay_read g.L.Kms.link
    c.args.resource.now c.args.path.now c.args.bytes c.args.bench.published
    c.args.bench.links c.unseal_in_place-opened.new.self.links c.unseal_in_place-opened.result c.requires.adopted
    c.unseal_in_place-opened.ensures.opened

pub returns-in-Encrypt-clause-size : goal.returns-in-Encrypt-clause-size
returns-in-Encrypt-clause-size g c = λ e. subst (λ r. IfOk r (λ made. length made.bytes ≤ value_limit))
    (sym c.seal_outcome.ensures) (sealed_size c.faults-faults.result c.seal_in_place-sealed.result
    c.seal_in_place-sealed.ensures.size)

pub returns-in-Decrypt-clause-size : goal.returns-in-Decrypt-clause-size
returns-in-Decrypt-clause-size g c =
    λ e. absurd (let x : Decrypt ≡ Encrypt = sym c.in-Decrypt.is ∙ e in cc)
