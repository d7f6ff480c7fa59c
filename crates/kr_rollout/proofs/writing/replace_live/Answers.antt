-- Answers of replace_live.
use Rattle.std.proofs.Common.{◌≡◌, List, ℕ, Option, Some, IfSome, sym, ap, subst, ◌∙◌}
use Rattle.std.proofs.lemmas.Option.{same_Some}
use Rattle.kr_base.specs.Rules.{IsResource}
use Rattle.kr_store.specs.declared.rows.Row.{Row}
use Rattle.kr_store.specs.Rows.{IsRow, live}
use Rattle.kr_provider.specs.Publication.{list_at}
use Rattle.kr_provider.specs.Readers.{writer_of}
use Rattle.kr_rollout.proofs.Replacing.{own_path, replaced_here}
use Rattle.kr_rollout.proofs.writing.replace_live.Goals as goal

pub refuse_replacing-requires-clause-not : goal.refuse_replacing-requires-clause-not
refuse_replacing-requires-clause-not g c = λ still.
    let found = c.in-Ok-None.ensures.live in
    let none = c.in-Ok-None.field-0-is in
    let is = still.1.is in
    cc

pub refuse_replacing-requires-then-get-revision-clause-not :
    goal.refuse_replacing-requires-then-get-revision-clause-not
refuse_replacing-requires-then-get-revision-clause-not g c = λ still.
    let there : live c.args.store.now.rows c.args.path.now ≡ Some c.in-Ok-Some.row =
    sym c.in-Ok-Some.ensures.live ∙ c.in-Ok-Some.field-0-is in
    c.if-get-revision.true (ap (λ (x : Row). x.revision)
    (c.get-3.ensures ∙ same_Some c.in-Ok-Some.row still.0 (sym there ∙ still.1.is))
    ∙ still.1.revision_is)

pub write_value-wrote-requires-clause-path : goal.write_value-wrote-requires-clause-path
write_value-wrote-requires-clause-path g c =
    own_path c.args.store.now.format c.in-Ok-Some.row c.get-4.result.now.path
    (ap (λ (x : Row). x.path) c.get-4.ensures)
    (subst (λ (o : Option Row). IfSome o (IsRow c.args.store.now.format)) c.in-Ok-Some.field-0-is
    c.in-Ok-Some.ensures.rules)

pub write_value-wrote-requires-clause-resource : goal.write_value-wrote-requires-clause-resource
write_value-wrote-requires-clause-resource g c =
    let rules : IsRow c.args.store.now.format c.in-Ok-Some.row =
    subst (λ (o : Option Row). IfSome o (IsRow c.args.store.now.format)) c.in-Ok-Some.field-0-is
    c.in-Ok-Some.ensures.rules in
    subst IsResource
    (sym (c.as_str-resource.ensures ∙ ap (λ (x : Row). x.resource) c.get-2.ensures)) rules.1.0

pub returns : goal.returns
returns g c =
    let own = c.in-Ok-Some.row in
    let p = c.args.published.now in
    let who = c.configured_writer-who.result.now in
    let resource = c.as_str-resource.result.now in
    let resource_is : resource ≡ own.resource =
    c.as_str-resource.ensures ∙ ap (λ (x : Row). x.resource) c.get-2.ensures in
    replaced_here p c.args.store.now c.write_value-wrote.new.store c.args.path.now
    c.args.revision c.args.stored own who
    (sym c.in-Ok-Some.ensures.live ∙ c.in-Ok-Some.field-0-is)
    (c.configured_writer-who.ensures.writer
    ∙ ap (λ (l : List ℕ). writer_of (list_at p l)) resource_is)
    resource c.get-4.result.now.path c.args.board.now c.write_value-wrote.new.board
    c.write_value-wrote.result resource_is (ap (λ (x : Row). x.path) c.get-4.ensures)
    c.write_value-wrote.ensures.store c.write_value-wrote.ensures.board
