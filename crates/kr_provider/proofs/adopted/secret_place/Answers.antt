-- `secret_place`: the first entry with the secret has its first place.
use Rattle.std.proofs.Common.{◌∙◌, arith, sym}
use Rattle.kr_provider.proofs.Keys.{none_of, scan_counts, scan_on, scan_room, scan_some, secrets_count}
use Rattle.kr_provider.proofs.adopted.secret_place.Goals as goal

pub provider_key_place-place-requires : goal.provider_key_place-place-requires
provider_key_place-place-requires c =
    let room = scan_room c.args.entries.now c.loop-entry.entry-index c.loop-entry.before 64
    c.entry-item.result c.loop-entry-test.true c.entry-item.is c.loop-entry.invariant.1
    c.requires.few in
    record { few = rw c.as_slice-providers.ensures room }

pub returns-then-is_some : goal.returns-then-is_some
returns-then-is_some c = scan_some c.args.entries.now c.loop-entry.entry-index c.loop-entry.before
    c.entry-item.result c.args.secret.now c.provider_key_place-place.result _ c.loop-entry-test.true
    c.entry-item.is c.loop-entry.invariant.0
    (rw c.as_slice-providers.ensures at c.provider_key_place-place.ensures)
    (sym c.is_some.ensures ∙ c.if-is_some.true)

pub overflow_add-before : goal.overflow_add-before
overflow_add-before c =
    let room = scan_room c.args.entries.now c.loop-entry.entry-index c.loop-entry.before 64
    c.entry-item.result c.loop-entry-test.true c.entry-item.is c.loop-entry.invariant.1
    c.requires.few in
    let keys = rw c.as_slice-providers.ensures at c.count_provider_keys-before.ensures in
    let count = secrets_count c.entry-item.result.providers.0 in
    omega (arith, room, keys, count)

pub loop-entry-preserved : goal.loop-entry-preserved
loop-entry-preserved c =
    let inv = c.loop-entry.invariant in
    let keys = rw c.as_slice-providers.ensures at c.count_provider_keys-before.ensures in
    let none = sym (rw c.as_slice-providers.ensures at c.provider_key_place-place.ensures)
    ∙ none_of c.provider_key_place-place.result (sym c.is_some.ensures ∙ c.if-is_some.false) in
    rw keys (
      scan_on c.args.entries.now c.loop-entry.entry-index c.loop-entry.before c.entry-item.result
          c.args.secret.now _ c.loop-entry-test.true c.entry-item.is inv.0 none,
      scan_counts c.args.entries.now c.loop-entry.entry-index c.loop-entry.before
          c.entry-item.result c.loop-entry-test.true c.entry-item.is inv.1,
    )
