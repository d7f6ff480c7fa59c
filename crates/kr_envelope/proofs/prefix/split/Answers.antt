-- Bytes begin with one prefix, or with none.
use Rattle.std.proofs.Common.{refl, true, drop}
use Rattle.std.proofs.lemmas.Bool.Decides.{Decides-eqb}
use Rattle.std.proofs.lemmas.Slice.Eq.{starts_is}
use Rattle.kr_envelope.specs.declared.prefix.Kind.TheVariants.{Aescbc, Aesgcm, Kms}
use Rattle.kr_envelope.specs.Prefixes.{mark}
use Rattle.kr_envelope.proofs.Prefixing.{of_no_kind, no_other}
use Rattle.kr_envelope.proofs.prefix.split.Goals as goal

pub returns-clause-split : goal.returns-clause-split
returns-clause-split c = (
  let found = (starts_is Decides-eqb c.args.bytes.now mark true c.if-not-starts_with.ensures.value).0 refl in (drop 8 c.args.bytes.now, found),
  of_no_kind c.args.bytes.now c.in_default.ensures c.in_default-parted.ensures c.in_default-parted-2.ensures,
)

pub returns-in-Some-clause-only : goal.returns-in-Some-clause-only
returns-in-Some-clause-only c = no_other Aescbc c.in-Some.name.now c.in-Some.body.now c.args.bytes.now c.in-Some.ensures.0 c.in-Some.ensures.1

pub returns-in-Some-parted-clause-only : goal.returns-in-Some-parted-clause-only
returns-in-Some-parted-clause-only c = no_other Aesgcm c.in-Some-parted.name.now c.in-Some-parted.body.now c.args.bytes.now c.in-Some-parted.ensures.0 c.in-Some-parted.ensures.1

pub returns-in-Some-parted-2-clause-only : goal.returns-in-Some-parted-2-clause-only
returns-in-Some-parted-2-clause-only c = no_other Kms c.in-Some-parted-2.name.now c.in-Some-parted-2.body.now c.args.bytes.now c.in-Some-parted-2.ensures.0 c.in-Some-parted-2.ensures.1
