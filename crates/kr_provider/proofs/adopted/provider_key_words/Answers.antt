-- `provider_key_words`: a key of the entries has its page.
use Rattle.std.proofs.Common.{◌∙◌, sym}
use Rattle.kr_config.specs.Kept.{rows_of}
use Rattle.kr_provider.specs.KeyPages.{secrets_in}
use Rattle.kr_provider.proofs.Keys.{its_secret, its_words, place_holds, place_some}
use Rattle.kr_provider.proofs.adopted.provider_key_words.Goals as goal

pub unreachable-requires : goal.unreachable-requires
unreachable-requires c =
    let secrets = secrets_in (rows_of c.args.entries.now) in
    place_some secrets c.in-Some.secret.now (its_secret c.args.who.now secrets c.in-Some.secret.now
    c.in-Some.ensures c.requires.among) (rw c.as_slice.ensures at (sym c.in_default-secret_place.is
    ∙ c.secret_place.ensures))

pub words-requires : goal.words-requires
words-requires c =
    let secrets = secrets_in (rows_of c.args.entries.now) in
    (place_holds secrets c.args.pages.now c.in-Some.secret.now c.in-Some-secret_place.place
    c.requires.keys (its_secret c.args.who.now secrets c.in-Some.secret.now c.in-Some.ensures
    c.requires.among)
    (rw c.as_slice.ensures at (sym c.in-Some-secret_place.is ∙ c.secret_place.ensures))).0

pub returns : goal.returns
returns c =
    let secrets = secrets_in (rows_of c.args.entries.now) in
    its_words c.args.who.now c.in-Some.secret.now c.words.result.now c.in-Some.ensures
    (c.words.ensures
    ∙ (place_holds secrets c.args.pages.now c.in-Some.secret.now c.in-Some-secret_place.place
    c.requires.keys (its_secret c.args.who.now secrets c.in-Some.secret.now c.in-Some.ensures
    c.requires.among)
    (rw c.as_slice.ensures at (sym c.in-Some-secret_place.is ∙ c.secret_place.ensures))).1)
