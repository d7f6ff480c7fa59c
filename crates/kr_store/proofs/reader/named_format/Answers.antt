-- Answers of named_format.
use Rattle.std.proofs.Common.{◌≡◌, true, false, not, length, take, sym, ap, ◌∙◌, arith}
use Rattle.std.specs.Str.{bytes_eq}
use Rattle.std.proofs.lemmas.Slice.Eq.{bytes_eq-Decides}
use Rattle.kr_store.specs.File.{store_name}
use Rattle.kr_store.proofs.Steps.{other_short}
use Rattle.kr_store.proofs.reader.named_format.Goals as goal

pub returns-then-ne : goal.returns-then-ne
returns-then-ne c =
    let front = c.args.front.now in
    let begun = take (length front) store_name in
    other_short front (omega (arith, c.if-front.false)) (λ e.
    let t : bytes_eq front begun ≡ true = (bytes_eq-Decides front begun).1 e in
    let f : true ≡ false = sym c.if-ne.true ∙ c.ne.ensures ∙ ap not t in
    cc)
