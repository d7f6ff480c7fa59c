-- What is moved to the front is what stood behind.
use Rattle.std.proofs.Common.{◌≡◌, ◌-◌, ◌≤◌, length, take, drop, sym, ap, ◌∙◌, arith}
use Rattle.std.proofs.lemmas.List.{length-take-le}
use Rattle.kr_keywrap.proofs.Lines.{front_moved}
use Rattle.kr_keywrap.proofs.pending.Pending.drop_front.Goals as goal

pub returns : goal.returns
returns c =
    let inside = c.self.inside in
    let within : inside.filled ≤ length inside.bytes.items = omega (arith, c.self.invariant.0, c.self.invariant.1, inside.bytes.ok) in
    let size : length c.args.self.now ≡ inside.filled = ap length (sym c.self.view_is) ∙ length-take-le inside.filled inside.bytes.items within in
    let most : c.args.count ≤ inside.filled = omega (arith, size, c.requires) in
    ap (take (inside.filled - c.args.count)) c.copy_within.ensures.items
    ∙ front_moved inside.bytes.items c.args.count inside.filled most within
    ∙ ap (drop c.args.count) c.self.view_is
