-- `write_body`: the info, and the body under the key that it makes.
use Rattle.std.proofs.Common.{◌≡◌, ◌++◌, ℕ, List, length, take, drop, ap, ◌∙◌, arith}
use Rattle.std.proofs.lemmas.List.{length-take-le}
use Rattle.kr_provider.specs.Envelopes.{gcm_body}
use Rattle.kr_provider.proofs.Framed.{data_of_body}
use Rattle.kr_provider.proofs.SeedValues.{body_written}
use Rattle.kr_provider.proofs.seed_sealing.write_body.Goals as goal

pub returns : goal.returns
returns c =
    let first : List ℕ = c.copy_from_slice-2.new.self in
    let rest : List ℕ = c.split_at_mut-first.result.1.now in
    let plain : List ℕ = take c.args.size (drop 44 c.args.room.now) in
    let inside : take c.args.size (drop 12 (drop 32 (first ++ rest))) ≡ plain =
    data_of_body first rest c.args.room.now c.args.size
    (ap length (c.copy_from_slice-2.ensures.after ∙ c.split_at.ensures.front)
    ∙ length-take-le 32 c.args.drawn.now (omega (arith, c.told-drawn)))
    c.split_at_mut-first.ensures.back in
    body_written c.args.seed.now c.args.path.now plain c.args.drawn.now
    c.split_at.result.0.now first rest
    c.copy_from_slice.new.self c.value_key-key.result c.write_gcm.new.value c.told-drawn
    c.split_at.ensures.front c.copy_from_slice-2.ensures.after c.value_key-key.ensures.key
    (c.copy_from_slice.ensures.after ∙ c.split_at.ensures.back)
    (c.write_gcm.ensures ∙ ap (λ text. take 32 (first ++ rest)
    ++ gcm_body c.value_key-key.result c.args.path.now text c.copy_from_slice.new.self) inside)
