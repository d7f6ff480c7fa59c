-- `object_frame`: what was pushed, part by part.
use Rattle.std.proofs.Common.{◌≡◌, ℕ, ◌+◌, ◌-◌, List, ◌++◌, ◌∷◌, length, take, replicate, ap, ◌∙◌, arith}
use Rattle.std.proofs.lemmas.List.{append_assoc, take_all}
use Rattle.kr_envelope.specs.Canonical.{fields_behind, shortest}
use Rattle.kr_envelope.specs.Prefixes.{prefix}
use Rattle.kr_envelope.specs.declared.object.SourceKind.TheVariants as source
use Rattle.kr_envelope.specs.declared.prefix.Kind.TheVariants as kind
use Rattle.kr_provider.proofs.seed_sealing.object_frame.Goals as goal

-- a buffer that grows by so many zeros
grown_to : (items front : List ℕ) (total k many : ℕ) → items ≡ front → total ≡ many + k
    → many ≡ length items → take total items ++ replicate (total - many) 0 ≡ front ++ replicate k 0
grown_to items front total k many same e counted =
    let left : total - many ≡ k = omega (arith, e) in
    (λ i. take_all total items (omega (arith, e, counted)) i ++ replicate (left i) 0)
    ∙ ap (λ l. l ++ replicate k 0) same

pub returns-in-Ok-push_last_fields : goal.returns-in-Ok-push_last_fields
returns-in-Ok-push_last_fields c =
    let plain : List ℕ = c.args.plain in
    let front : List ℕ =
    prefix kind.Kms c.args.name.now ++ 10 ∷ shortest (44 + length plain + 16) in
    let body : List ℕ = plain ++ replicate 16 0 in
    let fields : List ℕ = fields_behind c.args.row.now.key_id c.args.row.now.source
    c.args.row.now.annotations source.Seed in
    let named = c.in-Ok-push_prefix.ensures
    ∙ (λ i. c.in-Ok.ensures.items i ++ prefix kind.Kms (c.as_str.ensures i)) in
    let front_is : c.push_data_size.new.out.items ≡ front = c.in-Ok-push_data_size.ensures
    ∙ (λ i. named i ++ 10 ∷ shortest (44 + length (c.as_slice.ensures i) + 16)) in
    let zeros = c.in-Ok-resize.ensures.items
    ∙ grown_to c.push_data_size.new.out.items front _ 44 _ front_is
    (omega (arith, c.len-start.ensures)) c.push_data_size.new.out.ok.0 in
    let value = c.in-Some.ensures ∙ ap (λ l. l ++ body) (c.as_slice-2.ensures.value ∙ zeros) in (
      c.len-start.ensures ∙ c.push_data_size.new.out.ok.0 ∙ ap (λ (l : List ℕ). length l) front_is,
      c.in-Ok-push_last_fields.ensures
          ∙ (λ i. value i ++ fields_behind (c.as_str-2.ensures i) (c.as_slice-3.ensures i)
          c.args.row.now.annotations source.Seed)
          ∙ append_assoc (front ++ replicate 44 0) body fields
          ∙ append_assoc front (replicate 44 0) (body ++ fields),
    )
