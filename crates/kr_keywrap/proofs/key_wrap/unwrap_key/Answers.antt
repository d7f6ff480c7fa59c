-- The key that was wrapped, or that the check value is another.
use Rattle.std.proofs.Common.{◌≡◌, ℕ, ◌-◌, ◌<◌, false, true, List, length, Ok, refl, sym, ap, subst, ◌∙◌}
use Rattle.std.proofs.lemmas.List.Elements.{All-from_get_or}
use Rattle.kr_aes.specs.InverseCipher.{inverse_cipher}
use Rattle.kr_keywrap.specs.declared.key_wrap.WrapNo.TheVariants.{Length, Check}
use Rattle.kr_keywrap.specs.KeyWrap.{IsWrappable, Registers}
use Rattle.kr_keywrap.proofs.Blocks.{before_is}
use Rattle.kr_keywrap.proofs.Bodies.{none_plain, not_checked, not_wrapped, same_plain, unwrap-ok, wrap_of_unwrapped, wrappable_true}
use Rattle.kr_keywrap.proofs.key_wrap.unwrap_key.Goals as goal

-- ---- another length

pub returns-then-not-is_wrappable-clause-unwrapped : goal.returns-then-not-is_wrappable-clause-unwrapped
returns-then-not-is_wrappable-clause-unwrapped c =
    not_wrapped (inverse_cipher c.args.words.now c.args.rounds) c.args.body.now (length c.args.out.now) c.requires.size
    (λ w. let e : false ≡ true = c.if-not-is_wrappable.ensures.1 w in cc)

pub returns-then-not-is_wrappable-clause-wrapped : goal.returns-then-not-is_wrappable-clause-wrapped
returns-then-not-is_wrappable-clause-wrapped c = λ plain is at.
    absurd (none_plain c.args.words.now c.args.rounds c.args.body.now Length plain (returns-then-not-is_wrappable-clause-unwrapped c) is at)

-- ---- the check value

pub returns-then-unwrap_blocks-clause-unwrapped : goal.returns-then-unwrap_blocks-clause-unwrapped
returns-then-unwrap_blocks-clause-unwrapped c =
    let decipher : List ℕ → List ℕ = inverse_cipher c.args.words.now c.args.rounds in
    let body : List ℕ = c.args.body.now in
    let size : IsWrappable (length body - 8) = subst IsWrappable c.requires.size (c.if-not-is_wrappable.ensures.0 refl) in
    let before = before_is decipher body c.copy_from_slice.new.self c.unwrap_blocks.new.blocks c.unwrap_blocks.result c.half_number.result
    c.half_number.ensures c.copy_from_slice.ensures.after (c.unwrap_blocks.ensures c.args.words.now c.invert.ensures) in
    unwrap-ok decipher body (wrappable_true (length body - 8) size) (ap (λ (q : Registers). q.a) (sym before) ∙ c.if-unwrap_blocks.true)
    ∙ ap (λ (q : Registers). Ok q.r) (sym before)

pub returns-then-unwrap_blocks-clause-ok : goal.returns-then-unwrap_blocks-clause-ok
returns-then-unwrap_blocks-clause-ok c =
    wrap_of_unwrapped c.args.words.now c.args.rounds c.args.body.now c.unwrap_blocks.new.blocks
    (All-from_get_or (λ byte. byte < 256) c.args.body.now 0 (λ i lt. (c.type_inv.body i).fits)) (returns-then-unwrap_blocks-clause-unwrapped c)

pub returns-then-unwrap_blocks-clause-wrapped : goal.returns-then-unwrap_blocks-clause-wrapped
returns-then-unwrap_blocks-clause-wrapped c = λ plain is at. (
  refl,
  same_plain c.args.words.now c.args.rounds c.args.body.now c.unwrap_blocks.new.blocks plain (returns-then-unwrap_blocks-clause-unwrapped c) is at,
)

pub returns-then-unwrap_blocks-clause-check : goal.returns-then-unwrap_blocks-clause-check
returns-then-unwrap_blocks-clause-check c = (
  λ h. absurd (cc),
  λ p. absurd (p.1 (
      let decipher : List ℕ → List ℕ = inverse_cipher c.args.words.now c.args.rounds in
      let before = before_is decipher c.args.body.now c.copy_from_slice.new.self c.unwrap_blocks.new.blocks c.unwrap_blocks.result c.half_number.result
      c.half_number.ensures c.copy_from_slice.ensures.after (c.unwrap_blocks.ensures c.args.words.now c.invert.ensures) in
      ap (λ (q : Registers). q.a) (sym before) ∙ c.if-unwrap_blocks.true)),
)

pub returns-else-unwrap_blocks-clause-check : goal.returns-else-unwrap_blocks-clause-check
returns-else-unwrap_blocks-clause-check c = (
  λ h. (
    subst IsWrappable c.requires.size (c.if-not-is_wrappable.ensures.0 refl),
    λ e.
        let decipher : List ℕ → List ℕ = inverse_cipher c.args.words.now c.args.rounds in
        let before = before_is decipher c.args.body.now c.copy_from_slice.new.self c.unwrap_blocks.new.blocks c.unwrap_blocks.result c.half_number.result
        c.half_number.ensures c.copy_from_slice.ensures.after (c.unwrap_blocks.ensures c.args.words.now c.invert.ensures) in
        c.if-unwrap_blocks.false (ap (λ (q : Registers). q.a) before ∙ e),
  ),
  λ p. refl,
)

pub returns-else-unwrap_blocks-clause-unwrapped : goal.returns-else-unwrap_blocks-clause-unwrapped
returns-else-unwrap_blocks-clause-unwrapped c =
    let known = (returns-else-unwrap_blocks-clause-check c).0 refl in
    not_checked (inverse_cipher c.args.words.now c.args.rounds) c.args.body.now known.0 known.1

pub returns-else-unwrap_blocks-clause-wrapped : goal.returns-else-unwrap_blocks-clause-wrapped
returns-else-unwrap_blocks-clause-wrapped c = λ plain is at.
    absurd (none_plain c.args.words.now c.args.rounds c.args.body.now Check plain (returns-else-unwrap_blocks-clause-unwrapped c) is at)
