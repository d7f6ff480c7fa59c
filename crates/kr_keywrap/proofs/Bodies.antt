-- A body is unwrapped as the bytes whose wrap it is, and as nothing else.
use Rattle.std.proofs.Common.{◌≡◌, ℕ, zero, suc, ◌-◌, ◌*◌, ◌/◌, ◌^◌, ◌<◌, ◌≤◌, ◌==◌, true, false, List, [], ◌++◌, length, take, drop, Result, Ok, Err, refl, sym, ap, subst, ◌∙◌, arith, lit<, inl, inr}
use Rattle.std.specs.Int.{w64, from_be_bytes, to_be_bytes}
use Rattle.std.proofs.lemmas.Bool.{cases_Bool}
use Rattle.std.proofs.lemmas.Bool.Decides.{Decides-eqb, nat_tests}
use Rattle.std.proofs.lemmas.List.{length-append, length-drop, length-take-le, take-append-drop}
use Rattle.std.proofs.lemmas.List.Elements.{All-drop, All-take}
use Rattle.kr_aes.specs.declared.Rounds.{Rounds}
use Rattle.kr_aes.specs.Cipher.{cipher}
use Rattle.kr_aes.specs.InverseCipher.{inverse_cipher}
use Rattle.kr_aes.proofs.Blocks.{IsBlock-cipher}
use Rattle.kr_aes.proofs.InverseBlocks.{IsBlock-inverse_cipher}
use Rattle.kr_aes.proofs.InverseRounds.{inverse_cipher-cipher}
use Rattle.kr_keywrap.specs.declared.key_wrap.WrapNo.{WrapNo}
use Rattle.kr_keywrap.specs.declared.key_wrap.WrapNo.TheVariants.{Length, Check}
use Rattle.kr_keywrap.specs.KeyWrap.{IsKeyData, IsWrappable, Registers, before_steps, initial_value, is_wrappable, key_unwrap, key_wrap, steps_of, unwrap_step, unwrapped_steps, wrap_step, wrapped_steps}
use Rattle.kr_aes.proofs.CipherBack.{cipher-inverse_cipher}
use Rattle.kr_keywrap.proofs.Halves.{AreBytes, bytes_of_number, first_half, length-to_be_bytes, number-lt, number_of_bytes, second_half}
use Rattle.kr_keywrap.proofs.Steps.{IsSound, Keeps, Undoes, unwrap_step-kept, unwrap_step-wrap_step, wrap_step-kept, wrap_step-unwrap_step}

-- ---- all steps

Keeps-all : (s t u : Registers) → Keeps s t → Keeps t u → Keeps s u
Keeps-all s t u a b = record { sound = b.sound; size = b.size ∙ a.size }

pub wrapped_steps-kept : (there back : List ℕ → List ℕ) → Undoes there back → (s : Registers) → IsSound s → (t : ℕ) → t < 2 ^ 64
    → Keeps s (wrapped_steps there s t)
unfolding wrapped_steps
wrapped_steps-kept there back undoes s is zero lt = record { sound = is; size = refl }
wrapped_steps-kept there back undoes s is (suc t) lt =
    let before = wrapped_steps-kept there back undoes s is t (omega arith) in
    Keeps-all s (wrapped_steps there s t) (wrap_step there (suc t) (wrapped_steps there s t)) before
    (wrap_step-kept there back undoes (suc t) (wrapped_steps there s t) before.sound lt)

pub unwrapped_steps-kept : (there back : List ℕ → List ℕ) → Undoes there back → (s : Registers) → IsSound s → (t : ℕ) → t < 2 ^ 64
    → Keeps s (unwrapped_steps there s t)
unfolding unwrapped_steps
unwrapped_steps-kept there back undoes s is zero lt = record { sound = is; size = refl }
unwrapped_steps-kept there back undoes s is (suc t) lt =
    let first = unwrap_step-kept there back undoes (suc t) s is lt in
    Keeps-all s (unwrap_step there (suc t) s) (unwrapped_steps there (unwrap_step there (suc t) s) t) first
    (unwrapped_steps-kept there back undoes (unwrap_step there (suc t) s) first.sound t (omega arith))

unwrapped_steps-wrapped_steps : (there back : List ℕ → List ℕ) → Undoes there back → (s : Registers) → IsSound s → (t : ℕ) → t < 2 ^ 64
    → unwrapped_steps back (wrapped_steps there s t) t ≡ s
unfolding wrapped_steps unwrapped_steps
unwrapped_steps-wrapped_steps there back undoes s is zero lt = refl
unwrapped_steps-wrapped_steps there back undoes s is (suc t) lt =
    ap (λ q. unwrapped_steps back q t) (unwrap_step-wrap_step there back undoes (suc t) (wrapped_steps there s t) (wrapped_steps-kept there back undoes s is t (omega arith)).sound lt)
    ∙ unwrapped_steps-wrapped_steps there back undoes s is t (omega arith)

wrapped_steps-unwrapped_steps : (there back : List ℕ → List ℕ) → Undoes there back → (s : Registers) → IsSound s → (t : ℕ) → t < 2 ^ 64
    → wrapped_steps back (unwrapped_steps there s t) t ≡ s
unfolding wrapped_steps unwrapped_steps
wrapped_steps-unwrapped_steps there back undoes s is zero lt = refl
wrapped_steps-unwrapped_steps there back undoes s is (suc t) lt =
    ap (wrap_step back (suc t)) (wrapped_steps-unwrapped_steps there back undoes (unwrap_step there (suc t) s) (unwrap_step-kept there back undoes (suc t) s is lt).sound t (omega arith))
    ∙ wrap_step-unwrap_step there back undoes (suc t) s is lt

-- ---- lengths

pub wrappable_true : (n : ℕ) → IsWrappable n → is_wrappable n ≡ true
wrappable_true n is = grind (arith, nat_tests)

pub wrappable_from : (n : ℕ) → is_wrappable n ≡ true → IsWrappable n
wrappable_from n h = grind (arith, nat_tests)

few_steps : (n : ℕ) → n ≤ 1016 → 6 * (n / 8) < 2 ^ 64
few_steps n h = omega arith

-- ---- a body

-- the registers that a body is
abbrev pub parts_of : List ℕ → Registers
parts_of body = record { a = from_be_bytes w64 (take 8 body); r = drop 8 body }

-- what is unwrapped, by the tests
pub unwrap-ok : (decipher : List ℕ → List ℕ) (body : List ℕ) → is_wrappable (length body - 8) ≡ true → (before_steps decipher body).a ≡ initial_value
    → key_unwrap decipher body ≡ Ok (before_steps decipher body).r
unfolding key_unwrap
unwrap-ok decipher body size at =
    let same : ((before_steps decipher body).a == initial_value) ≡ true = (Decides-eqb (before_steps decipher body).a initial_value).1 at in
    rw (size, same) refl

pub unwrap-length : (decipher : List ℕ → List ℕ) (body : List ℕ) → is_wrappable (length body - 8) ≡ false
    → key_unwrap decipher body ≡ Err Length
unfolding key_unwrap
unwrap-length decipher body size = rw size refl

pub unwrap-check : (decipher : List ℕ → List ℕ) (body : List ℕ) → is_wrappable (length body - 8) ≡ true → ((before_steps decipher body).a == initial_value) ≡ false
    → key_unwrap decipher body ≡ Err Check
unfolding key_unwrap
unwrap-check decipher body size other = rw (size, other) refl

bytes_in : Result (List ℕ) WrapNo → List ℕ
bytes_in (Ok x) = x
bytes_in (Err why) = []

bytes_in-Ok : (x : List ℕ) → bytes_in (Ok x) ≡ x
unfolding bytes_in
bytes_in-Ok x = refl

IsSound-start : (plain : List ℕ) → IsKeyData plain → IsSound (record { a = initial_value; r = plain })
IsSound-start plain is = record { number = lit< tt; some = omega (arith, is.size); bytes = is.bytes }

module _ (there back : List ℕ → List ℕ) (undoes : Undoes there back) where
  wrap_body : (plain : List ℕ) → IsKeyData plain → (end : Registers) → end ≡ wrapped_steps there (record { a = initial_value; r = plain }) (steps_of plain)
      → key_unwrap back (to_be_bytes w64 end.a ++ end.r) ≡ Ok plain
  unfolding before_steps
  wrap_body plain is end at =
      let start : Registers = record { a = initial_value; r = plain } in
      let lt : steps_of plain < 2 ^ 64 = few_steps (length plain) is.size.2 in
      let kept : Keeps start end = subst (Keeps start) (sym at) (wrapped_steps-kept there back undoes start (IsSound-start plain is) (steps_of plain) lt) in
      let body : List ℕ = to_be_bytes w64 end.a ++ end.r in
      let second : drop 8 body ≡ end.r = second_half end.a end.r in
      let first : from_be_bytes w64 (take 8 body) ≡ end.a = ap (from_be_bytes w64) (first_half end.a end.r) ∙ number_of_bytes end.a kept.sound.number in
      let parts : parts_of body ≡ end = λ i. record { a = first i; r = second i } in
      let steps : steps_of (drop 8 body) ≡ steps_of plain = ap (λ (n : ℕ). 6 * (n / 8)) (ap length second ∙ kept.size) in
      let undone : before_steps back body ≡ start =
      (λ i. unwrapped_steps back (parts i) (steps i)) ∙ ap (λ q. unwrapped_steps back q (steps_of plain)) at
      ∙ unwrapped_steps-wrapped_steps there back undoes start (IsSound-start plain is) (steps_of plain) lt in
      let size : length body - 8 ≡ length plain = omega (arith, length-append (to_be_bytes w64 end.a) end.r, length-to_be_bytes end.a, kept.size) in
      unwrap-ok back body (ap is_wrappable size ∙ wrappable_true (length plain) is.size) (ap (λ q. q.a) undone)
      ∙ ap (λ q. Ok q.r) undone

  pub unwrap-wrap : (plain : List ℕ) → IsKeyData plain → key_unwrap back (key_wrap there plain) ≡ Ok plain
  unfolding key_wrap
  unwrap-wrap plain is = wrap_body plain is (wrapped_steps there (record { a = initial_value; r = plain }) (steps_of plain)) refl

module _ (there back : List ℕ → List ℕ) (undoes : Undoes back there) where
  -- a body of a length that is unwrapped
  pub body_sound : (body : List ℕ) → AreBytes body → IsWrappable (length body - 8) → IsSound (parts_of body)
  body_sound body all size = record {
    number = number-lt (take 8 body) (All-take (λ byte. byte < 256) 8 body all);
    some = omega (arith, length-drop 8 body, size);
    bytes = All-drop (λ byte. byte < 256) 8 body all;
  }

  pub start_kept : (body : List ℕ) → AreBytes body → IsWrappable (length body - 8) → Keeps (parts_of body) (before_steps back body)
  unfolding before_steps
  start_kept body all size =
      unwrapped_steps-kept back there undoes (parts_of body) (body_sound body all size) (steps_of (drop 8 body))
      (few_steps (length (drop 8 body)) (omega (arith, length-drop 8 body, size)))

  pub key_data : (body : List ℕ) → AreBytes body → IsWrappable (length body - 8) → IsKeyData (before_steps back body).r
  key_data body all size =
      let kept = start_kept body all size in
      let same : length (before_steps back body).r ≡ length body - 8 = kept.size ∙ length-drop 8 body in
      record { size = subst IsWrappable (sym same) size; bytes = kept.sound.bytes }

  pub wrap_again : (body : List ℕ) → AreBytes body → IsWrappable (length body - 8) → (before_steps back body).a ≡ initial_value
      → body ≡ key_wrap there (before_steps back body).r
  unfolding key_wrap before_steps
  wrap_again body all size at =
      let start : Registers = before_steps back body in
      let kept = start_kept body all size in
      let n : ℕ = steps_of (drop 8 body) in
      let steps : steps_of start.r ≡ n = ap (λ (k : ℕ). 6 * (k / 8)) kept.size in
      let redone : wrapped_steps there start n ≡ parts_of body =
      wrapped_steps-unwrapped_steps back there undoes (parts_of body) (body_sound body all size) n
      (few_steps (length (drop 8 body)) (omega (arith, length-drop 8 body, size))) in
      let end : wrapped_steps there (record { a = initial_value; r = start.r }) (steps_of start.r) ≡ parts_of body =
      (λ i. wrapped_steps there (record { a = sym at i; r = start.r }) (steps i)) ∙ redone in
      let first : to_be_bytes w64 (from_be_bytes w64 (take 8 body)) ≡ take 8 body =
      bytes_of_number (take 8 body) (length-take-le 8 body (omega (arith, size))) (All-take (λ byte. byte < 256) 8 body all) in
      sym (ap (λ q. to_be_bytes w64 q.a ++ q.r) end ∙ ap (λ (l : List ℕ). l ++ drop 8 body) first ∙ take-append-drop 8 body)

  same_ok : (body : List ℕ) → AreBytes body → (plain : List ℕ) → IsWrappable (length body - 8) → (before_steps back body).a ≡ initial_value
      → (before_steps back body).r ≡ plain → IsKeyData plain × (body ≡ key_wrap there plain)
  same_ok body all plain size at e =
      subst (λ l. IsKeyData l × (body ≡ key_wrap there l)) e (key_data body all size, wrap_again body all size at)

  pub wrap-unwrap : (body plain : List ℕ) → AreBytes body → key_unwrap back body ≡ Ok plain → IsKeyData plain × (body ≡ key_wrap there plain)
  wrap-unwrap body plain all e = elim (cases_Bool (is_wrappable (length body - 8))) [
    | inl size ↦ elim (cases_Bool ((before_steps back body).a == initial_value)) [
      | inl same ↦
          let at : (before_steps back body).a ≡ initial_value = (Decides-eqb (before_steps back body).a initial_value).0 same in
          let given : ◌≡◌ {A = Result (List ℕ) WrapNo} (Ok (before_steps back body).r) (Ok plain) = sym (unwrap-ok back body size at) ∙ e in
          same_ok body all plain (wrappable_from (length body - 8) size) at (sym (bytes_in-Ok (before_steps back body).r) ∙ ap bytes_in given ∙ bytes_in-Ok plain)
      | inr other ↦
          let no_value : Err Check ≡ Ok plain = sym (unwrap-check back body size other) ∙ e in
          absurd (cc)
    ]
    | inr size ↦
        let no_value : Err Length ≡ Ok plain = sym (unwrap-length back body size) ∙ e in
        absurd (cc)
  ]

-- ---- AES

pub cipher_undone : (words : List ℕ) (rounds : Rounds) → Undoes (cipher words rounds) (inverse_cipher words rounds)
cipher_undone words rounds = record { block = λ b is. IsBlock-cipher words rounds b; undone = inverse_cipher-cipher words rounds }

pub inverse_undone : (words : List ℕ) (rounds : Rounds) → Undoes (inverse_cipher words rounds) (cipher words rounds)
inverse_undone words rounds = record { block = λ b is. IsBlock-inverse_cipher words rounds b; undone = cipher-inverse_cipher words rounds }

pub unwrap_of_wrapped : (words : List ℕ) (rounds : Rounds) (plain : List ℕ) → IsKeyData plain
    → key_unwrap (inverse_cipher words rounds) (key_wrap (cipher words rounds) plain) ≡ Ok plain
unwrap_of_wrapped words rounds plain is = unwrap-wrap (cipher words rounds) (inverse_cipher words rounds) (cipher_undone words rounds) plain is

pub wrap_of_unwrapped : (words : List ℕ) (rounds : Rounds) (body plain : List ℕ) → AreBytes body
    → key_unwrap (inverse_cipher words rounds) body ≡ Ok plain → IsKeyData plain × (body ≡ key_wrap (cipher words rounds) plain)
wrap_of_unwrapped words rounds body plain all e = wrap-unwrap (cipher words rounds) (inverse_cipher words rounds) (inverse_undone words rounds) body plain all e

-- a body of another length
pub not_wrapped : (decipher : List ℕ → List ℕ) (body : List ℕ) (n : ℕ) → n ≡ length body - 8 → (IsWrappable n → ⊥)
    → key_unwrap decipher body ≡ Err Length
not_wrapped decipher body n at none = elim (cases_Bool (is_wrappable (length body - 8))) [
  | inl size ↦ absurd (none (subst IsWrappable (sym at) (wrappable_from (length body - 8) size)))
  | inr size ↦ unwrap-length decipher body size
]

-- another check value
pub not_checked : (decipher : List ℕ → List ℕ) (body : List ℕ) → IsWrappable (length body - 8) → ((before_steps decipher body).a ≡ initial_value → ⊥)
    → key_unwrap decipher body ≡ Err Check
not_checked decipher body size other = elim (cases_Bool ((before_steps decipher body).a == initial_value)) [
  | inl same ↦ absurd (other ((Decides-eqb (before_steps decipher body).a initial_value).0 same))
  | inr differ ↦ unwrap-check decipher body (wrappable_true (length body - 8) size) differ
]

-- what is unwrapped of a wrap
pub same_plain : (words : List ℕ) (rounds : Rounds) (body given plain : List ℕ) → key_unwrap (inverse_cipher words rounds) body ≡ Ok given
    → IsKeyData plain → body ≡ key_wrap (cipher words rounds) plain → given ≡ plain
same_plain words rounds body given plain e is at =
    let f : key_unwrap (inverse_cipher words rounds) body ≡ Ok plain = ap (key_unwrap (inverse_cipher words rounds)) at ∙ unwrap_of_wrapped words rounds plain is in
    sym (bytes_in-Ok given) ∙ ap bytes_in (sym e ∙ f) ∙ bytes_in-Ok plain

pub none_plain : (words : List ℕ) (rounds : Rounds) (body : List ℕ) (why : WrapNo) (plain : List ℕ) → key_unwrap (inverse_cipher words rounds) body ≡ Err why
    → IsKeyData plain → body ≡ key_wrap (cipher words rounds) plain → ⊥
none_plain words rounds body why plain e is at =
    let f : Err why ≡ Ok plain = sym e ∙ ap (key_unwrap (inverse_cipher words rounds)) at ∙ unwrap_of_wrapped words rounds plain is in
    cc
