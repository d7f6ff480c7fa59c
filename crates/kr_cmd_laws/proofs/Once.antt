-- What a file, an input or a store is read as is one thing, and why a rewrite doesn't start.
use Rattle.std.proofs.Common.{◌≡◌, ℕ, List, [], ◌∷◌, length, Option, None, Some, Ok, Err, refl, sym, ◌∙◌, ap, subst, inl, inr, arith, Result}
use Rattle.std.specs.Prelude.{codes, ⊤}
use Rattle.std.specs.Result.{result_map_both}
use Rattle.kr_config.specs.Kept.{ConfigEntry}
use Rattle.kr_config.proofs.OneMeaning.{one_meaning}
use Rattle.kr_envelope.specs.declared.prefix.Kind.{Kind}
use Rattle.kr_envelope.specs.declared.prefix.Kind.TheVariants.{Aescbc, Aesgcm, Kms}
use Rattle.kr_envelope.specs.declared.prefix.Tagged.TheVariants.{Plain, Known, Strange}
use Rattle.kr_envelope.specs.declared.object.EncryptedObject.{EncryptedObject}
use Rattle.kr_envelope.specs.declared.object.ObjectNo.{ObjectNo}
use Rattle.kr_envelope.specs.declared.object.ObjectNo.TheVariants as object
use Rattle.kr_envelope.proofs.OneReading.{one_reading}
use Rattle.kr_envelope.proofs.Prefixing.{one_prefix, prefix_marked}
use Rattle.kr_store.specs.declared.rows.LogRow.{LogRow}
use Rattle.kr_cmd_steps.specs.Configuration.{IsConfiguration}
use Rattle.kr_cmd_steps.specs.Inspect.{Inspects, ShowsBody, ShowsObject}
use Rattle.kr_cmd_steps.specs.StoreFiles.{Stored, IsSource, IsTarget, unless_new, unless_there}
use Rattle.kr_cmd_messages.specs.Texts.{line, word_and_number}
use Rattle.kr_cmd_messages.specs.declared.refusal.Refusal.{Refusal}
use Rattle.kr_cmd_messages.specs.declared.refusal.Refusal.TheVariants.{Configuration}
use Rattle.kr_cmd_laws.proofs.Listed.{one_stored}
use Rattle.kr_cmd_steps.proofs.OneVerdict.{told_cause}
use Rattle.kr_history.proofs.Causes.{one_cause}
use Rattle.kr_history.proofs.Judging.{refusal_is_exact}
use Rattle.kr_cmd_steps.specs.RewriteSteps.{IsStarted}
use Rattle.kr_cmd_steps.specs.Judgements.{start_refusal}

pub one_configuration : (name : List ℕ) (file : Option (List ℕ)) (a b : Result (List ConfigEntry) Refusal)
    → IsConfiguration name file a → IsConfiguration name file b → a ≡ b
one_configuration name None a b h k = h ∙ sym k
one_configuration name (Some bytes) a b (inl h) (inl k) = h.1 ∙ sym k.1
one_configuration name (Some bytes) a b (inl h) (inr k) = absurd (omega (arith, h.0, k.0))
one_configuration name (Some bytes) a b (inr h) (inl k) = absurd (omega (arith, h.0, k.0))
one_configuration name (Some bytes) a b (inr h) (inr k) = h.3
    ∙ ap (λ r. result_map_both (λ x. x) Configuration r) (one_meaning bytes h.1 k.1 h.2 k.2)
    ∙ sym k.3

-- ---- inspect

one_object : (name body : List ℕ) (read : Result EncryptedObject ObjectNo)
    (a b : Result (List ℕ) Refusal)
    → ShowsObject name body read a → ShowsObject name body read b → a ≡ b
one_object name body (Ok x) a b h k = h ∙ sym k
one_object name body (Err x) a b (v, p, h) (w, q, k) =
    let same : Some v ≡ Some w = sym p ∙ q in h ∙ (let e : v ≡ w = cc in ap (λ r. Err r) e) ∙ sym k

no_memory : (name body : List ℕ) {read : Result EncryptedObject ObjectNo}
    (a : Result (List ℕ) Refusal)
    → read ≡ Err object.NoMemory → ShowsObject name body read a → ⊥
no_memory name body a e h =
    let h = subst (λ q. ShowsObject name body q a) e h in let none : None ≡ Some h.0 =
    h.1 in absurd cc

one_body : (kind : Kind) (name body : List ℕ) (a b : Result (List ℕ) Refusal)
    → ShowsBody kind name body a
    → ShowsBody kind name body b → a ≡ b
one_body Aescbc name body a b h k = h ∙ sym k
one_body Aesgcm name body a b h k = h ∙ sym k
one_body Kms name body a b (r, x, h) (s, y, k) = elim (one_reading body r s x y) [
  | inl short ↦ absurd (no_memory name body a short h)
  | inr more ↦ elim more [
    | inl short ↦ absurd (no_memory name body b short k)
    | inr same ↦ one_object name body s a b (subst (λ q. ShowsObject name body q a) same h) k
  ]
]

pub one_inspection : (bytes : List ℕ) (a b : Result (List ℕ) Refusal) → Inspects bytes a
    → Inspects bytes b → a ≡ b
one_inspection bytes a b (Plain c, s, h) (Plain d, t, k) =
    h ∙ ap (λ x. Ok (line (word_and_number (codes "plain") (length x)))) (s.1 ∙ sym t.1) ∙ sym k
one_inspection bytes a b (Plain c, s, h) (Known kind name body, t, k) =
    absurd (s.0 (prefix_marked kind name.now bytes (body.now, t.1)))
one_inspection bytes a b (Plain c, s, h) (Strange, t, k) = absurd (s.0 t.0)
one_inspection bytes a b (Known kind name body, s, h) (Plain d, t, k) =
    absurd (t.0 (prefix_marked kind name.now bytes (body.now, s.1)))
one_inspection bytes a b (Known kind name body, s, h) (Known other text rest, t, k) =
    let same = one_prefix other kind text.now name.now rest.now body.now t.0 s.0 (sym t.1 ∙ s.1) in
    one_body kind name.now body.now a b h
    (subst (λ x. ShowsBody kind name.now x b) same.2
    (subst (λ x. ShowsBody kind x rest.now b) same.1
    (subst (λ x. ShowsBody x text.now rest.now b) same.0 k)))
one_inspection bytes a b (Known kind name body, s, h) (Strange, t, k) =
    absurd (t.1 kind name.now s.0 (body.now, s.1))
one_inspection bytes a b (Strange, s, h) (Plain d, t, k) = absurd (t.0 s.0)
one_inspection bytes a b (Strange, s, h) (Known kind name body, t, k) =
    absurd (s.1 kind name.now t.0 (body.now, t.1))
one_inspection bytes a b (Strange, s, h) (Strange, t, k) = h ∙ sym k

-- ---- a migration and a rewrite

pub one_source : (bytes : List ℕ) (a b : Result Stored Refusal) → IsSource bytes a
    → IsSource bytes b → a ≡ b
one_source bytes a b h k =
    h.2 ∙ ap (unless_new bytes) (one_stored bytes h.0 k.0 h.1 k.1) ∙ sym k.2

pub one_target : (bytes : List ℕ) (a b : Result Stored Refusal) → IsTarget bytes a
    → IsTarget bytes b → a ≡ b
one_target bytes a b h k =
    h.2 ∙ ap (unless_there bytes) (one_stored bytes h.0 k.0 h.1 k.1) ∙ sym k.2

pub one_started : (stored : List LogRow) (rows : List ConfigEntry) (a b : Result ⊤ Refusal)
    → IsStarted stored rows a → IsStarted stored rows b → a ≡ b
one_started stored rows (Ok u) (Ok v) h k = refl
one_started stored rows (Ok u) (Err w) h (cause, none, is) =
    absurd (told_cause cause is (refusal_is_exact stored (Some rows ∷ []) cause none h))
one_started stored rows (Err v) (Ok u) (cause, none, is) k =
    absurd (told_cause cause is (refusal_is_exact stored (Some rows ∷ []) cause none k))
one_started stored rows (Err v) (Err w) (c, x, p) (d, y, q) =
    let same = one_cause stored (Some rows ∷ []) c d (told_cause c p) (told_cause d q) x y in
    let why : Some v ≡ Some w = sym p ∙ ap start_refusal same ∙ q in
    let e : v ≡ w = cc in ap (λ r. Err r) e
