-- What a link wraps opens by the keys of its ring.
use Rattle.std.proofs.Common.{◌≡◌, ℕ, ◌-◌, ◌<◌, List, length, Some, Ok, Err, refl, sym, ap, subst, ◌∙◌, arith}
use Rattle.std.specs.Option.{option_and_then}
use Rattle.std.specs.Result.{result_ok}
use Rattle.kr_aes.specs.KeyExpansion.{padded_schedule}
use Rattle.kr_base.specs.InMemory.{after_call}
use Rattle.kr_kms.specs.Calls.{AsksLink}
use Rattle.kr_kms.specs.Exchanges.{Exchange, StatusCall, WrapCall, UnwrapCall, AgreesWith}
use Rattle.kr_kms.specs.declared.plugin.Wrapped.{Wrapped}
use Rattle.kr_keywrap.specs.declared.key_wrap.WrapNo.TheVariants.{Length}
use Rattle.kr_keywrap.specs.KeyWrap.{IsKeyData, key_unwrap}
use Rattle.kr_keywrap.specs.Keys.{Keys, opened_by, rounds_of, unwrapped_under, wrapped_under}
use Rattle.kr_keywrap.specs.KeyLink.{IsWrapBy, KeyLinkState, KeyLinkStep, IsOfBytes, link_seen, ring_opens}
use Rattle.kr_keywrap.proofs.Bodies.{not_wrapped, unwrap_of_wrapped}

opened_of : (keys : Keys) (key_id kek plain : List ℕ) → keys key_id ≡ Some kek → IsKeyData plain
    → opened_by keys key_id (wrapped_under kek plain) ≡ Some plain
opened_of keys key_id kek plain at is =
    ap (option_and_then (λ k. result_ok (unwrapped_under k (wrapped_under kek plain)))) at
    ∙ ap result_ok (unwrap_of_wrapped (padded_schedule kek) (rounds_of kek) plain is)

pub opens_wrapped : (keys : Keys) (link : KeyLinkState) (plain : List ℕ) (wrapped : Wrapped) → IsKeyData plain → IsWrapBy keys link plain wrapped
    → opened_by keys wrapped.key_id wrapped.cipher ≡ Some plain
opens_wrapped keys link plain wrapped is (kek, at, same) =
    let P : Wrapped → Type 0 = λ w. opened_by keys w.key_id w.cipher ≡ Some plain in
    subst P (sym same) (opened_of keys link.key_id kek plain at is)

pub asks_ok : {T : Type 0} (old new : KeyLinkState) (x : T)
    → new ≡ record old { calls = after_call old.calls } → AsksLink (link_seen old) (Ok x) (link_seen new)
asks_ok old new x e =
    subst (λ s. AsksLink (link_seen old) (Ok x) (link_seen s)) (sym e) (record {
      same = record { name = refl; status = refl; later = omega arith };
      failed = λ h. absurd (cc);
    })

-- a body that is too long
pub too_long : (decipher : List ℕ → List ℕ) (body : List ℕ) (size : ℕ) → size ≡ length body - 8 → 1016 < size
    → key_unwrap decipher body ≡ Err Length
too_long decipher body size at long = not_wrapped decipher body size at (λ w. omega (arith, w.2))

-- the link's answers agree with what the ring's keys open
pub key_link_agrees : (keys : Keys) (old : KeyLinkState) (exchange : Exchange) (new : KeyLinkState) → KeyLinkStep keys old exchange new
    → IsOfBytes exchange → AgreesWith (ring_opens keys) exchange
key_link_agrees keys old (WrapCall name plain (Ok wrapped)) new h are =
    opens_wrapped keys old plain wrapped (record { size = h.answers.1; bytes = are }) h.answers.2
key_link_agrees keys old (UnwrapCall key (Ok bytes)) new h are = h.answers.2
key_link_agrees keys old other new h are = tt
