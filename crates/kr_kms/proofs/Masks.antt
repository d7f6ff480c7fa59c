-- A mask that is put on twice is off again.
use Rattle.std.proofs.Common.{◌≡◌, ℕ, List, [], ◌∷◌, ◌≤◌, bit_xor, Some, Ok, Bool, true, false, IsTrue, ◌↔◌, refl, sym, ◌∙◌, ap, subst, arith}
use Rattle.std.specs.Int.Bits.{xor_assoc, xor_self, xor_zero_r}
use Rattle.std.proofs.lemmas.List.{length-map}
use Rattle.kr_kms.specs.Calls.{key_in, Wraps}
use Rattle.kr_base.specs.InMemory.{after_call}
use Rattle.kr_base.specs.Limits.{IsShort}
use Rattle.kr_kms.specs.Limits.{IsWithinLimits}
use Rattle.kr_kms.specs.Table.{Table, xor_of, annotations_mask, salt_pair, wrapped_by_table, table_opens, link_of}
use Rattle.kr_kms.specs.declared.plugin.Wrapped.{Wrapped}

pub xor_twice : (mask : ℕ) (bytes : List ℕ) → xor_of mask (xor_of mask bytes) ≡ bytes
xor_twice mask [] = refl
xor_twice mask (byte ∷ bytes) =
    let off = xor_assoc byte mask mask ∙ ap (bit_xor byte) (xor_self mask) ∙ xor_zero_r byte in
    ap (λ b. b ∷ xor_of mask (xor_of mask bytes)) off ∙ ap (λ l. byte ∷ l) (xor_twice mask bytes)

abbrev current_mask : Table → ℕ
current_mask table = annotations_mask table.key_id (salt_pair table.salt)

-- what the plugin wrapped opens to the plain bytes
pub opens_wrapped : (name : List ℕ) (table : Table) (plain : List ℕ)
    → table_opens (key_in name (wrapped_by_table table plain)) ≡ Some plain
opens_wrapped name table plain = ap Some (xor_twice (current_mask table) plain)

-- it is within the limits where the plain bytes and the key id are
pub within : (table : Table) (plain : List ℕ) → IsShort plain → IsShort table.key_id
    → IsWithinLimits (wrapped_by_table table plain)
within table plain p k = record {
  key_id = k;
  source = subst (λ n. (1 ≤ n) × (n ≤ 1024))
      (sym (length-map plain (λ byte. bit_xor byte (current_mask table)))) p;
  annotations = (omega arith, omega arith);
}

pub within_back : (table : Table) (plain : List ℕ) → IsWithinLimits (wrapped_by_table table plain)
    → IsShort plain × IsShort table.key_id
within_back table plain w = (
  subst (λ n. (1 ≤ n) × (n ≤ 1024))
      (length-map plain (λ byte. bit_xor byte (current_mask table))) w.source,
  w.key_id,
)

-- an answer that it gave is as a link's must be: within the limits
pub wraps : (old new : Table) (plain : List ℕ) (wrapped : Wrapped)
    → IsWithinLimits (wrapped_by_table old plain) → new ≡ record old { calls = after_call old.calls }
    → wrapped ≡ wrapped_by_table new plain
    → Wraps (link_of old) (Ok wrapped) (link_of new)
wraps old new plain wrapped limits after is =
    subst (λ t. Wraps (link_of old) (Ok wrapped) (link_of t)) (sym after)
    (subst (λ w. Wraps (link_of old) (Ok w) (link_of (record old { calls = after_call old.calls })))
    (sym (is ∙ ap (λ t. wrapped_by_table t plain) after)) (
      record {
        same = record { name = refl; status = refl; later = omega arith };
        failed = λ e. cc;
      },
      limits,
    ))

-- what was tested and isn't denied is so
pub is_so : {P : Type 0} (test : Bool) → (IsTrue test ↔ P) → ((IsTrue test → ⊥) → ⊥) → P
is_so true says n = says.0 refl
is_so false says n = absurd (n (λ e. cc))
