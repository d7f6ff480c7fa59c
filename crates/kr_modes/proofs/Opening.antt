-- Which row of the definitions of opening applies.
use Rattle.std.proofs.Common.{◌≡◌, ℕ, ◌-◌, ◌%◌, ◌<◌, ◌≤◌, List, length, take, drop, Option, Some, None, IsSome, is_some, inl, inr, Ok, Err, ok_or, bytes_eq, sym, ap, ◌∙◌}
use Rattle.std.proofs.lemmas.Bool.{both_ways, cases_Bool, cond-false, cond-true, eq-eqb, false_from_ne_true, le-leb, le-ltb, lt-leb, lt-ltb, ne_eqb}
use Rattle.std.proofs.lemmas.List.{take-take}
use Rattle.std.proofs.lemmas.Slice.Eq.{bytes_eq-Decides}
use Rattle.kr_modes.specs.declared.ModeNo.TheVariants.{BadBlock, BadPadding, BadTag, Short}
use Rattle.kr_modes.specs.Cbc.{cbc_opened, uncbc}
use Rattle.kr_modes.specs.Gcm.{gctr, gcm_opened, gcm_tag, ungcm}
use Rattle.kr_modes.specs.Padding.{unpad}

-- ---- CBC

pub cbc_short : (decipher : List ℕ → List ℕ) (body : List ℕ) → length body ≤ 16 → cbc_opened decipher body ≡ Err Short
unfolding cbc_opened
cbc_short decipher body h = cond-true _ _ _ (le-leb (length body) 16 h)

pub cbc_bad_block : (decipher : List ℕ → List ℕ) (body : List ℕ) → 16 < length body → (length body % 16 ≡ 0 → ⊥) → cbc_opened decipher body ≡ Err BadBlock
unfolding cbc_opened
cbc_bad_block decipher body h ne = cond-false _ _ _ (lt-leb (length body) 16 h) ∙ cond-false _ _ _ (ne_eqb (length body % 16) 0 ne)

pub cbc_unpadded : (decipher : List ℕ → List ℕ) (body : List ℕ) → 16 < length body → length body % 16 ≡ 0
    → cbc_opened decipher body ≡ ok_or (unpad (uncbc decipher (take 16 body) (drop 16 body))) BadPadding
unfolding cbc_opened
cbc_unpadded decipher body h e = cond-false _ _ _ (lt-leb (length body) 16 h) ∙ cond-true _ _ _ (eq-eqb (length body % 16) 0 e)

-- the blocks stand at the front of xs
pub cbc_none : (decipher : List ℕ → List ℕ) (body xs : List ℕ) (size : ℕ) → 16 < length body → length body % 16 ≡ 0
    → take size xs ≡ uncbc decipher (take 16 body) (drop 16 body)
    → unpad (take size xs) ≡ None → cbc_opened decipher body ≡ Err BadPadding
cbc_none decipher body xs size h whole is none =
    cbc_unpadded decipher body h whole
    ∙ ap (λ (o : Option (List ℕ)). ok_or o BadPadding) (ap unpad (sym is) ∙ none)

pub cbc_some : (decipher : List ℕ → List ℕ) (body xs : List ℕ) (size m : ℕ) → 16 < length body → length body % 16 ≡ 0
    → take size xs ≡ uncbc decipher (take 16 body) (drop 16 body) → m ≤ size
    → unpad (take size xs) ≡ Some (take m (take size xs)) → cbc_opened decipher body ≡ Ok (take m xs)
cbc_some decipher body xs size m h whole is within some =
    cbc_unpadded decipher body h whole
    ∙ ap (λ (o : Option (List ℕ)). ok_or o BadPadding) (ap unpad (sym is) ∙ some)
    ∙ ap Ok (take-take m size xs within)

-- ---- GCM

pub gcm_short : (encipher : List ℕ → List ℕ) (nonce aad body : List ℕ) → length body < 16 → gcm_opened encipher nonce aad body ≡ Err Short
unfolding gcm_opened
gcm_short encipher nonce aad body h = cond-true _ _ _ (lt-ltb (length body) 16 h)

ungcm_none : (encipher : List ℕ → List ℕ) (nonce aad body : List ℕ) (size : ℕ) → size ≡ length body - 16
    → (drop size body ≡ gcm_tag encipher nonce aad (take size body) → ⊥) → ungcm encipher nonce aad body ≡ None
unfolding ungcm
ungcm_none encipher nonce aad body size e =
    rw e (λ ne. cond-false _ _ _ (false_from_ne_true _ (λ t. ne ((bytes_eq-Decides _ _).0 t))))

pub ungcm_some : (encipher : List ℕ → List ℕ) (nonce aad body : List ℕ) (size : ℕ) → size ≡ length body - 16
    → drop size body ≡ gcm_tag encipher nonce aad (take size body) → ungcm encipher nonce aad body ≡ Some (gctr encipher nonce (take size body))
unfolding ungcm
ungcm_some encipher nonce aad body size e =
    rw e (λ same. cond-true _ _ _ ((bytes_eq-Decides _ _).1 same))

-- where there are plain bytes, the tag is the one
pub tag_from_some : (encipher : List ℕ → List ℕ) (nonce aad body : List ℕ) (size : ℕ) → size ≡ length body - 16
    → IsSome (ungcm encipher nonce aad body) → drop size body ≡ gcm_tag encipher nonce aad (take size body)
unfolding ungcm
tag_from_some encipher nonce aad body size e =
    rw e (λ some. elim (cases_Bool (bytes_eq (drop (length body - 16) body) (gcm_tag encipher nonce aad (take (length body - 16) body)))) [
      | inl same ↦ (bytes_eq-Decides (drop (length body - 16) body) (gcm_tag encipher nonce aad (take (length body - 16) body))).0 same
      | inr other ↦ absurd (both_ways _ (ap is_some (cond-false _ (Some (gctr encipher nonce (take (length body - 16) body))) None other)) some)
    ])

pub gcm_bad_tag : (encipher : List ℕ → List ℕ) (nonce aad body : List ℕ) (size : ℕ) → 16 ≤ length body → size ≡ length body - 16
    → (drop size body ≡ gcm_tag encipher nonce aad (take size body) → ⊥) → gcm_opened encipher nonce aad body ≡ Err BadTag
unfolding gcm_opened
gcm_bad_tag encipher nonce aad body size h e ne =
    cond-false _ _ _ (le-ltb (length body) 16 h) ∙ ap (λ (o : Option (List ℕ)). ok_or o BadTag) (ungcm_none encipher nonce aad body size e ne)

pub gcm_some : (encipher : List ℕ → List ℕ) (nonce aad body : List ℕ) (size : ℕ) → 16 ≤ length body → size ≡ length body - 16
    → drop size body ≡ gcm_tag encipher nonce aad (take size body) → gcm_opened encipher nonce aad body ≡ Ok (gctr encipher nonce (take size body))
unfolding gcm_opened
gcm_some encipher nonce aad body size h e same =
    cond-false _ _ _ (le-ltb (length body) 16 h) ∙ ap (λ (o : Option (List ℕ)). ok_or o BadTag) (ungcm_some encipher nonce aad body size e same)
