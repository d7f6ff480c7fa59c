-- What is read of a line, part by part.
use Rattle.std.proofs.Common.{◌≡◌, ℕ, ◌-◌, ◌==◌, List, [], ◌∷◌, ◌++◌, length, take, Bool, true, false, Option, Some, None, Err, refl, sym, ◌∙◌, ap, subst, length-append, arith, option_and_then, codes, slice_index_or, if◌then◌else◌}
use Rattle.std.proofs.Math.Seq.{get_or-append_seam, take-append_seam}
use Rattle.std.specs.Option.{option_map}
use Rattle.std.specs.Str.{IsUtf8, is_utf8}
use Rattle.std.proofs.lemmas.Str.{IsUtf8-from_is_utf8, is_utf8-from_IsUtf8}
use Rattle.serde_json.specs.Data.{Data}
use Rattle.serde_json.specs.Find.{get}
use Rattle.serde_json.specs.Read.{read}
use Rattle.kr_base.specs.Pairs.{Pairs}
use Rattle.kr_kms_wire.specs.Members.{member_text, member_bytes, annotation_pairs, member_number, parsed_line_value, without_end}
use Rattle.kr_kms_wire.specs.Replies.{annotations_in, status_in, wrapped_in}
use Rattle.kr_kms_wire.specs.Requests.{encrypt_in, decrypt_in}
use Rattle.kr_kms.specs.declared.plugin.Status.{Status}
use Rattle.kr_kms.specs.declared.plugin.Wrapped.{Wrapped}
use Rattle.kr_kms_wire.specs.declared.requests.Request.{Request}
use Rattle.kr_kms_wire.specs.declared.requests.Request.TheVariants.{Encrypt, Decrypt}
use Rattle.kr_kms_wire.specs.declared.members.ShapeNo.{ShapeNo}
use Rattle.kr_kms_wire.specs.declared.members.ShapeNo.TheVariants as shape
use Rattle.kr_kms_wire.specs.inner.Shapes.{Reads}

-- where a part has no shape, the whole has none
pub stops : {A B : Type 0} (part : Option A) (whole : Option B) (why : ShapeNo)
    → Reads part (Err why) → (part ≡ None → whole ≡ None) → Reads whole (Err why)
stops part whole shape.Shape h none = none h
stops part whole shape.NoMemory h none = tt

-- the value of a line that is UTF-8, and that none has another
pub value_is : (line : List ℕ) (value : Option Data) → IsUtf8 (without_end line)
    → read (without_end line) ≡ value → parsed_line_value line ≡ value
value_is line value text is = rw (is_utf8-from_IsUtf8 (without_end line) text) is

pub no_value : (line : List ℕ) → (IsUtf8 (without_end line) → read (without_end line) ≡ None)
    → parsed_line_value line ≡ None
no_value line none = by (is_utf8 (without_end line)) refl
  where
    by : (b : Bool) → is_utf8 (without_end line) ≡ b → parsed_line_value line ≡ None
    by true test = let text = IsUtf8-from_is_utf8 (without_end line) test in
        value_is line None text (none text)
    by false no_text = rw no_text refl

-- a text with LF behind it has the text's value
pub value_with_end : (text : List ℕ) (value : Data) → IsUtf8 text → read text ≡ Some value
    → parsed_line_value (text ++ 0x0A ∷ []) ≡ Some value
value_with_end text value utf8 is = value_is (text ++ 0x0A ∷ []) (Some value)
    (subst IsUtf8 (sym (end_goes text)) utf8)
    (subst (λ t. read t ≡ Some value) (sym (end_goes text)) is)
  where
    end_goes : (text : List ℕ) → without_end (text ++ 0x0A ∷ []) ≡ text
    end_goes text =
        let size : length (text ++ 0x0A ∷ []) - 1 ≡ length text =
        omega (arith, length-append text (0x0A ∷ [])) in
        ap (λ n. if slice_index_or (text ++ 0x0A ∷ []) n 0 == 0x0A then take n (text ++ 0x0A ∷ [])
        else text ++ 0x0A ∷ []) size
        ∙ ap (λ b. if b == 0x0A then take (length text) (text ++ 0x0A ∷ [])
        else text ++ 0x0A ∷ []) (get_or-append_seam text 0x0A [] 0)
        ∙ take-append_seam text (0x0A ∷ [])

abbrev Part : Type 0
Part = Option (List ℕ)

-- a status by its parts
abbrev status_by : (version healthz key_id : Part) → Option Status
status_by version healthz key_id = option_and_then (λ v. option_and_then (λ h. option_map
    (λ k. record { version = v; healthz = h; key_id = k }) key_id) healthz) version

module _ (value : Data) where
  abbrev version_in : Part
  version_in = member_text (codes "version") value

  abbrev healthz_in : Part
  healthz_in = member_text (codes "healthz") value

  abbrev key_id_in : Part
  key_id_in = member_text (codes "key_id") value

  abbrev cipher_in : Part
  cipher_in = member_bytes (codes "ciphertext") value

  abbrev plain_in : Part
  plain_in = member_bytes (codes "plaintext") value

  abbrev uid_in : Option ℕ
  uid_in = member_number (codes "uid") value

  abbrev given_pairs : Option Pairs
  given_pairs = option_and_then annotation_pairs (get (codes "annotations") value)

  pub no_version : version_in ≡ None → status_in value ≡ None
  unfolding status_in
  no_version none = ap (λ a. status_by a healthz_in key_id_in) none

  pub no_healthz : (version : List ℕ) → version_in ≡ Some version → healthz_in ≡ None
      → status_in value ≡ None
  unfolding status_in
  no_healthz version a none = ap (λ x. status_by x healthz_in key_id_in) a
      ∙ ap (λ x. status_by (Some version) x key_id_in) none

  pub no_key_id : (version healthz : List ℕ) → version_in ≡ Some version
      → healthz_in ≡ Some healthz → key_id_in ≡ None → status_in value ≡ None
  unfolding status_in
  no_key_id version healthz a b none = ap (λ x. status_by x healthz_in key_id_in) a
      ∙ ap (λ x. status_by (Some version) x key_id_in) b
      ∙ ap (λ x. status_by (Some version) (Some healthz) x) none

  pub whole_status : (version healthz key_id : List ℕ) → version_in ≡ Some version
      → healthz_in ≡ Some healthz → key_id_in ≡ Some key_id
      → status_in value ≡ Some (record { version = version; healthz = healthz; key_id = key_id })
  unfolding status_in
  whole_status version healthz key_id a b c = ap (λ x. status_by x healthz_in key_id_in) a
      ∙ ap (λ x. status_by (Some version) x key_id_in) b
      ∙ ap (λ x. status_by (Some version) (Some healthz) x) c

  -- a wrap by its parts
  abbrev wrapped_by : (key_id : Part) (annotations : Option Pairs) (cipher : Part) → Option Wrapped
  wrapped_by key_id annotations cipher = option_and_then (λ k. option_and_then (λ a. option_map
      (λ c. record { cipher = c; key_id = k; annotations = a }) cipher) annotations) key_id

  pub no_wrap_key_id : key_id_in ≡ None → wrapped_in value ≡ None
  unfolding wrapped_in
  no_wrap_key_id none = ap (λ x. wrapped_by x (annotations_in value) cipher_in) none

  pub no_annotations : (key_id : List ℕ) → key_id_in ≡ Some key_id → annotations_in value ≡ None
      → wrapped_in value ≡ None
  unfolding wrapped_in
  no_annotations key_id k none = ap (λ x. wrapped_by x (annotations_in value) cipher_in) k
      ∙ ap (λ x. wrapped_by (Some key_id) x cipher_in) none

  pub no_cipher : (key_id : List ℕ) (annotations : Pairs) → key_id_in ≡ Some key_id
      → annotations_in value ≡ Some annotations → cipher_in ≡ None → wrapped_in value ≡ None
  unfolding wrapped_in
  no_cipher key_id annotations k a none =
      ap (λ x. wrapped_by x (annotations_in value) cipher_in) k
      ∙ ap (λ x. wrapped_by (Some key_id) x cipher_in) a
      ∙ ap (λ x. wrapped_by (Some key_id) (Some annotations) x) none

  pub whole_wrap : (key_id : List ℕ) (annotations : Pairs) (cipher : List ℕ)
      → key_id_in ≡ Some key_id → annotations_in value ≡ Some annotations
      → cipher_in ≡ Some cipher → wrapped_in value
      ≡ Some (record { cipher = cipher; key_id = key_id; annotations = annotations })
  unfolding wrapped_in
  whole_wrap key_id annotations cipher k a c =
      ap (λ x. wrapped_by x (annotations_in value) cipher_in) k
      ∙ ap (λ x. wrapped_by (Some key_id) x cipher_in) a
      ∙ ap (λ x. wrapped_by (Some key_id) (Some annotations) x) c

  -- a request to wrap by its parts
  abbrev encrypt_by : (plain : Part) (uid : Option ℕ) → Option Request
  encrypt_by plain uid = option_and_then (λ p. option_map (λ u. Encrypt p u) uid) plain

  pub no_plain : plain_in ≡ None → encrypt_in value ≡ None
  unfolding encrypt_in
  no_plain none = ap (λ x. encrypt_by x uid_in) none

  pub no_uid : (plain : List ℕ) → plain_in ≡ Some plain → uid_in ≡ None → encrypt_in value ≡ None
  unfolding encrypt_in
  no_uid plain p none = ap (λ x. encrypt_by x uid_in) p ∙ ap (λ x. encrypt_by (Some plain) x) none

  pub whole_encrypt : (plain : List ℕ) (uid : ℕ) → plain_in ≡ Some plain → uid_in ≡ Some uid
      → encrypt_in value ≡ Some (Encrypt plain uid)
  unfolding encrypt_in
  whole_encrypt plain uid p u = ap (λ x. encrypt_by x uid_in) p
      ∙ ap (λ x. encrypt_by (Some plain) x) u

  -- one to unwrap
  abbrev decrypt_by : (source key_id : Part) (annotations : Option Pairs) (uid : Option ℕ)
      → Option Request
  decrypt_by source key_id annotations uid = option_and_then (λ s. option_and_then (λ k.
      option_and_then (λ a. option_map (λ u. Decrypt s k a u) uid) annotations) key_id) source

  pub no_source : cipher_in ≡ None → decrypt_in value ≡ None
  unfolding decrypt_in
  no_source none = ap (λ x. decrypt_by x key_id_in given_pairs uid_in) none

  pub no_source_key : (source : List ℕ) → cipher_in ≡ Some source → key_id_in ≡ None
      → decrypt_in value ≡ None
  unfolding decrypt_in
  no_source_key source s none = ap (λ x. decrypt_by x key_id_in given_pairs uid_in) s
      ∙ ap (λ x. decrypt_by (Some source) x given_pairs uid_in) none

  pub no_pairs : (source key_id : List ℕ) → cipher_in ≡ Some source → key_id_in ≡ Some key_id
      → given_pairs ≡ None → decrypt_in value ≡ None
  unfolding decrypt_in
  no_pairs source key_id s k none = ap (λ x. decrypt_by x key_id_in given_pairs uid_in) s
      ∙ ap (λ x. decrypt_by (Some source) x given_pairs uid_in) k
      ∙ ap (λ x. decrypt_by (Some source) (Some key_id) x uid_in) none

  pub no_source_uid : (source key_id : List ℕ) (annotations : Pairs) → cipher_in ≡ Some source
      → key_id_in ≡ Some key_id → given_pairs ≡ Some annotations → uid_in ≡ None
      → decrypt_in value ≡ None
  unfolding decrypt_in
  no_source_uid source key_id annotations s k a none =
      ap (λ x. decrypt_by x key_id_in given_pairs uid_in) s
      ∙ ap (λ x. decrypt_by (Some source) x given_pairs uid_in) k
      ∙ ap (λ x. decrypt_by (Some source) (Some key_id) x uid_in) a
      ∙ ap (λ x. decrypt_by (Some source) (Some key_id) (Some annotations) x) none

  pub whole_decrypt : (source key_id : List ℕ) (annotations : Pairs) (uid : ℕ)
      → cipher_in ≡ Some source → key_id_in ≡ Some key_id → given_pairs ≡ Some annotations
      → uid_in ≡ Some uid → decrypt_in value ≡ Some (Decrypt source key_id annotations uid)
  unfolding decrypt_in
  whole_decrypt source key_id annotations uid s k a u =
      ap (λ x. decrypt_by x key_id_in given_pairs uid_in) s
      ∙ ap (λ x. decrypt_by (Some source) x given_pairs uid_in) k
      ∙ ap (λ x. decrypt_by (Some source) (Some key_id) x uid_in) a
      ∙ ap (λ x. decrypt_by (Some source) (Some key_id) (Some annotations) x) u
