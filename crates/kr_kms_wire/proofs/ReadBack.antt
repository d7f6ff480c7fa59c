-- What is written to a line is read there.
use Rattle.std.proofs.Common.{◌≡◌, ℕ, suc, ◌<◌, ◌^◌, ◌&&◌, List, [], ◌∷◌, ◌++◌, length, get_or, Bool, true, false, Some, None, Result, Ok, Err, refl, sym, ◌∙◌, ap, subst, append-nil, arith, option_and_then, decimal, nat_lt, cond}
use Rattle.std.specs.Prelude.{All, IfOk}
use Rattle.std.specs.Option.{option_map, option_map_or}
use Rattle.std.specs.Result.{result_ok}
use Rattle.std.specs.Str.{bytes_eq}
use Rattle.std.specs.Str.Parse.{digits_value}
use Rattle.std.proofs.lemmas.Bool.Decides.{nat_tests}
use Rattle.std.proofs.lemmas.Fmt.{decimal_is_IsNumeral}
use Rattle.std.proofs.lemmas.List.{append_assoc, get_or_past}
use Rattle.std.proofs.lemmas.List.Elements.{All-get_or}
use Rattle.std.proofs.lemmas.Slice.Eq.{bytes_eq-Decides}
use Rattle.base64.specs.Engines.{standard}
use Rattle.base64.specs.GeneralPurpose.{IsBytes}
use Rattle.base64.proofs.EngineFacts.{decode_of-encode_of}
use Rattle.serde_json.specs.Data.{Members, object}
use Rattle.kr_base.specs.Pairs.{Pairs, IsSortedByKey, with_pair}
use Rattle.kr_kms_wire.specs.Members.{text_of_bytes, pair_members, decoded_bytes, pairs_with, text_number, parsed_line_value}
use Rattle.kr_kms_wire.specs.Requests.{request_data, request_members, request_in, request_of}
use Rattle.kr_kms_wire.specs.Replies.{answer_data, answer_members, reply_kind, reply_in, IsReplyReadBack}
use Rattle.kr_kms_wire.specs.inner.Written.{ArePairs, IsRequestOfBytes, IsAnswerOfBytes}
use Rattle.kr_kms_wire.specs.declared.replies.Answered.{Answered}
use Rattle.kr_kms_wire.specs.declared.replies.Answered.TheVariants as answered
use Rattle.kr_kms_wire.specs.declared.replies.Reply.{Reply}
use Rattle.kr_kms_wire.specs.declared.replies.Reply.TheVariants as reply
use Rattle.kr_kms_wire.specs.declared.replies.ReplyNo.TheVariants as no_reply
use Rattle.kr_kms_wire.specs.declared.requests.RequestNo.TheVariants.{NotJson, Shape}
use Rattle.kr_kms_wire.specs.declared.requests.Request.{Request}
use Rattle.kr_kms_wire.specs.declared.requests.Request.TheVariants.{Status, Encrypt, Decrypt}
use Rattle.kr_kms_wire.proofs.Lines.{with_behind}
use Rattle.kr_kms_wire.proofs.Shapes.{whole_status, whole_wrap, whole_encrypt, whole_decrypt}

-- ---- numbers

-- the test of a text for a number
passes : List ℕ → Bool
passes text = bytes_eq (decimal (digits_value 10 text)) text && nat_lt (digits_value 10 text) (2 ^ 64)

pub number_back : (text : List ℕ) (n : ℕ) → n < 2 ^ 64 → decimal n ≡ text → text_number text ≡ Some n
number_back text n h is =
    let value : digits_value 10 text ≡ n =
    ap (digits_value 10) (sym is) ∙ (decimal_is_IsNumeral n h).1 in
    let written : bytes_eq (decimal (digits_value 10 text)) text ≡ true =
    (bytes_eq-Decides (decimal (digits_value 10 text)) text).1 (ap decimal value ∙ is) in
    let below : nat_lt (digits_value 10 text) (2 ^ 64) ≡ true =
    subst (λ m. nat_lt m (2 ^ 64) ≡ true) (sym value) (grind (arith, nat_tests)) in
    ap (λ q. cond (q && nat_lt (digits_value 10 text) (2 ^ 64)) (Some (digits_value 10 text)) None)
    written
    ∙ ap (λ q. cond q (Some (digits_value 10 text)) None) below ∙ ap (λ m. Some m) value

pub no_number : (text : List ℕ) → ((n : ℕ) → n < 2 ^ 64 → text ≡ decimal n → ⊥)
    → text_number text ≡ None
no_number text none =
    by (bytes_eq (decimal (digits_value 10 text)) text) (nat_lt (digits_value 10 text) (2 ^ 64))
    (bytes_eq-Decides (decimal (digits_value 10 text)) text).0 below
  where
    below : nat_lt (digits_value 10 text) (2 ^ 64) ≡ true → digits_value 10 text < 2 ^ 64
    below t = grind (arith, nat_tests)

    by : (p q : Bool) → (p ≡ true → decimal (digits_value 10 text) ≡ text)
        → (q ≡ true → digits_value 10 text < 2 ^ 64)
        → cond (p && q) (Some (digits_value 10 text)) None ≡ None
    by true true e h = absurd (none (digits_value 10 text) (h refl) (sym (e refl)))
    by true false e h = refl
    by false q e h = refl

-- ---- bytes and pairs

as_bytes : (bytes : List ℕ) → All (λ byte. byte < 256) bytes → IsBytes bytes
as_bytes bytes h i = by (nat_lt i (length bytes)) refl
  where
    by : (q : Bool) → nat_lt i (length bytes) ≡ q → get_or bytes i 0 < 256
    by true t = All-get_or (λ byte. byte < 256) bytes i 0 (grind (arith, nat_tests)) h
    by false f = subst (λ v. v < 256) (sym (get_or_past bytes i 0 (grind (arith, nat_tests))))
        (omega arith)

bytes_back : (bytes : List ℕ) → IsBytes bytes → decoded_bytes (text_of_bytes bytes) ≡ Some bytes
bytes_back bytes h = ap result_ok (decode_of-encode_of standard bytes refl h)

pairs_behind : (found pairs : Pairs) → IsSortedByKey (found ++ pairs)
    → ((k : ℕ) → k < length pairs → (d : List ℕ × List ℕ) → IsBytes (get_or pairs k d).1)
    → pairs_with found (pair_members pairs) ≡ Some (found ++ pairs)
pairs_behind found [] s b = ap (λ l. Some l) (sym (append-nil found))
pairs_behind found (pair ∷ pairs) s b =
    ap (λ o. option_and_then (λ bytes. pairs_with (with_pair found pair.0 bytes)
    (pair_members pairs)) o) (bytes_back pair.1 (b 0 (omega arith) pair))
    ∙ ap (λ l. pairs_with l (pair_members pairs)) (with_behind found pair pairs s)
    ∙ pairs_behind (found ++ pair ∷ []) pairs
    (subst IsSortedByKey (sym (append_assoc found (pair ∷ []) pairs)) s)
    (λ k h d. b (suc k) (omega (arith, h)) d)
    ∙ ap (λ l. Some l) (append_assoc found (pair ∷ []) pairs)

pairs_back : (pairs : Pairs) → ArePairs pairs → pairs_with [] (pair_members pairs) ≡ Some pairs
pairs_back pairs h = pairs_behind [] pairs h.0 (λ k lt d. as_bytes (get_or pairs k d).1
    (All-get_or (λ pair. All (λ byte. byte < 256) pair.1) pairs k d lt h.1))

known_back : (bytes : List ℕ) → All (λ byte. byte < 256) bytes
    → decoded_bytes (text_of_bytes bytes) ≡ Some bytes
known_back bytes h = bytes_back bytes (as_bytes bytes h)

-- ---- requests

request_back : (request : Request) → IsRequestOfBytes request
    → request_in (request_data request) ≡ Some request
request_back Status h = refl
request_back (Encrypt plain uid) h =
    whole_encrypt (request_data (Encrypt plain uid)) plain uid (known_back plain h.0)
    (number_back (decimal uid) uid h.1 refl)
request_back (Decrypt source key_id annotations uid) h =
    whole_decrypt (request_data (Decrypt source key_id annotations uid)) source key_id annotations
    uid (known_back source h.0) refl (pairs_back annotations h.1)
    (number_back (decimal uid) uid h.2 refl)

pub request_reads : (line : List ℕ) (request : Request) → IsRequestOfBytes request
    → parsed_line_value line ≡ Some (request_data request) → request_of line ≡ Ok request
request_reads line request h is =
    ap (λ v. option_map_or (λ d. option_map_or Ok (request_in d) (Err Shape)) v (Err NotJson)) is
    ∙ ap (λ r. option_map_or Ok r (Err Shape)) (request_back request h)

pub request_reads_if : {E : Type 0} (result : Result (List ℕ) E) (request : Request)
    (members : Members) → members ≡ request_members request → IsRequestOfBytes request
    → IfOk result (λ line. parsed_line_value line ≡ Some (object members))
    → IfOk result (λ line. request_of line ≡ Ok request)
request_reads_if (Ok line) request members is h read =
    request_reads line request h (read ∙ ap (λ m. Some (object m)) is)
request_reads_if (Err why) request members is h read = tt

-- ---- answers

reply_back : (reply : Reply) → IsAnswerOfBytes (answered.Reply reply)
    → reply_in (reply_kind reply) (answer_data (answered.Reply reply)) ≡ Ok reply
reply_back (reply.Status status) h =
    ap (λ o. option_map_or Ok (option_map reply.Status o) (Err no_reply.Shape))
    (whole_status (answer_data (answered.Reply (reply.Status status)))
    status.version status.healthz status.key_id refl refl refl)
reply_back (reply.Encrypt wrapped) h =
    ap (λ o. option_map_or Ok (option_map reply.Encrypt o) (Err no_reply.Shape))
    (whole_wrap (answer_data (answered.Reply (reply.Encrypt wrapped)))
    wrapped.key_id wrapped.annotations wrapped.cipher refl (pairs_back wrapped.annotations h.1)
    (known_back wrapped.cipher h.0))
reply_back (reply.Decrypt plain) h =
    ap (λ o. option_map_or Ok (option_map reply.Decrypt o) (Err no_reply.Shape)) (known_back plain h)

pub answer_reads : (line : List ℕ) (answer : Answered) → IsAnswerOfBytes answer
    → parsed_line_value line ≡ Some (answer_data answer) → IsReplyReadBack line answer
answer_reads line (answered.Reply reply) h is =
    ap (λ v. option_map_or (reply_in (reply_kind reply)) v (Err no_reply.NotJson)) is ∙ reply_back reply h
answer_reads line (answered.Error text) h is =
    λ asked. ap (λ v. option_map_or (reply_in asked) v (Err no_reply.NotJson)) is

pub answer_reads_if : {E : Type 0} (result : Result (List ℕ) E) (answer : Answered)
    (members : Members) → members ≡ answer_members answer → IsAnswerOfBytes answer
    → IfOk result (λ line. parsed_line_value line ≡ Some (object members))
    → IfOk result (λ line. IsReplyReadBack line answer)
answer_reads_if (Ok line) answer members is h read =
    answer_reads line answer h (read ∙ ap (λ m. Some (object m)) is)
answer_reads_if (Err why) answer members is h read = tt
