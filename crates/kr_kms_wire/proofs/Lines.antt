-- Requests and replies as JSON.
use Rattle.std.proofs.Common.{◌≡◌, ℕ, ◌<◌, ◌≤◌, max, arith, ◌+◌, false, List, [], ◌∷◌, ◌++◌, take, drop, length, get_or, refl, sym, ◌∙◌, ap, subst}
use Rattle.std.specs.Cmp.Lexicographic.{slice_cmp, nat_list_cmp_total}
use Rattle.std.specs.List.{AllByRecursion}
use Rattle.std.specs.List.Sorted.{IsStrictlySortedBy}
use Rattle.std.specs.Map.{keys_of}
use Rattle.std.specs.Ordering.{nat_cmp, ordering_reverse}
use Rattle.std.specs.declared.cmp.Ordering.TheVariants.{Less, Greater}
use Rattle.std.proofs.lemmas.List.{take_more, drop_more, take-append-drop}
use Rattle.serde_json.specs.Data.{Members, member, put, depth, members_depth}
use Rattle.serde_json.specs.Read.{max_depth}
use Rattle.serde_json.specs.Written.{has_float, members_have_float}
use Rattle.kr_base.specs.Pairs.{Pairs, IsSortedByKey, with_pair}
use Rattle.kr_kms_wire.specs.Members.{text_of_bytes, pair_members}
use Rattle.kr_kms_wire.specs.Requests.{request_data}
use Rattle.kr_kms_wire.specs.Replies.{answer_data}
use Rattle.kr_kms_wire.specs.declared.replies.Answered.{Answered}
use Rattle.kr_kms_wire.specs.declared.replies.Answered.TheVariants as answered
use Rattle.kr_kms_wire.specs.declared.replies.Reply.TheVariants as reply
use Rattle.kr_kms_wire.specs.declared.requests.Request.{Request}
use Rattle.kr_kms_wire.specs.declared.requests.Request.TheVariants.{Status, Encrypt, Decrypt}

abbrev Pair : Type 0
Pair = List ℕ × List ℕ

below_middle : (first : List ℕ) (done : Pairs) (pair : Pair) (more : Pairs)
    → AllByRecursion (λ key. slice_cmp nat_cmp first key ≡ Less) (keys_of (done ++ pair ∷ more))
    → slice_cmp nat_cmp first pair.0 ≡ Less
below_middle first [] pair more h = h.0
below_middle first (x ∷ done) pair more h = below_middle first done pair more h.1

above_first : (first : List ℕ) (done : Pairs) (pair : Pair) (more : Pairs)
    → AllByRecursion (λ key. slice_cmp nat_cmp first key ≡ Less) (keys_of (done ++ pair ∷ more))
    → slice_cmp nat_cmp pair.0 first ≡ Greater
above_first first done pair more h = nat_list_cmp_total.antisymm pair.0 first
    ∙ ap ordering_reverse (below_middle first done pair more h)

-- the pair behind some sorted ones goes behind their members
pub put_behind : (done : Pairs) (pair : Pair) (more : Pairs) → IsSortedByKey (done ++ pair ∷ more)
    → put pair.0 (text_of_bytes pair.1) (pair_members done) ≡ pair_members (done ++ pair ∷ [])
unfolding IsStrictlySortedBy
put_behind [] pair more h = refl
put_behind (first ∷ done) pair more h =
    rw (above_first first.0 done pair more h.0) (ap (member first.0 (text_of_bytes first.1)) (put_behind done pair more h.1))

-- one pair more
pub member_more : (pairs : Pairs) (i : ℕ) (pair : Pair) (key value : List ℕ)
    (before after : Members) → IsSortedByKey pairs → i < length pairs → pair ≡ get_or pairs i pair
    → key ≡ pair.0 → value ≡ pair.1 → before ≡ pair_members (take i pairs)
    → after ≡ put key (text_of_bytes value) before → after ≡ pair_members (take (i + 1) pairs)
member_more pairs i pair key value before after sorted h is k v was put_in =
    let here : take (i + 1) pairs ≡ take i pairs ++ pair ∷ [] =
    take_more pairs i pair h ∙ ap (λ p. take i pairs ++ p ∷ []) (sym is) in
    let rest : drop i pairs ≡ pair ∷ drop (i + 1) pairs =
    drop_more pairs i pair h ∙ ap (λ p. p ∷ drop (i + 1) pairs) (sym is) in
    let parts : pairs ≡ take i pairs ++ pair ∷ drop (i + 1) pairs =
    sym (take-append-drop i pairs) ∙ ap (λ l. take i pairs ++ l) rest in
    put_in ∙ ap (λ x. put x (text_of_bytes value) before) k
    ∙ ap (λ x. put pair.0 (text_of_bytes x) before) v
    ∙ ap (put pair.0 (text_of_bytes pair.1)) was
    ∙ put_behind (take i pairs) pair (drop (i + 1) pairs) (subst IsSortedByKey parts sorted)
    ∙ ap pair_members (sym here)

-- sorted pairs that are found one behind another
pub with_behind : (done : Pairs) (pair : Pair) (more : Pairs) → IsSortedByKey (done ++ pair ∷ more)
    → with_pair done pair.0 pair.1 ≡ done ++ pair ∷ []
unfolding IsStrictlySortedBy
with_behind [] pair more h = refl
with_behind (first ∷ done) pair more h =
    rw (above_first first.0 done pair more h.0) (ap (λ l. first ∷ l) (with_behind done pair more h.1))

pairs_no_float : (pairs : Pairs) → members_have_float (pair_members pairs) ≡ false
pairs_no_float [] = refl
pairs_no_float (pair ∷ pairs) = pairs_no_float pairs

pairs_flat : (pairs : Pairs) → members_depth (pair_members pairs) ≡ 0
pairs_flat [] = refl
pairs_flat (pair ∷ pairs) = ap (max 0) (pairs_flat pairs)

-- no request holds a float, and none nests deep
pub no_float : (request : Request) → has_float (request_data request) ≡ false
no_float Status = refl
no_float (Encrypt plain uid) = refl
no_float (Decrypt source key_id annotations uid) = rw (pairs_no_float annotations) refl

pub request_depth : (request : Request) → depth (request_data request) ≤ max_depth
request_depth Status = omega arith
request_depth (Encrypt plain uid) = omega arith
request_depth (Decrypt source key_id annotations uid) = rw (pairs_flat annotations) (omega arith)

-- nor does an answer
pub answer_no_float : (answered : Answered) → has_float (answer_data answered) ≡ false
answer_no_float (answered.Reply (reply.Encrypt wrapped)) =
    rw (pairs_no_float wrapped.annotations) refl
answer_no_float other = refl

pub answer_depth : (answered : Answered) → depth (answer_data answered) ≤ max_depth
answer_depth (answered.Reply (reply.Encrypt wrapped)) =
    rw (pairs_flat wrapped.annotations) (omega arith)
answer_depth other = omega arith
