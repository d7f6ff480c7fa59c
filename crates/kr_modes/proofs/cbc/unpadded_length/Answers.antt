use Rattle.std.proofs.Common.{◌≡◌, ◌<◌, ◌≤◌, ◌-◌, ℕ, List, length, take, drop, get_or, refl, sym, arith}
use Rattle.std.proofs.lemmas.Bool.{both_ways}
use Rattle.std.proofs.lemmas.List.{take_rest}
use Rattle.std.proofs.lemmas.List.Elements.{All-same}
use Rattle.kr_modes.proofs.Unpaddings.{all_where_padded, none_from, unpad_where_all}
use Rattle.kr_modes.proofs.cbc.unpadded_length.Goals as goal
use Rattle.kr_modes.proofs.cbc.unpadded_length.Goals.{then-padding-eq0-via-then-padding-eq0, then-padding-eq0-via-else-padding-eq0+then-padding-gt-BLOCK}

pub returns-then-padding-eq0-clause-value : goal.returns-then-padding-eq0-clause-value
returns-then-padding-eq0-clause-value c =
    let bytes : List ℕ = c.args.bytes.now in
    none_from bytes (λ plain e.
    let known = all_where_padded bytes plain (get_or bytes (length bytes - 1) 0) refl e in
    let some : 0 < get_or bytes (length bytes - 1) 0 = known.0 in
    let most : get_or bytes (length bytes - 1) 0 ≤ 16 = known.1 in
    elim c.then-padding-eq0.branch [
      | then-padding-eq0-via-then-padding-eq0 w ↦ omega arith
      | then-padding-eq0-via-else-padding-eq0+then-padding-gt-BLOCK w ↦ omega arith
    ])

pub returns-then-is_all-clause-value : goal.returns-then-is_all-clause-value
returns-then-is_all-clause-value c =
    let bytes : List ℕ = c.args.bytes.now in
    let p : ℕ = get_or bytes (length bytes - 1) 0 in
    unpad_where_all bytes p (omega arith) (omega arith) (omega arith) (omega arith)
    (All-same (λ x. x ≡ p) (drop (length bytes - p) bytes) (take (length bytes - (length bytes - p)) (drop (length bytes - p) bytes)) (sym (take_rest bytes (length bytes - p))) (c.is_all.ensures.0 c.if-is_all.true))

pub returns-else-is_all-clause-value : goal.returns-else-is_all-clause-value
returns-else-is_all-clause-value c =
    let bytes : List ℕ = c.args.bytes.now in
    none_from bytes (λ plain e.
    let known = all_where_padded bytes plain (get_or bytes (length bytes - 1) 0) refl e in
    let p : ℕ = get_or bytes (length bytes - 1) 0 in
    both_ways c.is_all.result c.if-is_all.false
    (c.is_all.ensures.1 (All-same (λ x. x ≡ p) (take (length bytes - (length bytes - p)) (drop (length bytes - p) bytes)) (drop (length bytes - p) bytes) (take_rest bytes (length bytes - p)) known.2)))
