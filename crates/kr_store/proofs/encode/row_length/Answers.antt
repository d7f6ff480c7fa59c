-- Answers of row_length.
use Rattle.std.proofs.Common.{◌≡◌, ℕ, ◌+◌, ◌≤◌, List, [], ◌∷◌, ◌++◌, length, sym, ◌∙◌, ap, subst, arith, length-append}
use Rattle.std.specs.Int.{w64, to_be_bytes}
use Rattle.kr_store.specs.declared.rows.Change.{Change}
use Rattle.kr_store.specs.declared.rows.Change.TheVariants.{Put}
use Rattle.kr_store.specs.Rows.{longest_value, IsPut}
use Rattle.kr_store.specs.File.{text_bytes, value_bytes, check_bytes, change_bytes, row_bytes}
use Rattle.kr_store.specs.inner.KeptRows.{IsChange}
use Rattle.kr_store.specs.inner.Writing.{lead}
use Rattle.kr_store.proofs.encode.row_length.Goals as goal

-- more behind the text, whatever the first byte is
longer : (front number text more : List ℕ) (a b n m : ℕ)
    → n ≡ length (front ++ (a ∷ (number ++ (text ++ [])))) → m ≡ length more
    → n + m ≡ length (front ++ (b ∷ (number ++ (text ++ more))))
longer front number text more a b n m e f = omega (
  arith,
  e,
  f,
  length-append front (a ∷ (number ++ (text ++ []))),
  length-append number (text ++ []),
  length-append text [],
  length-append front (b ∷ (number ++ (text ++ more))),
  length-append number (text ++ more),
  length-append text more,
)

pub put_length-behind-requires-clause-resource : goal.put_length-behind-requires-clause-resource
put_length-behind-requires-clause-resource c =
    let put : IsPut c.args.format c.in-Put.resource c.in-Put.stored c.in-Put.check =
    subst (IsChange c.args.format) c.in-Put.is c.requires.change in
    let short : length c.in-Put.resource ≤ 253 = put.0.0 in
    omega (arith, short, ap length c.as_str.ensures)

pub put_length-behind-requires-clause-stored : goal.put_length-behind-requires-clause-stored
put_length-behind-requires-clause-stored c =
    let put : IsPut c.args.format c.in-Put.resource c.in-Put.stored c.in-Put.check =
    subst (IsChange c.args.format) c.in-Put.is c.requires.change in
    subst (λ (l : List ℕ). length l ≤ longest_value) (sym c.as_slice.ensures) put.1

pub returns-in-Put-clause-length : goal.returns-in-Put-clause-length
returns-in-Put-clause-length c =
    let put : c.put_length-behind.result
    ≡ length (change_bytes (Put c.in-Put.resource c.in-Put.stored c.in-Put.check)) =
    c.put_length-behind.ensures.length
    ∙ ap (λ (l : List ℕ). length (text_bytes l ++ (check_bytes c.in-Put.check
    ++ value_bytes c.as_slice.result.now))) c.as_str.ensures
    ∙ ap (λ (l : List ℕ). length (text_bytes c.in-Put.resource ++ (check_bytes c.in-Put.check
    ++ value_bytes l))) c.as_slice.ensures in
    λ k. longer (lead c.args.format c.args.empty) (to_be_bytes w64 k)
    (text_bytes c.args.path.now)
    (change_bytes (Put c.in-Put.resource c.in-Put.stored c.in-Put.check)) 2 1
    c.delete_length.result c.put_length-behind.result (c.delete_length.ensures.length k) put
    ∙ ap (λ (x : Change). length (lead c.args.format c.args.empty
    ++ row_bytes k (record { path = c.args.path.now; change = x }))) (sym c.in-Put.is)

pub returns-in-Put-clause-small : goal.returns-in-Put-clause-small
returns-in-Put-clause-small c =
    omega (arith, c.delete_length.ensures.small, c.put_length-behind.ensures.small)

pub returns-in-Delete-clause-length : goal.returns-in-Delete-clause-length
returns-in-Delete-clause-length c = λ k. c.delete_length-in-Delete.ensures.length k
    ∙ ap (λ (x : Change). length (lead c.args.format c.args.empty
    ++ row_bytes k (record { path = c.args.path.now; change = x }))) (sym c.in-Delete.is)
