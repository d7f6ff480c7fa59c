-- Bytes are the file of some rows, or have a first breach.
use Rattle.std.proofs.Common.{◌≡◌, ℕ, suc, zero, ◌+◌, ◌^◌, ◌<◌, ◌≤◌, ◌⊎◌, Bool, true, false, if◌then◌else◌, List, [], ◌∷◌, ◌++◌, length, take, drop, get_or, eqb, nat_lt, nat_le, Option, None, Some, Ok, Err, All, refl, sym, ◌∙◌, ap, subst, arith, length-append, append_assoc, inl, inr}
use Rattle.std.specs.Int.{w16, w32, w64, to_be_bytes, from_be_bytes}
use Rattle.std.specs.Str.{bytes_eq}
use Rattle.std.proofs.lemmas.Slice.Eq.{bytes_eq-Decides}
use Rattle.std.proofs.lemmas.Bool.Decides.{Decides-eqb}
use Rattle.std.proofs.lemmas.Bool.{cases_lt}
use Rattle.std.proofs.lemmas.Nat.{be_bytes_2, be_bytes_4, be_bytes_8}
use Rattle.std.proofs.lemmas.List.{take_all, take-append-drop, length-take-le, append-nil, get_or_past}
use Rattle.std.proofs.lemmas.List.Elements.{All-take, All-drop, All-get_or}
use Rattle.kr_base.specs.Rules.{IsPath, IsResource, is_path, is_resource}
use Rattle.kr_base.proofs.RuleTests.{path as kr_path, resource as kr_resource}
use Rattle.kr_store.specs.declared.format.Check.{Check}
use Rattle.kr_store.specs.declared.format.Format.{Format}
use Rattle.kr_store.specs.declared.format.Format.TheVariants.{One, Two}
use Rattle.kr_store.specs.declared.rows.Change.{Change}
use Rattle.kr_store.specs.declared.rows.Change.TheVariants.{Put, Delete}
use Rattle.kr_store.specs.declared.rows.LogRow.{LogRow}
use Rattle.kr_store.specs.declared.kept_row.RowKind.{RowKind}
use Rattle.kr_store.specs.declared.kept_row.RowKind.TheVariants as kind
use Rattle.kr_store.specs.declared.answers.Cause.{Cause}
use Rattle.kr_store.specs.declared.answers.Cause.TheVariants.{Torn, BadRow, Order}
use Rattle.kr_store.specs.declared.answers.StoreNo.{StoreNo}
use Rattle.kr_store.specs.declared.answers.StoreNo.TheVariants as no
use Rattle.kr_store.specs.Rows.{longest_value, HasCheck, MayChange, MayFollow, AreRows}
use Rattle.kr_store.specs.File.{magic, text_bytes, value_bytes, check_bytes, kind_byte, byte_kind, change_bytes, row_bytes, file_bytes, IsFile}
use Rattle.kr_store.specs.Breaches.{Read, behind, part, kept_if, number_16, number_32, number_64, sized_part, path_part, resource_part, value_part, kind_by, kind_part, revision_part, check_part, put_part, change_part, head_part, row_part, next_row, may_change, BreaksFileAt, IsOther, IsBreach}
use Rattle.kr_store.specs.inner.KeptRows.{IsChange}
use Rattle.kr_store.proofs.Parts.{above_most, put_parts}
use Rattle.kr_store.proofs.Steps.{begins_name}
use Rattle.kr_store.proofs.Refusals.{same_found}
use Rattle.kr_store.proofs.Loading.{file_more, rows_follow}

below : (m n : ℕ) → m < n → nat_lt m n ≡ true
below m n h = grind arith

abbrev AreBytes : List ℕ → Type 0
AreBytes bytes = All (λ byte. byte < 256) bytes

known : (bytes : List ℕ) → AreBytes bytes → (i : ℕ) → get_or bytes i 0 < 256
known bytes all i = elim (cases_lt i (length bytes)) [
  | inl l ↦ All-get_or (λ byte. byte < 256) bytes i 0 l all
  | inr g ↦ omega (arith, get_or_past bytes i 0 g)
]

-- what was read, and the bytes of which it was read
pub record Found {A : Type 0} (bytes : List ℕ) (written : A → List ℕ) (rule : A → Type 0) (x : A)
    (rest : List ℕ) : Type 0 where
  pub split : bytes ≡ written x ++ rest
  pub ruled : rule x
  pub bytes_are : AreBytes rest

-- a part was read, then the next
record Both {A B : Type 0} (first : Read A) (next : A → List ℕ → Read B) (y : B)
    (rest : List ℕ) : Type 0 where
  pub x : A
  pub mid : List ℕ
  pub first_is : first ≡ Ok (x, mid)
  pub next_is : next x mid ≡ Ok (y, rest)

both : {A B : Type 0} (first : Read A) (next : A → List ℕ → Read B) (y : B) (rest : List ℕ)
    → behind first next ≡ Ok (y, rest) → Both first next y rest
both (Err cause) next y rest e = cc
both (Ok found) next y rest e = record { x = found.0; mid = found.1; first_is = refl; next_is = e }

kept : {A : Type 0} (holds : Bool) (cause : Cause) (x y : A) (bytes rest : List ℕ)
    → kept_if holds cause x bytes ≡ Ok (y, rest) → (holds ≡ true) × (x ≡ y) × (bytes ≡ rest)
kept true cause x y bytes rest e = let s = same_found x y bytes rest _ refl e in (refl, s.0, s.1)
kept false cause x y bytes rest e = cc

chosen : {A : Type 0} (holds : Bool) (cause : Cause) (read : Read A) (y : A) (rest : List ℕ)
    → (if holds then read else Err cause) ≡ Ok (y, rest) → (holds ≡ true) × (read ≡ Ok (y, rest))
chosen true cause read y rest e = (refl, e)
chosen false cause read y rest e = cc

abbrev same_bytes : List ℕ → List ℕ
same_bytes bytes = bytes

abbrev cut_at : Bool → ℕ → List ℕ → Read (List ℕ)
cut_at short n bytes = if short then Err Torn else Ok (take n bytes, drop n bytes)

part_found : (n : ℕ) (bytes x rest : List ℕ) → AreBytes bytes → part n bytes ≡ Ok (x, rest)
    → Found bytes same_bytes (λ x. (length x ≡ n) × AreBytes x) x rest
part_found n bytes x rest all e = by (nat_lt (length bytes) n) refl e
  where
    enough : nat_lt (length bytes) n ≡ false → n ≤ length bytes
    enough f = elim (cases_lt (length bytes) n)
        [ inl l ↦ (let t = below (length bytes) n l in cc) | inr g ↦ g ]

    by : (short : Bool) → nat_lt (length bytes) n ≡ short → cut_at short n bytes ≡ Ok (x, rest)
        → Found bytes same_bytes (λ x. (length x ≡ n) × AreBytes x) x rest
    by true s e = cc
    by false s e =
        let same = same_found (take n bytes) x (drop n bytes) rest _ refl e in
        subst (λ y. Found bytes same_bytes (λ x. (length x ≡ n) × AreBytes x) y rest) same.0
        (subst (λ r. Found bytes same_bytes (λ x. (length x ≡ n) × AreBytes x) (take n bytes) r)
        same.1 (record {
          split = sym (take-append-drop n bytes);
          ruled = (length-take-le n bytes (enough s), All-take (λ byte. byte < 256) n bytes all);
          bytes_are = All-drop (λ byte. byte < 256) n bytes all;
        }))

-- a number of so many bytes, which its bytes spell
found_number : (size : ℕ) (from : List ℕ → ℕ) (spell : ℕ → List ℕ) (Rule : ℕ → Type 0)
    → ((b : List ℕ) (n : ℕ) → length b ≡ size → ((i : ℕ) → get_or b i 0 < 256) → n ≡ from b
    → spell n ≡ b)
    → ((b : List ℕ) → ((i : ℕ) → get_or b i 0 < 256) → Rule (from b))
    → (bytes : List ℕ) (n : ℕ) (rest : List ℕ) → AreBytes bytes
    → behind (part size bytes) (λ number rest. Ok (from number, rest)) ≡ Ok (n, rest)
    → Found bytes spell Rule n rest
found_number size from spell Rule back rule bytes n rest all e =
    let b = both (part size bytes) (λ number rest. Ok (from number, rest)) n rest e in
    let p = part_found size bytes b.x b.mid all b.first_is in
    let same = same_found (from b.x) n b.mid rest _ refl b.next_is in
    record {
      split = p.split ∙ ap (λ l. l ++ b.mid) (sym (back b.x n p.ruled.0 (known b.x p.ruled.1)
          (sym same.0))) ∙ ap (λ l. spell n ++ l) same.1;
      ruled = subst Rule same.0 (rule b.x (known b.x p.ruled.1));
      bytes_are = subst AreBytes same.1 p.bytes_are;
    }

found_16 : (bytes : List ℕ) (n : ℕ) (rest : List ℕ) → AreBytes bytes → number_16 bytes ≡ Ok
    (n, rest) → Found bytes (to_be_bytes w16) (λ m. Unit {0}) n rest
found_16 = found_number 2 (from_be_bytes w16) (to_be_bytes w16) (λ m. Unit {0}) be_bytes_2
    (λ b are. tt)

found_32 : (bytes : List ℕ) (n : ℕ) (rest : List ℕ) → AreBytes bytes → number_32 bytes ≡ Ok
    (n, rest) → Found bytes (to_be_bytes w32) (λ m. Unit {0}) n rest
found_32 = found_number 4 (from_be_bytes w32) (to_be_bytes w32) (λ m. Unit {0}) be_bytes_4
    (λ b are. tt)

fits_64 : (b : List ℕ) → ((i : ℕ) → get_or b i 0 < 256) → from_be_bytes w64 b < 2 ^ 64
fits_64 b k = omega (arith, k 0, k 1, k 2, k 3, k 4, k 5, k 6, k 7)

found_64 : (bytes : List ℕ) (n : ℕ) (rest : List ℕ) → AreBytes bytes → number_64 bytes ≡ Ok
    (n, rest) → Found bytes (to_be_bytes w64) (λ m. m < 2 ^ 64) n rest
found_64 = found_number 8 (from_be_bytes w64) (to_be_bytes w64) (λ m. m < 2 ^ 64) be_bytes_8
    fits_64

-- so many bytes behind their number, which is judged before them
found_counted : (number : List ℕ → Read ℕ) (spell : ℕ → List ℕ) (most : ℕ)
    → ((bytes : List ℕ) (n : ℕ) (rest : List ℕ) → AreBytes bytes → number bytes ≡ Ok (n, rest)
    → Found bytes spell (λ m. Unit {0}) n rest)
    → (bytes x rest : List ℕ) → AreBytes bytes
    → behind (number bytes) (λ n rest. if nat_le n most then part n rest else Err BadRow)
    ≡ Ok (x, rest)
    → Found bytes (λ y. spell (length y) ++ y) (λ y. length y ≤ most) x rest
found_counted number spell most found bytes x rest all e =
    let b = both (number bytes) (λ n rest. if nat_le n most then part n rest else Err BadRow) x
    rest e in
    let n = found bytes b.x b.mid all b.first_is in
    let c = chosen (nat_le b.x most) BadRow (part b.x b.mid) x rest b.next_is in
    let p = part_found b.x b.mid x rest n.bytes_are c.1 in
    record {
      split = n.split ∙ ap (λ l. spell b.x ++ l) p.split
          ∙ ap (λ m. spell m ++ (x ++ rest)) (sym p.ruled.0)
          ∙ sym (append_assoc (spell (length x)) x rest);
      ruled = small (length x) b.x p.ruled.0 c.0;
      bytes_are = p.bytes_are;
    }
  where
    small : (m n : ℕ) → m ≡ n → nat_le n most ≡ true → m ≤ most
    small m n e f = elim (cases_lt most n)
        [ inl l ↦ (let t = above_most n most l in cc) | inr g ↦ omega (arith, e, g) ]

found_sized : (most : ℕ) (bytes x rest : List ℕ) → AreBytes bytes → sized_part most bytes ≡ Ok
    (x, rest) → Found bytes text_bytes (λ y. length y ≤ most) x rest
found_sized most = found_counted number_16 (to_be_bytes w16) most found_16

found_value : (bytes x rest : List ℕ) → AreBytes bytes → value_part bytes ≡ Ok (x, rest)
    → Found bytes value_bytes (λ v. length v ≤ longest_value) x rest
found_value = found_counted number_32 (to_be_bytes w32) longest_value found_32

-- a text that keeps its rule
found_text : (most : ℕ) (keeps : List ℕ → Bool) (Rule : List ℕ → Type 0)
    → ((x : List ℕ) → keeps x ≡ true → Rule x) → (bytes x rest : List ℕ) → AreBytes bytes
    → behind (sized_part most bytes) (λ text rest. kept_if (keeps text) BadRow text rest)
    ≡ Ok (x, rest) → Found bytes text_bytes Rule x rest
found_text most keeps Rule rule bytes x rest all e =
    let b = both (sized_part most bytes) (λ text rest. kept_if (keeps text) BadRow text rest) x
    rest e in
    let s = found_sized most bytes b.x b.mid all b.first_is in
    let k = kept (keeps b.x) BadRow b.x x b.mid rest b.next_is in
    record {
      split = s.split ∙ ap (λ l. text_bytes l ++ b.mid) k.1 ∙ ap (λ l. text_bytes x ++ l) k.2;
      ruled = subst Rule k.1 (rule b.x k.0);
      bytes_are = subst AreBytes k.2 s.bytes_are;
    }

found_path : (bytes x rest : List ℕ) → AreBytes bytes → path_part bytes ≡ Ok (x, rest)
    → Found bytes text_bytes IsPath x rest
found_path = found_text 1024 is_path IsPath (λ x. (kr_path x).0)

found_resource : (bytes x rest : List ℕ) → AreBytes bytes → resource_part bytes ≡ Ok (x, rest)
    → Found bytes text_bytes IsResource x rest
found_resource = found_text 253 is_resource IsResource (λ x. (kr_resource x).0)

single : (x : List ℕ) → length x ≡ 1 → x ≡ get_or x 0 0 ∷ []
single (b ∷ []) e = refl
single other e = absurd (omega (arith, e))

abbrev kind_at : Bool → Bool → List ℕ → Read RowKind
kind_at one two mid = if one then Ok (kind.Put, mid) else
    (if two then Ok (kind.Delete, mid) else Err BadRow)

kind_chosen : (byte : ℕ) (mid : List ℕ) (kd : RowKind) (rest : List ℕ) → kind_by byte mid ≡ Ok
    (kd, rest) → (byte ≡ kind_byte kd) × (mid ≡ rest)
kind_chosen byte mid kd rest e = by (eqb byte 1) (eqb byte 2) refl refl e
  where
    by : (one two : Bool) → eqb byte 1 ≡ one → eqb byte 2 ≡ two → kind_at one two mid ≡ Ok
        (kd, rest) → (byte ≡ kind_byte kd) × (mid ≡ rest)
    by true two o t e = let s = same_found kind.Put kd mid rest _ refl e in
        ((Decides-eqb byte 1).0 o ∙ ap kind_byte s.0, s.1)
    by false true o t e = let s = same_found kind.Delete kd mid rest _ refl e in
        ((Decides-eqb byte 2).0 t ∙ ap kind_byte s.0, s.1)
    by false false o t e = cc

abbrev kind_bytes : RowKind → List ℕ
kind_bytes kd = kind_byte kd ∷ []

found_kind : (bytes : List ℕ) (kd : RowKind) (rest : List ℕ) → AreBytes bytes → kind_part bytes ≡ Ok
    (kd, rest) → Found bytes kind_bytes (λ k. Unit {0}) kd rest
found_kind bytes kd rest all e =
    let b = both (part 1 bytes) (λ byte rest. kind_by (get_or byte 0 0) rest) kd rest e in
    let p = part_found 1 bytes b.x b.mid all b.first_is in
    let c = kind_chosen (get_or b.x 0 0) b.mid kd rest b.next_is in
    record {
      split = p.split ∙ ap (λ l. l ++ b.mid) (single b.x p.ruled.0) ∙ ap (λ n. n ∷ b.mid) c.0
          ∙ ap (λ l. kind_byte kd ∷ l) c.1;
      ruled = tt;
      bytes_are = subst AreBytes c.1 p.bytes_are;
    }

found_revision : (k : ℕ) (bytes : List ℕ) (n : ℕ) (rest : List ℕ) → AreBytes bytes
    → revision_part k bytes ≡ Ok (n, rest) → Found bytes (to_be_bytes w64) (λ n. n ≡ k) n rest
found_revision k bytes n rest all e =
    let b = both (number_64 bytes) (λ number rest. kept_if (eqb number k) Order number rest) n rest
    e in
    let s = found_64 bytes b.x b.mid all b.first_is in
    let c = kept (eqb b.x k) Order b.x n b.mid rest b.next_is in
    record {
      split = s.split ∙ ap (λ m. to_be_bytes w64 m ++ b.mid) c.1
          ∙ ap (λ l. to_be_bytes w64 n ++ l) c.2;
      ruled = sym c.1 ∙ (Decides-eqb b.x k).0 c.0;
      bytes_are = subst AreBytes c.2 s.bytes_are;
    }

found_check : (format : Format) (bytes : List ℕ) (check : Option Check) (rest : List ℕ)
    → AreBytes bytes → check_part format bytes ≡ Ok (check, rest)
    → Found bytes check_bytes (HasCheck format) check rest
found_check One bytes check rest all e =
    let same = same_found None check bytes rest _ refl e in
    subst (λ (c : Option Check). Found bytes check_bytes (HasCheck One) c rest) same.0
    (record { split = same.1; ruled = refl; bytes_are = subst AreBytes same.1 all })
found_check Two bytes check rest all e =
    let b = both (number_64 bytes) (λ value rest. Ok (Some (record { value = value }), rest))
    check rest e in
    let n = found_64 bytes b.x b.mid all b.first_is in
    let made : Option Check = Some (record { value = b.x }) in
    let same = same_found made check b.mid rest _ refl b.next_is in
    subst (λ (c : Option Check). Found bytes check_bytes (HasCheck Two) c rest) same.0 (record {
      split = n.split ∙ ap (λ l. to_be_bytes w64 b.x ++ l) same.1;
      ruled = (refl, n.ruled);
      bytes_are = subst AreBytes same.1 n.bytes_are;
    })

-- what a change of this kind keeps
abbrev IsOfKind : Format → RowKind → Change → Type 0
IsOfKind format kd change = IsChange format change × (byte_kind change ≡ kd)

found_put : (format : Format) (bytes : List ℕ) (change : Change) (rest : List ℕ)
    → AreBytes bytes → put_part format bytes ≡ Ok (change, rest)
    → Found bytes change_bytes (IsOfKind format kind.Put) change rest
found_put format bytes change rest all e =
    let b = both (resource_part bytes) (λ resource rest. behind (check_part format rest)
    (λ check rest. behind (value_part rest) (λ stored rest. Ok (Put resource stored check, rest))))
    change rest e in
    let r = found_resource bytes b.x b.mid all b.first_is in
    let d = both (check_part format b.mid)
    (λ check rest. behind (value_part rest) (λ stored rest. Ok (Put b.x stored check, rest)))
    change rest b.next_is in
    let c = found_check format b.mid d.x d.mid r.bytes_are d.first_is in
    let h = both (value_part d.mid) (λ stored rest. Ok (Put b.x stored d.x, rest))
    change rest d.next_is in
    let v = found_value d.mid h.x h.mid c.bytes_are h.first_is in
    let same = same_found (Put b.x h.x d.x) change h.mid rest _ refl h.next_is in
    subst (λ (z : Change). Found bytes change_bytes (IsOfKind format kind.Put) z rest) same.0
    (record {
      split = r.split ∙ ap (λ l. text_bytes b.x ++ l)
          (c.split ∙ ap (λ l. check_bytes d.x ++ l)
          (v.split ∙ ap (λ l. value_bytes h.x ++ l) same.1))
          ∙ sym (put_parts b.x d.x h.x rest);
      ruled = ((r.ruled, v.ruled, c.ruled), refl);
      bytes_are = subst AreBytes same.1 v.bytes_are;
    })

found_change : (format : Format) (kd : RowKind) (bytes : List ℕ) (change : Change) (rest : List ℕ)
    → AreBytes bytes → change_part format kd bytes ≡ Ok (change, rest)
    → Found bytes change_bytes (IsOfKind format kd) change rest
found_change format kind.Put bytes change rest all e = found_put format bytes change rest all e
found_change format kind.Delete bytes change rest all e =
    let same = same_found Delete change bytes rest _ refl e in
    subst (λ (z : Change). Found bytes change_bytes (IsOfKind format kind.Delete) z rest) same.0
    (record { split = same.1; ruled = (tt, refl); bytes_are = subst AreBytes same.1 all })

abbrev front_bytes : ℕ → RowKind × List ℕ → List ℕ
front_bytes k head = kind_byte head.0 ∷ (to_be_bytes w64 k ++ text_bytes head.1)

found_head : (k : ℕ) (bytes : List ℕ) (head : RowKind × List ℕ) (rest : List ℕ) → AreBytes bytes
    → head_part k bytes ≡ Ok (head, rest) → Found bytes (front_bytes k) (λ h. IsPath h.1) head rest
found_head k bytes head rest all e =
    let b = both (kind_part bytes) (λ kind rest. behind (revision_part k rest)
    (λ _ rest. behind (path_part rest) (λ path rest. Ok ((kind, path), rest)))) head rest e in
    let kd = found_kind bytes b.x b.mid all b.first_is in
    let d = both (revision_part k b.mid) (λ _ rest. behind (path_part rest)
    (λ path rest. Ok ((b.x, path), rest))) head rest b.next_is in
    let n = found_revision k b.mid d.x d.mid kd.bytes_are d.first_is in
    let f = both (path_part d.mid) (λ path rest. Ok ((b.x, path), rest)) head rest d.next_is in
    let p = found_path d.mid f.x f.mid n.bytes_are f.first_is in
    let same = same_found (b.x, f.x) head f.mid rest _ refl f.next_is in
    subst (λ (h : RowKind × List ℕ). Found bytes (front_bytes k) (λ h. IsPath h.1) h rest) same.0
    (record {
      split = kd.split ∙ ap (λ l. kind_byte b.x ∷ l)
          (n.split ∙ ap (λ m. to_be_bytes w64 m ++ d.mid) n.ruled
          ∙ ap (λ l. to_be_bytes w64 k ++ l) (p.split ∙ ap (λ l. text_bytes f.x ++ l) same.1)
          ∙ sym (append_assoc (to_be_bytes w64 k) (text_bytes f.x) rest));
      ruled = p.ruled;
      bytes_are = subst AreBytes same.1 p.bytes_are;
    })

regrouped : (k : ℕ) (kd : RowKind) (path more rest : List ℕ) → front_bytes k (kd, path) ++
    (more ++ rest) ≡ (kind_byte kd ∷ (to_be_bytes w64 k ++ (text_bytes path ++ more))) ++ rest
regrouped k kd path more rest =
    ap (λ l. kind_byte kd ∷ l) (sym (append_assoc (to_be_bytes w64 k ++ text_bytes path) more rest))
    ∙ ap (λ l. kind_byte kd ∷ (l ++ rest)) (append_assoc (to_be_bytes w64 k) (text_bytes path) more)

abbrev IsRowOf : Format → LogRow → Type 0
IsRowOf format row = IsPath row.path × IsChange format row.change

found_row : (format : Format) (k : ℕ) (bytes : List ℕ) (row : LogRow) (rest : List ℕ)
    → AreBytes bytes → row_part format k bytes ≡ Ok (row, rest)
    → Found bytes (row_bytes k) (IsRowOf format) row rest
found_row format k bytes row rest all e =
    let b = both (head_part k bytes) (λ head rest. behind (change_part format head.0 rest)
    (λ change rest. Ok (record { path = head.1; change = change }, rest))) row rest e in
    let h = found_head k bytes b.x b.mid all b.first_is in
    let d = both (change_part format b.x.0 b.mid)
    (λ change rest. Ok (record { path = b.x.1; change = change }, rest)) row rest b.next_is in
    let c = found_change format b.x.0 b.mid d.x d.mid h.bytes_are d.first_is in
    let made : LogRow = record { path = b.x.1; change = d.x } in
    let same = same_found made row d.mid rest _ refl d.next_is in
    subst (λ (r : LogRow). Found bytes (row_bytes k) (IsRowOf format) r rest) same.0 (record {
      split = h.split ∙ ap (λ l. front_bytes k b.x ++ l)
          (c.split ∙ ap (λ l. change_bytes d.x ++ l) same.1)
          ∙ ap (λ (kd : RowKind). front_bytes k (kd, b.x.1) ++ (change_bytes d.x ++ rest))
          (sym c.ruled.1)
          ∙ regrouped k (byte_kind d.x) b.x.1 (change_bytes d.x) rest;
      ruled = (h.ruled, c.ruled.0);
      bytes_are = subst AreBytes same.1 c.bytes_are;
    })

may_be : (format : Format) (before : List LogRow) (path : List ℕ) (change : Change)
    → IsChange format change → may_change before path change ≡ true
    → MayChange format before path change
may_be format before path (Put resource stored check) i m = i
may_be format before path Delete i m = m

-- the next row, which may stand there
record NextRow (format : Format) (before : List LogRow) (bytes : List ℕ) (row : LogRow)
    (rest : List ℕ) : Type 0 where
  pub follows : MayFollow format before row
  pub split : bytes ≡ row_bytes (length before + 1) row ++ rest
  pub bytes_are : AreBytes rest

found_next : (format : Format) (before : List LogRow) (bytes : List ℕ) (row : LogRow)
    (rest : List ℕ) → AreBytes bytes → length before + 1 < 2 ^ 64
    → next_row format before bytes ≡ Ok (row, rest) → NextRow format before bytes row rest
found_next format before bytes row rest all small e =
    let k = length before + 1 in
    let b = both (row_part format k bytes)
    (λ row rest. kept_if (may_change before row.path row.change) BadRow row rest) row rest e in
    let f = found_row format k bytes b.x b.mid all b.first_is in
    let c = kept (may_change before b.x.path b.x.change) BadRow b.x row b.mid rest b.next_is in
    subst (λ (r : LogRow). NextRow format before bytes r rest) c.1 (record {
      follows = record {
        revision = small;
        path = f.ruled.0;
        change = may_be format before b.x.path b.x.change f.ruled.1 c.0;
      };
      split = f.split ∙ ap (λ l. row_bytes k b.x ++ l) c.2;
      bytes_are = subst AreBytes c.2 f.bytes_are;
    })

abbrev Answer : List ℕ → Type 0
Answer bytes =
    ((format : Format) × (rows : List LogRow) × IsFile format rows bytes)
    ⊎ ((why : StoreNo) × IsBreach bytes why)

broken : (bytes : List ℕ) (at : ℕ) (cause : Cause) → BreaksFileAt bytes at cause → Answer bytes
broken bytes at Torn b = inr (no.Torn at, inr b)
broken bytes at BadRow b = inr (no.BadRow at, b)
broken bytes at Order b = inr (no.Order at, b)

-- these rows were read, and these bytes are left
record IsReadUpTo (format : Format) (bytes : List ℕ) (before : List LogRow)
    (rest : List ℕ) : Type 0 where
  pub small : length before + length rest < 2 ^ 63
  pub good : AreRows format before
  pub bytes_are : AreBytes rest
  pub split : bytes ≡ file_bytes format before ++ rest

-- the rest is read row by row
walk : (n : ℕ) (format : Format) (bytes : List ℕ) (before : List LogRow) (rest : List ℕ)
    → length rest ≤ n → IsReadUpTo format bytes before rest → Answer bytes
walk n format bytes before [] l r =
    inl (format, before, (r.good, inr (r.split ∙ append-nil (file_bytes format before))))
walk zero format bytes before (x ∷ rest) l r = absurd (omega (arith, l))
walk (suc n) format bytes before (x ∷ rest) l r =
    by (walk n format bytes) (next_row format before (x ∷ rest)) refl
  where
    by : ((before : List LogRow) (rest : List ℕ) → length rest ≤ n
        → IsReadUpTo format bytes before rest → Answer bytes)
        → (read : Read LogRow) → next_row format before (x ∷ rest) ≡ read → Answer bytes
    by again (Err cause) e = broken bytes (length (file_bytes format before)) cause (record {
      format = format;
      rows = before;
      rest = x ∷ rest;
      good = r.good;
      split = r.split;
      more = λ f. cc;
      breaks = e;
      place = refl;
    })
    by again (Ok found) e =
        let next = found_next format before (x ∷ rest) found.0 found.1 r.bytes_are
        (omega (arith, r.small)) e in
        let k = length before + 1 in
        let row : List ℕ = row_bytes k found.0 in
        let file : List ℕ = file_bytes format before in
        let shorter : length (x ∷ rest) ≡ length row + length found.1 =
        ap length next.split ∙ length-append row found.1 in
        again (before ++ found.0 ∷ []) found.1 (omega (arith, shorter, l)) (record {
          small = omega (arith, shorter, r.small, length-append before (found.0 ∷ []));
          good = rows_follow format before found.0 r.good next.follows;
          bytes_are = next.bytes_are;
          split = r.split ∙ ap (λ l. file ++ l) next.split ∙ sym (append_assoc file row found.1)
              ∙ ap (λ l. l ++ found.1) (sym (file_more format before found.0 k refl));
        })

-- the bytes begin with a magic or begin one
named : (format : Format) (bytes : List ℕ) → AreBytes bytes → length bytes < 2 ^ 63
    → 0 < length bytes → take (length (magic format)) bytes ≡ take (length bytes) (magic format)
    → Answer bytes
named format bytes all small some e = elim (cases_lt (length bytes) (length (magic format))) [
  | inl short ↦ inr (
    no.Torn 0,
    inl (
      refl,
      (
        some,
        omega (arith, short),
        sym (take_all (length (magic format)) bytes (omega (arith, short))) ∙ e
            ∙ sym (begins_name format (length bytes) (omega (arith, short))),
      ),
    ),
  )
  | inr long ↦
      let rest : List ℕ = drop (length (magic format)) bytes in
      let split : bytes ≡ magic format ++ rest =
      sym (take-append-drop (length (magic format)) bytes)
      ∙ ap (λ l. l ++ rest) (e ∙ take_all (length bytes) (magic format) long) in
      let size : length bytes ≡ length (magic format) + length rest =
      ap length split ∙ length-append (magic format) rest in
      walk (length bytes) format bytes [] rest (omega (arith, size)) (record {
        small = omega (arith, small, size);
        good = tt;
        bytes_are = All-drop (λ byte. byte < 256) (length (magic format)) bytes all;
        split = split ∙ ap (λ l. l ++ rest) (sym (append-nil (magic format)));
      })
]

-- whether the bytes begin with a magic or begin it
abbrev is_begun : Format → List ℕ → Bool
is_begun format bytes =
    bytes_eq (take (length (magic format)) bytes) (take (length bytes) (magic format))

begun_is : (format : Format) (bytes : List ℕ) → is_begun format bytes ≡ true
    → take (length (magic format)) bytes ≡ take (length bytes) (magic format)
begun_is format bytes t = (bytes_eq-Decides _ _).0 t

begun_not : (format : Format) (bytes : List ℕ) → is_begun format bytes ≡ false
    → IsOther format bytes
begun_not format bytes f e = let t : is_begun format bytes ≡ true = (bytes_eq-Decides _ _).1 e in cc

pub answered : (bytes : List ℕ) → AreBytes bytes → length bytes < 2 ^ 63 → Answer bytes
answered [] all small = inl (Two, [], (tt, inl (refl, refl, refl)))
answered (x ∷ bytes) all small =
    by (is_begun One (x ∷ bytes)) (is_begun Two (x ∷ bytes)) refl refl
  where
    by : (one two : Bool) → is_begun One (x ∷ bytes) ≡ one → is_begun Two (x ∷ bytes) ≡ two
        → Answer (x ∷ bytes)
    by true two a b = named One (x ∷ bytes) all small (omega arith) (begun_is One (x ∷ bytes) a)
    by false true a b = named Two (x ∷ bytes) all small (omega arith) (begun_is Two (x ∷ bytes) b)
    by false false a b = inr (no.Magic, other)
      where
        other : (format : Format) → IsOther format (x ∷ bytes)
        other One = begun_not One (x ∷ bytes) a
        other Two = begun_not Two (x ∷ bytes) b
