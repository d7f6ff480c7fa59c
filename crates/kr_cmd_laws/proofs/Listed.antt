-- A store's file is read as one thing, and its live rows have one text.
use Rattle.std.proofs.Common.{◌≡◌, ℕ, List, [], ◌∷◌, ◌++◌, Option, None, Some, Result, Ok, Err, refl, sym, ◌∙◌, ap, subst, inl, inr, arith}
use Rattle.std.specs.Prelude.{codes}
use Rattle.kr_envelope.specs.declared.prefix.Tagged.TheVariants.{Plain, Known, Strange}
use Rattle.kr_envelope.proofs.Prefixing.{one_prefix, prefix_marked}
use Rattle.kr_store.specs.declared.answers.StoreNo.{StoreNo}
use Rattle.kr_store.specs.declared.answers.StoreNo.TheVariants as no
use Rattle.kr_store.specs.declared.rows.LogRow.{LogRow}
use Rattle.kr_store.specs.declared.rows.Row.{Row}
use Rattle.kr_store.proofs.Listings.{listing_once}
use Rattle.kr_store.proofs.OneReading.{file_once, breach_once}
use Rattle.kr_store.proofs.Refusals.{no_file}
use Rattle.kr_cmd_steps.specs.Inspect.{kind_text}
use Rattle.kr_cmd_steps.specs.RowLines.{IsTag, row_line, AreLines, ShowsRows}
use Rattle.kr_cmd_steps.specs.StoreFiles.{Stored, IsStored, store_no}
use Rattle.kr_cmd_messages.specs.declared.refusal.Breach.{Breach}
use Rattle.kr_cmd_messages.specs.declared.refusal.Breach.TheVariants.{Magic, Torn, BadRow, Order}
use Rattle.kr_cmd_messages.specs.declared.refusal.Refusal.{Refusal}
use Rattle.kr_cmd_messages.specs.declared.refusal.Refusal.TheVariants.{Broken}

-- ---- a file

abbrev breach_of : StoreNo → Option Breach
breach_of no.Magic = Some Magic
breach_of (no.Torn at) = Some (Torn at)
breach_of (no.BadRow at) = Some (BadRow at)
breach_of (no.Order at) = Some (Order at)
breach_of other = None

is_breach : (b : Breach) → breach_of (store_no b) ≡ Some b
is_breach Magic = refl
is_breach other = refl

one_breach : (a b : Breach) → store_no a ≡ store_no b → a ≡ b
one_breach a b e =
    let same : Some a ≡ Some b = sym (is_breach a) ∙ ap breach_of e ∙ is_breach b in cc

pub one_stored : (bytes : List ℕ) (a b : Result Stored Refusal) → IsStored bytes a
    → IsStored bytes b → a ≡ b
one_stored bytes (Ok x) (Ok y) h k =
    let same = file_once bytes x.format y.format x.rows y.rows h.1 k.1 in
    λ i. Ok (record { format = same.0 i; rows = same.1 i })
one_stored bytes (Ok x) (Err w) h (inl k) = absurd (omega (arith, h.0, k.0))
one_stored bytes (Ok x) (Err w) h (inr k) =
    absurd (no_file bytes (store_no k.1) k.2 x.format x.rows h.1)
one_stored bytes (Err v) (Ok y) (inl h) k = absurd (omega (arith, h.0, k.0))
one_stored bytes (Err v) (Ok y) (inr h) k =
    absurd (no_file bytes (store_no h.1) h.2 y.format y.rows k.1)
one_stored bytes (Err v) (Err w) (inl h) (inl k) = ap (λ e. Err e) (h.1 ∙ sym k.1)
one_stored bytes (Err v) (Err w) (inl h) (inr k) = absurd (omega (arith, h.0, k.0))
one_stored bytes (Err v) (Err w) (inr h) (inl k) = absurd (omega (arith, h.0, k.0))
one_stored bytes (Err v) (Err w) (inr h) (inr k) = ap (λ e. Err e)
    (h.3 ∙ ap Broken (one_breach h.1 k.1 (breach_once bytes (store_no h.1) (store_no k.1) h.2 k.2))
    ∙ sym k.3)

-- ---- a text

one_tag : (stored a b : List ℕ) → IsTag stored a → IsTag stored b → a ≡ b
one_tag stored a b (Plain c, s, h) (Plain d, t, k) = h ∙ sym k
one_tag stored a b (Plain c, s, h) (Known kind name body, t, k) =
    absurd (s.0 (prefix_marked kind name.now stored (body.now, t.1)))
one_tag stored a b (Plain c, s, h) (Strange, t, k) = absurd (s.0 t.0)
one_tag stored a b (Known kind name body, s, h) (Plain d, t, k) =
    absurd (t.0 (prefix_marked kind name.now stored (body.now, s.1)))
one_tag stored a b (Known kind name body, s, h) (Known other text rest, t, k) =
    let same = one_prefix kind other name.now text.now body.now rest.now s.0 t.0 (sym s.1 ∙ t.1) in
    h ∙ (λ i. kind_text (same.0 i) ++ (codes ":" ++ same.1 i)) ∙ sym k
one_tag stored a b (Known kind name body, s, h) (Strange, t, k) =
    absurd (t.1 kind name.now s.0 (body.now, s.1))
one_tag stored a b (Strange, s, h) (Plain d, t, k) = absurd (t.0 s.0)
one_tag stored a b (Strange, s, h) (Known kind name body, t, k) =
    absurd (s.1 kind name.now t.0 (body.now, t.1))
one_tag stored a b (Strange, s, h) (Strange, t, k) = h ∙ sym k

one_text : (rows : List Row) (a b : List ℕ) → AreLines rows a → AreLines rows b → a ≡ b
one_text [] a b h k = h ∙ sym k
one_text (row ∷ rows) a b (t, r, x, l, h) (u, s, y, m, k) =
    h ∙ (λ i. row_line row (one_tag row.stored t u x y i) ++ one_text rows r s l m i) ∙ sym k

pub one_shown : (rows : List LogRow) (a b : Result (List ℕ) Refusal) → ShowsRows rows a
    → ShowsRows rows b → a ≡ b
one_shown rows a b (listing, t, x, l, h) (other, u, y, m, k) =
    let same : listing ≡ other = listing_once rows listing other x y in
    h ∙ ap (λ text. Ok text)
    (one_text other t u (subst (λ z. AreLines z t) same l) m) ∙ sym k
