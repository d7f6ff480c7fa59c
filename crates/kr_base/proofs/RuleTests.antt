-- The rules and limits as facts and as tests say the same.
use Rattle.std.proofs.Common.{◌≡◌, ℕ, ◌≤◌, List, [], ◌∷◌, length, Bool, true, false, ◌&&◌, ◌==◌, refl, sym, ◌∙◌, subst, inl, inr, arith, All}
use Rattle.std.specs.Prelude.{nat_le, if◌then◌else◌}
use Rattle.std.specs.Bool.{Decides}
use Rattle.std.specs.List.{list_all}
use Rattle.std.proofs.lemmas.Bool.{leb-true, le-leb}
use Rattle.std.proofs.lemmas.Bool.Decides.{Decides-eqb, Decides-and, Decides-or, Decides-not, Decides-by_and, Decides-like}
use Rattle.kr_base.specs.Pairs.{Pairs}
use Rattle.kr_base.specs.Limits.{AreFew, are_few, pairs_size}
use Rattle.kr_base.specs.Rules.{IsGraphic, IsPath, IsName, IsLabelByte, IsLabel, IsResource, is_graphic, is_path, is_name, is_label_byte, is_label, is_resource, first_part, later_parts}
use Rattle.kr_base.proofs.Labels.{Parted, parted_labels, labels_parted}

at_most : (a b : ℕ) → Decides (nat_le a b) (a ≤ b)
at_most a b = (leb-true a b, le-leb a b)

each : {X : Type 0} (p : X → Bool) (P : X → Type 0) → ((x : X) → Decides (p x) (P x)) → (xs : List X) → Decides (list_all p xs) (All P xs)
each p P d xs = Decides-by_and p P (list_all p) d refl (λ _ _. refl) xs

graphic : (byte : ℕ) → Decides (is_graphic byte) (IsGraphic byte)
graphic byte = Decides-and _ _ (at_most 0x21 byte) (at_most byte 0x7E)

three : {P Q R : Type 0} (a b c : Bool) → Decides a P → Decides b Q → Decides c R → Decides (a && b && c) (P × Q × R)
three a b c p q r = Decides-like _ (λ t. (t.0.0, t.0.1, t.1)) (λ t. ((t.0, t.1), t.2)) (Decides-and _ _ (Decides-and _ _ p q) r)

pub path : (bytes : List ℕ) → Decides (is_path bytes) (IsPath bytes)
path bytes = three _ _ _ (at_most 1 (length bytes)) (at_most (length bytes) 1024) (each is_graphic IsGraphic graphic bytes)

pub name : (bytes : List ℕ) → Decides (is_name bytes) (IsName bytes)
name bytes = three _ _ _ (at_most 1 (length bytes)) (at_most (length bytes) 253)
    (each _ _ (λ byte. Decides-and _ _ (graphic byte) (Decides-not _ (Decides-eqb byte 0x3A))) bytes)

label_byte : (byte : ℕ) → Decides (is_label_byte byte) (IsLabelByte byte)
label_byte byte = Decides-like _ (elim [ inl p ↦ elim p [ inl q ↦ inl q | inr q ↦ inr (inl q) ] | inr p ↦ inr (inr p) ])
    (elim [ inl p ↦ inl (inl p) | inr p ↦ elim p [ inl q ↦ inl (inr q) | inr q ↦ inr q ] ])
    (Decides-or _ _ (Decides-or _ _ (Decides-and _ _ (at_most 0x61 byte) (at_most byte 0x7A)) (Decides-and _ _ (at_most 0x30 byte) (at_most byte 0x39))) (Decides-eqb byte 0x2D))

label : (bytes : List ℕ) → Decides (is_label bytes) (IsLabel bytes)
label bytes = Decides-and _ _ (at_most 1 (length bytes)) (each is_label_byte IsLabelByte label_byte bytes)

-- the labels of a text whose first label has begun, and of one that begins
abbrev rest_test : List ℕ → Bool
rest_test bytes = list_all is_label_byte (first_part bytes) && list_all is_label (later_parts bytes)

abbrev whole_test : List ℕ → Bool
whole_test bytes = is_label (first_part bytes) && list_all is_label (later_parts bytes)

abbrev first_by : Bool → ℕ → List ℕ → List ℕ
first_by q byte bytes = if q then [] else byte ∷ first_part bytes

abbrev later_by : Bool → List ℕ → List (List ℕ)
later_by q bytes = if q then first_part bytes ∷ later_parts bytes else later_parts bytes

and_regroup : (a b c : Bool) → (a && b && c) ≡ (a && (b && c))
and_regroup true b c = refl
and_regroup false b c = refl

rest_by : (q : Bool) (byte : ℕ) (bytes : List ℕ) → (byte == 0x2E) ≡ q → Decides (rest_test bytes) (Parted true bytes) → Decides (whole_test bytes) (Parted false bytes)
    → Decides (list_all is_label_byte (first_by q byte bytes) && list_all is_label (later_by q bytes)) (Parted true (byte ∷ bytes))
rest_by true byte bytes e rest whole =
    let dot : byte ≡ 0x2E = (Decides-eqb byte 0x2E).0 e in
    Decides-like _ (λ p. inl (dot, refl, p)) (elim [ inl p ↦ p.2 | inr p ↦ absurd (omega (arith, p.0)) ]) whole
rest_by false byte bytes e rest whole =
    let no_dot : byte ≡ 0x2E → ⊥ = λ d. (let t : true ≡ false = sym ((Decides-eqb byte 0x2E).1 d) ∙ e in cc) in
    Decides-like _ (λ p. inr p) (elim [ inl p ↦ absurd (no_dot p.0) | inr p ↦ p ])
    (subst (λ t. Decides t (IsLabelByte byte × Parted true bytes)) (sym (and_regroup (is_label_byte byte) _ _)) (Decides-and _ _ (label_byte byte) rest))

whole_by : (q : Bool) (byte : ℕ) (bytes : List ℕ) → (byte == 0x2E) ≡ q → Decides (rest_test bytes) (Parted true bytes)
    → Decides (is_label (first_by q byte bytes) && list_all is_label (later_by q bytes)) (Parted false (byte ∷ bytes))
whole_by true byte bytes e rest =
    let dot : byte ≡ 0x2E = (Decides-eqb byte 0x2E).0 e in
    (λ t. (let f : false ≡ true = t in cc), elim [ inl p ↦ absurd (let f : false ≡ true = p.1 in cc) | inr p ↦ absurd (omega (arith, p.0)) ])
whole_by false byte bytes e rest =
    let no_dot : byte ≡ 0x2E → ⊥ = λ d. (let t : true ≡ false = sym ((Decides-eqb byte 0x2E).1 d) ∙ e in cc) in
    let some : nat_le 1 (length (byte ∷ first_part bytes)) ≡ true = le-leb 1 _ (omega arith) in
    Decides-like _ (λ p. inr p) (elim [ inl p ↦ absurd (no_dot p.0) | inr p ↦ p ])
    (subst (λ t. Decides ((t && (is_label_byte byte && list_all is_label_byte (first_part bytes))) && list_all is_label (later_parts bytes)) (IsLabelByte byte × Parted true bytes)) (sym some)
    (subst (λ t. Decides t (IsLabelByte byte × Parted true bytes)) (sym (and_regroup (is_label_byte byte) _ _)) (Decides-and _ _ (label_byte byte) rest)))

parted : (bytes : List ℕ) → Decides (rest_test bytes) (Parted true bytes) × Decides (whole_test bytes) (Parted false bytes)
parted [] = ((λ t. refl, λ t. refl), (λ t. t, λ t. t))
parted (byte ∷ bytes) = let p = parted bytes in (rest_by (byte == 0x2E) byte bytes refl p.0 p.1, whole_by (byte == 0x2E) byte bytes refl p.0)

pub resource : (bytes : List ℕ) → Decides (is_resource bytes) (IsResource bytes)
resource bytes = Decides-and _ _ (at_most (length bytes) 253) (Decides-like _ (parted_labels bytes) (labels_parted bytes) (parted bytes).1)

pub few : (pairs : Pairs) → Decides (are_few pairs) (AreFew pairs)
few pairs = Decides-and _ _ (at_most (length pairs) 256) (at_most (pairs_size pairs) 32768)
