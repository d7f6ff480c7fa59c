-- No tree's text, whatever stands behind it, is another's.
use Rattle.std.proofs.Common.{◌≡◌, ℕ, suc, ◌/◌, ◌%◌, ◌<◌, nat_eq, false, List, [], ◌∷◌, ◌++◌}
use Rattle.std.proofs.Common.{slice_index, None, Some, refl, sym, ap, ◌∙◌, arith, append_assoc}
use Rattle.hex.specs.Hex.{IsBytes, encode_lower, encode_with, hex_digit_value, lower_digits}
use Rattle.hex.proofs.HexLemmas.{IsDigits-lower_digits}
use Rattle.kr_yaml.specs.Data.{Data, null, word, list, mapping, Items, no_items, item, Members}
use Rattle.kr_yaml.specs.Data.{no_members, member}
use Rattle.test_yaml.specs.TreeText.{word_text, tree_text, items_text, more_items, members_text}
use Rattle.test_yaml.specs.TreeText.{more_members, AreBytes, ItemsAreBytes, MembersAreBytes}

heads : {x y : ℕ} {xs ys : List ℕ} → x ∷ xs ≡ y ∷ ys → x ≡ y
heads e = cc

tails : {x y : ℕ} {xs ys : List ℕ} → x ∷ xs ≡ y ∷ ys → xs ≡ ys
tails e = cc

-- ---- words

quote_is_no_digit : (d : ℕ) → d < 16 → 34 ≡ slice_index lower_digits d → ⊥
quote_is_no_digit d h e = let none : None ≡ Some d = ap hex_digit_value e
    ∙ IsDigits-lower_digits d h in cc

same_digit : (c d : ℕ) → c < 16 → d < 16 → slice_index lower_digits c ≡ slice_index lower_digits d
    → c ≡ d
same_digit c d h k e = let some : Some c ≡ Some d = sym (IsDigits-lower_digits c h)
    ∙ ap hex_digit_value e ∙ IsDigits-lower_digits d k in cc

high : (b : ℕ) → b < 256 → b / 16 < 16
high b h = omega arith

low : (b : ℕ) → b % 16 < 16
low b = omega arith

same_byte : (b c : ℕ) → b / 16 ≡ c / 16 → b % 16 ≡ c % 16 → b ≡ c
same_byte b c h l = omega arith

same_cons : {b c : ℕ} {v w : List ℕ} → b ≡ c → v ≡ w → b ∷ v ≡ c ∷ w
same_cons e h = cc

hexes : (v w r s : List ℕ) → IsBytes v → IsBytes w → encode_lower v ++ 34 ∷ r
    ≡ encode_lower w ++ 34 ∷ s → (v ≡ w) × (r ≡ s)
unfolding encode_with
hexes [] [] r s hv hw e = (refl, tails e)
hexes [] (c ∷ w) r s hv hw e = absurd (quote_is_no_digit (c / 16) (high c (hw 0)) (heads e))
hexes (b ∷ v) [] r s hv hw e = absurd (quote_is_no_digit (b / 16) (high b (hv 0)) (sym (heads e)))
hexes (b ∷ v) (c ∷ w) r s hv hw e =
    let first = same_digit (b / 16) (c / 16) (high b (hv 0)) (high c (hw 0)) (heads e) in
    let second = same_digit (b % 16) (c % 16) (low b) (low c) (heads (tails e)) in
    let rest = hexes v w r s (λ k. hv (suc k)) (λ k. hw (suc k)) (tails (tails e)) in
    (same_cons (same_byte b c first second) rest.0, rest.1)

quoted : (v r : List ℕ) → word_text v ++ r ≡ 34 ∷ encode_lower v ++ 34 ∷ r
quoted v r = ap (λ l. 34 ∷ l) (append_assoc (encode_lower v) (34 ∷ []) r)

words : (v w r s : List ℕ) → IsBytes v → IsBytes w → word_text v ++ r ≡ word_text w ++ s
    → (v ≡ w) × (r ≡ s)
words v w r s hv hw e = hexes v w r s hv hw (tails (sym (quoted v r) ∙ e ∙ quoted w s))

-- ---- trees

clash : {x y : ℕ} {xs ys : List ℕ} → nat_eq x y ≡ false → x ∷ xs ≡ y ∷ ys → ⊥
clash {x} {y} {xs} {ys} h e = let same : x ≡ y = heads e in grind (arith, same, h)

-- a tree's text doesn't begin with a closing bracket
no_bracket : (d : Data) (r l : List ℕ) → 93 ∷ l ≡ tree_text d ++ r → ⊥
no_bracket null r l e = clash refl e
no_bracket (word w) r l e = clash refl e
no_bracket (list ds) r l e = clash refl e
no_bracket (mapping ms) r l e = clash refl e

-- with the brackets moved to the right on both sides
moved : (a b r c d s : List ℕ) → (a ++ b) ++ r ≡ (c ++ d) ++ s → a ++ (b ++ r) ≡ c ++ (d ++ s)
moved a b r c d s e = sym (append_assoc a b r) ∙ e ∙ append_assoc c d s

same_item : {d e : Data} {ds es : Items} → d ≡ e → ds ≡ es → item d ds ≡ item e es
same_item h k = cc

same_member : {k l : List ℕ} {d e : Data} {ms ns : Members} → k ≡ l → d ≡ e → ms ≡ ns
    → member k d ms ≡ member l e ns
same_member h i j = cc

-- the trees of texts that begin alike, so that what follows them does too
abbrev OneTree : Data → Data → Type 0
OneTree d e = (r s : List ℕ) → AreBytes d → AreBytes e
    → tree_text d ++ r ≡ tree_text e ++ s → (d ≡ e) × (r ≡ s)

one_item : (d e : Data) (ds es : Items) (r s : List ℕ) → ItemsAreBytes (item d ds)
    → ItemsAreBytes (item e es) → OneTree d e
    → ((x y : List ℕ) → ItemsAreBytes ds → ItemsAreBytes es
    → more_items ds ++ 93 ∷ x ≡ more_items es ++ 93 ∷ y → (ds ≡ es) × (x ≡ y))
    → items_text (item d ds) ++ 93 ∷ r ≡ items_text (item e es) ++ 93 ∷ s
    → (item d ds ≡ item e es) × (r ≡ s)
one_item d e ds es r s hd he tree more h =
    let one = tree (more_items ds ++ 93 ∷ r) (more_items es ++ 93 ∷ s) hd.0 he.0
    (moved (tree_text d) (more_items ds) (93 ∷ r) (tree_text e) (more_items es) (93 ∷ s) h) in
    let rest = more r s hd.1 he.1 one.1 in
    (same_item one.0 rest.0, rest.1)

one_member : (k l : List ℕ) (d e : Data) (ms ns : Members) (r s : List ℕ)
    → MembersAreBytes (member k d ms) → MembersAreBytes (member l e ns) → OneTree d e
    → ((x y : List ℕ) → MembersAreBytes ms → MembersAreBytes ns
    → more_members ms ++ 125 ∷ x ≡ more_members ns ++ 125 ∷ y → (ms ≡ ns) × (x ≡ y))
    → members_text (member k d ms) ++ 125 ∷ r ≡ members_text (member l e ns) ++ 125 ∷ s
    → (member k d ms ≡ member l e ns) × (r ≡ s)
one_member k l d e ms ns r s hd he tree more h =
    let key = words k l _ _ hd.0 he.0 (moved (word_text k) (58 ∷ tree_text d ++ more_members ms)
    (125 ∷ r) (word_text l) (58 ∷ tree_text e ++ more_members ns) (125 ∷ s) h) in
    let one = tree (more_members ms ++ 125 ∷ r) (more_members ns ++ 125 ∷ s) hd.1.0 he.1.0
    (moved (tree_text d) (more_members ms) (125 ∷ r) (tree_text e) (more_members ns) (125 ∷ s)
    (tails key.1)) in
    let rest = more r s hd.1.1 he.1.1 one.1 in
    (same_member key.0 one.0 rest.0, rest.1)

mutual
  pub trees : (d e : Data) (r s : List ℕ) → AreBytes d → AreBytes e
      → tree_text d ++ r ≡ tree_text e ++ s → (d ≡ e) × (r ≡ s)
  trees null null r s hd he h = (refl, tails (tails (tails (tails h))))
  trees null (word w) r s hd he h = absurd (clash refl h)
  trees null (list es) r s hd he h = absurd (clash refl h)
  trees null (mapping ns) r s hd he h = absurd (clash refl h)
  trees (word v) null r s hd he h = absurd (clash refl h)
  trees (word v) (word w) r s hd he h = let both = words v w r s hd he h in (ap word both.0, both.1)
  trees (word v) (list es) r s hd he h = absurd (clash refl h)
  trees (word v) (mapping ns) r s hd he h = absurd (clash refl h)
  trees (list ds) null r s hd he h = absurd (clash refl h)
  trees (list ds) (word w) r s hd he h = absurd (clash refl h)
  trees (list ds) (list es) r s hd he h = let both =
      items ds es r s hd he (moved (items_text ds) (93 ∷ []) r (items_text es) (93 ∷ []) s
      (tails h)) in (ap list both.0, both.1)
  trees (list ds) (mapping ns) r s hd he h = absurd (clash refl h)
  trees (mapping ms) null r s hd he h = absurd (clash refl h)
  trees (mapping ms) (word w) r s hd he h = absurd (clash refl h)
  trees (mapping ms) (list es) r s hd he h = absurd (clash refl h)
  trees (mapping ms) (mapping ns) r s hd he h = let both = members ms ns r s hd he
      (moved (members_text ms) (125 ∷ []) r (members_text ns) (125 ∷ []) s (tails h)) in (
        ap mapping
            both.0,
        both.1,
      )

  items : (ds es : Items) (r s : List ℕ) → ItemsAreBytes ds → ItemsAreBytes es
      → items_text ds ++ 93 ∷ r ≡ items_text es ++ 93 ∷ s → (ds ≡ es) × (r ≡ s)
  items no_items no_items r s hd he h = (refl, tails h)
  items no_items (item e es) r s hd he h = absurd (no_bracket e (more_items es ++ 93 ∷ s) r (h
      ∙ append_assoc (tree_text e) (more_items es) (93 ∷ s)))
  items (item d ds) no_items r s hd he h = absurd (no_bracket d (more_items ds ++ 93 ∷ r) s (sym h
      ∙ append_assoc (tree_text d) (more_items ds) (93 ∷ r)))
  items (item d ds) (item e es) r s hd he h =
      one_item d e ds es r s hd he (trees d e) (further_items ds es) h

  further_items : (ds es : Items) (r s : List ℕ) → ItemsAreBytes ds → ItemsAreBytes es
      → more_items ds ++ 93 ∷ r ≡ more_items es ++ 93 ∷ s → (ds ≡ es) × (r ≡ s)
  further_items no_items no_items r s hd he h = (refl, tails h)
  further_items (item d ds) (item e es) r s hd he h =
      one_item d e ds es r s hd he (trees d e) (further_items ds es) (tails h)
  further_items other another r s hd he h = absurd (clash refl h)

  members : (ms ns : Members) (r s : List ℕ) → MembersAreBytes ms → MembersAreBytes ns
      → members_text ms ++ 125 ∷ r ≡ members_text ns ++ 125 ∷ s → (ms ≡ ns) × (r ≡ s)
  members no_members no_members r s hd he h = (refl, tails h)
  members no_members (member l e ns) r s hd he h = absurd (clash refl h)
  members (member k d ms) no_members r s hd he h = absurd (clash refl h)
  members (member k d ms) (member l e ns) r s hd he h =
      one_member k l d e ms ns r s hd he (trees d e) (further_members ms ns) h

  further_members : (ms ns : Members) (r s : List ℕ) → MembersAreBytes ms → MembersAreBytes ns
      → more_members ms ++ 125 ∷ r ≡ more_members ns ++ 125 ∷ s → (ms ≡ ns) × (r ≡ s)
  further_members no_members no_members r s hd he h = (refl, tails h)
  further_members (member k d ms) (member l e ns) r s hd he h =
      one_member k l d e ms ns r s hd he (trees d e) (further_members ms ns) (tails h)
  further_members other another r s hd he h = absurd (clash refl h)
