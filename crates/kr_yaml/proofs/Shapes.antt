-- The tree that tokens form has one shape: with each value on a line made nothing, the tree itself
-- shows it.
use Rattle.std.proofs.Common.{◌≡◌, ℕ, ◌<◌, ◌≤◌, max, Bool, false, List, [], ◌∷◌, ◌++◌, length}
use Rattle.std.proofs.Common.{Option, None, Some, refl, sym, ap, ◌∙◌, subst, arith, suc, map}
use Rattle.std.specs.Prelude.{◌||◌}
use Rattle.std.proofs.lemmas.List.{length-append, map-append}
use Rattle.kr_yaml.specs.Data.{Data, null, word, list, mapping, Items, no_items as nothing, item}
use Rattle.kr_yaml.specs.Data.{Members, no_members as none, member, items_of, members_of}
use Rattle.kr_yaml.specs.Lines.{Token, dash, pair, leaf}
use Rattle.kr_yaml.specs.Forms.{Shape, flat, both, deeper, with_keys, keys, Form, IsNode, no_tokens}
use Rattle.kr_yaml.specs.Forms.{one_leaf, one_list, one_mapping, AreItems, no_items, one_more_item}
use Rattle.kr_yaml.specs.Forms.{AreMembers, no_members, one_more_member, IsValue, on_line}
use Rattle.kr_yaml.specs.Forms.{to_the_right, list_below}
use Rattle.kr_yaml.proofs.Grown.{keys_push}
use Rattle.kr_yaml.proofs.Runs.{one_tree}

abbrev bare_value : Option Data → Option Data
bare_value None = None
bare_value (Some d) = Some null

abbrev bare : Token → Token
bare (dash c) = dash c
bare (pair c k v) = pair c k (bare_value v)
bare (leaf c d) = leaf c null

abbrev bares : List Token → List Token
bares ts = map bare ts

abbrev keys_in : Members → List (List ℕ)
keys_in none = []
keys_in (member k d ms) = k ∷ keys_in ms

abbrev mutual
  seen : Data → Shape
  seen null = flat
  seen (word w) = flat
  seen (list ds) = deeper (seen_items ds)
  seen (mapping ms) = with_keys (keys_in ms) (seen_members ms)

  seen_items : Items → Shape
  seen_items nothing = flat
  seen_items (item d ds) = both (seen d) (seen_items ds)

  seen_members : Members → Shape
  seen_members none = flat
  seen_members (member k d ms) = both (seen d) (seen_members ms)

same_shape : (a b : ℕ) (v w : Bool) → a ≡ b → v ≡ w
    → (let s : Shape = record { levels = a; twice = v } in s)
    ≡ (let s : Shape = record { levels = b; twice = w } in s)
same_shape a b v w e f = cc

or_none : (v : Bool) → (v || false) ≡ (false || v)
or_none v = grind arith

or_assoc : (u v w : Bool) → (u || (v || w)) ≡ ((u || v) || w)
or_assoc u v w = grind arith

both_flat : (s : Shape) → both s flat ≡ both flat s
both_flat s = same_shape (max s.levels 0) (max 0 s.levels) (s.twice || false) (false || s.twice)
    (omega arith) (or_none s.twice)

both_assoc : (s t u : Shape) → both s (both t u) ≡ both (both s t) u
both_assoc s t u = same_shape (max s.levels (max t.levels u.levels)) (max (max s.levels t.levels)
    u.levels) (s.twice || (t.twice || u.twice)) ((s.twice || t.twice) || u.twice) (omega arith)
    (or_assoc s.twice t.twice u.twice)

items_push : (ds : List Data) (d : Data) → seen_items (items_of (ds ++ d ∷ []))
    ≡ both (seen_items (items_of ds)) (seen d)
items_push [] d = both_flat (seen d)
items_push (x ∷ ds) d = ap (both (seen x)) (items_push ds d)
    ∙ both_assoc (seen x) (seen_items (items_of ds)) (seen d)

members_push : (ms : List (List ℕ × Data)) (k : List ℕ) (d : Data)
    → seen_members (members_of (ms ++ (k, d) ∷ [])) ≡ both (seen_members (members_of ms)) (seen d)
members_push [] k d = both_flat (seen d)
members_push (m ∷ ms) k d = ap (both (seen m.1)) (members_push ms k d)
    ∙ both_assoc (seen m.1) (seen_members (members_of ms)) (seen d)

keys_are : (ms : List (List ℕ × Data)) → keys_in (members_of ms) ≡ keys ms
keys_are [] = refl
keys_are (m ∷ ms) = ap (λ l. m.0 ∷ l) (keys_are ms)

-- the same tokens with bare values form a tree that shows this shape
record BareNode (low : ℕ) (ts : List Token) (s : Shape) : Type 0 where
  tree : Data
  node : IsNode low (bares ts) tree s
  shown : seen tree ≡ s

record BareItems (c : ℕ) (ts : List Token) (s : Shape) (n : ℕ) : Type 0 where
  trees : List Data
  are : AreItems c (bares ts) trees s
  shown : seen_items (items_of trees) ≡ s
  count : length trees ≡ n

record BareMembers (c : ℕ) (ts : List Token) (s : Shape) (ks : List (List ℕ)) (n : ℕ) : Type 0 where
  trees : List (List ℕ × Data)
  are : AreMembers c (bares ts) trees s
  shown : seen_members (members_of trees) ≡ s
  same : keys trees ≡ ks
  count : length trees ≡ n

record BareValue (c : ℕ) (v : Option Data) (ts : List Token) (s : Shape) : Type 0 where
  tree : Data
  value : IsValue c (bare_value v) (bares ts) tree s
  shown : seen tree ≡ s

bare_list : (c : ℕ) (us : List Token) (n : Shape) (m : ℕ) → 0 < m → BareItems c us n m → (low : ℕ)
    → low ≤ c → BareNode low us (deeper n)
bare_list c us n m k b low h = let l = b.count in record {
  tree = list (items_of b.trees);
  node = one_list low c (bares us) b.trees n h (omega arith) b.are;
  shown = ap deeper b.shown;
}

bare_mapping : (c : ℕ) (us : List Token) (n : Shape) (ks : List (List ℕ)) (m : ℕ) → 0 < m
    → BareMembers c us n ks m → (low : ℕ) → low ≤ c → BareNode low us (with_keys ks n)
bare_mapping c us n ks m k b low h = let l = b.count in record {
  tree = mapping (members_of b.trees);
  node = subst (λ ks. IsNode low (bares us) (mapping (members_of b.trees)) (with_keys ks n)) b.same
      (one_mapping low c (bares us) b.trees n h (omega arith) b.are);
  shown = ap (λ l. with_keys l (seen_members (members_of b.trees))) (keys_are b.trees ∙ b.same)
      ∙ ap (with_keys ks) b.shown;
}

bare_item_more : (c : ℕ) (us ws : List Token) (m n : Shape) (k l : ℕ) → BareItems c us m k
    → BareNode (suc c) ws n → l ≡ suc k → BareItems c (us ++ dash c ∷ ws) (both m n) l
bare_item_more c us ws m n k l b d e = record {
  trees = b.trees ++ d.tree ∷ [];
  are = subst (λ ts. AreItems c ts (b.trees ++ d.tree ∷ []) (both m n))
      (sym (map-append bare us (dash c ∷ ws))) (one_more_item c (bares us) (bares ws) b.trees d.tree
      m n b.are d.node);
  shown = items_push b.trees d.tree ∙ ap (λ s. both s (seen d.tree)) b.shown ∙ ap (both m) d.shown;
  count = (let g = length-append b.trees (d.tree ∷ []) in let h = b.count in omega arith);
}

bare_member_more : (c : ℕ) (us ws : List Token) (k : List ℕ) (v : Option Data) (m n : Shape)
    (ks ls : List (List ℕ)) (i j : ℕ) → BareMembers c us m ks i → BareValue c v ws n
    → ls ≡ ks ++ k ∷ [] → j ≡ suc i → BareMembers c (us ++ pair c k v ∷ ws) (both m n) ls j
bare_member_more c us ws k v m n ks ls i j b d e f = record {
  trees = b.trees ++ (k, d.tree) ∷ [];
  are = subst (λ ts. AreMembers c ts (b.trees ++ (k, d.tree) ∷ []) (both m n))
      (sym (map-append bare us (pair c k v ∷ ws))) (one_more_member c (bares us) (bares ws) b.trees
      k (bare_value v) d.tree m n b.are d.value);
  shown = members_push b.trees k d.tree ∙ ap (λ s. both s (seen d.tree)) b.shown
      ∙ ap (both m) d.shown;
  same = keys_push b.trees k d.tree ∙ ap (λ l. l ++ k ∷ []) b.same ∙ sym e;
  count = (let g = length-append b.trees ((k, d.tree) ∷ []) in let h = b.count in omega arith);
}

bare_right : (c : ℕ) (ts : List Token) (s : Shape) → BareNode (suc c) ts s → BareValue c None ts s
bare_right c ts s b = record {
  tree = b.tree;
  value = to_the_right c (bares ts) b.tree s b.node;
  shown = b.shown;
}

bare_below : (c : ℕ) (ts : List Token) (s : Shape) (m : ℕ) → 0 < m → BareItems c ts s m
    → BareValue c None ts (deeper s)
bare_below c ts s m k b = let l = b.count in record {
  tree = list (items_of b.trees);
  value =
      list_below c (bares ts) b.trees s (omega arith) b.are;
  shown = ap deeper b.shown;
}

push_length : {X : Type 0} (xs : List X) (x : X) → length (xs ++ x ∷ []) ≡ suc (length xs)
push_length xs x = omega (arith, length-append xs (x ∷ []))

mutual
  bare_node : (low : ℕ) (ts : List Token) (d : Data) (s : Shape) → IsNode low ts d s
      → BareNode low ts s
  bare_node low ts d s (no_tokens l) = record { tree = null; node = no_tokens low; shown = refl }
  bare_node low ts d s (one_leaf l c e h) = record {
    tree = null;
    node = one_leaf low c null h;
    shown = refl;
  }
  bare_node low ts d s (one_list l c us ds n h k rest) = bare_list c us n (length ds) k
      (bare_items c us ds n rest) low h
  bare_node low ts d s (one_mapping l c us ms n h k rest) = bare_mapping c us n (keys ms)
      (length ms) k (bare_members c us ms n rest) low h

  bare_items : (c : ℕ) (ts : List Token) (ds : List Data) (s : Shape) → AreItems c ts ds s
      → BareItems c ts s (length ds)
  bare_items c ts ds s (no_items b) = record {
    trees = [];
    are = no_items c;
    shown = refl;
    count =
        refl;
  }
  bare_items c ts ds s (one_more_item b us ws es d m n before rest) = bare_item_more c us ws m n
      (length es) (length (es ++ d ∷ [])) (bare_items c us es m before)
      (bare_node (suc c) ws d n rest) (push_length es d)

  bare_members : (c : ℕ) (ts : List Token) (ms : List (List ℕ × Data)) (s : Shape)
      → AreMembers c ts ms s → BareMembers c ts s (keys ms) (length ms)
  bare_members c ts ms s (no_members b) = record {
    trees = [];
    are = no_members c;
    shown =
        refl;
    same = refl;
    count = refl;
  }
  bare_members c ts ms s (one_more_member b us ws ns k v d m n before rest) =
      bare_member_more c us ws k v m n (keys ns) (keys (ns ++ (k, d) ∷ [])) (length ns)
      (length (ns ++ (k, d) ∷ [])) (bare_members c us ns m before)
      (bare_of_value c v ws d n rest) (keys_push ns k d) (push_length ns (k, d))

  bare_of_value : (c : ℕ) (v : Option Data) (ts : List Token) (d : Data) (s : Shape)
      → IsValue c v ts d s → BareValue c v ts s
  bare_of_value c v ts d s (on_line b e) = record {
    tree = null;
    value = on_line c null;
    shown =
        refl;
  }
  bare_of_value c v ts d s (to_the_right b us e n rest) =
      bare_right c us n (bare_node (suc c) us e n rest)
  bare_of_value c v ts d s (list_below b us ds n k rest) = bare_below c us n (length ds) k
      (bare_items c us ds n rest)

pub one_shape : (ts : List Token) (d e : Data) (s t : Shape) → Form ts d s → Form ts e t → s ≡ t
one_shape ts d e s t f g =
    let x = bare_node 0 ts d s f in
    let y = bare_node 0 ts e t g in
    sym x.shown ∙ ap seen (one_tree (bares ts) x.tree y.tree s t x.node y.node) ∙ y.shown
