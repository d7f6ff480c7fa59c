-- Bytes mean one thing.
use Rattle.std.proofs.Common.{◌≡◌, ◌≢◌, ℕ, Bool, true, false, List, Ok, Err, refl, sym, ◌∙◌, ap}
use Rattle.std.proofs.Common.{subst, inl, inr}
use Rattle.std.specs.Prelude.{Result}
use Rattle.std.specs.Str.{is_utf8}
use Rattle.kr_yaml.specs.Data.{Data}
use Rattle.kr_yaml.specs.Lines.{Token}
use Rattle.kr_yaml.specs.Texts.{text_tokens}
use Rattle.kr_yaml.specs.Reads.{plain, HasTree, Refuses}
use Rattle.kr_yaml.specs.Laws.{AnswerOf}
use Rattle.kr_yaml.specs.declared.yaml_no.YamlNo.{YamlNo}
use Rattle.kr_yaml.specs.declared.yaml_no.YamlNo.TheVariants.{Outside, Indent, DuplicateKey, Deep}
use Rattle.kr_yaml.specs.declared.yaml_no.YamlNo.TheVariants.{NoMemory}
use Rattle.kr_yaml.proofs.Breaches.{first_stops}
use Rattle.kr_yaml.proofs.OneAnswer.{one_form, one_answer}
use Rattle.kr_yaml.proofs.SomeAnswer.{some_answer}
use Rattle.kr_config.specs.declared.refusal.YamlRule.TheVariants as yaml_rule
use Rattle.kr_config.specs.declared.refusal.ConfigNo.{ConfigNo}
use Rattle.kr_config.specs.declared.refusal.ConfigNo.TheVariants.{Yaml}
use Rattle.kr_config.specs.Kept.{ConfigEntry}
use Rattle.kr_config.specs.Walk.{then_unless_breach, config_in}
use Rattle.kr_config.specs.Yaml.{json_of, IsBreachOf, TreeOf}
use Rattle.kr_config.specs.Meanings.{begins_json, json_rows, no_text, MeansYaml, TextMeans, MeansBy}
use Rattle.kr_config.specs.Laws.{OneMeaning, SomeMeaning}

two_trees : (wanted : Result (List (ℕ × Token)) ℕ) (d e : Data) → HasTree wanted d
    → HasTree wanted e → d ≡ e
two_trees (Ok us) d e h k = (one_form (plain us) d e h.shape k.shape h.forms k.forms).0
two_trees (Err n) d e h k = absurd h

tree_or : (wanted : Result (List (ℕ × Token)) ℕ) (d : Data) (breach : YamlNo) (why : ConfigNo)
    → HasTree wanted d → Refuses wanted breach → IsBreachOf breach why → ⊥
tree_or (Ok us) d (Outside n) why h k i = k
tree_or (Ok us) d (Indent n) why h k i = first_stops us (Indent n) k d h
tree_or (Ok us) d (DuplicateKey n) why h k i = first_stops us (DuplicateKey n) k d h
tree_or (Ok us) d (Deep n) why h k i = first_stops us (Deep n) k d h
tree_or (Ok us) d NoMemory why h k i = i
tree_or (Err n) d breach why h k i = h

no_memory : (breach : YamlNo) (why : ConfigNo) → IsBreachOf breach why → breach ≡ NoMemory → ⊥
no_memory breach why i e = subst (λ x. IsBreachOf x why) e i

one_restated : (breach : YamlNo) (why other : ConfigNo) → IsBreachOf breach why
    → IsBreachOf breach other → why ≡ other
one_restated (Outside n) why other h k = h ∙ sym k
one_restated (Indent n) why other h k = h ∙ sym k
one_restated (DuplicateKey n) why other h k = h ∙ sym k
one_restated (Deep n) why other h k = h ∙ sym k
one_restated NoMemory why other h k = absurd h

two_breaches : (wanted : Result (List (ℕ × Token)) ℕ) (x y : YamlNo) (why other : ConfigNo)
    → Refuses wanted x → Refuses wanted y → IsBreachOf x why → IsBreachOf y other → why ≡ other
two_breaches wanted x y why other h k i j = elim (one_answer wanted (Err x) (Err y) h k) [
  | inl e ↦ absurd (no_memory x why i e)
  | inr f ↦ elim f [
    | inl e ↦ absurd (no_memory y other j e)
    | inr g ↦ one_restated y why other (subst (λ z. IsBreachOf z why) g i) j
  ]
]

one_tree : (text : List ℕ) (a b : Result Data ConfigNo) → TreeOf text a → TreeOf text b → a ≡ b
one_tree text (Ok d) (Ok e) h k = ap (λ x. Ok x) (two_trees (text_tokens text) d e h k)
one_tree text (Ok d) (Err why) h k = absurd (tree_or (text_tokens text) d k.0 why h k.1 k.2)
one_tree text (Err why) (Ok d) h k = absurd (tree_or (text_tokens text) d h.0 why k h.1 h.2)
one_tree text (Err why) (Err other) h k =
    ap (λ x. Err x) (two_breaches (text_tokens text) h.0 k.0 why other h.1 k.1 h.2 k.2)

one_yaml : (text : List ℕ) (a b : Result (List ConfigEntry) ConfigNo) → MeansYaml text a → MeansYaml text b
    → a ≡ b
one_yaml text a b h k = sym h.2
    ∙ ap (λ tree. then_unless_breach tree (λ d. config_in (json_of d))) (one_tree text h.0 k.0 h.1 k.1) ∙ k.2

one_text : (is_json : Bool) (text : List ℕ) (a b : Result (List ConfigEntry) ConfigNo)
    → TextMeans is_json text a → TextMeans is_json text b → a ≡ b
one_text true text a b h k = sym h ∙ k
one_text false text a b h k = one_yaml text a b h k

one_by : (utf8 : Bool) (bytes : List ℕ) (a b : Result (List ConfigEntry) ConfigNo) → MeansBy utf8 bytes a
    → MeansBy utf8 bytes b → a ≡ b
one_by true bytes a b h k = one_text (begins_json bytes) bytes a b h k
one_by false bytes a b h k = sym h ∙ k

pub one_meaning : OneMeaning
one_meaning bytes a b h k = one_by (is_utf8 bytes) bytes a b h k

-- and they mean something

some_restatement : (breach : YamlNo) → breach ≢ NoMemory → (why : ConfigNo) × IsBreachOf breach why
some_restatement (Outside n) h = (Yaml yaml_rule.Outside n, refl)
some_restatement (Indent n) h = (Yaml yaml_rule.Indent n, refl)
some_restatement (DuplicateKey n) h = (Yaml yaml_rule.DuplicateKey n, refl)
some_restatement (Deep n) h = (Yaml yaml_rule.Deep n, refl)
some_restatement NoMemory h = absurd (h refl)

some_tree : (text : List ℕ) → AnswerOf (text_tokens text)
    → (tree : Result Data ConfigNo) × TreeOf text tree
some_tree text (inl h) = (Ok h.0, h.1)
some_tree text (inr h) = let n = some_restatement h.0 h.2 in (Err n.0, (h.0, h.1, n.1))

some_text : (is_json : Bool) (text : List ℕ)
    → (rows : Result (List ConfigEntry) ConfigNo) × TextMeans is_json text rows
some_text true text = (json_rows text, refl)
some_text false text = let t = some_tree text (some_answer (text_tokens text)) in
    (then_unless_breach t.0 (λ d. config_in (json_of d)), (t.0, t.1, refl))

some_by : (utf8 : Bool) (bytes : List ℕ)
    → (rows : Result (List ConfigEntry) ConfigNo) × MeansBy utf8 bytes rows
some_by true bytes = some_text (begins_json bytes) bytes
some_by false bytes = (Err (no_text (begins_json bytes)), refl)

pub some_meaning : SomeMeaning
some_meaning bytes = some_by (is_utf8 bytes) bytes
