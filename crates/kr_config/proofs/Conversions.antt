-- Trees of YAML as values of JSON.
use Rattle.std.proofs.Common.{◌≡◌, ℕ, ◌+◌, ◌<◌, ◌≤◌, suc, List, [], ◌∷◌, length, map, get_or, drop}
use Rattle.std.proofs.Common.{drop-cons, add-one, BTreeMap, String, Global, refl, sym, ap, ◌∙◌}
use Rattle.std.proofs.Common.{rules}
use Rattle.std.proofs.lemmas.List.{drop_all}
use Rattle.serde_json.specs.Data.{Members, put, no_members, object, item}
use Rattle.serde_json.specs.View as json
use Rattle.serde_json.specs.declared.value.Value.{Value, Object}
use Rattle.serde_json.proofs.Views.{view-Object}
use Rattle.kr_yaml.specs.Data as yaml
use Rattle.kr_yaml.specs.Shown.{view, views, view_member, member_views}
use Rattle.kr_yaml.specs.declared.tree.Member.{Member}
use Rattle.kr_yaml.specs.declared.tree.Tree.{Tree, the_lemmas}
use Rattle.kr_yaml.specs.declared.tree.Tree.TheVariants as tree
use Rattle.kr_config.specs.Yaml.{json_of, json_items, json_members}

view_members : (ms : List Member × ℕ)
    → view (tree.Members ms) ≡ yaml.mapping (yaml.members_of (member_views ms.0))
view_members ms = search (rules, the_lemmas)

pub as_object : (map : BTreeMap (String Global) Value) (ms : List Member × ℕ)
    → json.members_view map.entries ≡ json_members no_members (yaml.members_of (member_views ms.0))
    → json.view (Object map) ≡ json_of (view (tree.Members ms))
as_object map ms is = view-Object map ∙ ap object is ∙ ap json_of (sym (view_members ms))

-- items, as values
pub items_same : (trees : List Tree)
    → json.items_of (map (λ tree. json_of (view tree)) trees)
    ≡ json_items (yaml.items_of (views trees))
items_same [] = refl
items_same (t ∷ trees) = ap (λ l. item (json_of (view t)) l) (items_same trees)

-- a member more is put in
pub member_more : (done after : Members) (ms : List Member) (k : ℕ) (m : Member) → k < length ms
    → m ≡ get_or ms k m → after ≡ put m.key (json_of (view m.value)) done
    → json_members done (yaml.members_of (member_views (drop k ms)))
    ≡ json_members after (yaml.members_of (member_views (drop (k + 1) ms)))
member_more done after ms k m h is put_in =
    ap (λ l. json_members done (yaml.members_of (member_views l))) (drop-cons ms k m h)
    ∙ ap (λ w. json_members done (yaml.members_of (view_member w ∷ member_views (drop (suc k) ms))))
    (sym is)
    ∙ ap (λ d. json_members d (yaml.members_of (member_views (drop (suc k) ms)))) (sym put_in)
    ∙ ap (λ n. json_members after (yaml.members_of (member_views (drop n ms)))) (sym (add-one k))

pub members_end : (done : Members) (ms : List Member) (k : ℕ) → length ms ≤ k
    → json_members done (yaml.members_of (member_views (drop k ms))) ≡ done
members_end done ms k h = ap (λ l. json_members done (yaml.members_of (member_views l)))
    (drop_all k ms h)
