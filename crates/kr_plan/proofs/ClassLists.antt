-- The list that merged settings have at a class.
use Rattle.std.proofs.Common.{◌≡◌, List, [], ◌∷◌, Contains, sym, ap, ◌∙◌}
use Rattle.std.specs.List.{flat_map}
use Rattle.kr_config.specs.declared.class.Class.{Class}
use Rattle.kr_config.specs.declared.class.Class.TheVariants.{Rest}
use Rattle.kr_config.specs.Classes.{classes_in, IsTableOf}
use Rattle.kr_config.specs.Kept.{ConfigEntry}
use Rattle.kr_config.specs.Lists.{class_list}
use Rattle.kr_config.proofs.ClassEntries.{narrow, narrows, made_list}
use Rattle.kr_judge.specs.Tables.{table_of}
use Rattle.kr_config.proofs.ListParts.{here, there}
use Rattle.kr_judge.proofs.Tables.{is_table}
use Rattle.kr_plan.specs.Laws.{MergesEachClass}
use Rattle.kr_plan.specs.Merges.{merge, merged_list, merged_rows}

pub rest_in : (added : List (List ConfigEntry)) → Contains (table_of added) Rest
rest_in added = ((is_table added).members Rest).1 (here Rest (flat_map classes_in added))

pub one_way : (added : List (List ConfigEntry)) (one other : List ConfigEntry) (class : Class) → Contains added one
    → Contains added other
    → class_list (merged_rows (table_of added) one other) class
    ≡ merge (class_list one class) (class_list other class)
one_way added one other class has_one has_other =
    let classes : List Class = table_of added in
    let table : IsTableOf added classes = is_table added in
    let kept : Class = narrow classes class in
    made_list (merged_list one other) classes class table.ascends (rest_in added)
    ∙ ap (λ l. merge l (class_list other kept)) (sym (narrows added classes class one table has_one))
    ∙ ap (λ l. merge (class_list one class) l)
    (sym (narrows added classes class other table has_other))

pub merges_each_class : MergesEachClass
merges_each_class from to class =
    let both : List (List ConfigEntry) = from ∷ to ∷ [] in
    let has_from = here from (to ∷ []) in
    let has_to = there from to (to ∷ []) (here to []) in
    (one_way both from to class has_from has_to, one_way both to from class has_to has_from)
