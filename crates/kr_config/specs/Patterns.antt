-- Patterns of resources: their texts, what they match, and when two of them clash.
use Rattle.std.specs.Prelude.{ℕ, ◌+◌, ◌==◌, ◌&&◌, ◌||◌, Bool, true, false, List, length, nat_le}
use Rattle.std.specs.List.{after_first}
use Rattle.std.specs.Str.{bytes_eq}
use Rattle.kr_base.specs.Limits.{name_limit}
use Rattle.kr_base.specs.Rules.{is_resource}
use Rattle.kr_config.specs.declared.pattern.Pattern.{Pattern}
use Rattle.kr_config.specs.declared.pattern.Pattern.TheVariants.{Exact, Group, All}

-- what stands behind the first dot; a name alone is of the core group, whose text is empty
abbrev pub resource_group : List ℕ → List ℕ
resource_group resource = after_first (λ byte. byte == 0x2E) resource

-- an exact pattern matches its own text, a group every resource of it, and `All` every resource
abbrev pub matches : Pattern → List ℕ → Bool
matches (Exact text) resource = bytes_eq text resource
matches (Group group) resource = bytes_eq group (resource_group resource)
matches All resource = true

-- a pattern that matches all resources of a group, and one that matches all
abbrev pub covers_group : Pattern → List ℕ → Bool
covers_group (Exact text) group = false
covers_group (Group own) group = bytes_eq own group
covers_group All group = true

abbrev pub covers_rest : Pattern → Bool
covers_rest (Exact text) = false
covers_rest (Group group) = false
covers_rest All = true

-- the group of a pattern is empty, or labels parted by dots, which is the form of a resource; `*.`
-- before it counts among the 253 bytes
abbrev pub is_group_name : List ℕ → Bool
is_group_name group =
    (length group == 0) || (nat_le (length group + 2) name_limit && is_resource group)

abbrev pub is_pattern : Pattern → Bool
is_pattern (Exact text) = is_resource text
is_pattern (Group group) = is_group_name group
is_pattern All = true

-- the same pattern twice
abbrev pub same : Pattern → Pattern → Bool
same (Exact a) (Exact b) = bytes_eq a b
same (Exact a) (Group b) = false
same (Exact a) All = false
same (Group a) (Exact b) = false
same (Group a) (Group b) = bytes_eq a b
same (Group a) All = false
same All (Exact b) = false
same All (Group b) = false
same All All = true

-- one of two matches all, or one is a group and the other an exact one of that group
abbrev pub overlap : Pattern → Pattern → Bool
overlap (Exact a) (Exact b) = false
overlap (Exact a) (Group b) = bytes_eq (resource_group a) b
overlap (Exact a) All = true
overlap (Group a) (Exact b) = bytes_eq a (resource_group b)
overlap (Group a) (Group b) = false
overlap (Group a) All = true
overlap All (Exact b) = true
overlap All (Group b) = true
overlap All All = true

abbrev pub clash : Pattern → Pattern → Bool
clash a b = same a b || overlap a b
