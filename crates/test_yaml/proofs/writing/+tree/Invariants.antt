use Rattle.std.proofs.Common.{◌≡◌, ◌++◌, drop}
use Rattle.std.specs.String.{string_bytes}
use Rattle.kr_yaml.specs.Data.{items_of, members_of}
use Rattle.kr_yaml.specs.Shown.{member_views, views}
use Rattle.test_yaml.specs.TreeText.{more_items, more_members}
use Rattle.test_yaml.proofs.writing.+tree.Given as goal

abbrev pub invariant-write_items-rest : goal.invariant-write_items-rest
invariant-write_items-rest l = string_bytes l.out ++ more_items
    (items_of (views (drop l.item-index l.rest))) ≡ string_bytes l.initial.out ++ more_items
    (items_of (views l.rest))

abbrev pub invariant-write_members-rest : goal.invariant-write_members-rest
invariant-write_members-rest l = string_bytes l.out ++ more_members
    (members_of (member_views (drop l.member-index l.rest)))
    ≡ string_bytes l.initial.out ++ more_members (members_of (member_views l.rest))
