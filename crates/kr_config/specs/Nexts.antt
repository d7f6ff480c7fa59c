-- What comes next in an order: the least of a list among those that come after another.
use Rattle.std.specs.Prelude.{◌≡◌, ◌≢◌, ℕ, Bool, true, false, List, All, Contains, Option, None}
use Rattle.std.specs.Prelude.{Some, if◌then◌else◌}
use Rattle.std.specs.Ordering.{is_lt, nat_cmp}
use Rattle.std.specs.declared.cmp.Ordering.{Ordering}
use Rattle.std.specs.declared.cmp.Ordering.TheVariants.{Less}
use Rattle.std.specs.Cmp.Lexicographic.{slice_cmp}
use Rattle.kr_config.specs.declared.class.Class.{Class}
use Rattle.kr_config.specs.declared.borrowed_class.BorrowedClass.{BorrowedClass}
use Rattle.kr_config.specs.declared.borrowed_class.BorrowedClass.TheVariants as borrowed
use Rattle.kr_config.specs.declared.class.Class.TheVariants.{Exact, Group, Rest}
use Rattle.kr_config.specs.Classes.{class_cmp}

-- of those in the list that pass the test the one that none of them comes before; none where none
-- passes
abbrev pub IsLeast : {T : Type 0} → (T → T → Ordering) → (T → Bool) → List T → Option T → Type 0
IsLeast cmp test xs None = All (λ x. test x ≡ false) xs
IsLeast cmp test xs (Some least) =
    Contains xs least × (test least ≡ true) × All (λ x. test x ≡ true → cmp x least ≢ Less) xs

-- the first of two that may be none
abbrev pub earlier : {T : Type 0} → (T → T → Ordering) → Option T → Option T → Option T
earlier cmp None other = other
earlier cmp (Some x) None = Some x
earlier cmp (Some x) (Some y) = if is_lt (cmp y x) then Some y else Some x

abbrev pub name_cmp : List ℕ → List ℕ → Ordering
name_cmp a b = slice_cmp nat_cmp a b

-- by bytes
abbrev pub IsNextName : List (List ℕ) → List ℕ → Option (List ℕ) → Type 0
IsNextName names after next = IsLeast name_cmp (λ name. is_lt (name_cmp after name)) names next

-- after this class, or at all
abbrev pub comes_after : Option Class → Class → Bool
comes_after None class = true
comes_after (Some after) class = is_lt (class_cmp after class)

abbrev pub IsNextClass : List Class → Option Class → Option Class → Type 0
IsNextClass classes after next = IsLeast class_cmp (comes_after after) classes next

-- the class that is lent
abbrev pub lent_class : BorrowedClass → Class
lent_class (borrowed.Exact text) = Exact text.now
lent_class (borrowed.Group group) = Group group.now
lent_class borrowed.Rest = Rest
