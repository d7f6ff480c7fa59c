-- Providers in lists. They are compared with their secrets.
use Rattle.std.specs.Prelude.{◌&&◌, Bool, true, false, List, [], ◌∷◌, Option, None, Some, if◌then◌else◌}
use Rattle.std.specs.List.{list_any}
use Rattle.std.specs.Str.{bytes_eq}
use Rattle.kr_config.specs.declared.who.Who.{Who}
use Rattle.kr_config.specs.declared.who.Who.TheVariants.{Identity, Aescbc, Aesgcm, Kms}

-- one kind, one name and one secret
abbrev pub same_who : Who → Who → Bool
same_who Identity Identity = true
same_who Identity (Aescbc b t) = false
same_who Identity (Aesgcm b t) = false
same_who Identity (Kms b) = false
same_who (Aescbc a s) Identity = false
same_who (Aescbc a s) (Aescbc b t) = bytes_eq a b && bytes_eq s t
same_who (Aescbc a s) (Aesgcm b t) = false
same_who (Aescbc a s) (Kms b) = false
same_who (Aesgcm a s) Identity = false
same_who (Aesgcm a s) (Aescbc b t) = false
same_who (Aesgcm a s) (Aesgcm b t) = bytes_eq a b && bytes_eq s t
same_who (Aesgcm a s) (Kms b) = false
same_who (Kms a) Identity = false
same_who (Kms a) (Aescbc b t) = false
same_who (Kms a) (Aesgcm b t) = false
same_who (Kms a) (Kms b) = bytes_eq a b

abbrev pub has : List Who → Who → Bool
has providers who = list_any (λ own. same_who own who) providers

-- the first provider of a list writes: this one, where the other list hasn't it
abbrev pub unread_writer : (writers readers : List Who) → Option Who
unread_writer [] readers = None
unread_writer (writer ∷ writers) readers = if has readers writer then None else Some writer
