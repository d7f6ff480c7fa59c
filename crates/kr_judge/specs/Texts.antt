-- What is printed of a verdict.
use Rattle.std.specs.Prelude.{ℕ, List, ◌++◌, codes, decimal}
use Rattle.kr_config.specs.declared.class.Class.{Class}
use Rattle.kr_config.specs.declared.class.Class.TheVariants.{Exact, Group, Rest}
use Rattle.kr_config.specs.declared.who.Who.{Who}
use Rattle.kr_config.specs.declared.who.Who.TheVariants.{Identity, Aescbc, Aesgcm, Kms}
use Rattle.kr_judge.specs.declared.verdict.Verdict.{Verdict}
use Rattle.kr_judge.specs.declared.verdict.Verdict.TheVariants.{Pass, DropsStored, DropsWriter, Unread}

-- a provider by its kind and name; its secret isn't printed
abbrev pub who_text : Who → List ℕ
who_text Identity = codes "identity"
who_text (Aescbc name secret) = codes "aescbc:" ++ name
who_text (Aesgcm name secret) = codes "aesgcm:" ++ name
who_text (Kms name) = codes "kms:" ++ name

-- a class as a pattern is spelled; the core group's text is empty
abbrev pub class_text : Class → List ℕ
class_text (Exact text) = text
class_text (Group group) = codes "*." ++ group
class_text Rest = codes "*.*"

-- a generation by its digits, a class, and a provider
abbrev pub place_text : List ℕ → Class → Who → List ℕ
place_text digits class who =
    digits ++ (codes " " ++ (class_text class ++ (codes " " ++ who_text who)))

abbrev pub verdict_text : Verdict → List ℕ
verdict_text Pass = codes "pass"
verdict_text (DropsStored path who) = codes "drops-stored " ++ (path ++ (codes " " ++ who_text who))
verdict_text (DropsWriter generation class who) =
    codes "drops-writer " ++ place_text (decimal generation) class who
verdict_text (Unread generation class who) =
    codes "unread " ++ place_text (decimal generation) class who
