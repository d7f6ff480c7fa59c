-- The refusals of values by their numbers and names, as messages have them.
use Rattle.std.specs.Prelude.{ℕ, List, codes}
use Rattle.kr_provider.specs.declared.refusal.ValueNo.{ValueNo}
use Rattle.kr_provider.specs.declared.refusal.ValueNo.TheVariants.{Short, BadBlock, BadPadding, BadTag, Wire, KeyId, Source, Annotations, SourceType, NoData, NotUtf8, NoProvider, LooksEncrypted, TooLarge, SeedLength}

abbrev pub number_of : ValueNo → ℕ
number_of Short = 1
number_of BadBlock = 2
number_of BadPadding = 3
number_of BadTag = 4
number_of Wire = 5
number_of KeyId = 6
number_of Source = 7
number_of Annotations = 8
number_of SourceType = 9
number_of NoData = 10
number_of NotUtf8 = 11
number_of NoProvider = 12
number_of LooksEncrypted = 13
number_of TooLarge = 14
number_of SeedLength = 15

abbrev pub name_of : ValueNo → List ℕ
name_of Short = codes "Short"
name_of BadBlock = codes "BadBlock"
name_of BadPadding = codes "BadPadding"
name_of BadTag = codes "BadTag"
name_of Wire = codes "Wire"
name_of KeyId = codes "KeyId"
name_of Source = codes "Source"
name_of Annotations = codes "Annotations"
name_of SourceType = codes "SourceType"
name_of NoData = codes "NoData"
name_of NotUtf8 = codes "NotUtf8"
name_of NoProvider = codes "NoProvider"
name_of LooksEncrypted = codes "LooksEncrypted"
name_of TooLarge = codes "TooLarge"
name_of SeedLength = codes "SeedLength"
