-- What is printed for a line.
use Rattle.std.specs.Prelude.{◌≡◌, ◌⊎◌, ℕ, List, [], ◌++◌, codes, decimal, Option, None, Some}
use Rattle.std.specs.Prelude.{MatchOption, Result, Ok, Err, if◌then◌else◌}
use Rattle.std.specs.Result.{result_ok}
use Rattle.std.specs.Str.{IsUtf8, bytes_eq}
use Rattle.hex.specs.Hex.{decode_of}
use Rattle.kr_yaml.specs.Reads.{ReadsText}
use Rattle.kr_yaml.specs.Shown.{view}
use Rattle.kr_yaml.specs.declared.tree.Tree.{Tree}
use Rattle.kr_yaml.specs.declared.yaml_no.YamlNo.{YamlNo}
use Rattle.kr_yaml.specs.declared.yaml_no.YamlNo.TheVariants.{Outside, Indent, DuplicateKey}
use Rattle.kr_yaml.specs.declared.yaml_no.YamlNo.TheVariants.{Deep, NoMemory}
use Rattle.test_yaml.specs.TreeText.{tree_text}

-- a refusal's name and the number of its line
abbrev pub refusal_text : List ℕ → ℕ → List ℕ
refusal_text name line = name ++ (codes " " ++ decimal line)

-- This is printed for what the reader answers. Nothing is printed where memory was wanting.
abbrev pub Prints : Result Tree YamlNo → List ℕ → Type 0
Prints (Ok tree) printed = printed ≡ tree_text (view tree)
Prints (Err (Outside line)) printed = printed ≡ refusal_text (codes "Outside") line
Prints (Err (Indent line)) printed = printed ≡ refusal_text (codes "Indent") line
Prints (Err (DuplicateKey line)) printed = printed ≡ refusal_text (codes "DuplicateKey") line
Prints (Err (Deep line)) printed = printed ≡ refusal_text (codes "Deep") line
Prints (Err NoMemory) printed = ⊥

-- the tree of the text, or its first breach
abbrev pub TellsText : List ℕ → List ℕ → Type 0
TellsText text printed =
    (answer : Result Tree YamlNo) × ReadsText text answer × Prints answer printed

-- of a document, which may not be a text
abbrev pub TellsDocument : List ℕ → List ℕ → Type 0
TellsDocument document printed =
    (IsUtf8 document × TellsText document printed)
    ⊎ ((¬ IsUtf8 document) × (printed ≡ codes "NotUtf8"))

-- the document of a line: a dash alone stands for the empty one, and hex for any other
abbrev pub document_of : List ℕ → Option (List ℕ)
document_of line = if bytes_eq line (codes "-") then Some []
    else if bytes_eq line [] then None else result_ok (decode_of line)

abbrev pub Answers : List ℕ → List ℕ → Type 0
Answers line printed = MatchOption (document_of line) (printed ≡ codes "line")
    (λ document. TellsDocument document printed)
