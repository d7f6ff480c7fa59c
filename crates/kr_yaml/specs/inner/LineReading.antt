-- How the tokens of a line are read.
use Rattle.std.specs.Prelude.{ℕ, zero, suc, ◌+◌, ◌==◌, ◌&&◌, List, [], ◌∷◌, ◌++◌, length, map}
use Rattle.std.specs.Prelude.{Option, None, Some, if◌then◌else◌, is_some}
use Rattle.std.specs.Option.{option_map, option_map_or}
use Rattle.kr_yaml.specs.Bytes.{behind, skip, over}
use Rattle.kr_yaml.specs.Data.{Data, list, mapping, items_of, members_of}
use Rattle.kr_yaml.specs.Lines.{Token, dash, pair, leaf}
use Rattle.kr_yaml.specs.inner.Stops.{opens, closes}
use Rattle.kr_yaml.specs.inner.ScalarReading.{leading_scalar, data_of, is_merge, with_front}
use Rattle.kr_yaml.specs.declared.scalar.Scalar.{Scalar}
use Rattle.kr_yaml.specs.declared.scalar.Context.TheVariants.{Line, Flow}

-- Behind a scalar of a flow list stands a comma and more scalars, or the closing bracket. Each
-- scalar takes a byte at least, so as many steps as there are bytes are enough.
abbrev pub scalars : ℕ → List ℕ → Option (List Data × List ℕ)
scalars zero bs = None
scalars (suc n) bs = option_map_or
    (λ x. with_front (data_of x.0 ∷ [])
    (option_map_or (λ rest. scalars n rest) (behind 44 (skip x.1))
    (option_map (λ rest. ([], rest)) (behind 93 (skip x.1)))))
    (leading_scalar Flow (skip bs)) None

abbrev pub list_of : List Data × List ℕ → Data × List ℕ
list_of x = (list (items_of x.0), x.1)

-- behind a `[`, and behind a `{`
unfoldable pub flow_list : List ℕ → Option (Data × List ℕ)
flow_list bs = option_map_or (λ rest. Some (list_of ([], rest))) (behind 93 bs)
    (option_map list_of (scalars (length bs) bs))

abbrev pub flow_mapping : List ℕ → Option (Data × List ℕ)
flow_mapping bs = option_map (λ rest. (mapping (members_of []), rest)) (behind 125 bs)

-- what is read, where nothing but a comment stands behind it
abbrev pub alone : Data × List ℕ → Option Data
alone x = if closes x.1 then Some x.0 else None

abbrev pub list_alone : List ℕ → Option Data
list_alone bs = option_map_or alone (flow_list bs) None

abbrev pub mapping_alone : List ℕ → Option Data
mapping_alone bs = option_map_or alone (flow_mapping bs) None

abbrev pub scalar_alone : Scalar × List ℕ → Option Data
scalar_alone x = if closes x.1 then Some (data_of x.0) else None

-- a scalar or a flow value up to the end of the line
unfoldable pub leaf_value : List ℕ → Option Data
leaf_value bs = option_map_or list_alone (behind 91 bs)
    (option_map_or mapping_alone (behind 123 bs)
    (option_map_or scalar_alone (leading_scalar Line bs) None))

-- behind the `:` of a key: nothing, or a value on the line
unfoldable pub key_value : List ℕ → Option (Option Data)
key_value bs = if over (skip bs) then Some None else option_map (λ d. Some d) (leaf_value (skip bs))

-- behind a scalar that begins a content: the end of the line, or the `:` of a key
abbrev pub member_token : ℕ → List ℕ → List ℕ → Option Token
member_token column key rest =
    if opens rest then option_map (λ value. pair column key value) (key_value rest) else None

abbrev pub key_token : ℕ → Scalar → List ℕ → Option Token
key_token column key rest = if is_merge key then None else member_token column key.text rest

abbrev pub scalar_or_key : ℕ → Scalar × List ℕ → Option Token
scalar_or_key column x = if closes x.1 then Some (leaf column (data_of x.0))
    else option_map_or (λ rest. key_token column x.0 rest) (behind 58 x.1) None

-- the last token of a line
unfoldable pub content_token : ℕ → List ℕ → Option Token
content_token column bs =
    option_map_or (λ rest. option_map (leaf column) (list_alone rest)) (behind 91 bs)
    (option_map_or (λ rest. option_map (leaf column) (mapping_alone rest)) (behind 123 bs)
    (option_map_or (scalar_or_key column) (leading_scalar Line bs) None))

-- The columns of the dashes that a line begins with, and where its last content begins. A dash
-- counts at the end or before a space; what stands behind it is a content of its own, at its own
-- column.
pub record Head : Type 0 where
  pub dashes : List ℕ
  pub column : ℕ
  pub rest : List ℕ

abbrev pub onto : List ℕ → Head → Head
onto dashes h = record { dashes = dashes ++ h.dashes; column = h.column; rest = h.rest }

abbrev pub head : ℕ → List ℕ → Head
head c [] = record { dashes = []; column = c; rest = [] }
head c (b ∷ bs) = if b == 32 then head (c + 1) bs
    else if b == 45 && opens bs then onto (c ∷ []) (head (c + 1) bs)
    else record { dashes = []; column = c; rest = b ∷ bs }

abbrev pub strip_dash : List ℕ → Option (List ℕ)
strip_dash bs = option_map_or (λ rest. if opens rest then Some rest else None) (behind 45 bs) None

abbrev pub tokens_in : Head → Option (List Token)
tokens_in h = if over h.rest then Some (map dash h.dashes)
    else option_map (λ t. map dash h.dashes ++ (t ∷ [])) (content_token h.column h.rest)

-- the tokens of a line; a tab among its leading spaces has none
unfoldable pub tokenize_line : List ℕ → Option (List Token)
tokenize_line bs = if is_some (behind 9 (skip bs)) then None else tokens_in (head 0 bs)
