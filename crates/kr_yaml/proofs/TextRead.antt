-- The lines of a text have what is read in them.
use Rattle.std.proofs.Common.{◌≡◌, ℕ, Bool, true, List, [], ◌∷◌, Option, None, Some, Result, Ok}
use Rattle.std.proofs.Common.{Err, refl, sym, ap, ◌∙◌, subst, IfOk, IfErr}
use Rattle.std.specs.Prelude.{◌&&◌}
use Rattle.std.specs.Str.Lines.{lines}
use Rattle.kr_base.specs.Numbering.{next_place}
use Rattle.kr_yaml.specs.Bytes.{is_empty}
use Rattle.kr_yaml.specs.Lines.{Token, with_line}
use Rattle.kr_yaml.specs.Texts.{HasTokens, HaveTokens, no_lines, line_without, line_with}
use Rattle.kr_yaml.specs.Texts.{text_tokens}
use Rattle.kr_yaml.specs.Reads.{Reads, ReadsText, OnlyTree, IsOnlyTree, NoTree, HasNoTree}
use Rattle.kr_yaml.specs.Laws.{ReadAsWritten}
use Rattle.kr_yaml.specs.Shown.{view}
use Rattle.kr_yaml.specs.inner.TextReading.{line_tokens, before_rest, tokens_from}
use Rattle.kr_yaml.specs.declared.tree.Tree.{Tree}
use Rattle.kr_yaml.specs.declared.yaml_no.YamlNo.{YamlNo}
use Rattle.kr_yaml.proofs.LineRead.{line_has, has_line}

abbrev Tokens : Type 0
Tokens = Result (List (ℕ × Token)) ℕ

with_tokens : (n : ℕ) (first : Bool) (line : List ℕ) (rest : List (List ℕ))
    (o : Option (List Token))
    → line_tokens first line ≡ o
    → HaveTokens (next_place n) (first && is_empty line) rest (tokens_from (next_place n)
    (first && is_empty line) rest)
    → HaveTokens n first (line ∷ rest)
    (before_rest n o (tokens_from (next_place n) (first && is_empty line) rest))
with_tokens n first line rest None e h =
    line_without n first line rest (λ ts k. let none : None ≡ Some ts = sym e
    ∙ has_line first line ts k.0 k.1 in absurd cc)
with_tokens n first line rest (Some ts) e h =
    line_with n first line rest ts (tokens_from (next_place n) (first && is_empty line) rest)
    (line_has first line ts e) h

have_tokens : (n : ℕ) (first : Bool) (rest : List (List ℕ))
    → HaveTokens n first rest (tokens_from n first rest)
have_tokens n first [] = no_lines n first
have_tokens n first (line ∷ rest) =
    with_tokens n first line rest (line_tokens first line) refl (have_tokens (next_place n)
    (first && is_empty line) rest)

without : (first : Bool) (line : List ℕ) (o : Option (List Token)) → line_tokens first line ≡ o
    → ((ts : List Token) → HasTokens first line ts → ⊥) → o ≡ None
without first line None e h = refl
without first line (Some ts) e h = absurd (h ts (line_has first line ts e))

are_read : (n : ℕ) (first : Bool) (rest : List (List ℕ)) (wanted : Tokens)
    → HaveTokens n first rest wanted
    → tokens_from n first rest ≡ wanted
are_read n first rest wanted (no_lines m f) = refl
are_read n first rest wanted (line_without m f line more h) =
    ap (λ o. before_rest m o (tokens_from (next_place m) (f && is_empty line) more))
    (without f line (line_tokens f line) refl h)
are_read n first rest wanted (line_with m f line more ts seen h k) =
    ap (λ o. before_rest m o (tokens_from (next_place m) (f && is_empty line) more))
    (has_line f line ts h.0 h.1)
    ∙ ap (with_line m ts) (are_read (next_place m) (f && is_empty line) more seen k)

pub read_as_written : ReadAsWritten
unfolding text_tokens
read_as_written text wanted = (
  λ h. subst (HaveTokens 1 true (lines text)) h (have_tokens 1 true (lines text)),
  are_read 1 true (lines text) wanted,
)

-- the answer by the tokens is the answer for the text

pub reads_text : (text : List ℕ) (result : Result Tree YamlNo) → Reads (text_tokens text) result
    → ReadsText text result
reads_text text result h =
    (text_tokens text, (read_as_written text (text_tokens text)).0 refl, h)

pub only_text : (text : List ℕ) (result : Result Tree YamlNo)
    → IfOk result (λ tree. OnlyTree (text_tokens text) (view tree))
    → IfOk result (λ tree. IsOnlyTree text (view tree))
only_text text (Ok tree) h =
    λ wanted k. subst (λ w. OnlyTree w (view tree)) ((read_as_written text wanted).1 k) h
only_text text (Err why) h = tt

pub none_text : (text : List ℕ) (result : Result Tree YamlNo)
    → IfErr result (λ why. NoTree (text_tokens text) why)
    → IfErr result (λ why. HasNoTree text why)
none_text text (Ok tree) h = tt
none_text text (Err why) h =
    λ wanted k. subst (λ w. NoTree w why) ((read_as_written text wanted).1 k) h
