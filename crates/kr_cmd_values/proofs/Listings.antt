-- Texts that are written a piece at a time.
use Rattle.std.proofs.Common.{◌≡◌, ℕ, suc, ◌+◌, ◌<◌, ◌≤◌, List, [], ◌∷◌, ◌++◌, length, get_or, drop, sym, ◌∙◌, ap, append_assoc, append-nil, drop-cons, map, add-one}
use Rattle.std.specs.Prelude.{codes}
use Rattle.std.specs.List.{concat}
use Rattle.std.proofs.lemmas.List.{drop_all}
use Rattle.kr_config.specs.declared.settings.Entry.{Entry}
use Rattle.kr_config.specs.declared.who.Who.{Who}
use Rattle.kr_config.specs.Kept.{entry_lists, rows_of}
use Rattle.kr_plan.specs.declared.moves.Move.{Move}
use Rattle.kr_cmd_messages.specs.Texts.{line}
use Rattle.kr_cmd_steps.specs.Check.{provider_text, with_commas, entry_line, lines_from, provider_lines}
use Rattle.kr_cmd_steps.specs.PlanLines.{move_text, move_lines}

pub entries_more : (entries : List Entry) (i n : ℕ) (e : Entry) → i < length entries
    → e ≡ get_or entries i e → lines_from n (rows_of (drop i entries)) ≡ entry_line n (entry_lists e)
    ++ lines_from (n + 1) (rows_of (drop (i + 1) entries))
entries_more entries i n e h is = ap (λ l. lines_from n (rows_of l)) (drop-cons entries i e h)
    ∙ ap (λ x. entry_line n (entry_lists x) ++ lines_from (suc n) (rows_of (drop (suc i) entries)))
    (sym is)
    ∙ ap (λ k. entry_line n (entry_lists e) ++ lines_from k (rows_of (drop (suc i) entries)))
    (sym (add-one n))
    ∙ ap (λ k. entry_line n (entry_lists e) ++ lines_from (n + 1) (rows_of (drop k entries)))
    (sym (add-one i))

pub entries_all : {text whole : List ℕ} (entries : List Entry) (i n : ℕ) → length entries ≤ i → text
    ++ lines_from n (rows_of (drop i entries)) ≡ whole → text ≡ whole
entries_all {text} entries i n h e = sym (append-nil text)
    ∙ ap (λ l. text ++ lines_from n (rows_of l)) (sym (drop_all i entries h)) ∙ e

-- one piece for each item
module _ {T : Type 0} (f : T → List ℕ) where
  pub concat_more : (xs : List T) (i : ℕ) (x : T) → i < length xs → x ≡ get_or xs i x
      → concat (map f (drop i xs)) ≡ f x ++ concat (map f (drop (i + 1) xs))
  concat_more xs i x h is = ap (λ l. concat (map f l)) (drop-cons xs i x h)
      ∙ ap (λ y. f y ++ concat (map f (drop (suc i) xs))) (sym is)
      ∙ ap (λ k. f x ++ concat (map f (drop k xs))) (sym (add-one i))

  pub concat_all : {text whole : List ℕ} (xs : List T) (i : ℕ) → length xs ≤ i → text
      ++ concat (map f (drop i xs)) ≡ whole → text ≡ whole
  concat_all {text} xs i h e = sym (append-nil text)
      ∙ ap (λ l. text ++ concat (map f l)) (sym (drop_all i xs h)) ∙ e

pub lines_more : (providers : List Who) (i : ℕ) (who : Who) → i < length providers
    → who ≡ get_or providers i who
    → provider_lines (drop i providers) ≡ (provider_text who ++ codes "\n")
    ++ provider_lines (drop (i + 1) providers)
lines_more providers i who h is =
    concat_more (λ who. provider_text who ++ codes "\n") providers i who h is

pub lines_all : {text whole : List ℕ} (providers : List Who) (i : ℕ) → length providers ≤ i → text
    ++ provider_lines (drop i providers) ≡ whole → text ≡ whole
lines_all providers i h e = concat_all (λ who. provider_text who ++ codes "\n") providers i h e

pub moves_more : (moves : List Move) (i : ℕ) (step : Move) → i < length moves
    → step ≡ get_or moves i step
    → move_lines (drop i moves) ≡ line (move_text step) ++ move_lines (drop (i + 1) moves)
moves_more moves i step h is = concat_more (λ own. line (move_text own)) moves i step h is

pub moves_all : {text whole : List ℕ} (moves : List Move) (i : ℕ) → length moves ≤ i → text
    ++ move_lines (drop i moves) ≡ whole → text ≡ whole
moves_all moves i h e = concat_all (λ own. line (move_text own)) moves i h e

-- the pieces behind the first, each with its comma
abbrev pub tail : List (List ℕ) → List ℕ
tail [] = []
tail (x ∷ xs) = (0x2C ∷ x) ++ tail xs

pub with_tail : (x : List ℕ) (xs : List (List ℕ)) → with_commas (x ∷ xs) ≡ x ++ tail xs
with_tail x [] = sym (append-nil x)
with_tail x (y ∷ ys) = ap (λ l. x ++ (0x2C ∷ l)) (with_tail y ys)

module _ {T : Type 0} (f : T → List ℕ) where
  -- the first was written, and then the others
  pub tail_all : {first now : List ℕ} (text : List ℕ) (x : T) (xs all : List T) (i : ℕ)
      → length xs ≤ i → now ++ tail (map f (drop i xs)) ≡ first ++ tail (map f xs) → first ≡ text
      ++ f x → all ≡ x ∷ xs → now ≡ text ++ with_commas (map f all)
  tail_all {first} {now} text x xs all i h e begun is = sym (append-nil now)
      ∙ ap (λ l. now ++ tail (map f l)) (sym (drop_all i xs h)) ∙ e
      ∙ ap (λ t. t ++ tail (map f xs)) begun ∙ append_assoc text (f x) (tail (map f xs))
      ∙ ap (λ t. text ++ t) (sym (with_tail (f x) (map f xs)))
      ∙ ap (λ l. text ++ with_commas (map f l)) (sym is)
