-- The statement that words write behind what was said: read exactly where it is written.
use Rattle.std.proofs.Common.{◌≡◌, ℕ, ◌<◌, Bool, true, false, List, [], ◌∷◌, length, map}
use Rattle.std.proofs.Common.{Option, None, Some, refl, sym, ap, ◌∙◌, subst, codes}
use Rattle.std.specs.Prelude.{◌&&◌, if◌then◌else◌, is_some, nat_lt, option_and_then}
use Rattle.std.specs.Option.{option_map}
use Rattle.std.proofs.lemmas.Bool.{lt-ltb, ltb-true}
use Rattle.kr_base.specs.Rules.{is_path, is_resource}
use Rattle.kr_script.specs.declared.script.ScriptLine.{ScriptLine}
use Rattle.kr_script.specs.declared.script.ScriptLine.TheVariants.{Put, Get, Delete, Rewrite, Reload}
use Rattle.kr_script.specs.declared.script.ScriptLine.TheVariants.{Refresh, Join, Leave}
use Rattle.kr_script.specs.declared.statement.Statement.{Statement}
use Rattle.kr_script.specs.declared.statement.Statement.TheVariants as statement
use Rattle.kr_script.specs.declared.statement.Keyword.{Keyword}
use Rattle.kr_script.specs.declared.statement.Keyword.TheVariants as keyword
use Rattle.kr_script.specs.Rows.{Row}
use Rattle.kr_script.specs.Statements.{replica_name, data_of, WritesStatement, WritesLine}
use Rattle.kr_script.specs.Rules.{are_distinct, is_line}
use Rattle.kr_script.specs.inner.Drafts.{Draft, word_of, replica_number, one_word, two_words, is_empty}
use Rattle.kr_script.specs.inner.Drafts.{three_words, may_be_replica, may_be_worker, replica_in}
use Rattle.kr_script.specs.inner.Drafts.{worker_in, put_in}
use Rattle.kr_script.specs.inner.Drafts.{leave_in, line_in, line_of_worker, said_behind, head_of}
use Rattle.kr_script.specs.inner.Drafts.{said_by, said, statement_of, keyword_of, is_version}
use Rattle.kr_script.proofs.Lists.{none_some, if_only, if_some, then_some, map_some, same_text}
use Rattle.kr_script.proofs.Keys.{Replicas, keyword_is, one_word_is, two_words_are, no_words}
use Rattle.kr_script.proofs.Keys.{three_words_are, place_is, place_at}

-- what holds of a statement that may come next
abbrev pub MayCome : Draft → Statement → Type 0
MayCome draft statement.Head = draft.begun ≡ false
MayCome draft (statement.Replica name file) =
    (draft.begun ≡ true) × (may_be_replica draft name file ≡ true)
MayCome draft (statement.Worker name replica) =
    (draft.begun ≡ true) × (may_be_worker draft name ≡ true) × (replica < length draft.replicas)
MayCome draft (statement.Line line) =
    (draft.begun ≡ true) × (is_some draft.last ≡ true)
    × (is_line (length draft.replicas) line ≡ true)

abbrev pub IsNext : Draft → Row → Statement → Type 0
IsNext draft row said = MayCome draft said × WritesStatement draft.replicas row said

-- ---- what was read is written

abbrev IsLineOf : Replicas → Row → ScriptLine → Type 0
IsLineOf rs row line = WritesLine rs row line × (is_line (length rs) line ≡ true)

put_is : (rs : Replicas) (row : Row) (line : ScriptLine)
    → line_in rs keyword.Put row ≡ Some line → IsLineOf rs (codes "put" ∷ row) line
put_is rs row line e =
    let (words, there, put) = then_some put_in (three_words row) line e in
    let (rules, read) = if_some (is_resource words.0 && is_path words.1)
    (option_map (Put words.0 words.1) (data_of words.2)) line put in
    let (plain, stands, is) = map_some (Put words.0 words.1) (data_of words.2) line read in
    subst (IsLineOf rs (codes "put" ∷ row)) is
    ((words.2, ap (λ r. codes "put" ∷ r) (three_words_are row words there), stands), rules)

-- a line of a path
path_line : (rs : Replicas) (row : Row) (line : ScriptLine) (word : List ℕ)
    (say : List ℕ → ScriptLine)
    → ((path : List ℕ) → word ∷ row ≡ word ∷ (path ∷ []) → is_path path ≡ true
    → IsLineOf rs (word ∷ row) (say path))
    → option_and_then (λ (path : List ℕ). if is_path path then Some (say path) else None) (one_word row)
    ≡ Some line
    → IsLineOf rs (word ∷ row) line
path_line rs row line word say writes e =
    let (path, there, made) = then_some
    (λ (path : List ℕ). if is_path path then Some (say path) else None) (one_word row) line e in
    let (rule, is) = if_only (is_path path) (say path) line made in
    subst (IsLineOf rs (word ∷ row)) is
    (writes path (ap (λ r. word ∷ r) (one_word_is row path there)) rule)

-- a line of its word alone
bare_line : (rs : Replicas) (row : Row) (line : ScriptLine) (word : List ℕ) (said : ScriptLine)
    → (word ∷ row ≡ word ∷ [] → IsLineOf rs (word ∷ row) said)
    → (if is_empty row then Some said else None) ≡ Some line
    → IsLineOf rs (word ∷ row) line
bare_line rs row line word said writes e =
    let (none, is) = if_only (is_empty row) said line e in
    subst (IsLineOf rs (word ∷ row)) is (writes (ap (λ r. word ∷ r) (no_words row none)))

-- a line of a replica and a file
file_line : (rs : Replicas) (row : Row) (line : ScriptLine) (word : List ℕ)
    (say : ℕ → List ℕ → ScriptLine)
    → ((number : ℕ) (file : List ℕ) → word ∷ row ≡ word ∷ (replica_name rs number ∷ (file ∷ []))
    → nat_lt number (length rs) ≡ true → IsLineOf rs (word ∷ row) (say number file))
    → option_and_then (λ (words : List ℕ × List ℕ). option_map (λ n. say n words.1) (replica_number rs words.0))
    (two_words row) ≡ Some line
    → IsLineOf rs (word ∷ row) line
file_line rs row line word say writes e =
    let (words, there, made) = then_some (λ (words : List ℕ × List ℕ). option_map (λ n. say n words.1)
    (replica_number rs words.0)) (two_words row) line e in
    let (number, found, is) = map_some (λ n. say n words.1) (replica_number rs words.0) line made in
    let place = place_is rs words.0 number found in
    subst (IsLineOf rs (word ∷ row)) is (writes number words.1
    (ap (λ r. word ∷ r) (two_words_are row words there)
    ∙ ap (λ name. word ∷ (name ∷ (words.1 ∷ []))) (sym place.1))
    (lt-ltb number (length rs) place.0))

leave_is : (rs : Replicas) (row : Row) (line : ScriptLine)
    → line_in rs keyword.Leave row ≡ Some line → IsLineOf rs (codes "leave" ∷ row) line
leave_is rs row line e =
    let (name, there, leave) = then_some (leave_in rs) (one_word row) line e in
    let (number, found, is) = map_some Leave (replica_number rs name) line leave in
    let place = place_is rs name number found in
    subst (IsLineOf rs (codes "leave" ∷ row)) is (
      ap (λ r. codes "leave" ∷ r) (one_word_is row name there)
          ∙ ap (λ n. codes "leave" ∷ (n ∷ [])) (sym place.1),
      lt-ltb number (length rs) place.0,
    )

line_is : (rs : Replicas) (key : Keyword) (row : Row) (line : ScriptLine)
    → line_in rs key row ≡ Some line → IsLineOf rs (word_of key ∷ row) line
line_is rs keyword.Put row line e = put_is rs row line e
line_is rs keyword.Get row line e =
    path_line rs row line (codes "get") Get (λ path is rule. (is, rule)) e
line_is rs keyword.Delete row line e =
    path_line rs row line (codes "delete") Delete (λ path is rule. (is, rule)) e
line_is rs keyword.Rewrite row line e =
    bare_line rs row line (codes "rewrite") Rewrite (λ is. (is, refl)) e
line_is rs keyword.Reload row line e =
    file_line rs row line (codes "reload") Reload (λ number file is lt. (is, lt)) e
line_is rs keyword.Refresh row line e =
    bare_line rs row line (codes "refresh") Refresh (λ is. (is, refl)) e
line_is rs keyword.Join row line e =
    file_line rs row line (codes "join") Join (λ number file is lt. (is, lt)) e
line_is rs keyword.Leave row line e = leave_is rs row line e
line_is rs other row line e = absurd (none_some line e)

worker_line : (d : Draft) (key : Keyword) (row : Row) (st : Statement) → d.begun ≡ true
    → line_of_worker d key row ≡ Some st → IsNext d (word_of key ∷ row) st
worker_line d key row st begun e =
    let (some, mapped) = if_some (is_some d.last)
    (option_map statement.Line (line_in d.replicas key row)) st e in
    let (line, read, is) = map_some statement.Line (line_in d.replicas key row) st mapped in
    let lines = line_is d.replicas key row line read in
    subst (IsNext d (word_of key ∷ row)) is ((begun, some, lines.1), lines.0)

behind_is : (d : Draft) (key : Keyword) (row : Row) (st : Statement) → d.begun ≡ true
    → said_behind d key row ≡ Some st → IsNext d (word_of key ∷ row) st
behind_is d keyword.Fleet row st begun e = absurd (none_some st e)
behind_is d keyword.Replica row st begun e =
    let (words, there, made) = then_some (replica_in d) (two_words row) st e in
    let (may, is) = if_only (may_be_replica d words.0 words.1)
    (statement.Replica words.0 words.1) st made in
    subst (IsNext d (codes "replica" ∷ row)) is
    ((begun, may), ap (λ r. codes "replica" ∷ r) (two_words_are row words there))
behind_is d keyword.Worker row st begun e =
    let (words, there, made) = then_some (worker_in d) (two_words row) st e in
    let (may, mapped) = if_some (may_be_worker d words.0)
    (option_map (statement.Worker words.0) (replica_number d.replicas words.1)) st made in
    let (number, found, is) = map_some (statement.Worker words.0) (replica_number d.replicas words.1)
    st mapped in
    let place = place_is d.replicas words.1 number found in
    subst (IsNext d (codes "worker" ∷ row)) is (
      (begun, may, place.0),
      ap (λ r. codes "worker" ∷ r) (two_words_are row words there)
          ∙ ap (λ n. codes "worker" ∷ (words.0 ∷ (n ∷ []))) (sym place.1),
    )
behind_is d other row st begun e = worker_line d other row st begun e

head_is : (d : Draft) (key : Keyword) (row : Row) (st : Statement) → d.begun ≡ false
    → head_of key row ≡ Some st → IsNext d (word_of key ∷ row) st
head_is d keyword.Fleet row st begun e =
    let (word, there, made) = then_some
    (λ (w : List ℕ). if is_version w then Some statement.Head else None) (one_word row) st e in
    let (version, is) = if_only (is_version word) statement.Head st made in
    subst (IsNext d (codes "fleet" ∷ row)) is (
      begun,
      ap (λ r. codes "fleet" ∷ r) (one_word_is row word there)
          ∙ ap (λ w. codes "fleet" ∷ (w ∷ [])) (same_text word (codes "1") version),
    )
head_is d other row st begun e = absurd (none_some st e)

by_begun : (d : Draft) (key : Keyword) (row : Row) (st : Statement) (b : Bool) → d.begun ≡ b
    → (if b then said_behind d key row else head_of key row) ≡ Some st
    → IsNext d (word_of key ∷ row) st
by_begun d key row st true begun e = behind_is d key row st begun e
by_begun d key row st false begun e = head_is d key row st begun e

pub reads_next : (d : Draft) (row : Row) (st : Statement) → statement_of d row ≡ Some st
    → IsNext d row st
reads_next d [] st e = absurd (none_some st e)
reads_next d (word ∷ row) st e =
    let (key, there, more) = then_some (λ k. said_by d k row) (keyword_of word) st e in
    subst (λ w. IsNext d (w ∷ row) st) (sym (keyword_is word key there))
    (by_begun d key row st d.begun refl more)

-- ---- what is written is read

if_true : {T : Type 0} (b : Bool) (x : T) → b ≡ true → (if b then Some x else None) ≡ Some x
if_true b x e = ap (λ c. if c then Some x else None) e

if_then : {T : Type 0} (b : Bool) (o : Option T) (x : T) → b ≡ true → o ≡ Some x
    → (if b then o else None) ≡ Some x
if_then b o x e h = ap (λ c. if c then o else None) e ∙ h

-- the keyword of a line, which is read as it is written
abbrev key_of : ScriptLine → Keyword
key_of (Put resource path plain) = keyword.Put
key_of (Get path) = keyword.Get
key_of (Delete path) = keyword.Delete
key_of Rewrite = keyword.Rewrite
key_of Refresh = keyword.Refresh
key_of (Reload replica file) = keyword.Reload
key_of (Join replica file) = keyword.Join
key_of (Leave replica) = keyword.Leave

known : (line : ScriptLine) → keyword_of (word_of (key_of line)) ≡ Some (key_of line)
known Rewrite = refl
known other = refl

behind : (line : ScriptLine) (d : Draft) (rest : Row)
    → said_behind d (key_of line) rest ≡ line_of_worker d (key_of line) rest
behind Rewrite d rest = refl
behind other d rest = refl

-- the words behind the keyword of a line that is written
abbrev Reads : Replicas → Row → ScriptLine → Type 0
Reads rs row line = (rest : Row) × (row ≡ word_of (key_of line) ∷ rest)
    × (line_in rs (key_of line) rest ≡ Some line)

line_read : (rs : Replicas) (row : Row) (line : ScriptLine)
    → are_distinct (map (λ replica. replica.0) rs) ≡ true
    → WritesLine rs row line → is_line (length rs) line ≡ true → Reads rs row line
line_read rs row (Put resource path plain) apart (word, is, stands) rule = (
  resource ∷ (path ∷ (word ∷ [])),
  is,
  if_then (is_resource resource && is_path path)
      (option_map (Put resource path) (data_of word)) (Put resource path plain) rule
      (ap (option_map (Put resource path)) stands),
)
line_read rs row (Get path) apart is rule =
    (path ∷ [], is, if_true (is_path path) (Get path) rule)
line_read rs row (Delete path) apart is rule =
    (path ∷ [], is, if_true (is_path path) (Delete path) rule)
line_read rs row Rewrite apart is rule = ([], is, refl)
line_read rs row Refresh apart is rule = ([], is, refl)
line_read rs row (Reload replica file) apart is rule = (
  replica_name rs replica ∷ (file ∷ []),
  is,
  ap (option_map (λ n. Reload n file))
      (place_at rs replica apart (ltb-true replica (length rs) rule)),
)
line_read rs row (Join replica file) apart is rule = (
  replica_name rs replica ∷ (file ∷ []),
  is,
  ap (option_map (λ n. Join n file))
      (place_at rs replica apart (ltb-true replica (length rs) rule)),
)
line_read rs row (Leave replica) apart is rule = (
  replica_name rs replica ∷ [],
  is,
  ap (option_map Leave) (place_at rs replica apart (ltb-true replica (length rs) rule)),
)

by_key : (d : Draft) (key : Keyword) (rest : Row) (st : Statement)
    → keyword_of (word_of key) ≡ Some key → d.begun ≡ true
    → said_behind d key rest ≡ Some st → statement_of d (word_of key ∷ rest) ≡ Some st
by_key d key rest st known begun e =
    ap (option_and_then (λ k. said_by d k rest)) known
    ∙ ap (λ b. if b then said_behind d key rest else head_of key rest) begun ∙ e

pub next_reads : (d : Draft) (row : Row) (st : Statement)
    → are_distinct (map (λ replica. replica.0) d.replicas) ≡ true → IsNext d row st
    → statement_of d row ≡ Some st
next_reads d row statement.Head apart (begun, is) =
    ap (statement_of d) is
    ∙ ap (λ b. if b then said_behind d keyword.Fleet (codes "1" ∷ [])
    else head_of keyword.Fleet (codes "1" ∷ [])) begun
next_reads d row (statement.Replica name file) apart ((begun, may), is) =
    ap (statement_of d) is
    ∙ by_key d keyword.Replica (name ∷ (file ∷ [])) (statement.Replica name file) refl begun
    (if_true (may_be_replica d name file) (statement.Replica name file) may)
next_reads d row (statement.Worker name replica) apart ((begun, may, there), is) =
    ap (statement_of d) is
    ∙ by_key d keyword.Worker (name ∷ (replica_name d.replicas replica ∷ []))
    (statement.Worker name replica) refl begun
    (if_then (may_be_worker d name)
    (option_map (statement.Worker name) (replica_number d.replicas (replica_name d.replicas replica)))
    (statement.Worker name replica) may
    (ap (option_map (statement.Worker name)) (place_at d.replicas replica apart there)))
next_reads d row (statement.Line line) apart ((begun, some, rule), is) =
    let (rest, split, reads) = line_read d.replicas row line apart is rule in
    ap (statement_of d) split
    ∙ by_key d (key_of line) rest (statement.Line line) (known line) begun
    (behind line d rest
    ∙ if_then (is_some d.last) (option_map statement.Line (line_in d.replicas (key_of line) rest))
    (statement.Line line) some (ap (option_map statement.Line) reads))
