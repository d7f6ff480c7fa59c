-- The steps of reading the lines of a text.
use Rattle.std.proofs.Common.{◌≡◌, ℕ, ◌+◌, Bool, true, false, List, [], ◌∷◌, Result, Ok, Err, refl}
use Rattle.std.proofs.Common.{sym, ap, ◌∙◌, subst}
use Rattle.std.specs.Prelude.{if◌then◌else◌}
use Rattle.std.specs.Str.{is_utf8, IsUtf8}
use Rattle.std.proofs.lemmas.Str.{IsUtf8-from_is_utf8, is_utf8-from_IsUtf8}
use Rattle.kr_script.specs.declared.script.Script.{Script}
use Rattle.kr_script.specs.declared.script.ScriptNo.{ScriptNo}
use Rattle.kr_script.specs.declared.script.ScriptNo.TheVariants.{Breach}
use Rattle.kr_script.specs.declared.line_error.ScriptLineError.{ScriptLineError}
use Rattle.kr_script.specs.declared.line_error.ScriptLineError.TheVariants as line_error
use Rattle.kr_script.specs.Fleets.{Fleet}
use Rattle.kr_script.specs.Rows.{words_of}
use Rattle.kr_script.specs.inner.Drafts.{Draft}
use Rattle.kr_script.specs.inner.Reading.{at_line, row_step, goes_on, fleet_at_end, answer}
use Rattle.kr_script.specs.inner.Reading.{Gives, Moves}

-- the next line
next : (n : ℕ) (d : Draft) (ls : List (List ℕ)) (line : List ℕ) (more : List (List ℕ))
    (b : Bool) → ls ≡ line ∷ more → is_utf8 line ≡ b
    → answer n d ls ≡ goes_on n (if b then row_step d (words_of line) else Err line_error.Form)
    (λ e. answer (n + 1) e more)
next n d ls line more b split utf8 = ap (answer n d) split
    ∙ ap (λ t. goes_on n (if t then row_step d (words_of line) else Err line_error.Form)
    (λ e. answer (n + 1) e more)) utf8

not_utf8 : (line : List ℕ) (b : Bool) → is_utf8 line ≡ b → (IsUtf8 line → ⊥) → b ≡ false
not_utf8 line true e none = absurd (none (IsUtf8-from_is_utf8 line e))
not_utf8 line false e none = refl

pub reading_more : (whole : Result Fleet ScriptNo) (n : ℕ) (d e : Draft) (ls : List (List ℕ))
    (line text : List ℕ) (more : List (List ℕ)) → answer n d ls ≡ whole → ls ≡ line ∷ more
    → text ≡ line → IsUtf8 line → row_step d (words_of text) ≡ Ok e
    → answer (n + 1) e more ≡ whole
reading_more whole n d e ls line text more inv split same utf8 step =
    sym (ap (λ r. goes_on n r (λ f. answer (n + 1) f more))
    (ap (λ t. row_step d (words_of t)) (sym same) ∙ step))
    ∙ sym (next n d ls line more true split (is_utf8-from_IsUtf8 line utf8)) ∙ inv

pub reading_no_text : (whole : Result Fleet ScriptNo) (n : ℕ) (d : Draft) (ls : List (List ℕ))
    (line : List ℕ) (more : List (List ℕ)) → answer n d ls ≡ whole → ls ≡ line ∷ more
    → (IsUtf8 line → ⊥) → whole ≡ Err (Breach n)
reading_no_text whole n d ls line more inv split none =
    sym inv ∙ next n d ls line more false split (not_utf8 line (is_utf8 line) refl none)

stops : (whole : Result Fleet ScriptNo) (n : ℕ) (wanted : Result Draft ScriptLineError) (new : Draft)
    (why : ScriptLineError) (T : Type 0) (rest : Draft → Result Fleet ScriptNo)
    → goes_on n wanted rest ≡ whole → Moves {T = T} wanted new (Err why)
    → Gives whole (Err (at_line n why))
stops whole n wanted new line_error.NoMemory T rest is moved = tt
stops whole n wanted new other T rest is moved = sym is ∙ ap (λ w. goes_on n w rest) moved

pub reading_stops : (whole : Result Fleet ScriptNo) (n : ℕ) (d new : Draft) (ls : List (List ℕ))
    (line text : List ℕ) (more : List (List ℕ)) (why : ScriptLineError) (T : Type 0)
    → answer n d ls ≡ whole → ls ≡ line ∷ more → text ≡ line → IsUtf8 line
    → Moves {T = T} (row_step d (words_of text)) new (Err why)
    → Gives whole (Err (at_line n why))
reading_stops whole n d new ls line text more why T inv split same utf8 moved =
    stops whole n (row_step d (words_of text)) new why T (λ e. answer (n + 1) e more)
    (ap (λ t. goes_on n (row_step d (words_of t)) (λ e. answer (n + 1) e more)) same
    ∙ sym (next n d ls line more true split (is_utf8-from_IsUtf8 line utf8)) ∙ inv) moved

pub reading_ends : (whole : Result Fleet ScriptNo) (n : ℕ) (d : Draft) (ls : List (List ℕ))
    (result : Result Script ScriptNo) → answer n d ls ≡ whole → ls ≡ []
    → Gives (fleet_at_end n d) result → Gives whole result
reading_ends whole n d ls result inv none given =
    subst (λ w. Gives w result) (sym (ap (answer n d) none) ∙ inv) given
