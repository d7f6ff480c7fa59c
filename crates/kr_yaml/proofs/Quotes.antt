-- The steps of reading a quoted scalar: over the bytes up to the next one that counts, and over
-- that.
use Rattle.std.proofs.Common.{◌≡◌, ℕ, ◌<◌, ◌≤◌, Bool, true, false, List, [], ◌∷◌, ◌++◌, length}
use Rattle.std.proofs.Common.{drop, take, Option, None, Some, refl, sym, ap, ◌∙◌, arith, suc}
use Rattle.std.proofs.lemmas.List.{append_assoc, append-nil}
use Rattle.std.specs.Prelude.{if◌then◌else◌, ◌==◌, ◌||◌, nat_lt}
use Rattle.std.specs.Option.{option_map_or}
use Rattle.kr_yaml.specs.Bytes.{behind}
use Rattle.kr_yaml.specs.inner.Stops.{stops, length_before_stop, at_stop, ascii_first}
use Rattle.kr_yaml.specs.declared.bytes.ScanStop.{ScanStop}
use Rattle.kr_yaml.specs.declared.bytes.ScanStop.TheVariants.{SingleQuote, DoubleQuote}
use Rattle.kr_yaml.specs.inner.ScalarReading.{with_front, single, single_quote, double}
use Rattle.kr_yaml.specs.inner.ScalarReading.{behind_backslash}
use Rattle.kr_yaml.specs.Written.{escape}

pub nil_bytes : {X : Type 0} (o : Option (List X × List ℕ)) → with_front [] o ≡ o
nil_bytes None = refl
nil_bytes (Some x) = refl

pub join_bytes : {X : Type 0} (xs ys : List X) (o : Option (List X × List ℕ))
    → with_front (xs ++ ys) o ≡ with_front xs (with_front ys o)
join_bytes xs ys None = refl
join_bytes xs ys (Some x) = ap (λ l. Some (l, x.1)) (append_assoc xs ys x.0)

chosen_cons : (c b : ℕ) (bs m : List ℕ) (v : Bool) → (b == c) ≡ v
    → Some m ≡ (if v then Some bs else None) → b ∷ bs ≡ c ∷ m
chosen_cons c b bs m true e h = let same : b ≡ c = grind arith in let t : bs ≡ m =
    cc in ap (λ x. x ∷ bs) same ∙ ap (λ x. c ∷ x) t
chosen_cons c b bs m false e h = cc

pub behind_cons : (c : ℕ) (bs m : List ℕ) → Some m ≡ behind c bs → bs ≡ c ∷ m
behind_cons c [] m h = cc
behind_cons c (b ∷ bs) m h = chosen_cons c b bs m (b == c) refl h

-- a reader that takes each byte at which it needn't stop
abbrev Takes : ScanStop → (List ℕ → Option (List ℕ × List ℕ)) → Type 0
Takes stop reader = (b : ℕ) (bs : List ℕ) → stops stop (b ∷ bs) ≡ false
    → reader (b ∷ bs) ≡ with_front (b ∷ []) (reader bs)

-- such a reader goes on behind the bytes up to the next stop
abbrev Jumps : ScanStop → (List ℕ → Option (List ℕ × List ℕ)) → List ℕ → Type 0
Jumps stop reader bs = reader bs ≡ with_front (take (length_before_stop (stops stop) bs) bs)
    (reader (drop (length_before_stop (stops stop) bs) bs))

jump_at : (stop : ScanStop) (reader : List ℕ → Option (List ℕ × List ℕ)) → Takes stop reader
    → (b : ℕ) (bs : List ℕ) (v : Bool) → stops stop (b ∷ bs) ≡ v → Jumps stop reader bs
    → reader (b ∷ bs) ≡ with_front
    (take (if v then 0 else suc (length_before_stop (stops stop) bs)) (b ∷ bs))
    (reader (drop (if v then 0 else suc (length_before_stop (stops stop) bs)) (b ∷ bs)))
jump_at stop reader takes b bs true e rest = sym (nil_bytes (reader (b ∷ bs)))
jump_at stop reader takes b bs false e rest =
    takes b bs e ∙ ap (with_front (b ∷ [])) rest
    ∙ sym (join_bytes (b ∷ []) (take (length_before_stop (stops stop) bs) bs)
    (reader (drop (length_before_stop (stops stop) bs) bs)))

jump : (stop : ScanStop) (reader : List ℕ → Option (List ℕ × List ℕ)) → Takes stop reader
    → (bs : List ℕ) → Jumps stop reader bs
jump stop reader takes [] = sym (nil_bytes (reader []))
jump stop reader takes (b ∷ bs) =
    jump_at stop reader takes b bs (stops stop (b ∷ bs)) refl (jump stop reader takes bs)

-- one more piece, up to a stop
piece_more : (stop : ScanStop) (reader : List ℕ → Option (List ℕ × List ℕ)) → Takes stop reader
    → (text w rest piece after : List ℕ) → reader text ≡ with_front w (reader rest)
    → piece ≡ take (length_before_stop (stops stop) rest) rest
    → after ≡ drop (length_before_stop (stops stop) rest) rest
    → reader text ≡ with_front (w ++ piece) (reader after)
piece_more stop reader takes text w rest piece after inv pe ae =
    inv ∙ ap (with_front w) (jump stop reader takes rest)
    ∙ sym (join_bytes w (take (length_before_stop (stops stop) rest) rest)
    (reader (drop (length_before_stop (stops stop) rest) rest)))
    ∙ ap (λ p. with_front (w ++ p) (reader (drop (length_before_stop (stops stop) rest) rest)))
    (sym pe)
    ∙ ap (λ a. with_front (w ++ piece) (reader a)) (sym ae)

-- single quotes
single_takes : Takes SingleQuote single
single_takes b bs e = ap (λ v. if v then single_quote bs else with_front (b ∷ []) (single bs)) e

closed_at : (b : ℕ) (bs : List ℕ) (v : Bool) → None ≡ (if v then Some bs else None)
    → (if v then with_front (39 ∷ []) (single bs) else Some ([], b ∷ bs)) ≡ Some ([], b ∷ bs)
closed_at b bs true h = cc
closed_at b bs false h = refl

single_closed : (m : List ℕ) → None ≡ behind 39 m → single_quote m ≡ Some ([], m)
single_closed [] h = refl
single_closed (b ∷ bs) h = closed_at b bs (b == 39) h

open_at : {P : Type 0} (v : Bool) (bs : List ℕ) → v ≡ true → None ≡ (if v then Some bs else None)
    → P
open_at true bs e h = cc
open_at false bs e h = cc

single_open : (after : List ℕ) → at_stop SingleQuote after ≡ true → None ≡ behind 39 after
    → single after ≡ None
single_open [] e h = refl
single_open (b ∷ bs) e h = open_at (b == 39) bs e h

pub single_refused : (text w rest piece after : List ℕ) → single text ≡ with_front w (single rest)
    → piece ≡ take (length_before_stop (stops SingleQuote) rest) rest
    → after ≡ drop (length_before_stop (stops SingleQuote) rest) rest
    → at_stop SingleQuote after ≡ true → None ≡ behind 39 after → single text ≡ None
single_refused text w rest piece after inv pe ae there none =
    piece_more SingleQuote single single_takes text w rest piece after inv pe ae
    ∙ ap (with_front (w ++ piece)) (single_open after there none)

ended : (w : List ℕ) (m : List ℕ) → with_front w (Some ([], m)) ≡ Some (w, m)
ended w m = ap (λ l. Some (l, m)) (append-nil w)

pub single_ended : (text w rest piece after more : List ℕ)
    → single text ≡ with_front w (single rest)
    → piece ≡ take (length_before_stop (stops SingleQuote) rest) rest
    → after ≡ drop (length_before_stop (stops SingleQuote) rest) rest
    → Some more ≡ behind 39 after → None ≡ behind 39 more → single text ≡ Some (w ++ piece, more)
single_ended text w rest piece after more inv pe ae some none =
    piece_more SingleQuote single single_takes text w rest piece after inv pe ae
    ∙ ap (λ a. with_front (w ++ piece) (single a)) (behind_cons 39 after more some)
    ∙ ap (with_front (w ++ piece)) (single_closed more none)
    ∙ ended (w ++ piece) more

pub single_goes_on : (text w rest piece after more next : List ℕ)
    → single text ≡ with_front w (single rest)
    → piece ≡ take (length_before_stop (stops SingleQuote) rest) rest
    → after ≡ drop (length_before_stop (stops SingleQuote) rest) rest
    → Some more ≡ behind 39 after → Some next ≡ behind 39 more
    → single text ≡ with_front ((w ++ piece) ++ (39 ∷ [])) (single next)
single_goes_on text w rest piece after more next inv pe ae some again =
    piece_more SingleQuote single single_takes text w rest piece after inv pe ae
    ∙ ap (λ a. with_front (w ++ piece) (single a)) (behind_cons 39 after more some)
    ∙ ap (λ a. with_front (w ++ piece) (single_quote a)) (behind_cons 39 more next again)
    ∙ sym (join_bytes (w ++ piece) (39 ∷ []) (single next))

-- each step takes a byte at least
pub behind_less : (c : ℕ) (bs m : List ℕ) → Some m ≡ behind c bs → length m < length bs
behind_less c bs m h = let e = ap length (behind_cons c bs m h) in omega arith

-- double quotes
or_false : (v w : Bool) → (v || w) ≡ false → (v ≡ false) × (w ≡ false)
or_false true w e = cc
or_false false w e = (refl, e)

double_takes : Takes DoubleQuote double
double_takes b bs e =
    let both = or_false (b == 34) (b == 92) e in
    ap (λ v. if v then Some ([], bs) else (if b == 92 then behind_backslash bs else with_front
    (b ∷ []) (double bs))) both.0
    ∙ ap (λ v. if v then behind_backslash bs else with_front (b ∷ []) (double bs)) both.1

two_open : {P : Type 0} (v w : Bool) (bs : List ℕ) → (v || w) ≡ true
    → None ≡ (if v then Some bs else None) → None ≡ (if w then Some bs else None) → P
two_open true w bs e h k = cc
two_open false true bs e h k = cc
two_open false false bs e h k = cc

double_open : (after : List ℕ) → at_stop DoubleQuote after ≡ true → None ≡ behind 34 after
    → None ≡ behind 92 after → double after ≡ None
double_open [] e h k = refl
double_open (b ∷ bs) e h k = two_open (b == 34) (b == 92) bs e h k

pub double_refused : (text w rest piece after : List ℕ) → double text ≡ with_front w (double rest)
    → piece ≡ take (length_before_stop (stops DoubleQuote) rest) rest
    → after ≡ drop (length_before_stop (stops DoubleQuote) rest) rest
    → at_stop DoubleQuote after ≡ true → None ≡ behind 34 after → None ≡ behind 92 after
    → double text ≡ None
double_refused text w rest piece after inv pe ae there h k =
    piece_more DoubleQuote double double_takes text w rest piece after inv pe ae
    ∙ ap (with_front (w ++ piece)) (double_open after there h k)

pub double_ended : (text w rest piece after more : List ℕ)
    → double text ≡ with_front w (double rest)
    → piece ≡ take (length_before_stop (stops DoubleQuote) rest) rest
    → after ≡ drop (length_before_stop (stops DoubleQuote) rest) rest
    → Some more ≡ behind 34 after → double text ≡ Some (w ++ piece, more)
double_ended text w rest piece after more inv pe ae some =
    piece_more DoubleQuote double double_takes text w rest piece after inv pe ae
    ∙ ap (λ a. with_front (w ++ piece) (double a)) (behind_cons 34 after more some)
    ∙ ended (w ++ piece) more

double_escape : (text w rest piece after more : List ℕ) → double text ≡ with_front w (double rest)
    → piece ≡ take (length_before_stop (stops DoubleQuote) rest) rest
    → after ≡ drop (length_before_stop (stops DoubleQuote) rest) rest
    → Some more ≡ behind 92 after → double text ≡ with_front (w ++ piece) (behind_backslash more)
double_escape text w rest piece after more inv pe ae some =
    piece_more DoubleQuote double double_takes text w rest piece after inv pe ae
    ∙ ap (λ a. with_front (w ++ piece) (double a)) (behind_cons 92 after more some)

-- a byte, and those behind it
abbrev found : ℕ → List ℕ → Option (ℕ × List ℕ)
found b m = Some (b, m)

escape_large : (b : ℕ) → 128 ≤ b → escape b ≡ None
escape_large b h = grind arith

large : (b : ℕ) (v : Bool) → nat_lt b 128 ≡ v → v ≡ false → 128 ≤ b
large b v e f = grind arith

no_escape_at : (b : ℕ) (bs : List ℕ) (v : Bool) → nat_lt b 128 ≡ v
    → None ≡ (if v then found b bs else None) → behind_backslash (b ∷ bs) ≡ None
no_escape_at b bs true e h = cc
no_escape_at b bs false e h = ap (λ o. option_map_or (λ c. with_front (c ∷ []) (double bs)) o None)
    (escape_large b (large b false e refl))

no_escape : (more : List ℕ) → None ≡ ascii_first more → behind_backslash more ≡ None
no_escape [] h = refl
no_escape (b ∷ bs) h = no_escape_at b bs (nat_lt b 128) refl h

pub double_cut : (text w rest piece after more : List ℕ) → double text ≡ with_front w (double rest)
    → piece ≡ take (length_before_stop (stops DoubleQuote) rest) rest
    → after ≡ drop (length_before_stop (stops DoubleQuote) rest) rest
    → Some more ≡ behind 92 after → None ≡ ascii_first more → double text ≡ None
double_cut text w rest piece after more inv pe ae some none = double_escape text w rest piece after
    more inv pe ae some ∙ ap (with_front (w ++ piece)) (no_escape more none)

first_at : (b c : ℕ) (bs m : List ℕ) (v : Bool) → found b m ≡ (if v then found c bs else None)
    → c ∷ bs ≡ b ∷ m
first_at b c bs m true h = sym (ap (λ o. option_map_or (λ x. x.0 ∷ x.1) o []) h)
first_at b c bs m false h = cc

pub first_cons : (b : ℕ) (bs m : List ℕ) → found b m ≡ ascii_first bs → bs ≡ b ∷ m
first_cons b [] m h = cc
first_cons b (c ∷ bs) m h = first_at b c bs m (nat_lt c 128) h

pub first_less : (b : ℕ) (bs m : List ℕ) → found b m ≡ ascii_first bs → length m < length bs
first_less b bs m h = let e = ap length (first_cons b bs m h) in omega arith

pub double_unknown : (text w rest piece after more next : List ℕ) (b : ℕ)
    → double text ≡ with_front w (double rest)
    → piece ≡ take (length_before_stop (stops DoubleQuote) rest) rest
    → after ≡ drop (length_before_stop (stops DoubleQuote) rest) rest
    → Some more ≡ behind 92 after → found b next ≡ ascii_first more → None ≡ escape b
    → double text ≡ None
double_unknown text w rest piece after more next b inv pe ae some first none =
    double_escape text w rest piece after more inv pe ae some
    ∙ ap (λ a. with_front (w ++ piece) (behind_backslash a)) (first_cons b more next first)
    ∙ ap (λ o. with_front (w ++ piece) (option_map_or (λ c. with_front (c ∷ []) (double next)) o
    None)) (sym none)

pub double_goes_on : (text w rest piece after more next : List ℕ) (b c : ℕ)
    → double text ≡ with_front w (double rest)
    → piece ≡ take (length_before_stop (stops DoubleQuote) rest) rest
    → after ≡ drop (length_before_stop (stops DoubleQuote) rest) rest
    → Some more ≡ behind 92 after → found b next ≡ ascii_first more → Some c ≡ escape b
    → double text ≡ with_front ((w ++ piece) ++ (c ∷ [])) (double next)
double_goes_on text w rest piece after more next b c inv pe ae some first meant =
    double_escape text w rest piece after more inv pe ae some
    ∙ ap (λ a. with_front (w ++ piece) (behind_backslash a)) (first_cons b more next first)
    ∙ ap (λ o. with_front (w ++ piece) (option_map_or (λ c. with_front (c ∷ []) (double next)) o
    None)) (sym meant)
    ∙ sym (join_bytes (w ++ piece) (c ∷ []) (double next))
