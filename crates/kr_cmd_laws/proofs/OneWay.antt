-- Over what they touch and is told, steps go one way.
use Rattle.kr_cmd_messages.specs.declared.command.Command.{Command}
use Rattle.kr_cmd_messages.specs.declared.refusal.Outcome.{Outcome}
use Rattle.kr_cmd_steps.specs.Commands.{steps}
use Rattle.kr_cmd_laws.proofs.GoAlike.{GoAlike, Same, asks, borrows_dice, borrows_link, borrows_tape, draws, first_finds, first_unwraps, give_both, gives_back, keeps_rows, loads, notes, reads_tape, refuse_both, second_finds, second_unwraps, settles, takes, wraps, writes_row}
use Rattle.std.proofs.Common.{◌≡◌, ℕ, ◌+◌, ◌≤◌, ◌⊎◌, List, [], ◌∷◌, ◌++◌, length, Bool, true, false, Option, None, Some, Ok, Contains, refl, sym, ◌∙◌, ap, subst, inl, inr, append-nil, append_assoc, length-append, arith}
use Rattle.std.specs.Prelude.{◌==◌, IsSome, if◌then◌else◌}
use Rattle.std.specs.Io.KnownBytes.{Consumes, IsAtEnd}
use Rattle.std.specs.Option.{option_map}
use Rattle.std.proofs.lemmas.List.{append_cancel_left}
use Rattle.std.proofs.lemmas.List.Elements.{Contains-append_left, Contains-push}
use Rattle.kr_base.specs.Told.{Agrees}
use Rattle.kr_kms.specs.Exchanges.{Exchange, StatusCall, UnwrapCall, WrapCall}
use Rattle.kr_kms.specs.Outside.{makes, same_name}
use Rattle.kr_kms.specs.declared.seeds.SeedKey.{SeedKey}
use Rattle.kr_kms.specs.declared.world.WorldCall.TheVariants.{File, Link, RandomSource, Settled, Tape, Returned}
use Rattle.kr_cmd_messages.specs.declared.refusal.Refusal.{Refusal}
use Rattle.kr_cmd_steps.specs.Steps.{Steps, unwrap, Point, refuses, gives, StepState, RunTo, IsAt, MayBorrow, hearing, or_empty, with_asked, with_dice, with_heard, with_input, with_said, with_tape, with_told}
use Rattle.kr_cmd_steps.specs.StoreFiles.{HoldsRows, Stored, with_row}
use Rattle.kr_cmd_steps.specs.Telling.{AnswersOnce, IsAmong, IsTold}
use Rattle.kr_cmd_laws.specs.Results.{HoldAlike}
use Rattle.kr_cmd_laws.proofs.LastSteps.{Grows, IsLast, grown, past_borrow, past_dice, past_draw, past_find, past_input, past_link, past_load, past_read, past_settle, past_status, past_unwrap, past_wrap, past_write}
use Rattle.kr_cmd_laws.proofs.OneThing.{each}

-- ---- what is told to both

abbrev pub Shared : {T : Type 0} → (told one other : Option T) → Type 0
Shared None one other = Unit {0}
Shared (Some x) one other = (one ≡ Some x) × (other ≡ Some x)

shared_there : {T : Type 0} (told one other : Option T) → IsSome told → Shared told one other
    → (x : T) × (told ≡ Some x) × (one ≡ Some x) × (other ≡ Some x)
shared_there None one other t s = absurd cc
shared_there (Some x) one other t s = (x, refl, s.0, s.1)

shared_if : {T : Type 0} (q : Bool) (x a b y c d : Option T) → Shared x a b → Shared y c d
    → Shared (if q then x else y) (if q then a else c) (if q then b else d)
shared_if true x a b y c d s t = s
shared_if false x a b y c d s t = t

shared_empty : (told one other : Option (Option (List ℕ))) → Shared told one other
    → Shared (or_empty told) (or_empty one) (or_empty other)
shared_empty None one other s = tt
shared_empty (Some None) one other s = (ap or_empty s.0, ap or_empty s.1)
shared_empty (Some (Some bytes)) one other s = (ap or_empty s.0, ap or_empty s.1)

agreed : {T : Type 0} (told : Option T) (x y : T) → told ≡ Some x → Agrees told y → x ≡ y
agreed told x y e a = subst (λ t. Agrees t y) e a

-- ---- tapes with the same rows

alike_if : (q : Bool) (a b c d : Option (Option (List ℕ))) → HoldAlike a b → HoldAlike c d
    → HoldAlike (if q then a else c) (if q then b else d)
alike_if true a b c d h k = h
alike_if false a b c d h k = k

alike_empty : (one other : Option (Option (List ℕ))) → HoldAlike one other
    → HoldAlike (or_empty one) (or_empty other)
alike_empty (Some None) (Some None) h = inl refl
alike_empty (Some None) (Some (Some y)) (inl e) = absurd cc
alike_empty (Some None) (Some (Some y)) (inr (store, a, b)) = absurd a
alike_empty (Some (Some x)) (Some None) (inl e) = absurd cc
alike_empty (Some (Some x)) (Some None) (inr (store, a, b)) = absurd b
alike_empty (Some (Some x)) (Some (Some y)) h = h
alike_empty other another h = tt

alike_rows : (store : Stored) (one other : Option (List ℕ)) → HoldsRows store one
    → HoldsRows store other → HoldAlike (option_map Some one) (option_map Some other)
alike_rows store None other h k = tt
alike_rows store (Some x) None h k = tt
alike_rows store (Some x) (Some y) h k = inr (store, h, k)

-- ---- bytes that were taken

taken : (xs bytes : List ℕ) (rest : Option (List ℕ)) → Consumes (Some xs) rest bytes
    → (r : List ℕ) × (rest ≡ Some r) × (xs ≡ bytes ++ r)
taken xs bytes None c = absurd c
taken xs bytes (Some r) c = (r, refl, c)

taken_of : (told rest : Option (List ℕ)) (xs bytes : List ℕ) → told ≡ Some xs
    → Consumes told rest bytes → (r : List ℕ) × (rest ≡ Some r) × (xs ≡ bytes ++ r)
taken_of told rest xs bytes e c =
    taken xs bytes rest (subst (λ t. Consumes t rest bytes) e c)

none_left : (rest : Option (List ℕ)) (r : List ℕ) → rest ≡ Some r → IsAtEnd rest → r ≡ []
none_left rest r e d = subst IsAtEnd e d

same_front : (a b r s : List ℕ) → length a ≡ length b → a ++ r ≡ b ++ s → (b ≡ a) × (s ≡ r)
same_front [] [] r s l e = (refl, sym e)
same_front (x ∷ a) (y ∷ b) r s l e =
    let first : x ≡ y = cc in
    let rest : a ++ r ≡ b ++ s = cc in
    let t = same_front a b r s (omega (arith, l)) rest in
    ((λ i. sym first i ∷ t.0 i), t.1)
same_front other another r s l e = absurd (omega (arith, l))

-- ---- exchanges

-- all but what was unwrapped
abbrev asking : List Exchange → List Exchange
asking [] = []
asking (StatusCall name answer ∷ heard) = StatusCall name answer ∷ asking heard
asking (WrapCall name plain answer ∷ heard) = WrapCall name plain answer ∷ asking heard
asking (UnwrapCall key answer ∷ heard) = asking heard

asking_both : (a b : List Exchange) → asking (a ++ b) ≡ asking a ++ asking b
asking_both [] b = refl
asking_both (StatusCall name answer ∷ a) b =
    ap (λ es. StatusCall name answer ∷ es) (asking_both a b)
asking_both (WrapCall name plain answer ∷ a) b =
    ap (λ es. WrapCall name plain answer ∷ es) (asking_both a b)
asking_both (UnwrapCall key answer ∷ a) b = asking_both a b

-- where it is told, the same was asked so far, but for what was unwrapped
abbrev AskedAlike : (exchanges first second : Option (List Exchange)) → Type 0
AskedAlike exchanges first second = IsSome exchanges → (h : List Exchange) × (k : List Exchange)
    × (first ≡ Some h) × (second ≡ Some k) × (asking h ≡ asking k)

one_end : {T : Type 0} (told : Option T) (x y : T) → told ≡ Some x → told ≡ Some y → x ≡ y
one_end told x y e f = let g : Some x ≡ Some y = sym e ∙ f in cc

-- where one list is the end of both, the next question was the same
next_asked : (x y : Exchange) (h k more others : List Exchange)
    → ((es : List Exchange) → asking (x ∷ es) ≡ x ∷ asking es)
    → ((es : List Exchange) → asking (y ∷ es) ≡ y ∷ asking es) → asking h ≡ asking k
    → (h ++ x ∷ []) ++ more ≡ (k ++ y ∷ []) ++ others → x ≡ y
next_asked x y h k more others is_x is_y same e =
    let one = ap asking (append_assoc h (x ∷ []) more) ∙ asking_both h (x ∷ more)
    ∙ ap (λ es. asking h ++ es) (is_x more) in
    let other = ap asking (append_assoc k (y ∷ []) others) ∙ asking_both k (y ∷ others)
    ∙ ap (λ es. asking k ++ es) (is_y others) in
    let both : asking h ++ x ∷ asking more ≡ asking h ++ y ∷ asking others =
    sym one ∙ ap asking e ∙ other ∙ ap (λ es. es ++ y ∷ asking others) (sym same) in
    let rest : x ∷ asking more ≡ y ∷ asking others =
    append_cancel_left (asking h) (x ∷ asking more) (y ∷ asking others) both in
    cc

asked_more : (x : Exchange) (exchanges first second : Option (List Exchange))
    → AskedAlike exchanges first second
    → AskedAlike exchanges (hearing (x ∷ []) first) (hearing (x ∷ []) second)
asked_more x exchanges first second alike = λ some. let a = alike some in (
  a.0 ++ x ∷ [],
  a.1 ++ x ∷ [],
  ap (hearing (x ∷ [])) a.2,
  ap (hearing (x ∷ [])) a.3,
  asking_both a.0 (x ∷ []) ∙ ap (λ es. es ++ asking (x ∷ [])) a.4
      ∙ sym (asking_both a.1 (x ∷ [])),
)

those : (exchanges : Option (List Exchange)) → IsSome exchanges
    → (es : List Exchange) × (exchanges ≡ Some es)
those None some = absurd cc
those (Some es) some = (es, refl)

among : (exchanges : Option (List Exchange)) (es : List Exchange) (x : Exchange)
    → exchanges ≡ Some es → Contains es x → IsAmong exchanges x
among exchanges es x is c =
    subst (λ (o : Option (List Exchange)). IsAmong o x) (sym is) c

-- ---- one of the two ways

module _ {A : Type 0} (exchanges : Option (List Exchange)) (p : Point A) (end : StepState)
    (is_last : IsLast p) (heard : end.heard ≡ exchanges) (es : List Exchange)
    (is_told : exchanges ≡ Some es) where
  -- what is heard then is in front of all
  in_front : (h : List Exchange) (left : StepState) → left.heard ≡ Some h → Grows p end is_last left
      → (more : List Exchange) × (es ≡ h ++ more)
  in_front h left is g = let m = g h is in
      (m.0, one_end end.heard es (h ++ m.0) (heard ∙ is_told) m.1)

  was_heard : (x : Exchange) (h : List Exchange) (left : StepState) → left.heard ≡ Some (h ++ x ∷ [])
      → Grows p end is_last left → IsAmong exchanges x
  was_heard x h left is g = let m = in_front (h ++ x ∷ []) left is g in
      among exchanges es x is_told (subst (λ told. Contains told x) (sym m.1)
      (Contains-append_left (h ++ x ∷ []) m.0 x (Contains-push h x)))

  -- a source was unwrapped to these bytes
  unwrapped : (seat : ℕ) (key : SeedKey) (next : List ℕ → Steps A) (left : StepState)
      (h : List Exchange) → left.heard ≡ Some h → RunTo p end (unwrap seat key next) left
      → (bytes : List ℕ) × IsAmong exchanges (UnwrapCall key (Ok bytes))
      × (k : List Exchange) × (asking k ≡ asking h)
      × RunTo p end (next bytes) (record left { heard = Some k })
  unwrapped seat key next left h is g =
      let a = past_unwrap p end is_last seat key next left g in
      let x = UnwrapCall key (Ok a.0) in
      let now = ap (hearing (x ∷ [])) is in (
        a.0,
        was_heard x h (with_heard x left) now
            (grown p end is_last (next a.0) (with_heard x left) a.1),
        h ++ x ∷ [],
        asking_both h (x ∷ []) ∙ append-nil (asking h),
        subst (λ (l : StepState). RunTo p end (next a.0) l) (λ i. record left { heard = now i }) a.1,
      )

-- ---- both

module _ {A : Type 0} (exchanges : Option (List Exchange)) (p q : Point A) (end last : StepState)
    (p_last : IsLast p) (q_last : IsLast q) (heard : end.heard ≡ exchanges)
    (heard_too : last.heard ≡ exchanges) (once : AnswersOnce exchanges) where
  -- they are as far as each other
  abbrev pub AreAbreast : (told left right : StepState) → Type 0
  AreAbreast told left right =
      ((name : List ℕ) → Shared (told.file name) (left.file name) (right.file name))
      × ((name : List ℕ) → Shared (told.tapes name) (left.tapes name) (right.tapes name))
      × Shared told.input left.input right.input
      × ((seat : ℕ) → Shared (told.dice seat) (left.dice seat) (right.dice seat))
      × ((name : List ℕ) → HoldAlike (left.tapes name) (right.tapes name))
      × (right.said ≡ left.said)
      × AskedAlike exchanges left.heard right.heard

  -- they are so with other exchanges that were asked alike
  heard_so : (told left right : StepState) (first second : Option (List Exchange))
      → AreAbreast told left right → AskedAlike exchanges first second
      → AreAbreast told (record left { heard = first }) (record right { heard = second })
  heard_so told left right first second s asked = (s.0, s.1, s.2, s.3, s.4, s.5, asked)

  -- what both ask next is one question with one answer, behind which they are abreast still
  one_answer : (x y : Exchange) (told left right : StepState) (first second : Steps A)
      → ((es : List Exchange) → asking (x ∷ es) ≡ x ∷ asking es)
      → ((es : List Exchange) → asking (y ∷ es) ≡ y ∷ asking es) → IsSome exchanges
      → AreAbreast told left right → RunTo p end first (with_heard x left)
      → RunTo q last second (with_heard y right)
      → (x ≡ y) × IsAmong exchanges x × AreAbreast told (with_heard x left) (with_heard x right)
  one_answer x y told left right first second is_x is_y some s g k =
      let es = those exchanges some in
      let h = s.6 some in
      let now = ap (hearing (x ∷ [])) h.2 in
      let too = ap (hearing (y ∷ [])) h.3 in
      let m = grown p end p_last first (with_heard x left) g in
      let n = grown q last q_last second (with_heard y right) k in
      let c = in_front exchanges p end p_last heard es.0 es.1 (h.0 ++ x ∷ []) (with_heard x left)
      now m in
      let d = in_front exchanges q last q_last heard_too es.0 es.1 (h.1 ++ y ∷ [])
      (with_heard y right) too n in (
        next_asked x y h.0 h.1 c.0 d.0 is_x is_y h.4 (sym c.1 ∙ d.1),
        was_heard exchanges p end p_last heard es.0 es.1 x h.0 (with_heard x left) now m,
        (s.0, s.1, s.2, s.3, s.4, s.5, asked_more x exchanges left.heard right.heard s.6),
      )

  -- they come to one point, said the same, and left the same rows
  abbrev pub Meet : Type 0
  Meet = (p ≡ q) × (last.said ≡ end.said)
      × ((name : List ℕ) → HoldAlike (end.tapes name) (last.tapes name))

  meet : (here : Point A) (left right : StepState) → right.said ≡ left.said
      → ((name : List ℕ) → HoldAlike (left.tapes name) (right.tapes name))
      → IsAt p end here left → IsAt q last here right → Meet
  meet here left right said alike e f = (
    e.0 ∙ sym f.0,
    ap (λ (l : StepState). l.said) f.1 ∙ said ∙ sym (ap (λ (l : StepState). l.said) e.1),
    λ name. subst (λ (l : StepState). HoldAlike (l.tapes name) (last.tapes name)) (sym e.1)
        (subst (λ (l : StepState). HoldAlike (left.tapes name) (l.tapes name)) (sym f.1) (alike name)),
  )

  -- ---- the input

  abbrev Took : (point : Point A) (finish : StepState) (limit : ℕ) → Refusal → (List ℕ → Steps A) → StepState
      → Type 0
  Took point finish limit long next left = (bytes : List ℕ) × (rest : Option (List ℕ))
      × Consumes left.input rest bytes × (
      ((length bytes ≡ limit + 1) × IsAt point finish (refuses long) (with_input rest left))
      ⊎ ((length bytes ≤ limit) × IsAtEnd rest
      × RunTo point finish (next bytes) (with_input rest left))
      )

  -- the whole input, or its beginning
  whole_of : (point : Point A) (finish : StepState) (limit : ℕ) (long : Refusal)
      (next : List ℕ → Steps A) (left : StepState) (xs : List ℕ) → left.input ≡ Some xs
      → Took point finish limit long next left
      → ((rest : Option (List ℕ)) × (limit + 1 ≤ length xs)
      × IsAt point finish (refuses long) (with_input rest left))
      ⊎ ((length xs ≤ limit) × RunTo point finish (next xs) (with_input (Some []) left))
  whole_of point finish limit long next left xs is (bytes, rest, c, inl (more, e)) =
      let t = taken_of left.input rest xs bytes is c in
      inl (rest, omega (arith, more, ap length t.2, length-append bytes t.0), e)
  whole_of point finish limit long next left xs is (bytes, rest, c, inr (short, d, g)) =
      let t = taken_of left.input rest xs bytes is c in
      let none = none_left rest t.0 t.1 d in
      let all : xs ≡ bytes = t.2 ∙ ap (λ r. bytes ++ r) none ∙ append-nil bytes in
      inr (
        subst (λ (b : List ℕ). length b ≤ limit) (sym all) short,
        subst (λ (b : List ℕ). RunTo point finish (next b) (with_input (Some []) left)) (sym all)
            (subst (λ r. RunTo point finish (next bytes) (with_input r left))
            (t.1 ∙ ap (λ r. Some r) none) g),
      )

  by_input : (limit : ℕ) (long : Refusal) (next more : List ℕ → Steps A) (left right : StepState)
      (xs : List ℕ) → right.said ≡ left.said
      → ((name : List ℕ) → HoldAlike (left.tapes name) (right.tapes name))
      → ((rest : Option (List ℕ)) × (limit + 1 ≤ length xs)
      × IsAt p end (refuses long) (with_input rest left))
      ⊎ ((length xs ≤ limit) × RunTo p end (next xs) (with_input (Some []) left))
      → ((rest : Option (List ℕ)) × (limit + 1 ≤ length xs)
      × IsAt q last (refuses long) (with_input rest right))
      ⊎ ((length xs ≤ limit) × RunTo q last (more xs) (with_input (Some []) right))
      → (length xs ≤ limit → RunTo p end (next xs) (with_input (Some []) left)
      → RunTo q last (more xs) (with_input (Some []) right) → Meet)
      → Meet
  by_input limit long next more left right xs said alike (inl (a, x, e)) (inl (b, y, f)) go =
      meet (refuses long) (with_input a left) (with_input b right) said alike e f
  by_input limit long next more left right xs said alike (inl (a, x, e)) (inr (y, k)) go =
      absurd (omega (arith, x, y))
  by_input limit long next more left right xs said alike (inr (x, g)) (inl (b, y, f)) go =
      absurd (omega (arith, x, y))
  by_input limit long next more left right xs said alike (inr (x, g)) (inr (y, k)) go = go x g k

  -- ---- a tape that is borrowed

  lent_alike : (make : Bool) (name : List ℕ) (told left right : StepState)
      → AreAbreast told left right
      → AreAbreast (with_tape make name told) (with_tape make name left) (with_tape make name right)
  lent_alike false name told left right s = s
  lent_alike true name told left right s = (
    s.0,
    λ other. shared_if (same_name name other) (or_empty (told.tapes name))
        (or_empty (left.tapes name)) (or_empty (right.tapes name)) (told.tapes other)
        (left.tapes other) (right.tapes other)
        (shared_empty (told.tapes name) (left.tapes name) (right.tapes name) (s.1 name))
        (s.1 other),
    s.2,
    s.3,
    λ other. alike_if (same_name name other) (or_empty (left.tapes name))
        (or_empty (right.tapes name)) (left.tapes other) (right.tapes other)
        (alike_empty (left.tapes name) (right.tapes name) (s.4 name)) (s.4 other),
    s.5,
    s.6,
  )

  by_tape : (make : Bool) (absent : Refusal) (one other : Option (Option (List ℕ)))
      (x : Option (List ℕ)) → one ≡ Some x → other ≡ Some x → (next more : Steps A)
      (left right here there : StepState) → right.said ≡ left.said
      → ((name : List ℕ) → HoldAlike (left.tapes name) (right.tapes name))
      → ((make ≡ false) × Agrees one None × IsAt p end (refuses absent) left)
      ⊎ (MayBorrow one make × RunTo p end next here)
      → ((make ≡ false) × Agrees other None × IsAt q last (refuses absent) right)
      ⊎ (MayBorrow other make × RunTo q last more there)
      → (MayBorrow one make → RunTo p end next here → RunTo q last more there → Meet)
      → Meet
  by_tape make absent one other x is also next more left right here there said alike (inl (unmade, a, e))
      (inl (none, b, f)) go =
      meet (refuses absent) left right said alike e f
  by_tape make absent one other x is also next more left right here there said alike (inl (unmade, a, e))
      (inr (may, k)) go =
      absurd (let y : true ≡ false =
      sym (may (also ∙ ap (λ t. Some t) (agreed one x None is a))) ∙ unmade in cc)
  by_tape make absent one other x is also next more left right here there said alike (inr (may, g))
      (inl (unmade, b, f)) go =
      absurd (let y : true ≡ false =
      sym (may (is ∙ ap (λ t. Some t) (agreed other x None also b))) ∙ unmade in cc)
  by_tape make absent one other x is also next more left right here there said alike (inr (may, g))
      (inr (can, k)) go = go may g k

  -- ---- a tape that is written

  written_alike : (name : List ℕ) (store : Stored) (a b : Option (List ℕ))
      (told left right : StepState)
      → HoldsRows store a → HoldsRows store b → AreAbreast told left right
      → AreAbreast (with_told name None told) (with_told name a left) (with_told name b right)
  written_alike name store a b told left right h k s = (
    s.0,
    λ other. shared_if (same_name name other) None (option_map Some a) (option_map Some b)
        (told.tapes other) (left.tapes other) (right.tapes other) tt (s.1 other),
    s.2,
    s.3,
    λ other. alike_if (same_name name other) (option_map Some a) (option_map Some b)
        (left.tapes other) (right.tapes other) (alike_rows store a b h k) (s.4 other),
    s.5,
    s.6,
  )

  -- ---- all steps

  pub one_way : (s t : Steps A) → GoAlike exchanges Same s t → (told left right : StepState)
      → IsTold exchanges s told → IsTold exchanges t told → AreAbreast told left right
      → RunTo p end s left → RunTo q last t right → Meet
  one_way _ _ (loads name next more each) told left right t w s g k =
      let a = past_load p end p_last name next left g in
      let b = past_load q last q_last name more right k in
      let f = shared_there (told.file name) (left.file name) (right.file name) t.0 (s.0 name) in
      one_way (next f.0) (more f.0) (each f.0) told (with_asked (File name) left)
      (with_asked (File name) right) (t.1 f.0 f.1) (w.1 f.0 f.1) s
      (subst (λ (v : Option (List ℕ)). RunTo p end (next v) (with_asked (File name) left))
      (sym (agreed (left.file name) f.0 a.0 f.2 a.1)) a.2)
      (subst (λ (v : Option (List ℕ)). RunTo q last (more v) (with_asked (File name) right))
      (sym (agreed (right.file name) f.0 b.0 f.3 b.1)) b.2)
  one_way _ _ (takes limit long next more each) told left right t w s g k =
      let f = shared_there told.input left.input right.input t.0 s.2 in
      by_input limit long next more left right f.0 s.5 s.4
      (whole_of p end limit long next left f.0 f.2 (past_input p end p_last limit long next left g))
      (whole_of q last limit long more right f.0 f.3
      (past_input q last q_last limit long more right k))
      (λ short x y. one_way (next f.0) (more f.0) (each f.0) (with_input (Some []) told)
      (with_input (Some []) left) (with_input (Some []) right) (t.1 f.0 f.1 short)
      (w.1 f.0 f.1 short) (s.0, s.1, (refl, refl), s.3, s.4, s.5, s.6) x y)
  one_way _ _ (borrows_dice seat next more each) told left right t w s g k =
      one_way next more each told (with_asked (RandomSource seat) left)
      (with_asked (RandomSource seat) right) t w s (past_dice p end p_last seat next left g)
      (past_dice q last q_last seat more right k)
  one_way _ _ (borrows_tape name access absent next more each) told left right t w s g k =
      let f = shared_there (told.tapes name) (left.tapes name) (right.tapes name) t.0 (s.1 name) in
      let lent = with_asked (Tape name access) left in
      let lent_too = with_asked (Tape name access) right in
      by_tape (makes access) absent (left.tapes name) (right.tapes name) f.0 f.2 f.3 next more lent
      lent_too
      (with_tape (makes access) name lent) (with_tape (makes access) name lent_too) s.5 s.4
      (past_borrow p end p_last name access absent next left g)
      (past_borrow q last q_last name access absent more right k)
      (λ may x y. one_way next more each (with_tape (makes access) name told)
      (with_tape (makes access) name lent) (with_tape (makes access) name lent_too)
      (t.1 (λ none. may (f.2 ∙ sym f.1 ∙ none))) (w.1 (λ none. may (f.2 ∙ sym f.1 ∙ none)))
      (lent_alike (makes access) name told lent lent_too s) x y)
  one_way _ _ (reads_tape object name next more each) told left right t w s g k =
      let a = past_read p end p_last object name next left g in
      let b = past_read q last q_last object name more right k in
      let f = shared_there (told.tapes name) (left.tapes name) (right.tapes name) t.0 (s.1 name) in
      let is : f.0 ≡ Some a.0 = agreed (left.tapes name) f.0 (Some a.0) f.2 a.1 in
      let also : f.0 ≡ Some b.0 = agreed (right.tapes name) f.0 (Some b.0) f.3 b.1 in
      let there : told.tapes name ≡ Some (Some a.0) = f.1 ∙ ap (λ o. Some o) is in
      one_way (next a.0) (more a.0) (each a.0) told left right (t.1 a.0 there) (w.1 a.0 there) s
      a.2
      (subst (λ (v : List ℕ). RunTo q last (more v) right) (one_end f.0 b.0 a.0 also is) b.2)
  one_way _ _ (writes_row object name store row next more each) told left right t w s g k =
      let a = past_write p end p_last object name store row next left g in
      let b = past_write q last q_last object name store row more right k in
      one_way next more each (with_told name None told) (with_told name a.0 left)
      (with_told name b.0 right) t w
      (written_alike name (with_row row store) a.0 b.0 told left right a.1 b.1 s) a.2 b.2
  one_way _ _ (keeps_rows name store next more each) told left right t w s (a, x, g) (b, y, k) =
      one_way next more each (with_told name None told) (with_told name a left)
      (with_told name b right) t w (written_alike name store a b told left right x y s) g k
  one_way _ _ (settles object name next more each) told left right t w s g k =
      one_way next more each told (with_asked (Settled name) left) (with_asked (Settled name) right)
      t w s (past_settle p end p_last object name next left g)
      (past_settle q last q_last object name more right k)
  one_way _ _ (gives_back name next more each) told left right t w s g k =
      one_way next more each told (with_asked (Returned name) left)
      (with_asked (Returned name) right) t w s g k
  one_way _ _ (draws seat size next more each) told left right t w s g k =
      let a = past_draw p end p_last seat size next left g in
      let b = past_draw q last q_last seat size more right k in
      let f = shared_there (told.dice seat) (left.dice seat) (right.dice seat) t.0 (s.3 seat) in
      let u = taken_of (left.dice seat) a.1 f.0 a.0 f.2 a.2 in
      let v = taken_of (right.dice seat) b.1 f.0 b.0 f.3 b.2 in
      let same = same_front a.0 b.0 u.0 v.0 (a.3 ∙ sym b.3) (sym u.2 ∙ v.2) in
      let drawn : told.dice seat ≡ Some (a.0 ++ u.0) = f.1 ∙ ap (λ o. Some o) u.2 in
      one_way (next a.0) (more a.0) (each a.0) (with_dice seat (Some u.0) told)
      (with_dice seat a.1 left) (with_dice seat a.1 right) (t.1 a.0 u.0 drawn a.3)
      (w.1 a.0 u.0 drawn a.3) (
        s.0,
        s.1,
        s.2,
        λ other. shared_if (seat == other) (Some u.0) a.1 a.1 (told.dice other) (left.dice other)
            (right.dice other) (u.1, u.1) (s.3 other),
        s.4,
        s.5,
        s.6,
      )
      a.4
      (subst (λ (x : List ℕ). RunTo q last (more x) (with_dice seat a.1 right)) same.0
      (subst (λ o. RunTo q last (more b.0) (with_dice seat o right))
      (v.1 ∙ ap (λ o. Some o) same.1 ∙ sym u.1) b.4))
  one_way _ _ (borrows_link seat plugin program next more each) told left right t w s g k =
      one_way next more each told (with_asked (Link seat plugin program) left)
      (with_asked (Link seat plugin program) right) t w s
      (past_link p end p_last seat plugin program next left g)
      (past_link q last q_last seat plugin program more right k)
  one_way _ _ (asks seat plugin next more each) told left right t w s g k =
      let a = past_status p end p_last seat plugin next left g in
      let b = past_status q last q_last seat plugin more right k in
      let x = StatusCall plugin (Ok a.0) in
      let y = StatusCall plugin (Ok b.0) in
      let one = one_answer x y told left right (next a.0) (more b.0) (λ es. refl) (λ es. refl) t.0
      s a.1 b.1 in
      let same : b.0 ≡ a.0 = (let e : x ≡ y = one.0 in cc) in
      one_way (next a.0) (more a.0) (each a.0) told (with_heard x left) (with_heard x right)
      (t.1 a.0 one.1) (w.1 a.0 one.1) one.2 a.1
      (subst (λ v. RunTo q last (more v) (with_heard (StatusCall plugin (Ok v)) right)) same b.1)
  one_way _ _ (wraps seat plugin plain next more each) told left right t w s g k =
      let a = past_wrap p end p_last seat plugin plain next left g in
      let b = past_wrap q last q_last seat plugin plain more right k in
      let x = WrapCall plugin plain (Ok a.0) in
      let y = WrapCall plugin plain (Ok b.0) in
      let one = one_answer x y told left right (next a.0) (more b.0) (λ es. refl) (λ es. refl) t.0
      s a.1 b.1 in
      let same : b.0 ≡ a.0 = (let e : x ≡ y = one.0 in cc) in
      one_way (next a.0) (more a.0) (each a.0) told (with_heard x left) (with_heard x right)
      (t.1 a.0 one.1) (w.1 a.0 one.1) one.2 a.1
      (subst (λ v. RunTo q last (more v) (with_heard (WrapCall plugin plain (Ok v)) right)) same b.1)
  one_way _ _ (first_unwraps seat key next other each) told left right t w s g k =
      let es = those exchanges t.0 in
      let h = s.6 t.0 in
      let a = unwrapped exchanges p end p_last heard es.0 es.1 seat key next left h.0 h.2 g in
      one_way (next a.0) other (each a.0 a.1) told (record left { heard = Some a.2 }) right
      (t.1 a.0 a.1) w (heard_so told left right (Some a.2) right.heard s
      (λ some. (a.2, h.1, refl, h.3, a.3 ∙ h.4))) a.4 k
  one_way _ _ (second_unwraps seat key other more each) told left right t w s g k =
      let es = those exchanges w.0 in
      let h = s.6 w.0 in
      let b = unwrapped exchanges q last q_last heard_too es.0 es.1 seat key more right h.1 h.3 k in
      one_way other (more b.0) (each b.0 b.1) told left (record right { heard = Some b.2 }) t
      (w.1 b.0 b.1) (heard_so told left right left.heard (Some b.2) s
      (λ some. (h.0, b.2, h.2, refl, h.4 ∙ sym b.3))) g b.4
  one_way _ _ (notes text next more each) told left right t w s g k =
      one_way next more each told (with_said text left) (with_said text right) t w
      (s.0, s.1, s.2, s.3, s.4, refl, s.6) g k
  one_way _ _ (first_finds C P next other each) told left right t w s g k =
      let a = past_find p end p_last C P next left g in
      one_way (next a.0) other (each a.0 a.1) told left right (t a.0 a.1) w s a.2 k
  one_way _ _ (second_finds C P other more each) told left right t w s g k =
      let b = past_find q last q_last C P more right k in
      one_way other (more b.0) (each b.0 b.1) told left right t (w b.0 b.1) s g b.2
  one_way _ _ (refuse_both why) told left right t w s g k =
      meet (refuses why) left right s.5 s.4 g k
  one_way _ _ (give_both x y same) told left right t w s g k = meet (gives x) left right s.5 s.4 g
      (subst (λ z. IsAt q last (gives z) right) (sym same) k)

-- ---- a command

module _ (exchanges : Option (List Exchange)) (p q : Point Outcome) (end last : StepState)
    (p_last : IsLast p) (q_last : IsLast q) (heard : end.heard ≡ exchanges)
    (heard_too : last.heard ≡ exchanges) (once : AnswersOnce exchanges) where
  pub command_way : (command : Command) (told left right : StepState)
      → IsTold exchanges (steps command) told
      → AreAbreast exchanges p q end last p_last q_last heard heard_too once told left right
      → RunTo p end (steps command) left → RunTo q last (steps command) right
      → Meet exchanges p q end last p_last q_last heard heard_too once
  command_way command told left right t s g k =
      one_way exchanges p q end last p_last q_last heard heard_too once (steps command)
      (steps command) (each exchanges once command) told left right t t s g k
