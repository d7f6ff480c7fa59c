-- What comes of a question, and of the reply to a request.
use Rattle.std.proofs.Common.{true, false, ◌≡◌, ◌≤◌, ℕ, List, length, take, Option, refl, sym, ◌∙◌, ap, subst, arith, ◌⊎◌, inl, inr}
use Rattle.std.specs.Prelude.{OnErr, Result, Ok, Err, ⊤}
use Rattle.std.proofs.lemmas.List.{length-take, take_all}
use Rattle.std.specs.Io.KnownBytes.{Appends}
use Rattle.std.proofs.KnownBytes.{Appends-nil}
use Rattle.kr_base.specs.Numbering.{next_number}
use Rattle.kr_base.specs.Streams.{AppendsFront}
use Rattle.kr_kms.specs.declared.plugin.KmsNo.{KmsNo}
use Rattle.kr_kms.specs.declared.plugin.KmsNo.TheVariants.{Failed, NoMemory}
use Rattle.kr_kms_wire.specs.declared.replies.Asked.{Asked}
use Rattle.kr_kms_wire.specs.declared.replies.Reply.{Reply}
use Rattle.kr_kms_wire.specs.declared.requests.Request.{Request}
use Rattle.kr_base.specs.Faults.{Rose}
use Rattle.kr_kms_wire.specs.declared.replies.ReplyNo.{ReplyNo}
use Rattle.kr_kms_wire.specs.declared.replies.ReplyNo.TheVariants.{Error}
use Rattle.kr_edge.specs.Lines.{ExchangeEnds, Exchanged, IsCutOff, TakesLine, GivesNoLine, broken_off}
use Rattle.kr_edge.specs.Plugins.{AnswersRequest}

-- a question of which nothing was written, and one that was written whole
pub asked-nothing : (a : Option (List ℕ)) (question : List ℕ) → AppendsFront a a question
asked-nothing a question = (0, omega arith, Appends-nil a)

pub asked-all : (a b : Option (List ℕ)) (question : List ℕ) → Appends a b question
    → AppendsFront a b question
asked-all a b question p = (
  length question,
  omega arith,
  subst (Appends a b) (sym (take_all (length question) question (omega arith))) p,
)

-- an exchange that was broken before, one whose question wasn't written, one whose answer wasn't
-- read, and one that is whole
pub cut_before : (old : ExchangeEnds) (question : List ℕ) → old.broken ≡ true → IsCutOff old old question
cut_before old question is = record {
  asked = asked-nothing old.written question;
  cause = inl (is, refl);
  broken = is;
}

pub cut_asking : (old new : ExchangeEnds) (question : List ℕ) → old.broken ≡ false
    → AppendsFront old.written new.written question → Rose old.write_faults new.write_faults
    → new.write_faults ≡ next_number old.write_faults → new.read_faults ≡ old.read_faults
    → new.broken ≡ true → IsCutOff old new question
cut_asking old new question before front rose once calm is = record {
  asked = front;
  cause = inr (before, inl (rose, once, calm));
  broken = is;
}

-- the same of an answer that hands on why it wasn't written
pub not_asked : {T E : Type 0} (result : Result T E) (old new : ExchangeEnds) (question : List ℕ)
    → old.broken ≡ false → AppendsFront old.written new.written question
    → Rose old.write_faults new.write_faults → new.write_faults ≡ next_number old.write_faults
    → new.read_faults ≡ old.read_faults → new.broken ≡ true
    → OnErr result (IsCutOff old new question)
not_asked (Ok x) old new question before front rose once calm is = tt
not_asked (Err why) old new question before front rose once calm is =
    cut_asking old new question before front rose once calm is

pub cut_reading : (old new : ExchangeEnds) (question : List ℕ) (room : ℕ) → old.broken ≡ false
    → Appends old.written new.written question → room ≡ 131073
    → GivesNoLine room old.left new.left old.read_faults new.read_faults
    → new.write_faults ≡ old.write_faults → new.broken ≡ true → IsCutOff old new question
cut_reading old new question room before whole size none calm is = record {
  asked = asked-all old.written new.written question whole;
  cause = inr (
    before,
    inr (
      subst (λ n. GivesNoLine n old.left new.left old.read_faults new.read_faults) size none,
      calm,
    ),
  );
  broken = is;
}

-- the same of an answer that hands on why nothing was read
pub not_read : {T E : Type 0} (result : Result T E) (old new : ExchangeEnds) (question : List ℕ)
    (room : ℕ) → old.broken ≡ false → Appends old.written new.written question → room ≡ 131073
    → GivesNoLine room old.left new.left old.read_faults new.read_faults
    → new.write_faults ≡ old.write_faults → new.broken ≡ true
    → OnErr result (IsCutOff old new question)
not_read (Ok x) old new question room before whole size none calm is = tt
not_read (Err why) old new question room before whole size none calm is =
    cut_reading old new question room before whole size none calm is

pub exchanged : (old new : ExchangeEnds) (question line : List ℕ) (size : ℕ) → old.broken ≡ false
    → Appends old.written new.written question → TakesLine old.left new.left (take size line)
    → size ≤ 131072 → new.broken ≡ false → new.write_faults ≡ old.write_faults
    → new.read_faults ≡ old.read_faults → Exchanged old new question (take size line)
exchanged old new question line size before whole taken short is written read = record {
  before = before;
  asked = whole;
  answered = taken;
  short = omega (arith, short, length-take size line);
  whole = is;
  calm = (written, read);
}

-- the question was this text
pub cut_off_as : (old new : ExchangeEnds) (question text : List ℕ) → question ≡ text
    → IsCutOff old new question → IsCutOff old new text
cut_off_as old new question text same cut = subst (IsCutOff old new) same cut

-- the parts of a result, each other than what it isn't
abbrev Parts : Result Reply ReplyNo → Result Reply ReplyNo → Type 0
Parts (Ok x) (Ok y) = x ≡ y
Parts (Ok x) (Err why) = ⊥
Parts (Err why) (Ok y) = ⊥
Parts (Err why) (Err other) = ⊤

parts : (x y : Result Reply ReplyNo) → x ≡ y → Parts x y
parts x y same = subst (Parts x) same (own x)
  where
    own : (x : Result Reply ReplyNo) → Parts x x
    own (Ok x) = refl
    own (Err why) = tt

-- what is no reply at all is none of one kind
pub passes_on : {T : Type 0} (reply : T → Reply) (usable : T → Type 0) (old new : ExchangeEnds)
    (asked : Asked) (request : Request) (why : KmsNo)
    → AnswersRequest (λ r. r) (λ _. ⊤) old new asked request (Err why)
    → AnswersRequest reply usable old new asked request (Err why)
passes_on reply usable old new asked request Failed (inl cut) = inl cut
passes_on reply usable old new asked request Failed (inr (inl (line, asks, inl refuses))) =
    inr (inl (line, asks, inl refuses))
passes_on reply usable old new asked request Failed
    (inr (inl (line, asks, inr (answer, is, unusable)))) = absurd (unusable tt)
passes_on reply usable old new asked request Failed
    (inr (inr (mid, (line, asks, none), broken))) =
    inr (inr (mid, (line, asks, ((λ answer is. none.0 (reply answer) is), none.1)), broken))
passes_on reply usable old new asked request NoMemory (inl same) = inl same
passes_on reply usable old new asked request NoMemory (inr asks) = inr asks

-- a reply of another kind, behind which the exchange was broken off
pub other_kind : {T : Type 0} (reply : T → Reply) (usable : T → Type 0) (old mid new : ExchangeEnds)
    (asked : Asked) (request : Request) (found : Reply)
    → AnswersRequest (λ r. r) (λ _. ⊤) old mid asked request (Ok found)
    → ((answer : T) → found ≡ reply answer → ⊥) → new ≡ broken_off mid
    → AnswersRequest reply usable old new asked request (Err Failed)
other_kind reply usable old mid new asked request found ((line, asks, is), _) none broken =
    inr (inr (
      mid,
      (
        line,
        asks,
        (
          (λ answer same. none answer (parts (Ok found) (Ok (reply answer)) (sym is ∙ same))),
          λ text same. parts (Ok found) (Err (Error text)) (sym is ∙ same),
        ),
      ),
      broken,
    ))

-- a reply of the kind that can't be used
pub unusable : {T : Type 0} (reply : T → Reply) (usable : T → Type 0) (old new : ExchangeEnds)
    (asked : Asked) (request : Request) (found : Reply) (answer : T)
    → AnswersRequest (λ r. r) (λ _. ⊤) old new asked request (Ok found) → found ≡ reply answer
    → (usable answer → ⊥) → AnswersRequest reply usable old new asked request (Err Failed)
unusable reply usable old new asked request found answer ((line, asks, is), _) same not =
    inr (inl (line, asks, inr (answer, is ∙ ap Ok same, not)))

-- a failure that counts behind a call that counted none
pub counts_behind : (old mid new : ℕ) → mid ≡ old → new ≡ next_number mid → new ≡ next_number old
counts_behind old mid new same rises = rises ∙ ap next_number same

-- what was asked once stands behind a call that keeps the ends
pub answered_as : {T : Type 0} (reply : T → Reply) (usable : T → Type 0)
    (old mid new : ExchangeEnds) (asked : Asked) (request : Request) (result other : Result T KmsNo)
    → AnswersRequest reply usable old mid asked request other → new ≡ mid → other ≡ result
    → AnswersRequest reply usable old new asked request result
answered_as reply usable old mid new asked request result other h same is =
    subst (λ e. AnswersRequest reply usable old e asked request result) (sym same)
    (subst (AnswersRequest reply usable old mid asked request) is h)
