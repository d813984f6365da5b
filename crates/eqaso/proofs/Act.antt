-- The course of the two steps of a node: a message handed over, and a begin.
use Prim.Native.Nat.{ℕ, suc, ◌+◌, ◌-◌, ◌≤◌, ◌<◌}
use native.Mathlib.Omega.{arith}
use mathlib.Core.Path.{◌≡◌, refl, sym, ap, subst}
use mathlib.Core.Logic.{◌⊎◌, inl, inr}
use mathlib.Core.List.Memᴰ
use mathlib.Core.List.{List, [], ◌∷◌}
use Rattle.logs.specs.Count.{count}
use Rattle.logs.proofs.Count.{count_none}
use Rattle.logs.specs.Log.{◌∈◌, push}
use Rattle.logs.proofs.Log.{push-or}
use Rattle.history.specs.Message.{Value, Message, read, read_answer, write, write_answer, echo, value, good}
use Rattle.history.specs.Event.{Operation, update, scan, Ending, none, done, shown, spent}
use Rattle.algorithm.specs.Algorithm.{nobody, Wait, reading, writing, comparing, borrowing, Node, Step, sending}
use Rattle.algorithm.specs.Algorithm.{◌then◌, react, message_step, begin_step, idle}
use Rattle.algorithm.proofs.Read.{read_tag}
use Rattle.algorithm.proofs.Cases.{raise-cases, receive-by, read-cases, write-cases}
use Rattle.algorithm.proofs.Passes.{Claim, On}
use Rattle.algorithm.proofs.MoveOn.{Moves, message-leaves, begin-leaves}
use Rattle.eqaso.proofs.Course.{Rests, Reads, Staged, Of, Opened, answered, Only, Makes, EndsBy, SpentBy, plain}
use Rattle.eqaso.proofs.Course.{listed, rest-moves, staged-moves, Asks, ask-moves}

-- v is a new value, which the message hands over.
abbrev pub Passed : Message → Node → Value → Type 0
Passed m ν v = (m ≡ value v) × ¬ (v ∈ ν.all)

-- The second wait is of the kind of the first.
pub record Alike (w w' : Wait) : Type 0 where
  pub rests : Rests w → Rests w'
  pub reads : Reads w → Reads w'
  pub staged : Staged w → Staged w'
  pub same_op : (op : Operation) → Of op w → Of op w'

alike : (w : Wait) → Alike w w
alike w = record { rests = λ h. h; reads = λ h. h; staged = λ h. h; same_op = λ op h. h }

none_in : (K : Value → Type 0) → Only K []
none_in K v m = elim m [ ]

-- What a message leads to at once: the wait is of the same kind, and a value that is sent is a new one.
abbrev Reacts : Message → Node → Step → Type 0
Reacts m ν s = Alike ν.wait s.node.wait × Only (Passed m ν) (push s.sent [])

react-kind : (k : ℕ) (m : Message) (ν : Node) → Reacts m ν (react k m ν)
react-kind k (read q) ν = (alike ν.wait, plain _ (read_answer k q ν.maxtag) (λ x. x) (none_in _))
react-kind k (read_answer to q t) ν = (
  read-cases (Alike ν.wait) (λ z. Alike ν.wait z.wait) k q t ν ν.wait
      (alike ν.wait) (λ is. alike ν.wait)
      (λ o s u e a. record { rests = a.rests; reads = a.reads; staged = a.staged; same_op = a.same_op }),
  none_in _,
)
react-kind k (write q t) ν = raise-cases (λ s. Reacts (write q t) ν (s then sending (write_answer k q t ∷ []))) t ν
    (alike ν.wait, plain _ (write_answer k q t) (λ x. x) (plain _ (echo t) (λ x. x) (none_in _)))
    (alike ν.wait, plain _ (write_answer k q t) (λ x. x) (none_in _))
react-kind k (write_answer to q t) ν = (
  write-cases (Alike ν.wait) (λ z. Alike ν.wait z.wait) k q t ν ν.wait
      (alike ν.wait) (λ is. alike ν.wait)
      (λ o r u s e d a. record { rests = a.rests; reads = a.reads; staged = a.staged; same_op = a.same_op }),
  none_in _,
)
react-kind k (echo t) ν = raise-cases (Reacts (echo t) ν) t ν
    (alike ν.wait, plain _ (echo t) (λ x. x) (none_in _)) (alike ν.wait, none_in _)
react-kind k (value v) ν = receive-by (Reacts (value v) ν) k v ν (λ m. (alike ν.wait, none_in _))
    (λ new. (alike ν.wait, sent new))
  where
    sent : ¬ (v ∈ ν.all) → Only (Passed (value v) ν) (value v ∷ [])
    sent new u (Memᴰ.head e) = (sym e, λ m. new (subst (λ z. z ∈ ν.all) (cc e) m))
    sent new u (Memᴰ.tail h) = elim h [ ]
react-kind k (good t v) ν = (alike ν.wait, none_in _)

-- A step of an operation past its reading, and of one that reads.
abbrev pub GoesBy : (Value → Type 0) → Ending → Wait → List Message → Type 0
GoesBy K none w l = Staged w × Only K l
GoesBy K (done rule v) w l = Rests w × Only K l
GoesBy K (shown rule v) w l = Rests w × Only K l
GoesBy K spent w l = ⊥

abbrev pub AsksBy : (i r : ℕ) → Operation → (Value → Type 0) → Ending → Wait → List Message → Type 0
AsksBy i r op K none w l = (Reads w × Only K l) ⊎ (Opened w × Makes i r op K l)
AsksBy i r op K (done rule v) w l = ⊥
AsksBy i r op K (shown rule v) w l = ⊥
AsksBy i r op K spent w l = Rests w × Only K l

sent-in : {m : Message} (l : List Message) → m ∈ push l [] → m ∈ l
sent-in l m = elim (push-or l [] m) [ inl h ↦ h | inr h ↦ elim h [ ] ]

makes-listed : (K : Value → Type 0) (i r : ℕ) (op : Operation) (l : List Message) → Makes i r op K (push l [])
    → Makes i r op K l
makes-listed K i r (update p) l (m, only) = (sent-in l m, listed _ l only)
makes-listed K i r scan l only = listed K l only

module _ (n f i : ℕ) (half : f + f < n) (k : ℕ) (m : Message) (ν : Node) where
  abbrev step : Step
  step = message_step n f i k m ν

  abbrev K : Value → Type 0
  K = Passed m ν

  -- The tag that the operation has read after the step.
  abbrev pub tag_after : ℕ → ℕ
  tag_after r = read_tag n f r (react k m ν).node (react k m ν).node.wait

  -- An idle node only passes on what it is handed.
  pub rest-course : Rests ν.wait → (step.ending ≡ none) × Rests step.node.wait × Only K step.sent
  rest-course h = go step.ending refl
      (message-leaves (rest-moves K n f i) k m ν [] ((react-kind k m ν).0.rests h, (react-kind k m ν).1))
    where
      go : (e : Ending) → step.ending ≡ e
          → On (λ ν l. Rests ν.wait × Only K l) (λ e ν l. ⊥) e step.node (push step.sent [])
          → (step.ending ≡ none) × Rests step.node.wait × Only K step.sent
      go none e (a, b) = (e, a, listed K step.sent b)
      go _ e h = elim h [ ]

  pub staged-course : Staged ν.wait → GoesBy K step.ending step.node.wait step.sent
  staged-course h = go step.ending
      (message-leaves (staged-moves K n f i) k m ν [] ((react-kind k m ν).0.staged h, (react-kind k m ν).1))
    where
      go : (e : Ending) → On (λ ν l. Staged ν.wait × Only K l) (λ e ν l. EndsBy K e ν.wait l) e step.node
          (push step.sent [])
          → GoesBy K e step.node.wait step.sent
      go spent h = elim h [ ]
      go none (a, b) = (a, listed K step.sent b)
      go (done rule v) (a, b) = (a, listed K step.sent b)
      go (shown rule v) (a, b) = (a, listed K step.sent b)

  pub read-course : (op : Operation) (r : ℕ) → Reads ν.wait → Of op ν.wait
      → AsksBy i (tag_after r) op K step.ending step.node.wait step.sent
  read-course op r h o = go step.ending
      (message-leaves (ask-moves K n f i half op r (tag_after r)) k m ν [] (inl (record {
        reads = (react-kind k m ν).0.reads h;
        same_op = (react-kind k m ν).0.same_op op o;
        tag = refl;
        only = (react-kind k m ν).1;
      })))
    where
      go : (e : Ending) → On (Asks K n f i half op r (tag_after r)) (λ e ν l. SpentBy K e ν.wait l) e step.node
          (push step.sent [])
          → AsksBy i (tag_after r) op K e step.node.wait step.sent
      go (shown _ _) h = elim h [ ]
      go (done _ _) h = elim h [ ]
      go none (inl a) = inl (a.reads, listed K step.sent a.only)
      go none (inr (o, made)) = inr (o, makes-listed K i (tag_after r) op step.sent made)
      go spent (a, b) = (a, listed K step.sent b)

  -- Past its reading an operation keeps what it has read.
  pub staged-tag : (r : ℕ) → Staged ν.wait → tag_after r ≡ r
  staged-tag r h = go (react k m ν).node.wait ((react-kind k m ν).0.staged h)
    where
      go : (w : Wait) → Staged w → read_tag n f r (react k m ν).node w ≡ r
      go (reading _ _ largest) h = elim h [ ]
      go idle h = elim h [ ]
      go (writing o rnd t s) h = refl
      go (comparing o rnd t) h = refl
      go (borrowing o t) h = refl

-- A begin only asks.
module _ (n f i : ℕ) (half : f + f < n) (op : Operation) where
  abbrev Begun : Claim
  Begun ν l = (ν.wait ≡ reading op nobody 0) × Only (λ v. ⊥) l

  unanswered : {w : Wait} → w ≡ reading op nobody 0 → n - f ≤ count (answered w) n → ⊥
  unanswered e q = omega (arith, subst (λ z. n - f ≤ count z n) (ap answered e) q, count_none n)

  not-later : {w : Wait} → w ≡ reading op nobody 0 → Staged w → ⊥
  not-later e h = subst Staged e h

  begin-moves : Moves n f i Begun Begun (λ e ν l. ⊥)
  begin-moves = record {
    stays = λ ν l h. h;
    spends = λ ν l p u s q z h. unanswered h.0 q;
    updates = λ ν l p u s q h. absurd (unanswered h.0 q);
    scans = λ ν l u s q h. absurd (unanswered h.0 q);
    compares = λ ν l o r t s q h. absurd (not-later h.0 tt);
    passes = λ ν l o t le h. absurd (not-later h.0 tt);
    ends = λ ν l o r t z le h. not-later h.0 tt;
    fails = λ ν l o r r' t lt h. absurd (not-later h.0 tt);
    borrows = λ ν l o t lt h. absurd (not-later h.0 tt);
    lends = λ ν l o t h. not-later h.0 tt;
  }

  pub begin-course : (ν : Node) → let s = begin_step n f i op ν in
      (s.ending ≡ none) × Reads s.node.wait × Only (λ v. ⊥) s.sent
  begin-course ν = go (begin_step n f i op ν).ending refl
      (begin-leaves begin-moves op ν [] (refl, plain (λ v. ⊥) (read (suc ν.request)) (λ x. x) (none_in _)))
    where
      go : (e : Ending) → (begin_step n f i op ν).ending ≡ e
          → On Begun (λ e ν l. ⊥) e (begin_step n f i op ν).node (push (begin_step n f i op ν).sent [])
          → ((begin_step n f i op ν).ending ≡ none) × Reads (begin_step n f i op ν).node.wait
          × Only (λ v. ⊥) (begin_step n f i op ν).sent
      go none e (a, b) = (e, subst Reads (sym a) tt, listed (λ v. ⊥) (begin_step n f i op ν).sent b)
      go _ e h = elim h [ ]
