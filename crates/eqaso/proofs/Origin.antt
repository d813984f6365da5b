-- Where values come from: each value that a node holds, or has let out, was let out by its writer. The log of a node
-- may hold more, for a cut lets out only a part of what the node has then sent.
use Prim.Native.Nat.{ℕ, suc, max}
use native.Mathlib.Decide.{ℕ_discrete}
use mathlib.Core.Path.{◌≡◌, refl, sym, ◌∙◌, ap, subst}
use mathlib.Core.Logic.{◌⊎◌, inl, inr}
use mathlib.Core.Bool.{Bool, cond, decide}
use mathlib.Core.List.Memᴰ
use mathlib.Core.List.{List, [], ◌∷◌, ◌++◌}
use Rattle.logs.specs.Update.{upd, upd2}
use Rattle.logs.proofs.Update.{upd-self, upd-all}
use Rattle.logs.specs.Log.{◌∈◌, push}
use Rattle.history.specs.Message.{Value, of, Message, read, read_answer, write, write_answer, echo, value, good}
use Rattle.history.specs.Event.{Operation, Extent, whole, cut, Event, begin, deliver, stop, sent_to}
use Rattle.history.specs.Trace.{Seen, Trace, handler, let_out_to}
use Rattle.algorithm.specs.Algorithm.{Node, still, sending, ◌then◌, view_upto, react, message_step, begin_step}
use Rattle.algorithm.proofs.Cert.{Log}
use Rattle.algorithm.proofs.Cases.{raise-cases, receive-cases, read-cases, write-cases}
use Rattle.algorithm.proofs.Passes.{left}
use Rattle.algorithm.proofs.MoveOn.{Moves, message-leaves, begin-leaves}
use Rattle.eqaso.specs.Cluster.{Cluster, refuse, start, entries, shortened, after, seen, trace}
use Rattle.eqaso.specs.Bounded.{LetOut}
use Rattle.eqaso.proofs.Course.{Only, plain, listed}
use Rattle.eqaso.proofs.Reach.{sent-among}
use Rattle.eqaso.proofs.Happened.{Happened, refusal, began, delivered, ceased, outcome, act}
use Rattle.eqaso.proofs.Snoc.{let_out_to-snoc}
use Rattle.eqaso.proofs.Linked.{Linked, always-linked}

-- A step of node i. If K holds of the values that the node holds, and of the one that it is handed, it holds of those
-- that the node holds after the step, and of those that it sends but for its own.
module _ (i : ℕ) (K : Value → Type 0) where
  abbrev pub OwnOr : Value → Type 0
  OwnOr v = (v.writer ≡ i) ⊎ K v

  abbrev pub Holds : Node → Type 0
  Holds ν = (v : Value) → v ∈ ν.all → K v

  abbrev Fine : Node → Log → Type 0
  Fine ν l = Holds ν × Only OwnOr l

  own : {l : Log} (t p : ℕ) → Only OwnOr l → Only OwnOr (value (of t i p) ∷ l)
  own t p o v (Memᴰ.head e) = let same : v ≡ of t i p = cc e in inl (ap (λ z. z.writer) same)
  own t p o v (Memᴰ.tail m) = o v m

  asked : {l : Log} (q t : ℕ) → Only OwnOr l → Only OwnOr (write q t ∷ l)
  asked q t o = plain OwnOr (write q t) (λ x. x) o

  moves : (n f : ℕ) → Moves n f i Fine Fine (λ e. Fine)
  moves n f = record {
    stays = λ ν l x. x;
    spends = λ ν l p u s q z x. x;
    updates = λ ν l p u s q (h, o).
        let t = max u ν.maxtag in (h, asked (suc ν.request) t (own (suc t) p o));
    scans = λ ν l u s q (h, o). (h, asked (suc ν.request) (max u ν.maxtag) o);
    compares = λ ν l op r t s q x. x;
    passes = λ ν l op t le (h, o).
        (h, asked (suc ν.request) (suc t) (plain OwnOr (good t (view_upto n t ν.all)) (λ x. x) o));
    ends = λ ν l op r t last le (h, o). (h, plain OwnOr (good t (view_upto n t ν.all)) (λ x. x) o);
    fails = λ ν l op r r' t lt (h, o). (h, asked (suc ν.request) ν.maxtag o);
    borrows = λ ν l op t lt x. x;
    lends = λ ν l op t x. x;
  }

  none : Only OwnOr []
  none v m = elim m [ ]

  reacts : (k : ℕ) (m : Message) (ν : Node) → Holds ν → ((v : Value) → m ≡ value v → K v)
      → Fine (react k m ν).node (push (react k m ν).sent [])
  reacts k (read q) ν h new = (h, plain OwnOr (read_answer k q ν.maxtag) (λ x. x) none)
  reacts k (read_answer to q t) ν h new =
      read-cases (λ w. Unit {0}) (λ ν. Fine ν []) k q t ν ν.wait tt (λ is. (h, none)) (λ o s u e x. (h, none))
  reacts k (write q t) ν h new =
      raise-cases (λ s. let z = s then sending (write_answer k q t ∷ []) in Fine z.node (push z.sent [])) t ν
      (h, plain OwnOr (write_answer k q t) (λ x. x) (plain OwnOr (echo t) (λ x. x) none))
      (h, plain OwnOr (write_answer k q t) (λ x. x) none)
  reacts k (write_answer to q t) ν h new =
      write-cases (λ w. Unit {0}) (λ ν. Fine ν []) k q t ν ν.wait tt (λ is. (h, none)) (λ o r u s e d x. (h, none))
  reacts k (echo t) ν h new = raise-cases (λ s. Fine s.node (push s.sent [])) t ν
      (h, plain OwnOr (echo t) (λ x. x) none) (h, none)
  reacts k (value v) ν h new =
      receive-cases (λ s. Fine s.node (push s.sent [])) k v ν (h, none) (more, passed_on)
    where
      more : (u : Value) → u ∈ (v ∷ ν.all) → K u
      more u (Memᴰ.head e) = subst K (sym e) (new v refl)
      more u (Memᴰ.tail m) = h u m

      passed_on : Only OwnOr (value v ∷ [])
      passed_on u (Memᴰ.head e) = let same : u ≡ v = cc e in inr (subst K (sym same) (new v refl))
      passed_on u (Memᴰ.tail m) = elim m [ ]
  reacts k (good t v) ν h new = (h, none)

  message-origin : (n f k : ℕ) (m : Message) (ν : Node) → Holds ν → ((v : Value) → m ≡ value v → K v)
      → Fine (message_step n f i k m ν).node (message_step n f i k m ν).sent
  message-origin n f k m ν h new =
      let step = message_step n f i k m ν in
      let (x, o) = left Fine step.ending (message-leaves (moves n f) k m ν [] (reacts k m ν h new)) in
      (x, listed OwnOr step.sent o)

  begin-origin : (n f : ℕ) (op : Operation) (ν : Node) → Holds ν
      → Fine (begin_step n f i op ν).node (begin_step n f i op ν).sent
  begin-origin n f op ν h =
      let step = begin_step n f i op ν in
      let (x, o) = left Fine step.ending
      (begin-leaves (moves n f) op ν [] (h, plain OwnOr (read (suc ν.request)) (λ x. x) none)) in
      (x, listed OwnOr step.sent o)

-- What the nodes hold, and what was let out, was let out by its writer.
pub record Origin (nodes : ℕ → Node) (tr : Trace) : Type 0 where
  pub held : (c : ℕ) → Holds c (LetOut tr) (nodes c)
  pub sent : (a b : ℕ) (v : Value) → value v ∈ let_out_to tr a b → LetOut tr v

-- One event more, after which its node is ν, and which lets out some of a list.
module _ {nodes : ℕ → Node} {tr : Trace} (O : Origin nodes tr) (o : Seen) where
  abbrev c : ℕ
  c = handler o.event

  abbrev next : Trace
  next = tr ++ (o ∷ [])

  still-out : (v : Value) → LetOut tr v → LetOut next v
  still-out v (b, i) = (b, subst (λ l. value v ∈ l) (sym (let_out_to-snoc tr o v.writer b)) (Memᴰ.append_left _ i))

  acted : (n : ℕ) (x : Extent) (l : List Message) (ν : Node) → o.sent ≡ shortened x (entries n l)
      → Holds c (LetOut tr) ν
      → Only (OwnOr c (LetOut tr)) l → Origin (upd nodes c ν) next
  unfolding decide
  acted n x l ν is held only = record {
    held = upd-all (λ j. Holds j (LetOut next)) nodes c ν (λ j ne v m. still-out v (O.held j v m))
        (λ v m. still-out v (held v m));
    sent = λ a b v i. elim (Memᴰ.append_cases (let_out_to tr a b)
        (subst (λ z. value v ∈ z) (let_out_to-snoc tr o a b) i))
        [ inl j ↦ still-out v (O.sent a b v j) | inr j ↦ new a b v i (ℕ_discrete c a) j ];
  }
    where
      from : (a b : ℕ) (v : Value) → value v ∈ let_out_to next a b → c ≡ a → OwnOr c (LetOut tr) v → LetOut next v
      from a b v i e (inl w) = (b, subst (λ z. value v ∈ let_out_to next z b) (sym (w ∙ e)) i)
      from a b v i e (inr h) = still-out v h

      new : (a b : ℕ) (v : Value) → value v ∈ let_out_to next a b → (d : Dec (c ≡ a))
          → value v ∈ cond (decide d) (sent_to b o.sent) [] → LetOut next v
      new a b v i (yes e) j =
          from a b v i e (only v (sent-among n b x l (subst (λ z. value v ∈ sent_to b z) is j)))
      new a b v i (no e) j = elim j [ ]

kept : (n f : ℕ) (σ : Cluster) (tr : Trace) (e : Event) (h : Happened n f σ e) → Linked n f σ tr → Origin σ.nodes tr
    → Origin (outcome h).cluster.nodes (tr ++ (seen e (outcome h) ∷ []))
unfolding entries
kept n f σ tr e (refusal k) L O = subst (λ z. Origin z (tr ++ (seen e (refuse k σ) ∷ [])))
    (upd-self σ.nodes (handler e))
    (acted O (seen e (refuse k σ)) n whole [] (σ.nodes (handler e)) refl (O.held (handler e)) (λ v m. elim m [ ]))
kept n f σ tr e (began {c} {op} {x} h i r) L O =
    let step = begin_step n f c op (σ.nodes c) in
    let (held, only) = begin-origin c (LetOut tr) n f op (σ.nodes c) (O.held c) in
    acted O (seen (begin c op x) (act n c x step σ.channel σ)) n x step.sent step.node refl held only
kept n f σ tr e (delivered {a} {b} {x} h o m rest is) L O =
    let step = message_step n f b a m (σ.nodes b) in
    let (l, counted, out) = L.handed a b h.stands in
    let came : m ∈ let_out_to tr a b = subst (λ l. m ∈ l) (sym out)
    (Memᴰ.append_right l (subst (λ z. m ∈ z) (sym is) (Memᴰ.head refl))) in
    let (held, only) = message-origin b (LetOut tr) n f a m (σ.nodes b) (O.held b)
    (λ v d. O.sent a b v (subst (λ z. z ∈ let_out_to tr a b) d came)) in
    acted O (seen (deliver a b x) (act n b x step (upd2 σ.channel a b rest) σ)) n x step.sent step.node refl
    held only
kept n f σ tr e (ceased {c} h) L O =
    acted O (seen (stop c) (act n c (cut 0) (still (σ.nodes c)) σ.channel σ)) n (cut 0) [] (σ.nodes c) refl
    (O.held c) (λ v m. elim m [ ])

pub origin : (n f : ℕ) (room : ℕ → Bool) (es : List Event) → Origin (after n f room start es).nodes (trace n f room es)
unfolding let_out_to
origin n f room = always-linked n f room (λ σ. Origin σ.nodes)
    (record { held = λ c v m. elim m [ ]; sent = λ a b v i. elim i [ ] }) (kept n f)
