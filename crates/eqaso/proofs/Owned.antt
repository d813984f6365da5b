-- The tags that a trace shows of a node are those of its own values that it has let out to somebody.
use Prim.Native.Nat.{ℕ}
use native.Mathlib.Decide.{ℕ_discrete}
use mathlib.Core.Path.{◌≡◌, refl, sym, subst}
use mathlib.Core.Logic.{inl, inr}
use mathlib.Core.Bool.{cond, decide}
use mathlib.Core.List.Memᴰ
use mathlib.Core.List.{List, [], ◌∷◌, ◌++◌}
use Rattle.logs.specs.Log.{◌∈◌}
use Rattle.history.specs.Message.{Value, Message, read, read_answer, write, write_answer, echo, value, good}
use Rattle.history.specs.Event.{Sent, sent_to}
use Rattle.history.specs.Trace.{Trace, handler, let_out_to, tag_by, tags_sent, own_tags}
use Rattle.eqaso.proofs.Reach.{sent_to-in, sent_to-of}

-- An own value of node c with tag t.
pub record Own (c t : ℕ) (m : Message) : Type 0 where
  pub written : Value
  pub is : m ≡ value written
  pub own : written.writer ≡ c
  pub tagged : written.tag ≡ t

pub tag_by-of : (c : ℕ) (v : Value) → v.writer ≡ c → v.tag ∈ tag_by c (value v)
unfolding decide
tag_by-of c v e = go (ℕ_discrete v.writer c)
  where
    go : (d : Dec (v.writer ≡ c)) → v.tag ∈ cond (decide d) (v.tag ∷ []) []
    go (yes h) = Memᴰ.head refl
    go (no h) = absurd (h e)

tag_by-own : {t : ℕ} (c : ℕ) (m : Message) → t ∈ tag_by c m → Own c t m
unfolding decide
tag_by-own {t} c (value v) i = go (ℕ_discrete v.writer c) i
  where
    go : (d : Dec (v.writer ≡ c)) → t ∈ cond (decide d) (v.tag ∷ []) [] → Own c t (value v)
    go (yes h) j = record { written = v; is = refl; own = h; tagged = sym (Memᴰ.eq_of_singleton j) }
    go (no h) j = elim j [ ]
tag_by-own c (read q) i = elim i [ ]
tag_by-own c (read_answer to q u) i = elim i [ ]
tag_by-own c (write q u) i = elim i [ ]
tag_by-own c (write_answer to q u) i = elim i [ ]
tag_by-own c (echo u) i = elim i [ ]
tag_by-own c (good u v) i = elim i [ ]

pub tags_sent-of : {t : ℕ} {s : Sent} {l : List Sent} (c : ℕ) → s ∈ l → t ∈ tag_by c s.message → t ∈ tags_sent c l
unfolding tags_sent
tags_sent-of {t} c (Memᴰ.head e) i = Memᴰ.append_left _ (subst (λ z. t ∈ tag_by c z.message) e i)
tags_sent-of c (Memᴰ.tail {x} j) i = Memᴰ.append_right (tag_by c x.message) (tags_sent-of c j i)

pub tags_sent-own : {t : ℕ} (c : ℕ) (l : List Sent) → t ∈ tags_sent c l → (s : Sent) × (s ∈ l) × Own c t s.message
unfolding tags_sent
tags_sent-own c [] i = elim i [ ]
tags_sent-own c (s ∷ l) i = elim (Memᴰ.append_cases (tag_by c s.message) i) [
  | inl h ↦ (s, Memᴰ.head refl, tag_by-own c s.message h)
  | inr h ↦ (let (x, j, o) = tags_sent-own c l h in (x, Memᴰ.tail j, o))
]

pub own-tag : (tr : Trace) (c b : ℕ) (v : Value) → v.writer ≡ c → value v ∈ let_out_to tr c b → v.tag ∈ own_tags c tr
unfolding let_out_to own_tags decide
own-tag [] c b v e i = elim i [ ]
own-tag (o ∷ os) c b v e i = go (ℕ_discrete (handler o.event) c) i (own-tag os c b v e)
  where
    go : (d : Dec (handler o.event ≡ c)) → value v ∈ (cond (decide d) (sent_to b o.sent) [] ++ let_out_to os c b)
        → (value v ∈ let_out_to os c b → v.tag ∈ own_tags c os)
        → v.tag ∈ (cond (decide d) (tags_sent c o.sent) [] ++ own_tags c os)
    go (yes h) i later = elim (Memᴰ.append_cases (sent_to b o.sent) i) [
      | inl j ↦ Memᴰ.append_left _ (tags_sent-of c (sent_to-in b o.sent j) (tag_by-of c v e))
      | inr j ↦ Memᴰ.append_right (tags_sent c o.sent) (later j)
    ]
    go (no h) i later = later i

pub tag-own : (tr : Trace) (c t : ℕ) → t ∈ own_tags c tr → (b : ℕ) × (m : Message) × (m ∈ let_out_to tr c b) × Own c t m
unfolding let_out_to own_tags decide
tag-own [] c t i = elim i [ ]
tag-own (o ∷ os) c t i = go (ℕ_discrete (handler o.event) c) i (tag-own os c t)
  where
    go : (d : Dec (handler o.event ≡ c)) → t ∈ (cond (decide d) (tags_sent c o.sent) [] ++ own_tags c os)
        → (t ∈ own_tags c os → (b : ℕ) × (m : Message) × (m ∈ let_out_to os c b) × Own c t m)
        → (b : ℕ) × (m : Message) × (m ∈ (cond (decide d) (sent_to b o.sent) [] ++ let_out_to os c b)) × Own c t m
    go (yes h) i later = elim (Memᴰ.append_cases (tags_sent c o.sent) i) [
      | inl j ↦ (let (s, k, w) = tags_sent-own c o.sent j in (s.to, s.message, Memᴰ.append_left _ (sent_to-of k), w))
      | inr j ↦ (let (b, m, k, w) = later j in (b, m, Memᴰ.append_right (sent_to b o.sent) k, w))
    ]
    go (no h) i later = later i
