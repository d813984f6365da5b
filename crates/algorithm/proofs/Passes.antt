-- A step is made of parts that follow each other until one gives an ending: what one part leaves, the next finds.
use Prim.Native.Nat.{ℕ}
use mathlib.Core.Path.{◌≡◌, refl, sym, subst}
use mathlib.Core.List.{[], ◌∷◌}
use Rattle.logs.specs.Log.{push}
use Rattle.logs.proofs.Log.{push-append}
use Rattle.history.specs.Message.{View, Message, read, read_answer, write, write_answer, echo, value, good}
use Rattle.history.specs.Event.{Operation, update, scan, Rule, Ending, none, done, shown, spent}
use Rattle.algorithm.specs.Algorithm.{Wait, Node, Step, sending, then_by, ◌then◌, with_wait, finish, react}
use Rattle.algorithm.specs.Algorithm.{read_pass, write_pass, compare_pass, borrow_pass, move_on}
use Rattle.algorithm.proofs.Cert.{Log}
use Rattle.algorithm.proofs.Cases.{raise-cases, receive-cases}

-- What holds of a node and its log; the same by the ending.
abbrev pub Claim : Type 1
Claim = Node → Log → Type 0

abbrev pub Final : Type 1
Final = Ending → Claim

-- P of the node and its log if the operation goes on, E of its ending if it has ended.
abbrev pub On : Claim → Final → Final
On P E none ν l = P ν l
On P E (done r v) ν l = E (done r v) ν l
On P E (shown r v) ν l = E (shown r v) ν l
On P E spent ν l = E spent ν l

-- What a step leaves behind, from a log l.
abbrev pub Leaves : Claim → Final → Log → Step → Type 0
Leaves P E l s = On P E s.ending s.node (push s.sent l)

then-leaves : (P Q : Claim) (E : Final) (s : Step) (part : Node → Step) (l : Log) → Leaves P E l s
    → ((ν : Node) (l : Log) → P ν l → Leaves Q E l (part ν)) → Leaves Q E l (s then part)
then-leaves P Q E s part l h next = go s.ending h
  where
    go : (e : Ending) → On P E e s.node (push s.sent l)
        → Leaves Q E l (then_by (record { node = s.node; sent = s.sent; ending = e }) (part s.node) e)
    go none h = rw (push-append s.sent (part s.node).sent l) (next s.node (push s.sent l) h)
    go (done r v) h = h
    go (shown r v) h = h
    go spent h = h

-- The four passes, one after the other.
pub move-leaves : (n f i : ℕ) (P Q R S T : Claim) (E : Final) (s : Step) (l : Log) → Leaves P E l s
    → ((ν : Node) (l : Log) (w : Wait) → P (with_wait w ν) l → Leaves Q E l (read_pass n f i (with_wait w ν) w))
    → ((ν : Node) (l : Log) (w : Wait) → Q (with_wait w ν) l → Leaves R E l (write_pass n f (with_wait w ν) w))
    → ((ν : Node) (l : Log) (w : Wait) → R (with_wait w ν) l → Leaves S E l (compare_pass n f i (with_wait w ν) w))
    → ((ν : Node) (l : Log) (w : Wait) → S (with_wait w ν) l → Leaves T E l (borrow_pass n (with_wait w ν) w))
    → Leaves T E l (move_on n f i s)
unfolding move_on
move-leaves n f i P Q R S T E s l h a b c d =
    let x = then-leaves P Q E s reads l h (λ ν l p. a ν l ν.wait p) in
    let y = then-leaves Q R E (s then reads) writes l x (λ ν l p. b ν l ν.wait p) in
    let z = then-leaves R S E (s then reads then writes) compares l y (λ ν l p. c ν l ν.wait p) in
    then-leaves S T E (s then reads then writes then compares) borrows l z (λ ν l p. d ν l ν.wait p)
  where
    reads : Node → Step
    reads ν = read_pass n f i ν ν.wait

    writes : Node → Step
    writes ν = write_pass n f ν ν.wait

    compares : Node → Step
    compares ν = compare_pass n f i ν ν.wait

    borrows : Node → Step
    borrows ν = borrow_pass n ν ν.wait

-- An operation that has come by its view has ended.
pub finished : (P : Claim) (E : Final) (op : Operation) (rule : Rule) (v : View) (ν : Node) (l : Log)
    → E (finish op rule v) ν l → On P E (finish op rule v) ν l
finished P E (update p) rule v ν l h = h
finished P E scan rule v ν l h = h

-- What holds whether the operation goes on or has ended.
pub left : (P : Claim) (e : Ending) {ν : Node} {l : Log} → On P (λ e. P) e ν l → P ν l
left P none h = h
left P (done r v) h = h
left P (shown r v) h = h
left P spent h = h

-- A message ends no operation by itself.
pub react-open : (k : ℕ) (m : Message) (ν : Node) → (react k m ν).ending ≡ none
react-open k (read q) ν = refl
react-open k (read_answer to q t) ν = refl
react-open k (write q t) ν = raise-cases (λ s. (s then sending (write_answer k q t ∷ [])).ending ≡ none) t ν refl refl
react-open k (write_answer to q t) ν = refl
react-open k (echo t) ν = raise-cases (λ s. s.ending ≡ none) t ν refl refl
react-open k (value v) ν = receive-cases (λ s. s.ending ≡ none) k v ν refl refl
react-open k (good t v) ν = refl

pub reacted : (P : Claim) (E : Final) (l : Log) (k : ℕ) (m : Message) (ν : Node)
    → P (react k m ν).node (push (react k m ν).sent l) → Leaves P E l (react k m ν)
reacted P E l k m ν h =
    subst (λ e. On P E e (react k m ν).node (push (react k m ν).sent l)) (sym (react-open k m ν)) h
