-- What the channels of mirroring bytes hold is, in order, the encoding of what waits.
use Prim.Native.Nat.{ℕ, zero, suc, ◌+◌}
use mathlib.Core.Path.{◌≡◌, refl, sym, ap, ◌∙◌, subst}
use mathlib.Core.List.{List, [], ◌∷◌, ◌++◌, map, map-append}
use lib.ListN.{take}
use Rattle.octets.specs.Answer.{Answer, returned, refused}
use Rattle.octets.specs.Bytes.{part}
use Rattle.octets.specs.Loop.{tab}
use Rattle.view.specs.View.{view_of}
use Rattle.wire.specs.Codec.{front, view_at}
use Rattle.wire.specs.declared.Message.{Message}
use Rattle.wire.proofs.RoundTrip.{front-only}
use Rattle.region.specs.Channel.{slot_size, count_of, oldest, slot_at, waiting}
use Rattle.layout.specs.Layout.{channel}
use Rattle.history.specs.Message as M
use Rattle.history.specs.Order.{OneTo}
use Rattle.eqaso.specs.Cluster as K
use Rattle.mirror.specs.Mirrors.{meant_by, meant, Mirrors}
use Rattle.mirror.specs.Encodes.{Encodes, EachEncodes}
use Rattle.mirror.proofs.Delivers.{IsResult}

map-tab : {X Y : Type 0} (g : X → Y) (k : ℕ) (f : ℕ → X) → tab k (λ i. g (f i)) ≡ map g (tab k f)
unfolding tab
map-tab g zero f = refl
map-tab g (suc k) f = ap (λ l. l ++ (g (f k) ∷ [])) (map-tab g k f) ∙ sym (map-append g (tab k f) (f k ∷ []))

-- What waits, read from its slots.
waiting-map : {X : Type 0} (g : List ℕ → X) (t : List ℕ) → waiting g t ≡ map g (waiting (λ s. s) t)
unfolding waiting
waiting-map g t = map-tab g (count_of t) (λ i. part t (slot_at (oldest t + i)) slot_size)

abbrev pub IsNil : {X : Type 0} → List X → Type 0
IsNil [] = Unit {0}
IsNil (x ∷ l) = ⊥

module _ (n c : ℕ) where
  encodes : (s : List ℕ) (m : M.Message) → meant n c s ≡ returned m → Encodes n c s m
  encodes s m h = go (front n s) refl h
    where
      go : (r : Answer (Message × ℕ)) → front n s ≡ r → meant_by n c (view_of n (view_at n s)) r ≡ returned m
          → Encodes n c s m
      go (refused k) e h = absurd (subst IsResult (sym h) tt)
      go (returned p) e h = let f = front-only n s p.0 p.1 e in record {
        message = p.0;
        view = view_at n s;
        layout = f.allowed-is;
        bytes = ap (λ k. take k s) (sym f.long) ∙ f.bytes;
        means = cc h;
      }

  each-encodes : (k : List (List ℕ)) (l : List M.Message) → map (meant n c) k ≡ map returned l → EachEncodes n c k l
  each-encodes [] [] e = tt
  each-encodes [] (m ∷ l) e = subst IsNil e tt
  each-encodes (s ∷ k) [] e = subst IsNil (sym e) tt
  each-encodes (s ∷ k) (m ∷ l) e = (encodes s m (cc e), each-encodes k l (cc e))

pub encoded : {n f : ℕ} {b : List ℕ} {σ : K.Cluster} → Mirrors n f b σ → (a c : ℕ) → OneTo n a → OneTo n c
    → EachEncodes n c (waiting (λ s. s) (channel b a c)) (σ.channel a c)
encoded {n} {f} {b} {σ} mirror a c o p = each-encodes n c (waiting (λ s. s) (channel b a c)) (σ.channel a c)
    (sym (waiting-map (meant n c) (channel b a c)) ∙ (mirror.shows.says c p).waits a o)

-- Where nothing waits there is no slot.
pub none-encoded : (n c : ℕ) (k : List (List ℕ)) → EachEncodes n c k [] → k ≡ []
none-encoded n c [] e = refl
none-encoded n c (s ∷ k) e = absurd e
