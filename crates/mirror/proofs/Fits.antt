-- The entries of a step stand for messages of the layout, each to one of the nodes.
use Prim.Native.Nat.{ℕ, zero, suc, ◌≤◌}
use native.Mathlib.Omega.{arith}
use mathlib.Core.Path.{◌≡◌, refl, sym, subst}
use mathlib.Core.Logic.{inl, inr}
use mathlib.Core.Bool.{Bool, true, false}
use mathlib.Core.List.Memᴰ
use mathlib.Core.List.{List, [], ◌∷◌, ◌++◌}
use lib.ListN.{take}
use Rattle.logs.specs.Log.{◌∈◌}
use Rattle.octets.specs.Test.{pick}
use Rattle.table.specs.Loop.{numbered}
use Rattle.view.specs.View.{view_bytes}
use Rattle.view.specs.declared.View.{View}
use Rattle.wire.specs.Layout.{allowed}
use Rattle.wire.specs.declared.Message.{Message}
use Rattle.outgoing.specs.Entries.{Entry, entry, is_answer, addressed, entries_of}
use Rattle.history.specs.Order.{OneTo}
use Rattle.mirror.proofs.Shows.{Fit}

module _ (n : ℕ) where
  abbrev pub Fits : List Entry → Type 0
  Fits l = (e : Entry) → e ∈ l → Fit n e

  fits-append : (k l : List Entry) → Fits k → Fits l → Fits (k ++ l)
  fits-append k l f g e m = elim (Memᴰ.append_cases k m) [ inl x ↦ f e x | inr x ↦ g e x ]

  fits_one : (e : Entry) → Fit n e → Fits (e ∷ [])
  fits_one e f x (Memᴰ.head h) = subst (Fit n) (sym h) f
  fits_one e f x (Memᴰ.tail h) = elim h [ ]

  pub fits-take : (m : ℕ) (l : List Entry) → Fits l → Fits (take m l)
  fits-take zero l f e x = elim x [ ]
  fits-take (suc m) [] f e x = elim x [ ]
  fits-take (suc m) (a ∷ l) f e (Memᴰ.head h) = f e (Memᴰ.head h)
  fits-take (suc m) (a ∷ l) f e (Memᴰ.tail x) = fits-take m l (λ y z. f y (Memᴰ.tail z)) e x

  module _ (a : ℕ) (o : OneTo n a) (v : View) where
    fits-numbered : (k : ℕ) → k ≤ n → (m : Message) → allowed n m (view_bytes n v) ≡ true
        → Fits (numbered k (entry v m))
    unfolding numbered
    fits-numbered zero l m ok = λ e x. elim x [ ]
    fits-numbered (suc k) l m ok =
        fits-append (numbered k (entry v m)) (entry v m (suc k) ∷ []) (fits-numbered k (omega arith) m ok)
        (fits_one (entry v m (suc k)) (record { to = (omega arith, omega arith); layout = ok }))

    fits-addressed : (m : Message) → allowed n m (view_bytes n v) ≡ true → Fits (addressed n a v m)
    unfolding addressed
    fits-addressed m ok = go (is_answer m)
      where
        go : (b : Bool) → Fits (pick b (entry v m a ∷ []) (numbered n (entry v m)))
        go true = fits_one (entry v m a) (record { to = o; layout = ok })
        go false = fits-numbered n (omega arith) m ok

    pub fits-entries : (l : List Message) → ((m : Message) → m ∈ l → allowed n m (view_bytes n v) ≡ true)
        → Fits (entries_of n a v l)
    unfolding entries_of
    fits-entries [] ok = λ e x. elim x [ ]
    fits-entries (m ∷ l) ok = fits-append (addressed n a v m) (entries_of n a v l)
        (fits-addressed m (ok m (Memᴰ.head refl)))
        (fits-entries l (λ k x. ok k (Memᴰ.tail x)))
