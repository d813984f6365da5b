-- A block of which the node has stopped: nothing waits on its channels, and its record is as it was.
use Prim.Native.Nat.{ℕ, zero, suc, ◌+◌, ◌<◌, ◌≤◌}
use native.Mathlib.Omega.{arith}
use native.Mathlib.Decide.{ℕ_discrete}
use mathlib.Core.Path.{◌≡◌, ap, ◌∙◌}
use mathlib.Core.Bool.{true}
use mathlib.Core.List.{List, [], ◌∷◌}
use lib.Dec.{ltb}
use lib.ListN.{length, set, length-set}
use lib.Seq.{get_or-set_same}
use Rattle.octets.specs.Bytes.{part}
use Rattle.octets.specs.Loop.{up_to}
use Rattle.octets.proofs.Put.{length_part, part-other, put_one}
use Rattle.view.specs.Size.{nodes}
use Rattle.region.specs.Channel.{channel_size, clear, waiting}
use Rattle.region.specs.Record.{record_size}
use Rattle.region.proofs.Waiting.{length-clear, waiting-clear}
use Rattle.block.specs.Block.{block_size, record_place, channel_place, has_stopped, record_in, channel_in, on_channel}
use Rattle.block.specs.Block.{halt}
use Rattle.block.proofs.Changes.{channel-length, channel-flag, channel-record, channel-same, channel-other}

pub channel-size : (k : List ℕ) → length k ≡ block_size → (a : ℕ) → 1 ≤ a → a ≤ nodes → length (channel_in k a)
    ≡ channel_size
unfolding channel_in
channel-size k z a lo hi = length_part k (channel_place a) channel_size (omega arith)

module _ {A : Type 0} (g : List ℕ → A) where
  -- The channels from 1 to m are empty.
  pub record Halted (m : ℕ) (k h : List ℕ) : Type 0 where
    pub size : length h ≡ block_size
    pub stopped : has_stopped h ≡ true
    pub same-record : record_in h ≡ record_in k
    pub empty : (a : ℕ) → 1 ≤ a → a ≤ m → waiting g (channel_in h a) ≡ []

  cleared : (t : List ℕ) → length t ≡ channel_size → length (clear t) ≡ channel_size
  cleared t e = length-clear t ∙ e

  pub halted : (k : List ℕ) → length k ≡ block_size → (m : ℕ) → m ≤ nodes → Halted m k (halt m k)
  unfolding halt up_to record_in
  halted k z zero l =
      let byte : 0 < length k = omega arith in
      record {
        size = length-set k 0 1 ∙ z;
        stopped = ap (ltb 0) (get_or-set_same k 0 1 0 byte);
        same-record = ap (λ t. part t record_place record_size) (put_one k 0 1 byte)
            ∙ part-other k 0 (1 ∷ []) record_place record_size (omega arith) (λ h. absurd (omega arith))
            (λ h. omega arith);
        empty = λ a h i. absurd (omega arith);
      }
  halted k z (suc m) l = step (halted k z m (omega arith))
    where
      before : List ℕ
      before = up_to m (λ i. on_channel (i + 1) clear) (set k 0 1)

      step : Halted m k before → Halted (suc m) k (on_channel (m + 1) clear before)
      step H =
          let lo : 1 ≤ m + 1 = omega arith in
          let hi : m + 1 ≤ nodes = omega arith in
          let c : length (channel_in before (m + 1)) ≡ channel_size = channel-size before H.size (m + 1) lo hi in
          record {
            size = channel-length before H.size clear cleared (m + 1) lo hi;
            stopped = ap (ltb 0) (channel-flag before H.size clear cleared (m + 1) lo hi) ∙ H.stopped;
            same-record = channel-record before H.size clear cleared (m + 1) lo hi ∙ H.same-record;
            empty = λ a l h. elim (ℕ_discrete a (m + 1)) [
              | yes e ↦ rw e (ap (waiting g) (channel-same before H.size clear cleared (m + 1) lo hi)
                  ∙ waiting-clear g (channel_in before (m + 1)) (omega arith))
              | no e ↦ ap (waiting g) (channel-other before H.size clear cleared (m + 1) lo hi a l e)
                  ∙ H.empty a l (omega arith)
            ];
          }
