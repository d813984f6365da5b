-- Refusals 1, 2, 7, 9 and 12 do not come up in a run.
use Prim.Native.Nat.{ℕ, ◌-◌}
use native.Mathlib.Decide.{dec_le}
use mathlib.Core.Path.{◌≡◌, refl, sym, subst}
use mathlib.Core.Bool.{Bool, true, ◌&&◌}
use mathlib.Core.List.{List, [], ◌∷◌}
use Rattle.logs.specs.Update.{upd2}
use Rattle.octets.specs.Answer.{Answer, returned, refused}
use Rattle.view.specs.declared.View.{View}
use Rattle.step.specs.declared.Ending.{Ending}
use Rattle.events.specs.Event.{Result}
use Rattle.history.specs.Message as M
use Rattle.history.specs.Event as H
use Rattle.algorithm.specs.Algorithm as A
use Rattle.eqaso.specs.Cluster as K
use Rattle.mirror.specs.SameResult.{response_of, SameResult}
use Rattle.mirror.specs.Run.{in_run, ComesUp}

-- The same of the algorithm's answer.
abbrev Given : H.Response → Type 0
Given (H.accepted e) = Unit {0}
Given (H.refused k) = in_run k ≡ true

record Answers (r : K.Result) : Type 0 where
  given : Given r.answer

module _ (n f : ℕ) (room : ℕ → Bool) (σ : K.Cluster) where
  demands : {P : Type 0} (d : Dec P) (k : ℕ) → in_run k ≡ true → {r : K.Result} → Answers r → Answers (K.demand d k σ r)
  demands (yes p) k e h = h
  demands (no p) k e h = record { given = e }

  settles : (c : ℕ) (x : H.Extent) (s : A.Step) (q : ℕ → ℕ → List M.Message) → Answers (K.settle n room c x s q σ)
  settles c x s q =
      let r : K.Result = K.commit c x s (K.shortened x (K.entries n s.sent)) q σ in
      let h : Answers r = record { given = tt } in
      demands (K.holds (K.roomy room c n r.cluster.channel)) 11 refl h

  answers : (e : H.Event) → Answers (K.event n f room e σ)
  unfolding K.event
  answers (H.begin c op x) =
      demands (K.holds (K.is_node n c)) 3 refl
      (demands (K.holds (K.stands σ c)) 4 refl
      (demands (K.holds (K.is_idle (σ.nodes c).wait)) 5 refl
      (demands (dec_le 5 (A.limit - (σ.nodes c).request)) 6 refl
      (demands (K.holds (K.may_cut n f x σ)) 10 refl
      (settles c x (A.begin_step n f c op (σ.nodes c)) σ.channel)))))
  answers (H.deliver a b x) =
      demands (K.holds (K.is_node n a && K.is_node n b)) 3 refl
      (demands (K.holds (K.stands σ b)) 4 refl (first (σ.channel a b)))
    where
      first : (l : List M.Message) → Answers (K.deliver_first n f room a b x σ l)
      first [] = record { given = refl }
      first (m ∷ rest) = demands (K.holds (K.may_cut n f x σ)) 10 refl
          (settles b x (A.message_step n f b a m (σ.nodes b)) (upd2 σ.channel a b rest))
  answers (H.stop c) =
      let r : K.Result = K.commit c (H.cut 0) (A.still (σ.nodes c)) [] σ.channel σ in
      let h : Answers r = record { given = tt } in
      demands (K.holds (K.is_node n c)) 3 refl
      (demands (K.holds (K.stands σ c)) 4 refl (demands (K.holds (K.may_stop n f σ)) 10 refl h))

pub comes-up : (n f : ℕ) (room : ℕ → Bool) (σ : K.Cluster) (e : H.Event) (r : Result)
    → SameResult n f r (K.event n f room e σ) → ComesUp r.answer
comes-up n f room σ e r same = go r.answer r.view same.answer
  where
    go : (x : Answer Ending) (v : View) → response_of n v x ≡ (K.event n f room e σ).answer → ComesUp x
    go (returned y) v h = tt
    go (refused k) v h = subst Given (sym h) (answers n f room σ e).given
