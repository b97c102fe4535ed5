-- Words of many addresses: passes over a range, and turns.
use mathlib.Core.List.{List}
use mathlib.Core.Logic.{◌⊎◌, inl, inr}
use mathlib.Core.Path.{◌≡◌, refl, ap, ◌∙◌}
use Prim.Native.Nat.{ℕ, ◌+◌, ◌≤◌, ◌<◌}
use native.Mathlib.Nat.{le_refl}
use native.Mathlib.Omega.{arith}
use lib.ListN.{length, get_or}
use Rattle.bits.specs.Tab.{tabulate}
use Rattle.bits.proofs.Tabs.{is-tabulate}
use Rattle.bits.proofs.Bools.{below?}
use Rattle.sail.specs.Geometry.{standard_geo}
use Rattle.sail_step.specs.Words.{step1, step2, step3, put, turned, Spot, LevelsReady}
use Rattle.sail_step.proofs.Words.{length-put, put_same, put_other}
use Rattle.sail_many.specs.Flows.{answer_at, Flowing, Flows, Swept, AddrRange}

-- a pass over a range, place by place
swept_none : (f : ℕ → ℕ → ℕ) (from : ℕ) (out : List ℕ) → Swept f from from out out
swept_none f from out = record { size = refl; went = λ k a b. absurd (omega arith); kept = λ k d. refl }

swept-more : (f : ℕ → ℕ → ℕ) (from i : ℕ) (out ys zs : List ℕ) → from ≤ i → i < length out → Swept f from i out ys → zs ≡ put f i ys
    → Swept f from (i + 1) out zs
swept-more f from i out ys zs a b s e = record {
  size = ap length e ∙ length-put f i ys ∙ s.size;
  went = λ k l h. ap (λ (xs : List ℕ). get_or xs k 0) e ∙ go k l h (below? k i);
  kept = λ k d. ap (λ (xs : List ℕ). get_or xs k 0) e ∙ put_other f i ys k (apart k d) ∙ s.kept k (out_of k d);
}
  where
    go : (k : ℕ) → from ≤ k → k < i + 1 → (k < i) ⊎ (i ≤ k) → get_or (put f i ys) k 0 ≡ f k (get_or out k 0)
    go k l h (inl c) = put_other f i ys k (λ q. omega arith) ∙ s.went k l c
    go k l h (inr c) =
        let q : k ≡ i = omega arith in
        rw q (put_same f i ys (omega (arith, s.size)) ∙ ap (f i) (s.kept i (inr (omega arith))))

    apart : (k : ℕ) → (k < from) ⊎ (i + 1 ≤ k) → k ≡ i → ⊥
    apart k (inl c) q = omega arith
    apart k (inr c) q = omega arith

    out_of : (k : ℕ) → (k < from) ⊎ (i + 1 ≤ k) → (k < from) ⊎ (i ≤ k)
    out_of k (inl c) = inl c
    out_of k (inr c) = inr (omega arith)

-- the loop of a pass: the words of the range before i went one step on
pub record Sweeping (f : ℕ → ℕ → ℕ) (from to : ℕ) (ads out ys : List ℕ) (i : ℕ) : Type 0 where
  pub range : AddrRange from to ads out
  pub begun : from ≤ i
  pub within : i ≤ to
  pub swept : Swept f from i out ys

pub sweeping-none : {f : ℕ → ℕ → ℕ} {from to : ℕ} {ads out : List ℕ} → AddrRange from to ads out → Sweeping f from to ads out out from
sweeping-none {f} {from} {to} {ads} {out} r = record { range = r; begun = le_refl from; within = r.order; swept = swept_none f from out }

module _ {f : ℕ → ℕ → ℕ} {from to : ℕ} {ads out ys : List ℕ} {i : ℕ} (s : Sweeping f from to ads out ys i) where
  -- the place is one of an address
  pub spot-at : i < to → Spot i ads ys
  spot-at h = record { inside = omega (arith, s.range.inside); even = s.swept.size ∙ s.range.even }

  pub sweeping-more : {zs : List ℕ} → i < to → zs ≡ put f i ys → Sweeping f from to ads out zs (i + 1)
  sweeping-more {zs} h e = record {
    range = s.range;
    begun = let l = s.begun in omega arith;
    within = omega arith;
    swept = swept-more f from i out ys zs s.begun (omega (arith, s.range.inside, s.range.even)) s.swept e;
  }

  pub sweeping-all : to ≤ i → Swept f from to out ys
  sweeping-all h = let e : i ≡ to = omega (arith, s.within) in rw e at s.swept

-- a turn
module _ (f1 : ℕ → ℕ) (f2 f3 : ℕ → ℕ → ℕ) (j : ℕ) (out : List ℕ) where
  length-turned : length (turned f1 f2 f3 j out) ≡ length out
  unfolding turned
  length-turned = length-put f3 j _ ∙ length-put f2 (j + 8) _ ∙ length-put _ (j + 16) out

  -- a place that the turn does not touch
  past : (k : ℕ) → (k ≡ j → ⊥) → (k ≡ j + 8 → ⊥) → (k ≡ j + 16 → ⊥) → get_or (turned f1 f2 f3 j out) k 0 ≡ get_or out k 0
  unfolding turned
  past k a b c = put_other f3 j _ k a ∙ put_other f2 (j + 8) _ k b ∙ put_other _ (j + 16) out k c

  module _ (room : j + 16 < length out) (s : Flowing f1 f2 f3 j out) where
    at_last : get_or (turned f1 f2 f3 j out) j 0 ≡ f3 j (f2 j (f1 j))
    unfolding turned
    at_last =
        put_same f3 j _ (omega (arith, length-put f2 (j + 8) (put (λ k _. f1 k) (j + 16) out), length-put (λ k _. f1 k) (j + 16) out))
        ∙ ap (f3 j) (put_other f2 (j + 8) _ j (λ q. omega arith) ∙ put_other _ (j + 16) out j (λ q. omega arith) ∙ s.deep j (omega arith) (omega arith))

    at_second : get_or (turned f1 f2 f3 j out) (j + 8) 0 ≡ f2 (j + 8) (f1 (j + 8))
    unfolding turned
    at_second =
        put_other f3 j _ (j + 8) (λ q. omega arith)
        ∙ put_same f2 (j + 8) _ (omega (arith, length-put (λ k _. f1 k) (j + 16) out))
        ∙ ap (f2 (j + 8)) (put_other _ (j + 16) out (j + 8) (λ q. omega arith) ∙ s.near (j + 8) (omega arith) (omega arith))

    at_first : get_or (turned f1 f2 f3 j out) (j + 16) 0 ≡ f1 (j + 16)
    unfolding turned
    at_first =
        put_other f3 j _ (j + 16) (λ q. omega arith)
        ∙ put_other f2 (j + 8) _ (j + 16) (λ q. omega arith)
        ∙ put_same _ (j + 16) out room

    pub flow-turn : Flowing f1 f2 f3 (j + 1) (turned f1 f2 f3 j out)
    flow-turn = record { done = λ k a. done k a (below? k j); deep = λ k a b. deep k a b (below? k (j + 8)); near = λ k a b. near k a b (below? k (j + 16)) }
      where
        done : (k : ℕ) → k < j + 1 → (k < j) ⊎ (j ≤ k) → get_or (turned f1 f2 f3 j out) k 0 ≡ f3 k (f2 k (f1 k))
        done k a (inl c) = past k (λ q. omega arith) (λ q. omega arith) (λ q. omega arith) ∙ s.done k c
        done k a (inr c) = let q : k ≡ j = omega arith in rw q at_last

        deep : (k : ℕ) → j + 1 ≤ k → k < j + 1 + 8 → (k < j + 8) ⊎ (j + 8 ≤ k) → get_or (turned f1 f2 f3 j out) k 0 ≡ f2 k (f1 k)
        deep k a b (inl c) = past k (λ q. omega arith) (λ q. omega arith) (λ q. omega arith) ∙ s.deep k (omega arith) c
        deep k a b (inr c) = let q : k ≡ j + 8 = omega arith in rw q at_second

        near : (k : ℕ) → j + 1 + 8 ≤ k → k < j + 1 + 16 → (k < j + 16) ⊎ (j + 16 ≤ k) → get_or (turned f1 f2 f3 j out) k 0 ≡ f1 k
        near k a b (inl c) = past k (λ q. omega arith) (λ q. omega arith) (λ q. omega arith) ∙ s.near k (omega arith) c
        near k a b (inr c) = let q : k ≡ j + 16 = omega arith in rw q at_first

-- two turns
module _ (p1 p2 : ℕ) (first second : List ℕ) (m2 : ℕ) (third : List ℕ) (m3 : ℕ) (ads : List ℕ) (j : ℕ) (out : List ℕ) where
  abbrev f1 : ℕ → ℕ
  f1 = step1 p1 first ads

  abbrev f2 : ℕ → ℕ → ℕ
  f2 = step2 p1 p2 second m2 ads

  abbrev f3 : ℕ → ℕ → ℕ
  f3 = step3 p2 third m3 ads

  pub flows-pair : (xs ys : List ℕ) → xs ≡ turned f1 f2 f3 j out → ys ≡ turned f1 f2 f3 (j + 1) xs → j + 17 < length ads
      → Flows p1 p2 first second m2 third m3 ads j out
      → Flows p1 p2 first second m2 third m3 ads (j + 2) ys
  flows-pair xs ys a b room s =
      let l : length xs ≡ length ads = ap length a ∙ length-turned f1 f2 f3 j out ∙ s.even in
      let t : Flowing f1 f2 f3 (j + 1) xs = rw a (flow-turn f1 f2 f3 j out (omega (arith, s.even)) s.flowing) in
      let u : Flowing f1 f2 f3 (j + 1 + 1) ys = rw b (flow-turn f1 f2 f3 (j + 1) xs (omega arith) t) in
      let e : j + 1 + 1 ≡ j + 2 = omega arith in
      record { even = ap length b ∙ length-turned f1 f2 f3 (j + 1) xs ∙ l; flowing = rw e at u }

  pub flows-at : (k : ℕ) → j ≡ k → Flows p1 p2 first second m2 third m3 ads j out → Flows p1 p2 first second m2 third m3 ads k out
  flows-at k e s = rw e at s

-- two turns at the standard geometry, where the levels are its own
abbrev s1 : ℕ
s1 = standard_geo.p1

abbrev s2 : ℕ
s2 = standard_geo.p2

module _ (p1 p2 : ℕ) (e1 : p1 ≡ s1) (e2 : p2 ≡ s2) (first second : List ℕ) (m2 : ℕ) (third : List ℕ) (m3 : ℕ) where
  pub ready-standard : LevelsReady p1 p2 first second m2 third m3 → LevelsReady s1 s2 first second m2 third m3
  ready-standard h = rw (e1, e2) at h

  pub standard-pair : (ads : List ℕ) (j : ℕ) (out xs ys : List ℕ)
      → xs ≡ turned (step1 s1 first ads) (step2 s1 s2 second m2 ads) (step3 s2 third m3 ads) j out
      → ys ≡ turned (step1 s1 first ads) (step2 s1 s2 second m2 ads) (step3 s2 third m3 ads) (j + 1) xs
      → j + 17 < length ads → Flows p1 p2 first second m2 third m3 ads j out → Flows p1 p2 first second m2 third m3 ads (j + 2) ys
  standard-pair ads j out xs ys a b room s = rw (e1, e2) (flows-pair s1 s2 first second m2 third m3 ads j out xs ys a b room (rw (e1, e2) at s))

-- three passes over all; the passes before the first turn and after the last
module _ (p1 p2 : ℕ) (first second : List ℕ) (m2 : ℕ) (third : List ℕ) (m3 : ℕ) (ads : List ℕ) where
  abbrev in1 : ℕ → ℕ → ℕ
  in1 k w = step1 p1 first ads k

  abbrev in2 : ℕ → ℕ → ℕ
  in2 = step2 p1 p2 second m2 ads

  abbrev in3 : ℕ → ℕ → ℕ
  in3 = step3 p2 third m3 ads

  abbrev answers : ℕ → ℕ
  answers = answer_at p1 p2 first second m2 third m3 ads

  pub few-all : (out xs ys zs : List ℕ) → length out ≡ length ads → Swept in1 0 (length ads) out xs → Swept in2 0 (length ads) xs ys → Swept in3 0
      (length ads) ys zs
      → zs ≡ tabulate (length ads) answers
  few-all out xs ys zs even a b c =
      is-tabulate 0 zs (length ads) answers (c.size ∙ b.size ∙ a.size ∙ even)
      (λ k h. c.went k (omega arith) h ∙ ap (in3 k) (b.went k (omega arith) h ∙ ap (in2 k) (a.went k (omega arith) h)))

  pub flows-begin : (out xs ys : List ℕ) → length out ≡ length ads → Swept in1 0 16 out xs → Swept in2 0 8 xs ys → Flows p1 p2 first second m2 third m3 ads 0 ys
  flows-begin out xs ys even a b = record {
    even = b.size ∙ a.size ∙ even;
    flowing = record {
      done = λ k h. absurd (omega arith);
      deep = λ k h l. b.went k h l ∙ ap (in2 k) (a.went k h (omega arith));
      near = λ k h l. b.kept k (inr h) ∙ a.went k (omega arith) l;
    };
  }

  module _ (m : ℕ) (out xs ys zs : List ℕ) (s : Flows p1 p2 first second m2 third m3 ads m out) (a : Swept in1 (m + 16) (length ads) out xs)
      (b : Swept in2 (m + 8) (length ads) xs ys)
      (c : Swept in3 m (length ads) ys zs) where
    end1 : (k : ℕ) → m + 8 ≤ k → k < length ads → (k < m + 16) ⊎ (m + 16 ≤ k) → get_or xs k 0 ≡ step1 p1 first ads k
    end1 k h l (inl d) = a.kept k (inl d) ∙ s.flowing.near k h d
    end1 k h l (inr d) = a.went k d l

    end2 : (k : ℕ) → m ≤ k → k < length ads → (k < m + 8) ⊎ (m + 8 ≤ k) → get_or ys k 0 ≡ in2 k (step1 p1 first ads k)
    end2 k h l (inl d) = b.kept k (inl d) ∙ a.kept k (inl (omega arith)) ∙ s.flowing.deep k h d
    end2 k h l (inr d) = b.went k d l ∙ ap (in2 k) (end1 k d l (below? k (m + 16)))

    end3 : (k : ℕ) → k < length ads → (k < m) ⊎ (m ≤ k) → get_or zs k 0 ≡ answers k
    end3 k l (inl d) = c.kept k (inl d) ∙ b.kept k (inl (omega arith)) ∙ a.kept k (inl (omega arith)) ∙ s.flowing.done k d
    end3 k l (inr d) = c.went k d l ∙ ap (in3 k) (end2 k d l (below? k (m + 8)))

    pub flows-end : zs ≡ tabulate (length ads) answers
    flows-end = is-tabulate 0 zs (length ads) answers (c.size ∙ b.size ∙ a.size ∙ s.even) (λ k h. end3 k h (below? k m))
