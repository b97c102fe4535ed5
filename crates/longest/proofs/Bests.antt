-- `best_route` is the longest route that covers the address: each route of the list is met once, and a longer one that covers is kept. In a good
-- list there is one such route, so its hop is `best`, and the record that `longest_record` finds holds it.
use mathlib.Core.Path.{◌≡◌, refl, sym, ap, ◌∙◌, subst}
use mathlib.Core.Logic.{◌⊎◌, inl, inr}
use mathlib.Core.Bool.{Bool, true, false, cond, true≢false}
use mathlib.Core.List.Memᴰ
use mathlib.Core.List.{List, [], ◌∷◌, Memᴰ}
use Prim.Native.Nat.{ℕ, ◌≤◌, ◌<◌, zero-le}
use Rattle.std.specs.Prelude.{Option, Some, None}
use native.Mathlib.Omega.{arith}
use lib.Dec.{ltb}
use borrow.Author.Tests.{ltb-true, ltb-false}
use Rattle.bits.specs.Slot.{slot}
use Rattle.bits.proofs.Bools.{decided}
use Rattle.routes.specs.Route.{Good}
use Rattle.routes.specs.Record.{record_at, routes_of, GoodInput, routes_in}
use Rattle.routes.specs.declared.Route.{Route}
use Rattle.routes.proofs.Goods.{good-fine}
use Rattle.routes.proofs.Rows.{record-listed, listed-record, records-good}
use Rattle.standing.specs.Cells.{here, covers, best, Best}
use Rattle.standing.specs.Standing.{Held, absent, stood}
use Rattle.standing.proofs.Longest.{best-is}
use Rattle.standing.proofs.Paint.{same_route}
use Rattle.standing.proofs.Prefixes.{one_key, cover-here}
use Rattle.longest.specs.Best.{longer_of, best_route, hop_or0, LongestRoute, BestRoute}
use Rattle.longest.specs.Longest.{LongestRecord}

-- one more route
module _ (x : Route) (xs : List Route) (a : ℕ) where
  -- it does not cover the address
  passed : (h : Held) → covers 32 a x ≡ false → BestRoute xs a h → BestRoute (x ∷ xs) a h
  passed _ e (BestRoute.none k) = BestRoute.none (λ r m. at r (Memᴰ.cases_cons m))
    where
      at : (r : Route) → (r ≡ x) ⊎ Memᴰ r xs → covers 32 a r ≡ false
      at r (inl q) = rw q e
      at r (inr m) = k r m
  passed _ e (BestRoute.one r w) = BestRoute.one r (record {
    listed = Memᴰ.tail w.listed;
    covering = w.covering;
    longest = λ t m c. at t c (Memᴰ.cases_cons m);
  })
    where
      at : (t : Route) → covers 32 a t ≡ true → (t ≡ x) ⊎ Memᴰ t xs → t.len ≤ r.len
      at t c (inl q) = absurd (true≢false (sym c ∙ rw q e))
      at t c (inr m) = w.longest t m c

  -- it does, and none of the others that do is longer
  taken : covers 32 a x ≡ true → ((t : Route) → Memᴰ t xs → covers 32 a t ≡ true → t.len ≤ x.len) → BestRoute (x ∷ xs) a (stood x)
  taken e most = BestRoute.one x (record {
    listed = Memᴰ.head refl;
    covering = e;
    longest = λ t m c. at t c (Memᴰ.cases_cons m);
  })
    where
      at : (t : Route) → covers 32 a t ≡ true → (t ≡ x) ⊎ Memᴰ t xs → t.len ≤ x.len
      at t c (inl q) = omega (arith, ap (λ (r : Route). r.len) q)
      at t c (inr m) = most t m c

  -- it does, and one of them is longer
  kept : (r : Route) → x.len < r.len → LongestRoute xs a r → BestRoute (x ∷ xs) a (stood r)
  kept r l w = BestRoute.one r (record {
    listed = Memᴰ.tail w.listed;
    covering = w.covering;
    longest = λ t m c. at t c (Memᴰ.cases_cons m);
  })
    where
      at : (t : Route) → covers 32 a t ≡ true → (t ≡ x) ⊎ Memᴰ t xs → t.len ≤ r.len
      at t c (inl q) = omega (arith, ap (λ (r : Route). r.len) q)
      at t c (inr m) = w.longest t m c

  longer : covers 32 a x ≡ true → (h : Held) → BestRoute xs a h → BestRoute (x ∷ xs) a (longer_of x h)
  longer e _ (BestRoute.none k) = taken e (λ t m c. absurd (true≢false (sym c ∙ k t m)))
  longer e _ (BestRoute.one r w) = go (ltb x.len r.len) refl
    where
      go : (b : Bool) → ltb x.len r.len ≡ b → BestRoute (x ∷ xs) a (cond b (stood r) (stood x))
      go true l = kept r (ltb-true x.len r.len l) w
      go false l = taken e (λ t m c. omega (arith, ltb-false x.len r.len l, w.longest t m c))

pub best-route-is : (rs : List Route) (a : ℕ) → BestRoute rs a (best_route rs a)
unfolding best_route
best-route-is [] a = BestRoute.none (λ r m. absurd (Memᴰ.not-nil m))
best-route-is (x ∷ xs) a = go (decided (covers 32 a x)) (best-route-is xs a)
  where
    go : (covers 32 a x ≡ true) ⊎ (covers 32 a x ≡ false) → BestRoute xs a (best_route xs a)
        → BestRoute (x ∷ xs) a (cond (covers 32 a x) (longer_of x (best_route xs a)) (best_route xs a))
    go (inl e) w = rw e (longer x xs a e (best_route xs a) w)
    go (inr e) w = rw e (passed x xs a (best_route xs a) e w)

pub best-route-none : (rs : List Route) (a : ℕ) → ((r : Route) → Memᴰ r rs → covers 32 a r ≡ false) → best_route rs a ≡ absent
best-route-none rs a none = go (best_route rs a) (best-route-is rs a)
  where
    go : (h : Held) → BestRoute rs a h → h ≡ absent
    go _ (BestRoute.none k) = refl
    go _ (BestRoute.one r w) = absurd (true≢false (sym w.covering ∙ none r w.listed))

module _ (rs : List Route) (good : Good rs) (a : ℕ) where
  -- the longest is one route
  pub one-longest-route : (r t : Route) → LongestRoute rs a r → LongestRoute rs a t → r ≡ t
  one-longest-route r t x y =
      let e : t.len ≡ r.len = omega (arith, x.longest t y.listed y.covering, y.longest r x.listed x.covering) in
      let at-t : here r.len (slot r.len a) t ≡ true = subst (λ (l : ℕ). here l (slot l a) t ≡ true) e (cover-here a t y.covering) in
      same_route rs good r t x.listed y.listed
      (one_key r.len (slot r.len a) r t (good-fine rs good r x.listed) (good-fine rs good t y.listed) (cover-here a r x.covering) at-t)

  pub best-route-only : (r : Route) → LongestRoute rs a r → best_route rs a ≡ stood r
  best-route-only r x = go (best_route rs a) (best-route-is rs a)
    where
      go : (h : Held) → BestRoute rs a h → h ≡ stood r
      go _ (BestRoute.none k) = absurd (true≢false (sym x.covering ∙ k r x.listed))
      go _ (BestRoute.one t w) = ap stood (one-longest-route t r w x)

  -- its hop is that of the covering rule
  pub best-route-hop : hop_or0 (best_route rs a) ≡ best rs 32 a
  best-route-hop = go (best-is rs 32 a)
    where
      go : Best rs 32 a (best rs 32 a) → hop_or0 (best_route rs a) ≡ best rs 32 a
      go (Best.none z k) = ap hop_or0 (best-route-none rs a k) ∙ sym z
      go (Best.one w) =
          ap hop_or0 (best-route-only w.route (record { listed = w.listed; covering = w.covering; longest = w.longest })) ∙ sym w.its_hop

-- the route of the record that is found among those of an input, or that there is none
abbrev pub held_at : List ℕ → Option ℕ → Held
held_at s None = absent
held_at s (Some k) = stood (record_at s k)

module _ (s : List ℕ) (n a : ℕ) (ok : GoodInput s n) where
  all : routes_in s ≡ routes_of s n
  all = ap (routes_of s) (omega (arith, ok.whole))

  pub best-record : {r : Option ℕ} → LongestRecord s n a 0 r → best_route (routes_in s) a ≡ held_at s r
  best-record (LongestRecord.none clear) = rw all (best-route-none (routes_of s n) a (λ r m. go r (listed-record s n r m)))
    where
      go : (r : Route) → (j : ℕ) × (j < n) × (record_at s j ≡ r) → covers 32 a r ≡ false
      go r p = subst (λ (t : Route). covers 32 a t ≡ false) p.2 (clear p.0 p.1 zero-le)
  best-record (LongestRecord.one k u w) =
      rw all (best-route-only (routes_of s n) (records-good s n ok.records) a (record_at s k) (record {
        listed = record-listed s n k u;
        covering = w.covering;
        longest = λ t m c. go t c (listed-record s n t m);
      }))
    where
      go : (t : Route) → covers 32 a t ≡ true → (j : ℕ) × (j < n) × (record_at s j ≡ t) → t.len ≤ (record_at s k).len
      go t c p =
          subst (λ (r : Route). r.len ≤ (record_at s k).len) p.2 (w.longest p.0 p.1 (subst (λ (r : Route). covers 32 a r ≡ true) (sym p.2) c))
