-- A cell of a deeper level needs only the routes under the cell that holds it, and the hop of that.
use mathlib.Core.Path.{◌≡◌, refl, sym, ap, ◌∙◌}
use mathlib.Core.Bool.{Bool, true, false, cond, true≢false}
use mathlib.Core.List.{List, [], ◌∷◌, Memᴰ}
use Prim.Native.Nat.{ℕ, zero, suc, ◌+◌, ◌-◌, ◌*◌, ◌/◌, ◌^◌, ◌≤◌, ◌<◌}
use native.Mathlib.Nat.{not-suc-le-zero}
use native.Mathlib.Decide.{dec_le}
use native.Mathlib.Omega.{arith}
use lib.Dec.{eqb}
use lib.ListN.{length, get_or, take, drop, length-map, get_or-map}
use lib.Seq.{take-nil, drop-nil}
use lib.Pow.{shr-shr, high}
use borrow.Author.Tests.{le-leb, lt-leb, lt-ltb, eq-eqb}
use Rattle.bits.specs.Slot.{slot}
use Rattle.bits.proofs.Tabs.{tabulate-ext}
use Rattle.bits.proofs.Bools.{both, untrue}
use Rattle.routes.specs.Route.{key, Fine, Good}
use Rattle.standing.specs.Cells.{covers, within, any, long, best, last_hop}
use Rattle.routes.specs.Record.{no_route}
use Rattle.routes.specs.declared.Route.{Route}
use Rattle.standing.proofs.Levels.{within-up}
use Rattle.standing.proofs.Paint.{slot-cover, best-last}
use Rattle.chain.specs.Words.{route_of_word, routes_of_words, Words}
use Rattle.chain.specs.Place.{Run}
use Rattle.chain.proofs.Decodes.{words-good}
use Rattle.plan.specs.Plan.{plan, planned, plan_from, planned_from}
use Rattle.plan.specs.Under.{under}
use Rattle.plan.proofs.Plans.{within-parts, none_after}

-- after a route within a cell, the hop stays
hop-stays : (p i : ℕ) (r : Route) (rs : List Route) (d : ℕ) → Fine r → Good rs → ((s : Route) → Memᴰ s rs → key r < key s) → within p i r ≡ true
    → last_hop (covers p i) rs d ≡ d
unfolding last_hop Good
hop-stays p i r [] d f g up w = refl
hop-stays p i r (s ∷ rs) d f g up w =
    rw (none_after p i r s f g.0 (up s (Memᴰ.head refl)) w)
    (hop-stays p i r rs d f g.2 (λ t m. up t (Memᴰ.tail m)) w)

module _ (l p c : ℕ) (h : l ≤ p) (hp : p ≤ 32) where
  -- the cell of level l that holds cell c of level p
  abbrev up : ℕ
  up = c / 2 ^ (p - l)

  -- a route of at most l bits covers the one where it covers the other
  short-same : (r : Route) → r.len ≤ l → covers p c r ≡ covers l up r
  short-same r k =
      rw (le-leb r.len l k, le-leb r.len p (omega arith))
      (ap (λ (n : ℕ). eqb (slot r.len r.addr) n) (sym (shr-shr c (p - l) (l - r.len) ∙ ap (λ (n : ℕ). c / 2 ^ n) (omega arith))))

  -- a longer one that covers or is long at c lies within the cell above
  covers-within : (r : Route) → Fine r → l < r.len → covers p c r ≡ true → within l up r ≡ true
  covers-within r f k e = both (lt-ltb l r.len k) (eq-eqb _ _ (slot-cover p c l r f.prefix.len_ok e (omega arith)))

  within-within : (r : Route) → within p c r ≡ true → within l up r ≡ true
  within-within r e = let q : l + (p - l) ≡ p = omega arith in within-up l (p - l) c (omega arith) r (rw q e)

  -- a route that does not lie within the cell above covers both or neither
  outside-same : (r : Route) → Fine r → within l up r ≡ false → covers p c r ≡ covers l up r
  outside-same r f e = go (dec_le r.len l)
    where
      go : Dec (r.len ≤ l) → covers p c r ≡ covers l up r
      go (yes k) = short-same r k
      go (no k) =
          untrue (covers p c r) (λ t. true≢false (sym (covers-within r f (omega arith) t) ∙ e))
          ∙ sym (rw (lt-leb r.len l (omega arith)))

  last_under : (rs : List Route) (d : ℕ) → Good rs → last_hop (covers p c) rs d ≡ last_hop (covers p c) (under l up rs) (last_hop (covers l up) rs d)
  unfolding last_hop under Good
  last_under [] d g = refl
  last_under (r ∷ rs) d g = go (within l up r) refl (λ (x : ℕ). last_under rs x g.2)
    where
      go : (b : Bool) → within l up r ≡ b
          → ((x : ℕ) → last_hop (covers p c) rs x ≡ last_hop (covers p c) (under l up rs) (last_hop (covers l up) rs x))
          → last_hop (covers p c) (r ∷ rs) d ≡ last_hop (covers p c) (cond b (r ∷ under l up rs) (under l up rs)) (last_hop (covers l up) (r ∷ rs) d)
      go true e ih =
          let stay : (x : ℕ) → last_hop (covers l up) rs x ≡ x = λ x. hop-stays l up r rs x g.0 g.2 g.1 e in
          let n : covers l up r ≡ false = let t = within-parts l up r e in rw (lt-leb r.len l (omega arith)) in
          ih _ ∙ ap (last_hop (covers p c) (under l up rs)) (stay _ ∙ rw (n, stay d))
      go false e ih = rw (outside-same r g.0 e) (ih _)

  long-under : (rs : List Route) → long rs p c ≡ long (under l up rs) p c
  unfolding any under
  long-under [] = refl
  long-under (r ∷ rs) = go (within l up r) refl (long-under rs)
    where
      go : (b : Bool) → within l up r ≡ b → long rs p c ≡ long (under l up rs) p c → long (r ∷ rs) p c ≡ long (cond b (r ∷ under l up rs) (under l up rs)) p c
      go true e ih = rw ih
      go false e ih = rw (untrue (within p c r) (λ t. true≢false (sym (within-within r t) ∙ e))) ih

-- the cells of level p that lie in cell i of level l, from the routes under that and its hop alone
pub plan-under : (rs : List Route) (l p i c : ℕ) → Good rs → l ≤ p → p ≤ 32 → c / 2 ^ (p - l) ≡ i → plan_from (best rs l i) (under l i rs) p c ≡ plan rs p c
unfolding plan_from plan
plan-under rs l p i c g h hp e = rw (← e, ← best-last rs l (c / 2 ^ (p - l)) g, ← last_under l p c h hp rs 0 g, best-last rs p c g, ← long-under l p c h hp rs)

-- the routes under a cell, where they are exactly those from lo on, n of them
under-run : (l i : ℕ) (rs : List Route) (lo n : ℕ)
    → ((j : ℕ) → j < lo → j < length rs → within l i (get_or rs j no_route) ≡ false)
    → ((j : ℕ) → lo ≤ j → j < lo + n → j < length rs → within l i (get_or rs j no_route) ≡ true)
    → ((j : ℕ) → lo + n ≤ j → j < length rs → within l i (get_or rs j no_route) ≡ false)
    → under l i rs ≡ take n (drop lo rs)
unfolding under
under-run l i [] lo n f g h = rw (drop-nil lo, take-nil n)
under-run l i (r ∷ rs) (suc lo) n f g h =
    let e : within l i r ≡ false = f zero (omega arith) (omega arith) in
    rw e (under-run l i rs lo n (λ j a b. f (suc j) (omega arith) (omega arith)) (λ j a b c. g (suc j) (omega arith) (omega arith) (omega arith))
    (λ j a b. h (suc j) (omega arith) (omega arith)))
under-run l i (r ∷ rs) zero (suc n) f g h =
    let e : within l i r ≡ true = g zero (omega arith) (omega arith) (omega arith) in
    rw e (ap {B = List Route} (λ t. r ∷ t) (under-run l i rs zero n (λ j a b. absurd (not-suc-le-zero a))
    (λ j a b c. g (suc j) (omega arith) (omega arith) (omega arith)) (λ j a b. h (suc j) (omega arith) (omega arith))))
under-run l i (r ∷ rs) zero zero f g h =
    let e : within l i r ≡ false = h zero (omega arith) (omega arith) in
    rw e (under-run l i rs zero zero (λ j a b. absurd (not-suc-le-zero a)) (λ j a b c. absurd (omega arith)) (λ j a b. h (suc j) (omega arith) (omega arith)))

map-drop : (n : ℕ) (ws : List ℕ) → drop n (routes_of_words ws) ≡ routes_of_words (drop n ws)
map-drop zero ws = refl
map-drop (suc n) [] = refl
map-drop (suc n) (x ∷ ws) = map-drop n ws

map-take : (n : ℕ) (ws : List ℕ) → take n (routes_of_words ws) ≡ routes_of_words (take n ws)
map-take zero ws = refl
map-take (suc n) [] = refl
map-take (suc n) (x ∷ ws) = ap {B = List Route} (λ t. route_of_word x ∷ t) (map-take n ws)

module _ (ws : List ℕ) (good : Words ws) (l i lo hi : ℕ) (run : Run ws l i lo hi) where
  -- the routes under the cell are those of the run of words
  pub words-under : under l i (routes_of_words ws) ≡ routes_of_words (take (hi - lo) (drop lo ws))
  words-under =
      let q = run.from in
      under-run l i (routes_of_words ws) lo (hi - lo)
      (λ j a b. rw (get_or-map route_of_word ws j 0) (run.before j a))
      (λ j a b c. rw (get_or-map route_of_word ws j 0) (run.inside j a (omega arith)))
      (λ j a b. rw (get_or-map route_of_word ws j 0) (run.past j (omega arith) (rw length-map at b)))
      ∙ rw (map-drop, map-take)

  module _ (h p : ℕ) (lp : l ≤ p) (hp : p ≤ 32) (inherited : h ≡ best (routes_of_words ws) l i) where
    -- a cell of level p in cell i, from the run and the hop of cell i
    pub plan_run : (c : ℕ) → c / 2 ^ (p - l) ≡ i → plan_from h (routes_of_words (take (hi - lo) (drop lo ws))) p c ≡ plan (routes_of_words ws) p c
    plan_run c e = rw (← words-under, inherited) (plan-under (routes_of_words ws) l p i c (words-good ws good) lp hp e)

    -- and a block of them
    pub planned-run : (base n : ℕ) → i * 2 ^ (p - l) ≤ base → base + n ≤ i * 2 ^ (p - l) + 2 ^ (p - l)
        → planned_from h (routes_of_words (take (hi - lo) (drop lo ws))) p base n ≡ planned (routes_of_words ws) p base n
    unfolding planned_from planned
    planned-run base n a b = tabulate-ext n _ _ (λ k v. plan_run (base + k)
        (ap (λ (x : ℕ). x / 2 ^ (p - l)) (omega arith) ∙ high i (p - l) {lo = base + k - i * 2 ^ (p - l)} (omega arith)))
