-- A list of routes by its places: the routes of records, and the bytes of routes.
use mathlib.Core.Path.{◌≡◌, refl, sym, ◌∙◌, subst}
use mathlib.Core.Logic.{◌⊎◌, inl, inr}
use mathlib.Core.List.Memᴰ
use mathlib.Core.List.{List, [], ◌∷◌, ◌++◌, Memᴰ}
use Prim.Native.Nat.{ℕ, zero, suc, ◌+◌, ◌*◌, ◌/◌, ◌%◌, ◌≤◌, ◌<◌, suc-le-suc, zero-le}
use native.Mathlib.Nat.{not-suc-le-zero, le_of_suc-le-suc}
use native.Mathlib.Omega.{arith}
use lib.ListN.{length, get_or}
use lib.Seq.{ext_get_or}
use borrow.Author.Tests.{lt-ltb, le-ltb}
use Rattle.bits.proofs.Bools.{below?}
use Rattle.bits.proofs.Tabs.{length-tabulate, get_d_tabulate, is-tabulate, tabulate-snoc}
use Rattle.routes.specs.Route.{key, Fine, Good}
use Rattle.routes.specs.Record.{record_at, bytes_of, routes_of, no_route, written, Ranged, Records, Listed}
use Rattle.routes.specs.declared.Route.{Route}
use Rattle.routes.proofs.Goods.{good-fine}
use Rattle.routes.proofs.Puts.{bytes_read}

-- the route at a place is one of the list, and each of the list has a place
pub nth-listed : (rs : List Route) (k : ℕ) → k < length rs → Memᴰ (get_or rs k no_route) rs
nth-listed [] k h = absurd (not-suc-le-zero h)
nth-listed (r ∷ rs) zero h = Memᴰ.head refl
nth-listed (r ∷ rs) (suc k) h = Memᴰ.tail (nth-listed rs k (le_of_suc-le-suc h))

pub record StandsAt (rs : List Route) (r : Route) : Type 0 where
  pub place : ℕ
  pub inside : place < length rs
  pub holds : get_or rs place no_route ≡ r

pub listed_nth : (rs : List Route) (r : Route) → Memᴰ r rs → StandsAt rs r
listed_nth [] r m = absurd (Memᴰ.not-nil m)
listed_nth (x ∷ xs) r m = go (Memᴰ.cases_cons m) (listed_nth xs r)
  where
    go : (r ≡ x) ⊎ Memᴰ r xs → (Memᴰ r xs → StandsAt xs r) → StandsAt (x ∷ xs) r
    go (inl q) ih = record { place = 0; inside = suc-le-suc zero-le; holds = sym q }
    go (inr k) ih = let p = ih k in record { place = suc p.place; inside = suc-le-suc p.inside; holds = p.holds }

-- a list is good when each route is fine and the keys rise from place to place
pub nth-good : (rs : List Route) → ((k : ℕ) → k < length rs → Fine (get_or rs k no_route)) →
    ((i j : ℕ) → i < j → j < length rs → key (get_or rs i no_route) < key (get_or rs j no_route)) → Good rs
unfolding Good
nth-good [] f h = tt
nth-good (r ∷ rs) f h = (
  f 0 (suc-le-suc zero-le),
  (λ s m. let p = listed_nth rs s m in subst (λ (x : Route). key r < key x) p.holds (h 0 (suc p.place) (suc-le-suc zero-le) (suc-le-suc p.inside))),
  nth-good rs (λ k l. f (suc k) (suc-le-suc l)) (λ i j l u. h (suc i) (suc j) (suc-le-suc l) (suc-le-suc u)),
)

pub good-rises : (rs : List Route) → Good rs → (i j : ℕ) → i < j → j < length rs → key (get_or rs i no_route) < key (get_or rs j no_route)
unfolding Good
good-rises [] g i j l u = absurd (not-suc-le-zero u)
good-rises (r ∷ rs) g i zero l u = absurd (not-suc-le-zero l)
good-rises (r ∷ rs) g zero (suc j) l u = g.1 (get_or rs j no_route) (nth-listed rs j (le_of_suc-le-suc u))
good-rises (r ∷ rs) g (suc i) (suc j) l u = good-rises rs g.2 i j (le_of_suc-le-suc l) (le_of_suc-le-suc u)

pub nth-fine : (rs : List Route) → Good rs → (k : ℕ) → k < length rs → Fine (get_or rs k no_route)
nth-fine rs g k l = good-fine rs g (get_or rs k no_route) (nth-listed rs k l)

-- the routes of records
module _ (s : List ℕ) (n : ℕ) where
  pub length-routes : length (routes_of s n) ≡ n
  unfolding routes_of
  length-routes = length-tabulate n (record_at s)

  pub nth-route : (k : ℕ) → k < n → get_or (routes_of s n) k no_route ≡ record_at s k
  unfolding routes_of
  nth-route k l = get_d_tabulate n (record_at s) k no_route l

  -- each record is one of the routes, and each of the routes is that of a record
  pub record-listed : (k : ℕ) → k < n → Memᴰ (record_at s k) (routes_of s n)
  record-listed k l = subst (λ (r : Route). Memᴰ r (routes_of s n)) (nth-route k l) (nth-listed (routes_of s n) k (rw length-routes l))

  pub listed-record : (r : Route) → Memᴰ r (routes_of s n) → (k : ℕ) × (k < n) × (record_at s k ≡ r)
  listed-record r m =
      let p = listed_nth (routes_of s n) r m in
      let l : p.place < n = rw length-routes at p.inside in
      (p.place, l, sym (nth-route p.place l) ∙ p.holds)

  pub records-good : Records s n → Good (routes_of s n)
  records-good r =
      nth-good (routes_of s n)
      (λ k l. let h : k < n = rw length-routes at l in rw (nth-route k h) (r.each k h))
      (λ i j l u. let h : j < n = rw length-routes at u in rw (nth-route i (omega arith), nth-route j h) (r.rises i j l h))

-- one record more
pub routes-snoc : (s : List ℕ) (n : ℕ) → routes_of s (suc n) ≡ routes_of s n ++ (record_at s n ∷ [])
unfolding routes_of
routes-snoc s n = tabulate-snoc n (record_at s)

pub fine-ranged : (r : Route) → Fine r → Ranged r
fine-ranged r f = record {
  addr_fits = f.prefix.addr_ok;
  len_fits = omega (arith, f.prefix.len_ok);
  mark_fits = omega (arith, f.mark_ok);
  hop_fits = omega (arith, f.hop_ok);
}

-- the bytes of routes
pub length-written : (rs : List Route) (room : ℕ) → length (written rs room) ≡ room * 8
unfolding written
length-written rs room = length-tabulate (room * 8) _

pub byte-written : (rs : List Route) (room k m : ℕ) → k < length rs → length rs ≤ room → m < 8 → get_or (written rs room) (k * 8 + m) 0 ≡ get_or
    (bytes_of (get_or rs k no_route)) m 0
unfolding written
byte-written rs room k m h l b =
    let d : (k * 8 + m) / 8 ≡ k = omega arith in
    let e : (k * 8 + m) % 8 ≡ m = omega arith in
    get_d_tabulate (room * 8) _ (k * 8 + m) 0 (omega arith) ∙ rw (d, e, lt-ltb k (length rs) h)

pub zero-written : (rs : List Route) (room j : ℕ) → length rs * 8 ≤ j → j < room * 8 → get_or (written rs room) j 0 ≡ 0
unfolding written
zero-written rs room j l u = get_d_tabulate (room * 8) _ j 0 u ∙ rw (le-ltb (j / 8) (length rs) (omega arith))

-- what is written is read again
module _ (rs : List Route) (room : ℕ) (good : Good rs) (fits : length rs ≤ room) where
  pub record-written : (k : ℕ) → k < length rs → record_at (written rs room) k ≡ get_or rs k no_route
  record-written k h = bytes_read (written rs room) k (get_or rs k no_route) (fine-ranged _ (nth-fine rs good k h)) (λ j l. byte-written rs room k j h fits l)

  pub routes-written : routes_of (written rs room) (length rs) ≡ rs
  unfolding routes_of
  routes-written = sym (is-tabulate no_route rs (length rs) (record_at (written rs room)) refl (λ k h. sym (record-written k h)))

  pub written_listed : room ≤ 4096 → Listed (written rs room) (length rs)
  written_listed few =
      let w = length-written rs room in
      record {
        records = record {
          room = omega arith;
          few = omega arith;
          each = λ k l. rw (record-written k l) (nth-fine rs good k l);
          rises = λ i j l u. rw (record-written i (omega arith), record-written j u) (good-rises rs good i j l u);
        };
        whole = omega arith;
        zeros = λ j l u. zero-written rs room j l (omega arith);
      }

-- the bytes of a record are those of its route
pub record-bytes : (s : List ℕ) (k : ℕ) → ((j : ℕ) → get_or s j 0 < 256) → (m : ℕ) → m < 8 → get_or (bytes_of (record_at s k)) m 0 ≡ get_or s (k * 8 + m) 0
unfolding record_at bytes_of
record-bytes s k b zero h = let z : k * 8 + 0 ≡ k * 8 = omega arith in rw z (omega (arith, b (k * 8), b (k * 8 + 1), b (k * 8 + 2), b (k * 8 + 3)))
record-bytes s k b (suc zero) h = omega (arith, b (k * 8), b (k * 8 + 1), b (k * 8 + 2), b (k * 8 + 3))
record-bytes s k b (suc (suc zero)) h = omega (arith, b (k * 8), b (k * 8 + 1), b (k * 8 + 2), b (k * 8 + 3))
record-bytes s k b (suc (suc (suc zero))) h = omega (arith, b (k * 8), b (k * 8 + 1), b (k * 8 + 2), b (k * 8 + 3))
record-bytes s k b (suc (suc (suc (suc zero)))) h = refl
record-bytes s k b (suc (suc (suc (suc (suc zero))))) h = refl
record-bytes s k b (suc (suc (suc (suc (suc (suc zero)))))) h = let z : k * 8 + 6 + 1 ≡ k * 8 + 7 = omega arith in rw z
    (omega (arith, b (k * 8 + 6), b (k * 8 + 7)))
record-bytes s k b (suc (suc (suc (suc (suc (suc (suc zero))))))) h = let z : k * 8 + 6 + 1 ≡ k * 8 + 7 = omega arith in rw z
    (omega (arith, b (k * 8 + 6), b (k * 8 + 7)))
record-bytes s k b (suc (suc (suc (suc (suc (suc (suc (suc m)))))))) h = absurd (omega arith)

-- a list that holds routes is what they write
pub listed-written : (s : List ℕ) (n : ℕ) → ((j : ℕ) → get_or s j 0 < 256) → Listed s n → s ≡ written (routes_of s n) (length s / 8)
listed-written s n b t =
    let w = t.whole in
    let r = t.records.room in
    ext_get_or 0 s (written (routes_of s n) (length s / 8)) (rw length-written (omega arith)) (λ j h. go j h (below? (j / 8) n))
  where
    go : (j : ℕ) → j < length s → (j / 8 < n) ⊎ (n ≤ j / 8) → get_or s j 0 ≡ get_or (written (routes_of s n) (length s / 8)) j 0
    go j h (inl l) =
        let e : j / 8 * 8 + j % 8 ≡ j = omega arith in
        let x = byte-written (routes_of s n) (length s / 8) (j / 8) (j % 8) (rw length-routes l) (rw length-routes (omega (arith, t.records.room)))
        (omega arith) in
        let y = record-bytes s (j / 8) b (j % 8) (omega arith) in
        rw (nth-route s n (j / 8) l, y, e) at (sym x)
    go j h (inr l) = t.zeros j (omega arith) h ∙ sym (zero-written (routes_of s n) (length s / 8) j (rw length-routes (omega arith)) (omega (arith, t.whole)))
