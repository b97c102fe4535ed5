-- The bytes of a list after a record was put into it, or taken out of it.
use mathlib.Core.Path.{◌≡◌, refl, sym, ap, ◌∙◌}
use mathlib.Core.Logic.{◌⊎◌, inl, inr, ◌≢◌}
use mathlib.Core.List.{List, ◌++◌}
use Prim.Native.Nat.{ℕ, zero, suc, ◌+◌, ◌-◌, ◌*◌, ◌/◌, ◌%◌, ◌≤◌, ◌<◌}
use native.Mathlib.Omega.{arith}
use lib.ListN.{length, get_or, set, take, drop, length-append, length-drop, length-set, get_or-append, get_or-eq_default}
use lib.Seq.{ext_get_or, get_or-set_same, get_or-set_other, get_or-take, get_or-drop, length-take-le, get_or-append-add}
use Rattle.bits.proofs.Bools.{below?, equal?}
use Rattle.moves.specs.Moves.{moved_up, moved_down}
use Rattle.moves.proofs.Draws.{length-drawn, drawn-in, drawn-before, drawn-after}
use Rattle.routes.specs.Route.{key, Good}
use Rattle.standing.specs.Standing.{insert, remove}
use Rattle.routes.specs.Record.{record_at, bytes_of, put_at, routes_of, no_route, written, Listed}
use Rattle.routes.specs.declared.Route.{Route}
use Rattle.standing.proofs.Standing.{insert-length, remove-length}
use Rattle.routes.proofs.Puts.{put_byte}
use Rattle.routes.proofs.Rows.{length-routes, nth-route, records-good, length-written, byte-written, zero-written, listed-written}
use Rattle.lists.specs.Edit.{inserted, removed, InsertAt, ReplaceAt, RemoveAt}
use Rattle.lists.proofs.EditRoutes.{insert-over, between-before, between-here, between-after, without-before, without_from}

-- the other bytes stay where a record is put
module _ (s : List ℕ) (k : ℕ) (r : Route) (room : (k + 1) * 8 ≤ length s) where
  front : length (take (k * 8) s ++ bytes_of r) ≡ k * 8 + 8
  unfolding bytes_of
  front = length-append (take (k * 8) s) (bytes_of r) ∙ ap (λ (x : ℕ). x + 8) (length-take-le (k * 8) s (omega arith))

  pub length-put : length (put_at s k r) ≡ length s
  unfolding put_at
  length-put = rw (length-append, front, length-drop) (omega arith)

  pub put-before : (j : ℕ) → j < k * 8 → get_or (put_at s k r) j 0 ≡ get_or s j 0
  unfolding put_at
  put-before j l =
      let f : length (take (k * 8) s) ≡ k * 8 = length-take-le (k * 8) s (omega arith) in
      get_or-append (take (k * 8) s ++ bytes_of r) (drop (k * 8 + 8) s) 0 j (rw front (omega arith))
      ∙ get_or-append (take (k * 8) s) (bytes_of r) 0 j (omega arith)
      ∙ get_or-take (k * 8) s j 0 l

  pub put-after : (j : ℕ) → k * 8 + 8 ≤ j → get_or (put_at s k r) j 0 ≡ get_or s j 0
  unfolding put_at
  put-after j l =
      let e : length (take (k * 8) s ++ bytes_of r) + (j - (k * 8 + 8)) ≡ j = rw front (omega arith) in
      ap (λ (i : ℕ). get_or (take (k * 8) s ++ bytes_of r ++ drop (k * 8 + 8) s) i 0) (sym e)
      ∙ get_or-append-add (take (k * 8) s ++ bytes_of r) (drop (k * 8 + 8) s) (j - (k * 8 + 8)) 0
      ∙ get_or-drop (k * 8 + 8) s (j - (k * 8 + 8)) 0
      ∙ ap (λ (i : ℕ). get_or s i 0) (omega arith)

-- past its routes a list has the bytes of no route
no_bytes : (m : ℕ) → 0 ≡ get_or (bytes_of no_route) m 0
unfolding bytes_of
no_bytes zero = refl
no_bytes (suc zero) = refl
no_bytes (suc (suc zero)) = refl
no_bytes (suc (suc (suc zero))) = refl
no_bytes (suc (suc (suc (suc zero)))) = refl
no_bytes (suc (suc (suc (suc (suc zero))))) = refl
no_bytes (suc (suc (suc (suc (suc (suc zero)))))) = refl
no_bytes (suc (suc (suc (suc (suc (suc (suc zero))))))) = refl
no_bytes (suc (suc (suc (suc (suc (suc (suc (suc m)))))))) = refl

abbrev byte_of : List Route → ℕ → ℕ → ℕ
byte_of rs q m = get_or (bytes_of (get_or rs q no_route)) m 0

module _ (rs : List Route) (room : ℕ) (fits : length rs ≤ room) where
  any-byte : (q m : ℕ) → q < room → m < 8 → get_or (written rs room) (q * 8 + m) 0 ≡ byte_of rs q m
  any-byte q m h l = go (below? q (length rs))
    where
      go : (q < length rs) ⊎ (length rs ≤ q) → get_or (written rs room) (q * 8 + m) 0 ≡ byte_of rs q m
      go (inl u) = byte-written rs room q m u fits l
      go (inr u) = zero-written rs room (q * 8 + m) (omega arith) (omega arith) ∙ no_bytes m ∙ ap (λ (r : Route). get_or (bytes_of r) m 0)
          (sym (get_or-eq_default rs no_route u))

  -- a list with the bytes of routes, record by record, is what they write
  is-written : (s : List ℕ) → length s ≡ room * 8 → ((q m : ℕ) → q < room → m < 8 → get_or s (q * 8 + m) 0 ≡ byte_of rs q m) → s ≡ written rs room
  is-written s e h = ext_get_or 0 s (written rs room) (e ∙ sym (length-written rs room)) (λ j u. at j (rw e at u))
    where
      at : (j : ℕ) → j < room * 8 → get_or s j 0 ≡ get_or (written rs room) j 0
      at j u =
          let d : j / 8 * 8 + j % 8 ≡ j = omega arith in
          rw d at (h (j / 8) (j % 8) (omega arith) (omega arith) ∙ sym (any-byte (j / 8) (j % 8) (omega arith) (omega arith)))

module _ (s : List ℕ) (n : ℕ) where
  -- byte by byte, the list before a change
  old : ((j : ℕ) → get_or s j 0 < 256) → Listed s n → (q m : ℕ) → q < length s / 8 → m < 8 → get_or s (q * 8 + m) 0 ≡ byte_of (routes_of s n) q m
  old bytes listed q m h l =
      ap (λ (t : List ℕ). get_or t (q * 8 + m) 0) (listed-written s n bytes listed)
      ∙ any-byte (routes_of s n) (length s / 8) (rw length-routes (omega (arith, listed.records.room))) q m h l

  -- and past the routes
  none : (q : ℕ) → n ≤ q → get_or (routes_of s n) q no_route ≡ no_route
  none q u = get_or-eq_default (routes_of s n) no_route (rw length-routes u)

pub inserted-at : (s : List ℕ) (n k : ℕ) (r : Route) → ((j : ℕ) → get_or s j 0 < 256) → InsertAt s n k r
    → put_at (moved_up s (k * 8) (n * 8) 8) k r ≡ inserted s n r
inserted-at s n k r bytes ok =
    is-written (insert r rs) (length s / 8) (omega (arith, insert-length r rs, length-routes s n, ok.room)) (put_at moved k r)
    (length-put moved k r room ∙ length-drawn 0 s _ _ _ ∙ omega (arith, ok.listed.whole))
    (λ q m h l. at q m h l (below? q k) (equal? q k) (below? (q - 1) n))
  where
    rs : List Route
    rs = routes_of s n

    moved : List ℕ
    moved = moved_up s (k * 8) (n * 8) 8

    place : k ≤ length rs
    place = rw length-routes ok.place

    before : (i : ℕ) → i < k → key (get_or rs i no_route) < key r
    before i u = rw (nth-route s n i (omega (arith, ok.place))) (ok.before i u)

    after : k < length rs → key r < key (get_or rs k no_route)
    after u = let v : k < n = rw length-routes at u in rw (nth-route s n k v) (ok.after v)

    room : (k + 1) * 8 ≤ length moved
    room = rw length-drawn (omega (arith, ok.room, ok.place))

    at : (q m : ℕ) → q < length s / 8 → m < 8 → (q < k) ⊎ (k ≤ q) → (q ≡ k) ⊎ (q ≢ k) → (q - 1 < n) ⊎ (n ≤ q - 1) → get_or (put_at moved k r)
        (q * 8 + m) 0 ≡ byte_of (insert r rs) q m
    at q m h l (inl u) e p =
        put-before moved k r room (q * 8 + m) (omega arith)
        ∙ drawn-before 0 s _ (k * 8 + 8) (n * 8 + 8) (q * 8 + m) (omega arith) (omega arith)
        ∙ rw (between-before r rs k before place after q u) (old s n bytes ok.listed q m h l)
    at q m h l (inr u) (inl e) p = rw (e, between-here r rs k before place after) (put_byte moved k r room m l)
    at q m h l (inr u) (inr e) (inl p) =
        let d : q * 8 + m - 8 ≡ (q - 1) * 8 + m = omega (arith, e) in
        put-after moved k r room (q * 8 + m) (omega (arith, e))
        ∙ drawn-in 0 s _ (k * 8 + 8) (n * 8 + 8) (q * 8 + m) (omega arith) (omega (arith, e)) (omega arith)
        ∙ rw (d, between-after r rs k before place after q (omega (arith, e))) (old s n bytes ok.listed (q - 1) m (omega arith) l)
    at q m h l (inr u) (inr e) (inr p) =
        put-after moved k r room (q * 8 + m) (omega (arith, e))
        ∙ drawn-after 0 s _ (k * 8 + 8) (n * 8 + 8) (q * 8 + m) (omega arith) (omega (arith, e))
        ∙ rw (between-after r rs k before place after q (omega (arith, e)), none s n (q - 1) p, ← none s n q (omega arith)) (old s n bytes ok.listed q m h l)

pub replaced-at : (s : List ℕ) (n k : ℕ) (r : Route) → ((j : ℕ) → get_or s j 0 < 256) → ReplaceAt s n k r → put_at s k r ≡ inserted s n r
replaced-at s n k r bytes ok =
    is-written (set rs k r) (length s / 8) (rw (length-set, length-routes) (omega arith)) (put_at s k r)
    (length-put s k r room ∙ omega (arith, ok.listed.whole))
    (λ q m h l. at q m h l (below? q k) (equal? q k))
    ∙ ap (λ (x : List Route). written x (length s / 8)) (sym (insert-over r rs k before place (ap key (nth-route s n k ok.place) ∙ ok.same)))
  where
    rs : List Route
    rs = routes_of s n

    place : k < length rs
    place = rw length-routes ok.place

    room : (k + 1) * 8 ≤ length s
    room = omega (arith, ok.listed.records.room, ok.place)

    before : (i : ℕ) → i < k → key (get_or rs i no_route) < key r
    before i u = rw (nth-route s n i (omega (arith, ok.place)), ← ok.same) (ok.listed.records.rises i k u ok.place)

    at : (q m : ℕ) → q < length s / 8 → m < 8 → (q < k) ⊎ (k ≤ q) → (q ≡ k) ⊎ (q ≢ k) → get_or (put_at s k r) (q * 8 + m) 0 ≡ byte_of (set rs k r) q m
    at q m h l u (inl e) = rw (e, get_or-set_same rs k r no_route place) (put_byte s k r room m l)
    at q m h l (inl u) (inr e) = put-before s k r room (q * 8 + m) (omega arith) ∙ rw (get_or-set_other rs k q r no_route e) (old s n bytes ok.listed q m h l)
    at q m h l (inr u) (inr e) = put-after s k r room (q * 8 + m) (omega (arith, e)) ∙ rw (get_or-set_other rs k q r no_route e)
        (old s n bytes ok.listed q m h l)

pub removed-at : (s : List ℕ) (n k : ℕ) → ((j : ℕ) → get_or s j 0 < 256) → RemoveAt s n k → put_at (moved_down s (k * 8) ((n - 1) * 8) 8) (n - 1) no_route
    ≡ removed s n (key (record_at s k))
removed-at s n k bytes ok =
    is-written (remove (key (get_or rs k no_route)) rs) (length s / 8)
    (omega (arith, remove-length (key (get_or rs k no_route)) rs, length-routes s n, ok.listed.records.room))
    (put_at moved (n - 1) no_route)
    (length-put moved (n - 1) no_route room ∙ length-drawn 0 s _ _ _ ∙ omega (arith, ok.listed.whole))
    (λ q m h l. at q m h l (below? q k) (below? q (n - 1)) (equal? q (n - 1)))
    ∙ ap (λ (x : Route). removed s n (key x)) (nth-route s n k ok.place)
  where
    rs : List Route
    rs = routes_of s n

    good : Good rs
    good = records-good s n ok.listed.records

    place : k < length rs
    place = rw length-routes ok.place

    moved : List ℕ
    moved = moved_down s (k * 8) ((n - 1) * 8) 8

    room : (n - 1 + 1) * 8 ≤ length moved
    room = rw length-drawn (omega (arith, ok.listed.records.room, ok.place))

    at : (q m : ℕ) → q < length s / 8 → m < 8 → (q < k) ⊎ (k ≤ q) → (q < n - 1) ⊎ (n - 1 ≤ q) → (q ≡ n - 1) ⊎ (q ≢ n - 1)
        → get_or (put_at moved (n - 1) no_route) (q * 8 + m) 0 ≡ byte_of (remove (key (get_or rs k no_route)) rs) q m
    at q m h l (inl u) v e =
        put-before moved (n - 1) no_route room (q * 8 + m) (omega (arith, ok.place))
        ∙ drawn-before 0 s _ (k * 8) ((n - 1) * 8) (q * 8 + m) (omega arith) (omega arith)
        ∙ rw (without-before rs k good place q u) (old s n bytes ok.listed q m h l)
    at q m h l (inr u) (inl v) e =
        let d : q * 8 + m + 8 ≡ (q + 1) * 8 + m = omega arith in
        put-before moved (n - 1) no_route room (q * 8 + m) (omega arith)
        ∙ drawn-in 0 s _ (k * 8) ((n - 1) * 8) (q * 8 + m) (omega arith) (omega arith) (omega arith)
        ∙ rw (d, without_from rs k good place q u) (old s n bytes ok.listed (q + 1) m (omega (arith, ok.listed.records.room)) l)
    at q m h l (inr u) (inr v) (inl e) =
        rw (e, without_from rs k good place (n - 1) (omega (arith, ok.place)), none s n (n - 1 + 1) (omega arith)) (put_byte moved (n - 1) no_route room m l)
    at q m h l (inr u) (inr v) (inr e) =
        put-after moved (n - 1) no_route room (q * 8 + m) (omega (arith, e))
        ∙ drawn-after 0 s _ (k * 8) ((n - 1) * 8) (q * 8 + m) (omega arith) (omega arith)
        ∙ rw (without_from rs k good place q u, none s n (q + 1) (omega (arith, e)), ← none s n q (omega (arith, e))) (old s n bytes ok.listed q m h l)
