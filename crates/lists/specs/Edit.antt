-- A list of records that is changed in place: what a change asks, and what the list then holds.
use Rattle.std.specs.Prelude.{ℕ, ◌+◌, ◌-◌, ◌*◌, ◌/◌, ◌≤◌, ◌<◌, Bool, false, cond, List, ◌≡◌, length}
use Rattle.routes.specs.Route.{key, Fine}
use Rattle.standing.specs.Standing.{stands, insert, remove}
use Rattle.routes.specs.Record.{record_at, routes_of, written, Records, Listed}
use Rattle.routes.specs.declared.Route.{Route}
use Rattle.lists.specs.Place.{place_of}

-- the bytes of a list that holds n routes, with r put in, or without the route of a prefix: the array stays as long
abbrev pub inserted : List ℕ → ℕ → Route → List ℕ
inserted s n r = written (insert r (routes_of s n)) (length s / 8)

abbrev pub removed : List ℕ → ℕ → ℕ → List ℕ
removed s n p = written (remove p (routes_of s n)) (length s / 8)

-- r belongs before record k of the n in the list, and there is room for it
pub record InsertAt (s : List ℕ) (n k : ℕ) (r : Route) : Type 0 where
  pub listed : Listed s n
  pub room : (n + 1) * 8 ≤ length s
  pub place : k ≤ n
  pub before : (i : ℕ) → i < k → key (record_at s i) < key r
  pub after : k < n → key r < key (record_at s k)

-- record k has r's prefix
pub record ReplaceAt (s : List ℕ) (n k : ℕ) (r : Route) : Type 0 where
  pub listed : Listed s n
  pub place : k < n
  pub same : key (record_at s k) ≡ key r

-- there is a record k
pub record RemoveAt (s : List ℕ) (n k : ℕ) : Type 0 where
  pub listed : Listed s n
  pub place : k < n

-- k is the place of the key p among n records
pub record Placed (s : List ℕ) (n k p : ℕ) : Type 0 where
  pub records : Records s n
  pub place : k ≡ place_of s n p

-- r can be put into the list: there is room for one record more, unless r's prefix stands
pub record Insertable (s : List ℕ) (n : ℕ) (r : Route) : Type 0 where
  pub listed : Listed s n
  pub fine : Fine r
  pub room : stands (key r) (routes_of s n) ≡ false → (n + 1) * 8 ≤ length s

-- r can be put into the list, k is the place of its key, and b tells whether its prefix stands
pub record PutAt (s : List ℕ) (n k : ℕ) (b : Bool) (r : Route) : Type 0 where
  pub fits : Insertable s n r
  pub place : k ≡ place_of s n (key r)
  pub stood : b ≡ stands (key r) (routes_of s n)

-- how many routes stand with a route put in, and with one taken out, where n stood: by whether one of the prefix was among them
abbrev pub count_with : Bool → ℕ → ℕ
count_with b n = cond b n (n + 1)

abbrev pub count_without : Bool → ℕ → ℕ
count_without b n = cond b (n - 1) n

-- the list holds n routes, and they are rs
pub record ListHolds (s : List ℕ) (n : ℕ) (rs : List Route) : Type 0 where
  pub listed : Listed s n
  pub routes : routes_of s n ≡ rs
