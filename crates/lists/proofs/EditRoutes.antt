-- A route put into a good list at its place, and one taken out of it, by places.
use mathlib.Core.Path.{◌≡◌, refl, sym, ap, ap₂, ◌∙◌}
use mathlib.Core.Logic.{◌⊎◌, inl, inr, ◌≢◌}
use mathlib.Core.Bool.{Bool, true, false, cond, or-true}
use mathlib.Core.List.{List, [], ◌∷◌, ◌++◌}
use Prim.Native.Nat.{ℕ, zero, suc, ◌+◌, ◌-◌, ◌≤◌, ◌<◌, suc-le-suc, zero-le}
use native.Mathlib.Nat.{not-suc-le-zero, le_of_suc-le-suc}
use native.Mathlib.Omega.{arith}
use lib.ListN.{length, get_or, set, take, drop, length-drop, drop_of_length-le, get_or-append}
use lib.Seq.{drop-cons, split_at, set_split, length-take-le, get_or-take, get_or-drop, get_or-append-add, get_or_at}
use borrow.Author.Tests.{eq-eqb, ne_eqb}
use Rattle.bits.proofs.Bools.{below?}
use Rattle.routes.specs.Route.{key, Good}
use Rattle.standing.specs.Cells.{any}
use Rattle.standing.specs.Standing.{is_at, stands, insert, remove}
use Rattle.routes.specs.Record.{no_route}
use Rattle.routes.specs.declared.Route.{Route}
use Rattle.standing.proofs.Changed.{remove_absent}
use Rattle.standing.proofs.Standing.{insert-before, insert-same, insert-after}
use Rattle.routes.proofs.Rows.{good-rises}

-- routes of smaller keys stay before the new one
past : (r : Route) (rs : List Route) (k : ℕ) → k ≤ length rs → ((i : ℕ) → i < k → key (get_or rs i no_route) < key r) → insert r rs
    ≡ take k rs ++ insert r (drop k rs)
past r rs zero l h = refl
past r [] (suc k) l h = absurd (not-suc-le-zero l)
past r (x ∷ xs) (suc k) l h =
    insert-after r x xs (h 0 (suc-le-suc zero-le)) ∙ ap (λ (t : List Route). x ∷ t) (past r xs k (le_of_suc-le-suc l) (λ i u. h (suc i) (suc-le-suc u)))

-- a list that was cut at k and joined with another rest
module _ (rs ys : List Route) (k : ℕ) (l : k ≤ length rs) where
  joined-before : (q : ℕ) → q < k → get_or (take k rs ++ ys) q no_route ≡ get_or rs q no_route
  joined-before q u = get_or-append (take k rs) ys no_route q (rw (length-take-le k rs l) u) ∙ get_or-take k rs q no_route u

  joined-from : (q : ℕ) → k ≤ q → get_or (take k rs ++ ys) q no_route ≡ get_or ys (q - k) no_route
  joined-from q u =
      let e : length (take k rs) + (q - k) ≡ q = rw (length-take-le k rs l) (omega arith) in
      ap (λ (j : ℕ). get_or (take k rs ++ ys) j no_route) (sym e) ∙ get_or-append-add (take k rs) ys (q - k) no_route

module _ (r : Route) (rs : List Route) (k : ℕ) (before : (i : ℕ) → i < k → key (get_or rs i no_route) < key r) where
  -- over the route of its prefix
  pub insert-over : k < length rs → key (get_or rs k no_route) ≡ key r → insert r rs ≡ set rs k r
  insert-over l same =
      past r rs k (omega arith) before
      ∙ ap (λ (t : List Route). take k rs ++ t) (ap (insert r) (drop-cons rs k no_route l) ∙ insert-same r _ _ same)
      ∙ sym (set_split rs k r l)

  -- between two routes
  module _ (l : k ≤ length rs) (after : k < length rs → key r < key (get_or rs k no_route)) where
    between : insert r rs ≡ take k rs ++ r ∷ drop k rs
    unfolding insert
    between = past r rs k l before ∙ ap (λ (t : List Route). take k rs ++ t) (go (below? k (length rs)))
      where
        go : (k < length rs) ⊎ (length rs ≤ k) → insert r (drop k rs) ≡ r ∷ drop k rs
        go (inl u) = rw (drop-cons rs k no_route u) (insert-before r _ _ (after u))
        go (inr u) = rw (drop_of_length-le rs u)

    pub between-before : (q : ℕ) → q < k → get_or (insert r rs) q no_route ≡ get_or rs q no_route
    between-before q u = rw between (joined-before rs _ k l q u)

    pub between-here : get_or (insert r rs) k no_route ≡ r
    between-here = rw between (get_or_at (take k rs) r (drop k rs) no_route k (length-take-le k rs l))

    pub between-after : (q : ℕ) → k < q → get_or (insert r rs) q no_route ≡ get_or rs (q - 1) no_route
    between-after q u =
        let e : q - k ≡ suc (q - 1 - k) = omega arith in
        let f : k + (q - 1 - k) ≡ q - 1 = omega arith in
        rw (between, joined-from rs (r ∷ drop k rs) k l q (omega arith), e, get_or-drop, f)

-- whether a prefix stands, by places
pub stands-some : (p : ℕ) (rs : List Route) (i : ℕ) → i < length rs → key (get_or rs i no_route) ≡ p → stands p rs ≡ true
unfolding any
stands-some p [] i l e = absurd (not-suc-le-zero l)
stands-some p (x ∷ xs) zero l e = rw (eq-eqb (key x) p e)
stands-some p (x ∷ xs) (suc i) l e = rw (stands-some p xs i (le_of_suc-le-suc l) e) (or-true (is_at p x))

pub stands-none : (p : ℕ) (rs : List Route) → ((i : ℕ) → i < length rs → key (get_or rs i no_route) ≢ p) → stands p rs ≡ false
unfolding any
stands-none p [] h = refl
stands-none p (x ∷ xs) h = rw (ne_eqb (key x) p (h 0 (suc-le-suc zero-le))) (stands-none p xs (λ i u. h (suc i) (suc-le-suc u)))

remove-append : (p : ℕ) (xs ys : List Route) → remove p (xs ++ ys) ≡ remove p xs ++ remove p ys
unfolding remove
remove-append p [] ys = refl
remove-append p (x ∷ xs) ys = go (is_at p x) (remove-append p xs ys)
  where
    go : (b : Bool) → remove p (xs ++ ys) ≡ remove p xs ++ remove p ys → cond b (remove p (xs ++ ys)) (x ∷ remove p (xs ++ ys)) ≡ cond b
        (remove p xs) (x ∷ remove p xs) ++ remove p ys
    go true e = e
    go false e = rw e

remove-head : (p : ℕ) (x : Route) (xs : List Route) → key x ≡ p → remove p (x ∷ xs) ≡ remove p xs
unfolding remove
remove-head p x xs e = rw (eq-eqb (key x) p e)

-- the route of a place is taken out, and no other
without : (rs : List Route) (k : ℕ) → Good rs → k < length rs → remove (key (get_or rs k no_route)) rs ≡ take k rs ++ drop (suc k) rs
without rs k good l =
    ap (remove p) (split_at rs k no_route l)
    ∙ remove-append p (take k rs) (get_or rs k no_route ∷ drop (suc k) rs)
    ∙ ap₂ (λ (x y : List Route). x ++ y) (absent (take k rs) (λ i u. first i (rw (length-take-le k rs (omega arith)) at u)))
    (remove-head p _ _ refl ∙ absent (drop (suc k) rs) rest)
  where
    p : ℕ
    p = key (get_or rs k no_route)

    absent : (xs : List Route) → ((i : ℕ) → i < length xs → key (get_or xs i no_route) ≢ p) → remove p xs ≡ xs
    absent xs h = remove_absent p xs (stands-none p xs h)

    first : (i : ℕ) → i < k → key (get_or (take k rs) i no_route) ≢ p
    first i u = rw (get_or-take k rs i no_route u) (λ q. omega (arith, good-rises rs good i k u l))

    rest : (i : ℕ) → i < length (drop (suc k) rs) → key (get_or (drop (suc k) rs) i no_route) ≢ p
    rest i u =
        let w : i < length rs - suc k = rw length-drop at u in
        rw get_or-drop (λ q. omega (arith, good-rises rs good k (suc k + i) (omega arith) (omega arith)))

module _ (rs : List Route) (k : ℕ) (good : Good rs) (l : k < length rs) where
  pub without-before : (q : ℕ) → q < k → get_or (remove (key (get_or rs k no_route)) rs) q no_route ≡ get_or rs q no_route
  without-before q u = rw (without rs k good l) (joined-before rs _ k (omega arith) q u)

  pub without_from : (q : ℕ) → k ≤ q → get_or (remove (key (get_or rs k no_route)) rs) q no_route ≡ get_or rs (q + 1) no_route
  without_from q u =
      let f : suc k + (q - k) ≡ q + 1 = omega arith in
      rw (without rs k good l, joined-from rs (drop (suc k) rs) k (omega arith) q u, get_or-drop, f)
