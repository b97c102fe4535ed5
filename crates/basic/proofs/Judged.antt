-- Which answer when: the calls say exactly what stands beside the condition that holds. The conditions are those of specs/Meaning.antt, each with
-- the failure of those before it.
use mathlib.Core.Path.{◌≡◌, refl, sym, ap, ◌∙◌, subst}
use mathlib.Core.Logic.{◌⊎◌, inl, inr, ◌≢◌}
use mathlib.Core.Bool.{Bool, true, false, cond, ◌&&◌, true≢false, false≢true}
use mathlib.Core.List.{List, [], ◌∷◌, Memᴰ}
use Prim.Native.Nat.{ℕ, zero, suc, ◌/◌, ◌≤◌, ◌<◌}
use native.Mathlib.Nat.{eq-or-lt_of_le, le_refl, le_step, le_of_suc-le-suc}
use native.Mathlib.Omega.{arith}
use lib.Dec.{eqb, ltb}
use lib.ListN.{length, get_or}
use borrow.Author.Tests.{ltb-true, lt-ltb, eq-eqb, ne_eqb}
use Rattle.bits.specs.Tab.{tabulate}
use Rattle.bits.proofs.Tabs.{get_d_tabulate}
use Rattle.bits.proofs.Bools.{decided, equal?, and_split, both, untrue}
use Rattle.routes.specs.Route.{Good}
use Rattle.routes.specs.Input.{hop_fine}
use Rattle.routes.specs.Record.{GoodInput, routes_in}
use Rattle.routes.specs.Said.{Said, accepted, refused, and_then, accepts}
use Rattle.routes.specs.declared.Route.{Route}
use Rattle.routes.proofs.Goods.{good-fine}
use Rattle.routes.specs.Cases.{Passes}
use Rattle.routes.proofs.Meaning.{hop-true, true-hop, good-input}
use Rattle.routes.proofs.Judged.{check-only, good-whole, bad-stops, by-input}
use Rattle.routes.proofs.Rows.{records-good}
use Rattle.standing.specs.Cells.{covers, Best}
use Rattle.standing.specs.Down.{down}
use Rattle.standing.proofs.Longest.{First, first-is, best-is}
use Rattle.standing.proofs.Downs.{down-skip, down-at}
use Rattle.basic.specs.Maps.{map_bit_for, cell_for}
use Rattle.basic.specs.Walk.{mapped, basic_walk, met_said}
use Rattle.basic.specs.Calls.{map_sizes_fit, ready_said, basic_said, hop_word, Many, many, many_of, many_after, basic_many}
use Rattle.basic.specs.Meaning.{Unready, Prepared, NoLong, FirstSet, BasicLookup, BasicLookups}
use Rattle.basic.proofs.Checks.{fit-sizes, sizes-fit, ready-is}
use Rattle.basic.proofs.Walks.{walk-maps, walk-list}

pub unready-refuses : {s bs cs : List ℕ} {x : Said} → Unready s bs cs x → accepts x ≡ false
unready-refuses (Unready.bad_input x b) = b.not_accepted
unready-refuses (Unready.bad_size n g h) = refl

-- the check before every call
module _ (s bs cs : List ℕ) where
  abbrev fits : Bool
  fits = map_sizes_fit (length bs) (length cs)

  pub unready-only : (x : Said) → Unready s bs cs x → ready_said s (length bs) (length cs) ≡ x
  unfolding ready_said
  unready-only _ (Unready.bad_input x b) = rw (check-only s x b.checked) (bad-stops x _ b.not_accepted)
  unready-only x (Unready.bad_size n g h) =
      rw (good-input s n g.whole g.records, untrue (map_sizes_fit (length bs) (length cs)) (λ t. h (fit-sizes (length bs) (length cs) t)))

  pub prepared-only : Prepared s bs cs → ready_said s (length bs) (length cs) ≡ accepted (length s / 8 ∷ [])
  prepared-only p = ready-is s (length bs) (length cs) (length s / 8) p.input p.sizes

  pub not-both : {x : Said} → Unready s bs cs x → Prepared s bs cs → ⊥
  not-both u p = false≢true (sym (unready-refuses u) ∙ ap accepts (sym (unready-only _ u) ∙ prepared-only p))

  -- one of the two
  pub ready-judged : (P : Type 0) → ((x : Said) → Unready s bs cs x → P) → (Prepared s bs cs → P) → P
  ready-judged P off on = by-input s (λ x. P) (λ x b. off x (Unready.bad_input x b)) passed
    where
      sized : (n : ℕ) → GoodInput s n → (fits ≡ true) ⊎ (fits ≡ false) → P
      sized n g (inl t) =
          let k : n ≡ length s / 8 = omega (arith, g.whole) in
          on (record { input = subst (GoodInput s) k g; sizes = fit-sizes (length bs) (length cs) t })
      sized n g (inr t) = off (refused 2) (Unready.bad_size n g (λ z. true≢false (sym (sizes-fit (length bs) (length cs) z) ∙ t)))

      passed : (n : ℕ) → Passes s n → P
      passed n g = let w = good-whole s n g in sized n (record { records = w.1; whole = w.0 }) (decided fits)

-- one level of the maps
module _ (bs cs : List ℕ) (a : ℕ) where
  set_says : (l : ℕ) → map_bit_for bs a l ≡ true → mapped bs cs a l ≡ suc (cell_for cs a l)
  unfolding mapped
  set_says l e = rw e

  clear-says : (l : ℕ) → map_bit_for bs a l ≡ false → mapped bs cs a l ≡ 0
  unfolding mapped
  clear-says l e = rw e

  -- the first set bit decides; where none is set nothing is found
  first_says : (l : ℕ) → FirstSet bs a l → down (mapped bs cs a) 17 ≡ suc (cell_for cs a l)
  first_says l f =
      down-at (mapped bs cs a) l 17 (omega (arith, f.short)) (λ q. omega (arith, set_says l f.set))
      (λ k u v. clear-says k (f.none_longer k u (omega arith)))
      ∙ set_says l f.set

  none-says : ((l : ℕ) → l ≤ 16 → map_bit_for bs a l ≡ false) → down (mapped bs cs a) 17 ≡ 0
  unfolding down
  none-says none = down-skip (mapped bs cs a) 0 17 (omega arith) (λ l u v. clear-says l (none l (omega arith)))

  -- the first of the lengths below n, from the longest on, whose bit is set
  data Met (n : ℕ) : Type 0 where
    at : (l : ℕ) → l < n → map_bit_for bs a l ≡ true → ((k : ℕ) → l < k → k < n → map_bit_for bs a k ≡ false) → Met n
    nowhere : ((l : ℕ) → l < n → map_bit_for bs a l ≡ false) → Met n

  met-below : (n : ℕ) → Met n
  met-below zero = nowhere (λ l u. absurd (omega arith))
  met-below (suc n) = go (decided (map_bit_for bs a n)) (met-below n)
    where
      one_more : (k : ℕ) → (k ≡ n) ⊎ (k < n) → map_bit_for bs a n ≡ false → (k < n → map_bit_for bs a k ≡ false) → map_bit_for bs a k ≡ false
      one_more k (inl q) e h = rw q e
      one_more k (inr l) e h = h l

      go : (map_bit_for bs a n ≡ true) ⊎ (map_bit_for bs a n ≡ false) → Met n → Met (suc n)
      go (inl e) m = at n (le_refl (suc n)) e (λ k u v. absurd (omega arith))
      go (inr e) (at l u t h) = at l (le_step u) t (λ k x y. one_more k (eq-or-lt_of_le (le_of_suc-le-suc y)) e (h k x))
      go (inr e) (nowhere h) = nowhere (λ k y. one_more k (eq-or-lt_of_le (le_of_suc-le-suc y)) e (h k))

-- one lookup
module _ (s bs cs : List ℕ) (a : ℕ) where
  prepared-walk : (w : ℕ) → Prepared s bs cs → basic_walk (routes_in s) bs cs a ≡ w → basic_said s bs cs a ≡ met_said w
  unfolding basic_said
  prepared-walk w p e = rw (prepared-only s bs cs p, e)

  hop-said : (h : ℕ) → 1 ≤ h → h ≤ 32767 → met_said (suc h) ≡ accepted (h ∷ [])
  unfolding met_said
  hop-said h l u = rw (true-hop h l u)

  no-hop-said : (h : ℕ) → (1 ≤ h → h ≤ 32767 → ⊥) → met_said (suc h) ≡ refused 13
  unfolding met_said
  no-hop-said h n = rw (untrue (hop_fine h) (λ t. let p = hop-true h t in n p.0 p.1))

  good : Prepared s bs cs → Good (routes_in s)
  good p = records-good s (length s / 8) p.input.records

  pub lookup-only : (x : Said) → BasicLookup s bs cs a x → basic_said s bs cs a ≡ x
  unfolding basic_said met_said
  lookup-only _ (BasicLookup.unready x u) =
      let e = unready-only s bs cs x u in
      ap (λ (y : Said). and_then y (met_said (basic_walk (routes_in s) bs cs a))) e ∙ bad-stops x _ (unready-refuses u)
  lookup-only _ (BasicLookup.in_list p h w l) =
      let f = good-fine (routes_in s) (good p) w.route w.listed in
      prepared-walk (suc h) p (walk-list (routes_in s) bs cs a (good p) h w l)
      ∙ hop-said h (omega (arith, w.its_hop, f.hop_one)) (omega (arith, w.its_hop, f.hop_ok))
  lookup-only _ (BasicLookup.met p none l f lo hi) = prepared-walk _ p (walk-maps (routes_in s) bs cs a none ∙ first_says bs cs a l f) ∙ hop-said _ lo hi
  lookup-only _ (BasicLookup.broken p none l f n) = prepared-walk _ p (walk-maps (routes_in s) bs cs a none ∙ first_says bs cs a l f) ∙ no-hop-said _ n
  lookup-only _ (BasicLookup.no_route p none clear) = prepared-walk 0 p (walk-maps (routes_in s) bs cs a none ∙ none-says bs cs a clear)

  -- what the lookup says is one of these
  abbrev Judged : Type 0
  Judged = BasicLookup s bs cs a (basic_said s bs cs a)

  pub lookup-judged : BasicLookup s bs cs a (basic_said s bs cs a)
  lookup-judged = ready-judged s bs cs Judged (λ x u. told (BasicLookup.unready x u)) (λ p. long p (first-is longer (routes_in s)))
    where
      longer : Route → Bool
      longer r = ltb 16 r.len && covers 32 a r

      told : {x : Said} → BasicLookup s bs cs a x → Judged
      told c = rw (lookup-only _ c) c

      hop : Prepared s bs cs → NoLong (routes_in s) a → (l : ℕ) → FirstSet bs a l
          → (hop_fine (cell_for cs a l) ≡ true) ⊎ (hop_fine (cell_for cs a l) ≡ false) → Judged
      hop p none l f (inl t) = let w = hop-true _ t in told (BasicLookup.met p none l f w.0 w.1)
      hop p none l f (inr t) = told (BasicLookup.broken p none l f (λ lo hi. true≢false (sym (true-hop _ lo hi) ∙ t)))

      maps : Prepared s bs cs → NoLong (routes_in s) a → Met bs cs a 17 → Judged
      maps p none (Met.at l u t h) = hop p none l (record { short = omega arith; set = t; none_longer = λ k x y. h k x (omega arith) }) (decided _)
      maps p none (Met.nowhere h) = told (BasicLookup.no_route p none (λ l u. h l (omega arith)))

      list : Prepared s bs cs → (r : Route) → Memᴰ r (routes_in s) → 16 < r.len → covers 32 a r ≡ true → {h : ℕ} → Best (routes_in s) 32 a h → Judged
      list p r m l c (Best.none z n) = absurd (true≢false (sym c ∙ n r m))
      list p r m l c (Best.one w) = told (BasicLookup.in_list p _ w (omega (arith, w.longest r m c)))

      long : Prepared s bs cs → First longer (routes_in s) → Judged
      long p (First.found r m t z) =
          let q = and_split (ltb 16 r.len) (covers 32 a r) t in
          list p r m (ltb-true 16 r.len q.0) q.1 (best-is (routes_in s) 32 a)
      long p (First.nothing z n) =
          maps p (λ r m l. untrue (covers 32 a r) (λ c. true≢false (sym (both (lt-ltb 16 r.len l) c) ∙ n r m))) (met-below bs cs a 17)

-- many
module _ (s bs cs ads ws : List ℕ) where
  pub many-only : (x : Said) → BasicLookups s bs cs ads ws x → (basic_many s bs cs ads ws).said ≡ x
  unfolding basic_many many_of
  many-only _ (BasicLookups.unready x u) = rw (unready-only s bs cs x u) (off x (unready-refuses u))
    where
      off : (x : Said) → accepts x ≡ false → (many_after x (many_of s bs cs ads ws) ws).said ≡ x
      off (Said.accepted vs) h = absurd (true≢false h)
      off (Said.refused n) h = refl
      off (Said.refused_at n k) h = refl
  many-only x (BasicLookups.uneven p n) = rw (prepared-only s bs cs p, ne_eqb (length ws) (length ads) n)
  many-only x (BasicLookups.done p e) = rw (prepared-only s bs cs p, eq-eqb (length ws) (length ads) e)

  pub many-judged : BasicLookups s bs cs ads ws (basic_many s bs cs ads ws).said
  many-judged = ready-judged s bs cs Said-is (λ x u. told (BasicLookups.unready x u)) (λ p. go p (equal? (length ws) (length ads)))
    where
      Said-is : Type 0
      Said-is = BasicLookups s bs cs ads ws (basic_many s bs cs ads ws).said

      told : {x : Said} → BasicLookups s bs cs ads ws x → Said-is
      told c = rw (many-only _ c) c

      go : Prepared s bs cs → (length ws ≡ length ads) ⊎ (length ws ≢ length ads) → Said-is
      go p (inl e) = told (BasicLookups.done p e)
      go p (inr n) = told (BasicLookups.uneven p n)

  -- where it is done, each word is what one lookup answers
  many-done : Prepared s bs cs → length ws ≡ length ads
      → (basic_many s bs cs ads ws).words ≡ tabulate (length ads) (λ k. hop_word (basic_said s bs cs (get_or ads k 0)))
  unfolding basic_many many_of
  many-done p e = rw (prepared-only s bs cs p, eq-eqb (length ws) (length ads) e)

  pub many-words : accepts (basic_many s bs cs ads ws).said ≡ true → (k : ℕ) → k < length ads
      → get_or (basic_many s bs cs ads ws).words k 0 ≡ hop_word (basic_said s bs cs (get_or ads k 0))
  many-words e k u = go many-judged e
    where
      Word-is : Type 0
      Word-is = get_or (basic_many s bs cs ads ws).words k 0 ≡ hop_word (basic_said s bs cs (get_or ads k 0))

      go : {x : Said} → BasicLookups s bs cs ads ws x → accepts x ≡ true → Word-is
      go (BasicLookups.unready x n) h = absurd (true≢false (sym h ∙ unready-refuses n))
      go (BasicLookups.uneven p n) h = absurd (false≢true h)
      go (BasicLookups.done p q) h = ap (λ (ys : List ℕ). get_or ys k 0) (many-done p q) ∙ get_d_tabulate (length ads) _ k 0 u

-- "A refusal returns its number": the words are as before the call
pub refused-leaves-words : (s bs cs ads ws : List ℕ) → accepts (basic_many s bs cs ads ws).said ≡ false → (basic_many s bs cs ads ws).words ≡ ws
unfolding basic_many many_of
refused-leaves-words s bs cs ads ws e = go (ready_said s (length bs) (length cs)) (eqb (length ws) (length ads)) e
  where
    either : Bool → Many
    either t = cond t (many (accepted []) (tabulate (length ads) (λ k. hop_word (basic_said s bs cs (get_or ads k 0))))) (many (refused 2) ws)

    go : (x : Said) (t : Bool) → accepts (many_after x (either t) ws).said ≡ false → (many_after x (either t) ws).words ≡ ws
    go (Said.accepted vs) true q = absurd (true≢false q)
    go (Said.accepted vs) false q = refl
    go (Said.refused n) t q = refl
    go (Said.refused_at n k) t q = refl
