-- What an image needs: one hop for each route; and the root with at most 8 nodes for each route, so 32,769 nodes for 4,096 routes.
use mathlib.Core.Path.{◌≡◌, refl, sym, ◌∙◌, ap, ap₂}
use mathlib.Core.Logic.{◌⊎◌, inl, inr}
use mathlib.Core.Bool.{Bool, true, false, cond, true≢false}
use mathlib.Core.List.{List, [], ◌∷◌, ◌++◌, Memᴰ}
use Prim.Native.Nat.{ℕ, zero, suc, ◌+◌, ◌-◌, ◌*◌, ◌^◌, ◌≤◌, ◌<◌}
use native.Mathlib.Nat.{le_refl, le_step, zero-add, suc-mul}
use native.Mathlib.Omega.{arith}
use lib.Dec.{ltb, leb}
use lib.ListN.{length, get_or, length-append}
use borrow.Author.Tests.{lt-ltb, leb-true, leb-false}
use Rattle.bits.specs.Count.{bit, count}
use Rattle.bits.proofs.Bools.{decided, untrue}
use Rattle.routes.specs.Route.{Good}
use Rattle.standing.specs.Cells.{here, any, first, or_else}
use Rattle.routes.specs.declared.Route.{Route}
use Rattle.routes.proofs.Goods.{good-fine}
use Rattle.tree_image.specs.Parts.{picked, gather}
use Rattle.tree_image.specs.Image.{Node, node, inner_len, bit_hop, inner, child, kids, hops_of, level, up_to, hops, through, node_stands, hop_for, node_need}
use Rattle.tree_image.proofs.Counts.{count_none, count-one}
use Rattle.tree_image.proofs.Parts.{picked-length, gather_append}
use Rattle.tree_image.proofs.Levels.{level-is}
use Rattle.standing.proofs.Prefixes.{one_key}
use Rattle.tree_image.proofs.Lies.{any-mem, pass-parts, pass-make, up-pass, kid_of, kid_at, kid_is, at_bit, bit_of, bit-at, bit-pass, bit_is}

-- g 0 + .. + g (n - 1), and F of each element of a list added up
unfoldable sums : (ℕ → ℕ) → ℕ → ℕ
sums g zero = 0
sums g (suc n) = sums g n + g n

unfoldable total : {A : Type 0} → (A → ℕ) → List A → ℕ
total F [] = 0
total F (x ∷ xs) = F x + total F xs

-- how many routes pass a test
abbrev tally : (Route → Bool) → List Route → ℕ
tally f rs = total (λ r. bit (f r)) rs

sums-ext : (f g : ℕ → ℕ) (n : ℕ) → ((i : ℕ) → i < n → f i ≡ g i) → sums f n ≡ sums g n
unfolding sums
sums-ext f g zero h = refl
sums-ext f g (suc n) h = ap₂ (λ (x y : ℕ). x + y) (sums-ext f g n (λ i l. h i (le_step l))) (h n (le_refl (suc n)))

sums-zero : (f : ℕ → ℕ) (n : ℕ) → ((i : ℕ) → i < n → f i ≡ 0) → sums f n ≡ 0
unfolding sums
sums-zero f zero h = refl
sums-zero f (suc n) h = omega (arith, sums-zero f n (λ i l. h i (le_step l)), h n (le_refl (suc n)))

sums-add : (f g : ℕ → ℕ) (n : ℕ) → sums (λ i. f i + g i) n ≡ sums f n + sums g n
unfolding sums
sums-add f g zero = refl
sums-add f g (suc n) = omega (arith, sums-add f g n)

count-sums : (f : ℕ → Bool) (n : ℕ) → sums (λ i. bit (f i)) n ≡ count f n
unfolding sums count
count-sums f zero = refl
count-sums f (suc n) = omega (arith, count-sums f n)

total-append : {A : Type 0} (F : A → ℕ) (xs ys : List A) → total F (xs ++ ys) ≡ total F xs + total F ys
unfolding total
total-append F [] ys = omega arith
total-append F (x ∷ xs) ys = omega (arith, total-append F xs ys)

total-picked : {A : Type 0} (F : A → ℕ) (f : ℕ → Bool) (g : ℕ → A) (n : ℕ) → total F (picked f g n) ≡ sums (λ c. cond (f c) (F (g c)) 0) n
unfolding sums total picked
total-picked F f g zero = refl
total-picked F f g (suc n) = total-append F (picked f g n) (cond (f n) (g n ∷ []) []) ∙ ap₂ (λ (x y : ℕ). x + y) (total-picked F f g n) (one (f n))
  where
    one : (b : Bool) → total F (cond b (g n ∷ []) []) ≡ cond b (F (g n)) 0
    one true = omega arith
    one false = refl

tally-none : (f : Route → Bool) (rs : List Route) → ((r : Route) → Memᴰ r rs → f r ≡ false) → tally f rs ≡ 0
unfolding total
tally-none f [] h = refl
tally-none f (r ∷ rs) h = omega (arith, ap bit (h r (Memᴰ.head refl)), tally-none f rs (λ s m. h s (Memᴰ.tail m)))

tally-some : (f : Route → Bool) (rs : List Route) → any f rs ≡ true → 1 ≤ tally f rs
unfolding total any
tally-some f [] e = absurd (true≢false (sym e))
tally-some f (r ∷ rs) e = go (decided (f r)) (tally-some f rs)
  where
    go : (f r ≡ true) ⊎ (f r ≡ false) → (any f rs ≡ true → 1 ≤ tally f rs) → 1 ≤ bit (f r) + tally f rs
    go (inl t) ih = omega (arith, ap bit t)
    go (inr t) ih = omega (arith, ap bit t, ih (rw t at e))

-- a route that passes through a node lies at one bit of it; any other lies at none
at_one : (m p : ℕ) (r : Route) → r.len ≤ 32 → bit (through m p r) ≡ count (λ b. at_bit m p b r) 15 + count (λ c. through (m + 1) (p * 16 + c) r) 16
at_one m p r h = go (decided (through m p r)) (decided (leb (4 * (m + 1)) r.len))
  where
    go : (through m p r ≡ true) ⊎ (through m p r ≡ false) → (leb (4 * (m + 1)) r.len ≡ true) ⊎ (leb (4 * (m + 1)) r.len ≡ false)
        → bit (through m p r) ≡ count (λ b. at_bit m p b r) 15 + count (λ c. through (m + 1) (p * 16 + c) r) 16
    go (inr o) w =
        omega (
          arith,
          ap bit o,
          count_none (λ b. at_bit m p b r) 15 (λ b l. untrue (at_bit m p b r) (λ t. true≢false (sym (bit-pass m p b r l h t).0 ∙ o))),
          count_none (λ c. through (m + 1) (p * 16 + c) r) 16
              (λ c l. untrue (through (m + 1) (p * 16 + c) r) (λ t. true≢false (sym (up-pass m p c r l h t) ∙ o))),
        )
    go (inl o) (inl w) =
        let u = leb-true (4 * (m + 1)) r.len w in
        omega (
          arith,
          ap bit o,
          count_none (λ b. at_bit m p b r) 15 (λ b l. untrue (at_bit m p b r) (λ t. omega (arith, (bit-pass m p b r l h t).1))),
          count-one (λ c. through (m + 1) (p * 16 + c) r) 16 (kid_of m r) (omega arith) (kid_at m p r h o u) (λ c l t. kid_is m p c r l t),
        )
    go (inl o) (inr w) =
        let u = leb-false (4 * (m + 1)) r.len w in
        omega (
          arith,
          ap bit o,
          count_none (λ c. through (m + 1) (p * 16 + c) r) 16
              (λ c l. untrue (through (m + 1) (p * 16 + c) r) (λ t. omega (arith, (pass-parts (m + 1) (p * 16 + c) r t).0))),
          count-one (λ b. at_bit m p b r) 15 (bit_of m r) (bit-at m p r h o u).0 (bit-at m p r h o u).1 (λ b l t. bit_is m p b r l h t),
        )

-- the routes of a node are those at its bits and those of its children
node-split : (m p : ℕ) (rs : List Route) → Good rs
    → tally (through m p) rs ≡ sums (λ b. tally (at_bit m p b) rs) 15 + sums (λ c. tally (through (m + 1) (p * 16 + c)) rs) 16
unfolding total Good
node-split m p [] g = sym (omega (arith, sums-zero (λ b. 0) 15 (λ i l. refl), sums-zero (λ b. 0) 16 (λ i l. refl)))
node-split m p (r ∷ rs) g =
    omega (
      arith,
      at_one m p r g.0.prefix.len_ok,
      node-split m p rs g.2,
      count-sums (λ b. at_bit m p b r) 15,
      count-sums (λ c. through (m + 1) (p * 16 + c) r) 16,
      sums-add (λ b. bit (at_bit m p b r)) (λ b. tally (at_bit m p b) rs) 15,
      sums-add (λ c. bit (through (m + 1) (p * 16 + c) r)) (λ c. tally (through (m + 1) (p * 16 + c)) rs) 16,
    )

-- a prefix has one route or none
own-tally : (l q : ℕ) (rs : List Route) → Good rs → tally (here l q) rs ≡ bit (ltb 0 (hop_for rs l q))
unfolding total first Good
own-tally l q [] g = refl
own-tally l q (r ∷ rs) g = go (decided (here l q r)) (own-tally l q rs g.2)
  where
    go : (here l q r ≡ true) ⊎ (here l q r ≡ false) → tally (here l q) rs ≡ bit (ltb 0 (hop_for rs l q))
        → bit (here l q r) + tally (here l q) rs ≡ bit (ltb 0 (or_else (cond (here l q r) (suc r.hop) (first (here l q) rs)) 0))
    go (inl t) ih =
        rw (t, lt-ltb 0 r.hop g.0.hop_one)
        (omega (
          arith,
          tally-none (here l q) rs (λ s m. untrue (here l q s)
              (λ u. omega (arith, g.1 s m, one_key l q r s g.0 (good-fine rs g.2 s m) t u))),
        ))
    go (inr t) ih = rw t (zero-add _ ∙ ih)

module _ (rs : List Route) (g : Good rs) where
  abbrev st : ℕ → ℕ → Bool
  st = node_stands rs

  abbrev hop : ℕ → ℕ → ℕ
  hop = hop_for rs

  -- the routes that pass through a node
  abbrev weight : Node → ℕ
  weight n = tally (through n.depth n.path) rs

  kid-weight : (m p : ℕ) → cond (st m p) (tally (through m p) rs) 0 ≡ tally (through m p) rs
  kid-weight m p = go (decided (st m p))
    where
      go : (st m p ≡ true) ⊎ (st m p ≡ false) → cond (st m p) (tally (through m p) rs) 0 ≡ tally (through m p) rs
      go (inl t) = rw t
      go (inr t) = rw t (sym (tally-none (through m p) rs (λ r k. untrue (through m p r) (λ o. true≢false (sym (any-mem (through m p) rs r k o) ∙ t)))))

  node-weight : (n : Node) → weight n ≡ length (hops_of hop n) + total weight (kids st n)
  unfolding hops_of kids bit_hop
  node-weight n =
      node-split n.depth n.path rs g
      ∙ ap₂ (λ (x y : ℕ). x + y)
      (sums-ext _ _ 15 (λ b l. own-tally (4 * n.depth + inner_len b) (n.path * 2 ^ inner_len b + (b + 1 - 2 ^ inner_len b)) rs g)
      ∙ count-sums (inner hop n) 15 ∙ sym (picked-length (inner hop n) (bit_hop hop n) 15))
      (sym (total-picked weight (child st n) (λ c. node (n.depth + 1) (n.path * 16 + c)) 16 ∙ sums-ext _ _ 16
      (λ c l. kid-weight (n.depth + 1) (n.path * 16 + c))))

  level-weight : (ns : List Node) → total weight ns ≡ length (gather (hops_of hop) ns) + total weight (gather (kids st) ns)
  unfolding total gather
  level-weight [] = refl
  level-weight (n ∷ ns) =
      omega (
        arith,
        node-weight n,
        level-weight ns,
        total-append weight (kids st n) (gather (kids st) ns),
        length-append (hops_of hop n)
            (gather (hops_of hop) ns),
      )

  -- all routes: the hops of the levels above m, and the routes that pass through level m
  all-routes : (rs' : List Route) → Good rs' → tally (through 0 0) rs' ≡ length rs'
  unfolding total Good
  all-routes [] k = refl
  all-routes (r ∷ rs') k =
      omega (arith, ap bit (pass-make 0 0 r (omega arith) (omega (arith, k.0.prefix.addr_ok))), all-routes rs' k.2)

  levels : (m : ℕ) → length rs ≡ length (gather (hops_of hop) (up_to st m)) + total weight (level st m)
  unfolding total up_to level gather
  levels zero = omega (arith, all-routes rs g)
  levels (suc m) =
      omega (
        arith,
        levels m,
        level-weight (level st m),
        ap length (gather_append (hops_of hop) (up_to st m) (level st m)),
        length-append (gather (hops_of hop) (up_to st m)) (gather (hops_of hop) (level st m)),
      )

  each : (ns : List Node) → ((i : ℕ) → i < length ns → 1 ≤ weight (get_or ns i (node 0 0))) → length ns ≤ total weight ns
  unfolding total
  each [] h = omega arith
  each (n ∷ ns) h = omega (arith, h 0 (omega arith), each ns (λ i l. h (suc i) (omega arith)))

  -- below the root a level has no more nodes than there are routes
  level-few : (m : ℕ) → length (level st (suc m)) ≤ length rs
  level-few m =
      let k = level-is rs g (suc m) in
      omega (
        arith,
        levels (suc m),
        each (level st (suc m)) (λ i l. rw (k.deep i l)
            (tally-some (through (suc m) (get_or (level st (suc m)) i (node 0 0)).path) rs (k.stand i (omega arith) l))),
      )

  few : (m : ℕ) → length (up_to st (suc m)) ≤ 1 + m * length rs
  unfolding up_to level
  few zero = omega arith
  few (suc m) = omega (arith, few m, level-few m, suc-mul m (length rs), length-append (up_to st (suc m)) (level st (suc m)))

  -- no route is longer than 32 bits
  none-nine : (ns : List Node) → ((i : ℕ) → i < length ns → (get_or ns i (node 0 0)).depth ≡ 9) → total weight ns ≡ 0
  unfolding total
  none-nine [] h = refl
  none-nine (n ∷ ns) h =
      let e : n.depth ≡ 9 = h 0 (omega arith) in
      omega (
        arith,
        tally-none (through n.depth n.path) rs
            (λ r k. untrue (through n.depth n.path r)
            (λ t. omega (arith, (pass-parts n.depth n.path r t).0, (good-fine rs g r k).prefix.len_ok))),
        none-nine ns (λ i l. h (suc i) (omega arith)),
      )

  -- one hop for each route
  pub hops-need : length (hops st hop) ≡ length rs
  unfolding hops
  hops-need = omega (arith, levels 9, none-nine (level st 9) (level-is rs g 9).deep)

  -- the nodes
  pub nodes-need : node_need rs ≤ 1 + 8 * length rs
  nodes-need = few 8

-- 4,096 routes need at most 32,769 nodes
pub nodes-most : (rs : List Route) → Good rs → length rs ≤ 4096 → node_need rs ≤ 32769
nodes-most rs g l = omega (arith, nodes-need rs g)
