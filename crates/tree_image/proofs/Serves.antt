-- Looking an address up in the image of a good list gives the hop of the longest route that covers it, after the nodes that stand on its
-- path have been read.
use mathlib.Core.Path.{◌≡◌, refl, sym, ◌∙◌, ap, ap₂}
use mathlib.Core.Logic.{◌⊎◌, inl, inr}
use mathlib.Core.Bool.{Bool, true, false, cond}
use mathlib.Core.List.{List, [], ◌∷◌}
use Prim.Native.Nat.{ℕ, zero, suc, ◌+◌, ◌-◌, ◌*◌, ◌/◌, ◌^◌, ◌≤◌, ◌<◌}
use native.Mathlib.Nat.{eq-or-lt_of_le, not-suc-le-zero, add-zero, div-one}
use native.Mathlib.Omega.{arith}
use lib.Dec.{leb, eqb}
use lib.Pow.{shr-shr}
use lib.ListN.{length, get_or}
use borrow.Author.Tests.{leb-true, le-leb, lt-leb, eqb-true, eq-eqb}
use Rattle.bits.specs.Slot.{slot}
use Rattle.bits.specs.Count.{count}
use Rattle.bits.proofs.Slots.{slot-up}
use Rattle.bits.proofs.Bools.{decided, both, and_split, fails}
use Rattle.routes.specs.Route.{Good}
use Rattle.standing.specs.Cells.{here, any, first, or_else, best}
use Rattle.routes.specs.declared.Route.{Route}
use Rattle.routes.specs.Said.{Said}
use Rattle.standing.specs.Down.{or_next, down}
use Rattle.standing.specs.Served.{Served, hop_said}
use Rattle.standing.proofs.Served.{best-served}
use Rattle.standing.proofs.Levels.{any-mono}
use Rattle.tree_image.specs.Reads.{counted, tree_reads}
use Rattle.tree_image.specs.Walk.{tree_hop_said, tree_said}
use Rattle.tree_image.specs.Image.{Node, node, nodes, words, hops, image_by, image_of, through, node_stands, hop_for, node_need, on_path}
use Rattle.tree_image.proofs.Counts.{count-all, count_cut}
use Rattle.tree_image.proofs.Nodes.{up_next, words-length}
use Rattle.tree_image.proofs.Holds.{pad-past, Agree, image_holds}
use Rattle.tree_image.proofs.Lies.{found-any}
use Rattle.tree_image.proofs.Needs.{hops-need}
use Rattle.tree_image.proofs.Longest.{longest, reads_from, walk-longest}

-- what the routes say of nodes and hops
no_nine : (rs : List Route) (p : ℕ) → Good rs → node_stands rs 9 p ≡ false
unfolding any Good
no_nine [] p g = refl
no_nine (r ∷ rs) p g = rw (lt-leb 36 r.len (omega (arith, g.0.prefix.len_ok))) (no_nine rs p g.2)

hop-small : (f : Route → Bool) (rs : List Route) → Good rs → or_else (first f rs) 0 ≤ 32767
unfolding first Good
hop-small f [] g = omega arith
hop-small f (r ∷ rs) g = go (f r) (hop-small f rs g.2)
  where
    go : (b : Bool) → or_else (first f rs) 0 ≤ 32767 → or_else (cond b (suc r.hop) (first f rs)) 0 ≤ 32767
    go true h = g.0.hop_ok
    go false h = h

here-passes : (m l q : ℕ) (r : Route) → 4 * m ≤ l → l ≤ 32 → here l q r ≡ true → through m (q / 2 ^ (l - 4 * m)) r ≡ true
here-passes m l q r lo hi e =
    let s = and_split (eqb r.len l) (eqb (slot l r.addr) q) e in
    let n : r.len ≡ l = eqb-true r.len l s.0 in
    let c : slot l r.addr ≡ q = eqb-true (slot l r.addr) q s.1 in
    let k : 4 * m + (l - 4 * m) ≡ l = omega arith in
    both (le-leb (4 * m) r.len (omega arith))
    (eq-eqb _ _ (sym (slot-up (4 * m) (l - 4 * m) r.addr (omega arith)) ∙ ap (λ (x : ℕ). slot x r.addr / 2 ^ (l - 4 * m)) k ∙ ap
    (λ (x : ℕ). x / 2 ^ (l - 4 * m)) c))

pub agree : (rs : List Route) → Good rs → Agree (node_stands rs) (hop_for rs)
agree rs g = record {
  nine = λ p. no_nine rs p g;
  small = λ l q. hop-small (here l q) rs g;
  told = λ m l q z lo hi t. any-mono (here l q) (through m (q / 2 ^ (l - 4 * m))) rs (λ r. here-passes m l q r lo hi) (found-any (here l q) rs t);
}

-- the longest route

first-not-one : (f : Route → Bool) (rs : List Route) → Good rs → first f rs ≡ 1 → ⊥
unfolding first Good
first-not-one f [] g e = omega arith
first-not-one f (r ∷ rs) g e = go (f r) (first-not-one f rs g.2) e
  where
    go : (b : Bool) → (first f rs ≡ 1 → ⊥) → cond b (suc r.hop) (first f rs) ≡ 1 → ⊥
    go true h e = omega (arith, g.0.hop_one)
    go false h e = h e

or_same : (x d : ℕ) → (x ≡ 1 → ⊥) → or_else x d ≡ or_next (or_else x 0) d
or_same zero d h = refl
or_same (suc zero) d h = absurd (h refl)
or_same (suc (suc x)) d h = refl

best-longest : (rs : List Route) (p a : ℕ) → Good rs → p ≤ 32 → best rs p (slot p a) ≡ longest (hop_for rs) a (suc p)
unfolding best down
best-longest rs zero a f h = or_same (first (here zero (slot zero a)) rs) 0 (first-not-one (here zero (slot zero a)) rs f)
best-longest rs (suc p) a f h =
    let up : slot (suc p) a / 2 ≡ slot p a = shr-shr a (32 - suc p) 1 ∙ ap (λ (n : ℕ). a / 2 ^ n) (omega arith) in
    or_same (first (here (suc p) (slot (suc p) a)) rs) _ (first-not-one (here (suc p) (slot (suc p) a)) rs f)
    ∙ ap (λ (x : ℕ). or_next (hop_for rs (suc p) (slot (suc p) a)) x) (ap (best rs p) up ∙ best-longest rs p a f (omega arith))

-- the nodes read

module _ (t : ℕ → Bool) (down : (i : ℕ) → i < 7 → t (i + 1) ≡ true → t i ≡ true) where
  none-on : (m k : ℕ) → m + k < 8 → t m ≡ false → t (m + k) ≡ false
  none-on m zero h e = rw add-zero e
  none-on m (suc k) h e =
      let q : m + suc k ≡ m + k + 1 = omega arith in
      rw q (fails (t (m + k + 1)) (t (m + k)) (down (m + k) (omega arith)) (none-on m k (omega arith) e))

  pub reads-count : (st : ℕ → ℕ → Bool) (a : ℕ) → ((i : ℕ) → i < 8 → t i ≡ st (i + 1) (slot (4 * (i + 1)) a))
      → (d m : ℕ) → m + d ≡ 8 → ((i : ℕ) → i < m → t i ≡ true) → reads_from st a d m ≡ 1 + count t 8
  unfolding reads_from
  reads-count st a same zero m e all =
      let q : m ≡ 8 = omega arith in
      rw q (omega (arith, count-all t 8 (λ i l. all i (omega arith))))
  reads-count st a same (suc d) m e all = go (decided (t m)) (λ x. reads-count st a same d (m + 1) (omega arith) x)
    where
      four : 32 - 4 * (m + 1) ≡ 4 * d
      four = omega arith

      here-is : t m ≡ st (m + 1) (a / 2 ^ (4 * d))
      here-is = same m (omega arith) ∙ ap (λ (x : ℕ). st (m + 1) (a / 2 ^ x)) four

      more : t m ≡ true → (i : ℕ) → (i ≡ m) ⊎ (i < m) → t i ≡ true
      more o i (inl q) = rw q o
      more o i (inr l) = all i l

      go : (t m ≡ true) ⊎ (t m ≡ false) → (((i : ℕ) → i < m + 1 → t i ≡ true) → reads_from st a d (m + 1) ≡ 1 + count t 8)
          → cond (st (m + 1) (a / 2 ^ (4 * d))) (reads_from st a d (m + 1)) (m + 1) ≡ 1 + count t 8
      go (inl o) ih = rw (← here-is, o) (ih (λ i l. more o i (eq-or-lt_of_le (omega arith))))
      go (inr z) ih =
          let q : m + suc d ≡ 8 = e in
          let c = rw q at (count_cut t m (suc d) (λ i l u. let p : m + (i - m) ≡ i = omega arith in rw p at (none-on m (i - m) (omega arith) z))) in
          rw (← here-is, z) (omega (arith, count-all t m all))

pub path-count : (rs : List Route) (a : ℕ) → reads_from (node_stands rs) a 8 0 ≡ on_path rs a
path-count rs a = reads-count (λ m. node_stands rs (m + 1) (slot (4 * (m + 1)) a)) down (node_stands rs) a (λ i l. refl) 8 0 refl
    (λ i l. absurd (not-suc-le-zero l))
  where
    down : (i : ℕ) → i < 7 → node_stands rs (i + 1 + 1) (slot (4 * (i + 1 + 1)) a) ≡ true → node_stands rs (i + 1) (slot (4 * (i + 1)) a) ≡ true
    down i l = any-mono (through (i + 1 + 1) (slot (4 * (i + 1 + 1)) a)) (through (i + 1) (slot (4 * (i + 1)) a)) rs one
      where
        up : (x : ℕ) → slot (4 * (i + 1 + 1)) x / 2 ^ 4 ≡ slot (4 * (i + 1)) x
        up x =
            let q : 4 * (i + 1 + 1) ≡ 4 * (i + 1) + 4 = omega arith in
            rw q (slot-up (4 * (i + 1)) 4 x (omega arith))

        one : (r : Route) → through (i + 1 + 1) (slot (4 * (i + 1 + 1)) a) r ≡ true → through (i + 1) (slot (4 * (i + 1)) a) r ≡ true
        one r e =
            let s = and_split (leb (4 * (i + 1 + 1)) r.len) (eqb (slot (4 * (i + 1 + 1)) r.addr) (slot (4 * (i + 1 + 1)) a)) e in
            both (le-leb (4 * (i + 1)) r.len (omega (arith, leb-true (4 * (i + 1 + 1)) r.len s.0)))
            (eq-eqb (slot (4 * (i + 1)) r.addr) (slot (4 * (i + 1)) a)
            (sym (up r.addr) ∙ ap (λ (x : ℕ). x / 2 ^ 4) (eqb-true (slot (4 * (i + 1 + 1)) r.addr) (slot (4 * (i + 1 + 1)) a) s.1) ∙ up a))

-- every address, on the image of a good list in arrays with room for it: the hop of the longest route that covers the address, or no
-- route where that is 0, told after the nodes that stand on its path
pub image-serves : (rs : List Route) (w h a : ℕ) → Good rs → a < 2 ^ 32 → 3 * node_need rs ≤ w → length rs ≤ h
    → tree_said (image_of rs w h).words (image_of rs w h).hops a ≡ tree_hop_said (best rs 32 a) (on_path rs a)
unfolding image_by
image-serves rs w h a g l room space =
    let up = up_next (node_stands rs) 8 in
    walk-longest (node_stands rs) (hop_for rs) _ _ a l
    (image_holds (node_stands rs) (hop_for rs) (agree rs g) w h room (omega (arith, hops-need rs g)) 8 0 0 0 (omega (arith, ap length up))
    (ap (λ (x : List Node). get_or x 0 (node 0 0)) up))
    ∙ ap₂ tree_hop_said (sym (best-longest rs 32 a g (omega arith)) ∙ ap (best rs 32) (div-one a)) (path-count rs a)

-- what is told so is served, with the count by the routes
pub told-said : (h n : ℕ) → tree_hop_said h n ≡ hop_said (counted h n) h
unfolding tree_hop_said hop_said
told-said h n = refl

pub told-served : (rs : List Route) → Good rs → (a : ℕ) {s : Said} → s ≡ tree_hop_said (best rs 32 a) (on_path rs a) → Served rs a (tree_reads rs a) s
told-served rs g a e = rw (e ∙ told-said (best rs 32 a) (on_path rs a)) (best-served rs g a (tree_reads rs a))

-- every word after the last node, and every hop after the last used, is zero
pub words_after : (rs : List Route) (w h j : ℕ) → 3 * node_need rs ≤ j → get_or (image_of rs w h).words j 0 ≡ 0
unfolding image_by words
words_after rs w h j l = pad-past w (words (node_stands rs) (hop_for rs)) j (omega (arith, words-length (node_stands rs) (hop_for rs) (nodes (node_stands rs)) 1 0))

pub hops_after : (rs : List Route) (w h j : ℕ) → Good rs → length rs ≤ j → get_or (image_of rs w h).hops j 0 ≡ 0
unfolding image_by
hops_after rs w h j g l = pad-past h (hops (node_stands rs) (hop_for rs)) j (omega (arith, hops-need rs g))
