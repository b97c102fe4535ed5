-- The steps of a graft and of its reverse: what a loop asks of the bases that it raises or lowers, and what the steps together leave.
use mathlib.Core.Path.{◌≡◌, refl, ◌∙◌, ap, subst}
use mathlib.Core.List.{List}
use Prim.Native.Nat.{ℕ, ◌+◌, ◌-◌, ◌*◌, ◌≤◌, ◌<◌}
use native.Mathlib.Omega.{arith}
use lib.ListN.{length, set, length-set}
use Rattle.moves.specs.Moves.{moved_up, moved_down, Movable}
use Rattle.moves.proofs.Draws.{length-drawn}
use Rattle.tree_image.specs.Node.{bits_of, child_of, child_at}
use Rattle.tree_node.specs.NodeRuns.{WithBit}
use Rattle.tree_node.specs.Queue.{put3}
use Rattle.tree_node.proofs.Stores.{put3-length}
use Rattle.tree_hold.specs.Moves.{each}
use Rattle.tree_hold.specs.Edits.{Grafted, Prunable}
use Rattle.tree_hold.proofs.Each.{each-length}
use Rattle.tree_hold.proofs.GraftMade.{graft-inside, graft-few, graft-done}
use Rattle.tree_hold.proofs.PruneMade.{prune-inside, prune-done}
use Rattle.tree_places.proofs.Loops.{lowerable-set}
use Rattle.tree_places.proofs.After.{After, after_first, after_next}
use Rattle.tree_places.specs.Bases.{Raisable, Lowerable, WithoutBit}
use Rattle.tree_graft.specs.Ready.{GraftReady}

-- ---- a graft: the empty node is put after the last one, a gap opened at its place and the child bases raised

pub record Grafting : Type 0 where
  pub ws : List ℕ
  pub n : ℕ
  pub k : ℕ
  pub x : ℕ
  pub c : ℕ
  pub y : ℕ
  pub ready : GraftReady ws n k x c
  pub place : y ≡ child_at (bits_of ws x) (child_of ws x) c

abbrev pub grafting : {ws : List ℕ} {n k x c y : ℕ} → GraftReady ws n k x c → y ≡ child_at (bits_of ws x) (child_of ws x) c → Grafting
grafting {ws} {n} {k} {x} {c} {y} r e = record { ws = ws; n = n; k = k; x = x; c = c; y = y; ready = r; place = e }

abbrev pub with_last : Grafting → List ℕ
with_last g = put3 g.ws g.n 0 g.n g.k

abbrev pub gap_opened : Grafting → List ℕ → List ℕ
gap_opened g w = moved_up w (3 * g.y) (3 * g.n) 3

abbrev pub raising : Grafting → List ℕ → List ℕ
raising g w = each (λ z. z + 1) w 1 (g.x + 1) (g.n + 1)

-- what is known after each step
abbrev pub graft-put : {ws : List ℕ} {n k x c y : ℕ} (r : GraftReady ws n k x c) (e : y ≡ child_at (bits_of ws x) (child_of ws x) c)
    {w : List ℕ} → w ≡ put3 ws n 0 n k → After Grafting with_last
graft-put r e p = after_first (grafting r e) p

abbrev pub graft-opened : {ws : List ℕ} {n k x c y : ℕ} (r : GraftReady ws n k x c) (e : y ≡ child_at (bits_of ws x) (child_of ws x) c)
    {w v : List ℕ} → w ≡ put3 ws n 0 n k → v ≡ moved_up w (3 * y) (3 * n) 3 → After Grafting (λ g. gap_opened g (with_last g))
graft-opened r e p m = after_next gap_opened (graft-put r e p) m

abbrev pub graft-raised : {ws : List ℕ} {n k x c y : ℕ} (r : GraftReady ws n k x c) (e : y ≡ child_at (bits_of ws x) (child_of ws x) c)
    {w v u : List ℕ} → w ≡ put3 ws n 0 n k → v ≡ moved_up w (3 * y) (3 * n) 3 → u ≡ each (λ z. z + 1) v 1 (x + 1) (n + 1)
    → After Grafting (λ g. raising g (gap_opened g (with_last g)))
graft-raised r e p m s = after_next raising (graft-opened r e p m) s

module _ (s : After Grafting with_last) where
  pub graft-open : Movable (3 * s.found.y) (3 * s.found.n) 3 (length s.list)
  graft-open =
      let g = s.found in
      record {
        rises = omega (arith, graft-inside g.ready.able g.y g.place);
        room = omega (arith, g.ready.able.room, ap length s.is, put3-length g.ws g.n 0 g.n g.k);
      }

module _ (s : After Grafting (λ g. gap_opened g (with_last g))) where
  long2 : length s.list ≡ length s.found.ws
  long2 =
      let g = s.found in ap length s.is ∙ length-drawn 0 (with_last g) (λ j. j - 3) (3 * g.y + 3) (3 * g.n + 3) ∙ put3-length g.ws g.n 0 g.n g.k

  pub graft-raise : Raisable s.list 1 (s.found.x + 1) (s.found.n + 1)
  graft-raise =
      let g = s.found in
      let r = g.ready in
      record {
        stretch = record { word = omega arith; order = omega (arith, r.able.parent); room = omega (arith, long2, r.able.room) };
        fits = λ i l u. omega (arith, ap (λ (v : List ℕ). child_of v i) s.is, graft-few r.able g.y g.place i (omega arith), r.few);
      }

module _ (s : After Grafting (λ g. raising g (gap_opened g (with_last g)))) where
  pub graft-size : length s.list ≡ length s.found.ws
  graft-size =
      let g = s.found in
      ap length s.is ∙ each-length (λ z. z + 1) (gap_opened g (with_last g)) 1 (g.x + 1) (g.n + 1) ∙ long2 (after_first g refl)

  pub graft-stores : (3 * s.found.y < length s.list) × (3 * s.found.x < length s.list)
  graft-stores =
      let g = s.found in
      let able = g.ready.able in
      (omega (arith, graft-size, graft-inside able g.y g.place, able.room), omega (arith, graft-size, able.parent, able.room))

  pub graft-leaves : (v : ℕ) → WithBit (bits_of s.found.ws s.found.x) (16 + s.found.c) v
      → Grafted s.found.ws (set (set s.list (3 * s.found.y) 0) (3 * s.found.x) v) s.found.n s.found.x s.found.c s.found.y
  graft-leaves v bit = let g = s.found in rw s.is (graft-done g.ready.able g.y g.place v bit)

-- ---- its reverse: the bit is cleared, the child bases lowered, the gap closed and the last node made blank

pub record Pruning : Type 0 where
  pub ws : List ℕ
  pub n : ℕ
  pub k : ℕ
  pub x : ℕ
  pub c : ℕ
  pub y : ℕ
  pub v : ℕ
  pub able : Prunable ws n k x c
  pub place : y ≡ child_at (bits_of ws x) (child_of ws x) c
  pub bit : WithoutBit v (16 + c) (bits_of ws x)

abbrev pub pruning : {ws : List ℕ} {n k x c y v : ℕ} → Prunable ws n k x c → y ≡ child_at (bits_of ws x) (child_of ws x) c
    → WithoutBit v (16 + c) (bits_of ws x) → Pruning
pruning {ws} {n} {k} {x} {c} {y} {v} r e b = record { ws = ws; n = n; k = k; x = x; c = c; y = y; v = v; able = r; place = e; bit = b }

abbrev pub bit_cleared : Pruning → List ℕ
bit_cleared p = set p.ws (3 * p.x) p.v

abbrev pub lowering : Pruning → List ℕ → List ℕ
lowering p w = each (λ z. z - 1) w 1 (p.x + 1) (p.n + 1)

abbrev pub gap_closed : Pruning → List ℕ → List ℕ
gap_closed p w = moved_down w (3 * p.y) (3 * p.n) 3

abbrev pub blanking : Pruning → List ℕ → List ℕ
blanking p w = put3 w p.n 0 0 0

-- what is known after each step
abbrev pub prune-lowered : (p : Pruning) {w : List ℕ} → w ≡ lowering p (bit_cleared p) → After Pruning (λ p. lowering p (bit_cleared p))
prune-lowered p e = after_first p e

abbrev pub prune-closed : (p : Pruning) {w v : List ℕ} → w ≡ lowering p (bit_cleared p) → v ≡ moved_down w (3 * p.y) (3 * p.n) 3
    → After Pruning (λ p. gap_closed p (lowering p (bit_cleared p)))
prune-closed p e m = after_next gap_closed (prune-lowered p e) m

abbrev pub prune-blanked : (p : Pruning) {w v u : List ℕ} → w ≡ lowering p (bit_cleared p) → v ≡ moved_down w (3 * p.y) (3 * p.n) 3
    → u ≡ put3 v p.n 0 0 0 → After Pruning (λ p. blanking p (gap_closed p (lowering p (bit_cleared p))))
prune-blanked p e m b = after_next blanking (prune-closed p e m) b

pub prune-lower : (p : Pruning) → Lowerable (bit_cleared p) 1 (p.x + 1) (p.n + 1)
prune-lower p =
    let r = p.able in
    lowerable-set p.ws p.x p.v 1 (p.n + 1) (omega arith) (omega arith) r.parent (omega (arith, r.words.order.lent))
    (λ i l u. omega (arith, r.words.order.child i u))

module _ (s : After Pruning (λ p. lowering p (bit_cleared p))) where
  long-lowered : length s.list ≡ length s.found.ws
  long-lowered =
      let p = s.found in
      ap length s.is ∙ each-length (λ z. z - 1) (bit_cleared p) 1 (p.x + 1) (p.n + 1) ∙ length-set p.ws (3 * p.x) p.v

  pub prune-close : Movable (3 * s.found.y) (3 * s.found.n) 3 (length s.list)
  prune-close =
      let p = s.found in
      record { rises = omega (arith, prune-inside p.able p.y p.place); room = omega (arith, long-lowered, p.able.words.order.lent) }

module _ (s : After Pruning (λ p. gap_closed p (lowering p (bit_cleared p)))) where
  long-closed : length s.list ≡ length s.found.ws
  long-closed =
      let p = s.found in
      ap length s.is ∙ length-drawn 0 (lowering p (bit_cleared p)) (λ j. j + 3) (3 * p.y) (3 * p.n) ∙ long-lowered (after_first p refl)

  pub prune-put : 3 * s.found.n + 3 ≤ length s.list
  prune-put = omega (arith, long-closed, s.found.able.words.order.lent)

module _ (s : After Pruning (λ p. blanking p (gap_closed p (lowering p (bit_cleared p))))) where
  pub prune-size : length s.list ≡ length s.found.ws
  prune-size = let p = s.found in ap length s.is ∙ put3-length (gap_closed p (lowering p (bit_cleared p))) p.n 0 0 0 ∙ long-closed (after_first p refl)

  pub prune-leaves : Grafted s.list s.found.ws s.found.n s.found.x s.found.c
      (child_at (bits_of s.found.ws s.found.x) (child_of s.found.ws s.found.x) s.found.c)
  prune-leaves =
      let p = s.found in
      subst (λ (z : ℕ). Grafted s.list p.ws p.n p.x p.c z) p.place
      (rw s.is (prune-done p.able p.y p.place p.v p.bit.0 p.bit.1 p.bit.2))
