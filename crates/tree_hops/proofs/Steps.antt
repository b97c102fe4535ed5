-- The steps by which a hop is put or taken: what a loop asks of the bases that it raises or lowers, and what the steps together leave.
use mathlib.Core.Path.{◌≡◌, ◌∙◌, ap, subst}
use mathlib.Core.List.{List}
use Prim.Native.Nat.{ℕ, suc, ◌+◌, ◌-◌, ◌*◌, ◌<◌}
use native.Mathlib.Omega.{arith}
use lib.ListN.{length, get_or, set, length-set}
use Rattle.moves.specs.Moves.{moved_up, moved_down, Movable}
use Rattle.moves.proofs.Draws.{length-drawn}
use Rattle.tree_image.specs.Node.{bits_of}
use Rattle.tree_node.specs.NodeRuns.{WithBit}
use Rattle.tree_same.specs.Read.{hop_place_at}
use Rattle.tree_formed.proofs.Held.{fewer-ints, ints-next, ints-mono}
use Rattle.tree_hold.specs.Moves.{each}
use Rattle.tree_hold.specs.Edits.{HopPut, HopTaken, Takable}
use Rattle.tree_hold.proofs.Each.{each-length}
use Rattle.tree_hold.proofs.HopMade.{put-inside, put-done}
use Rattle.tree_hold.proofs.TakeMade.{take-inside, take_done}
use Rattle.tree_places.proofs.Loops.{lowerable-set}
use Rattle.tree_places.proofs.After.{After}
use Rattle.tree_places.specs.Bases.{Raisable, Lowerable, WithoutBit}
use Rattle.tree_hops.specs.Ready.{PutReady}

-- ---- a hop put: a gap is opened at its place, and the hop bases raised

pub record PuttingHop : Type 0 where
  pub ws : List ℕ
  pub hs : List ℕ
  pub n : ℕ
  pub k : ℕ
  pub x : ℕ
  pub b : ℕ
  pub y : ℕ
  pub ready : PutReady ws hs n k x b
  pub place : y ≡ hop_place_at ws x b

abbrev pub putting_hop : {ws hs : List ℕ} {n k x b y : ℕ} → PutReady ws hs n k x b → y ≡ hop_place_at ws x b → PuttingHop
putting_hop {ws} {hs} {n} {k} {x} {b} {y} r e = record { ws = ws; hs = hs; n = n; k = k; x = x; b = b; y = y; ready = r; place = e }

abbrev pub hops_opened : PuttingHop → List ℕ
hops_opened p = moved_up p.hs p.y p.k 1

pub put-open : (p : PuttingHop) → Movable p.y p.k 1 (length p.hs)
put-open p = record { rises = put-inside p.ready.able p.y p.place; room = p.ready.able.room }

pub put-raise : {ws hs : List ℕ} {n k x b : ℕ} → PutReady ws hs n k x b → Raisable ws 2 (x + 1) n
put-raise {ws} {hs} {n} {k} {x} {b} r = record {
  stretch = record { word = omega arith; order = omega (arith, r.able.parent); room = omega (arith, r.able.words.order.lent) };
  fits = λ i l u. omega (arith, r.able.words.order.base i u, ints-mono ws i n (omega arith), r.able.words.hops, r.few);
}

module _ (s : After PuttingHop hops_opened) where
  pub put-store : s.found.y < length s.list
  put-store =
      let p = s.found in
      omega (arith, ap length s.is, length-drawn 0 p.hs (λ j. j - 1) (p.y + 1) (p.k + 1), (put-open p).rises, p.ready.able.room)

  pub put-leaves : {w : List ℕ} {v : ℕ} (h : ℕ) → w ≡ each (λ z. z + 1) s.found.ws 2 (s.found.x + 1) s.found.n
      → WithBit (bits_of s.found.ws s.found.x) s.found.b v
      → HopPut s.found.ws (set w (3 * s.found.x) v) s.found.hs (set s.list s.found.y h) s.found.n s.found.x s.found.b
      (hop_place_at s.found.ws s.found.x s.found.b) h
  put-leaves {w} {v} h ew bit =
      let p = s.found in
      subst (λ (z : ℕ). HopPut p.ws (set w (3 * p.x) v) p.hs (set s.list p.y h) p.n p.x p.b z h) p.place
      (rw (ew, s.is) (put-done p.ready.able p.y p.place v h bit))

-- ---- and taken away: the bit is cleared, the hop bases lowered and the gap closed

pub record TakingHop : Type 0 where
  pub ws : List ℕ
  pub hs : List ℕ
  pub n : ℕ
  pub k : ℕ
  pub x : ℕ
  pub b : ℕ
  pub y : ℕ
  pub v : ℕ
  pub able : Takable ws hs n k x b
  pub place : y ≡ hop_place_at ws x b
  pub bit : WithoutBit v b (bits_of ws x)

abbrev pub taking_hop : {ws hs : List ℕ} {n k x b y v : ℕ} → Takable ws hs n k x b → y ≡ hop_place_at ws x b → WithoutBit v b (bits_of ws x) → TakingHop
taking_hop {ws} {hs} {n} {k} {x} {b} {y} {v} r e u = record { ws = ws; hs = hs; n = n; k = k; x = x; b = b; y = y; v = v; able = r; place = e; bit = u }

abbrev pub bases_lowered : TakingHop → List ℕ
bases_lowered t = each (λ z. z - 1) (set t.ws (3 * t.x) t.v) 2 (t.x + 1) t.n

pub take-lower : (t : TakingHop) → Lowerable (set t.ws (3 * t.x) t.v) 2 (t.x + 1) t.n
take-lower t =
    let r = t.able in
    lowerable-set t.ws t.x t.v 2 t.n (omega arith) (omega arith) r.parent (omega (arith, r.words.order.lent))
    (λ i l u.
    omega (
      arith,
      r.words.order.base i u,
      ints-mono t.ws (suc t.x) i (omega arith),
      ints-next t.ws t.x,
      fewer-ints (bits_of t.ws t.x) t.b r.small r.stands,
    ))

pub take-close : (t : TakingHop) → Movable t.y t.k 1 (length t.hs)
take-close t = record { rises = take-inside t.able t.y t.place; room = t.able.room }

module _ (s : After TakingHop bases_lowered) where
  pub take-size : length s.list ≡ length s.found.ws
  take-size =
      let t = s.found in
      ap length s.is ∙ each-length (λ z. z - 1) (set t.ws (3 * t.x) t.v) 2 (t.x + 1) t.n ∙ length-set t.ws (3 * t.x) t.v

  pub take-leaves : {h : List ℕ} → h ≡ moved_down s.found.hs s.found.y s.found.k 1
      → HopTaken s.found.ws s.list s.found.hs (set h s.found.k 0) s.found.n s.found.x s.found.b
  take-leaves {h} eh =
      let t = s.found in
      subst (λ (z : ℕ). HopPut s.list t.ws (set h t.k 0) t.hs t.n t.x t.b z (get_or t.hs z 0)) t.place
      (rw (s.is, eh) (take_done t.able t.y t.place t.v t.bit.0 t.bit.1 t.bit.2))
