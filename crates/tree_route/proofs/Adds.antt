-- A prefix put into an image: the nodes of its path one after another, and then its hop. At each step the arrays hold the routes with the path
-- down to the depth at hand; at the end they hold the routes with the new one, and so are their image.
use mathlib.Core.Path.{◌≡◌, refl, sym, ◌∙◌, ap, ap₂, subst}
use mathlib.Core.Bool.{Bool, false}
use mathlib.Core.List.{List}
use Prim.Native.Nat.{ℕ, suc, ◌+◌, ◌*◌, ◌/◌, ◌%◌, ◌^◌, ◌≤◌, ◌<◌}
use native.Mathlib.Numerals.{add-one}
use native.Mathlib.Omega.{arith}
use lib.Dec.{ltb}
use lib.ListN.{length}
use borrow.Author.Tests.{ltb-false}
use Rattle.bits.specs.Slot.{slot}
use Rattle.routes.specs.declared.Route.{Route}
use Rattle.standing.specs.Standing.{insert}
use Rattle.standing.proofs.Standing.{insert-good}
use Rattle.tree_image.specs.Node.{bits_of, is_set}
use Rattle.tree_image.specs.Image.{node, inner, node_stands, hop_for}
use Rattle.tree_same.specs.Read.{reached, hop_place_at}
use Rattle.tree_same.specs.Holding.{Holding}
use Rattle.tree_same.specs.Listed.{routes_held}
use Rattle.tree_same.proofs.Back.{Shaped}
use Rattle.tree_hold.specs.More.{also, down_to, with_hop}
use Rattle.tree_hold.specs.Edits.{Grafted, HopPut}
use Rattle.tree_hold.proofs.Grafts.{all-ints, new-at, graft-holds}
use Rattle.tree_hold.proofs.Puts.{put_holds}
use Rattle.tree_hold.proofs.Taken.{len_at, bits_at}
use Rattle.tree_hold.proofs.Paths.{path-child, down-next, down-absent, absent-below, insert-nodes, insert-hops, stands-hop}
use Rattle.tree_hops.specs.Ready.{PutReady}
use Rattle.tree_graft.specs.Ready.{GraftReady}
use Rattle.tree_theory.specs.Changed.{unmarked_route}
use Rattle.tree_theory.specs.Stages.{New, Addable, Become}
use Rattle.tree_theory.proofs.Ways.{child-held, inner-held}
use Rattle.tree_theory.proofs.Places.{bit-len, bit-bits, hop-at-bit, shaped, way-stands, way-absent}
use Rattle.tree_theory.proofs.Midways.{Midway, mid-shape, end-stands, end-inside, mid-words, down-any, become}

-- The way from ws₀, whose n nodes have the path of the prefix down to depth m₀: the path is there down to depth m, and node x is its last.
pub record Grown (ws₀ hs : List ℕ) (n k m₀ a len : ℕ) (ws : List ℕ) (m x nodes : ℕ) : Type 0 where
  pub mid : Midway (routes_held ws₀ hs) a m ws hs nodes k
  pub low : m₀ ≤ m
  pub high : m ≤ len / 4
  pub at : x ≡ reached ws m (slot (4 * m) a)
  pub count : nodes + m₀ ≡ n + m
  pub same : length ws ≡ length ws₀
  pub next : m < len / 4 → node_stands (routes_held ws₀ hs) (suc m) (slot (4 * suc m) a) ≡ false

module _ {ws₀ hs : List ℕ} {n k x₀ m₀ a len h b : ℕ} (r : Addable ws₀ hs n k x₀ m₀ a len h b) where
  abbrev new : New ws₀ hs n k x₀ m₀ a len h b
  new = r.new

  abbrev rs : List Route
  rs = routes_held ws₀ hs

  abbrev st : ℕ → ℕ → Bool
  st = node_stands rs

  abbrev hop : ℕ → ℕ → ℕ
  hop = hop_for rs

  small : a < 2 ^ 32
  small = new.fine.prefix.addr_ok

  short : len ≤ 32
  short = new.fine.prefix.len_ok

  shape : Shaped st hop
  shape = shaped new.found

  pub grow-start : Grown ws₀ hs n k m₀ a len ws₀ m₀ x₀ n
  grow-start = record {
    mid = record {
      good = new.found.good;
      addr = small;
      deep = omega (arith, new.way.upto, short);
      holds = down-any st hop a m₀ small (omega (arith, new.way.upto, short)) shape (way-stands new.found small new.way) new.found.holds;
      hops = new.found.hops;
    };
    low = omega arith;
    high = new.way.upto;
    at = new.way.at;
    count = refl;
    same = refl;
    next = λ l. way-absent new.found small new.way (omega (arith, short)) l;
  }

  module _ {ws : List ℕ} {m x nodes : ℕ} (g : Grown ws₀ hs n k m₀ a len ws m x nodes) where
    abbrev path : ℕ
    path = slot (4 * m) a

    inside : x < nodes
    inside = rw g.at (end-inside g.mid)

    module _ (l : m < len / 4) (c : ℕ) (turn : c ≡ slot (4 * (m + 1)) a % 16) where
      its-turn : c ≡ slot (4 * suc m) a % 16
      its-turn = turn ∙ ap (λ (z : ℕ). slot (4 * z) a % 16) (add-one m)

      its-path : path * 16 + c ≡ slot (4 * suc m) a
      its-path = ap (λ (z : ℕ). path * 16 + z) its-turn ∙ sym (path-child st a small m (omega (arith, short)))

      gap : down_to st a m (suc m) (path * 16 + c) ≡ false
      gap = ap (down_to st a m (suc m)) its-path ∙ down-absent st a small m (g.next l)

      pub grow-ready : GraftReady ws nodes k x c
      grow-ready = record {
        able = record {
          words = mid-words g.mid;
          parent = inside;
          small = omega (arith, its-turn);
          free =
              ap (λ (z : ℕ). is_set (bits_of ws z) (16 + c)) g.at
              ∙ child-held (mid-shape g.mid) g.mid.holds m path c (end-stands g.mid) (omega (arith, its-turn)) ∙ gap;
          room = omega (arith, g.count, g.same, r.words_room, g.low);
        };
        few = omega (arith, g.count, new.found.few_nodes, short);
        hops_few = omega (arith, new.found.few_hops);
      }

      pub grow-next : {ws' : List ℕ} {y : ℕ} → Grafted ws ws' nodes x c y → Grown ws₀ hs n k m₀ a len ws' (m + 1) y (nodes + 1)
      grow-next {ws'} {y} e =
          let f = mid-shape g.mid in
          let o = end-stands g.mid in
          let h' = graft-holds m path f g.mid.holds e o g.at (omega (arith, short)) gap in
          let s : also (down_to st a m) (suc m) (path * 16 + c) ≡ down_to st a (m + 1) =
          ap (also (down_to st a m) (suc m)) its-path ∙ down-next st a small m ∙ ap (down_to st a) (sym (add-one m)) in
          let q : m + 1 ≡ suc m = add-one m in
          record {
            mid = record {
              good = new.found.good;
              addr = small;
              deep = omega (arith, short);
              holds = subst (λ (z : ℕ → ℕ → Bool). Holding z hop ws' hs (nodes + 1)) s h';
              hops = g.mid.hops ∙ sym (all-ints m path f g.mid.holds e o g.at (omega (arith, short)) gap);
            };
            low = omega (arith, g.low);
            high = omega arith;
            at =
                sym (ap₂ (reached ws') q (ap (λ (z : ℕ). slot (4 * z) a) q ∙ sym its-path) ∙ new-at m path f g.mid.holds e o g.at
                (omega (arith, short)) gap);
            count = omega (arith, g.count);
            same = e.same ∙ g.same;
            next = λ v. absent-below st a small hop shape m 1 (omega (arith, short)) (g.next l);
          }

    module _ (l : len / 4 ≤ m) where
      whole : m ≡ len / 4
      whole = omega (arith, g.high)

      no_hop : hop len (slot len a) ≡ 0
      no_hop = zero_of (hop len (slot len a)) (sym (stands-hop a len rs new.fine.prefix new.found.good) ∙ new.absent)
        where
          zero_of : (z : ℕ) → ltb 0 z ≡ false → z ≡ 0
          zero_of z e = omega (arith, ltb-false 0 z e)

      pub grow-put : PutReady ws hs nodes k x b
      grow-put = record {
        able = record {
          words = mid-words g.mid;
          parent = inside;
          small = new.bit.small;
          free =
              ap (λ (z : ℕ). is_set (bits_of ws z) b) g.at ∙ inner-held (mid-shape g.mid) g.mid.holds m path b (end-stands g.mid) new.bit.small
              ∙ ap (λ (z : ℕ). inner hop (node z (slot (4 * z) a)) b) whole ∙ ap (ltb 0) (hop-at-bit new.bit short hop ∙ no_hop);
          room = r.hops_room;
          blank = λ j u. g.mid.holds.blank j (omega (arith, g.mid.hops));
        };
        few = omega (arith, new.found.few_hops);
      }

      pub grow-done : {ws' hs' : List ℕ} → HopPut ws ws' hs hs' nodes x b (hop_place_at ws x b) h
          → Become (insert (unmarked_route a len h) rs) ws₀ hs ws' hs' nodes
      grow-done {ws'} {hs'} e =
          let p = put_holds m path (mid-shape g.mid) g.mid.holds e (end-stands g.mid) g.at new.fine.hop_one in
          let s : down_to st a m ≡ node_stands (insert (unmarked_route a len h) rs) =
          ap (down_to st a) whole ∙ sym (insert-nodes (unmarked_route a len h) rs new.fine new.found.good) in
          let t : with_hop hop (len_at m b) (bits_at path b) h ≡ hop_for (insert (unmarked_route a len h) rs) =
          ap₂ (λ (u v : ℕ). with_hop hop u v h) (ap (λ (z : ℕ). len_at z b) whole ∙ bit-len new.bit short)
          (ap (λ (z : ℕ). bits_at (slot (4 * z) a) b) whole ∙ bit-bits new.bit short)
          ∙ sym (insert-hops (unmarked_route a len h) rs new.fine new.found.good) in
          become (insert-good (unmarked_route a len h) rs new.fine new.found.good)
          (subst (λ (z : ℕ → ℕ → ℕ). Holding (node_stands (insert (unmarked_route a len h) rs)) z ws' hs' nodes) t
          (subst (λ (z : ℕ → ℕ → Bool). Holding z (with_hop hop (len_at m b) (bits_at path b) h) ws' hs' nodes) s p))
          (e.same ∙ g.same) e.same_hops
