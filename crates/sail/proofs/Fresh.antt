-- A fresh table is sound: every first cell is a leaf of hop 0, and every chunk is free.
use mathlib.Core.Path.{◌≡◌, refl, sym, ◌∙◌}
use mathlib.Core.Bool.{true, false≢true}
use mathlib.Core.List.{[]}
use Prim.Native.Nat.{ℕ, zero, suc, ◌-◌, ◌/◌, ◌%◌, ◌^◌, ◌<◌}
use native.Mathlib.Omega.{arith}
use lib.ListN.{get_or, length, replicate, get_or-replicate, length-replicate}
use borrow.Author.Tests.{ltb-true}
use Rattle.bits.specs.Tab.{tabulate}
use Rattle.bits.proofs.Tabs.{get_d-zeros}
use Rattle.standing.specs.Cells.{any, first, best}
use Rattle.routes.specs.Record.{routes_of, Listed}
use Rattle.counts.proofs.Many.{many-none}
use Rattle.sail.specs.Lent.{Lent}
use Rattle.sail.specs.Level.{Level, Chunks, View, below, level1, level2}
use Rattle.sail.specs.Sizes.{Sized}
use Rattle.sail.specs.Sound.{Serves, Sound, fresh_table, fresh_lent}
use Rattle.sail.specs.declared.geometry.Geometry.{Geometry}

pub best_none : (p i : ℕ) → best [] p i ≡ 0
unfolding best first
best_none zero i = refl
best_none (suc p) i = best_none p (i / 2)

-- below chunks that are all free no cell is live
none-live : (v : Level) (k : Chunks) (p : ℕ) → ((c : ℕ) → k.own c ≡ 0) → (q : ℕ) → (below v k p).live q ≡ true → ⊥
none-live v k p h q e = omega (arith, ltb-true 0 (k.own (q / 2 ^ (p - v.bits))) e, h (q / 2 ^ (p - v.bits)))

-- first cells that are leaves of hop 0 serve no routes where no chunk is one's own
pub none-serves : (g : Geometry) (t : View) → ((q : ℕ) → q < 2 ^ g.p1 → t.first q ≡ 32768) → ((c : ℕ) → t.chunks2.own c ≡ 0)
    → ((c : ℕ) → t.chunks3.own c ≡ 0) → Serves [] g t
unfolding any
none-serves g t f o2 o3 = record {
  first = record {
    node = λ q l e z. absurd (false≢true z);
    leaf = λ q l e z. omega (arith, f q l, best_none g.p1 q);
    owned = λ c q l e. absurd (omega (arith, e, o2 c));
  };
  second = record {
    node = λ q l e. absurd (none-live (level1 g) t.chunks2 g.p2 o2 q e);
    leaf = λ q l e. absurd (none-live (level1 g) t.chunks2 g.p2 o2 q e);
    owned = λ c q l e. absurd (omega (arith, e, o3 c));
  };
  third = record { leaf = λ q l e. absurd (none-live (level2 g t.chunks2) t.chunks3 32 o3 q e) };
}

fresh-listed : (n : ℕ) → n % 8 ≡ 0 → Listed (replicate n 0) 0
fresh-listed n e = record {
  records = record { room = omega arith; few = omega arith; each = λ k l. absurd (omega arith); rises = λ i j l u. absurd (omega arith) };
  whole = rw length-replicate e;
  zeros = λ j h l. get_d-zeros n j;
}

fresh-sized : (g : Geometry) (l : Lent) → Sized g l → Sized g (fresh_lent l)
unfolding fresh_lent
fresh-sized g l s = record {
  valid = s.valid;
  whole = rw length-replicate s.whole;
  room = rw length-replicate s.room;
  cells1 = rw length-replicate s.cells1;
  few2 = rw length-replicate s.few2;
  cells2 = simp length-replicate s.cells2;
  few3 = rw length-replicate s.few3;
  cells3 = simp length-replicate s.cells3;
  counts1 = rw length-replicate s.counts1;
  counts2 = simp length-replicate s.counts2;
}

pub fresh-sound : (g : Geometry) (l : Lent) → Sized g l → Sound (fresh_table g) (fresh_lent l)
unfolding fresh_lent routes_of tabulate any
fresh-sound g l s = record {
  sized = fresh-sized g l s;
  listed = fresh-listed (length l.list) s.whole;
  serves = none-serves g _ (λ q h. get_or-replicate {A = ℕ} (length l.first) q 32768 0 (rw s.cells1 h)) (get_d-zeros (length l.own2))
      (get_d-zeros (length l.own3));
  clear2 = record { blank = λ q h e. get_d-zeros (length l.second) q };
  clear3 = record { blank = λ q h e. get_d-zeros (length l.third) q };
  counted1 = record {
    true_there = λ q h e. get_d-zeros (length l.long1) q ∙ sym (many-none [] g.p1 q refl);
    blank = λ q h e. get_d-zeros (length l.long1) q;
  };
  counted2 = record {
    true_there = λ q h e. get_d-zeros (length l.long2) q ∙ sym (many-none [] g.p2 _ refl);
    blank = λ q h e. get_d-zeros (length l.long2) q;
  };
}
