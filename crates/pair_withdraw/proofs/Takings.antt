-- A withdrawal on a party's side, step by step: what each step asks, and what they leave.
use mathlib.Core.Path.{◌≡◌, sym, ◌∙◌, ap}
use mathlib.Core.List.{List}
use Prim.Native.Nat.{ℕ}
use lib.ListN.{length}
use Rattle.routes.specs.Record.{Records}
use Rattle.routes.specs.declared.Route.{Route}
use Rattle.chain.specs.List.{ChainedFront}
use Rattle.sail.specs.Level.{chunks_of, level1, level2}
use Rattle.sail.specs.Lent.{Lent, lent}
use Rattle.sail.specs.declared.geometry.Geometry.{Geometry}
use Rattle.sail.specs.declared.table.Table.{Table}
use Rattle.sail_theory.specs.Calls.{keep, owners_of}
use Rattle.sail_judge.specs.Withdraw.{RecordFound}
use Rattle.sail_judge.specs.declared.withdraw.WithdrawVerdict.{WithdrawVerdict}
use Rattle.sail_take.specs.Taken.{ToTakeIn, TakenIn}
use Rattle.pair.specs.Party.{Party, view}
use Rattle.pair.specs.PairSound.{share_of, table_for}
use Rattle.pair.specs.PairCalls.{keep_for, owners_kept_for, with_count}
use Rattle.pair.specs.declared.Share.{Share}
use Rattle.pair.specs.declared.Pair.{Pair}
use Rattle.pair.proofs.PairOwners.{keep-view}
use Rattle.pair.proofs.Views.{length-view}
use Rattle.pair.proofs.Sees.{share-own}
use Rattle.pair_cells.specs.Sides.{SideSight, side_left, side_out}
use Rattle.pair_withdraw.specs.Closed.{shut_for}
use Rattle.pair_withdraw.specs.Taking.{SideReady, routes_less, side_taking}
use Rattle.pair_withdraw.proofs.Shuts.{shut-keep}

-- what is seen has the size of what is there
module _ {w : Party} {t : Pair} {l : Lent} {see2 see3 ws par : List ℕ} (s : SideSight w t l see2 see3 ws par) where
  pub sight-size2 : length see2 ≡ length l.own2
  sight-size2 = ap length s.seen2 ∙ length-view w l.own2

  pub sight-size3 : length see3 ≡ length l.own3
  sight-size3 = ap length s.seen3 ∙ length-view w l.own3

module _ {w : Party} {t : Pair} {l : Lent} {a len : ℕ} {see2 see3 ws par : List ℕ} (s : SideReady w t l a len see2 see3 ws par) where
  abbrev g : Geometry
  g = t.geometry

  abbrev left : List Route
  left = routes_less w t l a len

  -- what is lent, with the owners as the party sees them
  abbrev seen : Lent
  seen = lent l.list l.first l.second l.third see2 see3 l.long1 l.long2

  module _ {table : Table} (own : table ≡ table_for w t) where
    pub record-ready : Records l.list table.count
    record-ready = rw own s.sound.listed.records

    module _ {f : WithdrawVerdict} (found : RecordFound l.list table.count a len f) where
      -- the prefix does not stand
      pub side-absent : (f.number ≡ 0 → ⊥)
          → (side_out f.number t l ≡ side_taking w t l a len) × SideSight w t l see2 see3 ws par
      unfolding side_taking
      side-absent h = let k = rw own at (found.off h) in (rw (k.0, k.1), s.sight)

      -- it stands
      module _ (h : f.number ≡ 0) where
        pub to_take : ToTakeIn table seen a len f.at
        to_take =
            let k = rw own at (found.on h) in
            rw (own, s.sight.seen2, s.sight.seen3) (record {
              may = record { prefix = s.prefix; sound = s.sound; old = k.2 };
              place = k.0;
              named = k.1;
            })

        pub to-chain : ChainedFront l.list table.count ws par
        to-chain = rw own s.sight.chain

        -- it is taken, and the owners of closed chunks are 0
        module _ {u : Table} {list first second third see2' see3' long1 long2 : List ℕ}
            (taken : TakenIn table seen a len u (lent list first second third see2' see3' long1 long2))
            {own2 own3 : List ℕ} (o2 : own2 ≡ shut_for w see2' l.own2) (o3 : own3 ≡ shut_for w see3' l.own3)
            {v : Pair} (counted : v ≡ with_count w u.count t) where
          abbrev e : Lent
          e = lent list first second third own2 own3 long1 long2

          is : TakenIn (table_for w t) (lent l.list l.first l.second l.third (view w l.own2) (view w l.own3) l.long1 l.long2) a len u
              (lent list first second third see2' see3' long1 long2)
          is = rw (own, s.sight.seen2, s.sight.seen3) at taken

          -- the owners that the party then sees
          sees2 : see2' ≡ keep left (level1 g) (view w l.own2)
          sees2 = ap {B = List ℕ} (λ (x : Lent). x.own2) is.lent

          sees3 : see3' ≡ keep left (level2 g (chunks_of (view w l.own2))) (view w l.own3)
          sees3 = ap {B = List ℕ} (λ (x : Lent). x.own3) is.lent

          own2-is : own2 ≡ keep_for w left (level1 g) l.own2
          own2-is = o2 ∙ ap (λ (x : List ℕ). shut_for w x l.own2) sees2 ∙ shut-keep w left (level1 g) l.own2

          own3-is : own3 ≡ keep_for w left (level2 g (chunks_of (view w l.own2))) l.own3
          own3-is = o3 ∙ ap (λ (x : List ℕ). shut_for w x l.own3) sees3 ∙ shut-keep w left (level2 g (chunks_of (view w l.own2))) l.own3

          lent_is : e ≡ side_left w g l left (owners_kept_for w g left (owners_of l))
          lent_is =
              ap (λ (x : Lent). lent x.list x.first x.second x.third own2 own3 x.long1 x.long2) is.lent
              ∙ rw (own2-is, own3-is, keep-view w left (level1 g) l.own2, keep-view w left (level2 g (chunks_of (view w l.own2))) l.own3)

          state-is : v ≡ with_count w (length left) t
          state-is = counted ∙ ap (λ (n : ℕ). with_count w n t) (ap {B = ℕ} (λ (x : Table). x.count) is.state)

          -- what the party has of the state then
          count-is : (share_of w v).count ≡ u.count
          count-is = ap {B = ℕ} (λ (p : Pair). (share_of w p).count) counted ∙ ap {B = ℕ} (λ (x : Share). x.count) (share-own w u.count t)

          pub side-taken : {ws' par' : List ℕ} → ChainedFront list u.count ws' par'
              → (side_out 0 v e ≡ side_taking w t l a len) × SideSight w v e see2' see3' ws' par'
          unfolding side_taking
          side-taken chain =
              let k = rw own at (found.on h) in (
                rw (k.2, state-is, lent_is),
                record {
                  seen2 = sees2 ∙ sym (keep-view w left (level1 g) l.own2) ∙ ap (view w) (sym own2-is);
                  seen3 = sees3 ∙ sym (keep-view w left (level2 g (chunks_of (view w l.own2))) l.own3) ∙ ap (view w) (sym own3-is);
                  chain = rw count-is chain;
                },
              )
