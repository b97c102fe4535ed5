-- Make: a fresh box is seen by each party as a fresh table, so it is sound, and nothing stands in it. It is accepted exactly where the sizes are right
-- and the limits fit the pools.
use mathlib.Core.Path.{◌≡◌, refl, sym, ◌∙◌, ap, subst}
use mathlib.Core.Logic.{◌⊎◌, inl, inr}
use mathlib.Core.Bool.{Bool, true, false, cond, true≢false, false≢true}
use mathlib.Core.List.{List, [], ◌∷◌, map}
use Prim.Native.Nat.{ℕ, zero, suc, ◌+◌, ◌≤◌}
use native.Mathlib.Omega.{arith}
use lib.Dec.{eqb}
use lib.ListN.{get_or, length, replicate, length-replicate}
use lib.Seq.{ext_get_or}
use borrow.Author.Tests.{eqb-true}
use Rattle.bits.proofs.Bools.{decided}
use Rattle.bits.proofs.Tabs.{get_d-zeros}
use Rattle.routes.specs.Record.{written}
use Rattle.routes.specs.Said.{Said, accepted, refused, refused_at, accepts}
use Rattle.standing.specs.Cells.{need}
use Rattle.sail.specs.Geometry.{bits2, bits3}
use Rattle.sail.specs.Lent.{Lent}
use Rattle.sail.specs.Sizes.{sizes_fault, Sized}
use Rattle.sail.specs.Sound.{Sound, standing, fresh_table, fresh_lent}
use Rattle.sail.specs.declared.geometry.Geometry.{Geometry}
use Rattle.sail.specs.declared.table.Table.{Table}
use Rattle.sail.proofs.Fitting.{none_is}
use Rattle.sail_theory.specs.Calls.{Out, or_say}
use Rattle.sail_theory.specs.Facts.{TableHolds}
use Rattle.sail_theory.proofs.places.SoundTest.{sized_of}
use Rattle.sail_theory.proofs.calls.Make.{make-is, make-holds}
use Rattle.pair.specs.Party.{Party, one, two, seen, view}
use Rattle.pair.specs.PairLent.{PairLent, side, room_for, mine, part, sees}
use Rattle.pair.specs.PairSound.{table_for, standing_for, pair_sizes_fault, PairSound, limits_fit}
use Rattle.pair.specs.PairCalls.{PairOut, pair_out, pair_outcome, fresh_pair, fresh_pair_lent, pair_make_said, pair_made}
use Rattle.pair.specs.declared.Pair.{Pair}
use Rattle.pair.proofs.Views.{seen_none, length_part, part-at}
use Rattle.pair.proofs.Sees.{for-both}
use Rattle.pair.proofs.PairTest.{limits-tells}

-- outcomes
module _ (s : Said) (t : Pair) (b : PairLent) (t' : Pair) (b' : PairLent) where
  pub ends-said : (pair_outcome s t b t' b').said ≡ s
  ends-said = go s
    where
      go : (s : Said) → (pair_outcome s t b t' b').said ≡ s
      go (accepted vs) = refl
      go (refused n) = refl
      go (refused_at n k) = refl

  pub ends-accepted : accepts s ≡ true → pair_outcome s t b t' b' ≡ pair_out s t' b'
  ends-accepted e = go s e
    where
      go : (s : Said) → accepts s ≡ true → pair_outcome s t b t' b' ≡ pair_out s t' b'
      go (accepted vs) e = refl
      go (refused n) e = absurd (false≢true e)
      go (refused_at n k) e = absurd (false≢true e)

  pub ends-refused : accepts s ≡ false → pair_outcome s t b t' b' ≡ pair_out s t b
  ends-refused e = go s e
    where
      go : (s : Said) → accepts s ≡ false → pair_outcome s t b t' b' ≡ pair_out s t b
      go (accepted vs) e = absurd (true≢false e)
      go (refused n) e = refl
      go (refused_at n k) e = refl

-- zeros as they are seen
view-zeros : (w : Party) (n : ℕ) → view w (replicate n 0) ≡ replicate n 0
unfolding view
view-zeros w zero = refl
view-zeros w (suc n) = ap (λ (x : ℕ). x ∷ map (seen w) (replicate n 0)) (seen_none w) ∙ ap (λ (xs : List ℕ). 0 ∷ xs) (view-zeros w n)

part-zeros : (w : Party) (own : List ℕ) (d n : ℕ) → part w own d (replicate n 0) ≡ replicate n 0
part-zeros w own d n = ext_get_or 0 (part w own d (replicate n 0)) (replicate n 0) (length_part w own d (replicate n 0)) (λ q l.
    part-at w own d (replicate n 0) q (rw length_part at l) ∙ either (mine w own d q) (get_or (replicate n 0) q 0) (get_d-zeros n q) ∙ sym (get_d-zeros n q))
  where
    either : (b : Bool) (x : ℕ) → x ≡ 0 → ◌≡◌ {A = ℕ} (cond b x 0) 0
    either true x e = e
    either false x e = refl

-- each party sees a fresh table
fresh-seen : (g : Geometry) (b : PairLent) (w : Party) → sees g w (fresh_pair_lent b) ≡ fresh_lent (side w b)
unfolding fresh_pair_lent fresh_lent
fresh-seen g b one =
    let e2 = part-zeros one (replicate (length b.own2) 0) (bits2 g) (length b.second) in
    let e3 = part-zeros one (replicate (length b.own3) 0) (bits3 g) (length b.third) in
    let ec = part-zeros one (replicate (length b.own2) 0) (bits2 g) (length b.long2) in
    let f2 = view-zeros one (length b.own2) in
    let f3 = view-zeros one (length b.own3) in
    λ i. record {
      list = replicate (length b.list1) 0;
      first = replicate (length b.first1) 32768;
      second = e2 i;
      third = e3 i;
      own2 = f2 i;
      own3 = f3 i;
      long1 = replicate (length b.long11) 0;
      long2 = ec i;
    }
fresh-seen g b two =
    let e2 = part-zeros two (replicate (length b.own2) 0) (bits2 g) (length b.second) in
    let e3 = part-zeros two (replicate (length b.own3) 0) (bits3 g) (length b.third) in
    let ec = part-zeros two (replicate (length b.own2) 0) (bits2 g) (length b.long2) in
    let f2 = view-zeros two (length b.own2) in
    let f3 = view-zeros two (length b.own3) in
    λ i. record {
      list = replicate (length b.list2) 0;
      first = replicate (length b.first2) 32768;
      second = e2 i;
      third = e3 i;
      own2 = f2 i;
      own3 = f3 i;
      long1 = replicate (length b.long12) 0;
      long2 = ec i;
    }

-- right sizes for both, and limits that fit
pub record Makeable (t : Pair) (b : PairLent) : Type 0 where
  pub sized : (w : Party) → Sized t.geometry (side w b)
  pub fit2 : t.one.most2 + t.two.most2 ≤ length b.own2
  pub fit3 : t.one.most3 + t.two.most3 ≤ length b.own3

module _ (t : Pair) (b : PairLent) (m : Makeable t b) where
  abbrev g : Geometry
  g = t.geometry

  abbrev u : Pair
  u = fresh_pair t

  abbrev v : PairLent
  v = fresh_pair_lent b

  fresh-table : (w : Party) → table_for w u ≡ fresh_table g
  fresh-table one = refl
  fresh-table two = refl

  alone : (w : Party) → TableHolds (table_for w t) (side w b) [] (fresh_table g) (fresh_lent (side w b))
  alone w =
      subst (λ (o : Out). TableHolds (table_for w t) (side w b) [] o.table o.lent) (make-is (table_for w t) (side w b) (m.sized w))
      (make-holds (table_for w t) (side w b) (m.sized w))

  fresh-each : (w : Party) → Sound (table_for w u) (sees g w v)
  fresh-each w =
      subst (λ (z : Table). Sound z (sees g w v)) (sym (fresh-table w))
      (subst (λ (z : Lent). Sound (fresh_table g) z) (sym (fresh-seen g b w)) (alone w).sound)

  pub fresh-none : (w : Party) → standing_for w u v ≡ []
  fresh-none w = ap (λ (z : Table). standing z (sees g w v)) (fresh-table w) ∙ ap (standing (fresh_table g)) (fresh-seen g b w) ∙ (alone w).routes

  pub fresh-bytes : (w : Party) → (side w v).list ≡ written [] (room_for w b)
  fresh-bytes w = ap {B = List ℕ} (λ (l : Lent). l.list) (fresh-seen g b w) ∙ (alone w).list

  pub fresh-rooms : (w : Party) → room_for w v ≡ room_for w b
  unfolding fresh_pair_lent
  fresh-rooms one = rw length-replicate
  fresh-rooms two = rw length-replicate

  pub fresh-sound : PairSound u v
  unfolding fresh_pair_lent need
  fresh-sound = record {
    each = fresh-each;
    nobodys2 = record { zero = λ c l x y. get_d-zeros (length b.own2) c };
    nobodys3 = record { zero = λ c l x y. get_d-zeros (length b.own3) c };
    spare2 = record { blank = λ q l x y. get_d-zeros (length b.second) q };
    spare3 = record { blank = λ q l x y. get_d-zeros (length b.third) q };
    uncounted = record { blank = λ q l x y. get_d-zeros (length b.long2) q };
    within2 = λ w. rw (fresh-none w) (omega arith);
    within3 = λ w. rw (fresh-none w) (omega arith);
    fit2 = rw length-replicate m.fit2;
    fit3 = rw length-replicate m.fit3;
  }

-- nothing is wrong with the sizes exactly where both are right
pub sizes-none : (g : Geometry) (b : PairLent) → ((w : Party) → Sized g (side w b)) → pair_sizes_fault g b ≡ 0
unfolding pair_sizes_fault
sizes-none g b z = rw (none_is g (side one b) (z one), none_is g (side two b) (z two))

pub none-sized : (g : Geometry) (b : PairLent) → pair_sizes_fault g b ≡ 0 → (w : Party) → Sized g (side w b)
unfolding pair_sizes_fault
none-sized g b e = go (decided (eqb (sizes_fault g (side one b)) 0)) e
  where
    go : (eqb (sizes_fault g (side one b)) 0 ≡ true) ⊎ (eqb (sizes_fault g (side one b)) 0 ≡ false)
        → cond (eqb (sizes_fault g (side one b)) 0) (sizes_fault g (side two b)) (sizes_fault g (side one b)) ≡ 0 → (w : Party) → Sized g (side w b)
    go (inl h) e = for-both (λ w. Sized g (side w b)) one (sized_of g (side one b) (eqb-true _ _ h)) (sized_of g (side two b) (rw h at e))
    go (inr h) e = absurd (true≢false (sym (borrow.Author.Tests.eq-eqb _ _ (rw h at e)) ∙ h))

pub or-accepts : (n : ℕ) (s : Said) → accepts (or_say n s) ≡ true → (n ≡ 0) × (accepts s ≡ true)
or-accepts zero s e = (refl, e)
or-accepts (suc n) s e = absurd (false≢true e)

module _ (t : Pair) (b : PairLent) where
  pub make-makeable : accepts (pair_made t b).said ≡ true → Makeable t b
  unfolding pair_made pair_make_said
  make-makeable e =
      let a = or-accepts _ _ (sym (ap accepts (ends-said (pair_make_said t b) t b (fresh_pair t) (fresh_pair_lent b))) ∙ e) in
      let f = (limits-tells t b).0 (fits (limits_fit t b) a.1) in
      record { sized = none-sized t.geometry b a.0; fit2 = f.0; fit3 = f.1 }
    where
      fits : (x : Bool) → accepts (or_say (cond x 0 24) (accepted [])) ≡ true → x ≡ true
      fits true e = refl
      fits false e = absurd (false≢true e)

  pub make-left : accepts (pair_made t b).said ≡ false → ((pair_made t b).state ≡ t) × ((pair_made t b).lent ≡ b)
  unfolding pair_made
  make-left e =
      let said = ends-said (pair_make_said t b) t b (fresh_pair t) (fresh_pair_lent b) in
      let q = ends-refused (pair_make_said t b) t b (fresh_pair t) (fresh_pair_lent b) (sym (ap accepts said) ∙ e) in
      (ap (λ (o : PairOut). o.state) q, ap (λ (o : PairOut). o.lent) q)

  pub made-is : Makeable t b → pair_made t b ≡ pair_out (accepted []) (fresh_pair t) (fresh_pair_lent b)
  unfolding pair_made pair_make_said
  made-is m = rw (sizes-none t.geometry b m.sized, (limits-tells t b).1 (m.fit2, m.fit3))
