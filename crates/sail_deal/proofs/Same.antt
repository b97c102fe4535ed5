-- A route that is announced as it stands changes nothing: the list has it already, and so the chunks that it needs, and all else that is lent follows
-- from these.
use mathlib.Core.Path.{◌≡◌, refl, sym, ap, ap₂, ◌∙◌}
use mathlib.Core.Logic.{◌⊎◌, inl, inr}
use mathlib.Core.Bool.{Bool, true, false}
use mathlib.Core.List.{List, [], ◌∷◌}
use Prim.Native.Nat.{ℕ, zero, suc, ◌<◌}
use lib.Dec.{eqb, ltb}
use lib.ListN.{length, get_or, set}
use borrow.Author.Tests.{ltb-false, eqb-true, eq-eqb, ne_eqb}
use Rattle.bits.specs.Count.{bit}
use Rattle.bits.proofs.Bools.{decided, and_split}
use Rattle.routes.specs.Record.{record_at, no_route}
use Rattle.routes.specs.Route.{key, Good}
use Rattle.routes.specs.Said.{accepted}
use Rattle.routes.specs.declared.Route.{Route}
use Rattle.routes.proofs.Rows.{length-routes, nth-route, good-rises, listed-written}
use Rattle.standing.specs.Standing.{stands, insert}
use Rattle.standing.proofs.NeedAfter.{stands-long}
use Rattle.lists.proofs.EditRoutes.{insert-over, stands-some}
use Rattle.sail.specs.Lent.{Lent, lent}
use Rattle.sail.specs.Level.{Level, chunks_of, level1, level2}
use Rattle.sail.specs.Sound.{standing}
use Rattle.sail.specs.declared.table.Table.{Table}
use Rattle.sail.proofs.Sounds.{standing-good}
use Rattle.sail_theory.specs.Calls.{Owners, out, open_at, opened, owners_of, state_of, lent_of, adding}
use Rattle.sail_theory.specs.Cases.{Proper}
use Rattle.sail_theory.specs.Facts.{Announceable}
use Rattle.sail_theory.specs.Render.{Rendered}
use Rattle.sail_theory.proofs.calls.ChangeHolds.{ready1, ready2}
use Rattle.sail_theory.proofs.calls.Outcomes.{replaced-welcome, adding-is}
use Rattle.sail_theory.proofs.owners.OpenAt.{OpenReady, open-had, open-short}
use Rattle.sail_theory.proofs.places.Rendered.{sound-rendered}
use Rattle.sail_deal.specs.Dealt.{stands_so}

set_same : {A : Type 0} (xs : List A) (k : ℕ) (z : A) → set xs k (get_or xs k z) ≡ xs
set_same [] k z = refl
set_same (x ∷ xs) zero z = refl
set_same (x ∷ xs) (suc k) z = ap (λ ys. x ∷ ys) (set_same xs k z)

same_parts : {a b c d x y e f a' b' c' d' e' f' : List ℕ} → a ≡ a' → b ≡ b' → c ≡ c' → d ≡ d' → e ≡ e' → f ≡ f'
    → lent a b c d x y e f ≡ lent a' b' c' d' x y e' f'
same_parts p q r s u v = cc

module _ (t : Table) (l : Lent) (r : Route) (p : Proper t l r) (bytes : (j : ℕ) → get_or l.list j 0 < 256) (k : ℕ) (inside : k < t.count)
    (same : record_at l.list k ≡ r) where
  abbrev rs : List Route
  rs = standing t l

  good : Good rs
  good = standing-good t l p.sound

  here : get_or rs k no_route ≡ r
  here = nth-route l.list t.count k inside ∙ same

  within : k < length rs
  within = rw (length-routes l.list t.count) inside

  stood : stands (key r) rs ≡ true
  stood = stands-some (key r) rs k within (ap key here)

  stays : insert r rs ≡ rs
  stays =
      insert-over r rs k (λ i h. rw here at (good-rises rs good i k h within)) within (ap key here)
      ∙ ap (set rs k) (sym here) ∙ set_same rs k no_route

  may : Announceable t l r
  may = replaced-welcome t l r p stood

  is : Rendered t l
  is = sound-rendered t l p.sound

  -- no chunk is opened: one is there wherever the route is longer than a level
  keeps : (v : Level) (own : List ℕ) (c : ℕ) → OpenReady rs r v own c → open_at v own c r ≡ own
  keeps v own c w = go (decided (ltb v.bits r.len))
    where
      go : (ltb v.bits r.len ≡ true) ⊎ (ltb v.bits r.len ≡ false) → open_at v own c r ≡ own
      go (inl e) = open-had rs r v own c w (stands-long r rs p.fine good stood v.bits e)
      go (inr e) = open-short rs r v own c w (ltb-false v.bits r.len e)

  owners : opened t.geometry (owners_of l) r ≡ owners_of l
  owners =
      ap₂ (λ (x y : List ℕ). record { own2 = x; own3 = y })
      (keeps (level1 t.geometry) l.own2 _ (ready1 t l r may))
      (keeps (level2 t.geometry (chunks_of (opened t.geometry (owners_of l) r).own2)) l.own3 _ (ready2 t l r may))

  -- what the routes and owners of a sound table ask for is what it holds
  table : state_of t rs ≡ t
  table = ap (λ (n : ℕ). record { geometry = t.geometry; count = n }) (length-routes l.list t.count)

  whole : lent_of t l rs (owners_of l) ≡ l
  whole =
      sym (same_parts (listed-written l.list t.count bytes p.sound.listed) is.is_first is.is_second is.is_third is.is_long1
      is.is_long2)

  pub adding-same : adding t l r ≡ out (accepted (1 ∷ [])) t l
  adding-same =
      let o = opened t.geometry (owners_of l) r in
      adding-is t l r may
      ∙ ap (λ (b : Bool). out (accepted (bit b ∷ [])) (state_of t (insert r rs)) (lent_of t l (insert r rs) o)) stood
      ∙ ap (λ (x : List Route). out (accepted (1 ∷ [])) (state_of t x) (lent_of t l x o)) stays
      ∙ ap (λ (x : Owners). out (accepted (1 ∷ [])) (state_of t rs) (lent_of t l rs x)) owners
      ∙ ap₂ (out (accepted (1 ∷ []))) table whole

-- the test for it
module _ (list : List ℕ) (k : ℕ) (stands : Bool) (r s : Route) (e : s ≡ record_at list k) where
  pub so-mark : stands ≡ true → s.hop ≡ r.hop → eqb s.mark r.mark ≡ stands_so list k stands r
  so-mark b h = rw (b, eq-eqb (record_at list k).hop r.hop (sym (ap (λ (x : Route). x.hop) e) ∙ h)) (ap (λ (x : Route). eqb x.mark r.mark) e)

  pub so-not : stands ≡ true → (s.hop ≡ r.hop → ⊥) → false ≡ stands_so list k stands r
  so-not b h = rw (b, ne_eqb (record_at list k).hop r.hop (λ q. h (ap (λ (x : Route). x.hop) e ∙ q)))

pub so-told : (list : List ℕ) (k : ℕ) (stands : Bool) (r : Route) → stands_so list k stands r ≡ true
    → (stands ≡ true) × ((record_at list k).hop ≡ r.hop) × ((record_at list k).mark ≡ r.mark)
so-told list k stands r e =
    let a = and_split stands _ e in
    let b = and_split (eqb (record_at list k).hop r.hop) _ a.1 in
    (a.0, eqb-true _ _ b.0, eqb-true _ _ b.1)
