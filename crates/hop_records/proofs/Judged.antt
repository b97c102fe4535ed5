-- What forwarding and counting answer: what goes with the case that holds (specs/Cases.antt), and nothing else.
use Rattle.std.proofs.Common.{◌≡◌, ℕ, ◌<◌, ◌≤◌, min, true, false, ◌≢◌, ◌⊎◌, List, [], ◌∷◌, length, sym, refl, ap, ◌∙◌, subst, inl, inr, true≢false, arith, lt-ltb, eq-eqb, ne_eqb}
use Rattle.bits.proofs.Bools.{below?, equal?, decided, untrue}
use Rattle.routes.specs.Route.{Good}
use Rattle.routes.specs.Said.{Said, accepted, refused, refused_at, hop_after}
use Rattle.routes.specs.declared.Route.{Route}
use Rattle.routes.proofs.Goods.{good-fine}
use Rattle.standing.specs.Cells.{Longest}
use Rattle.standing.specs.Served.{Served}
use Rattle.standing.proofs.Served.{served-once}
use Rattle.sail.specs.Word.{said_of, has_hop, hop_in_word}
use Rattle.hop_records.specs.Records.{is_up, has_record, record_of}
use Rattle.hop_records.specs.Forward.{port_said, forward_said, hop_of, pack_forward, counted_word}
use Rattle.hop_records.specs.Cases.{HasRecord, Forward, Counted, ForwardServed}
use Rattle.hop_records.specs.declared.HopRecord.{HopRecord}
use Rattle.hop_records.proofs.Meanings.{record_is, record-not, port-none, port-down, port-up}

-- without a hop
pub no-hop-zero : (s : Said) → has_hop s ≡ false → hop_of s ≡ 0
no-hop-zero (accepted []) e = refl
no-hop-zero (accepted (n ∷ [])) e = refl
no-hop-zero (accepted (n ∷ h ∷ vs)) e = absurd (true≢false (sym (lt-ltb 1 (length (n ∷ h ∷ vs)) (omega arith)) ∙ e))
no-hop-zero (refused k) e = refl
no-hop-zero (refused_at k i) e = refl

module _ (rs : List HopRecord) where
  -- the test of a record is the meaning of having one
  pub has-record : (h : ℕ) → HasRecord rs h → has_record rs h ≡ true
  has-record h r = record_is rs h r.one (omega (arith, r.within, r.hop))

  pub record-had : (h : ℕ) → has_record rs h ≡ true → HasRecord rs h
  record-had h e = go (below? h 1) (below? (min (length rs) 32767) h)
    where
      go : (h < 1) ⊎ (1 ≤ h) → (min (length rs) 32767 < h) ⊎ (h ≤ min (length rs) 32767) → HasRecord rs h
      go (inl a) b = absurd (true≢false (sym e ∙ record-not rs h (inl a)))
      go (inr a) (inl b) = absurd (true≢false (sym e ∙ record-not rs h (inr b)))
      go (inr a) (inr b) = record { one = a; within = omega arith; hop = omega arith }

  none-had : (h : ℕ) → (HasRecord rs h → ⊥) → has_record rs h ≡ false
  none-had h n = untrue (has_record rs h) (λ e. n (record-had h e))

  is_up_lem : (h : ℕ) → (record_of rs h).up ≡ 1 → is_up (record_of rs h) ≡ true
  is_up_lem h e = eq-eqb (record_of rs h).up 1 e

  is_down : (h : ℕ) → (record_of rs h).up ≢ 1 → is_up (record_of rs h) ≡ false
  is_down h n = ne_eqb (record_of rs h).up 1 n

  no-hop-says : (s : Said) → has_hop s ≡ false → forward_said rs s ≡ s
  no-hop-says (accepted []) e = refl
  no-hop-says (accepted (n ∷ [])) e = refl
  no-hop-says (accepted (n ∷ h ∷ vs)) e = absurd (true≢false (sym (lt-ltb 1 (length (n ∷ h ∷ vs)) (omega arith)) ∙ e))
  no-hop-says (refused k) e = refl
  no-hop-says (refused_at k i) e = refl

  pub forward-only : (s x : Said) → Forward rs s x → forward_said rs s ≡ x
  forward-only s _ (Forward.no_hop _ e) = no-hop-says s e
  forward-only _ _ (Forward.no_record n h vs d) = port-none rs n h (none-had h d)
  forward-only _ _ (Forward.down n h vs r u) = port-down rs n h (has-record h r) (is_down h u)
  forward-only _ _ (Forward.out n h vs r u) = port-up rs n h (has-record h r) (is_up_lem h u)

  port-judged : (n h : ℕ) (vs : List ℕ) → Forward rs (accepted (n ∷ h ∷ vs)) (port_said rs n h)
  port-judged n h vs = go (decided (has_record rs h)) (equal? (record_of rs h).up 1)
    where
      its : {x : Said} → Forward rs (accepted (n ∷ h ∷ vs)) x → Forward rs (accepted (n ∷ h ∷ vs)) (port_said rs n h)
      its c = subst (Forward rs (accepted (n ∷ h ∷ vs))) (sym (forward-only _ _ c)) c

      go : (has_record rs h ≡ true) ⊎ (has_record rs h ≡ false) → ((record_of rs h).up ≡ 1) ⊎ ((record_of rs h).up ≢ 1)
          → Forward rs (accepted (n ∷ h ∷ vs)) (port_said rs n h)
      go (inr e) u = its (Forward.no_record n h vs (λ r. true≢false (sym (has-record h r) ∙ e)))
      go (inl e) (inr u) = its (Forward.down n h vs (record-had h e) u)
      go (inl e) (inl u) = its (Forward.out n h vs (record-had h e) u)

  pub forward-judged : (s : Said) → Forward rs s (forward_said rs s)
  forward-judged (accepted []) = Forward.no_hop _ refl
  forward-judged (accepted (n ∷ [])) = Forward.no_hop _ refl
  forward-judged (accepted (n ∷ h ∷ vs)) = port-judged n h vs
  forward-judged (refused k) = Forward.no_hop _ refl
  forward-judged (refused_at k i) = Forward.no_hop _ refl

  -- counting, of any number
  pub counted-only : (w r : ℕ) → Counted rs w r → counted_word rs w ≡ r
  unfolding counted_word
  counted-only w _ (Counted.no_hop e) = rw e
  counted-only w _ (Counted.hop s e f) = rw e (ap pack_forward (forward-only (said_of w) s f))

  pub counted-judged : (w : ℕ) → Counted rs w (counted_word rs w)
  counted-judged w = go (decided (hop_in_word w))
    where
      its : {x : ℕ} → Counted rs w x → Counted rs w (counted_word rs w)
      its c = subst (Counted rs w) (sym (counted-only w _ c)) c

      go : (hop_in_word w ≡ true) ⊎ (hop_in_word w ≡ false) → Counted rs w (counted_word rs w)
      go (inr e) = its (Counted.no_hop e)
      go (inl e) = its (Counted.hop _ e (forward-judged (said_of w)))

-- where routes serve the address
module _ (routes : List Route) (good : Good routes) (rs : List HopRecord) (a n : ℕ) where
  -- the hop of a route that stands is 1 to 32,767
  hop-had : (h : ℕ) → Longest routes 32 a h → h ≤ length rs → HasRecord rs h
  hop-had h w l =
      let f = good-fine routes good w.route w.listed in
      record { one = omega (arith, w.its_hop, f.hop_one); within = l; hop = omega (arith, w.its_hop, f.hop_ok) }

  served-case : {s x : Said} → Served routes a n s → Forward rs s x → ForwardServed routes rs a n x
  served-case (Served.no_route none) (Forward.no_hop _ e) = ForwardServed.no_route none
  served-case (Served.hop h w) (Forward.no_hop _ e) = absurd (true≢false (sym (lt-ltb 1 (length (n ∷ h ∷ [])) (omega arith)) ∙ e))
  served-case (Served.hop h w) (Forward.no_record m k vs d) = go (below? (length rs) h)
    where
      go : (length rs < h) ⊎ (h ≤ length rs) → ForwardServed routes rs a n (refused 14)
      go (inl l) = ForwardServed.no_record h w l
      go (inr l) = absurd (d (hop-had h w l))
  served-case (Served.hop h w) (Forward.down m k vs r u) = ForwardServed.down h w r.within u
  served-case (Served.hop h w) (Forward.out m k vs r u) = ForwardServed.out h w r.within u

  module _ (s : Said) (v : Served routes a n s) where
    pub served-judged : ForwardServed routes rs a n (forward_said rs s)
    served-judged = served-case v (forward-judged rs s)

    hop_is : (h : ℕ) → Longest routes 32 a h → s ≡ hop_after n h
    hop_is h w = served-once routes good a n v (Served.hop h w)

    said-of : (u x : Said) → s ≡ u → Forward rs u x → forward_said rs s ≡ x
    said-of u x e f = ap (forward_said rs) e ∙ forward-only rs u x f

    pub served-only : (x : Said) → ForwardServed routes rs a n x → forward_said rs s ≡ x
    served-only _ (ForwardServed.no_route none) = said-of _ _ (served-once routes good a n v (Served.no_route none)) (Forward.no_hop _ refl)
    served-only _ (ForwardServed.no_record h w l) = said-of _ _ (hop_is h w) (Forward.no_record n h [] (λ r. omega (arith, r.within)))
    served-only _ (ForwardServed.down h w l u) = said-of _ _ (hop_is h w) (Forward.down n h [] (hop-had h w l) u)
    served-only _ (ForwardServed.out h w l u) = said-of _ _ (hop_is h w) (Forward.out n h [] (hop-had h w l) u)
