-- Announce and withdraw clear the bits after the length. What they say and leave, by the cleared prefix; and that nothing but the flag depends
-- on the bits that were cleared.
use mathlib.Core.Path.{◌≡◌, refl, sym, ◌∙◌, ap, ap₂}
use mathlib.Core.Logic.{◌⊎◌, inl, inr, ◌↔◌, ◌≢◌}
use mathlib.Core.Bool.{Bool, true, false, true≢false, false≢true}
use mathlib.Core.List.{List}
use Prim.Native.Nat.{ℕ, zero, suc, ◌-◌, ◌/◌, ◌%◌, ◌^◌, ◌≤◌, ◌<◌}
use native.Mathlib.Nat.{le_refl, le_step, zero-mul}
use native.Mathlib.Omega.{arith}
use lib.ListN.{get_or}
use lib.Pow.{split, mod-pow-add}
use borrow.Author.Tests.{eq-eqb, eqb-true, not-false, lt-leb}
use Rattle.bits.specs.Bit.{bit_at}
use Rattle.bits.specs.Count.{bit}
use Rattle.bits.specs.Slot.{cut}
use Rattle.bits.proofs.Masks.{cut-bits}
use Rattle.bits.proofs.Slots.{cut-le, cut-cut}
use Rattle.bits.proofs.Bools.{below?}
use Rattle.routes.specs.Route.{key_of, Prefix, Fine}
use Rattle.routes.specs.Said.{Said, accepted, refused, refused_at, accepts}
use Rattle.routes.specs.declared.Route.{Route}
use Rattle.routes.specs.Cases.{WrongRoute}
use Rattle.standing.specs.Standing.{insert, remove}
use Rattle.sail.specs.Lent.{Lent}
use Rattle.sail.specs.Level.{chunks_of, level1, level2}
use Rattle.sail.specs.Sizes.{Sized}
use Rattle.sail.specs.Sound.{standing}
use Rattle.sail.specs.declared.table.Table.{Table}
use Rattle.sail_theory.specs.Alters.{Alters}
use Rattle.sail_theory.specs.Calls.{opened, owners_of, announce_said, withdraw_said, Out, out, lent_of, adding, taking}
use Rattle.sail_theory.specs.Calls.{cut_route, cleared, with_flag, out_with_flag, announced, withdrawn}
use Rattle.sail_theory.specs.Facts.{TableHolds, Announceable, Withdrawable}
use Rattle.sail.specs.Cases.{Sizing}
use Rattle.sail_theory.specs.Cases.{Announce, Withdraw}
use Rattle.sail_theory.proofs.calls.SomeCase.{announce-judged, withdraw-judged}
use Rattle.sail_theory.proofs.calls.OneCase.{announce-only, withdraw-only}
use Rattle.sail_theory.proofs.calls.Outcomes.{adding-said, adding-is, adding-off, adding-holds, accepted-welcome}
use Rattle.sail_theory.proofs.calls.Outcomes.{taking-said, taking-off, taking-holds, accepted-farewell}
use Rattle.sail_theory.proofs.frames.TableFrame.{adding-alters, taking-alters, opened-lowest}

-- The cut to a length. What it leaves of any address is a prefix. (Bit by bit it is `cut-bits`, crate bits, proofs/Masks.antt.)
pub cut-prefix : (l a : ℕ) → l ≤ 32 → a < 2 ^ 32 → Prefix (cut l a) l
cut-prefix l a h u = record { len_ok = h; addr_ok = omega (arith, cut-le l a); clear = cut-cut l a }

-- it is none only where the length is over 32
no_prefix : (l a : ℕ) → a < 2 ^ 32 → (Prefix (cut l a) l → ⊥) → 32 < l
no_prefix l a u h = go (below? 32 l)
  where
    go : (32 < l) ⊎ (l ≤ 32) → 32 < l
    go (inl x) = x
    go (inr x) = absurd (h (cut-prefix l a x u))

-- where no bit is set after the length, none is cleared
pub none-cleared : (l a : ℕ) → cut l a ≡ a → cleared l a ≡ false
none-cleared l a e = rw (e, eq-eqb a a refl)

-- a number whose bits below s are zero
low-zero : (a s : ℕ) → ((k : ℕ) → k < s → bit_at a k ≡ 0) → a % 2 ^ s ≡ 0
low-zero a zero h = omega arith
low-zero a (suc s) h =
    let here : a / 2 ^ s % 2 ≡ 0 = h s (le_refl (suc s)) in
    ap (λ (x : ℕ). a % 2 ^ x) (omega arith) ∙ mod-pow-add a 1 s ∙ rw (here, low-zero a s (λ k l. h k (le_step l)), zero-mul)

-- None is cleared exactly where every bit after the length is zero: the cut has zeros there (`cut-bits`), and an address with zeros there is its
-- own cut. So none ever is of an address whose length is 32.
pub cleared-bits : (l a : ℕ) → (cleared l a ≡ false) ↔ ((k : ℕ) → k < 32 - l → bit_at a k ≡ 0)
unfolding cut
cleared-bits l a = (
  (λ e k h. sym (ap (λ (x : ℕ). bit_at x k) (eqb-true (cut l a) a (not-false _ e))) ∙ cut-bits l a k ∙ rw (lt-leb (32 - l) k h)),
  (λ h. none-cleared l a (omega (arith, split a (32 - l), low-zero a (32 - l) h))),
)

-- What is said, with whether bits were cleared.
pub telling-accepts : (b : Bool) (s : Said) → accepts (with_flag b s) ≡ accepts s
telling-accepts b (accepted vs) = refl
telling-accepts b (refused n) = refl
telling-accepts b (refused_at n k) = refl

pub telling-off : (b : Bool) (s : Said) → accepts s ≡ false → with_flag b s ≡ s
telling-off b (accepted vs) e = absurd (true≢false e)
telling-off b (refused n) e = refl
telling-off b (refused_at n k) e = refl

-- both are told in one way
pub bit-once : (b c : Bool) → bit b ≡ bit c → b ≡ c
bit-once true true e = refl
bit-once true false e = absurd (omega arith)
bit-once false true e = absurd (omega arith)
bit-once false false e = refl

pub telling-once : (b : Bool) (s u : Said) → with_flag b s ≡ with_flag b u → s ≡ u
telling-once b (accepted vs) (accepted ws) e = cc
telling-once b (accepted vs) (refused n) e = cc
telling-once b (accepted vs) (refused_at n k) e = cc
telling-once b (refused n) (accepted ws) e = cc
telling-once b (refused n) (refused m) e = e
telling-once b (refused n) (refused_at m k) e = e
telling-once b (refused_at n k) (accepted ws) e = cc
telling-once b (refused_at n k) (refused m) e = e
telling-once b (refused_at n k) (refused_at m j) e = e

number_is : (n : ℕ) {m : ℕ} → refused n ≡ refused m → n ≡ m
number_is n e = cc

sizing-low : {t : Table} {l : Lent} {n : ℕ} → Sizing t l n → n ≡ 3 → ⊥
sizing-low (Sizing.limits h) e = omega arith
sizing-low (Sizing.size v h) e = omega arith

-- announce
module _ (t : Table) (l : Lent) (r : Route) where
  abbrev c : Route
  c = cut_route r

  abbrev b : Bool
  b = cleared r.len r.addr

  abbrev rs : List Route
  rs = standing t l

  pub announce-said : (announced t l r).said ≡ with_flag b (announce_said t l c)
  unfolding announced
  announce-said = ap (with_flag b) (adding-said t l c)

  pub announce-accepts : accepts (announced t l r).said ≡ accepts (announce_said t l c)
  announce-accepts = ap accepts announce-said ∙ telling-accepts b (announce_said t l c)

  pub announce-welcome : accepts (announced t l r).said ≡ true → Announceable t l c
  announce-welcome e = accepted-welcome t l c (sym announce-accepts ∙ e)

  -- Refused: the number alone, and all as it was. (The number is that of the first condition that holds: `announce-judged`.)
  pub announce-off : (s : Said) → announce_said t l c ≡ s → accepts s ≡ false → announced t l r ≡ out s t l
  unfolding announced
  announce-off s q e = ap (out_with_flag b) (adding-off t l c s q e) ∙ ap (λ (x : Said). out x t l) (telling-off b s e)

  pub announce-refused : accepts (announced t l r).said ≡ false → announced t l r ≡ out (announce_said t l c) t l
  announce-refused e = announce-off (announce_said t l c) refl (sym announce-accepts ∙ e)

  -- Accepted: sound, and the list holds the routes with the cleared one inserted
  pub announce-holds : accepts (announced t l r).said ≡ true → TableHolds t l (insert c rs) (announced t l r).table (announced t l r).lent
  unfolding announced
  announce-holds e = adding-holds t l c (announce-welcome e)

  pub announce-alters : accepts (announced t l r).said ≡ true → Alters t.geometry c.addr c.len l (announced t l r).lent
  unfolding announced
  announce-alters e = adding-alters t l c (announce-welcome e)

  -- "A newly opened chunk takes the lowest free number", in each pool
  module _ (e : accepts (announced t l r).said ≡ true) where
    after_is : (announced t l r).lent ≡ lent_of t l (insert c rs) (opened t.geometry (owners_of l) c)
    unfolding announced
    after_is = ap (λ (o : Out). o.lent) (adding-is t l c (announce-welcome e))

    pub opened-lowest2 : (k x : ℕ) → get_or l.own2 k 0 ≡ 0 → get_or (announced t l r).lent.own2 k 0 ≡ suc x → (j : ℕ) → j < k → get_or l.own2 j 0 ≢ 0
    opened-lowest2 k x was now = opened-lowest (level1 t.geometry) l.own2 c k x was (sym (ap {B = ℕ} (λ (u : Lent). get_or u.own2 k 0) after_is) ∙ now)

    pub opened-lowest3 : (k x : ℕ) → get_or l.own3 k 0 ≡ 0 → get_or (announced t l r).lent.own3 k 0 ≡ suc x → (j : ℕ) → j < k → get_or l.own3 j 0 ≢ 0
    opened-lowest3 k x was now =
        opened-lowest (level2 t.geometry (chunks_of (opened t.geometry (owners_of l) c).own2)) l.own3 c k x was
        (sym (ap {B = ℕ} (λ (u : Lent). get_or u.own3 k 0) after_is) ∙ now)

  -- "3 is now only a length over 32": 3 comes after 1 and 2, and says that the cut is no prefix, which only its length can cause
  pub three-is-length-announce : r.addr < 2 ^ 32 → ((announced t l r).said ≡ refused 3) ↔ (Sized t.geometry l × (32 < r.len))
  three-is-length-announce h = (
    (λ e. go (announce-judged t l c) (telling-once b _ (refused 3) (sym announce-said ∙ e))),
    (λ w. announce-said ∙ ap (with_flag b) (announce-only t l c _ (Announce.wrong 3 w.0 (WrongRoute.prefix (λ p. omega (arith, p.len_ok, w.1)))))),
  )
    where
      wrong : {n : ℕ} → WrongRoute c n → n ≡ 3 → 32 < r.len
      wrong (WrongRoute.prefix k) e = no_prefix r.len r.addr h k
      wrong (WrongRoute.hop p k) e = absurd (omega arith)
      wrong (WrongRoute.mark p x y k) e = absurd (omega arith)

      go : {s : Said} → Announce t l c s → s ≡ refused 3 → Sized t.geometry l × (32 < r.len)
      go (Announce.sizing n k) e = absurd (sizing-low k (number_is n e))
      go (Announce.wrong n z w) e = (z, wrong w (number_is n e))
      go (Announce.unsound z f k) e = absurd (omega (arith, number_is 5 e))
      go (Announce.replaced p k) e = absurd (false≢true (sym (ap accepts e)))
      go (Announce.full p k x) e = absurd (omega (arith, number_is 6 e))
      go (Announce.second w x) e = absurd (omega (arith, number_is 7 e))
      go (Announce.third w x y) e = absurd (omega (arith, number_is 8 e))
      go (Announce.added w x y) e = absurd (false≢true (sym (ap accepts e)))

  -- a fine route has no bit to clear
  pub announce-fine : Fine r → announced t l r ≡ out_with_flag false (adding t l r)
  unfolding announced
  announce-fine f =
      let same : c ≡ r = ap (λ (x : ℕ). record { addr = x; len = r.len; mark = r.mark; hop = r.hop }) f.prefix.clear in
      ap₂ (λ (x : Bool) (y : Route). out_with_flag x (adding t l y)) (none-cleared r.len r.addr f.prefix.clear) same

  -- A route and its cut are announced alike: one outcome, told with the flag and without. A cut address is its own cut
  pub clear-same-announce : (o : Out) × (announced t l r ≡ out_with_flag b o) × (announced t l c ≡ out_with_flag false o)
  unfolding announced
  clear-same-announce =
      let e = cut-cut r.len r.addr in
      let at : ℕ → Route = λ a. record { addr = a; len = r.len; mark = r.mark; hop = r.hop } in
      (adding t l c, refl, ap₂ (λ (x : Bool) (a : ℕ). out_with_flag x (adding t l (at a))) (none-cleared r.len c.addr e) e)

-- withdraw, in the same way
module _ (t : Table) (l : Lent) (a len : ℕ) where
  abbrev p : ℕ
  p = cut len a

  pub withdraw-said : (withdrawn t l a len).said ≡ with_flag (cleared len a) (withdraw_said t l p len)
  unfolding withdrawn
  withdraw-said = ap (with_flag (cleared len a)) (taking-said t l p len)

  pub withdraw-accepts : accepts (withdrawn t l a len).said ≡ accepts (withdraw_said t l p len)
  withdraw-accepts = ap accepts withdraw-said ∙ telling-accepts (cleared len a) (withdraw_said t l p len)

  pub withdraw-farewell : accepts (withdrawn t l a len).said ≡ true → Withdrawable t l p len
  withdraw-farewell e = accepted-farewell t l p len (sym withdraw-accepts ∙ e)

  pub withdraw-off : (s : Said) → withdraw_said t l p len ≡ s → accepts s ≡ false → withdrawn t l a len ≡ out s t l
  unfolding withdrawn
  withdraw-off s q e = ap (out_with_flag (cleared len a)) (taking-off t l p len s q e) ∙ ap (λ (x : Said). out x t l) (telling-off (cleared len a) s e)

  pub withdraw-refused : accepts (withdrawn t l a len).said ≡ false → withdrawn t l a len ≡ out (withdraw_said t l p len) t l
  withdraw-refused e = withdraw-off (withdraw_said t l p len) refl (sym withdraw-accepts ∙ e)

  -- Accepted: sound, and the list holds the routes with that of the cleared prefix removed
  pub withdraw-holds : accepts (withdrawn t l a len).said ≡ true
      → TableHolds t l (remove (key_of p len) (standing t l)) (withdrawn t l a len).table (withdrawn t l a len).lent
  unfolding withdrawn
  withdraw-holds e = taking-holds t l p len (withdraw-farewell e)

  pub withdraw-alters : accepts (withdrawn t l a len).said ≡ true → Alters t.geometry p len l (withdrawn t l a len).lent
  unfolding withdrawn
  withdraw-alters e = taking-alters t l p len (withdraw-farewell e)

  pub three-is-length-withdraw : a < 2 ^ 32 → ((withdrawn t l a len).said ≡ refused 3) ↔ (Sized t.geometry l × (32 < len))
  three-is-length-withdraw h = (
    (λ e. go (withdraw-judged t l p len) (telling-once (cleared len a) _ (refused 3) (sym withdraw-said ∙ e))),
    (λ w. withdraw-said ∙ ap (with_flag (cleared len a)) (withdraw-only t l p len _ (Withdraw.bad_prefix w.0 (λ q. omega (arith, q.len_ok, w.1))))),
  )
    where
      go : {s : Said} → Withdraw t l p len s → s ≡ refused 3 → Sized t.geometry l × (32 < len)
      go (Withdraw.sizing n k) e = absurd (sizing-low k (number_is n e))
      go (Withdraw.bad_prefix z k) e = (z, no_prefix len a h k)
      go (Withdraw.unsound z q k) e = absurd (omega (arith, number_is 5 e))
      go (Withdraw.absent q k x) e = absurd (omega (arith, number_is 9 e))
      go (Withdraw.removed w) e = absurd (false≢true (sym (ap accepts e)))

  pub clear-same-withdraw : (o : Out) × (withdrawn t l a len ≡ out_with_flag (cleared len a) o) × (withdrawn t l p len ≡ out_with_flag false o)
  unfolding withdrawn
  clear-same-withdraw =
      let e = cut-cut len a in
      (taking t l p len, refl, ap₂ (λ (x : Bool) (y : ℕ). out_with_flag x (taking t l y len)) (none-cleared len p e) e)
