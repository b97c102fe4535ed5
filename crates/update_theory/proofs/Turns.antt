-- One entry of a message in a table: it leaves a sound table sound, and stops for want of room alone.
use mathlib.Core.Path.{◌≡◌, refl, ap, ◌∙◌}
use mathlib.Core.Logic.{◌≢◌}
use mathlib.Core.Bool.{Bool, false, false≢true}
use mathlib.Core.List.{List, [], ◌∷◌, ◌++◌, map}
use Prim.Native.Nat.{ℕ, zero, suc}
use native.Mathlib.Omega.{arith}
use lib.ListN.{length, drop}
use Rattle.routes.specs.Cases.{WrongRoute}
use Rattle.routes.specs.Route.{Prefix, Fine, key_of}
use Rattle.routes.specs.Said.{Said, accepted, refused, refused_at}
use Rattle.routes.specs.declared.Route.{Route}
use Rattle.routes.proofs.Meaning.{wrong-fine}
use Rattle.fields.specs.Field.{Net, Bytes8, entries}
use Rattle.fields.specs.Message.{HopOk, BothFields}
use Rattle.fields.proofs.Fields.{field_told, told-field, field-prefix}
use Rattle.sail.specs.Cases.{Sizing}
use Rattle.sail.specs.Lent.{Lent}
use Rattle.sail.specs.Sound.{Sound, standing}
use Rattle.sail.specs.declared.table.Table.{Table}
use Rattle.standing.specs.Standing.{stands}
use Rattle.sail_theory.specs.Calls.{Out, out, route, with_flag, announce_said, withdraw_said, adding, withdrawn}
use Rattle.sail_theory.specs.CallRuns.{done}
use Rattle.sail_theory.specs.Cases.{Announce, Withdraw}
use Rattle.sail_theory.proofs.calls.Cleared.{announce-fine, withdraw-off}
use Rattle.sail_theory.proofs.calls.OneCase.{announce-only, withdraw-only}
use Rattle.sail_theory.proofs.calls.Outcomes.{adding-said}
use Rattle.sail_theory.proofs.calls.SomeCase.{announce-judged}
use Rattle.sail_theory.proofs.runs.AfterRun.{leaves}
use Rattle.update_theory.specs.Cases.{ForRoom, six, seven, eight}
use Rattle.update_theory.specs.Deal.{Entry, goes, comes, all_entries, NthEntry, stop_of}
use Rattle.update_theory.specs.Update.{Kept, kept, kept_of, turn, call_of}

-- an entry is a call, and a call leaves a sound table sound
pub turn-sound : (hop : ℕ) (s : Kept) (e : Entry) → Sound s.table s.lent → Sound (turn hop s e).state.table (turn hop s e).state.lent
unfolding turn done
turn-sound hop s (goes n) q = (leaves s.table s.lent q (call_of hop (goes n))).sound
turn-sound hop s (comes n) q = (leaves s.table s.lent q (call_of hop (comes n))).sound

-- a withdrawal never stops
pub goes-on-turn : (hop : ℕ) (s : Kept) (n : Net) → (turn hop s (goes n)).stop ≡ 0
unfolding turn
goes-on-turn hop s n = refl

-- "a withdrawal of an absent route is passed over": nothing is changed, nothing stops, and the entry counts
pub withdraw-absent-passes : (hop : ℕ) (t : Table) (l : Lent) (n : Net) → Sound t l → Prefix n.addr n.len
    → stands (key_of n.addr n.len) (standing t l) ≡ false
    → ((withdrawn t l n.addr n.len).said ≡ refused 9) × (turn hop (kept t l) (goes n) ≡ record { stop = 0; state = kept t l })
unfolding turn
withdraw-absent-passes hop t l n s p e =
    let said = withdraw-only t l n.addr n.len (refused 9) (Withdraw.absent p s e) in
    let off : withdrawn t l n.addr n.len ≡ out (refused 9) t l
    = withdraw-off t l n.addr n.len (refused 9) (ap (λ (a : ℕ). withdraw_said t l a n.len) p.clear ∙ said) refl in
    (ap (λ (o : Out). o.said) off, ap (λ (o : Out). record { stop = 0; state = kept_of o }) off)

number_is : (n : ℕ) {m : ℕ} → refused n ≡ refused m → n ≡ m
number_is n e = cc

stop-flag : (b : Bool) (s : Said) → stop_of (with_flag b s) ≡ stop_of s
stop-flag b (accepted vs) = refl
stop-flag b (refused n) = refl
stop-flag b (refused_at n k) = refl

module _ (hop : ℕ) (t : Table) (l : Lent) (n : Net) where
  abbrev r : Route
  r = route n.addr n.len hop 0

  -- of a fine route: the number with which the announcement is refused
  pub comes-number : Fine r → (turn hop (kept t l) (comes n)).stop ≡ stop_of (announce_said t l r)
  unfolding turn
  comes-number f =
      ap (λ (o : Out). stop_of o.said) (announce-fine t l r f) ∙ stop-flag false (adding t l r).said ∙ ap stop_of (adding-said t l r)

  -- refused for room: then the route is fine
  fine-refused : {s : Said} → Announce t l r s → (m : ℕ) → s ≡ refused m → ForRoom m → Fine r
  fine-refused (Announce.sizing k h) m e q = absurd (low h (number_is k e) q)
    where
      low : {k m : ℕ} → Sizing t l k → k ≡ m → ForRoom m → ⊥
      low (Sizing.limits h) e six = omega arith
      low (Sizing.limits h) e seven = omega arith
      low (Sizing.limits h) e eight = omega arith
      low (Sizing.size v h) e six = omega arith
      low (Sizing.size v h) e seven = omega arith
      low (Sizing.size v h) e eight = omega arith
  fine-refused (Announce.wrong k z w) m e q = absurd (low w (number_is k e) q)
    where
      low : {k m : ℕ} → WrongRoute r k → k ≡ m → ForRoom m → ⊥
      low (WrongRoute.prefix h) e six = omega arith
      low (WrongRoute.prefix h) e seven = omega arith
      low (WrongRoute.prefix h) e eight = omega arith
      low (WrongRoute.hop p h) e six = omega arith
      low (WrongRoute.hop p h) e seven = omega arith
      low (WrongRoute.hop p h) e eight = omega arith
      low (WrongRoute.mark p a b h) e six = omega arith
      low (WrongRoute.mark p a b h) e seven = omega arith
      low (WrongRoute.mark p a b h) e eight = omega arith
  fine-refused (Announce.unsound z f h) m e q = f
  fine-refused (Announce.replaced p h) m e q = p.fine
  fine-refused (Announce.full p h k) m e q = p.fine
  fine-refused (Announce.second w x) m e q = w.proper.fine
  fine-refused (Announce.third w x y) m e q = w.proper.fine
  fine-refused (Announce.added w x y) m e q = w.proper.fine

  pub refuses-stop : (m : ℕ) → Announce t l r (refused m) → ForRoom m → (turn hop (kept t l) (comes n)).stop ≡ m
  refuses-stop m a q = comes-number (fine-refused a m refl q) ∙ ap stop_of (announce-only t l r (refused m) a)

  -- a stop in a sound table is a refusal for room
  pub stop-refuses : Sound t l → Fine r → (turn hop (kept t l) (comes n)).stop ≢ 0
      → Announce t l r (refused (turn hop (kept t l) (comes n)).stop) × ForRoom (turn hop (kept t l) (comes n)).stop
  stop-refuses s f z = rw (comes-number f) (go (announce-judged t l r) (λ e. z (comes-number f ∙ e)))
    where
      go : {x : Said} → Announce t l r x → stop_of x ≢ 0 → Announce t l r (refused (stop_of x)) × ForRoom (stop_of x)
      go (Announce.sizing k h) z = absurd (no h)
        where
          no : {k : ℕ} → Sizing t l k → ⊥
          no (Sizing.limits h) = h s.sized.valid
          no (Sizing.size v h) = h s.sized
      go (Announce.wrong k y w) z = absurd (wrong-fine w f)
      go (Announce.unsound y g h) z = absurd (h s)
      go (Announce.replaced p h) z = absurd (z refl)
      go (Announce.full p h k) z = (Announce.full p h k, six)
      go (Announce.second w x) z = (Announce.second w x, seven)
      go (Announce.third w x y) z = (Announce.third w x y, eight)
      go (Announce.added w x y) z = absurd (z refl)

-- an announced entry is one of the second field
module _ where
  entry-head : {a b : Entry} {xs ys : List Entry} → a ∷ xs ≡ b ∷ ys → a ≡ b
  entry-head p = cc

  comes-once : {m n : Net} → comes m ≡ comes n → m ≡ n
  comes-once p = cc

  goes-comes : {m n : Net} → goes m ≡ comes n → ⊥
  goes-comes p = let z : ◌≡◌ {A = ℕ} 0 1 = cc in omega arith

  nth-second : (ms : List Net) (k : ℕ) (n : Net) → NthEntry (map comes ms) k (comes n) → (j : ℕ) × (drop j ms ≡ n ∷ drop (suc j) ms)
  nth-second [] zero n q = absurd (omega (arith, ap length q))
  nth-second [] (suc k) n q = absurd (omega (arith, ap length q))
  nth-second (m ∷ ms) zero n q = let e : m ≡ n = comes-once (entry-head q) in (0, ap (λ (x : Net). x ∷ ms) e)
  nth-second (m ∷ ms) (suc k) n q = let i = nth-second ms k n q in (suc i.0, i.1)

  nth-comes : (ns ms : List Net) (k : ℕ) (n : Net) → NthEntry (map goes ns ++ map comes ms) k (comes n) → (j : ℕ) × (drop j ms ≡ n ∷ drop (suc j) ms)
  nth-comes [] ms k n q = nth-second ms k n q
  nth-comes (m ∷ ns) ms zero n q = absurd (goes-comes (entry-head q))
  nth-comes (m ∷ ns) ms (suc k) n q = nth-comes ns ms k n q

-- so it is a prefix, and its route is fine
pub comes-fine : (wd re : List ℕ) (hop : ℕ) → Bytes8 re → BothFields wd re → HopOk hop → (k : ℕ) (n : Net) → NthEntry (all_entries wd re) k (comes n)
    → Fine (route n.addr n.len hop 0)
comes-fine wd re hop b f h k n q =
    let i = nth-comes (entries wd) (entries re) k n q in
    let p = field-prefix (told-field re (field_told f.come.1).0) b i.0 n i.1 in
    record { prefix = p; hop_one = h.one; hop_ok = h.most; mark_ok = omega arith }
