-- What a change of one prefix leaves as it was: the cells that serve no address under it, and so the hop of every address outside it. What is refused
-- alters nothing; what is accepted is a list that is the same but for the prefix.
use mathlib.Core.Path.{◌≡◌, refl, sym, ◌∙◌, ap}
use mathlib.Core.Logic.{⊎_elim, ◌≢◌}
use mathlib.Core.Bool.{true, false}
use mathlib.Core.List.{List}
use Prim.Native.Nat.{ℕ, ◌/◌, ◌^◌, ◌<◌}
use native.Mathlib.Omega.{arith}
use Rattle.bits.specs.Slot.{slot, cut}
use Rattle.bits.proofs.Bools.{decided}
use Rattle.standing.specs.Cells.{best}
use Rattle.routes.specs.Said.{Said, accepts}
use Rattle.routes.specs.declared.Route.{Route}
use Rattle.standing.specs.Served.{hop_said, uncounted}
use Rattle.standing.proofs.Served.{hop-alone}
use Rattle.standing.proofs.Frame.{SameBut, frame-best}
use Rattle.standing.proofs.Standing.{insert-but, remove-but}
use Rattle.sail.specs.Lent.{Lent}
use Rattle.sail.specs.Sound.{Sound, standing, cells_read}
use Rattle.sail.specs.Walk.{lookup_said}
use Rattle.sail.specs.declared.geometry.Geometry.{Geometry}
use Rattle.sail.specs.declared.table.Table.{Table}
use Rattle.sail.proofs.Sounds.{standing-good, sail-serves}
use Rattle.sail_theory.specs.Alters.{Alters}
use Rattle.sail_theory.specs.Calls.{Out, cut_route, announced, withdrawn}
use Rattle.sail_theory.specs.Facts.{TableHolds}
use Rattle.sail_theory.proofs.calls.Cleared.{announce-welcome, announce-refused, announce-holds, announce-alters}
use Rattle.sail_theory.proofs.calls.Cleared.{withdraw-farewell, withdraw-refused, withdraw-holds, withdraw-alters}

-- what serves x, by its hop, as it was
abbrev HopBy : Table → Lent → ℕ → Table → Lent → Type 0
HopBy t l x u v = uncounted (lookup_said u v x) ≡ uncounted (lookup_said t l x)

module _ (t : Table) (l : Lent) (a len x : ℕ) (small : x < 2 ^ 32) (off : slot len x ≢ slot len a) where
  same-best : (rs rs' : List Route) → SameBut a len rs rs' → best rs 32 x ≡ best rs' 32 x
  same-best rs rs' b = frame-best a len rs rs' b 32 x (λ k e c. off (ap (λ (n : ℕ). x / 2 ^ n) (omega arith) ∙ c))

  changed : Sound t l → (rs : List Route) (u : Table) (v : Lent) → TableHolds t l rs u v → SameBut a len (standing t l) rs → HopBy t l x u v
  changed s rs u v h b =
      ap uncounted (sail-serves u v h.sound x small)
      ∙ hop-alone _ (cells_read t.geometry (standing t l) x) (best (standing u v) 32 x)
      ∙ ap (λ (n : ℕ). uncounted (hop_said (cells_read t.geometry (standing t l) x) n))
      (ap (λ (r : List Route). best r 32 x) h.routes ∙ sym (same-best (standing t l) rs b))
      ∙ ap uncounted (sym (sail-serves t l s x small))

-- where it is refused, nothing changes
same : (t : Table) (l : Lent) (x : ℕ) (o : Out) (s : Said) → o ≡ record { said = s; table = t; lent = l } → HopBy t l x o.table o.lent
same t l x o s e = ap (λ (o : Out). uncounted (lookup_said o.table o.lent x)) e

-- the prefix is the cleared one
pub announce-elsewhere : (t : Table) (l : Lent) (r : Route) (x : ℕ) → x < 2 ^ 32 → slot r.len x ≢ slot r.len (cut r.len r.addr)
    → HopBy t l x (announced t l r).table (announced t l r).lent
announce-elsewhere t l r x small off =
    ⊎_elim
    (λ (e : accepts (announced t l r).said ≡ true).
    let w = announce-welcome t l r e in
    let but = insert-but (cut_route r) (standing t l) w.fine (standing-good t l w.sound) in
    changed t l _ r.len x small off w.sound _ _ _ (announce-holds t l r e) but)
    (λ (e : accepts (announced t l r).said ≡ false). same t l x _ _ (announce-refused t l r e))
    (decided (accepts (announced t l r).said))

pub withdraw-elsewhere : (t : Table) (l : Lent) (a len x : ℕ) → x < 2 ^ 32 → slot len x ≢ slot len (cut len a)
    → HopBy t l x (withdrawn t l a len).table (withdrawn t l a len).lent
withdraw-elsewhere t l a len x small off =
    ⊎_elim
    (λ (e : accepts (withdrawn t l a len).said ≡ true).
    let w = withdraw-farewell t l a len e in
    let but = remove-but (cut len a) len (standing t l) w.prefix.len_ok (standing-good t l w.sound) in
    changed t l (cut len a) len x small off w.sound _ _ _ (withdraw-holds t l a len e) but)
    (λ (e : accepts (withdrawn t l a len).said ≡ false). same t l x _ _ (withdraw-refused t l a len e))
    (decided (accepts (withdrawn t l a len).said))

-- the cells, in any state
alters-none : (g : Geometry) (a len : ℕ) (l u : Lent) → u ≡ l → Alters g a len l u
alters-none g a len l u e = rw e (record { first = λ q h n. refl; second = λ q h n o. refl; third = λ q h n o. refl })

pub announce-frame : (t : Table) (l : Lent) (r : Route) → Alters t.geometry (cut r.len r.addr) r.len l (announced t l r).lent
announce-frame t l r =
    ⊎_elim (announce-alters t l r)
    (λ (e : accepts (announced t l r).said ≡ false).
    alters-none t.geometry (cut r.len r.addr) r.len l _ (ap (λ (o : Out). o.lent) (announce-refused t l r e)))
    (decided (accepts (announced t l r).said))

pub withdraw-frame : (t : Table) (l : Lent) (a len : ℕ) → Alters t.geometry (cut len a) len l (withdrawn t l a len).lent
withdraw-frame t l a len =
    ⊎_elim (withdraw-alters t l a len)
    (λ (e : accepts (withdrawn t l a len).said ≡ false).
    alters-none t.geometry (cut len a) len l _ (ap (λ (o : Out). o.lent) (withdraw-refused t l a len e)))
    (decided (accepts (withdrawn t l a len).said))
