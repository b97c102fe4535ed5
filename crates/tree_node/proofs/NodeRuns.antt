-- Runs of good records: what stands, the hop of a prefix, and the run of a child.
use mathlib.Core.Path.{◌≡◌, refl, sym, ◌∙◌, ap, subst}
use mathlib.Core.Logic.{◌⊎◌, inl, inr}
use mathlib.Core.Bool.{true, false, true≢false}
use mathlib.Core.List.{List}
use Prim.Native.Nat.{ℕ, ◌+◌, ◌-◌, ◌*◌, ◌/◌, ◌^◌, ◌≤◌, ◌<◌}
use native.Mathlib.Nat.{eq-or-lt_of_le, le_antisymm, le_refl}
use native.Mathlib.Omega.{arith}
use lib.Pow.{shr_mono}
use lib.ListN.{length}
use Rattle.bits.specs.Slot.{slot, cut}
use Rattle.bits.proofs.Slots.{cut-is, cut-le, cut-more}
use Rattle.bits.proofs.Bools.{below?}
use Rattle.routes.specs.Route.{Good}
use Rattle.standing.specs.Cells.{here}
use Rattle.routes.specs.Record.{record_at, Records, routes_in}
use Rattle.routes.proofs.Rows.{record-listed, listed-record, records-good}
use Rattle.tree_image.specs.Image.{through}
use Rattle.tree_image.proofs.Lies.{any-is, any-mem, found-any, hop-of, pass-parts, pass-make, up-pass, kid_of, kid_at}
use Rattle.tree_node.specs.NodeRuns.{stands_in, hop_in, path_at, through_at, ThroughRun, RunEnd}

module _ (s : List ℕ) (good : Records s (length s / 8)) where
  pub good-list : Good (routes_in s)
  good-list = records-good s (length s / 8) good

  -- a node stands where some record passes through it, and the hop of a prefix is that of its record
  pub stands_at : (m p k : ℕ) → k < length s / 8 → through_at s m p k ≡ true → stands_in s m p ≡ true
  stands_at m p k l t = any-mem (through m p) (routes_in s) (record_at s k) (record-listed s (length s / 8) k l) t

  pub stands_by : (m p : ℕ) → stands_in s m p ≡ true → (k : ℕ) × (k < length s / 8) × (through_at s m p k ≡ true)
  stands_by m p e =
      let f = any-is (through m p) (routes_in s) e in
      let k = listed-record s (length s / 8) f.0 f.1 in
      (k.0, k.1, ap (through m p) k.2 ∙ f.2)

  pub hop-at : (l q k : ℕ) → k < length s / 8 → here l q (record_at s k) ≡ true → hop_in s l q ≡ (record_at s k).hop
  hop-at l q k u e = hop-of l q (routes_in s) (record_at s k) good-list (record-listed s (length s / 8) k u) e

  pub hop-by : (l q : ℕ) → 0 < hop_in s l q → (k : ℕ) × (k < length s / 8) × (here l q (record_at s k) ≡ true)
  hop-by l q h =
      let f = any-is (here l q) (routes_in s) (found-any (here l q) (routes_in s) h) in
      let k = listed-record s (length s / 8) f.0 f.1 in
      (k.0, k.1, ap (here l q) k.2 ∙ f.2)

  pub short : (k : ℕ) → k < length s / 8 → (record_at s k).len ≤ 32
  short k l = (good.each k l).prefix.len_ok

  pub addr-rises : (i k : ℕ) → i < k → k < length s / 8 → (record_at s i).addr ≤ (record_at s k).addr
  addr-rises i k l u = omega (arith, good.rises i k l u, short i (omega arith), short k u)

  -- between two records of a node lie only records of the node
  pub convex : (m p i j k : ℕ) → i < j → j < k → k < length s / 8 → through_at s m p i ≡ true → through_at s m p k ≡ true → through_at s m p j ≡ true
  convex m p i j k a b l ei ek = go (below? (record_at s j).len (4 * m))
    where
      pi : (4 * m ≤ (record_at s i).len) × (slot (4 * m) (record_at s i).addr ≡ p)
      pi = pass-parts m p (record_at s i) ei

      pk : (4 * m ≤ (record_at s k).len) × (slot (4 * m) (record_at s k).addr ≡ p)
      pk = pass-parts m p (record_at s k) ek

      same : slot (4 * m) (record_at s j).addr ≡ p
      same =
          le_antisymm
          (subst (λ (x : ℕ). slot (4 * m) (record_at s j).addr ≤ x) pk.1 (shr_mono (32 - 4 * m) (addr-rises j k b l)))
          (subst (λ (x : ℕ). x ≤ slot (4 * m) (record_at s j).addr) pi.1 (shr_mono (32 - 4 * m) (addr-rises i j a (omega arith))))

      go : ((record_at s j).len < 4 * m) ⊎ (4 * m ≤ (record_at s j).len) → through_at s m p j ≡ true
      go (inr t) = pass-make m p (record_at s j) t same
      go (inl t) =
          let top : 4 * m ≤ 32 = omega (arith, pi.0, short i (omega arith)) in
          let clear : cut (4 * m) (record_at s j).addr ≡ (record_at s j).addr = cut-more (record_at s j).len (4 * m) (record_at s j).addr
          (omega arith) top (good.each j (omega arith)).prefix.clear in
          let equal : cut (4 * m) (record_at s j).addr ≡ cut (4 * m) (record_at s i).addr =
          cut-is (4 * m) (record_at s j).addr ∙ ap (λ (x : ℕ). x * 2 ^ (32 - 4 * m)) (same ∙ sym pi.1) ∙ sym (cut-is (4 * m) (record_at s i).addr) in
          absurd (omega (arith, clear, equal, cut-le (4 * m) (record_at s i).addr, good.rises i j a (omega arith), pi.0))

  -- the root's run is the whole list
  pub root-run : ThroughRun s 0 0 0 (length s / 8)
  root-run = record {
    first = omega arith;
    last = le_refl (length s / 8);
    inside = λ k a b. pass-make 0 0 (record_at s k) (omega arith) (omega (arith, (good.each k b).prefix.addr_ok));
    only = λ k l t. (omega arith, l);
  }

  -- the run of a child begins with its first record and ends where the search says
  module _ (m p a e x r : ℕ) (run : ThroughRun s m p a e) (low : a ≤ x) (high : x < e) (long : 4 * (m + 1) ≤ (record_at s x).len)
      (none : (y : ℕ) → a ≤ y → y < x → through_at s (m + 1) (path_at s (m + 1) x) y ≡ false) (end : RunEnd s (m + 1) x e r) where
    its-path : path_at s (m + 1) x ≡ p * 16 + kid_of m (record_at s x)
    its-path = (pass-parts (m + 1) (p * 16 + kid_of m (record_at s x)) (record_at s x)
        (kid_at m p (record_at s x) (short x (omega (arith, run.last))) (run.inside x low high) long)).1

    own : through_at s (m + 1) (path_at s (m + 1) x) x ≡ true
    own = pass-make (m + 1) (path_at s (m + 1) x) (record_at s x) long refl

    pub child-run : ThroughRun s (m + 1) (path_at s (m + 1) x) x r
    child-run = record {
      first = omega (arith, end.after);
      last = omega (arith, end.high, run.last);
      inside = λ k l u. inside k u (eq-or-lt_of_le l);
      only = λ k l t.
          let w = run.only k l (up-pass m p (kid_of m (record_at s x)) (record_at s k) (omega arith) (short k l)
          (subst (λ (y : ℕ). through_at s (m + 1) y k ≡ true) its-path t)) in
          (from k t w (below? k x), upto k l t w (below? k r));
    }
      where
        inside : (k : ℕ) → k < r → (x ≡ k) ⊎ (x < k) → through_at s (m + 1) (path_at s (m + 1) x) k ≡ true
        inside k u (inl q) = subst (λ (y : ℕ). through_at s (m + 1) (path_at s (m + 1) x) y ≡ true) q own
        inside k u (inr v) = end.all k v u

        from : (k : ℕ) → through_at s (m + 1) (path_at s (m + 1) x) k ≡ true → (a ≤ k) × (k < e) → (k < x) ⊎ (x ≤ k) → x ≤ k
        from k t w (inl o) = absurd (true≢false (sym t ∙ none k w.0 o))
        from k t w (inr o) = o

        upto : (k : ℕ) → k < length s / 8 → through_at s (m + 1) (path_at s (m + 1) x) k ≡ true → (a ≤ k) × (k < e) → (k < r) ⊎ (r ≤ k) → k < r
        upto k l t w (inl o) = o
        upto k l t w (inr o) = absurd (true≢false (sym (there (eq-or-lt_of_le o)) ∙ end.stop (omega (arith, w.1))))
          where
            there : (r ≡ k) ⊎ (r < k) → through_at s (m + 1) (path_at s (m + 1) x) r ≡ true
            there (inl q) = subst (λ (y : ℕ). through_at s (m + 1) (path_at s (m + 1) x) y ≡ true) (sym q) t
            there (inr v) = convex (m + 1) (path_at s (m + 1) x) x r k end.after v l own t
