-- What the test of the counts goes through says that they are right, where the levels serve the routes. Said of any level: a live place that
-- is deep is that of a long word, one that is not deep holds a leaf, and one that is not live holds 0.
use mathlib.Core.Path.{◌≡◌, refl, sym, ◌∙◌, ap}
use mathlib.Core.Logic.{◌⊎◌, inl, inr}
use mathlib.Core.Bool.{Bool, true, false, not, true≢false}
use mathlib.Core.List.{List, [], ◌∷◌}
use Prim.Native.Nat.{ℕ, zero, suc, ◌^◌, ◌≤◌, ◌<◌, suc-le-suc}
use native.Mathlib.Omega.{arith}
use lib.Dec.{eqb, ltb}
use lib.ListN.{get_or, length, length-map, get_or-map}
use borrow.Author.Tests.{ltb-true, eqb-true, lt-ltb, eq-eqb, ne_eqb, le-leb, lt-leb}
use Rattle.bits.specs.Slot.{slot}
use Rattle.bits.specs.Tab.{Tells}
use Rattle.bits.proofs.Bools.{decided, both, and_split, or_split}
use Rattle.routes.specs.declared.Route.{Route}
use Rattle.standing.specs.Cells.{any, within, long}
use Rattle.counts.specs.Counts.{how_many}
use Rattle.counts.proofs.Many.{many-none}
use Rattle.chain.specs.Words.{route_of_word, routes_of_words, Words}
use Rattle.chain.specs.Cover.{addr_in}
use Rattle.bits.proofs.Tells.{tells-same, refuted, passed}
use Rattle.sail.specs.Geometry.{bits2}
use Rattle.sail.specs.Level.{Level, Chunks, deep, entry, chunks_of, level1, level2}
use Rattle.sail.specs.Sound.{Shows, Clear, Counted}
use Rattle.sail.specs.declared.geometry.Geometry.{Geometry}
use Rattle.sail_theory.proofs.places.Places.{Apart, top_apart, below_apart}
use Rattle.sail_theory.proofs.places.Pools.{shows-fits}
use Rattle.sail_theory.proofs.places.Rendered.{top-clear}
use Rattle.standing.proofs.TwoLevels.{long-down, slot-down}
use Rattle.sail_counts.specs.Counted.{Counts}
use Rattle.sail_counts_test.specs.CountsTest.{idle, Idle, len_in, cell_in, Tallied, Led, Countable, DeepCounts, root_cell}
use Rattle.sail_counts.proofs.Loads.{long-at}
use Rattle.sail_counts_test.proofs.Above.{NamedAbove, first-leads, second-leads}

-- a word makes its cells long, and a long cell has one
word-long : (ws : List ℕ) (p i k : ℕ) → k < length ws → within p i (route_of_word (get_or ws k 0)) ≡ true → long (routes_of_words ws) p i ≡ true
word-long ws p i k l e = long-at (routes_of_words ws) p i k (rw length-map l) (rw (get_or-map route_of_word ws k 0) e)

record Word (ws : List ℕ) (p i : ℕ) : Type 0 where
  k : ℕ
  inside : k < length ws
  lies : within p i (route_of_word (get_or ws k 0)) ≡ true

long-word : (ws : List ℕ) (p i : ℕ) → long (routes_of_words ws) p i ≡ true → Word ws p i
unfolding any
long-word [] p i e = absurd (true≢false (sym e))
long-word (w ∷ ws) p i e = go (or_split (within p i (route_of_word w)) (long (routes_of_words ws) p i) e) (long-word ws p i)
  where
    go : (within p i (route_of_word w) ≡ true) ⊎ (long (routes_of_words ws) p i ≡ true) → (long (routes_of_words ws) p i ≡ true → Word ws p i) → Word (w ∷ ws) p i
    go (inl y) ih = record { k = zero; inside = omega arith; lies = y }
    go (inr y) ih = let x = ih y in record { k = suc x.k; inside = suc-le-suc x.inside; lies = x.lies }

-- a cell that names a chunk is not idle; one of a free chunk, and a leaf, are
pub busy : (x m : ℕ) → 1 ≤ x → x ≤ m → m < 32768 → idle x ≡ false
unfolding idle
busy x m a b c = rw (ne_eqb x 0 (λ z. omega arith), lt-leb 32768 x (omega arith))

pub idle-free : (x : ℕ) → x ≡ 0 → idle x ≡ true
unfolding idle
idle-free x e = rw (eq-eqb x 0 e)

pub idle-leaf : (x : ℕ) → 32768 ≤ x → idle x ≡ true
unfolding idle
idle-leaf x h = rw (ne_eqb x 0 (λ z. omega arith), le-leb 32768 x h)

-- What the test of a level's counts rests on: the words of its routes, cells that are right, and cells above them that lead to its places.
pub record Fair (ws : List ℕ) (v : Level) (k : Chunks) (cells : List ℕ) (d : ℕ) (above : List ℕ) : Type 0 where
  pub words : Words ws
  pub shows : Shows (routes_of_words ws) v k (entry cells)
  pub few : k.many < 32768
  pub apart : Apart v
  pub size : length cells ≡ v.places
  pub leads : (a : ℕ) → a < 2 ^ 32 → long (routes_of_words ws) v.bits (slot v.bits a) ≡ true → NamedAbove v d above a

module _ (ws : List ℕ) (v : Level) (k : Chunks) (cells : List ℕ) (d : ℕ) (above counts : List ℕ) (f : Fair ws v k cells d above) where
  abbrev rs : List Route
  rs = routes_of_words ws

  abbrev p : ℕ
  p = v.bits

  -- the place of a long word
  word-leads : (j : ℕ) → j < length ws → p < len_in ws j → NamedAbove v d above (addr_in ws j)
  word-leads j l n =
      f.leads (addr_in ws j) (f.words.fine j l).prefix.addr_ok
      (word-long ws p (cell_in ws p j) j l (both (lt-ltb p (len_in ws j) n) (eq-eqb (cell_in ws p j) (cell_in ws p j) refl)))

  pub level-led : p ≤ 32 → d ≤ 16 → length counts ≡ v.places → Led ws p d above counts
  level-led level small many = record {
    words = f.words;
    level = level;
    small = small;
    there = λ j l n. (word-leads j l n).there;
    some = λ j l n. (word-leads j l n).some;
    inside = λ j l n. let w = word-leads j l n in rw (w.is, many) w.served.inside;
  }

  -- a place from which a chunk hangs is that of a long word
  pub level-deep : Tallied ws p d above counts → (q : ℕ) → q < v.places → v.live q ≡ true → deep rs v q ≡ true → get_or counts q 0 ≡ how_many rs p (v.at q)
  level-deep t q l e y =
      let w = long-word ws p (v.at q) y in
      let s = and_split (ltb p (len_in ws w.k)) (eqb (cell_in ws p w.k) (v.at q)) w.lies in
      let n = ltb-true p (len_in ws w.k) s.0 in
      let cell = eqb-true (cell_in ws p w.k) (v.at q) s.1 in
      let x = word-leads w.k w.inside n in
      let here = f.apart (v.serving (addr_in ws w.k)) q x.served.inside l x.served.used e (x.served.stands ∙ cell) in
      ap (λ (z : ℕ). get_or counts z 0) (sym here ∙ sym x.is) ∙ (t.each w.k w.inside n).count ∙ ap (how_many rs p) cell

  -- Where these are true, and what names no chunk counts 0, every live place is; and the others are 0 where their cells are.
  pub level-true : Idle cells counts → ((q : ℕ) → q < v.places → v.live q ≡ true → deep rs v q ≡ true → get_or counts q 0 ≡ how_many rs p (v.at q))
      → (q : ℕ) → q < v.places → v.live q ≡ true → get_or counts q 0 ≡ how_many rs p (v.at q)
  level-true i t q l e = go (decided (deep rs v q))
    where
      go : (deep rs v q ≡ true) ⊎ (deep rs v q ≡ false) → get_or counts q 0 ≡ how_many rs p (v.at q)
      go (inl y) = t q l e y
      go (inr n) =
          let x = f.shows.leaf q l e n in
          i.each q (rw f.size l) (idle-leaf (get_or cells q 0) (omega arith)) ∙ sym (many-none rs p (v.at q) n)

  pub level-exact : Clear v (entry cells) → Idle cells counts
      → ((q : ℕ) → q < v.places → v.live q ≡ true → deep rs v q ≡ true → get_or counts q 0 ≡ how_many rs p (v.at q)) → Counted rs v counts
  level-exact clear i t = record {
    true_there = level-true i t;
    blank = λ q l e. i.each q (rw f.size l) (idle-free (get_or cells q 0) (clear.blank q l e));
  }

  pub exact-idle : Counted rs v counts → Idle cells counts
  exact-idle c = record { each = λ q l e. at q (rw f.size at l) e (decided (v.live q)) (decided (deep rs v q)) }
    where
      at : (q : ℕ) → q < v.places → idle (get_or cells q 0) ≡ true → (v.live q ≡ true) ⊎ (v.live q ≡ false) → (deep rs v q ≡ true) ⊎ (deep rs v q ≡ false)
          → get_or counts q 0 ≡ 0
      at q l e (inr u) y = c.blank q l u
      at q l e (inl u) (inr n) = c.true_there q l u ∙ many-none rs p (v.at q) n
      at q l e (inl u) (inl y) =
          let n = f.shows.node q l u y in
          absurd (true≢false (sym e ∙ busy (get_or cells q 0) k.many n.one n.last f.few))

  pub exact-runs : ((q : ℕ) → q < v.places → v.live q ≡ true → deep rs v q ≡ true → get_or counts q 0 ≡ how_many rs p (v.at q)) → Tallied ws p d above counts
  exact-runs c = record {
    each = λ j l n.
        let w = word-leads j l n in
        let long = word-long ws p (cell_in ws p j) j l (both (lt-ltb p (len_in ws j) n) (eq-eqb (cell_in ws p j) (cell_in ws p j) refl)) in
        record {
          count = rw w.is (c (v.serving (addr_in ws j)) w.served.inside w.served.used (rw w.served.stands long) ∙ ap (how_many rs p) w.served.stands);
        };
  }

-- both levels, and the answers of `counts_ok`
module _ (ws : List ℕ) (g : Geometry) (first second own2 own3 long1 long2 : List ℕ) (w : Countable ws g first second own2 own3 long1 long2) where
  abbrev v1 : Level
  v1 = level1 g

  abbrev v2 : Level
  v2 = level2 g (chunks_of own2)

  fair1 : Fair ws v1 (chunks_of own2) first g.p1 root_cell
  fair1 = record {
    words = w.words;
    shows = w.shows1;
    few = omega (arith, w.few2);
    apart = top_apart g.p1;
    size = w.cells1;
    leads = λ a s e. let z = w.valid in first-leads g.p1 a (omega arith) s;
  }

  fair2 : Fair ws v2 (chunks_of own3) second (bits2 g) first
  fair2 = record {
    words = w.words;
    shows = w.shows2;
    few = omega (arith, w.few3);
    apart = below_apart (routes_of_words ws) v1 (chunks_of own2) g.p2 (shows-fits (routes_of_words ws) v1 (chunks_of own2) (entry first) w.shows1)
        (top_apart g.p1);
    size = w.cells2;
    leads = λ a s e.
        let z = w.valid in
        let up = long-down (routes_of_words ws) g.p1 g.p2 (slot g.p2 a) (omega arith) (omega arith) e in
        second-leads g z (routes_of_words ws) first own2 w.cells1 w.shows1 a s (rw (← slot-down g.p1 g.p2 a (omega arith) (omega arith)) at up);
  }

  pub led1 : Led ws g.p1 g.p1 root_cell long1
  led1 = let z = w.valid in level-led ws v1 (chunks_of own2) first g.p1 root_cell long1 fair1 (omega arith) (omega arith) (w.counts1 ∙ w.cells1)

  pub led2 : Led ws g.p2 (bits2 g) first long2
  led2 = let z = w.valid in level-led ws v2 (chunks_of own3) second (bits2 g) first long2 fair2 (omega arith) (omega arith) (w.counts2 ∙ w.cells2)

  abbrev Deep : Type 0
  Deep = DeepCounts (routes_of_words ws) g own2 long1 long2

  -- the answers of `deep_counts_ok`
  module _ (a : Bool) (idle1 : Tells a (Idle first long1)) where
    pub first_stray : not a ≡ true → Tells false Deep
    first_stray e = refuted idle1 e (λ c. exact-idle ws v1 (chunks_of own2) first g.p1 root_cell long1 fair1 c.first)

    module _ (r : Bool) (runs1 : Tells r (Tallied ws g.p1 g.p1 root_cell long1)) where
      pub first-wrong : not r ≡ true → Tells false Deep
      first-wrong e = refuted runs1 e (λ c. exact-runs ws v1 (chunks_of own2) first g.p1 root_cell long1 fair1 (λ q l u _. c.first.true_there q l u))

      pub deep-told : not a ≡ false → not r ≡ false → (t : Bool) → Tells t (Tallied ws g.p2 (bits2 g) first long2) → Tells t Deep
      deep-told x z t = tells-same
          (λ runs2. record {
            first = level-exact ws v1 (chunks_of own2) first g.p1 root_cell long1 fair1 (top-clear g.p1 (entry first)) (passed idle1 x)
                (level-deep ws v1 (chunks_of own2) first g.p1 root_cell long1 fair1 (passed runs1 z));
            deep2 = level-deep ws v2 (chunks_of own3) second (bits2 g) first long2 fair2 runs2;
          })
          (λ c. exact-runs ws v2 (chunks_of own3) second (bits2 g) first long2 fair2 c.deep2)

  -- and those of `counts_ok`, where the cells of free chunks are 0
  module _ (clear : Clear v2 (entry second)) where
    abbrev Whole : Type 0
    Whole = Counts (routes_of_words ws) g own2 long1 long2

    pub counts-fail : (a : Bool) → Tells a Deep → not a ≡ true → Tells false Whole
    counts-fail a told e = refuted told e (λ c. record { first = c.first; deep2 = λ q l u _. c.second.true_there q l u })

    pub counts-told : (a : Bool) → Tells a Deep → not a ≡ false → (t : Bool) → Tells t (Idle second long2) → Tells t Whole
    counts-told a told x t = tells-same
        (λ i.
        let d = passed told x in
        record { first = d.first; second = level-exact ws v2 (chunks_of own3) second (bits2 g) first long2 fair2 clear i d.deep2 })
        (λ c. exact-idle ws v2 (chunks_of own3) second (bits2 g) first long2 fair2 c.second)
