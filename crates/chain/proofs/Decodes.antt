-- Words are their records, and the words of a good list are good.
use mathlib.Core.Path.{◌≡◌, ap, ◌∙◌}
use mathlib.Core.Logic.{◌⊎◌, inl, inr}
use mathlib.Core.List.Memᴰ
use mathlib.Core.List.{List, [], ◌∷◌, Memᴰ}
use Prim.Native.Nat.{ℕ, suc, ◌+◌, ◌-◌, ◌<◌, ◌≤◌, suc-le-suc}
use native.Mathlib.Nat.{add-suc}
use native.Mathlib.Decide.{dec_lt}
use native.Mathlib.Omega.{arith}
use lib.ListN.{length, get_or, set, take, drop, length-map, get_or-map}
use lib.Seq.{get_or-set_same, get_or-set_other, get_or-take, get_or-drop}
use borrow.Rule.Slice.PartMut.{mid_len}
use Rattle.bits.proofs.Tabs.{length-tabulate, get_d_tabulate, is-tabulate}
use Rattle.routes.specs.Route.{key, Good}
use Rattle.routes.specs.Record.{record_at, routes_of, no_route, Ranged, Records}
use Rattle.routes.specs.declared.Route.{Route}
use Rattle.routes.proofs.Rows.{fine-ranged}
use Rattle.bits.specs.Bytes.{above2, byte}
use Rattle.chain.specs.Words.{word_at, words_of, addr_of, len_of, hop_of, route_of_word, key_in, routes_of_words, Words}

-- the first k of a list are those of f
abbrev pub FilledTo : (ℕ → ℕ) → List ℕ → ℕ → Type 0
FilledTo f l k = (j : ℕ) → j < k → get_or l j 0 ≡ f j

pub filled-to-more : (f : ℕ → ℕ) (l : List ℕ) (k v : ℕ) → k < length l → v ≡ f k → FilledTo f l k → FilledTo f (set l k v) (k + 1)
filled-to-more f l k v u e h j i = go (dec_lt j k)
  where
    go : Dec (j < k) → get_or (set l k v) j 0 ≡ f j
    go (yes d) = get_or-set_other l k j v 0 (λ q. omega arith) ∙ h j d
    go (no d) = let q : j ≡ k = omega arith in rw q (get_or-set_same l k v 0 u ∙ e)

pub filled-all : (s l : List ℕ) (k n : ℕ) → length l ≡ n → n ≤ k → FilledTo (word_at s) l k → l ≡ words_of s n
unfolding words_of
filled-all s l k n e u h = is-tabulate 0 l n (word_at s) e (λ j i. h j (omega arith))

-- a word is its record, where the record's numbers have the room of a record
pub word-route : (s : List ℕ) (k : ℕ) → Ranged (record_at s k) → route_of_word (word_at s k) ≡ record_at s k
unfolding word_at record_at
word-route s k f =
    let l = f.len_fits in
    let m = f.mark_fits in
    let h = f.hop_fits in
    let w = word_at s k in
    let r = record_at s k in
    let ea : addr_of w ≡ r.addr = omega arith in
    let el : len_of w ≡ r.len = omega arith in
    let em : byte (above2 w) ≡ r.mark = omega arith in
    let eh : hop_of w ≡ r.hop = omega arith in
    rw (ea, el, em, eh)

module _ (s : List ℕ) (n : ℕ) (good : Records s n) where
  at-word : (k : ℕ) → k < n → route_of_word (get_or (words_of s n) k 0) ≡ record_at s k
  unfolding words_of
  at-word k l = rw (get_d_tabulate {A = ℕ} n (word_at s) k 0 l) (word-route s k (fine-ranged _ (good.each k l)))

  long-words : length (words_of s n) ≡ n
  unfolding words_of
  long-words = length-tabulate n (word_at s)

  -- the routes of the words are those of the records
  pub words-routes : routes_of_words (words_of s n) ≡ routes_of s n
  unfolding routes_of
  words-routes =
      is-tabulate no_route (routes_of_words (words_of s n)) n (record_at s) (rw length-map long-words)
      (λ k l. rw (get_or-map route_of_word (words_of s n) k 0) (at-word k l))

  pub records-words : Words (words_of s n)
  records-words = record {
    fine = λ k u. let l : k < n = rw long-words at u in rw (at-word k l) (good.each k l);
    rises = λ k u.
        let l : suc k < n = rw long-words at u in
        let i : k < n = omega arith in
        omega (arith, good.rises k (suc k) (omega arith) l, ap key (at-word k i), ap key (at-word (suc k) l));
  }

-- the words after the first
tail-words : (w : ℕ) (ws : List ℕ) → Words (w ∷ ws) → Words ws
tail-words w ws good = record { fine = λ k u. good.fine (suc k) (suc-le-suc u); rises = λ k u. good.rises (suc k) (suc-le-suc u) }

-- each route of good words is past what is before the first
past_first : (ws : List ℕ) → Words ws → (b : ℕ) → (0 < length ws → b < key_in (get_or ws 0 0)) → (s : Route) → Memᴰ s (routes_of_words ws) → b < key s
past_first [] good b h s m = absurd (Memᴰ.not-nil m)
past_first (w ∷ ws) good b h s m = go (Memᴰ.cases_cons m)
    (past_first ws (tail-words w ws good) b (λ l. omega (arith, h (omega arith), good.rises 0 (suc-le-suc l))) s)
  where
    go : (s ≡ route_of_word w) ⊎ Memᴰ s (routes_of_words ws) → (Memᴰ s (routes_of_words ws) → b < key s) → b < key s
    go (inl q) ih = omega (arith, ap key q, h (omega arith))
    go (inr k) ih = ih k

-- good words are of a good list
pub words-good : (ws : List ℕ) → Words ws → Good (routes_of_words ws)
unfolding Good
words-good [] good = tt
words-good (w ∷ ws) good = (
  good.fine 0 (omega arith),
  past_first ws (tail-words w ws good) (key (route_of_word w)) (λ l. omega (arith, good.rises 0 (suc-le-suc l))),
  words-good ws (tail-words w ws good),
)

-- a part of good words
pub words-part : (ws : List ℕ) (a e : ℕ) → e ≤ length ws → Words ws → Words (take (e - a) (drop a ws))
words-part ws a e le good = record {
  fine = λ k l. rw (at k (rw (mid_len a e ws le) at l)) (good.fine (a + k) (room k (rw (mid_len a e ws le) at l)));
  rises = λ k l.
      let m : suc k < e - a = rw (mid_len a e ws le) at l in
      let n : k < e - a = omega arith in
      rw (at k n, at (suc k) m, add-suc) (good.rises (a + k) (omega arith));
}
  where
    at : (k : ℕ) → k < e - a → get_or (take (e - a) (drop a ws)) k 0 ≡ get_or ws (a + k) 0
    at k l = rw (get_or-take (e - a) (drop a ws) k 0 l, get_or-drop)

    room : (k : ℕ) → k < e - a → a + k < length ws
    room k l = omega arith
