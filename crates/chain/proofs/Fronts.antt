-- The words of a list with their chain: made from nothing, and gone on with where the first of them stand at the front of longer room, as callers
-- lend it. A list that changes from record k on leaves the words before k and their parents, since a parent stands before its word.
use mathlib.Core.Path.{◌≡◌, refl, sym, ap, ◌∙◌}
use mathlib.Core.List.{List, ◌++◌}
use Prim.Native.Nat.{ℕ, ◌+◌, ◌*◌, ◌<◌, ◌≤◌}
use native.Mathlib.Nat.{not-suc-le-zero}
use native.Mathlib.Omega.{arith}
use lib.ListN.{length, get_or, take, drop}
use lib.Seq.{length-take-le, length_front, take_at, get_or-take}
use Rattle.bits.proofs.Tabs.{length-tabulate, get_d_tabulate}
use Rattle.routes.specs.Record.{record_at, Records}
use Rattle.routes.specs.declared.Route.{Route}
use Rattle.chain.specs.Words.{word_at, words_of, WordsBelow}
use Rattle.chain.specs.Cover.{ParentsBelow, WordsRoom, ChainReady}
use Rattle.chain.specs.List.{ChainRoom, Chained, Scratch, ChainedFront, ChainedBelow}
use Rattle.chain.proofs.Decodes.{words-routes, records-words}
use Rattle.chain.proofs.Chains.{no-parents, parents-same, parents-fewer}

long : (s : List ℕ) (n : ℕ) → length (words_of s n) ≡ n
unfolding words_of
long s n = length-tabulate n (word_at s)

word-at : (s : List ℕ) (n j : ℕ) → j < n → get_or (words_of s n) j 0 ≡ word_at s j
unfolding words_of
word-at s n j l = get_d_tabulate {A = ℕ} n (word_at s) j 0 l

-- a word is told by its record
same_word : (s z : List ℕ) (j : ℕ) → record_at z j ≡ record_at s j → word_at z j ≡ word_at s j
unfolding word_at record_at
same_word s z j e = ap (λ (r : Route). ((r.addr * 256 + r.len) * 256 + r.mark) * 65536 + r.hop) e

-- the words of good records
module _ (s : List ℕ) (n : ℕ) (good : Records s n) (par : List ℕ) where
  words_room : length par ≡ 4353 → WordsRoom (words_of s n) par
  words_room e = record { words = records-words s n good; few = omega (arith, long s n, good.few); room = e }

  words-chained : ChainReady (words_of s n) par → Chained s n (words_of s n) par
  words-chained k = record { words = refl; routes = words-routes s n good; ready = k }

-- made from nothing
module _ (s ws par : List ℕ) (r : ChainRoom s ws par) where
  pub none-decoded : WordsBelow s 0 ws
  none-decoded = record { fits = r.records.room; place = omega arith; each = λ j l. absurd (not-suc-le-zero l) }

  module _ (words : List ℕ) (are : words ≡ words_of s (length ws)) where
    pub all-ready : WordsRoom words par × ParentsBelow words par 0
    all-ready = (rw are (words_room s (length ws) r.records par r.room), record { place = omega arith; parents = no-parents words par })

    pub all-chained : (chain : List ℕ) → ChainReady words chain → Chained s (length ws) words chain
    all-chained chain k = rw are (words-chained s (length ws) r.records chain (rw are at k))

-- gone on with from record k
module _ (s : List ℕ) (n k : ℕ) (ws par : List ℕ) (b : ChainedBelow s n k ws par) where
  pub below_in : n ≤ length ws
  below_in = omega (arith, b.records.few, b.room.words)

  pub below-count : n ≡ length (take n ws)
  below-count = sym (length-take-le n ws below_in)

  pub below-decoded : WordsBelow s k (take n ws)
  below-decoded = record {
    fits = omega (arith, below-count, b.records.room);
    place = omega (arith, below-count, b.place);
    each = λ j l. get_or-take n ws j 0 (omega (arith, b.place)) ∙ b.words j l;
  }

  -- the words are decoded
  module _ (words : List ℕ) (are : words ≡ words_of s (length (take n ws))) where
    abbrev left : List ℕ
    left = words ++ drop n ws

    are_all : words ≡ words_of s n
    are_all = are ∙ ap (words_of s) (sym below-count)

    long-left : length left ≡ length ws
    long-left = length_front ws words n (ap length are_all ∙ long s n ∙ below-count)

    pub left_in : n ≤ length left
    left_in = omega (arith, long-left, below_in)

    pub left-count : n ≡ length (take n left)
    left-count = sym (length-take-le n left left_in)

    front : take n left ≡ words_of s n
    front = take_at words (drop n ws) n (ap length are_all ∙ long s n) ∙ are_all

    pub left-ready : WordsRoom (take n left) par × ParentsBelow (take n left) par k
    left-ready = rw front (
      words_room s n b.records par b.room.chain,
      record {
        place = omega (arith, long s n, b.place);
        parents = parents-same ws par (words_of s n) k (λ j l. word-at s n j (omega (arith, b.place)) ∙ sym (b.words j l)) b.parents;
      },
    )

    pub left-chained : (chain : List ℕ) → length chain ≡ length par → ChainReady (take n left) chain → ChainedFront s n left chain
    left-chained chain e r = record {
      room = record { words = long-left ∙ b.room.words; chain = e ∙ b.room.chain };
      chained = rw front (words-chained s n b.records chain (rw front at r));
    }

-- where nothing stands yet
pub below_none : (s : List ℕ) (n : ℕ) (ws par : List ℕ) → Records s n → Scratch ws par → ChainedBelow s n 0 ws par
below_none s n ws par good room = record {
  records = good;
  place = omega arith;
  room = room;
  words = λ j l. absurd (not-suc-le-zero l);
  parents = no-parents ws par;
}

-- what stands at the front
module _ {s : List ℕ} {n : ℕ} {ws par : List ℕ} (f : ChainedFront s n ws par) where
  front_long : length (take n ws) ≡ n
  front_long = ap length f.chained.words ∙ long s n

  pub front-count : n ≡ length (take n ws)
  front-count = sym front_long

  pub front-in : n ≤ length ws
  front-in = omega (arith, front_long, f.chained.ready.few, f.room.words)

  -- a list that has changed from record k on
  pub front_below : {z : List ℕ} {m k : ℕ} → Records z m → k ≤ n → k ≤ m → ((j : ℕ) → j < k → record_at z j ≡ record_at s j) → ChainedBelow z m k ws par
  front_below {z} {m} {k} good u v same =
      let at : (j : ℕ) → j < k → get_or (take n ws) j 0 ≡ get_or ws j 0 = λ j l. get_or-take n ws j 0 (omega arith) in
      record {
        records = good;
        place = v;
        room = f.room;
        words = λ j l.
            sym (at j l) ∙ ap (λ (x : List ℕ). get_or x j 0) f.chained.words ∙ word-at s n j (omega arith) ∙ sym (same_word s z j (same j l));
        parents = parents-same (take n ws) par ws k (λ j l. sym (at j l)) (parents-fewer (take n ws) par (length (take n ws)) k
            (omega (arith, front_long)) f.chained.ready.parents);
      }
